-- Sheets of which one keeps the other, and sheets of which it does not: each clause of `Keeps` at work, on
-- sheets of a few rules of one selector and one declaration each.
use Rattle.std.proofs.Common.{◌↔◌, map, ◌≡◌, ◌≢◌, ◌⊎◌, ℕ, zero, suc, ◌≤◌, true, List, [], ◌∷◌, Some, None, refl, sym, ap, ap₂, ◌∙◌, subst, inl, inr, arith}
use Rattle.std.specs.Prelude.{slice_get}
use Rattle.std.specs.List.{Contains}
use Rattle.std.proofs.lemmas.Bool.{false≢true}
use Rattle.cascade_laws.proofs.Applying.{some-same, rule-same}
use Rattle.list_facts.proofs.Members.{Contains-here, Contains-nil, Contains-cons_cases}
use Rattle.css_model.specs.declared.sheet.Decl.{Decl}
use Rattle.css_model.specs.declared.sheet.DeclItem.{DeclItem}
use Rattle.css_model.specs.declared.sheet.Item.{Item}
use Rattle.css_model.specs.declared.sheet.Item.TheVariants.{Rule, KeptRule, KeptBlock}
use Rattle.css_model.specs.declared.sheet.Piece.{Piece}
use Rattle.css_model.specs.Cascade.Winner.{Place}
use Rattle.css_model.specs.Cascade.Family.{Related}
use Rattle.css_model.specs.Cascade.Winner.{IsLater}
use Rattle.css_model.specs.Sheets.KeptItems.{is_kept, kept_before}
use Rattle.css_model.specs.Cascade.Order.{Meet, Pair, IsPairAt, HasPair, IsLast, Weigh, WeighsKept, IsBefore, IsBeforeKept, Keeps}
use Rattle.css_model.specs.Sheets.KeptItems.{kept_items}
use Rattle.css_model.specs.Sheets.RuleParts.{RuleParts}
use Rattle.css_model.specs.Documents.SelectorParts.{SelectorParts}
use Rattle.css_model.specs.Sheets.StyleRule.{selectors_of}
use Rattle.css_model.specs.Sheets.Spelling.{Kept, content, kept_text}
use Rattle.css_model.specs.Sheets.Items.{items}
use Rattle.css_model.specs.Text.Kept.{kept}

-- ---- Any sheet keeps itself
pub keeps_itself : (source : List ℕ) (items : List Item) → Keeps source items source items
keeps_itself source items = record {
  pairs = λ p. (λ h. h, λ h. h);
  kept = refl;
  order = λ p q w m. (λ h. h, λ h. h);
  kept_order = λ p number item at w. (λ h. h, λ h. h);
}

-- ---- Keeping goes both ways, and on

-- kept items that say the same weigh with the same pairs
weighs_same : (source source' : List ℕ) (p : Pair) (k k' : Item) → content source k ≡ content source' k' → WeighsKept p k' → WeighsKept p k
weighs_same source source' p k (Rule r) e w = absurd w
weighs_same source source' p (Rule r) (KeptRule b) e w = absurd cc
weighs_same source source' p (KeptRule a) (KeptRule b) e w = (w.0, subst (λ ds. Contains ds w.0) (sym (decls_same e)) w.1, w.2)
  where
    decls_same : Kept (kept_text source a.piece) a.decls a.reason ≡ Kept (kept_text source' b.piece) b.decls b.reason → a.decls ≡ b.decls
    decls_same h = cc
weighs_same source source' p (KeptBlock piece) (KeptRule b) e w = tt
weighs_same source source' p (Rule r) (KeptBlock piece) e w = absurd cc
weighs_same source source' p (KeptRule a) (KeptBlock piece) e w = absurd cc
weighs_same source source' p (KeptBlock piece) (KeptBlock piece') e w = tt

-- what stands at a place of one list, where two lists say the same
pub there : (source source' : List ℕ) (xs ys : List Item) → map (content source) xs ≡ map (content source') ys → (n : ℕ) (y : Item) → slice_get ys n ≡ Some y → (x : Item) × (slice_get xs n ≡ Some x) × (content source x ≡ content source' y)
there source source' xs [] e n y at = absurd cc
there source source' [] (z ∷ ys) e n y at = absurd cc
there source source' (x ∷ xs) (z ∷ ys) e zero y at = (x, refl, first_same e ∙ ap (content source') (some-same at))
  where
    first_same : content source x ∷ map (content source) xs ≡ content source' z ∷ map (content source') ys → content source x ≡ content source' z
    first_same h = cc
there source source' (x ∷ xs) (z ∷ ys) e (suc n) y at = there source source' xs ys (rest_same e) n y at
  where
    rest_same : content source x ∷ map (content source) xs ≡ content source' z ∷ map (content source') ys → map (content source) xs ≡ map (content source') ys
    rest_same h = cc

turned_kept : (source source' : List ℕ) (items items' : List Item) → Keeps source items source' items' → (p : Pair) (number : ℕ) (item : Item) → slice_get (kept_items items') number ≡ Some item → WeighsKept p item →
    IsBeforeKept items p number ↔ IsBeforeKept items' p number
turned_kept source source' items items' k p number item at w =
    let other : (x : Item) × (slice_get (kept_items items) number ≡ Some x) × (content source x ≡ content source' item) = there source source' (kept_items items) (kept_items items') k.kept number item at in
    k.kept_order p number other.0 other.1 (weighs_same source source' p other.0 item other.2 w)

pub keeps_back : (source source' : List ℕ) (items items' : List Item) → Keeps source items source' items' → Keeps source' items' source items
keeps_back source source' items items' k = record {
  pairs = λ p. ((k.pairs p).1, (k.pairs p).0);
  kept = sym k.kept;
  order = λ p q w m. ((k.order p q w m).1, (k.order p q w m).0);
  kept_order = λ p number item at w. ((turned_kept source source' items items' k p number item at w).1, (turned_kept source source' items items' k p number item at w).0);
}

pub keeps_on : (source source' source'' : List ℕ) (items items' items'' : List Item) → Keeps source items source' items' → Keeps source' items' source'' items'' → Keeps source items source'' items''
keeps_on source source' source'' items items' items'' k l = record {
  pairs = λ p. (λ h. (l.pairs p).0 ((k.pairs p).0 h), λ h. (k.pairs p).1 ((l.pairs p).1 h));
  kept = k.kept ∙ l.kept;
  order = λ p q w m. (λ h. (l.order p q w m).0 ((k.order p q w m).0 h), λ h. (k.order p q w m).1 ((l.order p q w m).1 h));
  kept_order = λ p number item at w. (
    λ h. (further p number item at w).0 ((k.kept_order p number item at w).0 h),
    λ h. (k.kept_order p number item at w).1 ((further p number item at w).1 h),
  );
}
  where
    further : (p : Pair) (number : ℕ) (item : Item) → slice_get (kept_items items) number ≡ Some item → WeighsKept p item → IsBeforeKept items' p number ↔ IsBeforeKept items'' p number
    further p number item at w =
        let other : (x : Item) × (slice_get (kept_items items') number ≡ Some x) × (content source' x ≡ content source item) = there source' source (kept_items items') (kept_items items) (sym k.kept) number item at in
        l.kept_order p number other.0 other.1 (weighs_same source' source p other.0 item other.2 w)

-- ---- Where the pairs of small sheets stand

abbrev pub nowhere : Piece
nowhere = record { start = 0; end = 0 }

-- a rule of one selector and one declaration
abbrev pub one : SelectorParts → Decl → Item
one s d = Rule (record { selectors = (record { selector = s; piece = nowhere }) ∷ []; decls = (record { decl = d; name = nowhere; value = nowhere }) ∷ [] })

abbrev pub pair : SelectorParts → Decl → Pair
pair s d = record { selector = s; decl = d }

abbrev place : ℕ → ℕ → Place
place item position = record { item = item; position = position }

nowhere_in_none : (p : Pair) (at : Place) → IsPairAt [] p at → ⊥
nowhere_in_none p at h = let e : None ≡ Some (Rule h.rule) = h.rule_at in cc

-- at the first item, or among the others
abbrev Among : List Item → Pair → ℕ → ℕ → Type 0
Among items p n position = (m : ℕ) × (n ≡ suc m) × IsPairAt items p (place m position)

among : (item : Item) (items : List Item) (p : Pair) (m position : ℕ) → IsPairAt (item ∷ items) p (place (suc m) position) → IsPairAt items p (place m position)
among item items p m position h = record { rule = h.rule; decl = h.decl; rule_at = h.rule_at; selector_in = h.selector_in; decl_at = h.decl_at; decl_is = h.decl_is }

behind : (item : Item) (items : List Item) (p : Pair) (m position : ℕ) → IsPairAt items p (place m position) → IsPairAt (item ∷ items) p (place (suc m) position)
behind item items p m position h = record { rule = h.rule; decl = h.decl; rule_at = h.rule_at; selector_in = h.selector_in; decl_at = h.decl_at; decl_is = h.decl_is }

here : (s : SelectorParts) (d : Decl) (items : List Item) → IsPairAt (one s d ∷ items) (pair s d) (place 0 0)
here s d items = record {
  rule = record { selectors = (record { selector = s; piece = nowhere }) ∷ []; decls = (record { decl = d; name = nowhere; value = nowhere }) ∷ [] };
  decl = record { decl = d; name = nowhere; value = nowhere };
  rule_at = refl;
  selector_in = Contains-here s [];
  decl_at = refl;
  decl_is = refl;
}

same_pair : (p : Pair) (s : SelectorParts) (d : Decl) → s ≡ p.selector → d ≡ p.decl → p ≡ pair s d
same_pair p s d h g = ap₂ (λ (t : SelectorParts) (f : Decl). pair t f) (sym h) (sym g)

pub member_of_one : {X : Type 0} (s t : X) → Contains (s ∷ []) t → s ≡ t
member_of_one s t h = which (Contains-cons_cases s [] t h)
  where
    which : (s ≡ t) ⊎ Contains [] t → s ≡ t
    which (inl e) = e
    which (inr g) = absurd (Contains-nil t g)

-- the declaration at a position of a rule of one
at_position : (x y : DeclItem) (position : ℕ) → slice_get (x ∷ []) position ≡ Some y → (position ≡ 0) × (x ≡ y)
at_position x y zero e = (refl, some-same e)
at_position x y (suc position) e = absurd cc

in_one : (s : SelectorParts) (d : Decl) (items : List Item) (p : Pair) (n position : ℕ) → IsPairAt (one s d ∷ items) p (place n position) →
    ((n ≡ 0) × (position ≡ 0) × (p ≡ pair s d)) ⊎ Among items p n position
in_one s d items p (suc m) position h = inr (m, refl, among (one s d) items p m position h)
in_one s d items p zero position h =
    let x : DeclItem = record { decl = d; name = nowhere; value = nowhere } in
    let r : RuleParts = record { selectors = (record { selector = s; piece = nowhere }) ∷ []; decls = x ∷ [] } in
    let same : r ≡ h.rule = rule-same (some-same h.rule_at) in
    let selector : s ≡ p.selector = member_of_one s p.selector (subst (λ (q : RuleParts). Contains (selectors_of q) p.selector) (sym same) h.selector_in) in
    let decl : (position ≡ 0) × (x ≡ h.decl) = at_position x h.decl position (ap (λ (q : RuleParts). slice_get q.decls position) same ∙ h.decl_at) in
    inl (refl, decl.0, same_pair p s d selector (ap (λ (y : DeclItem). y.decl) decl.1 ∙ h.decl_is))

in_kept : (piece : Piece) (items : List Item) (p : Pair) (n position : ℕ) → IsPairAt (KeptBlock piece ∷ items) p (place n position) → Among items p n position
in_kept piece items p (suc m) position h = (m, refl, among (KeptBlock piece) items p m position h)
in_kept piece items p zero position h = absurd (let e : Some (KeptBlock piece) ≡ Some (Rule h.rule) = h.rule_at in cc)

-- of two rules of one selector and one declaration
InTwo : Pair → Pair → Pair → ℕ → ℕ → Type 0
InTwo a b p n position = (position ≡ 0) × (((n ≡ 0) × (p ≡ a)) ⊎ ((n ≡ 1) × (p ≡ b)))

in_two : (s t : SelectorParts) (d f : Decl) (p : Pair) (n position : ℕ) → IsPairAt (one s d ∷ one t f ∷ []) p (place n position) → InTwo (pair s d) (pair t f) p n position
unfolding InTwo
in_two s t d f p n position h = which (in_one s d (one t f ∷ []) p n position h)
  where
    last : (m : ℕ) → n ≡ suc m → ((m ≡ 0) × (position ≡ 0) × (p ≡ pair t f)) ⊎ Among [] p m position → (position ≡ 0) × (((n ≡ 0) × (p ≡ pair s d)) ⊎ ((n ≡ 1) × (p ≡ pair t f)))
    last m e (inl g) = (g.1, inr (omega (arith, e, g.0), g.2))
    last m e (inr g) = absurd (nowhere_in_none p (place g.0 position) g.2)

    which : ((n ≡ 0) × (position ≡ 0) × (p ≡ pair s d)) ⊎ Among (one t f ∷ []) p n position → (position ≡ 0) × (((n ≡ 0) × (p ≡ pair s d)) ⊎ ((n ≡ 1) × (p ≡ pair t f)))
    which (inl g) = (g.1, inl (g.0, g.2))
    which (inr g) = last g.0 g.1 (in_one t f [] p g.0 position g.2)

-- the first and the last of two are last where they are not the same
first_is_last : (s t : SelectorParts) (d f : Decl) → d ≢ f → IsLast (one s d ∷ one t f ∷ []) (pair s d) (place 0 0)
unfolding InTwo
first_is_last s t d f apart = record { stands = here s d (one t f ∷ []); last = λ other h. below other (in_two s t d f (pair s d) other.item other.position h) }
  where
    below : (other : Place) → InTwo (pair s d) (pair t f) (pair s d) other.item other.position → IsLater other (place 0 0) → ⊥
    below other (at, inl g) later = which later
      where
        which : IsLater other (place 0 0) → ⊥
        which (inl l) = absurd (omega arith)
        which (inr l) = absurd (omega arith)
    below other (at, inr g) later = apart (ap (λ (p : Pair). p.decl) g.1)

second_is_last : (s t : SelectorParts) (d f : Decl) → IsLast (one s d ∷ one t f ∷ []) (pair t f) (place 1 0)
unfolding InTwo
second_is_last s t d f = record { stands = behind (one s d) (one t f ∷ []) (pair t f) 0 0 (here t f []); last = λ other h. below other (in_two s t d f (pair t f) other.item other.position h) }
  where
    below : (other : Place) → InTwo (pair s d) (pair t f) (pair t f) other.item other.position → IsLater other (place 1 0) → ⊥
    below other (at, inl g) (inl l) = absurd (omega arith)
    below other (at, inl g) (inr l) = absurd (omega arith)
    below other (at, inr g) (inl l) = absurd (omega arith)
    below other (at, inr g) (inr l) = absurd (omega arith)

first_before_second : (s t : SelectorParts) (d f : Decl) → d ≢ f → IsBefore (one s d ∷ one t f ∷ []) (pair s d) (pair t f)
first_before_second s t d f apart = record { place = place 0 0; later = place 1 0; first = first_is_last s t d f apart; second = second_is_last s t d f; before = inl (omega arith) }

second_not_before_first : (s t : SelectorParts) (d f : Decl) → d ≢ f → IsBefore (one s d ∷ one t f ∷ []) (pair t f) (pair s d) → ⊥
unfolding InTwo
second_not_before_first s t d f apart h = which (in_two s t d f (pair t f) h.place.item h.place.position h.first.stands) (in_two s t d f (pair s d) h.later.item h.later.position h.second.stands) h.before
  where
    which : InTwo (pair s d) (pair t f) (pair t f) h.place.item h.place.position → InTwo (pair s d) (pair t f) (pair s d) h.later.item h.later.position → IsLater h.later h.place → ⊥
    which (i, inl g) other later = apart (sym (ap (λ (p : Pair). p.decl) g.1))
    which (i, inr g) (j, inr k) later = apart (ap (λ (p : Pair). p.decl) k.1)
    which (i, inr g) (j, inl k) (inl l) = absurd (omega arith)
    which (i, inr g) (j, inl k) (inr l) = absurd (omega arith)

-- ---- Two rules in the other order

-- what weighs and meets stays in its order: two such rules in the other order do not keep the sheet
pub other_order : (source source' : List ℕ) (s t : SelectorParts) (d f : Decl) → Weigh (pair s d) (pair t f) → Meet s t →
    Keeps source (one s d ∷ one t f ∷ []) source' (one t f ∷ one s d ∷ []) → ⊥
other_order source source' s t d f weigh meet keeps =
    second_not_before_first t s f d (λ e. weigh.different (sym e)) ((keeps.order (pair s d) (pair t f) weigh meet).0 (first_before_second s t d f weigh.different))

-- the pairs of two rules are the same in the other order
two_pairs : (s t : SelectorParts) (d f : Decl) (p : Pair) → HasPair (one s d ∷ one t f ∷ []) p → (p ≡ pair s d) ⊎ (p ≡ pair t f)
unfolding InTwo
two_pairs s t d f p h = which (in_two s t d f p h.0.item h.0.position h.1)
  where
    which : InTwo (pair s d) (pair t f) p h.0.item h.0.position → (p ≡ pair s d) ⊎ (p ≡ pair t f)
    which (at, inl g) = inl g.1
    which (at, inr g) = inr g.1

has_first : (s : SelectorParts) (d : Decl) (items : List Item) → HasPair (one s d ∷ items) (pair s d)
has_first s d items = (place 0 0, here s d items)

has_second : (s t : SelectorParts) (d f : Decl) (items : List Item) → HasPair (one s d ∷ one t f ∷ items) (pair t f)
has_second s t d f items = (place 1 0, behind (one s d) (one t f ∷ items) (pair t f) 0 0 (here t f items))

two_carried : (s t : SelectorParts) (d f : Decl) (p : Pair) → HasPair (one s d ∷ one t f ∷ []) p → HasPair (one t f ∷ one s d ∷ []) p
two_carried s t d f p h = which (two_pairs s t d f p h)
  where
    which : (p ≡ pair s d) ⊎ (p ≡ pair t f) → HasPair (one t f ∷ one s d ∷ []) p
    which (inl e) = subst (HasPair (one t f ∷ one s d ∷ [])) (sym e) (has_second t s f d [])
    which (inr e) = subst (HasPair (one t f ∷ one s d ∷ [])) (sym e) (has_first t f (one s d ∷ []))

-- weighing and meeting go both ways
pub weigh_back : (p q : Pair) → Weigh p q → Weigh q p
weigh_back p q w = record { different = λ e. w.different (sym e); names = turned w.names; importance = sym w.importance; specificity = sym w.specificity }
  where
    turned : Related p.decl.name q.decl.name → Related q.decl.name p.decl.name
    turned (inl h) = inr (inl h)
    turned (inr (inl h)) = inl h
    turned (inr (inr h)) = inr (inr (sym h))

pub meet_back : (x y : SelectorParts) → Meet x y → Meet y x
meet_back x y m = record { doc = m.doc; target = m.target; legal = m.legal; first = m.second; second = m.first }

-- no two pairs of these rules both weigh and meet
no_two : (s t : SelectorParts) (d f : Decl) → (Weigh (pair s d) (pair t f) → Meet s t → ⊥) → (p q : Pair) → HasPair (one s d ∷ one t f ∷ []) p → HasPair (one s d ∷ one t f ∷ []) q → Weigh p q → Meet p.selector q.selector → ⊥
no_two s t d f never p q hp hq weigh meet = which (two_pairs s t d f p hp) (two_pairs s t d f q hq)
  where
    both : (a b : Pair) → p ≡ a → q ≡ b → Weigh a b × Meet a.selector b.selector
    both a b e g = (subst (λ r. Weigh r b) e (subst (Weigh p) g weigh), subst (λ (r : Pair). Meet r.selector b.selector) e (subst (λ (r : Pair). Meet p.selector r.selector) g meet))

    which : (p ≡ pair s d) ⊎ (p ≡ pair t f) → (q ≡ pair s d) ⊎ (q ≡ pair t f) → ⊥
    which (inl e) (inl g) = (both (pair s d) (pair s d) e g).0.different refl
    which (inl e) (inr g) = never (both (pair s d) (pair t f) e g).0 (both (pair s d) (pair t f) e g).1
    which (inr e) (inl g) = never (weigh_back (pair t f) (pair s d) (both (pair t f) (pair s d) e g).0) (meet_back t s (both (pair t f) (pair s d) e g).1)
    which (inr e) (inr g) = (both (pair t f) (pair t f) e g).0.different refl

-- what does not weigh, or does not meet, may stand in any order
pub free_order : (source source' : List ℕ) (s t : SelectorParts) (d f : Decl) → (Weigh (pair s d) (pair t f) → Meet s t → ⊥) →
    Keeps source (one s d ∷ one t f ∷ []) source' (one t f ∷ one s d ∷ [])
free_order source source' s t d f never = record {
  pairs = λ p. (two_carried s t d f p, two_carried t s f d p);
  kept = refl;
  order = λ p q weigh meet. (
    λ h. absurd (no_two s t d f never p q (h.place, h.first.stands) (h.later, h.second.stands) weigh meet),
    λ h. absurd (no_two s t d f never p q (two_carried t s f d p (h.place, h.first.stands)) (two_carried t s f d q (h.later, h.second.stands)) weigh meet),
  );
  kept_order = λ p number item at w. absurd (let e : None ≡ Some item = at in cc);
}

-- ---- A pair counts by its last place

-- a pair that stands in a rule before others and among them
last_among : (r : RuleParts) (items : List Item) → ((p : Pair) → HasPair (Rule r ∷ []) p → HasPair items p) → (p : Pair) (n position : ℕ) → IsLast (Rule r ∷ items) p (place n position) → (m : ℕ) × (n ≡ suc m) × IsLast items p (place m position)
last_among r items again p zero position h = absurd (h.last (place (suc more.0.item) more.0.position) (behind (Rule r) items p more.0.item more.0.position more.1) (inl (omega arith)))
  where
    more : HasPair items p
    more = again p (place 0 position, record { rule = h.stands.rule; decl = h.stands.decl; rule_at = h.stands.rule_at; selector_in = h.stands.selector_in; decl_at = h.stands.decl_at; decl_is = h.stands.decl_is })
last_among r items again p (suc m) position h =
    (m, refl, record { stands = among (Rule r) items p m position h.stands; last = λ other g later. h.last (place (suc other.item) other.position) (behind (Rule r) items p other.item other.position g) (moved other later) })
  where
    moved : (other : Place) → IsLater other (place m position) → IsLater (place (suc other.item) other.position) (place (suc m) position)
    moved other (inl l) = inl (omega arith)
    moved other (inr l) = inr (omega arith, l.1)

last_behind : (r : RuleParts) (items : List Item) (p : Pair) (n position : ℕ) → IsLast items p (place n position) → IsLast (Rule r ∷ items) p (place (suc n) position)
last_behind r items p n position h = record { stands = behind (Rule r) items p n position h.stands; last = λ other g later. below other.item other.position g later }
  where
    below : (k at : ℕ) → IsPairAt (Rule r ∷ items) p (place k at) → IsLater (place k at) (place (suc n) position) → ⊥
    below zero at g (inl l) = absurd (omega arith)
    below zero at g (inr l) = absurd (omega arith)
    below (suc k) at g (inl l) = h.last (place k at) (among (Rule r) items p k at g) (inl (omega arith))
    below (suc k) at g (inr l) = h.last (place k at) (among (Rule r) items p k at g) (inr (omega arith, l.1))

-- a rule whose pairs all stand behind it too may go
pub repeated : (source : List ℕ) (r : RuleParts) (items : List Item) → ((p : Pair) → HasPair (Rule r ∷ []) p → HasPair items p) → Keeps source (Rule r ∷ items) source items
repeated source r items again = record {
  pairs = λ p. (λ h. without p h.0.item h.0.position h.1, λ h. (place (suc h.0.item) h.0.position, behind (Rule r) items p h.0.item h.0.position h.1));
  kept = refl;
  order = λ p q weigh meet. (among_before p q, behind_before p q);
  kept_order = λ p number item at w. (among_kept p number, behind_kept p number);
}
  where
    without : (p : Pair) (n position : ℕ) → IsPairAt (Rule r ∷ items) p (place n position) → HasPair items p
    without p zero position h = again p (place 0 position, record { rule = h.rule; decl = h.decl; rule_at = h.rule_at; selector_in = h.selector_in; decl_at = h.decl_at; decl_is = h.decl_is })
    without p (suc m) position h = (place m position, among (Rule r) items p m position h)

    fewer : (n m i j : ℕ) (at to : Place) → at.item ≡ suc n → to.item ≡ suc m → i ≡ at.position → j ≡ to.position → IsLater to at → IsLater (place m j) (place n i)
    fewer n m i j at to e g k l (inl later) = inl (omega arith)
    fewer n m i j at to e g k l (inr later) = inr (omega arith, omega arith)

    among_before : (p q : Pair) → IsBefore (Rule r ∷ items) p q → IsBefore items p q
    among_before p q h =
        let low : (m : ℕ) × (h.place.item ≡ suc m) × IsLast items p (place m h.place.position) = last_among r items again p h.place.item h.place.position h.first in
        let high : (m : ℕ) × (h.later.item ≡ suc m) × IsLast items q (place m h.later.position) = last_among r items again q h.later.item h.later.position h.second in
        record { place = place low.0 h.place.position; later = place high.0 h.later.position; first = low.2; second = high.2; before = fewer low.0 high.0 h.place.position h.later.position h.place h.later low.1 high.1 refl refl h.before }

    more : (at to : Place) → IsLater to at → IsLater (place (suc to.item) to.position) (place (suc at.item) at.position)
    more at to (inl l) = inl (omega arith)
    more at to (inr l) = inr (omega arith, l.1)

    behind_before : (p q : Pair) → IsBefore items p q → IsBefore (Rule r ∷ items) p q
    behind_before p q h = record {
      place = place (suc h.place.item) h.place.position;
      later = place (suc h.later.item) h.later.position;
      first = last_behind r items p h.place.item h.place.position h.first;
      second = last_behind r items q h.later.item h.later.position h.second;
      before = more h.place h.later h.before;
    }

    among_kept : (p : Pair) (number : ℕ) → IsBeforeKept (Rule r ∷ items) p number → IsBeforeKept items p number
    among_kept p number h =
        let low : (m : ℕ) × (h.place.item ≡ suc m) × IsLast items p (place m h.place.position) = last_among r items again p h.place.item h.place.position h.stands in
        record { place = place low.0 h.place.position; stands = low.2; before = subst (λ n. kept_before n (Rule r ∷ items) ≤ number) low.1 h.before }

    behind_kept : (p : Pair) (number : ℕ) → IsBeforeKept items p number → IsBeforeKept (Rule r ∷ items) p number
    behind_kept p number h = record { place = place (suc h.place.item) h.place.position; stands = last_behind r items p h.place.item h.place.position h.stands; before = h.before }

-- of a rule that stands twice the upper one may go
pub earlier_one : (source : List ℕ) (s t : SelectorParts) (d f : Decl) → Keeps source (one s d ∷ one t f ∷ one s d ∷ []) source (one t f ∷ one s d ∷ [])
earlier_one source s t d f = repeated source _ (one t f ∷ one s d ∷ []) again
  where
    again : (p : Pair) → HasPair (one s d ∷ []) p → HasPair (one t f ∷ one s d ∷ []) p
    again p h = which (in_one s d [] p h.0.item h.0.position h.1)
      where
        which : ((h.0.item ≡ 0) × (h.0.position ≡ 0) × (p ≡ pair s d)) ⊎ Among [] p h.0.item h.0.position → HasPair (one t f ∷ one s d ∷ []) p
        which (inl e) = subst (HasPair (one t f ∷ one s d ∷ [])) (sym e.2) (has_second t s f d [])
        which (inr g) = absurd (nowhere_in_none p (place g.0 h.0.position) g.2)

-- but the lower one may not
pub later_one : (source source' : List ℕ) (s t : SelectorParts) (d f : Decl) → Weigh (pair t f) (pair s d) → Meet t s → Keeps source (one s d ∷ one t f ∷ one s d ∷ []) source' (one s d ∷ one t f ∷ []) → ⊥
later_one source source' s t d f weigh meet keeps =
    second_not_before_first s t d f (λ e. weigh.different (sym e)) ((keeps.order (pair t f) (pair s d) weigh meet).0 (record {
      place = place 1 0;
      later = place 2 0;
      first = last_behind (record { selectors = (record { selector = s; piece = nowhere }) ∷ []; decls = (record { decl = d; name = nowhere; value = nowhere }) ∷ [] }) (one t f ∷ one s d ∷ []) (pair t f) 0 0 (first_is_last t s f d weigh.different);
      second = last_behind (record { selectors = (record { selector = s; piece = nowhere }) ∷ []; decls = (record { decl = d; name = nowhere; value = nowhere }) ∷ [] }) (one t f ∷ one s d ∷ []) (pair s d) 1 0 (second_is_last t s f d);
      before = inl (omega arith);
    }))

-- ---- No pair may be lost
pub lost : (source source' : List ℕ) (s : SelectorParts) (d : Decl) → Keeps source (one s d ∷ []) source' [] → ⊥
lost source source' s d keeps =
    let there : HasPair [] (pair s d) = (keeps.pairs (pair s d)).0 (has_first s d []) in
    nowhere_in_none (pair s d) there.0 there.1

-- ---- Kept items

none_in_kept : (k : Item) (items : List Item) (p : Pair) (n position : ℕ) → is_kept k ≡ true → IsPairAt (k ∷ items) p (place n position) → Among items p n position
none_in_kept k items p (suc m) position kept h = (m, refl, among k items p m position h)
none_in_kept k items p zero position kept h = absurd (false≢true (ap is_kept (sym (some-same h.rule_at)) ∙ kept))

counted : (k : Item) (items : List Item) (m : ℕ) → is_kept k ≡ true → kept_before (suc m) (k ∷ items) ≡ suc (kept_before m items)
counted (Rule r) items m kept = absurd (false≢true kept)
counted (KeptRule r) items m kept = refl
counted (KeptBlock piece) items m kept = refl

first_kept : (s : SelectorParts) (d : Decl) (k : Item) → is_kept k ≡ true → kept_items (one s d ∷ k ∷ []) ≡ k ∷ []
first_kept s d (Rule r) kept = absurd (false≢true kept)
first_kept s d (KeptRule r) kept = refl
first_kept s d (KeptBlock piece) kept = refl

-- a rule before a kept item
before_kept : (s : SelectorParts) (d : Decl) (k : Item) → is_kept k ≡ true → IsBeforeKept (one s d ∷ k ∷ []) (pair s d) 0
before_kept s d k kept = record {
  place = place 0 0;
  stands = record { stands = here s d (k ∷ []); last = λ other h. below other (in_one s d (k ∷ []) (pair s d) other.item other.position h) };
  before = omega arith;
}
  where
    below : (other : Place) → ((other.item ≡ 0) × (other.position ≡ 0) × (pair s d ≡ pair s d)) ⊎ Among (k ∷ []) (pair s d) other.item other.position → IsLater other (place 0 0) → ⊥
    below other (inl g) (inl l) = absurd (omega arith)
    below other (inl g) (inr l) = absurd (omega arith)
    below other (inr g) later =
        let none_there : Among [] (pair s d) g.0 other.position = none_in_kept k [] (pair s d) g.0 other.position kept g.2 in
        nowhere_in_none (pair s d) (place none_there.0 other.position) none_there.2

-- a rule behind one
not_before_kept : (s : SelectorParts) (d : Decl) (k : Item) (p : Pair) → is_kept k ≡ true → IsBeforeKept (k ∷ one s d ∷ []) p 0 → ⊥
not_before_kept s d k p kept h =
    let there : Among (one s d ∷ []) p h.place.item h.place.position = none_in_kept k (one s d ∷ []) p h.place.item h.place.position kept h.stands.stands in
    let few : kept_before (suc there.0) (k ∷ one s d ∷ []) ≤ 0 = subst (λ n. kept_before n (k ∷ one s d ∷ []) ≤ 0) there.1 h.before in
    let same : kept_before (suc there.0) (k ∷ one s d ∷ []) ≡ suc (kept_before there.0 (one s d ∷ [])) = counted k (one s d ∷ []) there.0 kept in
    absurd (omega arith)

-- what weighs with a kept item stays on its side of it
pub over_kept : (source source' : List ℕ) (s : SelectorParts) (d : Decl) (k k' : Item) → is_kept k ≡ true → is_kept k' ≡ true → WeighsKept (pair s d) k →
    Keeps source (one s d ∷ k ∷ []) source' (k' ∷ one s d ∷ []) → ⊥
over_kept source source' s d k k' kept kept' weighs keeps =
    not_before_kept s d k' (pair s d) kept' ((keeps.kept_order (pair s d) 0 k (ap (λ items. slice_get items 0) (first_kept s d k kept)) weighs).0 (before_kept s d k kept))

-- what does not, may stand on either side
pub free_of_kept : (source source' : List ℕ) (s : SelectorParts) (d : Decl) (k k' : Item) → is_kept k ≡ true → is_kept k' ≡ true → content source k ≡ content source' k' → (WeighsKept (pair s d) k → ⊥) →
    Keeps source (one s d ∷ k ∷ []) source' (k' ∷ one s d ∷ [])
free_of_kept source source' s d k k' kept kept' same never = record {
  pairs = λ p. (λ h. carried p (above p h), λ h. subst (HasPair (one s d ∷ k ∷ [])) (sym (below p h)) (has_first s d (k ∷ [])));
  kept = ap (map (content source)) (first_kept s d k kept) ∙ ap (λ w. w ∷ []) same ∙ sym (ap (map (content source')) (kept_first k' kept'));
  order = λ p q weigh meet. (
    λ h. absurd (alone p q weigh (above p (h.place, h.first.stands)) (above q (h.later, h.second.stands))),
    λ h. absurd (alone p q weigh (below p (h.place, h.first.stands)) (below q (h.later, h.second.stands))),
  );
  kept_order = λ p number item at w. (λ h. absurd (no_weight p number item at w (above p (h.place, h.stands.stands))), λ h. absurd (no_weight p number item at w (below p (h.place, h.stands.stands))));
}
  where
    above : (p : Pair) → HasPair (one s d ∷ k ∷ []) p → p ≡ pair s d
    above p h = which (in_one s d (k ∷ []) p h.0.item h.0.position h.1)
      where
        which : ((h.0.item ≡ 0) × (h.0.position ≡ 0) × (p ≡ pair s d)) ⊎ Among (k ∷ []) p h.0.item h.0.position → p ≡ pair s d
        which (inl g) = g.2
        which (inr g) = let nothing : Among [] p g.0 h.0.position = none_in_kept k [] p g.0 h.0.position kept g.2 in absurd (nowhere_in_none p (place nothing.0 h.0.position) nothing.2)

    below : (p : Pair) → HasPair (k' ∷ one s d ∷ []) p → p ≡ pair s d
    below p h = which (none_in_kept k' (one s d ∷ []) p h.0.item h.0.position kept' h.1)
      where
        at_first : (m : ℕ) → ((m ≡ 0) × (h.0.position ≡ 0) × (p ≡ pair s d)) ⊎ Among [] p m h.0.position → p ≡ pair s d
        at_first m (inl g) = g.2
        at_first m (inr g) = absurd (nowhere_in_none p (place g.0 h.0.position) g.2)

        which : Among (one s d ∷ []) p h.0.item h.0.position → p ≡ pair s d
        which g = at_first g.0 (in_one s d [] p g.0 h.0.position g.2)

    carried : (p : Pair) → p ≡ pair s d → HasPair (k' ∷ one s d ∷ []) p
    carried p e = subst (HasPair (k' ∷ one s d ∷ [])) (sym e) (place 1 0, behind k' (one s d ∷ []) (pair s d) 0 0 (here s d []))

    kept_first : (i : Item) → is_kept i ≡ true → kept_items (i ∷ one s d ∷ []) ≡ i ∷ []
    kept_first (Rule r) h = absurd (false≢true h)
    kept_first (KeptRule r) h = refl
    kept_first (KeptBlock piece) h = refl

    alone : (p q : Pair) → Weigh p q → p ≡ pair s d → q ≡ pair s d → ⊥
    alone p q weigh e g = weigh.different (ap (λ (r : Pair). r.decl) (e ∙ sym g))

    kept_is : (number : ℕ) (item : Item) → slice_get (k ∷ []) number ≡ Some item → k ≡ item
    kept_is zero item at = some-same at
    kept_is (suc number) item at = absurd cc

    no_weight : (p : Pair) (number : ℕ) (item : Item) → slice_get (kept_items (one s d ∷ k ∷ [])) number ≡ Some item → WeighsKept p item → p ≡ pair s d → ⊥
    no_weight p number item at w e = never (subst (λ r. WeighsKept r k) e (subst (WeighsKept p) (sym (kept_is number item (ap (λ items. slice_get items number) (sym (first_kept s d k kept)) ∙ at))) w))
