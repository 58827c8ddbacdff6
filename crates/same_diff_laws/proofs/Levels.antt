-- One layer of two sheets in which nothing is found: which pairs come in another order.
use Rattle.std.proofs.Common.{◌≡◌, ◌↔◌, ◌⊎◌, inl, inr, ℕ, zero, suc, ◌+◌, ◌<◌, ◌≤◌, Bool, true, false, List, [], ◌∷◌, Option, Some, refl, sym, ap, ap₂, ◌∙◌, subst, arith}
use Rattle.std.specs.Prelude.{nat_lt, slice_get}
use Rattle.std.proofs.lemmas.Bool.Decides.{nat_tests}
use Rattle.std.specs.List.{Contains}
use Rattle.css_model.specs.declared.sheet.Decl.{Decl}
use Rattle.css_model.specs.declared.sheet.Item.{Item}
use Rattle.css_model.specs.declared.sheet.Item.TheVariants.{Rule, KeptRule, KeptBlock}
use Rattle.css_model.specs.Cascade.Order.{HasPair, IsBefore, IsBeforeKept, IsLast, IsPairAt, Pair, Weigh, WeighsKept}
use Rattle.css_model.specs.Cascade.Winner.{IsLater, Place}
use Rattle.css_model.specs.Documents.SelectorParts.{SelectorParts}
use Rattle.css_model.specs.Sheets.KeptItems.{kept_before, kept_items}
use Rattle.normal_text.specs.Normal.{normal_value}
use Rattle.order_laws.proofs.ForCallers.{last_of}
use Rattle.sheet_members.specs.Labels.{Label}
use Rattle.sheet_members.specs.Layers.{Layer}
use Rattle.same_diff_laws.proofs.Found.{HasRuleSpot, IsFirst, IsRuleSpot, first_in, marked_in, rule_has}
use Rattle.same_diff_laws.proofs.Lasting.{label_at}
use Rattle.same_diff_laws.proofs.Spots.{Less, Spotted, decl_spot, spots}

-- What is known of two lists of items in which nothing is found: they have the same pairs, those that weigh and come in another order
-- are apart, in the order of the first list, and a pair comes before the same ones of the kept items that it weighs with.
pub record LevelFacts (Apart : SelectorParts → SelectorParts → Type 0) (s t : List Item) : Type 0 where
  pub pairs : (p : Pair) → HasPair s p ↔ HasPair t p
  pub order : (p q : Pair) → Weigh p q → IsBefore s p q → (IsBefore t p q → ⊥) → Apart p.selector q.selector
  pub kept_order : (p : Pair) (number : ℕ) (item : Item) → slice_get (kept_items s) number ≡ Some item → WeighsKept p item → IsBeforeKept s p number ↔ IsBeforeKept t p number

-- ---- Places and spots

pub less_or_not : (m n : ℕ) → (m < n) ⊎ (n ≤ m)
less_or_not m n = which (nat_lt m n) refl
  where
    which : (b : Bool) → nat_lt m n ≡ b → (m < n) ⊎ (n ≤ m)
    which true e = inl (grind (arith, nat_tests, e))
    which false e = inr (grind (arith, nat_tests, e))

less_or_same : (m n : ℕ) → m ≤ n → (m < n) ⊎ (m ≡ n)
less_or_same m n h = which (less_or_not m n)
  where
    which : (m < n) ⊎ (n ≤ m) → (m < n) ⊎ (m ≡ n)
    which (inl g) = inl g
    which (inr g) = inr (omega (arith, h, g))

kept_more : (i j : ℕ) (items : List Item) → i ≤ j → kept_before i items ≤ kept_before j items
kept_more zero j items h = omega arith
kept_more (suc i) zero items h = absurd (omega (arith, h))
kept_more (suc i) (suc j) [] h = omega arith
kept_more (suc i) (suc j) (Rule r ∷ items) h = kept_more i j items (omega (arith, h))
kept_more (suc i) (suc j) (KeptRule k ∷ items) h = let g = kept_more i j items (omega (arith, h)) in omega (arith, g)
kept_more (suc i) (suc j) (KeptBlock b ∷ items) h = let g = kept_more i j items (omega (arith, h)) in omega (arith, g)

abbrev pub NoLess : List ℕ → List ℕ → Type 0
NoLess u v = Less u v ⊎ (u ≡ v)

pub less_chain : (u v w : List ℕ) → Less u v → Less v w → Less u w
less_chain [] v w h g = absurd h
less_chain (x ∷ u) [] w h g = absurd h
less_chain (x ∷ u) (y ∷ v) [] h g = absurd g
less_chain (x ∷ u) (y ∷ v) (z ∷ w) (inl h) (inl g) = inl (omega (arith, h, g))
less_chain (x ∷ u) (y ∷ v) (z ∷ w) (inl h) (inr (f, g)) = inl (omega (arith, h, f))
less_chain (x ∷ u) (y ∷ v) (z ∷ w) (inr (e, h)) (inl g) = inl (omega (arith, e, g))
less_chain (x ∷ u) (y ∷ v) (z ∷ w) (inr (e, h)) (inr (f, g)) = inr (e ∙ f, less_chain u v w h g)

pub never_less : (u : List ℕ) → Less u u → ⊥
never_less [] h = h
never_less (x ∷ u) (inl h) = absurd (omega (arith, h))
never_less (x ∷ u) (inr (e, h)) = never_less u h

pub no_less_chain : (u v w : List ℕ) → NoLess u v → Less v w → Less u w
no_less_chain u v w (inl h) g = less_chain u v w h g
no_less_chain u v w (inr e) g = subst (λ (x : List ℕ). Less x w) (sym e) g

-- one that is not behind another one is not past it
pub not_past : (u v : List ℕ) → NoLess u v → Less v u → ⊥
not_past u v (inl h) g = never_less u (less_chain u v u h g)
not_past u v (inr e) g = never_less u (subst (λ (x : List ℕ). Less x u) (sym e) g)

abbrev place : ℕ → ℕ → Place
place i p = record { item = i; position = p }

later_chain : (x y z : Place) → IsLater x y → IsLater y z → IsLater x z
later_chain x y z (inl h) (inl g) = inl (omega (arith, h, g))
later_chain x y z (inl h) (inr (e, g)) = inl (omega (arith, h, e))
later_chain x y z (inr (e, h)) (inl g) = inl (omega (arith, e, g))
later_chain x y z (inr (e, h)) (inr (f, g)) = inr (e ∙ f, omega (arith, h, g))

-- ---- A pair of a layer

-- the label of a pair under a head
abbrev pub pair_label : (head : Option (List ℕ)) → Pair → Label
pair_label head p = record {
  head = head;
  rule = false;
  changed = false;
  selector = Some p.selector;
  name = p.decl.name;
  important = p.decl.important;
  text = normal_value p.decl;
  number = 0;
}

module _ (l : Layer) (items : List Item) where
  abbrev pub At : Spotted → Type 0
  At z = IsRuleSpot l 0 0 items z

  abbrev pub pair_of_spot : (z : Spotted) → At z → Pair
  pair_of_spot z a = record { selector = a.marked.0.selector; decl = a.decl.decl }

  abbrev pub place_of_spot : (z : Spotted) → At z → Place
  place_of_spot z a = place a.index a.position

  pub stands : (z : Spotted) (a : At z) → IsPairAt items (pair_of_spot z a) (place_of_spot z a)
  stands z a = record { rule = a.rule; decl = a.decl; rule_at = a.rule_at; selector_in = marked_in [] a.rule.selectors a.marked a.among; decl_at = a.decl_at; decl_is = refl }

  pub spot_label : (z : Spotted) (a : At z) → label_at z ≡ pair_label l.head (pair_of_spot z a)
  spot_label z a = ap label_at a.is

  spot_is : (z : Spotted) (a : At z) → z.spot ≡ a.run ∷ a.number ∷ a.position ∷ []
  spot_is z a = ap (λ (y : Spotted). y.spot) a.is

  -- a later place has a greater spot, and the other way round
  abbrev numbers : (z : Spotted) → At z → List ℕ
  numbers z a = a.run ∷ a.number ∷ a.position ∷ []

  greater : (z y : Spotted) (a : At z) (b : At y) → IsLater (place_of_spot y b) (place_of_spot z a) → Less (numbers z a) (numbers y b)
  greater z y a b (inl h) = which (less_or_same a.run b.run (let m = kept_more a.index b.index items (omega (arith, h)) in let e = a.run_is in let f = b.run_is in omega (arith, m, e, f)))
    where
      which : (a.run < b.run) ⊎ (a.run ≡ b.run) → Less (numbers z a) (numbers y b)
      which (inl g) = inl g
      which (inr g) = inr (g, inl (let e = a.number_is in let f = b.number_is in omega (arith, h, e, f)))
  greater z y a b (inr (same, h)) =
      inr (a.run_is ∙ ap (λ (i : ℕ). (0 + kept_before i items) + (0 + kept_before i items)) (sym same) ∙ sym b.run_is, inr (let e = a.number_is in let f = b.number_is in omega (arith, same, e, f), inl h))

  pub later_less : (z y : Spotted) (a : At z) (b : At y) → IsLater (place_of_spot y b) (place_of_spot z a) → Less z.spot y.spot
  later_less z y a b h = subst (λ (u : List ℕ). Less u y.spot) (sym (spot_is z a)) (subst (λ (u : List ℕ). Less (numbers z a) u) (sym (spot_is y b)) (greater z y a b h))

  later : (z y : Spotted) (a : At z) (b : At y) → Less (numbers z a) (numbers y b) → IsLater (place_of_spot y b) (place_of_spot z a)
  later z y a b (inl h) = which (less_or_not a.index b.index)
    where
      which : (a.index < b.index) ⊎ (b.index ≤ a.index) → IsLater (place_of_spot y b) (place_of_spot z a)
      which (inl g) = inl g
      which (inr g) = absurd (let m = kept_more b.index a.index items g in let e = a.run_is in let f = b.run_is in omega (arith, h, m, e, f))
  later z y a b (inr (same, inl h)) = inl (let e = a.number_is in let f = b.number_is in omega (arith, h, e, f))
  later z y a b (inr (same, inr (also, inl h))) = inr (let e = a.number_is in let f = b.number_is in omega (arith, also, e, f), h)
  later z y a b (inr (same, inr (also, inr (third, h)))) = absurd h

  pub less_later : (z y : Spotted) (a : At z) (b : At y) → Less z.spot y.spot → IsLater (place_of_spot y b) (place_of_spot z a)
  less_later z y a b h = later z y a b (subst (λ (u : List ℕ). Less u (numbers y b)) (spot_is z a) (subst (λ (u : List ℕ). Less z.spot u) (spot_is y b) h))

  -- where a pair is, there is a spot
  pub record HasSpot (zs : List Spotted) (p : Pair) (q : Place) : Type 0 where
    pub spotted : Spotted
    pub there : Contains zs spotted
    pub at : At spotted
    pub index : at.index ≡ q.item
    pub position : at.position ≡ q.position
    pub pair : pair_of_spot spotted at ≡ p
    pub first : spotted.occurrence.repeated ≡ false

  pub has_spot : (bs : List (Option (List Spotted))) (p : Pair) (q : Place) → IsPairAt items p q → HasSpot (spots l 0 0 items bs) p q
  has_spot bs p q h =
      let f : IsFirst [] h.rule.selectors p.selector = first_in [] h.rule.selectors p.selector refl h.selector_in in
      let r : HasRuleSpot l 0 0 items bs q.item q.position h.decl f.marked = rule_has l 0 0 items bs q.item q.position h.rule h.decl f.marked h.rule_at h.decl_at f.among in
      record {
        spotted = decl_spot l r.run r.number q.position h.decl f.marked;
        there = r.there;
        at = record {
          index = q.item;
          position = q.position;
          rule = h.rule;
          decl = h.decl;
          marked = f.marked;
          rule_at = h.rule_at;
          decl_at = h.decl_at;
          among = f.among;
          run = r.run;
          number = r.number;
          run_is = r.run_is;
          number_is = r.number_is;
          is = refl;
        };
        index = refl;
        position = refl;
        pair = ap₂ (λ (x : SelectorParts) (d : Decl). record { selector = x; decl = d }) f.selector h.decl_is;
        first = f.first;
      }

  -- a spot behind which no other one of its label is
  pub record IsLastSpot (zs : List Spotted) (z : Spotted) : Type 0 where
    pub at : At z
    pub greatest : (y : Spotted) → Contains zs y → y.occurrence.repeated ≡ false → label_at y ≡ label_at z → NoLess y.spot z.spot

  module _ (bs : List (Option (List Spotted))) where
    -- each place of a pair with its label is not past it
    pub none_past : (z : Spotted) (h : IsLastSpot (spots l 0 0 items bs) z) (p : Pair) → pair_label l.head p ≡ label_at z → (q : Place) → IsPairAt items p q → IsLater q (place_of_spot z h.at) → ⊥
    none_past z h p same q is later =
        let s : HasSpot (spots l 0 0 items bs) p q = has_spot bs p q is in
        let label : label_at s.spotted ≡ label_at z = spot_label s.spotted s.at ∙ ap (pair_label l.head) s.pair ∙ same in
        let moved : IsLater (place_of_spot s.spotted s.at) (place_of_spot z h.at) = subst (λ (q' : Place). IsLater q' (place_of_spot z h.at)) (ap₂ place (sym s.index) (sym s.position)) later in
        not_past s.spotted.spot z.spot (h.greatest s.spotted s.there s.first label) (later_less z s.spotted h.at s.at moved)

    -- and is before what is behind it
    pub all_before : (z : Spotted) (h : IsLastSpot (spots l 0 0 items bs) z) (p : Pair) → pair_label l.head p ≡ label_at z → (q : Place) → IsPairAt items p q → (y : Spotted) (b : At y) → Less z.spot y.spot → IsLater (place_of_spot y b) q
    all_before z h p same q is y b less =
        let s : HasSpot (spots l 0 0 items bs) p q = has_spot bs p q is in
        let label : label_at s.spotted ≡ label_at z = spot_label s.spotted s.at ∙ ap (pair_label l.head) s.pair ∙ same in
        subst (λ (q' : Place). IsLater (place_of_spot y b) q') (ap₂ place s.index s.position)
        (less_later s.spotted y s.at b (no_less_chain s.spotted.spot z.spot y.spot (h.greatest s.spotted s.there s.first label) less))

    pub is_last : (z : Spotted) (h : IsLastSpot (spots l 0 0 items bs) z) → IsLast items (pair_of_spot z h.at) (place_of_spot z h.at)
    is_last z h = record { stands = stands z h.at; last = λ q is. none_past z h (pair_of_spot z h.at) (sym (spot_label z h.at)) q is }

    -- where it is behind no more than so many kept items, a pair with its label is before the one of that number
    pub before_kept : (z : Spotted) (h : IsLastSpot (spots l 0 0 items bs) z) (p : Pair) → pair_label l.head p ≡ label_at z → HasPair items p → (number : ℕ) (us : List ℕ) → Less z.spot (suc (number + number) ∷ us) → IsBeforeKept items p number
    before_kept z h p same has number us less =
        let w = last_of items p has in
        let s : HasSpot (spots l 0 0 items bs) p w.0 = has_spot bs p w.0 (w.1).stands in
        let label : label_at s.spotted ≡ label_at z = spot_label s.spotted s.at ∙ ap (pair_label l.head) s.pair ∙ same in
        let less' : Less s.spotted.spot (suc (number + number) ∷ us) = no_less_chain s.spotted.spot z.spot (suc (number + number) ∷ us) (h.greatest s.spotted s.there s.first label) less in
        record {
          place = w.0;
          stands = w.1;
          before = subst (λ (i : ℕ). kept_before i items ≤ number) s.index (few s.at.run s.at.number s.at.position (kept_before s.at.index items) s.at.run_is (subst (λ (u : List ℕ). Less u (suc (number + number) ∷ us)) (spot_is s.spotted s.at) less'));
        }
      where
        few : (run n q k : ℕ) → run ≡ (0 + k) + (0 + k) → Less (run ∷ n ∷ q ∷ []) (suc (number + number) ∷ us) → k ≤ number
        few run n q k e (inl g) = omega (arith, e, g)
        few run n q k e (inr (g, rest)) = omega (arith, e, g)

    -- a pair that is before a kept item has no spot behind it
    pub not_behind : (z : Spotted) (a : At z) (number : ℕ) (us : List ℕ) → Less (suc (number + number) ∷ us) z.spot → IsBeforeKept items (pair_of_spot z a) number → ⊥
    not_behind z a number us less b = b.stands.last (place_of_spot z a) (stands z a) (inl (which (less_or_not b.place.item a.index)))
      where
        many : (run n q k : ℕ) → run ≡ (0 + k) + (0 + k) → Less (suc (number + number) ∷ us) (run ∷ n ∷ q ∷ []) → number < k
        many run n q k e (inl g) = omega (arith, e, g)
        many run n q k e (inr (g, rest)) = omega (arith, e, g)

        which : (b.place.item < a.index) ⊎ (a.index ≤ b.place.item) → b.place.item < a.index
        which (inl g) = g
        which (inr g) =
            let m = kept_more a.index b.place.item items g in
            let few = b.before in
            let much : number < kept_before a.index items = many a.run a.number a.position (kept_before a.index items) a.run_is (subst (λ (u : List ℕ). Less (suc (number + number) ∷ us) u) (spot_is z a) less) in
            absurd (omega (arith, m, few, much))

-- ---- Two layers

module _ (Apart : SelectorParts → SelectorParts → Type 0) (l l' : Layer) (s t : List Item) (bs bs' : List (Option (List Spotted))) (heads : l.head ≡ l'.head) where
  abbrev Mine : Spotted → Type 0
  Mine z = IsLastSpot l s (spots l 0 0 s bs) z

  abbrev Yours : Spotted → Type 0
  Yours z = IsLastSpot l' t (spots l' 0 0 t bs') z

  -- a pair of the second one has this label in the first one
  label_there : (z : Spotted) (a : At l' t z) → pair_label l.head (pair_of_spot l' t z a) ≡ label_at z
  label_there z a = ap (λ (h : Option (List ℕ)). pair_label h (pair_of_spot l' t z a)) heads ∙ sym (spot_label l' t z a)

  label_here : (z : Spotted) (a : At l s z) → pair_label l'.head (pair_of_spot l s z a) ≡ label_at z
  label_here z a = ap (λ (h : Option (List ℕ)). pair_label h (pair_of_spot l s z a)) (sym heads) ∙ sym (spot_label l s z a)

  -- Two pairs that come in another order: of the second sheet's first one and the first sheet's second one.
  pub pairs_apart : LevelFacts Apart s t → (c d c' d' : Spotted) (mc : Mine c) (md : Mine d) (yc : Yours c') (yd : Yours d') → label_at c ≡ label_at c' → label_at d ≡ label_at d' →
      Less c.spot d.spot → Less d'.spot c'.spot → Weigh (pair_of_spot l' t c' yc.at) (pair_of_spot l s d md.at) → Apart (pair_of_spot l' t c' yc.at).selector (pair_of_spot l s d md.at).selector
  pairs_apart facts c d c' d' mc md yc yd same same' before after weighs = facts.order p q weighs first other
    where
      p : Pair
      p = pair_of_spot l' t c' yc.at

      q : Pair
      q = pair_of_spot l s d md.at

      has : HasPair s p
      has = (facts.pairs p).1 (place_of_spot l' t c' yc.at, stands l' t c' yc.at)

      first : IsBefore s p q
      first =
          let w = last_of s p has in
          record {
            place = w.0;
            later = place_of_spot l s d md.at;
            first = w.1;
            second = is_last l s bs d md;
            before = all_before l s bs c mc p (label_there c' yc.at ∙ sym same) w.0 (w.1).stands d md.at before;
          }

      other : IsBefore t p q → ⊥
      other b =
          let one : IsLater (place_of_spot l' t c' yc.at) b.later = all_before l' t bs' d' yd q (label_here d md.at ∙ same') b.later b.second.stands c' yc.at after in
          b.first.last (place_of_spot l' t c' yc.at) (stands l' t c' yc.at) (later_chain (place_of_spot l' t c' yc.at) b.later b.place one b.before)

  -- a pair that comes before a kept item in the first sheet alone
  pub none_behind : LevelFacts Apart s t → (c c' : Spotted) (mc : Mine c) (yc : Yours c') → label_at c ≡ label_at c' → (number : ℕ) (item : Item) (us vs : List ℕ) → slice_get (kept_items s) number ≡ Some item →
      WeighsKept (pair_of_spot l' t c' yc.at) item → Less c.spot (suc (number + number) ∷ us) → Less (suc (number + number) ∷ vs) c'.spot → ⊥
  none_behind facts c c' mc yc same number item us vs at weighs before after =
      let p : Pair = pair_of_spot l' t c' yc.at in
      not_behind l' t bs' c' yc.at number vs after
      ((facts.kept_order p number item at weighs).0 (before_kept l s bs c mc p (label_there c' yc.at ∙ sym same) ((facts.pairs p).1 (place_of_spot l' t c' yc.at, stands l' t c' yc.at)) number us before))

  -- and in the second one alone
  pub none_before : LevelFacts Apart s t → (d d' : Spotted) (md : Mine d) (yd : Yours d') → label_at d ≡ label_at d' → (number : ℕ) (item : Item) (us vs : List ℕ) → slice_get (kept_items s) number ≡ Some item →
      WeighsKept (pair_of_spot l s d md.at) item → Less (suc (number + number) ∷ us) d.spot → Less d'.spot (suc (number + number) ∷ vs) → ⊥
  none_before facts d d' md yd same number item us vs at weighs after before =
      let q : Pair = pair_of_spot l s d md.at in
      not_behind l s bs d md.at number us after
      ((facts.kept_order q number item at weighs).1 (before_kept l' t bs' d' yd q (label_here d md.at ∙ same) ((facts.pairs q).0 (place_of_spot l s d md.at, stands l s d md.at)) number vs before))
