-- A sheet that keeps another one has its winners.
use Rattle.std.proofs.Common.{◌≡◌, ◌≢◌, ◌⊎◌, ℕ, zero, suc, ◌<◌, ◌≤◌, true, false, List, [], ◌∷◌, Option, Some, None, refl, sym, ap, ap₂, ◌∙◌, subst, inl, inr, arith}
use Rattle.std.specs.Prelude.{slice_get}
use Rattle.std.specs.Option.{IfSome}
use Rattle.std.specs.List.{All, Contains}
use Rattle.std.proofs.lemmas.Bool.{false≢true}
use Rattle.std.proofs.lemmas.List.Elements.{All-contains, All-weaker, All-contains_itself}
use Rattle.cascade_laws.proofs.ForCallers.{some-same, rule-same, applied-words, words-applied, understood-listed, winner-greatest, winner-none, none-winner, keeps_back, there}
use Rattle.list_facts.proofs.Members.{Contains-here, Contains-there}
use Rattle.css_model.specs.declared.sheet.Decl.{Decl}
use Rattle.css_model.specs.declared.sheet.DeclItem.{DeclItem}
use Rattle.css_model.specs.declared.sheet.Item.{Item}
use Rattle.css_model.specs.declared.sheet.Item.TheVariants.{Rule, KeptRule, KeptBlock}
use Rattle.css_model.specs.Cascade.Winner.{Declared, Place, AppliedDeclaration, AreMeanings, applied, Understood, is_understood, Winner, outcome, winner, IsLater}
use Rattle.css_model.specs.Documents.Document.{Document, Target, IsLegal}
use Rattle.css_model.specs.Cascade.Family.{Related}
use Rattle.css_model.specs.Sheets.KeptItems.{is_kept, kept_before, kept_items}
use Rattle.cascade_laws.specs.Winning.{AppliesByKept, IsGreatest}
use Rattle.css_model.specs.Cascade.Order.{Meet, Pair, IsPairAt, IsLast, Weigh, WeighsKept, IsBefore, IsBeforeKept, Keeps}
use Rattle.css_model.specs.Sheets.RuleParts.{RuleParts}
use Rattle.css_model.specs.Sheets.Spelling.{content}
use Rattle.order_laws.specs.Keeping.{AreRelated}
use Rattle.order_laws.proofs.LastPlaces.{same_decl_or_not, last_of}
use Rattle.order_laws.proofs.KeptNumbers.{kept_at, KeptPlace, place_of_kept, kept_before-monotone, kept_before-behind, Fits, MeaningsFit, meanings_fit}
use Rattle.order_laws.proofs.PlaceOrder.{which_less, which_later, later_than_both}
use Rattle.order_laws.proofs.AppliedPairs.{ByPair, by_pair, applied_at, applies_at, Applies, kept_applies, fit_too, AreAlike, understood_alike, outcome_alike, counterpart}
use Rattle.order_laws.proofs.BestApplied.{IsBest, is_best, Level, level}

-- ---- The best of both sheets

-- names of understood declarations are related
names_related : (us : List Understood) (e f : AppliedDeclaration) → AreRelated us → is_understood us e ≡ true → is_understood us f ≡ true → Related e.decl.name f.decl.name
names_related us e f related u v =
    related (record { name = e.decl.name; value = e.decl.value }) (record { name = f.decl.name; value = f.decl.value }) (understood-listed us e u) (understood-listed us f v)

-- pairs with other declarations stand at other places
pub other_places : (items : List Item) (p q : Pair) (at at' : Place) → at ≡ at' → IsPairAt items p at → IsPairAt items q at' → p.decl ≡ q.decl
other_places items p q at at' same h g = which (subst (λ (x : Place). IsPairAt items p x) same h)
  where
    which : IsPairAt items p at' → p.decl ≡ q.decl
    which k =
        let rules : k.rule ≡ g.rule = rule-same (some-same (sym k.rule_at ∙ g.rule_at)) in
        let decls : k.decl ≡ g.decl = some-same (sym k.decl_at ∙ ap (λ (r : RuleParts). slice_get r.decls at'.position) rules ∙ g.decl_at) in
        sym k.decl_is ∙ ap (λ (d : DeclItem). d.decl) decls ∙ g.decl_is

-- both are of rules
both_rules : (source source' : List ℕ) (items items' : List Item) → Keeps source items source' items' →
    (doc : Document) (target : Target) (meanings : List (List Declared)) (us : List Understood) → IsLegal doc → AreRelated us →
    (e f : AppliedDeclaration) → IsBest doc target meanings items us e → IsBest doc target meanings items' us f → ByPair doc target items e → ByPair doc target items' f → outcome e ≡ outcome f
both_rules source source' items items' keeps doc target meanings us legal related e f best best' b c =
    which (same_decl_or_not b.pair.decl c.pair.decl)
  where
    -- the last of the pair of f in the first sheet, and of that of e in both
    q_last : (q : Place) × IsLast items c.pair q
    q_last = last_of items c.pair ((keeps.pairs c.pair).1 (f.place, c.stands))

    p_last : (p : Place) × IsLast items b.pair p
    p_last = last_of items b.pair (e.place, b.stands)

    p_last' : (p : Place) × IsLast items' b.pair p
    p_last' = last_of items' b.pair ((keeps.pairs b.pair).0 (e.place, b.stands))

    levels : (at : Place) → IsPairAt items' b.pair at → Level e f (applied_at b.pair at) (applied_at c.pair q_last.0)
    levels at h = level e f (applied_at b.pair at) (applied_at c.pair q_last.0) (sym b.decl_is, sym b.specificity_is) (sym c.decl_is, sym c.specificity_is)
        (best'.best (applied_at b.pair at) (inl (applies_at doc target items' b.pair at h b.matching)) (understood_alike us (applied_at b.pair at) e (sym b.decl_is, sym b.specificity_is) ∙ best.understood))
        (best.best (applied_at c.pair q_last.0) (inl (applies_at doc target items c.pair q_last.0 q_last.1.stands c.matching)) (understood_alike us (applied_at c.pair q_last.0) f (sym c.decl_is, sym c.specificity_is) ∙ best'.understood))

    lev : Level e f (applied_at b.pair p_last'.0) (applied_at c.pair q_last.0)
    lev = levels p_last'.0 p_last'.1.stands

    -- in the first sheet the pair of f comes before that of e
    before : b.pair.decl ≢ c.pair.decl → IsBefore items c.pair b.pair
    before apart = order (which_later p_last.0 q_last.0)
      where
        order : IsLater p_last.0 q_last.0 ⊎ (p_last.0 ≡ q_last.0) ⊎ IsLater q_last.0 p_last.0 → IsBefore items c.pair b.pair
        order (inl h) = record { place = q_last.0; later = p_last.0; first = q_last.1; second = p_last.1; before = h }
        order (inr (inl same)) = absurd (apart (other_places items b.pair c.pair p_last.0 q_last.0 same p_last.1.stands q_last.1.stands))
        order (inr (inr h)) = absurd (lev.second (later_than_both q_last.0 p_last.0 e.place h (p_last.1.last e.place b.stands)))

    weigh : b.pair.decl ≢ c.pair.decl → Weigh c.pair b.pair
    weigh apart = record {
      different = λ h. apart (sym h);
      names = subst (λ (d : Decl). Related d.name b.pair.decl.name) c.decl_is (subst (λ (d : Decl). Related f.decl.name d.name) b.decl_is (names_related us f e related best'.understood best.understood));
      importance = ap (λ (d : Decl). d.important) (sym c.decl_is) ∙ sym lev.importance ∙ ap (λ (d : Decl). d.important) b.decl_is;
      specificity = sym c.specificity_is ∙ sym lev.specificity ∙ b.specificity_is;
    }

    meet : Meet c.pair.selector b.pair.selector
    meet = record { doc = doc; target = target; legal = legal; first = c.matching; second = b.matching }

    -- and so in the second sheet, against f's being the best
    differ : b.pair.decl ≢ c.pair.decl → ⊥
    differ apart =
        let there : IsBefore items' c.pair b.pair = (keeps.order c.pair b.pair (weigh apart) meet).0 (before apart) in
        (levels there.later there.second.stands).first (later_than_both there.later there.place f.place there.before (there.first.last f.place c.stands))

    which : (b.pair.decl ≡ c.pair.decl) ⊎ (b.pair.decl ≢ c.pair.decl) → outcome e ≡ outcome f
    which (inl same) = outcome_alike e f (b.decl_is ∙ same ∙ sym c.decl_is, lev.specificity)
    which (inr apart) = absurd (differ apart)

-- a pair weighs with a kept item that means a related declaration
weighs_kept : (p : Pair) (x : Item) (m : List Declared) (d : Declared) (position : ℕ) → is_kept x ≡ true → Fits x m → slice_get m position ≡ Some d → Related p.decl.name d.decl.name → p.decl.important ≡ d.decl.important → WeighsKept p x
weighs_kept p (Rule r) m d position kept fits at names importance = absurd (false≢true kept)
weighs_kept p (KeptRule k) m d position kept fits at names importance = (d.decl, All-contains (λ (e : Declared). Contains k.decls e.decl) m d fits (member m position d at), record { names = names; importance = importance })
  where
    member : (l : List Declared) (i : ℕ) (y : Declared) → slice_get l i ≡ Some y → Contains l y
    member [] i y h = absurd (let g : None ≡ Some y = h in cc)
    member (z ∷ l) zero y h = subst (λ (w : Declared). Contains (z ∷ l) w) (some-same h) (Contains-here z l)
    member (z ∷ l) (suc i) y h = Contains-there z l y (member l i y h)
weighs_kept p (KeptBlock k) m d position kept fits at names importance = tt

-- a rule and a kept item are not one
rule_not_kept : (items : List Item) (p : Pair) (at : Place) (k : ℕ) (x : Item) → at.item ≡ k → IsPairAt items p at → slice_get items k ≡ Some x → is_kept x ≡ true → ⊥
rule_not_kept items p at k x same h g kept =
    let r : Rule h.rule ≡ x = some-same (sym h.rule_at ∙ ap (slice_get items) same ∙ g) in
    false≢true (ap is_kept r ∙ kept)

not_later_item : (p q : Place) → (IsLater p q → ⊥) → p.item ≤ q.item
not_later_item p q h = which (which_less p.item q.item)
  where
    which : (p.item < q.item) ⊎ (p.item ≡ q.item) ⊎ (q.item < p.item) → p.item ≤ q.item
    which (inl l) = omega arith
    which (inr (inl l)) = omega arith
    which (inr (inr l)) = absurd (h (inl l))

-- the best of one is of a rule, that of the other of a kept item: this cannot be
rule_and_kept : (source source' : List ℕ) (items items' : List Item) → Keeps source items source' items' →
    (doc : Document) (target : Target) (meanings : List (List Declared)) (us : List Understood) → MeaningsFit items meanings → AreRelated us →
    (e f : AppliedDeclaration) → IsBest doc target meanings items us e → IsBest doc target meanings items' us f → ByPair doc target items e → AppliesByKept meanings items' f → ⊥
rule_and_kept source source' items items' keeps doc target meanings us fit related e f best best' b a =
    let x : (x : Item) × (slice_get (kept_items items) (kept_before f.place.item items') ≡ Some x) × (content source x ≡ content source' a.item) =
    there source source' (kept_items items) (kept_items items') keeps.kept (kept_before f.place.item items') a.item (kept_at items' f.place.item a.item a.item_at a.kept) in
    let k : KeptPlace items (kept_before f.place.item items') x.0 = place_of_kept items (kept_before f.place.item items') x.0 x.1 in
    let f' : AppliedDeclaration = record { decl = f.decl; specificity = f.specificity; place = record { item = k.index; position = f.place.position } } in
    let by_kept : AppliesByKept meanings items f' = kept_applies meanings items f' (kept_before f.place.item items') x.0 a.meaning a.declared f.place.position k a.meaning_at a.declared_at a.decl_is a.specificity_is refl in
    let p' : (p : Place) × IsLast items' b.pair p = last_of items' b.pair ((keeps.pairs b.pair).0 (e.place, b.stands)) in
    let e' : AppliedDeclaration = applied_at b.pair p'.0 in
    let lev : Level e f e' f' = level e f e' f' (sym b.decl_is, sym b.specificity_is) (refl, refl)
    (best'.best e' (inl (applies_at doc target items' b.pair p'.0 p'.1.stands b.matching)) (understood_alike us e' e (sym b.decl_is, sym b.specificity_is) ∙ best.understood))
    (best.best f' (inr by_kept) best'.understood) in
    let names : Related b.pair.decl.name a.declared.decl.name =
    subst (λ (d : Decl). Related d.name a.declared.decl.name) b.decl_is (subst (λ (d : Decl). Related e.decl.name d.name) a.decl_is (names_related us e f related best.understood best'.understood)) in
    let importance : b.pair.decl.important ≡ a.declared.decl.important = ap (λ (d : Decl). d.important) (sym b.decl_is) ∙ lev.importance ∙ ap (λ (d : Decl). d.important) a.decl_is in
    let weighs : WeighsKept b.pair x.0 = weighs_kept b.pair x.0 a.meaning a.declared f.place.position k.kept (fit (kept_before f.place.item items') x.0 a.meaning x.1 a.meaning_at) a.declared_at names importance in
    let before : IsBeforeKept items' b.pair (kept_before f.place.item items') = record { place = p'.0; stands = p'.1; before = kept_before-monotone items' p'.0.item f.place.item (not_later_item p'.0 f.place lev.first) } in
    let before' : IsBeforeKept items b.pair (kept_before f.place.item items') = (keeps.kept_order b.pair (kept_before f.place.item items') x.0 x.1 weighs).1 before in
    let h : k.index ≤ e.place.item = not_later_item f'.place e.place lev.second in
    let g : e.place.item ≤ before'.place.item = not_later_item e.place before'.place (before'.stands.last e.place b.stands) in
    strictly k.index e.place.item before'.place.item k.number h g before'.before (λ same. rule_not_kept items b.pair e.place k.index x.0 same b.stands k.at k.kept)
    (kept_before-behind items k.index before'.place.item x.0 k.at k.kept)
  where
    strictly : (i j l : ℕ) → kept_before i items ≡ kept_before f.place.item items' → i ≤ j → j ≤ l → kept_before l items ≤ kept_before f.place.item items' → (j ≡ i → ⊥) → (i < l → kept_before i items < kept_before l items) → ⊥
    strictly i j l number h g before apart behind = which (which_less i j)
      where
        which : (i < j) ⊎ (i ≡ j) ⊎ (j < i) → ⊥
        which (inl less) = let b : kept_before i items < kept_before l items = behind (omega arith) in absurd (omega arith)
        which (inr (inl same)) = apart (sym same)
        which (inr (inr less)) = absurd (omega arith)

-- both are of kept items
same_meaning : (meanings : List (List Declared)) (n m : ℕ) (l l' : List Declared) (d d' : Declared) (i j : ℕ) → n ≡ m → i ≡ j → slice_get meanings n ≡ Some l → slice_get meanings m ≡ Some l' → slice_get l i ≡ Some d → slice_get l' j ≡ Some d' → d ≡ d'
same_meaning meanings n m l l' d d' i j same same' at at' of of' =
    let lists : l ≡ l' = some-same (sym at ∙ ap (slice_get meanings) same ∙ at') in
    some-same (sym of ∙ ap₂ (λ (x : List Declared) (y : ℕ). slice_get x y) lists same' ∙ of')

not_later_position : (p q : Place) → (IsLater p q → ⊥) → p.item ≡ q.item → p.position ≤ q.position
not_later_position p q h same = which (which_less p.position q.position)
  where
    which : (p.position < q.position) ⊎ (p.position ≡ q.position) ⊎ (q.position < p.position) → p.position ≤ q.position
    which (inl l) = omega arith
    which (inr (inl l)) = omega arith
    which (inr (inr l)) = absurd (h (inr (same, l)))

-- places of one number
one_place : (items : List Item) (i j : ℕ) (x y : Item) → slice_get items i ≡ Some x → is_kept x ≡ true → slice_get items j ≡ Some y → is_kept y ≡ true → kept_before i items ≡ kept_before j items → i ≡ j
one_place items i j x y at kept at' kept' same = which (which_less i j)
  where
    which : (i < j) ⊎ (i ≡ j) ⊎ (j < i) → i ≡ j
    which (inl l) = let h : kept_before i items < kept_before j items = kept_before-behind items i j x at kept l in absurd (omega arith)
    which (inr (inl e)) = e
    which (inr (inr l)) = let h : kept_before j items < kept_before i items = kept_before-behind items j i y at' kept' l in absurd (omega arith)

both_kept : (source source' : List ℕ) (items items' : List Item) → Keeps source items source' items' →
    (doc : Document) (target : Target) (meanings : List (List Declared)) (us : List Understood) →
    (e f : AppliedDeclaration) → IsBest doc target meanings items us e → IsBest doc target meanings items' us f → AppliesByKept meanings items e → AppliesByKept meanings items' f → outcome e ≡ outcome f
both_kept source source' items items' keeps doc target meanings us e f best best' a b =
    let x : (x : Item) × (slice_get (kept_items items') (kept_before e.place.item items) ≡ Some x) × (content source' x ≡ content source a.item) =
    there source' source (kept_items items') (kept_items items) (sym keeps.kept) (kept_before e.place.item items) a.item (kept_at items e.place.item a.item a.item_at a.kept) in
    let k : KeptPlace items' (kept_before e.place.item items) x.0 = place_of_kept items' (kept_before e.place.item items) x.0 x.1 in
    let e' : AppliedDeclaration = record { decl = e.decl; specificity = e.specificity; place = record { item = k.index; position = e.place.position } } in
    let y : (y : Item) × (slice_get (kept_items items) (kept_before f.place.item items') ≡ Some y) × (content source y ≡ content source' b.item) =
    there source source' (kept_items items) (kept_items items') keeps.kept (kept_before f.place.item items') b.item (kept_at items' f.place.item b.item b.item_at b.kept) in
    let j : KeptPlace items (kept_before f.place.item items') y.0 = place_of_kept items (kept_before f.place.item items') y.0 y.1 in
    let f' : AppliedDeclaration = record { decl = f.decl; specificity = f.specificity; place = record { item = j.index; position = f.place.position } } in
    let lev : Level e f e' f' = level e f e' f' (refl, refl) (refl, refl)
    (best'.best e' (inr (kept_applies meanings items' e' (kept_before e.place.item items) x.0 a.meaning a.declared e.place.position k a.meaning_at a.declared_at a.decl_is a.specificity_is refl)) best.understood)
    (best.best f' (inr (kept_applies meanings items f' (kept_before f.place.item items') y.0 b.meaning b.declared f.place.position j b.meaning_at b.declared_at b.decl_is b.specificity_is refl)) best'.understood) in
    let up : k.index ≤ f.place.item = not_later_item e'.place f.place lev.first in
    let down : j.index ≤ e.place.item = not_later_item f'.place e.place lev.second in
    let up' : kept_before k.index items' ≤ kept_before f.place.item items' = kept_before-monotone items' k.index f.place.item up in
    let down' : kept_before j.index items ≤ kept_before e.place.item items = kept_before-monotone items j.index e.place.item down in
    let number : kept_before e.place.item items ≡ kept_before f.place.item items' = equal (kept_before e.place.item items) (kept_before f.place.item items') (kept_before k.index items') (kept_before j.index items) k.number j.number up' down' in
    let here : k.index ≡ f.place.item = one_place items' k.index f.place.item x.0 b.item k.at k.kept b.item_at b.kept (k.number ∙ number) in
    let there : j.index ≡ e.place.item = one_place items j.index e.place.item y.0 a.item j.at j.kept a.item_at a.kept (j.number ∙ sym number) in
    let left : e.place.position ≤ f.place.position = not_later_position e'.place f.place lev.first here in
    let right : f.place.position ≤ e.place.position = not_later_position f'.place e.place lev.second there in
    let position : e.place.position ≡ f.place.position = omega (arith, left, right) in
    let same : a.declared ≡ b.declared = same_meaning meanings (kept_before e.place.item items) (kept_before f.place.item items') a.meaning b.meaning a.declared b.declared e.place.position f.place.position number position a.meaning_at b.meaning_at a.declared_at b.declared_at in
    outcome_alike e f (a.decl_is ∙ ap (λ (d : Declared). d.decl) same ∙ sym b.decl_is, lev.specificity)
  where
    equal : (n m i j : ℕ) → i ≡ n → j ≡ m → i ≤ m → j ≤ n → n ≡ m
    equal n m i j h g up down = omega (arith, h, g, up, down)

-- whatever they are of
bests_are_one : (source source' : List ℕ) (items items' : List Item) → Keeps source items source' items' →
    (doc : Document) (target : Target) (meanings : List (List Declared)) (us : List Understood) → IsLegal doc → MeaningsFit items meanings → AreRelated us →
    (e f : AppliedDeclaration) → IsBest doc target meanings items us e → IsBest doc target meanings items' us f → outcome e ≡ outcome f
bests_are_one source source' items items' keeps doc target meanings us legal fit related e f best best' = which best.applies best'.applies
  where
    which : Applies doc target meanings items e → Applies doc target meanings items' f → outcome e ≡ outcome f
    which (inl a) (inl b) = both_rules source source' items items' keeps doc target meanings us legal related e f best best' (by_pair doc target items e a) (by_pair doc target items' f b)
    which (inl a) (inr b) = absurd (rule_and_kept source source' items items' keeps doc target meanings us fit related e f best best' (by_pair doc target items e a) b)
    which (inr a) (inl b) =
        absurd (rule_and_kept source' source items' items (keeps_back source source' items items' keeps) doc target meanings us (fit_too source source' items items' meanings keeps.kept fit) related f e best' best (by_pair doc target items' f b) a)
    which (inr a) (inr b) = both_kept source source' items items' keeps doc target meanings us e f best best' a b

-- ---- The law

All-of_members : (P : AppliedDeclaration → Type 0) (es : List AppliedDeclaration) → ((e : AppliedDeclaration) → Contains es e → P e) → All P es
All-of_members P es f = All-weaker (Contains es) P f es (All-contains_itself es)

-- where nothing understood applies in one sheet, nothing does in the other
none_there : (source source' : List ℕ) (items items' : List Item) → Keeps source items source' items' →
    (doc : Document) (target : Target) (meanings : List (List Declared)) (us : List Understood) →
    All (λ e. is_understood us e ≡ false) (applied doc target meanings items') → All (λ e. is_understood us e ≡ false) (applied doc target meanings items)
none_there source source' items items' keeps doc target meanings us none =
    All-of_members (λ e. is_understood us e ≡ false) (applied doc target meanings items)
    (λ e inside. let f : (f : AppliedDeclaration) × Applies doc target meanings items' f × AreAlike f e = counterpart source source' items items' keeps doc target meanings e (applied-words doc target meanings items e inside) in
    sym (understood_alike us f.0 e f.2) ∙ All-contains (λ e. is_understood us e ≡ false) (applied doc target meanings items') f.0 none (words-applied doc target meanings items' f.0 f.1))

pub keeping_keeps : (source source' : List ℕ) (items items' : List Item) → Keeps source items source' items' →
    (doc : Document) (target : Target) (meanings : List (List Declared)) (us : List Understood) →
    IsLegal doc → AreMeanings items meanings → AreRelated us →
    winner doc target meanings items us ≡ winner doc target meanings items' us
keeping_keeps source source' items items' keeps doc target meanings us legal are related =
    which (winner doc target meanings items us) refl (winner doc target meanings items' us) refl
    (winner-greatest us (applied doc target meanings items)) (winner-greatest us (applied doc target meanings items'))
  where
    which : (o : Option Winner) → winner doc target meanings items us ≡ o → (o' : Option Winner) → winner doc target meanings items' us ≡ o' →
        IfSome (winner doc target meanings items us) (λ w. (e : AppliedDeclaration) × IsGreatest us (applied doc target meanings items) e × (w ≡ outcome e)) →
        IfSome (winner doc target meanings items' us) (λ w. (e : AppliedDeclaration) × IsGreatest us (applied doc target meanings items') e × (w ≡ outcome e)) →
        winner doc target meanings items us ≡ winner doc target meanings items' us
    which None none o' other h g =
        none ∙ sym (none-winner us (applied doc target meanings items')
        (none_there source' source items' items (keeps_back source source' items items' keeps) doc target meanings us (winner-none us (applied doc target meanings items) none)))
    which (Some w) some None none h g =
        none-winner us (applied doc target meanings items) (none_there source source' items items' keeps doc target meanings us (winner-none us (applied doc target meanings items') none)) ∙ sym none
    which (Some w) some (Some w') some' h g =
        let e : (e : AppliedDeclaration) × IsGreatest us (applied doc target meanings items) e × (w ≡ outcome e) = subst (λ (o : Option Winner). IfSome o (λ w. (e : AppliedDeclaration) × IsGreatest us (applied doc target meanings items) e × (w ≡ outcome e))) some h in
        let f : (e : AppliedDeclaration) × IsGreatest us (applied doc target meanings items') e × (w' ≡ outcome e) = subst (λ (o : Option Winner). IfSome o (λ w. (e : AppliedDeclaration) × IsGreatest us (applied doc target meanings items') e × (w ≡ outcome e))) some' g in
        some ∙ ap Some (e.2 ∙ bests_are_one source source' items items' keeps doc target meanings us legal (meanings_fit items meanings are) related e.0 f.0
        (is_best doc target meanings items us e.0 e.1) (is_best doc target meanings items' us f.0 f.1) ∙ sym f.2) ∙ sym some'
