-- The tests of order and of weight are what is said in words.
use Rattle.std.proofs.Common.{◌≡◌, ◌↔◌, ◌⊎◌, ℕ, ◌≤◌, ◌==◌, Bool, true, false, not, ◌&&◌, List, Decides, refl, sym, ◌∙◌, subst, inl, inr, rules}
use Rattle.std.specs.Bool.{beq}
use Rattle.std.specs.Cmp.{booleans_Decides}
use Rattle.std.specs.Prelude.{nat_le, nat_lt}
use Rattle.std.specs.List.{Contains, list_any}
use Rattle.std.proofs.lemmas.Bool.{false≢true, and_parts, and_from, or_cases, or_left, or_right, not-true, not_from_false, false_from_ne_true, leb-true, le-leb}
use Rattle.std.proofs.lemmas.Bool.Decides.{Decides-eqb, Decides-ltb}
use Rattle.css_model.proofs.ForCallers.{decl_decides}
use Rattle.css_model.specs.contracts.selector.SpecificityPartialEq.TheImpl as specificity
use Rattle.css_model.specs.declared.selector.Specificity.{Specificity}
use Rattle.css_model.specs.declared.sheet.Decl.{Decl}
use Rattle.css_model.specs.declared.sheet.Item.{Item}
use Rattle.css_model.specs.declared.sheet.Item.TheVariants.{Rule, KeptRule, KeptBlock}
use Rattle.css_model.specs.Cascade.Winner.{Place, IsLater}
use Rattle.css_model.specs.Cascade.Family.{related}
use Rattle.cascade_laws.specs.Families.{RelatingIsDecided}
use Rattle.css_model.specs.Sheets.KeptItems.{kept_before}
use Rattle.css_model.specs.Cascade.Order.{Pair, IsLast, Weigh, WeighsKept, IsBefore, IsBeforeKept}
use Rattle.css_model.specs.Documents.Specificity.{specificity_of}
use Rattle.order_laws.specs.Comparing.{comes_before, comes_before_kept, is_later, same_rank, weigh, weighs_kept}
use Rattle.order_laws.specs.Members.{same_decl, same_pair}
use Rattle.order_laws.specs.Places.{PairPlace, PlacedPair, place_of, StandsLast, last_pairs}
use Rattle.order_laws.specs.Reversing.{Differ}
use Rattle.order_laws.proofs.Appended.{last_same}
use Rattle.order_laws.proofs.Lists.{any_from, any_of}
use Rattle.order_laws.proofs.RulePlaces.{pair_is, is_pair}
use Rattle.order_laws.proofs.SheetPlaces.{last_stands, listed_stands_last, stands_last_somewhere}

-- ---- Weight

specificity_decides : (s t : Specificity) → Decides ((specificity.ghosts).eq s t) (s ≡ t)
specificity_decides s t = search rules

same_rank_is : (p q : Pair) → same_rank p q ≡ true →
    (p.decl.important ≡ q.decl.important) × (specificity_of p.selector ≡ specificity_of q.selector)
same_rank_is p q h =
    let w : (beq p.decl.important q.decl.important ≡ true) × ((specificity.ghosts).eq (specificity_of p.selector) (specificity_of q.selector) ≡ true) =
    and_parts (beq p.decl.important q.decl.important) ((specificity.ghosts).eq (specificity_of p.selector) (specificity_of q.selector)) h in
    ((booleans_Decides p.decl.important q.decl.important).0 w.0, (specificity_decides (specificity_of p.selector) (specificity_of q.selector)).0 w.1)

pub weigh_is : RelatingIsDecided → (p q : Pair) → (weigh p q ≡ true) ↔ Weigh p q
weigh_is relating p q = (there, back)
  where
    there : weigh p q ≡ true → Weigh p q
    there h =
        let a : ((not (same_decl p.decl q.decl) && related p.decl.name q.decl.name) ≡ true) × (same_rank p q ≡ true) = and_parts (not (same_decl p.decl q.decl) && related p.decl.name q.decl.name) (same_rank p q) h in
        let b : (not (same_decl p.decl q.decl) ≡ true) × (related p.decl.name q.decl.name ≡ true) = and_parts (not (same_decl p.decl q.decl)) (related p.decl.name q.decl.name) a.0 in
        let c : (p.decl.important ≡ q.decl.important) × (specificity_of p.selector ≡ specificity_of q.selector) = same_rank_is p q a.1 in
        record {
          different = λ e. false≢true (sym (not-true (same_decl p.decl q.decl) b.0) ∙ (decl_decides p.decl q.decl).1 e);
          names = (relating p.decl.name q.decl.name).0 b.1;
          importance = c.0;
          specificity = c.1;
        }

    back : Weigh p q → weigh p q ≡ true
    back w =
        let differs : same_decl p.decl q.decl ≡ false = false_from_ne_true (same_decl p.decl q.decl) (λ e. w.different ((decl_decides p.decl q.decl).0 e)) in
        and_from (not (same_decl p.decl q.decl) && related p.decl.name q.decl.name) (same_rank p q)
        (and_from (not (same_decl p.decl q.decl)) (related p.decl.name q.decl.name) (not_from_false (same_decl p.decl q.decl) differs) ((relating p.decl.name q.decl.name).1 w.names))
        (and_from (beq p.decl.important q.decl.important) ((specificity.ghosts).eq (specificity_of p.selector) (specificity_of q.selector))
        ((booleans_Decides p.decl.important q.decl.important).1 w.importance)
        ((specificity_decides (specificity_of p.selector) (specificity_of q.selector)).1 w.specificity))

-- a declaration of a kept rule weighs
abbrev weighs_one : Pair → Decl → Bool
weighs_one p d = related p.decl.name d.name && beq p.decl.important d.important

pub weighs_kept_is : RelatingIsDecided → (p : Pair) (item : Item) → (weighs_kept p item ≡ true) ↔ WeighsKept p item
weighs_kept_is relating p (Rule r) = (λ h. absurd (false≢true h), λ h. absurd h)
weighs_kept_is relating p (KeptBlock piece) = (λ h. tt, λ h. refl)
weighs_kept_is relating p (KeptRule kept) = (there, λ w. any_of (weighs_one p) kept.decls w.0 w.1 (and_from (related p.decl.name w.0.name) (beq p.decl.important w.0.important) ((relating p.decl.name w.0.name).1 w.2.names) ((booleans_Decides p.decl.important w.0.important).1 w.2.importance)))
  where
    there : weighs_kept p (KeptRule kept) ≡ true → WeighsKept p (KeptRule kept)
    there h =
        let w : (d : Decl) × Contains kept.decls d × (weighs_one p d ≡ true) = any_from (weighs_one p) kept.decls h in
        let b : (related p.decl.name w.0.name ≡ true) × (beq p.decl.important w.0.important ≡ true) = and_parts (related p.decl.name w.0.name) (beq p.decl.important w.0.important) w.2 in
        (w.0, w.1, record { names = (relating p.decl.name w.0.name).0 b.0; importance = (booleans_Decides p.decl.important w.0.important).0 b.1 })

-- ---- Order

is_later_is : (x y : PairPlace) → (is_later x y ≡ true) ↔ IsLater (place_of x) (place_of y)
is_later_is x y = (λ h. there (or_cases (nat_lt y.item x.item) (x.item == y.item && nat_lt y.decl x.decl) h), back)
  where
    there : (nat_lt y.item x.item ≡ true) ⊎ ((x.item == y.item && nat_lt y.decl x.decl) ≡ true) → IsLater (place_of x) (place_of y)
    there (inl h) = inl ((Decides-ltb y.item x.item).0 h)
    there (inr h) = let w : ((x.item == y.item) ≡ true) × (nat_lt y.decl x.decl ≡ true) = and_parts (x.item == y.item) (nat_lt y.decl x.decl) h in inr ((Decides-eqb x.item y.item).0 w.0, (Decides-ltb y.decl x.decl).0 w.1)

    back : IsLater (place_of x) (place_of y) → is_later x y ≡ true
    back (inl h) = or_left (nat_lt y.item x.item) (x.item == y.item && nat_lt y.decl x.decl) ((Decides-ltb y.item x.item).1 h)
    back (inr h) = or_right (nat_lt y.item x.item) (x.item == y.item && nat_lt y.decl x.decl) (and_from (x.item == y.item) (nat_lt y.decl x.decl) ((Decides-eqb x.item y.item).1 h.0) ((Decides-ltb y.decl x.decl).1 h.1))

-- of the list of a sheet's pairs
is_last : (items : List Item) (x : PlacedPair) → Contains (last_pairs items) x → IsLast items x.pair (place_of x.place)
is_last items x h =
    let l : StandsLast (λ n. true) items x = (listed_stands_last (λ n. true) items x).0 h in
    record { stands = last_stands (λ n. true) items x l; last = λ other at. l.last other at refl }

last_is_listed : (items : List Item) (p : Pair) (place : Place) → IsLast items p place → (x : PlacedPair) × Contains (last_pairs items) x × (x.pair ≡ p) × (place_of x.place ≡ place)
last_is_listed items p place l =
    let w : (x : PlacedPair) × StandsLast (λ n. true) items x × (x.pair ≡ p) = stands_last_somewhere (λ n. true) items p place l.stands refl in
    let h : Contains (last_pairs items) w.0 = (listed_stands_last (λ n. true) items w.0).1 w.1 in
    (w.0, h, w.2, last_same items p (place_of w.0.place) place (subst (λ (q : Pair). IsLast items q (place_of w.0.place)) w.2 (is_last items w.0 h)) l)

abbrev is_after : Pair → PairPlace → PlacedPair → Bool
is_after q place y = same_pair y.pair q && is_later y.place place

abbrev has_after : List Item → Pair → Pair → PlacedPair → Bool
has_after items p q x = same_pair x.pair p && list_any (is_after q x.place) (last_pairs items)

pub comes_before_is : (items : List Item) (p q : Pair) → (comes_before items p q ≡ true) ↔ IsBefore items p q
comes_before_is items p q = (there, back)
  where
    there : comes_before items p q ≡ true → IsBefore items p q
    there h =
        let x : (x : PlacedPair) × Contains (last_pairs items) x × (has_after items p q x ≡ true) = any_from (has_after items p q) (last_pairs items) h in
        let a : (same_pair x.0.pair p ≡ true) × (list_any (is_after q x.0.place) (last_pairs items) ≡ true) = and_parts (same_pair x.0.pair p) (list_any (is_after q x.0.place) (last_pairs items)) x.2 in
        let y : (y : PlacedPair) × Contains (last_pairs items) y × (is_after q x.0.place y ≡ true) = any_from (is_after q x.0.place) (last_pairs items) a.1 in
        let b : (same_pair y.0.pair q ≡ true) × (is_later y.0.place x.0.place ≡ true) = and_parts (same_pair y.0.pair q) (is_later y.0.place x.0.place) y.2 in
        record {
          place = place_of x.0.place;
          later = place_of y.0.place;
          first = subst (λ (r : Pair). IsLast items r (place_of x.0.place)) (pair_is x.0.pair p a.0) (is_last items x.0 x.1);
          second = subst (λ (r : Pair). IsLast items r (place_of y.0.place)) (pair_is y.0.pair q b.0) (is_last items y.0 y.1);
          before = (is_later_is y.0.place x.0.place).0 b.1;
        }

    back : IsBefore items p q → comes_before items p q ≡ true
    back b =
        let x : (x : PlacedPair) × Contains (last_pairs items) x × (x.pair ≡ p) × (place_of x.place ≡ b.place) = last_is_listed items p b.place b.first in
        let y : (y : PlacedPair) × Contains (last_pairs items) y × (y.pair ≡ q) × (place_of y.place ≡ b.later) = last_is_listed items q b.later b.second in
        let later : IsLater (place_of y.0.place) (place_of x.0.place) = subst (λ (z : Place). IsLater z (place_of x.0.place)) (sym y.3) (subst (λ (z : Place). IsLater b.later z) (sym x.3) b.before) in
        any_of (has_after items p q) (last_pairs items) x.0 x.1
        (and_from (same_pair x.0.pair p) (list_any (is_after q x.0.place) (last_pairs items)) (is_pair x.0.pair p x.2)
        (any_of (is_after q x.0.place) (last_pairs items) y.0 y.1
        (and_from (same_pair y.0.pair q) (is_later y.0.place x.0.place) (is_pair y.0.pair q y.2) ((is_later_is y.0.place x.0.place).1 later))))

abbrev is_before_number : List Item → Pair → ℕ → PlacedPair → Bool
is_before_number items p number x = same_pair x.pair p && nat_le (kept_before x.place.item items) number

pub comes_before_kept_is : (items : List Item) (p : Pair) (number : ℕ) → (comes_before_kept items p number ≡ true) ↔ IsBeforeKept items p number
comes_before_kept_is items p number = (there, back)
  where
    there : comes_before_kept items p number ≡ true → IsBeforeKept items p number
    there h =
        let x : (x : PlacedPair) × Contains (last_pairs items) x × (is_before_number items p number x ≡ true) = any_from (is_before_number items p number) (last_pairs items) h in
        let a : (same_pair x.0.pair p ≡ true) × (nat_le (kept_before x.0.place.item items) number ≡ true) = and_parts (same_pair x.0.pair p) (nat_le (kept_before x.0.place.item items) number) x.2 in
        record {
          place = place_of x.0.place;
          stands = subst (λ (r : Pair). IsLast items r (place_of x.0.place)) (pair_is x.0.pair p a.0) (is_last items x.0 x.1);
          before = leb-true (kept_before x.0.place.item items) number a.1;
        }

    back : IsBeforeKept items p number → comes_before_kept items p number ≡ true
    back b =
        let x : (x : PlacedPair) × Contains (last_pairs items) x × (x.pair ≡ p) × (place_of x.place ≡ b.place) = last_is_listed items p b.place b.stands in
        let few : kept_before x.0.place.item items ≤ number = subst (λ (z : Place). kept_before z.item items ≤ number) (sym x.3) b.before in
        any_of (is_before_number items p number) (last_pairs items) x.0 x.1 (and_from (same_pair x.0.pair p) (nat_le (kept_before x.0.place.item items) number) (is_pair x.0.pair p x.2) (le-leb (kept_before x.0.place.item items) number few))

-- ---- Two tests that differ

pub differ_is : (a b : Bool) (P Q : Type 0) → ((a ≡ true) ↔ P) → ((b ≡ true) ↔ Q) → (not (beq a b) ≡ true) ↔ Differ P Q
differ_is true true P Q f g = (λ h. absurd (false≢true h), neither)
  where
    neither : Differ P Q → not (beq true true) ≡ true
    neither (inl w) = absurd (w.1 (g.0 refl))
    neither (inr w) = absurd (w.0 (f.0 refl))
differ_is true false P Q f g = (λ h. inl (f.0 refl, λ q. false≢true (g.1 q)), λ h. refl)
differ_is false true P Q f g = (λ h. inr (λ p. false≢true (f.1 p), g.0 refl), λ h. refl)
differ_is false false P Q f g = (λ h. absurd (false≢true h), neither)
  where
    neither : Differ P Q → not (beq false false) ≡ true
    neither (inl w) = absurd (false≢true (f.1 w.0))
    neither (inr w) = absurd (false≢true (g.1 w.1))
