-- What is looked at, and what is told of it.
use Rattle.std.proofs.Common.{◌≡◌, ℕ, suc, ◌+◌, true, List, [], ◌∷◌, ◌++◌, map, Some, Result, Ok, Err, refl, sym, ap, ap₂, ◌∙◌, subst, append_assoc, arith}
use Rattle.std.specs.Prelude.{IfOk, slice_get}
use Rattle.std.specs.List.{AllByRecursion, filter, flat_map}
use Rattle.css_model.specs.declared.sheet.Item.{Item}
use Rattle.css_model.specs.declared.sheet.Item.TheVariants.{Rule, KeptRule, KeptBlock}
use Rattle.list_facts.proofs.Elements.{member}
use Rattle.list_facts.proofs.Members.{Contains-filter}
use Rattle.order_index.proofs.Afterwards.{edit_stands}
use Rattle.order_index.specs.Afterwards.{after, edit_at, moves}
use Rattle.order_index.specs.Listed.{HasAllReversed, IsKeptAt, IsMoving}
use Rattle.order_laws.specs.Edits.{Edit, Moved, edited, is_moved}
use Rattle.order_laws.specs.Members.{has_number}
use Rattle.order_laws.specs.Places.{ListedStandsLast, PlacedPair, last_pairs_from}
use Rattle.order_laws.specs.Reversed.{Reversal, ascending, is_reversed, is_reversed_kept, kept_from, moved_pairs, reversed, reversed_with, with_kept, with_pair}
use Rattle.selector_laws.specs.Limits.{KeepsLimits, ReadSelectorsKeepTheLimits}
use Rattle.sheet_order.proofs.ForCallers.{all_members, moved_is, moved_limited, planned_limited}
use Rattle.overlap.specs.PairsParts.{Answered}
use Rattle.sheet_order.specs.Allowing.{IsAllowed}
use Rattle.sheet_order.specs.declared.permitting.Allowed.{Allowed}
use Rattle.sheet_order.specs.declared.places.Reversed as places
use Rattle.sheet_order.specs.Narrow.{CanBePlanned}
use Rattle.sheet_order.specs.Places.{entry_of}
use Rattle.sheet_order.specs.Taking.{moved_in, moved_of}
use Rattle.step_laws.specs.declared.step.Step.{Step}
use Rattle.step_laws.specs.Steps.{IsStep}

-- ---- Kept items

kept_in : (whole : List Item) (n : ℕ) (items : List Item) → ((i : ℕ) (x : Item) → slice_get items i ≡ Some x → slice_get whole (n + i) ≡ Some x) → AllByRecursion (IsKeptAt whole) (kept_from n items)
kept_in whole n [] at = tt
kept_in whole n (item ∷ items) at = which item (at 0 item refl) (kept_in whole (suc n) items (λ i x h. let e : n + suc i ≡ suc n + i = omega arith in ap (slice_get whole) (sym e) ∙ at (suc i) x h))
  where
    which : (x : Item) → slice_get whole (n + 0) ≡ Some x → AllByRecursion (IsKeptAt whole) (kept_from (suc n) items) → AllByRecursion (IsKeptAt whole) (kept_from n (x ∷ items))
    which (Rule r) here rest = rest
    which (KeptRule k) here rest = (let e : n + 0 ≡ n = omega arith in record { at = ap (slice_get whole) (sym e) ∙ here; kept = refl }, rest)
    which (KeptBlock k) here rest = (let e : n + 0 ≡ n = omega arith in record { at = ap (slice_get whole) (sym e) ∙ here; kept = refl }, rest)

pub all_kept : (items : List Item) → AllByRecursion (IsKeptAt items) (kept_from 0 items)
all_kept items = kept_in items 0 items (λ i x h. let e : 0 + i ≡ i = omega arith in ap (slice_get items) e ∙ h)

-- ---- Moved pairs

pub all_moving : ListedStandsLast → ReadSelectorsKeepTheLimits → (items : List Item) → CanBePlanned items → (k : Step) → IsStep items k (edit_at items k) → AllByRecursion (IsMoving items k) (moved_pairs items (moved_in items (moved_of k)))
all_moving law limits items planned k is =
    all_members (IsMoving items k) (moved_pairs items m) (λ p h. record {
      limited = member (λ q. KeepsLimits q.pair.selector) (moved_pairs items m) p (moved_limited law items m (planned_limited limits items planned)) h;
      moved = subst (λ (x : Moved). is_moved x p.pair ≡ true) (moved_is items k (edit_at items k) is) (Contains-filter (λ q. is_moved m q.pair) (last_pairs_from (has_number m.out_of) 0 items) p h).1;
    })
  where
    m : Moved
    m = moved_in items (moved_of k)

-- ---- The entries

-- those of a moved pair, among some pairs
pub entries_with : (items : List Item) (k : Step) (p : PlacedPair) → moves items k p.pair ≡ true → (pairs : List PlacedPair) → HasAllReversed items k pairs → (kept : List (ℕ × Item)) → kept ≡ kept_from 0 items → (first second third : List Reversal) →
    second ≡ first ++ map (with_pair p) (filter (λ q. is_reversed items (after items k) p.pair q.pair) pairs) → third ≡ second ++ map (with_kept p) (filter (is_reversed_kept items (after items k) p.pair) kept) →
    third ≡ first ++ reversed_with items (after items k) p
entries_with items k p moved pairs all kept kept_is first second third second_is third_is =
    third_is
    ∙ ap (λ xs. xs ++ map (with_kept p) (filter (is_reversed_kept items (after items k) p.pair) kept)) second_is
    ∙ append_assoc first (map (with_pair p) (filter (λ q. is_reversed items (after items k) p.pair q.pair) pairs)) (map (with_kept p) (filter (is_reversed_kept items (after items k) p.pair) kept))
    ∙ ap₂ (λ (xs : List PlacedPair) (ks : List (ℕ × Item)). first ++ (map (with_pair p) xs ++ map (with_kept p) (filter (is_reversed_kept items (after items k) p.pair) ks))) (all p.pair moved) kept_is

-- all of them, in their order
pub sorted_is : (items : List Item) (k : Step) → IsStep items k (edit_at items k) → (found sorted : List Reversal) (pairs : List PlacedPair) → pairs ≡ moved_pairs items (moved_in items (moved_of k)) →
    found ≡ flat_map (reversed_with items (after items k)) pairs → sorted ≡ ascending found → sorted ≡ reversed items (after items k) (edit_at items k).moved
sorted_is items k is found sorted pairs pairs_are found_is put =
    put ∙ ap ascending found_is ∙ ap (λ xs. ascending (flat_map (reversed_with items (after items k)) xs)) pairs_are
    ∙ ap (λ (m : Moved). reversed items (after items k) m) (moved_is items k (edit_at items k) is)

-- for each edit that the step is
pub for_edit : (items : List Item) (k : Step) (e : Edit) → IsStep items k e → reversed items (after items k) (edit_at items k).moved ≡ reversed items (edited e items) e.moved
for_edit items k e is = ap (λ (d : Edit). reversed items (edited d items) d.moved) (edit_stands items k e is)

-- what is told of the entries is told of those for each edit
pub allowed_for : {E : Type 0} (r : Result Allowed E) (answers : List Answered) (items : List Item) (k : Step) (entries : List Reversal) → entries ≡ reversed items (after items k) (edit_at items k).moved → IfOk r (λ a. IsAllowed answers entries a) →
    IfOk r (λ a. (e : Edit) → IsStep items k e → IsAllowed answers (reversed items (edited e items) e.moved) a)
allowed_for (Ok a) answers items k entries is h = λ e step. subst (λ (rs : List Reversal). IsAllowed answers rs a) (is ∙ for_edit items k e step) h
allowed_for (Err x) answers items k entries is h = tt

pub listed_for : {X E : Type 0} (r : Result X E) (list_of : X → List places.Reversed) (items : List Item) (k : Step) (entries : List Reversal) → entries ≡ reversed items (after items k) (edit_at items k).moved → IfOk r (λ x. list_of x ≡ map entry_of entries) →
    IfOk r (λ x. (e : Edit) → IsStep items k e → list_of x ≡ map entry_of (reversed items (edited e items) e.moved))
listed_for (Ok x) list_of items k entries is h = λ e step. h ∙ ap (map entry_of) (is ∙ for_edit items k e step)
listed_for (Err x) list_of items k entries is h = tt
