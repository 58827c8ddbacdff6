-- One moved pair and what it is looked at with.
use Rattle.std.proofs.Common.{◌≡◌, ℕ, false, true, not, List, Some, sym, ◌∙◌, subst}
use Rattle.std.specs.Bool.{beq}
use Rattle.std.specs.Prelude.{slice_get}
use Rattle.std.specs.List.{Contains}
use Rattle.std.proofs.lemmas.Bool.{and_parts, false≢true}
use Rattle.cascade_laws.proofs.ForCallers.{some-same}
use Rattle.css_model.specs.declared.sheet.Item.{Item}
use Rattle.css_model.specs.Sheets.KeptItems.{kept_before}
use Rattle.order_index.proofs.Classes.{entry_far, entry_is, is_entry}
use Rattle.order_index.proofs.EntryFacts.{kept_of_entry, pair_of_entry}
use Rattle.order_index.proofs.Telling.{told_as}
use Rattle.order_index.specs.Afterwards.{after}
use Rattle.order_index.specs.Told.{IsOfMoved, IsToldOf, moved_by, reversed_by}
use Rattle.order_laws.specs.Comparing.{OrderIsDecided, WeighingIsDecided, comes_before, comes_before_kept, weigh, weighs_kept}
use Rattle.order_laws.specs.Places.{ListedStandsLast, PlacedPair}
use Rattle.order_laws.specs.Reversed.{AnotherPair, KeptAt, ListedIsReversed, Other, Reversal, distance, other_place}
use Rattle.overlap.specs.PairsParts.{Answered}
use Rattle.sheet_order.specs.declared.permitting.Allowed.{Allowed}
use Rattle.step_laws.specs.declared.step.Step.{Step}

module _ (items : List Item) (k : Step) (n : ℕ) (p : PlacedPair) (at : slice_get (moved_by items k) n ≡ Some p) (far : ℕ) where
  -- it is not so far
  pub not_far : (o : Other) → (distance (other_place o).item p.place.item ≡ far → ⊥) → (r : Reversal) → Contains (reversed_by items k) r → IsOfMoved (moved_by items k) o far n r → ⊥
  not_far o other r there of = other (entry_far items k o far n p at r of)

  -- what is told of the entry is told of its number
  pub number_told : (o : Other) → distance (other_place o).item p.place.item ≡ far → (answers : List Answered) (a : Allowed) → IsToldOf answers (reversed_by items k) (λ r. r ≡ record { moved = p; other = o }) a →
      IsToldOf answers (reversed_by items k) (IsOfMoved (moved_by items k) o far n) a
  number_told o is answers a = told_as answers (reversed_by items k) (λ r. r ≡ record { moved = p; other = o }) (IsOfMoved (moved_by items k) o far n) (λ r there same. is_entry items k o far n p at is r same) (λ r there of. entry_is items k o far n p at r of) a

  module _ (listed : ListedIsReversed) (stands : ListedStandsLast) (weighing : WeighingIsDecided) (order : OrderIsDecided) where
    -- what does not weigh is no entry
    pub light : (q : PlacedPair) → weigh p.pair q.pair ≡ false → (r : Reversal) → Contains (reversed_by items k) r → IsOfMoved (moved_by items k) (AnotherPair q) far n r → ⊥
    light q none r there of =
        let h = pair_of_entry listed stands items k weighing order p q (subst (λ (x : Reversal). Contains (reversed_by items k) x) (entry_is items k (AnotherPair q) far n p at r of) there) in
        false≢true (sym none ∙ (and_parts (weigh p.pair q.pair) (not (beq (comes_before items p.pair q.pair) (comes_before (after items k) p.pair q.pair))) h.1).0)

    pub light_kept : (i : ℕ) (item : Item) → slice_get items i ≡ Some item → weighs_kept p.pair item ≡ false → (r : Reversal) → Contains (reversed_by items k) r → IsOfMoved (moved_by items k) (KeptAt i) far n r → ⊥
    light_kept i item i_at none r there of =
        let h = kept_of_entry listed stands items k weighing order p i (subst (λ (x : Reversal). Contains (reversed_by items k) x) (entry_is items k (KeptAt i) far n p at r of) there) in
        let same : h.0 ≡ item = some-same (sym h.1 ∙ i_at) in
        false≢true (sym none ∙ subst (λ (x : Item). weighs_kept p.pair x ≡ true) same (and_parts (weighs_kept p.pair h.0) (not (beq (comes_before_kept items p.pair (kept_before i items)) (comes_before_kept (after items k) p.pair (kept_before i items)))) h.3).0)
