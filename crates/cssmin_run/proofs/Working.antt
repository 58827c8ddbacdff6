-- A merged text with a bound of the work, or without one.
use Rattle.std.proofs.Common.{◌≡◌, ℕ, Bool, false, List, Option, None, Some, Result, Err, Ok, map, sym, subst}
use Rattle.std.specs.Prelude.{IfOk}
use Rattle.planner.specs.Working.{spent_of}
use Rattle.merge_text.specs.declared.merged.MergedText.{MergedText}
use Rattle.opened_merge_laws.specs.Merged.{IsMergedWithin}
use Rattle.opened_merge_laws.specs.Told.{IsToldWithin}
use Rattle.overlap.specs.PairsParts.{PairsParts}
use Rattle.sheet_order.specs.Laws.{answer_seen}
use Rattle.cssmin_run.specs.Commands.Min.{IsMergedBy, Merges, MergesBy, MergesWithin}

-- where no work was spent the text is as without a bound
pub done_was : (work budget : Option ℕ) (read : List ℕ) (pairs : PairsParts) (m : MergedText) → spent_of work m.spent ≡ None → IsMergedBy work budget read pairs m → IsMergedBy None budget read pairs m
done_was work budget read pairs m none by = record {
  same_budget = by.same_budget;
  merged = subst (λ (spent : Option ℕ). IsMergedWithin spent (map answer_seen pairs.answers) read m.text.items) none by.merged;
  told = subst (λ (spent : Option ℕ). IsToldWithin spent (map answer_seen pairs.answers) read m.text.items m.read_items m.written_items m.taken) none by.told;
}

as_bounded : (work budget : Option ℕ) (asked : Bool) (read text report : List ℕ) (held : Option PairsParts) → Merges budget asked read text report held → MergesBy work budget asked read text report held
as_bounded None budget asked read text report held m = m
as_bounded (Some work) budget asked read text report held m = record {
  pairs = m.pairs;
  held_is = m.held_is;
  same_budget = m.same_budget;
  all_true = m.all_true;
  spent = false;
  merged = m.merged;
  told = m.told;
}

module _ {X E : Type 0} (result : Result X E) (text report : X → List ℕ) (held : X → Option PairsParts) where
  -- what is told of it
  pub done_by : (work budget : Option ℕ) (asked : Bool) (read : List ℕ) → IfOk result (λ x. Merges budget asked read (text x) (report x) (held x)) →
      IfOk result (λ x. MergesBy work budget asked read (text x) (report x) (held x))
  done_by work budget asked read made = which result made
    where
      which : (r : Result X E) → IfOk r (λ x. Merges budget asked read (text x) (report x) (held x)) → IfOk r (λ x. MergesBy work budget asked read (text x) (report x) (held x))
      which (Ok x) made = as_bounded work budget asked read (text x) (report x) (held x) made
      which (Err e) made = tt

  -- and where it was
  pub spent_by : (work budget : Option ℕ) (asked : Bool) (read : List ℕ) (pairs : PairsParts) (m : MergedText) (n : ℕ) → work ≡ Some n → IsMergedBy work budget read pairs m →
      IfOk result (λ x. (w : ℕ) (b : Option ℕ) → IsMergedBy (Some w) b read pairs m → MergesWithin w b asked read (text x) (report x) (held x)) →
      IfOk result (λ x. MergesBy work budget asked read (text x) (report x) (held x))
  spent_by work budget asked read pairs m n is by made = which result made
    where
      which : (r : Result X E) → IfOk r (λ x. (w : ℕ) (b : Option ℕ) → IsMergedBy (Some w) b read pairs m → MergesWithin w b asked read (text x) (report x) (held x)) →
          IfOk r (λ x. MergesBy work budget asked read (text x) (report x) (held x))
      which (Ok x) made =
          subst (λ (w : Option ℕ). MergesBy w budget asked read (text x) (report x) (held x)) (sym is) (made n budget (subst (λ (w : Option ℕ). IsMergedBy w budget read pairs m) is by))
      which (Err e) made = tt
