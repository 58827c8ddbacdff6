-- What remains in the sheet that was written is blocked, or the work was spent.
use Rattle.std.proofs.Common.{◌≡◌, ◌⊎◌, inl, inr, ℕ, List, Bool, true, false, map, Option, None, Some}
use Rattle.command_words.specs.Forms.{Min, form_of}
use Rattle.opened_merge_laws.specs.Merged.{IsMergedOpened, IsMergedWithin}
use Rattle.overlap.specs.PairsParts.{PairsParts}
use Rattle.overlap.specs.Remembered.{IsTrueList}
use Rattle.planner.specs.Working.{spent_of}
use Rattle.remaining_laws.specs.Remaining.{RemainingStepsAreBlocked}
use Rattle.sheet_order.specs.Laws.{answer_seen}
use Rattle.cssmin_run.specs.Change.{Change}
use Rattle.cssmin_run.specs.Commands.Cmp.{unasked}
use Rattle.cssmin_run.specs.Commands.Min.{MergesBy}
use Rattle.cssmin_run.specs.Remaining.{HasSpent, LeavesOnlyBlocked, LeavesOnlyBlockedBy}
use Rattle.cssmin_run.specs.Run.{Ran}
use Rattle.cssmin_run.specs.Tasks.{Did}
use Rattle.cssmin_run.specs.declared.status.Status.{Status}
use Rattle.cssmin_run.specs.declared.status.Status.TheVariants.{Done}
use Rattle.cssmin_run.proofs.Forms.{done_is}

-- where nothing is left to do
blocked : RemainingStepsAreBlocked → (budget : Option ℕ) (read text : List ℕ) (held : Option PairsParts) (pairs : PairsParts)
    → held ≡ Some pairs → pairs.budget ≡ (unasked budget).budget → ∥ IsTrueList pairs ∥₁ → IsMergedOpened (map answer_seen pairs.answers) read text → LeavesOnlyBlocked budget text held
blocked law budget read text held pairs held_is same_budget all_true merged = record {
  pairs = pairs;
  held_is = held_is;
  same_budget = same_budget;
  items = merged.again;
  written = merged.again_read;
  blocked = law pairs all_true read text merged.again merged merged.again_read;
}

left : RemainingStepsAreBlocked → (work budget : Option ℕ) (asked : Bool) (read text report : List ℕ) (held : Option PairsParts) → MergesBy work budget asked read text report held → LeavesOnlyBlockedBy work budget read text held
left law None budget asked read text report held m = blocked law budget read text held m.pairs m.held_is m.same_budget m.all_true m.merged
left law (Some work) budget asked read text report held m = by m.spent m.merged
  where
    by : (spent : Bool) → IsMergedWithin (spent_of (Some work) spent) (map answer_seen m.pairs.answers) read text → LeavesOnlyBlocked budget text held ⊎ HasSpent work read text held
    by true merged = inr (record { pairs = m.pairs; held_is = m.held_is; merged = merged })
    by false merged = inl (blocked law budget read text held m.pairs m.held_is m.same_budget m.all_true merged)

pub remaining : RemainingStepsAreBlocked → (words : List (List ℕ)) (budget work : Option ℕ) (asked : Bool) (status : Status) (input output err : Change) (held : Option PairsParts) → Ran words status input output err held
    → form_of words ≡ Some (Min budget work asked) → status ≡ Done → Did (λ read text report held. LeavesOnlyBlockedBy work budget read text held) input output err held
remaining law words budget work asked status input output err held ran min done =
    let did = done_is words budget work asked status input output err held ran min done in
    record {
      read = did.read;
      text = did.text;
      report = did.report;
      all_read = did.all_read;
      made = left law work budget asked did.read did.text did.report held did.made;
      added = did.added;
      told = did.told;
    }
