-- How many steps are stopped (own).
use Rattle.std.specs.Prelude.{◌≡◌, List, None, length}
use Rattle.std.specs.List.{AllByRecursion, AllZip, flat_map}
use Rattle.blockers_text.specs.Planned.{IsPlanned, Planned, all_weighed}
use Rattle.blockers_text.specs.Tallies.{total}
use Rattle.merge_plan.specs.Blocked.{AreBlockedSteps, BlockedStep}
use Rattle.overlap.specs.PairsParts as overlap
use Rattle.step_laws.specs.Free.{Answered}

-- these are the steps of a planned level that would save bytes, each with what blocks it by some answers
abbrev pub AreListed : Planned → List BlockedStep → Type 0
AreListed p found = (answers : List overlap.Answered) × AreBlockedSteps answers p.level.source p.items found

-- The first line counts a step for each one that is listed as blocked in the planned levels.
abbrev pub EachBlockedStepIsCounted : Type 0
EachBlockedStepIsCounted = (answers : List Answered) (levels : List Planned) (found : List (List BlockedStep)) → AllByRecursion (IsPlanned answers) levels → AllZip AreListed levels found →
    (total None (all_weighed answers levels)).steps ≡ length (flat_map (λ blocked. blocked) found)
