use Rattle.std.proofs.Common.{ℕ, length}
use Rattle.std.specs.List.{Contains}
use Rattle.std.specs.List.Sorted.{IsStrictlyIncreasing}
use Rattle.next_step.specs.Kinds.{IsSelectorJoin}
use Rattle.next_step.specs.Viewed.{Grows}
use Rattle.next_step.proofs.LaterOrderKeys.{AreCovered}
use Rattle.next_step.proofs.by_selectors.try_side.Given as goal

abbrev pub invariant-rest : goal.invariant-rest
invariant-rest l = record {
  grows : Grows l.view l.fn.found l.found;
  covers : AreCovered l.view l.focus.number IsSelectorJoin l.found l.initial.rest l.rest;
  within : (x : ℕ) → Contains l.rest x → Contains l.initial.rest x;
  ascends : IsStrictlyIncreasing l.rest;
}

abbrev pub decreases-rest : goal.decreases-rest
decreases-rest l = length l.rest
