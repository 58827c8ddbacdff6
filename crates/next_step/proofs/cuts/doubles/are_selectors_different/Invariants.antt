use Rattle.std.proofs.Common.{length}
use Rattle.css_model.specs.declared.sheet.SelItem.{SelItem}
use Rattle.next_step.specs.Once.{StandOnce}
use Rattle.next_step.proofs.cuts.doubles.are_selectors_different.Given as goal

-- all stand once if those that are left do
abbrev pub invariant-rest : goal.invariant-rest
invariant-rest l = StandOnce (λ (x : SelItem). x.selector) l.rest → StandOnce (λ (x : SelItem). x.selector) l.initial.rest

abbrev pub decreases-rest : goal.decreases-rest
decreases-rest l = length l.rest
