use Rattle.std.proofs.Common.{sym, ◌∙◌}
use Rattle.std.proofs.lemmas.List.{nil_from_length}
use Rattle.next_step.proofs.Repeats.{more_once, none_stand}
use Rattle.next_step.proofs.cuts.doubles.are_selectors_different.Goals as goal

pub rest-init : goal.rest-init
rest-init c = λ once. once

pub rest-preserved : goal.rest-preserved
rest-preserved c = λ once. c.rest.invariant (more_once c.rest.rest.now c.in-Some.behind.now c.in-Some.first.now c.in-Some.ensures.cases.0 (sym c.has_selector.ensures ∙ c.if-has_selector.false) once)

pub returns : goal.returns
returns c = λ _. c.rest.invariant (none_stand c.rest.rest.now (nil_from_length c.rest.rest.now (rw c.in_default.is at c.split_first.ensures.cases)))
