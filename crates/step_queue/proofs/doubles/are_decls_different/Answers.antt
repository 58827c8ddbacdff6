use Rattle.std.proofs.Common.{sym, ◌∙◌}
use Rattle.std.proofs.lemmas.Bool.{false≢true}
use Rattle.step_queue.proofs.Once.{more_once, not_once, once_behind}
use Rattle.step_queue.proofs.doubles.are_decls_different.Goals as goal

pub rest-preserved : goal.rest-preserved
rest-preserved c = (
  λ once. c.rest.invariant.0 (more_once c.rest.rest.now c.in-Some.behind.now c.in-Some.first.now c.in-Some.ensures.cases.0 (sym c.has_decl.ensures ∙ c.if-has_decl.false) once),
  λ once. once_behind c.rest.rest.now c.in-Some.behind.now c.in-Some.first.now c.in-Some.ensures.cases.0 (c.rest.invariant.1 once),
)

pub returns-then-has_decl : goal.returns-then-has_decl
returns-then-has_decl c = (
  λ lie. absurd (false≢true lie),
  λ once. absurd (not_once c.rest.rest.now c.in-Some.behind.now c.in-Some.first.now c.in-Some.ensures.cases.0 (sym c.has_decl.ensures ∙ c.if-has_decl.true) (c.rest.invariant.1 once)),
)
