use Rattle.std.proofs.Common.{sym, ◌∙◌}
use Rattle.planner.proofs.repeats.is_decl_again.Goals as goal
use Rattle.repeat_laws.proofs.ForCallers.{decl_again}

pub returns-in-Some : goal.returns-in-Some
returns-in-Some c = λ has. decl_again c.args.decls.now c.args.number c.in-Some.one.now c.in-Some.later.now (sym c.split_at.ensures.back ∙ c.in-Some.ensures.cases.0) (sym c.has_decl.ensures ∙ has)
