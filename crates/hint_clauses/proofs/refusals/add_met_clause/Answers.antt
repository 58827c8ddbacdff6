use Rattle.std.proofs.Common.{sym, ◌∙◌}
use Rattle.hint_clauses.proofs.Failing.{met_here, met_out}
use Rattle.hint_clauses.proofs.refusals.add_met_clause.Goals as goal

pub returns-then-not-is_met : goal.returns-then-not-is_met
returns-then-not-is_met c = met_out c.args.count c.args.far c.args.rest c.args.lits.now c.args.joint c.args.f.now (sym c.is_met.ensures ∙ c.if-not-is_met.true)

pub returns : goal.returns
returns c = met_here c.args.count c.args.far c.args.rest c.args.lits.now c.args.joint c.args.f.now _ (sym c.is_met.ensures ∙ c.if-not-is_met.false) c.in_ok-add_given_clause.ensures
