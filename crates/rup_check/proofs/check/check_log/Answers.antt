use Rattle.std.proofs.Common.{inl}
use Rattle.rup_check.proofs.LogLemmas.{each-all, forced-empty}
use Rattle.rup_check.proofs.check.check_log.Goals as goal

pub returns-then-has_empty : goal.returns-then-has_empty
returns-then-has_empty c =
    let empty = c.has_empty.ensures.0 c.if-has_empty.true in
    let formula = c.args.log.now.formula.clauses in
    record { forced = each-all formula c.args.log.now.steps.items (forced-empty formula empty); empty = inl empty }
