use Rattle.std.proofs.Common.{◌∙◌}
use Rattle.rup_check.proofs.TextLemmas.{lines-more}
use Rattle.rup_check.proofs.print.push_formula.Goals as goal

pub loop-k-preserved : goal.loop-k-preserved
loop-k-preserved c =
    lines-more c.args.f.now.clauses c.loop-k.k c.clause.result.now c.loop-k.text.items c.push_line.new.text.items c.clause.ensures.clause c.in_ok-push_line.ensures
    ∙ c.loop-k.invariant
