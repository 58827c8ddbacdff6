use Rattle.std.proofs.Common.{sym, ◌∙◌, arith}
use Rattle.sheet_same.proofs.FirstLacking.{not_here, is_here}
use Rattle.sheet_same.proofs.lacking.first_lacking.Goals as goal

pub loop-member-preserved : goal.loop-member-preserved
loop-member-preserved c =
    not_here c.args.pairs.now c.args.members.now c.loop-member.member-index c.member-item.result (omega arith) c.member-item.is
    (sym c.lacking.ensures ∙ c.in_default.is) c.loop-member.invariant

pub returns-in-Some : goal.returns-in-Some
returns-in-Some c =
    is_here c.args.pairs.now c.args.members.now c.loop-member.member-index c.member-item.result (omega arith) c.member-item.is
    c.in-Some.place (sym c.lacking.ensures ∙ c.in-Some.is) c.loop-member.invariant
