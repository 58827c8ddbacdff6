use Rattle.std.proofs.Common.{Bool, subst, sym}
use Rattle.blockers_text.proofs.Answered.{tells_held}
use Rattle.blockers_text.proofs.answers.known_other.Goals as goal
use Rattle.blockers_text.specs.Later.{TellsOther}

pub returns : goal.returns
returns c = λ later is.
    subst (λ (other : Bool). TellsOther later c.args.x.now c.args.y.now other) (sym c.says_other.ensures)
    (tells_held c.args.pairs.now.answers c.args.x.now c.args.y.now c.in-Some.answer.now later c.in-Some.ensures.known is)
