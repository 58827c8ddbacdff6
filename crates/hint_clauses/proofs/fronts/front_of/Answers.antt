use Rattle.hint_clauses.proofs.Fronting.{row_digits}
use Rattle.hint_clauses.proofs.fronts.front_of.Goals as goal

pub returns-clause-front : goal.returns-clause-front
returns-clause-front c = λ v more. record {
  own = c.in_ok-own.ensures.in_range v more;
  other = c.in_ok-other.ensures.in_range v more;
  digits = row_digits c.args.pair.now.numbering c.row_of-own_row.result c.args.p _ c.in_ok-own.ensures.value c.requires.pair.small.digits;
  step = c.joint_step-step.ensures.positive;
}
