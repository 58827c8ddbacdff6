use Rattle.std.proofs.Common.{sym, ◌∙◌, arith}
use Rattle.std.proofs.lemmas.Bool.{false≢true}
use Rattle.sat_watch.proofs.ForCallers.{backs-open}
use Rattle.rup_check.proofs.step.head_for.Goals as goal

pub returns : goal.returns
returns c =
    let es = c.args.trail.now.entries in
    let head = c.args.head in (
      omega arith,
      record {
        first = backs-open es head c.args.one c.args.other (λ m. false≢true (sym c.if-is_false.false ∙ (c.is_false.ensures ∙ m)));
        second = backs-open es head c.args.other c.args.one (λ m. false≢true (sym c.if-is_false-2.false ∙ (c.is_false-2.ensures ∙ m)));
      },
    )
