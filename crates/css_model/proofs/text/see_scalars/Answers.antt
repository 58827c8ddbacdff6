use Rattle.std.proofs.Common.{subst, arith}
use Rattle.std.specs.List.{All}
use Rattle.std.specs.Char.{IsScalar}
use Rattle.std.proofs.lemmas.List.{take_all}
use Rattle.std.proofs.lemmas.List.Elements.{All-more, at_read}
use Rattle.css_model.proofs.text.see_scalars.Goals as goal

pub loop-c-preserved : goal.loop-c-preserved
loop-c-preserved c =
    All-more IsScalar c.args.codes.now c.loop-c.c-index 0 (omega arith) c.loop-c.invariant
    (at_read c.args.codes.now IsScalar c.loop-c.c-index c.c-item.result (omega arith) c.c-item.is c.see.ensures 0)

pub returns : goal.returns
returns c = subst (All IsScalar) (take_all c.loop-c.c-index c.args.codes.now (omega arith)) c.loop-c.invariant
