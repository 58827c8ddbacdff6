use Rattle.std.proofs.Common.{arith}
use Rattle.related_props.proofs.Words.{same_from_agrees}
use Rattle.related_props.proofs.table.is_word.Goals as goal

pub returns-then-text-word : goal.returns-then-text-word
returns-then-text-word c = grind (arith, same_from_agrees c.args.text.now c.args.word.now)
