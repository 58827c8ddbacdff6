use Rattle.std.proofs.Common.{◌∙◌}
use Rattle.attr_values.proofs.Decisions.{part_is}
use Rattle.attr_values.proofs.passing.has_part.Goals as goal

pub returns : goal.returns
returns c = λ text v some bytes part.
    c.is_some.ensures ∙
    part_is text v c.as_bytes.result.now c.as_bytes-2.result.now c.find.result some (c.as_bytes.ensures.value ∙ bytes) (c.as_bytes-2.ensures.value ∙ part)
    c.as_bytes.ensures.utf8 c.as_bytes-2.ensures.utf8 c.find.ensures
