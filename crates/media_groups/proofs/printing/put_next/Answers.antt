use Rattle.std.proofs.Common.{ℕ, List, ◌++◌, sym, ap, ◌∙◌}
use Rattle.media_groups.specs.Printed.{IsSoundBody}
use Rattle.media_groups.proofs.Texts.{first_sound, block_next}
use Rattle.media_groups.proofs.printing.put_next.Goals as goal

pub put_block-requires : goal.put_block-requires
put_block-requires c =
    first_sound (IsSoundBody c.args.reading.now.source.now) c.args.media.now c.args.bodies.now c.in-Some-Some.block.now c.in-Some-Some.body.now c.requires.bodies
    c.in-Some-Some.ensures.value c.in-Some-Some.ensures'.value

pub returns-then-begins_at-clause-text : goal.returns-then-begins_at-clause-text
returns-then-begins_at-clause-text c =
    c.in_ok-put_block.ensures
    ∙ ap (λ (t : List ℕ). c.args.out.now.items ++ t)
    (sym (block_next c.args.reading.now.source.now c.args.media.now c.args.bodies.now c.in-Some-Some.block.now c.in-Some-Some.body.now c.args.item.now
    c.in-Some-Some.ensures.value c.in-Some-Some.ensures'.value (sym c.begins_at.ensures ∙ c.if-begins_at.true)))
