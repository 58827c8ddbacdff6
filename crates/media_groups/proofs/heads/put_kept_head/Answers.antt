use Rattle.std.proofs.Common.{sym, subst}
use Rattle.list_facts.proofs.Elements.{all_take}
use Rattle.std.specs.List.{position_or_len}
use Rattle.css_model.specs.Sheets.Items.{opens_block}
use Rattle.sheet_read.specs.Placed.{ArePlaced, IsPlaced}
use Rattle.media_groups.proofs.heads.put_kept_head.Goals as goal

pub put_tokens-requires : goal.put_tokens-requires
put_tokens-requires c =
    let source = c.args.reading.now.source.now in
    let tokens = c.tokens_in.result.now in
    subst (ArePlaced source) (sym c.before_block.ensures) (all_take (IsPlaced source) (position_or_len opens_block tokens) tokens c.tokens_in.ensures.placed)
