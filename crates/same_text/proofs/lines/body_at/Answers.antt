use Rattle.std.proofs.Common.{ap}
use Rattle.css_model.specs.Sheets.SheetParts.{SheetParts}
use Rattle.same_text.proofs.Printing.{block_at, is_block}
use Rattle.same_text.proofs.lines.body_at.Goals as goal

pub body_of-requires : goal.body_of-requires
body_of-requires c = is_block c.args.source.now c.args.media.now c.args.number c.index-media-number.result c.requires.all c.requires.below c.index-media-number.is

pub returns : goal.returns
returns c = record {
  block = c.index-media-number.result;
  at = block_at c.args.media.now c.args.number c.index-media-number.result c.requires.below c.index-media-number.is;
  text_is = c.body_of.ensures.source;
  items_is = ap (λ (s : SheetParts). s.items) c.body_of.ensures.sheet;
}
