use Rattle.std.proofs.Common.{◌∙◌, sym, ap}
use Rattle.std.specs.List.{list_any}
use Rattle.css_model.specs.Sheets.SheetParts.{SheetParts}
use Rattle.merge_text.proofs.planned.blocks_of.Goals as goal
use Rattle.merge_text.proofs.Told.{none_opened}
use Rattle.merge_text.specs.Counts.{is_block}

pub returns-then-not-has_block-clause-media : goal.returns-then-not-has_block-clause-media
returns-then-not-has_block-clause-media c =
    c.new.ensures.items ∙ sym (none_opened c.args.source.now c.args.sheet.now.items (ap (list_any is_block) (sym (c.as_slice.ensures.value ∙ ap (λ (t : SheetParts). t.items) c.sheet.view_is)) ∙ sym c.has_block.ensures ∙ c.if-not-has_block.true))
