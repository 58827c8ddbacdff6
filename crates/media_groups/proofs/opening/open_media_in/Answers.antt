use Rattle.std.proofs.Common.{◌≤◌, List, length, sym, subst, ap, ◌∙◌}
use Rattle.css_model.specs.declared.limits.TheConstants.{MAX_ITEMS}
use Rattle.css_model.specs.declared.sheet.Item.{Item}
use Rattle.css_model.specs.Sheets.SheetParts.{SheetParts}
use Rattle.media_groups.proofs.Counts.{read_facts}
use Rattle.media_groups.proofs.opening.open_media_in.Goals as goal

pub opened_of-requires : goal.opened_of-requires
opened_of-requires c = subst (λ (items : List Item). length items ≤ MAX_ITEMS) (sym (c.as_slice.ensures.value ∙ ap (λ (t : SheetParts). t.items) c.sheet.view_is)) (read_facts c.args.reading.now.source.now c.args.sheet.now.items c.requires).few
