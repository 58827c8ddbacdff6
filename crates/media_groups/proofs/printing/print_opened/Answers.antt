use Rattle.std.proofs.Common.{sym, subst, ap, ◌∙◌}
use Rattle.css_model.specs.Sheets.SheetParts.{SheetParts}
use Rattle.css_model.specs.Sheets.Sound.{IsSound}
use Rattle.media_groups.proofs.printing.print_opened.Goals as goal

pub put_items-requires-clause-sound : goal.put_items-requires-clause-sound
put_items-requires-clause-sound c =
    subst (IsSound c.args.reading.now.source.now) (sym (c.as_slice.ensures.value ∙ ap (λ (t : SheetParts). t.items) c.sheet.view_is)) c.requires.sound
