use Rattle.std.proofs.Common.{List, ℕ, sym, subst}
use Rattle.css_model.specs.Sheets.Sound.{IsSound}
use Rattle.merge_text.proofs.planned.print_planned.Goals as goal
use Rattle.merge_text.proofs.Told.{printed_alike, printed_plain, sheet_sound}

pub print_sheet-requires-clause-sound : goal.print_sheet-requires-clause-sound
print_sheet-requires-clause-sound g c = sheet_sound c.read_keeps_the_limits.ensures c.leading_makes_of.ensures c.read_is_sound.ensures c.requires.from.0 (g.O.Obstacles.answers c.args.obstacles.now) c.args.source.now c.args.planned.now c.requires.from.1

pub print_opened-requires-clause-sound : goal.print_opened-requires-clause-sound
print_opened-requires-clause-sound g c =
    subst (λ (source : List ℕ). IsSound source c.args.planned.now.sheet.items) (sym (rw c.in-Some.is at c.requires.source))
    (sheet_sound c.read_keeps_the_limits.ensures c.leading_makes_of.ensures c.read_is_sound.ensures c.requires.from.0 (g.O.Obstacles.answers c.args.obstacles.now) c.args.source.now c.args.planned.now c.requires.from.1)

pub returns-in-None : goal.returns-in-None
returns-in-None g c =
    printed_alike c.print_sheet.result (λ text. text.items) c.args.source.now c.args.planned.now.sheet.items _
    (printed_plain c.requires.from.0 (g.O.Obstacles.answers c.args.obstacles.now) c.args.source.now c.args.planned.now c.requires.from.1 (c.requires.none c.in-None.is))
    c.print_sheet.ensures
