use Rattle.std.proofs.Common.{subst, sym}
use Rattle.css_model.specs.Sheets.Sound.{IsSound}
use Rattle.lint_text.specs.Findings.{Seen}
use Rattle.lint_text.proofs.searching.find_in_level.Goals as goal

pub find_in_items-requires-clause-sound : goal.find_in_items-requires-clause-sound
find_in_items-requires-clause-sound c =
    subst (λ (l : Seen). IsSound l.source c.args.items.now) (sym c.new-level.ensures) (c.read_is_sound.ensures c.args.source.now c.args.items.now c.requires)
