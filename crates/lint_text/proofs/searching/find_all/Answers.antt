use Rattle.std.proofs.Common.{◌∙◌, ap}
use Rattle.dead_sel.specs.Held.{is_dead}
use Rattle.lint_text.proofs.Found.{all_found}
use Rattle.lint_text.proofs.searching.find_all.Goals as goal

pub returns : goal.returns
returns c =
    all_found (is_dead c.args.pairs.now.answers) c.args.text.now c.in_ok-lines.lines.text.now c.args.sheet.now.items c.deref.result.now c.args.media.now c.new-found.result.items c.find_in_level.new.found.items c.find_in_bodies.new.found.items
    c.in_ok-lines.ensures (c.deref.ensures.value ∙ ap (λ s. s.items) c.sheet.view_is) c.requires.blocks c.new-found.ensures.items c.in_ok-find_in_level.ensures c.in_ok-find_in_bodies.ensures
