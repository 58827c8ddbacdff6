use Rattle.std.proofs.Common.{List, ℕ, ◌≤◌, ◌++◌, length, sym, ap, ap₂, subst, ◌∙◌}
use Rattle.blockers_text.proofs.level.tell_items.Goals as goal
use Rattle.blockers_text.specs.Lines.{ranked_with}
use Rattle.css_model.specs.declared.sheet.Item.{Item}
use Rattle.css_model.specs.Sheets.Limits.{max_bytes}
use Rattle.css_model.specs.Sheets.Sound.{IsSound}

pub push_items-requires-clause-length : goal.push_items-requires-clause-length
push_items-requires-clause-length c =
    let level = c.args.level.now in
    subst (λ (source : List ℕ). length source ≤ max_bytes) (sym c.in_ok-reading.ensures) (c.read_keeps_the_limits.ensures level.source.now level.sheet.now.items c.requires.read).0

pub push_items-requires-clause-sound : goal.push_items-requires-clause-sound
push_items-requires-clause-sound c =
    subst (λ (source : List ℕ). IsSound source c.items_of.result.now) (sym c.in_ok-reading.ensures) (subst (IsSound c.args.level.now.source.now) (sym c.items_of.ensures) c.requires.sound)

pub push_items-requires-clause-many : goal.push_items-requires-clause-many
push_items-requires-clause-many c = c.requires.many ∙ ap length (sym c.items_of.ensures)

pub returns : goal.returns
returns c =
    c.in_ok-push_items.ensures
    ∙ ap₂ (λ (source : List ℕ) (items : List Item). c.args.ranked.now.items
    ++ ranked_with (record { text = c.args.lines.now.text.now; start = c.args.level.now.start; source = source; items = items }) c.args.tallies.now) c.in_ok-reading.ensures c.items_of.ensures
