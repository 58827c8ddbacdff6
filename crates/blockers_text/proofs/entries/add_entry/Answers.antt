use Rattle.std.proofs.Common.{ℕ, Bool, List, false, get_or, sym, ap, ◌∙◌}
use Rattle.blockers_text.proofs.Finding.{adds_known}
use Rattle.blockers_text.proofs.entries.add_entry.Goals as goal
use Rattle.blockers_text.specs.Stopping.{item_of}

pub add_new-requires-clause-unnamed : goal.add_new-requires-clause-unnamed
add_new-requires-clause-unnamed c =
    sym (c.requires.marked.are (item_of c.args.entry.now)) ∙ ap (λ (n : ℕ). get_or c.args.marks.now.items n false) (sym c.item_of.ensures)
    ∙ ap (λ (marks : List Bool). get_or marks c.item_of.result false) (sym c.deref.ensures.value) ∙ sym c.is_marked.ensures ∙ c.if-is_marked.false

pub returns-then-is_marked-clause-adds : goal.returns-then-is_marked-clause-adds
returns-then-is_marked-clause-adds c = λ later is.
    adds_known later c.args.items.now c.args.found.now.items c.args.entry.now
    (sym (c.requires.marked.are (item_of c.args.entry.now)) ∙ ap (λ (n : ℕ). get_or c.args.marks.now.items n false) (sym c.item_of.ensures)
    ∙ ap (λ (marks : List Bool). get_or marks c.item_of.result false) (sym c.deref.ensures.value) ∙ sym c.is_marked.ensures ∙ c.if-is_marked.true)
