use Rattle.std.proofs.Common.{List, ap, inl, inr, sym, subst, ◌∙◌}
use Rattle.indexed_sheet.proofs.indexed.IndexedSheet.note.Goals as goal
use Rattle.indexed_sheet.proofs.Learnt.{known_more}
use Rattle.indexed_sheet.specs.IndexedParts.{IndexedParts}
use Rattle.indexed_sheet.specs.declared.facts.Facts.{Facts}
use Rattle.indexed_sheet.specs.Facts.{AreTrueOf, by_either, facts_under}

pub invariant_of-self : goal.invariant_of-self
invariant_of-self c =
    known_more c.self.inside.marked c.self.inside.facts.items c.learn.new.facts.items c.args.number c.mark-item_id.result c.args.facts c.marks.ensures.are_marks c.self.invariant c.mark-item_id.ensures
    (subst (λ (b : IndexedParts). AreTrueOf b.items c.args.number c.args.facts) (sym c.self.view_is) c.requires)
    (inl (c.in_ok-learn.ensures.own ∙ c.by_either-known.ensures
    ∙ ap (λ (f : Facts). by_either f c.args.facts) (c.facts_under.ensures ∙ ap (λ (known : List Facts). facts_under known c.mark-item_id.result.item_id) c.deref.ensures.value)))
    c.learn.ensures.others c.learn.ensures.few

pub invariant_of-self-in_err-learn : goal.invariant_of-self-in_err-learn
invariant_of-self-in_err-learn c =
    known_more c.self.inside.marked c.self.inside.facts.items c.learn.new.facts.items c.args.number c.mark-item_id.result c.args.facts c.marks.ensures.are_marks c.self.invariant c.mark-item_id.ensures
    (subst (λ (b : IndexedParts). AreTrueOf b.items c.args.number c.args.facts) (sym c.self.view_is) c.requires)
    (inr c.in_err-learn.ensures.own_stays) c.learn.ensures.others c.learn.ensures.few
