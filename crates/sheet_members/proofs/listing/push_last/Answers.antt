use Rattle.std.proofs.Common.{◌++◌, ◌∷◌, [], sym, ap, ◌∙◌}
use Rattle.sheet_members.specs.Labels.{Label}
use Rattle.sheet_members.proofs.Listed.{put_back}
use Rattle.sheet_members.proofs.listing.push_last.Goals as goal

pub returns : goal.returns
returns c = λ others back.
    put_back others c.args.listed.now.keys c.put_listed.new.listed.keys c.args.found.now.items c.push.new.self.items c.args.o.now
    (sym (c.is_passed.ensures others back.listed) ∙ c.if-is_passed.false) back (c.in_ok-put_listed.ensures others back.listed)
    (c.in_ok-push.ensures.items
    ∙ ap (λ (l : Label). c.args.found.now.items ++ record { occurrence = c.args.o.now; label = l } ∷ []) c.label_of.ensures)
