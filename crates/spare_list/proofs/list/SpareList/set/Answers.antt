use Rattle.std.proofs.Common.{◌∙◌, ap, set}
use Rattle.std.proofs.lemmas.List.{drop-set-add}
use Rattle.spare_list.proofs.list.SpareList.set.Goals as goal

pub returns-clause-list : goal.returns-clause-list
returns-clause-list g c =
    rw c.replace.ensures.after (drop-set-add c.self.inside.first c.self.inside.slots.items c.args.at c.args.value
    ∙ ap (λ l. set l c.args.at c.args.value) c.self.view_is)
