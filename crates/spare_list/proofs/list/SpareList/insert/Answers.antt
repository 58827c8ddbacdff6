use Rattle.std.proofs.Common.{◌∙◌, refl, ap, arith, if◌then◌else◌, is_ok}
use Rattle.std.specs.List.{insert}
use Rattle.spare_list.proofs.Fronts.{inserted_at_front, inserted_or_not}
use Rattle.spare_list.proofs.list.SpareList.insert.Goals as goal

pub returns-then-is_near_front-clause-list : goal.returns-then-is_near_front-clause-list
returns-then-is_near_front-clause-list g c =
    inserted_at_front c.self.inside.slots.items _ _ c.args.at _ c.self.inside.first c.args.value (omega arith) (omega arith) c.self.invariant c.raise.ensures
    ∙ ap (λ l. insert l c.args.at c.args.value) c.self.view_is

pub returns-else-self-gt0-clause-list : goal.returns-else-self-gt0-clause-list
returns-else-self-gt0-clause-list g c =
    rw c.insert.ensures.items (inserted_or_not (is_ok c.insert.result) c.self.inside.first c.self.inside.slots.items c.args.at _ c.args.value refl c.self.invariant
    ∙ ap (λ l. if is_ok c.insert.result then insert l c.args.at c.args.value else l) c.self.view_is)
