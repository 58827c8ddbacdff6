use Rattle.std.proofs.Common.{◌+◌, ◌∙◌, length, refl, ap, arith, length-drop}
use Rattle.std.proofs.lemmas.Option.{slice_get_read}
use Rattle.std.specs.List.{remove}
use Rattle.spare_list.proofs.Fronts.{drop-remove_above, removed_at_front, slice_get-drop}
use Rattle.spare_list.proofs.list.SpareList.remove.Goals as goal

pub returns-then-is_near_front-clause-list : goal.returns-then-is_near_front-clause-list
returns-then-is_near_front-clause-list g c =
    removed_at_front _ _ c.self.inside.first c.args.at _ _ _ refl (omega arith) c.lower.ensures
    ∙ ap (λ l. remove l c.args.at) c.self.view_is

pub returns-else-is_near_front-clause-was : goal.returns-else-is_near_front-clause-was
returns-else-is_near_front-clause-was g c =
    rw (← c.self.view_is) (slice_get-drop c.self.inside.first c.self.inside.slots.items c.args.at (c.self.inside.first + c.args.at) refl
    ∙ slice_get_read c.self.inside.slots.items _ _ _ refl (omega (arith, ap length c.self.view_is, length-drop c.self.inside.first c.self.inside.slots.items)) c.remove.ensures.value)

pub returns-else-is_near_front-clause-list : goal.returns-else-is_near_front-clause-list
returns-else-is_near_front-clause-list g c =
    rw c.remove.ensures.items (drop-remove_above c.self.inside.first c.self.inside.slots.items c.args.at _ refl
    ∙ ap (λ l. remove l c.args.at) c.self.view_is)
