use Rattle.std.proofs.Common.{ℕ, List, [], ◌∷◌, Ok, sym, subst}
use Rattle.std.specs.List.Sorted.{IsStrictlyIncreasing}
use Rattle.rule_tables.specs.Entries.{TakesOut}
use Rattle.rule_tables.specs.Places.{IsPlaceAmong}
use Rattle.rule_tables.proofs.Ascending.{takes_removed}
use Rattle.rule_tables.proofs.order_key_lists.OrderKeyList.take.Goals as goal

pub returns-in-Ok : goal.returns-in-Ok
returns-in-Ok c =
    let place : IsPlaceAmong c.args.self.now c.args.order_key (Ok c.in-Ok.place) = subst (λ (items : List ℕ). IsPlaceAmong items c.args.order_key (Ok c.in-Ok.place)) c.list.ensures.list c.in-Ok.ensures in
    subst (TakesOut c.args.self.now (c.args.order_key ∷ [])) (sym c.take_at.ensures) (takes_removed c.args.self.now c.args.order_key c.in-Ok.place (subst IsStrictlyIncreasing c.list.ensures.list c.list.ensures.ascends) place)
