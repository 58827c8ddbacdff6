use Rattle.std.proofs.Common.{List, [], ◌∷◌, ◌++◌, ap, length, map, refl, ◌∙◌}
use Rattle.rule_tables.proofs.ListsUnder.{one_under}
use Rattle.rule_tables.proofs.partners.one_list_under.Goals as goal
use Rattle.rule_tables.specs.declared.order_keys.OrderKeys.TheVariants.{Made}
use Rattle.rule_tables.specs.declared.shared_keys.SharedList.{SharedList}
use Rattle.rule_tables.specs.SharedKeys.{shared}

pub returns : goal.returns
returns c =
    let made : SharedList = record { order_keys = Made c.in_ok-order_keys.order_keys; common = record { count = length c.args.decls.now; weight = c.total.result } } in
    one_under c.args.entries.now c.args.decls.now c.args.weights.now c.put_under_decls.new.found.items c.in_ok-order_keys.order_keys.items c.new-found.result.items c.new-found.ensures.items c.in_ok-put_under_decls.ensures
    c.in_ok-order_keys.ensures.same c.in_ok-order_keys.ensures.ascends (length c.args.decls.now) c.total.result refl c.total.ensures (map shared c.push.new.self.items)
    (ap (map shared) c.in_ok-push.ensures.items ∙ ap (λ (lists : List SharedList). map shared (lists ++ made ∷ [])) c.in_ok-lists.ensures.items)
