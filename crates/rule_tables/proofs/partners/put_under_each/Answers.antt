use Rattle.std.proofs.lemmas.List.{nil_from_length}
use Rattle.rule_tables.proofs.Sharing.{digests_end, digests_step, under_behind}
use Rattle.rule_tables.proofs.partners.put_under_each.Goals as goal

pub rest-preserved : goal.rest-preserved
rest-preserved c = λ final h. c.rest.invariant final (digests_step c.args.entries.now c.rest.rest.now c.in-Some.behind.now c.in-Some.first.now c.in-Some.ensures.cases.0
    c.rest.found.items c.put_order_keys.new.found.items final
    (under_behind c.args.entries.now c.in-Some.first.now c.rest.found.items c.under.result.now c.put_order_keys.new.found.items c.under.ensures.same c.in_ok-put_order_keys.ensures) h)

pub returns : goal.returns
returns c =
    c.rest.invariant c.rest.found.items (digests_end c.args.entries.now c.rest.rest.now (nil_from_length c.rest.rest.now (rw c.in_default.is at c.split_first.ensures.cases)) c.rest.found.items)
