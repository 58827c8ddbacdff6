use Rattle.std.proofs.lemmas.List.{nil_from_length}
use Rattle.rule_tables.specs.Tables.{StandFor, order_keyed}
use Rattle.rule_tables.proofs.Standing.{covers_made, made, next_item, no_items, no_order_keys}
use Rattle.rule_tables.proofs.tables.Tables.new.Goals as goal

pub returns-in_default-split_first : goal.returns-in_default-split_first
returns-in_default-split_first c =
    let stand : StandFor c.rest.tables (order_keyed c.args.items.now c.args.order_keys.now) =
    made (record { selectors = c.new.result; decls = c.new-2.result }) c.rest.tables (order_keyed c.args.items.now c.args.order_keys.now) c.new.ensures c.new-2.ensures
    (c.rest.invariant c.rest.tables (no_order_keys c.rest.tables c.rest.rest.now c.rest.rest_of_order_keys.now (nil_from_length c.rest.rest_of_order_keys.now (rw c.in_default-split_first.is at c.split_first-in-Some.ensures.cases)))) in
    record { exact = stand; covers = covers_made c.rest.tables (order_keyed c.args.items.now c.args.order_keys.now) stand }

pub rest-preserved : goal.rest-preserved
rest-preserved c = λ final h. c.rest.invariant final (next_item c.rest.rest.now c.in-Some.behind.now c.in-Some.item.now c.rest.rest_of_order_keys.now c.in-Some-split_first.order_keys_behind.now c.in-Some-split_first.order_key.now
    c.in-Some.ensures.cases.0 c.in-Some-split_first.ensures.cases.0 c.rest.tables c.put_item.new.self final c.in_ok-put_item.ensures h)

pub returns : goal.returns
returns c =
    let stand : StandFor c.rest.tables (order_keyed c.args.items.now c.args.order_keys.now) =
    made (record { selectors = c.new.result; decls = c.new-2.result }) c.rest.tables (order_keyed c.args.items.now c.args.order_keys.now) c.new.ensures c.new-2.ensures
    (c.rest.invariant c.rest.tables (no_items c.rest.tables c.rest.rest.now c.rest.rest_of_order_keys.now (nil_from_length c.rest.rest.now (rw c.in_default.is at c.split_first.ensures.cases)))) in
    record { exact = stand; covers = covers_made c.rest.tables (order_keyed c.args.items.now c.args.order_keys.now) stand }
