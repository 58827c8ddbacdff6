use Rattle.std.proofs.Common.{◌≡◌, ℕ, ◌+◌, ◌<◌, List, [], ◌∙◌, ap, length, map, refl, set, subst, sym, arith}
use Rattle.std.proofs.lemmas.List.{length-map, map-set}
use Rattle.rule_tables.proofs.LeftOut.{fewer_one, leaves_one}
use Rattle.rule_tables.proofs.Reached.{itself_at}
use Rattle.rule_tables.proofs.ahead.leave_list.Goals as goal
use Rattle.rule_tables.specs.Ahead.{LeavesOut, Reached, count_left, reached}
use Rattle.rule_tables.specs.declared.ahead.Common.{Common}
use Rattle.rule_tables.specs.declared.ahead.Listed.{Listed}

pub returns-clause-leaves : goal.returns-clause-leaves
returns-clause-leaves c =
    let items : List Listed = c.args.lists.now.items in
    let x : Listed = c.index-listed.result.now in
    let y : Listed = record { order_keys = record { ref_ptr = _; now = [] }; common = x.common } in
    let long : length (map reached items) ≡ length items = length-map items reached in
    let within : c.args.number < length items = omega (arith, c.if-len-number.false, c.len.ensures) in
    subst (λ (ls : List Reached). LeavesOut (map reached items) c.args.left ls (record { count = c.args.left.count + x.common.count; weight = c.args.left.weight + x.common.weight }))
    (sym (map-set reached items c.args.number y))
    (leaves_one (map reached items) c.args.number (reached x) (reached y) (omega (arith, within, long)) (itself_at reached items c.args.number x within c.index-listed.ensures) refl
    c.args.left _ (λ k less. omega (arith, less)) refl refl)

pub returns-clause-fewer : goal.returns-clause-fewer
returns-clause-fewer c =
    let items : List Listed = c.args.lists.now.items in
    let x : Listed = c.index-listed.result.now in
    let y : Listed = record { order_keys = record { ref_ptr = _; now = [] }; common = x.common } in
    let long : length (map reached items) ≡ length items = length-map items reached in
    let within : c.args.number < length items = omega (arith, c.if-len-number.false, c.len.ensures) in
    subst (λ (ls : List Reached). count_left ls < count_left (map reached items)) (sym (map-set reached items c.args.number y))
    (fewer_one (map reached items) c.args.number (reached x) (reached y) (omega (arith, within, long)) (itself_at reached items c.args.number x within c.index-listed.ensures) refl (grind (arith, c.is_empty.ensures, c.if-is_empty.false)))
