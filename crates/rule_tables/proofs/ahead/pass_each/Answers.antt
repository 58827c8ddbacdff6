use Rattle.std.proofs.Common.{◌≡◌, ℕ, ◌<◌, List, ap, length, map, set, ◌∙◌, arith}
use Rattle.std.proofs.lemmas.List.{length-map, length-set, map-set}
use Rattle.rule_tables.proofs.Reached.{itself_at, pass_next}
use Rattle.rule_tables.proofs.ahead.pass_each.Goals as goal
use Rattle.rule_tables.specs.Ahead.{Reached, passed, reached}
use Rattle.rule_tables.specs.declared.ahead.Listed.{Listed}

pub loop-number-preserved : goal.loop-number-preserved
loop-number-preserved c =
    let x : Listed = c.index-listed.result.now in
    let y : Listed = record { order_keys = c.without.result; common = c.index-listed.result.now.common } in
    let test = c.loop-number-test.true in
    let end = c.len-number-end.ensures in
    let count = c.loop-number.invariant.count in
    let within : c.loop-number.number < length c.loop-number.lists.items = omega (arith, test, end, count) in
    let all : List Reached = map reached c.args.lists.now.items in
    let long : length all ≡ length c.args.lists.now.items = length-map c.args.lists.now.items reached in
    let is : reached y ≡ passed c.args.order_key (reached x) = ap (λ (ks : List ℕ). record { order_keys = ks; common = c.index-listed.result.now.common }) c.without.ensures in
    record {
      count = length-set c.loop-number.lists.items c.loop-number.number y ∙ count;
      so_far = map-set reached c.loop-number.lists.items c.loop-number.number y
          ∙ ap (set (map reached c.loop-number.lists.items) c.loop-number.number) is
          ∙ pass_next c.args.order_key c.loop-number.number all (map reached c.loop-number.lists.items) (reached x) (omega (arith, within, long, count)) c.loop-number.invariant.so_far
          (itself_at reached c.loop-number.lists.items c.loop-number.number x within c.index-listed.ensures);
    }
