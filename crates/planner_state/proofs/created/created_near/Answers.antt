use Rattle.std.proofs.Common.{◌≡◌, ◌≢◌, List, sym, subst, arith}
use Rattle.std.specs.List.{AllPairs}
use Rattle.indexed_sheet.specs.declared.marks.Mark.{Mark}
use Rattle.planner_state.proofs.ItemIds.{all_created, one_created}
use Rattle.planner_state.proofs.created.created_near.Goals as goal

pub item_ids-preserved : goal.item_ids-preserved
item_ids-preserved c = one_created c.marks-marks.result.now c.args.next c.item_ids.item_id c.in-Some.number c.item_ids.numbers.items c.push.new.self.items
    (subst (λ (ms : List Mark). AllPairs (λ m n. m.item_id ≢ n.item_id) ms) (sym c.marks-marks.ensures.marks) c.marks-marks.ensures.are_marks.differ) c.in-Some.ensures c.in_ok-push-in-Some.ensures.ok c.item_ids.invariant

pub returns : goal.returns
returns c =
    let end : c.next-end.result ≡ c.args.indexed.now.next = c.next-end.ensures in
    all_created c.args.indexed.now c.marks-marks.result.now c.args.next c.item_ids.item_id c.item_ids.numbers.items c.marks-marks.ensures.marks c.marks-marks.ensures.are_marks (omega (arith, end, c.item_ids-test.false)) c.item_ids.invariant
