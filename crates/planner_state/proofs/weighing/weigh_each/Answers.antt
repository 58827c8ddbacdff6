use Rattle.std.proofs.Common.{◌≡◌, ◌<◌, List, length, ap, ◌∙◌, arith}
use Rattle.std.proofs.lemmas.Option.{slice_get_within}
use Rattle.css_model.specs.declared.sheet.Item.TheVariants.{Rule}
use Rattle.indexed_sheet.specs.declared.marks.Mark.{Mark}
use Rattle.planner_state.proofs.Weighed.{first_weighed, stays_on}
use Rattle.planner_state.proofs.weighing.weigh_each.Goals as goal

pub numbers-preserved : goal.numbers-preserved
numbers-preserved c =
    let long : length c.marks-number-end.result.now ≡ length c.args.indexed.now.items = ap (λ (ms : List Mark). length ms) c.marks-number-end.ensures.marks ∙ c.marks-number-end.ensures.as_many in
    let there : c.numbers.number < length c.args.indexed.now.items = omega (arith, c.numbers-test.true, long) in
    record {
      weighed = first_weighed c.args.source.now c.args.next c.args.indexed.now c.requires.marked c.numbers.weights c.weigh_at.new.weights c.numbers.number there c.in_ok-weigh_at.ensures.others c.in_ok-weigh_at.ensures.weighed c.numbers.invariant.weighed;
      stay = stays_on (λ b. b < c.args.next) c.args.weights.now c.numbers.weights c.weigh_at.new.weights c.numbers.invariant.stay c.in_ok-weigh_at.ensures.stay;
    }

pub returns-clause-weighed : goal.returns-clause-weighed
returns-clause-weighed c = λ n m r at item_at later.
    let long : length c.marks-number-end.result.now ≡ length c.args.indexed.now.items = ap (λ (ms : List Mark). length ms) c.marks-number-end.ensures.marks ∙ c.marks-number-end.ensures.as_many in
    let inside : n < length c.args.indexed.now.items = slice_get_within c.args.indexed.now.items n (Rule r) item_at in
    let front : n < c.numbers.number = omega (arith, c.numbers-test.false, long, inside) in
    c.numbers.invariant.weighed n front m r at item_at later
