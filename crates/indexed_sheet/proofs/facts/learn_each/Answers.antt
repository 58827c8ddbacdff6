use Rattle.std.proofs.Common.{◌≡◌, ℕ, subst, arith}
use Rattle.indexed_sheet.proofs.Learnt.{each_next, each_none}
use Rattle.indexed_sheet.proofs.facts.learn_each.Goals as goal
use Rattle.indexed_sheet.specs.Facts.{AreLearntOfEach}

pub loop-item_id-init : goal.loop-item_id-init
loop-item_id-init c = each_none c.args.facts.items c.args.from c.args.own

pub loop-item_id-preserved : goal.loop-item_id-preserved
loop-item_id-preserved c =
    each_next c.args.facts.items c.loop-item_id.facts.items c.learn.new.facts.items c.args.from c.loop-item_id.item_id c.args.own c.loop-item_id.auto.item_id c.loop-item_id.invariant
    c.in_ok-learn.ensures.own c.in_ok-learn.ensures.others c.in_ok-learn.ensures.few

pub returns : goal.returns
returns c =
    let order = c.requires in
    let end : c.loop-item_id.item_id ≡ c.args.to = omega (arith, order, c.loop-item_id-test.false, c.loop-item_id.auto.item_id-end) in
    subst (λ (n : ℕ). AreLearntOfEach c.args.facts.items c.loop-item_id.facts.items c.args.from n c.args.own) end c.loop-item_id.invariant
