use Rattle.std.proofs.Common.{◌≤◌, List, arith, length, subst, sym}
use Rattle.std.proofs.lemmas.List.{take_all}
use Rattle.css_model.specs.Documents.SelectorParts.{SelectorParts}
use Rattle.lint_text.specs.Asking.{AreHeld}
use Rattle.lint_text.proofs.Asked.{asks_one, held_next}
use Rattle.lint_text.proofs.asking.settle_each.Goals as goal

pub returns-in_err-settle_one-clause-asks : goal.returns-in_err-settle_one-clause-asks
returns-in_err-settle_one-clause-asks c =
    asks_one c.args.pairs.now c.loop-one.pairs c.settle_one.new.pairs c.args.selectors.now c.one-item.result (c.loop-one.one-index, omega arith, sym c.one-item.is)
    c.loop-one.invariant.asks c.settle_one.ensures.asks

pub loop-one-preserved : goal.loop-one-preserved
loop-one-preserved c = record {
  asks = asks_one c.args.pairs.now c.loop-one.pairs c.settle_one.new.pairs c.args.selectors.now c.one-item.result (c.loop-one.one-index, omega arith, sym c.one-item.is)
      c.loop-one.invariant.asks c.settle_one.ensures.asks;
  held = held_next c.loop-one.pairs c.settle_one.new.pairs c.args.selectors.now c.loop-one.one-index c.one-item.result
      (omega arith) c.one-item.is c.loop-one.invariant.held c.settle_one.ensures.asks c.in_ok-settle_one.ensures.held;
}

pub returns-clause-held : goal.returns-clause-held
returns-clause-held c =
    let test = c.loop-one-test.false in
    let end = c.loop-one.auto.one-index-end in
    let all : length c.args.selectors.now ≤ c.loop-one.one-index = omega (arith, test, end) in
    subst (λ (xs : List SelectorParts). AreHeld c.loop-one.pairs.answers xs) (take_all c.loop-one.one-index c.args.selectors.now all) c.loop-one.invariant.held
