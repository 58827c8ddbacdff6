use Rattle.std.proofs.Common.{◌≡◌, ◌+◌, ◌++◌, ◌∷◌, [], ℕ, Some, cond, ap, subst, arith}
use Rattle.std.specs.HashMap.{get}
use Rattle.std.specs.List.{AllByRecursion}
use Rattle.css_model.specs.declared.sheet.SelItem.{SelItem}
use Rattle.css_model.proofs.ForCallers.{selector_decides}
use Rattle.css_model.specs.Sheets.Limits.{max_bytes}
use Rattle.css_model.specs.Sheets.Printed.{printed_selector}
use Rattle.css_model.specs.Sheets.Sound.{IsSoundSelector}
use Rattle.order_laws.specs.Members.{same_selector}
use Rattle.repeat_runs.proofs.Marking.{all_before, marked_all, marked_none, marked_on, parts_are_small}
use Rattle.repeat_runs.proofs.marks.selector_marks_back.Goals as goal
use Rattle.repeat_runs.specs.Seen.{IsHeavier, IsMark}
use Rattle.run_laws.specs.Runs.{selector_weight}

pub selector-requires-clause-short : goal.selector-requires-clause-short
selector-requires-clause-short c =
    let small = parts_are_small (printed_selector c.args.lengths.now) c.rest.rest.now c.in-Some.before.now c.in-Some.last.now max_bytes c.in-Some.ensures.cases.0 c.rest.invariant.small in
    let one = small.1 in
    omega (arith, one)

pub overflow_cast-weight : goal.overflow_cast-weight
overflow_cast-weight c =
    let small = parts_are_small (printed_selector c.args.lengths.now) c.rest.rest.now c.in-Some.before.now c.in-Some.last.now max_bytes c.in-Some.ensures.cases.0 c.rest.invariant.small in
    let one = small.1 in
    let is = c.selector.ensures in
    omega (arith, one, is)

pub overflow_add-weight : goal.overflow_add-weight
overflow_add-weight c =
    let small = parts_are_small (printed_selector c.args.lengths.now) c.rest.rest.now c.in-Some.before.now c.in-Some.last.now max_bytes c.in-Some.ensures.cases.0 c.rest.invariant.small in
    let one = small.1 in
    let is = c.selector.ensures in
    omega (arith, one, is)

pub rest-preserved : goal.rest-preserved
rest-preserved c =
    let parted : c.rest.rest.now ≡ c.in-Some.before.now ++ (c.in-Some.last.now ∷ []) = c.in-Some.ensures.cases.0 in
    let is : c.selector.result + 1 ≡ selector_weight c.args.lengths.now c.in-Some.last.now = ap (λ (n : ℕ). n + 1) c.selector.ensures in
    record {
      marked = marked_on same_selector selector_decides (λ (x : SelItem). x.selector) (selector_weight c.args.lengths.now) c.args.selectors.now c.rest.rest.now c.in-Some.before.now c.in-Some.last.now c.rest.marks.items c.push.new.self.items
          (λ q. get same_selector c.rest.seen q) (λ q. get same_selector c.see.new.seen q) c.in-Some-2.mark c.rest.invariant.marked parted (subst (λ (n : ℕ). IsMark (get same_selector c.rest.seen c.in-Some.last.now.selector) n c.in-Some-2.mark) is (rw c.in-Some-2.is at c.in_ok-mark.ensures.mark))
          c.in_ok-push.ensures.items (λ q. subst (λ (n : ℕ). get same_selector c.see.new.seen q ≡ cond (same_selector c.in-Some.last.now.selector q) (Some n) (get same_selector c.rest.seen q)) is (c.in_ok-mark.ensures.updates.0 q));
      sound = all_before (IsSoundSelector c.args.lengths.now) c.in-Some.before.now c.in-Some.last.now (subst (AllByRecursion (IsSoundSelector c.args.lengths.now)) parted c.rest.invariant.sound);
      small = (parts_are_small (printed_selector c.args.lengths.now) c.rest.rest.now c.in-Some.before.now c.in-Some.last.now max_bytes parted c.rest.invariant.small).0;
    }

pub returns-clause-descends : goal.returns-clause-descends
returns-clause-descends c =
    (marked_all same_selector selector_decides (λ (x : SelItem). x.selector) (selector_weight c.args.lengths.now) c.args.selectors.now c.rest.rest.now c.rest.marks.items (λ q. get same_selector c.rest.seen q) c.in_default.ensures.cases c.rest.invariant.marked).1

pub returns-in_default-2-clause-none : goal.returns-in_default-2-clause-none
returns-in_default-2-clause-none c =
    let is : c.selector.result + 1 ≡ selector_weight c.args.lengths.now c.in-Some.last.now = ap (λ (n : ℕ). n + 1) c.selector.ensures in
    marked_none same_selector selector_decides (λ (x : SelItem). x.selector) (selector_weight c.args.lengths.now) c.args.selectors.now c.rest.rest.now c.in-Some.before.now c.in-Some.last.now c.rest.marks.items (λ q. get same_selector c.rest.seen q)
    c.rest.invariant.marked c.in-Some.ensures.cases.0 (subst (λ (n : ℕ). IsHeavier (get same_selector c.rest.seen c.in-Some.last.now.selector) n) is (rw c.in_default-2.is at c.in_ok-mark.ensures.none))
