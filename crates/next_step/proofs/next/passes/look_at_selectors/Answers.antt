use Rattle.std.proofs.Common.{List, ℕ, subst, sym}
use Rattle.std.specs.List.{Contains}
use Rattle.next_step.specs.Kinds.{IsSelectorJoin}
use Rattle.next_step.proofs.ByOrderKeys.{pass_covers}
use Rattle.next_step.proofs.BySelectors.{order_key_by_selectors, none_by_selectors}
use Rattle.next_step.proofs.Results.{on_ok}
use Rattle.next_step.proofs.SelectorJoins.{joins_two}
use Rattle.next_step.proofs.next.passes.look_at_selectors.Goals as goal

pub returns-then-focus-clause-covers : goal.returns-then-focus-clause-covers
returns-then-focus-clause-covers c = none_by_selectors c.args.view.now c.requires.view c.args.focus.now c.requires.focus c.args.found.now c.marks-marks.ensures.as_many (c.requires.focus.own_selectors c.if-focus.true)

pub returns-clause-covers : goal.returns-clause-covers
returns-clause-covers c =
    on_ok c.try_selector_partners.result _ _ (λ covers. pass_covers c.args.view.now c.args.focus.now c.requires.focus c.marks-marks.ensures.as_many c.try_selector_partners.new.found IsSelectorJoin joins_two (Contains c.list.result.now) covers
    (order_key_by_selectors c.args.view.now c.requires.view c.args.focus.now c.requires.focus c.marks-marks.ensures.as_many c.rules_are_order_keyed.ensures c.list.result.now
    (λ rules x s cover among in_r same. subst (λ (xs : List ℕ). Contains xs x.order_key) (sym c.list.ensures) (c.in_ok-order_keys.ensures.all rules x s cover among in_r same))))
    c.try_selector_partners.ensures.covers
