use Rattle.std.proofs.Common.{IsTrue, List, arith, subst, sym, ◌∙◌, ◌≤◌}
use Rattle.cnf.specs.Lits.{are_below}
use Rattle.cnf.specs.declared.lit.Lit.{Lit}
use Rattle.hint_clauses.proofs.Gapped.{gap_made, gap_rooms, kept_below, list_stays}
use Rattle.hint_clauses.proofs.gaps.add_gap.Goals as goal

pub difference-requires-clause-room : goal.difference-requires-clause-room
difference-requires-clause-room c = (gap_rooms c.args.gap.now c.args.step c.args.rest c.args.f.now _ c.requires.room).owns

pub difference-requires-2-clause-x : goal.difference-requires-2-clause-x
difference-requires-2-clause-x c = list_stays _ _ _ c.requires.gap.small.other c.in_ok-owns.ensures.grows

pub difference-requires-2-clause-y : goal.difference-requires-2-clause-y
difference-requires-2-clause-y c = list_stays _ _ _ c.requires.gap.big.other c.in_ok-owns.ensures.grows

pub difference-requires-2-clause-room : goal.difference-requires-2-clause-room
difference-requires-2-clause-room c = rw c.in_ok-owns.ensures.formula (gap_rooms c.args.gap.now c.args.step c.args.rest c.args.f.now _ c.requires.room).others

pub divide_by-requires-clause-room : goal.divide_by-requires-clause-room
divide_by-requires-clause-room c =
    rw (c.in_ok-others.ensures.formula, c.in_ok-others.ensures.answer, c.in_ok-owns.ensures.formula) (gap_rooms c.args.gap.now c.args.step c.args.rest c.args.f.now _ c.requires.room).division

pub add_same_given-requires-clause-x : goal.add_same_given-requires-clause-x
add_same_given-requires-clause-x c =
    let grown : c.difference.new.f.vars ≤ c.divide_by.new.f.vars = omega (arith, c.in_ok-others.ensures.grows, c.in_ok-remainder.ensures.grows) in
    subst (λ (ls : List Lit). IsTrue (are_below c.divide_by.new.f.vars ls)) (sym (c.deref.ensures.value ∙ c.owns.view_is)) (list_stays _ _ _ c.in_ok-owns.ensures.in_range grown)

pub add_same_given-requires-clause-y : goal.add_same_given-requires-clause-y
add_same_given-requires-clause-y c =
    subst (λ (ls : List Lit). IsTrue (are_below c.divide_by.new.f.vars ls)) (sym (c.deref-2.ensures.value ∙ c.others.view_is)) (list_stays _ _ _ c.in_ok-others.ensures.in_range c.in_ok-remainder.ensures.grows)

pub add_order-requires-clause-owns : goal.add_order-requires-clause-owns
add_order-requires-clause-owns c =
    let grown : c.difference.new.f.vars ≤ c.divide_by.new.f.vars = omega (arith, c.in_ok-others.ensures.grows, c.in_ok-remainder.ensures.grows) in
    subst (λ (ls : List Lit). IsTrue (are_below c.add_rest_given.new.f.vars ls)) (sym (c.deref-4.ensures.value ∙ c.owns.view_is))
    (kept_below c.divide_by.new.f _ _ _ _ _ c.in_ok-add_same_given.ensures c.in_ok-add_rest_given.ensures (list_stays _ _ _ c.in_ok-owns.ensures.in_range grown))

pub add_order-requires-clause-others : goal.add_order-requires-clause-others
add_order-requires-clause-others c =
    subst (λ (ls : List Lit). IsTrue (are_below c.add_rest_given.new.f.vars ls)) (sym (c.deref-5.ensures.value ∙ c.others.view_is))
    (kept_below c.divide_by.new.f _ _ _ _ _ c.in_ok-add_same_given.ensures c.in_ok-add_rest_given.ensures (list_stays _ _ _ c.in_ok-others.ensures.in_range c.in_ok-remainder.ensures.grows))

pub returns : goal.returns
returns c =
    gap_made c.args.gap.now c.args.step c.args.rest c.in_ok-owns.owns c.in_ok-others.others c.in_ok-remainder.remainder c.args.f.now c.difference.new.f c.difference-2.new.f c.divide_by.new.f c.add_same_given.new.f c.add_rest_given.new.f
    c.add_order.new.f c.in_ok-owns.ensures.formula c.in_ok-owns.ensures.answer c.in_ok-others.ensures.formula c.in_ok-others.ensures.answer c.in_ok-remainder.ensures.formula c.in_ok-remainder.ensures.remainder
    (c.in_ok-add_same_given.ensures ∙ rw (c.deref.ensures.value ∙ c.owns.view_is, c.deref-2.ensures.value ∙ c.others.view_is))
    (c.in_ok-add_rest_given.ensures ∙ rw (c.deref-3.ensures.value ∙ c.remainder.view_is))
    (c.in_ok-add_order.ensures ∙ rw (c.deref-4.ensures.value ∙ c.owns.view_is, c.deref-5.ensures.value ∙ c.others.view_is))
