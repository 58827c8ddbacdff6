use Rattle.std.proofs.Common.{◌≤◌, arith, sym, subst, ◌∙◌}
use Rattle.std.specs.List.{AllByRecursion}
use Rattle.css_model.specs.Sheets.Printed.{printed_declaration}
use Rattle.css_model.specs.Sheets.Sound.{IsSoundDeclaration}
use Rattle.step_laws.specs.Sizes.{weight}
use Rattle.next_step.proofs.Sharing.{all_count, among_count, none_count}
use Rattle.next_step.proofs.by_declarations.shares.weight_above.Goals as goal
use Rattle.next_step.specs.Shares.{among_weight}

pub returns-then-most-limit-clause-none : goal.returns-then-most-limit-clause-none
returns-then-most-limit-clause-none c =
    let part : among_weight c.args.source.now c.rest.rest.now c.args.others.now ≤ weight (printed_declaration c.args.source.now) c.rest.rest.now = among_count c.args.source.now c.rest.rest.now c.args.others.now in
    omega (arith, c.rest.invariant.counted, part, c.if-most-limit.true)

pub overflow_sub-most : goal.overflow_sub-most
overflow_sub-most c =
    let part : among_weight c.args.source.now c.in-Some.behind.now c.args.others.now ≤ weight (printed_declaration c.args.source.now) c.in-Some.behind.now = among_count c.args.source.now c.in-Some.behind.now c.args.others.now in
    let all = all_count c.args.source.now c.rest.rest.now c.in-Some.behind.now c.in-Some.first.now c.in-Some.ensures.cases.0 in
    let none = none_count c.args.source.now c.args.others.now c.rest.rest.now c.in-Some.behind.now c.in-Some.first.now c.in-Some.ensures.cases.0 (sym c.has_decl.ensures ∙ c.if-not-has_decl.true) in
    omega (arith, c.rest.invariant.counted, part, all, none, c.decl.ensures)

pub rest-preserved-then-not-has_decl : goal.rest-preserved-then-not-has_decl
rest-preserved-then-not-has_decl c =
    let part : among_weight c.args.source.now c.in-Some.behind.now c.args.others.now ≤ weight (printed_declaration c.args.source.now) c.in-Some.behind.now = among_count c.args.source.now c.in-Some.behind.now c.args.others.now in
    let all = all_count c.args.source.now c.rest.rest.now c.in-Some.behind.now c.in-Some.first.now c.in-Some.ensures.cases.0 in
    let none = none_count c.args.source.now c.args.others.now c.rest.rest.now c.in-Some.behind.now c.in-Some.first.now c.in-Some.ensures.cases.0 (sym c.has_decl.ensures ∙ c.if-not-has_decl.true) in
    record {
      counted = omega (arith, c.rest.invariant.counted, part, all, none, c.decl.ensures);
      sound = (subst (AllByRecursion (IsSoundDeclaration c.args.source.now)) c.in-Some.ensures.cases.0 c.rest.invariant.sound).1;
      small = omega (arith, c.rest.invariant.small, all);
      few = omega (arith, c.rest.invariant.few);
    }
