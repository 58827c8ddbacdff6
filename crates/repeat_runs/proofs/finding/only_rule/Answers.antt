use Rattle.std.proofs.Common.{true, false, ◌≡◌, ◌∷◌, length, sym, ap, ◌∙◌, arith}
use Rattle.repeat_runs.proofs.OneRule.{more_found, none_found, one_passed}
use Rattle.repeat_runs.proofs.finding.only_rule.Goals as goal

pub rest-preserved : goal.rest-preserved
rest-preserved c =
    let parted : c.rest.rest.now ≡ c.in-Some.first.now ∷ c.in-Some.others.now = c.in-Some.ensures.cases.0 in
    record {
      passed = one_passed c.args.items.now c.rest.number c.rest.rest.now c.in-Some.first.now c.in-Some.others.now c.rest.invariant.passed parted (sym c.is_kept.ensures ∙ c.if-not-is_kept.false);
      size = (let size = c.rest.invariant.size in let long = ap length parted in omega (arith, size, long));
    }

pub returns-else-are_kept-clause-none : goal.returns-else-are_kept-clause-none
returns-else-are_kept-clause-none c =
    more_found c.args.items.now c.rest.number c.rest.rest.now c.in-Some.first.now c.in-Some.others.now c.rest.invariant.passed c.in-Some.ensures.cases.0 (sym c.is_kept.ensures ∙ c.if-not-is_kept.true)
    (λ kept. let e : true ≡ false = sym (c.are_kept.ensures.1 kept) ∙ c.if-are_kept.false in cc)

pub returns-clause-none : goal.returns-clause-none
returns-clause-none c = none_found c.args.items.now c.rest.number c.rest.rest.now c.rest.invariant.passed c.in_default.ensures.cases
