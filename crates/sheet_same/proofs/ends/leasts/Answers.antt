use Rattle.std.proofs.Common.{◌≡◌, ◌-◌, ℕ, List, take, length, reverse, ap, ◌∙◌, arith}
use Rattle.sheet_same.specs.declared.ends.Least.{Least}
use Rattle.sheet_same.specs.Ends.{leasts_on}
use Rattle.sheet_same.proofs.LeastPlaces.{leasts_next, leasts_long, first_next}
use Rattle.sheet_same.proofs.ends.leasts.Goals as goal

pub left-preserved : goal.left-preserved
left-preserved c = record {
  within = omega (arith, c.left.invariant.within);
  list = leasts_next c.args.members.now c.left.found.items c.push.new.self.items (c.left.left - 1) c.left.left c.index-members-left.result c.left.behind c.with_least-least.result
      (omega (arith, c.left-test.true)) (omega (arith, c.left.invariant.within, c.left-test.true)) c.index-members-left.is c.left.invariant.first c.with_least-least.ensures c.in_ok-push.ensures.items c.left.invariant.list;
  first = first_next c.left.found.items c.push.new.self.items c.with_least-least.result c.in_ok-push.ensures.items;
}

pub returns-clause-long : goal.returns-clause-long
returns-clause-long c =
    let none : 0 ≡ c.left.left = omega (arith, c.left-test.false) in
    ap (λ (xs : List Least). length xs) (c.reverse.ensures.items ∙ ap (λ (n : ℕ). leasts_on (take n c.args.members.now) (reverse c.left.found.items)) none ∙ c.left.invariant.list)
    ∙ leasts_long c.args.members.now
