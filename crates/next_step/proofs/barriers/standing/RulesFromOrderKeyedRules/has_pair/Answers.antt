use Rattle.std.proofs.Common.{sym, true≢false, arith}
use Rattle.next_step.specs.Marked.{rules_of}
use Rattle.next_step.proofs.FromOrderKey.{has_from, not_before}
use Rattle.next_step.proofs.barriers.standing.RulesFromOrderKeyedRules.has_pair.Goals as goal

pub returns-then-order_key-self : goal.returns-then-order_key-self
returns-then-order_key-self c = (
  λ h. absurd (true≢false (sym h)),
  λ h. absurd (not_before c.args.self.now.from (rules_of c.args.self.now.all.indexed.now) c.args.order_key c.args.selector.now c.args.decl.now (omega (arith, c.if-order_key-self.true)) h),
)

pub returns : goal.returns
returns c =
    let is = has_from c.args.self.now.from (rules_of c.args.self.now.all.indexed.now) c.args.order_key c.args.selector.now c.args.decl.now (omega (arith, c.if-order_key-self.false)) in
    (λ h. is.0 (c.has_pair.ensures.0 h), λ h. c.has_pair.ensures.1 (is.1 h))
