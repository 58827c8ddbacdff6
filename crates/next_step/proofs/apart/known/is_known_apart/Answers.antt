use Rattle.std.proofs.Common.{◌≡◌, ℕ, true, subst}
use Rattle.step_savings.specs.Apart.{RulesApart}
use Rattle.next_step.proofs.apart.known.is_known_apart.Goals as goal

pub returns : goal.returns
returns c = subst (λ (numbers : ℕ × ℕ). c.are_known_apart.result ≡ true → RulesApart c.args.indexed.now.items numbers.0 numbers.1) c.items_of-first.ensures c.are_known_apart.ensures
