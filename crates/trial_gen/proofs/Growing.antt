-- One more rule takes two more draws.
use Rattle.std.proofs.Common.{◌≡◌, ℕ, suc, ◌+◌, ◌*◌, ◌++◌, arith, refl}
use Rattle.trial_gen.specs.Draws.{drawn, next, state_after}
use Rattle.trial_gen.specs.Made.{made_sheet, rule_text}

-- after k rules, two steps from a state lead to that after k + 1 rules
pub two_draws : (k x : ℕ) → x ≡ state_after (2 * k) → next (next x) ≡ state_after (2 * (k + 1))
two_draws k x e =
    let more : 2 * (k + 1) ≡ suc (suc (2 * k)) = omega arith in
    rw (more, e) refl

-- and the rule of their draws comes behind the first k
pub one_rule : (k x : ℕ) → x ≡ state_after (2 * k) → made_sheet k ++ rule_text (drawn (next x)) (drawn (next (next x))) ≡ made_sheet (k + 1)
one_rule k x e =
    let first : 2 * k + 1 ≡ suc (2 * k) = omega arith in
    let second : 2 * k + 2 ≡ suc (suc (2 * k)) = omega arith in
    let more : k + 1 ≡ suc k = omega arith in
    rw (more, first, second, e) refl
