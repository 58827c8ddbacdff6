-- Elements side by side, passed in parts and in periods.
use Rattle.std.proofs.Common.{◌≡◌, ℕ, zero, suc, ◌+◌, ◌*◌, ◌≤◌, Bool, List, map, refl, sym, ap, ◌∙◌, arith}
use Rattle.std.proofs.Math.Nat.{suc-mul, zero-mul}
use Rattle.css_model.specs.declared.selector.Combinator.{Combinator}
use Rattle.cascade_laws.specs.declared.reaching.Reached.{Reached}
use Rattle.cascade_laws.specs.Eval.Reaching.{from_next, located, passed}
use Rattle.cascade_laws.specs.Eval.Repeating.{Repeats}
use Rattle.cascade_laws.proofs.Eval.Numbers.{joined, moved, none_first, one_first}

-- first some of them, and then the others
pub passed_parts : (tests : ℕ → ℕ → List Bool) (links : List Combinator) (a b before behind : ℕ) (rs : List Reached) →
    passed tests links (a + b) before behind rs ≡ passed tests links b (a + before) behind (passed tests links a before (b + behind) rs)
passed_parts tests links zero b before behind rs =
    ap (λ (m : ℕ). passed tests links m before behind rs) (none_first b)
    ∙ ap (λ (m : ℕ). passed tests links b m behind rs) (sym (none_first before))
passed_parts tests links (suc a) b before behind rs =
    ap (λ (m : ℕ). passed tests links m before behind rs) (one_first a b)
    ∙ passed_parts tests links a b (suc before) behind (map from_next (located (tests before ((a + b) + behind)) links rs))
    ∙ ap (λ (m : ℕ). passed tests links b m behind (passed tests links a (suc before) (b + behind) (map from_next (located (tests before ((a + b) + behind)) links rs)))) (moved a before)
    ∙ ap (λ (m : ℕ). passed tests links b (suc a + before) behind (passed tests links a (suc before) (b + behind) (map from_next (located (tests before m) links rs)))) (joined a b behind)

-- the tests alone count
passed_alike : (tests : ℕ → ℕ → List Bool) (links : List Combinator) (n before behind before' behind' : ℕ) (rs : List Reached) →
    ((k m : ℕ) → suc (k + m) ≡ n → tests (k + before) (m + behind) ≡ tests (k + before') (m + behind')) →
    passed tests links n before behind rs ≡ passed tests links n before' behind' rs
passed_alike tests links zero before behind before' behind' rs h = refl
passed_alike tests links (suc n) before behind before' behind' rs h =
    ap (λ ts. passed tests links n (suc before) behind (map from_next (located ts links rs)))
    (ap (λ (x : ℕ). tests x (n + behind)) (sym (none_first before)) ∙ h 0 n (ap suc (none_first n)) ∙ ap (λ (x : ℕ). tests x (n + behind')) (none_first before'))
    ∙ passed_alike tests links n (suc before) behind (suc before') behind' (map from_next (located (tests before' (n + behind')) links rs))
    (λ k m e. ap (λ (x : ℕ). tests x (m + behind)) (moved k before) ∙ h (suc k) m (ap suc (one_first k m ∙ e)) ∙ ap (λ (x : ℕ). tests x (m + behind')) (sym (moved k before')))

one_more : (n p : ℕ) → suc n * p ≡ p + n * p
one_more n p = suc-mul n p ∙ swapped (n * p) p
  where
    swapped : (m n : ℕ) → m + n ≡ n + m
    swapped m n = omega arith

behind_them : (m n p x : ℕ) → m + (suc n * p + x) ≡ p + (m + (n * p + x))
behind_them m n p x = ap (λ (y : ℕ). m + (y + x)) (one_more n p) ∙ by (n * p)
  where
    by : (y : ℕ) → m + ((p + y) + x) ≡ p + (m + (y + x))
    by y = omega arith

before_them : (k p x : ℕ) → p + (k + x) ≡ k + (p + x)
before_them k p x = omega arith

at_least : (t k x : ℕ) → t ≤ x → t ≤ k + x
at_least t k x h = omega arith

pub repeated_passes : (tests : ℕ → ℕ → List Bool) (links : List Combinator) (threshold period times before behind : ℕ) (rs : List Reached) →
    Repeats tests threshold period → threshold ≤ before → threshold ≤ behind →
    passed tests links period before (times * period + behind) rs ≡ rs →
    passed tests links (times * period) (period + before) behind rs ≡ rs
repeated_passes tests links t p zero before behind rs again low high same = ap (λ (m : ℕ). passed tests links m (p + before) behind rs) (zero-mul p)
repeated_passes tests links t p (suc n) before behind rs again low high same =
    ap (λ (m : ℕ). passed tests links m (p + before) behind rs) (one_more n p)
    ∙ passed_parts tests links p (n * p) (p + before) behind rs
    ∙ ap (passed tests links (n * p) (p + (p + before)) behind) later
    ∙ repeated_passes tests links t p n (p + before) behind rs again (at_least t p before low) high later
  where
    later : passed tests links p (p + before) (n * p + behind) rs ≡ rs
    later =
        passed_alike tests links p (p + before) (n * p + behind) before (suc n * p + behind) rs
        (λ k m e. ap (λ (x : ℕ). tests x (m + (n * p + behind))) (sym (before_them k p before))
        ∙ sym (again (k + before) (m + (n * p + behind)) (at_least t k before low) (at_least t m (n * p + behind) (at_least t (n * p) behind high)))
        ∙ ap (tests (k + before)) (sym (behind_them m n p behind)))
        ∙ same
