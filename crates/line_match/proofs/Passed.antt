-- Along a run: one element, a period of them, and periods that change nothing.
use Rattle.std.proofs.Common.{◌≡◌, ◌⊎◌, ℕ, suc, ◌+◌, ◌-◌, ◌*◌, ◌<◌, ◌≤◌, Bool, true, List, map, sym, ap, ◌∙◌, arith, inl, inr}
use Rattle.css_model.specs.declared.selector.Combinator.{Combinator}
use Rattle.cascade_laws.specs.declared.reaching.Reached.{Reached}
use Rattle.cascade_laws.specs.Eval.Reaching.{from_next, located, passed}
use Rattle.cascade_laws.specs.Eval.Repeating.{Repeats, RepeatingChangesNothing}
use Rattle.cascade_laws.proofs.ForCallers.{passed_parts}

-- the first of them
pub passed_first : (tests : ℕ → ℕ → List Bool) (links : List Combinator) (n left before behind : ℕ) (rs : List Reached) → n ≡ suc left →
    passed tests links n before behind rs ≡ passed tests links left (before + 1) behind (map from_next (located (tests before (left + behind)) links rs))
passed_first tests links n left before behind rs e =
    ap (λ (m : ℕ). passed tests links m before behind rs) e
    ∙ ap (λ (m : ℕ). passed tests links left m behind (map from_next (located (tests before (left + behind)) links rs))) (omega arith)

-- a part of them
pub passed_part : (tests : ℕ → ℕ → List Bool) (links : List Combinator) (n part left before behind : ℕ) (rs : List Reached) → n ≡ part + left →
    passed tests links n before behind rs ≡ passed tests links left (before + part) behind (passed tests links part before (left + behind) rs)
passed_part tests links n part left before behind rs e =
    ap (λ (m : ℕ). passed tests links m before behind rs) e
    ∙ passed_parts tests links part left before behind rs
    ∙ ap (λ (m : ℕ). passed tests links left m behind (passed tests links part before (left + behind) rs)) (omega arith)

-- A period that leaves what is known as it was, and as many periods behind it as leave enough siblings.
passed_periods : (law : RepeatingChangesNothing) (tests : ℕ → ℕ → List Bool) (links : List Combinator) (threshold period times left rest before behind : ℕ) (rs : List Reached) →
    Repeats tests threshold period → threshold ≤ before → threshold ≤ rest + behind → left ≡ times * period + rest →
    passed tests links period before (left + behind) rs ≡ rs →
    passed tests links left (before + period) behind rs ≡ passed tests links rest (before + period + times * period) behind rs
passed_periods law tests links threshold period times left rest before behind rs again low high e same =
    passed_part tests links left (times * period) rest (before + period) behind rs e
    ∙ ap (passed tests links rest (before + period + times * period) behind)
    (ap (λ (m : ℕ). passed tests links (times * period) m (rest + behind) rs) (omega arith)
    ∙ law tests links threshold period times before (rest + behind) rs again low high
    (ap (λ (m : ℕ). passed tests links period before m rs) (omega (arith, e)) ∙ same))

-- A period, and what is skipped behind it.
pub passed_on : (law : RepeatingChangesNothing) (tests : ℕ → ℕ → List Bool) (links : List Combinator) (threshold period n left skipped before behind : ℕ) (rs later : List Reached) (same : Bool) →
    (period < 4294967296 → Repeats tests threshold period) → n < 4294967296 → period ≤ n → threshold ≤ before → left ≡ n - period →
    later ≡ passed tests links period before (left + behind) rs →
    (same ≡ true → later ≡ rs) → skipped ≤ left → (times : ℕ) × (skipped ≡ times * period) →
    (skipped ≡ 0) ⊎ ((same ≡ true) × (threshold ≤ (left - skipped) + behind)) →
    passed tests links n before behind rs ≡ passed tests links (left - skipped) (before + (period + skipped)) behind later
passed_on law tests links threshold period n left skipped before behind rs later same again small within low e is same_is some (times, whole) (inl z) =
    passed_part tests links n period left before behind rs (omega arith)
    ∙ ap (passed tests links left (before + period) behind) (sym is)
    ∙ ap (λ (m : ℕ). passed tests links m (before + period) behind later) (let w : left ≡ left - skipped = omega arith in w)
    ∙ ap (λ (m : ℕ). passed tests links (left - skipped) m behind later) (let w : before + period ≡ before + (period + skipped) = omega arith in w)
passed_on law tests links threshold period n left skipped before behind rs later same again small within low e is same_is some (times, whole) (inr (so, high)) =
    let stays : later ≡ rs = same_is so in
    passed_part tests links n period left before behind rs (omega arith)
    ∙ ap (passed tests links left (before + period) behind) (sym is ∙ stays)
    ∙ passed_periods law tests links threshold period times left (left - skipped) before behind rs (again (omega arith)) low high (omega (arith, whole)) (sym is ∙ stays)
    ∙ ap (λ (m : ℕ). passed tests links (left - skipped) m behind rs) (let w : before + period + times * period ≡ before + (period + skipped) = omega (arith, whole) in w)
    ∙ ap (passed tests links (left - skipped) (before + (period + skipped)) behind) (sym stays)
