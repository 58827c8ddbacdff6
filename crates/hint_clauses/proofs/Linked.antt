-- Combinators by their numbers.
use Rattle.std.proofs.Common.{List, [], ap, arith, false, get_or, length, refl, suc, true, zero, ℕ, ◌&&◌, ◌-◌, ◌<◌, ◌||◌, ◌∙◌, ◌∷◌, ◌≡◌, ◌≢◌, ◌≤◌}
use Rattle.std.proofs.lemmas.Bool.{eq-eqb, ne_eqb}
use Rattle.std.specs.Prelude.{not}
use Rattle.css_model.specs.declared.selector.Combinator.{Combinator}
use Rattle.formula_laws.specs.Asked.{are_joined, is_next, is_next_at, starts_run}
use Rattle.formula_laws.specs.Hints.{is_later, is_later_at}

pub later_read : (links : List Combinator) (k : ℕ) (d : Combinator) → k < length links → is_later_at links k ≡ is_later (get_or links k d)
later_read [] k d less = absurd (omega arith)
later_read (l ∷ ls) zero d less = refl
later_read (l ∷ ls) (suc k) d less = later_read ls k d (omega arith)

pub next_some : (links : List Combinator) (k : ℕ) (d : Combinator) → k < length links → is_next_at links k ≡ is_next (get_or links k d)
next_some [] k d less = absurd (omega arith)
next_some (l ∷ ls) zero d less = refl
next_some (l ∷ ls) (suc k) d less = next_some ls k d (omega arith)

pub next_none : (links : List Combinator) (k : ℕ) → length links ≤ k → is_next_at links k ≡ false
next_none [] k more = refl
next_none (l ∷ ls) zero more = absurd (omega arith)
next_none (l ∷ ls) (suc k) more = next_none ls k (omega arith)

pub ruleset next_reads = (next_some, next_none)

pub joined_here : (links : List Combinator) (p q : ℕ) → p ≡ q → are_joined links p q ≡ true
joined_here links p zero e = eq-eqb p 0 e
joined_here links p (suc q) e = ap (λ b. b || (are_joined links p q && is_next_at links q)) (eq-eqb p (suc q) e)

pub joined_none : (links : List Combinator) (p q : ℕ) → p ≢ q → q ≡ 0 → are_joined links p q ≡ false
joined_none links p zero h e = ne_eqb p 0 h
joined_none links p (suc q) h e = absurd (omega arith)

pub joined_later : (links : List Combinator) (p q : ℕ) → p ≢ q → q ≢ 0 → are_joined links p q ≡ (are_joined links p (q - 1) && is_next_at links (q - 1))
joined_later links p zero h h' = absurd (h' refl)
joined_later links p (suc q) h h' =
    ap (λ b. b || (are_joined links p q && is_next_at links q)) (ne_eqb p (suc q) h)
    ∙ ap (λ (k : ℕ). are_joined links p k && is_next_at links k) (let e : q ≡ suc q - 1 = omega arith in e)

pub ruleset joined_reads = (joined_here, joined_none, joined_later)

pub run_first : (links : List Combinator) (k : ℕ) → k ≡ 0 → starts_run links k ≡ true
run_first links zero e = refl
run_first links (suc k) e = absurd (omega arith)

pub run_later : (links : List Combinator) (k : ℕ) → k ≢ 0 → starts_run links k ≡ not (is_next_at links (k - 1))
run_later links zero h = absurd (h refl)
run_later links (suc k) h = ap (λ (n : ℕ). not (is_next_at links n)) (let e : k ≡ suc k - 1 = omega arith in e)

pub ruleset run_reads = (run_first, run_later)
