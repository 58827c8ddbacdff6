-- Lemmas on what was decided, and what propagation leaves of it.
use Rattle.std.proofs.Common.{◌≡◌, ◌+◌, ℕ, IsTrue, Option, None, Some, List, [], ◌∷◌, ◌++◌, sym, subst, arith}
use Rattle.std.specs.Prelude.{MatchOption}
use Rattle.cnf.specs.declared.lit.Lit.{Lit}
use Rattle.cnf.specs.Lits.{negation, is_among}
use Rattle.sat_trail.specs.declared.entry.Entry.{Entry}
use Rattle.sat_trail.specs.Trail.{Assignment, RiseTo, IsTrail}
use Rattle.sat_trail.proofs.ForCallers.{rise-bound}
use Rattle.sat_watch.specs.Watches.{IsLonger}
use Rattle.rup_check.specs.Root.{DecidedBy}

pub decided-append : (clause : List Lit) (xs ys : List Entry) → DecidedBy clause xs → DecidedBy clause ys → DecidedBy clause (xs ++ ys)
decided-append clause [] ys h k = k
decided-append clause (x ∷ xs) ys h k = (h.0, decided-append clause xs ys h.1 k)

-- entries that rise by no level were not decided
pub decided-flat : (clause : List Lit) (l : ℕ) (es : List Entry) → RiseTo l es l → DecidedBy clause es
decided-flat clause l [] h = tt
decided-flat clause l (e ∷ es) h =
    let P : ℕ → Type 0 = λ n. RiseTo n es l in
    let up = (rise-bound e.level es l h.1).0 in
    let first = by e.reason h.0 in
    (first.0, decided-flat clause l es (subst P first.1 h.1))
  where
    by : (o : Option ℕ) → MatchOption o (e.level ≡ l + 1) (λ _. e.level ≡ l) → MatchOption o (IsTrue (is_among clause (negation e.lit))) (λ _. Unit {0}) × (e.level ≡ l)
    by None q = absurd (let up = (rise-bound e.level es l h.1).0 in omega arith)
    by (Some n) q = (tt, q)

rise-split : (l : ℕ) (xs ys : List Entry) (n m : ℕ) → RiseTo l (xs ++ ys) n → RiseTo l xs m → RiseTo m ys n
rise-split l [] ys n m h k = let P : ℕ → Type 0 = λ z. RiseTo z ys n in subst P k h
rise-split l (x ∷ xs) ys n m h k = rise-split x.level xs ys n m h.1 k.1

-- entries that came at the same level were not decided
pub decided-longer : (clause : List Lit) (t u : Assignment) → IsTrail t → IsTrail u → u.level ≡ t.level → IsLonger t u → DecidedBy clause t.entries → DecidedBy clause u.entries
decided-longer clause t u h k same m d =
    let P : List Entry → Type 0 = λ es. RiseTo 0 es u.level in
    let Q : ℕ → Type 0 = λ n. RiseTo 0 (t.entries ++ m.0) n in
    let R : List Entry → Type 0 = λ es. DecidedBy clause es in
    let rise = rise-split 0 t.entries m.0 t.level t.level (subst Q same (subst P m.1 k.rise)) h.rise in
    subst R (sym m.1) (decided-append clause t.entries m.0 d (decided-flat clause t.level m.0 rise))
