-- Hints on what one number leaves.
use Rattle.std.proofs.Common.{Bool, List, Option, ap, arith, false, length, subst, sym, true, ℕ, ◌&&◌, ◌<◌, ◌∙◌, ◌≡◌, ◌≤◌}
use Rattle.std.proofs.lemmas.Bool.{and_from, and_left, and_right, le-leb, lt-leb}
use Rattle.std.specs.Prelude.{nat_le}
use Rattle.cnf.proofs.ForCallers.{division-grows}
use Rattle.cnf.specs.Cnf.{Cnf}
use Rattle.cnf.specs.Gates.{with_clauses}
use Rattle.cnf.specs.Numbers.{with_division}
use Rattle.cnf.specs.declared.lit.Lit.{Lit}
use Rattle.css_model.specs.declared.selector.Combinator.{Combinator}
use Rattle.css_model.specs.declared.selector.Simple.{Simple}
use Rattle.formula_laws.specs.Asked.{run_rests, starts_run}
use Rattle.formula_laws.specs.Counts.{when}
use Rattle.formula_laws.specs.Hints.{rest_clauses, with_rests, with_run_rests}
use Rattle.formula_laws.specs.declared.count.Count.{Count}
use Rattle.remainders.specs.Remainders.{joint_rest, joint_step, most_joint}
use Rattle.remainders.specs.declared.remainder.Remainder.{Remainder}
use Rattle.sibling_clauses.proofs.ForCallers.{Grows, when_grows}

-- by one division
abbrev divided : List Remainder → List Lit → Cnf → Cnf
divided rs n f = let d = with_division f n (joint_step rs) in with_clauses d.formula (rest_clauses d.remainder (joint_rest rs))

-- whether the remainders are two or more, and their joint step not too great
abbrev is_asked : List Remainder → Bool
is_asked rs = nat_le 2 (length rs) && nat_le (joint_step rs) most_joint

rests_by : (rs : List Remainder) (n : List Lit) (f : Cnf) (b : Bool) → is_asked rs ≡ b → with_rests rs n f ≡ when b (divided rs n) f
rests_by rs n f b e = ap (λ b. when b (divided rs n) f) e

both_asked : (rs : List Remainder) → 2 ≤ length rs → joint_step rs ≤ most_joint → is_asked rs ≡ true
both_asked rs some few = and_from (nat_le 2 (length rs)) (nat_le (joint_step rs) most_joint) (le-leb 2 (length rs) some) (le-leb (joint_step rs) most_joint few)

pub rests_few : (rs : List Remainder) (n : List Lit) (f : Cnf) → length rs < 2 → f ≡ with_rests rs n f
rests_few rs n f few = sym (rests_by rs n f false (and_left (nat_le 2 (length rs)) (nat_le (joint_step rs) most_joint) (lt-leb 2 (length rs) few)))

pub rests_far : (rs : List Remainder) (n : List Lit) (f : Cnf) (step : ℕ) → step ≡ joint_step rs → most_joint < step → f ≡ with_rests rs n f
rests_far rs n f step es far = sym (rests_by rs n f false (and_right (nat_le 2 (length rs)) (nat_le (joint_step rs) most_joint) (lt-leb (joint_step rs) most_joint (omega arith))))

pub rests_room : (rs : List Remainder) (n : List Lit) (f : Cnf) (step most : ℕ) → step ≡ joint_step rs → 2 ≤ length rs → step ≤ most_joint → (with_rests rs n f).vars ≤ most → (with_division f n step).formula.vars ≤ most
rests_room rs n f step most es some few room =
    rw es (subst (λ (h : Cnf). h.vars ≤ most) (rests_by rs n f true (both_asked rs some (omega arith))) room)

pub rests_here : (rs : List Remainder) (n remainder : List Lit) (f g h : Cnf) (step : ℕ) (rest : Option ℕ) → step ≡ joint_step rs → 2 ≤ length rs → step ≤ most_joint →
    g ≡ (with_division f n step).formula → remainder ≡ (with_division f n step).remainder → rest ≡ joint_rest rs → h ≡ with_clauses g (rest_clauses remainder rest) → h ≡ with_rests rs n f
rests_here rs n remainder f g h step rest es some few eg er ej eh =
    eh ∙ ap (λ o. with_clauses g (rest_clauses remainder o)) ej
    ∙ ap (λ k. with_clauses k (rest_clauses remainder (joint_rest rs))) eg
    ∙ ap (λ r. with_clauses (with_division f n step).formula (rest_clauses r (joint_rest rs))) er
    ∙ ap (λ (s : ℕ). let d = with_division f n s in with_clauses d.formula (rest_clauses d.remainder (joint_rest rs))) es
    ∙ sym (rests_by rs n f true (both_asked rs some (omega arith)))

pub ruleset rests_added = (rests_few, rests_far, rests_room, rests_here)

rests_grow : (rs : List Remainder) (n : List Lit) → Grows (with_rests rs n)
rests_grow rs n = when_grows (is_asked rs) (divided rs n) (λ f. division-grows f n (joint_step rs))

-- the same of the first compound of a run
pub run_rests_grow : (count : Count) (links : List Combinator) (chain : List (List Simple)) (own : ℕ → List Lit) (p : ℕ) → Grows (with_run_rests count links chain own p)
run_rests_grow count links chain own p = when_grows (starts_run links p) (with_rests (run_rests count links chain p) (own p)) (rests_grow (run_rests count links chain p) (own p))

run_by : (count : Count) (links : List Combinator) (chain : List (List Simple)) (own : ℕ → List Lit) (p : ℕ) (f : Cnf) (b : Bool) → starts_run links p ≡ b →
    with_run_rests count links chain own p f ≡ when b (with_rests (run_rests count links chain p) (own p)) f
run_by count links chain own p f b e = ap (λ b. when b (with_rests (run_rests count links chain p) (own p)) f) e

pub run_out : (count : Count) (links : List Combinator) (chain : List (List Simple)) (own : ℕ → List Lit) (p : ℕ) (f : Cnf) → starts_run links p ≡ false → f ≡ with_run_rests count links chain own p f
run_out count links chain own p f e = sym (run_by count links chain own p f false e)

pub run_room : (count : Count) (links : List Combinator) (chain : List (List Simple)) (own : ℕ → List Lit) (p most : ℕ) (rs : List Remainder) (n : List Lit) (f : Cnf) → starts_run links p ≡ true →
    rs ≡ run_rests count links chain p → n ≡ own p → (with_run_rests count links chain own p f).vars ≤ most → (with_rests rs n f).vars ≤ most
run_room count links chain own p most rs n f e er en room =
    rw (er, en) (subst (λ (h : Cnf). h.vars ≤ most) (run_by count links chain own p f true e) room)

pub run_here : (count : Count) (links : List Combinator) (chain : List (List Simple)) (own : ℕ → List Lit) (p : ℕ) (rs : List Remainder) (n : List Lit) (f h : Cnf) → starts_run links p ≡ true →
    rs ≡ run_rests count links chain p → n ≡ own p → h ≡ with_rests rs n f → h ≡ with_run_rests count links chain own p f
run_here count links chain own p rs n f h e er en eh =
    eh ∙ ap (λ r. with_rests r n f) er ∙ ap (λ l. with_rests (run_rests count links chain p) l f) en ∙ sym (run_by count links chain own p f true e)
