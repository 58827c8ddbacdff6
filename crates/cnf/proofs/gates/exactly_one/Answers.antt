use Rattle.std.proofs.Common.{◌≡◌, ◌+◌, ◌<◌, ℕ, List, [], ◌∷◌, ◌++◌, map, length, get_or, drop, sym, ap, ◌∙◌}
use Rattle.std.proofs.lemmas.List.{append_assoc, at_drop_more, take_rest}
use Rattle.cnf.specs.declared.lit.Lit.{Lit}
use Rattle.cnf.specs.Cnf.{Cnf}
use Rattle.cnf.specs.Gates.{with_clauses, with_exactly_one, not_both}
use Rattle.cnf.specs.Lits.{negation}
use Rattle.cnf.proofs.LitLemmas.{are_below-get, are_below-take, are_below-drop}
use Rattle.cnf.proofs.gates.exactly_one.Goals as goal

-- one place less to go
next_place : (f g : Cnf) (lits rest : List Lit) (k : ℕ) (d : Lit) → k < length lits → rest ≡ drop (k + 1) lits → g ≡ with_clauses f (map (λ m. negation (get_or lits k d) ∷ negation m ∷ []) rest) → with_clauses g (not_both (drop (k + 1) lits)) ≡ with_clauses f (not_both (drop k lits))
next_place f g lits rest k d b r e =
    let one = map (λ m. negation (get_or lits k d) ∷ negation m ∷ []) in
    let split : not_both (drop k lits) ≡ one (drop (k + 1) lits) ++ not_both (drop (k + 1) lits) = at_drop_more not_both lits k d b in
    ap (λ h. with_clauses h (not_both (drop (k + 1) lits))) (e ∙ ap (λ ls. with_clauses f (one ls)) r)
    ∙ ap (λ cs. record f { clauses = cs }) (append_assoc f.clauses (one (drop (k + 1) lits)) (not_both (drop (k + 1) lits)) ∙ ap (λ cs. f.clauses ++ cs) (sym split))

-- no variable is added
same_vars : (f g : Cnf) (lits rest : List Lit) → with_clauses g (not_both rest) ≡ with_exactly_one f lits → g.vars ≡ f.vars
unfolding with_exactly_one
same_vars f g lits rest e = ap (λ h. h.vars) e

pub loop-k-init : goal.loop-k-init
unfolding with_exactly_one
loop-k-init c =
    let lits = c.args.lits.now in
    ap (λ h. with_clauses h (not_both lits)) c.in_ok-add_clause.ensures.ok
    ∙ ap (λ cs. record c.args.f.now { clauses = cs }) (append_assoc c.args.f.now.clauses (lits ∷ []) (not_both lits))

pub exclude-requires-clause-lit : goal.exclude-requires-clause-lit
exclude-requires-clause-lit c =
    let vars = same_vars c.args.f.now c.loop-k.f c.args.lits.now (drop c.loop-k.k c.args.lits.now) c.loop-k.invariant in
    rw vars (are_below-get c.args.f.now.vars c.args.lits.now c.loop-k.k _ c.requires c.loop-k-test.true)

pub exclude-requires-clause-others : goal.exclude-requires-clause-others
exclude-requires-clause-others c =
    let vars = same_vars c.args.f.now c.loop-k.f c.args.lits.now (drop c.loop-k.k c.args.lits.now) c.loop-k.invariant in
    rw vars (are_below-take c.args.f.now.vars _ (drop (c.loop-k.k + 1) c.args.lits.now) (are_below-drop c.args.f.now.vars (c.loop-k.k + 1) c.args.lits.now c.requires))

pub loop-k-preserved : goal.loop-k-preserved
loop-k-preserved c =
    let lits = c.args.lits.now in
    next_place c.loop-k.f c.exclude.new.f lits _ c.loop-k.k _ c.loop-k-test.true (take_rest lits (c.loop-k.k + 1)) c.in_ok-exclude.ensures
    ∙ c.loop-k.invariant

pub returns-clause-same_vars : goal.returns-clause-same_vars
returns-clause-same_vars c =
    same_vars c.args.f.now c.loop-k.f c.args.lits.now (drop c.loop-k.k c.args.lits.now) c.loop-k.invariant
