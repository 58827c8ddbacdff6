-- What the tests of a compound add, one after the other.
use Rattle.std.proofs.Common.{Bool, List, [], ap, arith, drop, get_or, length, refl, subst, suc, sym, zero, ℕ, ◌+◌, ◌<◌, ◌∙◌, ◌∷◌, ◌≡◌, ◌≤◌}
use Rattle.std.proofs.lemmas.List.{at_drop_more}
use Rattle.std.specs.List.{AllByRecursion}
use Rattle.sibling_clauses.proofs.Growing.{positions_grow}
use Rattle.cnf.specs.Cnf.{Cnf}
use Rattle.cnf.specs.declared.lit.Lit.{Lit}
use Rattle.css_model.specs.declared.selector.Simple.{Simple}
use Rattle.formula_laws.specs.Positions.{with_positions, with_test}
use Rattle.selector_laws.specs.Limits.{KeepsTest}

pub test_step : (last : Bool) (r child : Lit) (b a : List Lit) (ss : List Simple) (k : ℕ) (s : Simple) (f h : Cnf) → k < length ss → s ≡ get_or ss k s →
    h ≡ with_test last s.negated r child b a s.test f → with_positions last r child b a (drop (k + 1) ss) h ≡ with_positions last r child b a (drop k ss) f
test_step last r child b a ss k s f h less is e =
    ap (λ i. with_positions last r child b a (drop (k + 1) ss) i) (e ∙ ap (λ t. with_test last t.negated r child b a t.test f) is)
    ∙ sym (at_drop_more (λ s. with_positions last r child b a s f) ss k s less)

pub test_room : (last : Bool) (r child : Lit) (b a : List Lit) (ss : List Simple) (k most : ℕ) (s : Simple) (f h : Cnf) → k < length ss → s ≡ get_or ss k s →
    with_positions last r child b a (drop k ss) f ≡ h → h.vars ≤ most → (with_test last s.negated r child b a s.test f).vars ≤ most
test_room last r child b a ss k most s f h less is e room =
    let step = with_test last s.negated r child b a s.test f in
    let all = ap (λ i. i.vars) (test_step last r child b a ss k s f step less is refl ∙ e) in
    let more = positions_grow last r child b a (drop (k + 1) ss) step in
    omega arith

-- the tests of a compound keep to the limits
keeps_at : (ss : List Simple) (k : ℕ) (d : Simple) → AllByRecursion (λ s. KeepsTest s.test) ss → k < length ss → KeepsTest (get_or ss k d).test
keeps_at [] k d h less = absurd (omega arith)
keeps_at (s ∷ ss) zero d h less = h.0
keeps_at (s ∷ ss) (suc k) d h less = keeps_at ss k d h.1 (omega arith)

pub keeps_item : (ss : List Simple) (k : ℕ) (s : Simple) → AllByRecursion (λ s. KeepsTest s.test) ss → k < length ss → s ≡ get_or ss k s → KeepsTest s.test
keeps_item ss k s h less is = subst (λ t. KeepsTest t.test) (sym is) (keeps_at ss k s h less)
