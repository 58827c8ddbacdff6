use Rattle.std.proofs.Common.{◌≡◌, ◌≤◌, IsTrue, OnOk, IfOk, Result, Ok, Err, ◌∙◌}
use Rattle.cnf.specs.declared.lit.Lit.{Lit}
use Rattle.cnf.specs.Cnf.{Cnf}
use Rattle.cnf.specs.Lits.{is_below}
use Rattle.cnf.proofs.GrowLemmas.{at_least-grows}
use Rattle.cnf.proofs.RangeLemmas.{at_least-below}
use Rattle.cnf.proofs.comparison.at_least.Goals as goal

answer_below : {E : Type 0} (r : Result Lit E) (g : Cnf) (a : Cnf × Lit) → OnOk r (g ≡ a.0) → IfOk r (λ l. l ≡ a.1) → IsTrue (is_below a.0.vars a.1) → IfOk r (λ l. IsTrue (is_below g.vars l))
answer_below (Ok l) g a e k h = rw (e, k) h
answer_below (Err x) g a e k h = tt

more_vars : {E : Type 0} (r : Result Lit E) (f g h : Cnf) → OnOk r (g ≡ h) → f.vars ≤ h.vars → OnOk r (f.vars ≤ g.vars)
more_vars (Ok l) f g h e k = rw e k
more_vars (Err x) f g h e k = tt

pub returns-clause-in_range : goal.returns-clause-in_range
returns-clause-in_range c =
    let x = c.deref.ensures.value ∙ c.x.view_is in
    let below = at_least-below c.args.f.now c.deref.result.now c.args.bound (rw x c.requires.in_range) in
    answer_below c.is_at_least.result c.is_at_least.new.f _ c.is_at_least.ensures.formula c.is_at_least.ensures.answer below

pub returns-clause-grows : goal.returns-clause-grows
returns-clause-grows c =
    more_vars c.is_at_least.result c.args.f.now c.is_at_least.new.f _ c.is_at_least.ensures.formula (at_least-grows c.args.f.now c.deref.result.now c.args.bound)
