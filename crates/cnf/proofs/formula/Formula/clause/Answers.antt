use Rattle.std.proofs.Common.{◌≡◌, ◌<◌, ℕ, length, slice_get, Some, List, ap, sym, ◌∙◌, arith}
use Rattle.cnf.specs.declared.lit.Lit.{Lit}
use Rattle.cnf.specs.Cnf.{Cnf}
use Rattle.cnf.specs.Layout.{pieces}
use Rattle.cnf.specs.Lits.{are_below}
use Rattle.cnf.proofs.LayoutLemmas.{length-pieces, pieces-get}
use Rattle.cnf.proofs.LitLemmas.{list_all-get}
use Rattle.cnf.proofs.formula.Formula.clause.Goals as goal
use Rattle.cnf.proofs.formula.Formula.clause.Goals.{After-piece}

within : (f : Cnf) (ends : List ℕ) (lits : List Lit) (k : ℕ) → pieces 0 ends lits ≡ f.clauses → k < length f.clauses → k < length ends
within f ends lits k e h = let many = length-pieces 0 ends lits in let same = ap length e in omega arith

found : (c : After-piece) → slice_get c.args.self.now.clauses c.args.k ≡ Some c.piece.result.now
found c =
    let whole = c.deref.ensures.value in
    let ends = c.deref-2.ensures.value in
    let place = within c.args.self.now c.self.inside.ends.items c.self.inside.lits.items c.args.k (ap (λ f. f.clauses) c.self.view_is) c.requires in
    ap (λ f. slice_get f.clauses c.args.k) (sym c.self.view_is)
    ∙ (pieces-get 0 c.self.inside.ends.items c.self.inside.lits.items c.args.k place ∙ (cc))

pub piece-requires-clause-in_bounds : goal.piece-requires-clause-in_bounds
piece-requires-clause-in_bounds c = let place = within c.args.self.now c.self.inside.ends.items c.self.inside.lits.items c.args.k (ap (λ f. f.clauses) c.self.view_is) c.requires in let ends = ap length c.deref-2.ensures.value in omega arith

pub returns-clause-clause : goal.returns-clause-clause
returns-clause-clause c = found c

pub returns-clause-in_range : goal.returns-clause-in_range
returns-clause-in_range c =
    list_all-get (are_below c.args.self.now.vars) c.args.self.now.clauses c.args.k c.piece.result.now (rw (← c.self.view_is) c.self.invariant.2) (found c)
