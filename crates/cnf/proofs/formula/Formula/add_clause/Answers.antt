use Rattle.std.proofs.Common.{◌≡◌, ◌+◌, ℕ, [], ◌∷◌, ◌++◌, List, length, IsTrue, cond, not, ap, ◌∙◌, refl, arith}
use Rattle.std.proofs.lemmas.List.{length-append}
use Rattle.std.proofs.lemmas.Bool.{and_from}
use Rattle.cnf.specs.declared.lit.Lit.{Lit}
use Rattle.cnf.specs.Layout.{pieces, RiseTo}
use Rattle.cnf.specs.Lits.{are_below}
use Rattle.cnf.proofs.LayoutLemmas.{RiseTo-push, pieces-push}
use Rattle.cnf.proofs.LitLemmas.{list_all-append-from}
use Rattle.cnf.proofs.formula.Formula.add_clause.Goals as goal
use Rattle.cnf.proofs.formula.Formula.add_clause.Goals.{Else-is_err}

-- the buffers after the two writes
record Added (ends : List ℕ) (lits more : List Lit) (ends' : List ℕ) (lits' : List Lit) : Type 0 where
  ends_are : ends' ≡ ends ++ (length lits + length more) ∷ []
  lits_are : lits' ≡ lits ++ more

added : (c : Else-is_err) → Added c.self.inside.ends.items c.self.inside.lits.items c.args.lits.now c.push.new.self.items c.extend_from_slice.new.self.items
added c =
    let went = c.is_err.ensures.negation ∙ ap not c.if-is_err.false in
    let lits = c.in_ok-extend_from_slice.ensures.items in
    let n =
    c.len.ensures ∙ (c.extend_from_slice.new.self.ok.0 ∙ (ap length lits ∙ length-append c.self.inside.lits.items c.args.lits.now)) in
    record {
      ends_are =
          c.push.ensures.items
          ∙ (ap (λ b. cond b (c.self.inside.ends.items ++ c.len.result ∷ []) c.self.inside.ends.items) went
          ∙ ap (λ k. c.self.inside.ends.items ++ k ∷ []) n);
      lits_are = lits;
    }

clauses_after : (ends ends' : List ℕ) (lits more lits' : List Lit) → RiseTo 0 ends (length lits) → Added ends lits more ends' lits' → pieces 0 ends' lits' ≡ pieces 0 ends lits ++ more ∷ []
clauses_after ends ends' lits more lits' h a = rw (a.ends_are, a.lits_are) (pieces-push 0 ends lits more h)

rises_after : (ends ends' : List ℕ) (lits more lits' : List Lit) → RiseTo 0 ends (length lits) → Added ends lits more ends' lits' → RiseTo 0 ends' (length lits')
rises_after ends ends' lits more lits' h a =
    rw (a.ends_are, a.lits_are, length-append) (RiseTo-push 0 ends (length lits) (length lits + length more) h (omega arith))

pub invariant_of-self-else-is_err : goal.invariant_of-self-else-is_err
invariant_of-self-else-is_err c =
    let ends = c.self.inside.ends.items in
    let lits = c.self.inside.lits.items in
    let a = added c in
    let n = c.self.inside.vars in
    let same_vars = ap (λ f. f.vars) c.self.view_is in
    let one : IsTrue (are_below n c.args.lits.now) = rw same_vars c.requires in
    let all =
    list_all-append-from (are_below n) (pieces 0 ends lits) (c.args.lits.now ∷ []) c.self.invariant.2 (and_from _ _ one refl) in (
      c.self.invariant.0,
      rises_after ends _ lits c.args.lits.now _ c.self.invariant.1 a,
      rw (clauses_after ends _ lits c.args.lits.now _ c.self.invariant.1 a) all,
    )

pub returns-clause-ok : goal.returns-clause-ok
returns-clause-ok c =
    let e = clauses_after c.self.inside.ends.items _ c.self.inside.lits.items c.args.lits.now _ c.self.invariant.1 (added c) in
    rw (e, ← c.self.view_is)
