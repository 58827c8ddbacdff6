use Rattle.std.proofs.Common.{◌≡◌, length, ap, sym, ◌∙◌}
use Rattle.std.proofs.lemmas.Bool.{eqb-true, eq-eqb}
use Rattle.std.proofs.lemmas.List.{nil_from_length}
use Rattle.cnf.proofs.LayoutLemmas.{length-pieces}
use Rattle.cnf.proofs.formula.Formula.is_empty.Goals as goal
use Rattle.cnf.proofs.formula.Formula.is_empty.Goals.{After-is_empty}

same_length : (c : After-is_empty) → length c.args.self.now.clauses ≡ Rattle.std.specs.Vec.vec_len c.self.inside.ends
same_length c =
    ap (λ f. length f.clauses) (sym c.self.view_is) ∙ (length-pieces 0 c.self.inside.ends.items c.self.inside.lits.items ∙ sym c.self.inside.ends.ok.0)

pub returns : goal.returns
returns c =
    let many = same_length c in
    (λ h. nil_from_length _ (many ∙ eqb-true _ 0 (sym c.is_empty.ensures ∙ h)), λ h. c.is_empty.ensures ∙ eq-eqb _ 0 (sym many ∙ ap length h))
