use Rattle.std.proofs.Common.{length, ap, sym, ◌∙◌}
use Rattle.cnf.proofs.LayoutLemmas.{length-pieces}
use Rattle.cnf.proofs.formula.Formula.len.Goals as goal

pub returns : goal.returns
returns c =
    c.len.ensures ∙ (c.self.inside.ends.ok.0 ∙ (sym (length-pieces 0 c.self.inside.ends.items c.self.inside.lits.items) ∙ ap (λ f. length f.clauses) c.self.view_is))
