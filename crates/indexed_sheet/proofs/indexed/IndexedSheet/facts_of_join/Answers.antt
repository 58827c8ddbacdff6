use Rattle.std.proofs.Common.{ℕ, ap, subst, sym}
use Rattle.indexed_sheet.proofs.indexed.IndexedSheet.facts_of_join.Goals as goal
use Rattle.indexed_sheet.proofs.Learnt.{true_of_both}
use Rattle.indexed_sheet.specs.declared.facts.Facts.{Facts}
use Rattle.indexed_sheet.specs.Facts.{AreTrueOf, AreTrueOfBoth}

pub returns-in-Some : goal.returns-in-Some
returns-in-Some c =
    subst (λ (f : Facts). AreTrueOfBoth c.args.self.now.items c.args.step.now f) (sym c.by_both.ensures)
    (true_of_both c.args.self.now.items c.args.step.now c.in-Some.field-0 c.facts.result c.facts-in-Some.result c.in-Some.ensures.join
    (subst (λ (n : ℕ). AreTrueOf c.args.self.now.items n c.facts.result) (ap (λ p. p.0) c.items_of-first.ensures) c.facts.ensures)
    (subst (λ (n : ℕ). AreTrueOf c.args.self.now.items n c.facts-in-Some.result) (ap (λ p. p.1) c.items_of-first.ensures) c.facts-in-Some.ensures))
