use Rattle.std.proofs.Common.{ℕ, sym, subst}
use Rattle.step_savings.specs.Apart.{RulesApart}
use Rattle.indexed_sheet.proofs.Apart.{apart_from_own, own_apart}
use Rattle.indexed_sheet.proofs.indexed.IndexedSheet.is_known_apart.Goals as goal

pub returns-then-facts : goal.returns-then-facts
returns-then-facts c = λ known.
    subst (λ (numbers : ℕ × ℕ). RulesApart c.args.self.now.items numbers.0 numbers.1) c.items_of-first.ensures
    (own_apart c.args.self.now.items c.items_of-first.result.0 c.items_of-first.result.1 (λ same. c.if-first-last.true (sym same)) (c.facts.ensures.own_selectors known))

pub returns-else-facts : goal.returns-else-facts
returns-else-facts c = λ known.
    subst (λ (numbers : ℕ × ℕ). RulesApart c.args.self.now.items numbers.0 numbers.1) c.items_of-first.ensures
    (apart_from_own c.args.self.now.items c.items_of-first.result.0 c.items_of-first.result.1 c.if-first-last.true (c.facts-else-facts.ensures.own_selectors known))
