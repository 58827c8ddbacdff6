use Rattle.std.proofs.Common.{ℕ, List, length}
use Rattle.rule_tables.specs.Tables.{PutsUnderOne}
use Rattle.rule_tables.proofs.partners.put_under_each.Given as goal

abbrev pub invariant-rest : goal.invariant-rest
invariant-rest l = (final : List ℕ) → PutsUnderOne l.entries l.rest l.found.items final → PutsUnderOne l.entries l.initial.rest l.initial.found.items final

abbrev pub decreases-rest : goal.decreases-rest
decreases-rest l = length l.rest
