use Rattle.rule_tables.proofs.partners.is_under_none.Given as goal
use Rattle.rule_tables.specs.Tables.{IsUnderOne, selector_digests}
use Rattle.std.proofs.Common.{length}

-- it can only be under one of the rest
abbrev pub invariant-rest : goal.invariant-rest
invariant-rest l = IsUnderOne l.entries (selector_digests l.initial.rest) l.order_key → IsUnderOne l.entries (selector_digests l.rest) l.order_key

abbrev pub decreases-rest : goal.decreases-rest
decreases-rest l = length l.rest
