use Rattle.std.proofs.Common.{◌≡◌, ◌⊎◌, ℕ, length}
use Rattle.rule_tables.specs.Tables.{IsUnderOne, selector_digests}
use Rattle.rule_tables.proofs.partners.have_no_others.Given as goal

abbrev pub invariant-rest : goal.invariant-rest
invariant-rest l = (order_key : ℕ) → IsUnderOne l.entries (selector_digests l.initial.rest) order_key → (order_key ≡ l.own) ⊎ IsUnderOne l.entries (selector_digests l.rest) order_key

abbrev pub decreases-rest : goal.decreases-rest
decreases-rest l = length l.rest
