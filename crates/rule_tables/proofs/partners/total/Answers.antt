use Rattle.std.proofs.Common.{arith}
use Rattle.std.proofs.lemmas.List.{nil_from_length}
use Rattle.rule_tables.proofs.ListsUnder.{sum_end, sum_next}
use Rattle.rule_tables.proofs.partners.total.Goals as goal

pub rest-init : goal.rest-init
rest-init c = λ final h m small least. h m small (omega (arith, least))

pub rest-preserved : goal.rest-preserved
rest-preserved c = λ final h. c.rest.invariant final
    (sum_next final c.rest.total c.capped_sum-total.result c.in-Some.first.now c.rest.rest.now c.in-Some.behind.now c.in-Some.ensures.cases.0 c.capped_sum-total.ensures h)

pub returns : goal.returns
returns c = c.rest.invariant c.rest.total (sum_end c.rest.total c.rest.rest.now (nil_from_length c.rest.rest.now c.in_default.ensures.cases))
