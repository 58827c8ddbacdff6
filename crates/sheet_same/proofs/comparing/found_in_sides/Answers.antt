use Rattle.std.proofs.Common.{Option, map, sym, ap, ◌∙◌}
use Rattle.std.proofs.lemmas.Result.{IfOk-weaker}
use Rattle.sheet_order.specs.declared.comparing.Ordered.{Ordered}
use Rattle.sheet_same.specs.declared.compared.Compared.{Compared}
use Rattle.sheet_same.specs.Judging.{IsJudged}
use Rattle.sheet_same.specs.Standing.{couples_of, standing_of}
use Rattle.sheet_same.proofs.Standings.{found_behind_twins}
use Rattle.sheet_same.proofs.comparing.found_in_sides.Goals as goal

pub returns-clause-found : goal.returns-clause-found
returns-clause-found c =
    IfOk-weaker c.found_in_couples.result
    (λ (found : Option Compared). IsJudged c.found_in_couples.new.pairs.answers c.in_ok-twins.twins.sheet.now.items.now
    (couples_of (map (standing_of c.in_ok-twins.twins.sheet.now.items.now c.in_ok-twins.twins.other.now.items.now) c.deref-2.result.now)) found) _
    (λ found h. found_behind_twins c.listed_stands_last.ensures c.order_is_decided.ensures c.weighing_is_decided.ensures c.found_in_couples.new.pairs.answers
    c.args.side.now.reading.source.now c.args.side.now.media.now c.args.side.now.sheet.items.now c.args.there.now.reading.source.now c.args.there.now.media.now c.args.there.now.sheet.items.now
    c.in_ok-twins.twins.sheet.now.items.now c.in_ok-twins.twins.other.now.items.now c.deref-2.result.now found
    (sym c.in_ok-found.ensures ∙ c.in_default.is)
    (ap (λ (x : Ordered). x.items.now) c.in_ok-twins.ensures.sheet) (ap (λ (x : Ordered). x.items.now) c.in_ok-twins.ensures.other)
    (c.deref-2.ensures.value ∙ c.args.side.now.listed) h) c.found_in_couples.ensures.judged
