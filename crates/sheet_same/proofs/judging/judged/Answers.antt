use Rattle.std.proofs.Common.{◌+◌, ◌-◌, length, take, drop, Option, Some, ap, ◌∙◌, subst, arith}
use Rattle.sheet_order.proofs.ForCallers.{stays_on}
use Rattle.sheet_same.specs.declared.compared.Compared.{Compared}
use Rattle.sheet_same.specs.Judging.{IsJudged}
use Rattle.sheet_same.specs.Standing.{couples_with}
use Rattle.sheet_same.proofs.Judged.{found_of, none_of}
use Rattle.sheet_same.proofs.LeastPlaces.{leasts_left}
use Rattle.sheet_same.proofs.judging.judged.Goals as goal

pub found_with-requires-clause-leasts : goal.found_with-requires-clause-leasts
found_with-requires-clause-leasts c = leasts_left c.args.members.now c.deref.result.now (c.loop-m.behind + 1) (c.deref.ensures.value ∙ c.in_ok-leasts.ensures.exact)

pub returns-in-Some-clause-judged : goal.returns-in-Some-clause-judged
returns-in-Some-clause-judged c =
    c.loop-m.invariant.others c.found_with.new.pairs (Some c.in-Some.found) c.found_with.ensures.stays
    (found_of c.args.items.now c.m-item.result c.args.members.now c.loop-m.m-index c.loop-m.behind (omega arith) c.m-item.is c.loop-m.invariant.behind c.found_with.new.pairs.answers c.in-Some.found
    (subst (λ (o : Option Compared). IsJudged c.found_with.new.pairs.answers c.args.items.now (couples_with c.m-item.result (take (length c.args.members.now - (c.loop-m.behind + 1)) (drop (c.loop-m.behind + 1) c.args.members.now))) o) c.in-Some.is
    c.in_ok-found.ensures.judged))

pub loop-m-preserved : goal.loop-m-preserved
loop-m-preserved c = record {
  stays = stays_on c.args.pairs.now c.loop-m.pairs c.found_with.new.pairs c.loop-m.invariant.stays c.found_with.ensures.stays;
  behind = ap (λ n. n + 1) c.loop-m.invariant.behind;
  others = λ q found stays h.
      c.loop-m.invariant.others q found (stays_on c.loop-m.pairs c.found_with.new.pairs q c.found_with.ensures.stays stays)
      (none_of c.args.items.now c.m-item.result c.args.members.now c.loop-m.m-index c.loop-m.behind (omega arith) c.m-item.is c.loop-m.invariant.behind c.found_with.new.pairs q found stays
      (subst (λ (o : Option Compared). IsJudged c.found_with.new.pairs.answers c.args.items.now (couples_with c.m-item.result (take (length c.args.members.now - (c.loop-m.behind + 1)) (drop (c.loop-m.behind + 1) c.args.members.now))) o) c.in_default.is
      c.in_ok-found.ensures.judged) h);
}
