use Rattle.std.proofs.Common.{[], ◌∷◌, Option, Some, subst, arith}
use Rattle.sheet_order.proofs.ForCallers.{stays_on}
use Rattle.sheet_same.specs.declared.compared.Compared.{Compared}
use Rattle.sheet_same.specs.Judging.{IsJudged}
use Rattle.sheet_same.specs.Standing.{couples_with}
use Rattle.sheet_same.proofs.Judged.{found_with, none_with}
use Rattle.sheet_same.proofs.judging.found_behind.Goals as goal

pub returns-in-Some-clause-judged : goal.returns-in-Some-clause-judged
returns-in-Some-clause-judged c =
    c.loop-x.invariant.others c.found_in.new.pairs (Some c.in-Some.found) c.found_in.ensures.stays
    (found_with c.args.items.now c.args.m.now c.x-item.result c.args.later.now c.loop-x.x-index (omega arith) c.x-item.is c.found_in.new.pairs.answers c.in-Some.found
    (subst (λ (o : Option Compared). IsJudged c.found_in.new.pairs.answers c.args.items.now (couples_with c.args.m.now (c.x-item.result ∷ [])) o) c.in-Some.is c.in_ok-found.ensures.judged))

pub loop-x-preserved : goal.loop-x-preserved
loop-x-preserved c = record {
  stays = stays_on c.args.pairs.now c.loop-x.pairs c.found_in.new.pairs c.loop-x.invariant.stays c.found_in.ensures.stays;
  others = λ q found stays h.
      c.loop-x.invariant.others q found (stays_on c.loop-x.pairs c.found_in.new.pairs q c.found_in.ensures.stays stays)
      (none_with c.args.items.now c.args.m.now c.x-item.result c.args.later.now c.loop-x.x-index (omega arith) c.x-item.is c.found_in.new.pairs q found stays
      (subst (λ (o : Option Compared). IsJudged c.found_in.new.pairs.answers c.args.items.now (couples_with c.args.m.now (c.x-item.result ∷ [])) o) c.in_default.is c.in_ok-found.ensures.judged) h);
}
