use Rattle.std.proofs.Common.{Option, subst, arith}
use Rattle.step_laws.specs.declared.cause.BlockCause.{BlockCause}
use Rattle.sheet_order.proofs.Held.{stays_on, one_more_free, first_blocked}
use Rattle.sheet_order.specs.Allowing.{Judges}
use Rattle.sheet_order.proofs.permitting.judged.Goals as goal

pub returns-in-Some-clause-allowed : goal.returns-in-Some-clause-allowed
returns-in-Some-clause-allowed c =
    first_blocked c.loop-entry.pairs c.hindrance.new.pairs c.args.entries.now c.loop-entry.entry-index c.entry-item.result c.in-Some.cause (omega arith) c.entry-item.is
    c.loop-entry.invariant.free c.hindrance.ensures.stays
    (subst (λ (o : Option BlockCause). Judges c.hindrance.new.pairs.answers c.entry-item.result o) c.in-Some.is c.in_ok-cause.ensures.judges)

pub loop-entry-preserved : goal.loop-entry-preserved
loop-entry-preserved c = record {
  stays = stays_on c.args.pairs.now c.loop-entry.pairs c.hindrance.new.pairs c.loop-entry.invariant.stays c.hindrance.ensures.stays;
  free = one_more_free c.loop-entry.pairs c.hindrance.new.pairs c.args.entries.now c.loop-entry.entry-index c.entry-item.result (omega arith) c.entry-item.is
      c.loop-entry.invariant.free c.hindrance.ensures.stays
      (subst (λ (o : Option BlockCause). Judges c.hindrance.new.pairs.answers c.entry-item.result o) c.in_default.is c.in_ok-cause.ensures.judges);
}
