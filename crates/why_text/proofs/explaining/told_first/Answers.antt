use Rattle.std.proofs.Common.{Option, get_or, subst, arith}
use Rattle.why_text.specs.declared.explaining.Explained.{Explained}
use Rattle.why_text.specs.Explaining.{HasPlaces, Tells}
use Rattle.why_text.proofs.Entries.{asks_next, first_tells, no_entry, of_read, one_more}
use Rattle.why_text.proofs.explaining.told_first.Goals as goal

pub told_of_entry-requires-clause-places : goal.told_of_entry-requires-clause-places
told_of_entry-requires-clause-places c = of_read (HasPlaces c.args.sheet.now.items) c.args.entries.now c.loop-entry.entry-index no_entry (omega arith) c.requires.places

pub returns-in_err-told-clause-asks : goal.returns-in_err-told-clause-asks
returns-in_err-told-clause-asks c =
    asks_next c.args.sheet.now.items c.args.pairs.now c.loop-entry.pairs c.told_of_entry.new.pairs c.args.entries.now c.loop-entry.entry-index (omega arith) c.loop-entry.invariant.asks c.told_of_entry.ensures.asks

pub returns-in-Some-clause-asks : goal.returns-in-Some-clause-asks
returns-in-Some-clause-asks c =
    asks_next c.args.sheet.now.items c.args.pairs.now c.loop-entry.pairs c.told_of_entry.new.pairs c.args.entries.now c.loop-entry.entry-index (omega arith) c.loop-entry.invariant.asks c.told_of_entry.ensures.asks

pub returns-in-Some-clause-tells : goal.returns-in-Some-clause-tells
returns-in-Some-clause-tells c =
    first_tells c.args.sheet.now.items c.args.pairs.now c.loop-entry.pairs c.told_of_entry.new.pairs c.args.entries.now c.loop-entry.entry-index (omega arith) c.in-Some.told c.loop-entry.invariant.nothing c.told_of_entry.ensures.asks
    (subst (λ (o : Option Explained). Tells c.told_of_entry.new.pairs.answers c.args.sheet.now.items (get_or c.args.entries.now c.loop-entry.entry-index no_entry) o) c.in-Some.is c.in_ok-told.ensures.tells)

pub loop-entry-preserved : goal.loop-entry-preserved
loop-entry-preserved c = record {
  asks = asks_next c.args.sheet.now.items c.args.pairs.now c.loop-entry.pairs c.told_of_entry.new.pairs c.args.entries.now c.loop-entry.entry-index (omega arith) c.loop-entry.invariant.asks c.told_of_entry.ensures.asks;
  nothing = one_more c.args.sheet.now.items c.args.pairs.now c.loop-entry.pairs c.told_of_entry.new.pairs c.args.entries.now c.loop-entry.entry-index (omega arith) c.loop-entry.invariant.nothing c.told_of_entry.ensures.asks
      (subst (λ (o : Option Explained). Tells c.told_of_entry.new.pairs.answers c.args.sheet.now.items (get_or c.args.entries.now c.loop-entry.entry-index no_entry) o) c.in_default.is c.in_ok-told.ensures.tells);
}
