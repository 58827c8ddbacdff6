use Rattle.std.proofs.Common.{refl}
use Rattle.sheet_order.specs.declared.places.Other.TheVariants.{Pair}
use Rattle.why_text.proofs.Entries.{asks_entry}
use Rattle.why_text.proofs.explaining.asked_told.Goals as goal

pub returns-clause-asks : goal.returns-clause-asks
returns-clause-asks c =
    asks_entry c.args.sheet.now.items c.args.pairs.now c.settle.new.self (record { moved = c.args.moved; other = Pair c.args.other }) c.args.other c.pair_at.result.0.now c.pair_at-2.result.0.now refl
    (record { first_decl = c.pair_at.result.1.now; second_decl = c.pair_at-2.result.1.now; first = c.pair_at.ensures; second = c.pair_at-2.ensures }) c.settle.ensures.asks
