use Rattle.std.proofs.lemmas.Result.{IfOk-weaker}
use Rattle.std.specs.List.{AllByRecursion}
use Rattle.sheet_order.specs.declared.places.Moved.TheVariants.{Rule}
use Rattle.sheet_order.specs.Taking.{moved_in}
use Rattle.why_text.specs.Explaining.{HasPlaces}
use Rattle.why_text.proofs.Places.{entries_placed}
use Rattle.why_text.proofs.explaining.entries_of_move.Goals as goal

pub returns-clause-places : goal.returns-clause-places
returns-clause-places c =
    IfOk-weaker c.reversed.result _ (λ found. AllByRecursion (HasPlaces c.args.sheet.now.items) found.items)
    (λ found is. entries_placed c.listed_is_reversed.ensures c.args.sheet.now.items c.in_ok-new.new.items (moved_in c.args.sheet.now.items (Rule c.args.from)) found.items is) c.reversed.ensures
