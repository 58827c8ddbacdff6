use Rattle.same_text.proofs.Locating.{told_places}
use Rattle.same_text.proofs.lines.compare_texts.Goals as goal

pub print_difference-requires-clause-places : goal.print_difference-requires-clause-places
print_difference-requires-clause-places c =
    told_places c.compare.new.pairs.answers c.args.source.now c.in_ok-sheet.sheet.items c.args.there.now c.in_ok-other.other.items c.listed_stands_last.ensures c.in_ok-difference.difference
    c.in_ok-difference.ensures.difference
