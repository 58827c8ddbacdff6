use Rattle.std.proofs.Common.{ℕ, Option, Some, sym, subst}
use Rattle.std.proofs.lemmas.Result.{IfOk-weaker}
use Rattle.same_text.specs.SameTexts.{IsTold, TellsPlaces}
use Rattle.same_text.specs.Telling.{IsComparedText}
use Rattle.same_text.proofs.Printing.{places_around, told_around}
use Rattle.same_text.proofs.lines.print_difference.Goals as goal

pub print_outside-requires-clause-places : goal.print_outside-requires-clause-places
print_outside-requires-clause-places c =
    places_around c.args.source.now c.args.sheet.now.items c.args.there.now c.args.other.now.items c.args.difference.now.compared c.args.difference.now.body c.in-None.is c.requires.places

pub print_inside-requires-clause-places : goal.print_inside-requires-clause-places
print_inside-requires-clause-places c =
    subst (λ (o : Option ℕ). TellsPlaces c.args.source.now c.args.sheet.now.items c.args.there.now c.args.other.now.items c.args.difference.now.compared o) c.in-Some.is c.requires.places

pub returns-in-None : goal.returns-in-None
returns-in-None c =
    IfOk-weaker c.print_outside.result
    (λ text. IsComparedText c.args.source.now c.args.sheet.now.items c.args.there.now c.args.other.now.items c.args.difference.now.compared text.items)
    (λ text. IsTold c.args.source.now c.args.sheet.now.items c.args.there.now c.args.other.now.items c.args.difference.now.compared c.args.difference.now.body text.items)
    (λ text h. told_around c.args.source.now c.args.sheet.now.items c.args.there.now c.args.other.now.items c.args.difference.now.compared c.args.difference.now.body c.in-None.is text.items h)
    c.print_outside.ensures

pub returns-in-Some : goal.returns-in-Some
returns-in-Some c =
    IfOk-weaker c.print_inside.result
    (λ text. IsTold c.args.source.now c.args.sheet.now.items c.args.there.now c.args.other.now.items c.args.difference.now.compared (Some c.in-Some.number) text.items)
    (λ text. IsTold c.args.source.now c.args.sheet.now.items c.args.there.now c.args.other.now.items c.args.difference.now.compared c.args.difference.now.body text.items)
    (λ text h. subst (λ (o : Option ℕ). IsTold c.args.source.now c.args.sheet.now.items c.args.there.now c.args.other.now.items c.args.difference.now.compared o text.items) (sym c.in-Some.is) h)
    c.print_inside.ensures
