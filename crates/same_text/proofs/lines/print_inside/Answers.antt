use Rattle.std.proofs.Common.{Some, refl, ◌∙◌}
use Rattle.std.proofs.lemmas.Result.{IfOk-weaker}
use Rattle.media_groups.specs.Opened.{opened_of}
use Rattle.same_text.specs.SameTexts.{IsTold}
use Rattle.same_text.specs.Telling.{IsComparedText}
use Rattle.same_text.proofs.Printing.{first_below, second_below, places_there, told_there}
use Rattle.same_text.proofs.lines.print_inside.Goals as goal

pub body_at-side-requires-clause-below : goal.body_at-side-requires-clause-below
body_at-side-requires-clause-below c =
    first_below c.args.source.now c.args.sheet.now.items c.args.there.now c.args.other.now.items c.args.compared.now (Some c.args.number) c.args.number refl c.requires.places
    c.deref.result.now (opened_of c.args.other.now.items c.args.there.now) (c.deref.ensures.value ∙ c.in_ok-media.ensures) refl

pub body_at-far-requires-clause-below : goal.body_at-far-requires-clause-below
body_at-far-requires-clause-below c =
    second_below c.args.source.now c.args.sheet.now.items c.args.there.now c.args.other.now.items c.args.compared.now (Some c.args.number) c.args.number refl c.requires.places
    (opened_of c.args.sheet.now.items c.args.source.now) c.deref-2.result.now refl (c.deref-2.ensures.value ∙ c.in_ok-twins.ensures)

pub print_compared-requires : goal.print_compared-requires
print_compared-requires c = record {
  places = places_there c.args.source.now c.args.sheet.now.items c.args.there.now c.args.other.now.items c.args.compared.now (Some c.args.number) c.args.number refl c.requires.places
      c.deref.result.now c.deref-2.result.now (c.deref.ensures.value ∙ c.in_ok-media.ensures) (c.deref-2.ensures.value ∙ c.in_ok-twins.ensures)
      c.body_at-side.result.source.now c.body_at-far.result.source.now c.body_at-side.result.sheet.now.items c.body_at-far.result.sheet.now.items c.body_at-side.ensures c.body_at-far.ensures;
}

pub returns : goal.returns
returns c =
    IfOk-weaker c.print_compared.result
    (λ text. IsComparedText c.body_at-side.result.source.now c.body_at-side.result.sheet.now.items c.body_at-far.result.source.now c.body_at-far.result.sheet.now.items c.args.compared.now text.items)
    (λ text. IsTold c.args.source.now c.args.sheet.now.items c.args.there.now c.args.other.now.items c.args.compared.now (Some c.args.number) text.items)
    (λ text h. told_there c.args.source.now c.args.sheet.now.items c.args.there.now c.args.other.now.items c.args.compared.now (Some c.args.number) c.args.number refl c.requires.places
    c.deref.result.now c.deref-2.result.now (c.deref.ensures.value ∙ c.in_ok-media.ensures) (c.deref-2.ensures.value ∙ c.in_ok-twins.ensures)
    c.body_at-side.result.source.now c.body_at-far.result.source.now c.body_at-side.result.sheet.now.items c.body_at-far.result.sheet.now.items c.body_at-side.ensures c.body_at-far.ensures text.items h)
    c.print_compared.ensures
