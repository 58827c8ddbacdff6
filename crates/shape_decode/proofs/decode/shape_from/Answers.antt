use Rattle.std.proofs.Common.{ap, ◌∙◌}
use Rattle.css_model.specs.Documents.SelectorParts.{SelectorParts}
use Rattle.grid_laws.specs.Solved.{numbers_asked}
use Rattle.shape_decode.proofs.Along.{read_of}
use Rattle.shape_decode.proofs.decode.shape_from.Goals as goal

pub returns : goal.returns
returns c =
    c.in_ok-shape.ensures
    ∙ read_of c.args.plan.now.left c.args.plan.now.right c.args.values.now c.numbering.result c.links_of.result.now c.links_of-2.result.now c.numbers_asked-asked.result
    c.numbering.ensures.value
    (c.links_of.ensures ∙ ap (λ (x : SelectorParts). x.links) c.left-2.ensures)
    (c.links_of-2.ensures ∙ ap (λ (x : SelectorParts). x.links) c.right-2.ensures)
    (c.numbers_asked-asked.ensures ∙ ap (λ (x : SelectorParts). numbers_asked x c.right.result.now) c.left.ensures ∙ ap (λ (y : SelectorParts). numbers_asked c.args.plan.now.left y) c.right.ensures)
