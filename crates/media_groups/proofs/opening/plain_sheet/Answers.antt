use Rattle.std.proofs.Common.{sym, ap, ◌∙◌, ◌||◌, Bool, List}
use Rattle.std.specs.List.{list_any}
use Rattle.css_model.specs.declared.sheet.Item.{Item}
use Rattle.css_model.specs.Sheets.SheetParts.{SheetParts}
use Rattle.css_model.specs.Sheets.Spelling.{lexemes_of}
use Rattle.media_groups.specs.Opened.{is_comment_sign, is_top_item}
use Rattle.media_groups.proofs.Counts.{differing, plain}
use Rattle.media_groups.proofs.opening.plain_sheet.Goals as goal

pub returns-then-differs_inside : goal.returns-then-differs_inside
returns-then-differs_inside c =
    let source = c.args.body.now.source.now in
    let marked : Bool = list_any is_comment_sign (lexemes_of source) in
    differing source c.args.sheet.items marked c.requires
    (ap (λ (items : List Item). marked || list_any (is_top_item source) items) (sym (c.as_slice.ensures.value ∙ ap (λ (t : SheetParts). t.items) c.sheet.view_is))
    ∙ sym c.differs_inside.ensures ∙ c.if-differs_inside.true)

pub returns-else-differs_inside : goal.returns-else-differs_inside
returns-else-differs_inside c =
    let source = c.args.body.now.source.now in
    let marked : Bool = list_any is_comment_sign (lexemes_of source) in
    plain source c.args.sheet.items marked c.requires
    (ap (λ (items : List Item). marked || list_any (is_top_item source) items) (sym (c.as_slice.ensures.value ∙ ap (λ (t : SheetParts). t.items) c.sheet.view_is))
    ∙ sym c.differs_inside.ensures ∙ c.if-differs_inside.false)
