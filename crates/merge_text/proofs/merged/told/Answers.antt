use Rattle.std.proofs.Common.{◌≡◌, ◌≤◌, ◌+◌, ℕ, List, length, ap, ap₂, sym, ◌∙◌, subst, arith}
use Rattle.css_model.specs.Sheets.Limits.{max_items}
use Rattle.css_model.specs.Sheets.SheetParts.{SheetParts}
use Rattle.merge_text.proofs.merged.told.Goals as goal
use Rattle.merge_text.proofs.Told.{bodies_few, sheet_few, text_merged, text_told}
use Rattle.merge_text.specs.Counts.{most_items}
use Rattle.opened_merge_laws.specs.Told.{items_in}

pub count-requires : goal.count-requires
count-requires g c =
    let few = sheet_few c.read_keeps_the_limits.ensures c.leading_makes_of.ensures c.read_is_sound.ensures c.requires.from.0 (g.O.Obstacles.answers c.args.obstacles.now) c.args.source.now c.args.planned.now c.requires.from.1 in
    omega (arith, few)

pub count_sheets-requires : goal.count_sheets-requires
count_sheets-requires g c =
    subst (λ (sheets : List SheetParts). items_in sheets ≤ most_items) (sym c.as_slice.ensures.value)
    (bodies_few c.read_keeps_the_limits.ensures c.leading_makes_of.ensures c.read_is_sound.ensures c.opened_blocks_are_sheets.ensures.sheets c.requires.from.0 (g.O.Obstacles.answers c.args.obstacles.now) c.args.source.now c.args.planned.now c.requires.from.1)

pub overflow_add-written_items : goal.overflow_add-written_items
overflow_add-written_items g c =
    let few : length c.args.planned.now.sheet.items ≤ max_items =
    sheet_few c.read_keeps_the_limits.ensures c.leading_makes_of.ensures c.read_is_sound.ensures c.requires.from.0 (g.O.Obstacles.answers c.args.obstacles.now) c.args.source.now c.args.planned.now c.requires.from.1 in
    let inside : items_in c.as_slice.result.now ≤ most_items =
    subst (λ (sheets : List SheetParts). items_in sheets ≤ most_items) (sym c.as_slice.ensures.value)
    (bodies_few c.read_keeps_the_limits.ensures c.leading_makes_of.ensures c.read_is_sound.ensures c.opened_blocks_are_sheets.ensures.sheets c.requires.from.0 (g.O.Obstacles.answers c.args.obstacles.now) c.args.source.now c.args.planned.now c.requires.from.1) in
    let outer : c.count.result ≡ length c.args.planned.now.sheet.items = c.count.ensures in
    let inner : c.count_sheets.result ≡ items_in c.as_slice.result.now = c.count_sheets.ensures in
    omega (arith, few, inside, outer, inner)

pub returns-clause-merged : goal.returns-clause-merged
returns-clause-merged g c work from =
    text_merged c.planned_is_merged_opened.ensures work (g.O.Obstacles.answers c.args.obstacles.now) c.args.source.now c.args.planned.now c.args.text.items c.answers_are_true.ensures from c.requires.printed

pub returns-clause-told : goal.returns-clause-told
returns-clause-told g c work from =
    text_told c.planned_is_told_opened.ensures work (g.O.Obstacles.answers c.args.obstacles.now) c.args.source.now c.args.planned.now c.args.text.items (c.count.result + c.count_sheets.result)
    c.answers_are_true.ensures from c.requires.printed (ap₂ (λ (m n : ℕ). m + n) c.count.ensures (c.count_sheets.ensures ∙ ap items_in c.as_slice.ensures.value))
