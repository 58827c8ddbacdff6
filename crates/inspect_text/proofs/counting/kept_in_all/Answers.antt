use Rattle.std.proofs.Common.{List, length, ap, ◌∙◌, arith}
use Rattle.std.specs.List.{count_by}
use Rattle.css_model.specs.Sheets.KeptItems.{is_kept}
use Rattle.css_model.specs.Sheets.SheetParts.{SheetParts}
use Rattle.media_groups.specs.declared.media.Media.{Media}
use Rattle.inspect_text.proofs.Limits.{few_blocks, few_kept, few_read, no_more_blocks}
use Rattle.inspect_text.proofs.counting.kept_in_all.Goals as goal

pub overflow_sub-result : goal.overflow_sub-result
overflow_sub-result c =
    let kept = c.kept_count-kept.ensures ∙ ap (count_by is_kept) (c.deref.ensures.value ∙ ap (λ (t : SheetParts). t.items) c.sheet.view_is) in
    let blocks = ap (λ (media : List Media). length media) c.requires.blocks in
    let fewer = no_more_blocks c.args.source.now c.args.sheet.now.items in
    omega (arith, kept, blocks, fewer)

pub overflow_add-result : goal.overflow_add-result
overflow_add-result c =
    let kept = c.kept_count-kept.ensures ∙ ap (count_by is_kept) (c.deref.ensures.value ∙ ap (λ (t : SheetParts). t.items) c.sheet.view_is) in
    let blocks = ap (λ (media : List Media). length media) c.requires.blocks in
    let few = few_blocks c.args.source.now c.args.sheet.now.items c.requires.read in
    let some = few_kept c.args.sheet.now.items (few_read c.args.source.now c.args.sheet.now.items c.requires.read) in
    let small = c.kept_in_bodies-inside.ensures.small in
    omega (arith, kept, blocks, few, some, small)
