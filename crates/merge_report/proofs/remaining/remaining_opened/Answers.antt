use Rattle.std.proofs.Common.{◌∙◌, sym, map, subst}
use Rattle.std.specs.List.{AllByRecursion}
use Rattle.media_groups.specs.Laws.{IsBlockOf}
use Rattle.merge_report.proofs.Inside.{AreDone, all_done_more, opened_remain}
use Rattle.merge_report.proofs.remaining.remaining_opened.Goals as goal
use Rattle.sheet_order.specs.Laws.{answer_seen}

pub remaining_steps-requires-clause-plannable : goal.remaining_steps-requires-clause-plannable
remaining_steps-requires-clause-plannable c = c.read_is_plannable.ensures c.args.source.now c.args.sheet.now.items c.requires.read

pub remaining_inside-requires-clause-blocks : goal.remaining_inside-requires-clause-blocks
remaining_inside-requires-clause-blocks c =
    subst (AllByRecursion (IsBlockOf c.args.source.now)) (sym (c.as_slice.ensures.value ∙ c.in_ok-media.ensures)) (c.opened_blocks_are_sheets.ensures.sheets c.args.source.now c.args.sheet.now.items)

pub remaining_inside-requires-clause-done : goal.remaining_inside-requires-clause-done
remaining_inside-requires-clause-done c =
    subst (AreDone (map answer_seen c.remaining_steps.new.pairs.answers) c.args.source.now) (sym (c.as_slice.ensures.value ∙ c.in_ok-media.ensures))
    (all_done_more c.args.pairs.now c.remaining_steps.new.pairs c.in_ok-found.ensures.stays c.args.source.now _ c.requires.done.inside)

pub returns-clause-are : goal.returns-clause-are
returns-clause-are c =
    opened_remain c.remaining_steps.new.pairs c.remaining_inside.new.pairs c.in_ok-inside.ensures.stays c.args.source.now c.args.sheet.now.items c.as_slice.result.now c.in_ok-found.found.items c.in_ok-inside.inside.items
    c.append.new.self.items (c.as_slice.ensures.value ∙ c.in_ok-media.ensures) c.in_ok-found.ensures.are c.in_ok-inside.ensures.are c.in_ok-append.ensures.items
