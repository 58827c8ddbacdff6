use Rattle.std.proofs.Common.{◌≡◌, ℕ, List, map, Ok, sym, subst}
use Rattle.css_model.specs.Sheets.Sheet.{sheet_of}
use Rattle.merge_report.proofs.Counted.{done_there, reported}
use Rattle.merge_report.proofs.reporting.merge_report.Goals as goal
use Rattle.opened_merge_laws.specs.Merged.{IsMergedOpened}
use Rattle.sheet_order.specs.Laws.{answer_seen}

pub sheet_of_text-requires : goal.sheet_of_text-requires
sheet_of_text-requires c = (c.requires.merged.again, subst (λ (text : List ℕ). sheet_of text ≡ Ok c.requires.merged.again) (sym c.as_slice-text.ensures.value) c.requires.merged.again_read)

pub remaining_opened-requires-clause-done : goal.remaining_opened-requires-clause-done
remaining_opened-requires-clause-done c =
    done_there (map answer_seen c.args.pairs.now.answers) c.args.source.now c.as_slice-text.result.now c.in_ok-sheet.sheet.items
    (subst (λ (text : List ℕ). IsMergedOpened (map answer_seen c.args.pairs.now.answers) c.args.source.now text) (sym c.as_slice-text.ensures.value) c.requires.merged) c.in_ok-sheet.ensures

pub returns-clause-report : goal.returns-clause-report
returns-clause-report c =
    reported c.report.result (λ text. text.items) c.args.pairs.now c.remaining_opened.new.pairs c.in_ok-blocked.ensures.stays c.args.source.now c.args.merged.now c.requires.told c.as_slice-text.result.now c.as_slice-text.ensures.value c.in_ok-sheet.sheet.items c.in_ok-sheet.ensures
    c.in_ok-blocked.blocked.items c.as_slice.result.now c.in_ok-blocked.ensures.are c.as_slice.ensures.value c.report.ensures
