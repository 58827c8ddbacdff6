use Rattle.std.proofs.Common.{subst, sym}
use Rattle.cssmin_c.proofs.Made.{lacks_room}
use Rattle.cssmin_c.specs.Texts.{IsReportedText}
use Rattle.cssmin_c.proofs.min_report.cssmin_min_report.Goals as goal

pub returns-in-Ok-clause-no_room : goal.returns-in-Ok-clause-no_room
returns-in-Ok-clause-no_room c =
    λ full. lacks_room c.args.budget c.args.sheet.now c.args.out.now c.args.report.now c.as_slice.result.now c.as_slice-in-Ok.result.now c.args.told.now c.give_both.new.told
    (subst (IsReportedText c.args.budget c.args.sheet.now c.as_slice.result.now) (sym c.as_slice-in-Ok.ensures.value)
    (subst (λ text. IsReportedText c.args.budget c.args.sheet.now text c.in-Ok.lines.items) (sym c.as_slice.ensures.value) c.in-Ok.ensures.ok))
    (c.give_both.ensures.no_room full) c.give_both.ensures.told
