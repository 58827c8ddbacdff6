use Rattle.std.proofs.Common.{subst}
use Rattle.css_model.specs.Sheets.Sheet.{sheet_of}
use Rattle.sheet_read.specs.declared.fault.SheetError.{SheetError}
use Rattle.sheet_read.specs.Reading.{Refuses}
use Rattle.trial_gen.specs.Made.{made_sheet}
use Rattle.cssmin_run.specs.SheetFaults.{HasFault, HasNoFault}
use Rattle.cssmin_run.proofs.Faults.{fault_or_none}
use Rattle.cssmin_run.proofs.commands.trial.trial.Goals as goal

pub unreachable-requires : goal.unreachable-requires
unfolding HasFault HasNoFault
unreachable-requires g c =
    fault_or_none (made_sheet c.args.rules) _
    (subst (λ (e : SheetError). Refuses e (sheet_of (made_sheet c.args.rules))) c.in-Err-Fault.field-0-is c.in-Err-Fault.ensures.err)
    (c.made_sheets_have_no_fault.ensures c.args.rules c.requires.few)
