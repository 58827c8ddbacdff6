-- What is written of a planned sheet.
use Rattle.std.proofs.Common.{◌≡◌, ℕ, zero, suc, ◌+◌, ◌≤◌, List, length, Ok, refl, ap, subst, arith}
use Rattle.cascade_laws.proofs.ForCallers.{keeps_on}
use Rattle.css_model.specs.declared.sheet.Item.{Item}
use Rattle.css_model.specs.Cascade.Order.{Keeps}
use Rattle.css_model.specs.Sheets.ComesFrom.{ComesFrom}
use Rattle.css_model.specs.Sheets.Limits.{max_bytes}
use Rattle.css_model.specs.Sheets.Printed.{printed}
use Rattle.css_model.specs.Sheets.Sheet.{sheet_of}
use Rattle.plan_laws.specs.Limit.PairLimit.{PlannedComesFrom}
use Rattle.merge_laws.specs.Merged.{IsMerged, PlannedIsMerged}
use Rattle.merge_laws.proofs.Limits.{within_limits}
use Rattle.merge_laws.proofs.Meanings.{same_meanings}
use Rattle.merge_laws.proofs.Planning.{printed_size, leads_shorter}
use Rattle.order_laws.specs.Keeping.{KeepingKeepsWinners}
use Rattle.plan_laws.specs.Planned.{LeadingKeeps, TwinsAreDone, TwinsKeep}
use Rattle.print_laws.specs.Printing.{PrintedIsNoLonger, PrintedReadsBack, PrintedReadsBackAsTwin}
use Rattle.sheet_laws.specs.Reading.{ReadIsSound}
use Rattle.sheet_laws.specs.Twins.{AreTwins}
use Rattle.step_laws.specs.Free.{Answered}
use Rattle.step_laws.specs.Leading.{Leads}
use Rattle.step_laws.specs.Sizes.{size}

-- the printed text of a planned sheet is no longer than its source
planned_no_longer : PrintedIsNoLonger → (answers : List Answered) (source : List ℕ) (steps : ℕ) (old new : List Item) → sheet_of source ≡ Ok old → Leads answers source steps old new →
    length (printed source new) ≤ length source
planned_no_longer no_longer answers source zero old new read leads =
    subst (λ (items : List Item). length (printed source items) ≤ length source) leads (no_longer source old read)
planned_no_longer no_longer answers source (suc steps) old new read leads =
    let shorter : size source new + suc steps ≤ size source old = leads_shorter answers source (suc steps) old new leads in
    let after = (printed_size source new).1 in
    let before = (printed_size source old).0 in
    let most = no_longer source old read in
    omega (arith, shorter, after, before, most)

pub planned_merged : PlannedComesFrom → ReadIsSound → PrintedIsNoLonger → PrintedReadsBack → PrintedReadsBackAsTwin → LeadingKeeps → TwinsKeep → TwinsAreDone → KeepingKeepsWinners → PlannedIsMerged
planned_merged comes_from sound no_longer reads_back twin leading twins twins_done winners answers are_true read steps old new old_read leads done =
    let limits = within_limits read old old_read in
    let from : ComesFrom read old new = comes_from answers read steps old new (sound read old old_read) limits.1 limits.2 leads done in
    let shorter : length (printed read new) ≤ length read = planned_no_longer no_longer answers read steps old new old_read leads in
    let most = limits.0 in
    let short : length (printed read new) ≤ max_bytes = omega (arith, shorter, most) in
    let back = reads_back read old new old_read from short in
    let are_twins : AreTwins read (printed read new) new back.0 = twin read old new back.0 old_read from short back.1 in
    let keeps : Keeps read old (printed read new) back.0 =
    keeps_on read read (printed read new) old new back.0 (leading answers are_true read steps old new leads) (twins read (printed read new) new back.0 are_twins) in
    record {
      old = old;
      again = back.0;
      old_read = old_read;
      again_read = back.1;
      planned = record {
        new = new;
        steps = steps;
        leads = leads;
        printed_is = refl;
        same = back.2;
        twins = are_twins;
        keeps = keeps;
        done = twins_done answers read (printed read new) new back.0 are_twins done;
      };
      stays = back.3;
      no_longer = shorter;
      same_meanings = same_meanings read (printed read new) old back.0 keeps.kept;
      winners = winners read (printed read new) old back.0 keeps;
    }
