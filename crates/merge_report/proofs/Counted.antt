-- What is told of a merged text.
use Rattle.std.proofs.Common.{◌≡◌, ℕ, List, map, Result, Ok, Err, length, sym, ◌∙◌, ap, subst}
use Rattle.std.specs.Prelude.{IfOk}
use Rattle.css_model.specs.declared.sheet.Item.{Item}
use Rattle.css_model.specs.Sheets.Sheet.{sheet_of}
use Rattle.merge_plan.proofs.ForCallers.{stays_among}
use Rattle.merge_report.specs.Remaining.{AreRemainingOpened, Entry}
use Rattle.merge_report.specs.Reports.{IsReport}
use Rattle.merge_text.specs.declared.merged.MergedText.{MergedText}
use Rattle.merge_text.specs.MergedTexts.{IsTold}
use Rattle.opened_merge_laws.proofs.ForCallers.{told_more}
use Rattle.opened_merge_laws.specs.Merged.{IsDoneOpened, IsMergedOpened}
use Rattle.overlap.specs.PairsParts.{PairsParts}
use Rattle.report_text.specs.Report.{report_of}
use Rattle.sheet_order.specs.Allowing.{Stays}
use Rattle.sheet_order.specs.Laws.{answer_seen}
use Rattle.step_laws.specs.Free as steps

-- nothing is left to do in the sheet that a merged text is
pub done_there : (answers : List steps.Answered) (read written : List ℕ) (items : List Item) → IsMergedOpened answers read written → sheet_of written ≡ Ok items → IsDoneOpened answers written items
done_there answers read written items is written_is =
    let same : is.again ≡ items = (let again = is.again_read in cc) in subst (λ (xs : List Item). IsDoneOpened answers written xs) same is.planned.done

-- the report of these numbers and steps
pub reported : {X E : Type 0} (result : Result X E) (text_of : X → List ℕ) (p q : PairsParts) → Stays p q → (read : List ℕ) (m : MergedText) → IsTold (map answer_seen p.answers) read m → (written : List ℕ) → written ≡ m.text.items → (items : List Item) →
    sheet_of written ≡ Ok items → (remaining blocked : List Entry) → AreRemainingOpened q.answers written items remaining → blocked ≡ remaining →
    IfOk result (λ x. text_of x ≡ report_of (m.read_items, m.written_items) (length read, length written) m.taken blocked) → IfOk result (λ x. IsReport q.answers read m.text.items (text_of x))
reported (Err e) text_of p q stays read m told written same items items_read remaining blocked are blocked_are is = tt
reported (Ok x) text_of p q stays read m told written same items items_read remaining blocked are blocked_are is = record {
  read_items = m.read_items;
  written_items = m.written_items;
  taken = m.taken;
  counted = told_more (map answer_seen p.answers) (map answer_seen q.answers) (stays_among p q stays) read m.text.items m.read_items m.written_items m.taken told;
  items = items;
  items_read = sym (ap sheet_of same) ∙ items_read;
  remaining = remaining;
  are = subst (λ (bytes : List ℕ). AreRemainingOpened q.answers bytes items remaining) same are;
  report_is = is ∙ (ap (λ (bytes : List ℕ). report_of (m.read_items, m.written_items) (length read, length bytes) m.taken blocked) same ∙ ap (report_of (m.read_items, m.written_items) (length read, length m.text.items) m.taken) blocked_are);
}
