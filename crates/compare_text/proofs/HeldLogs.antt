-- Answers that are held with their logs.
use Rattle.std.proofs.Common.{◌≡◌, ◌<◌, ◌≤◌, ◌^◌, inl, inr, ℕ, Bool, true, false, List, [], ◌∷◌, length, get_or, Option, Some, None, IsTrue, refl, sym, ap, subst, ◌∙◌, arith}
use Rattle.std.specs.List.{AllPairs}
use Rattle.std.specs.Prelude.{IsSome}
use Rattle.std.proofs.Math.Logic.{∥∥₁_elim}
use Rattle.std.proofs.lemmas.Bool.{cases_lt, false≢true}
use Rattle.std.proofs.lemmas.List.{get_or_default}
use Rattle.std.proofs.lemmas.List.Elements.{All-nil}
use Rattle.clause_encode.specs.Fits.{IsSmallFormula, pair_formula}
use Rattle.cnf.specs.Cnf.{Cnf, is_in_range}
use Rattle.cnf.specs.declared.lit.Lit.{Lit}
use Rattle.cnf.specs.Propagation.{IsLedger}
use Rattle.css_model.specs.Documents.SelectorParts.{SelectorParts}
use Rattle.log_text.specs.CheckedTexts.{Passes, max_log_bytes}
use Rattle.log_text.specs.Laws.{RefutingLogsPass, YesRefutes}
use Rattle.overlap.specs.Answers.{IsLogOf, is_refuted}
use Rattle.overlap.specs.Combined.{IsRefutation}
use Rattle.overlap.specs.declared.answer.Answer.{Answer}
use Rattle.overlap.specs.PairsParts.{Answered, PairsParts}
use Rattle.overlap.specs.Remembered.{IsAnswered, IsHeld, IsHeldWithLog, IsOfOther, IsTrueList, IsUnknown}
use Rattle.pair_laws.specs.Meeting.{MeetingSatisfies}
use Rattle.pair_laws.specs.Profile.Limited.{ProfileKeepsTheLimits}
use Rattle.rup_check.specs.Checks.{EndsEmpty}
use Rattle.rup_check.specs.Laws.{LedgersAreLogs, LedgersRefute}
use Rattle.rup_check.specs.Reading.{IsLog, IsLogText}
use Rattle.sat_core.specs.Verdict.{HasNoModel}
use Rattle.sat_watch.specs.Nonempty.{are_nonempty}
use Rattle.compare_text.specs.ComparedTexts.{IsTextOfAnswer}
use Rattle.compare_text.specs.Laws.{LogsPass, PassedLogsShowApartness}
use Rattle.compare_text.specs.LoggedTexts.{IsLoggedText, IsTextWithLog}

-- ---- What is held

pub none_known : (answers : List Answered) (x y : SelectorParts) → answers ≡ [] → IsUnknown answers x y
none_known answers x y none = subst (λ (es : List Answered). IsUnknown es x y) (sym none) (All-nil (IsOfOther x y))

abbrev entry : SelectorParts → SelectorParts → Answer → Answered
entry x y answer = record { left = x; right = y; answer = answer }

-- no later answer is of the same pair
none_later : (answers : List Answered) (x y : SelectorParts) (a b : Answer) (k l : ℕ) → AllPairs (λ e f. IsOfOther e.left e.right f) answers → k < l → l < length answers →
    get_or answers k (entry x y a) ≡ entry x y a → get_or answers l (entry x y b) ≡ entry x y b → ⊥
none_later answers x y a b k l once before within first second =
    let d = entry x y a in
    let other : get_or answers l d ≡ entry x y b = get_or_default answers l d (entry x y b) within ∙ second in
    once k l d before within (ap (λ (e : Answered). e.left) other ∙ sym (ap (λ (e : Answered). e.left) first), ap (λ (e : Answered). e.right) other ∙ sym (ap (λ (e : Answered). e.right) first))

-- a pair has one answer
one_answer : (answers : List Answered) (x y : SelectorParts) (a b : Answer) → AllPairs (λ e f. IsOfOther e.left e.right f) answers → IsAnswered answers x y a → IsAnswered answers x y b → a ≡ b
one_answer answers x y a b once (k, k_in, first) (l, l_in, second) =
    elim (cases_lt k l) [
      | inl before ↦ absurd (none_later answers x y a b k l once before l_in first second)
      | inr behind ↦ elim (cases_lt l k) [
        | inl before ↦ absurd (none_later answers x y b a l k once before k_in second first)
        | inr more ↦
            let same : k ≡ l = omega arith in
            let other : get_or answers l (entry x y a) ≡ entry x y b = get_or_default answers l (entry x y a) (entry x y b) l_in ∙ second in
            ap (λ (e : Answered). e.answer) (sym first ∙ (ap (λ (n : ℕ). get_or answers n (entry x y a)) same ∙ other))
      ]
    ]

-- ---- The log

pub refuted_is_logged : (f : Cnf) (budget : ℕ) (ledger : List (List Lit)) → HasNoModel f budget ledger → IsLedger f ledger
refuted_is_logged f budget ledger h = by (are_nonempty f.clauses) refl
  where
    by : (b : Bool) → are_nonempty f.clauses ≡ b → IsLedger f ledger
    by true e = (h.by_ledger e).logged
    by false e = subst (IsLedger f) (sym (h.by_empty e)) tt

refuted_ends : (f : Cnf) (budget : ℕ) (ledger : List (List Lit)) → HasNoModel f budget ledger → EndsEmpty f.clauses ledger
refuted_ends f budget ledger h = by (are_nonempty f.clauses) refl
  where
    by : (b : Bool) → are_nonempty f.clauses ≡ b → EndsEmpty f.clauses ledger
    by true e = let r = h.by_ledger e in inr (r.others, r.is_last)
    by false e = inl e

pub ledger_is_log : (f : Cnf) (ledger : List (List Lit)) → LedgersAreLogs → IsSmallFormula f → IsTrue (is_in_range f) → IsLedger f ledger → IsLog f ledger
ledger_is_log f ledger law small in_range logged = law f ledger (let h = small.vars in omega arith) (let h = small.clauses in omega arith) in_range logged

-- what is held with a log
held_log : (pairs : PairsParts) (x y : SelectorParts) (log : Option (Cnf × List (List Lit))) (f : Cnf) (ledger : List (List Lit)) → IsHeldWithLog pairs x y log → log ≡ Some (f, ledger) → IsRefutation x y pairs.budget f ledger
held_log pairs x y log f ledger h e = (subst (λ (o : Option (Cnf × List (List Lit))). IsLogOf x y pairs.budget h.0 o) e h.2).1

pub held_with_log : (pairs : PairsParts) (x y : SelectorParts) (log : Option (Cnf × List (List Lit))) → IsHeldWithLog pairs x y log → IsHeld pairs.answers x y
held_with_log pairs x y log h = (h.0, h.1)

pub log_is_small : (pairs : PairsParts) (x y : SelectorParts) (log : Option (Cnf × List (List Lit))) (f : Cnf) (ledger : List (List Lit)) → IsHeldWithLog pairs x y log → log ≡ Some (f, ledger) → IsSmallFormula f
log_is_small pairs x y log f ledger h e = (held_log pairs x y log f ledger h e).small

pub log_is_ledger : (pairs : PairsParts) (x y : SelectorParts) (log : Option (Cnf × List (List Lit))) (f : Cnf) (ledger : List (List Lit)) → IsHeldWithLog pairs x y log → log ≡ Some (f, ledger) → IsLedger f ledger
log_is_ledger pairs x y log f ledger h e = refuted_is_logged f pairs.budget ledger (held_log pairs x y log f ledger h e).refuted

-- the text of the answer that is held, where no log is
without : (x y : SelectorParts) (pairs : PairsParts) (text : List ℕ) (answer : Answer) → IsAnswered pairs.answers x y answer → is_refuted x y answer ≡ false → IsTextOfAnswer x y pairs text → IsTextWithLog x y pairs text
without x y pairs text answer held plain is = record {
  answer = is.answer;
  held = is.held;
  all_true = is.all_true;
  log = None;
  is_log = by (is_refuted x y is.answer) refl;
  text_is = is.text_is;
}
  where
    by : (b : Bool) → is_refuted x y is.answer ≡ b → is_refuted x y is.answer ≡ false
    by false e = e
    by true e =
        absurd (∥∥₁_elim is.all_true (λ a b. absurd a) (λ t.
        false≢true (sym plain ∙ (ap (is_refuted x y) (one_answer pairs.answers x y answer is.answer t.once held is.held) ∙ e))))

pub text_without_log : (x y : SelectorParts) (pairs : PairsParts) (text : List ℕ) (log : Option (Cnf × List (List Lit))) → IsHeldWithLog pairs x y log → log ≡ None → IsTextOfAnswer x y pairs text → IsTextWithLog x y pairs text
text_without_log x y pairs text None h e is = without x y pairs text h.0 h.1 h.2 is
text_without_log x y pairs text (Some log) h e is = absurd (let bad : ⊥ = cc in bad)

-- and the text of its log
pub text_with_log : (x y : SelectorParts) (pairs : PairsParts) (text : List ℕ) (log : Option (Cnf × List (List Lit))) (f : Cnf) (ledger : List (List Lit)) → IsHeldWithLog pairs x y log → ∥ IsTrueList pairs ∥₁ →
    log ≡ Some (f, ledger) → IsLogText text f ledger → IsTextWithLog x y pairs text
text_with_log x y pairs text log f ledger h all_true e is = record {
  answer = h.0;
  held = h.1;
  all_true = all_true;
  log = log;
  is_log = h.2;
  text_is = subst (λ (o : Option (Cnf × List (List Lit))). IsLoggedText h.0 o text) (sym e) is;
}

-- ---- Laws

pub logs_pass : LedgersRefute → RefutingLogsPass → LogsPass
logs_pass refute pass x y pairs text is some short = by is.log is.is_log is.text_is some
  where
    by : (log : Option (Cnf × List (List Lit))) → IsLogOf x y pairs.budget is.answer log → IsLoggedText is.answer log text → IsSome log → Passes text
    by None h t s = absurd (false≢true s)
    by (Some log) h t s =
        let r = h.1.refuted in
        pass text log.0 log.1 t (refute log.0 log.1 (refuted_is_logged log.0 pairs.budget log.1 r) (refuted_ends log.0 pairs.budget log.1 r)) short

pub passed_logs_show_apartness : ProfileKeepsTheLimits → MeetingSatisfies → YesRefutes → PassedLogsShowApartness
passed_logs_show_apartness keeps satisfies refutes x y table text steps px py of_pair is_log passed meet =
    let model = satisfies table x y of_pair (keeps x px) (keeps y py) meet in
    refutes text (pair_formula x y table.fits) steps is_log passed model.0 model.1
