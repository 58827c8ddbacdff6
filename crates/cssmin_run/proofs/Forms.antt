-- What a run did, by what its words ask for.
use Rattle.std.proofs.Common.{Bool, ◌≡◌, ◌⊎◌, ◌↔◌, inl, inr, ℕ, List, [], true, false, Option, Some, None, IfSome, IsSomeAnd, refl, sym, ap, subst}
use Rattle.std.proofs.lemmas.Bool.{false≢true}
use Rattle.std.specs.Prelude.{IsNone, take, drop}
use Rattle.command_words.specs.Forms.{Form, Min, Style, Dead, Cmp, Check, Why, Same, Diff, Blockers, Listing, Lint, Inspect, Trial, Help, Version, form_of}
use Rattle.css_model.specs.declared.fault.SheetFault.{SheetFault}
use Rattle.css_model.specs.Sheets.Limits.{max_bytes}
use Rattle.log_text.specs.CheckedTexts.{max_log_bytes}
use Rattle.overlap.specs.PairsParts.{PairsParts}
use Rattle.same_text.specs.SameTexts.{max_both}
use Rattle.style_text.specs.Inputs.{sheet_part}
use Rattle.cssmin_run.specs.Change.{Change, HasFailed}
use Rattle.cssmin_run.specs.Commands.Blockers.{BlockersDoes, TellsBlockers}
use Rattle.cssmin_run.specs.Commands.Check.{CheckDoes, CheckRefuses, Checks}
use Rattle.cssmin_run.specs.Commands.Cmp.{CmpDoes}
use Rattle.cssmin_run.specs.Commands.Dead.{DeadDoes, TellsLives}
use Rattle.cssmin_run.specs.Commands.Diff.{DiffDoes, TellsDifferences, same_line}
use Rattle.cssmin_run.specs.Commands.Inspect.{InspectDoes, TellsGroups}
use Rattle.cssmin_run.specs.Commands.Lint.{LintDoes, TellsFound}
use Rattle.cssmin_run.specs.Commands.Listing.{ListDoes, ListsItems}
use Rattle.cssmin_run.specs.Commands.Min.{IsToldWithin, MergesBy, MinDoesBy, MinRefuses}
use Rattle.cssmin_run.specs.Commands.Same.{ComparesSheets, SameDoes, SameRefuses}
use Rattle.cssmin_run.specs.Commands.Style.{StyleDoes, StyleRefuses, TellsWinners}
use Rattle.cssmin_run.specs.Commands.Trial.{TrialDoes}
use Rattle.cssmin_run.specs.Commands.Why.{ExplainsMove, WhyDoes, WhyRefuses}
use Rattle.cssmin_run.specs.Placed.{fault_place, in_sheet, in_sheet_part, in_two_sheets, nowhere, TellsAt}
use Rattle.cssmin_run.specs.Laws.{MayFind}
use Rattle.cssmin_run.specs.Run.{Answers, Outcome, Ran, needs_input, tells_places}
use Rattle.cssmin_run.specs.SheetFaults.{HasFault, HasNoFault}
use Rattle.cssmin_run.specs.Tasks.{Began, Did, IsRefused, Silent}
use Rattle.cssmin_run.specs.Telling.{Tells}
use Rattle.cssmin_run.specs.Writing.{Stops, WritesSome}
use Rattle.cssmin_run.specs.declared.status.Status.{Status}
use Rattle.cssmin_run.specs.declared.status.Status.TheVariants.{Done, Found, Usage, SheetRefused, NoItem, DocRefused, LogRefused, NoSplit, SecondRefused, ReadFault, WriteFault, NoMemory}
use Rattle.planner.specs.Working.{spent_of}
use Rattle.cssmin_run.proofs.Faults.{one_fault, fault_or_none, merged_no_fault}
use Rattle.cssmin_run.proofs.Findings.{finds_silent}
use Rattle.cssmin_run.proofs.Outcomes.{completes, completes_silent, refuses, stops_failed, stops_out, told_of_does}

-- ---- What the words ask for

-- what was done, where the form of the words is known
did : (words : List (List ℕ)) (form : Option Form) (status : Status) (input output err : Change) (held : Option PairsParts) → Ran words status input output err held → form_of words ≡ form → Answers form status input output err held
did words form status input output err held ran is = subst (λ (f : Option Form). Answers f status input output err held) is ran.answers

pub min_did : (words : List (List ℕ)) (budget work : Option ℕ) (asked : Bool) (status : Status) (input output err : Change) (held : Option PairsParts) → Ran words status input output err held → form_of words ≡ Some (Min budget work asked) → MinDoesBy work budget asked status input output err held
min_did words budget work asked status input output err held ran is = did words (Some (Min budget work asked)) status input output err held ran is

pub cmp_did : (words : List (List ℕ)) (left right : List ℕ) (budget : Option ℕ) (log : Bool) (status : Status) (input output err : Change) (held : Option PairsParts) → Ran words status input output err held
    → form_of words ≡ Some (Cmp left right budget log) → CmpDoes left right budget log status output err held
cmp_did words left right budget log status input output err held ran is = did words (Some (Cmp left right budget log)) status input output err held ran is

pub check_did : (words : List (List ℕ)) (status : Status) (input output err : Change) (held : Option PairsParts) → Ran words status input output err held → form_of words ≡ Some Check → CheckDoes status input output err held
check_did words status input output err held ran is = did words (Some Check) status input output err held ran is

pub dead_did : (words : List (List ℕ)) (budget : Option ℕ) (status : Status) (input output err : Change) (held : Option PairsParts) → Ran words status input output err held → form_of words ≡ Some (Dead budget) → DeadDoes budget status input output err held
dead_did words budget status input output err held ran is = did words (Some (Dead budget)) status input output err held ran is

pub style_did : (words : List (List ℕ)) (status : Status) (input output err : Change) (held : Option PairsParts) → Ran words status input output err held → form_of words ≡ Some Style → StyleDoes status input output err held
style_did words status input output err held ran is = did words (Some Style) status input output err held ran is

pub why_did : (words : List (List ℕ)) (from to : ℕ) (budget : Option ℕ) (status : Status) (input output err : Change) (held : Option PairsParts) → Ran words status input output err held → form_of words ≡ Some (Why from to budget) → WhyDoes from to budget status input output err held
why_did words from to budget status input output err held ran is = did words (Some (Why from to budget)) status input output err held ran is

pub same_did : (words : List (List ℕ)) (split : ℕ) (budget : Option ℕ) (status : Status) (input output err : Change) (held : Option PairsParts) → Ran words status input output err held → form_of words ≡ Some (Same split budget) → SameDoes split budget status input output err held
same_did words split budget status input output err held ran is = did words (Some (Same split budget)) status input output err held ran is

pub diff_did : (words : List (List ℕ)) (split : ℕ) (budget : Option ℕ) (limit : ℕ) (status : Status) (input output err : Change) (held : Option PairsParts) → Ran words status input output err held → form_of words ≡ Some (Diff split budget limit) → DiffDoes split budget limit status input output err held
diff_did words split budget limit status input output err held ran is = did words (Some (Diff split budget limit)) status input output err held ran is

pub blockers_did : (words : List (List ℕ)) (budget : Option ℕ) (status : Status) (input output err : Change) (held : Option PairsParts) → Ran words status input output err held → form_of words ≡ Some (Blockers budget) → BlockersDoes budget status input output err held
blockers_did words budget status input output err held ran is = did words (Some (Blockers budget)) status input output err held ran is

pub list_did : (words : List (List ℕ)) (status : Status) (input output err : Change) (held : Option PairsParts) → Ran words status input output err held → form_of words ≡ Some Listing → ListDoes status input output err held
list_did words status input output err held ran is = did words (Some Listing) status input output err held ran is

pub lint_did : (words : List (List ℕ)) (budget : Option ℕ) (status : Status) (input output err : Change) (held : Option PairsParts) → Ran words status input output err held → form_of words ≡ Some (Lint budget) → LintDoes budget status input output err held
lint_did words budget status input output err held ran is = did words (Some (Lint budget)) status input output err held ran is

pub inspect_did : (words : List (List ℕ)) (status : Status) (input output err : Change) (held : Option PairsParts) → Ran words status input output err held → form_of words ≡ Some Inspect → InspectDoes status input output err held
inspect_did words status input output err held ran is = did words (Some Inspect) status input output err held ran is

pub trial_did : (words : List (List ℕ)) (rules : ℕ) (status : Status) (input output err : Change) (held : Option PairsParts) → Ran words status input output err held → form_of words ≡ Some (Trial rules) → TrialDoes rules status output err held
trial_did words rules status input output err held ran is = did words (Some (Trial rules)) status input output err held ran is

-- ---- Usage

no_usage : (form : Form) (input output err : Change) (held : Option PairsParts) → Outcome form Usage input output err held → ⊥
no_usage (Min budget work asked) input output err held h = h.0
no_usage (Cmp left right budget log) input output err held h = h
no_usage Check input output err held h = h.0
no_usage (Dead budget) input output err held h = h.0
no_usage Style input output err held h = h.0
no_usage (Why from to budget) input output err held h = h.0
no_usage (Same split budget) input output err held h = h.0
no_usage (Diff split budget limit) input output err held h = h.0
no_usage (Blockers budget) input output err held h = h.0
no_usage Listing input output err held h = h.0
no_usage (Lint budget) input output err held h = h.0
no_usage Inspect input output err held h = h.0
no_usage (Trial rules) input output err held h = h
no_usage (Help about) input output err held h = h.0
no_usage Version input output err held h = h.0

usage_of : (form : Option Form) (status : Status) (input output err : Change) (held : Option PairsParts) → Answers form status input output err held → (status ≡ Usage) ↔ IsNone form
usage_of None status input output err held h = (λ usage. refl, λ none. h.0)
usage_of (Some form) status input output err held h =
    (λ usage. absurd (no_usage form input output err held (subst (λ (s : Status). Outcome form s input output err held) usage h)), λ none. absurd (let bad : ⊥ = cc in bad))

pub usage_is : (words : List (List ℕ)) (status : Status) (input output err : Change) (held : Option PairsParts) → Ran words status input output err held → (status ≡ Usage) ↔ IsNone (form_of words)
usage_is words status input output err held ran = usage_of (form_of words) status input output err held ran.answers

-- ---- Causes

read_fault_of : (form : Option Form) (input output err : Change) (held : Option PairsParts) → Answers form ReadFault input output err held → HasFailed input
read_fault_of None input output err held h = absurd (let bad : ⊥ = let same : ReadFault ≡ Usage = h.0 in cc in bad)
read_fault_of (Some (Min budget work asked)) input output err held h = h.0
read_fault_of (Some (Cmp left right budget log)) input output err held h = absurd h
read_fault_of (Some Check) input output err held h = h.0
read_fault_of (Some (Dead budget)) input output err held h = h.0
read_fault_of (Some Style) input output err held h = h.0
read_fault_of (Some (Why from to budget)) input output err held h = h.0
read_fault_of (Some (Same split budget)) input output err held h = h.0
read_fault_of (Some (Diff split budget limit)) input output err held h = h.0
read_fault_of (Some (Blockers budget)) input output err held h = h.0
read_fault_of (Some Listing) input output err held h = h.0
read_fault_of (Some (Lint budget)) input output err held h = h.0
read_fault_of (Some Inspect) input output err held h = h.0
read_fault_of (Some (Trial rules)) input output err held h = absurd h
read_fault_of (Some (Help about)) input output err held h = absurd h.0
read_fault_of (Some Version) input output err held h = absurd h.0

pub read_fault_is : (words : List (List ℕ)) (status : Status) (input output err : Change) (held : Option PairsParts) → Ran words status input output err held → status ≡ ReadFault → HasFailed input
read_fault_is words status input output err held ran is = read_fault_of (form_of words) input output err held (subst (λ (s : Status). Answers (form_of words) s input output err held) is ran.answers)

write_fault_of : (form : Option Form) (input output err : Change) (held : Option PairsParts) → Answers form WriteFault input output err held → HasFailed output ⊎ HasFailed err
write_fault_of None input output err held h = absurd (let bad : ⊥ = let same : WriteFault ≡ Usage = h.0 in cc in bad)
write_fault_of (Some (Min budget work asked)) input output err held h = stops_failed h.text h.report output err h.stopped
write_fault_of (Some (Cmp left right budget log)) input output err held h = stops_failed h.0 [] output err h.2
write_fault_of (Some Check) input output err held h = stops_failed h.text h.report output err h.stopped
write_fault_of (Some (Dead budget)) input output err held h = stops_failed h.text h.report output err h.stopped
write_fault_of (Some Style) input output err held h = stops_failed h.text h.report output err h.stopped
write_fault_of (Some (Why from to budget)) input output err held h = stops_failed h.text h.report output err h.stopped
write_fault_of (Some (Same split budget)) input output err held h = stops_failed h.text h.report output err h.stopped
write_fault_of (Some (Diff split budget limit)) input output err held h = stops_failed h.text h.report output err h.stopped
write_fault_of (Some (Blockers budget)) input output err held h = stops_failed h.text h.report output err h.stopped
write_fault_of (Some Listing) input output err held h = stops_failed h.text h.report output err h.stopped
write_fault_of (Some (Lint budget)) input output err held h = stops_failed h.text h.report output err h.stopped
write_fault_of (Some Inspect) input output err held h = stops_failed h.text h.report output err h.stopped
write_fault_of (Some (Trial rules)) input output err held h = stops_failed h.0 [] output err h.2
write_fault_of (Some (Help about)) input output err held h = stops_failed h.0.0 [] output err h.0.2
write_fault_of (Some Version) input output err held h = stops_failed h.0.0 [] output err h.0.2

pub write_fault_is : (words : List (List ℕ)) (status : Status) (input output err : Change) (held : Option PairsParts) → Ran words status input output err held → status ≡ WriteFault → HasFailed output ⊎ HasFailed err
write_fault_is words status input output err held ran is = write_fault_of (form_of words) input output err held (subst (λ (s : Status). Answers (form_of words) s input output err held) is ran.answers)

-- `min` by its status
by_status : (words : List (List ℕ)) (budget work : Option ℕ) (asked : Bool) (wanted status : Status) (input output err : Change) (held : Option PairsParts) → Ran words status input output err held → form_of words ≡ Some (Min budget work asked) → status ≡ wanted → MinDoesBy work budget asked wanted input output err held
by_status words budget work asked wanted status input output err held ran min is = subst (λ (s : Status). MinDoesBy work budget asked s input output err held) is (min_did words budget work asked status input output err held ran min)

pub done_is : (words : List (List ℕ)) (budget work : Option ℕ) (asked : Bool) (status : Status) (input output err : Change) (held : Option PairsParts) → Ran words status input output err held → form_of words ≡ Some (Min budget work asked) → status ≡ Done → Did (MergesBy work budget asked) input output err held
done_is words budget work asked status input output err held ran min is = by_status words budget work asked Done status input output err held ran min is

pub refused_is : (words : List (List ℕ)) (budget work : Option ℕ) (asked : Bool) (status : Status) (input output err : Change) (held : Option PairsParts) (fault : SheetFault) → Ran words status input output err held → form_of words ≡ Some (Min budget work asked) → status ≡ SheetRefused fault → IsRefused max_bytes (λ read. HasFault read fault) input
refused_is words budget work asked status input output err held fault ran min is = (by_status words budget work asked (SheetRefused fault) status input output err held ran min is).1

pub front_is : (words : List (List ℕ)) (budget work : Option ℕ) (asked : Bool) (status : Status) (input output err : Change) (held : Option PairsParts) → Ran words status input output err held → form_of words ≡ Some (Min budget work asked) → status ≡ WriteFault → Began (MergesBy work budget asked) input output err held
front_is words budget work asked status input output err held ran min is = by_status words budget work asked WriteFault status input output err held ran min is

-- ---- Which status comes

-- a sheet is refused for one fault at most
one_refusal : (read : List ℕ) (other : Status) (fault : SheetFault) → MinRefuses other read → HasFault read fault → other ≡ SheetRefused fault
one_refusal read Done fault cause has = absurd cause
one_refusal read Found fault cause has = absurd cause
one_refusal read Usage fault cause has = absurd cause
one_refusal read (SheetRefused found) fault cause has = ap SheetRefused (one_fault read found fault cause has)
one_refusal read (NoItem found) fault cause has = absurd cause
one_refusal read (DocRefused found) fault cause has = absurd cause
one_refusal read (LogRefused found) fault cause has = absurd cause
one_refusal read (NoSplit found) fault cause has = absurd cause
one_refusal read (SecondRefused found) fault cause has = absurd cause
one_refusal read ReadFault fault cause has = absurd cause
one_refusal read WriteFault fault cause has = absurd cause
one_refusal read NoMemory fault cause has = absurd cause

-- a sheet without a fault is not refused
no_refusal : (read : List ℕ) (other : Status) → HasNoFault read → MinRefuses other read → ⊥
no_refusal read Done none cause = cause
no_refusal read Found none cause = cause
no_refusal read Usage none cause = cause
no_refusal read (SheetRefused found) none cause = fault_or_none read found cause none
no_refusal read (NoItem found) none cause = cause
no_refusal read (DocRefused found) none cause = cause
no_refusal read (LogRefused found) none cause = cause
no_refusal read (NoSplit found) none cause = cause
no_refusal read (SecondRefused found) none cause = cause
no_refusal read ReadFault none cause = cause
no_refusal read WriteFault none cause = cause
no_refusal read NoMemory none cause = cause

unrefused : (left : Option (List ℕ)) → IsSomeAnd left HasNoFault → IsSomeAnd left (λ read. (other : Status) → MinRefuses other read → ⊥)
unrefused None has = absurd has
unrefused (Some read) has = λ other cause. no_refusal read other has cause

-- what is merged has no fault
made_no_fault : (work budget : Option ℕ) (asked : Bool) (read text report : List ℕ) (held : Option PairsParts) (fault : SheetFault) → MergesBy work budget asked read text report held → HasFault read fault → ⊥
made_no_fault None budget asked read text report held fault made has = merged_no_fault None _ read text fault made.merged has
made_no_fault (Some work) budget asked read text report held fault made has = merged_no_fault (spent_of (Some work) made.spent) _ read text fault made.merged has

pub refused_for : (words : List (List ℕ)) (budget work : Option ℕ) (asked : Bool) (status : Status) (input output err : Change) (held : Option PairsParts) (fault : SheetFault) → Ran words status input output err held
    → form_of words ≡ Some (Min budget work asked) → IsSomeAnd input.old (λ bytes. HasFault bytes fault) → (HasFailed input → ⊥) → (status ≡ SheetRefused fault) ⊎ (status ≡ NoMemory)
refused_for words budget work asked status input output err held fault ran min has sure =
    refuses max_bytes nowhere (MergesBy work budget asked) MinRefuses (SheetRefused fault) status input output err held (min_did words budget work asked status input output err held ran min)
    (λ read text report held made has. made_no_fault work budget asked read text report held fault made has) (λ read other cause has. one_refusal read other fault cause has) has sure

-- no report is told where none is asked for
made_no_report : (work budget : Option ℕ) (read text report : List ℕ) (held : Option PairsParts) → MergesBy work budget false read text report held → report ≡ []
made_no_report None budget read text report held made = made.told
made_no_report (Some work) budget read text report held made = by made.spent made.told
  where
    by : (spent : Bool) → IsToldWithin work spent false made.pairs.answers read text report → report ≡ []
    by true told = told
    by false told = told

-- no write of `min` failed, where its report did not fail if one is asked for
unfailed : (work budget : Option ℕ) (asked : Bool) (input output err : Change) (held : Option PairsParts) → (HasFailed output → ⊥) → (asked ≡ true → HasFailed err → ⊥) → Began (MergesBy work budget asked) input output err held → ⊥
unfailed work budget true input output err held safe told began = which (stops_failed began.text began.report output err began.stopped)
  where
    which : HasFailed output ⊎ HasFailed err → ⊥
    which (inl h) = safe h
    which (inr h) = told refl h
unfailed work budget false input output err held safe told began =
    safe (stops_out began.text output err (subst (λ (report : List ℕ). Stops began.text report output err) (made_no_report work budget began.read began.text began.report held began.made) began.stopped))

pub completed : (words : List (List ℕ)) (budget work : Option ℕ) (asked : Bool) (status : Status) (input output err : Change) (held : Option PairsParts) → Ran words status input output err held
    → form_of words ≡ Some (Min budget work asked) → IsSomeAnd input.old HasNoFault → (HasFailed input → ⊥) → (HasFailed output → ⊥) → (asked ≡ true → HasFailed err → ⊥) → (status ≡ Done) ⊎ (status ≡ NoMemory)
completed words budget work asked status input output err held ran min has sure safe told =
    completes max_bytes nowhere (MergesBy work budget asked) MinRefuses status input output err held (min_did words budget work asked status input output err held ran min) (unrefused input.old has) sure (unfailed work budget asked input output err held safe told)

pub checked : (words : List (List ℕ)) (status : Status) (input output err : Change) (held : Option PairsParts) → Ran words status input output err held
    → form_of words ≡ Some Check → IsSomeAnd input.old (λ read. (other : Status) → CheckRefuses other read → ⊥) → (HasFailed input → ⊥) → (HasFailed output → ⊥) → (status ≡ Done) ⊎ (status ≡ NoMemory)
checked words status input output err held ran check none sure safe = completes_silent max_log_bytes nowhere Checks CheckRefuses status input output err held (check_did words status input output err held ran check) none sure safe

pub told_dead : (words : List (List ℕ)) (budget : Option ℕ) (status : Status) (input output err : Change) (held : Option PairsParts) → Ran words status input output err held
    → form_of words ≡ Some (Dead budget) → IsSomeAnd input.old (λ read. (other : Status) → MinRefuses other read → ⊥) → (HasFailed input → ⊥) → (HasFailed output → ⊥) → (status ≡ Done) ⊎ (status ≡ NoMemory)
told_dead words budget status input output err held ran is none sure safe = completes_silent max_bytes nowhere (TellsLives budget) MinRefuses status input output err held (dead_did words budget status input output err held ran is) none sure safe

pub told_style : (words : List (List ℕ)) (status : Status) (input output err : Change) (held : Option PairsParts) → Ran words status input output err held
    → form_of words ≡ Some Style → IsSomeAnd input.old (λ read. (other : Status) → StyleRefuses other read → ⊥) → (HasFailed input → ⊥) → (HasFailed output → ⊥) → (status ≡ Done) ⊎ (status ≡ NoMemory)
told_style words status input output err held ran is none sure safe = completes_silent max_bytes nowhere TellsWinners StyleRefuses status input output err held (style_did words status input output err held ran is) none sure safe

pub told_why : (words : List (List ℕ)) (from to : ℕ) (budget : Option ℕ) (status : Status) (input output err : Change) (held : Option PairsParts) → Ran words status input output err held
    → form_of words ≡ Some (Why from to budget) → IsSomeAnd input.old (λ read. (other : Status) → WhyRefuses from to other read → ⊥) → (HasFailed input → ⊥) → (HasFailed output → ⊥) → (status ≡ Done) ⊎ (status ≡ NoMemory)
told_why words from to budget status input output err held ran is none sure safe = completes_silent max_bytes nowhere (ExplainsMove from to budget) (WhyRefuses from to) status input output err held (why_did words from to budget status input output err held ran is) none sure safe

pub told_same : (words : List (List ℕ)) (split : ℕ) (budget : Option ℕ) (status : Status) (input output err : Change) (held : Option PairsParts) → Ran words status input output err held
    → form_of words ≡ Some (Same split budget) → IsSomeAnd input.old (λ read. (other : Status) → SameRefuses split other read → ⊥) → (HasFailed input → ⊥) → (HasFailed output → ⊥) → (status ≡ Done) ⊎ (status ≡ NoMemory)
told_same words split budget status input output err held ran is none sure safe = completes_silent max_both nowhere (ComparesSheets split budget) (SameRefuses split) status input output err held (same_did words split budget status input output err held ran is) none sure safe

pub differences_told : (words : List (List ℕ)) (split : ℕ) (budget : Option ℕ) (limit : ℕ) (status : Status) (input output err : Change) (held : Option PairsParts) → Ran words status input output err held
    → form_of words ≡ Some (Diff split budget limit) → IsSomeAnd input.old (λ read. (other : Status) → SameRefuses split other read → ⊥) → (HasFailed input → ⊥) → (HasFailed output → ⊥) → (status ≡ Done) ⊎ (status ≡ Found) ⊎ (status ≡ NoMemory)
differences_told words split budget limit status input output err held ran is none sure safe =
    finds_silent same_line max_both (in_two_sheets split) (TellsDifferences split budget limit) (SameRefuses split) status input output err held (diff_did words split budget limit status input output err held ran is) none sure safe

pub blockers_told : (words : List (List ℕ)) (budget : Option ℕ) (status : Status) (input output err : Change) (held : Option PairsParts) → Ran words status input output err held
    → form_of words ≡ Some (Blockers budget) → IsSomeAnd input.old HasNoFault → (HasFailed input → ⊥) → (HasFailed output → ⊥) → (status ≡ Done) ⊎ (status ≡ NoMemory)
blockers_told words budget status input output err held ran is has sure safe =
    completes_silent max_bytes in_sheet (TellsBlockers budget) MinRefuses status input output err held (blockers_did words budget status input output err held ran is) (unrefused input.old has) sure safe

pub items_listed : (words : List (List ℕ)) (status : Status) (input output err : Change) (held : Option PairsParts) → Ran words status input output err held
    → form_of words ≡ Some Listing → IsSomeAnd input.old HasNoFault → (HasFailed input → ⊥) → (HasFailed output → ⊥) → (status ≡ Done) ⊎ (status ≡ NoMemory)
items_listed words status input output err held ran is has sure safe =
    completes_silent max_bytes in_sheet ListsItems MinRefuses status input output err held (list_did words status input output err held ran is) (unrefused input.old has) sure safe

pub findings_told : (words : List (List ℕ)) (budget : Option ℕ) (status : Status) (input output err : Change) (held : Option PairsParts) → Ran words status input output err held
    → form_of words ≡ Some (Lint budget) → IsSomeAnd input.old HasNoFault → (HasFailed input → ⊥) → (HasFailed output → ⊥) → (status ≡ Done) ⊎ (status ≡ Found) ⊎ (status ≡ NoMemory)
findings_told words budget status input output err held ran is has sure safe =
    finds_silent [] max_bytes in_sheet (TellsFound budget) MinRefuses status input output err held (lint_did words budget status input output err held ran is) (unrefused input.old has) sure safe

pub entries_told : (words : List (List ℕ)) (status : Status) (input output err : Change) (held : Option PairsParts) → Ran words status input output err held
    → form_of words ≡ Some Inspect → IsSomeAnd input.old (λ read. (other : Status) → StyleRefuses other read → ⊥) → (HasFailed input → ⊥) → (HasFailed output → ⊥) → (status ≡ Done) ⊎ (status ≡ NoMemory)
entries_told words status input output err held ran is none sure safe = completes_silent max_bytes in_sheet_part TellsGroups StyleRefuses status input output err held (inspect_did words status input output err held ran is) none sure safe

writes_done : (kind : List ℕ → Type 0) (status : Status) (output err : Change) → WritesSome kind status output err → (HasFailed output → ⊥) → (status ≡ Done) ⊎ (status ≡ NoMemory)
writes_done kind Done output err h safe = inl refl
writes_done kind Found output err h safe = absurd h
writes_done kind Usage output err h safe = absurd h
writes_done kind (SheetRefused fault) output err h safe = absurd h
writes_done kind (NoItem fault) output err h safe = absurd h
writes_done kind (DocRefused fault) output err h safe = absurd h
writes_done kind (LogRefused fault) output err h safe = absurd h
writes_done kind (NoSplit fault) output err h safe = absurd h
writes_done kind (SecondRefused fault) output err h safe = absurd h
writes_done kind ReadFault output err h safe = absurd h
writes_done kind WriteFault output err h safe = absurd (safe (stops_out h.0 output err h.2))
writes_done kind NoMemory output err h safe = inr refl

cmp_done : (left right : List ℕ) (budget : Option ℕ) (log : Bool) (status : Status) (output err : Change) (held : Option PairsParts) → CmpDoes left right budget log status output err held → (HasFailed output → ⊥) → (status ≡ Done) ⊎ (status ≡ NoMemory)
cmp_done left right budget log Done output err held h safe = inl refl
cmp_done left right budget log Found output err held h safe = absurd h
cmp_done left right budget log Usage output err held h safe = absurd h
cmp_done left right budget log (SheetRefused fault) output err held h safe = absurd h
cmp_done left right budget log (NoItem fault) output err held h safe = absurd h
cmp_done left right budget log (DocRefused fault) output err held h safe = absurd h
cmp_done left right budget log (LogRefused fault) output err held h safe = absurd h
cmp_done left right budget log (NoSplit fault) output err held h safe = absurd h
cmp_done left right budget log (SecondRefused fault) output err held h safe = absurd h
cmp_done left right budget log ReadFault output err held h safe = absurd h
cmp_done left right budget log WriteFault output err held h safe = absurd (safe (stops_out h.0 output err h.2))
cmp_done left right budget log NoMemory output err held h safe = inr refl

trial_done : (rules : ℕ) (status : Status) (output err : Change) (held : Option PairsParts) → TrialDoes rules status output err held → (HasFailed output → ⊥) → (status ≡ Done) ⊎ (status ≡ NoMemory)
trial_done rules Done output err held h safe = inl refl
trial_done rules Found output err held h safe = absurd h
trial_done rules Usage output err held h safe = absurd h
trial_done rules (SheetRefused fault) output err held h safe = absurd h
trial_done rules (NoItem fault) output err held h safe = absurd h
trial_done rules (DocRefused fault) output err held h safe = absurd h
trial_done rules (LogRefused fault) output err held h safe = absurd h
trial_done rules (NoSplit fault) output err held h safe = absurd h
trial_done rules (SecondRefused fault) output err held h safe = absurd h
trial_done rules ReadFault output err held h safe = absurd h
trial_done rules WriteFault output err held h safe = absurd (safe (stops_out h.0 output err h.2))
trial_done rules NoMemory output err held h safe = inr refl

other_done : (form : Form) (status : Status) (input output err : Change) (held : Option PairsParts) → Outcome form status input output err held → needs_input (Some form) ≡ false → (HasFailed output → ⊥) → (status ≡ Done) ⊎ (status ≡ NoMemory)
other_done (Min budget work asked) status input output err held h unneeded safe = absurd (false≢true (sym unneeded))
other_done (Cmp left right budget log) status input output err held h unneeded safe = cmp_done left right budget log status output err held h safe
other_done Check status input output err held h unneeded safe = absurd (false≢true (sym unneeded))
other_done (Dead budget) status input output err held h unneeded safe = absurd (false≢true (sym unneeded))
other_done Style status input output err held h unneeded safe = absurd (false≢true (sym unneeded))
other_done (Why from to budget) status input output err held h unneeded safe = absurd (false≢true (sym unneeded))
other_done (Same split budget) status input output err held h unneeded safe = absurd (false≢true (sym unneeded))
other_done (Diff split budget limit) status input output err held h unneeded safe = absurd (false≢true (sym unneeded))
other_done (Blockers budget) status input output err held h unneeded safe = absurd (false≢true (sym unneeded))
other_done Listing status input output err held h unneeded safe = absurd (false≢true (sym unneeded))
other_done (Lint budget) status input output err held h unneeded safe = absurd (false≢true (sym unneeded))
other_done Inspect status input output err held h unneeded safe = absurd (false≢true (sym unneeded))
other_done (Trial rules) status input output err held h unneeded safe = trial_done rules status output err held h safe
other_done (Help about) status input output err held h unneeded safe = writes_done _ status output err h.0 safe
other_done Version status input output err held h unneeded safe = writes_done _ status output err h.0 safe

pub others_done : (words : List (List ℕ)) (status : Status) (input output err : Change) (held : Option PairsParts) (form : Form) → Ran words status input output err held
    → form_of words ≡ Some form → needs_input (Some form) ≡ false → (HasFailed output → ⊥) → (status ≡ Done) ⊎ (status ≡ NoMemory)
others_done words status input output err held form ran is unneeded safe = other_done form status input output err held (did words (Some form) status input output err held ran is) unneeded safe

-- ---- What is told

some_told : (kind : List ℕ → Type 0) (status : Status) (output err : Change) → WritesSome kind status output err → (status ≡ Done → ⊥) → (status ≡ WriteFault → ⊥) → Tells status err
some_told kind Done output err h undone unfailed = absurd (undone refl)
some_told kind Found output err h undone unfailed = absurd h
some_told kind Usage output err h undone unfailed = absurd h
some_told kind (SheetRefused fault) output err h undone unfailed = absurd h
some_told kind (NoItem fault) output err h undone unfailed = absurd h
some_told kind (DocRefused fault) output err h undone unfailed = absurd h
some_told kind (LogRefused fault) output err h undone unfailed = absurd h
some_told kind (NoSplit fault) output err h undone unfailed = absurd h
some_told kind (SecondRefused fault) output err h undone unfailed = absurd h
some_told kind ReadFault output err h undone unfailed = absurd h
some_told kind WriteFault output err h undone unfailed = absurd (unfailed refl)
some_told kind NoMemory output err h undone unfailed = h

cmp_told : (left right : List ℕ) (budget : Option ℕ) (log : Bool) (status : Status) (output err : Change) (held : Option PairsParts) → CmpDoes left right budget log status output err held → (status ≡ Done → ⊥) → (status ≡ WriteFault → ⊥) → Tells status err
cmp_told left right budget log Done output err held h undone unfailed = absurd (undone refl)
cmp_told left right budget log Found output err held h undone unfailed = absurd h
cmp_told left right budget log Usage output err held h undone unfailed = absurd h
cmp_told left right budget log (SheetRefused fault) output err held h undone unfailed = absurd h
cmp_told left right budget log (NoItem fault) output err held h undone unfailed = absurd h
cmp_told left right budget log (DocRefused fault) output err held h undone unfailed = absurd h
cmp_told left right budget log (LogRefused fault) output err held h undone unfailed = absurd h
cmp_told left right budget log (NoSplit fault) output err held h undone unfailed = absurd h
cmp_told left right budget log (SecondRefused fault) output err held h undone unfailed = absurd h
cmp_told left right budget log ReadFault output err held h undone unfailed = absurd h
cmp_told left right budget log WriteFault output err held h undone unfailed = absurd (unfailed refl)
cmp_told left right budget log NoMemory output err held h undone unfailed = h.1

trial_told : (rules : ℕ) (status : Status) (output err : Change) (held : Option PairsParts) → TrialDoes rules status output err held → (status ≡ Done → ⊥) → (status ≡ WriteFault → ⊥) → Tells status err
trial_told rules Done output err held h undone unfailed = absurd (undone refl)
trial_told rules Found output err held h undone unfailed = absurd h
trial_told rules Usage output err held h undone unfailed = absurd h
trial_told rules (SheetRefused fault) output err held h undone unfailed = absurd h
trial_told rules (NoItem fault) output err held h undone unfailed = absurd h
trial_told rules (DocRefused fault) output err held h undone unfailed = absurd h
trial_told rules (LogRefused fault) output err held h undone unfailed = absurd h
trial_told rules (NoSplit fault) output err held h undone unfailed = absurd h
trial_told rules (SecondRefused fault) output err held h undone unfailed = absurd h
trial_told rules ReadFault output err held h undone unfailed = absurd h
trial_told rules WriteFault output err held h undone unfailed = absurd (unfailed refl)
trial_told rules NoMemory output err held h undone unfailed = h.1

told_of : (form : Option Form) (status : Status) (input output err : Change) (held : Option PairsParts) → Answers form status input output err held → tells_places form ≡ false → (status ≡ Done → ⊥) → (status ≡ WriteFault → ⊥) → Tells status err
told_of None status input output err held h silent undone unfailed = subst (λ (s : Status). Tells s err) (sym h.0) h.2
told_of (Some (Min budget work asked)) status input output err held h silent undone unfailed = told_of_does max_bytes (MergesBy work budget asked) MinRefuses status input output err held h undone unfailed
told_of (Some (Cmp left right budget log)) status input output err held h silent undone unfailed = cmp_told left right budget log status output err held h undone unfailed
told_of (Some Check) status input output err held h silent undone unfailed = told_of_does max_log_bytes (Silent Checks) CheckRefuses status input output err held h undone unfailed
told_of (Some (Dead budget)) status input output err held h silent undone unfailed = told_of_does max_bytes (Silent (TellsLives budget)) MinRefuses status input output err held h undone unfailed
told_of (Some Style) status input output err held h silent undone unfailed = told_of_does max_bytes (Silent TellsWinners) StyleRefuses status input output err held h undone unfailed
told_of (Some (Why from to budget)) status input output err held h silent undone unfailed = told_of_does max_bytes (Silent (ExplainsMove from to budget)) (WhyRefuses from to) status input output err held h undone unfailed
told_of (Some (Same split budget)) status input output err held h silent undone unfailed = told_of_does max_both (Silent (ComparesSheets split budget)) (SameRefuses split) status input output err held h undone unfailed
told_of (Some (Diff split budget limit)) status input output err held h silent undone unfailed = absurd (false≢true (sym silent))
told_of (Some (Blockers budget)) status input output err held h silent undone unfailed = absurd (false≢true (sym silent))
told_of (Some Listing) status input output err held h silent undone unfailed = absurd (false≢true (sym silent))
told_of (Some (Lint budget)) status input output err held h silent undone unfailed = absurd (false≢true (sym silent))
told_of (Some Inspect) status input output err held h silent undone unfailed = absurd (false≢true (sym silent))
told_of (Some (Trial rules)) status input output err held h silent undone unfailed = trial_told rules status output err held h undone unfailed
told_of (Some (Help about)) status input output err held h silent undone unfailed = some_told _ status output err h.0 undone unfailed
told_of (Some Version) status input output err held h silent undone unfailed = some_told _ status output err h.0 undone unfailed

pub told_is : (words : List (List ℕ)) (status : Status) (input output err : Change) (held : Option PairsParts) → Ran words status input output err held → tells_places (form_of words) ≡ false → (status ≡ Done → ⊥) → (status ≡ WriteFault → ⊥) → Tells status err
told_is words status input output err held ran silent undone unfailed = told_of (form_of words) status input output err held ran.answers silent undone unfailed

-- where the fault of a sheet is, in a part of the bytes that were read
placed_in : (part : List ℕ → List ℕ) (left : Option (List ℕ)) (fault : SheetFault) (status : Status) (err : Change) → (read : List ℕ) × IfSome left (λ bytes. bytes ≡ read) × TellsAt (fault_place (part read) fault) status err
    → IfSome left (λ read. TellsAt (fault_place (part read) fault) status err)
placed_in part None fault status err told = tt
placed_in part (Some bytes) fault status err told = subst (λ (read : List ℕ). TellsAt (fault_place (part read) fault) status err) (sym told.1) told.2

pub fault_placed : (words : List (List ℕ)) (status : Status) (input output err : Change) (held : Option PairsParts) (fault : SheetFault) → Ran words status input output err held
    → form_of words ≡ Some Listing → status ≡ SheetRefused fault → IfSome input.old (λ read. TellsAt (fault_place read fault) (SheetRefused fault) err)
fault_placed words status input output err held fault ran list is =
    let does : ListDoes (SheetRefused fault) input output err held = subst (λ (s : Status). ListDoes s input output err held) is (list_did words status input output err held ran list) in
    placed_in (λ read. read) input.old fault (SheetRefused fault) err does.3

pub lint_placed : (words : List (List ℕ)) (budget : Option ℕ) (status : Status) (input output err : Change) (held : Option PairsParts) (fault : SheetFault) → Ran words status input output err held
    → form_of words ≡ Some (Lint budget) → status ≡ SheetRefused fault → IfSome input.old (λ read. TellsAt (fault_place read fault) (SheetRefused fault) err)
lint_placed words budget status input output err held fault ran lint is =
    let does : LintDoes budget (SheetRefused fault) input output err held = subst (λ (s : Status). LintDoes budget s input output err held) is (lint_did words budget status input output err held ran lint) in
    placed_in (λ read. read) input.old fault (SheetRefused fault) err does.3

pub blockers_placed : (words : List (List ℕ)) (budget : Option ℕ) (status : Status) (input output err : Change) (held : Option PairsParts) (fault : SheetFault) → Ran words status input output err held
    → form_of words ≡ Some (Blockers budget) → status ≡ SheetRefused fault → IfSome input.old (λ read. TellsAt (fault_place read fault) (SheetRefused fault) err)
blockers_placed words budget status input output err held fault ran blockers is =
    let does : BlockersDoes budget (SheetRefused fault) input output err held = subst (λ (s : Status). BlockersDoes budget s input output err held) is (blockers_did words budget status input output err held ran blockers) in
    placed_in (λ read. read) input.old fault (SheetRefused fault) err does.3

pub diff_placed : (words : List (List ℕ)) (split : ℕ) (budget : Option ℕ) (limit : ℕ) (status : Status) (input output err : Change) (held : Option PairsParts) (fault : SheetFault) → Ran words status input output err held
    → form_of words ≡ Some (Diff split budget limit) → status ≡ SheetRefused fault → IfSome input.old (λ read. TellsAt (fault_place (take split read) fault) (SheetRefused fault) err)
diff_placed words split budget limit status input output err held fault ran diff is =
    let does : DiffDoes split budget limit (SheetRefused fault) input output err held = subst (λ (s : Status). DiffDoes split budget limit s input output err held) is (diff_did words split budget limit status input output err held ran diff) in
    placed_in (take split) input.old fault (SheetRefused fault) err does.3

pub second_placed : (words : List (List ℕ)) (split : ℕ) (budget : Option ℕ) (limit : ℕ) (status : Status) (input output err : Change) (held : Option PairsParts) (fault : SheetFault) → Ran words status input output err held
    → form_of words ≡ Some (Diff split budget limit) → status ≡ SecondRefused fault → IfSome input.old (λ read. TellsAt (fault_place (drop split read) fault) (SecondRefused fault) err)
second_placed words split budget limit status input output err held fault ran diff is =
    let does : DiffDoes split budget limit (SecondRefused fault) input output err held = subst (λ (s : Status). DiffDoes split budget limit s input output err held) is (diff_did words split budget limit status input output err held ran diff) in
    placed_in (drop split) input.old fault (SecondRefused fault) err does.3

pub inspect_placed : (words : List (List ℕ)) (status : Status) (input output err : Change) (held : Option PairsParts) (fault : SheetFault) → Ran words status input output err held
    → form_of words ≡ Some Inspect → status ≡ SheetRefused fault → IfSome input.old (λ read. TellsAt (fault_place (sheet_part read) fault) (SheetRefused fault) err)
inspect_placed words status input output err held fault ran inspect is =
    let does : InspectDoes (SheetRefused fault) input output err held = subst (λ (s : Status). InspectDoes s input output err held) is (inspect_did words status input output err held ran inspect) in
    placed_in sheet_part input.old fault (SheetRefused fault) err does.3

-- only `lint` and `diff` find something
finds_of : (form : Option Form) (input output err : Change) (held : Option PairsParts) → Answers form Found input output err held → MayFind form
finds_of None input output err held h = absurd (let bad : ⊥ = let same : Found ≡ Usage = h.0 in cc in bad)
finds_of (Some (Min budget work asked)) input output err held h = absurd h.0
finds_of (Some (Cmp left right budget log)) input output err held h = absurd h
finds_of (Some Check) input output err held h = absurd h.0
finds_of (Some (Dead budget)) input output err held h = absurd h.0
finds_of (Some Style) input output err held h = absurd h.0
finds_of (Some (Why from to budget)) input output err held h = absurd h.0
finds_of (Some (Same split budget)) input output err held h = absurd h.0
finds_of (Some (Diff split budget limit)) input output err held h = inr (split, budget, limit, refl)
finds_of (Some (Blockers budget)) input output err held h = absurd h.0
finds_of (Some Listing) input output err held h = absurd h.0
finds_of (Some (Lint budget)) input output err held h = inl (budget, refl)
finds_of (Some Inspect) input output err held h = absurd h.0
finds_of (Some (Trial rules)) input output err held h = absurd h
finds_of (Some (Help about)) input output err held h = absurd h.0
finds_of (Some Version) input output err held h = absurd h.0

pub only_two : (words : List (List ℕ)) (input output err : Change) (held : Option PairsParts) → Ran words Found input output err held → MayFind (form_of words)
only_two words input output err held ran = finds_of (form_of words) input output err held ran.answers

-- what was done by a command that has the form of the words
pub answered : (form found : Option Form) (status : Status) (input output err : Change) (held : Option PairsParts) → found ≡ form → Answers found status input output err held → Answers form status input output err held
answered form found status input output err held is h = subst (λ (f : Option Form). Answers f status input output err held) is h
