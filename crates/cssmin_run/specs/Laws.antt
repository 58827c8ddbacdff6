-- What follows from the contract of a run.
use Rattle.std.specs.Prelude.{Bool, true, ◌≡◌, ◌⊎◌, ◌↔◌, ℕ, ◌<◌, false, List, Option, Some, None, IfSome, IsSomeAnd, IsNone, take, drop}
use Rattle.css_io.specs.Io.{last_count}
use Rattle.css_model.specs.declared.fault.SheetFault.{SheetFault}
use Rattle.css_model.specs.Sheets.Limits.{max_bytes}
use Rattle.cnf.specs.declared.lit.Lit.{Lit}
use Rattle.css_model.specs.Documents.SelectorParts.{SelectorParts}
use Rattle.overlap.specs.declared.answer.Answer.TheVariants.{Spent}
use Rattle.overlap.specs.Remembered.{IsAnswered, IsTrueList}
use Rattle.command_words.specs.Forms.{Form, Min, Style, Dead, Cmp, Check, Why, Same, Diff, Blockers, Listing, Lint, Inspect, Trial, form_of}
use Rattle.overlap.specs.PairsParts.{PairsParts}
use Rattle.style_text.specs.Inputs.{sheet_part}
use Rattle.cssmin_run.specs.Change.{Change, HasFailed}
use Rattle.cssmin_run.specs.Commands.Blockers.{BlockersDoes}
use Rattle.cssmin_run.specs.Commands.Check.{CheckDoes, CheckRefuses}
use Rattle.cssmin_run.specs.Commands.Cmp.{CmpDoes, unasked}
use Rattle.cssmin_run.specs.Commands.Dead.{DeadDoes}
use Rattle.cssmin_run.specs.Commands.Diff.{DiffDoes}
use Rattle.cssmin_run.specs.Commands.Inspect.{InspectDoes}
use Rattle.cssmin_run.specs.Commands.Lint.{LintDoes}
use Rattle.cssmin_run.specs.Commands.Listing.{ListDoes}
use Rattle.cssmin_run.specs.Commands.Min.{MergesBy, MinDoesBy, MinRefuses}
use Rattle.cssmin_run.specs.Commands.Same.{SameDoes, SameRefuses}
use Rattle.cssmin_run.specs.Commands.Style.{StyleDoes, StyleRefuses}
use Rattle.cssmin_run.specs.Commands.Trial.{TrialDoes}
use Rattle.cssmin_run.specs.Commands.Why.{WhyDoes, WhyRefuses}
use Rattle.cssmin_run.specs.Differences.{AreAlike, TellsTrueOrder}
use Rattle.cssmin_run.specs.Placed.{fault_place, TellsAt}
use Rattle.cssmin_run.specs.Remaining.{LeavesOnlyBlockedBy}
use Rattle.cssmin_run.specs.Run.{Ran, named_budget, needs_input, tells_places}
use Rattle.cssmin_run.specs.SheetFaults.{HasFault, HasNoFault}
use Rattle.cssmin_run.specs.Tasks.{Began, Did, IsRefused}
use Rattle.cssmin_run.specs.Telling.{Tells}
use Rattle.cssmin_run.specs.declared.status.Status.{Status}
use Rattle.cssmin_run.specs.declared.status.Status.TheVariants.{Done, Found, Usage, SheetRefused, SecondRefused, ReadFault, WriteFault, NoMemory}

-- ---- Words

-- exactly words without a form are refused
abbrev pub OtherWordsAreUsage : Type 0
OtherWordsAreUsage = (words : List (List ℕ)) (status : Status) (input output err : Change) (held : Option PairsParts) → Ran words status input output err held → (status ≡ Usage) ↔ IsNone (form_of words)

-- words that minify do what `min` says
abbrev pub MinDoesItsWord : Type 0
MinDoesItsWord = (words : List (List ℕ)) (budget work : Option ℕ) (asked : Bool) (status : Status) (input output err : Change) (held : Option PairsParts) → Ran words status input output err held → form_of words ≡ Some (Min budget work asked) → MinDoesBy work budget asked status input output err held

-- words that compare do what `cmp` says
abbrev pub CmpDoesItsWord : Type 0
CmpDoesItsWord =
    (words : List (List ℕ)) (left right : List ℕ) (budget : Option ℕ) (log : Bool) (status : Status) (input output err : Change) (held : Option PairsParts) → Ran words status input output err held
    → form_of words ≡ Some (Cmp left right budget log) → CmpDoes left right budget log status output err held

-- words that check do what `check` says
abbrev pub CheckDoesItsWord : Type 0
CheckDoesItsWord = (words : List (List ℕ)) (status : Status) (input output err : Change) (held : Option PairsParts) → Ran words status input output err held → form_of words ≡ Some Check → CheckDoes status input output err held

-- words that ask for it do what `dead` says
abbrev pub DeadDoesItsWord : Type 0
DeadDoesItsWord = (words : List (List ℕ)) (budget : Option ℕ) (status : Status) (input output err : Change) (held : Option PairsParts) → Ran words status input output err held → form_of words ≡ Some (Dead budget) → DeadDoes budget status input output err held

-- words that ask for it do what `style` says
abbrev pub StyleDoesItsWord : Type 0
StyleDoesItsWord = (words : List (List ℕ)) (status : Status) (input output err : Change) (held : Option PairsParts) → Ran words status input output err held → form_of words ≡ Some Style → StyleDoes status input output err held

-- words that ask for it do what `why` says
abbrev pub WhyDoesItsWord : Type 0
WhyDoesItsWord = (words : List (List ℕ)) (from to : ℕ) (budget : Option ℕ) (status : Status) (input output err : Change) (held : Option PairsParts) → Ran words status input output err held → form_of words ≡ Some (Why from to budget) → WhyDoes from to budget status input output err held

-- words that ask for it do what `same` says
abbrev pub SameDoesItsWord : Type 0
SameDoesItsWord = (words : List (List ℕ)) (split : ℕ) (budget : Option ℕ) (status : Status) (input output err : Change) (held : Option PairsParts) → Ran words status input output err held → form_of words ≡ Some (Same split budget) → SameDoes split budget status input output err held

-- words that ask for it do what `diff` says
abbrev pub DiffDoesItsWord : Type 0
DiffDoesItsWord =
    (words : List (List ℕ)) (split : ℕ) (budget : Option ℕ) (limit : ℕ) (status : Status) (input output err : Change) (held : Option PairsParts) → Ran words status input output err held
    → form_of words ≡ Some (Diff split budget limit) → DiffDoes split budget limit status input output err held

-- words that ask for it do what `blockers` says
abbrev pub BlockersDoesItsWord : Type 0
BlockersDoesItsWord =
    (words : List (List ℕ)) (budget : Option ℕ) (status : Status) (input output err : Change) (held : Option PairsParts) → Ran words status input output err held
    → form_of words ≡ Some (Blockers budget) → BlockersDoes budget status input output err held

-- words that ask for it do what `list` says
abbrev pub ListDoesItsWord : Type 0
ListDoesItsWord = (words : List (List ℕ)) (status : Status) (input output err : Change) (held : Option PairsParts) → Ran words status input output err held → form_of words ≡ Some Listing → ListDoes status input output err held

-- words that ask for it do what `lint` says
abbrev pub LintDoesItsWord : Type 0
LintDoesItsWord = (words : List (List ℕ)) (budget : Option ℕ) (status : Status) (input output err : Change) (held : Option PairsParts) → Ran words status input output err held → form_of words ≡ Some (Lint budget) → LintDoes budget status input output err held

-- words that ask for it do what `inspect` says
abbrev pub InspectDoesItsWord : Type 0
InspectDoesItsWord = (words : List (List ℕ)) (status : Status) (input output err : Change) (held : Option PairsParts) → Ran words status input output err held → form_of words ≡ Some Inspect → InspectDoes status input output err held

-- words that try merging do what `trial` says
abbrev pub TrialDoesItsWord : Type 0
TrialDoesItsWord =
    (words : List (List ℕ)) (rules : ℕ) (status : Status) (input output err : Change) (held : Option PairsParts) → Ran words status input output err held → form_of words ≡ Some (Trial rules) → TrialDoes rules status output err held

-- but for what is done and for failed writes each status is told on standard error, by commands that tell no places
abbrev pub StatusIsTold : Type 0
StatusIsTold =
    (words : List (List ℕ)) (status : Status) (input output err : Change) (held : Option PairsParts) → Ran words status input output err held
    → tells_places (form_of words) ≡ false → (status ≡ Done → ⊥) → (status ≡ WriteFault → ⊥) → Tells status err

-- the words of a command that may end with the status that something was found
abbrev pub MayFind : Option Form → Type 0
MayFind form = ((budget : Option ℕ) × (form ≡ Some (Lint budget))) ⊎ ((split : ℕ) × (budget : Option ℕ) × (limit : ℕ) × (form ≡ Some (Diff split budget limit)))

-- only `lint` and `diff` end so
abbrev pub OnlyTwoFind : Type 0
OnlyTwoFind = (words : List (List ℕ)) (input output err : Change) (held : Option PairsParts) → Ran words Found input output err held → MayFind (form_of words)

-- by `list` with the line and the column of the fault
abbrev pub FaultIsPlaced : Type 0
FaultIsPlaced =
    (words : List (List ℕ)) (status : Status) (input output err : Change) (held : Option PairsParts) (fault : SheetFault) → Ran words status input output err held
    → form_of words ≡ Some Listing → status ≡ SheetRefused fault → IfSome input.old (λ read. TellsAt (fault_place read fault) (SheetRefused fault) err)

-- by `lint` the fault of a sheet is told with its line and its column
abbrev pub LintFaultIsPlaced : Type 0
LintFaultIsPlaced =
    (words : List (List ℕ)) (budget : Option ℕ) (status : Status) (input output err : Change) (held : Option PairsParts) (fault : SheetFault) → Ran words status input output err held
    → form_of words ≡ Some (Lint budget) → status ≡ SheetRefused fault → IfSome input.old (λ read. TellsAt (fault_place read fault) (SheetRefused fault) err)

-- so is that of `blockers`
abbrev pub BlockersFaultIsPlaced : Type 0
BlockersFaultIsPlaced =
    (words : List (List ℕ)) (budget : Option ℕ) (status : Status) (input output err : Change) (held : Option PairsParts) (fault : SheetFault) → Ran words status input output err held
    → form_of words ≡ Some (Blockers budget) → status ≡ SheetRefused fault → IfSome input.old (λ read. TellsAt (fault_place read fault) (SheetRefused fault) err)

-- by `diff` the fault of the first sheet, and that of the second one, each in its own bytes
abbrev pub DiffFaultIsPlaced : Type 0
DiffFaultIsPlaced =
    (words : List (List ℕ)) (split : ℕ) (budget : Option ℕ) (limit : ℕ) (status : Status) (input output err : Change) (held : Option PairsParts) (fault : SheetFault) → Ran words status input output err held
    → form_of words ≡ Some (Diff split budget limit) → status ≡ SheetRefused fault → IfSome input.old (λ read. TellsAt (fault_place (take split read) fault) (SheetRefused fault) err)

abbrev pub SecondFaultIsPlaced : Type 0
SecondFaultIsPlaced =
    (words : List (List ℕ)) (split : ℕ) (budget : Option ℕ) (limit : ℕ) (status : Status) (input output err : Change) (held : Option PairsParts) (fault : SheetFault) → Ran words status input output err held
    → form_of words ≡ Some (Diff split budget limit) → status ≡ SecondRefused fault → IfSome input.old (λ read. TellsAt (fault_place (drop split read) fault) (SecondRefused fault) err)

-- by `inspect` too, in the sheet after the document
abbrev pub InspectFaultIsPlaced : Type 0
InspectFaultIsPlaced =
    (words : List (List ℕ)) (status : Status) (input output err : Change) (held : Option PairsParts) (fault : SheetFault) → Ran words status input output err held
    → form_of words ≡ Some Inspect → status ≡ SheetRefused fault → IfSome input.old (λ read. TellsAt (fault_place (sheet_part read) fault) (SheetRefused fault) err)

-- ---- The answers that are held, after any command

-- the answers that are held are true, for the budget that the words name (own)
abbrev pub HeldIsTrue : Type 0
HeldIsTrue =
    (words : List (List ℕ)) (status : Status) (input output err : Change) (held : Option PairsParts) (pairs : PairsParts) → Ran words status input output err held
    → held ≡ Some pairs → (pairs.budget ≡ (unasked (named_budget (form_of words))).budget) × ∥ IsTrueList pairs ∥₁

-- if the words name no budget, no answer that is held is `Spent` (own)
abbrev pub NoBudgetIsSpent : Type 0
NoBudgetIsSpent =
    (words : List (List ℕ)) (status : Status) (input output err : Change) (held : Option PairsParts) (pairs : PairsParts) (x y : SelectorParts) (ledger : List (List Lit)) → Ran words status input output err held
    → named_budget (form_of words) ≡ None → held ≡ Some pairs → IsAnswered pairs.answers x y (Spent ledger) → ⊥

-- ---- `diff`, by its status

-- after `Done` nothing is found in the two sheets that were read, and they have the same winners
abbrev pub SameSheetsWinAlike : Type 0
SameSheetsWinAlike =
    (words : List (List ℕ)) (split : ℕ) (budget : Option ℕ) (limit : ℕ) (status : Status) (input output err : Change) (held : Option PairsParts) → Ran words status input output err held
    → form_of words ≡ Some (Diff split budget limit) → status ≡ Done → Did (λ read text report held. AreAlike split read) input output err held

-- after `Found` what the text tells of their order is true: the order of the two pairs of each couple counts at its example, and for
-- `reversed` the whole sheets have different winners there
abbrev pub ToldOrderIsTrue : Type 0
ToldOrderIsTrue =
    (words : List (List ℕ)) (split : ℕ) (budget : Option ℕ) (limit : ℕ) (status : Status) (input output err : Change) (held : Option PairsParts) → Ran words status input output err held
    → form_of words ≡ Some (Diff split budget limit) → status ≡ Found → Did (λ read text report held. TellsTrueOrder split limit read text held) input output err held

-- ---- `min`, by its status

-- the text that was written is that of the sheet that was read, all that was left, merged by the answers that are held; nothing is left
-- to do then, or, if the words bound the work, it was spent
abbrev pub DoneIsMerged : Type 0
DoneIsMerged = (words : List (List ℕ)) (budget work : Option ℕ) (asked : Bool) (status : Status) (input output err : Change) (held : Option PairsParts) → Ran words status input output err held → form_of words ≡ Some (Min budget work asked) → status ≡ Done → Did (MergesBy work budget asked) input output err held

-- After `Done`, each step that would still save bytes in the text that was written is blocked (own). It reverses a pair and a kept
-- item, or two pairs: a legal document shows an element that the selectors of both match, or they are outside of what is decided, or
-- the budget was spent on them. Or, if the words bound the work, it was spent.
abbrev pub RemainingIsBlocked : Type 0
RemainingIsBlocked =
    (words : List (List ℕ)) (budget work : Option ℕ) (asked : Bool) (status : Status) (input output err : Change) (held : Option PairsParts) → Ran words status input output err held
    → form_of words ≡ Some (Min budget work asked) → status ≡ Done → Did (λ read text report held. LeavesOnlyBlockedBy work budget read text held) input output err held

-- a sheet is refused only for a fault that it has
abbrev pub RefusedHasTheFault : Type 0
RefusedHasTheFault =
    (words : List (List ℕ)) (budget work : Option ℕ) (asked : Bool) (status : Status) (input output err : Change) (held : Option PairsParts) (fault : SheetFault) → Ran words status input output err held → form_of words ≡ Some (Min budget work asked) → status ≡ SheetRefused fault → IsRefused max_bytes (λ read. HasFault read fault) input

-- a read fault comes only where the count of faults of the input rose, or has its last value
abbrev pub ReadFaultHasFailed : Type 0
ReadFaultHasFailed = (words : List (List ℕ)) (status : Status) (input output err : Change) (held : Option PairsParts) → Ran words status input output err held → status ≡ ReadFault → HasFailed input

-- a write fault comes only where the count of faults of the output or of standard error rose, or has its last value
abbrev pub WriteFaultHasFailed : Type 0
WriteFaultHasFailed = (words : List (List ℕ)) (status : Status) (input output err : Change) (held : Option PairsParts) → Ran words status input output err held → status ≡ WriteFault → HasFailed output ⊎ HasFailed err

-- after a write fault of `min` a front of the text stands there, or all of it and a front of the report
abbrev pub WriteFaultLeavesAFront : Type 0
WriteFaultLeavesAFront =
    (words : List (List ℕ)) (budget work : Option ℕ) (asked : Bool) (status : Status) (input output err : Change) (held : Option PairsParts) → Ran words status input output err held → form_of words ≡ Some (Min budget work asked) → status ≡ WriteFault → Began (MergesBy work budget asked) input output err held

-- ---- Which status comes

-- a sheet with a fault is refused for it, where no read failed and the memory sufficed
abbrev pub FaultIsRefused : Type 0
FaultIsRefused =
    (words : List (List ℕ)) (budget work : Option ℕ) (asked : Bool) (status : Status) (input output err : Change) (held : Option PairsParts) (fault : SheetFault) → Ran words status input output err held
    → form_of words ≡ Some (Min budget work asked) → IsSomeAnd input.old (λ bytes. HasFault bytes fault) → (HasFailed input → ⊥) → (status ≡ SheetRefused fault) ⊎ (status ≡ NoMemory)

-- a sheet without a fault is merged, where no read or write failed and the memory sufficed
abbrev pub FaultlessIsDone : Type 0
FaultlessIsDone =
    (words : List (List ℕ)) (budget work : Option ℕ) (asked : Bool) (status : Status) (input output err : Change) (held : Option PairsParts) → Ran words status input output err held
    → form_of words ≡ Some (Min budget work asked) → IsSomeAnd input.old HasNoFault → (HasFailed input → ⊥) → (HasFailed output → ⊥) → (asked ≡ true → HasFailed err → ⊥) → (status ≡ Done) ⊎ (status ≡ NoMemory)

-- a log that is not refused is checked, where no read or write failed and the memory sufficed
abbrev pub LogIsChecked : Type 0
LogIsChecked =
    (words : List (List ℕ)) (status : Status) (input output err : Change) (held : Option PairsParts) → Ran words status input output err held
    → form_of words ≡ Some Check → IsSomeAnd input.old (λ read. (other : Status) → CheckRefuses other read → ⊥) → (HasFailed input → ⊥) → (HasFailed output → ⊥) → (status ≡ Done) ⊎ (status ≡ NoMemory)

-- a sheet that is not refused is told of, where no read or write failed and the memory sufficed
abbrev pub SheetIsTold : Type 0
SheetIsTold =
    (words : List (List ℕ)) (budget : Option ℕ) (status : Status) (input output err : Change) (held : Option PairsParts) → Ran words status input output err held
    → form_of words ≡ Some (Dead budget) → IsSomeAnd input.old (λ read. (other : Status) → MinRefuses other read → ⊥) → (HasFailed input → ⊥) → (HasFailed output → ⊥) → (status ≡ Done) ⊎ (status ≡ NoMemory)

-- a page and a sheet that are not refused are told of, where no read or write failed and the memory sufficed
abbrev pub PageIsTold : Type 0
PageIsTold =
    (words : List (List ℕ)) (status : Status) (input output err : Change) (held : Option PairsParts) → Ran words status input output err held
    → form_of words ≡ Some Style → IsSomeAnd input.old (λ read. (other : Status) → StyleRefuses other read → ⊥) → (HasFailed input → ⊥) → (HasFailed output → ⊥) → (status ≡ Done) ⊎ (status ≡ NoMemory)

-- a move that is not refused is explained, where no read or write failed and the memory sufficed
abbrev pub MoveIsExplained : Type 0
MoveIsExplained =
    (words : List (List ℕ)) (from to : ℕ) (budget : Option ℕ) (status : Status) (input output err : Change) (held : Option PairsParts) → Ran words status input output err held
    → form_of words ≡ Some (Why from to budget) → IsSomeAnd input.old (λ read. (other : Status) → WhyRefuses from to other read → ⊥) → (HasFailed input → ⊥) → (HasFailed output → ⊥) → (status ≡ Done) ⊎ (status ≡ NoMemory)

-- two sheets that are not refused are compared, where no read or write failed and the memory sufficed
abbrev pub SheetsAreCompared : Type 0
SheetsAreCompared =
    (words : List (List ℕ)) (split : ℕ) (budget : Option ℕ) (status : Status) (input output err : Change) (held : Option PairsParts) → Ran words status input output err held
    → form_of words ≡ Some (Same split budget) → IsSomeAnd input.old (λ read. (other : Status) → SameRefuses split other read → ⊥) → (HasFailed input → ⊥) → (HasFailed output → ⊥) → (status ≡ Done) ⊎ (status ≡ NoMemory)

-- the items of a sheet that is not refused are listed, where no read or write failed and the memory sufficed
abbrev pub ItemsAreListed : Type 0
ItemsAreListed =
    (words : List (List ℕ)) (status : Status) (input output err : Change) (held : Option PairsParts) → Ran words status input output err held
    → form_of words ≡ Some Listing → IsSomeAnd input.old HasNoFault → (HasFailed input → ⊥) → (HasFailed output → ⊥) → (status ≡ Done) ⊎ (status ≡ NoMemory)

-- what is found in a sheet that is not refused is told, where no read or write failed and the memory sufficed
abbrev pub FindingsAreTold : Type 0
FindingsAreTold =
    (words : List (List ℕ)) (budget : Option ℕ) (status : Status) (input output err : Change) (held : Option PairsParts) → Ran words status input output err held
    → form_of words ≡ Some (Lint budget) → IsSomeAnd input.old HasNoFault → (HasFailed input → ⊥) → (HasFailed output → ⊥) → (status ≡ Done) ⊎ (status ≡ Found) ⊎ (status ≡ NoMemory)

-- what is found in two sheets that are not refused is told, where no read or write failed and the memory sufficed
abbrev pub DifferencesAreTold : Type 0
DifferencesAreTold =
    (words : List (List ℕ)) (split : ℕ) (budget : Option ℕ) (limit : ℕ) (status : Status) (input output err : Change) (held : Option PairsParts) → Ran words status input output err held
    → form_of words ≡ Some (Diff split budget limit) → IsSomeAnd input.old (λ read. (other : Status) → SameRefuses split other read → ⊥) → (HasFailed input → ⊥) → (HasFailed output → ⊥) → (status ≡ Done) ⊎ (status ≡ Found) ⊎ (status ≡ NoMemory)

-- what stops the merges of a sheet without a fault is told, where no read or write failed and the memory sufficed
abbrev pub BlockersAreTold : Type 0
BlockersAreTold =
    (words : List (List ℕ)) (budget : Option ℕ) (status : Status) (input output err : Change) (held : Option PairsParts) → Ran words status input output err held
    → form_of words ≡ Some (Blockers budget) → IsSomeAnd input.old HasNoFault → (HasFailed input → ⊥) → (HasFailed output → ⊥) → (status ≡ Done) ⊎ (status ≡ NoMemory)

-- what the rules of a sheet apply to an element is told, where neither page nor sheet is refused, no read or write failed and the
-- memory sufficed
abbrev pub EntriesAreTold : Type 0
EntriesAreTold =
    (words : List (List ℕ)) (status : Status) (input output err : Change) (held : Option PairsParts) → Ran words status input output err held
    → form_of words ≡ Some Inspect → IsSomeAnd input.old (λ read. (other : Status) → StyleRefuses other read → ⊥) → (HasFailed input → ⊥) → (HasFailed output → ⊥) → (status ≡ Done) ⊎ (status ≡ NoMemory)

-- what needs no input is done, where no write failed and the memory sufficed
abbrev pub OthersAreDone : Type 0
OthersAreDone =
    (words : List (List ℕ)) (status : Status) (input output err : Change) (held : Option PairsParts) (form : Form) → Ran words status input output err held
    → form_of words ≡ Some form → needs_input (Some form) ≡ false → (HasFailed output → ⊥) → (status ≡ Done) ⊎ (status ≡ NoMemory)

-- over a source whose count of faults stays, below its last value, no read fault is answered
abbrev pub ConstantCountHasNoReadFault : Type 0
ConstantCountHasNoReadFault =
    (words : List (List ℕ)) (input output err : Change) (held : Option PairsParts) → input.new_faults ≡ input.old_faults → input.old_faults < last_count → Ran words ReadFault input output err held → ⊥

-- over sinks whose counts of faults stay, below their last value, no write fault is answered
abbrev pub ConstantCountHasNoWriteFault : Type 0
ConstantCountHasNoWriteFault =
    (words : List (List ℕ)) (input output err : Change) (held : Option PairsParts) → output.new_faults ≡ output.old_faults → output.old_faults < last_count → err.new_faults ≡ err.old_faults → err.old_faults < last_count → Ran words WriteFault input output err held → ⊥
