-- What a run of the program did, by what its words ask for and its status.
use Rattle.std.specs.Prelude.{◌≡◌, ℕ, ◌+◌, Bool, true, false, List, Option, Some, None}
use Rattle.command_texts.specs.Texts.{IsHelpOn, version_text}
use Rattle.command_words.specs.Forms.{Form, Min, Style, Dead, Cmp, Check, Why, Same, Diff, Blockers, Listing, Lint, Inspect, Trial, Help, Version, form_of}
use Rattle.css_model.specs.Sheets.Limits.{max_bytes}
use Rattle.log_text.specs.CheckedTexts.{max_log_bytes}
use Rattle.overlap.specs.PairsParts.{PairsParts}
use Rattle.same_text.specs.SameTexts.{max_both}
use Rattle.cssmin_run.specs.Change.{Change}
use Rattle.cssmin_run.specs.Commands.Blockers.{BlockersDoes}
use Rattle.cssmin_run.specs.Commands.Check.{CheckDoes}
use Rattle.cssmin_run.specs.Commands.Cmp.{CmpDoes}
use Rattle.cssmin_run.specs.Commands.Dead.{DeadDoes}
use Rattle.cssmin_run.specs.Commands.Diff.{DiffDoes}
use Rattle.cssmin_run.specs.Commands.Inspect.{InspectDoes}
use Rattle.cssmin_run.specs.Commands.Lint.{LintDoes}
use Rattle.cssmin_run.specs.Commands.Listing.{ListDoes}
use Rattle.cssmin_run.specs.Commands.Min.{MinDoesBy}
use Rattle.cssmin_run.specs.Commands.Same.{SameDoes}
use Rattle.cssmin_run.specs.Commands.Style.{StyleDoes}
use Rattle.cssmin_run.specs.Commands.Trial.{TrialDoes}
use Rattle.cssmin_run.specs.Commands.Why.{WhyDoes}
use Rattle.cssmin_run.specs.Telling.{Tells}
use Rattle.cssmin_run.specs.Writing.{WritesSome}
use Rattle.cssmin_run.specs.declared.status.Status.{Status}
use Rattle.cssmin_run.specs.declared.status.Status.TheVariants.{Usage}

-- What a run that ended with this status did to the input, the output and standard error, and which answers it holds,
-- by what its words ask for. Each case says that the status is not `Usage`.
abbrev pub Outcome : Form → Status → (input output err : Change) → (held : Option PairsParts) → Type 0
Outcome (Min budget work report) status input output err held = MinDoesBy work budget report status input output err held
Outcome (Dead budget) status input output err held = DeadDoes budget status input output err held
Outcome Style status input output err held = StyleDoes status input output err held
Outcome (Cmp left right budget log) status input output err held = CmpDoes left right budget log status output err held
Outcome Check status input output err held = CheckDoes status input output err held
Outcome (Why from to budget) status input output err held = WhyDoes from to budget status input output err held
Outcome (Same split budget) status input output err held = SameDoes split budget status input output err held
Outcome (Diff split budget limit) status input output err held = DiffDoes split budget limit status input output err held
Outcome (Blockers budget) status input output err held = BlockersDoes budget status input output err held
Outcome Listing status input output err held = ListDoes status input output err held
Outcome (Lint budget) status input output err held = LintDoes budget status input output err held
Outcome Inspect status input output err held = InspectDoes status input output err held
Outcome (Trial rules) status input output err held = TrialDoes rules status output err held
Outcome (Help about) status input output err held = WritesSome (IsHelpOn about) status output err × (held ≡ None)
Outcome Version status input output err held = WritesSome (λ text. text ≡ version_text) status output err × (held ≡ None)

-- The same of any words: those that have no form are refused.
abbrev pub Answers : Option Form → Status → (input output err : Change) → (held : Option PairsParts) → Type 0
Answers None status input output err held = (status ≡ Usage) × (held ≡ None) × Tells Usage err
Answers (Some form) status input output err held = Outcome form status input output err held

-- the budget that the words name, if they name one (own)
abbrev pub named_budget : Option Form → Option ℕ
named_budget None = None
named_budget (Some (Min budget work report)) = budget
named_budget (Some (Dead budget)) = budget
named_budget (Some Style) = None
named_budget (Some (Cmp left right budget log)) = budget
named_budget (Some Check) = None
named_budget (Some (Why from to budget)) = budget
named_budget (Some (Same split budget)) = budget
named_budget (Some (Diff split budget limit)) = budget
named_budget (Some (Blockers budget)) = budget
named_budget (Some Listing) = None
named_budget (Some (Lint budget)) = budget
named_budget (Some Inspect) = None
named_budget (Some (Trial rules)) = None
named_budget (Some (Help about)) = None
named_budget (Some Version) = None

-- whether the input is needed
abbrev pub needs_input : Option Form → Bool
needs_input None = false
needs_input (Some (Min budget work report)) = true
needs_input (Some (Dead budget)) = true
needs_input (Some Style) = true
needs_input (Some (Cmp left right budget log)) = false
needs_input (Some Check) = true
needs_input (Some (Why from to budget)) = true
needs_input (Some (Same split budget)) = true
needs_input (Some (Diff split budget limit)) = true
needs_input (Some (Blockers budget)) = true
needs_input (Some Listing) = true
needs_input (Some (Lint budget)) = true
needs_input (Some Inspect) = true
needs_input (Some (Trial rules)) = false
needs_input (Some (Help about)) = false
needs_input (Some Version) = false

-- whether a refusal tells the line and the column of the fault
abbrev pub tells_places : Option Form → Bool
tells_places (Some (Diff split budget limit)) = true
tells_places (Some (Blockers budget)) = true
tells_places (Some Listing) = true
tells_places (Some (Lint budget)) = true
tells_places (Some Inspect) = true
tells_places form = false

-- the most bytes of the input that are taken: one past the limit of a log, of two sheets, or of a sheet
abbrev pub most_taken : Option Form → ℕ
most_taken (Some Check) = max_log_bytes + 1
most_taken (Some (Same split budget)) = max_both + 1
most_taken (Some (Diff split budget limit)) = max_both + 1
most_taken form = max_bytes + 1

-- A run on these words ended with this status: it did what the words ask for, and told what came of that.
pub record Ran (words : List (List ℕ)) (status : Status) (input output err : Change) (held : Option PairsParts) : Type 0 where
  pub answers : Answers (form_of words) status input output err held
