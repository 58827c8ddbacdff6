-- What is queued again where pairs are moved.
use Rattle.std.specs.Prelude.{ℕ, List}
use Rattle.std.specs.List.{Contains}
use Rattle.css_model.specs.declared.sheet.Decl.{Decl}
use Rattle.css_model.specs.Documents.SelectorParts.{SelectorParts}
use Rattle.css_model.specs.Sheets.RuleParts.{RuleParts}
use Rattle.css_model.specs.Sheets.StyleRule.{selectors_of}
use Rattle.pending_laws.specs.Candidates as pending
use Rattle.step_queue.specs.WatchLists.{entry}
use Rattle.step_queue.specs.declared.watch_list.Entry.{Entry}
use Rattle.step_queue.specs.declared.candidate.Candidate.{Candidate}
use Rattle.step_queue.specs.Told.{candidate_told}
use Rattle.rule_tables.specs.Digests.{selector_digest, decl_digest}
use Rattle.step_laws.specs.declared.step.Step.{Step}
use Rattle.step_laws.specs.declared.step.Step.TheVariants.{CutDecl, CutSel, JoinSelUp, JoinSelDown, JoinDeclUp, JoinDeclDown, Share}
use Rattle.step_laws.specs.Steps.{decls_of}

-- all candidates that are on the watch list under two digests are among these
abbrev pub HasCandidatesUnder : List Entry → List Candidate → (selector decl : ℕ) → Type 0
HasCandidatesUnder entries candidates selector decl = (l : Candidate) → Contains entries (entry selector decl l) → Contains candidates l

-- what is on the watch list under two digests is queued again
abbrev pub IsActiveUnder : List Entry → List pending.Candidate → (selector decl : ℕ) → Type 0
IsActiveUnder entries candidates selector decl = (l : Candidate) → Contains entries (entry selector decl l) → Contains candidates (candidate_told l)

-- so it is with each of these digests of selectors and these of declarations
abbrev pub AreActiveUnder : List Entry → List pending.Candidate → (selectors decls : List ℕ) → Type 0
AreActiveUnder entries candidates selectors decls = (selector decl : ℕ) → Contains selectors selector → Contains decls decl → IsActiveUnder entries candidates selector decl

-- what is on the watch list under the digests of a pair is queued again
abbrev pub IsActive : List Entry → List pending.Candidate → SelectorParts → Decl → Type 0
IsActive entries candidates s d = IsActiveUnder entries candidates (selector_digest s) (decl_digest d)

-- so it is with each of these selectors and these declarations
abbrev pub AreActive : List Entry → List pending.Candidate → List SelectorParts → List Decl → Type 0
AreActive entries candidates selectors decls = (s : SelectorParts) (d : Decl) → Contains selectors s → Contains decls d → IsActive entries candidates s d

-- and with the pairs of a rule
abbrev pub IsRuleActive : List Entry → List pending.Candidate → RuleParts → Type 0
IsRuleActive entries candidates r = AreActive entries candidates (selectors_of r) (decls_of r)

-- the items that a step moves pairs out of: the first one, and the last one
abbrev pub first_out : Step → ℕ
first_out (CutDecl n i) = n
first_out (CutSel n i) = n
first_out (JoinSelUp x y) = y
first_out (JoinSelDown x y) = x
first_out (JoinDeclUp x y) = y
first_out (JoinDeclDown x y) = x
first_out (Share x y) = x

abbrev pub last_out : Step → ℕ
last_out (CutDecl n i) = n
last_out (CutSel n i) = n
last_out (JoinSelUp x y) = y
last_out (JoinSelDown x y) = x
last_out (JoinDeclUp x y) = y
last_out (JoinDeclDown x y) = x
last_out (Share x y) = y
