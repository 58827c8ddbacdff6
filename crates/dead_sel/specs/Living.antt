-- Whether a selector matches anything (own).
use Rattle.std.specs.Prelude.{◌≡◌, ℕ, ◌<◌, ◌≤◌, false, List, [], ◌∷◌, length, Option}
use Rattle.css_model.specs.declared.example.Example.{Example}
use Rattle.css_model.specs.declared.selector.Pseudo.{Pseudo}
use Rattle.css_model.specs.declared.selector.Test.TheVariants.{Any}
use Rattle.css_model.specs.Documents.Document.{Document, Target, IsLegal}
use Rattle.css_model.specs.Documents.Matching.{Matches}
use Rattle.css_model.specs.Documents.RunDocuments.{KeepsRules, expand, target_of}
use Rattle.css_model.specs.Documents.SelectorParts.{SelectorParts}
use Rattle.example_doc.specs.Built.{most_lines}
use Rattle.overlap.specs.Answers.{LackSpaces, no_space_left}
use Rattle.overlap.specs.Combined.{IsSpentOn}
use Rattle.overlap.specs.declared.answer.Answer.{Answer}
use Rattle.overlap.specs.declared.answer.Answer.TheVariants as answers
use Rattle.overlap.specs.PairsParts.{Answered}
use Rattle.overlap.specs.Remembered.{IsAnswered}
use Rattle.dead_sel.specs.declared.living.Life.{Life}
use Rattle.dead_sel.specs.declared.living.Life.TheVariants.{Dead, Alive, SpacesTaken, Spent}

-- `*`, with a pseudo-element or without one: it matches each element, or this pseudo-element of each
-- (Selectors 3, sections 6.2 and 7)
abbrev pub every : Option Pseudo → SelectorParts
every pseudo = record { chain = (record { negated = false; test = Any } ∷ []) ∷ []; links = []; pseudo = pseudo }

-- ---- What a life says

-- a selector matches no target of a legal document
abbrev pub MatchesNothing : SelectorParts → Type 0
MatchesNothing s = (doc : Document) (target : Target) → IsLegal doc → Matches doc target s → ⊥

-- an example shows that a selector matches something: its document is legal, and the selector matches its target
pub record ShowsMatch (s : SelectorParts) (e : Example) : Type 0 where
  pub rules : KeepsRules e
  pub legal : IsLegal (expand e)
  pub matches : Matches (expand e) (target_of e) s
  pub short : length e.doc.lines ≤ most_lines

abbrev pub IsTrueLife : SelectorParts → (budget : ℕ) → Life → Type 0
IsTrueLife s budget Dead = MatchesNothing s
IsTrueLife s budget (Alive e) = ShowsMatch s e
IsTrueLife s budget SpacesTaken = LackSpaces s (every s.pseudo)
IsTrueLife s budget (Spent ledger) = (1 < length s.chain) × IsSpentOn s (every s.pseudo) budget ledger

-- ---- By which answer it is given

-- what an answer for a selector and `*` says of the selector
abbrev pub life_by : Answer → Life
life_by answers.Apart = Dead
life_by (answers.Meet e) = Alive e
life_by (answers.Outside reason number) = SpacesTaken
life_by (answers.Spent ledger) = Spent ledger

-- the answer for a selector and `*`, by its life
abbrev pub answer_by : Life → Answer
answer_by Dead = answers.Apart
answer_by (Alive e) = answers.Meet e
answer_by SpacesTaken = answers.Outside no_space_left 0
answer_by (Spent ledger) = answers.Spent ledger

-- this is the life of a selector, by what is held of it and `*`
abbrev pub IsLife : List Answered → SelectorParts → Life → Type 0
IsLife held s life = IsAnswered held s (every s.pseudo) (answer_by life)
