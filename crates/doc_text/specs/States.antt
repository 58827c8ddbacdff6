-- The lines of a document that are read so far.
use Rattle.std.specs.Prelude.{◌≡◌, ℕ, ◌-◌, ◌==◌, ◌&&◌, ◌||◌, nat_le, nat_lt, not, is_none, Bool, true, false, if◌then◌else◌, List, [], ◌∷◌, ◌++◌, length, slice_get, Option, Some, None, MatchOption, IsSomeAnd}
use Rattle.std.specs.List.{AllByRecursion}
use Rattle.css_model.specs.declared.example.RunLine.{RunLine}
use Rattle.css_model.specs.Documents.RunDocuments.{LinesFollow}
use Rattle.doc_text.specs.DocText.{line_text}
use Rattle.doc_text.specs.Elements.{IsLine}

-- lines, and the number of the marked one, if it is among them
pub record StateParts : Type 0 where
  pub lines : List RunLine
  pub marked : Option ℕ

-- lines of a document, or none yet
abbrev pub AreFirstLines : List RunLine → Type 0
AreFirstLines [] = Unit {0}
AreFirstLines (l ∷ lines) = (l.depth ≡ 0) × (l.count ≡ 1) × LinesFollow 0 1 lines

-- a document's text may begin with them
pub record IsStart (s : StateParts) : Type 0 where
  pub lines : AreFirstLines s.lines
  pub each : AllByRecursion IsLine s.lines
  pub marked : MatchOption s.marked (Unit {0}) (λ k. IsSomeAnd (slice_get s.lines k) (λ l. l.count ≡ 1))

-- one line more, marked or not
abbrev pub with_line : StateParts → Bool → RunLine → StateParts
with_line s mark l = record { lines = s.lines ++ l ∷ []; marked = if mark then Some (length s.lines) else s.marked }

-- it may follow them: it does not mark a second line
pub record MayFollow (s : StateParts) (mark : Bool) (l : RunLine) : Type 0 where
  pub start : IsStart (with_line s mark l)
  pub once : mark ≡ true → s.marked ≡ None

-- whether a line may stand behind this one, or first
abbrev pub follows : Option RunLine → RunLine → Bool
follows None l = l.depth == 0 && l.count == 1
follows (Some last) l = nat_lt 0 l.depth && (nat_le l.depth last.depth || (l.depth - 1 == last.depth && last.count == 1))

-- what is left where these bytes are read as one line more: that line behind them, or no line may follow that
-- has this text
abbrev pub Reads : Bool → StateParts → List ℕ → StateParts → Type 0
Reads true old bytes new = (mark : Bool) × (l : RunLine) × (new ≡ with_line old mark l) × (bytes ≡ line_text mark l) × IsLine l × MayFollow old mark l
Reads false old bytes new = (new ≡ old) × ((mark : Bool) (l : RunLine) → IsLine l → bytes ≡ line_text mark l → MayFollow old mark l → ⊥)

-- whether a line may follow, marked or not
abbrev pub may_follow : StateParts → Bool → RunLine → Bool
may_follow s mark l = (not mark || (is_none s.marked && l.count == 1)) && follows (slice_get s.lines (length s.lines - 1)) l
