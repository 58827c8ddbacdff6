-- The tokens that a walk has before it.
use Rattle.std.specs.Prelude.{◌≡◌, ◌≤◌, true, List, [], ◌∷◌, length, Option, Some, None}
use Rattle.std.specs.List.{AllByRecursion}
use Rattle.css_model.specs.Sheets.Limits.{max_bytes}
use Rattle.css_model.specs.Text.Kept.{Solid}
use Rattle.css_tokens.specs.Laws.{StandsIn}
use Rattle.css_tokens.specs.Left as reader
use Rattle.css_print.specs.declared.walk.Walk.{Walk}
use Rattle.css_print.specs.declared.walk.Word.{Word}
use Rattle.css_print.specs.Words.{front, is_ahead, solids_to}

abbrev pub left : Walk → List Solid
left w = solids_to w.«end» w.source.now (front w.ahead (reader.left w.tokens).tokens)

-- the token that was read ahead is one of the piece, and each token stands in the source, which is no longer than a
-- sheet may be
pub record IsReady (w : Walk) : Type 0 where
  pub ahead : is_ahead w.«end» w.ahead ≡ true
  pub stand : AllByRecursion (StandsIn w.source.now) (front w.ahead (reader.left w.tokens).tokens)
  pub short : length w.source.now ≤ max_bytes

abbrev pub solid_of : Word → Solid
solid_of w = record { kind = w.kind; bytes = w.text.now; gap = w.gap }

-- what a call of `next` answers, and the tokens that are left
abbrev pub Gives : List Solid → Option Word → List Solid → Type 0
Gives old (Some w) new = old ≡ solid_of w ∷ new
Gives old None new = (old ≡ []) × (new ≡ [])
