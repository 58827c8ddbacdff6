-- What the printed form of a step and an offset keeps.
use Rattle.std.specs.Prelude.{ℕ, ◌≡◌, ◌<◌, ◌≤◌, ◌^◌, List, length, unsigned_abs, Some}
use Rattle.css_model.specs.declared.position.AnB.{AnB}
use Rattle.css_model.specs.Positions.Notation.{IsNotation}
use Rattle.css_model.specs.Positions.Printed.{anb_text}
use Rattle.css_model.specs.Positions.Range.{IsInRange}
use Rattle.css_model.specs.Positions.Reading.{body_of, past_blanks}

-- sizes that have decimal digits at hand
pub record IsSized (x : AnB) : Type 0 where
  pub step : unsigned_abs x.a < 2 ^ 63
  pub offset : unsigned_abs x.b < 2 ^ 63

-- the printed form is in the notation, and stands for the pair
abbrev pub TextIsNotation : Type 0
TextIsNotation = (x : AnB) → IsSized x → IsNotation (anb_text x) x

-- and within the limits it is read as it
abbrev pub TextIsRead : Type 0
TextIsRead = (x : AnB) → IsInRange x → body_of (past_blanks (anb_text x)) ≡ Some x

-- no notation of the same pair is shorter
abbrev pub TextIsShortest : Type 0
TextIsShortest = (x : AnB) (text : List ℕ) → IsSized x → IsNotation text x → length (anb_text x) ≤ length text
