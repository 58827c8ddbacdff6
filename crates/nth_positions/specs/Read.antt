-- How the reader's answer relates to what is read at the front of a text.
use Rattle.std.specs.Prelude.{◌≡◌, Option, Some, None, Result, Ok, Err}
use Rattle.css_model.specs.declared.position.AnB.{AnB}
use Rattle.css_model.specs.Positions.Range.{IsInRange}
use Rattle.nth_positions.specs.declared.notation.AnbFault.{AnbFault}
use Rattle.nth_positions.specs.declared.notation.AnbFault.TheVariants.{NotAnB, OutOfRange}

abbrev pub Gives : Result AnB AnbFault → Option AnB → Type 0
Gives (Ok x) read = (read ≡ Some x) × IsInRange x
Gives (Err NotAnB) read = read ≡ None
Gives (Err OutOfRange) read = (x : AnB) × (read ≡ Some x) × (IsInRange x → ⊥)
