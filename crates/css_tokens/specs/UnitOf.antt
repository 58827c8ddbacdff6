-- The units that the reader's runs are made of.
use Rattle.std.specs.Prelude.{ℕ, List}
use Rattle.css_model.specs.Text.Units.{white_unit, name_unit, digit_unit, url_unit}
use Rattle.css_tokens.specs.declared.runs.Unit.{Unit}
use Rattle.css_tokens.specs.declared.runs.Unit.TheVariants.{White, Name, Digit, Url}

abbrev pub unit_of : Unit → List ℕ → ℕ
unit_of White = white_unit
unit_of Name = name_unit
unit_of Digit = digit_unit
unit_of Url = url_unit
