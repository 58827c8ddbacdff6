-- What the code's table says.
use Rattle.std.specs.Prelude.{ℕ, List, map}
use Rattle.std.specs.Borrow.{Bor}
use Rattle.css_model.specs.Cascade.Family as model
use Rattle.related_props.specs.declared.table.Row.{Row}

-- words by their bytes
abbrev pub words_of : List (Bor (List ℕ)) → List (List ℕ)
words_of words = map (λ word. word.now) words

-- a row of the table
abbrev pub row_of : Row → model.Row
row_of row = record { family = row.family.now; parts = words_of row.parts.now }
