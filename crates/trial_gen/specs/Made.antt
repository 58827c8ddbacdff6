-- Made sheets: rules whose selectors and declarations are drawn from few.
use Rattle.std.specs.Prelude.{ℕ, zero, suc, ◌+◌, ◌*◌, ◌/◌, ◌%◌, ◌==◌, if◌then◌else◌, List, [], ◌∷◌, ◌++◌, codes, decimal, slice_index_or}
use Rattle.trial_gen.specs.Draws.{draw}

-- the properties, by numbers from 0
abbrev pub property : ℕ → List ℕ
property number = slice_index_or (codes "top" ∷ codes "left" ∷ codes "margin" ∷ codes "margin-left" ∷ []) number []

-- the selector of a draw
abbrev pub selector_text : ℕ → List ℕ
selector_text v = codes ".c" ++ decimal (v % 40) ++ (if v % 3 == 0 then codes ">.d" else [])

-- the declaration of a draw
abbrev pub declaration_text : ℕ → List ℕ
declaration_text w = property (w % 4) ++ codes ":" ++ decimal (w / 4 % 5) ++ codes "px"

-- the rule of two draws
abbrev pub rule_text : ℕ → ℕ → List ℕ
rule_text v w = selector_text v ++ codes "{" ++ declaration_text w ++ codes "}"

-- the sheet of the first n rules, each of two draws
abbrev pub made_sheet : ℕ → List ℕ
made_sheet zero = []
made_sheet (suc k) = made_sheet k ++ rule_text (draw (2 * k + 1)) (draw (2 * k + 2))
