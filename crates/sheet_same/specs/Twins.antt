-- Where the kept items of one sheet are found in another one, as lists.
use Rattle.std.specs.Prelude.{ℕ, suc, ◌+◌, if◌then◌else◌, List, [], ◌∷◌}
use Rattle.css_model.specs.declared.sheet.Item.{Item}
use Rattle.css_model.specs.Sheets.KeptItems.{is_kept}

-- one for a kept item, and else nothing
abbrev pub count_of : Item → ℕ
count_of item = if is_kept item then 1 else 0

-- for each of some items, how many kept ones there are before it, where there are so many before the first
abbrev pub counts_from : ℕ → List Item → List ℕ
counts_from count [] = []
counts_from count (x ∷ xs) = count ∷ counts_from (count + count_of x) xs

-- the numbers of the kept ones of some items, the first of which has this number
abbrev pub places_from : ℕ → List Item → List ℕ
places_from number [] = []
places_from number (x ∷ xs) = if is_kept x then number ∷ places_from (suc number) xs else places_from (suc number) xs
