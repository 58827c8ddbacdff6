-- What is told of two sheets, from their bytes to the text (own).
use Rattle.std.specs.Prelude.{◌≡◌, ℕ, Bool, true, false, ◌&&◌, if◌then◌else◌, List, [], ◌∷◌, ◌++◌, take, drop, map, Ok, codes}
use Rattle.std.specs.List.{flat_map}
use Rattle.css_model.specs.declared.sheet.Item.{Item}
use Rattle.css_model.specs.Sheets.Sheet.{sheet_of}
use Rattle.overlap.specs.PairsParts.{PairsParts}
use Rattle.overlap.specs.Remembered.{IsTrueList}
use Rattle.same_text.specs.SameTexts.{IsParted}
use Rattle.sheet_members.specs.Compared.{Common, Compared, changed, compared}
use Rattle.sheet_members.specs.Members.{Member}
use Rattle.sheet_members.specs.Occurrences.{occurrences}
use Rattle.turned_members.specs.Telling.{AreTold, Told}
use Rattle.turned_members.specs.Turned.{turned}
use Rattle.diff_text.specs.Lines.{Sides, changed_line, extra_line, first_line, limit_line, missing_line, told_lines, told_word}

abbrev pub sides_of : (source : List ℕ) (s : List Item) (other : List ℕ) (t : List Item) → Sides
sides_of source s other t = record { text = source; occurrences = occurrences source s; other = other; others = occurrences other t }

-- whether a list has no element
abbrev pub is_none : {A : Type 0} → List A → Bool
is_none [] = true
is_none (x ∷ xs) = false

-- whether nothing is found
abbrev pub is_same : List Told → List Member → List Member → List Common → Bool
is_same told missing extra others = is_none told && (is_none missing && (is_none extra && is_none others))

-- the lines of what is found: first their numbers, then the couples, and then what is missing, extra and changed
abbrev pub found_lines : Sides → (limit : ℕ) → List Told → Compared → List ℕ
found_lines x limit told c =
    first_line (map (told_word x) told) c ++ flat_map (told_lines x) told ++ limit_line limit told ++ flat_map (missing_line x) c.missing
    ++ flat_map (extra_line x) c.extra ++ flat_map (changed_line x) (changed c)

-- `same` where nothing is found, and otherwise the lines of what is
abbrev pub diff_text : Sides → (limit : ℕ) → List Told → Compared → List ℕ
diff_text x limit told c = if is_same told c.missing c.extra (changed c) then codes "same\n" else found_lines x limit told c

-- The text tells what is found in two sheets, by the answers that are held, which are true ones: at most so many couples.
pub record Tells (source : List ℕ) (s : List Item) (other : List ℕ) (t : List Item) (limit : ℕ) (pairs : PairsParts) (text : List ℕ) : Type 0 where
  pub all_true : ∥ IsTrueList pairs ∥₁
  pub told : List Told
  pub are_told : AreTold pairs.answers limit [] (turned (compared source s other t).commons) told
  pub text_is : text ≡ diff_text (sides_of source s other t) limit told (compared source s other t)

-- Two sources are read as sheets, and this text tells what is found in them.
pub record AreCompared (source other : List ℕ) (limit : ℕ) (pairs : PairsParts) (text : List ℕ) : Type 0 where
  pub first : List Item
  pub second : List Item
  pub first_read : sheet_of source ≡ Ok first
  pub second_read : sheet_of other ≡ Ok second
  pub tells : Tells source first other second limit pairs text

-- The text tells what is found in the sheet of the first bytes, so many, and that of the others.
pub record IsDiffText (bytes : List ℕ) (split limit : ℕ) (pairs : PairsParts) (text : List ℕ) : Type 0 where
  pub parted : IsParted bytes split
  pub compared : AreCompared (take split bytes) (drop split bytes) limit pairs text
