-- Families of properties (own). A property sets only properties of its own family. The families and
-- their table are this project's own choice: no standard has them, and that a browser keeps to them
-- is a premise. All texts are lists of code points.
use Rattle.std.specs.Prelude.{◌≡◌, ◌⊎◌, ◌↔◌, ℕ, Bool, true, false, not, ◌&&◌, if◌then◌else◌, ◌==◌, IsTrue, List, [], ◌∷◌, Option, unwrap_or, find, drop, codes}
use Rattle.std.specs.Char.{is_ascii_alphanumeric}
use Rattle.std.specs.List.{list_all, list_any, prefix_len, before_first, after_first}
use Rattle.std.specs.Option.{option_map}
use Rattle.css_model.specs.declared.family.Family.{Family}
use Rattle.css_model.specs.declared.family.Family.TheVariants.{All, Custom, Named}
use Rattle.css_model.specs.Lists.{begins_with}
use Rattle.css_model.specs.Lists.{is_empty}
use Rattle.css_model.specs.Lists.{same_text}

-- a family of the table, and the parts of names that lead to it
pub record Row : Type 0 where
  pub family : List ℕ
  pub parts : List (List ℕ)

-- the table
abbrev pub rows : List Row
rows =
    record { family = codes "grid"; parts = codes "columns" ∷ codes "column" ∷ codes "gap" ∷ codes "row" ∷ codes "rule" ∷ codes "grid" ∷ codes "page" ∷ codes "break" ∷ [] }
    ∷ record { family = codes "font"; parts = codes "font" ∷ codes "line" ∷ [] }
    ∷ record { family = codes "inset"; parts = codes "top" ∷ codes "right" ∷ codes "bottom" ∷ codes "left" ∷ codes "inset" ∷ [] }
    ∷ record { family = codes "size"; parts = codes "width" ∷ codes "height" ∷ codes "inline" ∷ codes "block" ∷ codes "logical" ∷ [] }
    ∷ record { family = codes "place"; parts = codes "align" ∷ codes "justify" ∷ codes "place" ∷ [] }
    ∷ record { family = codes "wrap"; parts = codes "word" ∷ codes "overflow" ∷ [] }
    ∷ record { family = codes "text"; parts = codes "white" ∷ codes "text" ∷ codes "glyph" ∷ [] }
    ∷ record { family = codes "color"; parts = codes "color" ∷ codes "print" ∷ [] }
    ∷ record { family = codes "offset"; parts = codes "offset" ∷ codes "motion" ∷ [] }
    ∷ record { family = codes "vertical"; parts = codes "vertical" ∷ codes "alignment" ∷ codes "baseline" ∷ [] }
    ∷ []

-- the family that the table names for a part, if it has the part
abbrev pub family_in : List Row → List ℕ → Option (List ℕ)
family_in table part = option_map (λ row. row.family) (find (λ row. list_any (λ other. same_text part other) row.parts) table)

-- a part that the table does not have names its own family
abbrev pub family_of_part : List ℕ → List ℕ
family_of_part part = unwrap_or (family_in rows part) part

-- a name without the underscores at its start
abbrev pub without_underscores : List ℕ → List ℕ
without_underscores name = drop (prefix_len (λ c. c == 0x5F) name) name

abbrev pub is_hyphen : ℕ → Bool
is_hyphen c = c == 0x2D

-- a vendor's word: one or more letters and digits of ASCII
abbrev pub is_vendor : List ℕ → Bool
is_vendor word = not (is_empty word) && list_all is_ascii_alphanumeric word

-- a name without one vendor prefix at its start: a hyphen, a vendor's word and a hyphen
abbrev pub without_vendor : List ℕ → List ℕ
without_vendor [] = []
without_vendor (c ∷ rest) =
    if is_hyphen c && list_any is_hyphen rest && is_vendor (before_first is_hyphen rest) then after_first is_hyphen rest else c ∷ rest

-- the part of a name that tells its family: what stands before the first hyphen, once underscores
-- and a vendor prefix are taken away
abbrev pub part_of : List ℕ → List ℕ
part_of name = before_first is_hyphen (without_vendor (without_underscores name))

-- The family of a property's name: that of `all`, a custom property's own, or that of its part.
abbrev pub family_of : List ℕ → Family
family_of name =
    if same_text name (codes "all") then All
    else if begins_with name (codes "--") then Custom name
    else Named (family_of_part (part_of name))

-- Names are related: one is of the family of `all`, or both are of one family.
abbrev pub Related : List ℕ → List ℕ → Type 0
Related m n = (family_of m ≡ All) ⊎ (family_of n ≡ All) ⊎ (family_of m ≡ family_of n)

-- The rest of this file is the same as a test that computes.

-- whether one is the family of `all`, or both are equal
abbrev pub related_families : Family → Family → Bool
related_families All g = true
related_families (Custom a) All = true
related_families (Custom a) (Custom b) = same_text a b
related_families (Custom a) (Named b) = false
related_families (Named a) All = true
related_families (Named a) (Custom b) = false
related_families (Named a) (Named b) = same_text a b

-- whether names are related
abbrev pub related : List ℕ → List ℕ → Bool
related m n = related_families (family_of m) (family_of n)
