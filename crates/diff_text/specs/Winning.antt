-- Which pair of a sheet wins at an example among those of two properties, in one scene (own; CSS Cascading 3, section 6).
use Rattle.std.specs.Prelude.{ℕ, Bool, true, false, ◌&&◌, ◌||◌, if◌then◌else◌, List, [], ◌∷◌, Option, Some, None}
use Rattle.std.specs.Bool.{beq}
use Rattle.css_model.specs.declared.example.Example.{Example}
use Rattle.css_model.specs.declared.sheet.DeclItem.{DeclItem}
use Rattle.css_model.specs.declared.sheet.SelItem.{SelItem}
use Rattle.css_model.specs.Cascade.Winner.{exceeds}
use Rattle.css_model.specs.Documents.Matching.{matches}
use Rattle.css_model.specs.Documents.RunDocuments.{expand, target_of}
use Rattle.css_model.specs.Documents.Specificity.{specificity_of}
use Rattle.css_model.specs.Lists.{same_text}
use Rattle.sheet_members.specs.Labels.{same_head}
use Rattle.sheet_members.specs.Occurrences.{Occurrence, Part, Paired, Kept}
use Rattle.turned_members.specs.Turned.{Couple}

-- the property of a pair; of a kept item nothing
abbrev pub name_in : Part → List ℕ
name_in (Paired s d) = d.decl.name
name_in (Kept item) = []

abbrev pub name_of : Occurrence → List ℕ
name_of o = name_in o.part

-- whether a part competes at an example for one of two properties
abbrev pub part_competes : Example → (name other : List ℕ) → Part → Bool
part_competes x name other (Paired s d) = (same_text d.decl.name name || same_text d.decl.name other) && matches (expand x) (target_of x) s.selector
part_competes x name other (Kept item) = false

-- whether a block with this normal head holds, where exactly the blocks of these two hold, or no block
abbrev pub stands_under : (head other : Option (List ℕ)) → Option (List ℕ) → Bool
stands_under head other around = same_head around None || (same_head around head || same_head around other)

-- Whether an occurrence competes with the pairs of a couple at an example. It is of one of their properties, matches, and is in no
-- block or in one with the head of one of them. Kept items apply nothing.
abbrev pub competes : Example → Couple → Occurrence → Bool
competes x c o =
    stands_under c.first.mine.occurrence.layer.head c.second.mine.occurrence.layer.head o.layer.head
    && part_competes x (name_of c.first.mine.occurrence) (name_of c.second.mine.occurrence) o.part

-- the numbers of a pair that decide before the order of appearance: importance, and the three counts of the specificity
abbrev pub pair_rank : SelItem → DeclItem → List ℕ
pair_rank s d =
    (if d.decl.important then 1 else 0) ∷ (specificity_of s.selector).a ∷ (specificity_of s.selector).b ∷ (specificity_of s.selector).c ∷ []

-- whether a pair is greater than a later one
abbrev pub stays_greater : Part → Part → Bool
stays_greater (Paired s d) (Paired s' d') = exceeds (pair_rank s d) (pair_rank s' d')
stays_greater (Paired s d) (Kept item) = false
stays_greater (Kept item) p = false

-- one that comes after another one beats it, unless that one is greater
abbrev pub later_or : Option Occurrence → Occurrence → Option Occurrence
later_or None o = Some o
later_or (Some p) o = if stays_greater p.part o.part then Some p else Some o

-- the greatest of these that compete, behind this one
abbrev pub greatest_from : Example → Couple → Option Occurrence → List Occurrence → Option Occurrence
greatest_from x c best [] = best
greatest_from x c best (o ∷ os) = if competes x c o then greatest_from x c (later_or best o) os else greatest_from x c best os

-- the winner of a sheet with these occurrences
abbrev pub winning : Example → Couple → List Occurrence → Option Occurrence
winning x c os = greatest_from x c None os

-- ---- Whether two winners agree

abbrev pub parts_agree : Part → (text : List ℕ) → Part → (other : List ℕ) → Bool
parts_agree (Paired s d) text (Paired s' d') other =
    same_text d.decl.name d'.decl.name && (same_text text other && beq d.decl.important d'.decl.important)
parts_agree (Paired s d) text (Kept item) other = false
parts_agree (Kept item) text p other = false

-- in property, normal value and importance
abbrev pub agree : Option Occurrence → Option Occurrence → Bool
agree None None = true
agree None (Some p) = false
agree (Some o) None = false
agree (Some o) (Some p) = parts_agree o.part o.text p.part p.text
