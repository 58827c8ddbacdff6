-- Which common members of two sheets weigh: nothing but their order decides between them, and it makes a difference (own).
use Rattle.std.specs.Prelude.{ℕ, Bool, true, ◌&&◌, List}
use Rattle.css_model.specs.declared.sheet.DeclItem.{DeclItem}
use Rattle.css_model.specs.declared.sheet.SelItem.{SelItem}
use Rattle.css_model.specs.Cascade.Order.{Pair}
use Rattle.order_laws.specs.Comparing.{weigh, weighs_kept}
use Rattle.sheet_members.specs.Compared.{Common}
use Rattle.sheet_members.specs.Occurrences.{Part, Paired, Kept}

-- a pair, with the normal text of its value
abbrev pub normal_pair : SelItem → DeclItem → (text : List ℕ) → Pair
normal_pair s d text = record { selector = s.selector; decl = record { name = d.decl.name; value = text; important = d.decl.important } }

-- Whether two parts of one sheet with these normal texts weigh: two pairs whose normal declarations differ, with related names, and
-- with equal importance and specificity; a pair and a kept item where this may apply what weighs; two kept items always.
abbrev pub parts_weigh : Part → (text : List ℕ) → Part → (other : List ℕ) → Bool
parts_weigh (Paired s d) text (Paired s' d') other = weigh (normal_pair s d text) (normal_pair s' d' other)
parts_weigh (Paired s d) text (Kept item) other = weighs_kept (normal_pair s d text) item
parts_weigh (Kept item) text (Paired s d) other = weighs_kept (normal_pair s d other) item
parts_weigh (Kept item) text (Kept item') other = true

-- whether two parts of the other sheet weigh, if they are pairs
abbrev pub pairs_weigh : Part → (text : List ℕ) → Part → (other : List ℕ) → Bool
pairs_weigh (Paired s d) text (Paired s' d') other = weigh (normal_pair s d text) (normal_pair s' d' other)
pairs_weigh (Paired s d) text (Kept item) other = true
pairs_weigh (Kept item) text p other = true

-- Whether two common members weigh: in the first sheet, and two pairs in the second one too.
abbrev pub commons_weigh : Common → Common → Bool
commons_weigh c d =
    parts_weigh c.mine.occurrence.part c.mine.occurrence.text d.mine.occurrence.part d.mine.occurrence.text
    && pairs_weigh c.yours.occurrence.part c.yours.occurrence.text d.yours.occurrence.part d.yours.occurrence.text
