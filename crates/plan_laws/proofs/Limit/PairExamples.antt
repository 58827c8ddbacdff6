-- The pairs of small sheets: each theorem is by computation.
use Rattle.std.proofs.Common.{◌≡◌, ℕ, List, [], ◌∷◌, None, false, refl}
use Rattle.std.specs.Prelude.{codes}
use Rattle.css_model.specs.declared.selector.Op.TheVariants.{Word}
use Rattle.css_model.specs.declared.selector.Test.TheVariants.{Attr}
use Rattle.css_model.specs.declared.sheet.DeclItem.{DeclItem}
use Rattle.css_model.specs.declared.sheet.Item.{Item}
use Rattle.css_model.specs.declared.sheet.Item.TheVariants.{Rule}
use Rattle.css_model.specs.declared.sheet.SelItem.{SelItem}
use Rattle.css_model.specs.Sheets.ComesFrom.{pair_count}
use Rattle.css_model.specs.Sheets.RuleParts.{RuleParts}
use Rattle.order_laws.specs.Edits.{edited}
use Rattle.step_laws.specs.StepEdits.{cut_selector, join_selectors_up}
use Rattle.plan_laws.specs.Limit.PairLimit.{pairs_once}

abbrev class : List ℕ → SelItem
class name = record {
  selector = record { chain = (record { negated = false; test = Attr (record { name = codes "class"; op = Word; value = name }) } ∷ []) ∷ []; links = []; pseudo = None };
  piece = record { start = 0; «end» = 0 };
}

abbrev declaration : List ℕ → DeclItem
declaration name = record { decl = record { name = name; value = codes "0"; important = false }; name = record { start = 0; «end» = 0 }; value = record { start = 0; «end» = 0 } }

-- `.a,.b,.a{top:0}`
abbrev upper : RuleParts
upper = record { selectors = class (codes "a") ∷ class (codes "b") ∷ class (codes "a") ∷ []; decls = declaration (codes "top") ∷ [] }

-- `.b,.a{left:0;width:0}`
abbrev lower : RuleParts
lower = record { selectors = class (codes "b") ∷ class (codes "a") ∷ []; decls = declaration (codes "left") ∷ declaration (codes "width") ∷ [] }

abbrev sheet : List Item
sheet = Rule upper ∷ Rule lower ∷ []

-- a selector that a rule repeats counts in the limit, and once here
repeats_count : pair_count sheet ≡ 7
repeats_count = refl

repeats_count_once : pairs_once sheet ≡ 6
repeats_count_once = refl

-- both as one rule have more pairs by the limit, and as many here
more_when_joined : pair_count (edited (join_selectors_up 0 1 upper lower) sheet) ≡ 9
more_when_joined = refl

as_many_when_joined : pairs_once (edited (join_selectors_up 0 1 upper lower) sheet) ≡ 6
as_many_when_joined = refl

-- without the repeat both counts agree
cut_repeat : pair_count (edited (cut_selector 0 0 upper) sheet) ≡ 6
cut_repeat = refl

cut_repeat_once : pairs_once (edited (cut_selector 0 0 upper) sheet) ≡ 6
cut_repeat_once = refl
