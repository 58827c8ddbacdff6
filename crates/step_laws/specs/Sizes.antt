-- How long the texts of a sheet are, and what a step saves of them.
use Rattle.std.specs.Prelude.{◌≡◌, ℕ, ◌+◌, List, [], ◌∷◌, Some, length, slice_get}
use Rattle.std.specs.List.{flat_map}
use Rattle.css_model.specs.declared.sheet.Item.{Item}
use Rattle.css_model.specs.declared.sheet.Item.TheVariants.{Rule, KeptRule, KeptBlock}
use Rattle.css_model.specs.Sheets.Printed.{printed_selector, printed_declaration, printed_item}
use Rattle.css_model.specs.Sheets.RuleParts.{RuleParts}
use Rattle.css_model.specs.Sheets.Sound.{IsSound}
use Rattle.order_laws.specs.Edits.{Change, Edit, edited}
use Rattle.step_laws.specs.declared.step.Step.{Step}
use Rattle.step_laws.specs.declared.step.Step.TheVariants.{CutDecl, CutSel, JoinSelUp, JoinSelDown, JoinDeclUp, JoinDeclDown, Share}
use Rattle.step_laws.specs.Steps.{IsStep, first_item, last_item}

-- the length of the items' printed texts together, in bytes: that of the printed sheet, but for the space
-- that stands before a byte order mark
abbrev pub size : List ℕ → List Item → ℕ
size source items = length (flat_map (printed_item source) items)

-- an edit of a sheet saves so many bytes
abbrev pub Saves : List ℕ → List Item → Edit → ℕ → Type 0
Saves source items e n = size source items ≡ size source (edited e items) + n

-- how many selectors and declarations the rules of a sheet have together
abbrev pub part_count : List Item → ℕ
part_count [] = 0
part_count (Rule r ∷ items) = length r.selectors + length r.decls + part_count items
part_count (KeptRule k ∷ items) = part_count items
part_count (KeptBlock piece ∷ items) = part_count items

-- ---- By the parts of rules

-- the lengths of the texts of some parts, each with one sign behind it
abbrev pub weight : {A : Type 0} → (A → List ℕ) → List A → ℕ
weight text [] = 0
weight text (x ∷ xs) = length (text x) + 1 + weight text xs

-- Of a rule with a selector and a declaration it is the length of its text: behind its last selector
-- stands `{`, behind its last declaration `}`.
abbrev pub rule_weight : List ℕ → RuleParts → ℕ
rule_weight source r = weight (printed_selector source) r.selectors + weight (printed_declaration source) r.decls

-- the weights of the rules among some items
abbrev pub rules_weight : List ℕ → List Item → ℕ
rules_weight source [] = 0
rules_weight source (Rule r ∷ items) = rule_weight source r + rules_weight source items
rules_weight source (KeptRule k ∷ items) = rules_weight source items
rules_weight source (KeptBlock piece ∷ items) = rules_weight source items

-- the weight of what an edit puts in
abbrev pub brought_weight : List ℕ → List Change → ℕ
brought_weight source [] = 0
brought_weight source (c ∷ changes) = rules_weight source c.by + brought_weight source changes

-- the weight of the rules that a step takes: of a cut its rule, which stands twice here
abbrev pub taken_weight : List ℕ → Step → RuleParts → RuleParts → ℕ
taken_weight source (CutDecl n i) r q = rule_weight source r
taken_weight source (CutSel n i) r q = rule_weight source r
taken_weight source (JoinSelUp x y) upper lower = rule_weight source upper + rule_weight source lower
taken_weight source (JoinSelDown x y) upper lower = rule_weight source upper + rule_weight source lower
taken_weight source (JoinDeclUp x y) upper lower = rule_weight source upper + rule_weight source lower
taken_weight source (JoinDeclDown x y) upper lower = rule_weight source upper + rule_weight source lower
taken_weight source (Share x y) upper lower = rule_weight source upper + rule_weight source lower

-- A step makes the sheet so much shorter or longer as the rules that it takes weigh more or less than
-- those that it puts in.
abbrev pub StepsWeigh : Type 0
StepsWeigh = (source : List ℕ) (items : List Item) (k : Step) (e : Edit) → IsStep items k e → IsSound source items →
    (upper lower : RuleParts) → slice_get items (first_item k) ≡ Some (Rule upper) → slice_get items (last_item k) ≡ Some (Rule lower) →
    size source (edited e items) + taken_weight source k upper lower ≡ size source items + brought_weight source e.changes
