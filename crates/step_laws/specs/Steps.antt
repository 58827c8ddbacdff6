-- Which steps a sheet has, and their order.
use Rattle.std.specs.Prelude.{◌≡◌, ◌≢◌, ◌⊎◌, ℕ, ◌<◌, true, List, [], ◌∷◌, map, length, Some, slice_get}
use Rattle.std.specs.List.{Contains}
use Rattle.css_model.specs.Cascade.Order.{Pair, HasPair}
use Rattle.css_model.specs.Cascade.Winner.{exceeds}
use Rattle.css_model.specs.declared.sheet.Decl.{Decl}
use Rattle.css_model.specs.declared.sheet.Item.{Item}
use Rattle.css_model.specs.declared.sheet.Item.TheVariants.{Rule}
use Rattle.css_model.specs.Sheets.Limits.{max_items}
use Rattle.css_model.specs.Sheets.RuleParts.{RuleParts}
use Rattle.css_model.specs.Sheets.StyleRule.{HaveSameSelectors}
use Rattle.order_laws.specs.Edits.{Edit, edited}
use Rattle.step_laws.specs.declared.step.Step.{Step}
use Rattle.step_laws.specs.declared.step.Step.TheVariants.{CutDecl, CutSel, JoinSelUp, JoinSelDown, JoinDeclUp, JoinDeclDown, Share}
use Rattle.step_laws.specs.StepEdits.{AreRules, cut_decl, cut_selector, join_selectors_up, join_selectors_down, join_decls_up, join_decls_down, share}

-- the declarations of a rule, in order
abbrev pub decls_of : RuleParts → List Decl
decls_of r = map (λ d. d.decl) r.decls

-- two rules have the same list of declarations
abbrev pub HaveSameDecls : RuleParts → RuleParts → Type 0
HaveSameDecls upper lower = decls_of upper ≡ decls_of lower

-- each declaration of one rule stands in another one
abbrev pub AreDeclsAmong : RuleParts → RuleParts → Type 0
AreDeclsAmong r q = (d : Decl) → Contains (decls_of r) d → Contains (decls_of q) d

-- Two rules may share: they have a declaration in common and differ in both respects, and one of them has
-- common declarations alone, or there is room for one more item.
pub record MayShare (items : List Item) (upper lower : RuleParts) : Type 0 where
  pub common : (d : Decl) × Contains (decls_of upper) d × Contains (decls_of lower) d
  pub other_decls : HaveSameDecls upper lower → ⊥
  pub other_selectors : HaveSameSelectors upper lower → ⊥
  pub room : AreDeclsAmong upper lower ⊎ AreDeclsAmong lower upper ⊎ (length items < max_items)

-- A cut of part `i` of the rule of number `n`, which has so many such parts: no pair of the sheet goes
-- by its edit.
pub record IsCut (items : List Item) (n i : ℕ) (count : RuleParts → ℕ) (edit : RuleParts → Edit) (e : Edit) : Type 0 where
  pub rule : RuleParts
  pub rule_at : slice_get items n ≡ Some (Rule rule)
  pub part : i < count rule
  pub no_pair_goes : (p : Pair) → HasPair items p → HasPair (edited (edit rule) items) p
  pub is : e ≡ edit rule

-- A step of the rules of numbers `x` and `y`, the first one above, where they may be joined so: its edit
-- of them.
pub record IsJoin (items : List Item) (x y : ℕ) (May : RuleParts → RuleParts → Type 0) (edit : RuleParts → RuleParts → Edit) (e : Edit) : Type 0 where
  pub upper : RuleParts
  pub lower : RuleParts
  pub rules : AreRules items x y upper lower
  pub may : May upper lower
  pub is : e ≡ edit upper lower

-- The step is one of the sheet, and it is this edit: for each kind which rules it takes, and what it does
-- to them.
abbrev pub IsStep : List Item → Step → Edit → Type 0
IsStep items (CutDecl n i) e = IsCut items n i (λ r. length r.decls) (cut_decl n i) e
IsStep items (CutSel n i) e = IsCut items n i (λ r. length r.selectors) (cut_selector n i) e
IsStep items (JoinSelUp x y) e = IsJoin items x y HaveSameSelectors (join_selectors_up x y) e
IsStep items (JoinSelDown x y) e = IsJoin items x y HaveSameSelectors (join_selectors_down x y) e
IsStep items (JoinDeclUp x y) e = IsJoin items x y HaveSameDecls (join_decls_up x y) e
IsStep items (JoinDeclDown x y) e = IsJoin items x y HaveSameDecls (join_decls_down x y) e
IsStep items (Share x y) e = IsJoin items x y (MayShare items) (share x y) e

-- the edit that a step of this kind is, of an upper and a lower rule; of a cut the first one counts
abbrev pub edit_of : Step → RuleParts → RuleParts → Edit
edit_of (CutDecl n i) r q = cut_decl n i r
edit_of (CutSel n i) r q = cut_selector n i r
edit_of (JoinSelUp x y) upper lower = join_selectors_up x y upper lower
edit_of (JoinSelDown x y) upper lower = join_selectors_down x y upper lower
edit_of (JoinDeclUp x y) upper lower = join_decls_up x y upper lower
edit_of (JoinDeclDown x y) upper lower = join_decls_down x y upper lower
edit_of (Share x y) upper lower = share x y upper lower

-- the numbers of its first and its last item; of a cut both are its rule's
abbrev pub first_item : Step → ℕ
first_item (CutDecl n i) = n
first_item (CutSel n i) = n
first_item (JoinSelUp x y) = x
first_item (JoinSelDown x y) = x
first_item (JoinDeclUp x y) = x
first_item (JoinDeclDown x y) = x
first_item (Share x y) = x

abbrev pub last_item : Step → ℕ
last_item (CutDecl n i) = n
last_item (CutSel n i) = n
last_item (JoinSelUp x y) = y
last_item (JoinSelDown x y) = y
last_item (JoinDeclUp x y) = y
last_item (JoinDeclDown x y) = y
last_item (Share x y) = y

-- a step is one of the sheet
abbrev pub HasStep : List Item → Step → Type 0
HasStep items k = (e : Edit) × IsStep items k e

-- The numbers by which steps ascend, the first that differs deciding: of the kind, and of what the step
-- takes.
abbrev pub rank : Step → List ℕ
rank (CutDecl n i) = 0 ∷ n ∷ i ∷ []
rank (CutSel n i) = 1 ∷ n ∷ i ∷ []
rank (JoinSelUp x y) = 2 ∷ x ∷ y ∷ []
rank (JoinSelDown x y) = 3 ∷ x ∷ y ∷ []
rank (JoinDeclUp x y) = 4 ∷ x ∷ y ∷ []
rank (JoinDeclDown x y) = 5 ∷ x ∷ y ∷ []
rank (Share x y) = 6 ∷ x ∷ y ∷ []

-- one step stands before another
abbrev pub StandsBefore : Step → Step → Type 0
StandsBefore j k = exceeds (rank k) (rank j) ≡ true
