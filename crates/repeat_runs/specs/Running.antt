-- Which parts of a rule go in a run (own).
use Rattle.std.specs.Prelude.{◌≡◌, ◌⊎◌, ℕ, ◌+◌, ◌-◌, ◌<◌, Bool, List, [], ◌∷◌, Some, map, slice_get}
use Rattle.std.specs.List.{Contains}
use Rattle.css_model.specs.declared.sheet.Item.{Item}
use Rattle.css_model.specs.declared.sheet.Item.TheVariants.{Rule}
use Rattle.css_model.specs.Sheets.RuleParts.{RuleParts}
use Rattle.run_laws.specs.Marks.{count_above, count_of, goes, kept}
use Rattle.run_laws.specs.Runs.{AreKept, Descend, decl_marks, selector_marks, with_rule}

-- the marks of a rule, in which no later equal part weighs more
pub record AreMarks (source : List ℕ) (r : RuleParts) (decls selectors : List ℕ) : Type 0 where
  pub decls_are : decls ≡ decl_marks source r.decls
  pub selectors_are : selectors ≡ selector_marks source r.selectors
  pub descend : Descend source r

-- Of the parts with these marks as many go as may, those first that weigh most.
pub record IsChoice (decl_marks selector_marks : List ℕ) (most : ℕ) (decls selectors : List Bool) : Type 0 where
  pub least : ℕ
  pub count : ℕ
  pub some : 0 < least
  pub smallest : (least ≡ 1) ⊎ (most < count_above (least - 1) decl_marks + count_above (least - 1) selector_marks)
  pub all : count_above least decl_marks + count_above least selector_marks + count ≡ most
  pub decls_are : decls ≡ goes least count decl_marks
  pub selectors_are : selectors ≡ goes least (count - count_of least decl_marks) selector_marks

-- what is left of a rule
abbrev pub left_of : (decls selectors : List Bool) → RuleParts → RuleParts
left_of decls selectors r = record { selectors = kept selectors r.selectors; decls = kept decls r.decls }

-- these parts of the rule of this number go in a run
pub record IsRunOf (source : List ℕ) (items : List Item) (number most : ℕ) (decls selectors : List Bool) : Type 0 where
  pub rule : RuleParts
  pub rule_at : slice_get items number ≡ Some (Rule rule)
  pub descend : Descend source rule
  pub choice : IsChoice (decl_marks source rule.decls) (selector_marks source rule.selectors) most decls selectors

-- no two elements have the same part
abbrev pub IsOnce : {X Y : Type 0} → (X → Y) → List X → Type 0
IsOnce part [] = Unit {0}
IsOnce part (x ∷ xs) = (Contains (map part xs) (part x) → ⊥) × IsOnce part xs

-- a rule has each of its parts once
abbrev pub HasEachOnce : RuleParts → Type 0
HasEachOnce r = IsOnce (λ d. d.decl) r.decls × IsOnce (λ s. s.selector) r.selectors

-- In a sheet with one rule whose equal parts descend, as many repeats were cut as may, or all.
abbrev pub CutsAll : List ℕ → List Item → (most taken : ℕ) → List Item → Type 0
CutsAll source items most taken new = (before after : List Item) (r : RuleParts) → items ≡ with_rule before after r → AreKept before → AreKept after → Descend source r →
    (q : RuleParts) × (new ≡ with_rule before after q) × ((taken ≡ most) ⊎ HasEachOnce q)
