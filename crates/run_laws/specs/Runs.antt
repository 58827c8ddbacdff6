-- Runs of cuts in the one rule of a sheet (own).
use Rattle.std.specs.Prelude.{◌≡◌, ℕ, ◌+◌, ◌-◌, ◌<◌, ◌≤◌, true, List, ◌∷◌, ◌++◌, length}
use Rattle.std.specs.List.{AllByRecursion}
use Rattle.css_model.specs.declared.sheet.DeclItem.{DeclItem}
use Rattle.css_model.specs.declared.sheet.Item.{Item}
use Rattle.css_model.specs.declared.sheet.Item.TheVariants.{Rule}
use Rattle.css_model.specs.declared.sheet.SelItem.{SelItem}
use Rattle.css_model.specs.Sheets.KeptItems.{is_kept}
use Rattle.css_model.specs.Sheets.Limits.{max_items}
use Rattle.css_model.specs.Sheets.Printed.{printed_declaration, printed_selector}
use Rattle.css_model.specs.Sheets.RuleParts.{RuleParts}
use Rattle.css_model.specs.Sheets.Sound.{IsSound}
use Rattle.order_laws.specs.Members.{has_decl, has_selector}
use Rattle.run_laws.specs.Marks.{Descends, count_of, goes, kept, marks}
use Rattle.step_laws.specs.Free.{Answered}
use Rattle.step_laws.specs.Leading.{Leads}

-- what the cut of a part saves: its printed text and the sign behind it
abbrev pub decl_weight : List ℕ → DeclItem → ℕ
decl_weight source d = length (printed_declaration source d) + 1

abbrev pub selector_weight : List ℕ → SelItem → ℕ
selector_weight source s = length (printed_selector source s) + 1

-- the marks of the parts of a rule
abbrev pub decl_marks : List ℕ → List DeclItem → List ℕ
decl_marks source decls = marks (λ d later. has_decl later d.decl) (decl_weight source) decls

abbrev pub selector_marks : List ℕ → List SelItem → List ℕ
selector_marks source selectors = marks (λ s later. has_selector later s.selector) (selector_weight source) selectors

-- What a run leaves of a rule: repeats that weigh more than `least` go, and of those that weigh so much the first `count`,
-- declarations before selectors.
abbrev pub after_run : List ℕ → (least count : ℕ) → RuleParts → RuleParts
after_run source least count r = record {
  selectors = kept (goes least (count - count_of least (decl_marks source r.decls)) (selector_marks source r.selectors)) r.selectors;
  decls = kept (goes least count (decl_marks source r.decls)) r.decls;
}

-- how many parts a rule has
abbrev pub parts : RuleParts → ℕ
parts r = length r.selectors + length r.decls

-- the items with a rule between
abbrev pub with_rule : (before after : List Item) → RuleParts → List Item
with_rule before after r = before ++ (Rule r ∷ after)

-- no item is a rule
abbrev pub AreKept : List Item → Type 0
AreKept items = AllByRecursion (λ x. is_kept x ≡ true) items

-- no part that is again later weighs less than the later one
abbrev pub Descend : List ℕ → RuleParts → Type 0
Descend source r = Descends (λ d. d.decl) (decl_weight source) r.decls × Descends (λ s. s.selector) (selector_weight source) r.selectors

-- A run in the one rule of a sheet leads there by steps of which each is the next: as many as parts go.
abbrev pub RunsLead : Type 0
RunsLead = (answers : List Answered) (source : List ℕ) (before after : List Item) (r : RuleParts) (least count : ℕ) →
    IsSound source (with_rule before after r) → length (with_rule before after r) ≤ max_items → AreKept before → AreKept after → Descend source r → 0 < least →
    (steps : ℕ) × (steps + parts (after_run source least count r) ≡ parts r) × Leads answers source steps (with_rule before after r) (with_rule before after (after_run source least count r))
