-- Rules by their order keys, and when parts of them can be cut.
use Rattle.std.proofs.Common.{◌≡◌, ◌↔◌, ℕ, List, Option, Some, sym, ap, subst, ◌∙◌}
use Rattle.std.specs.Prelude.{slice_get}
use Rattle.std.specs.List.{Contains}
use Rattle.css_model.specs.declared.sheet.Item.{Item}
use Rattle.css_model.specs.declared.sheet.Item.TheVariants.{Rule}
use Rattle.css_model.specs.Sheets.RuleParts.{RuleParts}
use Rattle.indexed_sheet.specs.IndexedParts.{IndexedParts}
use Rattle.indexed_sheet.specs.declared.marks.Mark.{Mark}
use Rattle.indexed_sheet.specs.MarkList.{AreMarks, IsOrderKeyAt, LacksOrderKey}
use Rattle.rule_tables.specs.StepPartners.{OrderKeyedRulesStand, RulesAreOrderKeyed}
use Rattle.rule_tables.specs.Tables.{with_order_key}
use Rattle.indexed_sheet.specs.MarkList.{order_keys_of}
use Rattle.next_step.specs.Marked.{rules_of}
use Rattle.next_step.proofs.Telling.{mark_of, same_order_key, there_of}

-- ---- An order key has one rule

module _ (stand : OrderKeyedRulesStand) (are_order_keyed : RulesAreOrderKeyed) (indexed : IndexedParts) (next : ℕ) (are : AreMarks indexed.marks next) (order_key : ℕ) where
  at_number : (n : ℕ) → IsOrderKeyAt indexed.marks order_key n → (r : RuleParts) → Contains (rules_of indexed) (with_order_key r order_key) → slice_get indexed.items n ≡ Some (Rule r)
  at_number n (m, at, is) r h =
      let w : (i : ℕ) × (slice_get indexed.items i ≡ Some (Rule r)) × (slice_get (order_keys_of indexed.marks) i ≡ Some order_key) = stand indexed.items (order_keys_of indexed.marks) r order_key h in
      let a : (z : Mark) × (slice_get indexed.marks w.0 ≡ Some z) × (z.order_key ≡ order_key) = mark_of (λ x. x.order_key) indexed.marks w.0 order_key w.2 in
      ap (slice_get indexed.items) (sym (same_order_key indexed.marks next are w.0 n a.0 m a.1 at (a.2 ∙ sym is))) ∙ w.1

  pub the_rule : (n : ℕ) → IsOrderKeyAt indexed.marks order_key n → (q : RuleParts) → slice_get indexed.items n ≡ Some (Rule q) → (r : RuleParts) → Contains (rules_of indexed) (with_order_key r order_key) ↔ (r ≡ q)
  the_rule n at q rule_at r = (
    λ h. same (slice_get indexed.items n) (at_number n at r h) rule_at,
    λ e. subst (λ (p : RuleParts). Contains (rules_of indexed) (with_order_key p order_key)) (sym e)
        (are_order_keyed indexed.items (order_keys_of indexed.marks) n q order_key rule_at (there_of (λ x. x.order_key) indexed.marks n at.0 at.1 ∙ ap (λ (x : ℕ). Some x) at.2)),
  )
    where
      same : (o : Option Item) → o ≡ Some (Rule r) → o ≡ Some (Rule q) → r ≡ q
      same o e f = cc

  pub no_rule : (n : ℕ) → IsOrderKeyAt indexed.marks order_key n → ((r : RuleParts) → slice_get indexed.items n ≡ Some (Rule r) → ⊥) → (r : RuleParts) → Contains (rules_of indexed) (with_order_key r order_key) → ⊥
  no_rule n at none r h = none r (at_number n at r h)

  pub no_order_key : LacksOrderKey indexed.marks order_key → (r : RuleParts) → Contains (rules_of indexed) (with_order_key r order_key) → ⊥
  no_order_key lacks r h =
      let w : (i : ℕ) × (slice_get indexed.items i ≡ Some (Rule r)) × (slice_get (order_keys_of indexed.marks) i ≡ Some order_key) = stand indexed.items (order_keys_of indexed.marks) r order_key h in
      let a : (z : Mark) × (slice_get indexed.marks w.0 ≡ Some z) × (z.order_key ≡ order_key) = mark_of (λ x. x.order_key) indexed.marks w.0 order_key w.2 in
      lacks w.0 a.0 a.1 a.2

pub one_rule : (items : List Item) (n : ℕ) (r q : RuleParts) → slice_get items n ≡ Some (Rule r) → slice_get items n ≡ Some (Rule q) → r ≡ q
one_rule items n r q a b = cc
