-- A sheet with one rule.
use Rattle.std.proofs.Common.{◌≡◌, ℕ, zero, suc, true, List, [], ◌∷◌, ◌++◌, length, Some, None, refl, sym, ap, subst}
use Rattle.std.specs.Prelude.{slice_get}
use Rattle.std.proofs.lemmas.Bool.{false≢true}
use Rattle.cascade_laws.proofs.ForCallers.{rule-same, some-same}
use Rattle.css_model.specs.declared.sheet.Item.{Item}
use Rattle.css_model.specs.declared.sheet.Item.TheVariants.{Rule}
use Rattle.css_model.specs.Sheets.KeptItems.{is_kept}
use Rattle.css_model.specs.Sheets.RuleParts.{RuleParts}
use Rattle.run_laws.specs.Runs.{AreKept, with_rule}

pub no_rule : (items : List Item) → AreKept items → (m : ℕ) (q : RuleParts) → slice_get items m ≡ Some (Rule q) → ⊥
no_rule [] kept m q at = let e : None ≡ Some (Rule q) = at in cc
no_rule (x ∷ items) kept zero q at = false≢true (subst (λ (z : Item). is_kept z ≡ true) (some-same at) kept.0)
no_rule (x ∷ items) kept (suc m) q at = no_rule items kept.1 m q at

pub only_rule : (before after : List Item) (r : RuleParts) → AreKept before → AreKept after → (m : ℕ) (q : RuleParts) → slice_get (with_rule before after r) m ≡ Some (Rule q) → (m ≡ length before) × (q ≡ r)
only_rule [] after r kept_before kept_after zero q at = (refl, sym (rule-same (some-same at)))
only_rule [] after r kept_before kept_after (suc m) q at = absurd (no_rule after kept_after m q at)
only_rule (x ∷ before) after r kept_before kept_after zero q at = absurd (no_rule (x ∷ before) kept_before zero q at)
only_rule (x ∷ before) after r kept_before kept_after (suc m) q at = let w = only_rule before after r kept_before.1 kept_after m q at in (ap suc w.0, w.1)

pub both_kept : (before after : List Item) → AreKept before → AreKept after → AreKept (before ++ after)
both_kept [] after kept_before kept_after = kept_after
both_kept (x ∷ before) after kept_before kept_after = (kept_before.0, both_kept before after kept_before.1 kept_after)
