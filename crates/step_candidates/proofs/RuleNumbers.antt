-- Rules by their numbers.
use Rattle.std.proofs.Common.{◌≡◌, ◌↔◌, ℕ, zero, suc, ◌+◌, ◌<◌, List, Option, Some, None, length, sym, ap, subst, ◌∙◌, arith}
use Rattle.std.specs.Prelude.{slice_get}
use Rattle.std.specs.List.{Contains, range_with_len}
use Rattle.std.proofs.lemmas.List.FromFn.{length-range_with_len}
use Rattle.std.proofs.lemmas.Option.{slice_get_within}
use Rattle.css_model.specs.declared.sheet.Item.{Item}
use Rattle.css_model.specs.declared.sheet.Item.TheVariants.{Rule}
use Rattle.css_model.specs.Sheets.RuleParts.{RuleParts}
use Rattle.cascade_laws.proofs.ForCallers.{some-same}
use Rattle.rule_tables.specs.Cutting.{AreTold}
use Rattle.rule_tables.specs.StepPartners.{OrderKeyedRulesStand, RulesAreOrderKeyed}
use Rattle.rule_tables.specs.Tables.{with_order_key}
use Rattle.step_candidates.specs.Numbered.{numbered, numbers}

-- ---- Numbers

number_from : (a n i x : ℕ) → slice_get (range_with_len a n) i ≡ Some x → x ≡ a + i
number_from a zero i x at = absurd (let e : None ≡ Some x = at in cc)
number_from a (suc n) zero x at = let e : a ≡ x = some-same at in omega (arith, e)
number_from a (suc n) (suc i) x at = let ih : x ≡ (a + 1) + i = number_from (a + 1) n i x at in omega (arith, ih)

there_from : (a n i : ℕ) → i < n → slice_get (range_with_len a n) i ≡ Some (a + i)
there_from a zero i less = absurd (omega (arith, less))
there_from a (suc n) zero less = ap (λ (x : ℕ). Some x) (let e : a ≡ a + 0 = omega arith in e)
there_from a (suc n) (suc i) less = there_from (a + 1) n i (omega (arith, less)) ∙ ap (λ (x : ℕ). Some x) (let e : (a + 1) + i ≡ a + suc i = omega arith in e)

number_is : (items : List Item) (i x : ℕ) → slice_get (numbers items) i ≡ Some x → x ≡ i
number_is items i x at = let e : x ≡ 0 + i = number_from 0 (length items) i x at in omega (arith, e)

pub number_there : (items : List Item) (i : ℕ) (item : Item) → slice_get items i ≡ Some item → slice_get (numbers items) i ≡ Some i
number_there items i item at = there_from 0 (length items) i (slice_get_within items i item at) ∙ ap (λ (x : ℕ). Some x) (let e : 0 + i ≡ i = omega arith in e)

pub told : (items : List Item) → AreTold items (numbers items)
told items = record {
  beside = length-range_with_len 0 (length items);
  once = λ i j order_key at at'. sym (number_is items i order_key at) ∙ number_is items j order_key at';
}

-- ---- A number has one rule

module _ (stand : OrderKeyedRulesStand) (are_order_keyed : RulesAreOrderKeyed) (items : List Item) (order_key : ℕ) where
  at_number : (r : RuleParts) → Contains (numbered items) (with_order_key r order_key) → slice_get items order_key ≡ Some (Rule r)
  at_number r h =
      let w : (n : ℕ) × (slice_get items n ≡ Some (Rule r)) × (slice_get (numbers items) n ≡ Some order_key) = stand items (numbers items) r order_key h in
      ap (slice_get items) (number_is items w.0 order_key w.2) ∙ w.1

  pub the_rule : (q : RuleParts) → slice_get items order_key ≡ Some (Rule q) → (r : RuleParts) → Contains (numbered items) (with_order_key r order_key) ↔ (r ≡ q)
  the_rule q at r = (
    λ h. same (slice_get items order_key) (at_number r h) at,
    λ e. subst (λ (p : RuleParts). Contains (numbered items) (with_order_key p order_key)) (sym e) (are_order_keyed items (numbers items) order_key q order_key at (number_there items order_key (Rule q) at)),
  )
    where
      same : (o : Option Item) → o ≡ Some (Rule r) → o ≡ Some (Rule q) → r ≡ q
      same o e f = cc

  pub no_rule : ((r : RuleParts) → slice_get items order_key ≡ Some (Rule r) → ⊥) → (r : RuleParts) → Contains (numbered items) (with_order_key r order_key) → ⊥
  no_rule none r h = none r (at_number r h)
