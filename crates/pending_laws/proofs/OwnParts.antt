-- Parts that no other rule has, behind a step.
use Rattle.std.proofs.Common.{◌≡◌, ◌≢◌, ◌⊎◌, ℕ, ◌<◌, List, length, Some, sym, ap, ◌∙◌, subst, inl, inr}
use Rattle.std.specs.Prelude.{slice_get}
use Rattle.std.specs.List.{Contains}
use Rattle.cascade_laws.proofs.ForCallers.{rule-same}
use Rattle.css_model.specs.declared.sheet.Item.{Item}
use Rattle.css_model.specs.declared.sheet.Item.TheVariants.{Rule}
use Rattle.css_model.specs.Sheets.RuleParts.{RuleParts}
use Rattle.css_model.specs.Sheets.StyleRule.{selectors_of}
use Rattle.pending_laws.proofs.Been.{stood}
use Rattle.pending_laws.proofs.Joined.{is_made, was_other}
use Rattle.pending_laws.proofs.JoinKinds.{AJoin, a_join}
use Rattle.pending_laws.proofs.MadeParts.{IsMadeOfBoth, IsOf, StepInParts, step_in_parts}
use Rattle.pending_laws.proofs.Standing.{WasLeft, WasPutIn, has_come, standing}
use Rattle.pending_laws.specs.declared.way.Way.{Way}
use Rattle.pending_laws.specs.Facts.{HasOwnDecls, HasOwnSelectors}
use Rattle.pending_laws.specs.Ways.{IsMove}
use Rattle.order_laws.specs.Edits.{Change, Edit, edited}
use Rattle.step_laws.specs.declared.step.Step.{Step}
use Rattle.step_laws.specs.Steps.{IsStep, decls_of, first_item, last_item}
use Rattle.plan_laws.specs.Barrier.Renumbering.{ItemsStay, Leaves, new_number}
use Rattle.plan_laws.specs.Barrier.SideBySide.{HasCome}

-- no other rule has one of these parts
abbrev HasOwn : {X : Type 0} → (RuleParts → List X) → List Item → ℕ → Type 0
HasOwn {X} parts items n = (m : ℕ) (r q : RuleParts) (x : X) → m ≢ n → slice_get items n ≡ Some (Rule r) → slice_get items m ≡ Some (Rule q) → Contains (parts r) x → Contains (parts q) x → ⊥

-- each rule that a step puts in has parts of this kind of its two rules
abbrev PutsIn : {X : Type 0} → (RuleParts → List X) → Edit → RuleParts → RuleParts → Type 0
PutsIn {X} parts d u l = (c : Change) (k : ℕ) (q : RuleParts) → Contains d.changes c → slice_get c.by k ≡ Some (Rule q) → IsOf parts u l q

puts_selectors_in : (items : List Item) (j : Step) (d : Edit) → (w : StepInParts items j d) → PutsIn selectors_of d w.upper w.lower
puts_selectors_in items j d w c k q inside at =
    let p : (r : RuleParts) × (Rule q ≡ Rule r) × IsMadeOfBoth w.upper w.lower r = w.puts_in c k (Rule q) inside at in
    subst (IsOf selectors_of w.upper w.lower) (sym (rule-same p.1)) p.2.0

puts_decls_in : (items : List Item) (j : Step) (d : Edit) → (w : StepInParts items j d) → PutsIn decls_of d w.upper w.lower
puts_decls_in items j d w c k q inside at =
    let p : (r : RuleParts) × (Rule q ≡ Rule r) × IsMadeOfBoth w.upper w.lower r = w.puts_in c k (Rule q) inside at in
    subst (IsOf decls_of w.upper w.lower) (sym (rule-same p.1)) p.2.1

-- ---- Of a rule that the step left

own_stay : {X : Type 0} (parts : RuleParts → List X) → ItemsStay → (items : List Item) (j : Step) (d : Edit) → (w : StepInParts items j d) → PutsIn parts d w.upper w.lower → (n : ℕ) → Leaves d n → n < length items →
    HasOwn parts items n → HasOwn parts (edited d items) (new_number d items n)
own_stay {X} parts stay items j d w puts_in n leaves less own m r q x apart r_at q_at in_r in_q = which (standing d.changes 0 items m (Rule q) q_at)
  where
    there : slice_get items n ≡ Some (Rule r)
    there = stood stay d items n (Rule r) leaves less r_at

    of_step : Contains (parts w.upper) x ⊎ Contains (parts w.lower) x → ⊥
    of_step (inl h) = own (first_item j) r w.upper x (w.leaves n leaves).0 there w.upper_at in_r h
    of_step (inr h) = own (last_item j) r w.lower x (w.leaves n leaves).1 there w.lower_at in_r h

    which : WasLeft d.changes 0 items m (Rule q) ⊎ WasPutIn d.changes 0 items m (Rule q) → ⊥
    which (inl v) = own v.number r q x (λ e. apart (sym v.is ∙ ap (new_number d items) e)) there v.at in_r in_q
    which (inr v) = of_step (puts_in v.change v.place q v.inside v.at x in_q)

pub own_parts_stay : ItemsStay → (items : List Item) (j : Step) (d : Edit) → IsStep items j d → (n : ℕ) → Leaves d n → n < length items →
    (HasOwnSelectors items n → HasOwnSelectors (edited d items) (new_number d items n)) × (HasOwnDecls items n → HasOwnDecls (edited d items) (new_number d items n))
own_parts_stay stay items j d is n leaves less =
    let w : StepInParts items j d = step_in_parts items j d is in
    (own_stay selectors_of stay items j d w (puts_selectors_in items j d w) n leaves less, own_stay decls_of stay items j d w (puts_decls_in items j d w) n leaves less)

-- ---- Of a rule that a join made

module _ (items : List Item) (j : Step) (d : Edit) (is : IsStep items j d) (way : Way) (move : IsMove way j) (n : ℕ) (not_come : HasCome d items n → ⊥) where
  own_joined : {X : Type 0} (parts : RuleParts → List X) → ((w : StepInParts items j d) → PutsIn parts d w.upper w.lower) →
      HasOwn parts items (first_item j) → HasOwn parts items (last_item j) → HasOwn parts (edited d items) n
  own_joined {X} parts put first last m r q x apart r_at q_at in_r in_q = which (standing d.changes 0 items n (Rule r) r_at)
    where
      w : StepInParts items j d
      w = step_in_parts items j d is

      v : AJoin items j d
      v = a_join items j d way is move

      n_is : n ≡ new_number d items v.place
      n_is = (is_made items d v.upper v.lower v.made (first_item j) (last_item j) v.place v.joined n (Rule r) r_at not_come).1

      other : (i : ℕ) × (first_item j ≢ i) × (last_item j ≢ i) × (slice_get items i ≡ Some (Rule q))
      other = was_other items d v.upper v.lower v.made (first_item j) (last_item j) v.place v.joined m (Rule q) q_at (λ e. apart (e ∙ sym n_is))

      of_step : Contains (parts w.upper) x ⊎ Contains (parts w.lower) x → ⊥
      of_step (inl h) = first other.0 w.upper q x (λ e. other.1 (sym e)) w.upper_at other.3 h in_q
      of_step (inr h) = last other.0 w.lower q x (λ e. other.2 (sym e)) w.lower_at other.3 h in_q

      which : WasLeft d.changes 0 items n (Rule r) ⊎ WasPutIn d.changes 0 items n (Rule r) → ⊥
      which (inl come) = not_come (has_come d items n (Rule r) come)
      which (inr made) = of_step (put w made.change made.place r made.inside made.at x in_r)

  pub joined_has_own_parts : (HasOwnSelectors items (first_item j) → HasOwnSelectors items (last_item j) → HasOwnSelectors (edited d items) n)
      × (HasOwnDecls items (first_item j) → HasOwnDecls items (last_item j) → HasOwnDecls (edited d items) n)
  joined_has_own_parts = (own_joined selectors_of (puts_selectors_in items j d), own_joined decls_of (puts_decls_in items j d))
