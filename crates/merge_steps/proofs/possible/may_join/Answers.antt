use Rattle.std.proofs.Common.{◌≡◌, ◌↔◌, ◌⊎◌, ℕ, Bool, true, List, sym, subst, inl, inr}
use Rattle.std.proofs.lemmas.Result.{IfOk-weaker}
use Rattle.css_model.specs.declared.sheet.Item.{Item}
use Rattle.css_model.specs.Sheets.RuleParts.{RuleParts}
use Rattle.css_model.specs.Sheets.StyleRule.{HaveSameSelectors}
use Rattle.merge_steps.proofs.possible.may_join.Goals as goal
use Rattle.merge_steps.specs.StepParts.{MayJoin}
use Rattle.step_laws.specs.declared.step.Step.{Step}
use Rattle.step_laws.specs.declared.step.Step.TheVariants.{JoinSelUp, JoinSelDown}
use Rattle.step_laws.specs.Steps.{MayShare}

by_kind : (items : List Item) (k : Step) (u l : RuleParts) (b : Bool) → ((x : ℕ) × (y : ℕ) × (k ≡ JoinSelUp x y)) ⊎ ((x : ℕ) × (y : ℕ) × (k ≡ JoinSelDown x y)) →
    (b ≡ true) ↔ HaveSameSelectors u l → (b ≡ true) ↔ MayJoin items k u l
by_kind items k u l b (inl (x, y, is)) same = subst (λ (k : Step). (b ≡ true) ↔ MayJoin items k u l) (sym is) same
by_kind items k u l b (inr (x, y, is)) same = subst (λ (k : Step). (b ≡ true) ↔ MayJoin items k u l) (sym is) same

pub returns-in-JoinSelUp : goal.returns-in-JoinSelUp
returns-in-JoinSelUp c =
    IfOk-weaker c.have_same_selectors.result (λ same. (same ≡ true) ↔ HaveSameSelectors c.args.upper.now c.args.lower.now) _
    (λ same exact. by_kind c.args.items.now c.args.step.now c.args.upper.now c.args.lower.now same c.in-JoinSelUp.is exact) c.have_same_selectors.ensures

pub returns-in-Share : goal.returns-in-Share
returns-in-Share c =
    IfOk-weaker c.may_share.result (λ may. (may ≡ true) ↔ MayShare c.args.items.now c.args.upper.now c.args.lower.now) _
    (λ may exact. subst (λ (k : Step). (may ≡ true) ↔ MayJoin c.args.items.now k c.args.upper.now c.args.lower.now) (sym c.in-Share.is) exact) c.may_share.ensures
