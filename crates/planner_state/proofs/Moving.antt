-- A pair that a step moves stands in an item that the step moves pairs out of.
use Rattle.std.proofs.Common.{◌≡◌, ◌⊎◌, ℕ, ◌==◌, true, false, List, [], ◌∷◌, Some, sym, ◌∙◌, subst, inl, inr}
use Rattle.std.specs.Prelude.{IsTrue, slice_get}
use Rattle.std.specs.List.{Contains}
use Rattle.std.proofs.lemmas.Bool.{false≢true, or_cases}
use Rattle.std.proofs.lemmas.Bool.Decides.{Decides-eqb}
use Rattle.css_model.specs.Cascade.Order.{Pair}
use Rattle.css_model.specs.declared.sheet.Decl.{Decl}
use Rattle.css_model.specs.declared.sheet.Item.{Item}
use Rattle.css_model.specs.declared.sheet.Item.TheVariants.{Rule}
use Rattle.css_model.specs.Sheets.RuleParts.{RuleParts}
use Rattle.css_model.specs.Sheets.StyleRule.{selectors_of}
use Rattle.order_laws.specs.Edits.{is_moved, Edit, StandsIn}
use Rattle.order_laws.specs.Members.{has_number}
use Rattle.order_laws.proofs.ForCallers.{decl_in}
use Rattle.planner_state.specs.Reactivating.{first_out, last_out}
use Rattle.step_laws.specs.declared.step.Step.{Step}
use Rattle.step_laws.specs.declared.step.Step.TheVariants.{CutDecl, CutSel, JoinSelUp, JoinSelDown, JoinDeclUp, JoinDeclDown, Share}
use Rattle.step_laws.specs.Left.{StepsRearrange}
use Rattle.step_laws.specs.Steps.{IsStep, decls_of}

one : (x n : ℕ) → IsTrue (has_number (x ∷ []) n) → n ≡ x
one x n h = which (or_cases (x == n) false h)
  where
    which : ((x == n) ≡ true) ⊎ (false ≡ true) → n ≡ x
    which (inl e) = sym ((Decides-eqb x n).0 e)
    which (inr e) = absurd (false≢true e)

two : (x y n : ℕ) → IsTrue (has_number (x ∷ y ∷ []) n) → (n ≡ x) ⊎ (n ≡ y)
two x y n h = which (or_cases (x == n) (has_number (y ∷ []) n) h)
  where
    which : ((x == n) ≡ true) ⊎ (has_number (y ∷ []) n ≡ true) → (n ≡ x) ⊎ (n ≡ y)
    which (inl e) = inl (sym ((Decides-eqb x n).0 e))
    which (inr e) = inr (one y n e)

abbrev IsOut : ℕ → ℕ → ℕ → Edit → Type 0
IsOut x y n d = IsTrue (has_number d.moved.out_of n) → (n ≡ x) ⊎ (n ≡ y)

out_is : (items : List Item) (k : Step) (e : Edit) (n : ℕ) → IsStep items k e → IsOut (first_out k) (last_out k) n e
out_is items (CutDecl x i) e n c = subst (IsOut x x n) (sym c.is) (λ h. inl (one x n h))
out_is items (CutSel x i) e n c = subst (IsOut x x n) (sym c.is) (λ h. inl (one x n h))
out_is items (JoinSelUp x y) e n j = subst (IsOut y y n) (sym j.is) (λ h. inl (one y n h))
out_is items (JoinSelDown x y) e n j = subst (IsOut x x n) (sym j.is) (λ h. inl (one x n h))
out_is items (JoinDeclUp x y) e n j = subst (IsOut y y n) (sym j.is) (λ h. inl (one y n h))
out_is items (JoinDeclDown x y) e n j = subst (IsOut x x n) (sym j.is) (λ h. inl (one x n h))
out_is items (Share x y) e n j = subst (IsOut x y n) (sym j.is) (λ h. two x y n h)

-- in a rule, one of these two
pub moved_from : StepsRearrange → (items : List Item) (k : Step) (e : Edit) → IsStep items k e → (p : Pair) → is_moved e.moved p ≡ true →
    (r : RuleParts) × ((slice_get items (first_out k) ≡ Some (Rule r)) ⊎ (slice_get items (last_out k) ≡ Some (Rule r))) × Contains (selectors_of r) p.selector × Contains (decls_of r) p.decl
moved_from rearrange items k e is p moved =
    let w : StandsIn e.moved.out_of items p = (rearrange items k e is).from p moved in (
      w.1.rule,
      which w.0.item w.1.rule w.1.rule_at (out_is items k e w.0.item is w.2),
      w.1.selector_in,
      subst (λ (x : Decl). Contains (decls_of w.1.rule) x) w.1.decl_is (decl_in w.1.rule.decls w.0.position w.1.decl w.1.decl_at),
    )
  where
    which : (n : ℕ) (r : RuleParts) → slice_get items n ≡ Some (Rule r) → (n ≡ first_out k) ⊎ (n ≡ last_out k) → (slice_get items (first_out k) ≡ Some (Rule r)) ⊎ (slice_get items (last_out k) ≡ Some (Rule r))
    which n r at (inl same) = inl (subst (λ (m : ℕ). slice_get items m ≡ Some (Rule r)) same at)
    which n r at (inr same) = inr (subst (λ (m : ℕ). slice_get items m ≡ Some (Rule r)) same at)

-- where both numbers are one, it is the rule there
pub at_one : (items : List Item) (r : RuleParts) (m n a b : ℕ) → a ≡ m → b ≡ n → a ≡ b → (slice_get items m ≡ Some (Rule r)) ⊎ (slice_get items n ≡ Some (Rule r)) → slice_get items a ≡ Some (Rule r)
at_one items r m n a b first last same (inl at) = subst (λ (k : ℕ). slice_get items k ≡ Some (Rule r)) (sym first) at
at_one items r m n a b first last same (inr at) = subst (λ (k : ℕ). slice_get items k ≡ Some (Rule r)) (sym (same ∙ last)) at

pub at_either : {C : Type 0} (items : List Item) (r : RuleParts) (m n a b : ℕ) → a ≡ m → b ≡ n → (slice_get items a ≡ Some (Rule r) → C) → (slice_get items b ≡ Some (Rule r) → C) →
    (slice_get items m ≡ Some (Rule r)) ⊎ (slice_get items n ≡ Some (Rule r)) → C
at_either items r m n a b first last here there (inl at) = here (subst (λ (k : ℕ). slice_get items k ≡ Some (Rule r)) (sym first) at)
at_either items r m n a b first last here there (inr at) = there (subst (λ (k : ℕ). slice_get items k ≡ Some (Rule r)) (sym last) at)

-- of one number there is one rule
pub same_rule : (items : List Item) (n : ℕ) (r q : RuleParts) → slice_get items n ≡ Some (Rule r) → slice_get items n ≡ Some (Rule q) → r ≡ q
same_rule items n r q at at' = cc
