-- What a step leaves of a rule, by its parts where they stand.
use Rattle.std.proofs.Common.{◌≡◌, ℕ, zero, suc, ◌+◌, ◌-◌, Bool, true, false, cond, not, List, [], ◌∷◌, ◌++◌, length, take, drop, Some, refl, sym, ap, ◌∙◌, arith}
use Rattle.std.specs.Prelude.{slice_get}
use Rattle.std.specs.List.{Contains, filter, remove}
use Rattle.std.proofs.lemmas.List.{take_rest}
use Rattle.css_model.specs.declared.sheet.DeclItem.{DeclItem}
use Rattle.css_model.specs.declared.sheet.Item.{Item}
use Rattle.css_model.specs.declared.sheet.Item.TheVariants.{Rule}
use Rattle.css_model.specs.Sheets.RuleParts.{RuleParts}
use Rattle.list_facts.proofs.Members.{Contains-here, Contains-there}
use Rattle.order_laws.proofs.ForCallers.{has_decl_is, map_has}
use Rattle.order_laws.specs.Edits.{Edit}
use Rattle.order_laws.specs.Members.{has_decl}
use Rattle.step_laws.proofs.ForCallers.{in_common, is_common}
use Rattle.step_laws.specs.declared.step.Step.{Step}
use Rattle.step_laws.specs.RuleParting.{common_decls, rule_or_none, without_decls}
use Rattle.step_laws.specs.Steps.{IsStep, edit_of, first_item, last_item}
use Rattle.step_savings.proofs.ForCallers.{edit_is}
use Rattle.plan_laws.specs.Window.StepWindows.{first_left, last_left}

-- ---- Lists

removed : {X : Type 0} (xs : List X) (n : ℕ) → take n xs ++ drop (suc n) xs ≡ remove xs n
removed {X} [] zero = refl
removed {X} [] (suc n) = refl
removed {X} (x ∷ xs) zero = refl
removed {X} (x ∷ xs) (suc n) = ap (λ (ys : List X). x ∷ ys) (removed xs n)

-- what stands before a number and behind it
pub parts_removed : {X : Type 0} (xs : List X) (n : ℕ) → take n xs ++ take (length xs - (n + 1)) (drop (n + 1) xs) ≡ remove xs n
parts_removed {X} xs n =
    let e : n + 1 ≡ suc n = omega arith in
    ap (λ (ys : List X). take n xs ++ ys) (take_rest xs (n + 1) ∙ ap (λ (k : ℕ). drop k xs) e) ∙ removed xs n

-- tests that agree on the elements of a list
filter_alike : {X : Type 0} (p q : X → Bool) (xs : List X) → ((x : X) → Contains xs x → p x ≡ q x) → filter p xs ≡ filter q xs
filter_alike {X} p q [] same = refl
filter_alike {X} p q (x ∷ xs) same =
    ap (λ (b : Bool). cond b (x ∷ filter p xs) (filter p xs)) (same x (Contains-here x xs))
    ∙ ap (λ (ys : List X). cond (q x) (x ∷ ys) ys) (filter_alike p q xs (λ y inside. same y (Contains-there x xs y inside)))

-- ---- What a share leaves

alike : (a b : Bool) → (a ≡ true → b ≡ true) → (b ≡ true → a ≡ true) → a ≡ b
alike true b f g = sym (f refl)
alike false true f g = g refl
alike false false f g = refl

-- of a rule, what is not common is what does not stand in the other one
without_upper : (u l : RuleParts) → without_decls l.decls u ≡ without_decls (common_decls u l) u
without_upper u l = ap (λ (ds : List DeclItem). record { selectors = u.selectors; decls = ds }) (filter_alike (λ d. not (has_decl l.decls d.decl)) (λ d. not (has_decl (common_decls u l) d.decl)) u.decls same)
  where
    same : (x : DeclItem) → Contains u.decls x → not (has_decl l.decls x.decl) ≡ not (has_decl (common_decls u l) x.decl)
    same x inside = ap not (alike (has_decl l.decls x.decl) (has_decl (common_decls u l) x.decl)
        (λ h. is_common u l x.decl (map_has (λ d. d.decl) u.decls x inside) ((has_decl_is l.decls x.decl).0 h))
        (λ h. (has_decl_is l.decls x.decl).1 (in_common u l x.decl ((has_decl_is (common_decls u l) x.decl).0 h)).1))

without_lower : (u l : RuleParts) → without_decls u.decls l ≡ without_decls (common_decls u l) l
without_lower u l = ap (λ (ds : List DeclItem). record { selectors = l.selectors; decls = ds }) (filter_alike (λ d. not (has_decl u.decls d.decl)) (λ d. not (has_decl (common_decls u l) d.decl)) l.decls same)
  where
    same : (x : DeclItem) → Contains l.decls x → not (has_decl u.decls x.decl) ≡ not (has_decl (common_decls u l) x.decl)
    same x inside = ap not (alike (has_decl u.decls x.decl) (has_decl (common_decls u l) x.decl)
        (λ h. is_common u l x.decl ((has_decl_is u.decls x.decl).0 h) (map_has (λ d. d.decl) l.decls x inside))
        (λ h. (has_decl_is u.decls x.decl).1 (in_common u l x.decl ((has_decl_is (common_decls u l) x.decl).0 h)).0))

pub upper_left : (u l r : RuleParts) → r ≡ without_decls l.decls u → rule_or_none r ≡ rule_or_none (without_decls (common_decls u l) u)
upper_left u l r is = ap rule_or_none (is ∙ without_upper u l)

pub lower_left : (u l r : RuleParts) → r ≡ without_decls u.decls l → rule_or_none r ≡ rule_or_none (without_decls (common_decls u l) l)
lower_left u l r is = ap rule_or_none (is ∙ without_lower u l)

-- ---- Of a step of a sheet

module _ (items : List Item) (k : Step) (u l : RuleParts) (upper : slice_get items (first_item k) ≡ Some (Rule u)) (lower : slice_get items (last_item k) ≡ Some (Rule l)) (left : List Item) where
  pub first_by : left ≡ first_left (edit_of k u l).changes → (e : Edit) → IsStep items k e → left ≡ first_left e.changes
  first_by is e step = is ∙ ap (λ (d : Edit). first_left d.changes) (edit_is items k u l upper lower e step)

  pub last_by : left ≡ last_left (edit_of k u l).changes → (e : Edit) → IsStep items k e → left ≡ last_left e.changes
  last_by is e step = is ∙ ap (λ (d : Edit). last_left d.changes) (edit_is items k u l upper lower e step)
