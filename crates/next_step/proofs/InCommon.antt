-- Declarations that two rules have in common, as the tables tell them.
use Rattle.std.proofs.Common.{◌≡◌, ◌⊎◌, ℕ, suc, ◌+◌, ◌<◌, ◌≤◌, List, [], ◌∷◌, length, map, subst, inl, inr, arith}
use Rattle.std.specs.List.{Contains}
use Rattle.std.proofs.lemmas.Bool.{cases_lt}
use Rattle.css_model.specs.Sheets.Limits.{max_bytes}
use Rattle.css_model.specs.Sheets.Printed.{printed_declaration}
use Rattle.indexed_sheet.specs.MarkList.{AreMarks}
use Rattle.order_laws.specs.Members.{has_decl}
use Rattle.rule_tables.proofs.ForCallers.{passes_few, passes_light, reaches_through}
use Rattle.rule_tables.specs.Ahead.{IsAhead, Reached, Reaches, SaysTheSame, total_at}
use Rattle.rule_tables.specs.StepPartners.{RulesAreOrderKeyed}
use Rattle.rule_tables.specs.Tables.{Cover, OrderKeyed, count_of, weight_of, with_order_key}
use Rattle.step_laws.specs.Sizes.{weight}
use Rattle.next_step.specs.Common.{TellCommon}
use Rattle.next_step.specs.Looking.{FoundParts, IsWith}
use Rattle.next_step.specs.Marked.{rules_of}
use Rattle.next_step.specs.Viewed.{CoversIn, Grows, IsFocus, IsView}
use Rattle.next_step.specs.declared.view.Focus.{Focus}
use Rattle.next_step.specs.declared.view.View.{View}
use Rattle.step_laws.specs.declared.step.Step.{Step}
use Rattle.next_step.proofs.ByOrderKeys.{is_order_keyed, with_itself}
use Rattle.next_step.proofs.Looking.{kept_covers}
use Rattle.next_step.proofs.Weights.{light_decls}

-- ---- What tables tell

few_light : {A : Type 0} (text : A → List ℕ) (xs : List A) → length xs ≤ weight text xs
few_light text [] = omega arith
few_light text (x ∷ xs) = let ih : length xs ≤ weight text xs = few_light text xs in let e : suc (length xs) ≤ length (text x) + 1 + weight text xs = omega (arith, ih) in e

-- what lists tell of a rule's declarations is what it has in common with the rule in focus
pub tells_common : (v : View) → IsView v → (o : Focus) → IsFocus v o → length v.indexed.now.marks ≡ length v.indexed.now.items → RulesAreOrderKeyed → (lists : List Reached) (weights : List ℕ) →
    weights ≡ map (λ d. length (printed_declaration v.source.now d) + 1) o.rule.now.decls →
    ((rules : List OrderKeyed) (x : OrderKeyed) → Cover v.tables.now rules → Contains rules x → Reaches (total_at (λ c. c.count) lists x.order_key) (count_of (has_decl x.rule.decls) o.rule.now.decls)) →
    ((rules : List OrderKeyed) (x : OrderKeyed) → Cover v.tables.now rules → Contains rules x → Reaches (total_at (λ c. c.weight) lists x.order_key) (weight_of (has_decl x.rule.decls) o.rule.now.decls weights)) →
    (order_key : ℕ) → TellCommon v o lists order_key
tells_common v is_view o is_focus beside order_keyed_are lists weights weights_are counted weighed order_key common (count_all, weight_all) n r (mark, mark_at, key_is) at =
    let inside : Contains (rules_of v.indexed.now) (with_order_key r order_key) =
    subst (λ (k : ℕ). Contains (rules_of v.indexed.now) (with_order_key r k)) key_is (is_order_keyed v.indexed.now beside order_keyed_are n r mark at mark_at) in
    let most : weight (printed_declaration v.source.now) o.rule.now.decls ≤ max_bytes = light_decls v.source.now v.indexed.now.items is_view.plannable.sound o.number o.rule.now is_view.plannable.short is_focus.rule in
    let few : length o.rule.now.decls ≤ weight (printed_declaration v.source.now) o.rule.now.decls = few_light (printed_declaration v.source.now) o.rule.now.decls in
    let weights_reach : Reaches (total_at (λ c. c.weight) lists order_key) (weight_of (has_decl r.decls) o.rule.now.decls (map (λ d. length (printed_declaration v.source.now d) + 1) o.rule.now.decls)) =
    subst (λ (ws : List ℕ). Reaches (total_at (λ c. c.weight) lists order_key) (weight_of (has_decl r.decls) o.rule.now.decls ws)) weights_are (weighed (rules_of v.indexed.now) (with_order_key r order_key) is_view.cover inside) in (
      passes_few (has_decl r.decls) o.rule.now.decls common.count
          (reaches_through common.count (total_at (λ c. c.count) lists order_key) (count_of (has_decl r.decls) o.rule.now.decls) count_all (counted (rules_of v.indexed.now) (with_order_key r order_key) is_view.cover inside)) (omega (arith, most, few)),
      passes_light (has_decl r.decls) (printed_declaration v.source.now) o.rule.now.decls common.weight
          (reaches_through common.weight (total_at (λ c. c.weight) lists order_key) (weight_of (has_decl r.decls) o.rule.now.decls (map (λ d. length (printed_declaration v.source.now d) + 1) o.rule.now.decls)) weight_all weights_reach) (omega (arith, most)),
    )

-- lists that say the same of an order key tell the same of the rule with it
pub tells_same : (v : View) (o : Focus) (Of : ℕ → Type 0) (old new : List Reached) → SaysTheSame Of old new → (order_key : ℕ) → Of order_key → TellCommon v o old order_key → TellCommon v o new order_key
tells_same v o Of old new same order_key of tells common (count_all, weight_all) =
    tells common (subst (λ (n : ℕ). Reaches common.count n) (same (λ c. c.count) order_key of) count_all, subst (λ (n : ℕ). Reaches common.weight n) (same (λ c. c.weight) order_key of) weight_all)

-- ---- Partners in steps, as their order keys are taken out of lists

module _ (v : View) (number : ℕ) (P : Step → Type 0) where
  -- each step of the kind with an order key of the lists is covered, or its order key is left
  abbrev pub AreCoveredAhead : FoundParts → (all rest : List Reached) → Type 0
  AreCoveredAhead found all rest = (x : ℕ) (k : Step) → IsAhead all x → IsWith v.indexed.now number x k → P k → CoversIn v found k ⊎ IsAhead rest x

  pub one_more : (old new : FoundParts) (all rest behind : List Reached) (order_key : ℕ) → ((k : ℕ) → IsAhead rest k → (k ≡ order_key) ⊎ IsAhead behind k) → Grows v old new → AreCoveredAhead old all rest →
      ((k : Step) → IsWith v.indexed.now number order_key k → P k → CoversIn v new k) → AreCoveredAhead new all behind
  one_more old new all rest behind order_key parts grows before here x k among with_it p = which (before x k among with_it p)
    where
      which : CoversIn v old k ⊎ IsAhead rest x → CoversIn v new k ⊎ IsAhead behind x
      which (inl c) = inl (kept_covers v old new grows k c)
      which (inr h) = elim (parts x h) [
        | inl e ↦ inl (here k (subst (λ (y : ℕ). IsWith v.indexed.now number y k) e with_it) p)
        | inr r ↦ inr r
      ]

  -- some order keys are ahead no more, and their steps are covered
  pub fewer_ahead : (found : FoundParts) (all rest less : List Reached) → ((x : ℕ) (k : Step) → IsAhead rest x → IsWith v.indexed.now number x k → P k → CoversIn v found k ⊎ IsAhead less x) → AreCoveredAhead found all rest →
      AreCoveredAhead found all less
  fewer_ahead found all rest less leaves before x k among with_it p = which (before x k among with_it p)
    where
      which : CoversIn v found k ⊎ IsAhead rest x → CoversIn v found k ⊎ IsAhead less x
      which (inl c) = inl c
      which (inr h) = leaves x k h with_it p

  pub none_left : (found : FoundParts) (all rest : List Reached) → ((k : ℕ) → IsAhead rest k → ⊥) → AreCoveredAhead found all rest →
      (x : ℕ) (k : Step) → IsAhead all x → IsWith v.indexed.now number x k → P k → CoversIn v found k
  none_left found all rest none before x k among with_it p = which (before x k among with_it p)
    where
      which : CoversIn v found k ⊎ IsAhead rest x → CoversIn v found k
      which (inl c) = c
      which (inr h) = absurd (none x h)

  pub rest_covered : (found : FoundParts) (all rest : List Reached) → ((x : ℕ) (k : Step) → IsAhead rest x → IsWith v.indexed.now number x k → P k → CoversIn v found k) → AreCoveredAhead found all rest →
      (x : ℕ) (k : Step) → IsAhead all x → IsWith v.indexed.now number x k → P k → CoversIn v found k
  rest_covered found all rest late before x k among with_it p = which (before x k among with_it p)
    where
      which : CoversIn v found k ⊎ IsAhead rest x → CoversIn v found k
      which (inl c) = c
      which (inr h) = late x k h with_it p

-- what is covered on both sides of the item's own order key is covered
pub by_sides : (v : View) (o : Focus) → IsFocus v o → AreMarks v.indexed.now.marks v.indexed.now.next → (found : FoundParts) (P : Step → Type 0) (all : List Reached) →
    ((x : ℕ) (k : Step) → IsAhead all x → x < o.order_key → IsWith v.indexed.now o.number x k → P k → CoversIn v found k) →
    ((x : ℕ) (k : Step) → IsAhead all x → o.order_key < x → IsWith v.indexed.now o.number x k → P k → CoversIn v found k) →
    (x : ℕ) (k : Step) → IsAhead all x → IsWith v.indexed.now o.number x k → P k → CoversIn v found k
by_sides v o is_focus are found P all over under x k among w p = elim (cases_lt x o.order_key) [
  | inl less ↦ over x k among less w p
  | inr least ↦ elim (cases_lt o.order_key x) [
    | inl more ↦ under x k among more w p
    | inr most ↦ (
        let same : x ≡ o.order_key = omega (arith, least, most) in
        with_itself v o is_focus are found o.order_key o.number is_focus.order_key (omega arith) (omega arith) k (subst (λ (y : ℕ). IsWith v.indexed.now o.number y k) same w))
  ]
]
