-- What a join of two rules makes weighs no more than both.
use Rattle.std.proofs.Common.{◌≡◌, ◌⊎◌, ℕ, ◌+◌, ◌≤◌, true, List, ◌++◌, max, sym, subst, inl, inr, arith}
use Rattle.std.proofs.lemmas.Bool.{and_parts, false≢true}
use Rattle.std.proofs.Math.Nat.{le-max_left, le-max_right, le-min}
use Rattle.cascade_laws.proofs.ForCallers.{rule-same}
use Rattle.css_model.specs.declared.sheet.DeclItem.{DeclItem}
use Rattle.css_model.specs.declared.sheet.Item.TheVariants.{Rule}
use Rattle.css_model.specs.declared.sheet.SelItem.{SelItem}
use Rattle.css_model.specs.Sheets.Printed.{printed_declaration, printed_selector}
use Rattle.css_model.specs.Sheets.RuleParts.{RuleParts}
use Rattle.step_queue.specs.declared.rule_weights.RuleWeight.{RuleWeight}
use Rattle.step_queue.specs.Once.{StandOnce}
use Rattle.step_queue.specs.RuleWeights.{ArePlain, WeighsAtMost, WeightParts}
use Rattle.order_laws.specs.Edits.{Edit}
use Rattle.indexed_sheet.specs.IndexedParts.{IndexedParts}
use Rattle.planner_state.specs.Weighing.{BringsAtMost, IsAtMost, MakesAtMost, joined_by_decls, joined_by_selectors}
use Rattle.planner_state.proofs.Heavier.{weight_both}
use Rattle.planner_state.proofs.Plain.{both_plain}
use Rattle.step_laws.specs.declared.step.Step.{Step}
use Rattle.step_laws.specs.declared.step.Step.TheVariants.{JoinSelUp, JoinSelDown, JoinDeclUp, JoinDeclDown}
use Rattle.step_laws.specs.RuleParting.{both_selectors}
use Rattle.step_laws.specs.Sizes.{weight}
use Rattle.step_laws.specs.Steps.{first_item, last_item}
use Rattle.rule_parts.proofs.ForCallers.{weight-append}
use Rattle.step_savings.specs.Weighing.{IsWeighable}

-- what holds of a rule that can be weighed holds of the item that it is
of_item : (source : List ℕ) (w : RuleWeight) (q : RuleParts) → (IsWeighable source q → WeighsAtMost source q w) → (r : RuleParts) → Rule q ≡ Rule r → IsWeighable source r → WeighsAtMost source r w
of_item source w q most r is = subst (λ (p : RuleParts). IsWeighable source p → WeighsAtMost source p w) (rule-same is) most

module _ (source : List ℕ) (u l : RuleParts) (a b : RuleWeight) (above : WeighsAtMost source u a) (below : WeighsAtMost source l b) where
  -- a rule with the declarations of both
  by_selectors : (ss : List SelItem) → weight (printed_selector source) ss ≤ max a.selectors b.selectors → IsWeighable source (record { selectors = ss; decls = u.decls ++ l.decls }) →
      WeighsAtMost source (record { selectors = ss; decls = u.decls ++ l.decls }) (joined_by_selectors a b)
  by_selectors ss less can =
      let both : weight (printed_declaration source) (u.decls ++ l.decls) ≡ weight (printed_declaration source) u.decls + weight (printed_declaration source) l.decls = weight-append (printed_declaration source) u.decls l.decls in
      let m = above.decls in
      let n = below.decls in
      let sum : weight (printed_declaration source) (u.decls ++ l.decls) ≤ a.decls + b.decls = omega (arith, both, m, n) in
      record {
        selectors = less;
        decls = le-min sum can.small_decls;
        least = omega arith;
        count = omega arith;
        once = λ e. absurd (false≢true e);
        plain = λ e. both_plain source u.decls l.decls (above.plain (and_parts a.plain b.plain e).0) (below.plain (and_parts a.plain b.plain e).1);
      }

  -- one with the selectors of both
  by_decls : (ds : List DeclItem) → weight (printed_declaration source) ds ≤ max a.decls b.decls → (a.once ≡ true → b.once ≡ true → StandOnce (λ (x : DeclItem). x.decl) ds) → (a.plain ≡ true → b.plain ≡ true → ArePlain source ds) →
      IsWeighable source (record { selectors = both_selectors u l; decls = ds }) →
      WeighsAtMost source (record { selectors = both_selectors u l; decls = ds }) (joined_by_decls a b)
  by_decls ds less once plain can =
      let both : weight (printed_selector source) (both_selectors u l) ≤ weight (printed_selector source) u.selectors + weight (printed_selector source) l.selectors = weight_both source u l in
      let m = above.selectors in
      let n = below.selectors in
      let sum : weight (printed_selector source) (both_selectors u l) ≤ a.selectors + b.selectors = omega (arith, both, m, n) in
      record {
        selectors = le-min sum can.small_selectors;
        decls = less;
        least = omega arith;
        count = omega arith;
        once = λ e. once (and_parts a.once b.once e).0 (and_parts a.once b.once e).1;
        plain = λ e. plain (and_parts a.plain b.plain e).0 (and_parts a.plain b.plain e).1;
      }

-- ---- Steps

module _ (indexed : IndexedParts) (weights : WeightParts) (x y : ℕ) (a b : RuleWeight) (above : IsAtMost indexed weights x a) (below : IsAtMost indexed weights y b) where
  pub selectors_up : MakesAtMost indexed weights (JoinSelUp x y) (joined_by_selectors a b)
  selectors_up source e weighed is =
      let u : WeighsAtMost source is.upper a = above source is.upper weighed is.rules.upper_at in
      let l : WeighsAtMost source is.lower b = below source is.lower weighed is.rules.lower_at in
      let less : weight (printed_selector source) is.upper.selectors ≤ max a.selectors b.selectors = (let m = u.selectors in let n = le-max_left a.selectors b.selectors in omega (arith, m, n)) in
      subst (λ (d : Edit). BringsAtMost source (joined_by_selectors a b) d) (sym is.is)
      ((of_item source (joined_by_selectors a b) (record { selectors = is.upper.selectors; decls = is.upper.decls ++ is.lower.decls }) (by_selectors source is.upper is.lower a b u l is.upper.selectors less), tt), (tt, tt))

  pub selectors_down : MakesAtMost indexed weights (JoinSelDown x y) (joined_by_selectors a b)
  selectors_down source e weighed is =
      let u : WeighsAtMost source is.upper a = above source is.upper weighed is.rules.upper_at in
      let l : WeighsAtMost source is.lower b = below source is.lower weighed is.rules.lower_at in
      let less : weight (printed_selector source) is.lower.selectors ≤ max a.selectors b.selectors = (let m = l.selectors in let n = le-max_right a.selectors b.selectors in omega (arith, m, n)) in
      subst (λ (d : Edit). BringsAtMost source (joined_by_selectors a b) d) (sym is.is)
      (tt, ((of_item source (joined_by_selectors a b) (record { selectors = is.lower.selectors; decls = is.upper.decls ++ is.lower.decls }) (by_selectors source is.upper is.lower a b u l is.lower.selectors less), tt), tt))

  pub decls_up : MakesAtMost indexed weights (JoinDeclUp x y) (joined_by_decls a b)
  decls_up source e weighed is =
      let u : WeighsAtMost source is.upper a = above source is.upper weighed is.rules.upper_at in
      let l : WeighsAtMost source is.lower b = below source is.lower weighed is.rules.lower_at in
      let less : weight (printed_declaration source) is.upper.decls ≤ max a.decls b.decls = (let m = u.decls in let n = le-max_left a.decls b.decls in omega (arith, m, n)) in
      subst (λ (d : Edit). BringsAtMost source (joined_by_decls a b) d) (sym is.is)
      ((of_item source (joined_by_decls a b) (record { selectors = both_selectors is.upper is.lower; decls = is.upper.decls }) (by_decls source is.upper is.lower a b u l is.upper.decls less (λ first second. u.once first) (λ first second. u.plain first)), tt), (tt, tt))

  pub decls_down : MakesAtMost indexed weights (JoinDeclDown x y) (joined_by_decls a b)
  decls_down source e weighed is =
      let u : WeighsAtMost source is.upper a = above source is.upper weighed is.rules.upper_at in
      let l : WeighsAtMost source is.lower b = below source is.lower weighed is.rules.lower_at in
      let less : weight (printed_declaration source) is.lower.decls ≤ max a.decls b.decls = (let m = l.decls in let n = le-max_right a.decls b.decls in omega (arith, m, n)) in
      subst (λ (d : Edit). BringsAtMost source (joined_by_decls a b) d) (sym is.is)
      (tt, ((of_item source (joined_by_decls a b) (record { selectors = both_selectors is.upper is.lower; decls = is.lower.decls }) (by_decls source is.upper is.lower a b u l is.lower.decls less (λ first second. l.once second) (λ first second. l.plain second)), tt), tt))

-- ---- Either way

pub by_selectors_either : (indexed : IndexedParts) (weights : WeightParts) (k : Step) (first last : ℕ) (a b : RuleWeight) → ((x : ℕ) × (y : ℕ) × (k ≡ JoinSelUp x y)) ⊎ ((x : ℕ) × (y : ℕ) × (k ≡ JoinSelDown x y)) →
    first ≡ first_item k → last ≡ last_item k → IsAtMost indexed weights first a → IsAtMost indexed weights last b → MakesAtMost indexed weights k (joined_by_selectors a b)
by_selectors_either indexed weights k first last a b kind upper lower above below = which kind (subst (λ (n : ℕ). IsAtMost indexed weights n a) upper above) (subst (λ (n : ℕ). IsAtMost indexed weights n b) lower below)
  where
    which : ((x : ℕ) × (y : ℕ) × (k ≡ JoinSelUp x y)) ⊎ ((x : ℕ) × (y : ℕ) × (k ≡ JoinSelDown x y)) → IsAtMost indexed weights (first_item k) a → IsAtMost indexed weights (last_item k) b → MakesAtMost indexed weights k (joined_by_selectors a b)
    which (inl (x, y, is)) = subst (λ (j : Step). IsAtMost indexed weights (first_item j) a → IsAtMost indexed weights (last_item j) b → MakesAtMost indexed weights j (joined_by_selectors a b)) (sym is) (selectors_up indexed weights x y a b)
    which (inr (x, y, is)) = subst (λ (j : Step). IsAtMost indexed weights (first_item j) a → IsAtMost indexed weights (last_item j) b → MakesAtMost indexed weights j (joined_by_selectors a b)) (sym is) (selectors_down indexed weights x y a b)

pub by_decls_either : (indexed : IndexedParts) (weights : WeightParts) (k : Step) (first last : ℕ) (a b : RuleWeight) → ((x : ℕ) × (y : ℕ) × (k ≡ JoinDeclUp x y)) ⊎ ((x : ℕ) × (y : ℕ) × (k ≡ JoinDeclDown x y)) →
    first ≡ first_item k → last ≡ last_item k → IsAtMost indexed weights first a → IsAtMost indexed weights last b → MakesAtMost indexed weights k (joined_by_decls a b)
by_decls_either indexed weights k first last a b kind upper lower above below = which kind (subst (λ (n : ℕ). IsAtMost indexed weights n a) upper above) (subst (λ (n : ℕ). IsAtMost indexed weights n b) lower below)
  where
    which : ((x : ℕ) × (y : ℕ) × (k ≡ JoinDeclUp x y)) ⊎ ((x : ℕ) × (y : ℕ) × (k ≡ JoinDeclDown x y)) → IsAtMost indexed weights (first_item k) a → IsAtMost indexed weights (last_item k) b → MakesAtMost indexed weights k (joined_by_decls a b)
    which (inl (x, y, is)) = subst (λ (j : Step). IsAtMost indexed weights (first_item j) a → IsAtMost indexed weights (last_item j) b → MakesAtMost indexed weights j (joined_by_decls a b)) (sym is) (decls_up indexed weights x y a b)
    which (inr (x, y, is)) = subst (λ (j : Step). IsAtMost indexed weights (first_item j) a → IsAtMost indexed weights (last_item j) b → MakesAtMost indexed weights j (joined_by_decls a b)) (sym is) (decls_down indexed weights x y a b)
