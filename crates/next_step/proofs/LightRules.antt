-- Steps by declarations that come too late by what their rules weigh.
use Rattle.std.proofs.Common.{◌≡◌, ℕ, ◌+◌, ◌≤◌, List, Some, refl, sym, ap, ap₂, subst, inl, inr, ◌∙◌, true, arith}
use Rattle.std.specs.Prelude.{slice_get, slice_index}
use Rattle.css_model.specs.declared.sheet.Item.{Item}
use Rattle.css_model.specs.Sheets.Printed.{printed_declaration, printed_selector}
use Rattle.css_model.specs.Sheets.Sound.{IsSound}
use Rattle.step_kinds.specs.declared.kind.Kind.{Kind}
use Rattle.step_kinds.specs.declared.kind.Kind.TheVariants.{Sharing}
use Rattle.step_queue.specs.declared.rule_weights.RuleWeight.{RuleWeight}
use Rattle.step_queue.specs.RuleWeights.{AreWeighed, WeightParts, weight_under}
use Rattle.step_kinds.specs.StepsByKind.{kind_of, step_of_kind}
use Rattle.order_laws.specs.Edits.{Edit}
use Rattle.indexed_sheet.specs.IndexedParts.{IndexedParts}
use Rattle.indexed_sheet.specs.declared.marks.Mark.{Mark}
use Rattle.indexed_sheet.specs.MarkList.{item_ids_of, order_keys_of}
use Rattle.step_laws.specs.declared.step.Step.{Step}
use Rattle.step_laws.specs.declared.step.Step.TheVariants.{CutDecl, CutSel, JoinSelUp, JoinSelDown, JoinDeclUp, JoinDeclDown, Share}
use Rattle.step_laws.specs.Sizes.{Saves, weight}
use Rattle.step_laws.specs.Steps.{HasStep, IsStep, first_item, last_item}
use Rattle.step_savings.specs.Apart.{RulesApart}
use Rattle.next_step.specs.Kinds.{IsByDecls}
use Rattle.next_step.specs.Late.{CommonWeighsAtMost, DeclsWeighAtMost, FirstByDecls, IsFrom, IsLate, IsWeighedAt}
use Rattle.next_step.specs.Looking.{FoundParts, ReachesLast}
use Rattle.next_step.specs.Once.{DeclsStandOnce}
use Rattle.next_step.proofs.Alike.{decl_joins_alike}
use Rattle.next_step.proofs.ByOrderKeys.{decls_two}
use Rattle.next_step.proofs.DeclLate.{up_is_first}
use Rattle.next_step.proofs.DeclWeights.{by_decls_most, share_once_most}
use Rattle.next_step.proofs.LaterOrderKeys.{two_named}
use Rattle.next_step.proofs.Telling.{there_of}
use Rattle.next_step.proofs.Weights.{apart_weigh, common, common_is_part}
use Rattle.plan_laws.specs.Barrier.Hindering.{priority_of}
use Rattle.plan_laws.specs.Barrier.Renumbering.{renumbered}

-- ---- What a rule weighs

-- what is told under an item's item id
pub weighed_at : (source : List ℕ) (items : List Item) (marks : List Mark) (weights : WeightParts) → AreWeighed source items (item_ids_of marks) weights → (n : ℕ) (m : Mark) → slice_get marks n ≡ Some m →
    (w : RuleWeight) → w ≡ weight_under weights.each m.item_id → IsWeighedAt source items n w
weighed_at source items marks weights are n m mark_at w is r rule_at = rw is (are.each n m.item_id r rule_at (there_of (λ x. x.item_id) marks n m mark_at))

-- ---- The selectors of both rules

module _ (source : List ℕ) (items : List Item) (upper lower more : ℕ) where
  pub none_common : (most : ℕ) → RulesApart items upper lower → most ≡ more → CommonWeighsAtMost source items upper lower more most
  none_common most apart is = rw is (apart_weigh source items upper lower more apart)

  pub some_common : (below : RuleWeight) (most : ℕ) → IsWeighedAt source items lower below → most ≡ more + below.selectors → CommonWeighsAtMost source items upper lower more most
  some_common below most weighed is u l above_at below_at =
      let fits : weight (printed_selector source) l.selectors ≤ below.selectors = (weighed l below_at).selectors in
      let part : common source u l ≤ weight (printed_selector source) l.selectors = common_is_part source u l in
      omega (arith, fits, part, is)

-- ---- The steps by declarations of two rules

share_is_first : (k : Step) → IsByDecls k → kind_of k ≡ Sharing → (x y : ℕ) → IsFrom (step_of_kind Sharing x y) (step_of_kind (kind_of k) x y)
share_is_first k by is x y = inl (ap (λ (kind : Kind). step_of_kind kind x y) (sym is))

-- one of two rules that have no joins is their share
pub only_share : (items : List Item) (k : Step) (e : Edit) → IsByDecls k → IsStep items k e → (HasStep items (JoinDeclUp (first_item k) (last_item k)) → ⊥) → k ≡ Share (first_item k) (last_item k)
only_share items (CutDecl n i) e by is none = absurd by
only_share items (CutSel n i) e by is none = absurd by
only_share items (JoinSelUp x y) e by is none = absurd by
only_share items (JoinSelDown x y) e by is none = absurd by
only_share items (JoinDeclUp x y) e by is none = absurd (none (e, is))
only_share items (JoinDeclDown x y) e by is none = absurd (none ((decl_joins_alike items x y).1 (e, is)))
only_share items (Share x y) e by is none = refl

module _ (source : List ℕ) (items : List Item) (sound : IsSound source items) (upper lower : ℕ) (above below : RuleWeight) (weighed_above : IsWeighedAt source items upper above) (weighed_below : IsWeighedAt source items lower below)
    (once : below.once ≡ true) (kind : Kind) (decls most : ℕ) (first_is : FirstByDecls items upper lower above below kind decls) (in_common : CommonWeighsAtMost source items upper lower decls most)
    (k : Step) (e : Edit) (by : IsByDecls k) (first : first_item k ≡ upper) (last : last_item k ≡ lower) (is : IsStep items k e) where
  each_once : DeclsStandOnce items lower
  each_once r at = (weighed_below r at).once once

  is_share : (HasStep items (JoinDeclUp upper lower) → ⊥) → k ≡ Share upper lower
  is_share none =
      only_share items k e by is (λ has. none (subst (λ (x : ℕ). HasStep items (JoinDeclUp x lower)) first (subst (λ (y : ℕ). HasStep items (JoinDeclUp (first_item k) y)) last has)))
      ∙ ap₂ Share first last

  pub light_saves : (n : ℕ) → Saves source items e n → n ≤ most
  light_saves n saves = elim first_is [
    | inl (kind_is, decls_are, none) ↦ share_once_most source items sound upper lower decls most e n saves each_once (λ r at. rw decls_are (weighed_above r at).decls) in_common (subst (λ (j : Step). IsStep items j e) (is_share none) is)
    | inr (kind_is, decls_are) ↦
        by_decls_most source items sound decls most k e n by (subst (DeclsStandOnce items) (sym last) each_once)
        (subst (λ (x : ℕ). DeclsWeighAtMost source items x decls) (sym first) (λ r at. let fits : weight (printed_declaration source) r.decls ≤ above.decls = (weighed_above r at).decls in grind (arith, fits, decls_are)))
        (subst (λ (y : ℕ). DeclsWeighAtMost source items y decls) (sym last) (λ r at. let fits : weight (printed_declaration source) r.decls ≤ below.decls = (weighed_below r at).decls in grind (arith, fits, decls_are)))
        (subst (λ (x : ℕ). CommonWeighsAtMost source items x (last_item k) decls most) (sym first) (subst (λ (y : ℕ). CommonWeighsAtMost source items upper y decls most) (sym last) in_common)) is saves
  ]

  pub light_from : (x y : ℕ) → IsFrom (step_of_kind kind x y) (step_of_kind (kind_of k) x y)
  light_from x y = elim first_is [
    | inl (kind_is, decls_are, none) ↦ rw kind_is (share_is_first k by (ap kind_of (is_share none)) x y)
    | inr (kind_is, decls_are) ↦ rw kind_is (up_is_first k by x y)
  ]

module _ (source : List ℕ) (indexed : IndexedParts) (found : FoundParts) (upper lower : ℕ) (above below : RuleWeight) (kind : Kind) (decls most limit : ℕ) where
  pub light_late : IsSound source indexed.items → IsWeighedAt source indexed.items upper above → IsWeighedAt source indexed.items lower below → below.once ≡ true → FirstByDecls indexed.items upper lower above below kind decls →
      CommonWeighsAtMost source indexed.items upper lower decls most → most ≤ limit → (a b : ℕ) → a ≡ slice_index (order_keys_of indexed.marks) upper → b ≡ slice_index (order_keys_of indexed.marks) lower →
      ((n : ℕ) (j : Step) → n ≤ limit → IsFrom (step_of_kind kind a b) j → ReachesLast found.others (priority_of n j)) →
      (k : Step) → IsByDecls k → first_item k ≡ upper → last_item k ≡ lower → IsLate source indexed found k
  light_late sound weighed_above weighed_below once first_is in_common fits a b a_is b_is late k by first last e n is saves =
      let named_is : renumbered (λ m. slice_index (order_keys_of indexed.marks) m) k ≡ step_of_kind (kind_of k) a b =
      two_named (order_keys_of indexed.marks) k (decls_two k by) ∙ ap₂ (step_of_kind (kind_of k)) (ap (slice_index (order_keys_of indexed.marks)) first ∙ sym a_is) (ap (slice_index (order_keys_of indexed.marks)) last ∙ sym b_is) in
      let few : n ≤ most = light_saves source indexed.items sound upper lower above below weighed_above weighed_below once kind decls most first_is in_common k e by first last is n saves in
      late n (renumbered (λ m. slice_index (order_keys_of indexed.marks) m) k) (omega (arith, few, fits))
      (subst (IsFrom (step_of_kind kind a b)) (sym named_is) (light_from source indexed.items sound upper lower above below weighed_above weighed_below once kind decls most first_is in_common k e by first last is a b))
