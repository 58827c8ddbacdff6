-- What joins by declarations and shares save at most.
use Rattle.std.proofs.Common.{◌≡◌, ◌≢◌, ◌↔◌, ℕ, ◌+◌, ◌<◌, ◌≤◌, Bool, true, false, List, Some, refl, sym, ap, subst, inl, inr, ◌∙◌, arith, true≢false}
use Rattle.std.specs.Prelude.{slice_get}
use Rattle.std.specs.List.{list_all}
use Rattle.css_model.specs.declared.sheet.Item.{Item}
use Rattle.css_model.specs.declared.sheet.Item.TheVariants.{Rule}
use Rattle.css_model.specs.Sheets.Printed.{printed_declaration, printed_selector}
use Rattle.css_model.specs.Sheets.RuleParts.{RuleParts}
use Rattle.css_model.specs.Sheets.Sound.{IsSound}
use Rattle.step_queue.specs.declared.heaviest.Heaviest.{Heaviest}
use Rattle.step_queue.specs.Heaviest.{AreNotHeavier}
use Rattle.order_laws.specs.Edits.{Edit, edited}
use Rattle.order_laws.specs.Members.{has_decl, has_selector}
use Rattle.indexed_sheet.specs.Facts.{HasOwnSelectors}
use Rattle.step_laws.specs.declared.step.Step.{Step}
use Rattle.step_laws.specs.declared.step.Step.TheVariants.{CutDecl, CutSel, JoinSelUp, JoinSelDown, JoinDeclDown, JoinDeclUp, Share}
use Rattle.step_laws.specs.Sizes.{Saves, size, weight}
use Rattle.step_laws.specs.Steps.{AreDeclsAmong, IsStep, first_item, last_item}
use Rattle.step_savings.specs.Apart.{RulesApart}
use Rattle.next_step.specs.Kinds.{IsByDecls}
use Rattle.next_step.specs.Late.{ByDeclsSaveAtMost, CommonWeighsAtMost, DeclsWeighAtMost, SelectorsWeighAtMost}
use Rattle.next_step.specs.Once.{DeclsStandOnce}
use Rattle.next_step.specs.Shares.{IsKept, among_weight, new_selectors}
use Rattle.next_step.proofs.Sharing.{among_all, among_count, share_weighs}
use Rattle.next_step.proofs.Weights.{apart_weigh, common, common_is_part, decls_down, decls_up, weight_parted}

-- a rule with selectors of its own is apart from another one
pub own_apart : (items : List Item) (n m : ℕ) → m ≢ n → HasOwnSelectors items n → RulesApart items n m
own_apart items n m differ own r q at at' s in_r in_q = own m r q s differ at at' in_r in_q

module _ (source : List ℕ) where
  pub kept_of : (r q : RuleParts) → (n : ℕ) × IsKept source r q n
  kept_of r q = which (list_all (λ d. has_decl q.decls d.decl) r.decls) (among_all r q)
    where
      which : (b : Bool) → (b ≡ true) ↔ AreDeclsAmong r q → (n : ℕ) × IsKept source r q n
      which true is = (0, inr (is.0 refl, refl))
      which false is = (weight (printed_selector source) r.selectors, inl ((λ among. true≢false (sym (is.1 among))), refl))

  module _ (items : List Item) (sound : IsSound source items) where
    -- a share whose lower rule has each declaration once
    pub share_once_most : (x y left most : ℕ) (e : Edit) (n : ℕ) → Saves source items e n → DeclsStandOnce items y → DeclsWeighAtMost source items x left → CommonWeighsAtMost source items x y left most →
        IsStep items (Share x y) e → n ≤ most
    share_once_most x y left most e n saves once weigh in_common j =
        let u : RuleParts = j.upper in
        let l : RuleParts = j.lower in
        let ku : (n : ℕ) × IsKept source u l n = kept_of u l in
        let kl : (n : ℕ) × IsKept source l u n = kept_of l u in
        let law : size source (edited e items) + (among_weight source u.decls l.decls + weight (printed_selector source) l.selectors) ≡ size source items + (ku.0 + kl.0 + weight (printed_selector source) (new_selectors u l))
        = share_weighs source items x y u l sound j.rules.upper_at j.rules.lower_at (once l j.rules.lower_at) ku.0 kl.0 ku.1 kl.1 e j in
        let less : size source items ≡ size source (edited e items) + n = saves in
        let few : left + common source u l ≤ most = in_common u l j.rules.upper_at j.rules.lower_at in
        let fits : weight (printed_declaration source) u.decls ≤ left = weigh u j.rules.upper_at in
        let among : among_weight source u.decls l.decls ≤ weight (printed_declaration source) u.decls = among_count source u.decls l.decls in
        let parted : common source u l + weight (printed_selector source) (new_selectors u l) ≡ weight (printed_selector source) l.selectors = weight_parted (printed_selector source) (λ s. has_selector u.selectors s.selector) l.selectors in
        omega (arith, law, less, few, fits, among, parted)

    -- the steps by declarations of two rules
    pub by_decls_most : (left most : ℕ) (k : Step) (e : Edit) (n : ℕ) → IsByDecls k → DeclsStandOnce items (last_item k) → DeclsWeighAtMost source items (first_item k) left → DeclsWeighAtMost source items (last_item k) left →
        CommonWeighsAtMost source items (first_item k) (last_item k) left most → IsStep items k e → Saves source items e n → n ≤ most
    by_decls_most left most (CutDecl m i) e n by once above below in_common is saves = absurd by
    by_decls_most left most (CutSel m i) e n by once above below in_common is saves = absurd by
    by_decls_most left most (JoinSelUp x y) e n by once above below in_common is saves = absurd by
    by_decls_most left most (JoinSelDown x y) e n by once above below in_common is saves = absurd by
    by_decls_most left most (JoinDeclUp x y) e n by once above below in_common is saves = decls_up source items sound x y e n saves left most below in_common is
    by_decls_most left most (JoinDeclDown x y) e n by once above below in_common is saves = decls_down source items sound x y e n saves left most above in_common is
    by_decls_most left most (Share x y) e n by once above below in_common is saves = share_once_most x y left most e n saves once above in_common is

    of_two_differ : (k : Step) (e : Edit) → IsByDecls k → IsStep items k e → first_item k ≢ last_item k
    of_two_differ (CutDecl m i) e by is = absurd by
    of_two_differ (CutSel m i) e by is = absurd by
    of_two_differ (JoinSelUp x y) e by is = absurd by
    of_two_differ (JoinSelDown x y) e by is = absurd by
    of_two_differ (JoinDeclUp x y) e by is = λ same. let o : x < y = is.rules.in_order in let s : x ≡ y = same in omega (arith, o, s)
    of_two_differ (JoinDeclDown x y) e by is = λ same. let o : x < y = is.rules.in_order in let s : x ≡ y = same in omega (arith, o, s)
    of_two_differ (Share x y) e by is = λ same. let o : x < y = is.rules.in_order in let s : x ≡ y = same in omega (arith, o, s)

    module _ (h : Heaviest) (heavy : AreNotHeavier source items h) where
      decls_fit : (n : ℕ) → DeclsWeighAtMost source items n h.decls
      decls_fit n r at = (heavy n r at).1

      pub own_below : (x : ℕ) → HasOwnSelectors items x → (y : ℕ) → ByDeclsSaveAtMost source items x y h.decls
      own_below x own y once k e n by first last is saves =
          by_decls_most h.decls h.decls k e n by (subst (DeclsStandOnce items) (sym last) once) (decls_fit (first_item k)) (decls_fit (last_item k))
          (apart_weigh source items (first_item k) (last_item k) h.decls (λ r q at at' s in_r in_q. own (last_item k) r q s (λ same. of_two_differ k e by is (first ∙ sym same)) (subst (λ (m : ℕ). slice_get items m ≡ Some (Rule r)) first at) at' in_r in_q)) is saves

      pub own_above : (y : ℕ) → HasOwnSelectors items y → (x : ℕ) → ByDeclsSaveAtMost source items x y h.decls
      own_above y own x once k e n by first last is saves =
          by_decls_most h.decls h.decls k e n by (subst (DeclsStandOnce items) (sym last) once) (decls_fit (first_item k)) (decls_fit (last_item k))
          (apart_weigh source items (first_item k) (last_item k) h.decls (λ r q at at' s in_r in_q. own (first_item k) q r s (λ same. of_two_differ k e by is (same ∙ sym last)) (subst (λ (m : ℕ). slice_get items m ≡ Some (Rule q)) last at') at in_q in_r)) is saves

      -- with the selectors of the lower rule
      with_common : (k : Step) (e : Edit) (n bound most : ℕ) → IsByDecls k → DeclsStandOnce items (last_item k) → ((l : RuleParts) → slice_get items (last_item k) ≡ Some (Rule l) → weight (printed_selector source) l.selectors ≤ bound) →
          most ≡ h.decls + bound → IsStep items k e → Saves source items e n → n ≤ most
      with_common k e n bound most by once light sum is saves =
          by_decls_most h.decls most k e n by once (decls_fit (first_item k)) (decls_fit (last_item k))
          (λ u l above below. let part : common source u l ≤ weight (printed_selector source) l.selectors = common_is_part source u l in let few : weight (printed_selector source) l.selectors ≤ bound = light l below in omega (arith, part, few, sum)) is saves

      pub all_below : (x most : ℕ) → most ≡ h.decls + h.selectors → (y : ℕ) → ByDeclsSaveAtMost source items x y most
      all_below x most sum y once k e n by first last is saves = with_common k e n h.selectors most by (subst (DeclsStandOnce items) (sym last) once) (λ l below. (heavy (last_item k) l below).0) sum is saves

      pub all_above : (y bound most : ℕ) → SelectorsWeighAtMost source items y bound → most ≡ h.decls + bound → (x : ℕ) → ByDeclsSaveAtMost source items x y most
      all_above y bound most light sum x once k e n by first last is saves =
          with_common k e n bound most by (subst (DeclsStandOnce items) (sym last) once) (λ l below. light l (ap (slice_get items) (sym last) ∙ below)) sum is saves
