-- Each step has a window.
use Rattle.std.proofs.Common.{◌≡◌, ◌⊎◌, ℕ, ◌+◌, ◌-◌, ◌<◌, true, List, [], ◌∷◌, ◌++◌, take, drop, Some, refl, sym, ap, ap₂, ◌∙◌, subst, inl, inr, arith}
use Rattle.std.specs.Prelude.{slice_get, slice_range}
use Rattle.std.specs.List.{Contains, remove}
use Rattle.std.proofs.lemmas.List.{append_assoc}
use Rattle.std.proofs.lemmas.List.Elements.{filter-append}
use Rattle.list_facts.proofs.SliceRange.{slice_range_none}
use Rattle.css_model.specs.declared.sheet.Decl.{Decl}
use Rattle.css_model.specs.declared.sheet.Item.{Item}
use Rattle.css_model.specs.declared.sheet.Item.TheVariants.{Rule}
use Rattle.css_model.specs.Cascade.Order.{Pair, HasPair}
use Rattle.css_model.specs.Sheets.KeptItems.{is_kept, kept_items}
use Rattle.css_model.specs.Sheets.RuleParts.{RuleParts}
use Rattle.css_model.specs.Sheets.StyleRule.{selectors_of, HaveSameSelectors, joined}
use Rattle.order_laws.proofs.ForCallers.{has_append, InRule, decls, has_rule, moved_is}
use Rattle.order_laws.specs.Edits.{Moved, is_moved, whole_rule, Edit, edited}
use Rattle.step_laws.proofs.ForCallers.{in_common}
use Rattle.step_laws.specs.declared.step.Step.{Step}
use Rattle.step_laws.specs.declared.step.Step.TheVariants.{CutDecl, CutSel, JoinSelUp, JoinSelDown, JoinDeclUp, JoinDeclDown, Share}
use Rattle.step_laws.specs.RuleParting.{both_selectors, common_decls, without_decls, rule_or_none}
use Rattle.step_laws.specs.StepEdits.{AreRules, one_change, two_changes, cut_decl, cut_selector, join_selectors_up, join_selectors_down, join_decls_up, join_decls_down, shared, share}
use Rattle.step_laws.specs.Steps.{IsStep, HaveSameDecls}
use Rattle.plan_laws.specs.Window.StepWindows.{IsWindowOf}
use Rattle.plan_laws.specs.Window.Windows.{IsWindow}
use Rattle.plan_laws.proofs.Window.Both.{decl_removed, selector_removed, without_in, left_in, left_kept, from_both, of_upper, of_lower, from_joined, of_upper_decls, of_lower_decls}
use Rattle.plan_laws.proofs.Window.Splitting.{split_at, one_at, one_edited, two_edited}

-- ---- One item

-- what is moved is that of a rule, of which no pair goes
module _ (items : List Item) (n : ℕ) (by : List Item) (r : RuleParts) (at : slice_get items n ≡ Some (Rule r)) where
  abbrev m : Moved
  m = whole_rule n r

  abbrev behind : List Item
  behind = drop (n + 1) items

  before : take n items ≡ slice_range items 0 n
  before = let e : n ≡ n - 0 = omega arith in ap (λ (k : ℕ). take k items) e

  one_window : ((p : Pair) → HasPair items p → HasPair (edited (one_change n by m) items) p) → ((p : Pair) → HasPair by p → InRule r p) → kept_items by ≡ [] →
      IsWindow items (edited (one_change n by m) items) m [] (slice_range items 0 0 ++ (slice_range items 0 n ++ slice_range items n (n + 1))) ([] ++ (slice_range items 0 n ++ by)) behind
  one_window goes less rules = subst (λ (xs : List Item). IsWindow items (edited (one_change n by m) items) m [] (xs ++ slice_range items n (n + 1)) (xs ++ by) behind) before (record {
    old_is = split_at items n (Rule r) at ∙ sym (append_assoc (take n items) (Rule r ∷ []) behind) ∙ ap (λ (xs : List Item). (take n items ++ xs) ++ behind) (sym (one_at items n (Rule r) at));
    new_is = one_edited items n by m (Rule r) at ∙ sym (append_assoc (take n items) by behind);
    stands = λ p moved. (old p ((moved_is m p).0 moved), new p ((moved_is m p).0 moved));
    none_comes = λ q h. comes q ((has_append (take n items) by q).0 h);
    kept = filter-append is_kept (take n items) (slice_range items n (n + 1)) ∙ ap (λ (xs : List Item). kept_items (take n items) ++ kept_items xs) (one_at items n (Rule r) at)
        ∙ ap (λ (xs : List Item). kept_items (take n items) ++ xs) (sym rules) ∙ sym (filter-append is_kept (take n items) by);
  })
    where
      here : (p : Pair) → InRule r p → HasPair (slice_range items n (n + 1)) p
      here p h = subst (λ (xs : List Item). HasPair xs p) (sym (one_at items n (Rule r) at)) ((has_rule r p).1 h)

      old : (p : Pair) → InRule r p → HasPair (take n items ++ slice_range items n (n + 1)) p
      old p h = (has_append (take n items) (slice_range items n (n + 1)) p).1 (inr (here p h))

      stood : (p : Pair) → InRule r p → HasPair items p
      stood p h = subst (λ (xs : List Item). HasPair xs p) (sym (split_at items n (Rule r) at))
          ((has_append (take n items) (Rule r ∷ behind) p).1 (inr ((has_append (Rule r ∷ []) behind p).1 (inl ((has_rule r p).1 h)))))

      new : (p : Pair) → InRule r p → HasPair (take n items ++ by) p ⊎ HasPair behind p
      new p h = (has_append (take n items ++ by) behind p).0 (subst (λ (xs : List Item). HasPair xs p) (one_edited items n by m (Rule r) at ∙ sym (append_assoc (take n items) by behind)) (goes p (stood p h)))

      comes : (q : Pair) → HasPair (take n items) q ⊎ HasPair by q → HasPair (take n items ++ slice_range items n (n + 1)) q
      comes q (inl h) = (has_append (take n items) (slice_range items n (n + 1)) q).1 (inl h)
      comes q (inr h) = old q (less q h)

-- ---- Two items

module _ (items : List Item) (x y : ℕ) (above below : List Item) (m : Moved) (u l : RuleParts) (are : AreRules items x y u l) where
  abbrev between : List Item
  between = slice_range items (x + 1) y

  abbrev last_behind : List Item
  last_behind = drop (y + 1) items

  -- of each of three parts
  in_three : (a b c : List Item) (p : Pair) → HasPair (a ++ (b ++ c)) p → HasPair a p ⊎ HasPair b p ⊎ HasPair c p
  in_three a b c p h = which ((has_append a (b ++ c) p).0 h)
    where
      rest : HasPair b p ⊎ HasPair c p → HasPair a p ⊎ HasPair b p ⊎ HasPair c p
      rest (inl g) = inr (inl g)
      rest (inr g) = inr (inr g)

      which : HasPair a p ⊎ HasPair (b ++ c) p → HasPair a p ⊎ HasPair b p ⊎ HasPair c p
      which (inl g) = inl g
      which (inr g) = rest ((has_append b c p).0 g)

  of_ends : (a b c : List Item) (p : Pair) → HasPair a p ⊎ HasPair c p → HasPair (a ++ (b ++ c)) p
  of_ends a b c p (inl h) = (has_append a (b ++ c) p).1 (inl h)
  of_ends a b c p (inr h) = (has_append a (b ++ c) p).1 (inr ((has_append b c p).1 (inr h)))

  of_middle : (a b c : List Item) (p : Pair) → HasPair b p → HasPair (a ++ (b ++ c)) p
  of_middle a b c p h = (has_append a (b ++ c) p).1 (inr ((has_append b c p).1 (inl h)))

  regroup : (front a b c back : List Item) → front ++ (a ++ (b ++ (c ++ back))) ≡ front ++ ((a ++ (b ++ c)) ++ back)
  regroup front a b c back = ap (λ (xs : List Item). front ++ xs) (ap (λ (xs : List Item). a ++ xs) (sym (append_assoc b c back)) ∙ sym (append_assoc a (b ++ c) back))

  first_is : slice_range items x (x + 1) ≡ Rule u ∷ []
  first_is = one_at items x (Rule u) are.upper_at

  last_is : slice_range items y (y + 1) ≡ Rule l ∷ []
  last_is = one_at items y (Rule l) are.lower_at

  two_window : ((p : Pair) → is_moved m p ≡ true → (InRule u p ⊎ InRule l p) × (HasPair above p ⊎ HasPair below p)) →
      ((q : Pair) → HasPair above q ⊎ HasPair below q → InRule u q ⊎ InRule l q) → kept_items above ≡ [] → kept_items below ≡ [] →
      IsWindow items (edited (two_changes x above y below m) items) m (take x items) (slice_range items x (x + 1) ++ (between ++ slice_range items y (y + 1))) (above ++ (between ++ below)) last_behind
  two_window moves less rules rules' = record {
    old_is = (two_edited items x y above below m (Rule u) (Rule l) are.upper_at are.lower_at are.in_order).1
        ∙ regroup (take x items) (Rule u ∷ []) between (Rule l ∷ []) last_behind
        ∙ ap₂ (λ (a c : List Item). take x items ++ ((a ++ (between ++ c)) ++ last_behind)) (sym first_is) (sym last_is);
    new_is = (two_edited items x y above below m (Rule u) (Rule l) are.upper_at are.lower_at are.in_order).0 ∙ regroup (take x items) above between below last_behind;
    stands = λ p moved. let w = moves p moved in
        (of_ends (slice_range items x (x + 1)) between (slice_range items y (y + 1)) p (ends p w.0), inl (of_ends above between below p w.1));
    none_comes = λ q h. comes q (in_three above between below q h);
    kept = filter-append is_kept (slice_range items x (x + 1)) (between ++ slice_range items y (y + 1))
        ∙ ap₂ (λ (xs ys : List Item). kept_items xs ++ ys) first_is (filter-append is_kept between (slice_range items y (y + 1)) ∙ ap (λ (xs : List Item). kept_items between ++ kept_items xs) last_is)
        ∙ sym (filter-append is_kept above (between ++ below) ∙ ap₂ (λ (xs ys : List Item). xs ++ ys) rules (filter-append is_kept between below ∙ ap (λ (xs : List Item). kept_items between ++ xs) rules'));
  }
    where
      ends : (p : Pair) → InRule u p ⊎ InRule l p → HasPair (slice_range items x (x + 1)) p ⊎ HasPair (slice_range items y (y + 1)) p
      ends p (inl h) = inl (subst (λ (xs : List Item). HasPair xs p) (sym first_is) ((has_rule u p).1 h))
      ends p (inr h) = inr (subst (λ (xs : List Item). HasPair xs p) (sym last_is) ((has_rule l p).1 h))

      comes : (q : Pair) → HasPair above q ⊎ HasPair between q ⊎ HasPair below q → HasPair (slice_range items x (x + 1) ++ (between ++ slice_range items y (y + 1))) q
      comes q (inl h) = of_ends (slice_range items x (x + 1)) between (slice_range items y (y + 1)) q (ends q (less q (inl h)))
      comes q (inr (inl h)) = of_middle (slice_range items x (x + 1)) between (slice_range items y (y + 1)) q h
      comes q (inr (inr h)) = of_ends (slice_range items x (x + 1)) between (slice_range items y (y + 1)) q (ends q (less q (inr h)))

nowhere : (q : Pair) → HasPair [] q → ⊥
nowhere q h = let e = h.1.rule_at in cc

-- ---- Each kind

module _ (items : List Item) (x y : ℕ) (u l : RuleParts) (are : AreRules items x y u l) where
  selectors_up : HaveSameSelectors u l → IsWindowOf items (JoinSelUp x y) (join_selectors_up x y u l)
  selectors_up same = two_window items x y (Rule (joined u l) ∷ []) [] (whole_rule y l) u l are
      (λ p moved. let h : InRule l p = (moved_is (whole_rule y l) p).0 moved in (inr h, inl ((has_rule (joined u l) p).1 ((same p.selector).1 h.0, of_lower_decls u l p.decl h.1))))
      (λ q h. less q h) refl refl
    where
      of : (q : Pair) → Contains (selectors_of u) q.selector → Contains (decls u.decls) q.decl ⊎ Contains (decls l.decls) q.decl → InRule u q ⊎ InRule l q
      of q s (inl d) = inl (s, d)
      of q s (inr d) = inr ((same q.selector).0 s, d)

      less : (q : Pair) → HasPair (Rule (joined u l) ∷ []) q ⊎ HasPair [] q → InRule u q ⊎ InRule l q
      less q (inl h) = let g : InRule (joined u l) q = (has_rule (joined u l) q).0 h in of q g.0 (from_joined u l q.decl g.1)
      less q (inr h) = absurd (nowhere q h)

  abbrev joined_down : RuleParts
  joined_down = record { selectors = l.selectors; decls = u.decls ++ l.decls }

  selectors_down : HaveSameSelectors u l → IsWindowOf items (JoinSelDown x y) (join_selectors_down x y u l)
  selectors_down same = two_window items x y [] (Rule joined_down ∷ []) (whole_rule x u) u l are
      (λ p moved. let h : InRule u p = (moved_is (whole_rule x u) p).0 moved in (inl h, inr ((has_rule joined_down p).1 ((same p.selector).0 h.0, of_upper_decls u l p.decl h.1))))
      (λ q h. less q h) refl refl
    where
      of : (q : Pair) → Contains (selectors_of l) q.selector → Contains (decls u.decls) q.decl ⊎ Contains (decls l.decls) q.decl → InRule u q ⊎ InRule l q
      of q s (inl d) = inl ((same q.selector).1 s, d)
      of q s (inr d) = inr (s, d)

      less : (q : Pair) → HasPair [] q ⊎ HasPair (Rule joined_down ∷ []) q → InRule u q ⊎ InRule l q
      less q (inl h) = absurd (nowhere q h)
      less q (inr h) = let g : InRule joined_down q = (has_rule joined_down q).0 h in of q g.0 (from_joined u l q.decl g.1)

  abbrev both_up : RuleParts
  both_up = record { selectors = both_selectors u l; decls = u.decls }

  decls_up : decls u.decls ≡ decls l.decls → IsWindowOf items (JoinDeclUp x y) (join_decls_up x y u l)
  decls_up same = two_window items x y (Rule both_up ∷ []) [] (whole_rule y l) u l are
      (λ p moved. let h : InRule l p = (moved_is (whole_rule y l) p).0 moved in (inr h, inl ((has_rule both_up p).1 (of_lower u l p.selector h.0, subst (λ (xs : List Decl). Contains xs p.decl) (sym same) h.1))))
      (λ q h. less q h) refl refl
    where
      of : (q : Pair) → Contains (decls u.decls) q.decl → Contains (selectors_of u) q.selector ⊎ Contains (selectors_of l) q.selector → InRule u q ⊎ InRule l q
      of q d (inl s) = inl (s, d)
      of q d (inr s) = inr (s, subst (λ (xs : List Decl). Contains xs q.decl) same d)

      less : (q : Pair) → HasPair (Rule both_up ∷ []) q ⊎ HasPair [] q → InRule u q ⊎ InRule l q
      less q (inl h) = let g : InRule both_up q = (has_rule both_up q).0 h in of q g.1 (from_both u l q.selector g.0)
      less q (inr h) = absurd (nowhere q h)

  abbrev both_down : RuleParts
  both_down = record { selectors = both_selectors u l; decls = l.decls }

  decls_down : decls u.decls ≡ decls l.decls → IsWindowOf items (JoinDeclDown x y) (join_decls_down x y u l)
  decls_down same = two_window items x y [] (Rule both_down ∷ []) (whole_rule x u) u l are
      (λ p moved. let h : InRule u p = (moved_is (whole_rule x u) p).0 moved in (inl h, inr ((has_rule both_down p).1 (of_upper u l p.selector h.0, subst (λ (xs : List Decl). Contains xs p.decl) same h.1))))
      (λ q h. less q h) refl refl
    where
      of : (q : Pair) → Contains (decls l.decls) q.decl → Contains (selectors_of u) q.selector ⊎ Contains (selectors_of l) q.selector → InRule u q ⊎ InRule l q
      of q d (inl s) = inl (s, subst (λ (xs : List Decl). Contains xs q.decl) (sym same) d)
      of q d (inr s) = inr (s, d)

      less : (q : Pair) → HasPair [] q ⊎ HasPair (Rule both_down ∷ []) q → InRule u q ⊎ InRule l q
      less q (inl h) = absurd (nowhere q h)
      less q (inr h) = let g : InRule both_down q = (has_rule both_down q).0 h in of q g.1 (from_both u l q.selector g.0)

  abbrev common : Moved
  common = record { out_of = x ∷ y ∷ []; selectors = both_selectors u l; decls = common_decls u l }

  abbrev upper_left : List Item
  upper_left = rule_or_none (without_decls (common_decls u l) u)

  abbrev lower_left : List Item
  lower_left = rule_or_none (without_decls (common_decls u l) l)

  sharing : IsWindowOf items (Share x y) (share x y u l)
  sharing = two_window items x y upper_left (Rule (shared u l) ∷ lower_left) common u l are
      (λ p moved. let h = (moved_is common p).0 moved in (
        of p (in_common u l p.decl h.1) (from_both u l p.selector h.0),
        inr ((has_append (Rule (shared u l) ∷ []) lower_left p).1 (inl ((has_rule (shared u l) p).1 h))),
      ))
      (λ q h. less q h) (left_kept (without_decls (common_decls u l) u)) (left_kept (without_decls (common_decls u l) l))
    where
      of : (q : Pair) → Contains (decls u.decls) q.decl × Contains (decls l.decls) q.decl → Contains (selectors_of u) q.selector ⊎ Contains (selectors_of l) q.selector → InRule u q ⊎ InRule l q
      of q d (inl s) = inl (s, d.0)
      of q d (inr s) = inr (s, d.1)

      low : (q : Pair) → HasPair (Rule (shared u l) ∷ []) q ⊎ HasPair lower_left q → InRule u q ⊎ InRule l q
      low q (inl h) = let g : InRule (shared u l) q = (has_rule (shared u l) q).0 h in of q (in_common u l q.decl g.1) (from_both u l q.selector g.0)
      low q (inr h) = inr (without_in (common_decls u l) l q (left_in (without_decls (common_decls u l) l) q h))

      less : (q : Pair) → HasPair upper_left q ⊎ HasPair (Rule (shared u l) ∷ lower_left) q → InRule u q ⊎ InRule l q
      less q (inl h) = inl (without_in (common_decls u l) u q (left_in (without_decls (common_decls u l) u) q h))
      less q (inr h) = low q ((has_append (Rule (shared u l) ∷ []) lower_left q).0 h)

cut_decl_window : (items : List Item) (n i : ℕ) (r : RuleParts) → slice_get items n ≡ Some (Rule r) → ((p : Pair) → HasPair items p → HasPair (edited (cut_decl n i r) items) p) → IsWindowOf items (CutDecl n i) (cut_decl n i r)
cut_decl_window items n i r at goes =
    let left : RuleParts = record { selectors = r.selectors; decls = remove r.decls i } in
    one_window items n (rule_or_none left) r at goes (λ p h. decl_removed r i p (left_in left p h)) (left_kept left)

cut_selector_window : (items : List Item) (n i : ℕ) (r : RuleParts) → slice_get items n ≡ Some (Rule r) → ((p : Pair) → HasPair items p → HasPair (edited (cut_selector n i r) items) p) → IsWindowOf items (CutSel n i) (cut_selector n i r)
cut_selector_window items n i r at goes =
    let left : RuleParts = record { selectors = remove r.selectors i; decls = r.decls } in
    one_window items n (rule_or_none left) r at goes (λ p h. selector_removed r i p (left_in left p h)) (left_kept left)

pub steps_have_windows : (items : List Item) (k : Step) (e : Edit) → IsStep items k e → IsWindowOf items k e
steps_have_windows items (CutDecl n i) e is = subst (λ (d : Edit). IsWindowOf items (CutDecl n i) d) (sym is.is) (cut_decl_window items n i is.rule is.rule_at is.no_pair_goes)
steps_have_windows items (CutSel n i) e is = subst (λ (d : Edit). IsWindowOf items (CutSel n i) d) (sym is.is) (cut_selector_window items n i is.rule is.rule_at is.no_pair_goes)
steps_have_windows items (JoinSelUp x y) e is = subst (λ (d : Edit). IsWindowOf items (JoinSelUp x y) d) (sym is.is) (selectors_up items x y is.upper is.lower is.rules is.may)
steps_have_windows items (JoinSelDown x y) e is = subst (λ (d : Edit). IsWindowOf items (JoinSelDown x y) d) (sym is.is) (selectors_down items x y is.upper is.lower is.rules is.may)
steps_have_windows items (JoinDeclUp x y) e is = subst (λ (d : Edit). IsWindowOf items (JoinDeclUp x y) d) (sym is.is) (decls_up items x y is.upper is.lower is.rules is.may)
steps_have_windows items (JoinDeclDown x y) e is = subst (λ (d : Edit). IsWindowOf items (JoinDeclDown x y) d) (sym is.is) (decls_down items x y is.upper is.lower is.rules is.may)
steps_have_windows items (Share x y) e is = subst (λ (d : Edit). IsWindowOf items (Share x y) d) (sym is.is) (sharing items x y is.upper is.lower is.rules)
