-- What a step reverses does not stand in the receiver of a join by selectors alone.
use Rattle.std.proofs.Common.{◌≡◌, ◌≢◌, ◌↔◌, ◌⊎◌, ℕ, ◌+◌, ◌≤◌, true, List, [], ◌∷◌, ◌++◌, refl, sym, ap, ◌∙◌, subst, inl, inr, arith}
use Rattle.std.specs.Prelude.{slice_range}
use Rattle.std.specs.List.{Contains}
use Rattle.std.proofs.lemmas.List.{append_assoc}
use Rattle.std.proofs.lemmas.List.Elements.{Contains-append_right, Contains-append_cases}
use Rattle.css_model.specs.declared.sheet.Decl.{Decl}
use Rattle.css_model.specs.declared.sheet.DeclItem.{DeclItem}
use Rattle.css_model.specs.declared.sheet.Item.{Item}
use Rattle.css_model.specs.declared.sheet.Item.TheVariants.{Rule}
use Rattle.css_model.specs.Cascade.Order.{Pair, IsPairAt, HasPair, IsBefore, IsLast}
use Rattle.css_model.specs.Cascade.Winner.{Place}
use Rattle.css_model.specs.Sheets.RuleParts.{RuleParts}
use Rattle.css_model.specs.Sheets.StyleRule.{selectors_of, HaveSameSelectors, joined}
use Rattle.list_facts.proofs.Members.{Contains-here, Contains-there, Contains-nil, Contains-cons_cases}
use Rattle.list_facts.proofs.SliceRange.{slice_range_parts}
use Rattle.order_laws.proofs.ForCallers.{has_append, BeforeInTwo, before_in_two, InRule, decls, DeclBefore, before_front, before_rule, has_rule, last_or_none, moved_is, same_decl_or_not}
use Rattle.order_laws.specs.Edits.{Edit, is_moved, whole_rule}
use Rattle.order_laws.specs.Reversing.{Differ}
use Rattle.step_laws.specs.declared.step.Step.{Step}
use Rattle.step_laws.specs.declared.step.Step.TheVariants.{CutDecl, CutSel, JoinSelUp, JoinSelDown, JoinDeclUp, JoinDeclDown, Share}
use Rattle.step_laws.specs.StepEdits.{AreRules, join_selectors_up, join_selectors_down}
use Rattle.step_laws.specs.Steps.{IsStep, last_item}
use Rattle.plan_laws.proofs.Window.Both.{of_lower_decls, of_upper_decls}
use Rattle.plan_laws.proofs.Window.Splitting.{one_at}
use Rattle.plan_laws.proofs.Window.StepWindows.{steps_have_windows}
use Rattle.plan_laws.proofs.Window.Telling.{below_above, second_within}
use Rattle.plan_laws.specs.Window.Beside.{beside_part}
use Rattle.plan_laws.specs.Window.StepWindows.{window_start, middle_start, first_part, middle_part, last_part, first_left, last_left}

-- ---- Declarations of two rules, one after the other

in_or_not : (xs : List Decl) (d : Decl) → Contains xs d ⊎ (Contains xs d → ⊥)
in_or_not [] d = inr (λ h. Contains-nil d h)
in_or_not (x ∷ xs) d = which (same_decl_or_not x d) (in_or_not xs d)
  where
    which : (x ≡ d) ⊎ (x ≢ d) → Contains xs d ⊎ (Contains xs d → ⊥) → Contains (x ∷ xs) d ⊎ (Contains (x ∷ xs) d → ⊥)
    which (inl e) rest = inl (subst (λ (z : Decl). Contains (x ∷ xs) z) e (Contains-here x xs))
    which (inr other) (inl h) = inl (Contains-there x xs d h)
    which (inr other) (inr none) = inr (λ h. neither (Contains-cons_cases x xs d h))
      where
        neither : (x ≡ d) ⊎ Contains xs d → ⊥
        neither (inl e) = other e
        neither (inr h) = none h

later_has : (xs : List Decl) (d f : Decl) → DeclBefore xs d f → Contains xs f
later_has [] d f h = absurd h
later_has (x ∷ xs) d f (inl h) = Contains-there x xs f (later_has xs d f h)
later_has (x ∷ xs) d f (inr h) = Contains-there x xs f h.2

-- one that stands in the first list alone comes last before one of the second list
before_across : (xs ys : List Decl) (d f : Decl) → Contains xs d → (Contains ys d → ⊥) → Contains ys f → DeclBefore (xs ++ ys) d f
before_across [] ys d f has none other = absurd (Contains-nil d has)
before_across (x ∷ xs) ys d f has none other = which (in_or_not xs d) (λ h. before_across xs ys d f h none other)
  where
    first : (Contains xs d → ⊥) → (x ≡ d) ⊎ Contains xs d → DeclBefore (x ∷ xs ++ ys) d f
    first lacks (inl e) = inr (e, λ h. neither (Contains-append_cases xs ys d h), Contains-append_right xs ys f other)
      where
        neither : Contains xs d ⊎ Contains ys d → ⊥
        neither (inl h) = lacks h
        neither (inr h) = none h
    first lacks (inr h) = absurd (lacks h)

    which : Contains xs d ⊎ (Contains xs d → ⊥) → (Contains xs d → DeclBefore (xs ++ ys) d f) → DeclBefore (x ∷ xs ++ ys) d f
    which (inl h) again = inl (again h)
    which (inr lacks) again = first lacks (Contains-cons_cases x xs d has)

both_decls : (xs ys : List DeclItem) → decls (xs ++ ys) ≡ decls xs ++ decls ys
both_decls [] ys = refl
both_decls (x ∷ xs) ys = ap (λ (ds : List Decl). x.decl ∷ ds) (both_decls xs ys)

-- ---- What stands, and in which order

has_or_not : (items : List Item) (q : Pair) → HasPair items q ⊎ (HasPair items q → ⊥)
has_or_not items q = which (last_or_none items q)
  where
    which : ((at : Place) × IsLast items q at) ⊎ ((at : Place) → IsPairAt items q at → ⊥) → HasPair items q ⊎ (HasPair items q → ⊥)
    which (inl l) = inl (l.0, l.1.stands)
    which (inr none) = inr (λ h. none h.0 h.1)

nowhere : (q : Pair) → HasPair [] q → ⊥
nowhere q h = let e = h.1.rule_at in cc

-- a pair that stands only above is before no pair that stands below
not_before : (above below : List Item) (p q : Pair) → HasPair below p → (HasPair below q → ⊥) → IsBefore (above ++ below) p q → ⊥
not_before above below p q stands none b = let c = (below_above above below p q stands).0 b in none (c.later, c.second.stands)

-- ---- A join by selectors

module _ (u l : RuleParts) (same : HaveSameSelectors u l) where
  abbrev both : RuleParts
  both = joined u l

  -- of both rules' declarations, with the selectors of either one
  abbrev joined_down : RuleParts
  joined_down = record { selectors = l.selectors; decls = u.decls ++ l.decls }

  -- a pair of the lower rule is before none that does not stand in that rule
  own_up : (p q : Pair) → InRule l p → (InRule l q → ⊥) → IsBefore (Rule both ∷ []) p q → ⊥
  own_up p q has none b =
      let w : InRule both p × InRule both q × DeclBefore (decls (u.decls ++ l.decls)) p.decl q.decl = (before_rule both p q).0 b in
      let order : DeclBefore (decls u.decls ++ decls l.decls) p.decl q.decl = subst (λ (ds : List Decl). DeclBefore ds p.decl q.decl) (both_decls u.decls l.decls) w.2 in
      none ((same q.selector).0 w.1.0, later_has (decls l.decls) p.decl q.decl ((before_front (decls u.decls) (decls l.decls) p.decl q.decl has.1).0 order))

  -- pairs of the lower rule keep their order
  own_down : (p q : Pair) → InRule l p → IsBefore (Rule joined_down ∷ []) p q ↔ IsBefore (Rule l ∷ []) p q
  own_down p q has = (λ b. there ((before_rule joined_down p q).0 b), λ b. back ((before_rule l p q).0 b))
    where
      front : DeclBefore (decls u.decls ++ decls l.decls) p.decl q.decl ↔ DeclBefore (decls l.decls) p.decl q.decl
      front = before_front (decls u.decls) (decls l.decls) p.decl q.decl has.1

      there : InRule joined_down p × InRule joined_down q × DeclBefore (decls (u.decls ++ l.decls)) p.decl q.decl → IsBefore (Rule l ∷ []) p q
      there (first, second, order) =
          let own : DeclBefore (decls l.decls) p.decl q.decl = front.0 (subst (λ (ds : List Decl). DeclBefore ds p.decl q.decl) (both_decls u.decls l.decls) order) in
          (before_rule l p q).1 (has, (second.0, later_has (decls l.decls) p.decl q.decl own), own)

      back : InRule l p × InRule l q × DeclBefore (decls l.decls) p.decl q.decl → IsBefore (Rule joined_down ∷ []) p q
      back (first, second, order) = (before_rule joined_down p q).1 (
        (first.0, of_lower_decls u l p.decl first.1),
        (second.0, of_lower_decls u l q.decl second.1),
        subst (λ (ds : List Decl). DeclBefore ds p.decl q.decl) (sym (both_decls u.decls l.decls)) (front.1 order),
      )

  -- one of the upper rule alone comes before all of the lower rule
  across_down : (p q : Pair) → InRule u p → (InRule l p → ⊥) → InRule l q → IsBefore (Rule joined_down ∷ []) p q
  across_down p q has none other =
      let selector : Contains (selectors_of l) p.selector = (same p.selector).0 has.0 in
      (before_rule joined_down p q).1 (
        (selector, of_upper_decls u l p.decl has.1),
        (other.0, of_lower_decls u l q.decl other.1),
        subst (λ (ds : List Decl). DeclBefore ds p.decl q.decl) (sym (both_decls u.decls l.decls))
            (before_across (decls u.decls) (decls l.decls) p.decl q.decl has.1 (λ h. none (selector, h)) other.1),
      )

  -- ---- Up: before and afterwards no moved pair is before one that stands in the receiver alone

  up_before : (between : List Item) (p q : Pair) → InRule l p → (HasPair (between ++ Rule l ∷ []) q → ⊥) → IsBefore (Rule u ∷ [] ++ (between ++ Rule l ∷ [])) p q → ⊥
  up_before between p q has none b = not_before (Rule u ∷ []) (between ++ Rule l ∷ []) p q ((has_append between (Rule l ∷ []) p).1 (inr ((has_rule l p).1 has))) none b

  up_after : (between : List Item) (p q : Pair) → InRule l p → (HasPair (between ++ Rule l ∷ []) q → ⊥) → IsBefore (Rule both ∷ [] ++ (between ++ [])) p q → ⊥
  up_after between p q has none b = which ((before_in_two (Rule both ∷ []) (between ++ []) p q).0 b)
    where
      lacks : HasPair (between ++ []) q → ⊥
      lacks h = either ((has_append between [] q).0 h)
        where
          either : HasPair between q ⊎ HasPair [] q → ⊥
          either (inl g) = none ((has_append between (Rule l ∷ []) q).1 (inl g))
          either (inr g) = nowhere q g

      which : BeforeInTwo (Rule both ∷ []) (between ++ []) p q → ⊥
      which (inl c) = lacks (c.later, c.second.stands)
      which (inr (inl h)) = lacks h.2
      which (inr (inr h)) = own_up p q has (λ g. none ((has_append between (Rule l ∷ []) q).1 (inr ((has_rule l q).1 g)))) h.2

  up : (between : List Item) (p q : Pair) → InRule l p → Differ (IsBefore (Rule u ∷ [] ++ (between ++ Rule l ∷ [])) p q) (IsBefore (Rule both ∷ [] ++ (between ++ [])) p q) → HasPair (between ++ Rule l ∷ []) q
  up between p q has differ = which (has_or_not (between ++ Rule l ∷ []) q) differ
    where
      which : HasPair (between ++ Rule l ∷ []) q ⊎ (HasPair (between ++ Rule l ∷ []) q → ⊥) →
          Differ (IsBefore (Rule u ∷ [] ++ (between ++ Rule l ∷ [])) p q) (IsBefore (Rule both ∷ [] ++ (between ++ [])) p q) → HasPair (between ++ Rule l ∷ []) q
      which (inl h) d = h
      which (inr none) (inl d) = absurd (up_before between p q has none d.0)
      which (inr none) (inr d) = absurd (up_after between p q has none d.1)

  -- ---- Down: the order with a pair of the receiver stays

  -- of a moved pair that stands in the receiver, too
  down_own : (between : List Item) (p q : Pair) → InRule l p → IsBefore (Rule u ∷ [] ++ (between ++ Rule l ∷ [])) p q ↔ IsBefore (between ++ Rule joined_down ∷ []) p q
  down_own between p q has = (
    λ b. (below_above between (Rule joined_down ∷ []) p q made).1 ((own_down p q has).1 ((below_above between (Rule l ∷ []) p q last).0 ((below_above (Rule u ∷ []) (between ++ Rule l ∷ []) p q rest).0 b))),
    λ b. (below_above (Rule u ∷ []) (between ++ Rule l ∷ []) p q rest).1 ((below_above between (Rule l ∷ []) p q last).1 ((own_down p q has).0 ((below_above between (Rule joined_down ∷ []) p q made).0 b))),
  )
    where
      last : HasPair (Rule l ∷ []) p
      last = (has_rule l p).1 has

      rest : HasPair (between ++ Rule l ∷ []) p
      rest = (has_append between (Rule l ∷ []) p).1 (inr last)

      made : HasPair (Rule joined_down ∷ []) p
      made = (has_rule joined_down p).1 (has.0, of_lower_decls u l p.decl has.1)

  -- of one that does not: it comes before
  down_before : (between : List Item) (p q : Pair) → InRule u p → (InRule l p → ⊥) → InRule l q → IsBefore (Rule u ∷ [] ++ (between ++ Rule l ∷ [])) p q
  down_before between p q has none other = subst (λ (xs : List Item). IsBefore xs p q) (append_assoc (Rule u ∷ []) between (Rule l ∷ []))
      ((before_in_two (Rule u ∷ [] ++ between) (Rule l ∷ []) p q).1 (inr (inl (
        (has_append (Rule u ∷ []) between p).1 (inl ((has_rule u p).1 has)),
        λ h. none ((has_rule l p).0 h),
        (has_rule l q).1 other,
      ))))

  down_after : (between : List Item) (p q : Pair) → InRule u p → (InRule l p → ⊥) → InRule l q → IsBefore (between ++ Rule joined_down ∷ []) p q
  down_after between p q has none other =
      (below_above between (Rule joined_down ∷ []) p q ((has_rule joined_down p).1 ((same p.selector).0 has.0, of_upper_decls u l p.decl has.1))).1 (across_down p q has none other)

  abbrev DiffersDown : List Item → Pair → Pair → Type 0
  DiffersDown between p q = Differ (IsBefore (Rule u ∷ [] ++ (between ++ Rule l ∷ [])) p q) (IsBefore (between ++ Rule joined_down ∷ []) p q)

  never_down : (between : List Item) (p q : Pair) → InRule u p → InRule l q → DiffersDown between p q → ⊥
  never_down between p q has other differ = which (has_or_not (Rule l ∷ []) p) differ
    where
      which : HasPair (Rule l ∷ []) p ⊎ (HasPair (Rule l ∷ []) p → ⊥) → DiffersDown between p q → ⊥
      which (inl h) (inl d) = d.1 ((down_own between p q ((has_rule l p).0 h)).0 d.0)
      which (inl h) (inr d) = d.0 ((down_own between p q ((has_rule l p).0 h)).1 d.1)
      which (inr none) (inl d) = d.1 (down_after between p q has (λ h. none ((has_rule l p).1 h)) other)
      which (inr none) (inr d) = d.0 (down_before between p q has (λ h. none ((has_rule l p).1 h)) other)

  down : (between : List Item) (p q : Pair) → InRule u p → HasPair (Rule u ∷ [] ++ (between ++ Rule l ∷ [])) q → DiffersDown between p q → HasPair (Rule u ∷ [] ++ between) q
  down between p q has stands differ = which ((has_append (Rule u ∷ [] ++ between) (Rule l ∷ []) q).0 (subst (λ (xs : List Item). HasPair xs q) (sym (append_assoc (Rule u ∷ []) between (Rule l ∷ []))) stands))
    where
      which : HasPair (Rule u ∷ [] ++ between) q ⊎ HasPair (Rule l ∷ []) q → HasPair (Rule u ∷ [] ++ between) q
      which (inl h) = h
      which (inr h) = absurd (never_down between p q has ((has_rule l q).0 h) differ)

-- ---- Each kind

-- the whole window
within_is : (items : List Item) (start middle last : ℕ) → start ≤ middle → middle ≤ last →
    slice_range items start middle ++ (slice_range items middle last ++ slice_range items last (last + 1)) ≡ slice_range items start (last + 1)
within_is items start middle last low high =
    ap (λ (xs : List Item). slice_range items start middle ++ xs) (sym (slice_range_parts items middle last (last + 1) high (omega arith)))
    ∙ sym (slice_range_parts items start middle (last + 1) low (omega (arith, high)))

abbrev DiffersIn : List Item → Step → Edit → Pair → Pair → Type 0
DiffersIn items k e p q = Differ (IsBefore (first_part items k ++ (middle_part items k ++ last_part items k)) p q) (IsBefore (first_left e.changes ++ (middle_part items k ++ last_left e.changes)) p q)

-- what is reversed stands in the window
in_parts : (items : List Item) (k : Step) (e : Edit) → IsStep items k e → (p q : Pair) → DiffersIn items k e p q → HasPair (first_part items k ++ (middle_part items k ++ last_part items k)) q
in_parts items k e is p q differ =
    second_within (first_part items k ++ (middle_part items k ++ last_part items k)) (first_left e.changes ++ (middle_part items k ++ last_left e.changes)) p q (steps_have_windows items k e is).none_comes differ

in_whole : (items : List Item) (k : Step) (e : Edit) → IsStep items k e → (p q : Pair) → window_start k ≤ middle_start k → middle_start k ≤ last_item k → DiffersIn items k e p q → HasPair (slice_range items (window_start k) (last_item k + 1)) q
in_whole items k e is p q low high differ = subst (λ (xs : List Item). HasPair xs q) (within_is items (window_start k) (middle_start k) (last_item k) low high) (in_parts items k e is p q differ)

module _ (items : List Item) (x y : ℕ) (u l : RuleParts) (are : AreRules items x y u l) (same : HaveSameSelectors u l) (p q : Pair) where
  abbrev between : List Item
  between = slice_range items (x + 1) y

  first_is : slice_range items x (x + 1) ≡ Rule u ∷ []
  first_is = one_at items x (Rule u) are.upper_at

  last_is : slice_range items y (y + 1) ≡ Rule l ∷ []
  last_is = one_at items y (Rule l) are.lower_at

  ends_are : (after : List Item) → Differ (IsBefore (slice_range items x (x + 1) ++ (between ++ slice_range items y (y + 1))) p q) (IsBefore after p q) → Differ (IsBefore (Rule u ∷ [] ++ (between ++ Rule l ∷ [])) p q) (IsBefore after p q)
  ends_are after differ = subst (λ (xs : List Item). Differ (IsBefore (xs ++ (between ++ Rule l ∷ [])) p q) (IsBefore after p q)) first_is
      (subst (λ (ys : List Item). Differ (IsBefore (slice_range items x (x + 1) ++ (between ++ ys)) p q) (IsBefore after p q)) last_is differ)

  of_up : is_moved (whole_rule y l) p ≡ true → DiffersIn items (JoinSelUp x y) (join_selectors_up x y u l) p q → HasPair (beside_part items (JoinSelUp x y)) q
  of_up moved differ =
      let less = are.in_order in
      subst (λ (xs : List Item). HasPair xs q) (ap (λ (xs : List Item). between ++ xs) (sym last_is) ∙ sym (slice_range_parts items (x + 1) y (y + 1) (omega (arith, less)) (omega arith)))
      (up u l same between p q ((moved_is (whole_rule y l) p).0 moved) (ends_are (Rule (joined u l) ∷ [] ++ (between ++ [])) differ))

  of_down : is_moved (whole_rule x u) p ≡ true → HasPair (slice_range items x (x + 1) ++ (between ++ slice_range items y (y + 1))) q → DiffersIn items (JoinSelDown x y) (join_selectors_down x y u l) p q → HasPair (beside_part items (JoinSelDown x y)) q
  of_down moved stands differ =
      let less = are.in_order in
      let within : HasPair (Rule u ∷ [] ++ (between ++ Rule l ∷ [])) q = subst (λ (xs : List Item). HasPair (xs ++ (between ++ Rule l ∷ [])) q) first_is (subst (λ (ys : List Item). HasPair (slice_range items x (x + 1) ++ (between ++ ys)) q) last_is stands) in
      subst (λ (xs : List Item). HasPair xs q)
      (ap (λ (xs : List Item). xs ++ between) (sym first_is) ∙ sym (slice_range_parts items x (x + 1) y (omega arith) (omega (arith, less))))
      (down u l same between p q ((moved_is (whole_rule x u) p).0 moved) within (ends_are (between ++ Rule (record { selectors = l.selectors; decls = u.decls ++ l.decls }) ∷ []) differ))

pub reversed_stand_beside : (items : List Item) (k : Step) (e : Edit) → IsStep items k e → (p q : Pair) → is_moved e.moved p ≡ true → DiffersIn items k e p q → HasPair (beside_part items k) q
reversed_stand_beside items (CutDecl n i) e is p q moved differ = in_whole items (CutDecl n i) e is p q (omega arith) (omega arith) differ
reversed_stand_beside items (CutSel n i) e is p q moved differ = in_whole items (CutSel n i) e is p q (omega arith) (omega arith) differ
reversed_stand_beside items (JoinSelUp x y) e is p q moved differ =
    subst (λ (d : Edit). is_moved d.moved p ≡ true → DiffersIn items (JoinSelUp x y) d p q → HasPair (beside_part items (JoinSelUp x y)) q) (sym is.is) (of_up items x y is.upper is.lower is.rules is.may p q) moved differ
reversed_stand_beside items (JoinSelDown x y) e is p q moved differ =
    subst (λ (d : Edit). is_moved d.moved p ≡ true → DiffersIn items (JoinSelDown x y) d p q → HasPair (beside_part items (JoinSelDown x y)) q) (sym is.is)
    (λ m d. of_down items x y is.upper is.lower is.rules is.may p q m (in_parts items (JoinSelDown x y) e is p q differ) d) moved differ
reversed_stand_beside items (JoinDeclUp x y) e is p q moved differ = let less = is.rules.in_order in in_whole items (JoinDeclUp x y) e is p q (omega arith) (omega (arith, less)) differ
reversed_stand_beside items (JoinDeclDown x y) e is p q moved differ = let less = is.rules.in_order in in_whole items (JoinDeclDown x y) e is p q (omega arith) (omega (arith, less)) differ
reversed_stand_beside items (Share x y) e is p q moved differ = let less = is.rules.in_order in in_whole items (Share x y) e is p q (omega arith) (omega (arith, less)) differ
