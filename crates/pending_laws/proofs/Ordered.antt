-- The order of priorities is total, and names tell steps apart.
use Rattle.std.proofs.Common.{◌≡◌, ◌≢◌, ◌⊎◌, ◌↔◌, ℕ, zero, suc, ◌<◌, ◌≤◌, true, List, [], ◌∷◌, length, refl, sym, ap, ap₂, ◌∙◌, subst, inl, inr, arith}
use Rattle.std.specs.Prelude.{slice_index}
use Rattle.std.specs.List.{AllPairs}
use Rattle.std.proofs.lemmas.Bool.Decides.{nat_tests}
use Rattle.cascade_laws.proofs.ForCallers.{exceeds-transitive}
use Rattle.css_model.specs.declared.sheet.Item.{Item}
use Rattle.css_model.specs.Cascade.Winner.{exceeds}
use Rattle.order_laws.specs.Edits.{Edit}
use Rattle.plan_laws.specs.Cover.{Priority, IsSooner}
use Rattle.step_laws.specs.declared.step.Step.{Step}
use Rattle.step_laws.specs.declared.step.Step.TheVariants.{CutDecl, CutSel, JoinSelUp, JoinSelDown, JoinDeclUp, JoinDeclDown, Share}
use Rattle.step_laws.specs.Left.{StepsAreOneEdit}
use Rattle.step_laws.specs.Sizes.{size, Saves}
use Rattle.step_laws.specs.Steps.{rank, IsStep, first_item, last_item}
use Rattle.plan_laws.specs.Barrier.Hindering.{priority_of}
use Rattle.plan_laws.specs.Barrier.Renumbering.{renumbered}
use Rattle.pending_laws.specs.Priorities.{PrioritiesAreOrdered, named, AreOrderKeys, first_priority}
use Rattle.pending_laws.proofs.Created.{within}
use Rattle.pending_laws.proofs.Names.{rank_length, not_itself, sooner_order_keyed}

-- ---- Steps by their ranks

of_rank : List ℕ → Step
of_rank (zero ∷ n ∷ i ∷ []) = CutDecl n i
of_rank (suc zero ∷ n ∷ i ∷ []) = CutSel n i
of_rank (suc (suc zero) ∷ x ∷ y ∷ []) = JoinSelUp x y
of_rank (suc (suc (suc zero)) ∷ x ∷ y ∷ []) = JoinSelDown x y
of_rank (suc (suc (suc (suc zero))) ∷ x ∷ y ∷ []) = JoinDeclUp x y
of_rank (suc (suc (suc (suc (suc zero)))) ∷ x ∷ y ∷ []) = JoinDeclDown x y
of_rank (suc (suc (suc (suc (suc (suc n))))) ∷ x ∷ y ∷ []) = Share x y
of_rank _ = CutDecl 0 0

read_back : (k : Step) → of_rank (rank k) ≡ k
unfolding of_rank
read_back (CutDecl n i) = refl
read_back (CutSel n i) = refl
read_back (JoinSelUp x y) = refl
read_back (JoinSelDown x y) = refl
read_back (JoinDeclUp x y) = refl
read_back (JoinDeclDown x y) = refl
read_back (Share x y) = refl

one_step : (j k : Step) → rank j ≡ rank k → j ≡ k
one_step j k e = sym (read_back j) ∙ ap of_rank e ∙ read_back k

-- ---- Priorities

abbrev Ordered : List ℕ → List ℕ → Type 0
Ordered xs ys = (exceeds ys xs ≡ true) ⊎ (xs ≡ ys) ⊎ (exceeds xs ys ≡ true)

which_less : (m n : ℕ) → (m < n) ⊎ (m ≡ n) ⊎ (n < m)
which_less zero zero = inr (inl refl)
which_less zero (suc n) = inl (omega arith)
which_less (suc m) zero = inr (inr (omega arith))
which_less (suc m) (suc n) = next (which_less m n)
  where
    next : (m < n) ⊎ (m ≡ n) ⊎ (n < m) → (suc m < suc n) ⊎ (suc m ≡ suc n) ⊎ (suc n < suc m)
    next (inl h) = inl (omega (arith, h))
    next (inr (inl e)) = inr (inl (ap suc e))
    next (inr (inr h)) = inr (inr (omega (arith, h)))

first_decides : (x y : ℕ) (xs ys : List ℕ) → y < x → exceeds (x ∷ xs) (y ∷ ys) ≡ true
first_decides x y xs ys h = grind (arith, nat_tests)

rest_decides : (x y : ℕ) (xs ys : List ℕ) → x ≡ y → exceeds xs ys ≡ true → exceeds (x ∷ xs) (y ∷ ys) ≡ true
rest_decides x y xs ys e h = grind (arith, nat_tests)

ordered : (xs ys : List ℕ) → length xs ≡ length ys → Ordered xs ys
ordered [] [] same = inr (inl refl)
ordered [] (y ∷ ys) same = absurd (omega arith)
ordered (x ∷ xs) [] same = absurd (omega arith)
ordered (x ∷ xs) (y ∷ ys) same = which (which_less x y) (ordered xs ys (omega (arith, same)))
  where
    which : (x < y) ⊎ (x ≡ y) ⊎ (y < x) → Ordered xs ys → Ordered (x ∷ xs) (y ∷ ys)
    which (inl h) rest = inl (first_decides y x ys xs h)
    which (inr (inr h)) rest = inr (inr (first_decides x y xs ys h))
    which (inr (inl e)) (inl h) = inl (rest_decides y x ys xs (sym e) h)
    which (inr (inl e)) (inr (inl g)) = inr (inl (ap₂ (λ (z : ℕ) (zs : List ℕ). z ∷ zs) e g))
    which (inr (inl e)) (inr (inr h)) = inr (inr (rest_decides x y xs ys e h))

total : (s t : Priority) → IsSooner s t ⊎ (s ≡ t) ⊎ IsSooner t s
total s t = which (which_less s.saving t.saving) (ordered (rank s.step) (rank t.step) (rank_length s.step ∙ sym (rank_length t.step)))
  where
    which : (s.saving < t.saving) ⊎ (s.saving ≡ t.saving) ⊎ (t.saving < s.saving) → Ordered (rank s.step) (rank t.step) → IsSooner s t ⊎ (s ≡ t) ⊎ IsSooner t s
    which (inl h) ranks = inr (inr (inl h))
    which (inr (inr h)) ranks = inl (inl h)
    which (inr (inl e)) (inl h) = inl (inr (e, h))
    which (inr (inl e)) (inr (inl g)) = inr (inl (ap₂ priority_of e (one_step s.step t.step g)))
    which (inr (inl e)) (inr (inr h)) = inr (inr (inr (sym e, h)))

on : (s t u : Priority) → IsSooner s t → IsSooner t u → IsSooner s u
on s t u (inl h) (inl g) = inl (omega (arith, h, g))
on s t u (inl h) (inr g) = inl (let e = g.0 in omega (arith, h, e))
on s t u (inr h) (inl g) = inl (let e = h.0 in omega (arith, e, g))
on s t u (inr h) (inr g) = inr (h.0 ∙ g.0, exceeds-transitive (rank u.step) (rank t.step) (rank s.step) g.1 h.1)

pub are_ordered : PrioritiesAreOrdered
are_ordered = (not_itself, on, total)

-- ---- By order keys

pub told_by_order_keys : PrioritiesAreOrdered → (items : List Item) (order_keys : List ℕ) → AreOrderKeys items order_keys → (j k : Step) (d e : Edit) → IsStep items j d → IsStep items k e →
    (m n : ℕ) → IsSooner (priority_of m j) (priority_of n k) ↔ IsSooner (named order_keys m j) (named order_keys n k)
told_by_order_keys order items order_keys are j k d e is_j is_k m n = (sooner_order_keyed items order_keys are m n j k (within items k e is_k), λ h. which h (order.2 (priority_of m j) (priority_of n k)))
  where
    which : IsSooner (named order_keys m j) (named order_keys n k) → IsSooner (priority_of m j) (priority_of n k) ⊎ (priority_of m j ≡ priority_of n k) ⊎ IsSooner (priority_of n k) (priority_of m j) → IsSooner (priority_of m j) (priority_of n k)
    which h (inl g) = g
    which h (inr (inl same)) =
        let again : named order_keys m j ≡ named order_keys n k = ap (λ (t : Priority). named order_keys t.saving t.step) same in
        absurd (order.0 (named order_keys n k) (subst (λ (t : Priority). IsSooner t (named order_keys n k)) again h))
    which h (inr (inr g)) = absurd (order.0 (named order_keys m j) (order.1 (named order_keys m j) (named order_keys n k) (named order_keys m j) h (sooner_order_keyed items order_keys are n m k j (within items j d is_j) g)))

-- ---- By names that differ

module _ (items : List Item) (names : List ℕ) (beside : length names ≡ length items) (differ : AllPairs (λ x y. x ≢ y) names) where
  one_item : (x y : ℕ) → x < length items → y < length items → slice_index names x ≡ slice_index names y → x ≡ y
  one_item x y less less' same =
      let not_before : x < y → ⊥ = (λ h. differ x y 0 h (omega (arith, beside, less')) same) in
      let not_behind : y < x → ⊥ = (λ h. differ y x 0 h (omega (arith, beside, less)) (sym same)) in
      omega (arith, not_before, not_behind)

  abbrev InRange : Step → Type 0
  InRange k = (first_item k < length items) × (last_item k < length items)

  abbrev Renamed : Step → Step
  Renamed k = renumbered (λ m. slice_index names m) k

  one_named : (j k : Step) → InRange j → InRange k → Renamed j ≡ Renamed k → j ≡ k
  one_named (CutDecl x i) (CutDecl y l) w v e = let a : slice_index names x ≡ slice_index names y = cc in let b : i ≡ l = cc in ap₂ (λ m n. CutDecl m n) (one_item x y w.0 v.0 a) b
  one_named (CutSel x i) (CutSel y l) w v e = let a : slice_index names x ≡ slice_index names y = cc in let b : i ≡ l = cc in ap₂ (λ m n. CutSel m n) (one_item x y w.0 v.0 a) b
  one_named (JoinSelUp x y) (JoinSelUp x' y') w v e = let a : slice_index names x ≡ slice_index names x' = cc in let b : slice_index names y ≡ slice_index names y' = cc in ap₂ (λ m n. JoinSelUp m n) (one_item x x' w.0 v.0 a) (one_item y y' w.1 v.1 b)
  one_named (JoinSelDown x y) (JoinSelDown x' y') w v e = let a : slice_index names x ≡ slice_index names x' = cc in let b : slice_index names y ≡ slice_index names y' = cc in ap₂ (λ m n. JoinSelDown m n) (one_item x x' w.0 v.0 a) (one_item y y' w.1 v.1 b)
  one_named (JoinDeclUp x y) (JoinDeclUp x' y') w v e = let a : slice_index names x ≡ slice_index names x' = cc in let b : slice_index names y ≡ slice_index names y' = cc in ap₂ (λ m n. JoinDeclUp m n) (one_item x x' w.0 v.0 a) (one_item y y' w.1 v.1 b)
  one_named (JoinDeclDown x y) (JoinDeclDown x' y') w v e = let a : slice_index names x ≡ slice_index names x' = cc in let b : slice_index names y ≡ slice_index names y' = cc in ap₂ (λ m n. JoinDeclDown m n) (one_item x x' w.0 v.0 a) (one_item y y' w.1 v.1 b)
  one_named (Share x y) (Share x' y') w v e = let a : slice_index names x ≡ slice_index names x' = cc in let b : slice_index names y ≡ slice_index names y' = cc in ap₂ (λ m n. Share m n) (one_item x x' w.0 v.0 a) (one_item y y' w.1 v.1 b)
  one_named j k w v e = absurd (cc)

pub told_by_names : StepsAreOneEdit → (items : List Item) (names : List ℕ) → length names ≡ length items → AllPairs (λ x y. x ≢ y) names → (j k : Step) (d e : Edit) → IsStep items j d → IsStep items k e →
    (m n : ℕ) → named names m j ≡ named names n k → (m ≡ n) × (j ≡ k) × (d ≡ e)
told_by_names one items names beside differ j k d e is_j is_k m n same =
    let steps : j ≡ k = one_named items names beside differ j k (within items j d is_j) (within items k e is_k) (ap (λ (t : Priority). t.step) same) in
    (ap (λ (t : Priority). t.saving) same, steps, one items k d e (subst (λ (i : Step). IsStep items i d) steps is_j) is_k)

-- ---- The first priority

first_rank : (c x y : ℕ) → exceeds (0 ∷ 0 ∷ 0 ∷ []) (c ∷ x ∷ y ∷ []) ≡ true → ⊥
first_rank c x y h = grind (arith, nat_tests)

none_before : (k : Step) → exceeds (rank (CutDecl 0 0)) (rank k) ≡ true → ⊥
none_before (CutDecl n i) h = first_rank 0 n i h
none_before (CutSel n i) h = first_rank 1 n i h
none_before (JoinSelUp x y) h = first_rank 2 x y h
none_before (JoinSelDown x y) h = first_rank 3 x y h
none_before (JoinDeclUp x y) h = first_rank 4 x y h
none_before (JoinDeclDown x y) h = first_rank 5 x y h
none_before (Share x y) h = first_rank 6 x y h

pub first_is_first : (source : List ℕ) (items : List Item) (bound : ℕ) → size source items ≤ bound → (k : Step) (e : Edit) (n : ℕ) → Saves source items e n →
    (names : List ℕ) → IsSooner (named names n k) (first_priority bound) → ⊥
first_is_first source items bound long k e n saves names (inl h) = absurd (omega (arith, long, saves, h))
first_is_first source items bound long k e n saves names (inr h) = none_before (renumbered (λ m. slice_index names m) k) h.1
