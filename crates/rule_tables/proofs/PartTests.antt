-- Whether parts of rules stand among others.
use Rattle.std.proofs.Common.{◌≡◌, ◌⊎◌, ◌↔◌, ℕ, zero, suc, ◌+◌, ◌<◌, Bool, true, false, List, [], ◌∷◌, ◌++◌, Some, length, map, take, drop, refl, sym, ap, subst, inl, inr, ◌∙◌, true≢false, arith}
use Rattle.std.specs.Prelude.{get_or, slice_get}
use Rattle.std.specs.List.{Contains, remove}
use Rattle.std.proofs.lemmas.List.{map-append}
use Rattle.std.proofs.lemmas.List.Elements.{Contains-append_cases, Contains-append_left, Contains-append_right}
use Rattle.cascade_laws.proofs.ForCallers.{some-same}
use Rattle.list_facts.proofs.Members.{Contains-cons_cases, Contains-here, Contains-nil, Contains-there}

-- ---- Tests one after the other

module _ {A B : Type 0} (a : Bool) (first : (a ≡ true) ↔ A) where
  pub one_first : {H : Type 0} → (H ↔ (A ⊎ B)) → a ≡ true → (true ≡ true) ↔ H
  one_first is e = (λ h. is.1 (inl (first.0 e)), λ h. refl)

  pub one_second : {H : Type 0} → (H ↔ (A ⊎ B)) → a ≡ false → (b : Bool) → ((b ≡ true) ↔ B) → (b ≡ true) ↔ H
  one_second is e b second = (λ h. is.1 (inr (second.0 h)), λ h. which (is.0 h))
    where
      which : A ⊎ B → b ≡ true
      which (inl x) = absurd (true≢false (sym (first.1 x) ∙ e))
      which (inr y) = second.1 y

-- ---- Among the others of a list

module _ {X Y : Type 0} (f : X → Y) where
  pub others_are : (xs : List X) (n m : ℕ) (y : Y) → m ≡ n + 1 → Contains (map f (remove xs n)) y ↔ (Contains (map f (take n xs)) y ⊎ Contains (map f (drop m xs)) y)
  others_are xs n m y e = (there, back)
    where
      is : map f (remove xs n) ≡ map f (take n xs) ++ map f (drop m xs)
      is = map-append f (take n xs) (drop (suc n) xs) ∙ ap (λ (k : ℕ). map f (take n xs) ++ map f (drop k xs)) (let g : suc n ≡ m = omega (arith, e) in g)

      there : Contains (map f (remove xs n)) y → Contains (map f (take n xs)) y ⊎ Contains (map f (drop m xs)) y
      there h = Contains-append_cases (map f (take n xs)) (map f (drop m xs)) y (subst (λ (zs : List Y). Contains zs y) is h)

      back : Contains (map f (take n xs)) y ⊎ Contains (map f (drop m xs)) y → Contains (map f (remove xs n)) y
      back (inl h) = subst (λ (zs : List Y). Contains zs y) (sym is) (Contains-append_left (map f (take n xs)) (map f (drop m xs)) y h)
      back (inr h) = subst (λ (zs : List Y). Contains zs y) (sym is) (Contains-append_right (map f (take n xs)) (map f (drop m xs)) y h)

  -- ---- Each of a list, one after the other

  pub record AreDone (P : Y → Type 0) (all rest : List X) : Type 0 where
    pub done : (y : Y) → Contains (map f all) y → P y ⊎ Contains (map f rest) y
    pub within : (y : Y) → Contains (map f rest) y → Contains (map f all) y

  pub none_done : (P : Y → Type 0) (all : List X) → AreDone P all all
  none_done P all = record { done = λ y h. inr h; within = λ y h. h }

  pub one_done : (P : Y → Type 0) (all rest behind : List X) (x : X) → rest ≡ x ∷ behind → P (f x) → AreDone P all rest → AreDone P all behind
  one_done P all rest behind x is here w = record {
    done = λ y h. which y (w.done y h);
    within = λ y h. w.within y (subst (λ (zs : List X). Contains (map f zs) y) (sym is) (Contains-there (f x) (map f behind) y h));
  }
    where
      which : (y : Y) → P y ⊎ Contains (map f rest) y → P y ⊎ Contains (map f behind) y
      which y (inl p) = inl p
      which y (inr h) = elim (Contains-cons_cases (f x) (map f behind) y (subst (λ (zs : List X). Contains (map f zs) y) is h)) [
        | inl e ↦ inl (subst P e here)
        | inr r ↦ inr r
      ]

  pub not_done : (P : Y → Type 0) (all rest behind : List X) (x : X) → rest ≡ x ∷ behind → (P (f x) → ⊥) → AreDone P all rest → (false ≡ true) ↔ ((y : Y) → Contains (map f all) y → P y)
  not_done P all rest behind x is none w = (
    λ h. absurd (true≢false (sym h)),
    λ each. absurd (none (each (f x) (w.within (f x) (subst (λ (zs : List X). Contains (map f zs) (f x)) (sym is) (Contains-here (f x) (map f behind)))))),
  )

  pub all_done : (P : Y → Type 0) (all rest : List X) → rest ≡ [] → AreDone P all rest → (true ≡ true) ↔ ((y : Y) → Contains (map f all) y → P y)
  all_done P all rest is w = (λ h y c. which y (w.done y c), λ each. refl)
    where
      which : (y : Y) → P y ⊎ Contains (map f rest) y → P y
      which y (inl p) = p
      which y (inr h) = absurd (Contains-nil y (subst (λ (zs : List X). Contains (map f zs) y) is h))

pub got : {X : Type 0} (xs : List X) (i : ℕ) (x : X) → i < length xs → ((d : X) → x ≡ get_or xs i d) → slice_get xs i ≡ Some x
got [] i x less is = absurd (omega (arith, less))
got (y ∷ xs) zero x less is = ap Some (sym (is y))
got (y ∷ xs) (suc i) x less is = got xs i x (omega (arith, less)) is

-- what holds of the element of a number
pub pending_is : {X : Type 0} (P : X → Type 0) (xs : List X) (i : ℕ) (x : X) → slice_get xs i ≡ Some x → ((y : X) × (slice_get xs i ≡ Some y) × P y) ↔ P x
pending_is P xs i x at = (λ (y, is, p). subst P (some-same (sym is ∙ at)) p, λ p. (x, at, p))
