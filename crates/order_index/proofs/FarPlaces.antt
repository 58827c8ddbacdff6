-- The numbers that are so far from one of two.
use Rattle.std.proofs.Common.{◌≡◌, ◌⊎◌, ℕ, zero, suc, ◌+◌, ◌-◌, ◌<◌, ◌≤◌, List, [], ◌∷◌, Option, Some, None, ap, ◌∙◌, subst, inl, inr, arith}
use Rattle.std.specs.Prelude.{slice_get}
use Rattle.std.proofs.lemmas.Bool.Decides.{nat_tests}
use Rattle.cascade_laws.proofs.ForCallers.{some-same}
use Rattle.order_index.specs.Places.{ArePlaces, IsAbove, IsLess, IsMore}
use Rattle.order_laws.specs.Reversed.{distance}

-- ---- One number

less_is : (far number n : ℕ) (o : Option ℕ) → IsLess far number o → n + far ≡ number → o ≡ Some n
less_is far number n None less is = absurd (omega (arith, less, is))
less_is far number n (Some m) less is = let e : m ≡ n = omega (arith, less, is) in ap Some e

more_is : (far number n : ℕ) (o : Option ℕ) → IsMore far number o → n ≡ number + far → 0 < far → o ≡ Some n
more_is far number n None more is some = absurd (omega (arith, more, some))
more_is far number n (Some m) more is some = let m_is = more.0 in let e : m ≡ n = omega (arith, m_is, is) in ap Some e

far_less : (far n number : ℕ) → distance n number ≡ far → (n + far ≡ number) ⊎ ((n ≡ number + far) × (0 < far))
far_less far n number is = which (below n number)
  where
    below : (m k : ℕ) → (m ≤ k) ⊎ (k < m)
    below m k = grind (arith, nat_tests)

    which : (n ≤ number) ⊎ (number < n) → (n + far ≡ number) ⊎ ((n ≡ number + far) × (0 < far))
    which (inl h) = inl (omega (arith, h, is))
    which (inr h) = inr (omega (arith, h, is), omega (arith, h, is))

-- ---- Four places

above_is : (x y : Option ℕ) (m n : ℕ) → IsAbove x y → Some x ≡ Some (Some m) → Some y ≡ Some (Some n) → m < n
above_is x y m n above x_is y_is = subst (λ (o : Option ℕ). IsAbove (Some m) o) (some-same y_is) (subst (λ (o : Option ℕ). IsAbove o y) (some-same x_is) above)

abbrev four : Option ℕ → Option ℕ → Option ℕ → Option ℕ → List (Option ℕ)
four a b c d = a ∷ b ∷ c ∷ d ∷ []

ascend_four : (a b c d : Option ℕ) → IsAbove a b → IsAbove a c → IsAbove a d → IsAbove b c → IsAbove b d → IsAbove c d →
    (i j m n : ℕ) → i < j → slice_get (four a b c d) i ≡ Some (Some m) → slice_get (four a b c d) j ≡ Some (Some n) → m < n
ascend_four a b c d ab ac ad bc bd cd i zero m n less x y = absurd (omega (arith, less))
ascend_four a b c d ab ac ad bc bd cd zero (suc zero) m n less x y = above_is a b m n ab x y
ascend_four a b c d ab ac ad bc bd cd zero (suc (suc zero)) m n less x y = above_is a c m n ac x y
ascend_four a b c d ab ac ad bc bd cd zero (suc (suc (suc zero))) m n less x y = above_is a d m n ad x y
ascend_four a b c d ab ac ad bc bd cd zero (suc (suc (suc (suc j)))) m n less x y = absurd (let e : None ≡ Some (Some n) = y in cc)
ascend_four a b c d ab ac ad bc bd cd (suc zero) (suc zero) m n less x y = absurd (omega (arith, less))
ascend_four a b c d ab ac ad bc bd cd (suc zero) (suc (suc zero)) m n less x y = above_is b c m n bc x y
ascend_four a b c d ab ac ad bc bd cd (suc zero) (suc (suc (suc zero))) m n less x y = above_is b d m n bd x y
ascend_four a b c d ab ac ad bc bd cd (suc zero) (suc (suc (suc (suc j)))) m n less x y = absurd (let e : None ≡ Some (Some n) = y in cc)
ascend_four a b c d ab ac ad bc bd cd (suc (suc zero)) (suc zero) m n less x y = absurd (omega (arith, less))
ascend_four a b c d ab ac ad bc bd cd (suc (suc zero)) (suc (suc zero)) m n less x y = absurd (omega (arith, less))
ascend_four a b c d ab ac ad bc bd cd (suc (suc zero)) (suc (suc (suc zero))) m n less x y = above_is c d m n cd x y
ascend_four a b c d ab ac ad bc bd cd (suc (suc zero)) (suc (suc (suc (suc j)))) m n less x y = absurd (let e : None ≡ Some (Some n) = y in cc)
ascend_four a b c d ab ac ad bc bd cd (suc (suc (suc zero))) (suc zero) m n less x y = absurd (omega (arith, less))
ascend_four a b c d ab ac ad bc bd cd (suc (suc (suc zero))) (suc (suc zero)) m n less x y = absurd (omega (arith, less))
ascend_four a b c d ab ac ad bc bd cd (suc (suc (suc zero))) (suc (suc (suc zero))) m n less x y = absurd (omega (arith, less))
ascend_four a b c d ab ac ad bc bd cd (suc (suc (suc zero))) (suc (suc (suc (suc j)))) m n less x y = absurd (let e : None ≡ Some (Some n) = y in cc)
ascend_four a b c d ab ac ad bc bd cd (suc (suc (suc (suc i)))) (suc j) m n less x y = absurd (let e : None ≡ Some (Some m) = x in cc)

no_end : (x : Option ℕ) → IsAbove x None
no_end None = tt
no_end (Some n) = tt

-- ---- One number twice

less_more : (far m n : ℕ) (x y : Option ℕ) → m ≤ n → IsLess far m x → IsMore far n y → IsAbove x y
less_more far m n None y low less more = tt
less_more far m n (Some i) None low less more = tt
less_more far m n (Some i) (Some j) low less more = let j_is = more.0 in let some = more.1 in omega (arith, low, less, j_is, some)

less_less : (far m n : ℕ) (x y : Option ℕ) → m < n → IsLess far m x → IsLess far n y → IsAbove x y
less_less far m n None y low first second = tt
less_less far m n (Some i) None low first second = tt
less_less far m n (Some i) (Some j) low first second = omega (arith, low, first, second)

more_more : (far m n : ℕ) (x y : Option ℕ) → m < n → IsMore far m x → IsMore far n y → IsAbove x y
more_more far m n None y low first second = tt
more_more far m n (Some i) None low first second = tt
more_more far m n (Some i) (Some j) low first second = let i_is = first.0 in let j_is = second.0 in omega (arith, low, i_is, j_is)

more_less : (far m n : ℕ) (x y : Option ℕ) → m + (far + far) < n → IsMore far m x → IsLess far n y → IsAbove x y
more_less far m n None y low first second = tt
more_less far m n (Some i) None low first second = tt
more_less far m n (Some i) (Some j) low first second = let i_is = first.0 in omega (arith, low, i_is, second)

less_more_near : (far m n : ℕ) (x y : Option ℕ) → n < m + (far + far) → IsLess far n x → IsMore far m y → IsAbove x y
less_more_near far m n None y near first second = tt
less_more_near far m n (Some i) None near first second = tt
less_more_near far m n (Some i) (Some j) near first second = let j_is = second.0 in omega (arith, near, first, j_is)

abbrev Has : List (Option ℕ) → ℕ → Type 0
Has places n = (i : ℕ) × (i < 4) × (slice_get places i ≡ Some (Some n))

module _ (far upper lower : ℕ) (first last : Option ℕ) (first_is : IsLess far upper first) (last_is : IsMore far lower last) where
  pub places_of_one : upper ≡ lower → ArePlaces far upper lower (four first last None None)
  places_of_one same = record {
    all = λ n h. either n (far_of n h);
    ascend = ascend_four first last None None (less_more far upper lower first last (omega (arith, same)) first_is last_is) (no_end first) (no_end first) (no_end last) (no_end last) tt;
  }
    where
      far_of : (n : ℕ) → (distance n upper ≡ far) ⊎ (distance n lower ≡ far) → (n + far ≡ upper) ⊎ ((n ≡ upper + far) × (0 < far))
      far_of n (inl h) = far_less far n upper h
      far_of n (inr h) = far_less far n upper (ap (distance n) same ∙ h)

      either : (n : ℕ) → (n + far ≡ upper) ⊎ ((n ≡ upper + far) × (0 < far)) → Has (four first last None None) n
      either n (inl h) = (0, omega arith, ap Some (less_is far upper n first first_is h))
      either n (inr h) = let n_is = h.0 in (1, omega arith, ap Some (more_is far lower n last last_is (omega (arith, n_is, same)) h.1))

  module _ (second third : Option ℕ) (second_is : IsLess far lower second) (third_is : IsMore far upper third) (apart : upper < lower) where
    abbrev Four : ℕ → Type 0
    Four n = ((n + far ≡ upper) ⊎ ((n ≡ upper + far) × (0 < far))) ⊎ ((n + far ≡ lower) ⊎ ((n ≡ lower + far) × (0 < far)))

    one_of_four : (n : ℕ) → (distance n upper ≡ far) ⊎ (distance n lower ≡ far) → Four n
    one_of_four n (inl h) = inl (far_less far n upper h)
    one_of_four n (inr h) = inr (far_less far n lower h)

    pub places_of_three : far + far ≡ lower - upper → ArePlaces far upper lower (four first second last None)
    places_of_three middle = record {
      all = λ n h. at n (one_of_four n h);
      ascend = ascend_four first second last None (less_less far upper lower first second apart first_is second_is) (less_more far upper lower first last (omega (arith, apart)) first_is last_is) (no_end first) (less_more far lower lower second last (omega arith) second_is last_is) (no_end second) (no_end last);
    }
      where
        at : (n : ℕ) → Four n → Has (four first second last None) n
        at n (inl (inl h)) = (0, omega arith, ap Some (less_is far upper n first first_is h))
        at n (inl (inr h)) = let n_is = h.0 in (1, omega arith, ap Some (less_is far lower n second second_is (omega (arith, n_is, middle, apart))))
        at n (inr (inl h)) = (1, omega arith, ap Some (less_is far lower n second second_is h))
        at n (inr (inr h)) = (2, omega arith, ap Some (more_is far lower n last last_is h.0 h.1))

    pub places_between : far + far < lower - upper → ArePlaces far upper lower (four first third second last)
    places_between near = record {
      all = λ n h. at n (one_of_four n h);
      ascend = ascend_four first third second last (less_more far upper upper first third (omega arith) first_is third_is) (less_less far upper lower first second apart first_is second_is) (less_more far upper lower first last (omega (arith, apart)) first_is last_is) (more_less far upper lower third second (omega (arith, near)) third_is second_is) (more_more far upper lower third last apart third_is last_is) (less_more far lower lower second last (omega arith) second_is last_is);
    }
      where
        at : (n : ℕ) → Four n → Has (four first third second last) n
        at n (inl (inl h)) = (0, omega arith, ap Some (less_is far upper n first first_is h))
        at n (inl (inr h)) = (1, omega arith, ap Some (more_is far upper n third third_is h.0 h.1))
        at n (inr (inl h)) = (2, omega arith, ap Some (less_is far lower n second second_is h))
        at n (inr (inr h)) = (3, omega arith, ap Some (more_is far lower n last last_is h.0 h.1))

    pub places_past : lower - upper < far + far → ArePlaces far upper lower (four first second third last)
    places_past past = record {
      all = λ n h. at n (one_of_four n h);
      ascend = ascend_four first second third last (less_less far upper lower first second apart first_is second_is) (less_more far upper upper first third (omega arith) first_is third_is) (less_more far upper lower first last (omega (arith, apart)) first_is last_is) (less_more_near far upper lower second third (omega (arith, past)) second_is third_is) (less_more far lower lower second last (omega arith) second_is last_is) (more_more far upper lower third last apart third_is last_is);
    }
      where
        at : (n : ℕ) → Four n → Has (four first second third last) n
        at n (inl (inl h)) = (0, omega arith, ap Some (less_is far upper n first first_is h))
        at n (inl (inr h)) = (2, omega arith, ap Some (more_is far upper n third third_is h.0 h.1))
        at n (inr (inl h)) = (1, omega arith, ap Some (less_is far lower n second second_is h))
        at n (inr (inr h)) = (3, omega arith, ap Some (more_is far lower n last last_is h.0 h.1))
