-- Parts of a list that stand in it once.
use Rattle.std.proofs.Common.{◌≡◌, ◌≢◌, ℕ, ◌+◌, ◌<◌, inl, inr, List, Some, length, map, get_or, sym, ap, ◌∙◌, arith}
use Rattle.std.specs.Prelude.{slice_get}
use Rattle.std.specs.List.{AllPairs, Contains, remove}
use Rattle.std.proofs.lemmas.Bool.{cases_lt}
use Rattle.std.proofs.lemmas.List.{get_or-map, length-map}
use Rattle.std.proofs.lemmas.List.Edits.{length-remove, get_or-remove_above, get_or-remove_below}
use Rattle.std.proofs.lemmas.Option.{get_or_from_slice_get, slice_get_within}
use Rattle.next_step.specs.Once.{StandOnce}

module _ {X Y : Type 0} (f : X → Y) where
  -- Parts differ where the list of them has no two alike.
  pub differ_mapped : (xs : List X) → AllPairs (λ a b. a ≢ b) (map f xs) → StandOnce f xs
  differ_mapped xs differ = λ i j d less within same.
      differ i j (f d) less (rw length-map within) (get_or-map f xs i d (f d) (omega (arith, less, within)) ∙ same ∙ sym (get_or-map f xs j d (f d) within))

  -- A part that no two elements have is not among the others.
  pub no_other : (xs : List X) (n : ℕ) (x : X) → ((i j : ℕ) (d : X) → i < j → j < length xs → f (get_or xs i d) ≡ f (get_or xs j d) → f (get_or xs i d) ≡ f x → ⊥) →
      slice_get xs n ≡ Some x → Contains (map f (remove xs n)) (f x) → ⊥
  no_other xs n x once at (k, within, is) = elim (cases_lt k n) [
    | inl above ↦ once k n x above there (ap f (sym (get_or-remove_below xs n x k above there)) ∙ same ∙ ap f (sym here)) (ap f (sym (get_or-remove_below xs n x k above there)) ∙ same)
    | inr below ↦ once n (k + 1) x (omega (arith, below)) (omega (arith, less, length-remove xs n there)) (ap f here ∙ sym same ∙ ap f (get_or-remove_above xs n x k below there)) (ap f here)
  ]
    where
      there : n < length xs
      there = slice_get_within xs n x at

      here : get_or xs n x ≡ x
      here = get_or_from_slice_get xs n x x at

      less : k < length (remove xs n)
      less = rw length-map at within

      same : f (get_or (remove xs n) k x) ≡ f x
      same = sym (get_or-map f (remove xs n) k x (f x) less) ∙ is

  -- What stands once is not among the others.
  pub once_removed : (xs : List X) (n : ℕ) (x : X) → StandOnce f xs → slice_get xs n ≡ Some x → Contains (map f (remove xs n)) (f x) → ⊥
  once_removed xs n x once = no_other xs n x (λ i j d less within same is. once i j d less within same)
