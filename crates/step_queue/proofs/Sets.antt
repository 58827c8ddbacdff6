-- What an ordered set has when one more is put in.
use Rattle.std.proofs.Common.{◌≡◌, ◌⊎◌, List, [], ◌∷◌, refl, sym, subst, inl, inr}
use Rattle.std.specs.List.{Contains}
use Rattle.std.specs.declared.cmp.Ordering.{Ordering}
use Rattle.std.specs.declared.cmp.Ordering.TheVariants.{Less, Equal, Greater}
use Rattle.std.specs.Ordering.{match_ordering}
use Rattle.std.specs.BTreeSet.{insert_key}
use Rattle.list_facts.proofs.Members.{Contains-here, Contains-there, Contains-nil, Contains-cons_cases}

module _ {K : Type 0} (cmp : K → K → Ordering) (same : (a b : K) → cmp a b ≡ Equal → a ≡ b) where
  pub is_put : (k : K) (ks : List K) → Contains (insert_key cmp ks k) k
  is_put k [] = Contains-here k []
  is_put k (x ∷ ks) = which (cmp k x) refl (is_put k ks)
    where
      which : (o : Ordering) → cmp k x ≡ o → Contains (insert_key cmp ks k) k → Contains (match_ordering o (k ∷ x ∷ ks) (x ∷ ks) (x ∷ insert_key cmp ks k)) k
      which Less e rest = Contains-here k (x ∷ ks)
      which Equal e rest = subst (λ (z : K). Contains (x ∷ ks) z) (sym (same k x e)) (Contains-here x ks)
      which Greater e rest = Contains-there x (insert_key cmp ks k) k rest

  pub others_stay : (k : K) (ks : List K) (q : K) → Contains ks q → Contains (insert_key cmp ks k) q
  others_stay k [] q h = absurd (Contains-nil q h)
  others_stay k (x ∷ ks) q h = which (cmp k x) (others_stay k ks q)
    where
      which : (o : Ordering) → (Contains ks q → Contains (insert_key cmp ks k) q) → Contains (match_ordering o (k ∷ x ∷ ks) (x ∷ ks) (x ∷ insert_key cmp ks k)) q
      which Less rest = Contains-there k (x ∷ ks) q h
      which Equal rest = h
      which Greater rest = among (Contains-cons_cases x ks q h)
        where
          among : (x ≡ q) ⊎ Contains ks q → Contains (x ∷ insert_key cmp ks k) q
          among (inl e) = subst (λ (z : K). Contains (x ∷ insert_key cmp ks k) z) e (Contains-here x (insert_key cmp ks k))
          among (inr g) = Contains-there x (insert_key cmp ks k) q (rest g)

  pub one_put : (k : K) (ks : List K) (q : K) → Contains (insert_key cmp ks k) q → Contains ks q ⊎ (q ≡ k)
  one_put k [] q h = which (Contains-cons_cases k [] q h)
    where
      which : (k ≡ q) ⊎ Contains [] q → Contains [] q ⊎ (q ≡ k)
      which (inl e) = inr (sym e)
      which (inr g) = inl g
  one_put k (x ∷ ks) q h = which (cmp k x) (one_put k ks q) h
    where
      which : (o : Ordering) → (Contains (insert_key cmp ks k) q → Contains ks q ⊎ (q ≡ k)) → Contains (match_ordering o (k ∷ x ∷ ks) (x ∷ ks) (x ∷ insert_key cmp ks k)) q → Contains (x ∷ ks) q ⊎ (q ≡ k)
      which Less rest h = among (Contains-cons_cases k (x ∷ ks) q h)
        where
          among : (k ≡ q) ⊎ Contains (x ∷ ks) q → Contains (x ∷ ks) q ⊎ (q ≡ k)
          among (inl e) = inr (sym e)
          among (inr g) = inl g
      which Equal rest h = inl h
      which Greater rest h = among (Contains-cons_cases x (insert_key cmp ks k) q h)
        where
          behind : Contains ks q ⊎ (q ≡ k) → Contains (x ∷ ks) q ⊎ (q ≡ k)
          behind (inl g) = inl (Contains-there x ks q g)
          behind (inr e) = inr e

          among : (x ≡ q) ⊎ Contains (insert_key cmp ks k) q → Contains (x ∷ ks) q ⊎ (q ≡ k)
          among (inl e) = inl (subst (λ (z : K). Contains (x ∷ ks) z) e (Contains-here x ks))
          among (inr g) = behind (rest g)
