-- Members of a list that are looked at one after the other.
use Rattle.std.proofs.Common.{◌≡◌, ◌⊎◌, inl, inr, List, [], ◌∷◌, map, subst}
use Rattle.std.specs.List.{Contains}
use Rattle.list_facts.proofs.Members.{Contains-cons_cases, Contains-here, Contains-nil, Contains-there}

module _ {X : Type 0} where
  -- of all members each is done or still to come, and so it is once the next one is done, too
  pub one_more : (Done Done' : X → Type 0) (all rest behind : List X) (first : X) → rest ≡ first ∷ behind → ((x : X) → Done x → Done' x) → Done' first →
      ((x : X) → Contains all x → Done x ⊎ Contains rest x) → (x : X) → Contains all x → Done' x ⊎ Contains behind x
  one_more Done Done' all rest behind first is stay done old x among = which (old x among)
    where
      behind_it : (first ≡ x) ⊎ Contains behind x → Done' x ⊎ Contains behind x
      behind_it (inl e) = inl (subst Done' e done)
      behind_it (inr h) = inr h

      which : Done x ⊎ Contains rest x → Done' x ⊎ Contains behind x
      which (inl d) = inl (stay x d)
      which (inr h) = behind_it (Contains-cons_cases first behind x (subst (λ (xs : List X). Contains xs x) is h))

  -- and where none is to come, all are done
  pub all_done : (Done : X → Type 0) (all rest : List X) → rest ≡ [] → ((x : X) → Contains all x → Done x ⊎ Contains rest x) → (x : X) → Contains all x → Done x
  all_done Done all rest none old x among = which (old x among)
    where
      which : Done x ⊎ Contains rest x → Done x
      which (inl d) = d
      which (inr h) = absurd (Contains-nil x (subst (λ (xs : List X). Contains xs x) none h))

  pub only_one : (x y : X) → Contains (x ∷ []) y → x ≡ y
  only_one x y h = which (Contains-cons_cases x [] y h)
    where
      which : (x ≡ y) ⊎ Contains [] y → x ≡ y
      which (inl e) = e
      which (inr g) = absurd (Contains-nil y g)

-- what is made of a part of a member is among what is made of these parts
pub made_among : {S X Y : Type 0} (part : S → X) (made : X → Y) (xs : List S) (x : X) → Contains (map part xs) x → Contains (map (λ y. made (part y)) xs) (made x)
made_among part made [] x h = absurd (Contains-nil x h)
made_among part made (y ∷ ys) x h = elim (Contains-cons_cases (part y) (map part ys) x h) [
  | inl e ↦ subst (λ z. Contains (made (part y) ∷ map (λ y. made (part y)) ys) (made z)) e (Contains-here (made (part y)) (map (λ y. made (part y)) ys))
  | inr r ↦ Contains-there (made (part y)) (map (λ y. made (part y)) ys) (made x) (made_among part made ys x r)
]
