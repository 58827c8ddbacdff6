-- Sets of entries and of order keys, by what they have.
use Rattle.std.proofs.Common.{◌≡◌, ◌⊎◌, inl, inr, List, [], ◌∷◌, map, sym, subst, Result, Ok, Err, OnErr, OnOk}
use Rattle.std.specs.List.{Contains}
use Rattle.list_facts.proofs.Members.{Contains-cons_cases, Contains-here, Contains-nil, Contains-there}
use Rattle.rule_tables.specs.Entries.{Puts, PutsSome, TakesOut}

-- ---- Several changes, one after the other

module _ {X : Type 0} where
  pub puts_none : (a : List X) → Puts a [] a
  puts_none a x = (λ h. inl h, back)
    where
      back : Contains a x ⊎ Contains [] x → Contains a x
      back (inl h) = h
      back (inr h) = absurd (Contains-nil x h)

  cons_cases : (y : X) (ys : List X) (x : X) → Contains (y ∷ ys) x → Contains (y ∷ []) x ⊎ Contains ys x
  cons_cases y ys x h = elim (Contains-cons_cases y ys x h) [
    | inl e ↦ inl (subst (λ (z : X). Contains (z ∷ []) x) (sym e) (Contains-here x []))
    | inr r ↦ inr r
  ]

  first_in : (y : X) (ys : List X) (x : X) → Contains (y ∷ []) x → Contains (y ∷ ys) x
  first_in y ys x h = elim (Contains-cons_cases y [] x h) [
    | inl e ↦ subst (λ (z : X). Contains (z ∷ ys) x) (sym e) (Contains-here x ys)
    | inr r ↦ absurd (Contains-nil x r)
  ]

  pub puts_more : (a b c : List X) (y : X) (ys : List X) → Puts a (y ∷ []) b → Puts b ys c → Puts a (y ∷ ys) c
  puts_more a b c y ys f g x = (λ h. there ((g x).0 h), λ h. (g x).1 (back h))
    where
      there : Contains b x ⊎ Contains ys x → Contains a x ⊎ Contains (y ∷ ys) x
      there (inl h) = elim ((f x).0 h) [ inl k ↦ inl k | inr k ↦ inr (first_in y ys x k) ]
      there (inr h) = inr (Contains-there y ys x h)

      back : Contains a x ⊎ Contains (y ∷ ys) x → Contains b x ⊎ Contains ys x
      back (inl h) = inl ((f x).1 (inl h))
      back (inr h) = elim (cons_cases y ys x h) [ inl k ↦ inl ((f x).1 (inr k)) | inr k ↦ inr k ]

  pub some_put : (a b : List X) (ys : List X) → b ≡ a → PutsSome a ys b
  some_put a b ys e x = (λ h. subst (λ (zs : List X). Contains zs x) (sym e) h, λ h. inl (subst (λ (zs : List X). Contains zs x) e h))

  pub all_put : (a b : List X) (ys : List X) → Puts a ys b → PutsSome a ys b
  all_put a b ys f x = (λ h. (f x).1 (inl h), λ h. (f x).0 h)

  pub some_more : (a b c : List X) (y : X) (ys : List X) → Puts a (y ∷ []) b → PutsSome b ys c → PutsSome a (y ∷ ys) c
  some_more a b c y ys f g x = (λ h. (g x).0 ((f x).1 (inl h)), λ h. there ((g x).1 h))
    where
      there : Contains b x ⊎ Contains ys x → Contains a x ⊎ Contains (y ∷ ys) x
      there (inl h) = elim ((f x).0 h) [ inl k ↦ inl k | inr k ↦ inr (first_in y ys x k) ]
      there (inr h) = inr (Contains-there y ys x h)

  takes_none : (a : List X) → TakesOut a [] a
  takes_none a x = (λ h. (h, Contains-nil x), λ h. h.0)

  pub takes_more : (a b c : List X) (y : X) (ys : List X) → TakesOut a (y ∷ []) b → TakesOut b ys c → TakesOut a (y ∷ ys) c
  takes_more a b c y ys f g x = (there, back)
    where
      there : Contains c x → Contains a x × ¬ Contains (y ∷ ys) x
      there h =
          let rest : Contains b x × ¬ Contains ys x = (g x).0 h in
          let first : Contains a x × ¬ Contains (y ∷ []) x = (f x).0 rest.0 in
          (first.0, λ k. elim (cons_cases y ys x k) [ inl i ↦ first.1 i | inr i ↦ rest.1 i ])

      back : Contains a x × ¬ Contains (y ∷ ys) x → Contains c x
      back (h, other) = (g x).1 ((f x).1 (h, λ k. other (first_in y ys x k)), λ k. other (Contains-there y ys x k))

-- ---- Of the parts of a rule

module _ {S X : Type 0} (f : S → X) where
  pub mapped : (xs : List S) (x : S) → Contains xs x → Contains (map f xs) (f x)
  mapped [] x h = absurd (Contains-nil x h)
  mapped (y ∷ ys) x h = elim (Contains-cons_cases y ys x h) [
    | inl e ↦ subst (λ (z : S). Contains (f z ∷ map f ys) (f x)) (sym e) (Contains-here (f x) (map f ys))
    | inr r ↦ Contains-there (f y) (map f ys) (f x) (mapped ys x r)
  ]

  pub unmapped : (xs : List S) (y : X) → Contains (map f xs) y → (x : S) × Contains xs x × (f x ≡ y)
  unmapped [] y h = absurd (Contains-nil y h)
  unmapped (x ∷ xs) y h = elim (Contains-cons_cases (f x) (map f xs) y h) [
    | inl e ↦ (x, Contains-here x xs, e)
    | inr r ↦ (let k : (z : S) × Contains xs z × (f z ≡ y) = unmapped xs y r in (k.0, Contains-there x xs k.0 k.1, k.2))
  ]

  pub puts_step : (rest behind : List S) (first : S) → rest ≡ first ∷ behind → (a b c : List X) (y : X) → y ≡ f first → Puts a (y ∷ []) b → Puts b (map f behind) c → Puts a (map f rest) c
  puts_step rest behind first is a b c y same g h =
      subst (λ (s : List S). Puts a (map f s) c) (sym is) (puts_more a b c (f first) (map f behind) (subst (λ (z : X). Puts a (z ∷ []) b) same g) h)

  pub takes_step : (rest behind : List S) (first : S) → rest ≡ first ∷ behind → (a b c : List X) (y : X) → y ≡ f first → TakesOut a (y ∷ []) b → TakesOut b (map f behind) c → TakesOut a (map f rest) c
  takes_step rest behind first is a b c y same g h =
      subst (λ (s : List S). TakesOut a (map f s) c) (sym is) (takes_more a b c (f first) (map f behind) (subst (λ (z : X). TakesOut a (z ∷ []) b) same g) h)

  pub takes_end : (rest : List S) → rest ≡ [] → (a : List X) → TakesOut a (map f rest) a
  takes_end rest is a = subst (λ (s : List S). TakesOut a (map f s) a) (sym is) (takes_none a)

  pub some_step : (rest behind : List S) (first : S) → rest ≡ first ∷ behind → (a b c : List X) (y : X) → y ≡ f first → Puts a (y ∷ []) b → PutsSome b (map f behind) c → PutsSome a (map f rest) c
  some_step rest behind first is a b c y same g h =
      subst (λ (s : List S). PutsSome a (map f s) c) (sym is) (some_more a b c (f first) (map f behind) (subst (λ (z : X). Puts a (z ∷ []) b) same g) h)

  pub puts_end : (rest : List S) → rest ≡ [] → (a : List X) → Puts a (map f rest) a
  puts_end rest is a = subst (λ (s : List S). Puts a (map f s) a) (sym is) (puts_none a)

pub given_some : {A E P : Type 0} (r : Result A E) → P → OnErr r P
given_some (Ok a) p = tt
given_some (Err e) p = p

pub then_ok : {A E P Q : Type 0} (r : Result A E) → (P → Q) → OnOk r P → OnOk r Q
then_ok (Ok a) f h = f h
then_ok (Err e) f h = tt

pub then_err : {A E P Q : Type 0} (r : Result A E) → (P → Q) → OnErr r P → OnErr r Q
then_err (Ok a) f h = tt
then_err (Err e) f h = f h
