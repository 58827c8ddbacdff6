-- A list that is put in order has the same entries, and ascends.
use Rattle.std.proofs.Common.{◌≡◌, ◌⊎◌, true, false, List, [], ◌∷◌, refl, sym, ◌∙◌, subst, inl, inr}
use Rattle.std.specs.List.{All, Contains}
use Rattle.std.proofs.lemmas.Bool.{false≢true, cond_both, false_from_ne_true}
use Rattle.std.proofs.lemmas.List.Elements.{All-nil, All-contains, All-weaker, All-contains_itself}
use Rattle.list_facts.proofs.Members.{Contains-here, Contains-there, Contains-nil, Contains-cons_cases}
use Rattle.cascade_laws.proofs.ForCallers.{exceeds-irreflexive, exceeds-transitive, exceeds-not_transitive}
use Rattle.css_model.specs.Cascade.Winner.{exceeds}
use Rattle.order_laws.specs.Reversed.{Reversal, sort_key, put_in, ascending, Ascends}

-- ---- The same entries

put_in_from : (r : Reversal) (rest : List Reversal) (s : Reversal) → Contains (put_in r rest) s → (r ≡ s) ⊎ Contains rest s
put_in_from r [] s = λ h. Contains-cons_cases r [] s h
put_in_from r (t ∷ rest) s =
    cond_both (exceeds (sort_key r) (sort_key t)) (t ∷ put_in r rest) (r ∷ t ∷ rest) (λ ys. Contains ys s → (r ≡ s) ⊎ Contains (t ∷ rest) s)
    (λ behind h. which (put_in_from r rest s) (Contains-cons_cases t (put_in r rest) s h))
    (λ here h. Contains-cons_cases r (t ∷ rest) s h)
  where
    later : (r ≡ s) ⊎ Contains rest s → (r ≡ s) ⊎ Contains (t ∷ rest) s
    later (inl e) = inl e
    later (inr h) = inr (Contains-there t rest s h)

    which : (Contains (put_in r rest) s → (r ≡ s) ⊎ Contains rest s) → (t ≡ s) ⊎ Contains (put_in r rest) s → (r ≡ s) ⊎ Contains (t ∷ rest) s
    which ih (inl e) = inr (subst (λ (z : Reversal). Contains (t ∷ rest) z) e (Contains-here t rest))
    which ih (inr h) = later (ih h)

put_in_has : (r : Reversal) (rest : List Reversal) (s : Reversal) → (r ≡ s) ⊎ Contains rest s → Contains (put_in r rest) s
put_in_has r [] s (inl e) = subst (λ (z : Reversal). Contains (r ∷ []) z) e (Contains-here r [])
put_in_has r [] s (inr h) = absurd (Contains-nil s h)
put_in_has r (t ∷ rest) s h =
    cond_both (exceeds (sort_key r) (sort_key t)) (t ∷ put_in r rest) (r ∷ t ∷ rest) (λ ys. Contains ys s)
    (λ behind. which h (put_in_has r rest s))
    (λ here. first h)
  where
    rest_of : (t ≡ s) ⊎ Contains rest s → ((r ≡ s) ⊎ Contains rest s → Contains (put_in r rest) s) → Contains (t ∷ put_in r rest) s
    rest_of (inl e) ih = subst (λ (z : Reversal). Contains (t ∷ put_in r rest) z) e (Contains-here t (put_in r rest))
    rest_of (inr g) ih = Contains-there t (put_in r rest) s (ih (inr g))

    which : (r ≡ s) ⊎ Contains (t ∷ rest) s → ((r ≡ s) ⊎ Contains rest s → Contains (put_in r rest) s) → Contains (t ∷ put_in r rest) s
    which (inl e) ih = Contains-there t (put_in r rest) s (ih (inl e))
    which (inr g) ih = rest_of (Contains-cons_cases t rest s g) ih

    first : (r ≡ s) ⊎ Contains (t ∷ rest) s → Contains (r ∷ t ∷ rest) s
    first (inl e) = subst (λ (z : Reversal). Contains (r ∷ t ∷ rest) z) e (Contains-here r (t ∷ rest))
    first (inr g) = Contains-there r (t ∷ rest) s g

pub ascending_from : (rs : List Reversal) (s : Reversal) → Contains (ascending rs) s → Contains rs s
ascending_from [] s h = h
ascending_from (r ∷ rs) s h = which (put_in_from r (ascending rs) s h) (ascending_from rs s)
  where
    which : (r ≡ s) ⊎ Contains (ascending rs) s → (Contains (ascending rs) s → Contains rs s) → Contains (r ∷ rs) s
    which (inl e) ih = subst (λ (z : Reversal). Contains (r ∷ rs) z) e (Contains-here r rs)
    which (inr g) ih = Contains-there r rs s (ih g)

pub ascending_has : (rs : List Reversal) (s : Reversal) → Contains rs s → Contains (ascending rs) s
ascending_has [] s h = h
ascending_has (r ∷ rs) s h = put_in_has r (ascending rs) s (which (Contains-cons_cases r rs s h) (ascending_has rs s))
  where
    which : (r ≡ s) ⊎ Contains rs s → (Contains rs s → Contains (ascending rs) s) → (r ≡ s) ⊎ Contains (ascending rs) s
    which (inl e) ih = inl e
    which (inr g) ih = inr (ih g)

-- ---- It ascends

-- what exceeds is not exceeded
one_way : (r s : Reversal) → exceeds (sort_key r) (sort_key s) ≡ true → exceeds (sort_key s) (sort_key r) ≡ false
one_way r s h = false_from_ne_true (exceeds (sort_key s) (sort_key r)) (λ g. false≢true (sym (exceeds-irreflexive (sort_key r)) ∙ exceeds-transitive (sort_key r) (sort_key s) (sort_key r) h g))

-- none of these is before r
abbrev NoneBefore : Reversal → List Reversal → Type 0
NoneBefore r rest = All (λ s. exceeds (sort_key r) (sort_key s) ≡ false) rest

none_before : (r : Reversal) (rest : List Reversal) → ((s : Reversal) → Contains rest s → exceeds (sort_key r) (sort_key s) ≡ false) → NoneBefore r rest
none_before r rest each = All-weaker (Contains rest) (λ s. exceeds (sort_key r) (sort_key s) ≡ false) each rest (All-contains_itself rest)

put_in_ascends : (r : Reversal) (rest : List Reversal) → Ascends rest → Ascends (put_in r rest)
put_in_ascends r [] h = (All-nil (λ s. exceeds (sort_key r) (sort_key s) ≡ false), tt)
put_in_ascends r (t ∷ rest) h =
    cond_both (exceeds (sort_key r) (sort_key t)) (t ∷ put_in r rest) (r ∷ t ∷ rest) Ascends
    (λ behind. (none_before t (put_in r rest) (λ s g. after behind s (put_in_from r rest s g)), put_in_ascends r rest h.1))
    (λ here. (none_before r (t ∷ rest) (λ s g. before here s (Contains-cons_cases t rest s g)), h))
  where
    after : exceeds (sort_key r) (sort_key t) ≡ true → (s : Reversal) → (r ≡ s) ⊎ Contains rest s → exceeds (sort_key t) (sort_key s) ≡ false
    after behind s (inl e) = subst (λ (z : Reversal). exceeds (sort_key t) (sort_key z) ≡ false) e (one_way r t behind)
    after behind s (inr g) = All-contains (λ (z : Reversal). exceeds (sort_key t) (sort_key z) ≡ false) rest s h.0 g

    before : exceeds (sort_key r) (sort_key t) ≡ false → (s : Reversal) → (t ≡ s) ⊎ Contains rest s → exceeds (sort_key r) (sort_key s) ≡ false
    before here s (inl e) = subst (λ (z : Reversal). exceeds (sort_key r) (sort_key z) ≡ false) e here
    before here s (inr g) = exceeds-not_transitive (sort_key r) (sort_key t) (sort_key s) refl here (All-contains (λ (z : Reversal). exceeds (sort_key t) (sort_key z) ≡ false) rest s h.0 g)

pub ascending_ascends : (rs : List Reversal) → Ascends (ascending rs)
ascending_ascends [] = tt
ascending_ascends (r ∷ rs) = put_in_ascends r (ascending rs) (ascending_ascends rs)
