-- Steps by their kind and their two numbers, in their order, and sets of them.
use Rattle.std.proofs.Common.{◌≡◌, ◌⊎◌, ℕ, true, List, [], ◌∷◌, map, refl, sym, ap, ap₂, subst, inl, inr, ◌∙◌, arith}
use Rattle.std.specs.List.{All, AllByRecursion, AllPairs, Contains}
use Rattle.std.specs.List.Sorted.{IsStrictlySortedBy}
use Rattle.std.specs.declared.cmp.Ordering.{Ordering}
use Rattle.std.specs.declared.cmp.Ordering.TheVariants.{Less, Equal, Greater}
use Rattle.std.specs.BTreeSet.{insert_key}
use Rattle.std.specs.Ordering.{match_ordering, nat_cmp, ordering_then}
use Rattle.std.proofs.lemmas.Bool.Decides.{nat_tests}
use Rattle.std.proofs.lemmas.List.Elements.{All-from_recursion, All-map, All-weaker}
use Rattle.std.proofs.lemmas.List.Kept.{AllPairs-cons}
use Rattle.list_facts.proofs.Members.{Contains-cons_cases, Contains-here, Contains-nil, Contains-there}
use Rattle.css_model.specs.Cascade.Winner.{exceeds}
use Rattle.rule_tables.specs.Entries.{Puts}
use Rattle.step_candidates.specs.contracts.found.RankedOrd.TheImpl as ranked_ord
use Rattle.step_candidates.specs.declared.found.Ranked.{Ranked}
use Rattle.step_candidates.specs.Ranking.{ranked_step}
use Rattle.step_kinds.specs.declared.kind.Kind.{Kind}
use Rattle.step_kinds.specs.StepsByKind.{kind_number, step_of_kind}
use Rattle.step_kinds.proofs.ForCallers.{kind_cmp, kinds_compare, same_kind, rank_of}
use Rattle.step_laws.specs.declared.step.Step.{Step}
use Rattle.step_laws.specs.Steps.{StandsBefore, rank}

abbrev pub ranked_cmp : Ranked → Ranked → Ordering
ranked_cmp = (ranked_ord.ghosts).cmp

-- ---- The order

is_same : (x y : ℕ) → nat_cmp x y ≡ Equal → x ≡ y
is_same x y e = grind (arith, nat_tests)

then_equal : (o p : Ordering) → ordering_then o p ≡ Equal → (o ≡ Equal) × (p ≡ Equal)
then_equal Less p e = absurd (cc)
then_equal Equal p e = (refl, e)
then_equal Greater p e = absurd (cc)

same_step : (a b : Ranked) → ranked_cmp a b ≡ Equal → ranked_step a ≡ ranked_step b
same_step a b e =
    let k = then_equal (kind_cmp a.kind b.kind) (ordering_then (nat_cmp a.first b.first) (nat_cmp a.second b.second)) e in
    let f = then_equal (nat_cmp a.first b.first) (nat_cmp a.second b.second) k.1 in
    ap (λ (kind : Kind). step_of_kind kind a.first a.second) (same_kind a.kind b.kind (is_same (kind_number a.kind) (kind_number b.kind) (sym (kinds_compare a.kind b.kind) ∙ k.0)))
    ∙ ap₂ (step_of_kind b.kind) (is_same a.first b.first f.0) (is_same a.second b.second f.1)

exceeds_by : (k x y k' x' y' : ℕ) → ordering_then (nat_cmp k k') (ordering_then (nat_cmp x x') (nat_cmp y y')) ≡ Less → exceeds (k' ∷ x' ∷ y' ∷ []) (k ∷ x ∷ y ∷ []) ≡ true
exceeds_by k x y k' x' y' less = grind (arith, nat_tests)

stands_before : (a b : Ranked) → ranked_cmp a b ≡ Less → StandsBefore (ranked_step a) (ranked_step b)
stands_before a b less =
    ap₂ exceeds (rank_of b.kind b.first b.second) (rank_of a.kind a.first a.second)
    ∙ exceeds_by (kind_number a.kind) a.first a.second (kind_number b.kind) b.first b.second
    (ap (λ (o : Ordering). ordering_then o (ordering_then (nat_cmp a.first b.first) (nat_cmp a.second b.second))) (sym (kinds_compare a.kind b.kind)) ∙ less)

all_before : (a : Ranked) (keys : List Ranked) → AllByRecursion (λ b. ranked_cmp a b ≡ Less) keys → All (StandsBefore (ranked_step a)) (map ranked_step keys)
all_before a keys all = All-map (StandsBefore (ranked_step a)) ranked_step keys
    (All-weaker (λ b. ranked_cmp a b ≡ Less) (λ b. StandsBefore (ranked_step a) (ranked_step b)) (stands_before a) keys (All-from_recursion (λ b. ranked_cmp a b ≡ Less) keys all))

pub ascends : (keys : List Ranked) → IsStrictlySortedBy ranked_cmp keys → AllPairs StandsBefore (map ranked_step keys)
unfolding IsStrictlySortedBy
ascends [] sorted = λ i j d less short. absurd (omega (arith, short))
ascends (a ∷ keys) sorted = AllPairs-cons StandsBefore (ranked_step a) (map ranked_step keys) (all_before a keys sorted.0) (ascends keys sorted.1)

-- ---- One step more

abbrev steps : List Ranked → List Step
steps keys = map ranked_step keys

is_put : (k : Ranked) (keys : List Ranked) → Contains (steps (insert_key ranked_cmp keys k)) (ranked_step k)
is_put k [] = Contains-here (ranked_step k) []
is_put k (x ∷ keys) = which (ranked_cmp k x) refl (is_put k keys)
  where
    which : (o : Ordering) → ranked_cmp k x ≡ o → Contains (steps (insert_key ranked_cmp keys k)) (ranked_step k) →
        Contains (steps (match_ordering o (k ∷ x ∷ keys) (x ∷ keys) (x ∷ insert_key ranked_cmp keys k))) (ranked_step k)
    which Less e rest = Contains-here (ranked_step k) (steps (x ∷ keys))
    which Equal e rest = subst (Contains (steps (x ∷ keys))) (sym (same_step k x e)) (Contains-here (ranked_step x) (steps keys))
    which Greater e rest = Contains-there (ranked_step x) (steps (insert_key ranked_cmp keys k)) (ranked_step k) rest

stays : (k : Ranked) (keys : List Ranked) (s : Step) → Contains (steps keys) s → Contains (steps (insert_key ranked_cmp keys k)) s
stays k [] s h = absurd (Contains-nil s h)
stays k (x ∷ keys) s h = which (ranked_cmp k x) (stays k keys s)
  where
    which : (o : Ordering) → (Contains (steps keys) s → Contains (steps (insert_key ranked_cmp keys k)) s) → Contains (steps (match_ordering o (k ∷ x ∷ keys) (x ∷ keys) (x ∷ insert_key ranked_cmp keys k))) s
    which Less rest = Contains-there (ranked_step k) (steps (x ∷ keys)) s h
    which Equal rest = h
    which Greater rest = elim (Contains-cons_cases (ranked_step x) (steps keys) s h) [
      | inl e ↦ subst (Contains (steps (x ∷ insert_key ranked_cmp keys k))) e (Contains-here (ranked_step x) (steps (insert_key ranked_cmp keys k)))
      | inr g ↦ Contains-there (ranked_step x) (steps (insert_key ranked_cmp keys k)) s (rest g)
    ]

only_put : (k : Ranked) (keys : List Ranked) (s : Step) → Contains (steps (insert_key ranked_cmp keys k)) s → Contains (steps keys) s ⊎ (ranked_step k ≡ s)
only_put k [] s h = elim (Contains-cons_cases (ranked_step k) [] s h) [ inl e ↦ inr e | inr g ↦ inl g ]
only_put k (x ∷ keys) s h = which (ranked_cmp k x) (only_put k keys s) h
  where
    which : (o : Ordering) → (Contains (steps (insert_key ranked_cmp keys k)) s → Contains (steps keys) s ⊎ (ranked_step k ≡ s)) →
        Contains (steps (match_ordering o (k ∷ x ∷ keys) (x ∷ keys) (x ∷ insert_key ranked_cmp keys k))) s → Contains (steps (x ∷ keys)) s ⊎ (ranked_step k ≡ s)
    which Less rest h = elim (Contains-cons_cases (ranked_step k) (steps (x ∷ keys)) s h) [ inl e ↦ inr e | inr g ↦ inl g ]
    which Equal rest h = inl h
    which Greater rest h = among (Contains-cons_cases (ranked_step x) (steps (insert_key ranked_cmp keys k)) s h)
      where
        behind : Contains (steps keys) s ⊎ (ranked_step k ≡ s) → Contains (steps (x ∷ keys)) s ⊎ (ranked_step k ≡ s)
        behind (inl g) = inl (Contains-there (ranked_step x) (steps keys) s g)
        behind (inr e) = inr e

        among : (ranked_step x ≡ s) ⊎ Contains (steps (insert_key ranked_cmp keys k)) s → Contains (steps (x ∷ keys)) s ⊎ (ranked_step k ≡ s)
        among (inl e) = inl (subst (Contains (steps (x ∷ keys))) e (Contains-here (ranked_step x) (steps keys)))
        among (inr g) = behind (rest g)

puts : (k : Ranked) (keys : List Ranked) → Puts (steps keys) (ranked_step k ∷ []) (steps (insert_key ranked_cmp keys k))
puts k keys s = (there, back)
  where
    there : Contains (steps (insert_key ranked_cmp keys k)) s → Contains (steps keys) s ⊎ Contains (ranked_step k ∷ []) s
    there h = elim (only_put k keys s h) [ inl g ↦ inl g | inr e ↦ inr (subst (Contains (ranked_step k ∷ [])) e (Contains-here (ranked_step k) [])) ]

    back : Contains (steps keys) s ⊎ Contains (ranked_step k ∷ []) s → Contains (steps (insert_key ranked_cmp keys k)) s
    back (inl h) = stays k keys s h
    back (inr h) = elim (Contains-cons_cases (ranked_step k) [] s h) [
      | inl e ↦ subst (Contains (steps (insert_key ranked_cmp keys k))) e (is_put k keys)
      | inr g ↦ absurd (Contains-nil s g)
    ]

pub put_step : (k : Ranked) (step : Step) (keys keys' : List Ranked) (old : List Step) → ranked_step k ≡ step → steps keys ≡ old → keys' ≡ insert_key ranked_cmp keys k → Puts old (step ∷ []) (steps keys')
put_step k step keys keys' old is was put =
    subst (λ (xs : List Ranked). Puts old (step ∷ []) (steps xs)) (sym put)
    (subst (λ (xs : List Step). Puts xs (step ∷ []) (steps (insert_key ranked_cmp keys k))) was
    (subst (λ (s : Step). Puts (steps keys) (s ∷ []) (steps (insert_key ranked_cmp keys k))) is (puts k keys)))
