-- Candidates in order, and sets of them.
use Rattle.std.proofs.Common.{◌≡◌, ◌⊎◌, ℕ, ◌<◌, true, List, [], ◌∷◌, map, Option, Some, None, refl, sym, ap, ap₂, ◌∙◌, subst, inl, inr, arith}
use Rattle.std.specs.Prelude.{IfSome}
use Rattle.std.specs.List.{All, Contains}
use Rattle.std.specs.BTreeMap.Range.{IsLtBy}
use Rattle.std.specs.declared.cmp.Ordering.{Ordering}
use Rattle.std.specs.declared.cmp.Ordering.TheVariants.{Less, Equal, Greater}
use Rattle.std.specs.Ordering.{nat_cmp, ordering_then, match_ordering}
use Rattle.std.specs.BTreeSet.{insert_key}
use Rattle.std.proofs.lemmas.Bool.{false≢true}
use Rattle.std.proofs.lemmas.Bool.Decides.{nat_tests}
use Rattle.std.proofs.lemmas.List.Elements.{All-contains}
use Rattle.css_model.specs.Cascade.Winner.{exceeds}
use Rattle.pending_laws.specs.Candidates as pending
use Rattle.step_queue.specs.contracts.candidate.CandidateOrd.TheImpl as candidate_ord
use Rattle.step_queue.specs.contracts.candidate.ScopeOrd.TheImpl as scope_ord
use Rattle.step_kinds.specs.declared.kind.Kind.{Kind}
use Rattle.step_kinds.specs.StepsByKind.{kind_number, step_of_kind}
use Rattle.step_kinds.proofs.ForCallers.{kind_cmp, kinds_compare, same_kind, rank_of}
use Rattle.step_queue.specs.declared.candidate.Candidate.{Candidate}
use Rattle.step_queue.specs.declared.candidate.Scope.{Scope}
use Rattle.step_queue.specs.declared.candidate.Scope.TheVariants.{Alone, Owned, Ups, Downs}
use Rattle.step_queue.specs.Told.{candidate_told}
use Rattle.list_facts.proofs.Members.{Contains-here, Contains-there, Contains-nil, Contains-cons_cases}
use Rattle.order_laws.proofs.ForCallers.{map_from}
use Rattle.plan_laws.specs.Cover.{IsSooner}
use Rattle.pending_laws.specs.Priorities.{PrioritiesAreOrdered}
use Rattle.step_laws.specs.Steps.{rank}

abbrev scope_cmp : Scope → Scope → Ordering
scope_cmp = (scope_ord.ghosts).cmp

abbrev pub candidate_cmp : Candidate → Candidate → Ordering
candidate_cmp = (candidate_ord.ghosts).cmp

-- ---- Scopes

abbrev scope_number : Scope → ℕ
scope_number Alone = 0
scope_number Owned = 1
scope_number Ups = 2
scope_number Downs = 3

scopes : (a b : Scope) → scope_cmp a b ≡ nat_cmp (scope_number a) (scope_number b)
scopes Alone Alone = refl
scopes Owned Owned = refl
scopes Ups Ups = refl
scopes Downs Downs = refl
scopes a b = refl

same_scope : (a b : Scope) → scope_number a ≡ scope_number b → a ≡ b
same_scope Alone Alone e = refl
same_scope Owned Owned e = refl
same_scope Ups Ups e = refl
same_scope Downs Downs e = refl
same_scope a b e = absurd (omega (arith, e))

-- ---- The order of candidates

above : (x y : ℕ) → y < x → nat_cmp x y ≡ Greater
above x y h = grind (arith, nat_tests)

same : (x y : ℕ) → x ≡ y → nat_cmp x y ≡ Equal
same x y e = grind (arith, nat_tests)

pub is_same : (x y : ℕ) → nat_cmp x y ≡ Equal → x ≡ y
is_same x y e = grind (arith, nat_tests)

pub exceeding : (x y : ℕ) (xs ys : List ℕ) → exceeds (x ∷ xs) (y ∷ ys) ≡ true → (y < x) ⊎ ((x ≡ y) × (exceeds xs ys ≡ true))
exceeding x y xs ys h = grind (arith, nat_tests)

one_on : (x y : ℕ) (o : Ordering) (xs ys : List ℕ) → ordering_then (nat_cmp x y) o ≡ Less → exceeds (x ∷ xs) (y ∷ ys) ≡ true → (o ≡ Less) × (exceeds xs ys ≡ true)
one_on x y o xs ys less over = which (exceeding x y xs ys over)
  where
    which : (y < x) ⊎ ((x ≡ y) × (exceeds xs ys ≡ true)) → (o ≡ Less) × (exceeds xs ys ≡ true)
    which (inl h) = absurd (let e : Greater ≡ Less = sym (ap (λ z. ordering_then z o) (above x y h)) ∙ less in cc)
    which (inr h) = (sym (ap (λ z. ordering_then z o) (same x y h.0)) ∙ less, h.1)

-- a candidate does not come before a smaller one
pub not_before : (a b : Candidate) → candidate_cmp a b ≡ Less → IsSooner (candidate_told b).priority (candidate_told a).priority → ⊥
not_before a b less (inl more) = let e : Greater ≡ Less = sym (ap (λ z. ordering_then z (ordering_then (kind_cmp a.kind b.kind) (ordering_then (nat_cmp a.first b.first) (ordering_then (nat_cmp a.second b.second) (ordering_then (nat_cmp a.owner b.owner) (ordering_then (scope_cmp a.scope b.scope) (nat_cmp a.room b.room))))))) (above b.saving.0 a.saving.0 more)) ∙ less in absurd (cc)
not_before a b less (inr (equal, over)) = false≢true last.1
  where
    by_kind : ordering_then (kind_cmp a.kind b.kind) (ordering_then (nat_cmp a.first b.first) (ordering_then (nat_cmp a.second b.second) (ordering_then (nat_cmp a.owner b.owner) (ordering_then (scope_cmp a.scope b.scope) (nat_cmp a.room b.room))))) ≡ Less
    by_kind = sym (ap (λ z. ordering_then z (ordering_then (kind_cmp a.kind b.kind) (ordering_then (nat_cmp a.first b.first) (ordering_then (nat_cmp a.second b.second) (ordering_then (nat_cmp a.owner b.owner) (ordering_then (scope_cmp a.scope b.scope) (nat_cmp a.room b.room))))))) (same b.saving.0 a.saving.0 equal)) ∙ less

    by_number : ordering_then (nat_cmp (kind_number a.kind) (kind_number b.kind)) (ordering_then (nat_cmp a.first b.first) (ordering_then (nat_cmp a.second b.second) (ordering_then (nat_cmp a.owner b.owner) (ordering_then (scope_cmp a.scope b.scope) (nat_cmp a.room b.room))))) ≡ Less
    by_number = subst (λ (z : Ordering). ordering_then z (ordering_then (nat_cmp a.first b.first) (ordering_then (nat_cmp a.second b.second) (ordering_then (nat_cmp a.owner b.owner) (ordering_then (scope_cmp a.scope b.scope) (nat_cmp a.room b.room))))) ≡ Less) (kinds_compare a.kind b.kind) by_kind

    ranks : exceeds (kind_number a.kind ∷ a.first ∷ a.second ∷ []) (kind_number b.kind ∷ b.first ∷ b.second ∷ []) ≡ true
    ranks = subst (λ (xs : List ℕ). exceeds xs (kind_number b.kind ∷ b.first ∷ b.second ∷ []) ≡ true) (rank_of a.kind a.first a.second)
        (subst (λ (ys : List ℕ). exceeds (rank (step_of_kind a.kind a.first a.second)) ys ≡ true) (rank_of b.kind b.first b.second) over)

    firsts : (ordering_then (nat_cmp a.first b.first) (ordering_then (nat_cmp a.second b.second) (ordering_then (nat_cmp a.owner b.owner) (ordering_then (scope_cmp a.scope b.scope) (nat_cmp a.room b.room)))) ≡ Less) × (exceeds (a.first ∷ a.second ∷ []) (b.first ∷ b.second ∷ []) ≡ true)
    firsts = one_on (kind_number a.kind) (kind_number b.kind) (ordering_then (nat_cmp a.first b.first) (ordering_then (nat_cmp a.second b.second) (ordering_then (nat_cmp a.owner b.owner) (ordering_then (scope_cmp a.scope b.scope) (nat_cmp a.room b.room))))) (a.first ∷ a.second ∷ []) (b.first ∷ b.second ∷ []) by_number ranks

    next : (ordering_then (nat_cmp a.second b.second) (ordering_then (nat_cmp a.owner b.owner) (ordering_then (scope_cmp a.scope b.scope) (nat_cmp a.room b.room))) ≡ Less) × (exceeds (a.second ∷ []) (b.second ∷ []) ≡ true)
    next = one_on a.first b.first (ordering_then (nat_cmp a.second b.second) (ordering_then (nat_cmp a.owner b.owner) (ordering_then (scope_cmp a.scope b.scope) (nat_cmp a.room b.room)))) (a.second ∷ []) (b.second ∷ []) firsts.0 firsts.1

    last : (ordering_then (nat_cmp a.owner b.owner) (ordering_then (scope_cmp a.scope b.scope) (nat_cmp a.room b.room)) ≡ Less) × (exceeds [] [] ≡ true)
    last = one_on a.second b.second (ordering_then (nat_cmp a.owner b.owner) (ordering_then (scope_cmp a.scope b.scope) (nat_cmp a.room b.room))) [] [] next.0 next.1

-- ---- Candidates that are told apart

pub then_equal : (o p : Ordering) → ordering_then o p ≡ Equal → (o ≡ Equal) × (p ≡ Equal)
then_equal Less p e = absurd (cc)
then_equal Equal p e = (refl, e)
then_equal Greater p e = absurd (cc)

pub same_candidate : (a b : Candidate) → candidate_cmp a b ≡ Equal → a ≡ b
same_candidate a b e =
    let s = then_equal (nat_cmp b.saving.0 a.saving.0) (ordering_then (kind_cmp a.kind b.kind) (ordering_then (nat_cmp a.first b.first) (ordering_then (nat_cmp a.second b.second) (ordering_then (nat_cmp a.owner b.owner) (ordering_then (scope_cmp a.scope b.scope) (nat_cmp a.room b.room)))))) e in
    let k = then_equal (kind_cmp a.kind b.kind) (ordering_then (nat_cmp a.first b.first) (ordering_then (nat_cmp a.second b.second) (ordering_then (nat_cmp a.owner b.owner) (ordering_then (scope_cmp a.scope b.scope) (nat_cmp a.room b.room))))) s.1 in
    let f = then_equal (nat_cmp a.first b.first) (ordering_then (nat_cmp a.second b.second) (ordering_then (nat_cmp a.owner b.owner) (ordering_then (scope_cmp a.scope b.scope) (nat_cmp a.room b.room)))) k.1 in
    let g = then_equal (nat_cmp a.second b.second) (ordering_then (nat_cmp a.owner b.owner) (ordering_then (scope_cmp a.scope b.scope) (nat_cmp a.room b.room))) f.1 in
    let o = then_equal (nat_cmp a.owner b.owner) (ordering_then (scope_cmp a.scope b.scope) (nat_cmp a.room b.room)) g.1 in
    let r = then_equal (scope_cmp a.scope b.scope) (nat_cmp a.room b.room) o.1 in
    let saving : a.saving.0 ≡ b.saving.0 = sym (is_same b.saving.0 a.saving.0 s.0) in
    let kind : a.kind ≡ b.kind = same_kind a.kind b.kind (is_same (kind_number a.kind) (kind_number b.kind) (sym (kinds_compare a.kind b.kind) ∙ k.0)) in
    let first : a.first ≡ b.first = is_same a.first b.first f.0 in
    let second : a.second ≡ b.second = is_same a.second b.second g.0 in
    let owner : a.owner ≡ b.owner = is_same a.owner b.owner o.0 in
    let scope : a.scope ≡ b.scope = same_scope a.scope b.scope (is_same (scope_number a.scope) (scope_number b.scope) (sym (scopes a.scope b.scope) ∙ r.0)) in
    let room : a.room ≡ b.room = is_same a.room b.room r.1 in
    made saving kind first second owner scope room
  where
    make : ℕ → Kind → (first second owner : ℕ) → Scope → ℕ → Candidate
    make saving kind first second owner scope room = record { saving = record { 0 = saving }; kind = kind; first = first; second = second; owner = owner; scope = scope; room = room }

    made : {s s' f f' g g' o o' r r' : ℕ} {k k' : Kind} {b b' : Scope} → s ≡ s' → k ≡ k' → f ≡ f' → g ≡ g' → o ≡ o' → b ≡ b' → r ≡ r' → make s k f g o b r ≡ make s' k' f' g' o' b' r'
    made {s = s} {s' = s'} {f = f} {f' = f'} {g = g} {g' = g'} {o = o} {o' = o'} {r = r} {r' = r'} {k = k} {k' = k'} {b = b} {b' = b'} hs hk hf hg ho hb hr =
        ap₂ (λ x y. make x y f g o b r) hs hk ∙ ap₂ (λ x y. make s' k' x y o b r) hf hg ∙ ap₂ (λ x y. make s' k' f' g' x y r) ho hb ∙ ap (make s' k' f' g' o' b') hr

pub same_told : (a b : Candidate) → candidate_cmp a b ≡ Equal → candidate_told a ≡ candidate_told b
same_told a b e = ap candidate_told (same_candidate a b e)

-- ---- A candidate more

abbrev pub told_all : List Candidate → List pending.Candidate
told_all ks = map candidate_told ks

pub is_added : (k : Candidate) (ks : List Candidate) → Contains (told_all (insert_key candidate_cmp ks k)) (candidate_told k)
is_added k [] = Contains-here (candidate_told k) []
is_added k (x ∷ ks) = which (candidate_cmp k x) refl (is_added k ks)
  where
    which : (o : Ordering) → candidate_cmp k x ≡ o → Contains (told_all (insert_key candidate_cmp ks k)) (candidate_told k) → Contains (told_all (match_ordering o (k ∷ x ∷ ks) (x ∷ ks) (x ∷ insert_key candidate_cmp ks k))) (candidate_told k)
    which Less e rest = Contains-here (candidate_told k) (told_all (x ∷ ks))
    which Equal e rest = subst (λ (l : pending.Candidate). Contains (told_all (x ∷ ks)) l) (sym (same_told k x e)) (Contains-here (candidate_told x) (told_all ks))
    which Greater e rest = Contains-there (candidate_told x) (told_all (insert_key candidate_cmp ks k)) (candidate_told k) rest

pub still_there : (k : Candidate) (ks : List Candidate) (l : pending.Candidate) → Contains (told_all ks) l → Contains (told_all (insert_key candidate_cmp ks k)) l
still_there k [] l h = absurd (Contains-nil l h)
still_there k (x ∷ ks) l h = which (candidate_cmp k x) (still_there k ks l)
  where
    which : (o : Ordering) → (Contains (told_all ks) l → Contains (told_all (insert_key candidate_cmp ks k)) l) → Contains (told_all (match_ordering o (k ∷ x ∷ ks) (x ∷ ks) (x ∷ insert_key candidate_cmp ks k))) l
    which Less rest = Contains-there (candidate_told k) (told_all (x ∷ ks)) l h
    which Equal rest = h
    which Greater rest = among (Contains-cons_cases (candidate_told x) (told_all ks) l h)
      where
        among : (candidate_told x ≡ l) ⊎ Contains (told_all ks) l → Contains (told_all (x ∷ insert_key candidate_cmp ks k)) l
        among (inl e) = subst (λ (z : pending.Candidate). Contains (told_all (x ∷ insert_key candidate_cmp ks k)) z) e (Contains-here (candidate_told x) (told_all (insert_key candidate_cmp ks k)))
        among (inr g) = Contains-there (candidate_told x) (told_all (insert_key candidate_cmp ks k)) l (rest g)

pub only_added : (k : Candidate) (ks : List Candidate) (l : pending.Candidate) → Contains (told_all (insert_key candidate_cmp ks k)) l → Contains (told_all ks) l ⊎ (l ≡ candidate_told k)
only_added k [] l h = which (Contains-cons_cases (candidate_told k) [] l h)
  where
    which : (candidate_told k ≡ l) ⊎ Contains [] l → Contains [] l ⊎ (l ≡ candidate_told k)
    which (inl e) = inr (sym e)
    which (inr g) = inl g
only_added k (x ∷ ks) l h = which (candidate_cmp k x) (only_added k ks l) h
  where
    which : (o : Ordering) → (Contains (told_all (insert_key candidate_cmp ks k)) l → Contains (told_all ks) l ⊎ (l ≡ candidate_told k)) →
        Contains (told_all (match_ordering o (k ∷ x ∷ ks) (x ∷ ks) (x ∷ insert_key candidate_cmp ks k))) l → Contains (told_all (x ∷ ks)) l ⊎ (l ≡ candidate_told k)
    which Less rest h = among (Contains-cons_cases (candidate_told k) (told_all (x ∷ ks)) l h)
      where
        among : (candidate_told k ≡ l) ⊎ Contains (told_all (x ∷ ks)) l → Contains (told_all (x ∷ ks)) l ⊎ (l ≡ candidate_told k)
        among (inl e) = inr (sym e)
        among (inr g) = inl g
    which Equal rest h = inl h
    which Greater rest h = among (Contains-cons_cases (candidate_told x) (told_all (insert_key candidate_cmp ks k)) l h)
      where
        behind : Contains (told_all ks) l ⊎ (l ≡ candidate_told k) → Contains (told_all (x ∷ ks)) l ⊎ (l ≡ candidate_told k)
        behind (inl g) = inl (Contains-there (candidate_told x) (told_all ks) l g)
        behind (inr e) = inr e

        among : (candidate_told x ≡ l) ⊎ Contains (told_all (insert_key candidate_cmp ks k)) l → Contains (told_all (x ∷ ks)) l ⊎ (l ≡ candidate_told k)
        among (inl e) = inl (subst (λ (z : pending.Candidate). Contains (told_all (x ∷ ks)) z) e (Contains-here (candidate_told x) (told_all ks)))
        among (inr g) = behind (rest g)

-- ---- The first one

pub is_first : PrioritiesAreOrdered → (found : Option Candidate) (old new : List Candidate) → IfSome found (λ k. old ≡ k ∷ new) → IfSome found (λ k. All (IsLtBy candidate_cmp k) new) →
    IfSome found (λ k. (other : pending.Candidate) → Contains (told_all old) other → IsSooner other.priority (candidate_told k).priority → ⊥)
is_first order None old new is all = tt
is_first order (Some k) old new is all = λ other among sooner. which other sooner (Contains-cons_cases (candidate_told k) (told_all new) other (subst (λ (ks : List Candidate). Contains (told_all ks) other) is among))
  where
    which : (other : pending.Candidate) → IsSooner other.priority (candidate_told k).priority → (candidate_told k ≡ other) ⊎ Contains (told_all new) other → ⊥
    which other sooner (inl e) = order.0 (candidate_told k).priority (subst (λ (l : pending.Candidate). IsSooner l.priority (candidate_told k).priority) (sym e) sooner)
    which other sooner (inr g) =
        let w : (x : Candidate) × Contains new x × (candidate_told x ≡ other) = map_from candidate_told new other g in
        not_before k w.0 (All-contains (IsLtBy candidate_cmp k) new w.0 all w.1) (subst (λ (l : pending.Candidate). IsSooner l.priority (candidate_told k).priority) (sym w.2) sooner)
