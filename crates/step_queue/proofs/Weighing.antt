-- Candidates that come later weigh less.
use Rattle.std.proofs.Common.{◌≡◌, ◌⊎◌, ℕ, ◌+◌, ◌*◌, ◌-◌, ◌^◌, ◌<◌, ◌≤◌, true, false, List, [], ◌∷◌, sym, ap, ◌∙◌, subst, inl, inr, arith}
use Rattle.std.specs.declared.cmp.Ordering.{Ordering}
use Rattle.std.specs.declared.cmp.Ordering.TheVariants.{Less, Equal, Greater}
use Rattle.std.specs.Ordering.{match_ordering}
use Rattle.std.specs.BTreeSet.{insert_key}
use Rattle.std.proofs.lemmas.Bool.{cond_both, cond-false}
use Rattle.css_model.specs.Cascade.Winner.{exceeds}
use Rattle.step_kinds.specs.declared.kind.Kind.{Kind}
use Rattle.step_kinds.specs.StepsByKind.{kind_number, step_of_kind}
use Rattle.step_kinds.proofs.ForCallers.{few_kinds, rank_of}
use Rattle.step_queue.specs.declared.candidate.Candidate.{Candidate}
use Rattle.step_queue.specs.Told.{scope_told, candidate_told}
use Rattle.step_queue.specs.Weights.{weight_of, is_alone, weight, room, total}
use Rattle.step_queue.proofs.Keys.{exceeding, candidate_cmp, told_all}
use Rattle.plan_laws.specs.Cover.{IsSooner}
use Rattle.step_laws.specs.Steps.{rank}

-- ---- One candidate

at_most_six : (k : Kind) → kind_number k ≤ 6
at_most_six k = let h : kind_number k < 7 = few_kinds k in omega (arith, h)

abbrev number : ℕ → ℕ → ℕ → ℕ → ℕ
number n k x y = ((n * 7 + (6 - k)) * 2 ^ 64 + (2 ^ 64 - (x + 1))) * 2 ^ 64 + (2 ^ 64 - y)

weight_is : (l : Candidate) → is_alone (scope_told l.scope) ≡ false → weight (candidate_told l) ≡ number l.saving.0 (kind_number l.kind) l.first l.second * (room + 1)
weight_is l all = cond-false (is_alone (scope_told l.scope)) 1 (weight_of l.saving.0 (rank (step_of_kind l.kind l.first l.second)) * (room + 1)) all
    ∙ ap (λ n. n * (room + 1)) (ap (weight_of l.saving.0) (rank_of l.kind l.first l.second))

by_saving : (n m k j x y z w : ℕ) → k ≤ 6 → j ≤ 6 → x < 2 ^ 64 → y < 2 ^ 64 → z < 2 ^ 64 → w < 2 ^ 64 → m < n → number m j z w < number n k x y
by_saving n m k j x y z w a b c d e f less = omega (arith, a, b, c, d, e, f, less)

by_kind : (n k j x y z w : ℕ) → k ≤ 6 → j ≤ 6 → x < 2 ^ 64 → y < 2 ^ 64 → z < 2 ^ 64 → w < 2 ^ 64 → k < j → number n j z w < number n k x y
by_kind n k j x y z w a b c d e f less = omega (arith, a, b, c, d, e, f, less)

by_first : (n k x y z w : ℕ) → k ≤ 6 → x < 2 ^ 64 → y < 2 ^ 64 → z < 2 ^ 64 → w < 2 ^ 64 → x < z → number n k z w < number n k x y
by_first n k x y z w a c d e f less = omega (arith, a, c, d, e, f, less)

by_second : (n k x y w : ℕ) → k ≤ 6 → x < 2 ^ 64 → y < 2 ^ 64 → w < 2 ^ 64 → y < w → number n k x w < number n k x y
by_second n k x y w a c d f less = omega (arith, a, c, d, f, less)

by_rank : (n k j x y z w : ℕ) → k ≤ 6 → j ≤ 6 → x < 2 ^ 64 → y < 2 ^ 64 → z < 2 ^ 64 → w < 2 ^ 64 → exceeds (j ∷ z ∷ w ∷ []) (k ∷ x ∷ y ∷ []) ≡ true → number n j z w < number n k x y
by_rank n k j x y z w a b c d e f over = kinds (exceeding j k (z ∷ w ∷ []) (x ∷ y ∷ []) over)
  where
    none : (exceeds [] [] ≡ true) → number n j z w < number n k x y
    none h = absurd (cc)

    seconds : j ≡ k → z ≡ x → (y < w) ⊎ ((w ≡ y) × (exceeds [] [] ≡ true)) → number n j z w < number n k x y
    seconds p q (inl less) = subst (λ i. number n i z w < number n k x y) (sym p) (subst (λ i. number n k i w < number n k x y) (sym q) (by_second n k x y w a c d f less))
    seconds p q (inr h) = none h.1

    firsts : j ≡ k → (x < z) ⊎ ((z ≡ x) × (exceeds (w ∷ []) (y ∷ []) ≡ true)) → number n j z w < number n k x y
    firsts p (inl less) = subst (λ i. number n i z w < number n k x y) (sym p) (by_first n k x y z w a c d e f less)
    firsts p (inr h) = seconds p h.0 (exceeding w y [] [] h.1)

    kinds : (k < j) ⊎ ((j ≡ k) × (exceeds (z ∷ w ∷ []) (x ∷ y ∷ []) ≡ true)) → number n j z w < number n k x y
    kinds (inl less) = by_kind n k j x y z w a b c d e f less
    kinds (inr h) = firsts h.0 (exceeding z x (w ∷ []) (y ∷ []) h.1)

numbers_less : (one other : Candidate) → one.first < 2 ^ 64 → one.second < 2 ^ 64 → other.first < 2 ^ 64 → other.second < 2 ^ 64 → IsSooner (candidate_told one).priority (candidate_told other).priority →
    number other.saving.0 (kind_number other.kind) other.first other.second < number one.saving.0 (kind_number one.kind) one.first one.second
numbers_less one other c d e f sooner = which sooner
  where
    a : kind_number one.kind ≤ 6
    a = at_most_six one.kind

    b : kind_number other.kind ≤ 6
    b = at_most_six other.kind

    which : IsSooner (candidate_told one).priority (candidate_told other).priority → number other.saving.0 (kind_number other.kind) other.first other.second < number one.saving.0 (kind_number one.kind) one.first one.second
    which (inl less) = by_saving one.saving.0 other.saving.0 (kind_number one.kind) (kind_number other.kind) one.first one.second other.first other.second a b c d e f less
    which (inr (equal, over)) =
        let ranks : exceeds (kind_number other.kind ∷ other.first ∷ other.second ∷ []) (kind_number one.kind ∷ one.first ∷ one.second ∷ []) ≡ true =
        subst (λ (xs : List ℕ). exceeds xs (kind_number one.kind ∷ one.first ∷ one.second ∷ []) ≡ true) (rank_of other.kind other.first other.second)
        (subst (λ (ys : List ℕ). exceeds (rank (step_of_kind other.kind other.first other.second)) ys ≡ true) (rank_of one.kind one.first one.second) over) in
        subst (λ n. number n (kind_number other.kind) other.first other.second < number one.saving.0 (kind_number one.kind) one.first one.second) equal
        (by_rank one.saving.0 (kind_number one.kind) (kind_number other.kind) one.first one.second other.first other.second a b c d e f ranks)

some_number : (n k x y : ℕ) → y < 2 ^ 64 → 0 < number n k x y
some_number n k x y d = omega (arith, d)

scaled : (m n : ℕ) → m < n → m * (room + 1) + room < n * (room + 1)
scaled m n less = omega (arith, less)

pub weighs_less : (one other : Candidate) → one.first < 2 ^ 64 → one.second < 2 ^ 64 → other.first < 2 ^ 64 → other.second < 2 ^ 64 → is_alone (scope_told one.scope) ≡ false → is_alone (scope_told other.scope) ≡ false →
    IsSooner (candidate_told one).priority (candidate_told other).priority → weight (candidate_told other) + room < weight (candidate_told one)
weighs_less one other c d e f all all' sooner = subst (λ n. n + room < weight (candidate_told one)) (sym (weight_is other all'))
    (subst (λ n. number other.saving.0 (kind_number other.kind) other.first other.second * (room + 1) + room < n) (sym (weight_is one all))
    (scaled (number other.saving.0 (kind_number other.kind) other.first other.second) (number one.saving.0 (kind_number one.kind) one.first one.second) (numbers_less one other c d e f sooner)))

pub weighs_more : (one : Candidate) → one.second < 2 ^ 64 → is_alone (scope_told one.scope) ≡ false → room < weight (candidate_told one)
weighs_more one d all = subst (λ n. room < n) (sym (weight_is one all))
    (scaled 0 (number one.saving.0 (kind_number one.kind) one.first one.second) (some_number one.saving.0 (kind_number one.kind) one.first one.second d))

pub weighs_some : (one : Candidate) → one.second < 2 ^ 64 → 0 < weight (candidate_told one)
weighs_some one d = cond_both (is_alone (scope_told one.scope)) 1 (weight_of one.saving.0 (rank (step_of_kind one.kind one.first one.second)) * (room + 1)) (λ n. 0 < n)
    (λ alone. omega arith)
    (λ all. (let some : room < weight_of one.saving.0 (rank (step_of_kind one.kind one.first one.second)) * (room + 1) = subst (λ n. room < n) (cond-false (is_alone (scope_told one.scope)) 1 (weight_of one.saving.0 (rank (step_of_kind one.kind one.first one.second)) * (room + 1)) all) (weighs_more one d all) in omega (arith, some)))

-- ---- A candidate more

pub added_weighs : (k : Candidate) (ks : List Candidate) → total (told_all (insert_key candidate_cmp ks k)) ≤ total (told_all ks) + weight (candidate_told k)
added_weighs k [] = omega arith
added_weighs k (x ∷ ks) = which (candidate_cmp k x) (added_weighs k ks)
  where
    which : (o : Ordering) → total (told_all (insert_key candidate_cmp ks k)) ≤ total (told_all ks) + weight (candidate_told k) →
        total (told_all (match_ordering o (k ∷ x ∷ ks) (x ∷ ks) (x ∷ insert_key candidate_cmp ks k))) ≤ total (told_all (x ∷ ks)) + weight (candidate_told k)
    which Less rest = omega arith
    which Equal rest = omega arith
    which Greater rest = omega (arith, rest)
