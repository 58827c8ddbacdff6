-- Marks for the code points that stand in values.
use Rattle.std.proofs.Common.{◌≡◌, ◌⊎◌, ℕ, ◌<◌, ◌≤◌, ◌+◌, Bool, true, false, ◌||◌, List, length, refl, sym, ap, inl, inr, ◌∙◌, arith, slice_index_or, get_or-set_other}
use Rattle.std.specs.Prelude.{◌==◌, nat_le, slice_set}
use Rattle.std.proofs.lemmas.Bool.{ne_eqb, eq-eqb, eqb-true, true≢false}
use Rattle.std.proofs.lemmas.Bool.Decides.{leb_tells}
use Rattle.std.proofs.lemmas.Grind.{get_or-set_at}
use Rattle.std.proofs.lemmas.List.{get_or_past}
use Rattle.attr_values.specs.Separators.{first_separator}

or_false : (a : Bool) → a ≡ (a || false)
or_false true = refl
or_false false = refl

or_true : (a : Bool) → true ≡ (a || true)
or_true true = refl
or_true false = refl

-- a code point before `a` marks nothing
pub before_a : (marks : List Bool) (c : ℕ) → c < first_separator → (k : ℕ) →
    slice_index_or marks k false ≡ (slice_index_or marks k false || (c == first_separator + k))
before_a marks c low k =
    or_false (slice_index_or marks k false) ∙
    ap (λ (b : Bool). slice_index_or marks k false || b) (sym (ne_eqb c (first_separator + k) (omega arith)))

-- one mark more, where there are marks up to it
pub one_more : (old long : List Bool) (c place : ℕ) → place + first_separator ≡ c → place < length long →
    ((k : ℕ) → slice_index_or long k false ≡ slice_index_or old k false) → (k : ℕ) →
    slice_index_or (slice_set long place true) k false ≡ (slice_index_or old k false || (c == first_separator + k))
one_more old long c place is within same k = cases (c == first_separator + k) refl
  where
    cases : (b : Bool) → (c == first_separator + k) ≡ b → slice_index_or (slice_set long place true) k false ≡ (slice_index_or old k false || b)
    cases true e =
        let at : c ≡ first_separator + k = eqb-true c (first_separator + k) e in
        get_or-set_at long place k true false (omega arith) within ∙ or_true (slice_index_or old k false)
    cases false e =
        get_or-set_other long place k true false (λ at. true≢false (sym (eq-eqb c (first_separator + k) (omega arith)) ∙ e)) ∙ same k ∙ or_false (slice_index_or old k false)

-- marks that were made longer
pub resized : (old long : List Bool) (n : ℕ) → length old ≤ n → length long ≡ n →
    ((k : ℕ) (d : Bool) → k < n → k < length old → slice_index_or long k d ≡ slice_index_or old k d) →
    ((k : ℕ) (d : Bool) → length old ≤ k → k < n → slice_index_or long k d ≡ false) → (k : ℕ) → slice_index_or long k false ≡ slice_index_or old k false
resized old long n fits len low high k = cases (leb_tells n k) (leb_tells (length old) k)
  where
    cases : ((nat_le n k ≡ true) × (n ≤ k)) ⊎ ((nat_le n k ≡ false) × (k < n)) → ((nat_le (length old) k ≡ true) × (length old ≤ k)) ⊎ ((nat_le (length old) k ≡ false) × (k < length old)) →
        slice_index_or long k false ≡ slice_index_or old k false
    cases (inl past) t = get_or_past long k false (let p = past.1 in omega arith) ∙ sym (get_or_past old k false (let p = past.1 in omega arith))
    cases (inr within) (inl behind) = high k false behind.1 within.1 ∙ sym (get_or_past old k false behind.1)
    cases (inr within) (inr before) = low k false within.1 before.1

-- one text or one code point more
pub more : (a n h r t : Bool) → n ≡ (a || h) → (a || (h || r)) ≡ t → (n || r) ≡ t
more a n h r t e f = ap (λ (b : Bool). b || r) e ∙ assoc a h ∙ f
  where
    assoc : (a h : Bool) → ((a || h) || r) ≡ (a || (h || r))
    assoc true h = refl
    assoc false h = refl

pub no_more : (a t : Bool) → (a || false) ≡ t → a ≡ t
no_more a t e = or_false a ∙ e
