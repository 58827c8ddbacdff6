-- Where a text is cut, and the pieces that it is cut into.
use Rattle.std.proofs.Common.{ℕ, zero, suc, ◌+◌, ◌≡◌, ◌≢◌, ◌<◌, Bool, true, false, ◌==◌, ◌||◌, Some, None, List, [], ◌∷◌, ◌++◌, length, take, drop, refl, ap, subst, arith}
use Rattle.std.specs.Prelude.{slice_index}
use Rattle.std.specs.List.{onto_first}
use Rattle.std.proofs.lemmas.Bool.{eqb-true, eq-eqb, or_parts}
use Rattle.memchr.specs.Find.{IsFirstByte, is_byte}
use Rattle.doc_text.specs.Lines.{holds, pieces}

-- a text cut at the first byte of a kind
record IsCut (at i : ℕ) (text : List ℕ) : Type 0 where
  is : text ≡ take i text ++ at ∷ drop (suc i) text
  none : holds at (take i text) ≡ false

cut_at : (at : ℕ) (text : List ℕ) (i : ℕ) → i < length text → is_byte at (slice_index text i) ≡ true → ((k : ℕ) → k < i → is_byte at (slice_index text k) ≡ true → ⊥) → IsCut at i text
cut_at at [] i less here before = absurd (omega arith)
cut_at at (c ∷ cs) zero less here before = record { is = ap (λ (b : ℕ). b ∷ cs) (eqb-true c at here); none = refl }
cut_at at (c ∷ cs) (suc i) less here before =
    let later = cut_at at cs i (omega arith) here (λ k below. before (suc k) (omega arith)) in
    record { is = ap (λ (bs : List ℕ). c ∷ bs) later.is; none = by (c == at) refl later.none }
  where
    by : (b : Bool) → (c == at) ≡ b → holds at (take i cs) ≡ false → (b || holds at (take i cs)) ≡ false
    by true is none = absurd (before 0 (omega arith) is)
    by false is none = none

no_cut : (at : ℕ) (text : List ℕ) → ((k : ℕ) → k < length text → is_byte at (slice_index text k) ≡ true → ⊥) → holds at text ≡ false
no_cut at [] none = refl
no_cut at (c ∷ cs) none = by (c == at) refl (no_cut at cs (λ k below. none (suc k) (omega arith)))
  where
    by : (b : Bool) → (c == at) ≡ b → holds at cs ≡ false → (b || holds at cs) ≡ false
    by true is later = absurd (none 0 (omega arith) is)
    by false is later = later

pub found_cut : (at : ℕ) (text : List ℕ) (i : ℕ) → IsFirstByte (is_byte at) text (Some i) → (text ≡ take i text ++ at ∷ drop (i + 1) text) × (holds at (take i text) ≡ false)
found_cut at text i found =
    let c = cut_at at text i found.0.high found.1 (λ k below. found.0.before k (omega arith) below) in
    let one : suc i ≡ i + 1 = omega arith in
    (subst (λ (n : ℕ). text ≡ take i text ++ at ∷ drop n text) one c.is, c.none)

pub found_none : (at : ℕ) (text : List ℕ) → IsFirstByte (is_byte at) text None → holds at text ≡ false
found_none at text found = no_cut at text (λ k below. found k (omega arith) below)

-- the pieces of a text that is cut, and of one that is not
pub pieces_cut : (at : ℕ) (front rest : List ℕ) → holds at front ≡ false → pieces at (front ++ at ∷ rest) ≡ front ∷ pieces at rest
pieces_cut at [] rest none = rw (eq-eqb at at refl) refl
pieces_cut at (c ∷ front) rest none =
    let both = or_parts (c == at) (holds at front) none in
    rw both.0 (ap (onto_first c) (pieces_cut at front rest both.1))

pub pieces_whole : (at : ℕ) (text : List ℕ) → text ≢ [] → holds at text ≡ false → pieces at text ≡ text ∷ []
pieces_whole at [] some none = absurd (some refl)
pieces_whole at (c ∷ []) some none = let both = or_parts (c == at) false none in rw both.0 refl
pieces_whole at (c ∷ d ∷ text) some none =
    let both = or_parts (c == at) (holds at (d ∷ text)) none in
    rw both.0 (ap (onto_first c) (pieces_whole at (d ∷ text) (λ e. absurd (let size : length (d ∷ text) ≡ 0 = ap length e in omega (arith, size))) both.1))
