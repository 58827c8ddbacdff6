-- The first `*/` of a text, as a search finds it and as a run of what stands inside a comment ends.
use Rattle.std.proofs.Common.{ℕ, zero, suc, ◌+◌, ◌<◌, ◌≤◌, ◌≡◌, Bool, true, false, ◌&&◌, ◌==◌, List, [], ◌∷◌, Option, Some, None, MatchOption, length, drop, get_or, refl, sym, subst, ap, arith, eq-eqb}
use Rattle.std.proofs.lemmas.Bool.{and_from, and_parts, eqb-true, false≢true, false_from_ne_true}
use Rattle.memchr.specs.Find.{OccursAt, FindsNeedle}
use Rattle.css_model.specs.Text.Characters.{star, slash, begins}
use Rattle.css_model.specs.Text.Runs.{run}
use Rattle.css_model.specs.Text.Units.{comment_unit}

abbrev pub close : List ℕ
close = star ∷ slash ∷ []

-- the text begins with `*/`
abbrev pub closes : List ℕ → Bool
closes [] = false
closes (c ∷ cs) = c == star && begins slash cs

-- a search that finds `*/` at k, and the text from there on
pub occurs-closes : (text : List ℕ) (k : ℕ) → OccursAt text close k → closes (drop k text) ≡ true
occurs-closes [] k h = absurd (omega (arith, h.fits))
occurs-closes (c ∷ []) zero h = absurd (omega (arith, h.fits))
occurs-closes (c ∷ d ∷ ds) zero h = and_from (c == star) (d == slash) (eq-eqb c star (h.reads 0 (omega arith))) (eq-eqb d slash (h.reads 1 (omega arith)))
occurs-closes (c ∷ cs) (suc k) h = occurs-closes cs k (record {
  fits = omega (arith, h.fits);
  reads = λ j below. shifted j below;
})
  where
    shifted : (j : ℕ) → j < 2 → get_or cs (k + j) 0 ≡ get_or close j 0
    shifted j below =
        let next : suc k + j ≡ suc (k + j) = omega arith in
        subst (λ (n : ℕ). get_or (c ∷ cs) n 0 ≡ get_or close j 0) next (h.reads j below)

pub closes-occurs : (text : List ℕ) (k : ℕ) → closes (drop k text) ≡ true → OccursAt text close k
closes-occurs [] zero h = absurd (false≢true h)
closes-occurs [] (suc k) h = absurd (false≢true h)
closes-occurs (c ∷ []) zero h = absurd (false≢true (and_parts (c == star) false h).1)
closes-occurs (c ∷ d ∷ ds) zero h = record {
  fits = omega arith;
  reads = λ j below. read j below;
}
  where
    both : (c == star ≡ true) × (d == slash ≡ true)
    both = and_parts (c == star) (d == slash) h

    read : (j : ℕ) → j < 2 → get_or (c ∷ d ∷ ds) (0 + j) 0 ≡ get_or close j 0
    read zero below = eqb-true c star both.0
    read (suc zero) below = eqb-true d slash both.1
    read (suc (suc j)) below = absurd (omega arith)
closes-occurs (c ∷ cs) (suc k) h =
    let later = closes-occurs cs k h in
    record {
      fits = omega (arith, later.fits);
      reads = λ j below. shifted j (later.reads j below);
    }
  where
    shifted : (j : ℕ) → get_or cs (k + j) 0 ≡ get_or close j 0 → get_or (c ∷ cs) (suc k + j) 0 ≡ get_or close j 0
    shifted j read =
        let next : suc (k + j) ≡ suc k + j = omega arith in
        subst (λ (n : ℕ). get_or (c ∷ cs) n 0 ≡ get_or close j 0) next read

-- the run ends at the first `*/`, and without one at the end
pub run_to_close : (text : List ℕ) (k : ℕ) → closes (drop k text) ≡ true → ((j : ℕ) → j < k → closes (drop j text) ≡ false) → run comment_unit text ≡ k
run_to_close [] zero here before = refl
run_to_close [] (suc k) here before = absurd (false≢true here)
run_to_close (c ∷ cs) zero here before = rw here refl
run_to_close (c ∷ cs) (suc k) here before =
    let first : closes (c ∷ cs) ≡ false = before 0 (omega arith) in
    rw first (ap suc (run_to_close cs k here (λ j below. before (suc j) (omega arith))))

pub run_to_end : (text : List ℕ) → ((j : ℕ) → j < length text → closes (drop j text) ≡ false) → run comment_unit text ≡ length text
run_to_end [] none = refl
run_to_end (c ∷ cs) none =
    let first : closes (c ∷ cs) ≡ false = none 0 (omega arith) in
    rw first (ap suc (run_to_end cs (λ j below. none (suc j) (omega arith))))

closes-star : (text : List ℕ) → closes text ≡ true → begins star text ≡ true
closes-star [] h = h
closes-star (c ∷ cs) h = (and_parts (c == star) (begins slash cs) h).0

drop_end : (text : List ℕ) (n : ℕ) → n ≡ length text → begins star (drop n text) ≡ false
drop_end [] zero e = refl
drop_end [] (suc n) e = refl
drop_end (c ∷ cs) zero e = absurd (omega arith)
drop_end (c ∷ cs) (suc n) e = drop_end cs n (omega arith)

-- what a search for `*/` answers, in the words of the rule
pub comment_found : (text : List ℕ) (found : Option ℕ) → FindsNeedle text close 0 found
    → MatchOption found (begins star (drop (run comment_unit text) text) ≡ false)
    (λ n. (n ≡ run comment_unit text) × (begins star (drop n text) ≡ true) × (n + 2 ≤ length text))
comment_found text None nowhere =
    drop_end text (run comment_unit text) (run_to_end text (λ j below. false_from_ne_true _ (λ yes. nowhere j (omega arith) (omega arith) (closes-occurs text j yes))))
comment_found text (Some k) found =
    let here = occurs-closes text k found.1 in
    let first = found.0 in (
      sym (run_to_close text k here (λ j below. false_from_ne_true _ (λ yes. first.before j (omega arith) below (closes-occurs text j yes)))),
      closes-star (drop k text) here,
      omega (arith, found.1.fits),
    )
