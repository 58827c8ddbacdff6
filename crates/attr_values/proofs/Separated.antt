-- The value that is candidate passes as asked, where some text does and a white space is left.
use Rattle.std.proofs.Common.{◌≡◌, ◌≢◌, ◌⊎◌, ℕ, ◌≤◌, Bool, true, false, not, ◌&&◌, cond, List, [], ◌∷◌, Some, refl, sym, ap, inl, inr, ◌∙◌, arith}
use Rattle.std.specs.Prelude.{unwrap_or, find, ◌==◌, ◌||◌}
use Rattle.std.specs.List.{All, list_all, list_any}
use Rattle.std.proofs.lemmas.List.Elements.{All-nil, All-cons}
use Rattle.std.proofs.lemmas.Bool.{false≢true, true≢false, or_parts, or_from, ne_eqb, eqb-false, and_cases, and_from}
use Rattle.css_model.specs.Text.Characters.{is_white}
use Rattle.attr_values.specs.Asked.{asked, refused, is_equal, is_word, is_part, some_of}
use Rattle.attr_values.specs.Separators.{IsFreeSpace, holds, white_spaces, is_taken, free_space}
use Rattle.attr_values.specs.Solved.{CandidatePasses}
use Rattle.attr_values.specs.Value.{once}
use Rattle.attr_values.proofs.Candidates.{candidate_passes_with}

-- a number that stands in none of the texts
absent_one : (c : ℕ) (v : List ℕ) → holds c v ≡ false → All (λ d. d ≢ c) v
absent_one c [] e = All-nil (λ d. d ≢ c)
absent_one c (d ∷ v) e =
    let both = or_parts (d == c) (holds c v) e in
    All-cons (λ d. d ≢ c) d v (eqb-false d c both.0) (absent_one c v both.1)

absent : (c : ℕ) (vs : List (List ℕ)) → list_any (holds c) vs ≡ false → All (λ v. All (λ d. d ≢ c) v) vs
absent c [] e = All-nil (λ v. All (λ d. d ≢ c) v)
absent c (v ∷ vs) e =
    let both = or_parts (holds c v) (list_any (holds c) vs) e in
    All-cons (λ v. All (λ d. d ≢ c) v) v vs (absent_one c v both.0) (absent c vs both.1)

-- the first of these white spaces that is not taken
found : (test : ℕ → Bool) (cs : List ℕ) → list_all is_white cs ≡ true → list_all test cs ≡ false →
    (is_white (unwrap_or (find (λ c. not (test c)) cs) 0x20) ≡ true) × (test (unwrap_or (find (λ c. not (test c)) cs) 0x20) ≡ false)
found test [] white e = absurd (true≢false e)
found test (c ∷ cs) white e = cases (test c) refl (is_white c) refl white e (found test cs)
  where
    cases : (b : Bool) → test c ≡ b → (x : Bool) → is_white c ≡ x → (x && list_all is_white cs) ≡ true → (b && list_all test cs) ≡ false →
        (list_all is_white cs ≡ true → list_all test cs ≡ false →
        (is_white (unwrap_or (find (λ c. not (test c)) cs) 0x20) ≡ true) × (test (unwrap_or (find (λ c. not (test c)) cs) 0x20) ≡ false)) →
        (is_white (unwrap_or (cond (not b) (Some c) (find (λ c. not (test c)) cs)) 0x20) ≡ true) × (test (unwrap_or (cond (not b) (Some c) (find (λ c. not (test c)) cs)) 0x20) ≡ false)
    cases true is x isx white e later = later (rest x white) e
      where
        rest : (x : Bool) → (x && list_all is_white cs) ≡ true → list_all is_white cs ≡ true
        rest true h = h
        rest false h = absurd (false≢true h)
    cases false is true isx white e later = (isx, is)
    cases false is false isx white e later = absurd (false≢true white)

is_some : (vs : List (List ℕ)) → once vs ≢ [] → some_of vs ≡ true
is_some [] some = absurd (some refl)
is_some (v ∷ vs) some = refl

not_white : (f : ℕ) → 0x61 ≤ f → is_white f ≡ false
not_white f le =
    or_from (f == 0x20 || f == 0x09) ((f == 0x0A || f == 0x0D) || f == 0x0C)
    (or_from (f == 0x20) (f == 0x09) (ne_eqb f 0x20 (omega arith)) (ne_eqb f 0x09 (omega arith)))
    (or_from (f == 0x0A || f == 0x0D) (f == 0x0C)
    (or_from (f == 0x0A) (f == 0x0D) (ne_eqb f 0x0A (omega arith)) (ne_eqb f 0x0D (omega arith)))
    (ne_eqb f 0x0C (omega arith)))

pub candidate_passes : CandidatePasses
candidate_passes tests s f first left h =
    candidate_passes_with tests s f (free_space tests) (not_white f first.from_a) (λ e. hyphen first.from_a e) first.unused space h
  where
    hyphen : 0x61 ≤ f → f ≡ 0x2D → ⊥
    hyphen le e = omega arith

    space : asked is_equal tests ≡ [] → once (asked is_word tests) ≢ [] → (is_white (free_space tests) ≡ true) × IsFreeSpace (free_space tests) tests
    space none some =
        let no_equal : some_of (asked is_equal tests) ≡ false = ap some_of none in
        let word : some_of (asked is_word tests) ≡ true = is_some (asked is_word tests) some in
        let first_two : (some_of (asked is_word tests) && not (some_of (asked is_equal tests))) ≡ true = and_from (some_of (asked is_word tests)) (not (some_of (asked is_equal tests))) word (ap not no_equal) in
        let open_one : list_all (λ c. is_taken c tests) white_spaces ≡ false = rest (and_cases (some_of (asked is_word tests) && not (some_of (asked is_equal tests))) (list_all (λ c. is_taken c tests) white_spaces) left) first_two in
        let here = found (λ c. is_taken c tests) white_spaces refl open_one in
        (here.0, absent (free_space tests) (refused is_part tests) here.1)
      where
        rest : ((some_of (asked is_word tests) && not (some_of (asked is_equal tests))) ≡ false) ⊎ (list_all (λ c. is_taken c tests) white_spaces ≡ false) →
            (some_of (asked is_word tests) && not (some_of (asked is_equal tests))) ≡ true → list_all (λ c. is_taken c tests) white_spaces ≡ false
        rest (inl e) h = absurd (false≢true (sym e ∙ h))
        rest (inr e) h = e
