-- Which bytes begin what.
use Rattle.std.proofs.Common.{◌≡◌, ℕ, ◌<◌, ◌≤◌, ◌⊎◌, inl, inr, Bool, true, false, ◌&&◌, cond, List, [], ◌∷◌, ◌++◌, length, refl, sym, ap, subst, ◌∙◌, arith, eqb-true, leb-true}
use Rattle.std.specs.Prelude.{◌==◌, nat_le, Some, None}
use Rattle.std.specs.Char.{is_ascii_digit}
use Rattle.std.specs.List.{prefix_len, concat, AllByRecursion, list_all}
use Rattle.css_model.specs.Text.Characters.{is_white}
use Rattle.css_model.specs.Positions.Notation.{IsBlank, white_space, comment, AreBlanks, AreDigits}
use Rattle.css_model.specs.Positions.Reading.{past_blank, past_close}
use Rattle.nth_positions.proofs.Cases.{both_are}
use Rattle.nth_positions.proofs.Digits.{no_more}

pub is_false : (b : Bool) → (b ≡ true → ⊥) → b ≡ false
is_false true h = absurd (h refl)
is_false false h = refl

white_cases : (c : ℕ) → is_white c ≡ true → (c ≡ 32) ⊎ ((c ≡ 9) ⊎ ((c ≡ 10) ⊎ ((c ≡ 12) ⊎ (c ≡ 13))))
white_cases c h = grind (arith, eqb-true)

pub white_small : (c : ℕ) → is_white c ≡ true → c ≤ 32
white_small c h = elim (white_cases c h) [
  | inl e ↦ omega arith
  | inr f ↦ elim f [
    | inl e ↦ omega arith
    | inr g ↦ elim g [
      | inl e ↦ omega arith
      | inr i ↦ elim i [ inl e ↦ omega arith | inr e ↦ omega arith ]
    ]
  ]
]

pub digit_range : (c : ℕ) → is_ascii_digit c ≡ true → (48 ≤ c) × (c ≤ 57)
digit_range c h = (let b = both_are (nat_le 48 c) (nat_le c 57) h in (leb-true 48 c b.0, leb-true c 57 b.1))

-- a white space is no digit
white_no_digit : (c : ℕ) → is_white c ≡ true → is_ascii_digit c ≡ false
white_no_digit c h = is_false (is_ascii_digit c) (λ d. let w : c ≤ 32 = white_small c h in let r : 48 ≤ c = (digit_range c d).0 in omega arith)

-- no blank begins at a byte that is neither a white space nor a slash
pub no_blank_at : (c : ℕ) (cs : List ℕ) → 32 < c → (c ≡ 47 → ⊥) → past_blank (c ∷ cs) ≡ None
no_blank_at c cs h s = go cs (is_false (is_white c) (λ w. let l : c ≤ 32 = white_small c w in omega arith)) (is_false (c == 47) (λ e. s (eqb-true c 47 e)))
  where
    go : (cs : List ℕ) → is_white c ≡ false → (c == 47) ≡ false → past_blank (c ∷ cs) ≡ None
    go [] w n = ap (λ b. cond b (Some []) None) w
    go (d ∷ cs) w n = ap (λ b. cond b (Some (d ∷ cs)) (cond ((c == 47) && (d == 42)) (past_close cs) None)) w ∙ ap (λ b. cond (b && (d == 42)) (past_close cs) None) n

pub no_blank_at_digit : (digits rest : List ℕ) → AreDigits digits → past_blank (digits ++ rest) ≡ None
no_blank_at_digit [] rest h = absurd (let l : 0 < length {A = ℕ} [] = h.some in omega arith)
no_blank_at_digit (c ∷ cs) rest h = (let r = digit_range c (both_are (is_ascii_digit c) (list_all is_ascii_digit cs) h.each).0 in no_blank_at c (cs ++ rest) (omega arith) (λ e. omega arith))

-- blanks begin with no digit
pub no_digit_in_blanks : (text : List ℕ) → AreBlanks text → prefix_len is_ascii_digit text ≡ 0
no_digit_in_blanks text b = subst (λ (t : List ℕ). prefix_len is_ascii_digit t ≡ 0) (sym b.joined) (go b.blanks b.each)
  where
    first : (blank rest : List ℕ) → IsBlank blank → prefix_len is_ascii_digit (blank ++ rest) ≡ 0
    first blank rest (white_space c e w) = subst (λ (t : List ℕ). prefix_len is_ascii_digit (t ++ rest) ≡ 0) (sym e) (no_more c rest (white_no_digit c w))
    first blank rest (comment inside e h) = subst (λ (t : List ℕ). prefix_len is_ascii_digit (t ++ rest) ≡ 0) (sym e) refl

    go : (blanks : List (List ℕ)) → AllByRecursion IsBlank blanks → prefix_len is_ascii_digit (concat blanks) ≡ 0
    go [] a = refl
    go (blank ∷ blanks) a = first blank (concat blanks) a.0
