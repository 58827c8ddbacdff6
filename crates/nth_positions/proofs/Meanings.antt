-- What a text stands for, as the text alone determines it: so it is one pair at most.
use Rattle.std.proofs.Common.{◌≡◌, ℕ, ◌⊎◌, inl, inr, ◌||◌, cond, List, [], ◌∷◌, ◌++◌, ℤ, pos, refl, sym, ap, subst, ◌∙◌, append_assoc}
use Rattle.std.specs.Prelude.{Some, None, ◌==◌, codes}
use Rattle.css_model.specs.declared.position.AnB.{AnB}
use Rattle.css_model.specs.Positions.Notation.{AreBlanks, AreDigits, value, IsSigned, IsSignBefore, IsStepSize, one, written, IsOffset, nothing, signed as with_sign, IsBody, odd, even, integer, step, IsNotation}
use Rattle.css_model.specs.Positions.Reading.{past_blanks, digits_of, past_digits, signed, is_minus, past_sign, past_word}
use Rattle.css_model.specs.Lists.{is_empty}
use Rattle.nth_positions.proofs.Blanks.{past_blanks_of}
use Rattle.nth_positions.proofs.Bytes.{no_blank_at_digit, no_digit_in_blanks}
use Rattle.nth_positions.proofs.Caps.{pair}
use Rattle.nth_positions.proofs.Digits.{digits_of_front, past_digits_of_front}
use Rattle.nth_positions.proofs.Numbers.{nothing_past, digits_not_empty, no_blank_at_sign}
use Rattle.nth_positions.proofs.Steps.{SignRead, sign_reads, unsigned_digits, unsigned_step, letter_no_digit, letter_true, no_letter_in_blanks, StepDigits, step_digits}
use Rattle.nth_positions.proofs.Texts.{BeginsNumeric, numeric_no_word, signed_begin, digits_begin, step_begins, word_read, even_is_not_odd, IsRead, body_reads}

abbrev size_meant : List ℕ → ℕ
size_meant digits = cond (is_empty digits) 1 (value digits)

abbrev offset_meant : List ℕ → ℤ
offset_meant [] = pos 0
offset_meant (c ∷ cs) = signed (c == 45) (value (digits_of (past_blanks cs)))

abbrev integer_meant : List ℕ → AnB
integer_meant text = record { a = pos 0; b = signed (is_minus text) (value (digits_of (past_sign text))) }

abbrev step_meant : List ℕ → List ℕ → AnB
step_meant text rest = record { a = signed (is_minus text) (size_meant (digits_of (past_sign text))); b = offset_meant (past_blanks rest) }

abbrev numbers_meant : List ℕ → List ℕ → AnB
numbers_meant text [] = integer_meant text
numbers_meant text (c ∷ cs) = cond ((c == 110) || (c == 78)) (step_meant text cs) (integer_meant text)

unfoldable body_meant : List ℕ → AnB
body_meant text = elim (past_word (codes "odd") text) as (λ _. AnB) [
  | Some rest ↦ record { a = pos 2; b = pos 1 }
  | None ↦ elim (past_word (codes "even") text) as (λ _. AnB) [ Some rest ↦ record { a = pos 2; b = pos 0 } | None ↦ numbers_meant text (past_digits (past_sign text)) ]
]

-- ---- integers

integer_at : (text after : List ℕ) → AreBlanks after → numbers_meant text after ≡ integer_meant text
integer_at text [] b = refl
integer_at text (c ∷ cs) b = ap (λ t. cond t (step_meant text cs) (integer_meant text)) (no_letter_in_blanks c cs b)

integer_means : (text sign digits after : List ℕ) (y : AnB) → text ≡ sign ++ (digits ++ after) → AreDigits digits → y.a ≡ pos 0 → IsSigned sign (value digits) y.b → AreBlanks after → numbers_meant text (past_digits (past_sign text)) ≡ y
integer_means text sign digits after y split d a h b =
    ap (numbers_meant text) (ap past_digits s.past ∙ past_digits_of_front digits after d.each (no_digit_in_blanks after b))
    ∙ integer_at text after b
    ∙ pair y (integer_meant text) (sym a) (ap (λ (t : List ℕ). signed (is_minus text) (value t)) (ap digits_of s.past ∙ digits_of_front digits after d.each (no_digit_in_blanks after b)) ∙ s.number)
  where
    s : SignRead text (digits ++ after) (value digits) y.b
    s = subst (λ (t : List ℕ). SignRead t (digits ++ after) (value digits) y.b) (sym split) (sign_reads sign (digits ++ after) (value digits) y.b h (unsigned_digits digits after d))

-- ---- steps

size_means : (digits : List ℕ) (size : ℕ) → IsStepSize digits size → size_meant digits ≡ size
size_means digits size (one e f) = ap size_meant e ∙ sym f
size_means digits size (written d f) = ap (λ b. cond b 1 (value digits)) (digits_not_empty digits d) ∙ sym f

sign_means : (c size : ℕ) (y : ℤ) → IsSignBefore c size y → signed (c == 45) size ≡ y
sign_means c size y (inl w) = ap (λ n. signed (n == 45) size) w.0 ∙ sym w.1
sign_means c size y (inr w) = ap (λ n. signed (n == 45) size) w.0 ∙ sym w.1

offset_means : (tail after : List ℕ) (y : ℤ) → IsOffset tail y → AreBlanks after → offset_meant (past_blanks (tail ++ after)) ≡ y
offset_means tail after y (nothing e f) a = ap (λ (t : List ℕ). offset_meant (past_blanks (t ++ after))) e ∙ ap offset_meant (nothing_past after a) ∙ sym f
offset_means tail after y (with_sign before between digits sign e b m d h) a =
    ap offset_meant whole
    ∙ ap (λ (t : List ℕ). signed (sign == 45) (value (digits_of t))) (past_blanks_of between (digits ++ after) m (no_blank_at_digit digits after d))
    ∙ ap (λ (t : List ℕ). signed (sign == 45) (value t)) (digits_of_front digits after d.each (no_digit_in_blanks after a))
    ∙ sign_means sign (value digits) y h
  where
    grouped : (before ++ (sign ∷ (between ++ digits))) ++ after ≡ before ++ (sign ∷ (between ++ (digits ++ after)))
    grouped = append_assoc before (sign ∷ (between ++ digits)) after ∙ ap (λ (t : List ℕ). before ++ (sign ∷ t)) (append_assoc between digits after)

    whole : past_blanks (tail ++ after) ≡ sign ∷ (between ++ (digits ++ after))
    whole = ap (λ (t : List ℕ). past_blanks (t ++ after)) e ∙ ap past_blanks grouped ∙ past_blanks_of before (sign ∷ (between ++ (digits ++ after))) b (no_blank_at_sign sign (between ++ (digits ++ after)) (value digits) y h)

step_means : (text sign digits rest : List ℕ) (n size : ℕ) (y : AnB) → text ≡ sign ++ (digits ++ (n ∷ rest)) → (n ≡ 110) ⊎ (n ≡ 78) → IsStepSize digits size → IsSigned sign size y.a → offset_meant (past_blanks rest) ≡ y.b → numbers_meant text (past_digits (past_sign text)) ≡ y
step_means text sign digits rest n size y split l z h o =
    ap (numbers_meant text) (ap past_digits s.past ∙ past_digits_of_front digits (n ∷ rest) d.each (letter_no_digit n rest l))
    ∙ ap (λ t. cond t (step_meant text rest) (integer_meant text)) (letter_true n l)
    ∙ pair y (step_meant text rest) (ap (λ (t : List ℕ). signed (is_minus text) (size_meant t)) (ap digits_of s.past ∙ digits_of_front digits (n ∷ rest) d.each (letter_no_digit n rest l)) ∙ ap (signed (is_minus text)) (size_means digits size z) ∙ s.number) o
  where
    d : StepDigits digits size
    d = step_digits digits size z

    s : SignRead text (digits ++ (n ∷ rest)) size y.a
    s = subst (λ (t : List ℕ). SignRead t (digits ++ (n ∷ rest)) size y.a) (sym split) (sign_reads sign (digits ++ (n ∷ rest)) size y.a h (unsigned_step digits rest n size l z))

-- ---- whole texts

odd_meant : (text rest : List ℕ) → past_word (codes "odd") text ≡ Some rest → body_meant text ≡ record { a = pos 2; b = pos 1 }
unfolding body_meant
odd_meant text rest e = rw (e, body_meant) refl

even_meant : (text rest : List ℕ) → past_word (codes "odd") text ≡ None → past_word (codes "even") text ≡ Some rest → body_meant text ≡ record { a = pos 2; b = pos 0 }
unfolding body_meant
even_meant text rest e f = rw (e, f, body_meant) refl

numeric_meant : (text : List ℕ) → BeginsNumeric text → body_meant text ≡ numbers_meant text (past_digits (past_sign text))
unfolding body_meant
numeric_meant text b = (let n = numeric_no_word text b in let e : past_word (codes "odd") text ≡ None = n.0 in let f : past_word (codes "even") text ≡ None = n.1 in rw (e, f, body_meant) refl)

body_means : (body after : List ℕ) (y : AnB) → IsBody body y → AreBlanks after → body_meant (body ++ after) ≡ y
body_means body after y (odd e f) b = odd_meant (body ++ after) after (word_read (codes "odd") body after e) ∙ sym f
body_means body after y (even e f) b = even_meant (body ++ after) after (even_is_not_odd body after e) (word_read (codes "even") body after e) ∙ sym f
body_means body after y (integer sign digits e d a h) b =
    numeric_meant (body ++ after) (subst BeginsNumeric (sym split) (signed_begin sign (digits ++ after) (value digits) y.b h (digits_begin digits after d)))
    ∙ integer_means (body ++ after) sign digits after y split d a h b
  where
    split : body ++ after ≡ sign ++ (digits ++ after)
    split = ap (λ (t : List ℕ). t ++ after) e ∙ append_assoc sign digits after
body_means body after y (step sign digits offset n size e l z h o) b =
    numeric_meant (body ++ after) (subst BeginsNumeric (sym split) (signed_begin sign (digits ++ (n ∷ (offset ++ after))) size y.a h (step_begins digits (offset ++ after) n size l z)))
    ∙ step_means (body ++ after) sign digits (offset ++ after) n size y split l z h (offset_means offset after y.b o b)
  where
    split : body ++ after ≡ sign ++ (digits ++ (n ∷ (offset ++ after)))
    split = ap (λ (t : List ℕ). t ++ after) e ∙ append_assoc sign (digits ++ (n ∷ offset)) after ∙ ap (λ (t : List ℕ). sign ++ t) (append_assoc digits (n ∷ offset) after)

text_means : (text : List ℕ) (y : AnB) → IsNotation text y → body_meant (past_blanks text) ≡ y
text_means text y n = (let r : IsRead (n.body ++ n.after) y = body_reads n.body n.after y n.is_body n.blank_after in
    ap body_meant (ap past_blanks n.parts ∙ past_blanks_of n.before (n.body ++ n.after) n.blank_before r.begins) ∙ body_means n.body n.after y n.is_body n.blank_after)

pub one_meaning : (text : List ℕ) (x y : AnB) → IsNotation text x → IsNotation text y → x ≡ y
one_meaning text x y n m = sym (text_means text x n) ∙ text_means text y m
