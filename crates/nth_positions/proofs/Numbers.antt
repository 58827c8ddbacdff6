-- The reader of integers and steps against the notation.
use Rattle.std.proofs.Common.{◌≡◌, ℕ, ◌<◌, ◌⊎◌, inl, inr, Bool, true, false, not, ◌||◌, cond, List, [], ◌∷◌, ◌++◌, length, ℤ, pos, refl, sym, ap, subst, ◌∙◌, arith, append_assoc, eqb-true}
use Rattle.std.specs.Prelude.{Option, Some, None, ◌==◌}
use Rattle.std.proofs.lemmas.Bool.{false≢true}
use Rattle.std.proofs.lemmas.List.{append-nil}
use Rattle.css_model.specs.Positions.Notation.{AreBlanks, AreDigits, value, IsSignBefore, IsOffset, nothing, signed as with_sign}
use Rattle.css_model.specs.Positions.Reading.{past_blanks, past_blank, digits_of, past_digits, capped, signed, last_number, offset_from, offset_of}
use Rattle.css_model.specs.Lists.{is_empty}
use Rattle.nth_positions.proofs.Cases.{chosen, one_is, same_some, none_is_no_some, neither_is}
use Rattle.nth_positions.proofs.Blanks.{past_blanks_of, past_blanks_splits, Skips}
use Rattle.nth_positions.proofs.Bytes.{no_blank_at, no_blank_at_digit, no_digit_in_blanks}
use Rattle.nth_positions.proofs.Digits.{digits_split, digits_found, digits_of_front, past_digits_of_front}
use Rattle.nth_positions.proofs.Caps.{Caps, caps_signed}

-- ---- a number at the end

pub empty_is : (text : List ℕ) → is_empty text ≡ true → text ≡ []
empty_is [] h = refl
empty_is (c ∷ cs) h = cc

pub nothing_past : (after : List ℕ) → AreBlanks after → past_blanks after ≡ []
nothing_past after b = ap past_blanks (sym (append-nil after)) ∙ past_blanks_of after [] b refl

pub digits_not_empty : (digits : List ℕ) → AreDigits digits → is_empty digits ≡ false
digits_not_empty [] h = absurd (let l : 0 < length {A = ℕ} [] = h.some in omega arith)
digits_not_empty (c ∷ cs) h = refl

pub last_number_of : (negative : Bool) (digits after : List ℕ) → AreDigits digits → AreBlanks after → last_number negative (digits ++ after) ≡ Some (signed negative (capped (value digits)))
unfolding last_number
last_number_of negative digits after d b =
    let front : digits_of (digits ++ after) ≡ digits = digits_of_front digits after d.each (no_digit_in_blanks after b) in
    let rest : past_digits (digits ++ after) ≡ after = past_digits_of_front digits after d.each (no_digit_in_blanks after b) in
    ap (λ (p : List ℕ × List ℕ). cond (is_empty p.0 || not (is_empty (past_blanks p.1))) None (Some (signed negative (capped (value p.0))))) (pairs front rest)
    ∙ ap (λ b. cond (b || not (is_empty (past_blanks after))) None (Some (signed negative (capped (value digits))))) (digits_not_empty digits d)
    ∙ ap (λ t. cond (not (is_empty t)) None (Some (signed negative (capped (value digits))))) (nothing_past after b)
  where
    pairs : {a b c d : List ℕ} → a ≡ b → c ≡ d → (let p : List ℕ × List ℕ = (a, c) in p) ≡ (b, d)
    pairs e f = cc

pub record IsLastNumber (negative : Bool) (text : List ℕ) (z : ℤ) : Type 0 where
  pub digits : List ℕ
  pub after : List ℕ
  pub split : text ≡ digits ++ after
  pub are_digits : AreDigits digits
  pub blank : AreBlanks after
  pub is : z ≡ signed negative (capped (value digits))

not_true : (b : Bool) → not b ≡ false → b ≡ true
not_true true h = refl
not_true false h = cc

pub last_number_splits : (negative : Bool) (text : List ℕ) (z : ℤ) → last_number negative text ≡ Some z → IsLastNumber negative text z
unfolding last_number
last_number_splits negative text z e = elim (chosen (is_empty (digits_of text) || not (is_empty (past_blanks (past_digits text)))) None (Some (signed negative (capped (value (digits_of text))))) (Some z) e) [
  | inl w ↦ absurd (none_is_no_some w.1)
  | inr w ↦ (let n = neither_is (is_empty (digits_of text)) (not (is_empty (past_blanks (past_digits text)))) w.0 in
      let s : Skips (past_digits text) (past_blanks (past_digits text)) = past_blanks_splits (past_digits text) in
      let all : past_digits text ≡ s.front = s.split ∙ ap (λ (t : List ℕ). s.front ++ t) (empty_is _ (not_true _ n.1)) ∙ append-nil s.front in
      record {
        digits = digits_of text;
        after = past_digits text;
        split = digits_split text;
        are_digits = found (digits_of text) refl n.0;
        blank = subst AreBlanks (sym all) s.blank;
        is = sym (same_some w.1);
      })
]
  where
    found : (ds : List ℕ) → digits_of text ≡ ds → is_empty (digits_of text) ≡ false → AreDigits (digits_of text)
    found [] e h = absurd (false≢true (sym h ∙ ap is_empty e))
    found (c ∷ cs) e h = digits_found c cs text e

-- ---- what follows an n

pub sign_cases : (c : ℕ) → ((c == 43) || (c == 45)) ≡ true → (c ≡ 43) ⊎ (c ≡ 45)
sign_cases c h = elim (one_is (c == 43) (c == 45) h) [ inl e ↦ inl (eqb-true c 43 e) | inr e ↦ inr (eqb-true c 45 e) ]

-- a sign is what the reader takes it for
pub sign_before : (c size : ℕ) → (c ≡ 43) ⊎ (c ≡ 45) → IsSignBefore c size (signed (c == 45) size)
sign_before c size (inl e) = inl (e, ap (λ n. signed (n == 45) size) e)
sign_before c size (inr e) = inr (e, ap (λ n. signed (n == 45) size) e)

pub record IsReadOffset (text : List ℕ) (z : ℤ) : Type 0 where
  pub tail : List ℕ
  pub after : List ℕ
  pub number : ℤ
  pub split : text ≡ tail ++ after
  pub is_offset : IsOffset tail number
  pub blank : AreBlanks after
  pub caps : Caps number z

regroup : (front between digits after : List ℕ) (c : ℕ) → front ++ (c ∷ (between ++ (digits ++ after))) ≡ (front ++ (c ∷ (between ++ digits))) ++ after
regroup front between digits after c = ap (λ (t : List ℕ). front ++ (c ∷ t)) (sym (append_assoc between digits after)) ∙ sym (append_assoc front (c ∷ (between ++ digits)) after)

offset_from_splits : (text rest : List ℕ) (z : ℤ) → Skips text rest → offset_from rest ≡ Some z → IsReadOffset text z
offset_from_splits text [] z s e = record {
  tail = [];
  after = s.front;
  number = pos 0;
  split = s.split ∙ append-nil s.front;
  is_offset = nothing refl refl;
  blank = s.blank;
  caps = inl (sym (same_some e));
}
offset_from_splits text (c ∷ cs) z s e = elim (chosen ((c == 43) || (c == 45)) (last_number (c == 45) (past_blanks cs)) None (Some z) e) [
  | inl w ↦ (
      let m : Skips cs (past_blanks cs) = past_blanks_splits cs in
      let l : IsLastNumber (c == 45) (past_blanks cs) z = last_number_splits (c == 45) (past_blanks cs) z w.1 in
      record {
        tail = s.front ++ (c ∷ (m.front ++ l.digits));
        after = l.after;
        number = signed (c == 45) (value l.digits);
        split = s.split ∙ ap (λ (t : List ℕ). s.front ++ (c ∷ t)) (m.split ∙ ap (λ (t : List ℕ). m.front ++ t) l.split) ∙ regroup s.front m.front l.digits l.after c;
        is_offset = with_sign s.front m.front l.digits c refl s.blank m.blank l.are_digits (sign_before c (value l.digits) (sign_cases c w.0));
        blank = l.blank;
        caps = subst (Caps (signed (c == 45) (value l.digits))) (sym l.is) (caps_signed (c == 45) (value l.digits));
      })
  | inr w ↦ absurd (none_is_no_some w.1)
]

pub offset_splits : (text : List ℕ) (z : ℤ) → offset_of text ≡ Some z → IsReadOffset text z
unfolding offset_of
offset_splits text z e = offset_from_splits text (past_blanks text) z (past_blanks_splits text) e

-- what a number is read as
pub record ReadsAs (o : Option ℤ) (y : ℤ) : Type 0 where
  pub number : ℤ
  pub found : o ≡ Some number
  pub caps : Caps y number

offset_at_sign : (c : ℕ) (between digits after : List ℕ) (y : ℤ) → AreBlanks between → AreDigits digits → AreBlanks after → IsSignBefore c (value digits) y → ReadsAs (offset_from (c ∷ (between ++ (digits ++ after)))) y
offset_at_sign c between digits after y b d a h = record {
  number = signed (c == 45) (capped (value digits));
  found = found_at;
  caps = subst (λ (n : ℤ). Caps n (signed (c == 45) (capped (value digits)))) is_y (caps_signed (c == 45) (value digits));
}
  where
    behind : past_blanks (between ++ (digits ++ after)) ≡ digits ++ after
    behind = past_blanks_of between (digits ++ after) b (no_blank_at_digit digits after d)

    read : last_number (c == 45) (past_blanks (between ++ (digits ++ after))) ≡ Some (signed (c == 45) (capped (value digits)))
    read = ap (last_number (c == 45)) behind ∙ last_number_of (c == 45) digits after d a

    at_sign : (c ≡ 43) ⊎ (c ≡ 45) → ((c == 43) || (c == 45)) ≡ true
    at_sign (inl e) = ap (λ n. (n == 43) || (n == 45)) e
    at_sign (inr e) = ap (λ n. (n == 43) || (n == 45)) e

    which : IsSignBefore c (value digits) y → (c ≡ 43) ⊎ (c ≡ 45)
    which (inl w) = inl w.0
    which (inr w) = inr w.0

    found_at : offset_from (c ∷ (between ++ (digits ++ after))) ≡ Some (signed (c == 45) (capped (value digits)))
    found_at = ap (λ b. cond b (last_number (c == 45) (past_blanks (between ++ (digits ++ after)))) None) (at_sign (which h)) ∙ read

    number_at : IsSignBefore c (value digits) y → signed (c == 45) (value digits) ≡ y
    number_at (inl w) = ap (λ n. signed (n == 45) (value digits)) w.0 ∙ sym w.1
    number_at (inr w) = ap (λ n. signed (n == 45) (value digits)) w.0 ∙ sym w.1

    is_y : signed (c == 45) (value digits) ≡ y
    is_y = number_at h

pub no_blank_at_sign : (c : ℕ) (cs : List ℕ) (size : ℕ) (y : ℤ) → IsSignBefore c size y → past_blank (c ∷ cs) ≡ None
no_blank_at_sign c cs size y (inl w) = let e : c ≡ 43 = w.0 in no_blank_at c cs (omega arith) (λ f. omega arith)
no_blank_at_sign c cs size y (inr w) = let e : c ≡ 45 = w.0 in no_blank_at c cs (omega arith) (λ f. omega arith)

pub offset_reads : (tail after : List ℕ) (y : ℤ) → IsOffset tail y → AreBlanks after → ReadsAs (offset_of (tail ++ after)) y
unfolding offset_of
offset_reads tail after y (nothing e f) a = record {
  number = pos 0;
  found = ap (λ (t : List ℕ). offset_from (past_blanks (t ++ after))) e ∙ ap offset_from (nothing_past after a);
  caps = inl (sym f);
}
offset_reads tail after y (with_sign before between digits sign e b m d h) a = subst (λ (t : List ℕ). ReadsAs (offset_from t) y) (sym whole) (offset_at_sign sign between digits after y m d a h)
  where
    whole : past_blanks (tail ++ after) ≡ sign ∷ (between ++ (digits ++ after))
    whole = ap (λ (t : List ℕ). past_blanks (t ++ after)) e ∙ ap past_blanks (sym (regroup before between digits after sign)) ∙ past_blanks_of before (sign ∷ (between ++ (digits ++ after))) b (no_blank_at_sign sign (between ++ (digits ++ after)) (value digits) y h)
