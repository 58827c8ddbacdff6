-- The reader of a sign, of integers and of steps against the notation.
use Rattle.std.proofs.Common.{◌≡◌, ℕ, ◌<◌, ◌≤◌, ◌⊎◌, inl, inr, Bool, true, false, ◌||◌, cond, List, [], ◌∷◌, ◌++◌, length, ℤ, pos, refl, sym, ap, subst, ◌∙◌, arith, append_assoc, eqb-true}
use Rattle.std.specs.Prelude.{Option, Some, None, ◌==◌, option_map}
use Rattle.std.specs.Char.{is_ascii_digit}
use Rattle.std.specs.List.{prefix_len, list_all, concat, AllByRecursion}
use Rattle.css_model.specs.declared.position.AnB.{AnB}
use Rattle.css_model.specs.Positions.Notation.{IsBlank, white_space, comment, AreBlanks, AreDigits, value, IsSignBefore, IsSigned, IsStepSize, one, written, IsBody, integer, step}
use Rattle.css_model.specs.Lists.{is_empty}
use Rattle.css_model.specs.Positions.Reading.{digits_of, past_digits, capped, signed, is_minus, past_sign, last_number, offset_of, step_size, numbers_from, numbers_of}
use Rattle.nth_positions.proofs.Cases.{chosen, both_are, one_is, same_some, none_is_no_some, neither_is}
use Rattle.nth_positions.proofs.Bytes.{no_digit_in_blanks, digit_range, white_small, is_false}
use Rattle.nth_positions.proofs.Digits.{digits_split, digits_found, digits_of_front, past_digits_of_front}
use Rattle.nth_positions.proofs.Caps.{Caps, CapsBoth, caps_signed, caps_same}
use Rattle.nth_positions.proofs.Numbers.{IsLastNumber, last_number_splits, last_number_of, IsReadOffset, offset_splits, ReadsAs, sign_cases, sign_before, digits_not_empty}

-- ---- a sign

pub record HasSign (text : List ℕ) : Type 0 where
  pub sign : List ℕ
  pub split : text ≡ sign ++ past_sign text
  pub is : (size : ℕ) → IsSigned sign size (signed (is_minus text) size)

sign_splits : (text : List ℕ) → HasSign text
sign_splits [] = record { sign = []; split = refl; is = λ size. refl }
sign_splits (c ∷ cs) = go ((c == 43) || (c == 45)) refl
  where
    go : (b : Bool) → ((c == 43) || (c == 45)) ≡ b → HasSign (c ∷ cs)
    go true e = record {
      sign = c ∷ [];
      split = ap (λ (t : List ℕ). c ∷ t) (sym (ap (λ b. cond b cs (c ∷ cs)) e));
      is = λ size. (refl, sign_before c size (sign_cases c e));
    }
    go false e = record {
      sign = [];
      split = sym (ap (λ b. cond b cs (c ∷ cs)) e);
      is = λ size. ap (λ b. signed b size) (neither_is (c == 43) (c == 45) e).1;
    }

-- a text that begins with no sign
pub record IsUnsigned (text : List ℕ) : Type 0 where
  pub stays : past_sign text ≡ text
  pub plain : is_minus text ≡ false

unsigned_at : (c : ℕ) (cs : List ℕ) → (c ≡ 43 → ⊥) → (c ≡ 45 → ⊥) → IsUnsigned (c ∷ cs)
unsigned_at c cs p m =
    let a : (c == 43) ≡ false = is_false (c == 43) (λ e. p (eqb-true c 43 e)) in
    let b : (c == 45) ≡ false = is_false (c == 45) (λ e. m (eqb-true c 45 e)) in
    record { stays = ap (λ x. cond (x || (c == 45)) cs (c ∷ cs)) a ∙ ap (λ x. cond x cs (c ∷ cs)) b; plain = b }

pub unsigned_digits : (digits rest : List ℕ) → AreDigits digits → IsUnsigned (digits ++ rest)
unsigned_digits [] rest h = absurd (let l : 0 < length {A = ℕ} [] = h.some in omega arith)
unsigned_digits (c ∷ cs) rest h = (let l = (digit_range c (both_are (is_ascii_digit c) (list_all is_ascii_digit cs) h.each).0).0 in unsigned_at c (cs ++ rest) (λ e. omega arith) (λ e. omega arith))

pub record SignRead (text rest : List ℕ) (size : ℕ) (y : ℤ) : Type 0 where
  pub past : past_sign text ≡ rest
  pub number : signed (is_minus text) size ≡ y

pub sign_reads : (sign rest : List ℕ) (size : ℕ) (y : ℤ) → IsSigned sign size y → IsUnsigned rest → SignRead (sign ++ rest) rest size y
sign_reads [] rest size y h u = record { past = u.stays; number = ap (λ b. signed b size) u.plain ∙ sym h }
sign_reads (c ∷ cs) rest size y h u = subst (λ (t : List ℕ). SignRead (c ∷ (t ++ rest)) rest size y) (sym h.0) (go h.1)
  where
    go : IsSignBefore c size y → SignRead (c ∷ rest) rest size y
    go (inl w) = record { past = ap (λ n. cond ((n == 43) || (n == 45)) rest (n ∷ rest)) w.0; number = ap (λ n. signed (n == 45) size) w.0 ∙ sym w.1 }
    go (inr w) = record { past = ap (λ n. cond ((n == 43) || (n == 45)) rest (n ∷ rest)) w.0; number = ap (λ n. signed (n == 45) size) w.0 ∙ sym w.1 }

-- ---- what is read is in the notation

pub record IsReadBody (text : List ℕ) (x : AnB) : Type 0 where
  pub body : List ℕ
  pub after : List ℕ
  pub pair : AnB
  pub split : text ≡ body ++ after
  pub is_body : IsBody body pair
  pub blank : AreBlanks after
  pub caps : CapsBoth pair x

option_map_some : {A B : Type 0} (f : A → B) (o : Option A) (y : B) → option_map f o ≡ Some y → (x : A) × (o ≡ Some x) × (f x ≡ y)
option_map_some f None y e = absurd (none_is_no_some e)
option_map_some f (Some x) y e = (x, refl, same_some e)

read_integer : (text : List ℕ) (x : AnB) → HasSign text → option_map (λ b. let r : AnB = record { a = pos 0; b = b } in r) (last_number (is_minus text) (past_sign text)) ≡ Some x → IsReadBody text x
read_integer text x s e =
    let m = option_map_some (λ b. let r : AnB = record { a = pos 0; b = b } in r) (last_number (is_minus text) (past_sign text)) x e in
    let l : IsLastNumber (is_minus text) (past_sign text) m.0 = last_number_splits (is_minus text) (past_sign text) m.0 m.1 in
    record {
      body = s.sign ++ l.digits;
      after = l.after;
      pair = record { a = pos 0; b = signed (is_minus text) (value l.digits) };
      split = s.split ∙ ap (λ (t : List ℕ). s.sign ++ t) l.split ∙ sym (append_assoc s.sign l.digits l.after);
      is_body = integer s.sign l.digits refl l.are_digits refl (s.is (value l.digits));
      blank = l.blank;
      caps = subst (CapsBoth (record { a = pos 0; b = signed (is_minus text) (value l.digits) })) m.2 (record {
        step = caps_same (pos 0);
        offset = subst (Caps (signed (is_minus text) (value l.digits))) (sym l.is) (caps_signed (is_minus text) (value l.digits));
      });
    }

pub record HasStepSize (digits : List ℕ) : Type 0 where
  pub size : ℕ
  pub is_size : IsStepSize digits size
  pub read : step_size digits ≡ capped size

step_size_found : (text ds : List ℕ) → digits_of text ≡ ds → HasStepSize (digits_of text)
step_size_found text [] e = record { size = 1; is_size = one e refl; read = ap step_size e }
step_size_found text (c ∷ cs) e = record {
  size = value (digits_of text);
  is_size = written (digits_found c cs text e) refl;
  read = ap (λ b. cond b 1 (capped (value (digits_of text)))) (ap is_empty e);
}

letter_cases : (c : ℕ) → ((c == 110) || (c == 78)) ≡ true → (c ≡ 110) ⊎ (c ≡ 78)
letter_cases c h = elim (one_is (c == 110) (c == 78) h) [ inl e ↦ inl (eqb-true c 110 e) | inr e ↦ inr (eqb-true c 78 e) ]

read_step : (text cs : List ℕ) (c : ℕ) (x : AnB) → HasSign text → past_digits (past_sign text) ≡ c ∷ cs → (c ≡ 110) ⊎ (c ≡ 78)
    → option_map (λ b. let r : AnB = record { a = signed (is_minus text) (step_size (digits_of (past_sign text))); b = b } in r) (offset_of cs) ≡ Some x → IsReadBody text x
read_step text cs c x s p n e =
    let f = λ (b : ℤ). let r : AnB = record { a = signed (is_minus text) (step_size (digits_of (past_sign text))); b = b } in r in
    let m = option_map_some f (offset_of cs) x e in
    let o : IsReadOffset cs m.0 = offset_splits cs m.0 m.1 in
    let z : HasStepSize (digits_of (past_sign text)) = step_size_found (past_sign text) (digits_of (past_sign text)) refl in
    record {
      body = s.sign ++ (digits_of (past_sign text) ++ (c ∷ o.tail));
      after = o.after;
      pair = record { a = signed (is_minus text) z.size; b = o.number };
      split = s.split ∙ ap (λ (t : List ℕ). s.sign ++ t) (digits_split (past_sign text) ∙ ap (λ (t : List ℕ). digits_of (past_sign text) ++ t) (p ∙ ap (λ (t : List ℕ). c ∷ t) o.split) ∙ sym (append_assoc (digits_of (past_sign text)) (c ∷ o.tail) o.after)) ∙ sym (append_assoc s.sign (digits_of (past_sign text) ++ (c ∷ o.tail)) o.after);
      is_body = step s.sign (digits_of (past_sign text)) o.tail c z.size refl n z.is_size (s.is z.size) o.is_offset;
      blank = o.blank;
      caps = subst (CapsBoth (record { a = signed (is_minus text) z.size; b = o.number })) m.2 (record {
        step = subst (λ (v : ℕ). Caps (signed (is_minus text) z.size) (signed (is_minus text) v)) (sym z.read) (caps_signed (is_minus text) z.size);
        offset = o.caps;
      });
    }

numbers_from_splits : (text rest : List ℕ) (x : AnB) → HasSign text → past_digits (past_sign text) ≡ rest → numbers_from (is_minus text) (past_sign text) rest ≡ Some x → IsReadBody text x
numbers_from_splits text [] x s p e = read_integer text x s e
numbers_from_splits text (c ∷ cs) x s p e = elim (chosen ((c == 110) || (c == 78)) (option_map (λ b. let r : AnB = record { a = signed (is_minus text) (step_size (digits_of (past_sign text))); b = b } in r) (offset_of cs)) (option_map (λ b. let r : AnB = record { a = pos 0; b = b } in r) (last_number (is_minus text) (past_sign text))) (Some x) e) [
  | inl w ↦ read_step text cs c x s p (letter_cases c w.0) w.1
  | inr w ↦ read_integer text x s w.1
]

pub numbers_splits : (text : List ℕ) (x : AnB) → numbers_of text ≡ Some x → IsReadBody text x
unfolding numbers_of
numbers_splits text x e = numbers_from_splits text (past_digits (past_sign text)) x (sign_splits text) refl e

-- ---- what is in the notation is read

pub record ReadsBody (o : Option AnB) (y : AnB) : Type 0 where
  pub pair : AnB
  pub found : o ≡ Some pair
  pub caps : CapsBoth y pair

-- blanks begin with a white space or a slash
blanks_begin : (c : ℕ) (cs : List ℕ) → AreBlanks (c ∷ cs) → (c ≤ 32) ⊎ (c ≡ 47)
blanks_begin c cs b = go b.blanks b.each b.joined
  where
    first : (blank rest : List ℕ) → IsBlank blank → (c ∷ cs) ≡ blank ++ rest → (c ≤ 32) ⊎ (c ≡ 47)
    first blank rest (white_space d e w) j = inl (let same : c ≡ d = cc in let l : d ≤ 32 = white_small d w in omega arith)
    first blank rest (comment inside e h) j = inr (let k : (c ∷ cs) ≡ 47 ∷ (42 ∷ ((inside ++ (42 ∷ 47 ∷ [])) ++ rest)) = j ∙ ap (λ (t : List ℕ). t ++ rest) e in cc)

    go : (blanks : List (List ℕ)) → AllByRecursion IsBlank blanks → (c ∷ cs) ≡ concat blanks → (c ≤ 32) ⊎ (c ≡ 47)
    go [] a j = cc
    go (blank ∷ blanks) a j = first blank (concat blanks) a.0 j

pub no_letter_in_blanks : (c : ℕ) (cs : List ℕ) → AreBlanks (c ∷ cs) → ((c == 110) || (c == 78)) ≡ false
no_letter_in_blanks c cs b = is_false ((c == 110) || (c == 78)) (λ t. go (blanks_begin c cs b) (letter_cases c t))
  where
    go : (c ≤ 32) ⊎ (c ≡ 47) → (c ≡ 110) ⊎ (c ≡ 78) → ⊥
    go (inl l) (inl e) = omega arith
    go (inl l) (inr e) = omega arith
    go (inr l) (inl e) = omega arith
    go (inr l) (inr e) = omega arith

integer_from : (negative : Bool) (text after : List ℕ) → AreBlanks after → numbers_from negative text after ≡ option_map (λ b. let r : AnB = record { a = pos 0; b = b } in r) (last_number negative text)
integer_from negative text [] b = refl
integer_from negative text (c ∷ cs) b = ap (λ t. cond t (option_map (λ b. let r : AnB = record { a = signed negative (step_size (digits_of text)); b = b } in r) (offset_of cs)) (option_map (λ b. let r : AnB = record { a = pos 0; b = b } in r) (last_number negative text))) (no_letter_in_blanks c cs b)

pub integer_reads : (text sign digits after : List ℕ) (y : AnB) → text ≡ sign ++ (digits ++ after) → AreDigits digits → y.a ≡ pos 0 → IsSigned sign (value digits) y.b → AreBlanks after → ReadsBody (numbers_of text) y
unfolding numbers_of
integer_reads text sign digits after y split d a h b = record {
  pair = record { a = pos 0; b = signed (is_minus text) (capped (value digits)) };
  found = all;
  caps = record { step = inl (sym a); offset = subst (λ (n : ℤ). Caps n (signed (is_minus text) (capped (value digits)))) s.number (caps_signed (is_minus text) (value digits)) };
}
  where
    s : SignRead text (digits ++ after) (value digits) y.b
    s = subst (λ (t : List ℕ). SignRead t (digits ++ after) (value digits) y.b) (sym split) (sign_reads sign (digits ++ after) (value digits) y.b h (unsigned_digits digits after d))

    all : numbers_from (is_minus text) (past_sign text) (past_digits (past_sign text)) ≡ Some (record { a = pos 0; b = signed (is_minus text) (capped (value digits)) })
    all = ap (λ (t : List ℕ). numbers_from (is_minus text) t (past_digits t)) s.past
        ∙ ap (numbers_from (is_minus text) (digits ++ after)) (past_digits_of_front digits after d.each (no_digit_in_blanks after b))
        ∙ integer_from (is_minus text) (digits ++ after) after b
        ∙ ap (option_map (λ b. let r : AnB = record { a = pos 0; b = b } in r)) (last_number_of (is_minus text) digits after d b)

-- the digits of a step are digits, of the size that it has
pub record StepDigits (digits : List ℕ) (size : ℕ) : Type 0 where
  pub each : list_all is_ascii_digit digits ≡ true
  pub read : step_size digits ≡ capped size

pub step_digits : (digits : List ℕ) (size : ℕ) → IsStepSize digits size → StepDigits digits size
step_digits digits size (one e f) = record { each = ap (list_all is_ascii_digit) e; read = ap step_size e ∙ sym (ap capped f) }
step_digits digits size (written d f) = record { each = d.each; read = ap (λ b. cond b 1 (capped (value digits))) (digits_not_empty digits d) ∙ sym (ap capped f) }

pub letter_no_digit : (n : ℕ) (rest : List ℕ) → (n ≡ 110) ⊎ (n ≡ 78) → prefix_len is_ascii_digit (n ∷ rest) ≡ 0
letter_no_digit n rest (inl e) = ap (λ c. prefix_len is_ascii_digit (c ∷ rest)) e
letter_no_digit n rest (inr e) = ap (λ c. prefix_len is_ascii_digit (c ∷ rest)) e

pub unsigned_step : (digits rest : List ℕ) (n size : ℕ) → (n ≡ 110) ⊎ (n ≡ 78) → IsStepSize digits size → IsUnsigned (digits ++ (n ∷ rest))
unsigned_step digits rest n size l (written d f) = unsigned_digits digits (n ∷ rest) d
unsigned_step digits rest n size (inl l) (one e f) = subst (λ (t : List ℕ). IsUnsigned (t ++ (n ∷ rest))) (sym e) (unsigned_at n rest (λ g. omega arith) (λ g. omega arith))
unsigned_step digits rest n size (inr l) (one e f) = subst (λ (t : List ℕ). IsUnsigned (t ++ (n ∷ rest))) (sym e) (unsigned_at n rest (λ g. omega arith) (λ g. omega arith))

pub letter_true : (n : ℕ) → (n ≡ 110) ⊎ (n ≡ 78) → ((n == 110) || (n == 78)) ≡ true
letter_true n (inl e) = ap (λ c. (c == 110) || (c == 78)) e
letter_true n (inr e) = ap (λ c. (c == 110) || (c == 78)) e

pub step_reads : (text sign digits rest : List ℕ) (n size : ℕ) (y : AnB) → text ≡ sign ++ (digits ++ (n ∷ rest)) → (n ≡ 110) ⊎ (n ≡ 78) → IsStepSize digits size → IsSigned sign size y.a → ReadsAs (offset_of rest) y.b → ReadsBody (numbers_of text) y
unfolding numbers_of
step_reads text sign digits rest n size y split l z h o = record {
  pair = record { a = signed (is_minus text) (capped size); b = o.number };
  found = all;
  caps = record { step = subst (λ (v : ℤ). Caps v (signed (is_minus text) (capped size))) s.number (caps_signed (is_minus text) size); offset = o.caps };
}
  where
    d : StepDigits digits size
    d = step_digits digits size z

    s : SignRead text (digits ++ (n ∷ rest)) size y.a
    s = subst (λ (t : List ℕ). SignRead t (digits ++ (n ∷ rest)) size y.a) (sym split) (sign_reads sign (digits ++ (n ∷ rest)) size y.a h (unsigned_step digits rest n size l z))

    all : numbers_from (is_minus text) (past_sign text) (past_digits (past_sign text)) ≡ Some (record { a = signed (is_minus text) (capped size); b = o.number })
    all = ap (λ (t : List ℕ). numbers_from (is_minus text) t (past_digits t)) s.past
        ∙ ap (numbers_from (is_minus text) (digits ++ (n ∷ rest))) (past_digits_of_front digits (n ∷ rest) d.each (letter_no_digit n rest l))
        ∙ ap (λ t. cond t (option_map (λ b. let r : AnB = record { a = signed (is_minus text) (step_size (digits_of (digits ++ (n ∷ rest)))); b = b } in r) (offset_of rest)) (option_map (λ b. let r : AnB = record { a = pos 0; b = b } in r) (last_number (is_minus text) (digits ++ (n ∷ rest))))) (letter_true n l)
        ∙ ap (option_map (λ b. let r : AnB = record { a = signed (is_minus text) (step_size (digits_of (digits ++ (n ∷ rest)))); b = b } in r)) o.found
        ∙ ap (λ (v : ℕ). Some (let r : AnB = record { a = signed (is_minus text) v; b = o.number } in r)) (ap step_size (digits_of_front digits (n ∷ rest) d.each (letter_no_digit n rest l)) ∙ d.read)
