-- The printed form of a step and an offset is a notation of them.
use Rattle.std.proofs.Common.{◌≡◌, ℕ, suc, ◌+◌, ◌-◌, ◌*◌, ◌/◌, ◌%◌, ◌^◌, ◌<◌, ◌≤◌, inl, inr, Bool, true, false, ◌&&◌, ◌==◌, cond, List, [], ◌∷◌, ◌++◌, ℤ, pos, negsuc, refl, sym, ap, subst, ◌∙◌, arith, eqb-true, length-append}
use Rattle.std.specs.Prelude.{codes, decimal, unsigned_abs, neg_ℤ, fold, Some}
use Rattle.std.specs.Fmt.{signed_decimal}
use Rattle.std.specs.Char.{is_ascii_digit}
use Rattle.std.proofs.lemmas.List.{append-nil}
use Rattle.std.proofs.lemmas.List.Sums.{fold-append}
use Rattle.std.proofs.lemmas.List.Folds.{list_all-append}
use Rattle.std.proofs.lemmas.Fmt.{decimal_by_steps}
use Rattle.css_model.specs.declared.position.AnB.{AnB}
use Rattle.css_model.specs.Positions.Notation.{AreBlanks, AreDigits, value, IsStepSize, one, written, IsOffset, nothing, signed, IsBody, odd, integer, step}
use Rattle.nth_positions.proofs.ForCallers.{both_are}
use Rattle.nth_positions.proofs.ForCallers.{pair, same_if_in_range}
use Rattle.nth_positions.proofs.ForCallers.{text_reads}
use Rattle.css_model.specs.Positions.Printed.{is_number, size_text, step_text, offset_text, numbers_text, anb_text}
use Rattle.selector_text_laws.specs.Notation.Printed.{IsSized, TextIsNotation, TextIsRead}

-- digits that write this number
pub record Writes (n : ℕ) (ds : List ℕ) : Type 0 where
  pub digits : AreDigits ds
  pub is : value ds ≡ n

digit_is : (d : ℕ) → d < 10 → is_ascii_digit (48 + d) ≡ true
digit_is d low = grind (arith, low)

one_digit : (n : ℕ) → n < 10 → Writes n ((48 + n) ∷ [])
one_digit n low = record {
  digits = record { some = omega arith; each = ap (λ b. b && true) (digit_is n low) };
  is = omega arith;
}

more_digits : (n : ℕ) (ds : List ℕ) → 10 ≤ n → Writes (n / 10) ds → Writes n (ds ++ ((48 + n % 10) ∷ []))
more_digits n ds big w =
    let last : n % 10 < 10 = omega arith in
    let e : fold (λ number digit. 10 * number + (digit - 48)) 0 (ds ++ ((48 + n % 10) ∷ [])) ≡ 10 * value ds + ((48 + n % 10) - 48) = fold-append (λ number digit. 10 * number + (digit - 48)) 0 ds ((48 + n % 10) ∷ []) in
    let v : value ds ≡ n / 10 = w.is in
    record {
      digits = record {
        some = (let l = w.digits.some in omega (arith, l, length-append ds ((48 + n % 10) ∷ [])));
        each = list_all-append is_ascii_digit ds ((48 + n % 10) ∷ []) ∙ ap (λ b. b && (is_ascii_digit (48 + n % 10) && true)) w.digits.each ∙ ap (λ b. b && true) (digit_is (n % 10) last);
      };
      is = e ∙ omega (arith, v);
    }

pub decimal_writes : (n : ℕ) → n < 2 ^ 64 → Writes n (decimal n)
decimal_writes n small = decimal_by_steps Writes one_digit more_digits n small

pub no_blanks : AreBlanks []
no_blanks = record { blanks = []; each = tt; joined = refl }

pub number_is : (n : ℕ) (z : ℤ) → is_number n z ≡ true → z ≡ pos n
number_is n (pos m) e = ap pos (eqb-true m n e)
number_is n (negsuc m) e = cc

size_is : (n : ℕ) → n < 2 ^ 64 → IsStepSize (size_text n) n
size_is n small = which (n == 1) refl
  where
    which : (b : Bool) → (n == 1) ≡ b → IsStepSize (size_text n) n
    which true e = one (ap (λ b. cond b [] (decimal n)) e) (eqb-true n 1 e)
    which false e = subst (λ (t : List ℕ). IsStepSize t n) (sym (ap (λ b. cond b [] (decimal n)) e)) (let w = decimal_writes n small in written w.digits (sym w.is))

offset_is : (b : ℤ) → unsigned_abs b < 2 ^ 63 → IsOffset (offset_text b) b
offset_is (pos n) small = which (n == 0) refl
  where
    at : AreDigits (decimal n) × (value (decimal n) ≡ n)
    at = let w = decimal_writes n (omega (arith, small)) in (w.digits, w.is)

    which : (c : Bool) → (n == 0) ≡ c → IsOffset (offset_text (pos n)) (pos n)
    which true e = nothing (ap (λ b. cond b [] (43 ∷ decimal n)) e) (ap pos (eqb-true n 0 e))
    which false e = signed [] [] (decimal n) 43 (ap (λ b. cond b [] (43 ∷ decimal n)) e) no_blanks no_blanks at.0 (inl (refl, ap pos (sym at.1)))
offset_is (negsuc n) small =
    let w = decimal_writes (suc n) (omega (arith, small)) in
    signed [] [] (decimal (suc n)) 45 refl no_blanks no_blanks w.digits (inr (refl, ap (λ (m : ℕ). neg_ℤ (pos m)) (sym w.is)))

step_is : (a b : ℤ) → unsigned_abs a < 2 ^ 63 → unsigned_abs b < 2 ^ 63 → (let x : AnB = record { a = a; b = b } in IsBody (step_text a ++ (110 ∷ offset_text b)) x)
step_is (pos n) b small few = step [] (size_text n) (offset_text b) 110 n refl (inl refl) (size_is n (omega (arith, small))) refl (offset_is b few)
step_is (negsuc n) b small few = step (45 ∷ []) (size_text (suc n)) (offset_text b) 110 (suc n) refl (inl refl) (size_is (suc n) (omega (arith, small))) (refl, inr (refl, refl)) (offset_is b few)

integer_is : (a b : ℤ) → a ≡ pos 0 → unsigned_abs b < 2 ^ 63 → (let x : AnB = record { a = a; b = b } in IsBody (signed_decimal b) x)
integer_is a (pos n) zero_step small = let w = decimal_writes n (omega (arith, small)) in integer [] (decimal n) refl w.digits zero_step (ap pos (sym w.is))
integer_is a (negsuc n) zero_step small =
    let w = decimal_writes (suc n) (omega (arith, small)) in
    integer (45 ∷ []) (decimal (suc n)) refl w.digits zero_step (refl, inr (refl, ap (λ (m : ℕ). neg_ℤ (pos m)) (sym w.is)))

numbers_are : (x : AnB) → IsSized x → IsBody (numbers_text x) x
numbers_are x sized = which (is_number 0 x.a) refl
  where
    which : (b : Bool) → is_number 0 x.a ≡ b → IsBody (numbers_text x) x
    which true e = subst (λ (t : List ℕ). IsBody t x) (sym (ap (λ b. cond b (signed_decimal x.b) (step_text x.a ++ (110 ∷ offset_text x.b))) e)) (integer_is x.a x.b (number_is 0 x.a e) sized.offset)
    which false e = subst (λ (t : List ℕ). IsBody t x) (sym (ap (λ b. cond b (signed_decimal x.b) (step_text x.a ++ (110 ∷ offset_text x.b))) e)) (step_is x.a x.b sized.step sized.offset)

pub both_same : (x : AnB) (a b : ℤ) → x.a ≡ a → x.b ≡ b → (let y : AnB = record { a = a; b = b } in x ≡ y)
both_same x a b e f = pair (record { a = a; b = b }) x e f

pub body_is : (x : AnB) → IsSized x → IsBody (anb_text x) x
body_is x sized = which (is_number 2 x.a && is_number 1 x.b) refl
  where
    chosen : (b : Bool) → (is_number 2 x.a && is_number 1 x.b) ≡ b → cond b (codes "odd") (numbers_text x) ≡ anb_text x
    chosen b e = sym (ap (λ b. cond b (codes "odd") (numbers_text x)) e)

    which : (b : Bool) → (is_number 2 x.a && is_number 1 x.b) ≡ b → IsBody (anb_text x) x
    which true e = (let h = both_are (is_number 2 x.a) (is_number 1 x.b) e in
        subst (λ (t : List ℕ). IsBody t x) (chosen true e) (odd refl (both_same x (pos 2) (pos 1) (number_is 2 x.a h.0) (number_is 1 x.b h.1))))
    which false e = subst (λ (t : List ℕ). IsBody t x) (chosen false e) (numbers_are x sized)

pub text_is_notation : TextIsNotation
text_is_notation x sized = record {
  before = [];
  body = anb_text x;
  after = [];
  parts = sym (append-nil (anb_text x));
  blank_before = no_blanks;
  is_body = body_is x sized;
  blank_after = no_blanks;
}

pub text_is_read : TextIsRead
text_is_read x range =
    let s : unsigned_abs x.a ≤ 32 = range.0 in
    let o : unsigned_abs x.b ≤ 1000 = range.1 in
    let r = text_reads (anb_text x) x (text_is_notation x (record { step = omega (arith, s); offset = omega (arith, o) })) in
    r.found ∙ ap Some (same_if_in_range x r.pair r.caps range)
