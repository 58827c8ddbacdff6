-- No notation of a step and an offset is shorter than the printed form.
use Rattle.std.proofs.Common.{◌≡◌, ℕ, zero, suc, ◌+◌, ◌-◌, ◌*◌, ◌^◌, ◌<◌, ◌≤◌, inl, inr, Bool, true, false, ◌&&◌, ◌==◌, cond, List, [], ◌∷◌, ◌++◌, length, map, ℤ, pos, negsuc, refl, sym, ap, subst, ◌∙◌, arith, eqb-true, length-append}
use Rattle.std.specs.Prelude.{codes, decimal, unsigned_abs, neg_ℤ, fold}
use Rattle.std.specs.Fmt.{signed_decimal}
use Rattle.std.specs.Char.{is_ascii_digit, to_ascii_lowercase}
use Rattle.std.specs.List.{list_all}
use Rattle.std.specs.Int.Digits.{number_from_digits_after, AllBelowBase}
use Rattle.std.proofs.lemmas.List.{length-map}
use Rattle.std.proofs.lemmas.Int.Digits.{number_after_lt}
use Rattle.std.proofs.lemmas.Fmt.{length-decimal-le, decimal_nonempty}
use Rattle.css_model.specs.declared.position.AnB.{AnB}
use Rattle.css_model.specs.Positions.Notation.{AreDigits, value, IsSigned, IsSignBefore, IsStepSize, one, written, IsOffset, nothing, signed, IsBody, odd, even, integer, step}
use Rattle.nth_positions.proofs.ForCallers.{both_are}
use Rattle.nth_positions.proofs.ForCallers.{digit_range}
use Rattle.css_model.specs.Positions.Printed.{is_number, size_text, step_text, offset_text, numbers_text, anb_text}
use Rattle.selector_text_laws.specs.Notation.Printed.{IsSized, TextIsShortest}
use Rattle.selector_text_laws.proofs.Notation.Shapes.{number_is}

figures : List ℕ → List ℕ
figures ds = map (λ c. c - 48) ds

below : (ds : List ℕ) → list_all is_ascii_digit ds ≡ true → AllBelowBase 10 (map (λ c. c - 48) ds)
below [] h = tt
below (c ∷ cs) h =
    let b = both_are (is_ascii_digit c) (list_all is_ascii_digit cs) h in
    let r = digit_range c b.0 in
    let high : c ≤ 57 = r.1 in
    (omega (arith, high), below cs b.1)

value_after : (n : ℕ) (ds : List ℕ) → fold (λ number digit. 10 * number + (digit - 48)) n ds ≡ number_from_digits_after 10 n (map (λ c. c - 48) ds)
value_after n [] = refl
value_after n (c ∷ cs) =
    let e : 10 * n + (c - 48) ≡ n * 10 + (c - 48) = omega arith in
    value_after (10 * n + (c - 48)) cs ∙ ap (λ (m : ℕ). number_from_digits_after 10 m (map (λ c. c - 48) cs)) e

value_below : (ds : List ℕ) → list_all is_ascii_digit ds ≡ true → value ds < 10 ^ length ds
value_below ds h =
    let l : number_from_digits_after 10 0 (map (λ c. c - 48) ds) < (0 + 1) * 10 ^ length (map (λ c. c - 48) ds) = number_after_lt 10 0 (map (λ c. c - 48) ds) (below ds h) in
    let n : length (map (λ c. c - 48) ds) ≡ length ds = length-map ds (λ c. c - 48) in
    let v : value ds ≡ number_from_digits_after 10 0 (map (λ c. c - 48) ds) = value_after 0 ds in
    let p : 10 ^ length (map (λ c. c - 48) ds) ≡ 10 ^ length ds = ap (λ (k : ℕ). 10 ^ k) n in
    omega (arith, l, v, p)

-- digits of a number are no fewer than its own
decimal_least : (ds : List ℕ) (n : ℕ) → AreDigits ds → n ≡ value ds → n < 2 ^ 64 → length (decimal n) ≤ length ds
decimal_least ds n d e small = length-decimal-le (length ds) n d.some (let v = value_below ds d.each in omega (arith, v, e)) small

neg_size : (size : ℕ) → unsigned_abs (neg_ℤ (pos size)) ≡ size
neg_size zero = refl
neg_size (suc n) = refl

sign_size : (c size : ℕ) (z : ℤ) → IsSignBefore c size z → unsigned_abs z ≡ size
sign_size c size z (inl w) = ap unsigned_abs w.1
sign_size c size z (inr w) = ap unsigned_abs w.1 ∙ neg_size size

signed_size : (sign : List ℕ) (size : ℕ) (z : ℤ) → IsSigned sign size z → unsigned_abs z ≡ size
signed_size [] size z e = ap unsigned_abs e
signed_size (c ∷ cs) size z e = sign_size c size z e.1

-- a negative number has its sign
sign_there : (sign : List ℕ) (size n : ℕ) → IsSigned sign size (negsuc n) → 1 ≤ length sign
sign_there [] size n e = absurd cc
sign_there (c ∷ cs) size n e = omega arith

signed_least : (sign ds : List ℕ) (z : ℤ) → AreDigits ds → IsSigned sign (value ds) z → unsigned_abs z < 2 ^ 63 → length (signed_decimal z) ≤ length sign + length ds
signed_least sign ds (pos n) d s small =
    let l = decimal_least ds n d (signed_size sign (value ds) (pos n) s) (omega (arith, small)) in omega (arith, l)
signed_least sign ds (negsuc n) d s small =
    let l = decimal_least ds (suc n) d (signed_size sign (value ds) (negsuc n) s) (omega (arith, small)) in
    let t = sign_there sign (value ds) n s in
    omega (arith, l, t)

cond_length : (b : Bool) (t : List ℕ) (k : ℕ) → length t ≤ k → length (cond b [] t) ≤ k
cond_length true t k h = omega arith
cond_length false t k h = h

size_least : (ds : List ℕ) (size : ℕ) → IsStepSize ds size → size < 2 ^ 64 → length (size_text size) ≤ length ds
size_least ds size (one e f) small = subst (λ (n : ℕ). length (size_text n) ≤ length ds) (sym f) (let l : 0 ≤ length ds = omega arith in l)
size_least ds size (written d e) small = cond_length (size == 1) (decimal size) (length ds) (decimal_least ds size d e small)

step_least : (sign ds : List ℕ) (size : ℕ) (a : ℤ) → IsStepSize ds size → IsSigned sign size a → unsigned_abs a < 2 ^ 63 → length (step_text a) ≤ length sign + length ds
step_least sign ds size (pos n) is s small =
    let same : n ≡ size = signed_size sign size (pos n) s in
    let l : length (size_text size) ≤ length ds = size_least ds size is (omega (arith, small, same)) in
    let e : length (size_text n) ≡ length (size_text size) = ap (λ (m : ℕ). length (size_text m)) same in
    omega (arith, l, e)
step_least sign ds size (negsuc n) is s small =
    let same : suc n ≡ size = signed_size sign size (negsuc n) s in
    let l : length (size_text size) ≤ length ds = size_least ds size is (omega (arith, small, same)) in
    let e : length (size_text (suc n)) ≡ length (size_text size) = ap (λ (m : ℕ). length (size_text m)) same in
    let t = sign_there sign size n s in
    omega (arith, l, e, t)

offset_signed : (b : ℤ) (ds : List ℕ) (c : ℕ) → AreDigits ds → IsSignBefore c (value ds) b → unsigned_abs b < 2 ^ 63 → length (offset_text b) ≤ 1 + length ds
offset_signed (pos n) ds c d s small =
    let l = decimal_least ds n d (sign_size c (value ds) (pos n) s) (omega (arith, small)) in
    cond_length (n == 0) (43 ∷ decimal n) (1 + length ds) (omega (arith, l))
offset_signed (negsuc n) ds c d s small =
    let l = decimal_least ds (suc n) d (sign_size c (value ds) (negsuc n) s) (omega (arith, small)) in
    omega (arith, l)

offset_least : (text : List ℕ) (b : ℤ) → IsOffset text b → unsigned_abs b < 2 ^ 63 → length (offset_text b) ≤ length text
offset_least text b (nothing e f) small = subst (λ (z : ℤ). length (offset_text z) ≤ length text) (sym f) (let l : 0 ≤ length text = omega arith in l)
offset_least text b (signed before between ds c e _ _ d s) small =
    let l = offset_signed b ds c d s small in
    let n : length text ≡ length (before ++ (c ∷ (between ++ ds))) = ap length e in
    let m : length (before ++ (c ∷ (between ++ ds))) ≡ length before + suc (length (between ++ ds)) = length-append before (c ∷ (between ++ ds)) in
    let k : length (between ++ ds) ≡ length between + length ds = length-append between ds in
    omega (arith, l, n, m, k)

-- an offset alone is at most one byte longer than behind an `n`
alone_least : (b : ℤ) → unsigned_abs b < 2 ^ 63 → length (signed_decimal b) ≤ 1 + length (offset_text b)
alone_least (pos n) small = which (n == 0) refl
  where
    which : (c : Bool) → (n == 0) ≡ c → length (decimal n) ≤ 1 + length (offset_text (pos n))
    which true e = (let is : n ≡ 0 = eqb-true n 0 e in let l = length-decimal-le 1 n (omega arith) (omega (arith, is)) (omega (arith, small)) in omega (arith, l))
    which false e = (let t : length (offset_text (pos n)) ≡ suc (length (decimal n)) = ap (λ b. length (cond b [] (43 ∷ decimal n))) e in omega (arith, t))
alone_least (negsuc n) small = omega arith

digits_there : (ds : List ℕ) (size : ℕ) → IsStepSize ds size → size ≡ 0 → 1 ≤ length ds
digits_there ds size (one e f) h = absurd (omega (arith, f, h))
digits_there ds size (written d e) h = d.some

odd_least : (a b : ℤ) → a ≡ pos 2 → b ≡ pos 1 → 4 ≤ length (step_text a) + (1 + length (offset_text b))
odd_least a b e f =
    let s : length (step_text a) ≡ length (decimal 2) = ap (λ (z : ℤ). length (step_text z)) e in
    let o : length (offset_text b) ≡ suc (length (decimal 1)) = ap (λ (z : ℤ). length (offset_text z)) f in
    let p : 0 < length (decimal 2) = decimal_nonempty 2 (omega arith) in
    let q : 0 < length (decimal 1) = decimal_nonempty 1 (omega arith) in
    omega (arith, s, o, p, q)

-- the parts of a step, together
step_length : (sign ds offset : List ℕ) (n : ℕ) → length (sign ++ (ds ++ (n ∷ offset))) ≡ length sign + length ds + suc (length offset)
step_length sign ds offset n =
    let a : length (sign ++ (ds ++ (n ∷ offset))) ≡ length sign + length (ds ++ (n ∷ offset)) = length-append sign (ds ++ (n ∷ offset)) in
    let b : length (ds ++ (n ∷ offset)) ≡ length ds + suc (length offset) = length-append ds (n ∷ offset) in
    omega (arith, a, b)

-- what a step takes at least
record StepIs (body : List ℕ) (a b : ℤ) : Type 0 where
  both : length (step_text a) + (1 + length (offset_text b)) ≤ length body
  alone : unsigned_abs a ≡ 0 → 2 + length (offset_text b) ≤ length body

step_takes : (sign ds offset body : List ℕ) (n size : ℕ) (a b : ℤ) → body ≡ sign ++ (ds ++ (n ∷ offset)) → IsStepSize ds size → IsSigned sign size a → IsOffset offset b
    → unsigned_abs a < 2 ^ 63 → unsigned_abs b < 2 ^ 63 → StepIs body a b
step_takes sign ds offset body n size a b split is s o small few =
    let l : length body ≡ length (sign ++ (ds ++ (n ∷ offset))) = ap length split in
    let m = step_length sign ds offset n in
    let t = step_least sign ds size a is s small in
    let u = offset_least offset b o few in
    record {
      both = omega (arith, l, m, t, u);
      alone = λ none. (let e : unsigned_abs a ≡ size = signed_size sign size a s in let d = digits_there ds size is (omega (arith, e, none)) in omega (arith, l, m, u, d));
    }

numbers_least : (x : AnB) (body : List ℕ) → IsSized x → StepIs body x.a x.b → length (numbers_text x) ≤ length body
numbers_least x body sized t = which (is_number 0 x.a) refl
  where
    which : (b : Bool) → is_number 0 x.a ≡ b → length (numbers_text x) ≤ length body
    which true e =
        (let l : length (numbers_text x) ≡ length (signed_decimal x.b) = ap (λ b. length (cond b (signed_decimal x.b) (step_text x.a ++ (110 ∷ offset_text x.b)))) e in
        let h : unsigned_abs x.a ≡ 0 = ap unsigned_abs (number_is 0 x.a e) in
        let m = t.alone h in
        let k = alone_least x.b sized.offset in
        omega (arith, l, m, k))
    which false e =
        (let l : length (numbers_text x) ≡ length (step_text x.a ++ (110 ∷ offset_text x.b)) = ap (λ b. length (cond b (signed_decimal x.b) (step_text x.a ++ (110 ∷ offset_text x.b)))) e in
        let m : length (step_text x.a ++ (110 ∷ offset_text x.b)) ≡ length (step_text x.a) + suc (length (offset_text x.b)) = length-append (step_text x.a) (110 ∷ offset_text x.b) in
        let k = t.both in
        omega (arith, l, m, k))

step_body_least : (x : AnB) (body : List ℕ) → IsSized x → StepIs body x.a x.b → length (anb_text x) ≤ length body
step_body_least x body sized t = which (is_number 2 x.a && is_number 1 x.b) refl
  where
    which : (b : Bool) → (is_number 2 x.a && is_number 1 x.b) ≡ b → length (anb_text x) ≤ length body
    which true e =
        (let l : length (anb_text x) ≡ 3 = ap (λ b. length (cond b (codes "odd") (numbers_text x))) e in
        let h = both_are (is_number 2 x.a) (is_number 1 x.b) e in
        let m = odd_least x.a x.b (number_is 2 x.a h.0) (number_is 1 x.b h.1) in
        let k = t.both in
        omega (arith, l, m, k))
    which false e =
        (let l : length (anb_text x) ≡ length (numbers_text x) = ap (λ b. length (cond b (codes "odd") (numbers_text x))) e in
        let m = numbers_least x body sized t in
        omega (arith, l, m))

lower_length : (text : List ℕ) (word : List ℕ) → map to_ascii_lowercase text ≡ word → length text ≡ length word
lower_length text word e = sym (length-map text to_ascii_lowercase) ∙ ap length e

even_length : (let x : AnB = record { a = pos 2; b = pos 0 } in length (anb_text x)) ≤ 2
even_length =
    let l : length (decimal 2) ≤ 1 = length-decimal-le 1 2 (omega arith) (omega arith) (omega arith) in
    let m : length (decimal 2 ++ (110 ∷ [])) ≡ length (decimal 2) + 1 = length-append (decimal 2) (110 ∷ []) in
    omega (arith, l, m)

integer_text : (a b : ℤ) → a ≡ pos 0 → (let x : AnB = record { a = a; b = b } in anb_text x) ≡ signed_decimal b
integer_text a b e = ap (λ (z : ℤ). let x : AnB = record { a = z; b = b } in anb_text x) e

body_least : (body : List ℕ) (x : AnB) → IsSized x → IsBody body x → length (anb_text x) ≤ length body
body_least body x sized (odd m e) =
    let l : length body ≡ 3 = lower_length body (codes "odd") m in
    let k : length (anb_text x) ≡ 3 = ap (λ (y : AnB). length (anb_text y)) e in
    omega (arith, l, k)
body_least body x sized (even m e) =
    let l : length body ≡ 4 = lower_length body (codes "even") m in
    let k : length (anb_text x) ≡ (let y : AnB = record { a = pos 2; b = pos 0 } in length (anb_text y)) = ap (λ (y : AnB). length (anb_text y)) e in
    let n = even_length in
    omega (arith, l, k, n)
body_least body x sized (integer sign ds split d zero_step s) =
    let l : length body ≡ length (sign ++ ds) = ap length split in
    let m : length (sign ++ ds) ≡ length sign + length ds = length-append sign ds in
    let k : length (anb_text x) ≡ length (signed_decimal x.b) = ap length (integer_text x.a x.b zero_step) in
    let n = signed_least sign ds x.b d s sized.offset in
    omega (arith, l, m, k, n)
body_least body x sized (step sign ds offset n size split _ is s o) =
    step_body_least x body sized (step_takes sign ds offset body n size x.a x.b split is s o sized.step sized.offset)

pub text_is_shortest : TextIsShortest
text_is_shortest x text sized n =
    let l = body_least n.body x sized n.is_body in
    let e : length text ≡ length (n.before ++ (n.body ++ n.after)) = ap length n.parts in
    let f : length (n.before ++ (n.body ++ n.after)) ≡ length n.before + length (n.body ++ n.after) = length-append n.before (n.body ++ n.after) in
    let g : length (n.body ++ n.after) ≡ length n.body + length n.after = length-append n.body n.after in
    omega (arith, l, e, f, g)
