-- The digits at the front of a text, and the number at its end.
use Rattle.std.proofs.Common.{◌≡◌, ℕ, suc, ◌+◌, Bool, true, false, ◌&&◌, cond, List, [], ◌∷◌, ◌++◌, length, take, drop, refl, sym, ap, subst, ◌∙◌, arith}
use Rattle.std.specs.Char.{is_ascii_digit}
use Rattle.std.specs.List.{prefix_len, list_all, AllPass}
use Rattle.std.proofs.lemmas.List.{take-append-drop}
use Rattle.std.proofs.lemmas.List.Sums.{AllPass-from_list_all}
use Rattle.std.proofs.Math.Seq.{take-append_seam, drop-append_seam}
use Rattle.css_model.specs.Positions.Notation.{AreDigits}
use Rattle.css_model.specs.Positions.Reading.{digits_of, past_digits}
use Rattle.nth_positions.proofs.Cases.{both_are}

one_more : (c : ℕ) (cs : List ℕ) → is_ascii_digit c ≡ true → prefix_len is_ascii_digit (c ∷ cs) ≡ suc (prefix_len is_ascii_digit cs)
one_more c cs e = ap (λ b. cond b (1 + prefix_len is_ascii_digit cs) 0) e ∙ omega arith

pub no_more : (c : ℕ) (cs : List ℕ) → is_ascii_digit c ≡ false → prefix_len is_ascii_digit (c ∷ cs) ≡ 0
no_more c cs e = ap (λ b. cond b (1 + prefix_len is_ascii_digit cs) 0) e

digits_are : (text : List ℕ) → list_all is_ascii_digit (digits_of text) ≡ true
digits_are [] = refl
digits_are (c ∷ cs) = go (is_ascii_digit c) refl (digits_are cs)
  where
    go : (b : Bool) → is_ascii_digit c ≡ b → list_all is_ascii_digit (digits_of cs) ≡ true → list_all is_ascii_digit (digits_of (c ∷ cs)) ≡ true
    go true e h = subst (λ (n : ℕ). list_all is_ascii_digit (take n (c ∷ cs)) ≡ true) (sym (one_more c cs e)) (ap (λ b. b && list_all is_ascii_digit (digits_of cs)) e ∙ h)
    go false e h = subst (λ (n : ℕ). list_all is_ascii_digit (take n (c ∷ cs)) ≡ true) (sym (no_more c cs e)) refl

pub digits_pass : (text : List ℕ) → AllPass is_ascii_digit (digits_of text)
digits_pass text = AllPass-from_list_all is_ascii_digit (digits_of text) (digits_are text)

pub digits_split : (text : List ℕ) → text ≡ digits_of text ++ past_digits text
digits_split text = sym (take-append-drop (prefix_len is_ascii_digit text) text)

pub digits_found : (c : ℕ) (cs text : List ℕ) → digits_of text ≡ c ∷ cs → AreDigits (digits_of text)
digits_found c cs text e = record { some = (let l : length (digits_of text) ≡ length (c ∷ cs) = ap length e in omega arith); each = digits_are text }

-- digits, and a text that begins with none
how_many : (digits rest : List ℕ) → list_all is_ascii_digit digits ≡ true → prefix_len is_ascii_digit rest ≡ 0 → prefix_len is_ascii_digit (digits ++ rest) ≡ length digits
how_many [] rest h e = e
how_many (c ∷ cs) rest h e = (let b = both_are (is_ascii_digit c) (list_all is_ascii_digit cs) h in
    one_more c (cs ++ rest) b.0 ∙ (let r : prefix_len is_ascii_digit (cs ++ rest) ≡ length cs = how_many cs rest b.1 e in ap suc r))

pub digits_of_front : (digits rest : List ℕ) → list_all is_ascii_digit digits ≡ true → prefix_len is_ascii_digit rest ≡ 0 → digits_of (digits ++ rest) ≡ digits
digits_of_front digits rest h e = ap (λ n. take n (digits ++ rest)) (how_many digits rest h e) ∙ take-append_seam digits rest

pub past_digits_of_front : (digits rest : List ℕ) → list_all is_ascii_digit digits ≡ true → prefix_len is_ascii_digit rest ≡ 0 → past_digits (digits ++ rest) ≡ rest
past_digits_of_front digits rest h e = ap (λ n. drop n (digits ++ rest)) (how_many digits rest h e) ∙ drop-append_seam digits rest
