-- The reader of a whole text against the notation.
use Rattle.std.proofs.Common.{◌≡◌, ℕ, ◌+◌, ◌<◌, ◌≤◌, ◌⊎◌, inl, inr, true, cond, List, [], ◌∷◌, ◌++◌, length, map, take, drop, ℤ, pos, refl, sym, ap, subst, ◌∙◌, arith, append_assoc, lt-ltb}
use Rattle.std.specs.Prelude.{Option, Some, None, codes, nat_lt}
use Rattle.std.specs.Char.{is_ascii_digit, to_ascii_lowercase}
use Rattle.std.specs.Str.{bytes_eq}
use Rattle.std.specs.Cmp.Lexicographic.{bytes_decides}
use Rattle.std.specs.List.{list_all}
use Rattle.std.proofs.lemmas.Bool.{cases_lt}
use Rattle.std.proofs.lemmas.List.{take-append-drop, append-nil, length-map}
use Rattle.std.proofs.Math.Seq.{take-append_seam, drop-append_seam}
use Rattle.css_model.specs.declared.position.AnB.{AnB}
use Rattle.css_model.specs.Positions.Notation.{AreBlanks, AreDigits, value, IsSigned, IsSignBefore, IsStepSize, one, written, IsBody, odd, even, integer, step, IsNotation}
use Rattle.css_model.specs.Positions.Reading.{past_blank, past_blanks, past_word, alone, numbers_of, body_of}
use Rattle.css_model.specs.Lists.{is_empty}
use Rattle.nth_positions.proofs.Cases.{chosen, both_are, same_some, none_is_no_some}
use Rattle.nth_positions.proofs.Blanks.{past_blanks_of, past_blanks_splits, Skips}
use Rattle.nth_positions.proofs.Bytes.{no_blank_at, digit_range, is_false}
use Rattle.nth_positions.proofs.Caps.{CapsBoth, caps_same}
use Rattle.nth_positions.proofs.Numbers.{empty_is, nothing_past, offset_reads}
use Rattle.nth_positions.proofs.Steps.{IsReadBody, ReadsBody, numbers_splits, integer_reads, step_reads}

-- ---- a word

pub record HasWord (word text rest : List ℕ) : Type 0 where
  pub front : List ℕ
  pub is : map to_ascii_lowercase front ≡ word
  pub split : text ≡ front ++ rest

word_splits : (word text rest : List ℕ) → past_word word text ≡ Some rest → HasWord word text rest
unfolding past_word
word_splits word text rest e = elim (chosen (bytes_eq (map to_ascii_lowercase (take (length word) text)) word) (Some (drop (length word) text)) None (Some rest) e) [
  | inl w ↦ record {
    front = take (length word) text;
    is = (bytes_decides (map to_ascii_lowercase (take (length word) text)) word).0 w.0;
    split = sym (take-append-drop (length word) text) ∙ ap (λ (t : List ℕ). take (length word) text ++ t) (same_some w.1);
  }
  | inr w ↦ absurd (none_is_no_some w.1)
]

pub word_read : (word front rest : List ℕ) → map to_ascii_lowercase front ≡ word → past_word word (front ++ rest) ≡ Some rest
unfolding past_word
word_read word front rest e =
    let n : length word ≡ length front = sym (ap length e) ∙ length-map front to_ascii_lowercase in
    let f : map to_ascii_lowercase (take (length word) (front ++ rest)) ≡ word = ap (λ n. map to_ascii_lowercase (take n (front ++ rest))) n ∙ ap (map to_ascii_lowercase) (take-append_seam front rest) ∙ e in
    ap (λ b. cond b (Some (drop (length word) (front ++ rest))) None) ((bytes_decides (map to_ascii_lowercase (take (length word) (front ++ rest))) word).1 f)
    ∙ ap (λ n. Some (drop n (front ++ rest))) n ∙ ap Some (drop-append_seam front rest)

other_word : (w : ℕ) (ws : List ℕ) (c : ℕ) (cs : List ℕ) → (to_ascii_lowercase c ≡ w → ⊥) → past_word (w ∷ ws) (c ∷ cs) ≡ None
unfolding past_word
other_word w ws c cs h = ap (λ b. cond b (Some (drop (length (w ∷ ws)) (c ∷ cs))) None) (is_false (bytes_eq (map to_ascii_lowercase (take (length (w ∷ ws)) (c ∷ cs))) (w ∷ ws)) (λ t.
    h (let e : (to_ascii_lowercase c ∷ map to_ascii_lowercase (take (length ws) cs)) ≡ w ∷ ws = (bytes_decides (map to_ascii_lowercase (take (length (w ∷ ws)) (c ∷ cs))) (w ∷ ws)).0 t in cc)))

-- ---- only blanks behind it

alone_is : (x y : AnB) (rest : List ℕ) → alone x rest ≡ Some y → AreBlanks rest × (x ≡ y)
unfolding alone
alone_is x y rest e = elim (chosen (is_empty (past_blanks rest)) (Some x) None (Some y) e) [
  | inl w ↦ (let s : Skips rest (past_blanks rest) = past_blanks_splits rest in
      (subst AreBlanks (sym (s.split ∙ ap (λ (t : List ℕ). s.front ++ t) (empty_is (past_blanks rest) w.0) ∙ append-nil s.front)) s.blank, same_some w.1))
  | inr w ↦ absurd (none_is_no_some w.1)
]

alone_read : (x : AnB) (rest : List ℕ) → AreBlanks rest → alone x rest ≡ Some x
unfolding alone
alone_read x rest b = ap (λ t. cond (is_empty t) (Some x) None) (nothing_past rest b)

-- ---- the body

body_odd : (text rest : List ℕ) → past_word (codes "odd") text ≡ Some rest → body_of text ≡ alone (record { a = pos 2; b = pos 1 }) rest
unfolding body_of
body_odd text rest e = rw (e, body_of) refl

body_even : (text rest : List ℕ) → past_word (codes "odd") text ≡ None → past_word (codes "even") text ≡ Some rest → body_of text ≡ alone (record { a = pos 2; b = pos 0 }) rest
unfolding body_of
body_even text rest e f = rw (e, f, body_of) refl

body_numbers : (text : List ℕ) → past_word (codes "odd") text ≡ None → past_word (codes "even") text ≡ None → body_of text ≡ numbers_of text
unfolding body_of
body_numbers text e f = rw (e, f, body_of) refl

pub body_splits : (text : List ℕ) (x : AnB) → body_of text ≡ Some x → IsReadBody text x
body_splits text x e = first (past_word (codes "odd") text) refl
  where
    keyword : (y : AnB) (body rest : List ℕ) → text ≡ body ++ rest → IsBody body y → alone y rest ≡ Some x → IsReadBody text x
    keyword y body rest split is a = record {
      body = body;
      after = rest;
      pair = y;
      split = split;
      is_body = is;
      blank = (alone_is y x rest a).0;
      caps = subst (CapsBoth y) (alone_is y x rest a).1 (record { step = caps_same y.a; offset = caps_same y.b });
    }

    second : (o : Option (List ℕ)) → past_word (codes "odd") text ≡ None → past_word (codes "even") text ≡ o → IsReadBody text x
    second (Some rest) n f = (let w : HasWord (codes "even") text rest = word_splits (codes "even") text rest f in keyword (record { a = pos 2; b = pos 0 }) w.front rest w.split (even w.is refl) (sym (body_even text rest n f) ∙ e))
    second None n f = numbers_splits text x (sym (body_numbers text n f) ∙ e)

    first : (o : Option (List ℕ)) → past_word (codes "odd") text ≡ o → IsReadBody text x
    first (Some rest) f = (let w : HasWord (codes "odd") text rest = word_splits (codes "odd") text rest f in keyword (record { a = pos 2; b = pos 1 }) w.front rest w.split (odd w.is refl) (sym (body_odd text rest f) ∙ e))
    first None f = second (past_word (codes "even") text) f refl

-- ---- how a body begins

-- neither like a blank nor like a word
pub record IsNumeric (c : ℕ) : Type 0 where
  pub high : 32 < c
  pub no_slash : c ≡ 47 → ⊥
  pub no_odd : to_ascii_lowercase c ≡ 111 → ⊥
  pub no_even : to_ascii_lowercase c ≡ 101 → ⊥

numeric_at : (c d : ℕ) → c ≡ d → IsNumeric d → IsNumeric c
numeric_at c d e n = subst IsNumeric (sym e) n

plus : IsNumeric 43
plus = record { high = omega arith; no_slash = λ e. omega arith; no_odd = λ e. omega arith; no_even = λ e. omega arith }

minus : IsNumeric 45
minus = record { high = omega arith; no_slash = λ e. omega arith; no_odd = λ e. omega arith; no_even = λ e. omega arith }

small_n : IsNumeric 110
small_n = record { high = omega arith; no_slash = λ e. omega arith; no_odd = λ e. omega arith; no_even = λ e. omega arith }

capital_n : IsNumeric 78
capital_n = record { high = omega arith; no_slash = λ e. omega arith; no_odd = λ e. omega arith; no_even = λ e. omega arith }

lower_small : (c : ℕ) → c < 65 → to_ascii_lowercase c ≡ c
lower_small c h = ap (λ b. cond b c (cond (nat_lt c 91) (c + 32) c)) (lt-ltb c 65 h)

digit : (c : ℕ) → is_ascii_digit c ≡ true → IsNumeric c
digit c d = (let r = digit_range c d in let low : 48 ≤ c = r.0 in let high : c ≤ 57 = r.1 in let l : to_ascii_lowercase c ≡ c = lower_small c (omega arith) in
    record { high = omega arith; no_slash = λ e. omega arith; no_odd = λ e. (let f : c ≡ 111 = sym l ∙ e in omega arith); no_even = λ e. (let f : c ≡ 101 = sym l ∙ e in omega arith) })

pub record BeginsNumeric (text : List ℕ) : Type 0 where
  pub byte : ℕ
  pub rest : List ℕ
  pub is : text ≡ byte ∷ rest
  pub numeric : IsNumeric byte

pub digits_begin : (digits rest : List ℕ) → AreDigits digits → BeginsNumeric (digits ++ rest)
digits_begin [] rest h = absurd (let l : 0 < length {A = ℕ} [] = h.some in omega arith)
digits_begin (c ∷ cs) rest h = record { byte = c; rest = cs ++ rest; is = refl; numeric = digit c (both_are (is_ascii_digit c) (list_all is_ascii_digit cs) h.each).0 }

pub signed_begin : (sign rest : List ℕ) (size : ℕ) (y : ℤ) → IsSigned sign size y → BeginsNumeric rest → BeginsNumeric (sign ++ rest)
signed_begin [] rest size y h b = b
signed_begin (c ∷ cs) rest size y h b = record { byte = c; rest = cs ++ rest; is = refl; numeric = go h.1 }
  where
    go : IsSignBefore c size y → IsNumeric c
    go (inl w) = numeric_at c 43 w.0 plus
    go (inr w) = numeric_at c 45 w.0 minus

pub step_begins : (digits rest : List ℕ) (n size : ℕ) → (n ≡ 110) ⊎ (n ≡ 78) → IsStepSize digits size → BeginsNumeric (digits ++ (n ∷ rest))
step_begins digits rest n size l (written d e) = digits_begin digits (n ∷ rest) d
step_begins digits rest n size (inl l) (one e f) = subst (λ (t : List ℕ). BeginsNumeric (t ++ (n ∷ rest))) (sym e) (record { byte = n; rest = rest; is = refl; numeric = numeric_at n 110 l small_n })
step_begins digits rest n size (inr l) (one e f) = subst (λ (t : List ℕ). BeginsNumeric (t ++ (n ∷ rest))) (sym e) (record { byte = n; rest = rest; is = refl; numeric = numeric_at n 78 l capital_n })

pub numeric_no_word : (text : List ℕ) → BeginsNumeric text → (past_word (codes "odd") text ≡ None) × (past_word (codes "even") text ≡ None)
numeric_no_word text b = subst (λ (t : List ℕ). (past_word (codes "odd") t ≡ None) × (past_word (codes "even") t ≡ None)) (sym b.is)
    (other_word 111 (codes "dd") b.byte b.rest b.numeric.no_odd, other_word 101 (codes "ven") b.byte b.rest b.numeric.no_even)

numeric_no_blank : (text : List ℕ) → BeginsNumeric text → past_blank text ≡ None
numeric_no_blank text b = subst (λ (t : List ℕ). past_blank t ≡ None) (sym b.is) (no_blank_at b.byte b.rest b.numeric.high b.numeric.no_slash)

-- a word begins with no blank
letter_no_blank : (c w : ℕ) (cs : List ℕ) → 65 ≤ w → to_ascii_lowercase c ≡ w → past_blank (c ∷ cs) ≡ None
letter_no_blank c w cs h e = elim (cases_lt c 65) [
  | inl l ↦ (let f : to_ascii_lowercase c ≡ c = lower_small c l in absurd (let g : c ≡ w = sym f ∙ e in omega arith))
  | inr l ↦ no_blank_at c cs (omega arith) (λ f. omega arith)
]

word_no_blank : (body after : List ℕ) (w : ℕ) (ws : List ℕ) → 65 ≤ w → map to_ascii_lowercase body ≡ w ∷ ws → past_blank (body ++ after) ≡ None
word_no_blank [] after w ws h e = cc
word_no_blank (c ∷ cs) after w ws h e = letter_no_blank c w (cs ++ after) h (cc)

-- ---- what is in the notation is read

keyword_read : (y z : AnB) (after : List ℕ) (o : Option AnB) → AreBlanks after → y ≡ z → o ≡ alone z after → ReadsBody o y
keyword_read y z after o b e f = record { pair = z; found = f ∙ alone_read z after b; caps = record { step = inl (sym (ap (λ (x : AnB). x.a) e)); offset = inl (sym (ap (λ (x : AnB). x.b) e)) } }

pub even_is_not_odd : (body after : List ℕ) → map to_ascii_lowercase body ≡ codes "even" → past_word (codes "odd") (body ++ after) ≡ None
even_is_not_odd [] after e = cc
even_is_not_odd (c ∷ cs) after e = other_word 111 (codes "dd") c (cs ++ after) (λ f. (let g : to_ascii_lowercase c ≡ 101 = cc in omega arith))

numbers_read : (text : List ℕ) (y : AnB) → BeginsNumeric text → ReadsBody (numbers_of text) y → ReadsBody (body_of text) y
numbers_read text y b r = subst (λ (o : Option AnB). ReadsBody o y) (sym (body_numbers text (numeric_no_word text b).0 (numeric_no_word text b).1)) r

-- a body and blanks: it begins with no blank, and is read
pub record IsRead (text : List ℕ) (y : AnB) : Type 0 where
  pub begins : past_blank text ≡ None
  pub reads : ReadsBody (body_of text) y

pub body_reads : (body after : List ℕ) (y : AnB) → IsBody body y → AreBlanks after → IsRead (body ++ after) y
body_reads body after y (odd e f) b = record {
  begins = word_no_blank body after 111 (codes "dd") (omega arith) e;
  reads = keyword_read y (record { a = pos 2; b = pos 1 }) after (body_of (body ++ after)) b f (body_odd (body ++ after) after (word_read (codes "odd") body after e));
}
body_reads body after y (even e f) b = record {
  begins = word_no_blank body after 101 (codes "ven") (omega arith) e;
  reads = keyword_read y (record { a = pos 2; b = pos 0 }) after (body_of (body ++ after)) b f (body_even (body ++ after) after (even_is_not_odd body after e) (word_read (codes "even") body after e));
}
body_reads body after y (integer sign digits e d a h) b = record {
  begins = numeric_no_blank (body ++ after) numeric;
  reads = numbers_read (body ++ after) y numeric (integer_reads (body ++ after) sign digits after y split d a h b);
}
  where
    split : body ++ after ≡ sign ++ (digits ++ after)
    split = ap (λ (t : List ℕ). t ++ after) e ∙ append_assoc sign digits after

    numeric : BeginsNumeric (body ++ after)
    numeric = subst BeginsNumeric (sym split) (signed_begin sign (digits ++ after) (value digits) y.b h (digits_begin digits after d))
body_reads body after y (step sign digits offset n size e l z h o) b = record {
  begins = numeric_no_blank (body ++ after) numeric;
  reads = numbers_read (body ++ after) y numeric (step_reads (body ++ after) sign digits (offset ++ after) n size y split l z h (offset_reads offset after y.b o b));
}
  where
    split : body ++ after ≡ sign ++ (digits ++ (n ∷ (offset ++ after)))
    split = ap (λ (t : List ℕ). t ++ after) e ∙ append_assoc sign (digits ++ (n ∷ offset)) after ∙ ap (λ (t : List ℕ). sign ++ t) (append_assoc digits (n ∷ offset) after)

    numeric : BeginsNumeric (body ++ after)
    numeric = subst BeginsNumeric (sym split) (signed_begin sign (digits ++ (n ∷ (offset ++ after))) size y.a h (step_begins digits (offset ++ after) n size l z))

-- ---- whole texts

pub text_reads : (text : List ℕ) (y : AnB) → IsNotation text y → ReadsBody (body_of (past_blanks text)) y
text_reads text y n = (let r : IsRead (n.body ++ n.after) y = body_reads n.body n.after y n.is_body n.blank_after in
    subst (λ (t : List ℕ). ReadsBody (body_of t) y) (sym (ap past_blanks n.parts ∙ past_blanks_of n.before (n.body ++ n.after) n.blank_before r.begins)) r.reads)

pub record IsReadText (text : List ℕ) (x : AnB) : Type 0 where
  pub pair : AnB
  pub is_notation : IsNotation text pair
  pub caps : CapsBoth pair x

pub text_splits : (text : List ℕ) (x : AnB) → body_of (past_blanks text) ≡ Some x → IsReadText text x
text_splits text x e =
    let s : Skips text (past_blanks text) = past_blanks_splits text in
    let r : IsReadBody (past_blanks text) x = body_splits (past_blanks text) x e in
    record {
      pair = r.pair;
      is_notation = record {
        before = s.front;
        body = r.body;
        after = r.after;
        parts = s.split ∙ ap (λ (t : List ℕ). s.front ++ t) r.split;
        blank_before = s.blank;
        is_body = r.is_body;
        blank_after = r.blank;
      };
      caps = r.caps;
    }
