-- Numbers, percentages and dimensions before another rest.
use Rattle.std.proofs.Common.{ℕ, suc, ◌+◌, ◌<◌, ◌≡◌, ◌⊎◌, inl, inr, Bool, true, false, cond, ltb, ◌==◌, List, [], ◌∷◌, ◌++◌, Option, Ok, Some, length, drop, take, refl, sym, ap, ◌∙◌, subst, arith, append_assoc}
use Rattle.std.proofs.lemmas.Bool.{eqb-true, ltb-true, ltb-false, lt-ltb, le-ltb}
use Rattle.std.proofs.lemmas.List.{drop_at, drop-append-le, length-append, length-drop, take-append-drop}
use Rattle.css_model.specs.declared.token.TokenKind.{TokenKind}
use Rattle.css_model.specs.declared.token.TokenKind.TheVariants as kind
use Rattle.css_model.specs.Text.Characters.{percent, begins}
use Rattle.css_model.specs.Text.Units.{name_start, name_len, number_len, signed_decimal, signed_digits}
use Rattle.css_model.specs.Text.TokenAt.{number_shape, done}
use Rattle.token_laws.specs.Alike.{Alike, ends_itself, is_exponent}
use Rattle.token_laws.proofs.Ends.Names.{name_again, name_start_le}
use Rattle.token_laws.proofs.Ends.Numbers.{NumberEnds, number_same, number_again}
use Rattle.token_laws.proofs.Ends.Alike.{alike_first}
use Rattle.token_laws.proofs.Ends.Shapes.{shape_parts, same_shape, by_last}

-- what follows a number of n bytes, where all has m bytes
pub record IsDimension (k : Option TokenKind) (m n : ℕ) (rest : List ℕ) : Type 0 where
  pub kinds : Some kind.Dimension ≡ k
  pub named : 0 < name_start rest
  pub len : n + name_len rest ≡ m

pub record IsPercentage (k : Option TokenKind) (m n : ℕ) (rest : List ℕ) : Type 0 where
  pub kinds : Some kind.Percentage ≡ k
  pub unnamed : name_start rest ≡ 0
  pub percented : begins percent rest ≡ true
  pub len : n + 1 ≡ m

pub record IsNumber (k : Option TokenKind) (m n : ℕ) (rest : List ℕ) : Type 0 where
  pub kinds : Some kind.Number ≡ k
  pub unnamed : name_start rest ≡ 0
  pub unpercented : begins percent rest ≡ false
  pub len : n ≡ m

abbrev IsAny : Option TokenKind → ℕ → ℕ → List ℕ → Type 0
IsAny k m n rest = IsDimension k m n rest ⊎ (IsPercentage k m n rest ⊎ IsNumber k m n rest)

number_parts : (k : Option TokenKind) (m n : ℕ) (rest : List ℕ) → number_shape n rest ≡ Ok (k, m) → IsAny k m n rest
number_parts k m n rest = which (ltb 0 (name_start rest)) refl (begins percent rest) refl
  where
    which : (b : Bool) → ltb 0 (name_start rest) ≡ b → (e : Bool) → begins percent rest ≡ e
        → cond b (done kind.Dimension (n + name_len rest)) (cond e (done kind.Percentage (n + 1)) (done kind.Number n)) ≡ Ok (k, m) → IsAny k m n rest
    which true named e percented is =
        let parts = shape_parts (Some kind.Dimension) k (n + name_len rest) m is in
        inl (record { kinds = parts.0; named = ltb-true 0 (name_start rest) named; len = parts.1 })
    which false named true percented is =
        let parts = shape_parts (Some kind.Percentage) k (n + 1) m is in
        let none : name_start rest ≡ 0 = omega (arith, ltb-false 0 (name_start rest) named) in
        inr (inl (record { kinds = parts.0; unnamed = none; percented = percented; len = parts.1 }))
    which false named false percented is =
        let parts = shape_parts (Some kind.Number) k n m is in
        let none : name_start rest ≡ 0 = omega (arith, ltb-false 0 (name_start rest) named) in
        inr (inr (record { kinds = parts.0; unnamed = none; unpercented = percented; len = parts.1 }))

number_from : (k : Option TokenKind) (m n : ℕ) (rest : List ℕ) → IsAny k m n rest → number_shape n rest ≡ Ok (k, m)
number_from k m n rest (inl is) =
    let named : ltb 0 (name_start rest) ≡ true = lt-ltb 0 (name_start rest) is.named in
    rw named (same_shape (Some kind.Dimension) k (n + name_len rest) m is.kinds is.len)
number_from k m n rest (inr (inl is)) =
    let named : ltb 0 (name_start rest) ≡ false = le-ltb 0 (name_start rest) (omega (arith, is.unnamed)) in
    rw (named, is.percented) (same_shape (Some kind.Percentage) k (n + 1) m is.kinds is.len)
number_from k m n rest (inr (inr is)) =
    let named : ltb 0 (name_start rest) ≡ false = le-ltb 0 (name_start rest) (omega (arith, is.unnamed)) in
    rw (named, is.unpercented) (same_shape (Some kind.Number) k n m is.kinds is.len)

-- a text that begins with a number
pub record NumberRead (k : Option TokenKind) (m : ℕ) (text : List ℕ) : Type 0 where
  pub some : 0 < signed_decimal text
  pub is : number_shape (number_len text) (drop (number_len text) text) ≡ Ok (k, m)

dimension_again : (old new : List ℕ) → Alike old new → (k : Option TokenKind) (c : ℕ) (cs : List ℕ)
    → ((front : List ℕ) (e : ℕ) → k ≡ Some kind.Dimension → c ∷ cs ≡ front ++ e ∷ [] → is_exponent e ≡ true → signed_digits old ≡ 0 → signed_digits new ≡ 0)
    → 0 < signed_decimal (c ∷ cs ++ old) → IsDimension k (suc (length cs)) (number_len (c ∷ cs ++ old)) (drop (number_len (c ∷ cs ++ old)) (c ∷ cs ++ old))
    → NumberRead k (suc (length cs)) (c ∷ cs ++ new)
dimension_again old new h k c cs exponents some dimension =
    let v = c ∷ cs in
    let m = signed_decimal (v ++ old) in
    let n = number_len (v ++ old) in
    let u = drop n v in
    let start = dimension.named in
    let whole = dimension.len in
    let longer = name_start_le (drop n (v ++ old)) in
    let inside : n < length v = omega (arith, start, whole, longer) in
    let size = length-drop m v in
    let ends : NumberEnds v old new = record {
      exponent = λ none _. let len = ap (λ (cs : List ℕ). length cs) none in absurd (omega (arith, len, size, inside));
      digits = λ e last. exponents (take m v) e (sym dimension.kinds) (sym (take-append-drop m v) ∙ ap (λ (cs : List ℕ). take m v ++ cs) last);
    } in
    let same = number_same old new h c cs ends (omega (arith, inside)) in
    let before : drop n (v ++ old) ≡ u ++ old = drop-append-le n v old (omega (arith, inside)) in
    let behind : drop (number_len (v ++ new)) (v ++ new) ≡ u ++ new = ap (λ (n : ℕ). drop n (v ++ new)) same.1 ∙ drop-append-le n v new (omega (arith, inside)) in
    let starts : 0 < name_start (u ++ old) = omega (arith, start, ap (λ (cs : List ℕ). name_start cs) before) in
    let names : name_len (u ++ old) ≡ length u = omega (arith, whole, ap (λ (cs : List ℕ). name_len cs) before, length-drop n v, inside) in
    let now = name_again old new h u starts names in
    let rest = drop (number_len (v ++ new)) (v ++ new) in
    let dimension' : IsDimension k (length v) (number_len (v ++ new)) rest = record {
      kinds = dimension.kinds;
      named = omega (arith, now.0, ap (λ (cs : List ℕ). name_start cs) behind);
      len = omega (arith, now.1, same.1, ap (λ (cs : List ℕ). name_len cs) behind, length-drop n v, inside);
    } in
    record { some = omega (arith, some, same.0); is = number_from k (length v) (number_len (v ++ new)) rest (inl dimension') }

plain_again : (old new : List ℕ) → Alike old new → (k : Option TokenKind) (c : ℕ) (cs : List ℕ) → 0 < signed_decimal (c ∷ cs ++ old)
    → IsNumber k (suc (length cs)) (number_len (c ∷ cs ++ old)) (drop (number_len (c ∷ cs ++ old)) (c ∷ cs ++ old)) → NumberRead k (suc (length cs)) (c ∷ cs ++ new)
plain_again old new h k c cs some number =
    let v = c ∷ cs in
    let n = number_len (v ++ old) in
    let before : drop n (v ++ old) ≡ old = drop_at v old n (sym number.len) in
    let none : name_start old ≡ 0 = sym (ap (λ (cs : List ℕ). name_start cs) before) ∙ number.unnamed in
    let unpercented : begins percent old ≡ false = sym (ap (λ (cs : List ℕ). begins percent cs) before) ∙ number.unpercented in
    let now = number_again old new h c cs none number.len in
    let n' = number_len (v ++ new) in
    let behind : drop n' (v ++ new) ≡ new = drop_at v new n' (sym now.1) in
    let number' : IsNumber k (length v) n' (drop n' (v ++ new)) = record {
      kinds = number.kinds;
      unnamed = ap (λ (cs : List ℕ). name_start cs) behind ∙ h.name none;
      unpercented = ap (λ (cs : List ℕ). begins percent cs) behind ∙ h.percentage unpercented;
      len = now.1;
    } in
    record { some = omega (arith, some, now.0); is = number_from k (length v) n' (drop n' (v ++ new)) (inr (inr number')) }

-- a number and `%`
percent_again : (old new w : List ℕ) (k : Option TokenKind) → Some kind.Percentage ≡ k → 0 < signed_decimal (w ++ percent ∷ old) → number_len (w ++ percent ∷ old) ≡ length w
    → NumberRead k (suc (length w)) (w ++ percent ∷ new)
percent_again old new [] k kinds some is = absurd (omega (arith, some, is))
percent_again old new (c ∷ cs) k kinds some is =
    let v = c ∷ cs in
    let text = v ++ percent ∷ new in
    let n = number_len text in
    let h : Alike (percent ∷ old) (percent ∷ new) = alike_first percent old new refl refl refl in
    let now = number_again (percent ∷ old) (percent ∷ new) h c cs refl is in
    let behind : drop n text ≡ percent ∷ new = drop_at v (percent ∷ new) n (sym now.1) in
    let percentage : IsPercentage k (suc (length v)) n (drop n text) = record {
      kinds = kinds;
      unnamed = ap (λ (cs : List ℕ). name_start cs) behind;
      percented = ap (λ (cs : List ℕ). begins percent cs) behind;
      len = omega (arith, now.1);
    } in
    record { some = omega (arith, some, now.0); is = number_from k (suc (length v)) n (drop n text) (inr (inl percentage)) }

percentage_again : (old new : List ℕ) (k : Option TokenKind) (v : List ℕ) → 0 < signed_decimal (v ++ old)
    → IsPercentage k (length v) (number_len (v ++ old)) (drop (number_len (v ++ old)) (v ++ old)) → NumberRead k (length v) (v ++ new)
percentage_again old new k =
    by_last (λ v. 0 < signed_decimal (v ++ old) → IsPercentage k (length v) (number_len (v ++ old)) (drop (number_len (v ++ old)) (v ++ old)) → NumberRead k (length v) (v ++ new))
    (λ _ percentage. let len = percentage.len in absurd (omega (arith, len))) last
  where
    C : List ℕ → ℕ → Type 0
    C w x = 0 < signed_decimal (w ++ x ∷ old) → number_len (w ++ x ∷ old) ≡ length w → NumberRead k (suc (length w)) (w ++ x ∷ new)

    last : (w : List ℕ) (x : ℕ) → 0 < signed_decimal ((w ++ x ∷ []) ++ old)
        → IsPercentage k (length (w ++ x ∷ [])) (number_len ((w ++ x ∷ []) ++ old)) (drop (number_len ((w ++ x ∷ []) ++ old)) ((w ++ x ∷ []) ++ old))
        → NumberRead k (length (w ++ x ∷ [])) ((w ++ x ∷ []) ++ new)
    last w x some percentage =
        let moved : (rest : List ℕ) → (w ++ x ∷ []) ++ rest ≡ w ++ x ∷ rest = λ rest. append_assoc w (x ∷ []) rest in
        let text = (w ++ x ∷ []) ++ old in
        let n = number_len text in
        let whole = percentage.len in
        let size = length-append w (x ∷ []) in
        let len : n ≡ length w = omega (arith, whole, size) in
        let before : drop n text ≡ x ∷ old = ap (λ (cs : List ℕ). drop n cs) (moved old) ∙ drop_at w (x ∷ old) n (sym len) in
        let at : (x == percent) ≡ true = sym (ap (λ (cs : List ℕ). begins percent cs) before) ∙ percentage.percented in
        let some' : 0 < signed_decimal (w ++ x ∷ old) = omega (arith, some, ap (λ (cs : List ℕ). signed_decimal cs) (moved old)) in
        let len' : number_len (w ++ x ∷ old) ≡ length w = sym (ap (λ (cs : List ℕ). number_len cs) (moved old)) ∙ len in
        let now : NumberRead k (suc (length w)) (w ++ x ∷ new) = subst (C w) (sym (eqb-true x percent at)) (percent_again old new w k percentage.kinds) some' len' in
        let sized : NumberRead k (length (w ++ x ∷ [])) (w ++ x ∷ new) = subst (λ (m : ℕ). NumberRead k m (w ++ x ∷ new)) (omega (arith, size)) now in
        subst (λ (cs : List ℕ). NumberRead k (length (w ++ x ∷ [])) cs) (sym (moved new)) sized

pub number_read_again : (old new : List ℕ) (k : Option TokenKind) → (ends_itself k ≡ false → Alike old new) → (c : ℕ) (cs : List ℕ)
    → ((front : List ℕ) (e : ℕ) → k ≡ Some kind.Dimension → c ∷ cs ≡ front ++ e ∷ [] → is_exponent e ≡ true → signed_digits old ≡ 0 → signed_digits new ≡ 0)
    → NumberRead k (suc (length cs)) (c ∷ cs ++ old) → NumberRead k (suc (length cs)) (c ∷ cs ++ new)
number_read_again old new k alike c cs exponents read =
    which (number_parts k (suc (length cs)) (number_len (c ∷ cs ++ old)) (drop (number_len (c ∷ cs ++ old)) (c ∷ cs ++ old)) read.is)
  where
    which : IsAny k (suc (length cs)) (number_len (c ∷ cs ++ old)) (drop (number_len (c ∷ cs ++ old)) (c ∷ cs ++ old)) → NumberRead k (suc (length cs)) (c ∷ cs ++ new)
    which (inl is) = dimension_again old new (alike (ap ends_itself (sym is.kinds))) k c cs exponents read.some is
    which (inr (inl is)) = percentage_again old new k (c ∷ cs) read.some is
    which (inr (inr is)) = plain_again old new (alike (ap ends_itself (sym is.kinds))) k c cs read.some is
