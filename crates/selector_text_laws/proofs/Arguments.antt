-- An argument that is read: it is in range, a `)` stands behind it, and its printed form is no longer than its tokens.
use Rattle.std.proofs.Common.{◌≡◌, ◌==◌, inl, inr, ℕ, zero, suc, ◌+◌, ◌-◌, ◌≤◌, Bool, true, false, not, ◌||◌, cond, List, [], ◌∷◌, ◌++◌, Option, Some, None, Result, Ok, Err, length, map, take, refl, sym, ap, subst, ◌∙◌, arith, length-append}
use Rattle.std.specs.Prelude.{unsigned_abs, nat_le, codes}
use Rattle.std.specs.List.{before_first, flat_map, list_any, position_or_len}
use Rattle.std.proofs.lemmas.Bool.{and_parts, false≢true}
use Rattle.css_model.specs.declared.position.AnB.{AnB}
use Rattle.css_model.specs.declared.reason.Reason.{Reason}
use Rattle.css_model.specs.declared.token.Gap.{Gap}
use Rattle.css_model.specs.declared.token.Gap.TheVariants as gap
use Rattle.css_model.specs.declared.token.TokenKind.{TokenKind}
use Rattle.css_model.specs.declared.token.TokenKind.TheVariants as kind
use Rattle.css_model.specs.Positions.Notation.{IsNotation}
use Rattle.css_model.specs.Positions.Printed.{anb_text}
use Rattle.css_model.specs.Positions.Range.{IsInRange, is_in_range}
use Rattle.css_model.specs.Selectors.Arguments.{against_argument, argument_of, argument_text, blank, closes_round, in_range_or, is_position_function, notation_of}
use Rattle.css_model.specs.declared.reason.Reason.TheVariants.{PositionOutOfRange}
use Rattle.css_model.specs.Selectors.Tokens.{SelectorToken, is_function, is_word, name_in, plain_bytes, selector_token}
use Rattle.css_model.specs.Text.Characters.{backslash}
use Rattle.css_model.specs.Text.Kept.{Solid}
use Rattle.css_model.specs.Text.Names.{is_url, unescaped}
use Rattle.nth_positions.proofs.ForCallers.{none_is_no_some, one_is, same_if_read_in_range, text_splits}
use Rattle.selector_text_laws.specs.Notation.Printed.{IsSized}
use Rattle.selector_text_laws.proofs.Notation.Shortest.{text_is_shortest}
use Rattle.selector_laws.proofs.ForCallers.{word_apart}
use Rattle.selector_text_laws.specs.Back.{argument, if_read, is_closing}

-- a byte at least for a gap
abbrev pub gap_size : Gap → ℕ
gap_size gap.Nothing = 0
gap_size g = 1

-- the least size of the first j tokens before others, with what stands behind each
abbrev pub front_size : ℕ → List Solid → ℕ
front_size j [] = 0
front_size zero (s ∷ ss) = 0
front_size (suc j) (s ∷ []) = length s.bytes
front_size (suc j) (s ∷ t ∷ ts) = length s.bytes + (gap_size s.gap + front_size j (t ∷ ts))

-- what is known where the argument of a token before others is read
pub record IsArgument (s : Solid) (ss : List Solid) (x : AnB) : Type 0 where
  pub position : is_position_function (selector_token s) ≡ true
  pub reads : argument_of s.gap (map selector_token ss) ≡ Ok x
  pub range : is_in_range x ≡ true
  pub sized : IsSized x
  pub closed : list_any is_closing ss ≡ true
  pub short : length (anb_text x) ≤ gap_size s.gap + front_size (position_or_len is_closing ss) ss
  pub called : s.kind ≡ kind.Function
  pub other : is_url (take (length s.bytes - 1) s.bytes) ≡ false

-- ---- what is read

read_is : (r : Result AnB Reason) (x : AnB) → if_read r ≡ Some x → r ≡ Ok x
read_is (Ok y) x e = (let same : y ≡ x = cc in ap (λ (z : AnB). Ok z) same)
read_is (Err reason) x e = absurd (none_is_no_some e)

ok_apart : (reason : Reason) (x : AnB) → ◌≡◌ {A = Result AnB Reason} (Err reason) (Ok x) → ⊥
ok_apart reason x e = absurd (let none : ⊥ = cc in none)

-- the parts of an argument that is read
pub record IsReadArgument (g : Gap) (xs : List SelectorToken) (x : AnB) : Type 0 where
  pub closed : list_any closes_round xs ≡ true
  pub notation : notation_of (argument_text g (before_first closes_round xs)) ≡ Some x
  pub range : is_in_range x ≡ true

pub argument_parts : (g : Gap) (xs : List SelectorToken) (x : AnB) → argument_of g xs ≡ Ok x → IsReadArgument g xs x
argument_parts g xs x e = which (list_any closes_round xs) refl (against_argument g (before_first closes_round xs)) (notation_of (argument_text g (before_first closes_round xs))) refl e
  where
    ranged : (y : AnB) (b : Bool) → is_in_range y ≡ b → cond {A = Result AnB Reason} b (Ok y) (Err PositionOutOfRange) ≡ Ok x → (y ≡ x) × (is_in_range x ≡ true)
    ranged y true is e = (let same : y ≡ x = cc in (same, ap is_in_range (sym same) ∙ is))
    ranged y false is e = absurd (ok_apart PositionOutOfRange x e)

    inside : (o : Option AnB) (reason : Reason) → notation_of (argument_text g (before_first closes_round xs)) ≡ o → in_range_or reason o ≡ Ok x
        → (notation_of (argument_text g (before_first closes_round xs)) ≡ Some x) × (is_in_range x ≡ true)
    inside None reason is e = absurd (ok_apart reason x e)
    inside (Some y) reason is e = (let r = ranged y (is_in_range y) refl e in (is ∙ ap (λ (z : AnB). Some z) r.0, r.1))

    which : (b : Bool) → list_any closes_round xs ≡ b → (reason : Reason) (o : Option AnB) → notation_of (argument_text g (before_first closes_round xs)) ≡ o
        → cond b (in_range_or reason o) (Err reason) ≡ Ok x → IsReadArgument g xs x
    which true closed reason o is e = (let i = inside o reason is e in record { closed = closed; notation = i.0; range = i.1 })
    which false closed reason o is e = absurd (ok_apart reason x e)

-- ---- sizes

pub in_range : (x : AnB) → is_in_range x ≡ true → IsInRange x
in_range x e =
    let b = and_parts (nat_le (unsigned_abs x.a) 32) (nat_le (unsigned_abs x.b) 1000) e in
    (grind (arith, b.0), grind (arith, b.1))

pub sized_of : (x : AnB) → is_in_range x ≡ true → IsSized x
sized_of x e =
    let r = in_range x e in
    let s : unsigned_abs x.a ≤ 32 = r.0 in
    let o : unsigned_abs x.b ≤ 1000 = r.1 in
    record { step = omega (arith, s); offset = omega (arith, o) }

-- a token without its escapes is no longer
any_some : (p : ℕ → Bool) (xs : List ℕ) → list_any p xs ≡ true → 1 ≤ length xs
any_some p [] e = absurd (false≢true e)
any_some p (x ∷ xs) e = omega arith

plain_short : (bytes : List ℕ) → length (plain_bytes bytes) ≤ length bytes
plain_short bytes = which (list_any (λ c. c == backslash) bytes) refl
  where
    which : (b : Bool) → list_any (λ c. c == backslash) bytes ≡ b → length (cond b (backslash ∷ []) bytes) ≤ length bytes
    which true e = any_some (λ c. c == backslash) bytes e
    which false e = omega arith

blank_size : (g : Gap) → length (blank g) ≡ gap_size g
blank_size gap.Nothing = refl
blank_size gap.Comments = refl
blank_size gap.White = refl

abbrev spells : SelectorToken → List ℕ
spells x = x.bytes ++ blank x.gap

-- the text of the tokens before the first `)`
inside_size : (ss : List Solid) → list_any is_closing ss ≡ true → length (flat_map spells (take (position_or_len is_closing ss) (map selector_token ss))) ≤ front_size (position_or_len is_closing ss) ss
inside_size [] some = absurd (false≢true some)
inside_size (s ∷ ss) some = which (is_closing s) refl some (inside_size ss)
  where
    J : ℕ → Type 0
    J j = length (flat_map spells (take j (map selector_token (s ∷ ss)))) ≤ front_size j (s ∷ ss)

    more : (ss : List Solid) → list_any is_closing ss ≡ true → (j : ℕ) → length (flat_map spells (take j (map selector_token ss))) ≤ front_size j ss
        → length (flat_map spells (take (suc j) (map selector_token (s ∷ ss)))) ≤ front_size (suc j) (s ∷ ss)
    more [] some j later = absurd (false≢true some)
    more (t ∷ ts) some j later =
        let p = plain_short s.bytes in
        let g = blank_size s.gap in
        let h = length-append (plain_bytes s.bytes) (blank s.gap) in
        let i = length-append (plain_bytes s.bytes ++ blank s.gap) (flat_map spells (take j (map selector_token (t ∷ ts)))) in
        omega (arith, p, g, h, i, later)

    which : (b : Bool) → is_closing s ≡ b → (b || list_any is_closing ss) ≡ true
        → (list_any is_closing ss ≡ true → length (flat_map spells (take (position_or_len is_closing ss) (map selector_token ss))) ≤ front_size (position_or_len is_closing ss) ss) → J (position_or_len is_closing (s ∷ ss))
    which true e some later =
        let none : position_or_len is_closing (s ∷ ss) ≡ 0 = ap (λ b. cond (not b) (1 + position_or_len is_closing ss) 0) e in
        subst J (sym none) (omega arith)
    which false e some later =
        let next : position_or_len is_closing (s ∷ ss) ≡ suc (position_or_len is_closing ss) = ap (λ b. cond (not b) (1 + position_or_len is_closing ss) 0) e ∙ omega arith in
        subst J (sym next) (more ss some (position_or_len is_closing ss) (later some))

-- tokens and what is taken from them close at the same place
pub close_same : (ss : List Solid) → position_or_len closes_round (map selector_token ss) ≡ position_or_len is_closing ss
close_same [] = refl
close_same (s ∷ ss) = ap (λ (n : ℕ). cond (not (is_closing s)) (1 + n) 0) (close_same ss)

pub any_same : (ss : List Solid) → list_any closes_round (map selector_token ss) ≡ list_any is_closing ss
any_same [] = refl
any_same (s ∷ ss) = ap (λ b. is_closing s || b) (any_same ss)

argument_short : (g : Gap) (ss : List Solid) (x : AnB) → list_any is_closing ss ≡ true → IsReadArgument g (map selector_token ss) x → length (anb_text x) ≤ gap_size g + front_size (position_or_len is_closing ss) ss
argument_short g ss x some r =
    let text = argument_text g (before_first closes_round (map selector_token ss)) in
    let t = text_splits text x r.notation in
    let same : x ≡ t.pair = same_if_read_in_range t.pair x t.caps (in_range x r.range) in
    let n : IsNotation text x = subst (λ (y : AnB). IsNotation text y) (sym same) t.is_notation in
    let least : length (anb_text x) ≤ length text = text_is_shortest x text (sized_of x r.range) n in
    let cut : length (flat_map spells (take (position_or_len closes_round (map selector_token ss)) (map selector_token ss))) ≡ length (flat_map spells (take (position_or_len is_closing ss) (map selector_token ss))) =
    ap (λ (j : ℕ). length (flat_map spells (take j (map selector_token ss)))) (close_same ss) in
    let all = length-append (blank g) (flat_map spells (take (position_or_len closes_round (map selector_token ss)) (map selector_token ss))) in
    let low = inside_size ss some in
    let b = blank_size g in
    omega (arith, least, cut, all, low, b)

-- ---- the function

function_is : (k : TokenKind) → is_function k ≡ true → k ≡ kind.Function
function_is kind.Function e = refl
function_is _ e = absurd (false≢true e)

no_url : (k : TokenKind) (bytes : List ℕ) → k ≡ kind.Function → (is_word (codes "nth-child") (unescaped (name_in k bytes)) || is_word (codes "nth-last-child") (unescaped (name_in k bytes))) ≡ true
    → is_url (take (length bytes - 1) bytes) ≡ false
no_url k bytes called word = at (subst (λ (k : TokenKind). (is_word (codes "nth-child") (unescaped (name_in k bytes)) || is_word (codes "nth-last-child") (unescaped (name_in k bytes))) ≡ true) called word)
  where
    at : (is_word (codes "nth-child") (unescaped (take (length bytes - 1) bytes)) || is_word (codes "nth-last-child") (unescaped (take (length bytes - 1) bytes))) ≡ true → is_url (take (length bytes - 1) bytes) ≡ false
    at word = elim (one_is (is_word (codes "nth-child") (unescaped (take (length bytes - 1) bytes))) (is_word (codes "nth-last-child") (unescaped (take (length bytes - 1) bytes))) word) [
      | inl first ↦ word_apart (unescaped (take (length bytes - 1) bytes)) (codes "nth-child") (codes "url") refl first
      | inr last ↦ word_apart (unescaped (take (length bytes - 1) bytes)) (codes "nth-last-child") (codes "url") refl last
    ]

pub argument_is : (s : Solid) (ss : List Solid) (x : AnB) → argument s ss ≡ Some x → IsArgument s ss x
argument_is s ss x e = which (is_position_function (selector_token s)) refl e
  where
    which : (b : Bool) → is_position_function (selector_token s) ≡ b → cond b (if_read (argument_of s.gap (map selector_token ss))) None ≡ Some x → IsArgument s ss x
    which false position e = absurd (none_is_no_some e)
    which true position e =
        let reads : argument_of s.gap (map selector_token ss) ≡ Ok x = read_is (argument_of s.gap (map selector_token ss)) x e in
        let parts = argument_parts s.gap (map selector_token ss) x reads in
        let closed : list_any is_closing ss ≡ true = sym (any_same ss) ∙ parts.closed in
        let two = and_parts (is_function s.kind) (is_word (codes "nth-child") (unescaped (name_in s.kind s.bytes)) || is_word (codes "nth-last-child") (unescaped (name_in s.kind s.bytes))) position in
        let called = function_is s.kind two.0 in
        record {
          position = position;
          reads = reads;
          range = parts.range;
          sized = sized_of x parts.range;
          closed = closed;
          short = argument_short s.gap ss x closed parts;
          called = called;
          other = no_url s.kind s.bytes called two.1;
        }
