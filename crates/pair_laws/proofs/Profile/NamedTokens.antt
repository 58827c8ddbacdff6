-- The name of an ident is not empty, once its escapes are read.
use Rattle.std.proofs.Common.{ℕ, zero, suc, ◌≡◌, ◌<◌, Bool, true, false, cond, Option, Some, None, Result, Ok, Err, List, [], ◌∷◌, ◌++◌, map, length, refl, sym, ap, ◌∙◌, subst, arith}
use Rattle.std.specs.Prelude.{◌==◌}
use Rattle.std.specs.Char.{encode_utf8, is_ascii_hexdigit}
use Rattle.std.specs.List.{AllByRecursion}
use Rattle.std.specs.Str.{IsUtf8, chars, encode_utf8_all}
use Rattle.std.specs.Str.Lossy.{utf8_lossy}
use Rattle.std.proofs.lemmas.Bool.{eqb-true, false≢true}
use Rattle.std.proofs.lemmas.Str.{chars-encodes, len_utf8_bounds, length-encode}
use Rattle.css_model.specs.declared.token.Gap.{Gap}
use Rattle.css_model.specs.declared.token.TokenKind.{TokenKind}
use Rattle.css_model.specs.declared.token.TokenKind.TheVariants as kind
use Rattle.css_model.specs.Selectors.Terms.{Term, depth_behind_term, more_of_term, terms, terms_from}
use Rattle.css_model.specs.Selectors.Tokens.{name_in, selector_token}
use Rattle.css_model.specs.Text.Characters.{backslash, is_newline}
use Rattle.css_model.specs.Text.Kept.{Solid}
use Rattle.css_model.specs.Text.Lexemes.{is_ident, is_white_kind}
use Rattle.css_model.specs.Text.Names.{after_backslash_text, byte_text, code_points, escaped_code, first_text, hex_value, replacement, unescaped}
use Rattle.css_model.specs.Text.TokenAt.{Shape, part_at, rule_at}
use Rattle.css_model.specs.declared.token.TokenFlaw.{TokenFlaw}
use Rattle.css_model.specs.Text.Tokens.{Part, text_of}
use Rattle.css_tokens.proofs.ForCallers.{part_len, part_rule}
use Rattle.css_tokens.specs.Lexed.{IsLexed}
use Rattle.token_laws.specs.Solids.{gap_before, solid_then, solids}
use Rattle.pair_laws.proofs.Profile.Spelled.{lossy_utf8, lossy_some}

-- a text is not empty
IsSome : List ℕ → Type 0
IsSome text = 0 < length text

code_some : (c : ℕ) → 0 < length (encode_utf8 c)
code_some c = let size = length-encode c in let bounds = (len_utf8_bounds c).0 in omega (arith, size, bounds)

byte_some : (c : ℕ) → 0 < length (byte_text c)
byte_some c = by (c == 0)
  where
    by : (b : Bool) → 0 < length (cond b (encode_utf8 replacement) (c ∷ []))
    by true = code_some replacement
    by false = omega arith

-- no newline behind the backslash
abbrev NoNewline : List ℕ → Type 0
NoNewline [] = Unit {0}
NoNewline (d ∷ ds) = is_newline d ≡ false

escape_some : (cs : List ℕ) → NoNewline cs → 0 < length (after_backslash_text cs)
escape_some [] clean = code_some replacement
escape_some (d ∷ ds) clean = rw clean (by (is_ascii_hexdigit d))
  where
    by : (b : Bool) → 0 < length (cond b (encode_utf8 (escaped_code (hex_value 6 0 (d ∷ ds)))) (byte_text d))
    by true = code_some (escaped_code (hex_value 6 0 (d ∷ ds)))
    by false = byte_some d

longer : (xs ys : List ℕ) → 0 < length xs → 0 < length (xs ++ ys)
longer [] ys some = absurd (omega arith)
longer (x ∷ xs) ys some = omega arith

unescaped_some : (c : ℕ) (cs : List ℕ) → ((c == backslash) ≡ true → NoNewline cs) → 0 < length (unescaped (c ∷ cs))
unescaped_some c cs clean = longer (first_text c cs) _ (by (c == backslash) refl)
  where
    by : (b : Bool) → (c == backslash) ≡ b → 0 < length (cond b (after_backslash_text cs) (byte_text c))
    by true is = escape_some cs (clean is)
    by false is = byte_some c

-- whether a rule reads an ident
is_ident_part : Option TokenKind → Bool
is_ident_part (Some k) = is_ident k
is_ident_part None = false

is_ident_shape : Result Shape TokenFlaw → Bool
is_ident_shape (Ok s) = is_ident_part s.0
is_ident_shape (Err f) = false

-- a backslash before a newline begins no ident
lone : (d : ℕ) (rest : List ℕ) (n : ℕ) → is_newline d ≡ true → rule_at (backslash ∷ d ∷ rest) ≡ Ok (Some kind.Ident, n) → ⊥
unfolding is_ident_shape is_ident_part
lone d rest n newline is =
    let read : rule_at (backslash ∷ d ∷ rest) ≡ Ok (Some (kind.Delim backslash), 1) = rw newline refl in
    false≢true (ap is_ident_shape (sym read ∙ is))

ident_no_newline : (c : ℕ) (cs rest : List ℕ) → part_at (c ∷ cs ++ rest) ≡ Ok (Some kind.Ident, suc (length cs)) → (c == backslash) ≡ true → NoNewline cs
ident_no_newline c [] rest is same = tt
ident_no_newline c (d ∷ ds) rest is same = by (is_newline d) refl
  where
    by : (b : Bool) → is_newline d ≡ b → b ≡ false
    by true newline =
        absurd (lone d (ds ++ rest) (suc (length (d ∷ ds))) newline (subst (λ (c : ℕ). rule_at (c ∷ d ∷ (ds ++ rest)) ≡ Ok (Some kind.Ident, suc (length (d ∷ ds)))) (eqb-true c backslash same) (part_rule (c ∷ d ∷ (ds ++ rest)) (Some kind.Ident, suc (length (d ∷ ds))) is).0))
    by false newline = refl

ident_some : (v rest : List ℕ) → part_at (v ++ rest) ≡ Ok (Some kind.Ident, length v) → 0 < length (unescaped v)
ident_some [] rest is = absurd (let len = part_len rest (Some kind.Ident, 0) is in omega (arith, len.0))
ident_some (c ∷ cs) rest is = unescaped_some c cs (ident_no_newline c cs rest is)

-- the code points of bytes
points_some : (bs : List ℕ) → 0 < length bs → 0 < length (code_points bs)
points_some bs some = by (chars (utf8_lossy bs)) same
  where
    u : IsUtf8 (utf8_lossy bs)
    u = lossy_utf8 bs

    same : encode_utf8_all (chars (utf8_lossy bs)) ≡ utf8_lossy bs
    same = ap encode_utf8_all (ap chars (sym u.1.1) ∙ chars-encodes u.0 u.1.0) ∙ u.1.1

    by : (cs : List ℕ) → encode_utf8_all cs ≡ utf8_lossy bs → 0 < length cs
    by [] e = absurd (let long = lossy_some bs some in let none : 0 ≡ length (utf8_lossy bs) = ap length e in omega (arith, long, none))
    by (c ∷ cs) e = omega arith

-- tokens whose idents have names
abbrev pub IsNamedToken : Solid → Type 0
IsNamedToken s = is_ident s.kind ≡ true → 0 < length (code_points (unescaped s.bytes))

abbrev pub IsNamedTerm : Term → Type 0
IsNamedTerm x = is_ident x.kind ≡ true → 0 < length (code_points x.name)

solid_named : (k : Option TokenKind) (v rest : List ℕ) (g : Gap) (more : List Solid) → part_at (v ++ rest) ≡ Ok (k, length v) → AllByRecursion IsNamedToken more → AllByRecursion IsNamedToken (solid_then k v g more)
solid_named None v rest g more is all = all
solid_named (Some k) v rest g more is all = by (is_white_kind k)
  where
    named : (k : TokenKind) → part_at (v ++ rest) ≡ Ok (Some k, length v) → is_ident k ≡ true → 0 < length (code_points (unescaped v))
    named kind.Ident is ident = points_some (unescaped v) (ident_some v rest is)
    named _ is ident = absurd (false≢true ident)

    by : (b : Bool) → AllByRecursion IsNamedToken (cond b more (record { kind = k; bytes = v; gap = g } ∷ more))
    by true = all
    by false = (named k is, all)

solids_named : (ps : List Part) → IsLexed ps → AllByRecursion IsNamedToken (solids ps)
solids_named [] lexed = tt
solids_named (p ∷ ps) (here, lexed) = solid_named p.kind p.bytes (text_of ps) (gap_before false ps) (solids ps) here (solids_named ps lexed)

first_named : (s : Solid) → IsNamedToken s → is_ident (selector_token s).kind ≡ true → 0 < length (code_points (selector_token s).name)
first_named s named ident = by s.kind ident named
  where
    by : (k : TokenKind) → is_ident k ≡ true → (is_ident k ≡ true → 0 < length (code_points (unescaped s.bytes))) → 0 < length (code_points (unescaped (name_in k s.bytes)))
    by kind.Ident ident named = named refl
    by _ ident named = absurd (false≢true ident)

terms_from_named : (depth left : ℕ) (ss : List Solid) → AllByRecursion IsNamedToken ss → AllByRecursion IsNamedTerm (terms_from depth left (map selector_token ss))
terms_from_named depth left [] all = tt
terms_from_named depth (suc left) (s ∷ ss) all = terms_from_named depth left ss all.1
terms_from_named depth zero (s ∷ ss) all =
    (first_named s all.0, terms_from_named (depth_behind_term depth (selector_token s)) (more_of_term (selector_token s) (map selector_token ss)) ss all.1)

-- the terms of the parts of a text
pub terms_named : (ps : List Part) → IsLexed ps → AllByRecursion IsNamedTerm (terms (solids ps))
terms_named ps lexed = terms_from_named 0 0 (solids ps) (solids_named ps lexed)
