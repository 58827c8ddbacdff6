-- The tokens of a source stand in order, where each part of it has a byte.
use Rattle.std.proofs.Common.{◌≡◌, subst, ℕ, ◌+◌, ◌<◌, ◌≤◌, Bool, true, false, List, [], ◌∷◌, length, drop, Option, Some, None, refl, sym, arith}
use Rattle.std.specs.Prelude.{⊤, if◌then◌else◌, nat_eq}
use Rattle.std.specs.List.{AllByRecursion, starts_with}
use Rattle.css_model.specs.declared.token.Bracket.{Bracket}
use Rattle.css_model.specs.declared.token.Token.{Token}
use Rattle.css_model.specs.declared.token.TokenKind.{TokenKind}
use Rattle.css_model.specs.Text.Lexemes.{is_white_kind, after, white_of, lexeme, lexemes_in}
use Rattle.css_model.specs.Sheets.Spelling.{lexemes_of}
use Rattle.css_model.specs.Text.Tokens.{Part, parts, token_then, tokens_at, is_comment, byte_order_mark, stream, tokens}
use Rattle.sheet_laws.proofs.Source.Pieces.{AreAscending, AreSpaced}

-- tokens from this place on, white space too
abbrev pub TokensAscend : ℕ → List Token → Type 0
TokensAscend at [] = ⊤
TokensAscend at (t ∷ ts) = (at ≤ t.span.start) × (t.span.start < t.span.«end») × TokensAscend t.span.«end» ts

sooner : (low at : ℕ) (ts : List Token) → low ≤ at → TokensAscend at ts → TokensAscend low ts
sooner low at [] le ascend = tt
sooner low at (t ∷ ts) le ascend = (omega (arith, le, ascend.0), ascend.1, ascend.2)

-- each part has a byte
abbrev pub HaveBytes : List Part → Type 0
HaveBytes ps = AllByRecursion (λ p. 0 < length p.bytes) ps

parts_ascend : (at : ℕ) (comment : Bool) (ps : List Part) → HaveBytes ps → TokensAscend at (tokens_at at comment ps)
parts_ascend at comment [] some = tt
parts_ascend at comment (p ∷ ps) some = which p.kind (parts_ascend (at + length p.bytes) (is_comment p.kind) ps some.1)
  where
    which : (k : Option TokenKind) → TokensAscend (at + length p.bytes) (tokens_at (at + length p.bytes) (is_comment p.kind) ps)
        → TokensAscend at (token_then k at (length p.bytes) comment (tokens_at (at + length p.bytes) (is_comment p.kind) ps))
    which None later = sooner at (at + length p.bytes) (tokens_at (at + length p.bytes) (is_comment p.kind) ps) (omega arith) later
    which (Some k) later = (omega arith, omega (arith, some.0), later)

lexemes_ascend : (low at : ℕ) (brackets : List Bracket) (ts : List Token) → low ≤ at → TokensAscend at ts → AreAscending low (lexemes_in brackets ts)
lexemes_ascend low at brackets [] le ascend = tt
lexemes_ascend low at brackets (t ∷ ts) le ascend =
    which (is_white_kind t.kind)
    (λ bs. lexemes_ascend low t.span.«end» bs ts (omega (arith, le, ascend.0, ascend.1)) ascend.2)
    (λ bs. lexemes_ascend t.span.«end» t.span.«end» bs ts (omega arith) ascend.2)
  where
    which : (w : Bool) → ((bs : List Bracket) → AreAscending low (lexemes_in bs ts)) → ((bs : List Bracket) → AreAscending t.span.«end» (lexemes_in bs ts))
        → AreAscending low (if w then lexemes_in brackets ts else lexeme (length brackets) t ts ∷ lexemes_in (after t brackets) ts)
    which true skip next = skip brackets
    which false skip next = (omega (arith, le, ascend.0), ascend.1, next (after t brackets))

-- the white space behind a token, and the tokens behind that
white_spaced : (at : ℕ) (bs : List Bracket) (ts : List Token) → TokensAscend at ts
    → (at ≤ (white_of at ts).start) × ((white_of at ts).start ≤ (white_of at ts).«end») × AreAscending (white_of at ts).«end» (lexemes_in bs ts)
white_spaced at bs [] ascend = (omega arith, omega arith, tt)
white_spaced at bs (t ∷ ts) ascend = which (is_white_kind t.kind) refl
  where
    which : (w : Bool) → is_white_kind t.kind ≡ w
        → (at ≤ (if w then t.span else record { start = at; «end» = at }).start) × ((if w then t.span else record { start = at; «end» = at }).start ≤ (if w then t.span else record { start = at; «end» = at }).«end»)
        × AreAscending (if w then t.span else record { start = at; «end» = at }).«end» (lexemes_in bs (t ∷ ts))
    which true is = (
      ascend.0,
      omega (arith, ascend.1),
      subst (λ b. AreAscending t.span.«end» (if b then lexemes_in bs ts else lexeme (length bs) t ts ∷ lexemes_in (after t bs) ts)) (sym is)
          (lexemes_ascend t.span.«end» t.span.«end» bs ts (omega arith) ascend.2),
    )
    which false is = (omega arith, omega arith, lexemes_ascend at at bs (t ∷ ts) (omega arith) ascend)

lexemes_spaced : (at : ℕ) (brackets : List Bracket) (ts : List Token) → TokensAscend at ts → AreSpaced (lexemes_in brackets ts)
lexemes_spaced at brackets [] ascend = tt
lexemes_spaced at brackets (t ∷ ts) ascend = which (is_white_kind t.kind) (λ bs. lexemes_spaced t.span.«end» bs ts ascend.2)
  where
    which : (w : Bool) → ((bs : List Bracket) → AreSpaced (lexemes_in bs ts)) → AreSpaced (if w then lexemes_in brackets ts else lexeme (length brackets) t ts ∷ lexemes_in (after t brackets) ts)
    which true again = again brackets
    which false again =
        let white = white_spaced t.span.«end» (after t brackets) ts ascend.2 in
        (white.0, white.1, white.2, again (after t brackets))

-- the parts of a sheet, without its byte order mark
abbrev pub parts_of_sheet : List ℕ → List Part
parts_of_sheet source = if starts_with nat_eq source byte_order_mark then (parts (drop 3 source)).parts else (parts source).parts

sheet_ascends : (source : List ℕ) → HaveBytes (parts_of_sheet source) → TokensAscend 0 (tokens source true).tokens
sheet_ascends source some = which (starts_with nat_eq source byte_order_mark) some
  where
    which : (b : Bool) → HaveBytes (if b then (parts (drop 3 source)).parts else (parts source).parts) → TokensAscend 0 (if b then stream 3 (drop 3 source) else stream 0 source).tokens
    which true some = sooner 0 3 (stream 3 (drop 3 source)).tokens (omega arith) (parts_ascend 3 false (parts (drop 3 source)).parts some)
    which false some = parts_ascend 0 false (parts source).parts some

-- The tokens of a sheet stand in order, and the white space behind each stands before the next.
pub places_in_order : (source : List ℕ) → HaveBytes (parts_of_sheet source) → AreAscending 0 (lexemes_of source) × AreSpaced (lexemes_of source)
places_in_order source some =
    let ascend = sheet_ascends source some in
    (lexemes_ascend 0 0 [] (tokens source true).tokens (omega arith) ascend, lexemes_spaced 0 [] (tokens source true).tokens ascend)
