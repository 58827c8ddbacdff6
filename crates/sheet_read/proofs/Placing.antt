-- The tokens of a sheet stand in it.
use Rattle.std.proofs.Common.{ℕ, ◌≡◌, ◌≤◌, ◌<◌, Bool, true, false, cond, List, [], ◌∷◌, length, drop, Option, None, refl, subst, arith}
use Rattle.std.specs.Prelude.{nat_eq}
use Rattle.std.specs.List.{AllByRecursion, starts_with}
use Rattle.css_model.specs.declared.token.Bracket.{Bracket}
use Rattle.css_model.specs.declared.token.Token.{Token}
use Rattle.css_model.specs.declared.token.TokenFault.{TokenFault}
use Rattle.css_model.specs.Text.Lexemes.{is_white_kind, after, lexeme, lexemes_in}
use Rattle.css_model.specs.Text.Tokens.{byte_order_mark, stream, tokens}
use Rattle.css_tokens.specs.Laws.{Cover, TokensCover, place_of}
use Rattle.css_tokens.proofs.ForCallers.{mark_len}
use Rattle.sheet_read.specs.Placed.{ArePlaced}

-- a token has a byte, and stands in a source
abbrev pub IsStanding : List ℕ → Token → Type 0
IsStanding source t = (t.span.start < t.span.«end») × (t.span.«end» ≤ length source)

cover_to : (source : List ℕ) (from : ℕ) (ts : List Token) (to : ℕ) → Cover source from ts to → from ≤ to
cover_to source from [] to h = h.0
cover_to source from (t ∷ ts) to h = let later = cover_to source t.span.«end» ts to h.4 in omega (arith, h.0, h.3, later)

cover_standing : (source : List ℕ) (from : ℕ) (ts : List Token) (to : ℕ) → to ≤ length source → Cover source from ts to → AllByRecursion (IsStanding source) ts
cover_standing source from [] to within h = tt
cover_standing source from (t ∷ ts) to within h =
    let later = cover_to source t.span.«end» ts to h.4 in
    ((h.3, omega (arith, later, within)), cover_standing source t.span.«end» ts to within h.4)

stream_standing : TokensCover → (source : List ℕ) (from : ℕ) → from ≤ length source → (stream from (drop from source)).fault ≡ None
    → AllByRecursion (IsStanding source) (stream from (drop from source)).tokens
stream_standing cover source from within fault =
    let all = stream from (drop from source) in
    cover_standing source from all.tokens (length source) (omega arith)
    (subst (λ (f : Option TokenFault). Cover source from all.tokens (place_of f (length source))) fault (cover source from within))

tokens_standing : TokensCover → (source : List ℕ) → (tokens source true).fault ≡ None → AllByRecursion (IsStanding source) (tokens source true).tokens
tokens_standing cover source fault = which (starts_with nat_eq source byte_order_mark) refl fault
  where
    which : (b : Bool) → starts_with nat_eq source byte_order_mark ≡ b → (cond b (stream 3 (drop 3 source)) (stream 0 source)).fault ≡ None
        → AllByRecursion (IsStanding source) (cond b (stream 3 (drop 3 source)) (stream 0 source)).tokens
    which true mark fault = stream_standing cover source 3 (mark_len source mark) fault
    which false mark fault = stream_standing cover source 0 (omega arith) fault

lexemes_placed : (source : List ℕ) (brackets : List Bracket) (ts : List Token) → AllByRecursion (IsStanding source) ts → ArePlaced source (lexemes_in brackets ts)
lexemes_placed source brackets [] h = tt
lexemes_placed source brackets (t ∷ ts) h =
    which (is_white_kind t.kind) refl (lexemes_placed source brackets ts h.1) (lexemes_placed source (after t brackets) ts h.1)
  where
    which : (b : Bool) → is_white_kind t.kind ≡ b → ArePlaced source (lexemes_in brackets ts) → ArePlaced source (lexemes_in (after t brackets) ts)
        → ArePlaced source (cond b (lexemes_in brackets ts) (lexeme (length brackets) t ts ∷ lexemes_in (after t brackets) ts))
    which true kind white later = white
    which false kind white later = (record { some = h.0.0; inside = h.0.1 }, later)

pub placed : TokensCover → (source : List ℕ) → (tokens source true).fault ≡ None → ArePlaced source (lexemes_in [] (tokens source true).tokens)
placed cover source fault = lexemes_placed source [] (tokens source true).tokens (tokens_standing cover source fault)
