-- The tokens of a walk over a piece are those of the sheet's tokens that stand in it.
use Rattle.std.proofs.Common.{ℕ, ◌+◌, ◌≤◌, ◌<◌, ◌≡◌, Bool, true, false, ◌&&◌, cond, List, [], ◌∷◌, length, map, drop, refl, sym, ap, ◌∙◌, arith}
use Rattle.std.specs.Prelude.{nat_le, nat_eq}
use Rattle.std.specs.List.{AllByRecursion, Contains, filter, starts_with}
use Rattle.css_model.specs.declared.sheet.Piece.{Piece}
use Rattle.css_model.specs.declared.token.Bracket.{Bracket}
use Rattle.css_model.specs.declared.token.Lexeme.{Lexeme}
use Rattle.css_model.specs.declared.token.Token.{Token}
use Rattle.css_model.specs.Text.Kept.{Solid, solid}
use Rattle.css_model.specs.Text.Lexemes.{is_white_kind, lexeme, lexemes_in, after}
use Rattle.css_model.specs.Text.Source.{IsWithin}
use Rattle.css_model.specs.Sheets.Spelling.{stands_in, tokens_in, lexemes_of}
use Rattle.css_model.specs.Text.Tokens.{Stream, stream, tokens, byte_order_mark}
use Rattle.css_tokens.specs.Laws.{StandsIn, Restarts, TokensRestart}
use Rattle.css_tokens.proofs.ForCallers.{mark_len}
use Rattle.css_print.specs.Places.{BeginsAt, solids_in}
use Rattle.css_print.specs.Words.{solid_of, solids_to}
use Rattle.list_facts.proofs.Elements.{member, all_with}
use Rattle.sheet_laws.proofs.ForCallers.{AreAscending}

le_true : (a b : ℕ) → a ≤ b → nat_le a b ≡ true
le_true a b h = grind (arith, h)

le_false : (a b : ℕ) → b < a → nat_le a b ≡ false
le_false a b h = grind (arith, h)

true_le : (a b : ℕ) → nat_le a b ≡ true → a ≤ b
true_le a b h = grind (arith, h)

false_le : (a b : ℕ) → nat_le a b ≡ false → b < a
false_le a b h = grind (arith, h)

-- a token outside, before the piece or behind it
outside_before : (piece : Piece) (x : Lexeme) → x.span.start < piece.start → stands_in piece x ≡ false
outside_before piece x h = rw (le_false piece.start x.span.start h) refl

and_false : (a b : Bool) → b ≡ false → (a && b) ≡ false
and_false true b is = is
and_false false b is = refl

outside_behind : (piece : Piece) (x : Lexeme) → piece.«end» < x.span.«end» → stands_in piece x ≡ false
outside_behind piece x h = and_false (nat_le piece.start x.span.start) (nat_le x.span.«end» piece.«end») (le_false x.span.«end» piece.«end» h)

inside_piece : (piece : Piece) (x : Lexeme) → piece.start ≤ x.span.start → nat_le x.span.«end» piece.«end» ≡ true → stands_in piece x ≡ true
inside_piece piece x low high = rw (le_true piece.start x.span.start low) high

-- of tokens that begin behind a piece none stands in it
none_in : (source : List ℕ) (piece : Piece) (from : ℕ) (brackets : List Bracket) (ts : List Token) → piece.«end» ≤ from → Restarts source from ts
    → filter (stands_in piece) (lexemes_in brackets ts) ≡ []
none_in source piece from brackets [] past all = refl
none_in source piece from brackets (t ∷ ts) past (low, stands, again, all) = which (is_white_kind t.kind) refl (λ (brackets : List Bracket). none_in source piece t.span.«end» brackets ts (omega (arith, low, past, stands.ordered)) all)
  where
    which : (b : Bool) → is_white_kind t.kind ≡ b → ((brackets : List Bracket) → filter (stands_in piece) (lexemes_in brackets ts) ≡ []) → filter (stands_in piece) (lexemes_in brackets (t ∷ ts)) ≡ []
    which true is later = rw is (later brackets)
    which false is later = rw (is, outside_behind piece (lexeme (length brackets) t ts) (omega (arith, low, past, stands.ordered))) (later (after t brackets))

-- the tokens up to the end of a piece are those that stand in it, where none stands before it
cut_same : (source : List ℕ) (piece : Piece) (from : ℕ) (brackets : List Bracket) (ts : List Token) → piece.start ≤ from → Restarts source from ts
    → solids_to piece.«end» source ts ≡ map (solid source) (filter (stands_in piece) (lexemes_in brackets ts))
cut_same source piece from brackets [] low all = refl
cut_same source piece from brackets (t ∷ ts) low (behind, stands, again, all) =
    which (nat_le t.span.«end» piece.«end») refl (is_white_kind t.kind) refl
    (λ (brackets : List Bracket). cut_same source piece t.span.«end» brackets ts (omega (arith, low, behind, stands.ordered)) all)
  where
    which : (b : Bool) → nat_le t.span.«end» piece.«end» ≡ b → (w : Bool) → is_white_kind t.kind ≡ w
        → ((brackets : List Bracket) → solids_to piece.«end» source ts ≡ map (solid source) (filter (stands_in piece) (lexemes_in brackets ts)))
        → solids_to piece.«end» source (t ∷ ts) ≡ map (solid source) (filter (stands_in piece) (cond (is_white_kind t.kind) (lexemes_in brackets ts) (lexeme (length brackets) t ts ∷ lexemes_in (after t brackets) ts)))
    which false is true white later =
        let far : piece.«end» < t.span.«end» = false_le t.span.«end» piece.«end» is in
        rw (is, white, none_in source piece t.span.«end» brackets ts (omega (arith, far)) all) refl
    which false is false white later =
        let far : piece.«end» < t.span.«end» = false_le t.span.«end» piece.«end» is in
        rw (is, white, outside_behind piece (lexeme (length brackets) t ts) far, none_in source piece t.span.«end» (after t brackets) ts (omega (arith, far)) all) refl
    which true is true white later = rw (is, white) (later brackets)
    which true is false white later =
        let inside : stands_in piece (lexeme (length brackets) t ts) ≡ true = inside_piece piece (lexeme (length brackets) t ts) (omega (arith, low, behind)) is in
        rw (is, white, inside) (ap (λ ss. solid_of source t ts ∷ ss) (later (after t brackets)))

-- a token that is no white space, among those of a source from a place on
record Found (source : List ℕ) (from : ℕ) (brackets : List Bracket) (ts : List Token) (x : Lexeme) : Type 0 where
  low : from ≤ x.span.start
  within : IsWithin source x.span
  same : (piece : Piece) → piece.start ≡ x.span.start → solids_in source piece ≡ map (solid source) (filter (stands_in piece) (lexemes_in brackets ts))

-- the tokens from the first on
first_solids : (source : List ℕ) (brackets : List Bracket) (t : Token) (ts : List Token) → StandsIn source t
    → (stream t.span.start (drop t.span.start source)).tokens ≡ record { kind = t.kind; span = t.span; comment_before = false } ∷ ts → Restarts source t.span.«end» ts
    → (piece : Piece) → piece.start ≡ t.span.start → solids_in source piece ≡ map (solid source) (filter (stands_in piece) (lexemes_in brackets (t ∷ ts)))
first_solids source brackets t ts stands again all piece is =
    let here : Token = record { kind = t.kind; span = t.span; comment_before = false } in
    let there : StandsIn source here = record { ordered = stands.ordered; inside = stands.inside; reads = stands.reads } in
    let cut : ℕ → List Solid = λ (at : ℕ). solids_to piece.«end» source (stream at (drop at source)).tokens in
    let low : piece.start ≤ t.span.start = omega (arith, is) in
    let least : t.span.start ≤ t.span.start = omega arith in
    ap cut is
    ∙ ap (λ (us : List Token). solids_to piece.«end» source us) again
    ∙ cut_same source piece t.span.start brackets (here ∷ ts) low (least, there, again, all)

found_all : (source : List ℕ) (from : ℕ) (brackets : List Bracket) (ts : List Token) → Restarts source from ts → AllByRecursion (Found source from brackets ts) (lexemes_in brackets ts)
found_all source from brackets [] all = tt
found_all source from brackets (t ∷ ts) (low, stands, again, all) = which (is_white_kind t.kind) refl (λ (brackets : List Bracket). found_all source t.span.«end» brackets ts all)
  where
    behind : (x : Lexeme) → t.span.«end» ≤ x.span.start → from ≤ x.span.start
    behind x later = omega (arith, low, later, stands.ordered)

    white_more : is_white_kind t.kind ≡ true → (x : Lexeme) → Found source t.span.«end» brackets ts x → Found source from brackets (t ∷ ts) x
    white_more white x f = record {
      low = behind x f.low;
      within = f.within;
      same = λ (piece : Piece) (is : piece.start ≡ x.span.start). rw white (f.same piece is);
    }

    solid_more : is_white_kind t.kind ≡ false → (x : Lexeme) → Found source t.span.«end» (after t brackets) ts x → Found source from brackets (t ∷ ts) x
    solid_more other x f = record {
      low = behind x f.low;
      within = f.within;
      same = λ (piece : Piece) (is : piece.start ≡ x.span.start).
          let before : t.span.start < piece.start = omega (arith, is, f.low, stands.ordered) in
          rw (other, outside_before piece (lexeme (length brackets) t ts) before) (f.same piece is);
    }

    which : (w : Bool) → is_white_kind t.kind ≡ w → ((brackets : List Bracket) → AllByRecursion (Found source t.span.«end» brackets ts) (lexemes_in brackets ts))
        → AllByRecursion (Found source from brackets (t ∷ ts)) (cond (is_white_kind t.kind) (lexemes_in brackets ts) (lexeme (length brackets) t ts ∷ lexemes_in (after t brackets) ts))
    which true white later = rw white (all_with (Found source t.span.«end» brackets ts) (Found source from brackets (t ∷ ts)) (white_more white) (lexemes_in brackets ts) (later brackets))
    which false other later =
        let here : Found source from brackets (t ∷ ts) (lexeme (length brackets) t ts) = record {
          low = low;
          within = record { ordered = omega (arith, stands.ordered); inside = stands.inside };
          same = first_solids source brackets t ts stands again all;
        } in
        rw other (here, all_with (Found source t.span.«end» (after t brackets) ts) (Found source from brackets (t ∷ ts)) (solid_more other) (lexemes_in (after t brackets) ts) (later (after t brackets)))

-- the tokens of a sheet
record SheetTokens (source : List ℕ) (s : Stream) : Type 0 where
  from : ℕ
  restart : Restarts source from s.tokens

sheet_tokens : TokensRestart → (source : List ℕ) → SheetTokens source (tokens source true)
sheet_tokens law source = which (starts_with nat_eq source byte_order_mark) refl
  where
    which : (b : Bool) → starts_with nat_eq source byte_order_mark ≡ b → SheetTokens source (cond b (stream 3 (drop 3 source)) (stream 0 source))
    which true is = record { from = 3; restart = law source 3 (mark_len source is) }
    which false is = record { from = 0; restart = law source 0 (omega arith) }

-- what is found of a token of a sheet
sheet_found : TokensRestart → (source : List ℕ) (x : Lexeme) → Contains (lexemes_of source) x
    → (from : ℕ) × Found source from [] (tokens source true).tokens x
sheet_found law source x among =
    let s = sheet_tokens law source in
    let F : Lexeme → Type 0 = Found source s.from [] (tokens source true).tokens in
    (s.from, member F (lexemes_of source) x (found_all source s.from [] (tokens source true).tokens s.restart) among)

pub lexeme_within : TokensRestart → (source : List ℕ) (x : Lexeme) → Contains (lexemes_of source) x → IsWithin source x.span
lexeme_within law source x among = (sheet_found law source x among).1.within

pub begins_inside : TokensRestart → (source : List ℕ) (at : ℕ) → BeginsAt source at → at ≤ length source
begins_inside law source at h = let w = lexeme_within law source h.token h.among in omega (arith, w.ordered, w.inside, h.begins)

-- The tokens of a piece that begins at a token are those of the sheet that stand in it.
pub begins_solids : TokensRestart → (source : List ℕ) (piece : Piece) → BeginsAt source piece.start → solids_in source piece ≡ map (solid source) (tokens_in source piece)
begins_solids law source piece h = (sheet_found law source h.token h.among).1.same piece (sym h.begins)

-- ---- tokens stand in order

ascending_lower : (low at : ℕ) (xs : List Lexeme) → low ≤ at → AreAscending at xs → AreAscending low xs
ascending_lower low at [] le ascending = tt
ascending_lower low at (x ∷ xs) le ascending = (omega (arith, le, ascending.0), ascending.1, ascending.2)

restarts_ascend : (source : List ℕ) (from : ℕ) (brackets : List Bracket) (ts : List Token) → Restarts source from ts → AreAscending from (lexemes_in brackets ts)
restarts_ascend source from brackets [] all = tt
restarts_ascend source from brackets (t ∷ ts) (low, stands, again, all) = which (is_white_kind t.kind) (λ (brackets : List Bracket). restarts_ascend source t.span.«end» brackets ts all)
  where
    which : (w : Bool) → ((brackets : List Bracket) → AreAscending t.span.«end» (lexemes_in brackets ts))
        → AreAscending from (cond w (lexemes_in brackets ts) (lexeme (length brackets) t ts ∷ lexemes_in (after t brackets) ts))
    which true later = ascending_lower from t.span.«end» (lexemes_in brackets ts) (omega (arith, low, stands.ordered)) (later brackets)
    which false later = (low, stands.ordered, later (after t brackets))

pub sheet_ascends : TokensRestart → (source : List ℕ) → AreAscending 0 (lexemes_of source)
sheet_ascends law source =
    let s = sheet_tokens law source in
    ascending_lower 0 s.from (lexemes_of source) (omega arith) (restarts_ascend source s.from [] (tokens source true).tokens s.restart)

-- no more tokens than bytes
pub few_solids : (source : List ℕ) (place from : ℕ) (ts : List Token) → from ≤ length source → Restarts source from ts → length (solids_to place source ts) + from ≤ length source
few_solids source place from [] low all = omega (arith, low)
few_solids source place from (t ∷ ts) low (behind, stands, again, all) = which (nat_le t.span.«end» place) (is_white_kind t.kind) (few_solids source place t.span.«end» ts stands.inside all)
  where
    which : (b w : Bool) → length (solids_to place source ts) + t.span.«end» ≤ length source → length (cond b (cond w (solids_to place source ts) (solid_of source t ts ∷ solids_to place source ts)) []) + from ≤ length source
    which true true later = omega (arith, later, behind, stands.ordered)
    which true false later = omega (arith, later, behind, stands.ordered)
    which false w later = omega (arith, low)

pub few_in : TokensRestart → (source : List ℕ) (piece : Piece) → piece.start ≤ length source → length (solids_in source piece) ≤ length source
few_in law source piece inside = (let f = few_solids source piece.«end» piece.start (stream piece.start (drop piece.start source)).tokens inside (law source piece.start inside) in omega (arith, f))
