-- Tokens by their places: those of a piece stand one behind the other.
use Rattle.std.proofs.Common.{ℕ, zero, suc, ◌≤◌, ◌<◌, ◌≡◌, Bool, true, false, ◌&&◌, cond, List, [], ◌∷◌, length, take, drop, get_or, refl, sym, ap, ◌∙◌, arith}
use Rattle.std.specs.Prelude.{nat_le, nat_lt, nat_eq}
use Rattle.std.specs.List.{filter, prefix_len, starts_with}
use Rattle.std.specs.List.Sorted.{IsNonDecreasingBy}
use Rattle.css_model.specs.declared.sheet.Piece.{Piece}
use Rattle.css_model.specs.declared.token.Bracket.{Bracket}
use Rattle.css_model.specs.declared.token.Lexeme.{Lexeme}
use Rattle.css_model.specs.declared.token.Gap.TheVariants as gap
use Rattle.css_model.specs.declared.token.Token.{Token}
use Rattle.css_model.specs.declared.token.TokenKind.TheVariants as kind
use Rattle.css_model.specs.Text.Lexemes.{is_white_kind, lexeme, lexemes_in, after}
use Rattle.css_model.specs.Sheets.Spelling.{stands_in, lexemes_of}
use Rattle.css_model.specs.Text.Tokens.{stream, byte_order_mark}
use Rattle.css_tokens.specs.Laws.{Restarts, TokensRestart}
use Rattle.css_tokens.proofs.ForCallers.{mark_len}
use Rattle.css_model.specs.Sheets.Items.{opens_block, closes_block}
use Rattle.css_model.specs.Text.Source.{IsWithin}
use Rattle.media_groups.specs.Opened.{body_end, body_of}
use Rattle.media_groups.specs.Sorted.{AreAscending}
use Rattle.sheet_read.specs.Placed.{ArePlaced}

le_true : (a b : ℕ) → a ≤ b → nat_le a b ≡ true
le_true a b h = grind (arith, h)

le_false : (a b : ℕ) → b < a → nat_le a b ≡ false
le_false a b h = grind (arith, h)

true_lt : (a b : ℕ) → nat_lt a b ≡ true → a < b
true_lt a b h = grind (arith, h)

false_lt : (a b : ℕ) → nat_lt a b ≡ false → b ≤ a
false_lt a b h = grind (arith, h)

false_le : (a b : ℕ) → nat_le a b ≡ false → b < a
false_le a b h = grind (arith, h)

and_false : (a b : Bool) → b ≡ false → (a && b) ≡ false
and_false true b is = is
and_false false b is = refl

pub lower : (low at : ℕ) (xs : List Lexeme) → low ≤ at → AreAscending at xs → AreAscending low xs
lower low at [] le ascending = tt
lower low at (x ∷ xs) le ascending = (omega (arith, le, ascending.0), ascending.1, ascending.2)

-- ---- the tokens of a sheet ascend

restarts_ascend : (source : List ℕ) (from : ℕ) (brackets : List Bracket) (ts : List Token) → Restarts source from ts → AreAscending from (lexemes_in brackets ts)
restarts_ascend source from brackets [] all = tt
restarts_ascend source from brackets (t ∷ ts) (low, stands, again, all) = which (is_white_kind t.kind) (λ (brackets : List Bracket). restarts_ascend source t.span.«end» brackets ts all)
  where
    which : (w : Bool) → ((brackets : List Bracket) → AreAscending t.span.«end» (lexemes_in brackets ts))
        → AreAscending from (cond w (lexemes_in brackets ts) (lexeme (length brackets) t ts ∷ lexemes_in (after t brackets) ts))
    which true later = lower from t.span.«end» (lexemes_in brackets ts) (omega (arith, low, stands.ordered)) (later brackets)
    which false later = (low, stands.ordered, later (after t brackets))

pub sheet_ascends : TokensRestart → (source : List ℕ) → AreAscending 0 (lexemes_of source)
sheet_ascends law source = which (starts_with nat_eq source byte_order_mark) refl
  where
    which : (b : Bool) → starts_with nat_eq source byte_order_mark ≡ b → AreAscending 0 (lexemes_in [] (cond b (stream 3 (drop 3 source)) (stream 0 source)).tokens)
    which true is = lower 0 3 _ (omega arith) (restarts_ascend source 3 [] _ (law source 3 (mark_len source is)))
    which false is = restarts_ascend source 0 [] _ (law source 0 (omega arith))

-- ---- what a binary search asks

first_least : (at : ℕ) (xs : List Lexeme) (j : ℕ) (d : Lexeme) → AreAscending at xs → j < length xs → at ≤ (get_or xs j d).span.start × at ≤ (get_or xs j d).span.«end»
first_least at [] j d ascending within = absurd (omega (arith, within))
first_least at (x ∷ xs) zero d ascending within = (ascending.0, omega (arith, ascending.0, ascending.1))
first_least at (x ∷ xs) (suc j) d ascending within =
    let rest = first_least x.span.«end» xs j d ascending.2 (omega (arith, within)) in
    (omega (arith, ascending.0, ascending.1, rest.0), omega (arith, ascending.0, ascending.1, rest.1))

pub starts_rise : (at : ℕ) (xs : List Lexeme) → AreAscending at xs → IsNonDecreasingBy (λ x. x.span.start) xs
starts_rise at [] ascending i j d le within = absurd (omega (arith, within))
starts_rise at (x ∷ xs) ascending zero zero d le within = omega arith
starts_rise at (x ∷ xs) ascending zero (suc j) d le within = omega (arith, ascending.1, (first_least x.span.«end» xs j d ascending.2 (omega (arith, within))).0)
starts_rise at (x ∷ xs) ascending (suc i) zero d le within = absurd (omega (arith, le))
starts_rise at (x ∷ xs) ascending (suc i) (suc j) d le within = starts_rise x.span.«end» xs ascending.2 i j d (omega (arith, le)) (omega (arith, within))

pub ends_rise : (at : ℕ) (xs : List Lexeme) → AreAscending at xs → IsNonDecreasingBy (λ x. x.span.«end») xs
ends_rise at [] ascending i j d le within = absurd (omega (arith, within))
ends_rise at (x ∷ xs) ascending zero zero d le within = omega arith
ends_rise at (x ∷ xs) ascending zero (suc j) d le within = (first_least x.span.«end» xs j d ascending.2 (omega (arith, within))).1
ends_rise at (x ∷ xs) ascending (suc i) zero d le within = absurd (omega (arith, le))
ends_rise at (x ∷ xs) ascending (suc i) (suc j) d le within = ends_rise x.span.«end» xs ascending.2 i j d (omega (arith, le)) (omega (arith, within))

-- ---- the tokens of a piece

-- tokens behind a piece
none_behind : (piece : Piece) (at : ℕ) (xs : List Lexeme) → piece.«end» ≤ at → AreAscending at xs → filter (stands_in piece) xs ≡ []
none_behind piece at [] le ascending = refl
none_behind piece at (x ∷ xs) le ascending =
    let out : stands_in piece x ≡ false = and_false (nat_le piece.start x.span.start) (nat_le x.span.«end» piece.«end») (le_false x.span.«end» piece.«end» (omega (arith, le, ascending.0, ascending.1))) in
    rw out (none_behind piece x.span.«end» xs (omega (arith, le, ascending.0, ascending.1)) ascending.2)

-- tokens none of which begins before a piece
first_inside : (piece : Piece) (at : ℕ) (xs : List Lexeme) → piece.start ≤ at → AreAscending at xs →
    filter (stands_in piece) xs ≡ take (prefix_len (λ x. nat_le x.span.«end» piece.«end») xs) xs
first_inside piece at [] le ascending = refl
first_inside piece at (x ∷ xs) le ascending = which (nat_le x.span.«end» piece.«end») refl (first_inside piece x.span.«end» xs (omega (arith, le, ascending.0, ascending.1)) ascending.2)
  where
    which : (b : Bool) → nat_le x.span.«end» piece.«end» ≡ b → filter (stands_in piece) xs ≡ take (prefix_len (λ y. nat_le y.span.«end» piece.«end») xs) xs →
        filter (stands_in piece) (x ∷ xs) ≡ take (prefix_len (λ y. nat_le y.span.«end» piece.«end») (x ∷ xs)) (x ∷ xs)
    which true is later =
        let n : ℕ = prefix_len (λ y. nat_le y.span.«end» piece.«end») xs in
        let yes : stands_in piece x ≡ true = rw (le_true piece.start x.span.start (omega (arith, le, ascending.0))) is in
        let len : prefix_len (λ y. nat_le y.span.«end» piece.«end») (x ∷ xs) ≡ suc n = rw is (omega arith) in
        ap (λ (b : Bool). cond b (x ∷ filter (stands_in piece) xs) (filter (stands_in piece) xs)) yes
        ∙ ap (λ (ys : List Lexeme). x ∷ ys) later ∙ ap (λ (m : ℕ). take m (x ∷ xs)) (sym len)
    which false is later =
        let no : stands_in piece x ≡ false = and_false (nat_le piece.start x.span.start) (nat_le x.span.«end» piece.«end») is in
        let len : prefix_len (λ y. nat_le y.span.«end» piece.«end») (x ∷ xs) ≡ 0 = rw is refl in
        ap (λ (b : Bool). cond b (x ∷ filter (stands_in piece) xs) (filter (stands_in piece) xs)) no
        ∙ none_behind piece x.span.«end» xs (omega (arith, false_le x.span.«end» piece.«end» is)) ascending.2 ∙ ap (λ (m : ℕ). take m (x ∷ xs)) (sym len)

pub inside : (piece : Piece) (at : ℕ) (xs : List Lexeme) → AreAscending at xs → let ys : List Lexeme = drop (prefix_len (λ x. nat_lt x.span.start piece.start) xs) xs in
    filter (stands_in piece) xs ≡ take (prefix_len (λ x. nat_le x.span.«end» piece.«end») ys) ys
inside piece at [] ascending = refl
inside piece at (x ∷ xs) ascending = which (nat_lt x.span.start piece.start) refl (inside piece x.span.«end» xs ascending.2)
  where
    which : (b : Bool) → nat_lt x.span.start piece.start ≡ b → (let ys : List Lexeme = drop (prefix_len (λ y. nat_lt y.span.start piece.start) xs) xs in
        filter (stands_in piece) xs ≡ take (prefix_len (λ y. nat_le y.span.«end» piece.«end») ys) ys) →
        filter (stands_in piece) (x ∷ xs) ≡ take (prefix_len (λ y. nat_le y.span.«end» piece.«end») (drop (prefix_len (λ y. nat_lt y.span.start piece.start) (x ∷ xs)) (x ∷ xs))) (drop (prefix_len (λ y. nat_lt y.span.start piece.start) (x ∷ xs)) (x ∷ xs))
    which true is later =
        let n : ℕ = prefix_len (λ y. nat_lt y.span.start piece.start) xs in
        let no : stands_in piece x ≡ false = rw (le_false piece.start x.span.start (true_lt x.span.start piece.start is)) refl in
        let len : prefix_len (λ y. nat_lt y.span.start piece.start) (x ∷ xs) ≡ suc n = rw is (omega arith) in
        ap (λ (b : Bool). cond b (x ∷ filter (stands_in piece) xs) (filter (stands_in piece) xs)) no ∙ later ∙ ap (λ (n : ℕ). take (prefix_len (λ (y : Lexeme). nat_le y.span.«end» piece.«end») (drop n (x ∷ xs))) (drop n (x ∷ xs))) (sym len)
    which false is later =
        let len : prefix_len (λ y. nat_lt y.span.start piece.start) (x ∷ xs) ≡ 0 = rw is refl in
        first_inside piece x.span.start (x ∷ xs) (false_lt x.span.start piece.start is) (omega arith, ascending.1, ascending.2) ∙ ap (λ (n : ℕ). take (prefix_len (λ (y : Lexeme). nat_le y.span.«end» piece.«end») (drop n (x ∷ xs))) (drop n (x ∷ xs))) (sym len)

pub ascending_drop : (at n : ℕ) (xs : List Lexeme) → AreAscending at xs → AreAscending at (drop n xs)
ascending_drop at zero xs ascending = ascending
ascending_drop at (suc n) [] ascending = tt
ascending_drop at (suc n) (x ∷ xs) ascending = ascending_drop at n xs (lower at x.span.«end» xs (omega (arith, ascending.0, ascending.1)) ascending.2)

-- any token
pub some_token : Lexeme
some_token = record { kind = kind.White; span = record { start = 0; «end» = 0 }; gap = gap.Nothing; white = record { start = 0; «end» = 0 }; level = 0 }

pub ascending_filter : (p : Lexeme → Bool) (at : ℕ) (xs : List Lexeme) → AreAscending at xs → AreAscending at (filter p xs)
ascending_filter p at [] ascending = tt
ascending_filter p at (x ∷ xs) ascending = which (p x) (ascending_filter p x.span.«end» xs ascending.2)
  where
    which : (b : Bool) → AreAscending x.span.«end» (filter p xs) → AreAscending at (cond b (x ∷ filter p xs) (filter p xs))
    which true later = (ascending.0, ascending.1, later)
    which false later = lower at x.span.«end» (filter p xs) (omega (arith, ascending.0, ascending.1)) later

-- ---- the tokens of a sheet stand in it

restarts_placed : (source : List ℕ) (from : ℕ) (brackets : List Bracket) (ts : List Token) → Restarts source from ts → ArePlaced source (lexemes_in brackets ts)
restarts_placed source from brackets [] all = tt
restarts_placed source from brackets (t ∷ ts) (low, stands, again, all) = which (is_white_kind t.kind) (λ (brackets : List Bracket). restarts_placed source t.span.«end» brackets ts all)
  where
    which : (w : Bool) → ((brackets : List Bracket) → ArePlaced source (lexemes_in brackets ts))
        → ArePlaced source (cond w (lexemes_in brackets ts) (lexeme (length brackets) t ts ∷ lexemes_in (after t brackets) ts))
    which true later = later brackets
    which false later = (record { some = stands.ordered; inside = stands.inside }, later (after t brackets))

pub sheet_placed : TokensRestart → (source : List ℕ) → ArePlaced source (lexemes_of source)
sheet_placed law source = which (starts_with nat_eq source byte_order_mark) refl
  where
    which : (b : Bool) → starts_with nat_eq source byte_order_mark ≡ b → ArePlaced source (lexemes_in [] (cond b (stream 3 (drop 3 source)) (stream 0 source)).tokens)
    which true is = restarts_placed source 3 [] _ (law source 3 (mark_len source is))
    which false is = restarts_placed source 0 [] _ (law source 0 (omega arith))

-- ---- a body lies in its source

end_within : (source : List ℕ) (at : ℕ) (xs : List Lexeme) → at ≤ length source → AreAscending at xs → ArePlaced source xs → (at ≤ body_end at xs) × (body_end at xs ≤ length source)
end_within source at [] within ascending placed = (omega arith, within)
end_within source at (x ∷ xs) within ascending placed = which (closes_block x) (end_within source x.span.«end» xs placed.0.inside ascending.2 placed.1)
  where
    which : (b : Bool) → (x.span.«end» ≤ body_end x.span.«end» xs) × (body_end x.span.«end» xs ≤ length source) →
        (at ≤ cond b x.span.start (body_end x.span.«end» xs)) × (cond b x.span.start (body_end x.span.«end» xs) ≤ length source)
    which true later = (ascending.0, omega (arith, ascending.1, placed.0.inside))
    which false later = (omega (arith, ascending.0, ascending.1, later.0), later.1)

pub body_within : (source : List ℕ) (at : ℕ) (xs : List Lexeme) → AreAscending at xs → ArePlaced source xs → IsWithin source (body_of xs)
body_within source at [] ascending placed = record { ordered = omega arith; inside = omega arith }
body_within source at (x ∷ xs) ascending placed = which (opens_block x) (body_within source x.span.«end» xs ascending.2 placed.1)
  where
    which : (b : Bool) → IsWithin source (body_of xs) → IsWithin source (cond b (record { start = x.span.«end»; «end» = body_end x.span.«end» xs }) (body_of xs))
    which true later =
        let end = end_within source x.span.«end» xs placed.0.inside ascending.2 placed.1 in
        record { ordered = end.0; inside = end.1 }
    which false later = later

pub placed_filter : (source : List ℕ) (p : Lexeme → Bool) (xs : List Lexeme) → ArePlaced source xs → ArePlaced source (filter p xs)
placed_filter source p [] placed = tt
placed_filter source p (x ∷ xs) placed = which (p x) (placed_filter source p xs placed.1)
  where
    which : (b : Bool) → ArePlaced source (filter p xs) → ArePlaced source (cond b (x ∷ filter p xs) (filter p xs))
    which true later = (placed.0, later)
    which false later = later
