-- The tokens of a text that are no white space, made one by one.
use Rattle.std.proofs.Common.{◌≡◌, ◌++◌, ℕ, Bool, true, false, cond, List, [], ◌∷◌, length, map, Some, None, refl, ap}
use Rattle.std.specs.List.{AllByRecursion}
use Rattle.css_model.specs.declared.token.Bracket.{Bracket}
use Rattle.css_model.specs.declared.token.Token.{Token}
use Rattle.css_model.specs.Selectors.Tokens.{SelectorToken, selector_token}
use Rattle.css_model.specs.Text.Kept.{solid}
use Rattle.css_model.specs.Text.Lexemes.{after, gap_of, is_white_kind, lexeme, lexemes_in}
use Rattle.css_tokens.specs.Laws.{StandsIn, Restarts}
use Rattle.sel_parse.specs.Tokens.{last_before, token_before, tokens_of, unless_white}

-- each token that restarts stands in the source
pub restarts_stand : (source : List ℕ) (from : ℕ) (ts : List Token) → Restarts source from ts → AllByRecursion (StandsIn source) ts
restarts_stand source from [] h = tt
restarts_stand source from (t ∷ ts) h = (h.1, restarts_stand source t.span.«end» ts h.3)

-- they are those of the lexemes, however many brackets are open
pub tokens_of_lexemes : (source : List ℕ) (brackets : List Bracket) (ts : List Token) →
    map selector_token (map (solid source) (lexemes_in brackets ts)) ≡ tokens_of source ts
tokens_of_lexemes source brackets [] = refl
tokens_of_lexemes source brackets (t ∷ ts) = cases (is_white_kind t.kind) (tokens_of_lexemes source brackets ts) (tokens_of_lexemes source (after t brackets) ts)
  where
    cases : (b : Bool) → map selector_token (map (solid source) (lexemes_in brackets ts)) ≡ tokens_of source ts
        → map selector_token (map (solid source) (lexemes_in (after t brackets) ts)) ≡ tokens_of source ts
        → map selector_token (map (solid source) (cond b (lexemes_in brackets ts) (lexeme (length brackets) t ts ∷ lexemes_in (after t brackets) ts)))
        ≡ cond b (tokens_of source ts) (token_before source t (gap_of ts) ∷ tokens_of source ts)
    cases true skipped later = skipped
    cases false skipped later = ap (λ (xs : List SelectorToken). token_before source t (gap_of ts) ∷ xs) later

-- a token by itself, with those behind it
pub tokens_of-cons : (source : List ℕ) (t : Token) (ts : List Token) →
    last_before source (unless_white t) (gap_of ts) ++ tokens_of source ts ≡ tokens_of source (t ∷ ts)
tokens_of-cons source t ts = cases (is_white_kind t.kind)
  where
    cases : (b : Bool) → last_before source (cond b None (Some t)) (gap_of ts) ++ tokens_of source ts
        ≡ cond b (tokens_of source ts) (token_before source t (gap_of ts) ∷ tokens_of source ts)
    cases true = refl
    cases false = refl
