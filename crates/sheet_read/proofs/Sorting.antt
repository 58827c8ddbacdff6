-- The tokens of a stream as they are sorted: what is still to come, and what the whole stream gives.
use Rattle.std.proofs.Common.{ℕ, ◌≡◌, false, List, [], ◌∷◌, length, Option, Some, None, Ok, Err, refl, sym, ap, ◌∙◌}
use Rattle.std.specs.Prelude.{MatchOption}
use Rattle.std.specs.List.{cons_option}
use Rattle.css_model.specs.declared.fault.FaultKind.TheVariants.{EndInside, TooDeep}
use Rattle.css_model.specs.declared.sheet.Piece.{Piece}
use Rattle.css_model.specs.declared.token.Bracket.{Bracket}
use Rattle.css_model.specs.declared.token.Gap.{Gap}
use Rattle.css_model.specs.declared.token.Lexeme.{Lexeme}
use Rattle.css_model.specs.declared.token.Token.{Token}
use Rattle.css_model.specs.declared.token.TokenFault.{TokenFault}
use Rattle.css_model.specs.Sheets.Fault.{fault_of, unless}
use Rattle.css_model.specs.Sheets.Sheet.{token_fault, too_deep, unclosed}
use Rattle.css_model.specs.Text.Lexemes.{is_white_kind, after, gap_of, white_of, lexeme, lexemes, lexemes_in}
use Rattle.css_model.specs.Text.Tokens.{Stream}
use Rattle.sheet_read.specs.Reading.{GivesNext}
use Rattle.sheet_read.specs.Steps.{all_tokens, lexed, sorted, fault_before}

-- a stream whose next token was read ahead: its tokens, and what is left of it where there is none
pub record IsAhead (old : Stream) (ahead : Option Token) (left : Stream) : Type 0 where
  pub tokens : old.tokens ≡ cons_option ahead left.tokens
  pub fault : left.fault ≡ old.fault
  pub ended : ahead ≡ None → left ≡ record { tokens = []; fault = None }

pub next_ahead : (old : Stream) (ahead : Option Token) (left : Stream) → GivesNext old (Ok ahead) left → IsAhead old ahead left
next_ahead old None left is = record {
  tokens = ap (λ (s : Stream). s.tokens) (sym is.1);
  fault = ap (λ (s : Stream). s.fault) is.1;
  ended = λ _. is.1 ∙ is.0;
}
next_ahead old (Some t) left is = record {
  tokens = ap (λ (s : Stream). s.tokens) is;
  fault = sym (ap (λ (s : Stream). s.fault) is);
  ended = λ none. absurd (cc);
}

-- what is made of the token ahead is made of all that are to come
pub made_of : {A : Type 0} (f : List Token → A) (made : A) (ahead : Option Token) (left : Stream) → (ahead ≡ None → left ≡ record { tokens = []; fault = None })
    → MatchOption ahead (made ≡ f []) (λ (t : Token). (others : List Token) → made ≡ f (t ∷ others)) → made ≡ f (cons_option ahead left.tokens)
made_of f made None left ended is = is ∙ ap (λ (s : Stream). f s.tokens) (sym (ended refl))
made_of f made (Some t) left ended is = is left.tokens

lexeme_of : (level : ℕ) (t : Token) (gap : Gap) (white : Piece) (ts : List Token) → gap ≡ gap_of ts → white ≡ white_of t.span.«end» ts
    → ◌≡◌ {A = Lexeme} (record { kind = t.kind; span = t.span; gap = gap; white = white; level = level }) (lexeme level t ts)
lexeme_of level t gap white ts gap_is white_is =
    ap (λ (g : Gap). record { kind = t.kind; span = t.span; gap = g; white = white; level = level }) gap_is
    ∙ ap (λ (w : Piece). record { kind = t.kind; span = t.span; gap = gap_of ts; white = w; level = level }) white_is

-- a token before the next one
pub lexeme_next : (level : ℕ) (t : Token) (next : Option Token) (gap : Gap) (white : Piece)
    → MatchOption next (gap ≡ gap_of []) (λ (u : Token). (others : List Token) → gap ≡ gap_of (u ∷ others))
    → MatchOption next (white ≡ white_of t.span.«end» []) (λ (u : Token). (others : List Token) → white ≡ white_of t.span.«end» (u ∷ others))
    → MatchOption next (◌≡◌ {A = Lexeme} (record { kind = t.kind; span = t.span; gap = gap; white = white; level = level }) (lexeme level t []))
    (λ (u : Token). (others : List Token) → ◌≡◌ {A = Lexeme} (record { kind = t.kind; span = t.span; gap = gap; white = white; level = level }) (lexeme level t (u ∷ others)))
lexeme_next level t None gap white gap_is white_is = lexeme_of level t gap white [] gap_is white_is
lexeme_next level t (Some u) gap white gap_is white_is = λ others. lexeme_of level t gap white (u ∷ others) (gap_is others) (white_is others)

-- a token that is no white space
pub past_solid : (brackets : List Bracket) (t : Token) (ts : List Token) → is_white_kind t.kind ≡ false
    → lexemes_in brackets (t ∷ ts) ≡ lexeme (length brackets) t ts ∷ lexemes_in (after t brackets) ts
past_solid brackets t ts solid = rw solid refl

-- a fault of the tokens
pub sorted_fault : (s : Stream) (f : TokenFault) → s.fault ≡ Some f → sorted s ≡ Err (token_fault f)
sorted_fault s f is = ap (λ (f : Option TokenFault). lexed (all_tokens f s.tokens)) is

-- a bracket that is one too many
pub sorted_deep : (s : Stream) (at : ℕ) → too_deep (lexemes s.tokens) ≡ Some at → sorted s ≡ Err (fault_before s.fault (record { kind = TooDeep; at = at }))
sorted_deep s at deep = which s.fault
  where
    which : (f : Option TokenFault) → lexed (all_tokens f s.tokens) ≡ Err (fault_before f (record { kind = TooDeep; at = at }))
    which (Some f) = refl
    which None = ap (λ (at : Option ℕ). unless (fault_of TooDeep at ∷ fault_of EndInside (unclosed s.tokens) ∷ []) (lexemes s.tokens)) deep
