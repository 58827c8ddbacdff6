-- The ends of parts before nothing, before a byte that nothing looks for, before `!` and before a space.
use Rattle.std.proofs.Common.{ℕ, suc, ◌<◌, ◌≡◌, Bool, true, false, not, ◌||◌, ◌==◌, List, [], ◌∷◌, Option, Ok, Some, None, refl, sym, ap, ◌∙◌, true≢false, arith}
use Rattle.std.specs.Char.{is_ascii_digit}
use Rattle.std.proofs.lemmas.Bool.{or_parts}
use Rattle.css_model.specs.declared.token.TokenKind.{TokenKind}
use Rattle.css_model.specs.declared.token.TokenKind.TheVariants as kind
use Rattle.css_model.specs.Text.Characters.{line_feed, backslash, star, slash, plus, dash, dot, greater_than, is_start, is_name}
use Rattle.css_model.specs.Text.Units.{white_unit}
use Rattle.css_model.specs.Text.TokenAt.{part_at}
use Rattle.css_model.specs.Text.Tokens.{Part}
use Rattle.token_laws.specs.Alike.{KeepsString, LooksAlike, LooksThrough, EndsAlike, ends_itself, begins_dashes}
use Rattle.css_tokens.proofs.ForCallers.{run_none}
use Rattle.token_laws.proofs.Ends.Alike.{alike_nil, alike_byte, alike_space, goes_on}
use Rattle.token_laws.proofs.Ends.Rules.{rule_part}

-- a byte that a single token looks for behind itself
abbrev pub is_looked_for : ℕ → Bool
is_looked_for c = c == star || c == 33 || c == greater_than || c == plus || c == dot || c == backslash || is_name c

-- a byte that is none of these, each by itself
record IsNotLookedFor (c : ℕ) : Type 0 where
  no_star : (c == star) ≡ false
  no_bang : (c == 33) ≡ false
  no_greater : (c == greater_than) ≡ false
  no_plus : (c == plus) ≡ false
  no_dot : (c == dot) ≡ false
  no_escape : (c == backslash) ≡ false
  no_name : is_name c ≡ false
  no_start : is_start c ≡ false
  no_digit : is_ascii_digit c ≡ false
  no_dash : (c == dash) ≡ false

not_looked_for : (c : ℕ) → is_looked_for c ≡ false → IsNotLookedFor c
not_looked_for c none =
    let six = or_parts (c == star || c == 33 || c == greater_than || c == plus || c == dot || c == backslash) (is_name c) none in
    let five = or_parts (c == star || c == 33 || c == greater_than || c == plus || c == dot) (c == backslash) six.0 in
    let four = or_parts (c == star || c == 33 || c == greater_than || c == plus) (c == dot) five.0 in
    let three = or_parts (c == star || c == 33 || c == greater_than) (c == plus) four.0 in
    let two = or_parts (c == star || c == 33) (c == greater_than) three.0 in
    let one = or_parts (c == star) (c == 33) two.0 in
    let name = or_parts (is_start c || is_ascii_digit c) (c == dash) six.1 in
    let start = or_parts (is_start c) (is_ascii_digit c) name.0 in
    record {
      no_star = one.0;
      no_bang = one.1;
      no_greater = two.1;
      no_plus = three.1;
      no_dot = four.1;
      no_escape = five.1;
      no_name = six.1;
      no_start = start.0;
      no_digit = start.1;
      no_dash = name.1;
    }

pub looks_byte : (k : Option TokenKind) (v old : List ℕ) (c : ℕ) (new : List ℕ) → is_looked_for c ≡ false → (k ≡ Some (kind.Delim backslash) → ⊥) → KeepsString k v old (c ∷ new)
    → LooksAlike k v old (c ∷ new)
looks_byte k v old c new none lone keeps =
    let is = not_looked_for c none in
    record {
      at_backslash = λ e. absurd (lone e);
      at_slash = λ _ _. is.no_star;
      at_less_than = λ _ _. rw is.no_bang refl;
      at_plus_or_minus = λ _ _ _ _. rw (is.no_digit, is.no_dot) refl;
      at_dash = λ _ _. rw (is.no_dash, is.no_start, is.no_escape) refl;
      at_dot = λ _ _. rw is.no_digit refl;
      at_hash = λ _ _. rw (is.no_name, is.no_escape) refl;
      at_at_sign = λ _ _. rw (is.no_dash, is.no_start, is.no_escape) refl;
      at_dashes = λ _ _ _. is.no_greater;
      at_url = keeps;
      at_exponent = λ _ _ _ _ _ _. rw (is.no_plus, is.no_dash, is.no_digit) refl;
    }

pub looks_bang : (k : Option TokenKind) (v old new : List ℕ) → begins_dashes new ≡ false → (k ≡ Some (kind.Delim backslash) → ⊥) → KeepsString k v old (33 ∷ new) → LooksAlike k v old (33 ∷ new)
looks_bang k v old new none lone keeps = record {
  at_backslash = λ e. absurd (lone e);
  at_slash = λ _ _. refl;
  at_less_than = λ _ _. none;
  at_plus_or_minus = λ _ _ _ _. refl;
  at_dash = λ _ _. refl;
  at_dot = λ _ _. refl;
  at_hash = λ _ _. refl;
  at_at_sign = λ _ _. refl;
  at_dashes = λ _ _ _. refl;
  at_url = keeps;
  at_exponent = λ _ _ _ _ _ _. refl;
}

pub looks_nil : (k : Option TokenKind) (v old : List ℕ) → (k ≡ Some (kind.Delim backslash) → ⊥) → KeepsString k v old [] → LooksAlike k v old []
looks_nil k v old lone keeps = record {
  at_backslash = λ e. absurd (lone e);
  at_slash = λ _ _. refl;
  at_less_than = λ _ _. refl;
  at_plus_or_minus = λ _ _ _ _. refl;
  at_dash = λ _ _. refl;
  at_dot = λ _ _. refl;
  at_hash = λ _ _. refl;
  at_at_sign = λ _ _. refl;
  at_dashes = λ _ _ _. refl;
  at_url = keeps;
  at_exponent = λ _ _ _ _ _ _. refl;
}

-- neither white space nor a function nor a backslash that begins no escape
abbrev pub is_plain : Option TokenKind → Bool
is_plain (Some kind.White) = false
is_plain (Some kind.Function) = false
is_plain (Some (kind.Delim c)) = not (c == backslash)
is_plain k = true

plain_is : (k j : Option TokenKind) → is_plain k ≡ true → is_plain j ≡ false → k ≡ j → ⊥
plain_is k j plain odd same = true≢false (sym plain ∙ ap is_plain same ∙ odd)

plain_keeps : (k : Option TokenKind) (v old new : List ℕ) → is_plain k ≡ true → KeepsString k v old new
plain_keeps k v old new plain = λ _ called _ _ _. absurd (plain_is k (Some kind.Function) plain refl called)

pub through_plain : (k : Option TokenKind) (old new : List ℕ) → is_plain k ≡ true → begins_dashes new ≡ false → LooksThrough k old new
through_plain k old new plain none = record {
  at_bang = λ _ _. none;
  at_white = λ white _. absurd (plain_is k (Some kind.White) plain refl white);
}

pub ends_nil : (p : Part) (old : List ℕ) → is_plain p.kind ≡ true → EndsAlike p old []
ends_nil p old plain = record {
  alike = λ _. alike_nil old;
  looks = looks_nil p.kind p.bytes old (plain_is p.kind (Some (kind.Delim backslash)) plain refl) (plain_keeps p.kind p.bytes old [] plain);
  through = through_plain p.kind old [] plain refl;
}

-- before a byte as `;` or `/`, at which both tests compute
pub ends_byte : (p : Part) (old : List ℕ) (c : ℕ) (new : List ℕ) → is_plain p.kind ≡ true → goes_on c ≡ false → is_looked_for c ≡ false → EndsAlike p old (c ∷ new)
ends_byte p old c new plain ends none =
    let is = not_looked_for c none in
    record {
      alike = λ _. alike_byte c old new ends;
      looks = looks_byte p.kind p.bytes old c new none (plain_is p.kind (Some (kind.Delim backslash)) plain refl) (plain_keeps p.kind p.bytes old (c ∷ new) plain);
      through = through_plain p.kind old (c ∷ new) plain (rw is.no_dash refl);
    }

pub ends_bang : (p : Part) (old new : List ℕ) → is_plain p.kind ≡ true → begins_dashes new ≡ false → EndsAlike p old (33 ∷ new)
ends_bang p old new plain none = record {
  alike = λ _. alike_byte 33 old new refl;
  looks = looks_bang p.kind p.bytes old new none (plain_is p.kind (Some (kind.Delim backslash)) plain refl) (plain_keeps p.kind p.bytes old (33 ∷ new) plain);
  through = through_plain p.kind old (33 ∷ new) plain refl;
}

-- where white space stood, a space may
pub ends_space : (p : Part) (old new : List ℕ) → is_plain p.kind ≡ true → (ends_itself p.kind ≡ false → 0 < white_unit old) → EndsAlike p old (32 ∷ new)
ends_space p old new plain white = record {
  alike = λ open_ended. alike_space old new (white open_ended);
  looks = looks_byte p.kind p.bytes old 32 new refl (plain_is p.kind (Some (kind.Delim backslash)) plain refl) (plain_keeps p.kind p.bytes old (32 ∷ new) plain);
  through = through_plain p.kind old (32 ∷ new) plain refl;
}

-- a backslash that begins no escape begins none before a line feed
pub ends_feed : (p : Part) (old new : List ℕ) → p.kind ≡ Some (kind.Delim backslash) → EndsAlike p old (line_feed ∷ new)
ends_feed p old new lone = record {
  alike = λ open_ended. absurd (true≢false (sym (ap ends_itself lone) ∙ open_ended));
  looks = record {
    at_backslash = λ _ _. refl;
    at_slash = λ _ _. refl;
    at_less_than = λ _ _. refl;
    at_plus_or_minus = λ _ _ _ _. refl;
    at_dash = λ _ _. refl;
    at_dot = λ _ _. refl;
    at_hash = λ _ _. refl;
    at_at_sign = λ _ _. refl;
    at_dashes = λ _ _ _. refl;
    at_url = λ _ called _ _ _. absurd (cc);
    at_exponent = λ _ _ _ _ _ _. refl;
  };
  through = record { at_bang = λ _ _. refl; at_white = λ white _. absurd (cc) };
}

-- one space, before what begins with none
pub space_read : (rest : List ℕ) → white_unit rest ≡ 0 → part_at (32 ∷ rest) ≡ Ok (Some kind.White, 1)
space_read rest none = rule_part (32 ∷ rest) (Some kind.White) 1 (ap (λ (n : ℕ). Ok (Some kind.White, suc n)) (run_none white_unit rest none)) (omega arith)

-- an empty comment, before anything
pub comment_read : (rest : List ℕ) → part_at (slash ∷ star ∷ star ∷ slash ∷ rest) ≡ Ok (None, 4)
comment_read rest = rule_part (slash ∷ star ∷ star ∷ slash ∷ rest) None 4 refl (omega arith)
