-- Parts that end themselves, before any rest.
use Rattle.std.proofs.Common.{ℕ, ◌≡◌, Bool, true, false, ◌||◌, ◌==◌, List, [], ◌∷◌, ◌++◌, Option, Some, length, take, refl, sym, ap, ◌∙◌, true≢false, arith, subst, inl, inr, ◌⊎◌}
use Rattle.std.proofs.lemmas.Bool.{eqb-true, or_cases}
use Rattle.std.proofs.lemmas.List.{length-append, take_at}
use Rattle.css_model.specs.declared.token.TokenKind.{TokenKind}
use Rattle.css_model.specs.declared.token.TokenKind.TheVariants as kind
use Rattle.css_model.specs.Text.Characters.{backslash, slash, less_than, plus, dash, dot, hash, at_sign, open_round, close_round, is_sign, is_plus_or_minus}
use Rattle.css_model.specs.Text.Names.{is_url}
use Rattle.css_model.specs.Text.TokenAt.{part_at, rule_at, done}
use Rattle.css_model.specs.Text.Tokens.{Part}
use Rattle.token_laws.specs.Alike.{KeepsString, LooksAlike, LooksThrough, EndsAlike, ends_itself}
use Rattle.token_laws.proofs.Ends.RuleBounds.{sign_is}
use Rattle.token_laws.proofs.Ends.Rules.{rule_part}
use Rattle.token_laws.proofs.Ends.Alike.{goes_on}
use Rattle.token_laws.proofs.Ends.Rests.{ends_byte, is_looked_for, is_plain}

-- a kind of which some token looks at what stands behind it
abbrev pub looks_behind : Option TokenKind → Bool
looks_behind (Some kind.Dimension) = true
looks_behind (Some kind.Ident) = true
looks_behind (Some kind.Function) = true
looks_behind (Some (kind.Delim c)) = c == backslash || c == slash || c == less_than || c == plus || c == dash || c == dot || c == hash || c == at_sign
looks_behind k = false

-- a kind of which some token lets the one before it look behind itself
abbrev pub lets_through : Option TokenKind → Bool
lets_through (Some kind.White) = true
lets_through (Some (kind.Delim c)) = c == 33
lets_through k = false

-- what tells two kinds apart
differ : (test : Option TokenKind → Bool) (k j : Option TokenKind) → test k ≡ false → test j ≡ true → k ≡ j → ⊥
differ test k j none some same = true≢false (sym some ∙ sym (ap test same) ∙ none)

pub looks_none : (k : Option TokenKind) (v old new : List ℕ) → looks_behind k ≡ false → LooksAlike k v old new
looks_none k v old new none = record {
  at_backslash = λ e. absurd (not (Some (kind.Delim backslash)) refl e);
  at_slash = λ e. absurd (not (Some (kind.Delim slash)) refl e);
  at_less_than = λ e. absurd (not (Some (kind.Delim less_than)) refl e);
  at_plus_or_minus = λ c e sign. absurd (no_sign c sign e);
  at_dash = λ e. absurd (not (Some (kind.Delim dash)) refl e);
  at_dot = λ e. absurd (not (Some (kind.Delim dot)) refl e);
  at_hash = λ e. absurd (not (Some (kind.Delim hash)) refl e);
  at_at_sign = λ e. absurd (not (Some (kind.Delim at_sign)) refl e);
  at_dashes = λ e. absurd (not (Some kind.Ident) refl e);
  at_url = λ _ e. absurd (not (Some kind.Function) refl e);
  at_exponent = λ _ _ e. absurd (not (Some kind.Dimension) refl e);
}
  where
    not : (j : Option TokenKind) → looks_behind j ≡ true → k ≡ j → ⊥
    not j some same = differ looks_behind k j none some same

    no_sign : (c : ℕ) → is_plus_or_minus c ≡ true → k ≡ Some (kind.Delim c) → ⊥
    no_sign = sign_is (λ c. k ≡ Some (kind.Delim c) → ⊥) (not (Some (kind.Delim plus)) refl) (not (Some (kind.Delim dash)) refl)

pub through_none : (k : Option TokenKind) (old new : List ℕ) → lets_through k ≡ false → LooksThrough k old new
through_none k old new none = record {
  at_bang = λ e. absurd (differ lets_through k (Some (kind.Delim 33)) none refl e);
  at_white = λ e. absurd (differ lets_through k (Some kind.White) none refl e);
}

-- a part that is the same before any rest: a sign, a string, a percentage, a url, a comment, and most others of
-- one byte
pub ends_anywhere : (p : Part) (old new : List ℕ) → ends_itself p.kind ≡ true → looks_behind p.kind ≡ false → lets_through p.kind ≡ false → EndsAlike p old new
ends_anywhere p old new ends looks through = record {
  alike = λ open_ended. absurd (true≢false (sym ends ∙ open_ended));
  looks = looks_none p.kind p.bytes old new looks;
  through = through_none p.kind old new through;
}

-- a function of another name is not asked for a string
pub keeps_other : (name old new : List ℕ) (k : Option TokenKind) → is_url name ≡ false → KeepsString k (name ++ open_round ∷ []) old new
keeps_other name old new k other = λ front _ same url.
    let size = ap (λ (cs : List ℕ). length cs) same in
    let len : length name ≡ length front = omega (arith, size, length-append name (open_round ∷ []), length-append front (open_round ∷ [])) in
    let names : name ≡ front =
    sym (take_at name (open_round ∷ []) (length name) refl) ∙ ap (λ (cs : List ℕ). take (length name) cs) same ∙ take_at front (open_round ∷ []) (length name) (sym len) in
    absurd (true≢false (sym url ∙ sym (ap is_url names) ∙ other))

-- and so it is the same before any rest
pub looks_called : (name old new : List ℕ) → is_url name ≡ false → LooksAlike (Some kind.Function) (name ++ open_round ∷ []) old new
looks_called name old new other = record {
  at_backslash = λ e. absurd (cc);
  at_slash = λ e. absurd (cc);
  at_less_than = λ e. absurd (cc);
  at_plus_or_minus = λ _ e. absurd (cc);
  at_dash = λ e. absurd (cc);
  at_dot = λ e. absurd (cc);
  at_hash = λ e. absurd (cc);
  at_at_sign = λ e. absurd (cc);
  at_dashes = λ e. absurd (cc);
  at_url = keeps_other name old new (Some kind.Function) other;
  at_exponent = λ _ _ e. absurd (cc);
}

-- what holds of each sign holds of this one
pub sign_each : (P : ℕ → Type 0) → P 58 → P 59 → P 44 → P 91 → P 93 → P open_round → P close_round → P 123 → P 125 → (c : ℕ) → is_sign c ≡ true → P c
sign_each P colon semicolon comma open_square close_square opener closer open_curly close_curly c = ninth
  where
    or_else : (rest : Bool) (b : ℕ) → P b → (rest ≡ true → P c) → (rest || c == b) ≡ true → P c
    or_else rest b p others either = which (or_cases rest (c == b) either)
      where
        which : (rest ≡ true) ⊎ ((c == b) ≡ true) → P c
        which (inl is) = others is
        which (inr is) = subst P (sym (eqb-true c b is)) p

    first : (c == 58) ≡ true → P c
    first is = subst P (sym (eqb-true c 58 is)) colon

    ninth : is_sign c ≡ true → P c
    ninth =
        or_else _ 125 close_curly (or_else _ 123 open_curly (or_else _ close_round closer (or_else _ open_round opener
        (or_else _ 93 close_square (or_else _ 91 open_square (or_else _ 44 comma (or_else _ 59 semicolon first)))))))

-- a sign, before anything
pub sign_read : (rest : List ℕ) (c : ℕ) → is_sign c ≡ true → part_at (c ∷ rest) ≡ done (kind.Sign c) 1
sign_read rest =
    sign_each (λ c. part_at (c ∷ rest) ≡ done (kind.Sign c) 1) (at 58 refl) (at 59 refl) (at 44 refl) (at 91 refl) (at 93 refl) (at open_round refl) (at close_round refl) (at 123 refl) (at 125 refl)
  where
    at : (c : ℕ) → rule_at (c ∷ rest) ≡ done (kind.Sign c) 1 → part_at (c ∷ rest) ≡ done (kind.Sign c) 1
    at c is = rule_part (c ∷ rest) (Some (kind.Sign c)) 1 is (omega arith)

-- a part before a sign other than `(`
pub ends_sign : (p : Part) (old : List ℕ) (c : ℕ) (new : List ℕ) → is_plain p.kind ≡ true → is_sign c ≡ true → (c == open_round) ≡ false → EndsAlike p old (c ∷ new)
ends_sign p old c new plain =
    sign_each (λ c. (c == open_round) ≡ false → EndsAlike p old (c ∷ new)) (at 58 refl refl) (at 59 refl refl) (at 44 refl refl) (at 91 refl refl) (at 93 refl refl)
    (λ other. absurd (true≢false other)) (at close_round refl refl) (at 123 refl refl) (at 125 refl refl) c
  where
    at : (c : ℕ) → goes_on c ≡ false → is_looked_for c ≡ false → (c == open_round) ≡ false → EndsAlike p old (c ∷ new)
    at c ends none _ = ends_byte p old c new plain ends none
