-- Parts that stand before a `}` are read where they stand by themselves, too.
use Rattle.std.proofs.Common.{◌≡◌, inl, inr, ℕ, false, List, [], ◌∷◌, ◌++◌, length, Some, Ok, refl, sym, ◌∙◌, ap, subst}
use Rattle.std.proofs.lemmas.Bool.{false≢true}
use Rattle.std.proofs.lemmas.List.{append_assoc}
use Rattle.css_model.specs.declared.token.Gap.TheVariants as gap
use Rattle.css_model.specs.declared.token.TokenKind.TheVariants as kind
use Rattle.css_model.specs.Text.Characters.{backslash, close_curly, first_passes}
use Rattle.css_model.specs.Text.TokenAt.{part_at, is_quote}
use Rattle.css_model.specs.Text.Tokens.{Part, text_of}
use Rattle.css_tokens.specs.Lexed.{IsLexed}
use Rattle.token_laws.specs.Alike.{Alike, EndsAlike, begins_quoted}
use Rattle.token_laws.specs.Solids.{gap_before}
use Rattle.token_laws.proofs.ForCallers.{PartIs, lone_gap, part_is, rows_again, sign-text}

-- the `}` of a block
abbrev pub close_part : Part
close_part = record { kind = Some (kind.Sign close_curly); bytes = close_curly ∷ [] }

pub lexed_behind : (ps qs : List Part) → IsLexed (ps ++ qs) → IsLexed qs
lexed_behind [] qs lexed = lexed
lexed_behind (p ∷ ps) qs (here, lexed) = lexed_behind ps qs lexed

-- nothing goes on at the end of a text
at_end : (old : List ℕ) → Alike old []
at_end old = record {
  hex = λ _. refl;
  white = λ _. refl;
  feed = λ _. refl;
  unit = λ _. refl;
  name = λ _. refl;
  bracket = λ _. refl;
  percentage = λ _. refl;
  digit = λ _. refl;
  decimals = λ _. refl;
}

-- no lone backslash stands before a `}`
no_lone : (last close : Part) (rest : List Part) → IsLexed (last ∷ close ∷ rest) → close.kind ≡ Some (kind.Sign close_curly) → last.kind ≡ Some (kind.Delim backslash) → ⊥
no_lone last close rest (here, lexed) sign lone = which (part_is last.kind last.bytes (text_of (close ∷ rest)) here)
  where
    white_is : gap.Nothing ≡ gap.White → ⊥
    white_is e = absurd (cc)

    gap_is : gap_before false (close ∷ rest) ≡ gap.Nothing
    gap_is = rw sign refl

    which : PartIs last.kind last.bytes (text_of (close ∷ rest)) → ⊥
    which (inl white) = absurd (let e = sym lone ∙ white.kind in cc)
    which (inr (inl comment)) = absurd (let e = sym lone ∙ comment.kind in cc)
    which (inr (inr solid)) =
        let token : Some solid.token ≡ Some (kind.Delim backslash) = sym solid.kind ∙ lone in
        let same : solid.token ≡ kind.Delim backslash = cc in
        let alone = solid.lone (rw same refl) in
        let read : part_at (last.bytes ++ text_of (close ∷ rest)) ≡ Ok (Some (kind.Delim backslash), length last.bytes) = rw lone at here in
        white_is (sym gap_is ∙ lone_gap (kind.Delim backslash) last.bytes (close ∷ rest) alone read lexed)

ends_before_close : (last : Part) (old : List ℕ) → (last.kind ≡ Some (kind.Delim backslash) → ⊥) → first_passes is_quote old ≡ false → begins_quoted old ≡ false → EndsAlike last old []
ends_before_close last old lone quote quoted = record {
  alike = λ _. at_end old;
  looks = record {
    at_backslash = λ e. absurd (lone e);
    at_slash = λ _ _. refl;
    at_less_than = λ _ _. refl;
    at_plus_or_minus = λ _ _ _ _. refl;
    at_dash = λ _ _. refl;
    at_dot = λ _ _. refl;
    at_hash = λ _ _. refl;
    at_at_sign = λ _ _. refl;
    at_dashes = λ _ _ _. refl;
    at_url = λ name called bytes url begins. absurd (false≢true (sym quoted ∙ begins));
    at_exponent = λ _ _ _ _ _ _. refl;
  };
  through = record { at_bang = λ _ _. refl; at_white = λ white begins. absurd (false≢true (sym quote ∙ begins)) };
}

-- the last of some parts
record HasLast (ps : List Part) : Type 0 where
  front : List Part
  last : Part
  are : ps ≡ front ++ last ∷ []

last_of_parts : (p : Part) (ps : List Part) → HasLast (p ∷ ps)
last_of_parts p [] = record { front = []; last = p; are = refl }
last_of_parts p (q ∷ ps) =
    let more = last_of_parts q ps in
    record { front = p ∷ more.front; last = more.last; are = ap (λ (qs : List Part). p ∷ qs) more.are }

-- the bytes of the `}`
pub close_text : (close : Part) (rest : List Part) → IsLexed (close ∷ rest) → close.kind ≡ Some (kind.Sign close_curly) → close.bytes ≡ close_curly ∷ []
close_text close rest (here, lexed) sign = sign-text close.bytes (text_of rest) close_curly (rw sign at here)

-- So parts before the `}` of a block are read by themselves.
pub row_before : (mid : List Part) (close : Part) (rest : List Part) → close.kind ≡ Some (kind.Sign close_curly) → IsLexed (mid ++ close ∷ rest) → IsLexed mid
row_before [] close rest sign lexed = tt
row_before (p ∷ mid) close rest sign lexed =
    let l = last_of_parts p mid in
    let moved : IsLexed (l.front ++ l.last ∷ close ∷ rest) = subst IsLexed (ap (λ qs. qs ++ close ∷ rest) l.are ∙ append_assoc l.front (l.last ∷ []) (close ∷ rest)) lexed in
    let behind = lexed_behind l.front (l.last ∷ close ∷ rest) moved in
    let text : text_of (close ∷ rest) ≡ close_curly ∷ text_of rest = ap (λ bytes. bytes ++ text_of rest) (close_text close rest behind.1 sign) in
    subst IsLexed (sym l.are)
    (rows_again l.front l.last (close ∷ rest) [] moved tt
    (ends_before_close l.last (text_of (close ∷ rest)) (no_lone l.last close rest behind sign) (ap (first_passes is_quote) text) (ap begins_quoted text)))
