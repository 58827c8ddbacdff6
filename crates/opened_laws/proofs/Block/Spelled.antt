-- A text whose parts are those of shown tokens is the kept text of its own tokens.
use Rattle.std.proofs.Common.{◌≡◌, ℕ, suc, Bool, true, false, List, [], ◌∷◌, ◌++◌, map, length, Option, Some, None, Result, Ok, Err, refl, sym, ◌∙◌, ap, subst, arith}
use Rattle.std.specs.Prelude.{⊤, if◌then◌else◌}
use Rattle.std.specs.List.{AllByRecursion}
use Rattle.std.proofs.lemmas.Bool.{true≢false}
use Rattle.std.proofs.lemmas.List.{append-nil, append_assoc}
use Rattle.css_model.specs.declared.token.Gap.{Gap}
use Rattle.css_model.specs.declared.token.Gap.TheVariants as gap
use Rattle.css_model.specs.declared.token.Lexeme.{Lexeme}
use Rattle.css_model.specs.declared.token.TokenFlaw.{TokenFlaw}
use Rattle.css_model.specs.declared.token.TokenKind.{TokenKind}
use Rattle.css_model.specs.declared.token.TokenKind.TheVariants as kind
use Rattle.css_model.specs.Text.Characters.{backslash, line_feed, quote, space}
use Rattle.css_model.specs.Text.Kept.{behind_last, between, is_lone, is_open, kept}
use Rattle.css_model.specs.Text.Lexemes.{is_white_kind}
use Rattle.css_model.specs.Text.TokenAt.{Shape, part_at}
use Rattle.css_model.specs.Text.Tokens.{text_of}
use Rattle.css_tokens.specs.Lexed.{IsLexed}
use Rattle.token_laws.specs.SpaceBehind.{IsRead}
use Rattle.token_laws.proofs.ForCallers.{alike_space, looks_byte, part_again, space_closes}
use Rattle.sheet_laws.proofs.ForCallers.{Shown, kept_shown}
use Rattle.print_laws.proofs.ForCallers.{IsChain, closers_after, gap_parts, parts_of, shown-first, shown_text, to_solid}
use Rattle.opened_laws.proofs.Block.Alone.{lexed_behind}

-- a token is spelled as it is kept: a newline stands behind a lone backslash, and no white space behind an open token
pub record IsSpelled (s : Shown) : Type 0 where
  pub lone : is_lone s.kind ≡ true → s.gap ≡ gap.White
  pub shut : is_lone s.kind ≡ false → s.gap ≡ gap.White → is_open s.bytes ≡ false

-- nothing stands behind the last token but the newline of a lone backslash
abbrev pub EndsBare : List Shown → Type 0
EndsBare [] = ⊤
EndsBare (s ∷ []) = is_lone s.kind ≡ false → s.gap ≡ gap.Nothing
EndsBare (s ∷ t ∷ ss) = EndsBare (t ∷ ss)

gap_spells : (k : TokenKind) (bytes : List ℕ) (g : Gap) (lone : Bool) → is_lone k ≡ lone → (lone ≡ true → g ≡ gap.White) → (lone ≡ false → g ≡ gap.White → is_open bytes ≡ false)
    → between (record { kind = k; bytes = bytes; gap = g }) ≡ text_of (gap_parts k g)
gap_spells k bytes gap.Nothing true is white shut = absurd (let e = white refl in cc)
gap_spells k bytes gap.Comments true is white shut = absurd (let e = white refl in cc)
gap_spells k bytes gap.White true is white shut = rw is refl
gap_spells k bytes gap.Nothing false is white shut = rw is refl
gap_spells k bytes gap.Comments false is white shut = rw is refl
gap_spells k bytes gap.White false is white shut = rw (is, shut refl refl) refl

last_spells : (k : TokenKind) (bytes : List ℕ) (g : Gap) (lone : Bool) → is_lone k ≡ lone → (lone ≡ true → g ≡ gap.White) → (lone ≡ false → g ≡ gap.Nothing)
    → behind_last (record { kind = k; bytes = bytes; gap = g }) ≡ text_of (gap_parts k g)
last_spells k bytes g true is white bare = rw (white refl, is) refl
last_spells k bytes g false is white bare = rw (bare refl, is) refl

pub kept_spells : (ss : List Shown) → AllByRecursion IsSpelled ss → EndsBare ss → kept (map to_solid ss) ≡ shown_text ss
kept_spells [] each bare = refl
kept_spells (s ∷ []) (one, each) bare =
    ap (λ (cs : List ℕ). s.bytes ++ cs) (last_spells s.kind s.bytes s.gap (is_lone s.kind) refl one.lone bare ∙ sym (append-nil (text_of (gap_parts s.kind s.gap)))) ∙ sym (shown-first s [])
kept_spells (s ∷ t ∷ ss) (one, each) bare =
    append_assoc s.bytes (between (to_solid s)) (kept (map to_solid (t ∷ ss)))
    ∙ ap (λ (cs : List ℕ). s.bytes ++ (cs ++ kept (map to_solid (t ∷ ss)))) (gap_spells s.kind s.bytes s.gap (is_lone s.kind) refl one.lone one.shut)
    ∙ ap (λ (cs : List ℕ). s.bytes ++ (text_of (gap_parts s.kind s.gap) ++ cs)) (kept_spells (t ∷ ss) each bare)
    ∙ sym (shown-first s (t ∷ ss))

pub kept_bare : (source : List ℕ) (xs : List Lexeme) → EndsBare (kept_shown source xs)
kept_bare source [] = tt
kept_bare source (x ∷ []) = λ other. rw other refl
kept_bare source (x ∷ y ∷ []) = λ other. rw other refl
kept_bare source (x ∷ y ∷ z ∷ xs) = kept_bare source (y ∷ z ∷ xs)

pub bare_last : (ss : List Shown) (s : Shown) → s.gap ≡ gap.Nothing → EndsBare (ss ++ s ∷ [])
bare_last [] s none = λ _. none
bare_last (t ∷ []) s none = λ _. none
bare_last (t ∷ u ∷ ss) s none = bare_last (u ∷ ss) s none

-- ---- white space is no part of what stands before it

abbrev size_of : Result Shape TokenFlaw → ℕ
size_of (Ok s) = s.1
size_of (Err f) = 0

-- an open token takes the white space behind it
not_open : (v t : List ℕ) (k : TokenKind) → is_white_kind k ≡ false → is_lone k ≡ false → part_at (v ++ space ∷ t) ≡ Ok (Some k, length v) → is_open v ≡ false
not_open v t k solid other read = which (is_open v) refl
  where
    lone : Some k ≡ Some (kind.Delim backslash) → ⊥
    lone is = true≢false (sym (ap lone_kind is) ∙ other)
      where
        lone_kind : Option TokenKind → Bool
        lone_kind (Some j) = is_lone j
        lone_kind None = false

    takes : is_open v ≡ true → ⊥
    takes is =
        let here : IsRead v (space ∷ t) k = record { no_white = solid; no_lone = other; read = read } in
        let still = part_again v (space ∷ t) (space ∷ space ∷ quote ∷ []) (Some k) (λ _. alike_space (space ∷ t) (space ∷ quote ∷ []) (omega arith))
        (looks_byte (Some k) v (space ∷ t) space (space ∷ quote ∷ []) refl lone (λ _ _ _ _ _. refl)) read in
        let more = (space_closes v (space ∷ t) (quote ∷ []) k here is).0 in
        let size : length v ≡ suc (length v) = ap size_of (sym still ∙ more) in
        omega (arith, size)

    which : (b : Bool) → is_open v ≡ b → is_open v ≡ false
    which false is = is
    which true is = absurd (takes is)

pub all_spelled : (cs : List ℕ) (ss : List Shown) → IsChain cs ss → IsLexed (parts_of ss) → AllByRecursion (λ s. is_lone s.kind ≡ true → s.gap ≡ gap.White) ss → AllByRecursion IsSpelled ss
all_spelled cs [] chain lexed lone = tt
all_spelled cs (s ∷ ss) chain lexed lone = (
  record {
    lone = lone.0;
    shut = λ other white.
        let here = subst (λ (g : Gap). part_at (s.bytes ++ text_of (gap_parts s.kind g ++ parts_of ss)) ≡ Ok (Some s.kind, length s.bytes)) white lexed.0 in
        not_open s.bytes (text_of (parts_of ss)) s.kind chain.0 other
        (ap (λ (b : Bool). part_at (s.bytes ++ ((if b then line_feed ∷ [] else space ∷ []) ++ text_of (parts_of ss)))) (sym other) ∙ here);
  },
  all_spelled (closers_after s.kind cs) ss chain.3 (lexed_behind (gap_parts s.kind s.gap) (parts_of ss) lexed.1) lone.1,
)
