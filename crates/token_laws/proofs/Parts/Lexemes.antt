-- The tokens of a source by their places, and those of its parts.
use Rattle.std.proofs.Common.{ℕ, ◌+◌, ◌-◌, ◌≡◌, Bool, true, false, cond, List, [], ◌∷◌, ◌++◌, Option, Some, None, map, length, take, drop, slice_range, refl, sym, ap, ◌∙◌, arith, append_assoc}
use Rattle.std.proofs.lemmas.List.{drop-drop, drop_at, take_at}
use Rattle.css_model.specs.declared.token.Bracket.{Bracket}
use Rattle.css_model.specs.declared.token.Gap.{Gap}
use Rattle.css_model.specs.declared.token.Token.{Token}
use Rattle.css_model.specs.declared.token.TokenKind.{TokenKind}
use Rattle.css_model.specs.Text.Kept.{Solid, solid}
use Rattle.css_model.specs.Text.Lexemes.{is_white_kind, gap_of, after, lexeme, lexemes_in}
use Rattle.css_model.specs.Text.Tokens.{Part, parts, text_of, token_then, is_comment, tokens_at}
use Rattle.token_laws.specs.Solids.{gap_before, solid_then, solids, SolidsAreLexemes}
use Rattle.css_tokens.proofs.ForCallers.{parts_join}

-- what stands before tokens is what stands before their parts
gap_same : (ps : List Part) (at : ℕ) (comment : Bool) → gap_of (tokens_at at comment ps) ≡ gap_before comment ps
gap_same [] at comment = refl
gap_same (p ∷ ps) at comment = which p.kind (gap_same ps (at + length p.bytes) true)
  where
    which : (k : Option TokenKind) → gap_of (tokens_at (at + length p.bytes) true ps) ≡ gap_before true ps
        → gap_of (token_then k at (length p.bytes) comment (tokens_at (at + length p.bytes) (is_comment k) ps)) ≡ gap_before comment (record { kind = k; bytes = p.bytes } ∷ ps)
    which None later = later
    which (Some k) later = refl

solids_same : (source : List ℕ) (ps : List Part) (at : ℕ) (comment : Bool) (brackets : List Bracket) (back : List ℕ) → drop at source ≡ text_of ps ++ back
    → map (solid source) (lexemes_in brackets (tokens_at at comment ps)) ≡ solids ps
solids_same source [] at comment brackets back is = refl
solids_same source (p ∷ ps) at comment brackets back is =
    which p.kind (λ (comment : Bool) (brackets : List Bracket). solids_same source ps (at + length p.bytes) comment brackets back rest)
  where
    whole : drop at source ≡ p.bytes ++ (text_of ps ++ back)
    whole = is ∙ append_assoc p.bytes (text_of ps) back

    rest : drop (at + length p.bytes) source ≡ text_of ps ++ back
    rest = sym (drop-drop (length p.bytes) at source) ∙ ap (λ (text : List ℕ). drop (length p.bytes) text) whole ∙ drop_at p.bytes (text_of ps ++ back) (length p.bytes) refl

    bytes : slice_range source at (at + length p.bytes) ≡ p.bytes
    bytes =
        let size : at + length p.bytes - at ≡ length p.bytes = omega arith in
        ap (λ (m : ℕ). take m (drop at source)) size ∙ ap (λ (text : List ℕ). take (length p.bytes) text) whole ∙ take_at p.bytes (text_of ps ++ back) (length p.bytes) refl

    which : (k : Option TokenKind) → ((comment : Bool) (brackets : List Bracket) → map (solid source) (lexemes_in brackets (tokens_at (at + length p.bytes) comment ps)) ≡ solids ps)
        → map (solid source) (lexemes_in brackets (token_then k at (length p.bytes) comment (tokens_at (at + length p.bytes) (is_comment k) ps))) ≡ solid_then k p.bytes (gap_before false ps) (solids ps)
    which None later = later true brackets
    which (Some k) later = solid_or (is_white_kind k)
      where
        t : Token
        t = record { kind = k; span = record { start = at; «end» = at + length p.bytes }; comment_before = comment }

        ts : List Token
        ts = tokens_at (at + length p.bytes) false ps

        solid_or : (b : Bool) → map (solid source) (cond b (lexemes_in brackets ts) (lexeme (length brackets) t ts ∷ lexemes_in (after t brackets) ts))
            ≡ cond b (solids ps) (record { kind = k; bytes = p.bytes; gap = gap_before false ps } ∷ solids ps)
        solid_or true = later false brackets
        solid_or false =
            let more = map (solid source) (lexemes_in (after t brackets) ts) in
            ap (λ (text : List ℕ). record { kind = k; bytes = text; gap = gap_of ts } ∷ more) bytes
            ∙ ap (λ (g : Gap). record { kind = k; bytes = p.bytes; gap = g } ∷ more) (gap_same ps (at + length p.bytes) false)
            ∙ ap (λ (ss : List Solid). record { kind = k; bytes = p.bytes; gap = gap_before false ps } ∷ ss) (later false (after t brackets))

pub solids_are_lexemes : SolidsAreLexemes
solids_are_lexemes source at =
    let joined = parts_join (drop at source) in
    solids_same source (parts (drop at source)).parts at false [] joined.0 joined.1
