-- The parts that spell shown tokens, and the tokens of these parts.
use Rattle.std.proofs.Common.{◌≡◌, ℕ, false, if◌then◌else◌, List, [], ◌∷◌, ◌++◌, length, Some, None, refl, sym, ◌∙◌, ap}
use Rattle.std.specs.Prelude.{⊤, codes}
use Rattle.std.proofs.lemmas.Bool.{cond-false}
use Rattle.css_model.specs.declared.token.Gap.{Gap}
use Rattle.css_model.specs.declared.token.Gap.TheVariants as gap
use Rattle.css_model.specs.declared.token.TokenKind.{TokenKind}
use Rattle.css_model.specs.declared.token.TokenKind.TheVariants as kind
use Rattle.css_model.specs.Text.Characters.{line_feed, space}
use Rattle.css_model.specs.Text.Kept.{is_lone}
use Rattle.css_model.specs.Text.Lexemes.{is_white_kind}
use Rattle.css_model.specs.Text.Tokens.{Part}
use Rattle.sheet_laws.proofs.ForCallers.{Shown}
use Rattle.print_laws.proofs.Tokens.Parts.{closers_after, gap_behind, shown_parts, white-stays}

abbrev pub white_part : List ℕ → Part
white_part bytes = record { kind = Some kind.White; bytes = bytes }

abbrev pub comment_part : Part
comment_part = record { kind = None; bytes = codes "/**/" }

-- what stands between a token of this kind and the next one
abbrev pub gap_parts : TokenKind → Gap → List Part
gap_parts k gap.Nothing = []
gap_parts k gap.Comments = comment_part ∷ []
gap_parts k gap.White = white_part (if is_lone k then line_feed ∷ [] else space ∷ []) ∷ []

abbrev pub token_part : Shown → Part
token_part s = record { kind = Some s.kind; bytes = s.bytes }

abbrev pub parts_of : List Shown → List Part
parts_of [] = []
parts_of (s ∷ ss) = token_part s ∷ (gap_parts s.kind s.gap ++ parts_of ss)

-- comments stand between two tokens alone
abbrev pub IsTold : Gap → List Shown → Type 0
IsTold gap.Comments [] = ⊥
IsTold gap.Comments (s ∷ ss) = ⊤
IsTold gap.Nothing ss = ⊤
IsTold gap.White ss = ⊤

-- tokens inside brackets that these signs close, each at its level
abbrev pub IsChain : List ℕ → List Shown → Type 0
IsChain cs [] = ⊤
IsChain cs (s ∷ ss) = (is_white_kind s.kind ≡ false) × (s.level ≡ length cs) × IsTold s.gap ss × IsChain (closers_after s.kind cs) ss

gap-told : (k : TokenKind) (g : Gap) (cs : List ℕ) (ss : List Shown) → IsTold g ss → IsChain cs ss → gap_behind false (gap_parts k g ++ parts_of ss) ≡ g
gap-told k gap.White cs ss told chain = refl
gap-told k gap.Comments cs [] told chain = absurd told
gap-told k gap.Comments cs (s ∷ ss) told (solid, level, later, chain) = cond-false _ _ _ solid
gap-told k gap.Nothing cs [] told chain = refl
gap-told k gap.Nothing cs (s ∷ ss) told (solid, level, later, chain) = cond-false _ _ _ solid

gap-passed : (k : TokenKind) (g : Gap) (cs : List ℕ) (ss : List Shown) → shown_parts cs (gap_parts k g ++ parts_of ss) ≡ shown_parts cs (parts_of ss)
gap-passed k gap.Nothing cs ss = refl
gap-passed k gap.Comments cs ss = refl
gap-passed k gap.White cs ss = ap (λ (signs : List ℕ). shown_parts signs (parts_of ss)) (white-stays kind.White refl cs)

-- the parts show these tokens
pub chain-shown : (cs : List ℕ) (ss : List Shown) → IsChain cs ss → shown_parts cs (parts_of ss) ≡ ss
chain-shown cs [] chain = refl
chain-shown cs (s ∷ ss) (solid, level, told, chain) =
    cond-false _ _ _ solid
    ∙ ap (λ (g : Gap). record { kind = s.kind; bytes = s.bytes; gap = g; level = length cs } ∷ shown_parts (closers_after s.kind cs) (gap_parts s.kind s.gap ++ parts_of ss))
    (gap-told s.kind s.gap (closers_after s.kind cs) ss told chain)
    ∙ ap (λ (n : ℕ). record { kind = s.kind; bytes = s.bytes; gap = s.gap; level = n } ∷ shown_parts (closers_after s.kind cs) (gap_parts s.kind s.gap ++ parts_of ss)) (sym level)
    ∙ ap (λ (more : List Shown). s ∷ more) (gap-passed s.kind s.gap (closers_after s.kind cs) ss ∙ chain-shown (closers_after s.kind cs) ss chain)

-- the signs that close what is open behind tokens
abbrev pub closers_after_all : List ℕ → List Shown → List ℕ
closers_after_all cs [] = cs
closers_after_all cs (s ∷ ss) = closers_after_all (closers_after s.kind cs) ss
