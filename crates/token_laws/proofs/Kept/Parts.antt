-- The parts that kept text is made of.
use Rattle.std.proofs.Common.{ℕ, ◌≡◌, Bool, true, false, cond, not, ◌&&◌, List, [], ◌∷◌, ◌++◌, Some, None, refl, sym, ap, ◌∙◌, append_assoc}
use Rattle.std.proofs.lemmas.List.{append-nil}
use Rattle.css_model.specs.declared.token.Gap.{Gap}
use Rattle.css_model.specs.declared.token.Gap.TheVariants as gap
use Rattle.css_model.specs.declared.token.TokenKind.TheVariants as kind
use Rattle.css_model.specs.Text.Characters.{space, line_feed, slash, star}
use Rattle.css_model.specs.Text.Kept.{Solid, is_lone, is_open, is_white_gap, gap_text, between, behind_last, behind_value, spelled}
use Rattle.css_model.specs.Text.Tokens.{Part, text_of}
use Rattle.token_laws.specs.Solids.{closed}

abbrev pub part_of : Solid → Part
part_of s = record { kind = Some s.kind; bytes = s.bytes }

abbrev pub feed : Part
feed = record { kind = Some kind.White; bytes = line_feed ∷ [] }

abbrev pub one_space : Part
one_space = record { kind = Some kind.White; bytes = space ∷ [] }

abbrev pub empty_comment : Part
empty_comment = record { kind = None; bytes = slash ∷ star ∷ star ∷ slash ∷ [] }

abbrev pub gap_part : Gap → List Part
gap_part gap.Nothing = []
gap_part gap.Comments = empty_comment ∷ []
gap_part gap.White = one_space ∷ []

abbrev pub gap_parts : Solid → List Part
gap_parts s = cond (is_lone s.kind) (feed ∷ []) (gap_part s.gap)

abbrev pub last_parts : Solid → List Part
last_parts s = cond (is_lone s.kind) (feed ∷ []) []

-- of a kept text, or of the text of a value, where the last may be closed too
abbrev pub last_of : Bool → Solid → Solid
last_of value s = cond value (closed s) s

abbrev pub kept_parts : Bool → List Solid → List Part
kept_parts value [] = []
kept_parts value (s ∷ []) = part_of (last_of value s) ∷ last_parts s
kept_parts value (s ∷ t ∷ ss) = part_of (closed s) ∷ (gap_parts s ++ kept_parts value (t ∷ ss))

abbrev pub behind : Bool → Solid → List ℕ
behind value s = cond value (behind_value s) (behind_last s)

pub text_append : (ps qs : List Part) → text_of (ps ++ qs) ≡ text_of ps ++ text_of qs
text_append [] qs = refl
text_append (p ∷ ps) qs = ap (λ (rest : List ℕ). p.bytes ++ rest) (text_append ps qs) ∙ sym (append_assoc p.bytes (text_of ps) (text_of qs))

-- a token that may be closed, and what stands behind it
between_spells : (s : Solid) (rest : List ℕ) → (closed s).bytes ++ (text_of (gap_parts s) ++ rest) ≡ s.bytes ++ (between s ++ rest)
between_spells s rest = which (is_lone s.kind) s.gap (is_open s.bytes) refl
  where
    which : (l : Bool) (g : Gap) (o : Bool) → is_open s.bytes ≡ o
        → (cond (not l && (is_white_gap g && o)) (record { kind = s.kind; bytes = s.bytes ++ space ∷ []; gap = s.gap }) s).bytes ++ (text_of (cond l (feed ∷ []) (gap_part g)) ++ rest)
        ≡ s.bytes ++ (cond l (line_feed ∷ []) (gap_text s.bytes g) ++ rest)
    which true g o is = refl
    which false gap.Nothing o is = refl
    which false gap.Comments o is = refl
    which false gap.White true is = rw is (append_assoc s.bytes (space ∷ []) (space ∷ rest))
    which false gap.White false is = rw is refl

-- the last one
last_spells : (value : Bool) (s : Solid) → (last_of value s).bytes ++ text_of (last_parts s) ≡ s.bytes ++ behind value s
last_spells false s = which (is_lone s.kind)
  where
    which : (l : Bool) → s.bytes ++ text_of (cond l (feed ∷ []) []) ≡ s.bytes ++ cond l (line_feed ∷ []) []
    which true = refl
    which false = refl
last_spells true s = which (is_lone s.kind) (is_white_gap s.gap && is_open s.bytes)
  where
    which : (l o : Bool) → (cond (not l && o) (record { kind = s.kind; bytes = s.bytes ++ space ∷ []; gap = s.gap }) s).bytes ++ text_of (cond l (feed ∷ []) [])
        ≡ s.bytes ++ cond l (line_feed ∷ []) (cond o (space ∷ []) [])
    which true o = refl
    which false true = append-nil (s.bytes ++ space ∷ [])
    which false false = refl

pub kept_spells : (value : Bool) (ss : List Solid) → text_of (kept_parts value ss) ≡ spelled (behind value) ss
kept_spells value [] = refl
kept_spells value (s ∷ []) = last_spells value s
kept_spells value (s ∷ t ∷ ss) =
    ap (λ (rest : List ℕ). (closed s).bytes ++ rest) (text_append (gap_parts s) (kept_parts value (t ∷ ss)))
    ∙ between_spells s (text_of (kept_parts value (t ∷ ss))) ∙ ap (λ (rest : List ℕ). s.bytes ++ (between s ++ rest)) (kept_spells value (t ∷ ss))
    ∙ sym (append_assoc s.bytes (between s) (spelled (behind value) (t ∷ ss)))
