-- The tokens of parts that are read where they stand.
use Rattle.std.proofs.Common.{ℕ, zero, suc, ◌+◌, ◌≡◌, inl, inr, Bool, true, false, cond, not, ◌==◌, ◌||◌, List, [], ◌∷◌, ◌++◌, Some, Ok, length, take, refl, sym, ap, ◌∙◌, arith}
use Rattle.std.proofs.lemmas.Bool.{false≢true, eqb-true}
use Rattle.std.specs.Char.{is_ascii_hexdigit}
use Rattle.css_model.specs.declared.token.Gap.TheVariants as gap
use Rattle.css_model.specs.declared.token.TokenKind.{TokenKind}
use Rattle.css_model.specs.declared.token.TokenKind.TheVariants as kind
use Rattle.css_model.specs.Text.Characters.{backslash, slash, space, tab, is_newline, is_white, begins, first_passes}
use Rattle.css_model.specs.Text.Kept.{Solid, is_lone}
use Rattle.css_model.specs.Text.Lexemes.{is_white_kind}
use Rattle.css_model.specs.Text.Units.{escape_after, hex_rest}
use Rattle.css_model.specs.Text.TokenAt.{part_at}
use Rattle.css_model.specs.Text.Tokens.{Part, text_of}
use Rattle.css_tokens.specs.Lexed.{IsLexed}
use Rattle.token_laws.specs.Solids.{gap_before, solids, is_function}
use Rattle.token_laws.proofs.Ends.Alike.{part_bounds, escape_short}
use Rattle.token_laws.proofs.Ends.Rests.{is_plain}
use Rattle.token_laws.proofs.Parts.Facts.{PartIs, part_is, first_of, slash_first, is_gap}

pub lone_is : (k : TokenKind) → is_lone k ≡ true → k ≡ kind.Delim backslash
lone_is (kind.Delim c) lone = ap kind.Delim (eqb-true c backslash lone)
lone_is kind.White lone = absurd (false≢true lone)
lone_is kind.Str lone = absurd (false≢true lone)
lone_is kind.IdHash lone = absurd (false≢true lone)
lone_is kind.Hash lone = absurd (false≢true lone)
lone_is kind.Number lone = absurd (false≢true lone)
lone_is kind.Percentage lone = absurd (false≢true lone)
lone_is kind.Dimension lone = absurd (false≢true lone)
lone_is kind.CommentOpen lone = absurd (false≢true lone)
lone_is kind.CommentClose lone = absurd (false≢true lone)
lone_is kind.AtKeyword lone = absurd (false≢true lone)
lone_is kind.Ident lone = absurd (false≢true lone)
lone_is kind.Function lone = absurd (false≢true lone)
lone_is kind.Url lone = absurd (false≢true lone)
lone_is (kind.Sign c) lone = absurd (false≢true lone)

pub plain_of : (k : TokenKind) → is_white_kind k ≡ false → is_function k ≡ false → is_lone k ≡ false → is_plain (Some k) ≡ true
plain_of (kind.Delim c) white called lone = ap not lone
plain_of kind.White white called lone = absurd (false≢true (sym white))
plain_of kind.Function white called lone = absurd (false≢true (sym called))
plain_of kind.Str white called lone = refl
plain_of kind.IdHash white called lone = refl
plain_of kind.Hash white called lone = refl
plain_of kind.Number white called lone = refl
plain_of kind.Percentage white called lone = refl
plain_of kind.Dimension white called lone = refl
plain_of kind.CommentOpen white called lone = refl
plain_of kind.CommentClose white called lone = refl
plain_of kind.AtKeyword white called lone = refl
plain_of kind.Ident white called lone = refl
plain_of kind.Url white called lone = refl
plain_of (kind.Sign c) white called lone = refl

-- white space stands at the front of parts whose text begins with it
white_gap : (ps : List Part) → IsLexed ps → first_passes is_white (text_of ps) ≡ true → gap_before false ps ≡ gap.White
white_gap [] lexed white = absurd (false≢true white)
white_gap (p ∷ ps) (here, lexed) white = which (part_is p.kind p.bytes (text_of ps) here)
  where
    slash_first : (v rest : List ℕ) → begins slash v ≡ true → first_passes is_white (v ++ rest) ≡ true → ⊥
    slash_first [] rest first white = false≢true first
    slash_first (c ∷ cs) rest first white = false≢true (rw (eqb-true c slash first) at white)

    which : PartIs p.kind p.bytes (text_of ps) → gap_before false (p ∷ ps) ≡ gap.White
    which (inl is) = rw is.kind refl
    which (inr (inl comment)) = absurd (slash_first p.bytes (text_of ps) comment.first white)
    which (inr (inr solid)) = absurd (false≢true (sym (first_of is_white p.bytes (text_of ps) solid.some ∙ solid.first) ∙ white))

-- behind a lone backslash stands a newline
pub lone_gap : (k : TokenKind) (v : List ℕ) (ps : List Part) → v ≡ backslash ∷ [] → part_at (v ++ text_of ps) ≡ Ok (Some k, length v) → IsLexed ps → gap_before false ps ≡ gap.White
lone_gap k v ps alone here lexed = white_gap ps lexed (newline (text_of ps) none)
  where
    read : part_at ((backslash ∷ []) ++ text_of ps) ≡ Ok (Some k, 1)
    read = rw alone at here

    none : escape_after (text_of ps) ≡ 0
    none = escape_short (text_of ps) (part_bounds (backslash ∷ []) (text_of ps) (Some k) read).name

    newline : (text : List ℕ) → escape_after text ≡ 0 → first_passes is_white text ≡ true
    newline [] none = absurd (omega (arith, none))
    newline (c ∷ cs) none = which (is_newline c) refl
      where
        at_least : (h : Bool) (m : ℕ) → cond h (2 + m) 2 ≡ 0 → ⊥
        at_least true m none = omega (arith, none)
        at_least false m none = omega (arith, none)

        either : (b : Bool) → (b || true) ≡ true
        either true = refl
        either false = refl

        which : (b : Bool) → is_newline c ≡ b → is_white c ≡ true
        which true is = rw is (either (c == space || c == tab))
        which false is = absurd (at_least (is_ascii_hexdigit c) (hex_rest 5 cs) (rw is at none))

-- where comments alone stand, one stands first
pub comment_first : (ps : List Part) → IsLexed ps → gap_before false ps ≡ gap.Comments → begins slash (text_of ps) ≡ true
comment_first [] lexed comments = absurd (cc)
comment_first (p ∷ ps) (here, lexed) comments = which (part_is p.kind p.bytes (text_of ps) here)
  where
    white_first : gap.White ≡ gap.Comments → ⊥
    white_first is = cc

    solid_first : gap.Nothing ≡ gap.Comments → ⊥
    solid_first is = cc

    which : PartIs p.kind p.bytes (text_of ps) → begins slash (p.bytes ++ text_of ps) ≡ true
    which (inl white) = absurd (white_first (rw white.kind at comments))
    which (inr (inl comment)) = slash_first p.bytes (text_of ps) comment.first
    which (inr (inr solid)) = absurd (solid_first (rw (solid.kind, solid.solid) at comments))

abbrev pub begins_solid : List Part → Bool
begins_solid [] = false
begins_solid (p ∷ ps) = not (is_gap p.kind)

-- where comments stand and nothing else, no token follows
none_behind : (ps : List Part) → IsLexed ps → gap_before true ps ≡ gap.Nothing → solids ps ≡ []
none_behind [] lexed none = refl
none_behind (p ∷ ps) (here, lexed) none = which (part_is p.kind p.bytes (text_of ps) here) (none_behind ps lexed)
  where
    white_first : gap.White ≡ gap.Nothing → ⊥
    white_first is = cc

    solid_first : gap.Comments ≡ gap.Nothing → ⊥
    solid_first is = cc

    which : PartIs p.kind p.bytes (text_of ps) → (gap_before true ps ≡ gap.Nothing → solids ps ≡ []) → solids (p ∷ ps) ≡ []
    which (inl white) later = absurd (white_first (rw white.kind at none))
    which (inr (inl comment)) later = rw comment.kind (later (rw comment.kind at none))
    which (inr (inr solid)) later = absurd (solid_first (rw (solid.kind, solid.solid) at none))

pub take_none : (n : ℕ) (t : Solid) (ts : List Solid) → take n [] ≡ t ∷ ts → ⊥
take_none zero t ts is = cc
take_none (suc n) t ts is = cc

-- where nothing stands and a token follows, it stands first
pub nothing_first : (ps : List Part) (n : ℕ) (t : Solid) (ts : List Solid) → IsLexed ps → gap_before false ps ≡ gap.Nothing → take n (solids ps) ≡ t ∷ ts → begins_solid ps ≡ true
nothing_first [] n t ts lexed none some = absurd (take_none n t ts some)
nothing_first (p ∷ ps) n t ts (here, lexed) none some = which (part_is p.kind p.bytes (text_of ps) here)
  where
    white_first : gap.White ≡ gap.Nothing → ⊥
    white_first is = cc

    which : PartIs p.kind p.bytes (text_of ps) → begins_solid (p ∷ ps) ≡ true
    which (inl white) = absurd (white_first (rw white.kind at none))
    which (inr (inl comment)) =
        let empty : solids ps ≡ [] = none_behind ps lexed (rw comment.kind at none) in
        let here : take n (solids ps) ≡ t ∷ ts = rw comment.kind at some in
        absurd (take_none n t ts (ap (λ (ss : List Solid). take n ss) (sym empty) ∙ here))
    which (inr (inr solid)) = rw (solid.kind, solid.solid) refl
