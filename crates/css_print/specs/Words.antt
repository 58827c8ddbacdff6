-- The tokens of a text that are no white space, up to a place.
use Rattle.std.specs.Prelude.{ℕ, nat_le, ◌&&◌, Bool, true, not, if◌then◌else◌, List, [], ◌∷◌, Option, Some, None}
use Rattle.css_model.specs.declared.token.Gap.{Gap}
use Rattle.css_model.specs.declared.token.Gap.TheVariants as gap
use Rattle.css_model.specs.declared.token.Token.{Token}
use Rattle.css_model.specs.declared.token.TokenKind.{TokenKind}
use Rattle.css_model.specs.Text.Characters.{close_round}
use Rattle.css_model.specs.Text.Kept.{Solid, behind_last, between}
use Rattle.css_model.specs.Text.Lexemes.{gap_of, is_sign_of, is_white_kind}
use Rattle.css_model.specs.Text.Source.{text_at}

-- a token that was read ahead, before others
abbrev pub front : Option Token → List Token → List Token
front None ts = []
front (Some t) ts = t ∷ ts

-- a token, where it ends before a place or there
abbrev pub cut : ℕ → Option Token → Option Token
cut place None = None
cut place (Some t) = if nat_le t.span.«end» place then Some t else None

-- a token that was read ahead is no white space, and ends before a place or there
abbrev pub is_ahead : ℕ → Option Token → Bool
is_ahead place None = true
is_ahead place (Some t) = nat_le t.span.«end» place && not (is_white_kind t.kind)

abbrev pub solid_of : List ℕ → Token → List Token → Solid
solid_of source t ts = record { kind = t.kind; bytes = text_at source t.span; gap = gap_of ts }

-- the tokens that end before a place or there and are no white space
abbrev pub solids_to : ℕ → List ℕ → List Token → List Solid
solids_to place source [] = []
solids_to place source (t ∷ ts) =
    if nat_le t.span.«end» place then (if is_white_kind t.kind then solids_to place source ts else solid_of source t ts ∷ solids_to place source ts)
    else []

abbrev pub kind_of_first : List Solid → Option TokenKind
kind_of_first [] = None
kind_of_first (s ∷ ss) = Some s.kind

-- the tokens from the first on that ends before a place or there and is no white space
abbrev pub past_white : ℕ → List Token → List Token
past_white place [] = []
past_white place (t ∷ ts) = if nat_le t.span.«end» place then (if is_white_kind t.kind then past_white place ts else t ∷ ts) else []

-- `)`
abbrev pub closes : Solid → Bool
closes s = is_sign_of close_round s.kind

abbrev pub gap_of_first : List Solid → Gap
gap_of_first [] = gap.Nothing
gap_of_first (s ∷ ss) = s.gap

-- what is printed behind a token that is kept, before another or as the last
abbrev pub behind_kept : Solid → Option TokenKind → List ℕ
behind_kept s None = behind_last s
behind_kept s (Some next) = between s
