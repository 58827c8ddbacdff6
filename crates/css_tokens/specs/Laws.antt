-- What the parts and the tokens of a text say of the text as a whole.
use Rattle.std.specs.Prelude.{ℕ, ◌-◌, ◌<◌, ◌≤◌, ◌≡◌, ◌↔◌, ⊤, IsTrue, false, List, [], ◌∷◌, ◌++◌, Option, Some, None, Ok, length, slice_range, drop}
use Rattle.std.specs.List.{flat_map, AllByRecursion}
use Rattle.css_model.specs.declared.token.Token.{Token}
use Rattle.css_model.specs.declared.token.TokenFault.{TokenFault}
use Rattle.css_model.specs.declared.token.TokenFault.TheVariants as fault
use Rattle.css_model.specs.Text.Characters.{slash, star}
use Rattle.css_model.specs.Text.Runs.{run}
use Rattle.css_model.specs.Text.TokenAt.{part_at}
use Rattle.css_model.specs.Text.Units.{comment_unit}
use Rattle.css_model.specs.Text.Tokens.{parts, text_of, stream}

-- The parts of a text, joined, are its front, and the whole text where nothing is wrong with it.
abbrev pub PartsJoin : Type 0
PartsJoin = (text : List ℕ) → (rest : List ℕ) × (text ≡ text_of (parts text).parts ++ rest) × ((parts text).flaw ≡ None → rest ≡ [])

-- what stands between `/*` and `*/`: the first `*/` is behind it
abbrev pub IsInside : List ℕ → Type 0
IsInside inside = run comment_unit (inside ++ star ∷ slash ∷ []) ≡ length inside

abbrev pub comment_of : List ℕ → List ℕ
comment_of inside = slash ∷ star ∷ (inside ++ star ∷ slash ∷ [])

-- comments, one after another, and nothing else
pub record AreComments (text : List ℕ) : Type 0 where
  pub insides : List (List ℕ)
  pub are_inside : AllByRecursion IsInside insides
  pub reads : text ≡ flat_map comment_of insides

-- Tokens that go on from place `from` up to place `to`, in order. Each has a byte, comments alone stand
-- before it, and it tells whether there are any.
abbrev pub Cover : List ℕ → ℕ → List Token → ℕ → Type 0
Cover source from [] to = (from ≤ to) × AreComments (slice_range source from to)
Cover source from (t ∷ ts) to =
    (from ≤ t.span.start) × AreComments (slice_range source from t.span.start) × (IsTrue t.comment_before ↔ (from < t.span.start))
    × (t.span.start < t.span.«end») × Cover source t.span.«end» ts to

-- where a fault is, or this place where there is none
abbrev pub place_of : Option TokenFault → ℕ → ℕ
place_of None to = to
place_of (Some (fault.BadString at)) to = at
place_of (Some (fault.BadUrl at)) to = at
place_of (Some (fault.EndInside at)) to = at

-- the tokens of a source from a place on cover it, up to its fault or its end
abbrev pub TokensCover : Type 0
TokensCover = (source : List ℕ) (from : ℕ) → from ≤ length source
    → Cover source from (stream from (drop from source)).tokens (place_of (stream from (drop from source)).fault (length source))

-- a token is what is read at its place, and lies in the source
pub record StandsIn (source : List ℕ) (t : Token) : Type 0 where
  pub ordered : t.span.start < t.span.«end»
  pub inside : t.span.«end» ≤ length source
  pub reads : part_at (drop t.span.start source) ≡ Ok (Some t.kind, t.span.«end» - t.span.start)

-- The tokens from a place on stand in the source in order, and those from where one of them begins are that
-- one, which has no comment before it then, and those behind it.
abbrev pub Restarts : List ℕ → ℕ → List Token → Type 0
Restarts source from [] = ⊤
Restarts source from (t ∷ ts) =
    (from ≤ t.span.start) × StandsIn source t
    × ((stream t.span.start (drop t.span.start source)).tokens ≡ record { kind = t.kind; span = t.span; comment_before = false } ∷ ts)
    × Restarts source t.span.«end» ts

abbrev pub TokensRestart : Type 0
TokensRestart = (source : List ℕ) (from : ℕ) → from ≤ length source → Restarts source from (stream from (drop from source)).tokens
