-- The tokens of a piece, as they are walked.
use Rattle.std.proofs.Common.{ℕ, ◌≡◌, Bool, true, false, not, cond, List, [], ◌∷◌, ◌++◌, Option, Some, None, refl, sym, ap, ◌∙◌, append_assoc}
use Rattle.std.specs.Prelude.{nat_le, MatchOption}
use Rattle.std.specs.List.{AllByRecursion}
use Rattle.std.proofs.lemmas.Bool.{and_parts}
use Rattle.std.proofs.lemmas.List.{append-nil}
use Rattle.css_model.specs.declared.token.Gap.{Gap}
use Rattle.css_model.specs.declared.token.Token.{Token}
use Rattle.css_model.specs.Text.Kept.{Solid, between, behind_last, kept}
use Rattle.css_model.specs.Text.Lexemes.{is_white_kind, gap_of}
use Rattle.css_tokens.specs.Laws.{StandsIn, Restarts}
use Rattle.css_print.specs.Words.{behind_kept, cut, front, is_ahead, kind_of_first, past_white, solid_of, solids_to}

-- one more token of kept text
pub kept_more : (done : List ℕ) (s : Solid) (ss : List Solid) → (done ++ (s.bytes ++ behind_kept s (kind_of_first ss))) ++ kept ss ≡ done ++ kept (s ∷ ss)
kept_more done s [] = append-nil (done ++ (s.bytes ++ behind_last s))
kept_more done s (t ∷ ss) = append_assoc done (s.bytes ++ between s) (kept (t ∷ ss))

-- a token that is cut off is no part
pub cut_front : (place : ℕ) (o : Option Token) (ts : List Token) → past_white place (front (cut place o) ts) ≡ past_white place (front o ts)
cut_front place None ts = refl
cut_front place (Some t) ts = which (nat_le t.span.«end» place) refl
  where
    which : (b : Bool) → nat_le t.span.«end» place ≡ b → past_white place (front (cond b (Some t) None) ts) ≡ past_white place (t ∷ ts)
    which true e = refl
    which false e = sym (ap (λ b. cond b (cond (is_white_kind t.kind) (past_white place ts) (t ∷ ts)) []) e)

-- a token of the piece that is white space
pub white_passed : (place : ℕ) (t : Token) (o : Option Token) (old new : List Token) → cut place (Some t) ≡ Some t → is_white_kind t.kind ≡ true → front o new ≡ old
    → past_white place (front (cut place o) new) ≡ past_white place (t ∷ old)
white_passed place t o old new inside white e =
    cut_front place o new ∙ ap (past_white place) e ∙ sym (which (nat_le t.span.«end» place) refl inside)
  where
    which : (b : Bool) → nat_le t.span.«end» place ≡ b → cond b (Some t) None ≡ Some t → past_white place (t ∷ old) ≡ past_white place old
    which true is inside = rw (is, white) refl
    which false is inside = absurd (let none : ⊥ = cc in none)

-- a token of the piece that is none
pub solid_stays : (place : ℕ) (t : Token) (ts : List Token) → nat_le t.span.«end» place ≡ true → is_white_kind t.kind ≡ false → past_white place (t ∷ ts) ≡ t ∷ ts
solid_stays place t ts inside white = rw (inside, white) refl

pub cut_inside : (place : ℕ) (o : Option Token) (t : Token) → cut place o ≡ Some t → nat_le t.span.«end» place ≡ true
cut_inside place None t e = absurd (let none : ⊥ = cc in none)
cut_inside place (Some u) t e = which (nat_le u.span.«end» place) refl e
  where
    which : (b : Bool) → nat_le u.span.«end» place ≡ b → cond b (Some u) None ≡ Some t → nat_le t.span.«end» place ≡ true
    which true is e = (let same : u ≡ t = cc in ap (λ t. nat_le t.span.«end» place) (sym same) ∙ is)
    which false is e = absurd (let none : ⊥ = cc in none)

pub solids_past_white : (place : ℕ) (source : List ℕ) (ts : List Token) → solids_to place source (past_white place ts) ≡ solids_to place source ts
solids_past_white place source [] = refl
solids_past_white place source (t ∷ ts) = which (nat_le t.span.«end» place) refl (is_white_kind t.kind) refl (solids_past_white place source ts)
  where
    which : (b : Bool) → nat_le t.span.«end» place ≡ b → (w : Bool) → is_white_kind t.kind ≡ w → solids_to place source (past_white place ts) ≡ solids_to place source ts
        → solids_to place source (past_white place (t ∷ ts)) ≡ solids_to place source (t ∷ ts)
    which true is true white later = rw (is, white) later
    which true is false white later = rw (is, white) (rw (is, white) refl)
    which false is w white later = rw is refl

pub solids_first : (place : ℕ) (source : List ℕ) (t : Token) (ts : List Token) → is_ahead place (Some t) ≡ true → solids_to place source (t ∷ ts) ≡ solid_of source t ts ∷ solids_to place source ts
solids_first place source t ts ahead =
    let b = and_parts (nat_le t.span.«end» place) (not (is_white_kind t.kind)) ahead in
    let white : is_white_kind t.kind ≡ false = not_true (is_white_kind t.kind) b.1 in
    rw (b.0, white) refl
  where
    not_true : (b : Bool) → not b ≡ true → b ≡ false
    not_true true e = sym e
    not_true false e = refl

pub stand_all : (source : List ℕ) (from : ℕ) (ts : List Token) → Restarts source from ts → AllByRecursion (StandsIn source) ts
stand_all source from [] all = tt
stand_all source from (t ∷ ts) (low, stands, again, all) = (stands, stand_all source t.span.«end» ts all)

pub stand_past_white : (source : List ℕ) (place : ℕ) (ts : List Token) → AllByRecursion (StandsIn source) ts → AllByRecursion (StandsIn source) (past_white place ts)
stand_past_white source place [] all = tt
stand_past_white source place (t ∷ ts) (first, all) = which (nat_le t.span.«end» place) (is_white_kind t.kind) (stand_past_white source place ts all)
  where
    which : (b w : Bool) → AllByRecursion (StandsIn source) (past_white place ts) → AllByRecursion (StandsIn source) (cond b (cond w (past_white place ts) (t ∷ ts)) [])
    which true true later = later
    which true false later = (first, all)
    which false w later = tt

-- what stands before a token that was read ahead, or before the end
pub gap_seen : (next : Option Token) (gap : Gap) → MatchOption next (gap ≡ gap_of []) (λ (t : Token). (others : List Token) → gap ≡ gap_of (t ∷ others))
    → (others : List Token) → gap ≡ gap_of (front next others)
gap_seen None gap is others = is
gap_seen (Some t) gap is others = is others
