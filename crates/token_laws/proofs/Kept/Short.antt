-- Kept text is never longer than the text that it is made of.
use Rattle.std.proofs.Common.{ℕ, zero, suc, ◌+◌, ◌<◌, ◌≤◌, ◌≡◌, inl, inr, Bool, true, false, cond, ◌&&◌, List, [], ◌∷◌, ◌++◌, Some, Ok, length, take, refl, ap, ◌∙◌, subst, arith}
use Rattle.std.proofs.lemmas.Bool.{false≢true}
use Rattle.std.proofs.lemmas.List.{length-append}
use Rattle.css_model.specs.declared.token.Gap.{Gap}
use Rattle.css_model.specs.declared.token.Gap.TheVariants as gap
use Rattle.css_model.specs.declared.token.TokenKind.{TokenKind}
use Rattle.css_model.specs.Text.Characters.{space, line_feed, is_white, first_passes}
use Rattle.css_model.specs.Text.Kept.{Solid, is_lone, is_open, is_white_gap, gap_text, between, spelled}
use Rattle.css_model.specs.Text.Units.{white_unit}
use Rattle.css_model.specs.Text.TokenAt.{part_at}
use Rattle.css_model.specs.Text.Tokens.{Part, text_of}
use Rattle.css_tokens.specs.Lexed.{IsLexed}
use Rattle.token_laws.specs.Solids.{gap_before, solids, solids_of, KeptIsShort}
use Rattle.token_laws.proofs.Spaces.Behind.{open_apart}
use Rattle.token_laws.proofs.Kept.Parts.{behind}
use Rattle.token_laws.proofs.Kept.Rows.{IsToken}
use Rattle.token_laws.proofs.Kept.Back.{rest_of}
use Rattle.token_laws.proofs.Parts.Facts.{PartIs, part_is, gap_bytes, from_solid, gap_cut}
use Rattle.token_laws.proofs.Parts.Solids.{lone_gap}

-- white space right behind an open token would belong to it
open_no_white : (k : TokenKind) (v : List ℕ) (ps : List Part) → IsToken k v ps → is_lone k ≡ false → is_open v ≡ true → 0 < white_unit (text_of ps) → ⊥
open_no_white k v ps is other open_end white =
    open_apart v (text_of ps) k (record { no_white = is.solid; no_lone = other; read = is.here }) open_end (λ _. white)

white_some : (text : List ℕ) → first_passes is_white text ≡ true → 0 < white_unit text
white_some [] white = absurd (false≢true white)
white_some (c ∷ cs) white = rw white (some _)
  where
    some : (b : Bool) → 0 < cond b 2 1
    some true = omega arith
    some false = omega arith

-- how many bytes stand in a gap
pub record GapSize (ps : List Part) : Type 0 where
  pub comments : gap_before false ps ≡ gap.Comments → 4 ≤ length (gap_bytes ps)
  pub white : gap_before false ps ≡ gap.White → 1 ≤ length (gap_bytes ps)
  pub wide : gap_before false ps ≡ gap.White → (0 < white_unit (text_of ps) → ⊥) → 2 ≤ length (gap_bytes ps)

gap_size : (ps : List Part) → IsLexed ps → GapSize ps
gap_size [] is = record { comments = λ is. absurd (cc); white = λ is. absurd (cc); wide = λ is _. absurd (cc) }
gap_size (p ∷ ps) (here, is) = which (part_is p.kind p.bytes (text_of ps) here)
  where
    long : length (p.bytes ++ gap_bytes ps) ≡ length p.bytes + length (gap_bytes ps)
    long = length-append p.bytes (gap_bytes ps)

    some : (v rest : List ℕ) → first_passes is_white v ≡ true → (1 ≤ length v) × (0 < white_unit (v ++ rest))
    some [] rest white = absurd (false≢true white)
    some (c ∷ cs) rest white = (omega arith, white_some (c ∷ cs ++ rest) white)

    no_comments : gap.White ≡ gap.Comments → ⊥
    no_comments is = cc

    nothing_comments : gap.Nothing ≡ gap.Comments → ⊥
    nothing_comments is = cc

    nothing_white : gap.Nothing ≡ gap.White → ⊥
    nothing_white is = cc

    which : PartIs p.kind p.bytes (text_of ps) → GapSize (p ∷ ps)
    which (inl white) =
        let one = some p.bytes (text_of ps) white.first in
        record {
          comments = λ is. absurd (no_comments (rw white.kind at is));
          white = λ _. rw white.kind (omega (arith, long, one.0));
          wide = λ _ none. absurd (none one.1);
        }
    which (inr (inl comment)) = record {
      comments = λ _. rw comment.kind (omega (arith, long, comment.len));
      white = λ _. rw comment.kind (omega (arith, long, comment.len));
      wide = λ _ _. rw comment.kind (omega (arith, long, comment.len));
    }
    which (inr (inr solid)) = record {
      comments = λ is. absurd (nothing_comments (rw (solid.kind, solid.solid) at is));
      white = λ is. absurd (nothing_white (rw (solid.kind, solid.solid) at is));
      wide = λ is _. absurd (nothing_white (rw (solid.kind, solid.solid) at is));
    }

-- what is printed behind a token is no longer than what stood there
between_short : (k : TokenKind) (v : List ℕ) (ps : List Part) → IsToken k v ps
    → length (between (record { kind = k; bytes = v; gap = gap_before false ps })) ≤ length (gap_bytes ps)
between_short k v ps is = which (is_lone k) refl (gap_before false ps) refl (is_open v) refl
  where
    size : GapSize ps
    size = gap_size ps is.later

    which : (l : Bool) → is_lone k ≡ l → (g : Gap) → gap_before false ps ≡ g → (o : Bool) → is_open v ≡ o → length (cond l (line_feed ∷ []) (gap_text v g)) ≤ length (gap_bytes ps)
    which true lone g behind o is_o = size.white (lone_gap k v ps (is.lone lone) is.here is.later)
    which false lone gap.Nothing behind o is_o = omega arith
    which false lone gap.Comments behind o is_o = size.comments behind
    which false lone gap.White behind false is_o = rw is_o (size.white behind)
    which false lone gap.White behind true is_o = rw is_o (size.wide behind (open_no_white k v ps is lone is_o))

last_short : (value : Bool) (k : TokenKind) (v : List ℕ) (ps : List Part) → IsToken k v ps
    → length (behind value (record { kind = k; bytes = v; gap = gap_before false ps })) ≤ length (gap_bytes ps)
last_short value k v ps is = which value (is_lone k) refl (gap_before false ps) refl (is_open v)
  where
    size : GapSize ps
    size = gap_size ps is.later

    alone : is_lone k ≡ true → 1 ≤ length (gap_bytes ps)
    alone lone = size.white (lone_gap k v ps (is.lone lone) is.here is.later)

    which : (value l : Bool) → is_lone k ≡ l → (g : Gap) → gap_before false ps ≡ g → (o : Bool)
        → length (cond value (cond l (line_feed ∷ []) (cond (is_white_gap g && o) (space ∷ []) [])) (cond l (line_feed ∷ []) [])) ≤ length (gap_bytes ps)
    which true true lone g behind o = alone lone
    which false true lone g behind o = alone lone
    which false false lone g behind o = omega arith
    which true false lone gap.White behind true = size.white behind
    which true false lone gap.White behind false = omega arith
    which true false lone gap.Nothing behind o = omega arith
    which true false lone gap.Comments behind o = omega arith

-- the text of n tokens of parts, and the bytes from the first of them on
abbrev Short : Bool → List Part → Type 0
Short value ps = (n : ℕ) → length (spelled (behind value) (take n (solids ps))) ≤ length (from_solid ps)

solid_short : (value : Bool) (k : TokenKind) (v : List ℕ) (ps : List Part) → IsToken k v ps → Short value ps → (n : ℕ)
    → length (spelled (behind value) (take n (record { kind = k; bytes = v; gap = gap_before false ps } ∷ solids ps))) ≤ length (v ++ text_of ps)
solid_short value k v ps is later zero = omega arith
solid_short value k v ps is later (suc m) = which (take m (solids ps)) refl
  where
    s : Solid
    s = record { kind = k; bytes = v; gap = gap_before false ps }

    whole : length (v ++ text_of ps) ≡ length v + (length (gap_bytes ps) + length (from_solid ps))
    whole = length-append v (text_of ps) ∙ ap (λ (n : ℕ). length v + n) (ap length (gap_cut ps) ∙ length-append (gap_bytes ps) (from_solid ps))

    which : (ss : List Solid) → take m (solids ps) ≡ ss
        → length (spelled (behind value) (record { kind = k; bytes = v; gap = gap_before false ps } ∷ take m (solids ps))) ≤ length (v ++ text_of ps)
    which [] none =
        let here : length (v ++ behind value s) ≤ length (v ++ text_of ps) = omega (arith, whole, length-append v (behind value s), last_short value k v ps is) in
        rw none here
    which (u ∷ us) next =
        let rest = spelled (behind value) (u ∷ us) in
        let short : length rest ≤ length (from_solid ps) = rw next at (later m) in
        let long = length-append (v ++ between s) rest in
        let here : length ((v ++ between s) ++ rest) ≤ length (v ++ text_of ps) = omega (arith, whole, long, length-append v (between s), short, between_short k v ps is) in
        rw next here

short : (value : Bool) (ps : List Part) → IsLexed ps → Short value ps
short value [] is zero = omega arith
short value [] is (suc n) = omega arith
short value (p ∷ ps) (here, is) n = which (part_is p.kind p.bytes (text_of ps) here) (short value ps is)
  where
    which : PartIs p.kind p.bytes (text_of ps) → Short value ps → length (spelled (behind value) (take n (solids (p ∷ ps)))) ≤ length (from_solid (p ∷ ps))
    which (inl white) later = rw white.kind (later n)
    which (inr (inl comment)) later = rw comment.kind (later n)
    which (inr (inr solid)) later =
        let read : part_at (p.bytes ++ text_of ps) ≡ Ok (Some solid.token, length p.bytes) = rw solid.kind at here in
        let token : IsToken solid.token p.bytes ps = record { here = read; later = is; solid = solid.solid; some = solid.some; first = solid.first; lone = solid.lone } in
        rw (solid.kind, solid.solid) (solid_short value solid.token p.bytes ps token later n)

pub kept_short : KeptIsShort
kept_short ps m n is =
    let from = rest_of m ps is in
    let all : (value : Bool) → length (spelled (behind value) (solids_of ps m n)) ≤ length (from_solid from.parts) =
    λ value. subst (λ (ss : List Solid). length (spelled (behind value) (take n ss)) ≤ length (from_solid from.parts)) from.same (short value from.parts from.lexed n) in
    let cut = ap length (gap_cut from.parts) ∙ length-append (gap_bytes from.parts) (from_solid from.parts) in
    (omega (arith, all false, cut, from.short), omega (arith, all true, cut, from.short))
