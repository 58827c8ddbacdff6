-- The printed text of a selector is no longer than its kept text.
use Rattle.std.proofs.Common.{◌≡◌, ℕ, zero, suc, ◌+◌, ◌≤◌, ◌⊎◌, inl, inr, Bool, true, false, cond, List, [], ◌∷◌, ◌++◌, Option, Some, length, refl, ap, arith, length-append}
use Rattle.std.specs.Prelude.{None}
use Rattle.std.specs.List.{position_or_len}
use Rattle.std.proofs.lemmas.Bool.{false≢true}
use Rattle.css_model.specs.declared.position.AnB.{AnB}
use Rattle.css_model.specs.declared.token.Gap.{Gap}
use Rattle.css_model.specs.declared.token.Gap.TheVariants as gap
use Rattle.css_model.specs.Text.Characters.{line_feed}
use Rattle.css_model.specs.Text.Kept.{Solid, between, behind_last, gap_text, is_lone, is_open, spelled}
use Rattle.css_model.specs.Selectors.Terms.{counted_gap, depth_behind}
use Rattle.css_model.specs.Selectors.Tokens.{selector_token}
use Rattle.css_model.specs.Positions.Printed.{anb_text}
use Rattle.selector_text_laws.proofs.Left.{SelectorsAreShort, argument_or_gap, left_gap, spelled_from}
use Rattle.selector_text_laws.specs.Back.{argument, is_closing, skipped, with_gap}
use Rattle.selector_text_laws.specs.Together.{together}
use Rattle.selector_text_laws.proofs.Arguments.{argument_is, front_size, gap_size}
use Rattle.selector_text_laws.proofs.Spelled.{counted_is}

-- a gap has its size between tokens
gap_there : (s : Solid) → gap_size s.gap ≤ length (between s)
gap_there s = which (is_lone s.kind) s.gap (is_open s.bytes) refl
  where
    which : (l : Bool) (g : Gap) (o : Bool) → is_open s.bytes ≡ o → gap_size g ≤ length (cond l (line_feed ∷ []) (gap_text s.bytes g))
    which true gap.Nothing o is = omega arith
    which true gap.Comments o is = omega arith
    which true gap.White o is = omega arith
    which false gap.Nothing o is = omega arith
    which false gap.Comments o is = omega arith
    which false gap.White true is = rw is (omega arith)
    which false gap.White false is = rw is (omega arith)

-- what is left of it is no longer
left_short : (depth : ℕ) (s t : Solid) → length (between (with_gap s (left_gap depth s t))) ≤ length (between s)
left_short depth s t = which (together s.kind s.bytes t.kind t.bytes) (counted_is depth s.kind s.gap t.kind) (is_lone s.kind)
  where
    none : (l : Bool) → length (cond l (line_feed ∷ []) []) ≤ length (cond l (line_feed ∷ []) (gap_text s.bytes s.gap))
    none true = omega arith
    none false = omega arith

    which : (b : Bool) → (counted_gap depth s.kind s.gap (Some t.kind) ≡ s.gap) ⊎ (counted_gap depth s.kind s.gap (Some t.kind) ≡ gap.Nothing) → (l : Bool)
        → length (cond l (line_feed ∷ []) (gap_text s.bytes (cond b (counted_gap depth s.kind s.gap (Some t.kind)) s.gap))) ≤ length (cond l (line_feed ∷ []) (gap_text s.bytes s.gap))
    which false counted l = omega arith
    which true (inl same) l = (let e : length (cond l (line_feed ∷ []) (gap_text s.bytes (counted_gap depth s.kind s.gap (Some t.kind)))) ≡ length (cond l (line_feed ∷ []) (gap_text s.bytes s.gap)) = ap (λ (g : Gap). length (cond l (line_feed ∷ []) (gap_text s.bytes g))) same in omega (arith, e))
    which true (inr nothing) l =
        (let e : length (cond l (line_feed ∷ []) (gap_text s.bytes (counted_gap depth s.kind s.gap (Some t.kind)))) ≡ length (cond l (line_feed ∷ []) []) = ap (λ (g : Gap). length (cond l (line_feed ∷ []) (gap_text s.bytes g))) nothing in
        let h = none l in omega (arith, e, h))

three : (a b c : List ℕ) → length (a ++ b ++ c) ≡ length a + (length b + length c)
three a b c =
    let h = length-append (a ++ b) c in
    let i = length-append a b in
    omega (arith, h, i)

abbrev Short : List Solid → Type 0
Short ss = (depth left : ℕ) → front_size left ss + length (spelled_from depth left ss) ≤ length (spelled behind_last ss)

here_short : (depth : ℕ) (s : Solid) (ss : List Solid) → Short ss → (o : Option AnB) → argument s ss ≡ o
    → length (s.bytes ++ argument_or_gap o depth s ss ++ spelled_from depth (skipped o ss) ss) ≤ length (spelled behind_last (s ∷ ss))
here_short depth s [] later None e =
    let h = three s.bytes (behind_last s) [] in
    let i = length-append s.bytes (behind_last s) in
    omega (arith, h, i)
here_short depth s (t ∷ ts) later None e =
    let h = three s.bytes (between (with_gap s (left_gap depth s t))) (spelled_from depth 0 (t ∷ ts)) in
    let i = three s.bytes (between s) (spelled behind_last (t ∷ ts)) in
    let l : 0 + length (spelled_from depth 0 (t ∷ ts)) ≤ length (spelled behind_last (t ∷ ts)) = later depth 0 in
    omega (arith, h, i, l, left_short depth s t)
here_short depth s [] later (Some x) e = absurd (false≢true (argument_is s [] x e).closed)
here_short depth s (t ∷ ts) later (Some x) e =
    let j = position_or_len is_closing (t ∷ ts) in
    let a = (argument_is s (t ∷ ts) x e).short in
    let h = three s.bytes (anb_text x) (spelled_from depth j (t ∷ ts)) in
    let i = three s.bytes (between s) (spelled behind_last (t ∷ ts)) in
    let l = later depth j in
    omega (arith, a, h, i, l, gap_there s)

short : (ss : List Solid) → Short ss
short [] depth left = omega arith
short (s ∷ ss) depth zero =
    let h = here_short (depth_behind depth (selector_token s)) s ss (short ss) (argument s ss) refl in
    omega (arith, h)
short (s ∷ []) depth (suc left) =
    let i = length-append s.bytes (behind_last s) in
    omega (arith, i)
short (s ∷ t ∷ ts) depth (suc left) =
    let i = three s.bytes (between s) (spelled behind_last (t ∷ ts)) in
    let l = short (t ∷ ts) depth left in
    omega (arith, i, l, gap_there s)

pub selectors_are_short : SelectorsAreShort
selectors_are_short ss =
    let h = short ss 0 0 in
    omega (arith, h)
