-- The parts of a text join to it, and its tokens cover it.
use Rattle.std.proofs.Common.{ℕ, zero, suc, ◌+◌, ◌-◌, ◌<◌, ◌≤◌, ◌≡◌, ◌↔◌, ◌⊎◌, inl, inr, Bool, true, false, IsTrue, List, [], ◌∷◌, ◌++◌, Result, Option, Ok, Err, Some, None, length, drop, take, refl, sym, ap, ◌∙◌, subst, arith, append_assoc}
use Rattle.std.specs.List.{AllByRecursion, flat_map, slice_range}
use Rattle.std.proofs.lemmas.Bool.{false≢true, cases_lt}
use Rattle.std.proofs.lemmas.Grind.{flat_map-append}
use Rattle.std.proofs.lemmas.List.{append-nil, length-drop, take-append-drop}
use Rattle.css_model.specs.declared.token.TokenFlaw.{TokenFlaw}
use Rattle.css_model.specs.declared.token.TokenFlaw.TheVariants as flaw
use Rattle.css_model.specs.Text.TokenAt.{Shape, part_at}
use Rattle.css_model.specs.Text.Tokens.{Parts, Stream, parts, text_of, part_then, stream_of, fault_at}
use Rattle.list_facts.proofs.SliceRange.{slice_range_parts, slice_range_none}
use Rattle.css_tokens.specs.Laws.{PartsJoin, IsInside, comment_of, AreComments, Cover, place_of, TokensCover}
use Rattle.css_tokens.proofs.CommentParts.{part_comment}
use Rattle.css_tokens.proofs.PartLemmas.{part_len}
use Rattle.css_tokens.proofs.StreamLemmas.{parts_part, parts_flaw, token_before, next_comment, next_token, next_flaw, next_end}

-- what is left of a text behind parts
record Joined (text : List ℕ) (p : Parts) : Type 0 where
  left : List ℕ
  whole : text ≡ text_of p.parts ++ left
  clean : p.flaw ≡ None → left ≡ []

joined : (n : ℕ) (text : List ℕ) → length text ≤ n → Joined text (parts text)
joined n [] short = record { left = []; whole = refl; clean = λ _. refl }
joined zero (c ∷ cs) short = absurd (omega arith)
joined (suc n) (c ∷ cs) short = which (part_at (c ∷ cs)) refl (λ (text : List ℕ) (short : length text ≤ n). joined n text short)
  where
    which : (r : Result Shape TokenFlaw) → part_at (c ∷ cs) ≡ r → ((text : List ℕ) → length text ≤ n → Joined text (parts text)) → Joined (c ∷ cs) (parts (c ∷ cs))
    which (Err f) is later =
        let J : Parts → Type 0 = Joined (c ∷ cs) in
        let here : J (record { parts = []; flaw = Some f }) = record {
          left = c ∷ cs;
          whole = refl;
          clean = λ (none : ◌≡◌ {A = Option TokenFlaw} (Some f) None). absurd (cc);
        } in
        subst J (sym (parts_flaw (c ∷ cs) f (omega arith) is)) here
    which (Ok (k, m)) is later =
        let text = c ∷ cs in
        let J : Parts → Type 0 = Joined text in
        let len = part_len text (k, m) is in
        let rest = later (drop m text) (omega (arith, len.0, length-drop m text)) in
        let here : J (part_then (Ok (k, m)) text (parts (drop m text))) = record {
          left = rest.left;
          whole = sym (take-append-drop m text) ∙ ap (λ (cs : List ℕ). take m text ++ cs) rest.whole ∙ sym (append_assoc (take m text) (text_of (parts (drop m text)).parts) rest.left);
          clean = rest.clean;
        } in
        subst J (sym (parts_part text k m is len.0 len.1)) here

pub parts_join : PartsJoin
parts_join text = let all = joined (length text) text (omega arith) in (all.left, all.whole, all.clean)

-- one more comment
all_push : (insides : List (List ℕ)) (inside : List ℕ) → AllByRecursion IsInside insides → IsInside inside → AllByRecursion IsInside (insides ++ inside ∷ [])
all_push [] inside all is = (is, tt)
all_push (x ∷ xs) inside (first, all) is = (first, all_push xs inside all is)

more_comments : (text more : List ℕ) (inside : List ℕ) → AreComments text → IsInside inside → more ≡ comment_of inside → AreComments (text ++ more)
more_comments text more inside before is reads = record {
  insides = before.insides ++ inside ∷ [];
  are_inside = all_push before.insides inside before.are_inside is;
  reads = ap (λ (cs : List ℕ). cs ++ more) before.reads ∙ ap (λ (cs : List ℕ). flat_map comment_of before.insides ++ cs) (reads ∙ sym (append-nil (comment_of inside)))
      ∙ sym (flat_map-append comment_of before.insides (inside ∷ []));
}

no_comments : (source : List ℕ) (at : ℕ) → AreComments (slice_range source at at)
no_comments source at = record { insides = []; are_inside = tt; reads = slice_range_none source at }

-- the tokens behind comments that stand from place `from` up to `at`
record Covered (source : List ℕ) (from : ℕ) (s : Stream) : Type 0 where
  cover : Cover source from s.tokens (place_of s.fault (length source))

record Gap (source : List ℕ) (from at : ℕ) (comment : Bool) : Type 0 where
  low : from ≤ at
  inside : at ≤ length source
  comments : AreComments (slice_range source from at)
  told : IsTrue comment ↔ (from < at)

place_of-fault_at : (at : ℕ) (f : TokenFlaw) (to : ℕ) → place_of (Some (fault_at at f)) to ≡ at
place_of-fault_at at flaw.BadString to = refl
place_of-fault_at at flaw.BadUrl to = refl
place_of-fault_at at flaw.EndInside to = refl

covered_end : (source : List ℕ) (from at : ℕ) (comment : Bool) → Gap source from at comment → length source ≤ at → Covered source from (stream_of at comment (parts (drop at source)))
covered_end source from at comment gap past =
    let C : Stream → Type 0 = Covered source from in
    let whole : at ≡ length source = omega (arith, gap.inside) in
    let A : ℕ → Type 0 = λ (to : ℕ). AreComments (slice_range source from to) in
    let here : C (record { tokens = []; fault = None }) = record { cover = (omega (arith, gap.low, gap.inside), subst A whole gap.comments) } in
    subst C (sym (next_end source at comment past)) here

covered_flaw : (source : List ℕ) (from at : ℕ) (comment : Bool) (f : TokenFlaw) → Gap source from at comment → at < length source → part_at (drop at source) ≡ Err f
    → Covered source from (stream_of at comment (parts (drop at source)))
covered_flaw source from at comment f gap below is =
    let C : Stream → Type 0 = Covered source from in
    let place = sym (place_of-fault_at at f (length source)) in
    let E : ℕ → Type 0 = λ (to : ℕ). Cover source from [] to in
    let here : C (record { tokens = []; fault = Some (fault_at at f) }) = record { cover = subst E place (gap.low, gap.comments) } in
    subst C (sym (next_flaw source at comment f below is)) here

comment_gap : (source : List ℕ) (from at n : ℕ) (comment : Bool) → Gap source from at comment → part_at (drop at source) ≡ Ok (None, n) → Gap source from (at + n) true
comment_gap source from at n comment gap is =
    let len = part_len (drop at source) (None, n) is in
    let here = part_comment (drop at source) n is in
    let size : at + n - at ≡ n = omega arith in
    let piece : slice_range source at (at + n) ≡ comment_of here.inside = ap (λ (m : ℕ). take m (drop at source)) size ∙ here.reads in
    let A : List ℕ → Type 0 = AreComments in
    record {
      low = omega (arith, gap.low);
      inside = omega (arith, len.1, gap.inside, length-drop at source);
      comments = subst A (sym (slice_range_parts source from at (at + n) gap.low (omega arith))) (more_comments (slice_range source from at) (slice_range source at (at + n)) here.inside gap.comments here.is_inside piece);
      told = (λ _. omega (arith, len.0, gap.low), λ _. refl);
    }

token_gap : (source : List ℕ) (at n : ℕ) → n ≤ length source - at → at ≤ length source → Gap source (at + n) (at + n) false
token_gap source at n short inside = record {
  low = omega arith;
  inside = omega arith;
  comments = no_comments source (at + n);
  told = (λ (wrong : false ≡ true). absurd (false≢true wrong), λ (wrong : at + n < at + n). absurd (omega arith));
}

covered : (n : ℕ) (source : List ℕ) (from at : ℕ) (comment : Bool) → length source - at ≤ n → Gap source from at comment → Covered source from (stream_of at comment (parts (drop at source)))
covered zero source from at comment short gap = covered_end source from at comment gap (omega arith)
covered (suc n) source from at comment short gap =
    which (part_at (drop at source)) refl
    (λ (from at : ℕ) (comment : Bool) (short : length source - at ≤ n) (gap : Gap source from at comment). covered n source from at comment short gap)
    (cases_lt at (length source))
  where
    which : (r : Result Shape TokenFlaw) → part_at (drop at source) ≡ r
        → ((from at : ℕ) (comment : Bool) → length source - at ≤ n → Gap source from at comment → Covered source from (stream_of at comment (parts (drop at source))))
        → (at < length source) ⊎ (length source ≤ at) → Covered source from (stream_of at comment (parts (drop at source)))
    which r is later (inr past) = covered_end source from at comment gap past
    which (Err f) is later (inl below) = covered_flaw source from at comment f gap below is
    which (Ok (None, m)) is later (inl below) =
        let C : Stream → Type 0 = Covered source from in
        let len = part_len (drop at source) (None, m) is in
        subst C (sym (next_comment source at m comment is)) (later from (at + m) true (omega (arith, len.0)) (comment_gap source from at m comment gap is))
    which (Ok (Some k, m)) is later (inl below) =
        let C : Stream → Type 0 = Covered source from in
        let len = part_len (drop at source) (Some k, m) is in
        let rest = later (at + m) (at + m) false (omega (arith, len.0)) (token_gap source at m (omega (arith, len.1, length-drop at source)) gap.inside) in
        let here : C (token_before (record { kind = k; span = record { start = at; «end» = at + m }; comment_before = comment }) (stream_of (at + m) false (parts (drop (at + m) source)))) =
        record { cover = (gap.low, gap.comments, gap.told, omega (arith, len.0), rest.cover) } in
        subst C (sym (next_token source at m comment k is)) here

pub tokens_cover : TokensCover
tokens_cover source from inside =
    let gap : Gap source from from false = record {
      low = omega arith;
      inside = inside;
      comments = no_comments source from;
      told = (λ (wrong : false ≡ true). absurd (false≢true wrong), λ (wrong : from < from). absurd (omega arith));
    } in
    (covered (length source) source from from false (omega arith) gap).cover
