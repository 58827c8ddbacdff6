-- What is written for a term of a selector, and what is left then.
use Rattle.std.proofs.Common.{ℕ, zero, suc, ◌+◌, ◌-◌, ◌≤◌, ◌≡◌, length, arith, Bool, true, false, not, ◌&&◌, ◌||◌, cond, List, [], ◌∷◌, ◌++◌, map, drop, Option, Some, None, Result, Ok, refl, sym, ap, ap₂, ◌∙◌, append_assoc}
use Rattle.std.specs.Prelude.{MatchOption}
use Rattle.std.specs.List.{position_or_len}
use Rattle.std.proofs.lemmas.Bool.{false≢true}
use Rattle.std.proofs.lemmas.List.{length-drop}
use Rattle.css_model.specs.declared.position.AnB.{AnB}
use Rattle.css_model.specs.declared.reason.Reason.{Reason}
use Rattle.css_model.specs.declared.token.Gap.{Gap}
use Rattle.css_model.specs.declared.token.TokenKind.{TokenKind}
use Rattle.css_model.specs.declared.token.TokenKind.TheVariants as kind
use Rattle.css_model.specs.Lists.{less_one}
use Rattle.css_model.specs.Positions.Printed.{anb_text}
use Rattle.css_model.specs.Selectors.Arguments.{closes_round}
use Rattle.css_model.specs.Selectors.PseudoClasses.{first_position}
use Rattle.css_model.specs.Selectors.Terms.{Term, counted_gap, depth_behind, depth_behind_term, first_gap, first_kind, first_term, more_of_term, terms_from}
use Rattle.css_model.specs.Selectors.Tokens.{SelectorToken, is_function, selector_token}
use Rattle.css_model.specs.Sheets.PrintedSelector.{printed_argument, printed_from, printed_term}
use Rattle.css_model.specs.Text.Characters.{close_round, close_square, colon, open_square}
use Rattle.css_model.specs.Text.Kept.{Solid, gap_text, is_open}
use Rattle.css_model.specs.Text.Lexemes.{is_sign_of}
use Rattle.selector_laws.specs.Positions.{position_at, positions_written}
use Rattle.selector_text_laws.proofs.ForCallers.{bare_text, close_same, closed_text, drop_tokens, gap_shut, plain_term, position_term, tokens}
use Rattle.css_print.specs.declared.selector.Place.{Place}
use Rattle.css_print.specs.Putting.{IsAt, TermPut}
use Rattle.css_print.specs.Terms.{called_text, depth_after, is_end, is_position, word_text}
use Rattle.css_print.specs.Words.{closes, gap_of_first, kind_of_first}

-- ---- up to a `)`

-- a `)` at the front, and another token there
pub closing_here : (s : Solid) (ss : List Solid) → closes s ≡ true → position_or_len closes (s ∷ ss) ≡ 0
closing_here s ss is = ap (λ b. cond (not b) (1 + position_or_len closes ss) 0) is

pub closing_later : (s : Solid) (ss : List Solid) → closes s ≡ false → position_or_len closes (s ∷ ss) ≡ suc (position_or_len closes ss)
closing_later s ss is = ap (λ b. cond (not b) (1 + position_or_len closes ss) 0) is ∙ omega arith

-- ---- kinds and gaps of the first

first_is : (ss : List Solid) → first_kind (tokens ss) ≡ kind_of_first ss
first_is [] = refl
first_is (s ∷ ss) = refl

gap_is : (ss : List Solid) → first_gap (tokens ss) ≡ gap_of_first ss
gap_is [] = refl
gap_is (s ∷ ss) = refl

printed_drop : (depth left : ℕ) (ss : List Solid) → printed_from depth left ss ≡ printed_from depth 0 (drop left ss)
printed_drop depth zero ss = refl
printed_drop depth (suc left) [] = refl
printed_drop depth (suc left) (s ∷ ss) = printed_drop depth left ss

terms_drop : (depth left : ℕ) (xs : List SelectorToken) → terms_from depth left xs ≡ terms_from depth 0 (drop left xs)
terms_drop depth zero xs = refl
terms_drop depth (suc left) [] = refl
terms_drop depth (suc left) (x ∷ xs) = terms_drop depth left xs

-- ---- positions

ok_tail : (r : Result AnB Reason) (rest : List (Result AnB Reason)) (ps : List AnB) → r ∷ rest ≡ map Ok ps → rest ≡ map Ok (drop 1 ps)
ok_tail r rest [] e = absurd (let none : ⊥ = cc in none)
ok_tail r rest (p ∷ ps) e = (let tail : rest ≡ map Ok ps = cc in tail)

ok_head : (r : Result AnB Reason) (rest : List (Result AnB Reason)) (p : AnB) (ps : List AnB) → r ∷ rest ≡ map Ok (p ∷ ps) → (r ≡ Ok p) × (rest ≡ map Ok ps)
ok_head r rest p ps e = (let head : r ≡ Ok p = cc in head, let tail : rest ≡ map Ok ps = cc in tail)

depth_low : (k : TokenKind) (depth : ℕ) → depth_after k depth ≤ depth + 1
depth_low k depth = which (is_function k || is_sign_of open_square k) (is_sign_of close_square k || is_sign_of close_round k) depth
  where
    which : (a b : Bool) (depth : ℕ) → cond a (suc depth) (cond b (less_one depth) depth) ≤ depth + 1
    which true b depth = omega arith
    which false true zero = omega arith
    which false true (suc depth) = omega arith
    which false false depth = omega arith

-- ---- any token but a function of a position

pub plain_step : (more : List ℕ → Type 0) (old new : Place) (s : Solid) (ss : List Solid) (ps qs : List AnB) (text : List ℕ) → is_position s.kind s.bytes ≡ false → IsAt old (s ∷ ss) ps
    → new.depth ≡ depth_after s.kind old.depth → new.behind_colon ≡ is_sign_of colon s.kind → text ≡ word_text s new.depth (kind_of_first ss) → more text
    → qs ≡ cond (old.behind_colon && is_end s.kind s.bytes) (drop 1 ps) ps → TermPut more old (s ∷ ss) new ss qs
plain_step more old new s ss ps qs text e at depth colons spells put passed =
    let d = depth_behind old.depth (selector_token s) in
    let t = first_term old.depth (selector_token s) (tokens ss) in
    let there = plain_term old.depth (selector_token s) (tokens ss) e in
    let g = counted_gap d s.kind s.gap (first_kind (tokens ss)) in
    let term : printed_term s t ≡ s.bytes ++ gap_text s.bytes g = bare_text s t g (ap (λ t. t.argument) there.0) (ap (λ t. t.gap) there.0) in
    let word : text ≡ printed_term s t =
    spells ∙ ap (λ (n : ℕ). word_text s n (kind_of_first ss)) depth ∙ ap (λ k. s.bytes ++ gap_text s.bytes (counted_gap d s.kind s.gap k)) (sym (first_is ss)) ∙ sym term in
    let low = depth_low s.kind old.depth in
    let few = at.few in
    record {
      text = text;
      put = put;
      spells = ap (λ (n : ℕ). text ++ printed_from n 0 ss) depth ∙ ap (λ (w : List ℕ). w ++ printed_from d 0 ss) word
          ∙ ap (λ (w : List ℕ). printed_term s t ++ w) (sym (ap₂ (λ (n m : ℕ). printed_from n m ss) there.1 there.2));
      at = record {
        written = ap₂ (λ (b : Bool) (n : ℕ). positions_written b (terms_from n 0 (tokens ss))) colons depth
            ∙ sym (ap (λ ts. positions_written (is_sign_of colon s.kind) ts) (ap₂ (λ (n m : ℕ). terms_from n m (tokens ss)) there.1 there.2))
            ∙ left_over (old.behind_colon && is_end s.kind s.bytes) refl ∙ ap (λ (ps : List AnB). map Ok ps) (sym passed);
        few = omega (arith, depth, low, few);
      };
      shorter = omega arith;
    }
  where
    ts : List Term
    ts = terms_from (depth_behind_term old.depth (selector_token s)) (more_of_term (selector_token s) (tokens ss)) (tokens ss)

    says : position_at old.behind_colon (first_term old.depth (selector_token s) (tokens ss)) ≡ cond {A = List (Result AnB Reason)} (old.behind_colon && is_end s.kind s.bytes) (Ok first_position ∷ []) []
    says = ap (λ b. cond b ((first_term old.depth (selector_token s) (tokens ss)).argument ∷ []) (cond (old.behind_colon && is_end s.kind s.bytes) (Ok first_position ∷ []) [])) e

    left_over : (b : Bool) → (old.behind_colon && is_end s.kind s.bytes) ≡ b → positions_written (is_sign_of colon s.kind) ts ≡ map Ok (cond (old.behind_colon && is_end s.kind s.bytes) (drop 1 ps) ps)
    left_over true is =
        ok_tail (Ok first_position) (positions_written (is_sign_of colon s.kind) ts) ps
        (sym (ap (λ (rs : List (Result AnB Reason)). rs ++ positions_written (is_sign_of colon s.kind) ts) (says ∙ ap (λ b. cond {A = List (Result AnB Reason)} b (Ok first_position ∷ []) []) is)) ∙ at.written)
        ∙ ap (λ b. map Ok (cond b (drop 1 ps) ps)) (sym is)
    left_over false is =
        sym (ap (λ (rs : List (Result AnB Reason)). rs ++ positions_written (is_sign_of colon s.kind) ts) (says ∙ ap (λ b. cond {A = List (Result AnB Reason)} b (Ok first_position ∷ []) []) is)) ∙ at.written
        ∙ ap (λ b. map Ok (cond b (drop 1 ps) ps)) (sym is)

-- ---- a function of a position

-- its argument is the first position that is left
pub position_left : (old : Place) (s : Solid) (ss : List Solid) (ps : List AnB) → is_position s.kind s.bytes ≡ true → IsAt old (s ∷ ss) ps → (x : AnB) × (qs : List AnB) × (ps ≡ x ∷ qs)
position_left old s ss [] e at = absurd (no_ok at.written)
  where
    ts : List Term
    ts = terms_from (depth_behind_term old.depth (selector_token s)) (more_of_term (selector_token s) (tokens ss)) (tokens ss)

    no_ok : position_at old.behind_colon (first_term old.depth (selector_token s) (tokens ss)) ++ positions_written (is_sign_of colon s.kind) ts ≡ [] → ⊥
    no_ok w = absurd (let h : (first_term old.depth (selector_token s) (tokens ss)).argument ∷ positions_written (is_sign_of colon s.kind) ts ≡ [] =
        sym (ap (λ b. cond b ((first_term old.depth (selector_token s) (tokens ss)).argument ∷ []) (cond (old.behind_colon && is_end s.kind s.bytes) (Ok first_position ∷ []) []) ++ positions_written (is_sign_of colon s.kind) ts) e) ∙ w in
        let none : ⊥ = cc in none)
position_left old s ss (x ∷ qs) e at = (x, qs, refl)

called_kind : (k : TokenKind) (bytes : List ℕ) → is_position k bytes ≡ true → k ≡ kind.Function
called_kind kind.Function bytes e = refl
called_kind _ bytes e = absurd (false≢true e)

pub position_step : (more : List ℕ → Type 0) (old new : Place) (s : Solid) (ss rest : List Solid) (ps qs : List AnB) (x : AnB) (g : Gap) (text : List ℕ) → is_position s.kind s.bytes ≡ true → IsAt old (s ∷ ss) ps
    → ps ≡ x ∷ qs → rest ≡ drop (suc (position_or_len closes ss)) ss → g ≡ gap_of_first (drop (position_or_len closes ss) ss) → new.depth ≡ old.depth → new.behind_colon ≡ false
    → text ≡ called_text s (Some x) (counted_gap old.depth s.kind g (kind_of_first rest)) → more text → TermPut more old (s ∷ ss) new rest qs
position_step more old new s ss rest ps qs x g text e at are is_rest is_gap depth colons spells put =
    let j = position_or_len closes ss in
    let t = first_term old.depth (selector_token s) (tokens ss) in
    let there = position_term old.depth (selector_token s) (tokens ss) e in
    let closed_at : position_or_len closes_round (tokens ss) ≡ j = close_same ss in
    let next : first_kind (drop (suc j) (tokens ss)) ≡ kind_of_first rest = ap first_kind (drop_tokens (suc j) ss) ∙ first_is (drop (suc j) ss) ∙ ap kind_of_first (sym is_rest) in
    let behind : first_gap (drop j (tokens ss)) ≡ g = ap first_gap (drop_tokens j ss) ∙ gap_is (drop j ss) ∙ sym is_gap in
    let counted = counted_gap old.depth s.kind g (kind_of_first rest) in
    let gaps : t.gap ≡ counted =
    ap (λ t. t.gap) there.0 ∙ ap (λ (n : ℕ). counted_gap old.depth s.kind (first_gap (drop n (tokens ss))) (first_kind (drop (suc n) (tokens ss)))) closed_at
    ∙ ap₂ (λ (h : Gap) (k : Option TokenKind). counted_gap old.depth s.kind h k) behind next in
    let ts = terms_from (depth_behind_term old.depth (selector_token s)) (more_of_term (selector_token s) (tokens ss)) (tokens ss) in
    let heads = ok_head t.argument (positions_written (is_sign_of colon s.kind) ts) x qs
    (sym (ap (λ b. cond b (t.argument ∷ []) (cond (old.behind_colon && is_end s.kind s.bytes) (Ok first_position ∷ []) []) ++ positions_written (is_sign_of colon s.kind) ts) e) ∙ at.written ∙ ap (λ (ps : List AnB). map Ok ps) are) in
    let bytes = s.bytes ++ (anb_text x ++ close_round ∷ []) in
    let shut : is_open bytes ≡ false = ap is_open (sym (append_assoc s.bytes (anb_text x) (close_round ∷ []))) ∙ closed_text (s.bytes ++ anb_text x) 0 in
    let term : printed_term s t ≡ bytes ++ gap_text bytes counted = ap (λ r. (s.bytes ++ printed_argument r) ++ gap_text (s.bytes ++ printed_argument r) t.gap) heads.0 ∙ ap (λ g. bytes ++ gap_text bytes g) gaps in
    let word : text ≡ printed_term s t = spells ∙ ap (λ (w : List ℕ). bytes ++ w) (gap_shut (close_round ∷ []) bytes counted refl shut) ∙ sym term in
    let terms : ts ≡ terms_from old.depth 0 (tokens rest) =
    ap₂ (λ (n m : ℕ). terms_from n m (tokens ss)) there.1 (there.2 ∙ ap suc closed_at) ∙ terms_drop old.depth (suc j) (tokens ss) ∙ ap (terms_from old.depth 0) (drop_tokens (suc j) ss ∙ ap tokens (sym is_rest)) in
    let no_colon : is_sign_of colon s.kind ≡ false = ap (is_sign_of colon) (called_kind s.kind s.bytes e) in
    let few = at.few in
    let size : length rest ≡ length ss - suc j = ap length is_rest ∙ length-drop (suc j) ss in
    record {
      text = text;
      put = put;
      spells = ap (λ (n : ℕ). text ++ printed_from n 0 rest) depth ∙ ap (λ (w : List ℕ). w ++ printed_from old.depth 0 rest) word
          ∙ ap (λ (w : List ℕ). printed_term s t ++ w)
          (sym (ap₂ (λ (n m : ℕ). printed_from n m ss) there.1 (there.2 ∙ ap suc closed_at) ∙ printed_drop old.depth (suc j) ss ∙ ap (printed_from old.depth 0) (sym is_rest)));
      at = record {
        written = ap₂ (λ (b : Bool) (n : ℕ). positions_written b (terms_from n 0 (tokens rest))) colons depth ∙ ap (positions_written false) (sym terms)
            ∙ ap (λ b. positions_written b ts) (sym no_colon) ∙ heads.1;
        few = omega (arith, depth, few, size);
      };
      shorter = omega (arith, size);
    }

-- the first of positions that are left
pub next_is : (r : Option AnB) (old new : List AnB) → MatchOption r ((old ≡ []) × (new ≡ [])) (λ y. old ≡ y ∷ new) → (x : AnB) (qs : List AnB) → old ≡ x ∷ qs → (r ≡ Some x) × (new ≡ qs)
next_is None old new told x qs is = absurd (let none : x ∷ qs ≡ [] = sym is ∙ told.0 in let no : ⊥ = cc in no)
next_is (Some y) old new told x qs is =
    let same : y ∷ new ≡ x ∷ qs = sym told ∙ is in
    let head : y ≡ x = cc in
    let tail : new ≡ qs = cc in
    (ap (λ (z : AnB). Some z) head, tail)
