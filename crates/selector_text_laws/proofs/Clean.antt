-- In a selector that is read nothing is left of gaps but what counts.
use Rattle.std.proofs.Common.{◌≡◌, ◌⊎◌, inl, inr, ℕ, zero, suc, ◌==◌, Bool, true, false, ◌&&◌, ◌||◌, cond, List, [], ◌∷◌, ◌++◌, length, drop, Option, Some, None, Ok, Err, refl, sym, ap, ap₂, ◌∙◌, subst, append_assoc, codes}
use Rattle.std.specs.List.{AllByRecursion, position_or_len}
use Rattle.std.specs.Char.{is_ascii_hexdigit}
use Rattle.std.proofs.lemmas.Bool.{eqb-true, false≢true, true≢false}
use Rattle.css_model.specs.declared.position.AnB.{AnB}
use Rattle.css_model.specs.declared.token.Gap.{Gap}
use Rattle.css_model.specs.declared.token.Gap.TheVariants as gap
use Rattle.css_model.specs.declared.token.TokenKind.{TokenKind}
use Rattle.css_model.specs.declared.token.TokenKind.TheVariants as kind
use Rattle.css_model.specs.declared.reason.Reason.TheVariants.{NotAllowed}
use Rattle.css_model.specs.Lists.{less_one}
use Rattle.css_model.specs.Positions.Printed.{anb_text}
use Rattle.css_model.specs.Selectors.Arguments.{argument_of}
use Rattle.css_model.specs.Selectors.Terms.{Term, counted_gap, depth_behind, first_gap, first_kind, first_term, terms_from}
use Rattle.css_model.specs.Selectors.Arguments.{closes_round, is_position_function}
use Rattle.css_model.specs.Selectors.Tokens.{SelectorToken, is_function, is_word, selector_token}
use Rattle.css_model.specs.Sheets.PrintedSelector.{printed_argument, printed_from, printed_term}
use Rattle.css_model.specs.Text.Characters.{backslash, close_round, close_square, line_feed, open_square}
use Rattle.css_model.specs.Text.Kept.{Solid, between, gap_text, is_lone, is_open, is_open_escape, is_open_from, is_open_hex, is_white_gap}
use Rattle.css_model.specs.Text.Lexemes.{is_sign_of}
use Rattle.css_model.specs.Text.TokenAt.{part_at}
use Rattle.css_model.specs.Text.Units.{escape_after}
use Rattle.token_laws.specs.Solids.{closed}
use Rattle.token_laws.proofs.ForCallers.{sign-text}
use Rattle.selector_text_laws.specs.Back.{back_from, back_of, back_with}
use Rattle.selector_text_laws.proofs.Terms.{AreBeside, Fits, has_argument}
use Rattle.selector_text_laws.specs.Back.{argument, if_read, is_closing, own_tokens, skipped, with_gap}
use Rattle.selector_text_laws.proofs.Left.{argument_or_gap, behind_text, left_from, left_gap, left_of, left_with, spelled_from}
use Rattle.selector_text_laws.specs.Together.{together}
use Rattle.selector_text_laws.proofs.Arguments.{argument_is, close_same}
use Rattle.selector_text_laws.proofs.Back.{back_position, bare_text, drop_next, drop_tokens, fits_argument, plain_term, position_term, sign_is, term_of, tokens}
use Rattle.selector_text_laws.proofs.Beside.{IsReadToken, together_of}
use Rattle.selector_text_laws.proofs.Spelled.{ClosingAt, closing_at, counted_is}

-- ---- what is left of a gap

left_is : (depth : ℕ) (s u : Solid) → (is_white_gap (counted_gap depth s.kind s.gap (Some u.kind)) ≡ false → together s.kind s.bytes u.kind u.bytes ≡ true) → left_gap depth s u ≡ counted_gap depth s.kind s.gap (Some u.kind)
left_is depth s u meets = which (together s.kind s.bytes u.kind u.bytes) refl (counted_is depth s.kind s.gap u.kind)
  where
    g : Gap
    g = counted_gap depth s.kind s.gap (Some u.kind)

    which : (b : Bool) → together s.kind s.bytes u.kind u.bytes ≡ b → (counted_gap depth s.kind s.gap (Some u.kind) ≡ s.gap) ⊎ (counted_gap depth s.kind s.gap (Some u.kind) ≡ gap.Nothing)
        → cond (together s.kind s.bytes u.kind u.bytes) (counted_gap depth s.kind s.gap (Some u.kind)) s.gap ≡ counted_gap depth s.kind s.gap (Some u.kind)
    which true e counted = ap (λ b. cond b (counted_gap depth s.kind s.gap (Some u.kind)) s.gap) e
    which false e (inl same) = ap (λ b. cond b (counted_gap depth s.kind s.gap (Some u.kind)) s.gap) e ∙ sym same
    which false e (inr none) = absurd (true≢false (sym (meets (ap is_white_gap none)) ∙ e))

record IsClean (depth left : ℕ) (ss : List Solid) : Type 0 where
  text : spelled_from depth left ss ≡ printed_from depth left ss
  tokens : left_from depth left ss ≡ back_from depth left ss

-- a token that is no backslash
between_is : (s : Solid) (g : Gap) → is_lone s.kind ≡ false → between (with_gap s g) ≡ gap_text s.bytes g
between_is s g lone = ap (λ b. cond b (line_feed ∷ []) (gap_text s.bytes g)) lone

-- behind a token nothing is left but what counts
record LeavesCounted (depth : ℕ) (s : Solid) (ss : List Solid) : Type 0 where
  text : behind_text depth s ss ≡ gap_text s.bytes (counted_gap depth s.kind s.gap (first_kind (tokens ss)))
  token : left_of depth s ss ≡ back_of depth s ss

leaves : (depth : ℕ) (s : Solid) (ss : List Solid) → is_lone s.kind ≡ false
    → ((u : Solid) → first_kind (tokens ss) ≡ Some u.kind → (us : List Solid) → ss ≡ u ∷ us → is_white_gap (counted_gap depth s.kind s.gap (Some u.kind)) ≡ false → together s.kind s.bytes u.kind u.bytes ≡ true) → LeavesCounted depth s ss
leaves depth s [] lone meets = record {
  text = ap (λ b. cond b (line_feed ∷ []) []) lone;
  token = ap (λ b. let t : Solid = record { kind = s.kind; bytes = s.bytes; gap = cond b gap.White gap.Nothing } in t) lone;
}
leaves depth s (u ∷ us) lone meets =
    let is = left_is depth s u (meets u refl us refl) in
    record {
      text = between_is s (left_gap depth s u) lone ∙ ap (gap_text s.bytes) is;
      token = ap (λ g. closed (with_gap s g)) is;
    }

-- ---- one token that is no function of a position

three : (a b c : List ℕ) → a ++ b ++ c ≡ (a ++ b) ++ c
three a b c = refl

plain_clean : (depth : ℕ) (s : Solid) (ss : List Solid) → is_position_function (selector_token s) ≡ false → AllByRecursion IsReadToken ss → Fits (first_term depth (selector_token s) (tokens ss))
    → AreBeside (first_term depth (selector_token s) (tokens ss) ∷ terms_from (depth_behind depth (selector_token s)) 0 (tokens ss)) → IsClean (depth_behind depth (selector_token s)) 0 ss → IsClean depth 0 (s ∷ ss)
plain_clean depth s ss e read fits stand later =
    let d = depth_behind depth (selector_token s) in
    let t = first_term depth (selector_token s) (tokens ss) in
    let there = plain_term depth (selector_token s) (tokens ss) e in
    let g = counted_gap d s.kind s.gap (first_kind (tokens ss)) in
    let none : argument s ss ≡ None = ap (λ c. cond c (if_read (argument_of s.gap (tokens ss))) None) e in
    let l = leaves d s ss fits.lone (meets ss read there.0 stand) in
    record {
      text = ap (λ (o : Option AnB). s.bytes ++ argument_or_gap o d s ss ++ spelled_from d (skipped o ss) ss) none
          ∙ ap (λ (w : List ℕ). s.bytes ++ w ++ spelled_from d 0 ss) l.text ∙ ap (λ (w : List ℕ). s.bytes ++ gap_text s.bytes g ++ w) later.text
          ∙ ap (λ (w : List ℕ). w ++ printed_from d 0 ss) (sym (bare_text s t g (ap (λ t. t.argument) there.0) (ap (λ t. t.gap) there.0)))
          ∙ ap (λ (w : List ℕ). printed_term s t ++ w) (sym (ap₂ (λ (n m : ℕ). printed_from n m ss) there.1 there.2));
      tokens = ap (λ (o : Option AnB). left_with o d s ss (left_from d (skipped o ss) ss)) none ∙ ap₂ (λ b bs. b ∷ bs) l.token later.tokens
          ∙ sym (ap (λ (o : Option AnB). back_with o d s ss (back_from d (skipped o ss) ss)) none);
    }
  where
    meets : (ss : List Solid) → AllByRecursion IsReadToken ss
        → first_term depth (selector_token s) (tokens ss) ≡ term_of (selector_token s) (counted_gap (depth_behind depth (selector_token s)) s.kind s.gap (first_kind (tokens ss))) (Err NotAllowed)
        → AreBeside (first_term depth (selector_token s) (tokens ss) ∷ terms_from (depth_behind depth (selector_token s)) 0 (tokens ss))
        → (u : Solid) → first_kind (tokens ss) ≡ Some u.kind → (us : List Solid) → ss ≡ u ∷ us → is_white_gap (counted_gap (depth_behind depth (selector_token s)) s.kind s.gap (Some u.kind)) ≡ false
        → together s.kind s.bytes u.kind u.bytes ≡ true
    meets [] read is stand u first us same white = absurd (let none : ⊥ = cc in none)
    meets (v ∷ vs) read is stand u first us same white =
        let head : v ≡ u = cc in
        let t = first_term depth (selector_token s) (tokens (v ∷ vs)) in
        let gaps : is_white_gap t.gap ≡ false = ap (λ t. is_white_gap t.gap) is ∙ ap (λ v. is_white_gap (counted_gap (depth_behind depth (selector_token s)) s.kind s.gap (Some v.kind))) head ∙ white in
        ap (λ u. together s.kind s.bytes u.kind u.bytes) (sym head)
        ∙ together_of s v t read.0 refl refl (ap (λ t. has_argument t.argument) is) (stand.0 gaps)

-- ---- a function of a position

-- a text that ends with `)` is not open
closed_hex : (n : ℕ) (w : List ℕ) → is_open_hex n (w ++ close_round ∷ []) ≡ false
closed_hex zero [] = refl
closed_hex (suc n) [] = refl
closed_hex zero (c ∷ cs) = refl
closed_hex (suc n) (c ∷ cs) = ap (λ b. is_ascii_hexdigit c && b) (closed_hex n cs) ∙ and_none (is_ascii_hexdigit c)
  where
    and_none : (b : Bool) → (b && false) ≡ false
    and_none true = refl
    and_none false = refl

closed_escape : (w : List ℕ) → is_open_escape (w ++ close_round ∷ []) ≡ false
closed_escape [] = refl
closed_escape (c ∷ cs) = closed_hex 6 (c ∷ cs)

pub closed_text : (w : List ℕ) (left : ℕ) → is_open_from left (w ++ close_round ∷ []) ≡ false
closed_text [] zero = refl
closed_text [] (suc left) = refl
closed_text (c ∷ cs) (suc left) = closed_text cs left
closed_text (c ∷ cs) zero = which (c == backslash) (closed_escape cs) (closed_text cs)
  where
    which : (b : Bool) → is_open_escape (cs ++ close_round ∷ []) ≡ false → ((left : ℕ) → is_open_from left (cs ++ close_round ∷ []) ≡ false)
        → cond b (is_open_escape (cs ++ close_round ∷ []) || is_open_from (less_one (escape_after (cs ++ close_round ∷ []))) (cs ++ close_round ∷ [])) (is_open_from 0 (cs ++ close_round ∷ [])) ≡ false
    which true e later = ap (λ b. b || is_open_from (less_one (escape_after (cs ++ close_round ∷ []))) (cs ++ close_round ∷ [])) e ∙ later (less_one (escape_after (cs ++ close_round ∷ [])))
    which false e later = later 0

pub gap_shut : (v w : List ℕ) (g : Gap) → is_open v ≡ false → is_open w ≡ false → gap_text v g ≡ gap_text w g
gap_shut v w gap.Nothing e f = refl
gap_shut v w gap.Comments e f = refl
gap_shut v w gap.White e f = rw (e, f) refl

spelled_drop : (depth left : ℕ) (ss : List Solid) → spelled_from depth left ss ≡ spelled_from depth 0 (drop left ss)
spelled_drop depth zero ss = refl
spelled_drop depth (suc left) [] = refl
spelled_drop depth (suc left) (s ∷ ss) = spelled_drop depth left ss

left_drop : (depth left : ℕ) (ss : List Solid) → left_from depth left ss ≡ left_from depth 0 (drop left ss)
left_drop depth zero ss = refl
left_drop depth (suc left) [] = refl
left_drop depth (suc left) (s ∷ ss) = left_drop depth left ss

-- the `)` of an argument, and what stands behind it
record IsClosed (depth : ℕ) (c : Solid) (behind : List Solid) : Type 0 where
  text : spelled_from (suc depth) 0 (c ∷ behind) ≡ c.bytes ++ gap_text c.bytes (counted_gap depth kind.Function c.gap (first_kind (tokens behind))) ++ spelled_from depth 0 behind
  tokens : left_from (suc depth) 0 (c ∷ behind) ≡ back_of depth c behind ∷ left_from depth 0 behind

sign_leaves : (depth : ℕ) (c : Solid) (behind : List Solid) → c.kind ≡ kind.Sign close_round → LeavesCounted depth c behind
sign_leaves depth c behind k = leaves depth c behind (ap is_lone k) (λ u _ _ _ _. ap (λ k. together k c.bytes u.kind u.bytes) k)

is_closed : (depth : ℕ) (c : Solid) (behind : List Solid) → is_closing c ≡ true → IsClosed depth c behind
is_closed depth c behind closes =
    let k = sign_is c.kind close_round closes in
    let shallow : depth_behind (suc depth) (selector_token c) ≡ depth = ap (λ k. cond (is_function k || is_sign_of open_square k) (suc (suc depth)) (cond (is_sign_of close_square k || is_sign_of close_round k) depth (suc depth))) k in
    let none : argument c behind ≡ None =
    ap (λ k. cond (is_function k && (is_word (codes "nth-child") (selector_token c).name || is_word (codes "nth-last-child") (selector_token c).name)) (if_read (argument_of c.gap (tokens behind))) None) k in
    let l = sign_leaves depth c behind k in
    let like : (n : Option TokenKind) → counted_gap depth c.kind c.gap n ≡ counted_gap depth kind.Function c.gap n = λ n. ap (λ k. counted_gap depth k c.gap n) k ∙ same n in
    record {
      text = ap (λ (o : Option AnB). c.bytes ++ argument_or_gap o (depth_behind (suc depth) (selector_token c)) c behind ++ spelled_from (depth_behind (suc depth) (selector_token c)) (skipped o behind) behind) none
          ∙ ap (λ (n : ℕ). c.bytes ++ behind_text n c behind ++ spelled_from n 0 behind) shallow
          ∙ ap (λ (w : List ℕ). c.bytes ++ w ++ spelled_from depth 0 behind) (l.text ∙ ap (gap_text c.bytes) (like (first_kind (tokens behind))));
      tokens = ap (λ (o : Option AnB). left_with o (depth_behind (suc depth) (selector_token c)) c behind (left_from (depth_behind (suc depth) (selector_token c)) (skipped o behind) behind)) none
          ∙ ap (λ (n : ℕ). left_of n c behind ∷ left_from n 0 behind) shallow ∙ ap (λ b. b ∷ left_from depth 0 behind) l.token;
    }
  where
    same : (n : Option TokenKind) → counted_gap depth (kind.Sign close_round) c.gap n ≡ counted_gap depth kind.Function c.gap n
    same None = refl
    same (Some n) = refl

-- a `)` is its byte
sign_bytes_of : (k : TokenKind) (v old : List ℕ) → is_sign_of close_round k ≡ true → part_at (v ++ old) ≡ Ok (Some k, length v) → v ≡ close_round ∷ []
sign_bytes_of (kind.Sign b) v old closes read = sign-text v old b read ∙ ap (λ (b : ℕ). b ∷ []) (eqb-true b close_round closes)
sign_bytes_of _ v old closes read = absurd (false≢true closes)

dropped_read : (j : ℕ) (ss : List Solid) (c : Solid) (behind : List Solid) → drop j ss ≡ c ∷ behind → AllByRecursion IsReadToken ss → IsReadToken c
dropped_read zero [] c behind is all = absurd (let none : ⊥ = cc in none)
dropped_read zero (s ∷ ss) c behind is all = (let head : s ≡ c = cc in subst IsReadToken head all.0)
dropped_read (suc j) [] c behind is all = absurd (let none : ⊥ = cc in none)
dropped_read (suc j) (s ∷ ss) c behind is all = dropped_read j ss c behind is all.1

closing_text : (ss : List Solid) (j : ℕ) (c : ClosingAt j ss) → AllByRecursion IsReadToken ss → c.closing.bytes ≡ close_round ∷ []
closing_text ss j c all = (let r = dropped_read j ss c.closing c.behind c.there all in sign_bytes_of c.closing.kind c.closing.bytes r.old c.closes r.read)

position_clean : (depth : ℕ) (s : Solid) (ss : List Solid) (x : AnB) → argument s ss ≡ Some x → AllByRecursion IsReadToken ss → IsClean depth (suc (position_or_len is_closing ss)) ss → IsClean depth 0 (s ∷ ss)
position_clean depth s ss x e read later =
    let a = argument_is s ss x e in
    let c = closing_at ss a.closed in
    let j = position_or_len is_closing ss in
    let deep : depth_behind depth (selector_token s) ≡ suc depth = ap (λ k. cond (is_function k || is_sign_of open_square k) (suc depth) (cond (is_sign_of close_square k || is_sign_of close_round k) (less_one depth) depth)) a.called in
    let there = position_term depth (selector_token s) (tokens ss) a.position in
    let closed_at : position_or_len closes_round (tokens ss) ≡ j = close_same ss in
    let dropped : drop j (tokens ss) ≡ selector_token c.closing ∷ tokens c.behind = drop_tokens j ss ∙ ap tokens c.there in
    let behind_ : drop (suc j) (tokens ss) ≡ tokens c.behind = drop_next j (tokens ss) (selector_token c.closing) (tokens c.behind) dropped in
    let rest : drop (suc j) ss ≡ c.behind = drop_next j ss c.closing c.behind c.there in
    let t = first_term depth (selector_token s) (tokens ss) in
    let g = counted_gap depth kind.Function c.closing.gap (first_kind (tokens c.behind)) in
    let gaps : t.gap ≡ g =
    ap (λ t. t.gap) there.0
    ∙ ap (λ (n : ℕ). counted_gap depth s.kind (first_gap (drop n (tokens ss))) (first_kind (drop (suc n) (tokens ss)))) closed_at
    ∙ ap₂ (λ (ys zs : List SelectorToken). counted_gap depth s.kind (first_gap ys) (first_kind zs)) dropped behind_ ∙ ap (λ k. counted_gap depth k c.closing.gap (first_kind (tokens c.behind))) a.called in
    let argument_ : t.argument ≡ Ok x = ap (λ t. t.argument) there.0 ∙ a.reads in
    let bytes = s.bytes ++ (anb_text x ++ close_round ∷ []) in
    let term : printed_term s t ≡ bytes ++ gap_text bytes g =
    ap (λ r. (s.bytes ++ printed_argument r) ++ gap_text (s.bytes ++ printed_argument r) t.gap) argument_ ∙ ap (λ g. bytes ++ gap_text bytes g) gaps in
    let closing_bytes : c.closing.bytes ≡ close_round ∷ [] = closing_text ss j c read in
    let i = is_closed depth c.closing c.behind c.closes in
    let spelled_behind : spelled_from depth 0 c.behind ≡ printed_from depth (suc j) ss = sym (spelled_drop depth (suc j) ss ∙ ap (spelled_from depth 0) rest) ∙ later.text in
    let left_behind : left_from depth 0 c.behind ≡ back_from depth (suc j) ss = sym (left_drop depth (suc j) ss ∙ ap (left_from depth 0) rest) ∙ later.tokens in
    let shut : is_open bytes ≡ false = ap is_open (sym (append_assoc s.bytes (anb_text x) (close_round ∷ []))) ∙ closed_text (s.bytes ++ anb_text x) 0 in
    let w = printed_from depth (suc j) ss in
    let inner : spelled_from (suc depth) j ss ≡ close_round ∷ (gap_text bytes g ++ w) =
    spelled_drop (suc depth) j ss ∙ ap (spelled_from (suc depth) 0) c.there ∙ i.text
    ∙ ap (λ (v : List ℕ). v ++ gap_text v g ++ spelled_from depth 0 c.behind) closing_bytes
    ∙ ap (λ (v : List ℕ). (close_round ∷ []) ++ v ++ spelled_from depth 0 c.behind) (gap_shut (close_round ∷ []) bytes g refl shut)
    ∙ ap (λ (v : List ℕ). close_round ∷ (gap_text bytes g ++ v)) spelled_behind in
    let joined : s.bytes ++ anb_text x ++ close_round ∷ (gap_text bytes g ++ w) ≡ (bytes ++ gap_text bytes g) ++ w =
    sym (append_assoc (s.bytes ++ anb_text x) (close_round ∷ []) (gap_text bytes g ++ w)) ∙ ap (λ (v : List ℕ). v ++ (gap_text bytes g ++ w)) (append_assoc s.bytes (anb_text x) (close_round ∷ []))
    ∙ sym (append_assoc bytes (gap_text bytes g) w) in
    record {
      text = ap (λ (o : Option AnB). s.bytes ++ argument_or_gap o (depth_behind depth (selector_token s)) s ss ++ spelled_from (depth_behind depth (selector_token s)) (skipped o ss) ss) e
          ∙ ap (λ (n : ℕ). s.bytes ++ anb_text x ++ spelled_from n j ss) deep
          ∙ ap (λ (v : List ℕ). s.bytes ++ anb_text x ++ v) inner ∙ joined
          ∙ ap (λ (v : List ℕ). v ++ w) (sym term)
          ∙ ap (λ (v : List ℕ). printed_term s t ++ v) (sym (ap₂ (λ (n m : ℕ). printed_from n m ss) there.1 (there.2 ∙ ap suc closed_at)));
      tokens = ap (λ (o : Option AnB). left_with o (depth_behind depth (selector_token s)) s ss (left_from (depth_behind depth (selector_token s)) (skipped o ss) ss)) e
          ∙ ap (λ (n : ℕ). with_gap s gap.Nothing ∷ (own_tokens (anb_text x) ++ left_from n j ss)) deep
          ∙ ap (λ bs. with_gap s gap.Nothing ∷ (own_tokens (anb_text x) ++ bs))
          (left_drop (suc depth) j ss ∙ ap (left_from (suc depth) 0) c.there ∙ i.tokens ∙ ap (λ bs. back_of depth c.closing c.behind ∷ bs) left_behind)
          ∙ sym (back_position depth s ss x e a c);
    }

clean : (ss : List Solid) → AllByRecursion IsReadToken ss → (depth left : ℕ) → AllByRecursion Fits (terms_from depth left (tokens ss)) → AreBeside (terms_from depth left (tokens ss)) → IsClean depth left ss
clean [] read depth zero fits stand = record { text = refl; tokens = refl }
clean [] read depth (suc left) fits stand = record { text = refl; tokens = refl }
clean (s ∷ ss) read depth (suc left) fits stand = (let c = clean ss read.1 depth left fits stand in record { text = c.text; tokens = c.tokens })
clean (s ∷ ss) read depth zero fits stand = which (is_position_function (selector_token s)) refl (clean ss read.1)
  where
    tail : (t : Term) (ts : List Term) → AreBeside (t ∷ ts) → AreBeside ts
    tail t [] stand = tt
    tail t (u ∷ ts) stand = stand.1

    which : (b : Bool) → is_position_function (selector_token s) ≡ b → ((depth left : ℕ) → AllByRecursion Fits (terms_from depth left (tokens ss)) → AreBeside (terms_from depth left (tokens ss)) → IsClean depth left ss) → IsClean depth zero (s ∷ ss)
    which false e later =
        let there = plain_term depth (selector_token s) (tokens ss) e in
        let same = ap₂ (λ (n m : ℕ). terms_from n m (tokens ss)) there.1 there.2 in
        let beside_ = subst (λ ts. AreBeside (first_term depth (selector_token s) (tokens ss) ∷ ts)) same stand in
        plain_clean depth s ss e read.1 fits.0 beside_
        (later (depth_behind depth (selector_token s)) 0 (subst (AllByRecursion Fits) same fits.1) (tail (first_term depth (selector_token s) (tokens ss)) (terms_from (depth_behind depth (selector_token s)) 0 (tokens ss)) beside_))
    which true e later =
        let x = fits_argument depth s ss fits.0 e in
        let there = position_term depth (selector_token s) (tokens ss) e in
        let same = ap₂ (λ (n m : ℕ). terms_from n m (tokens ss)) there.1 (there.2 ∙ ap suc (close_same ss)) in
        position_clean depth s ss x.0 x.1 read.1
        (later depth (suc (position_or_len is_closing ss)) (subst (AllByRecursion Fits) same fits.1)
        (subst AreBeside same (tail (first_term depth (selector_token s) (tokens ss)) _ stand)))

-- the text that is left of a selector's tokens is its printed text
pub spelled_is_printed : (ss : List Solid) → AllByRecursion IsReadToken ss → AllByRecursion Fits (terms_from 0 0 (tokens ss)) → AreBeside (terms_from 0 0 (tokens ss)) → spelled_from 0 0 ss ≡ printed_from 0 0 ss
spelled_is_printed ss read fits stand = (clean ss read 0 0 fits stand).text

pub left_is_back : (ss : List Solid) → AllByRecursion IsReadToken ss → AllByRecursion Fits (terms_from 0 0 (tokens ss)) → AreBeside (terms_from 0 0 (tokens ss)) → left_from 0 0 ss ≡ back_from 0 0 ss
left_is_back ss read fits stand = (clean ss read 0 0 fits stand).tokens
