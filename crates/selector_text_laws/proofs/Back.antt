-- The tokens of a selector's printed text have the terms of the tokens that they were printed for, and the same text.
use Rattle.std.proofs.Common.{◌≡◌, inl, inr, ℕ, zero, suc, ◌+◌, ◌==◌, Bool, true, false, not, ◌&&◌, ◌||◌, cond, List, [], ◌∷◌, ◌++◌, map, length, take, drop, Option, Some, None, Result, Ok, Err, refl, sym, ap, ap₂, ◌∙◌, subst, arith, append_assoc, codes}
use Rattle.std.specs.Prelude.{nat_lt, is_some}
use Rattle.std.specs.List.{AllByRecursion, before_first, flat_map, list_any, position_or_len}
use Rattle.std.proofs.lemmas.Bool.{and_parts, eqb-true, false≢true, true≢false, or_parts, or_right}
use Rattle.std.proofs.lemmas.List.{append-nil, map-append}
use Rattle.std.proofs.Math.Seq.{take-append_seam}
use Rattle.css_model.specs.declared.position.AnB.{AnB}
use Rattle.css_model.specs.declared.reason.Reason.{Reason}
use Rattle.css_model.specs.declared.token.Gap.{Gap}
use Rattle.css_model.specs.declared.token.Gap.TheVariants as gap
use Rattle.css_model.specs.declared.token.TokenKind.{TokenKind}
use Rattle.css_model.specs.declared.token.TokenKind.TheVariants as kind
use Rattle.css_model.specs.Lists.{begins_with, less_one, same_text}
use Rattle.css_model.specs.Positions.Printed.{anb_text}
use Rattle.css_model.specs.Selectors.Arguments.{against_argument, argument_of, argument_text, blank, closes_round, in_range_or, is_position_function, notation_of}
use Rattle.css_model.specs.Selectors.Terms.{Term, combinator_of, counted_gap, depth_behind, depth_behind_term, first_gap, first_kind, first_term, from_close, more_of_term, op_of, terms_from, white_alone}
use Rattle.css_model.specs.Selectors.Tokens.{SelectorToken, is_function, is_word, plain_bytes, selector_token}
use Rattle.css_model.specs.Sheets.PrintedSelector.{printed_argument, printed_from, printed_term, term_bytes}
use Rattle.css_model.specs.Text.Characters.{backslash, close_round, close_square, colon, dot, open_square, space}
use Rattle.css_model.specs.Text.Kept.{Solid, gap_text, is_lone, is_open, is_white_gap}
use Rattle.css_model.specs.Text.Lexemes.{is_delim_of, is_sign_of}
use Rattle.css_model.specs.declared.reason.Reason.TheVariants.{NotAllowed, PositionOutOfRange}
use Rattle.css_model.specs.Positions.Range.{is_in_range}
use Rattle.token_laws.specs.Solids.{closed}
use Rattle.selector_text_laws.proofs.Notation.Shapes.{text_is_read}
use Rattle.selector_text_laws.specs.Notation.Tokens.{is_word_kind}
use Rattle.selector_laws.proofs.ForCallers.{word_apart}
use Rattle.selector_text_laws.specs.Back.{IsClosableSolid, back_from, back_of, back_with}
use Rattle.selector_text_laws.proofs.Terms.{Fits, has_argument}
use Rattle.selector_text_laws.specs.Back.{argument, if_read, is_closing, own_tokens, skipped, with_gap}
use Rattle.selector_text_laws.proofs.Arguments.{IsArgument, argument_is, close_same, in_range}
use Rattle.selector_text_laws.proofs.Spelled.{ClosingAt, IsOwnText, IsOwnToken, arguments_are_words, closing_at}

abbrev pub tokens : List Solid → List SelectorToken
tokens ss = map selector_token ss

-- ---- gaps

white_twice : (g : Gap) → white_alone (white_alone g) ≡ white_alone g
white_twice gap.White = refl
white_twice gap.Nothing = refl
white_twice gap.Comments = refl

-- what counts of what counts
counted_twice : (depth : ℕ) (k : TokenKind) (g : Gap) (next : Option TokenKind) → counted_gap depth k (counted_gap depth k g next) next ≡ counted_gap depth k g next
counted_twice depth k g None = refl
counted_twice depth k g (Some n) = by_cases (is_delim_of dot k || is_sign_of colon k) (nat_lt 0 depth) (is_some (op_of k) && not (is_sign_of close_round n)) (is_some (combinator_of k) || is_some (combinator_of n)) g
  where
    by_cases : (a b c d : Bool) (g : Gap) → cond a (white_alone (cond a (white_alone g) (cond b (cond c g gap.Nothing) (cond d gap.Nothing (white_alone g)))))
        (cond b (cond c (cond a (white_alone g) (cond b (cond c g gap.Nothing) (cond d gap.Nothing (white_alone g)))) gap.Nothing) (cond d gap.Nothing (white_alone (cond a (white_alone g) (cond b (cond c g gap.Nothing) (cond d gap.Nothing (white_alone g)))))))
        ≡ cond a (white_alone g) (cond b (cond c g gap.Nothing) (cond d gap.Nothing (white_alone g)))
    by_cases true b c d g = white_twice g
    by_cases false true true d g = refl
    by_cases false true false d g = refl
    by_cases false false c true g = refl
    by_cases false false c false g = white_twice g

-- ---- what is taken from a token that may be closed

dashed_closed : (bytes : List ℕ) → begins_with (bytes ++ space ∷ []) (codes "--") ≡ begins_with bytes (codes "--")
dashed_closed [] = refl
dashed_closed (c ∷ []) = refl
dashed_closed (c ∷ d ∷ cs) = refl

dashes_closed : (bytes : List ℕ) → is_open bytes ≡ true → same_text (bytes ++ space ∷ []) (codes "--") ≡ same_text bytes (codes "--")
dashes_closed [] o = refl
dashes_closed (c ∷ []) o = refl
dashes_closed (c ∷ d ∷ e ∷ cs) o = refl
dashes_closed (c ∷ d ∷ []) o = which (c == 45) refl (d == 45) refl
  where
    which : (a : Bool) → (c == 45) ≡ a → (b : Bool) → (d == 45) ≡ b → same_text (c ∷ d ∷ space ∷ []) (codes "--") ≡ same_text (c ∷ d ∷ []) (codes "--")
    which false first b second = rw first refl
    which true first false second = rw (first, second) refl
    which true first true second =
        let shut : is_open (c ∷ d ∷ []) ≡ false = ap (λ (n : ℕ). is_open (n ∷ d ∷ [])) (eqb-true c 45 first) ∙ ap (λ (n : ℕ). is_open (45 ∷ n ∷ [])) (eqb-true d 45 second) in
        absurd (true≢false (sym o ∙ shut))

-- what a term takes from a token
record SaysSame (x y : SelectorToken) : Type 0 where
  kind : x.kind ≡ y.kind
  name : x.name ≡ y.name
  dashed : x.dashed ≡ y.dashed
  only_dashes : x.only_dashes ≡ y.only_dashes

abbrev closed_if : Bool → Solid → Solid
closed_if b s = cond b (record { kind = s.kind; bytes = s.bytes ++ space ∷ []; gap = s.gap }) s

closed_says : (s : Solid) (g : Gap) → IsClosableSolid s → SaysSame (selector_token (closed (with_gap s g))) (selector_token s)
closed_says s g closable = which (not (is_lone s.kind) && (is_white_gap g && is_open s.bytes)) refl
  where
    which : (b : Bool) → (not (is_lone s.kind) && (is_white_gap g && is_open s.bytes)) ≡ b → SaysSame (selector_token (closed_if b (with_gap s g))) (selector_token s)
    which false e = record { kind = refl; name = refl; dashed = refl; only_dashes = refl }
    which true e =
        let o : is_open s.bytes ≡ true = (and_parts (is_white_gap g) (is_open s.bytes) (and_parts (not (is_lone s.kind)) (is_white_gap g && is_open s.bytes) e).1).1 in
        record { kind = refl; name = closable.name o; dashed = dashed_closed s.bytes; only_dashes = dashes_closed s.bytes o }

pub closed_keeps : (s : Solid) (g : Gap) → ((closed (with_gap s g)).kind ≡ s.kind) × ((closed (with_gap s g)).gap ≡ g)
closed_keeps s g = which (not (is_lone s.kind) && (is_white_gap g && is_open s.bytes))
  where
    which : (b : Bool) → ((closed_if b (with_gap s g)).kind ≡ s.kind) × ((closed_if b (with_gap s g)).gap ≡ g)
    which true = (refl, refl)
    which false = (refl, refl)

back_says : (depth : ℕ) (s : Solid) (ss : List Solid) → IsClosableSolid s → SaysSame (selector_token (back_of depth s ss)) (selector_token s)
back_says depth s [] closable = record { kind = refl; name = refl; dashed = refl; only_dashes = refl }
back_says depth s (u ∷ us) closable = closed_says s (counted_gap depth s.kind s.gap (Some u.kind)) closable

-- a term by these parts
abbrev pub term_of : SelectorToken → Gap → Result AnB Reason → Term
term_of x g a = record { kind = x.kind; name = x.name; dashed = x.dashed; only_dashes = x.only_dashes; gap = g; argument = a }

term_same : (x y : SelectorToken) (g h : Gap) (a b : Result AnB Reason) → SaysSame x y → g ≡ h → a ≡ b → term_of x g a ≡ term_of y h b
term_same x y g h a b same gaps arguments =
    ap (λ (k : TokenKind). let t : Term = record { kind = k; name = x.name; dashed = x.dashed; only_dashes = x.only_dashes; gap = g; argument = a } in t) same.kind
    ∙ ap (λ (n : List ℕ). let t : Term = record { kind = y.kind; name = n; dashed = x.dashed; only_dashes = x.only_dashes; gap = g; argument = a } in t) same.name
    ∙ ap (λ (b : Bool). let t : Term = record { kind = y.kind; name = y.name; dashed = b; only_dashes = x.only_dashes; gap = g; argument = a } in t) same.dashed
    ∙ ap (λ (b : Bool). let t : Term = record { kind = y.kind; name = y.name; dashed = y.dashed; only_dashes = b; gap = g; argument = a } in t) same.only_dashes
    ∙ ap (λ (g : Gap). term_of y g a) gaps ∙ ap (λ (r : Result AnB Reason). term_of y h r) arguments

position_same : (x y : SelectorToken) → SaysSame x y → is_position_function x ≡ is_position_function y
position_same x y same =
    ap (λ k. is_function k && (is_word (codes "nth-child") x.name || is_word (codes "nth-last-child") x.name)) same.kind
    ∙ ap (λ (n : List ℕ). is_function y.kind && (is_word (codes "nth-child") n || is_word (codes "nth-last-child") n)) same.name

-- ---- the first token

first_with : (o : Option AnB) (depth : ℕ) (s : Solid) (ss more : List Solid) → first_kind (tokens (back_with o depth s ss more)) ≡ Some s.kind
first_with (Some x) depth s ss more = refl
first_with None depth s [] more = refl
first_with None depth s (u ∷ us) more = ap (λ (k : TokenKind). Some k) (closed_keeps s (counted_gap depth s.kind s.gap (Some u.kind))).0

first_back : (depth left : ℕ) (ss : List Solid) → first_kind (tokens (back_from depth left ss)) ≡ first_kind (drop left (tokens ss))
first_back depth zero [] = refl
first_back depth (suc left) [] = refl
first_back depth (suc left) (s ∷ ss) = first_back depth left ss
first_back depth zero (s ∷ ss) = first_with (argument s ss) (depth_behind depth (selector_token s)) s ss (back_from (depth_behind depth (selector_token s)) (skipped (argument s ss) ss) ss)

-- ---- one token that is no function of a position

pub plain_term : (depth : ℕ) (x : SelectorToken) (xs : List SelectorToken) → is_position_function x ≡ false
    → (first_term depth x xs ≡ term_of x (counted_gap (depth_behind depth x) x.kind x.gap (first_kind xs)) (Err NotAllowed)) × (depth_behind_term depth x ≡ depth_behind depth x) × (more_of_term x xs ≡ 0)
plain_term depth x xs e = (rw e refl, rw e refl, rw e refl)

depth_same : (depth : ℕ) (x y : SelectorToken) → x.kind ≡ y.kind → depth_behind depth x ≡ depth_behind depth y
depth_same depth x y e = ap (λ k. cond (is_function k || is_sign_of open_square k) (suc depth) (cond (is_sign_of close_square k || is_sign_of close_round k) (less_one depth) depth)) e

-- what counts behind the token again
back_gap : (depth : ℕ) (s : Solid) (ss : List Solid) → counted_gap depth s.kind (back_of depth s ss).gap (first_kind (tokens ss)) ≡ counted_gap depth s.kind s.gap (first_kind (tokens ss))
back_gap depth s [] = refl
back_gap depth s (u ∷ us) =
    ap (λ g. counted_gap depth s.kind g (Some u.kind)) (closed_keeps s (counted_gap depth s.kind s.gap (Some u.kind))).1 ∙ counted_twice depth s.kind s.gap (Some u.kind)

record Again (depth left : ℕ) (ss : List Solid) : Type 0 where
  terms : terms_from depth 0 (tokens (back_from depth left ss)) ≡ terms_from depth left (tokens ss)
  prints : printed_from depth 0 (back_from depth left ss) ≡ printed_from depth left ss

-- the text of a token that is closed
closed_prints : (s : Solid) (g : Gap) → IsClosableSolid s → is_lone s.kind ≡ false → (closed (with_gap s g)).bytes ++ gap_text (closed (with_gap s g)).bytes g ≡ s.bytes ++ gap_text s.bytes g
closed_prints s g closable lone = which (is_lone s.kind) lone g (is_open s.bytes) refl
  where
    which : (l : Bool) → l ≡ false → (g : Gap) (o : Bool) → is_open s.bytes ≡ o
        → (closed_if (not l && (is_white_gap g && o)) (with_gap s g)).bytes ++ gap_text (closed_if (not l && (is_white_gap g && o)) (with_gap s g)).bytes g ≡ s.bytes ++ gap_text s.bytes g
    which true e g o is = absurd (true≢false e)
    which false e gap.Nothing o is = refl
    which false e gap.Comments o is = refl
    which false e gap.White false is = refl
    which false e gap.White true is = rw (is, closable.shut is) (append_assoc s.bytes (space ∷ []) (space ∷ []))

back_prints : (depth : ℕ) (s : Solid) (ss : List Solid) → IsClosableSolid s → is_lone s.kind ≡ false → (let g = counted_gap depth s.kind s.gap (first_kind (tokens ss)) in (back_of depth s ss).bytes ++ gap_text (back_of depth s ss).bytes g ≡ s.bytes ++ gap_text s.bytes g)
back_prints depth s [] closable lone = refl
back_prints depth s (u ∷ us) closable lone = closed_prints s (counted_gap depth s.kind s.gap (Some u.kind)) closable lone

-- a term without an argument
pub bare_text : (b : Solid) (t : Term) (g : Gap) → t.argument ≡ Err NotAllowed → t.gap ≡ g → printed_term b t ≡ b.bytes ++ gap_text b.bytes g
bare_text b t g argument gaps =
    let bytes : term_bytes b t ≡ b.bytes = ap (λ r. b.bytes ++ printed_argument r) argument ∙ append-nil b.bytes in
    ap (λ (w : List ℕ). w ++ gap_text w t.gap) bytes ∙ ap (λ g. b.bytes ++ gap_text b.bytes g) gaps

-- the terms and the text of a token before others
pub from_first : (depth : ℕ) (s : Solid) (ss : List Solid)
    → printed_from depth 0 (s ∷ ss) ≡ printed_term s (first_term depth (selector_token s) (tokens ss)) ++ printed_from (depth_behind_term depth (selector_token s)) (more_of_term (selector_token s) (tokens ss)) ss
from_first depth s ss = refl

plain_again : (depth : ℕ) (s : Solid) (ss : List Solid) → is_position_function (selector_token s) ≡ false → IsClosableSolid s → is_lone s.kind ≡ false
    → Again (depth_behind depth (selector_token s)) 0 ss → Again depth 0 (s ∷ ss)
plain_again depth s ss e closable lone later =
    let d = depth_behind depth (selector_token s) in
    let b = back_of d s ss in
    let rest = back_from d 0 ss in
    let same = back_says d s ss closable in
    let none : argument s ss ≡ None = ap (λ c. cond c (if_read (argument_of s.gap (tokens ss))) None) e in
    let is : back_from depth 0 (s ∷ ss) ≡ b ∷ rest = ap (λ (o : Option AnB). back_with o d s ss (back_from d (skipped o ss) ss)) none in
    let f : is_position_function (selector_token b) ≡ false = position_same (selector_token b) (selector_token s) same ∙ e in
    let here = plain_term depth (selector_token b) (tokens rest) f in
    let there = plain_term depth (selector_token s) (tokens ss) e in
    let depths : depth_behind depth (selector_token b) ≡ d = depth_same depth (selector_token b) (selector_token s) same.kind in
    let g = counted_gap d s.kind s.gap (first_kind (tokens ss)) in
    let gaps : counted_gap (depth_behind depth (selector_token b)) b.kind b.gap (first_kind (tokens rest)) ≡ g =
    ap (λ (n : ℕ). counted_gap n b.kind b.gap (first_kind (tokens rest))) depths ∙ ap (λ k. counted_gap d k b.gap (first_kind (tokens rest))) same.kind
    ∙ ap (counted_gap d s.kind b.gap) (first_back d 0 ss) ∙ back_gap d s ss in
    let first : first_term depth (selector_token b) (tokens rest) ≡ first_term depth (selector_token s) (tokens ss) =
    here.0 ∙ term_same (selector_token b) (selector_token s) (counted_gap (depth_behind depth (selector_token b)) b.kind b.gap (first_kind (tokens rest))) g (Err NotAllowed) (Err NotAllowed) same gaps refl ∙ sym there.0 in
    let text : printed_term b (first_term depth (selector_token b) (tokens rest)) ≡ printed_term s (first_term depth (selector_token s) (tokens ss)) =
    bare_text b (first_term depth (selector_token b) (tokens rest)) g (ap (λ t. t.argument) here.0) (ap (λ t. t.gap) here.0 ∙ gaps)
    ∙ back_prints d s ss closable lone
    ∙ sym (bare_text s (first_term depth (selector_token s) (tokens ss)) g (ap (λ t. t.argument) there.0) (ap (λ t. t.gap) there.0)) in
    record {
      terms = ap (λ bs. terms_from depth 0 (tokens bs)) is
          ∙ ap (λ t. t ∷ terms_from (depth_behind_term depth (selector_token b)) (more_of_term (selector_token b) (tokens rest)) (tokens rest)) first
          ∙ ap (λ ts. first_term depth (selector_token s) (tokens ss) ∷ ts)
          (ap₂ (λ (n m : ℕ). terms_from n m (tokens rest)) (here.1 ∙ depths) here.2 ∙ later.terms ∙ sym (ap₂ (λ (n m : ℕ). terms_from n m (tokens ss)) there.1 there.2));
      prints = ap (printed_from depth 0) is
          ∙ ap (λ (w : List ℕ). w ++ printed_from (depth_behind_term depth (selector_token b)) (more_of_term (selector_token b) (tokens rest)) rest) text
          ∙ ap (λ (w : List ℕ). printed_term s (first_term depth (selector_token s) (tokens ss)) ++ w)
          (ap₂ (λ (n m : ℕ). printed_from n m rest) (here.1 ∙ depths) here.2 ∙ later.prints ∙ sym (ap₂ (λ (n m : ℕ). printed_from n m ss) there.1 there.2));
    }

-- ---- lists up to a `)`

at_close : (xs : List SelectorToken) (y : SelectorToken) (rest : List SelectorToken) → list_any closes_round xs ≡ false → closes_round y ≡ true → position_or_len closes_round (xs ++ y ∷ rest) ≡ length xs
at_close [] y rest clear closes = ap (λ b. cond (not b) (1 + position_or_len closes_round rest) 0) closes
at_close (x ∷ xs) y rest clear closes = cases (closes_round x) refl (or_parts (closes_round x) (list_any closes_round xs) clear) (at_close xs y rest)
  where
    cases : (b : Bool) → closes_round x ≡ b → (closes_round x ≡ false) × (list_any closes_round xs ≡ false) →
        (list_any closes_round xs ≡ false → closes_round y ≡ true → position_or_len closes_round (xs ++ y ∷ rest) ≡ length xs) → cond (not b) (1 + position_or_len closes_round (xs ++ y ∷ rest)) 0 ≡ suc (length xs)
    cases true e both later = absurd (true≢false (sym e ∙ both.0))
    cases false e both later = (let h = later both.1 closes in omega arith)

behind_list : {X : Type 0} (xs : List X) (y : X) (rest : List X) → drop (length xs) (xs ++ y ∷ rest) ≡ y ∷ rest
behind_list [] y rest = refl
behind_list (x ∷ xs) y rest = behind_list xs y rest

behind_more : {X : Type 0} (xs : List X) (y : X) (rest : List X) → drop (suc (length xs)) (xs ++ y ∷ rest) ≡ rest
behind_more [] y rest = refl
behind_more (x ∷ xs) y rest = behind_more xs y rest

any_close : (xs : List SelectorToken) (y : SelectorToken) (rest : List SelectorToken) → closes_round y ≡ true → list_any closes_round (xs ++ y ∷ rest) ≡ true
any_close [] y rest closes = ap (λ b. b || list_any closes_round rest) closes
any_close (x ∷ xs) y rest closes = or_right (closes_round x) (list_any closes_round (xs ++ y ∷ rest)) (any_close xs y rest closes)

terms_skip : (depth : ℕ) (xs : List SelectorToken) (y : SelectorToken) (rest : List SelectorToken) → terms_from depth (suc (length xs)) (xs ++ y ∷ rest) ≡ terms_from depth 0 rest
terms_skip depth [] y rest = refl
terms_skip depth (x ∷ xs) y rest = terms_skip depth xs y rest

printed_skip : (depth : ℕ) (xs : List Solid) (y : Solid) (rest : List Solid) → printed_from depth (suc (length xs)) (xs ++ y ∷ rest) ≡ printed_from depth 0 rest
printed_skip depth [] y rest = refl
printed_skip depth (x ∷ xs) y rest = printed_skip depth xs y rest

pub back_drop : (depth left : ℕ) (ss : List Solid) → back_from depth left ss ≡ back_from depth 0 (drop left ss)
back_drop depth zero ss = refl
back_drop depth (suc left) [] = refl
back_drop depth (suc left) (s ∷ ss) = back_drop depth left ss

pub drop_tokens : (left : ℕ) (ss : List Solid) → drop left (tokens ss) ≡ tokens (drop left ss)
drop_tokens zero ss = refl
drop_tokens (suc left) [] = refl
drop_tokens (suc left) (s ∷ ss) = drop_tokens left ss

pub drop_next : {X : Type 0} (j : ℕ) (xs : List X) (y : X) (ys : List X) → drop j xs ≡ y ∷ ys → drop (suc j) xs ≡ ys
drop_next zero [] y ys e = absurd (let none : ⊥ = cc in none)
drop_next zero (x ∷ xs) y ys e = (let tail : xs ≡ ys = cc in tail)
drop_next (suc j) [] y ys e = absurd (let none : ⊥ = cc in none)
drop_next (suc j) (x ∷ xs) y ys e = drop_next j xs y ys e

-- ---- the tokens of a printed argument

own_clear : (os : List Solid) → AllByRecursion IsOwnToken os → list_any closes_round (tokens os) ≡ false
own_clear [] all = refl
own_clear (o ∷ os) (one, all) = ap (λ b. b || list_any closes_round (tokens os)) (word o.kind one.kinds) ∙ own_clear os all
  where
    word : (k : TokenKind) → is_word_kind (Some k) ≡ true → is_sign_of close_round k ≡ false
    word kind.Ident e = refl
    word kind.Number e = refl
    word kind.Dimension e = refl
    word _ e = absurd (false≢true e)

own_spells : (os : List Solid) → AllByRecursion IsOwnToken os → flat_map (λ x. x.bytes ++ blank x.gap) (tokens os) ≡ flat_map (λ s. s.bytes) os
own_spells [] all = refl
own_spells (o ∷ os) (one, all) =
    let bytes : plain_bytes o.bytes ≡ o.bytes = ap (λ b. cond b (backslash ∷ []) o.bytes) one.plain in
    ap (λ (w : List ℕ). (w ++ blank o.gap) ++ flat_map (λ x. x.bytes ++ blank x.gap) (tokens os)) bytes
    ∙ ap (λ g. (o.bytes ++ blank g) ++ flat_map (λ x. x.bytes ++ blank x.gap) (tokens os)) one.alone
    ∙ ap (λ (w : List ℕ). w ++ flat_map (λ x. x.bytes ++ blank x.gap) (tokens os)) (append-nil o.bytes)
    ∙ ap (λ (w : List ℕ). o.bytes ++ w) (own_spells os all)

own_argument : (x : AnB) (y : SelectorToken) (rest : List SelectorToken) → is_in_range x ≡ true → IsOwnText (anb_text x) → closes_round y ≡ true → argument_of gap.Nothing (tokens (own_tokens (anb_text x)) ++ y ∷ rest) ≡ Ok x
own_argument x y rest range own closes =
    let xs = tokens (own_tokens (anb_text x)) in
    let clear = own_clear (own_tokens (anb_text x)) own.each in
    let inside : before_first closes_round (xs ++ y ∷ rest) ≡ xs = ap (λ (n : ℕ). take n (xs ++ y ∷ rest)) (at_close xs y rest clear closes) ∙ take-append_seam xs (y ∷ rest) in
    let text : argument_text gap.Nothing xs ≡ anb_text x = own_spells (own_tokens (anb_text x)) own.each ∙ own.spells in
    ap₂ (λ (b : Bool) (zs : List SelectorToken). cond b (in_range_or (against_argument gap.Nothing zs) (notation_of (argument_text gap.Nothing zs))) (Err (against_argument gap.Nothing zs))) (any_close xs y rest closes) inside
    ∙ ap (λ (w : List ℕ). in_range_or (against_argument gap.Nothing xs) (notation_of w)) text
    ∙ ap (in_range_or (against_argument gap.Nothing xs)) (text_is_read x (in_range x range))
    ∙ ap (λ b. cond {A = Result AnB Reason} b (Ok x) (Err PositionOutOfRange)) range

-- ---- a function of a position

pub position_term : (depth : ℕ) (x : SelectorToken) (xs : List SelectorToken) → is_position_function x ≡ true
    → (first_term depth x xs ≡ term_of x (counted_gap depth x.kind (first_gap (from_close xs)) (first_kind (drop (suc (position_or_len closes_round xs)) xs))) (argument_of x.gap xs))
    × (depth_behind_term depth x ≡ depth) × (more_of_term x xs ≡ suc (position_or_len closes_round xs))
position_term depth x xs e = (rw e refl, rw e refl, rw e refl)

pub sign_is : (k : TokenKind) (c : ℕ) → is_sign_of c k ≡ true → k ≡ kind.Sign c
sign_is (kind.Sign d) c e = ap kind.Sign (eqb-true d c e)
sign_is _ c e = absurd (false≢true e)

-- a `)` as it is read back
closing_gap : (depth : ℕ) (c : Solid) (behind : List Solid) → c.kind ≡ kind.Sign close_round → counted_gap depth kind.Function (back_of depth c behind).gap (first_kind (tokens behind)) ≡ counted_gap depth kind.Function c.gap (first_kind (tokens behind))
closing_gap depth c [] e = refl
closing_gap depth c (u ∷ us) e =
    let like : (g : Gap) → counted_gap depth (kind.Sign close_round) g (Some u.kind) ≡ counted_gap depth kind.Function g (Some u.kind) = λ g. refl in
    ap (λ g. counted_gap depth kind.Function g (Some u.kind)) ((closed_keeps c (counted_gap depth c.kind c.gap (Some u.kind))).1 ∙ ap (λ k. counted_gap depth k c.gap (Some u.kind)) e ∙ like c.gap)
    ∙ counted_twice depth kind.Function c.gap (Some u.kind)

back_closes : (depth : ℕ) (c : Solid) (behind : List Solid) → closes_round (selector_token (back_of depth c behind)) ≡ closes_round (selector_token c)
back_closes depth c [] = refl
back_closes depth c (u ∷ us) = ap (is_sign_of close_round) (closed_keeps c (counted_gap depth c.kind c.gap (Some u.kind))).0

-- the tokens behind a function of a position
pub back_position : (depth : ℕ) (s : Solid) (ss : List Solid) (x : AnB) (e : argument s ss ≡ Some x) (a : IsArgument s ss x) (c : ClosingAt (position_or_len is_closing ss) ss)
    → back_from depth 0 (s ∷ ss) ≡ with_gap s gap.Nothing ∷ (own_tokens (anb_text x) ++ back_of depth c.closing c.behind ∷ back_from depth (suc (position_or_len is_closing ss)) ss)
back_position depth s ss x e a c =
    let j = position_or_len is_closing ss in
    let k = sign_is c.closing.kind close_round c.closes in
    let deep : depth_behind depth (selector_token s) ≡ suc depth = ap (λ k. cond (is_function k || is_sign_of open_square k) (suc depth) (cond (is_sign_of close_square k || is_sign_of close_round k) (less_one depth) depth)) a.called in
    let shallow : depth_behind (suc depth) (selector_token c.closing) ≡ depth = ap (λ k. cond (is_function k || is_sign_of open_square k) (suc (suc depth)) (cond (is_sign_of close_square k || is_sign_of close_round k) depth (suc depth))) k in
    let none : argument c.closing c.behind ≡ None =
    ap (λ k. cond (is_function k && (is_word (codes "nth-child") (selector_token c.closing).name || is_word (codes "nth-last-child") (selector_token c.closing).name)) (if_read (argument_of c.closing.gap (tokens c.behind))) None) k in
    let closing_back : back_from (suc depth) 0 (c.closing ∷ c.behind) ≡ back_of depth c.closing c.behind ∷ back_from depth 0 c.behind =
    ap (λ (o : Option AnB). back_with o (depth_behind (suc depth) (selector_token c.closing)) c.closing c.behind (back_from (depth_behind (suc depth) (selector_token c.closing)) (skipped o c.behind) c.behind)) none
    ∙ ap (λ (n : ℕ). back_of n c.closing c.behind ∷ back_from n 0 c.behind) shallow in
    let later : back_from depth 0 c.behind ≡ back_from depth (suc j) ss = sym (back_drop depth (suc j) ss ∙ ap (back_from depth 0) (drop_next j ss c.closing c.behind c.there)) in
    ap (λ (o : Option AnB). back_with o (depth_behind depth (selector_token s)) s ss (back_from (depth_behind depth (selector_token s)) (skipped o ss) ss)) e
    ∙ ap (λ (n : ℕ). with_gap s gap.Nothing ∷ (own_tokens (anb_text x) ++ back_from n j ss)) deep
    ∙ ap (λ bs. with_gap s gap.Nothing ∷ (own_tokens (anb_text x) ++ bs)) (back_drop (suc depth) j ss ∙ ap (back_from (suc depth) 0) c.there ∙ closing_back ∙ ap (λ bs. back_of depth c.closing c.behind ∷ bs) later)

position_again : (depth : ℕ) (s : Solid) (ss : List Solid) (x : AnB) → argument s ss ≡ Some x → Again depth (suc (position_or_len is_closing ss)) ss → Again depth 0 (s ∷ ss)
position_again depth s ss x e later =
    let a = argument_is s ss x e in
    let c = closing_at ss a.closed in
    let j = position_or_len is_closing ss in
    let own = arguments_are_words x a.sized in
    let o = own_tokens (anb_text x) in
    let b = back_of depth c.closing c.behind in
    let more = back_from depth (suc j) ss in
    let is = back_position depth s ss x e a c in
    let closes : closes_round (selector_token b) ≡ true = back_closes depth c.closing c.behind ∙ c.closes in
    let s' = with_gap s gap.Nothing in
    let rest : tokens (o ++ b ∷ more) ≡ tokens o ++ selector_token b ∷ tokens more = map-append selector_token o (b ∷ more) in
    let same : SaysSame (selector_token s') (selector_token s) = record { kind = refl; name = refl; dashed = refl; only_dashes = refl } in
    let f : is_position_function (selector_token s') ≡ true = a.position in
    let here = position_term depth (selector_token s') (tokens o ++ selector_token b ∷ tokens more) f in
    let there = position_term depth (selector_token s) (tokens ss) a.position in
    let at : position_or_len closes_round (tokens o ++ selector_token b ∷ tokens more) ≡ length (tokens o) = at_close (tokens o) (selector_token b) (tokens more) (own_clear o own.each) closes in
    let closed_at : position_or_len closes_round (tokens ss) ≡ j = close_same ss in
    let dropped : drop j (tokens ss) ≡ selector_token c.closing ∷ tokens c.behind = drop_tokens j ss ∙ ap tokens c.there in
    let behind_ : drop (suc j) (tokens ss) ≡ tokens c.behind = drop_next j (tokens ss) (selector_token c.closing) (tokens c.behind) dropped in
    let next : first_kind (tokens more) ≡ first_kind (tokens c.behind) = first_back depth (suc j) ss ∙ ap first_kind behind_ in
    let gaps_here : counted_gap depth s.kind (first_gap (from_close (tokens o ++ selector_token b ∷ tokens more))) (first_kind (drop (suc (position_or_len closes_round (tokens o ++ selector_token b ∷ tokens more))) (tokens o ++ selector_token b ∷ tokens more)))
    ≡ counted_gap depth kind.Function b.gap (first_kind (tokens c.behind)) =
    ap (λ (n : ℕ). counted_gap depth s.kind (first_gap (drop n (tokens o ++ selector_token b ∷ tokens more))) (first_kind (drop (suc n) (tokens o ++ selector_token b ∷ tokens more)))) at
    ∙ ap₂ (λ (ys zs : List SelectorToken). counted_gap depth s.kind (first_gap ys) (first_kind zs)) (behind_list (tokens o) (selector_token b) (tokens more)) (behind_more (tokens o) (selector_token b) (tokens more))
    ∙ ap (counted_gap depth s.kind b.gap) next ∙ ap (λ k. counted_gap depth k b.gap (first_kind (tokens c.behind))) a.called in
    let gaps_there : counted_gap depth s.kind (first_gap (from_close (tokens ss))) (first_kind (drop (suc (position_or_len closes_round (tokens ss))) (tokens ss))) ≡ counted_gap depth kind.Function c.closing.gap (first_kind (tokens c.behind)) =
    ap (λ (n : ℕ). counted_gap depth s.kind (first_gap (drop n (tokens ss))) (first_kind (drop (suc n) (tokens ss)))) closed_at
    ∙ ap₂ (λ (ys zs : List SelectorToken). counted_gap depth s.kind (first_gap ys) (first_kind zs)) dropped behind_ ∙ ap (λ k. counted_gap depth k c.closing.gap (first_kind (tokens c.behind))) a.called in
    let gaps = gaps_here ∙ closing_gap depth c.closing c.behind (sign_is c.closing.kind close_round c.closes) ∙ sym gaps_there in
    let first : first_term depth (selector_token s') (tokens o ++ selector_token b ∷ tokens more) ≡ first_term depth (selector_token s) (tokens ss) =
    here.0 ∙ term_same (selector_token s') (selector_token s) _ _ _ _ same gaps (own_argument x (selector_token b) (tokens more) a.range own closes ∙ sym a.reads) ∙ sym there.0 in
    let more_there : more_of_term (selector_token s) (tokens ss) ≡ suc j = there.2 ∙ ap suc closed_at in
    record {
      terms = ap (λ bs. terms_from depth 0 (tokens bs)) is
          ∙ ap (λ xs. first_term depth (selector_token s') xs ∷ terms_from (depth_behind_term depth (selector_token s')) (more_of_term (selector_token s') xs) xs) rest
          ∙ ap (λ t. t ∷ terms_from (depth_behind_term depth (selector_token s')) (more_of_term (selector_token s') (tokens o ++ selector_token b ∷ tokens more)) (tokens o ++ selector_token b ∷ tokens more)) first
          ∙ ap (λ ts. first_term depth (selector_token s) (tokens ss) ∷ ts)
          (ap₂ (λ (n m : ℕ). terms_from n m (tokens o ++ selector_token b ∷ tokens more)) here.1 (here.2 ∙ ap suc at) ∙ terms_skip depth (tokens o) (selector_token b) (tokens more) ∙ later.terms
          ∙ sym (ap₂ (λ (n m : ℕ). terms_from n m (tokens ss)) there.1 more_there));
      prints = ap (printed_from depth 0) is
          ∙ ap (λ xs. printed_term s' (first_term depth (selector_token s') xs) ++ printed_from (depth_behind_term depth (selector_token s')) (more_of_term (selector_token s') xs) (o ++ b ∷ more)) rest
          ∙ ap (λ t. printed_term s' t ++ printed_from (depth_behind_term depth (selector_token s')) (more_of_term (selector_token s') (tokens o ++ selector_token b ∷ tokens more)) (o ++ b ∷ more)) first
          ∙ ap (λ (w : List ℕ). printed_term s (first_term depth (selector_token s) (tokens ss)) ++ w)
          (ap₂ (λ (n m : ℕ). printed_from n m (o ++ b ∷ more)) here.1 (here.2 ∙ ap suc (at ∙ length_tokens o)) ∙ printed_skip depth o b more ∙ later.prints
          ∙ sym (ap₂ (λ (n m : ℕ). printed_from n m ss) there.1 more_there));
    }
  where
    length_tokens : (ss : List Solid) → length (tokens ss) ≡ length ss
    length_tokens [] = refl
    length_tokens (s ∷ ss) = ap suc (length_tokens ss)

-- ---- all of them

-- a function of a position among terms that fit has an argument that is read
pub fits_argument : (depth : ℕ) (s : Solid) (ss : List Solid) → Fits (first_term depth (selector_token s) (tokens ss)) → is_position_function (selector_token s) ≡ true → (x : AnB) × (argument s ss ≡ Some x)
fits_argument depth s ss fits e =
    let two = and_parts (is_function s.kind) (is_word (codes "nth-child") (selector_token s).name || is_word (codes "nth-last-child") (selector_token s).name) e in
    let there = position_term depth (selector_token s) (tokens ss) e in
    elim (fits.calls two.0) [
      | inl some ↦ of (argument_of s.gap (tokens ss)) refl (sym (ap (λ t. has_argument t.argument) there.0) ∙ some)
      | inr word ↦ absurd (false≢true (sym (no_position word) ∙ two.1))
    ]
  where
    of : (r : Result AnB Reason) → argument_of s.gap (tokens ss) ≡ r → has_argument r ≡ true → (x : AnB) × (argument s ss ≡ Some x)
    of (Ok x) reads some = (x, ap (λ c. cond c (if_read (argument_of s.gap (tokens ss))) None) e ∙ ap if_read reads)
    of (Err reason) reads some = absurd (false≢true some)

    no_position : is_word (codes "not") (selector_token s).name ≡ true → (is_word (codes "nth-child") (selector_token s).name || is_word (codes "nth-last-child") (selector_token s).name) ≡ false
    no_position word =
        ap (λ b. b || is_word (codes "nth-last-child") (selector_token s).name) (word_apart (selector_token s).name (codes "not") (codes "nth-child") refl word)
        ∙ word_apart (selector_token s).name (codes "not") (codes "nth-last-child") refl word

again : (ss : List Solid) → AllByRecursion IsClosableSolid ss → (depth left : ℕ) → AllByRecursion Fits (terms_from depth left (tokens ss)) → Again depth left ss
again [] closable depth zero fits = record { terms = refl; prints = refl }
again [] closable depth (suc left) fits = record { terms = refl; prints = refl }
again (s ∷ ss) closable depth (suc left) fits = (let a = again ss closable.1 depth left fits in record { terms = a.terms; prints = a.prints })
again (s ∷ ss) closable depth zero fits = which (is_position_function (selector_token s)) refl (again ss closable.1)
  where
    which : (b : Bool) → is_position_function (selector_token s) ≡ b → ((depth left : ℕ) → AllByRecursion Fits (terms_from depth left (tokens ss)) → Again depth left ss) → Again depth zero (s ∷ ss)
    which false e later =
        let there = plain_term depth (selector_token s) (tokens ss) e in
        plain_again depth s ss e closable.0 fits.0.lone
        (later (depth_behind depth (selector_token s)) 0 (subst (AllByRecursion Fits) (ap₂ (λ (n m : ℕ). terms_from n m (tokens ss)) there.1 there.2) fits.1))
    which true e later =
        let x = fits_argument depth s ss fits.0 e in
        let there = position_term depth (selector_token s) (tokens ss) e in
        position_again depth s ss x.0 x.1
        (later depth (suc (position_or_len is_closing ss)) (subst (AllByRecursion Fits) (ap₂ (λ (n m : ℕ). terms_from n m (tokens ss)) there.1 (there.2 ∙ ap suc (close_same ss))) fits.1))

-- Tokens whose terms are those of a selector have them again as they are read back, and are printed alike.
pub terms_again : (ss : List Solid) → AllByRecursion IsClosableSolid ss → AllByRecursion Fits (terms_from 0 0 (tokens ss)) → terms_from 0 0 (tokens (back_from 0 0 ss)) ≡ terms_from 0 0 (tokens ss)
terms_again ss closable fits = (again ss closable 0 0 fits).terms

pub prints_again : (ss : List Solid) → AllByRecursion IsClosableSolid ss → AllByRecursion Fits (terms_from 0 0 (tokens ss)) → printed_from 0 0 (back_from 0 0 ss) ≡ printed_from 0 0 ss
prints_again ss closable fits = (again ss closable 0 0 fits).prints
