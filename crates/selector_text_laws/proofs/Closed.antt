-- The tokens of a printed selector are of few kinds, and close each bracket that they open.
use Rattle.std.proofs.Common.{◌≡◌, ℕ, zero, suc, ◌+◌, ◌≤◌, Bool, true, false, cond, List, [], ◌∷◌, ◌++◌, length, drop, Option, Some, None, Ok, refl, sym, ap, ap₂, ◌∙◌, subst, arith}
use Rattle.std.specs.List.{AllByRecursion, list_any, position_or_len}
use Rattle.std.proofs.lemmas.Bool.{false≢true}
use Rattle.css_model.specs.declared.position.AnB.{AnB}
use Rattle.css_model.specs.declared.token.TokenKind.{TokenKind}
use Rattle.css_model.specs.declared.token.TokenKind.TheVariants as kind
use Rattle.css_model.specs.Positions.Printed.{anb_text}
use Rattle.css_model.specs.Selectors.Arguments.{argument_of, is_position_function}
use Rattle.css_model.specs.Selectors.Terms.{counted_gap, depth_behind, depth_behind_term, first_term, more_of_term, terms_from}
use Rattle.css_model.specs.Selectors.Tokens.{is_function, selector_token}
use Rattle.css_model.specs.Text.Characters.{close_round}
use Rattle.css_model.specs.Text.Kept.{Solid}
use Rattle.token_laws.specs.Solids.{ends_called}
use Rattle.selector_text_laws.specs.Notation.Tokens.{is_word_kind}
use Rattle.selector_text_laws.specs.Back.{AreShallow, back_from, back_of, back_with, is_selector_kind}
use Rattle.selector_text_laws.proofs.Terms.{Fits, Walk, closers_behind, depth_after, depth_behind_by, is_of_selector, reach}
use Rattle.selector_text_laws.specs.Closed.{closers_after}
use Rattle.selector_text_laws.specs.Closed.{SolidWalk}
use Rattle.selector_text_laws.specs.Back.{argument, if_read, is_closing, own_tokens, skipped}
use Rattle.selector_text_laws.proofs.Arguments.{argument_is, close_same}
use Rattle.selector_text_laws.proofs.Back.{back_position, closed_keeps, drop_next, fits_argument, plain_term, position_term, sign_is, tokens}
use Rattle.selector_text_laws.proofs.Spelled.{IsOwnToken, arguments_are_words, closing_at}

-- ---- kinds

kind_is : (k : TokenKind) → is_of_selector k ≡ true → is_selector_kind k ≡ true
kind_is kind.Ident e = refl
kind_is kind.IdHash e = refl
kind_is kind.Str e = refl
kind_is kind.Function e = refl
kind_is (kind.Delim c) e = refl
kind_is (kind.Sign c) e = e
kind_is _ e = absurd (false≢true e)

word_is : (k : TokenKind) → is_word_kind (Some k) ≡ true → is_selector_kind k ≡ true
word_is kind.Ident e = refl
word_is kind.Number e = refl
word_is kind.Dimension e = refl
word_is _ e = absurd (false≢true e)

abbrev HasKind : Solid → Type 0
HasKind s = is_selector_kind s.kind ≡ true

back_kind : (depth : ℕ) (s : Solid) (ss : List Solid) → (back_of depth s ss).kind ≡ s.kind
back_kind depth s [] = refl
back_kind depth s (u ∷ us) = (closed_keeps s (counted_gap depth s.kind s.gap (Some u.kind))).0

all_append : {A : Type 0} (P : A → Type 0) (xs ys : List A) → AllByRecursion P xs → AllByRecursion P ys → AllByRecursion P (xs ++ ys)
all_append P [] ys first second = second
all_append P (x ∷ xs) ys first second = (first.0, all_append P xs ys first.1 second)

own_kinds : (os : List Solid) → AllByRecursion IsOwnToken os → AllByRecursion HasKind os
own_kinds [] all = tt
own_kinds (o ∷ os) (one, all) = (word_is o.kind one.kinds, own_kinds os all)

-- ---- brackets

word_flat : (k : TokenKind) → is_word_kind (Some k) ≡ true → (cs : List ℕ) → (closers_after k cs ≡ cs) × ((d : ℕ) → depth_after k d ≡ d)
word_flat kind.Ident e [] = (refl, λ d. refl)
word_flat kind.Ident e (c ∷ cs) = (refl, λ d. refl)
word_flat kind.Number e [] = (refl, λ d. refl)
word_flat kind.Number e (c ∷ cs) = (refl, λ d. refl)
word_flat kind.Dimension e [] = (refl, λ d. refl)
word_flat kind.Dimension e (c ∷ cs) = (refl, λ d. refl)
word_flat _ e cs = absurd (false≢true e)

-- tokens that open nothing, before others
words_walk : (cs : List ℕ) (os : List Solid) (more : List Solid) (ds : List ℕ) → AllByRecursion IsOwnToken os → length cs ≤ 2 → SolidWalk cs more ds → SolidWalk cs (os ++ more) ds
words_walk cs [] more ds all low later = later
words_walk cs (o ∷ os) more ds (one, all) low later =
    let f = word_flat o.kind one.kinds cs in (
      low,
      ap (λ (es : List ℕ). length es) f.0 ∙ sym (f.1 (length cs)),
      subst (λ (es : List ℕ). SolidWalk es (os ++ more) ds) (sym f.0) (words_walk cs os more ds all low later),
    )

-- the same of each depth as of its brackets
pub shallow : (cs : List ℕ) (ss : List Solid) (ds : List ℕ) → SolidWalk cs ss ds → AreShallow (length cs) ss
shallow cs [] ds walk = tt
shallow cs (s ∷ ss) ds walk = (walk.0, subst (λ (n : ℕ). AreShallow n ss) walk.1 (shallow (closers_after s.kind cs) ss ds walk.2))

function_opens : (cs : List ℕ) → closers_after kind.Function cs ≡ close_round ∷ cs
function_opens [] = refl
function_opens (c ∷ cs) = refl

record IsMade (depth left : ℕ) (ss : List Solid) : Type 0 where
  kinds : AllByRecursion HasKind (back_from depth left ss)
  walk : (cs ds : List ℕ) → length cs ≡ depth → Walk 2 cs (terms_from depth left (tokens ss)) ds → SolidWalk cs (back_from depth left ss) ds

plain_made : (depth : ℕ) (s : Solid) (ss : List Solid) → is_position_function (selector_token s) ≡ false → Fits (first_term depth (selector_token s) (tokens ss)) → IsMade (depth_behind depth (selector_token s)) 0 ss → IsMade depth 0 (s ∷ ss)
plain_made depth s ss e fits later =
    let d = depth_behind depth (selector_token s) in
    let b = back_of d s ss in
    let rest = back_from d 0 ss in
    let there = plain_term depth (selector_token s) (tokens ss) e in
    let t = first_term depth (selector_token s) (tokens ss) in
    let none : argument s ss ≡ None = ap (λ c. cond c (if_read (argument_of s.gap (tokens ss))) None) e in
    let is : back_from depth 0 (s ∷ ss) ≡ b ∷ rest = ap (λ (o : Option AnB). back_with o d s ss (back_from d (skipped o ss) ss)) none in
    let k : b.kind ≡ s.kind = back_kind d s ss in
    record {
      kinds = subst (AllByRecursion HasKind) (sym is) (ap is_selector_kind k ∙ kind_is s.kind fits.of, later.kinds);
      walk = λ cs ds size walk.
          let closes : closers_behind t.argument t.kind cs ≡ closers_after s.kind cs = ap (λ t. closers_behind t.argument t.kind cs) there.0 in
          let depths : length (closers_after s.kind cs) ≡ depth_after s.kind (length cs) = ap (λ t. length (closers_behind t.argument t.kind cs)) (sym there.0) ∙ walk.1 ∙ ap (λ t. depth_behind_by t.argument t.kind (length cs)) there.0 in
          let low : length cs + reach t.argument ≤ 2 = walk.0 in
          let next : Walk 2 (closers_after s.kind cs) (terms_from d 0 (tokens ss)) ds =
          subst (λ ts. Walk 2 (closers_after s.kind cs) ts ds) (ap₂ (λ (n m : ℕ). terms_from n m (tokens ss)) there.1 there.2) (subst (λ (es : List ℕ). Walk 2 es (terms_from (depth_behind_term depth (selector_token s)) (more_of_term (selector_token s) (tokens ss)) (tokens ss)) ds) closes walk.2) in
          let behind_ = later.walk (closers_after s.kind cs) ds (depths ∙ ap (depth_after s.kind) size) next in
          subst (λ bs. SolidWalk cs bs ds) (sym is) (
            omega (arith, low),
            ap (λ k. length (closers_after k cs)) k ∙ depths ∙ sym (ap (λ k. depth_after k (length cs)) k),
            subst (λ (k : TokenKind). SolidWalk (closers_after k cs) rest ds) (sym k) behind_,
          );
    }

position_made : (depth : ℕ) (s : Solid) (ss : List Solid) (x : AnB) → argument s ss ≡ Some x → IsMade depth (suc (position_or_len is_closing ss)) ss → IsMade depth 0 (s ∷ ss)
position_made depth s ss x e later =
    let a = argument_is s ss x e in
    let c = closing_at ss a.closed in
    let j = position_or_len is_closing ss in
    let own = arguments_are_words x a.sized in
    let o = own_tokens (anb_text x) in
    let b = back_of depth c.closing c.behind in
    let more = back_from depth (suc j) ss in
    let is = back_position depth s ss x e a c in
    let k : b.kind ≡ kind.Sign close_round = back_kind depth c.closing c.behind ∙ sign_is c.closing.kind close_round c.closes in
    let there = position_term depth (selector_token s) (tokens ss) a.position in
    let t = first_term depth (selector_token s) (tokens ss) in
    let reads : t.argument ≡ Ok x = ap (λ t. t.argument) there.0 ∙ a.reads in
    record {
      kinds = subst (AllByRecursion HasKind) (sym is) (ap is_selector_kind a.called, all_append HasKind o (b ∷ more) (own_kinds o own.each) (ap is_selector_kind k, later.kinds));
      walk = λ cs ds size walk.
          let far : reach t.argument ≡ 1 = ap reach reads in
          let low : length cs + reach t.argument ≤ 2 = walk.0 in
          let same : closers_behind t.argument t.kind cs ≡ cs = ap (λ r. closers_behind r t.kind cs) reads in
          let terms : terms_from (depth_behind_term depth (selector_token s)) (more_of_term (selector_token s) (tokens ss)) (tokens ss) ≡ terms_from depth (suc j) (tokens ss) =
          ap₂ (λ (n m : ℕ). terms_from n m (tokens ss)) there.1 (there.2 ∙ ap suc (close_same ss)) in
          let next : Walk 2 cs (terms_from depth (suc j) (tokens ss)) ds = subst (λ ts. Walk 2 cs ts ds) terms (subst (λ (es : List ℕ). Walk 2 es (terms_from (depth_behind_term depth (selector_token s)) (more_of_term (selector_token s) (tokens ss)) (tokens ss)) ds) same walk.2) in
          let behind_ = later.walk cs ds size next in
          let high : suc (length cs) ≤ 2 = omega (arith, low, far) in
          let closing_walk : SolidWalk (close_round ∷ cs) (b ∷ more) ds = (
            high,
            ap (λ k. length (closers_after k (close_round ∷ cs))) k ∙ sym (ap (λ k. depth_after k (suc (length cs))) k),
            subst (λ (k : TokenKind). SolidWalk (closers_after k (close_round ∷ cs)) more ds) (sym k) behind_,
          ) in
          subst (λ bs. SolidWalk cs bs ds) (sym is) (
            omega (arith, low),
            ap (λ k. length (closers_after k cs)) a.called ∙ ap (λ (es : List ℕ). length es) (function_opens cs) ∙ sym (ap (λ k. depth_after k (length cs)) a.called),
            subst (λ (k : TokenKind). SolidWalk (closers_after k cs) (o ++ b ∷ more) ds) (sym a.called)
                (subst (λ (es : List ℕ). SolidWalk es (o ++ b ∷ more) ds) (sym (function_opens cs)) (words_walk (close_round ∷ cs) o (b ∷ more) ds own.each high closing_walk)),
          );
    }

made : (ss : List Solid) (depth left : ℕ) → AllByRecursion Fits (terms_from depth left (tokens ss)) → IsMade depth left ss
made [] depth zero fits = record { kinds = tt; walk = λ cs ds size walk. walk }
made [] depth (suc left) fits = record { kinds = tt; walk = λ cs ds size walk. walk }
made (s ∷ ss) depth (suc left) fits = (let m = made ss depth left fits in record { kinds = m.kinds; walk = m.walk })
made (s ∷ ss) depth zero fits = which (is_position_function (selector_token s)) refl (made ss)
  where
    which : (b : Bool) → is_position_function (selector_token s) ≡ b → ((depth left : ℕ) → AllByRecursion Fits (terms_from depth left (tokens ss)) → IsMade depth left ss) → IsMade depth zero (s ∷ ss)
    which false e later =
        let there = plain_term depth (selector_token s) (tokens ss) e in
        plain_made depth s ss e fits.0 (later (depth_behind depth (selector_token s)) 0 (subst (AllByRecursion Fits) (ap₂ (λ (n m : ℕ). terms_from n m (tokens ss)) there.1 there.2) fits.1))
    which true e later =
        let x = fits_argument depth s ss fits.0 e in
        let there = position_term depth (selector_token s) (tokens ss) e in
        position_made depth s ss x.0 x.1
        (later depth (suc (position_or_len is_closing ss)) (subst (AllByRecursion Fits) (ap₂ (λ (n m : ℕ). terms_from n m (tokens ss)) there.1 (there.2 ∙ ap suc (close_same ss))) fits.1))

pub back_kinds : (ss : List Solid) → AllByRecursion Fits (terms_from 0 0 (tokens ss)) → AllByRecursion (λ s. is_selector_kind s.kind ≡ true) (back_from 0 0 ss)
back_kinds ss fits = (made ss 0 0 fits).kinds

pub back_walk : (ss : List Solid) → AllByRecursion Fits (terms_from 0 0 (tokens ss)) → Walk 2 [] (terms_from 0 0 (tokens ss)) [] → SolidWalk [] (back_from 0 0 ss) []
back_walk ss fits walk = (made ss 0 0 fits).walk [] [] refl walk

-- ---- the last token is no function

ends_drop : (j : ℕ) (ss : List Solid) (c : Solid) (behind : List Solid) → drop j ss ≡ c ∷ behind → ends_called ss ≡ ends_called (c ∷ behind)
ends_drop zero ss c behind e = ap ends_called e
ends_drop (suc j) [] c behind e = absurd (let none : ⊥ = cc in none)
ends_drop (suc j) (s ∷ []) c behind e = absurd (none j e)
  where
    none : (j : ℕ) → drop j [] ≡ c ∷ behind → ⊥
    none zero e = absurd (let no : ⊥ = cc in no)
    none (suc j) e = absurd (let no : ⊥ = cc in no)
ends_drop (suc j) (s ∷ u ∷ us) c behind e = ends_drop j (u ∷ us) c behind e

ends_next : (c : Solid) (behind : List Solid) → is_function c.kind ≡ false → ends_called behind ≡ false → ends_called (c ∷ behind) ≡ false
ends_next c [] other later = other
ends_next c (u ∷ us) other later = later

abbrev Ends : List Solid → Type 0
Ends ss = (depth left : ℕ) (cs : List ℕ) → AllByRecursion Fits (terms_from depth left (tokens ss)) → Walk 2 cs (terms_from depth left (tokens ss)) [] → ends_called (drop left ss) ≡ false

-- a function that is the last token leaves its bracket open
last_open : (depth : ℕ) (s : Solid) (cs : List ℕ) → is_position_function (selector_token s) ≡ false → Walk 2 cs (first_term depth (selector_token s) [] ∷ []) [] → is_function s.kind ≡ false
last_open depth s cs e walk = which (is_function s.kind) refl
  where
    closes : closers_after s.kind cs ≡ []
    closes = ap (λ t. closers_behind t.argument t.kind cs) (sym (plain_term depth (selector_token s) [] e).0) ∙ walk.2

    called : (k : TokenKind) → is_function k ≡ true → closers_after k cs ≡ [] → ⊥
    called kind.Function is closes = absurd (let no : close_round ∷ cs ≡ [] = sym (function_opens cs) ∙ closes in let none : ⊥ = cc in none)
    called _ is closes = absurd (false≢true is)

    which : (b : Bool) → is_function s.kind ≡ b → is_function s.kind ≡ false
    which false is = is
    which true is = absurd (called s.kind is closes)

ends : (ss : List Solid) → Ends ss
ends [] depth zero cs fits walk = refl
ends [] depth (suc left) cs fits walk = refl
ends (s ∷ ss) depth (suc left) cs fits walk = ends ss depth left cs fits walk
ends (s ∷ ss) depth zero cs fits walk = which (is_position_function (selector_token s)) refl (ends ss)
  where
    plain_ends : (ss : List Solid) → is_position_function (selector_token s) ≡ false → Walk 2 cs (first_term depth (selector_token s) (tokens ss) ∷ terms_from (depth_behind depth (selector_token s)) 0 (tokens ss)) []
        → ends_called ss ≡ false → ends_called (s ∷ ss) ≡ false
    plain_ends [] e walk later = last_open depth s cs e walk
    plain_ends (u ∷ us) e walk later = later

    which : (b : Bool) → is_position_function (selector_token s) ≡ b → Ends ss → ends_called (s ∷ ss) ≡ false
    which false e later =
        let there = plain_term depth (selector_token s) (tokens ss) e in
        let t = first_term depth (selector_token s) (tokens ss) in
        let same = ap₂ (λ (n m : ℕ). terms_from n m (tokens ss)) there.1 there.2 in
        let w : Walk 2 cs (t ∷ terms_from (depth_behind depth (selector_token s)) 0 (tokens ss)) [] = subst (λ ts. Walk 2 cs (t ∷ ts) []) same walk in
        plain_ends ss e w (later (depth_behind depth (selector_token s)) 0 (closers_behind t.argument t.kind cs) (subst (AllByRecursion Fits) same fits.1) w.2)
    which true e later =
        let x = fits_argument depth s ss fits.0 e in
        let a = argument_is s ss x.0 x.1 in
        let c = closing_at ss a.closed in
        let j = position_or_len is_closing ss in
        let there = position_term depth (selector_token s) (tokens ss) e in
        let t = first_term depth (selector_token s) (tokens ss) in
        let same = ap₂ (λ (n m : ℕ). terms_from n m (tokens ss)) there.1 (there.2 ∙ ap suc (close_same ss)) in
        let w : Walk 2 cs (t ∷ terms_from depth (suc j) (tokens ss)) [] = subst (λ ts. Walk 2 cs (t ∷ ts) []) same walk in
        let behind_ : ends_called c.behind ≡ false =
        ap ends_called (sym (drop_next j ss c.closing c.behind c.there)) ∙ later depth (suc j) (closers_behind t.argument t.kind cs) (subst (AllByRecursion Fits) same fits.1) w.2 in
        let closing_ : ends_called (c.closing ∷ c.behind) ≡ false = ends_next c.closing c.behind (ap is_function (sign_is c.closing.kind close_round c.closes)) behind_ in
        some_more ss (ends_drop j ss c.closing c.behind c.there ∙ closing_) a.closed
      where
        some_more : (ss : List Solid) → ends_called ss ≡ false → list_any is_closing ss ≡ true → ends_called (s ∷ ss) ≡ false
        some_more [] later closed = absurd (false≢true closed)
        some_more (u ∷ us) later closed = later

pub ends_uncalled : (ss : List Solid) → AllByRecursion Fits (terms_from 0 0 (tokens ss)) → Walk 2 [] (terms_from 0 0 (tokens ss)) [] → ends_called ss ≡ false
ends_uncalled ss fits walk = ends ss 0 0 [] fits walk
