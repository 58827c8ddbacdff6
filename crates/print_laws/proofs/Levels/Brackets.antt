-- The brackets that are open at each token of a source: the items, the entries of a block and the values of
-- declarations close what they open.
use Rattle.std.proofs.Common.{◌≡◌, ◌≢◌, ◌⊎◌, inl, inr, ℕ, suc, ◌+◌, ◌==◌, Bool, true, false, cond, List, [], ◌∷◌, ◌++◌, length, drop, Option, Some, None, refl, sym, ◌∙◌, ap, subst, arith}
use Rattle.std.specs.Prelude.{⊤, ◌&&◌, ◌||◌}
use Rattle.std.specs.List.{AllByRecursion, position_or_len}
use Rattle.std.proofs.lemmas.Bool.{false≢true, true≢false, and_parts, eqb-true, eq-eqb, cond-true, cond-false}
use Rattle.std.proofs.lemmas.List.{append-nil, append_assoc, length-append}
use Rattle.std.proofs.Math.Seq.{drop-append_seam, drop-length}
use Rattle.css_model.specs.declared.token.Bracket.{Bracket}
use Rattle.css_model.specs.declared.token.Lexeme.{Lexeme}
use Rattle.css_model.specs.declared.token.Token.{Token}
use Rattle.css_model.specs.declared.token.TokenKind.{TokenKind}
use Rattle.css_model.specs.declared.token.TokenKind.TheVariants as kind
use Rattle.css_model.specs.Text.Characters.{semicolon, open_curly, close_curly}
use Rattle.css_model.specs.Sheets.Items.{closes_block, end_len, ends_prelude, opens_block}
use Rattle.css_model.specs.Text.Lexemes.{after, after_all, closer_of, closes, opened, is_sign_at, is_sign_of, is_white_kind, lexeme, lexemes_in}
use Rattle.print_laws.proofs.Tokens.Parts.{closers_after, closers_of, closers-same, length-closers, opened_by}

-- tokens inside brackets that these signs close, each at its level
abbrev pub AreLeveled : List ℕ → List Lexeme → Type 0
AreLeveled cs [] = ⊤
AreLeveled cs (x ∷ xs) = (is_white_kind x.kind ≡ false) × (x.level ≡ length cs) × AreLeveled (closers_after x.kind cs) xs

-- what is open behind them
abbrev pub open_behind : List ℕ → List Lexeme → List ℕ
open_behind cs [] = cs
open_behind cs (x ∷ xs) = open_behind (closers_after x.kind cs) xs

pub lexemes-leveled : (brackets : List Bracket) (ts : List Token) → AreLeveled (closers_of brackets) (lexemes_in brackets ts)
lexemes-leveled brackets [] = tt
lexemes-leveled brackets (t ∷ ts) = which (is_white_kind t.kind) refl (λ bs. lexemes-leveled bs ts)
  where
    which : (b : Bool) → is_white_kind t.kind ≡ b → ((bs : List Bracket) → AreLeveled (closers_of bs) (lexemes_in bs ts))
        → AreLeveled (closers_of brackets) (cond b (lexemes_in brackets ts) (lexeme (length brackets) t ts ∷ lexemes_in (after t brackets) ts))
    which true is later = later brackets
    which false is later = (
      is,
      sym (length-closers brackets),
      subst (λ cs. AreLeveled cs (lexemes_in (after t brackets) ts)) (closers-same t.kind t.span t.comment_before brackets) (later (after t brackets)),
    )

white-after : (k : TokenKind) → is_white_kind k ≡ true → (at : ℕ) (brackets : List Bracket)
    → cond (closes k brackets) (drop 1 brackets) (opened at (closer_of k) brackets) ≡ brackets
white-after kind.White is at [] = refl
white-after kind.White is at (b ∷ brackets) = refl
white-after _ is at brackets = absurd (false≢true is)

pub lexemes-open : (brackets : List Bracket) (ts : List Token) → open_behind (closers_of brackets) (lexemes_in brackets ts) ≡ closers_of (after_all brackets ts)
lexemes-open brackets [] = refl
lexemes-open brackets (t ∷ ts) = which (is_white_kind t.kind) refl (λ bs. lexemes-open bs ts)
  where
    which : (b : Bool) → is_white_kind t.kind ≡ b → ((bs : List Bracket) → open_behind (closers_of bs) (lexemes_in bs ts) ≡ closers_of (after_all bs ts))
        → open_behind (closers_of brackets) (cond b (lexemes_in brackets ts) (lexeme (length brackets) t ts ∷ lexemes_in (after t brackets) ts)) ≡ closers_of (after_all (after t brackets) ts)
    which true is later = later brackets ∙ ap (λ bs. closers_of (after_all bs ts)) (sym (white-after t.kind is t.span.start brackets))
    which false is later = ap (λ cs. open_behind cs (lexemes_in (after t brackets) ts)) (sym (closers-same t.kind t.span t.comment_before brackets)) ∙ later (after t brackets)

pub leveled-append : (cs : List ℕ) (xs ys : List Lexeme) → AreLeveled cs (xs ++ ys) → AreLeveled cs xs × AreLeveled (open_behind cs xs) ys
leveled-append cs [] ys h = (tt, h)
leveled-append cs (x ∷ xs) ys (solid, level, h) = let both = leveled-append (closers_after x.kind cs) xs ys h in ((solid, level, both.0), both.1)

pub open-append : (cs : List ℕ) (xs ys : List Lexeme) → open_behind cs (xs ++ ys) ≡ open_behind (open_behind cs xs) ys
open-append cs [] ys = refl
open-append cs (x ∷ xs) ys = open-append (closers_after x.kind cs) xs ys

-- in brackets of which the outermost is a `{`
abbrev pub IsInBlock : List ℕ → Type 0
IsInBlock cs = (inner : List ℕ) × (cs ≡ inner ++ close_curly ∷ [])

pub length-none : (cs : List ℕ) → length cs ≡ 0 → cs ≡ []
length-none [] e = refl
length-none (c ∷ cs) e = absurd (omega (arith, e))

-- at level 1 the `{` alone is open
pub one-open : (cs : List ℕ) → IsInBlock cs → length cs ≡ 1 → cs ≡ close_curly ∷ []
one-open cs ([], is) e = is
one-open cs (c ∷ inner, is) e = absurd (let n : length cs ≡ length (c ∷ inner ++ close_curly ∷ []) = ap length is in omega (arith, n, e, length-append inner (close_curly ∷ [])))

-- a token that does not close it leaves it open
pub stays-in : (x : Lexeme) (cs : List ℕ) → IsInBlock cs → x.level ≡ length cs → closes_block x ≡ false → IsInBlock (closers_after x.kind cs)
stays-in x cs (inner, is) level stays = subst (λ signs. IsInBlock (closers_after x.kind signs)) (sym is) (from inner (level ∙ ap length is))
  where
    push : (o : Option ℕ) (inner : List ℕ) → IsInBlock (opened_by o (inner ++ close_curly ∷ []))
    push None inner = (inner, refl)
    push (Some c) inner = (c ∷ inner, refl)

    outer : (b : Bool) → b ≡ false → (o : Option ℕ) → IsInBlock (cond b [] (opened_by o (close_curly ∷ [])))
    outer true e o = absurd (true≢false e)
    outer false e o = push o []

    within : (b : Bool) (o : Option ℕ) (c : ℕ) (inner : List ℕ) → IsInBlock (cond b (inner ++ close_curly ∷ []) (opened_by o (c ∷ (inner ++ close_curly ∷ []))))
    within true o c inner = (inner, refl)
    within false o c inner = push o (c ∷ inner)

    from : (inner : List ℕ) → x.level ≡ length (inner ++ close_curly ∷ []) → IsInBlock (closers_after x.kind (inner ++ close_curly ∷ []))
    from [] at = outer (is_sign_of close_curly x.kind) (no_close (is_sign_of close_curly x.kind) (x.level == 1) (eq-eqb x.level 1 at) stays) (closer_of x.kind)
      where
        no_close : (a b : Bool) → b ≡ true → a && b ≡ false → a ≡ false
        no_close true b e f = absurd (true≢false (sym e ∙ f))
        no_close false b e f = refl
    from (c ∷ rest) at = within (is_sign_of c x.kind) (closer_of x.kind) c rest

some-in : (cs : List ℕ) → IsInBlock cs → cs ≢ []
some-in cs (inner, is) none = absurd (let e : length cs ≡ length (inner ++ close_curly ∷ []) = ap length is in let n : length cs ≡ 0 = ap length none in omega (arith, e, n, length-append inner (close_curly ∷ [])))

-- tokens up to and with the one that closes a block, and those behind it
pub record Closed (cs : List ℕ) (xs : List Lexeme) : Type 0 where
  pub front : List Lexeme
  pub close : Lexeme
  pub rest : List Lexeme
  pub are : xs ≡ front ++ close ∷ rest
  pub at : position_or_len closes_block xs ≡ length front
  pub closes : closes_block close ≡ true
  pub block : open_behind cs front ≡ close_curly ∷ []
  pub none : closers_after close.kind (close_curly ∷ []) ≡ []
  pub stays : AllByRecursion (λ x. closes_block x ≡ false) front

-- a block that is closed in the end is closed by the first `}` at its level
pub block-closes : (cs : List ℕ) (xs : List Lexeme) → IsInBlock cs → AreLeveled cs xs → open_behind cs xs ≡ [] → Closed cs xs
block-closes cs [] inside leveled ended = absurd (some-in cs inside ended)
block-closes cs (x ∷ xs) inside (solid, level, leveled) ended = which (closes_block x) refl (λ i. block-closes (closers_after x.kind cs) xs i leveled ended)
  where
    which : (b : Bool) → closes_block x ≡ b → (IsInBlock (closers_after x.kind cs) → Closed (closers_after x.kind cs) xs) → Closed cs (x ∷ xs)
    which true is later =
        let both = and_parts (is_sign_of close_curly x.kind) (x.level == 1) is in
        let one : x.level ≡ 1 = eqb-true x.level 1 both.1 in
        record {
          front = [];
          close = x;
          rest = xs;
          are = refl;
          at = rw is refl;
          closes = is;
          block = one-open cs inside (sym level ∙ one);
          none = cond-true _ _ _ both.0;
          stays = tt;
        }
    which false is later =
        let c = later (stays-in x cs inside level is) in
        record {
          front = x ∷ c.front;
          close = c.close;
          rest = c.rest;
          are = ap (λ (ys : List Lexeme). x ∷ ys) c.are;
          at = rw is (let e = c.at in omega (arith, e));
          closes = c.closes;
          block = c.block;
          none = c.none;
          stays = (is, c.stays);
        }

-- the first token that passes a test, or none
pub record Found (p : Lexeme → Bool) (xs : List Lexeme) : Type 0 where
  pub front : List Lexeme
  pub first : Lexeme
  pub rest : List Lexeme
  pub are : xs ≡ front ++ first ∷ rest
  pub at : position_or_len p xs ≡ length front
  pub passes : p first ≡ true

pub found : (p : Lexeme → Bool) (xs : List Lexeme) → (position_or_len p xs ≡ length xs) ⊎ Found p xs
found p [] = inl refl
found p (x ∷ xs) = which (p x) refl (found p xs)
  where
    which : (b : Bool) → p x ≡ b → (position_or_len p xs ≡ length xs) ⊎ Found p xs → (position_or_len p (x ∷ xs) ≡ suc (length xs)) ⊎ Found p (x ∷ xs)
    which true is later = inr (record { front = []; first = x; rest = xs; are = refl; at = rw is refl; passes = is })
    which false is (inl none) = inl (rw is (omega (arith, none)))
    which false is (inr f) = inr (record { front = x ∷ f.front; first = f.first; rest = f.rest; are = ap (λ (ys : List Lexeme). x ∷ ys) f.are; at = rw is (let e = f.at in omega (arith, e)); passes = f.passes })

-- the item at the front of tokens, and those behind it
pub record Split (n : ℕ) (xs : List Lexeme) : Type 0 where
  pub item : List Lexeme
  pub rest : List Lexeme
  pub are : xs ≡ item ++ rest
  pub size : n ≡ length item
  pub ends : open_behind [] item ≡ []

level-none : (a : Bool) (y : Lexeme) → ends_prelude a y ≡ true → y.level ≡ 0
level-none a y e = which (opens_block y) refl e
  where
    which : (b : Bool) → opens_block y ≡ b → b || (a && is_sign_at semicolon 0 y) ≡ true → y.level ≡ 0
    which true is f = eqb-true y.level 0 (and_parts (is_sign_of open_curly y.kind) (y.level == 0) is).1
    which false is f = eqb-true y.level 0 (and_parts (is_sign_of semicolon y.kind) (y.level == 0) (and_parts a (is_sign_at semicolon 0 y) f).1).1

pub curly-opens : (k : TokenKind) → is_sign_of open_curly k ≡ true → closers_after k [] ≡ close_curly ∷ []
curly-opens (kind.Sign c) is = rw (eqb-true c open_curly is) refl
curly-opens _ is = absurd (false≢true is)

semicolon-stays : (k : TokenKind) → is_sign_of semicolon k ≡ true → closers_after k [] ≡ []
semicolon-stays (kind.Sign c) is = rw (eqb-true c semicolon is) refl
semicolon-stays _ is = absurd (false≢true is)

end-found : (a : Bool) (xs : List Lexeme) (f : Found (ends_prelude a) xs)
    → position_or_len (ends_prelude a) xs + end_len (drop (position_or_len (ends_prelude a) xs) xs) ≡ length f.front + end_len (f.first ∷ f.rest)
end-found a xs f =
    let behind : drop (length f.front) xs ≡ f.first ∷ f.rest = ap (λ (ys : List Lexeme). drop (length f.front) ys) f.are ∙ drop-append_seam f.front (f.first ∷ f.rest) in
    ap (λ (n : ℕ). n + end_len (drop n xs)) f.at ∙ ap (λ (ys : List Lexeme). length f.front + end_len ys) behind

split-found : (a : Bool) (xs : List Lexeme) → AreLeveled [] xs → open_behind [] xs ≡ [] → Found (ends_prelude a) xs
    → Split (position_or_len (ends_prelude a) xs + end_len (drop (position_or_len (ends_prelude a) xs) xs)) xs
split-found a xs leveled ended f =
    let front = f.front in let first = f.first in let rest = f.rest in
    let parts = leveled-append [] front (first ∷ rest) (subst (AreLeveled []) f.are leveled) in
    let open_ : open_behind [] front ≡ [] = length-none (open_behind [] front) (sym parts.1.1 ∙ level-none a first f.passes) in
    let behind : AreLeveled (closers_after first.kind []) rest = subst (λ cs. AreLeveled (closers_after first.kind cs) rest) open_ parts.1.2 in
    let all_ : open_behind (closers_after first.kind []) rest ≡ [] =
    sym (ap (open_behind []) f.are ∙ open-append [] front (first ∷ rest) ∙ ap (λ cs. open_behind cs (first ∷ rest)) open_) ∙ ended in
    by (opens_block first) refl open_ behind all_
  where
    goal : Type 0
    goal = Split (position_or_len (ends_prelude a) xs + end_len (drop (position_or_len (ends_prelude a) xs) xs)) xs

    by : (b : Bool) → opens_block f.first ≡ b → open_behind [] f.front ≡ [] → AreLeveled (closers_after f.first.kind []) f.rest → open_behind (closers_after f.first.kind []) f.rest ≡ []
        → Split (position_or_len (ends_prelude a) xs + end_len (drop (position_or_len (ends_prelude a) xs) xs)) xs
    by true is none behind all_ =
        let signs : closers_after f.first.kind [] ≡ close_curly ∷ [] = curly-opens f.first.kind (and_parts (is_sign_of open_curly f.first.kind) (f.first.level == 0) is).0 in
        let c = block-closes (close_curly ∷ []) f.rest ([], refl) (subst (λ cs. AreLeveled cs f.rest) signs behind) (ap (λ cs. open_behind cs f.rest) (sym signs) ∙ all_) in
        let inside = c.front ++ c.close ∷ [] in
        let here : open_behind [] (f.front ++ f.first ∷ inside) ≡ [] =
        open-append [] f.front (f.first ∷ inside) ∙ ap (λ cs. open_behind cs (f.first ∷ inside)) none ∙ ap (λ cs. open_behind cs inside) signs
        ∙ open-append (close_curly ∷ []) c.front (c.close ∷ []) ∙ ap (λ cs. open_behind cs (c.close ∷ [])) c.block ∙ c.none in
        let len : end_len (f.first ∷ f.rest) ≡ 2 + length c.front = cond-true _ _ _ is ∙ ap (λ (n : ℕ). 2 + n) c.at in
        record {
          item = f.front ++ f.first ∷ inside;
          rest = c.rest;
          are = f.are ∙ ap (λ (ys : List Lexeme). f.front ++ f.first ∷ ys) (c.are ∙ sym (append_assoc c.front (c.close ∷ []) c.rest)) ∙ sym (append_assoc f.front (f.first ∷ inside) c.rest);
          size = end-found a xs f ∙ (let e : length f.front + end_len (f.first ∷ f.rest) ≡ length (f.front ++ f.first ∷ inside) =
              omega (arith, len, length-append f.front (f.first ∷ inside), length-append c.front (c.close ∷ [])) in e);
          ends = here;
        }
    by false is none behind all_ =
        let stays : closers_after f.first.kind [] ≡ [] = semicolon-stays f.first.kind (and_parts (is_sign_of semicolon f.first.kind) (f.first.level == 0) (and_parts a (is_sign_at semicolon 0 f.first) (or_rest (opens_block f.first) _ is f.passes)).1).0 in
        record {
          item = f.front ++ f.first ∷ [];
          rest = f.rest;
          are = f.are ∙ sym (append_assoc f.front (f.first ∷ []) f.rest);
          size = end-found a xs f ∙ (let len : end_len (f.first ∷ f.rest) ≡ 1 = cond-false _ _ _ is in
              let e : length f.front + end_len (f.first ∷ f.rest) ≡ length (f.front ++ f.first ∷ []) = omega (arith, len, length-append f.front (f.first ∷ [])) in e);
          ends = open-append [] f.front (f.first ∷ []) ∙ ap (λ cs. open_behind cs (f.first ∷ [])) none ∙ stays;
        }
      where
        or_rest : (x y : Bool) → x ≡ false → x || y ≡ true → y ≡ true
        or_rest true y e g = absurd (true≢false e)
        or_rest false y e g = g

pub split-at : (a : Bool) (xs : List Lexeme) → AreLeveled [] xs → open_behind [] xs ≡ []
    → Split (position_or_len (ends_prelude a) xs + end_len (drop (position_or_len (ends_prelude a) xs) xs)) xs
split-at a xs leveled ended = which (found (ends_prelude a) xs)
  where
    which : (position_or_len (ends_prelude a) xs ≡ length xs) ⊎ Found (ends_prelude a) xs
        → Split (position_or_len (ends_prelude a) xs + end_len (drop (position_or_len (ends_prelude a) xs) xs)) xs
    which (inl none) = record {
      item = xs;
      rest = [];
      are = sym (append-nil xs);
      size = ap (λ (n : ℕ). n + end_len (drop n xs)) none ∙ ap (λ (ys : List Lexeme). length xs + end_len ys) (drop-length xs) ∙ (let e : length xs + 0 ≡ length xs = omega arith in e);
      ends = ended;
    }
    which (inr f) = split-found a xs leveled ended f
