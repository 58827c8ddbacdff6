-- The tokens of an at-rule that has a block.
use Rattle.std.proofs.Common.{◌≡◌, ℕ, suc, ◌+◌, Bool, true, false, List, [], ◌∷◌, ◌++◌, length, drop, refl, sym, ◌∙◌, ap, arith}
use Rattle.std.specs.Prelude.{◌&&◌, ◌||◌}
use Rattle.std.specs.List.{list_any, position_or_len}
use Rattle.std.proofs.lemmas.Bool.{and_parts, cond-true, cond-false, eqb-true, false≢true}
use Rattle.std.proofs.lemmas.List.{length-append}
use Rattle.css_model.specs.declared.token.Lexeme.{Lexeme}
use Rattle.css_model.specs.declared.token.TokenKind.{TokenKind}
use Rattle.css_model.specs.declared.token.TokenKind.TheVariants as kind
use Rattle.css_model.specs.Sheets.Items.{closes_block, end_len, ends_prelude, is_at_keyword, is_at_rule, item_len, opens_block}
use Rattle.css_model.specs.Sheets.Sheet.{is_at_rule_named}
use Rattle.css_model.specs.Text.Characters.{open_curly, semicolon}
use Rattle.css_model.specs.Text.Lexemes.{is_sign_at, is_sign_of, opens}
use Rattle.list_facts.proofs.Cuts.{None_of, position_here, position_later}
use Rattle.media_groups.specs.Opened.{body_end, body_of}
use Rattle.print_laws.proofs.ForCallers.{AreLeveled, length-none, open_behind}

-- a list at its first element that passes a test
pub record FirstOf {A : Type 0} (p : A → Bool) (xs : List A) : Type 0 where
  pub front : List A
  pub first : A
  pub rest : List A
  pub are : xs ≡ front ++ first ∷ rest
  pub none : None_of p front
  pub passes : p first ≡ true

pub first_of : {A : Type 0} (p : A → Bool) (xs : List A) → list_any p xs ≡ true → FirstOf p xs
first_of p [] some = absurd (false≢true some)
first_of p (x ∷ xs) some = which (p x) refl (λ (s : list_any p xs ≡ true). first_of p xs s)
  where
    which : (b : Bool) → p x ≡ b → (list_any p xs ≡ true → FirstOf p xs) → FirstOf p (x ∷ xs)
    which true is later = record { front = []; first = x; rest = xs; are = refl; none = tt; passes = is }
    which false is later =
        let f = later (ap (λ (b : Bool). b || list_any p xs) (sym is) ∙ some) in
        record { front = x ∷ f.front; first = f.first; rest = f.rest; are = ap (λ (ys : List _). x ∷ ys) f.are; none = (is, f.none); passes = f.passes }

-- An item that is as long as its end tells has no end before its block.
pub no_end_before : (a : Bool) (front : List Lexeme) (open_ : Lexeme) (rest : List Lexeme) → None_of opens_block front
    → position_or_len (ends_prelude a) (front ++ open_ ∷ rest) + end_len (drop (position_or_len (ends_prelude a) (front ++ open_ ∷ rest)) (front ++ open_ ∷ rest)) ≡ length (front ++ open_ ∷ rest)
    → None_of (ends_prelude a) front
no_end_before a [] open_ rest none size = tt
no_end_before a (x ∷ front) open_ rest (here, none) size = which (a && is_sign_at semicolon 0 x) refl (λ later. no_end_before a front open_ rest none later)
  where
    test : (b : Bool) → (a && is_sign_at semicolon 0 x) ≡ b → ends_prelude a x ≡ b
    test b is = ap (λ (o : Bool). o || (a && is_sign_at semicolon 0 x)) here ∙ is

    which : (b : Bool) → (a && is_sign_at semicolon 0 x) ≡ b
        → (position_or_len (ends_prelude a) (front ++ open_ ∷ rest) + end_len (drop (position_or_len (ends_prelude a) (front ++ open_ ∷ rest)) (front ++ open_ ∷ rest)) ≡ length (front ++ open_ ∷ rest) → None_of (ends_prelude a) front)
        → None_of (ends_prelude a) (x ∷ front)
    which true is later =
        let at : position_or_len (ends_prelude a) (x ∷ front ++ open_ ∷ rest) ≡ 0 = position_here (ends_prelude a) x (front ++ open_ ∷ rest) (test true is) in
        let one : end_len (x ∷ front ++ open_ ∷ rest) ≡ 1 = cond-false _ _ _ here in
        let whole : 0 + end_len (x ∷ front ++ open_ ∷ rest) ≡ length (x ∷ front ++ open_ ∷ rest) =
        ap (λ (n : ℕ). n + end_len (drop n (x ∷ front ++ open_ ∷ rest))) (sym at) ∙ size in
        absurd (omega (arith, whole, one, length-append front (open_ ∷ rest)))
    which false is later =
        let n = position_or_len (ends_prelude a) (front ++ open_ ∷ rest) in
        let at : position_or_len (ends_prelude a) (x ∷ front ++ open_ ∷ rest) ≡ suc n = position_later (ends_prelude a) x (front ++ open_ ∷ rest) (test false is) in
        let whole : suc n + end_len (drop n (front ++ open_ ∷ rest)) ≡ length (x ∷ front ++ open_ ∷ rest) =
        ap (λ (m : ℕ). m + end_len (drop m (x ∷ front ++ open_ ∷ rest))) (sym at) ∙ size in
        (test false is, later (omega (arith, whole)))

body_ends : (at : ℕ) (inner : List Lexeme) (close : Lexeme) (rest : List Lexeme) → None_of closes_block inner → closes_block close ≡ true → body_end at (inner ++ close ∷ rest) ≡ close.span.start
body_ends at [] close rest stays closes = cond-true _ _ _ closes
body_ends at (x ∷ inner) close rest (here, stays) closes = cond-false _ _ _ here ∙ body_ends x.span.«end» inner close rest stays closes

pub body_is : (front : List Lexeme) (open_ : Lexeme) (inner : List Lexeme) (close : Lexeme) (rest : List Lexeme) → None_of opens_block front → opens_block open_ ≡ true → None_of closes_block inner → closes_block close ≡ true
    → body_of (front ++ open_ ∷ (inner ++ close ∷ rest)) ≡ record { start = open_.span.«end»; «end» = close.span.start }
body_is [] open_ inner close rest none opens stays closes =
    cond-true _ _ _ opens ∙ ap (λ (n : ℕ). record { start = open_.span.«end»; «end» = n }) (body_ends open_.span.«end» inner close rest stays closes)
body_is (x ∷ front) open_ inner close rest (here, none) opens stays closes = cond-false _ _ _ here ∙ body_is front open_ inner close rest none opens stays closes

pub sign_is : (b level : ℕ) (x : Lexeme) → is_sign_at b level x ≡ true → x.kind ≡ kind.Sign b
sign_is b level x is = at x.kind (and_parts (is_sign_of b x.kind) _ is).0
  where
    at : (k : TokenKind) → is_sign_of b k ≡ true → k ≡ kind.Sign b
    at (kind.Sign c) is = ap kind.Sign (eqb-true c b is)
    at _ is = absurd (false≢true is)

-- what an at-rule's first token tells, it tells before its block
pub at_rule_of : (word source : List ℕ) (xs : List Lexeme) → is_at_rule_named word source xs ≡ true → is_at_rule xs ≡ true
at_rule_of word source [] named = absurd (false≢true named)
at_rule_of word source (x ∷ xs) named = (and_parts (is_at_rule (x ∷ xs)) _ named).0

no_keyword : (x : Lexeme) → opens_block x ≡ true → is_at_keyword x.kind ≡ false
no_keyword x opens = ap is_at_keyword (sign_is open_curly 0 x opens)

pub front_named : (word source : List ℕ) (front : List Lexeme) (open_ : Lexeme) (rest : List Lexeme) → opens_block open_ ≡ true → is_at_rule_named word source (front ++ open_ ∷ rest) ≡ true → is_at_rule_named word source front ≡ true
front_named word source [] open_ rest opens named = absurd (false≢true (sym (no_keyword open_ opens) ∙ at_rule_of word source (open_ ∷ rest) named))
front_named word source (x ∷ front) open_ rest opens named = named

pub at_rule_len : (front : List Lexeme) (open_ : Lexeme) (rest : List Lexeme) → is_at_rule front ≡ true
    → item_len (front ++ open_ ∷ rest) ≡ position_or_len (ends_prelude true) (front ++ open_ ∷ rest) + end_len (drop (position_or_len (ends_prelude true) (front ++ open_ ∷ rest)) (front ++ open_ ∷ rest))
at_rule_len [] open_ rest is = absurd (false≢true is)
at_rule_len (x ∷ front) open_ rest is =
    ap (λ (a : Bool). position_or_len (ends_prelude a) (x ∷ front ++ open_ ∷ rest) + end_len (drop (position_or_len (ends_prelude a) (x ∷ front ++ open_ ∷ rest)) (x ∷ front ++ open_ ∷ rest))) is

-- tokens of which the first stands inside no bracket
pub outer_level : (cs : List ℕ) (front : List Lexeme) (x : Lexeme) (more : List Lexeme) → AreLeveled [] front → (rest : List Lexeme) → AreLeveled (open_behind [] front) (x ∷ rest) → AreLeveled cs (front ++ x ∷ more) → cs ≡ []
outer_level cs [] x more first rest here there = length-none cs (sym there.1 ∙ here.1)
outer_level cs (y ∷ front) x more first rest here there = length-none cs (sym there.1 ∙ first.1)
