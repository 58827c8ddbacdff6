-- The items of balanced tokens.
use Rattle.std.proofs.Common.{ℕ, zero, suc, ◌+◌, ◌<◌, ◌≡◌, Bool, true, false, cond, ◌&&◌, ◌==◌, List, [], ◌∷◌, ◌++◌, Option, Some, length, take, drop, refl, sym, ap, ◌∙◌, arith, append_assoc}
use Rattle.std.specs.List.{list_any, position_or_len}
use Rattle.std.proofs.lemmas.Bool.{and_from, and_left, and_parts, and_right, eqb-true, false≢true, ne_eqb, or_from, or_left, or_parts, or_right}
use Rattle.std.proofs.lemmas.List.{append-nil, drop_all, drop_at, length-append, take_at}
use Rattle.css_model.specs.declared.token.Lexeme.{Lexeme}
use Rattle.css_model.specs.declared.token.TokenKind.{TokenKind}
use Rattle.css_model.specs.declared.token.TokenKind.TheVariants as kind
use Rattle.css_model.specs.Lists.{less_one}
use Rattle.css_model.specs.Sheets.Items.{closes_block, end_len, ends_prelude, is_at_keyword, is_at_rule, is_between_items, is_whole, item_len, items, items_from, opens_block}
use Rattle.css_model.specs.Text.Characters.{close_curly, open_curly, semicolon}
use Rattle.css_model.specs.Text.Lexemes.{is_sign_at, is_sign_of}
use Rattle.list_facts.proofs.Cuts.{None_of, none_append, position_at, position_later}
use Rattle.sheet_grammar.specs.Items.{IsAtRule, IsBlock, IsPrelude, begins_between}
use Rattle.sheet_grammar.specs.Items.IsAtRule.{with_block, with_semicolon, at_end}
use Rattle.sheet_grammar.specs.Items.IsBlock.{block as a_block}
use Rattle.sheet_grammar.specs.Values.{AreValues, closes_around}
use Rattle.sheet_grammar.specs.Values.AreValues.{nothing, single, block}

-- ---- tests on lists

pub none_of_any : (p : Lexeme → Bool) (xs : List Lexeme) → list_any p xs ≡ false → None_of p xs
none_of_any p [] is = tt
none_of_any p (x ∷ xs) is = let two = or_parts (p x) (list_any p xs) is in (two.0, none_of_any p xs two.1)

pub any_of_none : (p : Lexeme → Bool) (xs : List Lexeme) → None_of p xs → list_any p xs ≡ false
any_of_none p [] none = refl
any_of_none p (x ∷ xs) none = or_from (p x) (list_any p xs) none.0 (any_of_none p xs none.1)

position_none : (p : Lexeme → Bool) (xs : List Lexeme) → None_of p xs → position_or_len p xs ≡ length xs
position_none p [] none = refl
position_none p (x ∷ xs) none = position_later p x xs none.0 ∙ ap suc (position_none p xs none.1)

any_behind : (p : Lexeme → Bool) (xs : List Lexeme) (y : Lexeme) (ys : List Lexeme) → p y ≡ true → list_any p (xs ++ y ∷ ys) ≡ true
any_behind p [] y ys is = or_left (p y) (list_any p ys) is
any_behind p (x ∷ xs) y ys is = or_right (p x) (list_any p (xs ++ y ∷ ys)) (any_behind p xs y ys is)

-- ---- depths

other_level : (b n depth : ℕ) (x : Lexeme) → x.level ≡ depth → n < depth → is_sign_at b n x ≡ false
other_level b n depth x level deep = and_right (is_sign_of b x.kind) (x.level == n) (ne_eqb x.level n (λ e. absurd (omega (arith, level, deep, e))))

-- no sign of a lesser depth is among values
pub none_above : (around : Option ℕ) (depth : ℕ) (xs : List Lexeme) → AreValues around depth xs → (b n : ℕ) → n < depth → None_of (is_sign_at b n) xs
none_above around depth xs (nothing a d) b n deep = tt
none_above around depth xs (single a d x rest no_open no_close level later) b n deep = (other_level b n d x level deep, none_above a d rest later b n deep)
none_above around depth xs (block a d c x y inside rest no_close opening level values closing deeper later) b n deep = (
  other_level b n d x level deep,
  none_append (is_sign_at b n) inside (y ∷ rest) (none_above (Some c) (suc d) inside values b n (omega (arith, deep)))
      (other_level b n (suc d) y deeper (omega (arith, deep)), none_above a d rest later b n deep),
)

-- nor the closer of the bracket around them
pub none_closes : (around : Option ℕ) (depth : ℕ) (xs : List Lexeme) → AreValues around depth xs → (c : ℕ) → around ≡ Some c → None_of (is_sign_at c depth) xs
none_closes around depth xs (nothing a d) c e = tt
none_closes around depth xs (single a d x rest no_open no_close level later) c e =
    (and_left (is_sign_of c x.kind) (x.level == d) (ap (λ (o : Option ℕ). closes_around o x.kind) (sym e) ∙ no_close), none_closes a d rest later c e)
none_closes around depth xs (block a d k x y inside rest no_close opening level values closing deeper later) c e = (
  and_left (is_sign_of c x.kind) (x.level == d) (ap (λ (o : Option ℕ). closes_around o x.kind) (sym e) ∙ no_close),
  none_append (is_sign_at c d) inside (y ∷ rest) (none_above (Some k) (suc d) inside values c d (omega arith))
      (other_level c d (suc d) y deeper (omega arith), none_closes a d rest later c e),
)

pub no_ends : (at : Bool) (xs : List Lexeme) → None_of (is_sign_at open_curly 0) xs → None_of (is_sign_at semicolon 0) xs → None_of (ends_prelude at) xs
no_ends at [] blocks semicolons = tt
no_ends at (x ∷ xs) blocks semicolons =
    (or_from (opens_block x) (at && is_sign_at semicolon 0 x) blocks.0 (and_right at (is_sign_at semicolon 0 x) semicolons.0), no_ends at xs blocks.1 semicolons.1)

-- ---- how long an item is

items_from-drop : (left : ℕ) (xs : List Lexeme) → items_from left xs ≡ items (drop left xs)
items_from-drop zero xs = refl
items_from-drop (suc left) [] = refl
items_from-drop (suc left) (x ∷ xs) = items_from-drop left xs

-- an item and those after it
pub items_step : (item rest : List Lexeme) → 0 < length item → begins_between item ≡ false → item_len (item ++ rest) ≡ length item → items (item ++ rest) ≡ item ∷ items rest
items_step [] rest some first len = absurd (omega (arith, some))
items_step (x ∷ xs) rest some first len =
    let whole = x ∷ (xs ++ rest) in
    let shown : items whole ≡ take (item_len whole) whole ∷ items_from (less_one (item_len whole)) (xs ++ rest) =
    ap (λ (b : Bool). cond b (items_from 0 (xs ++ rest)) (take (item_len whole) whole ∷ items_from (less_one (item_len whole)) (xs ++ rest))) first in
    shown
    ∙ (ap (λ (n : ℕ). take n whole ∷ items_from (less_one n) (xs ++ rest)) len
    ∙ (ap (λ (t : List Lexeme). t ∷ items_from (length xs) (xs ++ rest)) (take_at (x ∷ xs) rest (suc (length xs)) refl)
    ∙ ap (λ (t : List (List Lexeme)). (x ∷ xs) ∷ t) (items_from-drop (length xs) (xs ++ rest) ∙ ap items (drop_at xs rest (length xs) refl))))

pub between_step : (x : Lexeme) (rest : List Lexeme) → is_between_items x.kind ≡ true → items (x ∷ rest) ≡ items rest
between_step x rest is =
    ap (λ (b : Bool). cond b (items_from 0 rest) (take (item_len (x ∷ rest)) (x ∷ rest) ∷ items_from (less_one (item_len (x ∷ rest))) rest)) is

-- ---- what an item of the grammar is read as

pub record ItemFact (item rest : List Lexeme) : Type 0 where
  pub some : 0 < length item
  pub first : begins_between item ≡ false
  pub len : item_len (item ++ rest) ≡ length item
  pub whole : is_whole item ≡ true

sign_no_keyword : (b : ℕ) (k : TokenKind) → is_sign_of b k ≡ true → is_at_keyword k ≡ false
sign_no_keyword b kind.AtKeyword is = absurd (false≢true is)
sign_no_keyword b _ is = refl

sign_no_between : (b : ℕ) (k : TokenKind) → is_sign_of b k ≡ true → is_between_items k ≡ false
sign_no_between b kind.CommentOpen is = absurd (false≢true is)
sign_no_between b kind.CommentClose is = absurd (false≢true is)
sign_no_between b _ is = refl

pub sign_at : (b n : ℕ) (x : Lexeme) → is_sign_at b n x ≡ true → is_sign_of b x.kind ≡ true
sign_at b n x is = (and_parts (is_sign_of b x.kind) (x.level == n) is).0

-- a sign after a prelude does not change how it begins
pub flag_front : (prelude : List Lexeme) (x : Lexeme) (more : List Lexeme) (b : ℕ) → is_sign_of b x.kind ≡ true → is_at_rule (prelude ++ x ∷ more) ≡ is_at_rule prelude
flag_front [] x more b is = sign_no_keyword b x.kind is
flag_front (y ∷ ys) x more b is = refl

pub between_front : (prelude : List Lexeme) (x : Lexeme) (more : List Lexeme) (b : ℕ) → is_sign_of b x.kind ≡ true → begins_between (prelude ++ x ∷ more) ≡ begins_between prelude
between_front [] x more b is = sign_no_between b x.kind is
between_front (y ∷ ys) x more b is = refl

item_len_is : (xs : List Lexeme) (n : ℕ) → 0 < length xs → position_or_len (ends_prelude (is_at_rule xs)) xs ≡ n → item_len xs ≡ n + end_len (drop n xs)
item_len_is [] n some is = absurd (omega (arith, some))
item_len_is (x ∷ xs) n some is = ap (λ (n : ℕ). n + end_len (drop n (x ∷ xs))) is

-- a prelude before what ends it
ended_len : (prelude : List Lexeme) (x : Lexeme) (more : List Lexeme) (b : ℕ) → IsPrelude prelude → is_sign_of b x.kind ≡ true → ends_prelude (is_at_rule prelude) x ≡ true
    → item_len (prelude ++ x ∷ more) ≡ length prelude + end_len (x ∷ more)
ended_len prelude x more b p is ends =
    let text = prelude ++ x ∷ more in
    let flag = flag_front prelude x more b is in
    let place : position_or_len (ends_prelude (is_at_rule text)) text ≡ length prelude =
    ap (λ (f : Bool). position_or_len (ends_prelude f) text) flag
    ∙ position_at (ends_prelude (is_at_rule prelude)) prelude x more (none_of_any (ends_prelude (is_at_rule prelude)) prelude p.apart) ends in
    item_len_is text (length prelude) (omega (arith, length-append prelude (x ∷ more))) place
    ∙ ap (λ (t : List Lexeme). length prelude + end_len t) (drop_at prelude (x ∷ more) (length prelude) refl)

-- a block after a prelude
pub block_fact : (item rest prelude text inside : List Lexeme) → item ≡ prelude ++ text → IsPrelude prelude → IsBlock text inside → ItemFact item rest
block_fact item rest prelude text inside joined p (a_block x y e opening values closing) =
    let sign = sign_at open_curly 0 x opening in
    let whole : item ++ rest ≡ prelude ++ x ∷ (inside ++ y ∷ rest) =
    ap (λ (t : List Lexeme). t ++ rest) (joined ∙ ap (λ (t : List Lexeme). prelude ++ t) e)
    ∙ (append_assoc prelude (x ∷ (inside ++ y ∷ [])) rest ∙ ap (λ (t : List Lexeme). prelude ++ x ∷ t) (append_assoc inside (y ∷ []) rest)) in
    let ends : ends_prelude (is_at_rule prelude) x ≡ true = or_left (opens_block x) (is_at_rule prelude && is_sign_at semicolon 0 x) opening in
    let inner : position_or_len closes_block (inside ++ y ∷ rest) ≡ length inside = position_at closes_block inside y rest (none_closes (Some close_curly) 1 inside values close_curly refl) closing in
    let last : end_len (x ∷ (inside ++ y ∷ rest)) ≡ 2 + length inside =
    ap (λ (b : Bool). cond b (2 + position_or_len closes_block (inside ++ y ∷ rest)) 1) opening ∙ ap (λ (n : ℕ). 2 + n) inner in
    let size : length item ≡ length prelude + suc (length inside + 1) =
    ap (λ (t : List Lexeme). length t) (joined ∙ ap (λ (t : List Lexeme). prelude ++ t) e)
    ∙ (length-append prelude (x ∷ (inside ++ y ∷ [])) ∙ ap (λ (n : ℕ). length prelude + suc n) (length-append inside (y ∷ []))) in
    let shown : item ≡ prelude ++ x ∷ (inside ++ y ∷ []) = joined ∙ ap (λ (t : List Lexeme). prelude ++ t) e in
    record {
      some = omega (arith, size);
      first = ap begins_between shown ∙ (between_front prelude x (inside ++ y ∷ []) open_curly sign ∙ p.first);
      len = ap item_len whole ∙ (ended_len prelude x (inside ++ y ∷ rest) open_curly p sign ends ∙ omega (arith, last, size));
      whole = or_right (is_at_rule item) (list_any opens_block item) (ap (list_any opens_block) shown ∙ any_behind opens_block prelude x (inside ++ y ∷ []) opening);
    }

semicolon_no_block : (x : Lexeme) → is_sign_at semicolon 0 x ≡ true → opens_block x ≡ false
semicolon_no_block x is = and_left (is_sign_of open_curly x.kind) (x.level == 0) (by x.kind (sign_at semicolon 0 x is))
  where
    by : (k : TokenKind) → is_sign_of semicolon k ≡ true → is_sign_of open_curly k ≡ false
    by (kind.Sign c) e = ap (λ (c : ℕ). c == open_curly) (eqb-true c semicolon e)
    by _ e = absurd (false≢true e)

-- a prelude at the end
pub ended_here : (xs : List Lexeme) → IsPrelude xs → 0 < length xs → item_len xs ≡ length xs
ended_here xs p some =
    item_len_is xs (length xs) some (position_none (ends_prelude (is_at_rule xs)) xs (none_of_any (ends_prelude (is_at_rule xs)) xs p.apart))
    ∙ (ap (λ (t : List Lexeme). length xs + end_len t) (drop_all (length xs) xs (omega arith)) ∙ omega arith)

pub at_rule_fact : (item rest : List Lexeme) → IsAtRule item rest → ItemFact item rest
at_rule_fact item rest (with_block prelude text inside joined flag p is) = block_fact item rest prelude text inside joined p is
at_rule_fact item rest (with_semicolon prelude y joined flag p is) =
    let sign = sign_at semicolon 0 y is in
    let whole : item ++ rest ≡ prelude ++ y ∷ rest = ap (λ (t : List Lexeme). t ++ rest) joined ∙ append_assoc prelude (y ∷ []) rest in
    let ends : ends_prelude (is_at_rule prelude) y ≡ true =
    or_right (opens_block y) (is_at_rule prelude && is_sign_at semicolon 0 y) (and_from (is_at_rule prelude) (is_sign_at semicolon 0 y) flag is) in
    let last : end_len (y ∷ rest) ≡ 1 = ap (λ (b : Bool). cond b (2 + position_or_len closes_block rest) 1) (semicolon_no_block y is) in
    let size : length item ≡ length prelude + 1 = ap (λ (t : List Lexeme). length t) joined ∙ length-append prelude (y ∷ []) in
    record {
      some = omega (arith, size);
      first = ap begins_between joined ∙ (between_front prelude y [] semicolon sign ∙ p.first);
      len = ap item_len whole ∙ (ended_len prelude y rest semicolon p sign ends ∙ omega (arith, last, size));
      whole = or_left (is_at_rule item) (list_any opens_block item) (ap is_at_rule joined ∙ (flag_front prelude y [] semicolon sign ∙ flag));
    }
at_rule_fact item rest (at_end flag p end) =
    let whole : item ++ rest ≡ item = ap (λ (t : List Lexeme). item ++ t) end ∙ append-nil item in
    record { some = some item flag; first = p.first; len = ap item_len whole ∙ ended_here item p (some item flag); whole = or_left (is_at_rule item) (list_any opens_block item) flag }
  where
    some : (xs : List Lexeme) → is_at_rule xs ≡ true → 0 < length xs
    some [] is = absurd (false≢true is)
    some (x ∷ xs) is = omega arith
