-- The items of tokens, item by item.
use Rattle.std.proofs.Common.{◌≡◌, ℕ, suc, ◌+◌, Bool, true, false, not, List, [], ◌∷◌, ◌++◌, length, take, drop, refl, sym, ◌∙◌, ap, arith, append-nil}
use Rattle.std.proofs.lemmas.Bool.{false≢true, not-true}
use Rattle.std.proofs.Math.Seq.{take-append_seam}
use Rattle.std.specs.Prelude.{⊤, ◌&&◌, ◌||◌, if◌then◌else◌}
use Rattle.std.specs.List.{AllZip, position_or_len, before_first, after_first, slice_split, list_any}
use Rattle.css_model.specs.declared.token.Lexeme.{Lexeme}
use Rattle.css_model.specs.Text.Characters.{comma, semicolon, open_curly, close_curly}
use Rattle.css_model.specs.Sheets.Items.{is_at_keyword, is_between_items, opens_block, closes_block, ends_prelude, end_len, item_len, items_from, items, is_at_rule, selector_parts, entries}
use Rattle.css_model.specs.Text.Lexemes.{is_sign_at}
use Rattle.css_model.specs.Lists.{less_one}
use Rattle.sheet_laws.proofs.Shown.Alike.{IsLike, or_true}
use Rattle.list_facts.proofs.Cuts.{position_here, position_later, before_some, after_some, before_stop}
use Rattle.sheet_laws.proofs.Printed.Entries.{sign_like}
use Rattle.list_facts.proofs.Zips.{zip_position, zip_drop}

abbrev pub is_nil : List Lexeme → Bool
is_nil [] = true
is_nil (x ∷ xs) = false

-- the first token that closes a block is the last one
abbrev pub ends_with_block : List Lexeme → Bool
ends_with_block [] = false
ends_with_block (x ∷ xs) = if closes_block x then is_nil xs else ends_with_block xs

-- the first token that ends a prelude is the last one, or its block ends with the last one
abbrev pub ends_in : Bool → List Lexeme → Bool
ends_in prelude [] = false
ends_in prelude (x ∷ xs) = if opens_block x then ends_with_block xs else if prelude && is_sign_at semicolon 0 x then is_nil xs else ends_in prelude xs

-- an item that ends by itself, whatever follows
abbrev pub is_ended : List Lexeme → Bool
is_ended [] = false
is_ended (x ∷ xs) = ends_in (is_at_keyword x.kind) (x ∷ xs)

-- how many tokens an item has that begins with these
abbrev pub len_of : Bool → List Lexeme → ℕ
len_of prelude xs = position_or_len (ends_prelude prelude) xs + end_len (drop (position_or_len (ends_prelude prelude) xs) xs)

pub len_here : (prelude : Bool) (x : Lexeme) (xs : List Lexeme) → ends_prelude prelude x ≡ true → len_of prelude (x ∷ xs) ≡ end_len (x ∷ xs)
len_here prelude x xs is = rw (position_here (ends_prelude prelude) x xs is) (omega arith)

pub len_later : (prelude : Bool) (x : Lexeme) (xs : List Lexeme) → ends_prelude prelude x ≡ false → len_of prelude (x ∷ xs) ≡ suc (len_of prelude xs)
len_later prelude x xs is = rw (position_later (ends_prelude prelude) x xs is) (omega arith)

no_more : (xs : List Lexeme) → is_nil xs ≡ true → xs ≡ []
no_more [] nil = refl
no_more (y ∷ ys) nil = absurd (false≢true nil)

block_len : (xs more : List Lexeme) → ends_with_block xs ≡ true → suc (position_or_len closes_block (xs ++ more)) ≡ length xs
block_len [] more ends = absurd (false≢true ends)
block_len (x ∷ xs) more ends = which (block_len xs more) (closes_block x) refl
  where
    which : (ends_with_block xs ≡ true → suc (position_or_len closes_block (xs ++ more)) ≡ length xs)
        → (b : Bool) → closes_block x ≡ b → suc (position_or_len closes_block (x ∷ xs ++ more)) ≡ suc (length xs)
    which again true is =
        let last : is_nil xs ≡ true = ap (λ (b : Bool). if b then is_nil xs else ends_with_block xs) (sym is) ∙ ends in
        ap suc (position_here closes_block x (xs ++ more) is ∙ sym (ap length (no_more xs last)))
    which again false is =
        let later : ends_with_block xs ≡ true = ap (λ (b : Bool). if b then is_nil xs else ends_with_block xs) (sym is) ∙ ends in
        ap suc (position_later closes_block x (xs ++ more) is ∙ again later)

-- what holds of a token that opens a block, of one that ends an at-rule, and of any other
abbrev pub by_end : {A : Type 0} → Bool → Bool → A → A → A → A
by_end opens semi at_block at_semi other = if opens then at_block else if semi then at_semi else other

pub at_block : {A : Type 0} (o s : Bool) (x y z : A) → o ≡ true → by_end o s x y z ≡ x
at_block o s x y z is = ap (λ (b : Bool). by_end b s x y z) is

pub at_semi : {A : Type 0} (o s : Bool) (x y z : A) → o ≡ false → s ≡ true → by_end o s x y z ≡ y
at_semi o s x y z is semi = ap (λ (b : Bool). by_end b s x y z) is ∙ ap (λ (b : Bool). by_end false b x y z) semi

pub at_other : {A : Type 0} (o s : Bool) (x y z : A) → o ≡ false → s ≡ false → by_end o s x y z ≡ z
at_other o s x y z is semi = ap (λ (b : Bool). by_end b s x y z) is ∙ ap (λ (b : Bool). by_end false b x y z) semi

pub ends_first : (a : Bool) (x : Lexeme) → opens_block x ≡ true → ends_prelude a x ≡ true
ends_first a x is = ap (λ (b : Bool). b || (a && is_sign_at semicolon 0 x)) is

pub ends_second : (a : Bool) (x : Lexeme) (t : Bool) → opens_block x ≡ false → (a && is_sign_at semicolon 0 x) ≡ t → ends_prelude a x ≡ t
ends_second a x t is semi = ap (λ (b : Bool). b || (a && is_sign_at semicolon 0 x)) is ∙ semi

ended_len : (a : Bool) (xs more : List Lexeme) → ends_in a xs ≡ true → len_of a (xs ++ more) ≡ length xs
ended_len a [] more ends = absurd (false≢true ends)
ended_len a (x ∷ xs) more ends = which (ended_len a xs more) (opens_block x) refl (a && is_sign_at semicolon 0 x) refl
  where
    which : (ends_in a xs ≡ true → len_of a (xs ++ more) ≡ length xs)
        → (o : Bool) → opens_block x ≡ o → (s : Bool) → (a && is_sign_at semicolon 0 x) ≡ s → len_of a (x ∷ xs ++ more) ≡ suc (length xs)
    which again true is s semi =
        let block : ends_with_block xs ≡ true = sym (at_block (opens_block x) (a && is_sign_at semicolon 0 x) (ends_with_block xs) (is_nil xs) (ends_in a xs) is) ∙ ends in
        len_here a x (xs ++ more) (ends_first a x is)
        ∙ ap (λ (b : Bool). if b then 2 + position_or_len closes_block (xs ++ more) else 1) is
        ∙ omega (arith, block_len xs more block)
    which again false is true semi =
        let last : is_nil xs ≡ true = sym (at_semi (opens_block x) (a && is_sign_at semicolon 0 x) (ends_with_block xs) (is_nil xs) (ends_in a xs) is semi) ∙ ends in
        len_here a x (xs ++ more) (ends_second a x true is semi)
        ∙ ap (λ (b : Bool). if b then 2 + position_or_len closes_block (xs ++ more) else 1) is
        ∙ ap (λ zs. suc (length zs)) (sym (no_more xs last))
    which again false is false semi =
        len_later a x (xs ++ more) (ends_second a x false is semi)
        ∙ ap suc (again (sym (at_other (opens_block x) (a && is_sign_at semicolon 0 x) (ends_with_block xs) (is_nil xs) (ends_in a xs) is semi) ∙ ends))

pub ended_item_len : (xs more : List Lexeme) → is_ended xs ≡ true → item_len (xs ++ more) ≡ length xs
ended_item_len [] more ends = absurd (false≢true ends)
ended_item_len (x ∷ xs) more ends = ended_len (is_at_keyword x.kind) (x ∷ xs) more ends

-- a token that can begin an item
abbrev pub begins_item : List Lexeme → Bool
begins_item [] = false
begins_item (x ∷ xs) = not (is_between_items x.kind)

skipped : (xs more : List Lexeme) → items_from (length xs) (xs ++ more) ≡ items_from 0 more
skipped [] more = refl
skipped (x ∷ xs) more = skipped xs more

-- the first item, where so many tokens belong to it
first_item : (xs more : List Lexeme) → begins_item xs ≡ true → item_len (xs ++ more) ≡ length xs → items (xs ++ more) ≡ xs ∷ items more
first_item [] more begins len = absurd (false≢true begins)
first_item (x ∷ xs) more begins len =
    ap (λ (b : Bool). if b then items_from 0 (xs ++ more) else taken (item_len (x ∷ xs ++ more))) (not-true (is_between_items x.kind) begins)
    ∙ ap taken len
    ∙ ap (λ zs. zs ∷ items_from (length xs) (xs ++ more)) (take-append_seam (x ∷ xs) more)
    ∙ ap (λ later. (x ∷ xs) ∷ later) (skipped xs more)
  where
    taken : ℕ → List (List Lexeme)
    taken n = take n (x ∷ xs ++ more) ∷ items_from (less_one n) (xs ++ more)

-- lists one behind the other
abbrev pub all_of_them : List (List Lexeme) → List Lexeme
all_of_them [] = []
all_of_them (xs ∷ xss) = xs ++ all_of_them xss

-- each of these is an item where it stands: it ends by itself, or nothing follows
abbrev pub StandAsItems : List (List Lexeme) → Type 0
StandAsItems [] = ⊤
StandAsItems (xs ∷ []) = (begins_item xs ≡ true) × (item_len xs ≡ length xs)
StandAsItems (xs ∷ next ∷ xss) = (begins_item xs ≡ true) × (is_ended xs ≡ true) × StandAsItems (next ∷ xss)

pub items_again : (xss : List (List Lexeme)) → StandAsItems xss → items (all_of_them xss) ≡ xss
items_again [] stand = refl
items_again (xs ∷ []) stand = first_item xs [] stand.0 (ap item_len (append-nil xs) ∙ stand.1)
items_again (xs ∷ next ∷ xss) stand =
    first_item xs (all_of_them (next ∷ xss)) stand.0 (ended_item_len xs (all_of_them (next ∷ xss)) stand.1)
    ∙ ap (λ later. xs ∷ later) (items_again (next ∷ xss) stand.2)

nil_like : (new old : List ℕ) (ys xs : List Lexeme) → AllZip (IsLike new old) ys xs → is_nil ys ≡ is_nil xs
nil_like new old [] [] z = refl
nil_like new old [] (x ∷ xs) z = absurd z
nil_like new old (y ∷ ys) [] z = absurd z
nil_like new old (y ∷ ys) (x ∷ xs) z = refl

block_like : (new old : List ℕ) (ys xs : List Lexeme) → AllZip (IsLike new old) ys xs → ends_with_block ys ≡ ends_with_block xs
block_like new old [] [] z = refl
block_like new old [] (x ∷ xs) z = absurd z
block_like new old (y ∷ ys) [] z = absurd z
block_like new old (y ∷ ys) (x ∷ xs) z =
    ap (λ (b : Bool). if b then is_nil ys else ends_with_block ys) (sign_like new old close_curly 1 y x z.0)
    ∙ ap (λ (b : Bool). if closes_block x then b else ends_with_block ys) (nil_like new old ys xs z.1)
    ∙ ap (λ (b : Bool). if closes_block x then is_nil xs else b) (block_like new old ys xs z.1)

ends_like : (new old : List ℕ) (a : Bool) (ys xs : List Lexeme) → AllZip (IsLike new old) ys xs → ends_in a ys ≡ ends_in a xs
ends_like new old a [] [] z = refl
ends_like new old a [] (x ∷ xs) z = absurd z
ends_like new old a (y ∷ ys) [] z = absurd z
ends_like new old a (y ∷ ys) (x ∷ xs) z =
    ap (λ (b : Bool). by_end b (a && is_sign_at semicolon 0 y) (ends_with_block ys) (is_nil ys) (ends_in a ys)) (sign_like new old open_curly 0 y x z.0)
    ∙ ap (λ (b : Bool). by_end (opens_block x) (a && b) (ends_with_block ys) (is_nil ys) (ends_in a ys)) (sign_like new old semicolon 0 y x z.0)
    ∙ ap (λ (b : Bool). by_end (opens_block x) (a && is_sign_at semicolon 0 x) b (is_nil ys) (ends_in a ys)) (block_like new old ys xs z.1)
    ∙ ap (λ (b : Bool). by_end (opens_block x) (a && is_sign_at semicolon 0 x) (ends_with_block xs) b (ends_in a ys)) (nil_like new old ys xs z.1)
    ∙ ap (λ (b : Bool). by_end (opens_block x) (a && is_sign_at semicolon 0 x) (ends_with_block xs) (is_nil xs) b) (ends_like new old a ys xs z.1)

pub ended_like : (new old : List ℕ) (ys xs : List Lexeme) → AllZip (IsLike new old) ys xs → is_ended ys ≡ is_ended xs
ended_like new old [] [] z = refl
ended_like new old [] (x ∷ xs) z = absurd z
ended_like new old (y ∷ ys) [] z = absurd z
ended_like new old (y ∷ ys) (x ∷ xs) z =
    ap (λ k. ends_in (is_at_keyword k) (y ∷ ys)) z.0.kind ∙ ends_like new old (is_at_keyword x.kind) (y ∷ ys) (x ∷ xs) z

pub begins_like : (new old : List ℕ) (ys xs : List Lexeme) → AllZip (IsLike new old) ys xs → begins_item ys ≡ begins_item xs
begins_like new old [] [] z = refl
begins_like new old [] (x ∷ xs) z = absurd z
begins_like new old (y ∷ ys) [] z = absurd z
begins_like new old (y ∷ ys) (x ∷ xs) z = ap (λ k. not (is_between_items k)) z.0.kind

end_len_like : (new old : List ℕ) (ys xs : List Lexeme) → AllZip (IsLike new old) ys xs → end_len ys ≡ end_len xs
end_len_like new old [] [] z = refl
end_len_like new old [] (x ∷ xs) z = absurd z
end_len_like new old (y ∷ ys) [] z = absurd z
end_len_like new old (y ∷ ys) (x ∷ xs) z =
    ap (λ (b : Bool). if b then 2 + position_or_len closes_block ys else 1) (sign_like new old open_curly 0 y x z.0)
    ∙ ap (λ (n : ℕ). if opens_block x then 2 + n else 1) (zip_position (IsLike new old) closes_block closes_block (sign_like new old close_curly 1) ys xs z.1)

ends_prelude_like : (new old : List ℕ) (a : Bool) (y x : Lexeme) → IsLike new old y x → ends_prelude a y ≡ ends_prelude a x
ends_prelude_like new old a y x like =
    ap (λ (b : Bool). b || (a && is_sign_at semicolon 0 y)) (sign_like new old open_curly 0 y x like)
    ∙ ap (λ (b : Bool). opens_block x || (a && b)) (sign_like new old semicolon 0 y x like)

len_of_like : (new old : List ℕ) (a : Bool) (ys xs : List Lexeme) → AllZip (IsLike new old) ys xs → len_of a ys ≡ len_of a xs
len_of_like new old a ys xs z =
    let n = position_or_len (ends_prelude a) xs in
    ap (λ (m : ℕ). m + end_len (drop m ys)) (zip_position (IsLike new old) (ends_prelude a) (ends_prelude a) (ends_prelude_like new old a) ys xs z)
    ∙ ap (λ (m : ℕ). n + m) (end_len_like new old (drop n ys) (drop n xs) (zip_drop (IsLike new old) n ys xs z))

pub item_len_like : (new old : List ℕ) (ys xs : List Lexeme) → AllZip (IsLike new old) ys xs → item_len ys ≡ item_len xs
item_len_like new old [] [] z = refl
item_len_like new old [] (x ∷ xs) z = absurd z
item_len_like new old (y ∷ ys) [] z = absurd z
item_len_like new old (y ∷ ys) (x ∷ xs) z =
    ap (λ k. len_of (is_at_keyword k) (y ∷ ys)) z.0.kind ∙ len_of_like new old (is_at_keyword x.kind) (y ∷ ys) (x ∷ xs) z

-- a qualified rule that ends by itself ends with the `}` of its block
pub record IsClosedRule (xs : List Lexeme) : Type 0 where
  pub front : List Lexeme
  pub last : Lexeme
  pub whole : xs ≡ front ++ last ∷ []
  pub closes : closes_block last ≡ true
  pub has_block : list_any opens_block front ≡ true

record IsBlockEnd (xs : List Lexeme) : Type 0 where
  front : List Lexeme
  last : Lexeme
  whole : xs ≡ front ++ last ∷ []
  closes : closes_block last ≡ true

block_end : (xs : List Lexeme) → ends_with_block xs ≡ true → IsBlockEnd xs
block_end [] ends = absurd (false≢true ends)
block_end (x ∷ xs) ends = which (block_end xs) (closes_block x) refl
  where
    which : (ends_with_block xs ≡ true → IsBlockEnd xs) → (b : Bool) → closes_block x ≡ b → IsBlockEnd (x ∷ xs)
    which again true is =
        let last : is_nil xs ≡ true = ap (λ (b : Bool). if b then is_nil xs else ends_with_block xs) (sym is) ∙ ends in
        record { front = []; last = x; whole = ap (λ zs. x ∷ zs) (no_more xs last); closes = is }
    which again false is =
        let rest = again (ap (λ (b : Bool). if b then is_nil xs else ends_with_block xs) (sym is) ∙ ends) in
        record { front = x ∷ rest.front; last = rest.last; whole = ap (λ zs. x ∷ zs) rest.whole; closes = rest.closes }

closed_in : (xs : List Lexeme) → ends_in false xs ≡ true → IsClosedRule xs
closed_in [] ends = absurd (false≢true ends)
closed_in (x ∷ xs) ends = which (closed_in xs) (opens_block x) refl
  where
    which : (ends_in false xs ≡ true → IsClosedRule xs) → (o : Bool) → opens_block x ≡ o → IsClosedRule (x ∷ xs)
    which again true is =
        let block : ends_with_block xs ≡ true = sym (at_block (opens_block x) false (ends_with_block xs) (is_nil xs) (ends_in false xs) is) ∙ ends in
        let end = block_end xs block in
        record {
          front = x ∷ end.front;
          last = end.last;
          whole = ap (λ zs. x ∷ zs) end.whole;
          closes = end.closes;
          has_block = ap (λ (b : Bool). b || list_any opens_block end.front) is;
        }
    which again false is =
        let rest = again (sym (at_other (opens_block x) false (ends_with_block xs) (is_nil xs) (ends_in false xs) is refl) ∙ ends) in
        record {
          front = x ∷ rest.front;
          last = rest.last;
          whole = ap (λ zs. x ∷ zs) rest.whole;
          closes = rest.closes;
          has_block = ap (λ (b : Bool). opens_block x || b) rest.has_block ∙ or_true (opens_block x);
        }

pub closed_rule : (xs : List Lexeme) → is_at_rule xs ≡ false → is_ended xs ≡ true → IsClosedRule xs
closed_rule [] qualified ends = absurd (false≢true ends)
closed_rule (x ∷ xs) qualified ends = closed_in (x ∷ xs) (ap (λ (b : Bool). ends_in b (x ∷ xs)) (sym qualified) ∙ ends)

-- the last token of a closed rule stands in neither its prelude nor its block
pub parts_without_last : (front : List Lexeme) (last : Lexeme) → list_any opens_block front ≡ true → selector_parts (front ++ last ∷ []) ≡ selector_parts front
parts_without_last front last has = ap (slice_split (is_sign_at comma 0)) (before_some opens_block front (last ∷ []) has)

pub entries_without_last : (front : List Lexeme) (last : Lexeme) → list_any opens_block front ≡ true → closes_block last ≡ true → entries (front ++ last ∷ []) ≡ entries front
entries_without_last front last has closes =
    ap (λ zs. slice_split (is_sign_at semicolon 1) (before_first closes_block zs)) (after_some opens_block front (last ∷ []) has)
    ∙ ap (slice_split (is_sign_at semicolon 1)) (before_stop closes_block (after_first opens_block front) last [] closes)
