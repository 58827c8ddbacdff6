-- The items of lexemes, one after another.
use Rattle.std.proofs.Common.{ℕ, zero, suc, ◌≡◌, ◌≤◌, ◌<◌, ◌+◌, ◌++◌, Bool, true, false, cond, List, [], ◌∷◌, length, take, drop, refl, sym, ap, ◌∙◌, get_or, append_assoc, arith}
use Rattle.std.specs.List.{filter, position_or_len}
use Rattle.css_model.specs.declared.token.Lexeme.{Lexeme}
use Rattle.css_model.specs.Sheets.Items.{is_at_keyword, is_between_items, opens_block, closes_block, ends_prelude, end_len, item_len, items_from, items, is_whole}
use Rattle.css_model.specs.Lists.{less_one}
use Rattle.sheet_read.specs.Steps.{whole_items}

items_from-drop : (k : ℕ) (xs : List Lexeme) → items_from k xs ≡ items (drop k xs)
items_from-drop zero xs = refl
items_from-drop (suc k) [] = refl
items_from-drop (suc k) (x ∷ xs) = items_from-drop k xs

-- an item has a token
end_some : (x : Lexeme) (xs : List Lexeme) → 0 < end_len (x ∷ xs)
end_some x xs = by (opens_block x) (position_or_len closes_block xs)
  where
    by : (b : Bool) (n : ℕ) → 0 < cond b (2 + n) 1
    by true n = omega arith
    by false n = omega arith

some_from : (m : ℕ) (x : Lexeme) (xs : List Lexeme) → 0 < m + end_len (drop m (x ∷ xs))
some_from zero x xs = let h = end_some x xs in omega arith
some_from (suc m) x xs = omega arith

pub item_some : (x : Lexeme) (xs : List Lexeme) → 0 < item_len (x ∷ xs)
item_some x xs = some_from (position_or_len (ends_prelude (is_at_keyword x.kind)) (x ∷ xs)) x xs

drop_behind : (n : ℕ) (x : Lexeme) (xs : List Lexeme) → 0 < n → drop (less_one n) xs ≡ drop n (x ∷ xs)
drop_behind zero x xs some = absurd (omega arith)
drop_behind (suc n) x xs some = refl

items_step : (x : Lexeme) (xs : List Lexeme) → is_between_items x.kind ≡ false
    → items (x ∷ xs) ≡ take (item_len (x ∷ xs)) (x ∷ xs) ∷ items (drop (item_len (x ∷ xs)) (x ∷ xs))
items_step x xs h =
    rw h (ap (λ (later : List (List Lexeme)). take (item_len (x ∷ xs)) (x ∷ xs) ∷ later)
    (items_from-drop (less_one (item_len (x ∷ xs))) xs ∙ ap items (drop_behind (item_len (x ∷ xs)) x xs (item_some x xs))))

filter_true : (y : List Lexeme) (ys : List (List Lexeme)) → is_whole y ≡ true → filter is_whole (y ∷ ys) ≡ y ∷ filter is_whole ys
filter_true y ys h = rw h refl

filter_false : (y : List Lexeme) (ys : List (List Lexeme)) → is_whole y ≡ false → filter is_whole (y ∷ ys) ≡ filter is_whole ys
filter_false y ys h = rw h refl

-- the first lexeme belongs to no item
pub whole_between : (xs : List Lexeme) (d : Lexeme) → 1 ≤ length xs → is_between_items (get_or xs 0 d).kind ≡ true → whole_items xs ≡ whole_items (drop 1 xs)
whole_between [] d some h = absurd (omega arith)
whole_between (x ∷ xs) d some h = rw h refl

-- the first item is whole, or is dropped
pub whole_here : (xs : List Lexeme) (d : Lexeme) → 1 ≤ length xs → is_between_items (get_or xs 0 d).kind ≡ false → is_whole (take (item_len xs) xs) ≡ true
    → whole_items xs ≡ take (item_len xs) xs ∷ whole_items (drop (item_len xs) xs)
whole_here [] d some h w = absurd (omega arith)
whole_here (x ∷ xs) d some h w =
    let n = item_len (x ∷ xs) in
    ap (filter is_whole) (items_step x xs h) ∙ filter_true (take n (x ∷ xs)) (items (drop n (x ∷ xs))) w

pub whole_later : (xs : List Lexeme) (d : Lexeme) → 1 ≤ length xs → is_between_items (get_or xs 0 d).kind ≡ false → is_whole (take (item_len xs) xs) ≡ false
    → whole_items xs ≡ whole_items (drop (item_len xs) xs)
whole_later [] d some h w = absurd (omega arith)
whole_later (x ∷ xs) d some h w =
    let n = item_len (x ∷ xs) in
    ap (filter is_whole) (items_step x xs h) ∙ filter_false (take n (x ∷ xs)) (items (drop n (x ∷ xs))) w

-- a list behind others, cut once more
pub split_more : (all before rest front later : List Lexeme) → all ≡ before ++ rest → rest ≡ front ++ later → all ≡ before ++ front ++ later
split_more all before rest front later is cut = is ∙ ap (λ (r : List Lexeme). before ++ r) cut ∙ sym (append_assoc before front later)
