-- The items of a source stand where they begin, and all but the last end by themselves.
use Rattle.std.proofs.Common.{◌≡◌, ◌⊎◌, inl, inr, subst, ℕ, zero, suc, ◌+◌, ◌<◌, Bool, true, false, List, [], ◌∷◌, length, take, drop, refl, sym, ◌∙◌, ap, arith, append-nil}
use Rattle.std.proofs.lemmas.Bool.{true≢false, false≢true, not_from_false}
use Rattle.std.proofs.Math.Seq.{take-length}
use Rattle.std.proofs.lemmas.List.{take-append-drop}
use Rattle.std.specs.Prelude.{⊤, ◌&&◌, ◌||◌, if◌then◌else◌}
use Rattle.std.specs.List.{AllByRecursion, list_any, position_or_len, filter}
use Rattle.css_model.specs.declared.token.Lexeme.{Lexeme}
use Rattle.css_model.specs.Text.Characters.{semicolon}
use Rattle.css_model.specs.Sheets.Items.{is_at_keyword, is_between_items, opens_block, closes_block, ends_prelude, item_len, items_from, items, is_at_rule, is_whole}
use Rattle.css_model.specs.Text.Lexemes.{is_sign_at}
use Rattle.css_model.specs.Lists.{less_one}
use Rattle.list_facts.proofs.Cuts.{position_here, position_later}
use Rattle.sheet_laws.proofs.Printed.Items.{begins_item, is_nil, ends_with_block, ends_in, is_ended, len_of, len_here, len_later, at_block, at_semi, at_other, ends_first, ends_second, ended_item_len}
use Rattle.sheet_laws.proofs.Printed.Joins.{StandsIn, stands_front, stands_behind, stands_inside}
use Rattle.sheet_laws.proofs.Source.Closed.{AllClosed}

-- up to the first token that closes a block
take_block : (xs : List Lexeme) → list_any closes_block xs ≡ true → ends_with_block (take (suc (position_or_len closes_block xs)) xs) ≡ true
take_block [] some = absurd (false≢true some)
take_block (x ∷ xs) some = which (take_block xs) (closes_block x) refl
  where
    which : (list_any closes_block xs ≡ true → ends_with_block (take (suc (position_or_len closes_block xs)) xs) ≡ true) → (b : Bool) → closes_block x ≡ b
        → ends_with_block (take (suc (position_or_len closes_block (x ∷ xs))) (x ∷ xs)) ≡ true
    which again true is =
        ap (λ (n : ℕ). ends_with_block (x ∷ take n xs)) (position_here closes_block x xs is)
        ∙ ap (λ b. if b then true else false) is
    which again false is =
        ap (λ (n : ℕ). ends_with_block (x ∷ take n xs)) (position_later closes_block x xs is)
        ∙ ap (λ b. if b then is_nil (take (suc (position_or_len closes_block xs)) xs) else ends_with_block (take (suc (position_or_len closes_block xs)) xs)) is
        ∙ again (ap (λ b. b || list_any closes_block xs) (sym is) ∙ some)

-- up to the end of a prelude, with its block or its semicolon
take_item : (a : Bool) (xs : List Lexeme) → AllClosed xs → list_any (ends_prelude a) xs ≡ true → ends_in a (take (len_of a xs) xs) ≡ true
take_item a [] closed some = absurd (false≢true some)
take_item a (x ∷ xs) closed some = which (take_item a xs closed.1) (opens_block x) refl (a && is_sign_at semicolon 0 x) refl
  where
    which : (list_any (ends_prelude a) xs ≡ true → ends_in a (take (len_of a xs) xs) ≡ true) → (o : Bool) → opens_block x ≡ o → (s : Bool) → (a && is_sign_at semicolon 0 x) ≡ s
        → ends_in a (take (len_of a (x ∷ xs)) (x ∷ xs)) ≡ true
    which again true is s semi =
        let n = position_or_len closes_block xs in
        let len : len_of a (x ∷ xs) ≡ suc (suc n) =
        len_here a x xs (ends_first a x is) ∙ ap (λ b. if b then 2 + n else 1) is ∙ omega arith in
        ap (λ m. ends_in a (take m (x ∷ xs))) len
        ∙ at_block (opens_block x) (a && is_sign_at semicolon 0 x) (ends_with_block (take (suc n) xs)) (is_nil (take (suc n) xs)) (ends_in a (take (suc n) xs)) is
        ∙ take_block xs (closed.0 is)
    which again false is true semi =
        let len : len_of a (x ∷ xs) ≡ 1 =
        len_here a x xs (ends_second a x true is semi) ∙ ap (λ b. if b then 2 + position_or_len closes_block xs else 1) is in
        ap (λ m. ends_in a (take m (x ∷ xs))) len ∙ at_semi (opens_block x) (a && is_sign_at semicolon 0 x) false true false is semi
    which again false is false semi =
        let n = len_of a xs in
        ap (λ m. ends_in a (take m (x ∷ xs))) (len_later a x xs (ends_second a x false is semi))
        ∙ at_other (opens_block x) (a && is_sign_at semicolon 0 x) (ends_with_block (take n xs)) (is_nil (take n xs)) (ends_in a (take n xs)) is semi
        ∙ again (ap (λ b. b || list_any (ends_prelude a) xs) (sym (ends_second a x false is semi)) ∙ some)

-- a prelude that nothing ends takes all
pub no_end : (a : Bool) (xs : List Lexeme) → list_any (ends_prelude a) xs ≡ false → len_of a xs ≡ length xs
no_end a [] none = refl
no_end a (x ∷ xs) none = which (no_end a xs) (ends_prelude a x) refl
  where
    which : (list_any (ends_prelude a) xs ≡ false → len_of a xs ≡ length xs) → (b : Bool) → ends_prelude a x ≡ b → len_of a (x ∷ xs) ≡ suc (length xs)
    which again true is = absurd (true≢false (ap (λ b. b || list_any (ends_prelude a) xs) (sym is) ∙ none))
    which again false is = len_later a x xs is ∙ ap suc (again (ap (λ b. b || list_any (ends_prelude a) xs) (sym is) ∙ none))

-- an item of a source
pub record IsItemOf (whole item : List Lexeme) : Type 0 where
  pub stands : StandsIn whole item
  pub begins : begins_item item ≡ true
  pub is_item : item_len item ≡ length item
  pub ended : is_whole item ≡ true → is_at_rule item ≡ false → is_ended item ≡ true
  pub with_block : list_any opens_block item ≡ true → is_ended item ≡ true

-- items of which all but the last end by themselves
abbrev pub EndBefore : List (List Lexeme) → Type 0
EndBefore [] = ⊤
EndBefore (item ∷ []) = ⊤
EndBefore (item ∷ next ∷ rest) = (is_ended item ≡ true) × EndBefore (next ∷ rest)

pub record AreItemsOf (whole : List Lexeme) (raw : List (List Lexeme)) : Type 0 where
  pub each : AllByRecursion (IsItemOf whole) raw
  pub order : EndBefore raw

-- the first item at the front of tokens
record IsFirstItem (x : Lexeme) (xs : List Lexeme) : Type 0 where
  item : IsItemOf (x ∷ xs) (take (item_len (x ∷ xs)) (x ∷ xs))
  end : (is_ended (take (item_len (x ∷ xs)) (x ∷ xs)) ≡ true) ⊎ (item_len (x ∷ xs) ≡ suc (length xs))

stands_take : (n : ℕ) (xs : List Lexeme) → StandsIn xs (take n xs)
stands_take n xs = subst (λ zs. StandsIn zs (take n xs)) (take-append-drop n xs) (stands_front (take n xs) (drop n xs))

any_weaker : (a : Bool) (xs : List Lexeme) → list_any (ends_prelude a) xs ≡ false → list_any opens_block xs ≡ false
any_weaker a [] none = refl
any_weaker a (x ∷ xs) none = which (opens_block x) refl (a && is_sign_at semicolon 0 x) (any_weaker a xs)
  where
    which : (o : Bool) → opens_block x ≡ o → (s : Bool) → (list_any (ends_prelude a) xs ≡ false → list_any opens_block xs ≡ false) → list_any opens_block (x ∷ xs) ≡ false
    which true is s again = absurd (true≢false (ap (λ b. b || list_any (ends_prelude a) xs) (sym (ends_first a x is)) ∙ none))
    which false is s again = ap (λ b. b || list_any opens_block xs) is ∙ again (later (ends_prelude a x) (list_any (ends_prelude a) xs) none)
      where
        later : (b c : Bool) → (b || c) ≡ false → c ≡ false
        later true c e = absurd (true≢false e)
        later false c e = e

-- an item has a token
pub some_len : (a : Bool) (x : Lexeme) (xs : List Lexeme) → 0 < len_of a (x ∷ xs)
some_len a x xs = which (ends_prelude a x) refl
  where
    some_end : (b : Bool) (n : ℕ) → 0 < (if b then 2 + n else 1)
    some_end true n = omega arith
    some_end false n = omega arith

    which : (b : Bool) → ends_prelude a x ≡ b → 0 < len_of a (x ∷ xs)
    which true is = omega (arith, len_here a x xs is, some_end (opens_block x) (position_or_len closes_block xs))
    which false is = omega (arith, len_later a x xs is)

pub suc_less : (n : ℕ) → 0 < n → n ≡ suc (less_one n)
suc_less zero some = absurd (omega (arith, some))
suc_less (suc n) some = refl

first_item_of : (x : Lexeme) (xs : List Lexeme) → AllClosed (x ∷ xs) → is_between_items x.kind ≡ false → IsFirstItem x xs
first_item_of x xs closed other = which (list_any (ends_prelude a) (x ∷ xs)) refl
  where
    a : Bool
    a = is_at_keyword x.kind

    n : ℕ
    n = item_len (x ∷ xs)

    is_suc : item_len (x ∷ xs) ≡ suc (less_one (item_len (x ∷ xs)))
    is_suc = suc_less (item_len (x ∷ xs)) (some_len (is_at_keyword x.kind) x xs)

    front : take (item_len (x ∷ xs)) (x ∷ xs) ≡ x ∷ take (less_one (item_len (x ∷ xs))) xs
    front = ap (λ m. take m (x ∷ xs)) is_suc

    begins : begins_item (take (item_len (x ∷ xs)) (x ∷ xs)) ≡ true
    begins = ap begins_item front ∙ not_from_false (is_between_items x.kind) other

    which : (b : Bool) → list_any (ends_prelude (is_at_keyword x.kind)) (x ∷ xs) ≡ b → IsFirstItem x xs
    which true some =
        let item = take (item_len (x ∷ xs)) (x ∷ xs) in
        let ended : is_ended item ≡ true =
        ap is_ended front ∙ ap (ends_in (is_at_keyword x.kind)) (sym front) ∙ take_item (is_at_keyword x.kind) (x ∷ xs) closed some in
        record {
          item = record {
            stands = stands_take (item_len (x ∷ xs)) (x ∷ xs);
            begins = begins;
            is_item = ap item_len (sym (append-nil item)) ∙ ended_item_len item [] ended;
            ended = λ kept qualified. ended;
            with_block = λ some. ended;
          };
          end = inl ended;
        }
    which false none =
        let all : item_len (x ∷ xs) ≡ suc (length xs) = no_end (is_at_keyword x.kind) (x ∷ xs) none in
        let is : take (item_len (x ∷ xs)) (x ∷ xs) ≡ x ∷ xs = ap (λ m. take m (x ∷ xs)) all ∙ take-length (x ∷ xs) in
        record {
          item = record {
            stands = stands_take (item_len (x ∷ xs)) (x ∷ xs);
            begins = begins;
            is_item = ap item_len is ∙ all ∙ ap length (sym is);
            ended = λ kept qualified. absurd (true≢false (sym kept ∙ ap is_whole is ∙ dropped (sym (ap is_at_rule is) ∙ qualified)));
            with_block = λ some. absurd (true≢false (sym some ∙ ap (list_any opens_block) is ∙ any_weaker (is_at_keyword x.kind) (x ∷ xs) none));
          };
          end = inr all;
        }
      where
        dropped : is_at_rule (x ∷ xs) ≡ false → is_whole (x ∷ xs) ≡ false
        dropped qualified = ap (λ b. b || list_any opens_block (x ∷ xs)) qualified ∙ any_weaker (is_at_keyword x.kind) (x ∷ xs) none

end_before : (item : List Lexeme) (rest : List (List Lexeme)) → is_ended item ≡ true → EndBefore rest → EndBefore (item ∷ rest)
end_before item [] ended order = tt
end_before item (next ∷ rest) ended order = (ended, order)

wider_raw : (outer inner : List Lexeme) → StandsIn outer inner → (raw : List (List Lexeme)) → AllByRecursion (IsItemOf inner) raw → AllByRecursion (IsItemOf outer) raw
wider_raw outer inner inside [] each = tt
wider_raw outer inner inside (item ∷ raw) each = (
  record { stands = stands_inside outer inner item inside each.0.stands; begins = each.0.begins; is_item = each.0.is_item; ended = each.0.ended; with_block = each.0.with_block },
  wider_raw outer inner inside raw each.1,
)

none_left : (xs : List Lexeme) → items_from (length xs) xs ≡ []
none_left [] = refl
none_left (x ∷ xs) = none_left xs

items_stand : (left : ℕ) (xs : List Lexeme) → AllClosed xs → AreItemsOf xs (items_from left xs)
items_stand left [] closed = record { each = tt; order = tt }
items_stand (suc left) (x ∷ xs) closed =
    let rest = items_stand left xs closed.1 in
    record { each = wider_raw (x ∷ xs) xs (stands_behind (x ∷ []) xs) (items_from left xs) rest.each; order = rest.order }
items_stand zero (x ∷ xs) closed = which (λ left. items_stand left xs closed.1) (is_between_items x.kind) refl
  where
    item : List Lexeme
    item = take (item_len (x ∷ xs)) (x ∷ xs)

    which : ((left : ℕ) → AreItemsOf xs (items_from left xs)) → (b : Bool) → is_between_items x.kind ≡ b
        → AreItemsOf (x ∷ xs) (if b then items_from 0 xs else take (item_len (x ∷ xs)) (x ∷ xs) ∷ items_from (less_one (item_len (x ∷ xs))) xs)
    which again true between =
        record { each = wider_raw (x ∷ xs) xs (stands_behind (x ∷ []) xs) (items_from 0 xs) (again 0).each; order = (again 0).order }
    which again false other =
        let first = first_item_of x xs closed other in
        let rest = again (less_one (item_len (x ∷ xs))) in
        record {
          each = (first.item, wider_raw (x ∷ xs) xs (stands_behind (x ∷ []) xs) (items_from (less_one (item_len (x ∷ xs))) xs) rest.each);
          order = by_end first.end rest.order;
        }
      where
        by_end : (is_ended (take (item_len (x ∷ xs)) (x ∷ xs)) ≡ true) ⊎ (item_len (x ∷ xs) ≡ suc (length xs)) → EndBefore (items_from (less_one (item_len (x ∷ xs))) xs)
            → EndBefore (take (item_len (x ∷ xs)) (x ∷ xs) ∷ items_from (less_one (item_len (x ∷ xs))) xs)
        by_end (inl ended) order = end_before (take (item_len (x ∷ xs)) (x ∷ xs)) (items_from (less_one (item_len (x ∷ xs))) xs) ended order
        by_end (inr all) order =
            let last : items_from (less_one (item_len (x ∷ xs))) xs ≡ [] = ap (λ m. items_from (less_one m) xs) all ∙ none_left xs in
            subst (λ rest. EndBefore (take (item_len (x ∷ xs)) (x ∷ xs) ∷ rest)) (sym last) tt

-- those that are not dropped
pub record IsRawItem (whole item : List Lexeme) : Type 0 where
  pub is_item : IsItemOf whole item
  pub is_kept : is_whole item ≡ true

pub record AreRawItems (whole : List Lexeme) (raw : List (List Lexeme)) : Type 0 where
  pub each : AllByRecursion (IsRawItem whole) raw
  pub order : EndBefore raw

raw_order : (raw : List (List Lexeme)) → EndBefore raw → EndBefore (filter is_whole raw)
raw_order [] order = tt
raw_order (item ∷ []) order = which (is_whole item)
  where
    which : (b : Bool) → EndBefore (if b then item ∷ [] else [])
    which true = tt
    which false = tt
raw_order (item ∷ next ∷ rest) order = which (is_whole item) (raw_order (next ∷ rest) order.1)
  where
    which : (b : Bool) → EndBefore (filter is_whole (next ∷ rest)) → EndBefore (if b then item ∷ filter is_whole (next ∷ rest) else filter is_whole (next ∷ rest))
    which true later = end_before item (filter is_whole (next ∷ rest)) order.0 later
    which false later = later

raw_each : (whole : List Lexeme) (raw : List (List Lexeme)) → AllByRecursion (IsItemOf whole) raw → AllByRecursion (IsRawItem whole) (filter is_whole raw)
raw_each whole [] each = tt
raw_each whole (item ∷ raw) each = which (is_whole item) refl (raw_each whole raw each.1)
  where
    which : (b : Bool) → is_whole item ≡ b → AllByRecursion (IsRawItem whole) (filter is_whole raw) → AllByRecursion (IsRawItem whole) (if b then item ∷ filter is_whole raw else filter is_whole raw)
    which true is later = (record { is_item = each.0; is_kept = is }, later)
    which false is later = later

-- The items of tokens of which each block ends.
pub raw_stand : (xs : List Lexeme) → AllClosed xs → AreRawItems xs (filter is_whole (items xs))
raw_stand xs closed =
    let all = items_stand 0 xs closed in
    record { each = raw_each xs (items xs) all.each; order = raw_order (items xs) all.order }
