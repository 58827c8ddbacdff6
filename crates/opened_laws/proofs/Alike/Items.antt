-- Tokens that are printed before others are the same items as those that they are printed for.
use Rattle.std.proofs.Common.{◌≡◌, ℕ, zero, suc, Bool, true, false, List, [], ◌∷◌, take, Option, Some, None, refl, sym, ◌∙◌, ap, ap₂, subst}
use Rattle.std.proofs.lemmas.Bool.{false≢true, true≢false}
use Rattle.std.specs.Prelude.{◌*◌, ◌||◌, if◌then◌else◌, codes}
use Rattle.std.specs.List.{AllByRecursion, AllZip, cons_option, filter, find, list_any}
use Rattle.css_model.specs.declared.sheet.Item.{Item}
use Rattle.css_model.specs.declared.sheet.Item.TheVariants.{Rule, KeptRule, KeptBlock}
use Rattle.css_model.specs.declared.token.Lexeme.{Lexeme}
use Rattle.css_model.specs.Lists.{less_one}
use Rattle.css_model.specs.Sheets.Items.{is_at_rule, is_between_items, is_whole, item_len, items_from}
use Rattle.css_model.specs.Sheets.Sheet.{is_at_rule_named, is_import, item_of, pairs_of, read_items}
use Rattle.css_model.specs.Sheets.Spelling.{lexemes_of, tokens_in}
use Rattle.css_model.specs.Text.Lexemes.{piece_of}
use Rattle.list_facts.proofs.Zips.{Agree, AreBoth, some_not_none, zip_any, zip_length, zip_take}
use Rattle.media_groups.specs.Opened.{is_top_item}
use Rattle.sheet_laws.proofs.ForCallers.{HasGoodTokens, IsPrinted, IsRawItem, SameAt, at_rule_named_like, inner_item_same, is_ended, item_len_like, like_of, printed_like, stand_alone_in, whole_like}

-- ---- tokens cut into items

abbrev pub ArePrinted : List ℕ → List ℕ → List Lexeme → List Lexeme → Type 0
ArePrinted new old ys xs = AllZip (IsPrinted new old) ys xs

pub items_printed : (new old : List ℕ) (left : ℕ) (ys xs : List Lexeme) → ArePrinted new old ys xs → AllZip (ArePrinted new old) (items_from left ys) (items_from left xs)
items_printed new old left [] [] z = tt
items_printed new old left [] (x ∷ xs) z = absurd z
items_printed new old left (y ∷ ys) [] z = absurd z
items_printed new old (suc left) (y ∷ ys) (x ∷ xs) z = items_printed new old left ys xs z.1
items_printed new old zero (y ∷ ys) (x ∷ xs) z =
    which (is_between_items y.kind) (is_between_items x.kind) (ap is_between_items (printed_like new old y x z.0).kind)
    (item_len (y ∷ ys)) (item_len (x ∷ xs)) (item_len_like new old (y ∷ ys) (x ∷ xs) (like_of new old (y ∷ ys) (x ∷ xs) z)) (λ left. items_printed new old left ys xs z.1)
  where
    which : (b c : Bool) → b ≡ c → (m n : ℕ) → m ≡ n → ((left : ℕ) → AllZip (ArePrinted new old) (items_from left ys) (items_from left xs)) →
        AllZip (ArePrinted new old) (if b then items_from 0 ys else take m (y ∷ ys) ∷ items_from (less_one m) ys) (if c then items_from 0 xs else take n (x ∷ xs) ∷ items_from (less_one n) xs)
    which true true e m n size later = later 0
    which false false e m n size later = rw size (zip_take (IsPrinted new old) n (y ∷ ys) (x ∷ xs) z, later (less_one n))
    which true false e m n size later = absurd (true≢false e)
    which false true e m n size later = absurd (false≢true e)

-- those that pass tests that answer the same
pub zip_filter : {A B : Type 0} (R : A → B → Type 0) (p : A → Bool) (q : B → Bool) → Agree R p q → (ys : List A) (xs : List B) → AllZip R ys xs → AllZip R (filter p ys) (filter q xs)
zip_filter R p q agree [] [] z = tt
zip_filter R p q agree [] (x ∷ xs) z = absurd z
zip_filter R p q agree (y ∷ ys) [] z = absurd z
zip_filter R p q agree (y ∷ ys) (x ∷ xs) z = which (p y) (q x) (agree y x z.0) (zip_filter R p q agree ys xs z.1)
  where
    which : (b c : Bool) → b ≡ c → AllZip R (filter p ys) (filter q xs) → AllZip R (if b then y ∷ filter p ys else filter p ys) (if c then x ∷ filter q xs else filter q xs)
    which true true e later = (z.0, later)
    which false false e later = later
    which true false e later = absurd (true≢false e)
    which false true e later = absurd (false≢true e)

-- none passes where none of the others does
pub zip_find : {A B : Type 0} (R : A → B → Type 0) (p : A → Bool) (q : B → Bool) → Agree R p q → (ys : List A) (xs : List B) → AllZip R ys xs → find p ys ≡ None → find q xs ≡ None
zip_find R p q agree [] [] z none = refl
zip_find R p q agree [] (x ∷ xs) z none = absurd z
zip_find R p q agree (y ∷ ys) [] z none = absurd z
zip_find R p q agree (y ∷ ys) (x ∷ xs) z none = which (p y) (q x) (agree y x z.0) none (zip_find R p q agree ys xs z.1)
  where
    which : (b c : Bool) → b ≡ c → (if b then Some y else find p ys) ≡ None → (find p ys ≡ None → find q xs ≡ None) → (if c then Some x else find q xs) ≡ None
    which true true e none later = absurd (some_not_none y none)
    which false false e none later = later none
    which true false e none later = absurd (true≢false e)
    which false true e none later = absurd (false≢true e)

-- and back
pub find_back : {A B : Type 0} (R : A → B → Type 0) (p : A → Bool) (q : B → Bool) → Agree R p q → (ys : List A) (xs : List B) → AllZip R ys xs → find q xs ≡ None → find p ys ≡ None
find_back R p q agree [] [] z none = refl
find_back R p q agree [] (x ∷ xs) z none = absurd z
find_back R p q agree (y ∷ ys) [] z none = absurd z
find_back R p q agree (y ∷ ys) (x ∷ xs) z none = which (p y) (q x) (agree y x z.0) none (find_back R p q agree ys xs z.1)
  where
    which : (b c : Bool) → b ≡ c → (if c then Some x else find q xs) ≡ None → (find q xs ≡ None → find p ys ≡ None) → (if b then Some y else find p ys) ≡ None
    which true true e none later = absurd (some_not_none x none)
    which false false e none later = later none
    which true false e none later = absurd (true≢false e)
    which false true e none later = absurd (false≢true e)

pub whole_printed : (new old : List ℕ) → Agree (ArePrinted new old) is_whole is_whole
whole_printed new old ys xs z = whole_like new old ys xs (like_of new old ys xs z)

pub named_printed : (word new old : List ℕ) → Agree (ArePrinted new old) (is_at_rule_named word new) (is_at_rule_named word old)
named_printed word new old ys xs z = at_rule_named_like word new old ys xs (like_of new old ys xs z)

-- ---- what they are read as

-- Two items with as many pairs, of which one and the same count at the top of a sheet alone.
pub record AreAlikeItems (new old : List ℕ) (item' item : Item) : Type 0 where
  pub pairs : pairs_of item' ≡ pairs_of item
  pub top : is_top_item new item' ≡ is_top_item old item

-- the tokens of an item of a text
pub record IsItemIn (text : List ℕ) (xs : List Lexeme) : Type 0 where
  pub alone : tokens_in text (piece_of xs) ≡ xs
  pub ended : is_at_rule xs ≡ false → is_ended xs ≡ true

pub items_in : (text : List ℕ) → HasGoodTokens text → (raw : List (List Lexeme)) → AllByRecursion (IsRawItem (lexemes_of text)) raw → AllByRecursion (IsItemIn text) raw
items_in text good [] each = tt
items_in text good (xs ∷ raw) (one, rest) =
    (record { alone = stand_alone_in text good xs one.is_item.stands; ended = one.is_item.ended one.is_kept }, items_in text good raw rest)

top_block : (new old : List ℕ) (ys xs : List Lexeme) → ArePrinted new old ys xs → IsItemIn new ys → IsItemIn old xs →
    is_top_item new (KeptBlock (piece_of ys)) ≡ is_top_item old (KeptBlock (piece_of xs))
top_block new old ys xs z here there =
    let at_top : List ℕ → List Lexeme → Bool = λ text zs. is_import text zs || is_at_rule_named (codes "charset") text zs in
    ap (at_top new) here.alone
    ∙ ap₂ (λ (b c : Bool). b || c) (named_printed (codes "import") new old ys xs z) (named_printed (codes "charset") new old ys xs z)
    ∙ ap (at_top old) (sym there.alone)

kept_alike : (new old : List ℕ) (ys xs : List Lexeme) → ArePrinted new old ys xs → IsItemIn new ys → IsItemIn old xs → AreAlikeItems new old (KeptBlock (piece_of ys)) (KeptBlock (piece_of xs))
kept_alike new old ys xs z here there = record { pairs = refl; top = top_block new old ys xs z here there }

same_alike : (new old : List ℕ) (ys xs : List Lexeme) → ArePrinted new old ys xs → IsItemIn new ys → IsItemIn old xs → (item' item : Item) →
    SameAt (piece_of ys) (piece_of xs) item' item → AreAlikeItems new old item' item
same_alike new old ys xs z here there (Rule r') (Rule r) same =
    record { pairs = ap₂ (λ (m n : ℕ). m * n) (zip_length _ r'.selectors r.selectors same.0) (zip_length _ r'.decls r.decls same.1); top = refl }
same_alike new old ys xs z here there (Rule r') (KeptRule k) same = absurd same
same_alike new old ys xs z here there (Rule r') (KeptBlock p) same = absurd same
same_alike new old ys xs z here there (KeptRule k') (Rule r) same = absurd same
same_alike new old ys xs z here there (KeptRule k') (KeptRule k) same = record { pairs = refl; top = refl }
same_alike new old ys xs z here there (KeptRule k') (KeptBlock p) same = absurd same
same_alike new old ys xs z here there (KeptBlock p') (Rule r) same = absurd same
same_alike new old ys xs z here there (KeptBlock p') (KeptRule k) same = absurd same
same_alike new old ys xs z here there (KeptBlock p') (KeptBlock p) same =
    subst (λ p'. AreAlikeItems new old (KeptBlock p') (KeptBlock p)) (sym same.0)
    (subst (λ p. AreAlikeItems new old (KeptBlock (piece_of ys)) (KeptBlock p)) (sym same.1) (kept_alike new old ys xs z here there))

both_alike : (new old : List ℕ) (ys xs : List Lexeme) → ArePrinted new old ys xs → IsItemIn new ys → IsItemIn old xs → (a b : Option Item) →
    AreBoth (SameAt (piece_of ys) (piece_of xs)) a b → AreBoth (AreAlikeItems new old) a b
both_alike new old ys xs z here there None None both = tt
both_alike new old ys xs z here there None (Some x) both = absurd both
both_alike new old ys xs z here there (Some y) None both = absurd both
both_alike new old ys xs z here there (Some y) (Some x) both = same_alike new old ys xs z here there y x both

-- Items whose tokens are printed are read as items that are alike.
pub read_alike : (new old : List ℕ) (raw' raw : List (List Lexeme)) → AllZip (ArePrinted new old) raw' raw → AllByRecursion (IsItemIn new) raw' → AllByRecursion (IsItemIn old) raw →
    AllZip (AreAlikeItems new old) (read_items new raw') (read_items old raw)
read_alike new old [] [] z here there = tt
read_alike new old [] (xs ∷ raw) z here there = absurd z
read_alike new old (ys ∷ raw') [] z here there = absurd z
read_alike new old (ys ∷ raw') (xs ∷ raw) z here there =
    which (list_any (is_import new) raw') (list_any (is_import old) raw)
    (zip_any (ArePrinted new old) (is_import new) (is_import old) (named_printed (codes "import") new old) raw' raw z.1)
    (item_of new ys) (item_of old xs) (both_alike new old ys xs z.0 here.0 there.0 (item_of new ys) (item_of old xs) (inner_item_same new old ys xs z.0 there.0.ended))
    (read_alike new old raw' raw z.1 here.1 there.1)
  where
    put : (a b : Option Item) → AreBoth (AreAlikeItems new old) a b → AllZip (AreAlikeItems new old) (read_items new raw') (read_items old raw) →
        AllZip (AreAlikeItems new old) (cons_option a (read_items new raw')) (cons_option b (read_items old raw))
    put None None both later = later
    put None (Some x) both later = absurd both
    put (Some y) None both later = absurd both
    put (Some y) (Some x) both later = (both, later)

    which : (b c : Bool) → b ≡ c → (read' read : Option Item) → AreBoth (AreAlikeItems new old) read' read → AllZip (AreAlikeItems new old) (read_items new raw') (read_items old raw) →
        AllZip (AreAlikeItems new old) (cons_option (if b then Some (KeptBlock (piece_of ys)) else read') (read_items new raw')) (cons_option (if c then Some (KeptBlock (piece_of xs)) else read) (read_items old raw))
    which true true e read' read both later = (kept_alike new old ys xs z.0 here.0 there.0, later)
    which false false e read' read both later = put read' read both later
    which true false e read' read both later = absurd (true≢false e)
    which false true e read' read both later = absurd (false≢true e)
