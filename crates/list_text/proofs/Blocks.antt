-- The opened blocks on the way through the items of a sheet.
use Rattle.std.proofs.Common.{◌≡◌, ◌≤◌, ◌<◌, ◌==◌, ℕ, suc, Bool, true, false, cond, eqb, List, [], ◌∷◌, map, Option, Some, None, is_some, length, get_or, refl, sym, ap, ◌∙◌, subst, arith}
use Rattle.std.specs.List.{AllByRecursion, AllZip, cons_option, find, list_any}
use Rattle.css_model.specs.declared.sheet.Item.{Item}
use Rattle.css_model.specs.declared.sheet.Item.TheVariants.{Rule, KeptRule, KeptBlock}
use Rattle.css_model.specs.declared.token.Lexeme.{Lexeme}
use Rattle.css_model.specs.Sheets.SheetParts.{SheetParts}
use Rattle.css_model.specs.Sheets.Spelling.{tokens_in}
use Rattle.css_model.specs.Text.Source.{text_at}
use Rattle.media_groups.specs.declared.media.Media.{Media}
use Rattle.media_groups.specs.Laws.{IsBlockOf, OpenedBlocksAreSheets, OpenedBodiesAreSound}
use Rattle.media_groups.specs.Opened.{body_of, is_import_item, is_media, media_of, opened_from, opened_item, opened_of, opened_rule, sheet_of_body}
use Rattle.media_groups.specs.Printed.{IsSoundBody}
use Rattle.std.specs.Option.{option_map}
use Rattle.list_text.specs.ListTexts.{block_of}
use Rattle.list_text.specs.Standing.{after_first, AreLeft, first_of, IsBody}

-- ---- The number of an opened block

abbrev item_or : ℕ → Option Media → ℕ
item_or n None = n
item_or n (Some m) = m.item

rule_number : (text : List ℕ) (n : ℕ) (tokens : List Lexeme) (m : Media) → opened_rule text n tokens ≡ Some m → m.item ≡ n
rule_number text n tokens m is = which (is_media text tokens) (sheet_of_body (text_at text (body_of tokens))) is
  where
    which : (b : Bool) (o : Option (List Item)) → cond b (option_map (media_of n tokens) o) None ≡ Some m → m.item ≡ n
    which true None is = absurd (cc)
    which true (Some items) is = sym (ap (item_or n) is)
    which false o is = absurd (cc)

item_number : (text : List ℕ) (n : ℕ) (item : Item) (m : Media) → opened_item text n item ≡ Some m → m.item ≡ n
item_number text n (Rule r) m is = absurd (cc)
item_number text n (KeptRule k) m is = absurd (cc)
item_number text n (KeptBlock piece) m is = rule_number text n (tokens_in text piece) m is

-- the block that an item before these is opened as, if it is
abbrev block_at : (text : List ℕ) (n : ℕ) (item : Item) (items : List Item) → Option Media
block_at text n item items = cond (list_any (is_import_item text) items) None (opened_item text n item)

block_number : (text : List ℕ) (n : ℕ) (item : Item) (items : List Item) (m : Media) → block_at text n item items ≡ Some m → m.item ≡ n
block_number text n item items m is = which (list_any (is_import_item text) items) is
  where
    which : (b : Bool) → cond b None (opened_item text n item) ≡ Some m → m.item ≡ n
    which true is = absurd (cc)
    which false is = item_number text n item m is

numbers_from : (text : List ℕ) (n : ℕ) (items : List Item) → AllByRecursion (λ m. n ≤ m.item) (opened_from text n items)
numbers_from text n [] = tt
numbers_from text n (item ∷ items) = which (block_at text n item items) refl (later (opened_from text (suc n) items) (numbers_from text (suc n) items))
  where
    later : (media : List Media) → AllByRecursion (λ m. suc n ≤ m.item) media → AllByRecursion (λ m. n ≤ m.item) media
    later [] all = tt
    later (m ∷ media) all = (omega (arith, all.0), later media all.1)

    which : (o : Option Media) → block_at text n item items ≡ o → AllByRecursion (λ m. n ≤ m.item) (opened_from text (suc n) items) → AllByRecursion (λ m. n ≤ m.item) (cons_option o (opened_from text (suc n) items))
    which None is all = all
    which (Some m) is all = let number : m.item ≡ n = block_number text n item items m is in (omega (arith, number), all)

-- ---- Which block has a number

eq_true : (a b : ℕ) → a ≡ b → (a == b) ≡ true
eq_true a b h = grind (arith, h)

eq_false : (a b : ℕ) → a < b → (b == a) ≡ false
eq_false a b h = grind (arith, h)

eq_below : (a b : ℕ) → a < b → (a == b) ≡ false
eq_below a b h = grind (arith, h)

none_below : (n : ℕ) (media : List Media) → AllByRecursion (λ m. suc n ≤ m.item) media → block_of (suc n) media ≡ None
none_below n [] all = refl
none_below n (m ∷ media) all = let no : (suc m.item == suc n) ≡ false = eq_false (suc n) (suc m.item) (omega (arith, all.0)) in rw no (none_below n media all.1)

first_below : (n : ℕ) (media : List Media) → AllByRecursion (λ m. suc n ≤ m.item) media → (first_of (suc n) media ≡ None) × (after_first (suc n) media ≡ media)
first_below n [] all = (refl, refl)
first_below n (m ∷ media) all = let no : (suc m.item == suc n) ≡ false = eq_false (suc n) (suc m.item) (omega (arith, all.0)) in (rw no refl, rw no refl)

-- what is known after one item more
record IsStep (text : List ℕ) (n : ℕ) (items : List Item) (media : List Media) : Type 0 where
  here : first_of (suc n) media ≡ block_of (suc n) media
  rest : after_first (suc n) media ≡ opened_from text (suc n) items
  later : (k : ℕ) → suc n ≤ k → block_of (suc k) media ≡ block_of (suc k) (opened_from text (suc n) items)

one_step : (text : List ℕ) (n : ℕ) (item : Item) (items : List Item) → IsStep text n items (opened_from text n (item ∷ items))
one_step text n item items = which (block_at text n item items) refl
  where
    which : (o : Option Media) → block_at text n item items ≡ o → IsStep text n items (cons_option o (opened_from text (suc n) items))
    which None is =
        let all = numbers_from text (suc n) items in
        let none = first_below n (opened_from text (suc n) items) all in
        record { here = none.0 ∙ sym (none_below n (opened_from text (suc n) items) all); rest = none.1; later = λ k le. refl }
    which (Some m) is =
        let number : m.item ≡ n = block_number text n item items m is in
        let yes : (suc m.item == suc n) ≡ true = eq_true (suc m.item) (suc n) (ap suc number) in
        record {
          here = rw yes refl;
          rest = rw yes refl;
          later = λ k le. (let no : (suc m.item == suc k) ≡ false = eq_below (suc m.item) (suc k) (omega (arith, number, le)) in rw no refl);
        }

-- the block of an item, and what is left after it
pub block_here : (text : List ℕ) (all : List Item) (n : ℕ) (item : Item) (items : List Item) (media : List Media) → AreLeft text all n (item ∷ items) media
    → first_of (suc n) media ≡ block_of (suc n) (opened_of all text)
block_here text all n item items media left =
    let step = one_step text n item items in
    ap (first_of (suc n)) left.are ∙ step.here ∙ sym (ap (block_of (suc n)) left.are) ∙ sym (left.found n (omega arith))

bodies_after : (text : List ℕ) (number : ℕ) (media : List Media) → AllByRecursion (IsBody text) media → AllByRecursion (IsBody text) (after_first number media)
bodies_after text number [] all = tt
bodies_after text number (m ∷ media) all = which (suc m.item == number)
  where
    which : (b : Bool) → AllByRecursion (IsBody text) (cond b media (m ∷ media))
    which true = all.1
    which false = all

pub left_after : (text : List ℕ) (all : List Item) (n : ℕ) (item : Item) (items : List Item) (media : List Media) → AreLeft text all n (item ∷ items) media
    → AreLeft text all (suc n) items (after_first (suc n) media)
left_after text all n item items media left =
    let step = one_step text n item items in
    let are : after_first (suc n) media ≡ opened_from text (suc n) items = ap (after_first (suc n)) left.are ∙ step.rest in
    record {
      are = are;
      found = λ k le. left.found k (omega (arith, le)) ∙ ap (block_of (suc k)) left.are ∙ step.later k le ∙ sym (ap (block_of (suc k)) are);
      bodies = bodies_after text (suc n) media left.bodies;
    }

pub left_first : (text : List ℕ) (items : List Item) (media : List Media) → media ≡ opened_of items text → AllByRecursion (IsBody text) media → AreLeft text items 0 items media
left_first text items media is bodies = record { are = is; found = λ k le. sym (ap (block_of (suc k)) is); bodies = bodies }

-- ---- The first of some blocks

-- a block that is the first one
pub first_is : (number : ℕ) (media : List Media) (d : Media) → is_some (first_of number media) ≡ true → (0 < length media) × (first_of number media ≡ Some (get_or media 0 d))
first_is number [] d is = absurd (cc)
first_is number (m ∷ media) d is = (omega arith, which (suc m.item == number) is)
  where
    which : (b : Bool) → is_some (cond b (Some m) None) ≡ true → cond b (Some m) None ≡ Some m
    which true is = refl
    which false is = absurd (cc)

pub first_none : (number : ℕ) (media : List Media) → is_some (first_of number media) ≡ false → first_of number media ≡ None
first_none number media is = which (first_of number media) is
  where
    which : (o : Option Media) → is_some o ≡ false → o ≡ None
    which None is = refl
    which (Some m) is = absurd (cc)

pub first_body : (text : List ℕ) (number : ℕ) (media : List Media) (d : Media) → is_some (first_of number media) ≡ true → AllByRecursion (IsBody text) media → IsBody text (get_or media 0 d)
first_body text number [] d is all = absurd (cc)
first_body text number (m ∷ media) d is all = all.0

-- ---- The bodies can be printed

pub bodies_of : OpenedBlocksAreSheets → OpenedBodiesAreSound → (source : List ℕ) (items : List Item) → AllByRecursion (IsBody source) (opened_of items source)
bodies_of blocks sound source items = both (opened_of items source) (blocks source items) (sound source items)
  where
    both : (media : List Media) → AllByRecursion (IsBlockOf source) media → AllZip (IsSoundBody source) media (map (λ m. m.sheet) media) → AllByRecursion (IsBody source) media
    both [] blocks sound = tt
    both (m ∷ media) blocks sound = (record { block = blocks.0; sound = sound.0.sound }, both media blocks.1 sound.1)
