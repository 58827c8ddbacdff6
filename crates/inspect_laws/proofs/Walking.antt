-- The entries of a sheet item by item: those of an opened block where the block stands.
use Rattle.std.proofs.Common.{◌≡◌, ◌≤◌, ◌+◌, ℕ, suc, Bool, true, false, cond, List, [], ◌∷◌, ◌++◌, map, Option, Some, None, option_map, append_assoc, refl, sym, ap, ◌∙◌, subst, arith, add-one}
use Rattle.std.specs.Prelude.{IsPermutation}
use Rattle.std.specs.List.{AllByRecursion, cons_option, enumerate_from, flat_map, list_any}
use Rattle.std.proofs.lemmas.List.Sorted.{IsPermutation-append_comm, IsPermutation-append_left, IsPermutation-append_right, IsPermutation-refl, IsPermutation-trans}
use Rattle.css_model.specs.declared.sheet.Item.{Item}
use Rattle.css_model.specs.declared.sheet.Item.TheVariants.{Rule, KeptRule, KeptBlock}
use Rattle.css_model.specs.declared.token.Lexeme.{Lexeme}
use Rattle.css_model.specs.Documents.SelectorParts.{SelectorParts}
use Rattle.css_model.specs.Sheets.Spelling.{tokens_in}
use Rattle.css_model.specs.Text.Source.{text_at}
use Rattle.media_groups.specs.declared.media.Media.{Media}
use Rattle.media_groups.specs.Opened.{body_of, is_import_item, is_media, media_of, opened_from, opened_item, opened_rule, sheet_of_body}
use Rattle.inspect_laws.specs.Entries.{Entry, Layer, body_layer, by_item, by_layer, entries_by, outer_item, outer_layer}
use Rattle.inspect_laws.proofs.Ascending.{Ascends, IsBefore, OfItem, all_append, all_weaker, ascend_append, by_items, of_body, of_item}

-- the opened block that an item before others is, if it is one
abbrev pub own : List ℕ → ℕ → Item → List Item → Option Media
own source n item items = cond (list_any (is_import_item source) items) None (opened_item source n item)

-- the kept items among items, the first of which has this number: each with the opened block that it is, if it is one
abbrev pub owns : List ℕ → ℕ → List Item → List (Option Media)
owns source n [] = []
owns source n (Rule r ∷ items) = owns source (suc n) items
owns source n (KeptRule k ∷ items) = None ∷ owns source (suc n) items
owns source n (KeptBlock piece ∷ items) = own source n (KeptBlock piece) items ∷ owns source (suc n) items

module _ (matched : SelectorParts → Bool) (source : List ℕ) (all : List Item) where
  abbrev pub outer : Layer
  outer = outer_layer source all

  -- the entries of a body
  abbrev pub of_block : Media → List Entry
  of_block m = by_layer matched (body_layer source m)

  abbrev pub of_own : Option Media → List Entry
  of_own None = []
  of_own (Some m) = of_block m

  -- the entries of items, the first of which has this number
  abbrev pub walked : ℕ → List Item → List Entry
  walked n [] = []
  walked n (item ∷ items) = by_item matched outer (n, item) ++ (of_own (own source n item items) ++ walked (suc n) items)

  -- ---- They are the entries level by level

  abbrev leveled : ℕ → List Item → List Entry
  leveled n items = flat_map (by_item matched outer) (enumerate_from n items) ++ flat_map of_block (opened_from source n items)

  first_block : (o : Option Media) (media : List Media) → flat_map of_block (cons_option o media) ≡ of_own o ++ flat_map of_block media
  first_block None media = refl
  first_block (Some m) media = refl

  moved : (es rs bs ms ws : List Entry) → IsPermutation (rs ++ ms) ws → IsPermutation ((es ++ rs) ++ (bs ++ ms)) (es ++ (bs ++ ws))
  moved es rs bs ms ws h =
      subst (λ (xs : List Entry). IsPermutation xs (es ++ (bs ++ ws))) (sym (append_assoc es rs (bs ++ ms)))
      (IsPermutation-append_right es (rs ++ (bs ++ ms)) (bs ++ ws)
      (IsPermutation-trans (rs ++ (bs ++ ms)) (bs ++ (rs ++ ms)) (bs ++ ws)
      (subst (λ (xs : List Entry). IsPermutation xs (bs ++ (rs ++ ms))) (append_assoc rs bs ms)
      (subst (IsPermutation ((rs ++ bs) ++ ms)) (append_assoc bs rs ms)
      (IsPermutation-append_left ms (rs ++ bs) (bs ++ rs) (IsPermutation-append_comm rs bs))))
      (IsPermutation-append_right bs (rs ++ ms) ws h)))

  walks : (n : ℕ) (items : List Item) → IsPermutation (leveled n items) (walked n items)
  walks n [] = IsPermutation-refl []
  walks n (item ∷ items) =
      subst (λ (xs : List Entry). IsPermutation ((by_item matched outer (n, item) ++ flat_map (by_item matched outer) (enumerate_from (n + 1) items)) ++ xs) (walked n (item ∷ items)))
      (sym (first_block (own source n item items) (opened_from source (suc n) items)))
      (subst (λ (k : ℕ). IsPermutation ((by_item matched outer (n, item) ++ flat_map (by_item matched outer) (enumerate_from k items)) ++ (of_own (own source n item items) ++ flat_map of_block (opened_from source (suc n) items))) (walked n (item ∷ items)))
      (sym (add-one n))
      (moved (by_item matched outer (n, item)) (flat_map (by_item matched outer) (enumerate_from (suc n) items)) (of_own (own source n item items)) (flat_map of_block (opened_from source (suc n) items)) (walked (suc n) items)
      (walks (suc n) items)))

  -- ---- They ascend

  abbrev item_or : ℕ → Option Media → ℕ
  item_or n None = n
  item_or n (Some m) = m.item

  rule_number : (n : ℕ) (tokens : List Lexeme) (m : Media) → opened_rule source n tokens ≡ Some m → m.item ≡ n
  rule_number n tokens m is = which (is_media source tokens) (sheet_of_body (text_at source (body_of tokens))) is
    where
      which : (b : Bool) (o : Option (List Item)) → cond b (option_map (media_of n tokens) o) None ≡ Some m → m.item ≡ n
      which true None is = absurd (let none : ⊥ = cc in none)
      which true (Some items) is = sym (ap (item_or n) is)
      which false o is = absurd (let none : ⊥ = cc in none)

  own_number : (n : ℕ) (item : Item) (items : List Item) (m : Media) → own source n item items ≡ Some m → m.item ≡ n
  own_number n item items m is = which (list_any (is_import_item source) items) item is
    where
      which : (b : Bool) (item : Item) → cond b None (opened_item source n item) ≡ Some m → m.item ≡ n
      which true item is = absurd (let none : ⊥ = cc in none)
      which false (Rule r) is = absurd (let none : ⊥ = cc in none)
      which false (KeptRule k) is = absurd (let none : ⊥ = cc in none)
      which false (KeptBlock piece) is = rule_number n (tokens_in source piece) m is

  own_ascends : (n : ℕ) (o : Option Media) → ((m : Media) → o ≡ Some m → m.item ≡ n) → Ascends (of_own o) × AllByRecursion (λ e. e.spot.item ≡ n) (of_own o)
  own_ascends n None number = (tt, tt)
  own_ascends n (Some m) number = of_body matched (body_layer source m) n (ap Some (number m refl))

  -- an item has entries of its own or is an opened block
  one_of_both : (n : ℕ) (item : Item) (items : List Item) → AllByRecursion (λ e. AllByRecursion (IsBefore e) (of_own (own source n item items))) (by_item matched outer (n, item))
  one_of_both n (Rule r) items = none (by_item matched outer (n, Rule r)) (list_any (is_import_item source) items)
    where
      none : (es : List Entry) (b : Bool) → AllByRecursion (λ e. AllByRecursion (IsBefore e) (of_own (cond b None None))) es
      none [] b = tt
      none (e ∷ es) true = (tt, none es true)
      none (e ∷ es) false = (tt, none es false)
  one_of_both n (KeptRule k) items = tt
  one_of_both n (KeptBlock piece) items = tt

  all_of_item : (n : ℕ) (es : List Entry) → AllByRecursion (OfItem matched outer n) es → AllByRecursion (λ e. e.spot.item ≡ n) es
  all_of_item n = all_weaker (OfItem matched outer n) (λ e. e.spot.item ≡ n) (λ e h. h.0)

  pub ascends : (n : ℕ) (items : List Item) → Ascends (walked n items) × AllByRecursion (λ e. n ≤ e.spot.item) (walked n items)
  ascends n [] = (tt, tt)
  ascends n (item ∷ items) =
      let mine = of_item matched outer n item in
      let inside = own_ascends n (own source n item items) (λ m is. own_number n item items m is) in
      let rest = ascends (suc n) items in
      let es = by_item matched outer (n, item) in
      let fs = of_own (own source n item items) in
      let gs = walked (suc n) items in
      let es_here : AllByRecursion (λ e. e.spot.item ≡ n) es = all_of_item n es mine.1 in
      let both : Ascends (es ++ fs) = ascend_append es fs mine.0 inside.0 (one_of_both n item items) in
      let here : AllByRecursion (λ e. e.spot.item ≡ n) (es ++ fs) = all_append (λ e. e.spot.item ≡ n) es fs es_here inside.1 in
      let same : (es ++ fs) ++ gs ≡ es ++ (fs ++ gs) = append_assoc es fs gs in (
        subst Ascends same (ascend_append (es ++ fs) gs both rest.0 (all_past (es ++ fs) gs here rest.1)),
        subst (AllByRecursion (λ e. n ≤ e.spot.item)) same
            (all_append (λ e. n ≤ e.spot.item) (es ++ fs) gs
            (all_weaker (λ e. e.spot.item ≡ n) (λ e. n ≤ e.spot.item) (λ e h. omega (arith, h)) (es ++ fs) here)
            (all_weaker (λ e. suc n ≤ e.spot.item) (λ e. n ≤ e.spot.item) (λ e h. omega (arith, h)) gs rest.1)),
      )
    where
      past : (e : Entry) → e.spot.item ≡ n → (gs : List Entry) → AllByRecursion (λ g. suc n ≤ g.spot.item) gs → AllByRecursion (IsBefore e) gs
      past e is [] from = tt
      past e is (g ∷ gs) from = (by_items e g (let low = from.0 in omega (arith, is, low)), past e is gs from.1)

      all_past : (es gs : List Entry) → AllByRecursion (λ e. e.spot.item ≡ n) es → AllByRecursion (λ g. suc n ≤ g.spot.item) gs → AllByRecursion (λ e. AllByRecursion (IsBefore e) gs) es
      all_past [] gs here from = tt
      all_past (e ∷ es) gs here from = (past e here.0 gs from, all_past es gs here.1 from)

-- all entries, item by item
pub walks_all : (matched : SelectorParts → Bool) (source : List ℕ) (items : List Item) → IsPermutation (entries_by matched source items) (walked matched source items 0 items)
walks_all matched source items = walks matched source items 0 items
