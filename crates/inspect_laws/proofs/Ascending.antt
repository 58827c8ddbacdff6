-- Entries in the order in which they stand: each after those before it.
use Rattle.std.proofs.Common.{◌≡◌, ◌<◌, ◌≤◌, ◌+◌, inl, inr, ℕ, suc, Bool, true, false, cond, List, [], ◌∷◌, ◌++◌, map, Option, Some, None, refl, sym, ap, ◌∙◌, subst, arith}
use Rattle.std.specs.Prelude.{⊤}
use Rattle.std.specs.List.{AllByRecursion, enumerate_from, flat_map}
use Rattle.std.proofs.lemmas.Bool.Decides.{nat_tests}
use Rattle.std.proofs.lemmas.List.{map-append}
use Rattle.css_model.specs.declared.sheet.DeclItem.{DeclItem}
use Rattle.css_model.specs.declared.sheet.Item.{Item}
use Rattle.css_model.specs.declared.sheet.Item.TheVariants.{Rule, KeptRule, KeptBlock}
use Rattle.css_model.specs.declared.sheet.SelItem.{SelItem}
use Rattle.css_model.specs.Cascade.Winner.{exceeds}
use Rattle.css_model.specs.Documents.SelectorParts.{SelectorParts}
use Rattle.css_model.specs.Documents.Specificity.{specificity_of}
use Rattle.css_model.specs.Sheets.Printed.{printed_selector}
use Rattle.css_model.specs.Sheets.RuleParts.{RuleParts}
use Rattle.inspect_laws.specs.Entries.{Entry, Layer, Matching, Spot, by_item, by_layer, by_rule, entry_of, inner_item, matching_in, matching_of, outer_item}
use Rattle.inspect_laws.specs.Order.{numbers_of}

-- one stands before another one
abbrev pub IsBefore : Entry → Entry → Type 0
IsBefore e f = exceeds (numbers_of f.spot) (numbers_of e.spot) ≡ true

abbrev pub Ascends : List Entry → Type 0
Ascends [] = ⊤
Ascends (e ∷ es) = AllByRecursion (IsBefore e) es × Ascends es

-- ---- The first number that differs decides

less : (x y : ℕ) (xs ys : List ℕ) → y < x → exceeds (x ∷ xs) (y ∷ ys) ≡ true
less x y xs ys h = grind (arith, nat_tests)

same : (x y : ℕ) (xs ys : List ℕ) → x ≡ y → exceeds xs ys ≡ true → exceeds (x ∷ xs) (y ∷ ys) ≡ true
same x y xs ys e h = grind (arith, nat_tests)

abbrev behind_item : Spot → List ℕ
behind_item s = s.inner ∷ s.declaration ∷ s.selector ∷ []

abbrev behind_inner : Spot → List ℕ
behind_inner s = s.declaration ∷ s.selector ∷ []

abbrev behind_declaration : Spot → List ℕ
behind_declaration s = s.selector ∷ []

pub by_items : (e f : Entry) → e.spot.item < f.spot.item → IsBefore e f
by_items e f h = less f.spot.item e.spot.item (behind_item f.spot) (behind_item e.spot) h

in_item : (e f : Entry) → e.spot.item ≡ f.spot.item → exceeds (behind_item f.spot) (behind_item e.spot) ≡ true → IsBefore e f
in_item e f item h = same f.spot.item e.spot.item (behind_item f.spot) (behind_item e.spot) (sym item) h

pub by_inner_items : (e f : Entry) → e.spot.item ≡ f.spot.item → e.spot.inner < f.spot.inner → IsBefore e f
by_inner_items e f item h = in_item e f item (less f.spot.inner e.spot.inner (behind_inner f.spot) (behind_inner e.spot) h)

in_inner : (e f : Entry) → e.spot.item ≡ f.spot.item → e.spot.inner ≡ f.spot.inner → exceeds (behind_inner f.spot) (behind_inner e.spot) ≡ true → IsBefore e f
in_inner e f item inner h = in_item e f item (same f.spot.inner e.spot.inner (behind_inner f.spot) (behind_inner e.spot) (sym inner) h)

by_declarations : (e f : Entry) → e.spot.item ≡ f.spot.item → e.spot.inner ≡ f.spot.inner → e.spot.declaration < f.spot.declaration → IsBefore e f
by_declarations e f item inner h = in_inner e f item inner (less f.spot.declaration e.spot.declaration (behind_declaration f.spot) (behind_declaration e.spot) h)

by_selectors : (e f : Entry) → e.spot.item ≡ f.spot.item → e.spot.inner ≡ f.spot.inner → e.spot.declaration ≡ f.spot.declaration → e.spot.selector < f.spot.selector → IsBefore e f
by_selectors e f item inner declaration h =
    in_inner e f item inner (same f.spot.declaration e.spot.declaration (behind_declaration f.spot) (behind_declaration e.spot) (sym declaration) (less f.spot.selector e.spot.selector [] [] h))

-- ---- Lists one after the other

pub all_weaker : (P Q : Entry → Type 0) → ((e : Entry) → P e → Q e) → (es : List Entry) → AllByRecursion P es → AllByRecursion Q es
all_weaker P Q weaker [] all = tt
all_weaker P Q weaker (e ∷ es) all = (weaker e all.0, all_weaker P Q weaker es all.1)

pub all_append : (P : Entry → Type 0) (es fs : List Entry) → AllByRecursion P es → AllByRecursion P fs → AllByRecursion P (es ++ fs)
all_append P [] fs all more = more
all_append P (e ∷ es) fs all more = (all.0, all_append P es fs all.1 more)

pub ascend_append : (es fs : List Entry) → Ascends es → Ascends fs → AllByRecursion (λ e. AllByRecursion (IsBefore e) fs) es → Ascends (es ++ fs)
ascend_append [] fs up more before = more
ascend_append (e ∷ es) fs up more before = (all_append (IsBefore e) es fs up.0 before.0, ascend_append es fs up.1 more before.1)

-- Entries of numbered things, by a number that they have and by what they have in common.
module _ (X : Type 0) (f : ℕ × X → List Entry) (number : Entry → ℕ) (Common : Entry → Type 0) where
  abbrev Numbered : ℕ × X → Type 0
  Numbered x = AllByRecursion (λ e. (number e ≡ x.0) × Common e) (f x)

  abbrev From : ℕ → List Entry → Type 0
  From n es = AllByRecursion (λ e. (n ≤ number e) × Common e) es

  module _ (up : (x : ℕ × X) → Ascends (f x)) (numbered : (x : ℕ × X) → Numbered x) (before : (e g : Entry) → Common e → Common g → number e < number g → IsBefore e g) where
    past : (n : ℕ) (e : Entry) → number e ≡ n → Common e → (es : List Entry) → From (n + 1) es → AllByRecursion (IsBefore e) es
    past n e is common [] from = tt
    past n e is common (g ∷ es) from = (before e g common (from.0).1 (let low = (from.0).0 in omega (arith, is, low)), past n e is common es from.1)

    all_past : (n : ℕ) (es gs : List Entry) → AllByRecursion (λ e. (number e ≡ n) × Common e) es → From (n + 1) gs → AllByRecursion (λ e. AllByRecursion (IsBefore e) gs) es
    all_past n [] gs all from = tt
    all_past n (e ∷ es) gs all from = (past n e (all.0).0 (all.0).1 gs from, all_past n es gs all.1 from)

    pub flat_ascends : (n : ℕ) (xs : List X) → Ascends (flat_map f (enumerate_from n xs)) × From n (flat_map f (enumerate_from n xs))
    flat_ascends n [] = (tt, tt)
    flat_ascends n (x ∷ xs) =
        let rest = flat_ascends (n + 1) xs in (
          ascend_append (f (n, x)) (flat_map f (enumerate_from (n + 1) xs)) (up (n, x)) rest.0 (all_past n (f (n, x)) (flat_map f (enumerate_from (n + 1) xs)) (numbered (n, x)) rest.1),
          all_append (λ e. (n ≤ number e) × Common e) (f (n, x)) (flat_map f (enumerate_from (n + 1) xs))
              (all_weaker (λ e. (number e ≡ n) × Common e) (λ e. (n ≤ number e) × Common e) (λ e h. (let is = h.0 in omega (arith, is), h.1)) (f (n, x)) (numbered (n, x)))
              (all_weaker (λ e. (n + 1 ≤ number e) × Common e) (λ e. (n ≤ number e) × Common e) (λ e h. (let low = h.0 in omega (arith, low), h.1)) (flat_map f (enumerate_from (n + 1) xs)) rest.1),
        )

-- ---- The entries of a rule

module _ (matched : SelectorParts → Bool) (l : Layer) (item : ℕ) where
  -- they are those of this item
  abbrev pub OfItem : Entry → Type 0
  OfItem e = (e.spot.item ≡ outer_item l.block item) × (e.spot.inner ≡ inner_item l.block item)

  module _ (d : ℕ × DeclItem) where
    abbrev OfDeclaration : Entry → Type 0
    OfDeclaration e = OfItem e × (e.spot.declaration ≡ d.0)

    -- by one selector
    abbrev one : ℕ × SelItem → List Entry
    one s = map (entry_of l item d) (matching_of matched l.source s)

    selectors_apart : (xs : List (ℕ × SelItem)) → map (entry_of l item d) (matching_in matched l.source xs) ≡ flat_map one xs
    selectors_apart [] = refl
    selectors_apart (s ∷ xs) = map-append (entry_of l item d) (matching_of matched l.source s) (matching_in matched l.source xs) ∙ ap (λ (es : List Entry). one s ++ es) (selectors_apart xs)

    one_ascends : (s : ℕ × SelItem) → Ascends (one s)
    one_ascends s = which (matched s.1.selector)
      where
        which : (b : Bool) → Ascends (map (entry_of l item d) (cond b (record { number = s.0; specificity = specificity_of s.1.selector; text = printed_selector l.source s.1 } ∷ []) []))
        which true = (tt, tt)
        which false = tt

    one_numbered : (s : ℕ × SelItem) → AllByRecursion (λ e. (e.spot.selector ≡ s.0) × OfDeclaration e) (one s)
    one_numbered s = which (matched s.1.selector)
      where
        which : (b : Bool) → AllByRecursion (λ e. (e.spot.selector ≡ s.0) × OfDeclaration e) (map (entry_of l item d) (cond b (record { number = s.0; specificity = specificity_of s.1.selector; text = printed_selector l.source s.1 } ∷ []) []))
        which true = ((refl, ((refl, refl), refl)), tt)
        which false = tt

    of_declaration : (selectors : List SelItem) →
        Ascends (map (entry_of l item d) (matching_in matched l.source (enumerate_from 0 selectors)))
        × AllByRecursion (λ e. (e.spot.declaration ≡ d.0) × OfItem e) (map (entry_of l item d) (matching_in matched l.source (enumerate_from 0 selectors)))
    of_declaration selectors =
        let flat = flat_ascends SelItem one (λ e. e.spot.selector) OfDeclaration one_ascends one_numbered
        (λ e g c c' h. by_selectors e g (((c.0).0) ∙ sym ((c'.0).0)) (((c.0).1) ∙ sym ((c'.0).1)) (c.1 ∙ sym c'.1) h) 0 selectors in
        let apart = selectors_apart (enumerate_from 0 selectors) in (
          subst Ascends (sym apart) flat.0,
          subst (AllByRecursion (λ e. (e.spot.declaration ≡ d.0) × OfItem e)) (sym apart)
              (all_weaker (λ e. (0 ≤ e.spot.selector) × OfDeclaration e) (λ e. (e.spot.declaration ≡ d.0) × OfItem e) (λ e h. ((h.1).1, (h.1).0)) (flat_map one (enumerate_from 0 selectors)) flat.1),
        )

  pub of_rule : (r : RuleParts) → Ascends (by_rule matched l item r) × AllByRecursion OfItem (by_rule matched l item r)
  of_rule r =
      let flat = flat_ascends DeclItem (λ d. map (entry_of l item d) (matching_in matched l.source (enumerate_from 0 r.selectors))) (λ e. e.spot.declaration) OfItem
      (λ d. (of_declaration d r.selectors).0) (λ d. (of_declaration d r.selectors).1)
      (λ e g c c' h. by_declarations e g (c.0 ∙ sym c'.0) (c.1 ∙ sym c'.1) h) 0 r.decls in
      (flat.0, all_weaker (λ e. (0 ≤ e.spot.declaration) × OfItem e) OfItem (λ e h. h.1) (by_rule matched l item r) flat.1)

  pub of_item : (x : Item) → Ascends (by_item matched l (item, x)) × AllByRecursion OfItem (by_item matched l (item, x))
  of_item (Rule r) = of_rule r
  of_item (KeptRule k) = (tt, tt)
  of_item (KeptBlock piece) = (tt, tt)

-- ---- The entries of a body

pub of_body : (matched : SelectorParts → Bool) (l : Layer) (block : ℕ) → l.block ≡ Some block → Ascends (by_layer matched l) × AllByRecursion (λ e. e.spot.item ≡ block) (by_layer matched l)
of_body matched l block is =
    let flat = flat_ascends Item (by_item matched l) (λ e. e.spot.inner) (λ e. e.spot.item ≡ block)
    (λ x. (of_item matched l x.0 x.1).0)
    (λ x. all_weaker (OfItem matched l x.0) (λ e. (e.spot.inner ≡ x.0) × (e.spot.item ≡ block))
    (λ e h. (h.1 ∙ ap (λ (b : Option ℕ). inner_item b x.0) is, h.0 ∙ ap (λ (b : Option ℕ). outer_item b x.0) is)) (by_item matched l x) (of_item matched l x.0 x.1).1)
    (λ e g c c' h. by_inner_items e g (c ∙ sym c') h) 0 l.items in
    (flat.0, all_weaker (λ e. (0 ≤ e.spot.inner) × (e.spot.item ≡ block)) (λ e. e.spot.item ≡ block) (λ e h. h.1) (by_layer matched l) flat.1)
