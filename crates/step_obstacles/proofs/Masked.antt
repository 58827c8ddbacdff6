-- What masks without a common bit tell: nothing of an item weighs with what is moved.
use Rattle.std.proofs.Common.{◌≡◌, ◌⊎◌, ℕ, ◌<◌, Bool, true, false, List, [], ◌∷◌, Some, None, refl, sym, ap, ap₂, ◌∙◌, subst, inl, inr, arith}
use Rattle.std.specs.Prelude.{Option, Result, Ok, Err, IfOk, if◌then◌else◌, bit_and, bit_or, map, max, slice_get}
use Rattle.std.specs.Int.Bits.{and_zero_l}
use Rattle.std.proofs.lemmas.Nat.Bits.{bit_at_or, bit_at-lt}
use Rattle.cascade_laws.proofs.ForCallers.{some-same}
use Rattle.item_masks.specs.Masks as both
use Rattle.item_masks.specs.declared.mask.ItemMask.{ItemMask}
use Rattle.list_facts.proofs.Members.{Contains-nil, Contains-cons_cases}
use Rattle.obstacles.specs.declared.obstacle.Obstacle.{Obstacle}
use Rattle.std.specs.Option.{option_map}
use Rattle.std.proofs.lemmas.Option.{slice_get-map}
use Rattle.std.specs.Borrow.{Bor}
use Rattle.std.specs.Int.{bit_at}
use Rattle.std.specs.List.{Contains}
use Rattle.css_model.specs.declared.sheet.Decl.{Decl}
use Rattle.css_model.specs.Documents.SelectorParts.{SelectorParts}
use Rattle.css_model.specs.declared.sheet.DeclItem.{DeclItem}
use Rattle.css_model.specs.declared.sheet.Item.{Item}
use Rattle.css_model.specs.declared.sheet.Item.TheVariants.{Rule, KeptRule, KeptBlock}
use Rattle.css_model.specs.Sheets.RuleParts.{RuleParts}
use Rattle.order_laws.proofs.ForCallers.{map_has}
use Rattle.overlap.specs.PairsParts.{Answered}
use Rattle.related_props.proofs.ForCallers.{kept_shows, related_have_common, related_shows}
use Rattle.related_props.proofs.MaskBits.{common_shows}
use Rattle.related_props.specs.Masks.{IsWithin, decl_mask, item_mask}
use Rattle.step_obstacles.proofs.PairAnswers.{kept_light}
use Rattle.step_obstacles.specs.Blocked.{AllPass, Crosses, IsFound, IsToldOf}
use Rattle.step_obstacles.specs.declared.facing.Met.{Met}
use Rattle.step_obstacles.specs.declared.facing.Source.{Source}
use Rattle.step_obstacles.specs.Turns.{AreMasked, IsItemOf, IsMasked, IsMet, OfDecl, OfItem, OfNumber, OfSource, is_common, mask_in, pair_of, with_masks}
use Rattle.plan_laws.specs.Barrier.Hindering.{OfPair}
use Rattle.window_order.specs.declared.window.Window.{Window}
use Rattle.window_order.specs.Weighing.{DeclsWeigh}

pub weigh_shows : (d f : Decl) → DeclsWeigh d f → bit_and (decl_mask d) (decl_mask f) ≡ 0 → ⊥
weigh_shows d f weigh none = common_shows (decl_mask d) (decl_mask f) (related_have_common d f weigh.names) none

-- ---- Bits of some masks

greatest_left : (a b : ℕ) → a ≡ 1 → b < 2 → max a b ≡ 1
greatest_left a b e less = grind (arith, e, less)

greatest_right : (a b : ℕ) → b ≡ 1 → a < 2 → max a b ≡ 1
greatest_right a b e less = grind (arith, e, less)

in_left : (m n i : ℕ) → bit_at m i ≡ 1 → bit_at (bit_or m n) i ≡ 1
in_left m n i h = bit_at_or m n i ∙ (let small : bit_at n i < 2 = bit_at-lt n i in greatest_left (bit_at m i) (bit_at n i) h small)

in_right : (m n i : ℕ) → bit_at n i ≡ 1 → bit_at (bit_or m n) i ≡ 1
in_right m n i h = bit_at_or m n i ∙ (let small : bit_at m i < 2 = bit_at-lt m i in greatest_right (bit_at m i) (bit_at n i) h small)

masks_stay : (mask : ℕ) (ms : List ℕ) → IsWithin mask (with_masks mask ms)
masks_stay mask [] i h = h
masks_stay mask (m ∷ ms) i h = masks_stay (bit_or mask m) ms i (in_left mask m i h)

masks_put : (mask : ℕ) (ms : List ℕ) (k : ℕ) → Contains ms k → IsWithin k (with_masks mask ms)
masks_put mask [] k inside i h = absurd (Contains-nil k inside)
masks_put mask (m ∷ ms) k inside i h = which (λ g. masks_put (bit_or mask m) ms k g i h) (Contains-cons_cases m ms k inside)
  where
    which : (Contains ms k → bit_at (with_masks (bit_or mask m) ms) i ≡ 1) → (m ≡ k) ⊎ Contains ms k → bit_at (with_masks (bit_or mask m) ms) i ≡ 1
    which again (inl e) = masks_stay (bit_or mask m) ms i (in_right mask m i (subst (λ (o : ℕ). bit_at o i ≡ 1) (sym e) h))
    which again (inr g) = again g

-- ---- The masks of declarations

-- the one of a number among what a function gives of a list
pub at_map : {X Y : Type 0} (f : X → Y) (xs : List X) (ys : List Y) (n : ℕ) (x : X) → ys ≡ map f xs → slice_get xs n ≡ Some x → slice_get ys n ≡ Some (f x)
at_map {X} {Y} f xs ys n x is at = ap (λ (list : List Y). slice_get list n) is ∙ slice_get-map f xs n ∙ ap (option_map f) at

common_mask : (with : Option (Bor RuleParts)) (x : DeclItem) → is_common with x.decl ≡ true → mask_in with x ≡ decl_mask x.decl
common_mask with x common = ap (λ (b : Bool). if b then decl_mask x.decl else 0) common

if_counts : (b : Bool) (k n : ℕ) → (bit_and (if b then k else 0) n ≡ 0 → ⊥) → b ≡ true
if_counts true k n h = refl
if_counts false k n h = absurd (h (and_zero_l n))

-- a declaration counts whose mask has a bit of another one
counts : (with : Option (Bor RuleParts)) (x : DeclItem) (m n : ℕ) → m ≡ mask_in with x → (bit_and m n ≡ 0 → ⊥) → is_common with x.decl ≡ true
counts with x m n is some = if_counts (is_common with x.decl) (decl_mask x.decl) n (λ none. some (ap (λ (o : ℕ). bit_and o n) is ∙ none))

module _ (s : Source) (masked : IsMasked s) where
  -- the mask of the declaration of a number
  mask_is : (part m : ℕ) → slice_get s.masks.items part ≡ Some m → (x : DeclItem) → slice_get s.rule.now.decls part ≡ Some x → m ≡ mask_in s.with x
  mask_is part m at x x_at = some-same (sym at ∙ at_map (mask_in s.with) s.rule.now.decls s.masks.items part x masked.masks x_at)

  -- a common declaration is within the mask of its rule
  is_within : (x : DeclItem) → Contains s.rule.now.decls x → is_common s.with x.decl ≡ true → IsWithin (decl_mask x.decl) s.mask
  is_within x inside common =
      let there : Contains s.masks.items (mask_in s.with x) = subst (λ ms. Contains ms (mask_in s.with x)) (sym masked.masks) (map_has (mask_in s.with) s.rule.now.decls x inside) in
      subst (IsWithin (decl_mask x.decl)) (sym masked.mask) (subst (λ (k : ℕ). IsWithin k (with_masks 0 s.masks.items)) (common_mask s.with x common) (masks_put 0 s.masks.items (mask_in s.with x) there))

-- ---- What masks tell of items

module _ (answers : List Answered) (w : Window) (n : ℕ) where
  decl_passes : (item : Item) → slice_get w.items.now n ≡ Some item → (r : RuleParts) (d : Decl) (m : ℕ) → IsWithin (decl_mask d) m → bit_and m (item_mask item) ≡ 0 →
      AllPass answers w (OfItem r d w.items.now n item)
  decl_passes (Rule q) at r d m within none by (g, g_in, (y, y_in, (x, x_in, is))) crosses =
      let c : Crosses w (OfPair (pair_of x d) (pair_of y g.decl)) = subst (Crosses w) is crosses in
      absurd (related_shows d m q g within g_in c.0.names none)
  decl_passes (KeptRule k) at r d m within none by of crosses =
      kept_light answers w n (KeptRule k) at refl r d (λ p e h. kept_shows p m (KeptRule k) (subst (λ (f : Decl). IsWithin (decl_mask f) m) (sym e) within) h none) by of crosses
  decl_passes (KeptBlock k) at r d m within none by of crosses =
      kept_light answers w n (KeptBlock k) at refl r d (λ p e h. kept_shows p m (KeptBlock k) (subst (λ (f : Decl). IsWithin (decl_mask f) m) (sym e) within) h none) by of crosses

  -- nothing of an item blocks the pairs of a rule whose mask has no bit of it
  source_passes : (item : Item) → slice_get w.items.now n ≡ Some item → (s : Source) → IsMasked s → bit_and s.mask (item_mask item) ≡ 0 → AllPass answers w (OfSource w.items.now n item s)
  source_passes item at s masked none by (x, inside, (common, of)) =
      decl_passes item at s.rule.now x.decl s.mask (is_within s masked x inside common) none by of

-- ---- The same of what the code has at hand

pub source_passed : (answers : List Answered) (w : Window) (n : ℕ) (item : Item) (s : Source) (m : ℕ) → IsItemOf w n item → IsMasked s → m ≡ item_mask item → bit_and s.mask m ≡ 0 → AllPass answers w (OfSource w.items.now n item s)
source_passed answers w n item s m is masked m_is none = source_passes answers w n item is.item_at s masked (ap (bit_and s.mask) (sym m_is) ∙ none)

-- an item that has no bit of the rules' masks
pub number_passed : (answers : List Answered) (w : Window) (n : ℕ) (sources : List Source) → AreMasked sources →
    ((item : Item) → slice_get w.items.now n ≡ Some item → (s : Source) → Contains sources s → bit_and s.mask (item_mask item) ≡ 0) → AllPass answers w (OfNumber w.items.now sources n)
number_passed answers w n sources masked none by (item, at, among) =
    source_passes answers w n item at among.0 (masked among.0 among.1) (none item at among.0 among.1) by among.2

module _ (w : Window) (met : Met) (s : Source) (part m : ℕ) (is : IsMet w met) (masked : IsMasked s) (m_at : slice_get s.masks.items part ≡ Some m) where
  pub decl_passed : (answers : List Answered) → bit_and m met.mask ≡ 0 → (x : DeclItem) → slice_get s.rule.now.decls part ≡ Some x → AllPass answers w (OfDecl w.items.now met.number met.item.now s x)
  decl_passed answers none x at by (common, of) =
      let m_is : decl_mask x.decl ≡ m = sym (mask_is s masked part m m_at x at ∙ common_mask s.with x common) in
      let within : IsWithin (decl_mask x.decl) m = λ i h. subst (λ (o : ℕ). bit_at o i ≡ 1) m_is h in
      decl_passes answers w met.number met.item.now is.item.item_at s.rule.now x.decl m within (ap (bit_and m) (sym is.mask) ∙ none) by of

  -- a declaration that is not passed over is common, and its mask is at hand
  pub decl_counts : (bit_and m met.mask ≡ 0 → ⊥) → (x : DeclItem) → slice_get s.rule.now.decls part ≡ Some x → (is_common s.with x.decl ≡ true) × (m ≡ decl_mask x.decl)
  decl_counts some x at =
      let m_is = mask_is s masked part m m_at x at in
      let common = counts s.with x m met.mask m_is some in
      (common, m_is ∙ common_mask s.with x common)

-- what is told of an item is told of a declaration that counts
pub told_counted : {E : Type 0} (answers : List Answered) (list : List Item) (n : ℕ) (item : Item) (w : Window) (s : Source) (d : Decl) (At : DeclItem → Type 0) → ((x : DeclItem) → At x → is_common s.with x.decl ≡ true) → ((x : DeclItem) → At x → d ≡ x.decl) →
    (res : Result (Option Obstacle) E) → IfOk res (λ found. IsToldOf answers w (OfItem s.rule.now d list n item) found) → IfOk res (λ found. (x : DeclItem) → At x → IsToldOf answers w (OfDecl list n item s x) found)
told_counted answers list n item w s d At common is (Ok None) h = λ x at by (c, of). subst (λ (f : Decl). AllPass answers w (OfItem s.rule.now f list n item)) (is x at) h by of
told_counted answers list n item w s d At common is (Ok (Some o)) h = λ x at.
    let f : IsFound answers w (OfItem s.rule.now x.decl list n item) o = subst (λ (f : Decl). IsFound answers w (OfItem s.rule.now f list n item) o) (is x at) h in
    record { by = f.by; of = (common x at, f.of); names = f.names; told = f.told }
told_counted answers list n item w s d At common is (Err e) h = tt

-- the mask of a pair, by those of its parts
abbrev masks : ℕ → ℕ → ItemMask
masks m n = record { families = m; selectors = n }

pub pair_masked : (s : SelectorParts) (d : Decl) (m n : ℕ) → m ≡ decl_mask d → n ≡ both.selector_mask s → masks m n ≡ both.pair_mask (record { selector = s; decl = d })
pair_masked s d m n of_decl of_selector = ap₂ masks of_decl of_selector

-- the mask of an item of a window
pub mask_at : (items : List Item) (masks : List ItemMask) (n : ℕ) (item : Item) → masks ≡ map both.item_mask items → slice_get items n ≡ Some item → slice_get masks n ≡ Some (both.item_mask item)
mask_at items masks n item is at = at_map both.item_mask items masks n item is at
