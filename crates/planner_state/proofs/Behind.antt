-- What stands behind an edit: an item that it left, or one that it put in.
use Rattle.std.proofs.Common.{◌≡◌, ◌≢◌, ◌⊎◌, ℕ, zero, suc, ◌+◌, ◌==◌, false, List, [], ◌∷◌, ◌++◌, length, take, Some, None, refl, sym, ap, ◌∙◌, subst, inl, inr, arith}
use Rattle.std.specs.Prelude.{slice_get}
use Rattle.std.specs.List.{AllByRecursion, Contains}
use Rattle.std.proofs.lemmas.Bool.{cond_both, false≢true}
use Rattle.std.proofs.lemmas.Bool.Decides.{Decides-eqb}
use Rattle.std.proofs.lemmas.List.{length-append}
use Rattle.std.proofs.lemmas.List.Elements.{Contains-get_or}
use Rattle.std.proofs.lemmas.Option.{get_or_from_slice_get, slice_get_within}
use Rattle.cascade_laws.proofs.ForCallers.{some-same}
use Rattle.css_model.specs.declared.sheet.Item.{Item}
use Rattle.list_facts.proofs.Elements.{member}
use Rattle.order_laws.specs.Edits.{Change, Edit, edited, instead, slots_from}
use Rattle.order_laws.specs.Slots.{new_items}
use Rattle.plan_laws.specs.Barrier.Renumbering.{Leaves, new_number}

-- ---- Lists

at_place : {X : Type 0} (P : X → Type 0) (xs : List X) (n : ℕ) (y : X) → AllByRecursion P xs → slice_get xs n ≡ Some y → P y
at_place P xs n y all at = member P xs y all (subst (Contains xs) (get_or_from_slice_get xs n y y at) (Contains-get_or xs n y (slice_get_within xs n y at)))

front_or_behind : {X : Type 0} (xs ys : List X) (n : ℕ) (y : X) → slice_get (xs ++ ys) n ≡ Some y → (slice_get xs n ≡ Some y) ⊎ ((k : ℕ) × (n ≡ length xs + k) × (slice_get ys k ≡ Some y))
front_or_behind [] ys n y at = inr (n, omega arith, at)
front_or_behind (x ∷ xs) ys zero y at = inl at
front_or_behind (x ∷ xs) ys (suc n) y at = which (front_or_behind xs ys n y at)
  where
    which : (slice_get xs n ≡ Some y) ⊎ ((k : ℕ) × (n ≡ length xs + k) × (slice_get ys k ≡ Some y)) → (slice_get (x ∷ xs) (suc n) ≡ Some y) ⊎ ((k : ℕ) × (suc n ≡ length (x ∷ xs) + k) × (slice_get ys k ≡ Some y))
    which (inl h) = inl h
    which (inr (k, is, h)) = inr (k, (let e : suc n ≡ suc (length xs) + k = omega (arith, is) in e), h)

-- ---- Changes

-- all items that changes put in are such
abbrev pub Bring : (Item → Type 0) → List Change → Type 0
Bring P changes = AllByRecursion (λ c. AllByRecursion P c.by) changes

abbrev Apart : List Change → ℕ → Type 0
Apart changes n = AllByRecursion (λ c. c.at ≢ n) changes

-- in the place of one item
abbrev IsItself : List Change → ℕ → Item → ℕ → Item → Type 0
IsItself changes n x m y = Apart changes n × (m ≡ 0) × (x ≡ y)

one_stands : (P : Item → Type 0) (changes : List Change) (n : ℕ) (x : Item) (m : ℕ) (y : Item) → Bring P changes → slice_get (instead changes n x) m ≡ Some y → P y ⊎ IsItself changes n x m y
one_stands P [] n x zero y all at = inr (tt, refl, some-same at)
one_stands P [] n x (suc m) y all at = absurd (let e : None ≡ Some y = at in cc)
one_stands P (c ∷ changes) n x m y all at =
    cond_both (c.at == n) c.by (instead changes n x) (λ (xs : List Item). slice_get xs m ≡ Some y → P y ⊎ IsItself (c ∷ changes) n x m y)
    (λ same there. inl (at_place P c.by m y all.0 there)) (λ other there. next other (one_stands P changes n x m y all.1 there)) at
  where
    next : (c.at == n) ≡ false → P y ⊎ IsItself changes n x m y → P y ⊎ IsItself (c ∷ changes) n x m y
    next other (inl p) = inl p
    next other (inr (apart, none, same)) = inr (((λ e. false≢true (sym other ∙ (Decides-eqb c.at n).1 e)), apart), none, same)

-- among all
record WasLeft (changes : List Change) (first : ℕ) (items : List Item) (m : ℕ) (y : Item) : Type 0 where
  pub number : ℕ
  pub apart : Apart changes (first + number)
  pub at : slice_get items number ≡ Some y
  pub is : length (new_items (slots_from first changes (take number items))) ≡ m

all_stand : (P : Item → Type 0) (changes : List Change) (first : ℕ) (items : List Item) (m : ℕ) (y : Item) → Bring P changes → slice_get (new_items (slots_from first changes items)) m ≡ Some y → P y ⊎ WasLeft changes first items m y
all_stand P changes first [] m y all at = absurd (let e : None ≡ Some y = at in cc)
all_stand P changes first (x ∷ items) m y all at =
    which (λ k there. all_stand P changes (first + 1) items k y all there) (front_or_behind (instead changes first x) (new_items (slots_from (first + 1) changes items)) m y at)
  where
    here : P y ⊎ IsItself changes first x m y → P y ⊎ WasLeft changes first (x ∷ items) m y
    here (inl p) = inl p
    here (inr (apart, none, same)) = inr (record { number = 0; apart = (let e : first ≡ first + 0 = omega arith in subst (Apart changes) e apart); at = ap Some same; is = sym none })

    behind : (k : ℕ) → m ≡ length (instead changes first x) + k → P y ⊎ WasLeft changes (first + 1) items k y → P y ⊎ WasLeft changes first (x ∷ items) m y
    behind k is (inl p) = inl p
    behind k is (inr w) =
        let e : (first + 1) + w.number ≡ first + suc w.number = omega arith in
        let long : length (instead changes first x ++ new_items (slots_from (first + 1) changes (take w.number items))) ≡ length (instead changes first x) + length (new_items (slots_from (first + 1) changes (take w.number items))) =
        length-append (instead changes first x) (new_items (slots_from (first + 1) changes (take w.number items))) in
        inr (record { number = suc w.number; apart = subst (Apart changes) e w.apart; at = w.at; is = long ∙ ap (λ (i : ℕ). length (instead changes first x) + i) w.is ∙ sym is })

    which : ((k : ℕ) → slice_get (new_items (slots_from (first + 1) changes items)) k ≡ Some y → P y ⊎ WasLeft changes (first + 1) items k y) →
        (slice_get (instead changes first x) m ≡ Some y) ⊎ ((k : ℕ) × (m ≡ length (instead changes first x) + k) × (slice_get (new_items (slots_from (first + 1) changes items)) k ≡ Some y)) → P y ⊎ WasLeft changes first (x ∷ items) m y
    which rest (inl there) = here (one_stands P changes first x m y all there)
    which rest (inr (k, is, there)) = behind k is (rest k there)

-- ---- Edits

-- an item stood before an edit, which left it
pub record HasStood (e : Edit) (items : List Item) (m : ℕ) (y : Item) : Type 0 where
  pub number : ℕ
  pub leaves : Leaves e number
  pub at : slice_get items number ≡ Some y
  pub is : new_number e items number ≡ m

pub brought_or_left : (P : Item → Type 0) (e : Edit) (items : List Item) (m : ℕ) (y : Item) → Bring P e.changes → slice_get (edited e items) m ≡ Some y → P y ⊎ HasStood e items m y
brought_or_left P e items m y all at = which (all_stand P e.changes 0 items m y all at)
  where
    which : P y ⊎ WasLeft e.changes 0 items m y → P y ⊎ HasStood e items m y
    which (inl p) = inl p
    which (inr w) = let z : 0 + w.number ≡ w.number = omega arith in inr (record { number = w.number; leaves = subst (Apart e.changes) z w.apart; at = w.at; is = w.is })
