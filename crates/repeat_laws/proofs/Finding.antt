-- A part that is found among those after it, or before it, is in the list again.
use Rattle.std.proofs.Common.{◌≡◌, ◌⊎◌, ℕ, zero, suc, ◌<◌, true, List, [], ◌∷◌, drop, map, take, Some, None, refl, ap, inl, inr, ◌∙◌, arith}
use Rattle.std.specs.Prelude.{slice_get}
use Rattle.std.specs.List.{Contains}
use Rattle.css_model.specs.declared.sheet.DeclItem.{DeclItem}
use Rattle.css_model.specs.declared.sheet.SelItem.{SelItem}
use Rattle.list_facts.proofs.Members.{Contains-cons_cases, Contains-nil}
use Rattle.order_laws.proofs.ForCallers.{has_decl_is, has_selector_is}
use Rattle.order_laws.specs.Members.{has_decl, has_selector}
use Rattle.repeat_laws.specs.Repeats.{IsDeclAgain, IsSelAgain}

-- ---- Where a part of some text or selector is

-- an element whose part is this one is in the list
pub record IsFound {X Y : Type 0} (part : X → Y) (xs : List X) (y : Y) : Type 0 where
  pub number : ℕ
  pub item : X
  pub at : slice_get xs number ≡ Some item
  pub is : part item ≡ y

pub found : {X Y : Type 0} (part : X → Y) (xs : List X) (y : Y) → Contains (map part xs) y → IsFound part xs y
found part [] y h = absurd (Contains-nil y h)
found part (x ∷ xs) y h = which (found part xs y) (Contains-cons_cases (part x) (map part xs) y h)
  where
    which : (Contains (map part xs) y → IsFound part xs y) → (part x ≡ y) ⊎ Contains (map part xs) y → IsFound part (x ∷ xs) y
    which rest (inl e) = record { number = 0; item = x; at = refl; is = e }
    which rest (inr g) = let w = rest g in record { number = suc w.number; item = w.item; at = w.at; is = w.is }

-- ---- After the element

-- an element of a list, and what comes after it
dropped_at : {X : Type 0} (xs : List X) (n : ℕ) (x : X) (later : List X) → drop n xs ≡ x ∷ later → slice_get xs n ≡ Some x
dropped_at [] zero x later is = absurd cc
dropped_at [] (suc n) x later is = absurd cc
dropped_at (y ∷ xs) zero x later is = ap (λ (zs : List _). slice_get zs 0) is
dropped_at (y ∷ xs) (suc n) x later is = dropped_at xs n x later is

dropped_later : {X : Type 0} (xs : List X) (n : ℕ) (x : X) (later : List X) (k : ℕ) (z : X) → drop n xs ≡ x ∷ later → slice_get later k ≡ Some z → (m : ℕ) × (n < m) × (slice_get xs m ≡ Some z)
dropped_later [] zero x later k z is at = absurd cc
dropped_later [] (suc n) x later k z is at = absurd cc
dropped_later (y ∷ xs) zero x later k z is at =
    (suc k, omega arith, let same : slice_get (y ∷ xs) (suc k) ≡ slice_get (x ∷ later) (suc k) = ap (λ (zs : List _). slice_get zs (suc k)) is in same ∙ at)
dropped_later (y ∷ xs) (suc n) x later k z is at = let w = dropped_later xs n x later k z is at in (suc w.0, (let less = w.1 in omega (arith, less)), w.2)

-- ---- Before the element

taken_at : {X : Type 0} (xs : List X) (n k : ℕ) (z : X) → slice_get (take n xs) k ≡ Some z → (k < n) × (slice_get xs k ≡ Some z)
taken_at [] zero k z at = absurd (let e : None ≡ Some z = at in cc)
taken_at [] (suc n) k z at = absurd (let e : None ≡ Some z = at in cc)
taken_at (y ∷ xs) zero k z at = absurd (let e : None ≡ Some z = at in cc)
taken_at (y ∷ xs) (suc n) zero z at = (omega arith, at)
taken_at (y ∷ xs) (suc n) (suc k) z at = let w = taken_at xs n k z at in ((let less = w.0 in omega (arith, less)), w.1)

-- ---- Both kinds of parts

pub decl_again : (ds : List DeclItem) (n : ℕ) (one : DeclItem) (later : List DeclItem) → drop n ds ≡ one ∷ later → has_decl later one.decl ≡ true → IsDeclAgain ds n
decl_again ds n one later is has =
    let w = found (λ (d : DeclItem). d.decl) later one.decl ((has_decl_is later one.decl).0 has) in
    let v = dropped_later ds n one later w.number w.item is w.at in
    record { later = v.0; one = one; other = w.item; one_at = dropped_at ds n one later is; other_at = v.2; after = v.1; same = w.is }

pub sel_after : (ss : List SelItem) (n : ℕ) (one : SelItem) (later : List SelItem) → drop n ss ≡ one ∷ later → has_selector later one.selector ≡ true → IsSelAgain ss n
sel_after ss n one later is has =
    let w = found (λ (s : SelItem). s.selector) later one.selector ((has_selector_is later one.selector).0 has) in
    let v = dropped_later ss n one later w.number w.item is w.at in
    record { place = v.0; one = one; other = w.item; one_at = dropped_at ss n one later is; other_at = v.2; elsewhere = (let less = v.1 in λ e. omega (arith, less, e)); same = w.is }

pub sel_before : (ss : List SelItem) (n : ℕ) (one : SelItem) (later : List SelItem) → drop n ss ≡ one ∷ later → has_selector (take n ss) one.selector ≡ true → IsSelAgain ss n
sel_before ss n one later is has =
    let w = found (λ (s : SelItem). s.selector) (take n ss) one.selector ((has_selector_is (take n ss) one.selector).0 has) in
    let v = taken_at ss n w.number w.item w.at in
    record { place = w.number; one = one; other = w.item; one_at = dropped_at ss n one later is; other_at = v.1; elsewhere = (let less = v.0 in λ e. omega (arith, less, e)); same = w.is }
