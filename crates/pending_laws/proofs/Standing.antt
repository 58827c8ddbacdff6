-- What stands at a number behind an edit: an item that it left, or one that it put in.
use Rattle.std.proofs.Common.{◌≡◌, ◌≢◌, ◌⊎◌, ℕ, zero, suc, ◌+◌, ◌-◌, ◌<◌, ◌≤◌, ◌==◌, Bool, true, false, List, [], ◌∷◌, ◌++◌, length, take, Some, None, refl, sym, ap, ◌∙◌, subst, inl, inr, arith}
use Rattle.std.specs.Prelude.{slice_get}
use Rattle.std.specs.List.{AllByRecursion, Contains, remove}
use Rattle.std.proofs.lemmas.Bool.{false≢true}
use Rattle.std.proofs.lemmas.Bool.Decides.{Decides-eqb}
use Rattle.std.proofs.lemmas.List.{length-append}
use Rattle.std.proofs.lemmas.Option.{slice_get_within}
use Rattle.cascade_laws.proofs.ForCallers.{some-same}
use Rattle.css_model.specs.declared.sheet.Decl.{Decl}
use Rattle.css_model.specs.declared.sheet.Item.{Item}
use Rattle.css_model.specs.declared.sheet.Item.TheVariants.{Rule}
use Rattle.css_model.specs.Cascade.Order.{Pair, HasPair}
use Rattle.css_model.specs.Sheets.RuleParts.{RuleParts}
use Rattle.list_facts.proofs.Members.{Contains-here, Contains-there}
use Rattle.order_laws.proofs.ForCallers.{InRule, decl_in, decls, instead_here, instead_there}
use Rattle.order_laws.specs.Edits.{Change, instead, slots_from, Edit}
use Rattle.order_laws.specs.Slots.{new_items}
use Rattle.plan_laws.specs.Barrier.SideBySide.{HasCome}

abbrev pub Apart : List Change → ℕ → Type 0
Apart changes n = AllByRecursion (λ (c : Change). c.at ≢ n) changes

-- ---- Lists

which_less : (m n : ℕ) → (m < n) ⊎ (n ≤ m)
which_less zero zero = inr (omega arith)
which_less zero (suc n) = inl (omega arith)
which_less (suc m) zero = inr (omega arith)
which_less (suc m) (suc n) = which (which_less m n)
  where
    which : (m < n) ⊎ (n ≤ m) → (suc m < suc n) ⊎ (suc n ≤ suc m)
    which (inl h) = inl (omega (arith, h))
    which (inr h) = inr (omega (arith, h))

get_front : {X : Type 0} (xs ys : List X) (k : ℕ) → k < length xs → slice_get (xs ++ ys) k ≡ slice_get xs k
get_front [] ys k within = absurd (omega (arith, within))
get_front (x ∷ xs) ys zero within = refl
get_front (x ∷ xs) ys (suc k) within = get_front xs ys k (omega (arith, within))

get_behind : {X : Type 0} (xs ys : List X) (k n : ℕ) → n ≡ length xs + k → slice_get (xs ++ ys) n ≡ slice_get ys k
get_behind [] ys k n is = ap (slice_get ys) (let e : n ≡ k = omega (arith, is) in e)
get_behind (x ∷ xs) ys k zero is = absurd (omega (arith, is))
get_behind (x ∷ xs) ys k (suc n) is = get_behind xs ys k n (omega (arith, is))

get_only : {X : Type 0} (x y : X) (k : ℕ) → slice_get (x ∷ []) k ≡ Some y → (k ≡ 0) × (x ≡ y)
get_only x y zero at = (refl, some-same at)
get_only x y (suc k) at = absurd (let e : None ≡ Some y = at in cc)

-- ---- What stands instead of one item

abbrev Instead : List Change → ℕ → Item → Type 0
Instead changes n x = (Apart changes n × (instead changes n x ≡ x ∷ [])) ⊎ ((c : Change) × Contains changes c × (c.at ≡ n) × (instead changes n x ≡ c.by))

instead_cases : (changes : List Change) (n : ℕ) (x : Item) → Instead changes n x
instead_cases [] n x = inl (tt, refl)
instead_cases (c ∷ changes) n x = which (instead_cases changes n x) (c.at == n) refl
  where
    next : c.at ≢ n → Instead changes n x → Instead (c ∷ changes) n x
    next apart (inl (rest, is)) = inl ((apart, rest), instead_there c changes n x apart ∙ is)
    next apart (inr (other, inside, at, is)) = inr (other, Contains-there c changes other inside, at, instead_there c changes n x apart ∙ is)

    which : Instead changes n x → (b : Bool) → (c.at == n) ≡ b → Instead (c ∷ changes) n x
    which rest true e = let at : c.at ≡ n = (Decides-eqb c.at n).0 e in inr (c, Contains-here c changes, at, instead_here c changes n x at)
    which rest false e = next (λ f. false≢true (sym e ∙ (Decides-eqb c.at n).1 f)) rest

-- ---- What stands behind an edit

-- an item that was left
pub record WasLeft (changes : List Change) (first : ℕ) (items : List Item) (m : ℕ) (y : Item) : Type 0 where
  pub number : ℕ
  pub apart : Apart changes (first + number)
  pub at : slice_get items number ≡ Some y
  pub is : length (new_items (slots_from first changes (take number items))) ≡ m

-- one that was put in, in the place of another one
pub record WasPutIn (changes : List Change) (first : ℕ) (items : List Item) (m : ℕ) (y : Item) : Type 0 where
  pub change : Change
  pub inside : Contains changes change
  pub number : ℕ
  pub place : ℕ
  pub number_is : change.at ≡ first + number
  pub at : slice_get change.by place ≡ Some y
  pub is : length (new_items (slots_from first changes (take number items))) + place ≡ m

pub standing : (changes : List Change) (first : ℕ) (items : List Item) (m : ℕ) (y : Item) → slice_get (new_items (slots_from first changes items)) m ≡ Some y →
    WasLeft changes first items m y ⊎ WasPutIn changes first items m y
standing changes first [] m y at = absurd (let e : None ≡ Some y = at in cc)
standing changes first (x ∷ items) m y at = which (λ k found. standing changes (first + 1) items k y found) (which_less m (length (instead changes first x)))
  where
    here : slice_get (instead changes first x) m ≡ Some y → Instead changes first x → WasLeft changes first (x ∷ items) m y ⊎ WasPutIn changes first (x ∷ items) m y
    here found (inl (apart, is)) =
        let only : (m ≡ 0) × (x ≡ y) = get_only x y m (ap (λ (xs : List Item). slice_get xs m) (sym is) ∙ found) in
        inl (record { number = 0; apart = (let e : first ≡ first + 0 = omega arith in subst (Apart changes) e apart); at = ap Some only.1; is = sym only.0 })
    here found (inr (c, inside, c_at, is)) =
        inr (record { change = c; inside = inside; number = 0; place = m; number_is = omega (arith, c_at); at = ap (λ (xs : List Item). slice_get xs m) (sym is) ∙ found; is = omega arith })

    front_is : (n k : ℕ) → length (new_items (slots_from (first + 1) changes (take n items))) ≡ k →
        length (instead changes first x ++ new_items (slots_from (first + 1) changes (take n items))) ≡ length (instead changes first x) + k
    front_is n k e = length-append (instead changes first x) (new_items (slots_from (first + 1) changes (take n items))) ∙ ap (λ (i : ℕ). length (instead changes first x) + i) e

    there : (k : ℕ) → m ≡ length (instead changes first x) + k → WasLeft changes (first + 1) items k y ⊎ WasPutIn changes (first + 1) items k y →
        WasLeft changes first (x ∷ items) m y ⊎ WasPutIn changes first (x ∷ items) m y
    there k is (inl w) =
        let e : (first + 1) + w.number ≡ first + suc w.number = omega arith in
        inl (record { number = suc w.number; apart = subst (Apart changes) e w.apart; at = w.at; is = front_is w.number k w.is ∙ sym is })
    there k is (inr w) =
        let n : ℕ = length (new_items (slots_from (first + 1) changes (take w.number items))) in
        let e : length (instead changes first x ++ new_items (slots_from (first + 1) changes (take w.number items))) ≡ length (instead changes first x) + n = front_is w.number n refl in
        inr (record { change = w.change; inside = w.inside; number = suc w.number; place = w.place; number_is = (let f = w.number_is in omega (arith, f)); at = w.at; is = (let f = w.is in omega (arith, e, f, is)) })

    which : ((k : ℕ) → slice_get (new_items (slots_from (first + 1) changes items)) k ≡ Some y → WasLeft changes (first + 1) items k y ⊎ WasPutIn changes (first + 1) items k y) →
        (m < length (instead changes first x)) ⊎ (length (instead changes first x) ≤ m) → WasLeft changes first (x ∷ items) m y ⊎ WasPutIn changes first (x ∷ items) m y
    which rest (inl front) = here (sym (get_front (instead changes first x) (new_items (slots_from (first + 1) changes items)) m front) ∙ at) (instead_cases changes first x)
    which rest (inr behind) =
        let k : ℕ = m - length (instead changes first x) in
        let is : m ≡ length (instead changes first x) + k = omega (arith, behind) in
        there k is (rest k (sym (get_behind (instead changes first x) (new_items (slots_from (first + 1) changes items)) k m is) ∙ at))

-- an item that an edit left has come
pub has_come : (d : Edit) (items : List Item) (m : ℕ) (y : Item) → WasLeft d.changes 0 items m y → HasCome d items m
has_come d items m y w =
    let e : 0 + w.number ≡ w.number = omega arith in
    (w.number, subst (Apart d.changes) e w.apart, slice_get_within items w.number y w.at, w.is)

-- ---- Pairs that stand elsewhere

-- a pair of a sheet without one item stands in a rule of another number
abbrev pub RuleElsewhere : List Item → ℕ → Pair → Type 0
RuleElsewhere items n p = (m : ℕ) × (m ≢ n) × (r : RuleParts) × (slice_get items m ≡ Some (Rule r)) × InRule r p

left_number : {X : Type 0} (xs : List X) (n k : ℕ) (y : X) → slice_get (remove xs n) k ≡ Some y → (m : ℕ) × (m ≢ n) × (slice_get xs m ≡ Some y)
left_number [] zero k y at = absurd (let e : None ≡ Some y = at in cc)
left_number [] (suc n) k y at = absurd (let e : None ≡ Some y = at in cc)
left_number (x ∷ xs) zero k y at = (suc k, (λ e. absurd (let f : suc k ≡ 0 = e in omega (arith, f))), at)
left_number (x ∷ xs) (suc n) zero y at = (0, (λ e. absurd (let f : 0 ≡ suc n = e in omega (arith, f))), at)
left_number (x ∷ xs) (suc n) (suc k) y at =
    let w : (m : ℕ) × (m ≢ n) × (slice_get xs m ≡ Some y) = left_number xs n k y at in
    (suc w.0, (λ e. w.1 (let f : suc w.0 ≡ suc n = e in omega (arith, f))), w.2)

pub rule_elsewhere : (items : List Item) (n : ℕ) (p : Pair) → HasPair (remove items n) p → RuleElsewhere items n p
rule_elsewhere items n p h =
    let r : RuleParts = h.1.rule in
    let w : (m : ℕ) × (m ≢ n) × (slice_get items m ≡ Some (Rule r)) = left_number items n h.0.item (Rule r) h.1.rule_at in
    (w.0, w.1, r, w.2, (h.1.selector_in, subst (λ (x : Decl). Contains (decls r.decls) x) h.1.decl_is (decl_in r.decls h.0.position h.1.decl h.1.decl_at)))
