-- Edits of other items may be made in either order.
use Rattle.std.proofs.Common.{◌≡◌, ◌≢◌, ◌⊎◌, ℕ, zero, suc, ◌+◌, ◌<◌, ◌≤◌, ◌==◌, Bool, true, false, List, [], ◌∷◌, ◌++◌, map, length, take, Some, None, append-nil, refl, sym, ap, ap₂, ◌∙◌, subst, inl, inr, arith}
use Rattle.std.specs.Prelude.{slice_get}
use Rattle.std.specs.List.{AllByRecursion}
use Rattle.std.proofs.lemmas.Bool.{false≢true}
use Rattle.std.proofs.lemmas.Bool.Decides.{Decides-eqb}
use Rattle.std.proofs.lemmas.List.{length-append}
use Rattle.css_model.specs.declared.sheet.Item.{Item}
use Rattle.order_laws.specs.Edits.{Change, instead, slots_from, Edit, edited}
use Rattle.order_laws.specs.Slots.{new_items}
use Rattle.order_laws.proofs.ForCallers.{instead_here, instead_there}
use Rattle.plan_laws.specs.Barrier.Renumbering.{new_number, renumbered_edit, AreOfOthers, Leaves}
use Rattle.plan_laws.proofs.Barrier.Hindering.{parts}

abbrev Apart : List Change → ℕ → Type 0
Apart changes n = AllByRecursion (λ (c : Change). c.at ≢ n) changes

abbrev renumber : (ℕ → ℕ) → List Change → List Change
renumber f changes = map (λ (c : Change). record { at = f c.at; by = c.by }) changes

-- what is left stays
pub stays_alone : (changes : List Change) (n : ℕ) (x : Item) → Apart changes n → instead changes n x ≡ x ∷ []
stays_alone [] n x apart = refl
stays_alone (c ∷ changes) n x apart = instead_there c changes n x apart.0 ∙ stays_alone changes n x apart.1

apart_or_not : (changes : List Change) (n : ℕ) → Apart changes n ⊎ (Apart changes n → ⊥)
apart_or_not [] n = inl tt
apart_or_not (c ∷ changes) n = which (c.at == n) refl (apart_or_not changes n)
  where
    which : (b : Bool) → (c.at == n) ≡ b → Apart changes n ⊎ (Apart changes n → ⊥) → Apart (c ∷ changes) n ⊎ (Apart (c ∷ changes) n → ⊥)
    which true e rest = inr (λ h. h.0 ((Decides-eqb c.at n).0 e))
    which false e (inl rest) = inl (λ s. false≢true (sym e ∙ (Decides-eqb c.at n).1 s), rest)
    which false e (inr rest) = inr (λ h. rest h.1)

-- of two lists of changes the first one counts
in_first : (changes more : List Change) (n : ℕ) (x : Item) → Apart changes n → instead (changes ++ more) n x ≡ instead more n x
in_first [] more n x apart = refl
in_first (c ∷ changes) more n x apart = instead_there c (changes ++ more) n x apart.0 ∙ in_first changes more n x apart.1

first_counts : (changes more : List Change) (n : ℕ) (x : Item) → (Apart changes n → ⊥) → instead (changes ++ more) n x ≡ instead changes n x
first_counts [] more n x not_apart = absurd (not_apart tt)
first_counts (c ∷ changes) more n x not_apart = which (c.at == n) refl (first_counts changes more n x)
  where
    which : (b : Bool) → (c.at == n) ≡ b → ((Apart changes n → ⊥) → instead (changes ++ more) n x ≡ instead changes n x) → instead (c ∷ (changes ++ more)) n x ≡ instead (c ∷ changes) n x
    which true e rest = let same : c.at ≡ n = (Decides-eqb c.at n).0 e in instead_here c (changes ++ more) n x same ∙ sym (instead_here c changes n x same)
    which false e rest =
        let apart : c.at ≢ n = (λ s. false≢true (sym e ∙ (Decides-eqb c.at n).1 s)) in
        instead_there c (changes ++ more) n x apart ∙ rest (λ h. not_apart (apart, h)) ∙ sym (instead_there c changes n x apart)

-- ---- Numbers behind some changes

-- The new number of a change fits, where the items from number n on stand from number m on once others are
-- changed: it is one of an item before, or of an item from there on, which the others leave.
abbrev Fits : (ℕ → ℕ) → List Change → ℕ → ℕ → List Item → Change → Type 0
Fits f others n m items c =
    ((c.at < n) × (f c.at < m))
    ⊎ ((i : ℕ) × (c.at ≡ n + i) × (f c.at ≡ m + length (new_items (slots_from n others (take i items)))) × Apart others c.at)

next_fits : (f : ℕ → ℕ) (others : List Change) (n m : ℕ) (x : Item) (items : List Item) (c : Change) → Fits f others n m (x ∷ items) c → Fits f others (n + 1) (m + length (instead others n x)) items c
next_fits f others n m x items c (inl (before, new)) = inl (omega (arith, before), omega (arith, new))
next_fits f others n m x items c (inr (zero, at, new, apart)) =
    let here : c.at ≡ n = (let e : n + 0 ≡ n = omega arith in at ∙ e) in
    let alone : length (instead others n x) ≡ 1 = ap length (stays_alone others n x (subst (Apart others) here apart)) in
    let none : m + length (new_items (slots_from n others (take 0 (x ∷ items)))) ≡ m = omega arith in
    inl (omega (arith, here), omega (arith, new, none, alone))
next_fits f others n m x items c (inr (suc i, at, new, apart)) =
    let more : length (instead others n x ++ new_items (slots_from (n + 1) others (take i items))) ≡ length (instead others n x) + length (new_items (slots_from (n + 1) others (take i items))) =
    length-append (instead others n x) (new_items (slots_from (n + 1) others (take i items))) in
    inr (i, omega (arith, at), omega (arith, new, more), apart)

all_next : (f : ℕ → ℕ) (others : List Change) (n m : ℕ) (x : Item) (items : List Item) (changes : List Change) → AllByRecursion (Fits f others n m (x ∷ items)) changes → AllByRecursion (Fits f others (n + 1) (m + length (instead others n x)) items) changes
all_next f others n m x items [] fit = tt
all_next f others n m x items (c ∷ changes) fit = (next_fits f others n m x items c fit.0, all_next f others n m x items changes fit.1)

-- a change behind: not before the items that stand for the first one, and not among them
behind_first : (f : ℕ → ℕ) (others : List Change) (n m : ℕ) (x : Item) (items : List Item) (c : Change) → Fits f others n m (x ∷ items) c → c.at ≢ n → (f c.at < m) ⊎ (m + length (instead others n x) ≤ f c.at)
behind_first f others n m x items c (inl (before, new)) apart = inl new
behind_first f others n m x items c (inr (zero, at, new, left)) apart = absurd (apart (let e : n + 0 ≡ n = omega arith in at ∙ e))
behind_first f others n m x items c (inr (suc i, at, new, left)) apart =
    let more : length (instead others n x ++ new_items (slots_from (n + 1) others (take i items))) ≡ length (instead others n x) + length (new_items (slots_from (n + 1) others (take i items))) =
    length-append (instead others n x) (new_items (slots_from (n + 1) others (take i items))) in
    inr (omega (arith, new, more))

number_apart : (j m n : ℕ) → (j < m) ⊎ (m + n ≤ j) → (k : ℕ) → m ≤ k → k < m + n → j ≢ k
number_apart j m n (inl before) k low high same = absurd (omega (arith, before, low, same))
number_apart j m n (inr behind) k low high same = absurd (omega (arith, behind, high, same))

-- items that no change takes stay
untouched : (f : ℕ → ℕ) (changes : List Change) (m : ℕ) (ys : List Item) → AllByRecursion (λ (c : Change). (f c.at < m) ⊎ (m + length ys ≤ f c.at)) changes → new_items (slots_from m (renumber f changes) ys) ≡ ys
untouched f changes m [] out = refl
untouched f changes m (y ∷ ys) out =
    ap₂ (λ (zs ws : List Item). zs ++ ws) (stays_alone (renumber f changes) m y (each changes out)) (untouched f changes (m + 1) ys (later changes out))
  where
    each : (cs : List Change) → AllByRecursion (λ (c : Change). (f c.at < m) ⊎ (m + length (y ∷ ys) ≤ f c.at)) cs → Apart (renumber f cs) m
    each [] h = tt
    each (c ∷ cs) h = (number_apart (f c.at) m (length (y ∷ ys)) h.0 m (omega arith) (omega arith), each cs h.1)

    one : (c : Change) → (f c.at < m) ⊎ (m + length (y ∷ ys) ≤ f c.at) → (f c.at < m + 1) ⊎ ((m + 1) + length ys ≤ f c.at)
    one c (inl h) = inl (omega (arith, h))
    one c (inr h) = inr (omega (arith, h))

    later : (cs : List Change) → AllByRecursion (λ (c : Change). (f c.at < m) ⊎ (m + length (y ∷ ys) ≤ f c.at)) cs → AllByRecursion (λ (c : Change). (f c.at < m + 1) ⊎ ((m + 1) + length ys ≤ f c.at)) cs
    later [] h = tt
    later (c ∷ cs) h = (one c h.0, later cs h.1)

-- what the others leave is changed as it was
as_before : (f : ℕ → ℕ) (others : List Change) (n m : ℕ) (x : Item) (items : List Item) → Apart others n → (changes : List Change) → AllByRecursion (Fits f others n m (x ∷ items)) changes → instead (renumber f changes) m x ≡ instead changes n x
as_before f others n m x items left [] fit = refl
as_before f others n m x items left (c ∷ changes) fit = which (c.at == n) refl fit.0 (as_before f others n m x items left changes fit.1)
  where
    new : Change
    new = record { at = f c.at; by = c.by }

    at_same : c.at ≡ n → Fits f others n m (x ∷ items) c → f c.at ≡ m
    at_same same (inl (before, h)) = absurd (omega (arith, before, same))
    at_same same (inr (zero, at, h, apart)) = let none : m + length (new_items (slots_from n others (take 0 (x ∷ items)))) ≡ m = omega arith in h ∙ none
    at_same same (inr (suc i, at, h, apart)) = absurd (omega (arith, at, same))

    which : (b : Bool) → (c.at == n) ≡ b → Fits f others n m (x ∷ items) c → instead (renumber f changes) m x ≡ instead changes n x → instead (new ∷ renumber f changes) m x ≡ instead (c ∷ changes) n x
    which true e fits rest = let same : c.at ≡ n = (Decides-eqb c.at n).0 e in instead_here new (renumber f changes) m x (at_same same fits) ∙ sym (instead_here c changes n x same)
    which false e fits rest =
        let apart : c.at ≢ n = (λ s. false≢true (sym e ∙ (Decides-eqb c.at n).1 s)) in
        let alone : length (instead others n x) ≡ 1 = ap length (stays_alone others n x left) in
        instead_there new (renumber f changes) m x (number_apart (f c.at) m (length (instead others n x)) (behind_first f others n m x items c fits apart) m (omega arith) (omega (arith, alone)))
        ∙ rest ∙ sym (instead_there c changes n x apart)

all_behind : (f : ℕ → ℕ) (others : List Change) (n m : ℕ) (x : Item) (items : List Item) → (Apart others n → ⊥) → (changes : List Change) → AllByRecursion (Fits f others n m (x ∷ items)) changes →
    AllByRecursion (λ (c : Change). (f c.at < m) ⊎ (m + length (instead others n x) ≤ f c.at)) changes
all_behind f others n m x items taken [] fit = tt
all_behind f others n m x items taken (c ∷ changes) fit = (which fit.0, all_behind f others n m x items taken changes fit.1)
  where
    which : Fits f others n m (x ∷ items) c → (f c.at < m) ⊎ (m + length (instead others n x) ≤ f c.at)
    which (inl h) = inl h.1
    which (inr h) = behind_first f others n m x items c (inr h) (λ same. taken (subst (Apart others) same h.3))

-- one after the other is both at once
pub one_by_one : (f : ℕ → ℕ) (others changes : List Change) (n m : ℕ) (items : List Item) → AllByRecursion (Fits f others n m items) changes →
    new_items (slots_from m (renumber f changes) (new_items (slots_from n others items))) ≡ new_items (slots_from n (others ++ changes) items)
one_by_one f others changes n m [] fit = refl
one_by_one f others changes n m (x ∷ items) fit =
    parts (renumber f changes) m (instead others n x) (new_items (slots_from (n + 1) others items))
    ∙ ap₂ (λ (xs ys : List Item). xs ++ ys) (here (apart_or_not others n)) (one_by_one f others changes (n + 1) (m + length (instead others n x)) items (all_next f others n m x items changes fit))
  where
    here : Apart others n ⊎ (Apart others n → ⊥) → new_items (slots_from m (renumber f changes) (instead others n x)) ≡ instead (others ++ changes) n x
    here (inl left) =
        ap (λ (ys : List Item). new_items (slots_from m (renumber f changes) ys)) (stays_alone others n x left)
        ∙ append-nil (instead (renumber f changes) m x)
        ∙ as_before f others n m x items left changes fit ∙ sym (in_first others changes n x left)
    here (inr taken) = untouched f changes m (instead others n x) (all_behind f others n m x items taken changes fit) ∙ sym (first_counts others changes n x taken)

-- ---- From the start

fits_at : (d : Edit) (items : List Item) (c : Change) → Leaves d c.at → Fits (new_number d items) d.changes 0 0 items c
fits_at d items c left = inr (c.at, omega arith, omega arith, left)

all_fit : (d : Edit) (items : List Item) (changes : List Change) → AllByRecursion (λ (c : Change). Leaves d c.at × (c.at < length items)) changes → AllByRecursion (Fits (new_number d items) d.changes 0 0 items) changes
all_fit d items [] left = tt
all_fit d items (c ∷ changes) left = (fits_at d items c left.0.0, all_fit d items changes left.1)

-- the order of two lists of changes of other items does not count
other_order : (cs bs : List Change) (n : ℕ) (x : Item) → (Apart cs n ⊎ Apart bs n) → instead (cs ++ bs) n x ≡ instead (bs ++ cs) n x
other_order cs bs n x (inl left) = in_first cs bs n x left ∙ which (apart_or_not bs n)
  where
    which : Apart bs n ⊎ (Apart bs n → ⊥) → instead bs n x ≡ instead (bs ++ cs) n x
    which (inl apart) = stays_alone bs n x apart ∙ sym (stays_alone cs n x left) ∙ sym (in_first bs cs n x apart)
    which (inr taken) = sym (first_counts bs cs n x taken)
other_order cs bs n x (inr left) = which (apart_or_not cs n) ∙ sym (in_first bs cs n x left)
  where
    which : Apart cs n ⊎ (Apart cs n → ⊥) → instead (cs ++ bs) n x ≡ instead cs n x
    which (inl apart) = in_first cs bs n x apart ∙ stays_alone bs n x left ∙ sym (stays_alone cs n x apart)
    which (inr taken) = first_counts cs bs n x taken

both_orders : (cs bs : List Change) (n : ℕ) (items : List Item) → ((k : ℕ) → Apart cs k ⊎ Apart bs k) → new_items (slots_from n (cs ++ bs) items) ≡ new_items (slots_from n (bs ++ cs) items)
both_orders cs bs n [] apart = refl
both_orders cs bs n (x ∷ items) apart = ap₂ (λ (xs ys : List Item). xs ++ ys) (other_order cs bs n x (apart n)) (both_orders cs bs (n + 1) items apart)

one_is_apart : (d : Edit) (items : List Item) (changes : List Change) → AllByRecursion (λ (c : Change). Leaves d c.at × (c.at < length items)) changes → (k : ℕ) → Apart d.changes k ⊎ Apart changes k
one_is_apart d items [] left k = inr tt
one_is_apart d items (c ∷ changes) left k = which (c.at == k) refl (one_is_apart d items changes left.1 k)
  where
    which : (b : Bool) → (c.at == k) ≡ b → Apart d.changes k ⊎ Apart changes k → Apart d.changes k ⊎ Apart (c ∷ changes) k
    which true e rest = inl (subst (Apart d.changes) ((Decides-eqb c.at k).0 e) left.0.0)
    which false e (inl rest) = inl rest
    which false e (inr rest) = inr (λ s. false≢true (sym e ∙ (Decides-eqb c.at k).1 s), rest)

pub edits_commute : (items : List Item) (d e : Edit) → AreOfOthers items d e → edited (renumbered_edit (new_number d items) e) (edited d items) ≡ edited (renumbered_edit (new_number e items) d) (edited e items)
edits_commute items d e others =
    one_by_one (new_number d items) d.changes e.changes 0 0 items (all_fit d items e.changes others.0)
    ∙ both_orders d.changes e.changes 0 items (one_is_apart d items e.changes others.0)
    ∙ sym (one_by_one (new_number e items) e.changes d.changes 0 0 items (all_fit e items d.changes others.1))

-- ---- Items that are left

left_at : (changes : List Change) (n k : ℕ) (items : List Item) (x : Item) → Apart changes (n + k) → slice_get items k ≡ Some x →
    slice_get (new_items (slots_from n changes items)) (length (new_items (slots_from n changes (take k items)))) ≡ Some x
left_at changes n k [] x apart at = absurd (let e : None ≡ Some x = at in cc)
left_at changes n zero (y ∷ items) x apart at =
    let e : n + 0 ≡ n = omega arith in
    ap (λ (ys : List Item). slice_get (ys ++ new_items (slots_from (n + 1) changes items)) 0) (stays_alone changes n y (subst (Apart changes) e apart)) ∙ at
left_at changes n (suc k) (y ∷ items) x apart at =
    let e : n + suc k ≡ (n + 1) + k = omega arith in
    let more : length (instead changes n y ++ new_items (slots_from (n + 1) changes (take k items))) ≡ length (instead changes n y) + length (new_items (slots_from (n + 1) changes (take k items))) =
    length-append (instead changes n y) (new_items (slots_from (n + 1) changes (take k items))) in
    ap (λ (j : ℕ). slice_get (instead changes n y ++ new_items (slots_from (n + 1) changes items)) j) more
    ∙ get_behind (instead changes n y) (new_items (slots_from (n + 1) changes items)) (length (new_items (slots_from (n + 1) changes (take k items))))
    ∙ left_at changes (n + 1) k items x (subst (Apart changes) e apart) at
  where
    get_behind : (xs ys : List Item) (i : ℕ) → slice_get (xs ++ ys) (length xs + i) ≡ slice_get ys i
    get_behind [] ys i = let z : 0 + i ≡ i = omega arith in ap (slice_get ys) z
    get_behind (x ∷ xs) ys i = let z : length (x ∷ xs) + i ≡ suc (length xs + i) = omega arith in ap (slice_get (x ∷ xs ++ ys)) z ∙ get_behind xs ys i

pub items_stay : (e : Edit) (items : List Item) (n : ℕ) (x : Item) → Leaves e n → slice_get items n ≡ Some x → slice_get (edited e items) (new_number e items n) ≡ Some x
items_stay e items n x leaves at = let z : n ≡ 0 + n = omega arith in left_at e.changes 0 n items x (subst (Apart e.changes) z leaves) at

-- of a longer front more stands
grows : (changes : List Change) (n j k : ℕ) (items : List Item) → j ≤ k → length (new_items (slots_from n changes (take j items))) ≤ length (new_items (slots_from n changes (take k items)))
grows changes n zero k items less = omega arith
grows changes n (suc j) zero items less = absurd (omega arith)
grows changes n (suc j) (suc k) [] less = omega arith
grows changes n (suc j) (suc k) (y ∷ items) less =
    let a = length-append (instead changes n y) (new_items (slots_from (n + 1) changes (take j items))) in
    let b = length-append (instead changes n y) (new_items (slots_from (n + 1) changes (take k items))) in
    let rest : length (new_items (slots_from (n + 1) changes (take j items))) ≤ length (new_items (slots_from (n + 1) changes (take k items))) = grows changes (n + 1) j k items (omega arith) in
    omega (arith, a, b, rest)

ascends : (changes : List Change) (n j k : ℕ) (items : List Item) (x : Item) → Apart changes (n + j) → slice_get items j ≡ Some x → j < k →
    length (new_items (slots_from n changes (take j items))) < length (new_items (slots_from n changes (take k items)))
ascends changes n j k [] x apart at less = absurd (let e : None ≡ Some x = at in cc)
ascends changes n j zero (y ∷ items) x apart at less = absurd (omega arith)
ascends changes n zero (suc k) (y ∷ items) x apart at less =
    let e : n + 0 ≡ n = omega arith in
    let one : length (instead changes n y) ≡ 1 = ap length (stays_alone changes n y (subst (Apart changes) e apart)) in
    let b = length-append (instead changes n y) (new_items (slots_from (n + 1) changes (take k items))) in
    omega (arith, one, b)
ascends changes n (suc j) (suc k) (y ∷ items) x apart at less =
    let e : n + suc j ≡ (n + 1) + j = omega arith in
    let a = length-append (instead changes n y) (new_items (slots_from (n + 1) changes (take j items))) in
    let b = length-append (instead changes n y) (new_items (slots_from (n + 1) changes (take k items))) in
    let rest : length (new_items (slots_from (n + 1) changes (take j items))) < length (new_items (slots_from (n + 1) changes (take k items))) = ascends changes (n + 1) j k items x (subst (Apart changes) e apart) at (omega arith) in
    omega (arith, a, b, rest)

pub numbers_ascend : (e : Edit) (items : List Item) (m n : ℕ) (x : Item) → Leaves e m → slice_get items m ≡ Some x → m < n → new_number e items m < new_number e items n
numbers_ascend e items m n x leaves at less = let z : m ≡ 0 + m = omega arith in ascends e.changes 0 m n items x (subst (Apart e.changes) z leaves) at less
