-- Marks that stay marks: with one less, with a new one in the place of another, and with one more.
use Rattle.std.proofs.Common.{◌≡◌, ◌≢◌, ℕ, zero, suc, ◌+◌, ◌-◌, ◌*◌, ◌<◌, ◌≤◌, List, [], ◌∷◌, length, get_or, set, refl, sym, ap, ◌∙◌, subst, arith, get_or-set_same, get_or-set_other}
use Rattle.std.specs.List.{All, AllPairs, insert, remove}
use Rattle.std.proofs.lemmas.List.{length-set, get_or_default}
use Rattle.std.proofs.lemmas.List.Edits.{length-insert, length-remove, get_or-insert_at, get_or-insert_below, get_or-insert_above, get_or-remove_below, get_or-remove_above}
use Rattle.std.proofs.lemmas.List.Quantifiers.{all_pairs_remove}
use Rattle.std.proofs.lemmas.Option.{slice_get-get_or, slice_get_within, get_or_from_slice_get}
use Rattle.indexed_sheet.specs.declared.marks.Mark.{Mark}
use Rattle.indexed_sheet.specs.MarkList.{MarkList, AreFirst, AreMarks, IsOrderKeyAt, IsOldestBelow}
use Rattle.indexed_sheet.specs.Marking.{AreRenewed}
use Rattle.indexed_sheet.proofs.Puts.{put_none, put_one, put_two}

data Order (m n : ℕ) : Type 0 where
  less : m < n → Order m n
  same : m ≡ n → Order m n
  more : n < m → Order m n

order : (m n : ℕ) → Order m n
order zero zero = same refl
order zero (suc n) = less (omega arith)
order (suc m) zero = more (omega arith)
order (suc m) (suc n) = which (order m n)
  where
    which : Order m n → Order (suc m) (suc n)
    which (less h) = less (omega (arith, h))
    which (same h) = same (ap suc h)
    which (more h) = more (omega (arith, h))

-- ---- In the place of another one

set_here : {X : Type 0} (xs : List X) (n k : ℕ) (y d : X) → k ≡ n → n < length xs → get_or (set xs n y) k d ≡ y
set_here {X} xs n k y d is within = ap (λ (i : ℕ). get_or (set xs n y) i d) is ∙ get_or-set_same xs n y d within

pub all_set : {X : Type 0} (P : X → Type 0) (xs : List X) (n : ℕ) (y : X) → n < length xs → All P xs → P y → All P (set xs n y)
all_set {X} P xs n y within all here k d less_k = which (order k n)
  where
    in_xs : k < length xs
    in_xs = (let e : length (set xs n y) ≡ length xs = length-set xs n y in omega (arith, less_k, e))

    other : k ≢ n → P (get_or (set xs n y) k d)
    other apart = subst P (sym (get_or-set_other xs n k y d apart)) (all k d in_xs)

    which : Order k n → P (get_or (set xs n y) k d)
    which (less h) = other (λ e. absurd (let f : k ≡ n = e in omega (arith, f, h)))
    which (same h) = subst P (sym (set_here xs n k y d h within)) here
    which (more h) = other (λ e. absurd (let f : k ≡ n = e in omega (arith, f, h)))

pub all_pairs_set : {X : Type 0} (R : X → X → Type 0) (xs : List X) (n : ℕ) (y : X) → n < length xs → AllPairs R xs →
    ((k : ℕ) (d : X) → k < n → R (get_or xs k d) y) → ((k : ℕ) (d : X) → n < k → k < length xs → R y (get_or xs k d)) → AllPairs R (set xs n y)
all_pairs_set {X} R xs n y within all above below i j d i_j less_j = which (order i n) (order j n)
  where
    new : ℕ → X
    new k = get_or (set xs n y) k d

    in_xs : j < length xs
    in_xs = (let e : length (set xs n y) ≡ length xs = length-set xs n y in omega (arith, less_j, e))

    old : (k : ℕ) → k ≢ n → get_or xs k d ≡ get_or (set xs n y) k d
    old k apart = sym (get_or-set_other xs n k y d apart)

    apart_less : (k : ℕ) → k < n → k ≢ n
    apart_less k h e = absurd (let f : k ≡ n = e in omega (arith, f, h))

    apart_more : (k : ℕ) → n < k → k ≢ n
    apart_more k h e = absurd (let f : k ≡ n = e in omega (arith, f, h))

    here : (k : ℕ) → k ≡ n → y ≡ get_or (set xs n y) k d
    here k is = sym (set_here xs n k y d is within)

    both : (a a' b b' : X) → a ≡ a' → b ≡ b' → R a b → R a' b'
    both a a' b b' e f r = subst (λ (z : X). R z b') e (subst (λ (z : X). R a z) f r)

    which : Order i n → Order j n → R (get_or (set xs n y) i d) (get_or (set xs n y) j d)
    which (less p) (less q) = both _ _ _ _ (old i (apart_less i p)) (old j (apart_less j q)) (all i j d i_j in_xs)
    which (less p) (same q) = both _ _ _ _ (old i (apart_less i p)) (here j q) (above i d p)
    which (less p) (more q) = both _ _ _ _ (old i (apart_less i p)) (old j (apart_more j q)) (all i j d i_j in_xs)
    which (same p) (less q) = absurd (omega (arith, p, q, i_j))
    which (same p) (same q) = absurd (omega (arith, p, q, i_j))
    which (same p) (more q) = both _ _ _ _ (here i p) (old j (apart_more j q)) (below j d q in_xs)
    which (more p) (less q) = absurd (omega (arith, p, q, i_j))
    which (more p) (same q) = absurd (omega (arith, p, q, i_j))
    which (more p) (more q) = both _ _ _ _ (old i (apart_more i p)) (old j (apart_more j q)) (all i j d i_j in_xs)

-- ---- One more

insert_here : {X : Type 0} (xs : List X) (n k : ℕ) (y d : X) → k ≡ n → n ≤ length xs → get_or (insert xs n y) k d ≡ y
insert_here {X} xs n k y d is within = ap (λ (i : ℕ). get_or (insert xs n y) i d) is ∙ get_or-insert_at xs n y d within

insert_behind : {X : Type 0} (xs : List X) (n k : ℕ) (y d : X) → n < k → n ≤ length xs → get_or (insert xs n y) k d ≡ get_or xs (k - 1) d
insert_behind {X} xs n k y d behind within =
    let e : k ≡ (k - 1) + 1 = omega (arith, behind) in
    ap (λ (i : ℕ). get_or (insert xs n y) i d) e ∙ get_or-insert_above xs n y d (k - 1) (omega (arith, behind)) within

pub all_insert : {X : Type 0} (P : X → Type 0) (xs : List X) (n : ℕ) (y : X) → n ≤ length xs → All P xs → P y → All P (insert xs n y)
all_insert {X} P xs n y within all here k d less_k = which (order k n)
  where
    in_more : k < length xs + 1
    in_more = (let e : length (insert xs n y) ≡ length xs + 1 = length-insert xs n y within in omega (arith, less_k, e))

    which : Order k n → P (get_or (insert xs n y) k d)
    which (less h) = subst P (sym (get_or-insert_below xs n y d k h within)) (all k d (omega (arith, h, within)))
    which (same h) = subst P (sym (insert_here xs n k y d h within)) here
    which (more h) = subst P (sym (insert_behind xs n k y d h within)) (all (k - 1) d (omega (arith, h, in_more)))

pub all_pairs_insert : {X : Type 0} (R : X → X → Type 0) (xs : List X) (n : ℕ) (y : X) → n ≤ length xs → AllPairs R xs →
    ((k : ℕ) (d : X) → k < n → R (get_or xs k d) y) → ((k : ℕ) (d : X) → n ≤ k → k < length xs → R y (get_or xs k d)) → AllPairs R (insert xs n y)
all_pairs_insert {X} R xs n y within all above below i j d i_j less_j = which (order i n) (order j n)
  where
    in_more : j < length xs + 1
    in_more = (let e : length (insert xs n y) ≡ length xs + 1 = length-insert xs n y within in omega (arith, less_j, e))

    front : (k : ℕ) → k < n → get_or xs k d ≡ get_or (insert xs n y) k d
    front k h = sym (get_or-insert_below xs n y d k h within)

    here : (k : ℕ) → k ≡ n → y ≡ get_or (insert xs n y) k d
    here k is = sym (insert_here xs n k y d is within)

    behind : (k : ℕ) → n < k → get_or xs (k - 1) d ≡ get_or (insert xs n y) k d
    behind k h = sym (insert_behind xs n k y d h within)

    both : (a a' b b' : X) → a ≡ a' → b ≡ b' → R a b → R a' b'
    both a a' b b' e f r = subst (λ (z : X). R z b') e (subst (λ (z : X). R a z) f r)

    which : Order i n → Order j n → R (get_or (insert xs n y) i d) (get_or (insert xs n y) j d)
    which (less p) (less q) = both _ _ _ _ (front i p) (front j q) (all i j d i_j (omega (arith, q, within)))
    which (less p) (same q) = both _ _ _ _ (front i p) (here j q) (above i d p)
    which (less p) (more q) = both _ _ _ _ (front i p) (behind j q) (all i (j - 1) d (omega (arith, p, q)) (omega (arith, q, in_more)))
    which (same p) (less q) = absurd (omega (arith, p, q, i_j))
    which (same p) (same q) = absurd (omega (arith, p, q, i_j))
    which (same p) (more q) = both _ _ _ _ (here i p) (behind j q) (below (j - 1) d (omega (arith, q)) (omega (arith, q, in_more)))
    which (more p) (less q) = absurd (omega (arith, p, q, i_j))
    which (more p) (same q) = absurd (omega (arith, p, q, i_j))
    which (more p) (more q) = both _ _ _ _ (behind i p) (behind j q) (all (i - 1) (j - 1) d (omega (arith, p, i_j)) (omega (arith, q, in_more)))

-- ---- Marks

abbrev mark : ℕ → ℕ → Mark
mark order_key item_id = record { order_key = order_key; item_id = item_id }

pub marks_without : (ms : List Mark) (next n : ℕ) → n < length ms → AreMarks ms next → AreMarks (remove ms n) next
marks_without ms next n within are = record {
  ascend = all_pairs_remove (λ (l m : Mark). l.order_key < m.order_key) ms n within are.ascend;
  differ = all_pairs_remove (λ (l m : Mark). l.item_id ≢ m.item_id) ms n within are.differ;
  past = past;
}
  where
    past : All (λ (m : Mark). m.item_id < next) (remove ms n)
    past k d less_k = which (order k n)
      where
        in_less : k + 1 < length ms
        in_less = (let e : length (remove ms n) + 1 ≡ length ms = length-remove ms n within in omega (arith, less_k, e))

        which : Order k n → (get_or (remove ms n) k d).item_id < next
        which (less h) = subst (λ (m : Mark). m.item_id < next) (sym (get_or-remove_below ms n d k h within)) (are.past k d (omega (arith, in_less)))
        which (same h) = subst (λ (m : Mark). m.item_id < next) (sym (get_or-remove_above ms n d k (omega (arith, h)) within)) (are.past (k + 1) d in_less)
        which (more h) = subst (λ (m : Mark). m.item_id < next) (sym (get_or-remove_above ms n d k (omega (arith, h)) within)) (are.past (k + 1) d in_less)

later : (ms : List Mark) (next : ℕ) → AreMarks ms next → All (λ (m : Mark). m.item_id < next + 1) ms
later ms next are k d within = (let h : (get_or ms k d).item_id < next = are.past k d within in omega (arith, h))

other_item_id : (m n : ℕ) → m < n → m ≢ n
other_item_id m n h e = absurd (let f : m ≡ n = e in omega (arith, f, h))

pub marks_renewed : (ms : List Mark) (next n order_key : ℕ) → n < length ms → ((d : Mark) → order_key ≡ (get_or ms n d).order_key) → AreMarks ms next → AreMarks (set ms n (mark order_key next)) (next + 1)
marks_renewed ms next n order_key within is are = record {
  ascend = all_pairs_set (λ (l m : Mark). l.order_key < m.order_key) ms n (mark order_key next) within are.ascend
      (λ k d h. let f : (get_or ms k d).order_key < (get_or ms n d).order_key = are.ascend k n d h within in let g : order_key ≡ (get_or ms n d).order_key = is d in omega (arith, f, g))
      (λ k d h in_ms. let f : (get_or ms n d).order_key < (get_or ms k d).order_key = are.ascend n k d h in_ms in let g : order_key ≡ (get_or ms n d).order_key = is d in omega (arith, f, g));
  differ = all_pairs_set (λ (l m : Mark). l.item_id ≢ m.item_id) ms n (mark order_key next) within are.differ
      (λ k d h. other_item_id (get_or ms k d).item_id next (are.past k d (omega (arith, h, within))))
      (λ k d h in_ms e. other_item_id (get_or ms k d).item_id next (are.past k d in_ms) (sym e));
  past = all_set (λ (m : Mark). m.item_id < next + 1) ms n (mark order_key next) within (later ms next are) (omega arith);
}

pub marks_inserted : (ms : List Mark) (next n order_key : ℕ) → n ≤ length ms →
    ((k : ℕ) (d : Mark) → k < n → (get_or ms k d).order_key < order_key) → ((k : ℕ) (d : Mark) → n ≤ k → k < length ms → order_key < (get_or ms k d).order_key) →
    AreMarks ms next → AreMarks (insert ms n (mark order_key next)) (next + 1)
marks_inserted ms next n order_key within above below are = record {
  ascend = all_pairs_insert (λ (l m : Mark). l.order_key < m.order_key) ms n (mark order_key next) within are.ascend above below;
  differ = all_pairs_insert (λ (l m : Mark). l.item_id ≢ m.item_id) ms n (mark order_key next) within are.differ
      (λ k d h. other_item_id (get_or ms k d).item_id next (are.past k d (omega (arith, h, within))))
      (λ k d h in_ms e. other_item_id (get_or ms k d).item_id next (are.past k d in_ms) (sym e));
  past = all_insert (λ (m : Mark). m.item_id < next + 1) ms n (mark order_key next) within (later ms next are) (omega arith);
}

-- a new one before one that is renewed
pub marks_split : (ms : List Mark) (next n above below order_key : ℕ) → n < length ms → 0 < n →
    ((d : Mark) → above ≡ (get_or ms (n - 1) d).order_key) → ((d : Mark) → below ≡ (get_or ms n d).order_key) → above < order_key → order_key < below →
    AreMarks ms next → AreMarks (insert (set ms n (mark below next)) n (mark order_key (next + 1))) (next + 2)
marks_split ms next n above below order_key within behind is_above is_below high low are =
    subst (AreMarks (insert (set ms n (mark below next)) n (mark order_key (next + 1)))) (let e : (next + 1) + 1 ≡ next + 2 = omega arith in e)
    (marks_inserted (set ms n (mark below next)) (next + 1) n order_key
    (let e : length (set ms n (mark below next)) ≡ length ms = length-set ms n (mark below next) in omega (arith, e, within)) first rest renewed)
  where
    renewed : AreMarks (set ms n (mark below next)) (next + 1)
    renewed = marks_renewed ms next n below within is_below are

    here : (d : Mark) → get_or (set ms n (mark below next)) n d ≡ mark below next
    here d = get_or-set_same ms n (mark below next) d within

    same_old : (k : ℕ) (d : Mark) → k < n → get_or (set ms n (mark below next)) k d ≡ get_or ms k d
    same_old k d h = get_or-set_other ms n k (mark below next) d (λ e. absurd (let f : k ≡ n = e in omega (arith, f, h)))

    first : (k : ℕ) (d : Mark) → k < n → (get_or (set ms n (mark below next)) k d).order_key < order_key
    first k d h = subst (λ (m : Mark). m.order_key < order_key) (sym (same_old k d h)) (which (order k (n - 1)))
      where
        last_above : above ≡ (get_or ms (n - 1) d).order_key
        last_above = is_above d

        which : Order k (n - 1) → (get_or ms k d).order_key < order_key
        which (less p) = let f : (get_or ms k d).order_key < (get_or ms (n - 1) d).order_key = are.ascend k (n - 1) d p (omega (arith, within)) in omega (arith, f, last_above, high)
        which (same p) = subst (λ (i : ℕ). (get_or ms i d).order_key < order_key) (sym p) (omega (arith, last_above, high))
        which (more p) = absurd (omega (arith, p, h))

    rest : (k : ℕ) (d : Mark) → n ≤ k → k < length (set ms n (mark below next)) → order_key < (get_or (set ms n (mark below next)) k d).order_key
    rest k d h in_set = which (order k n)
      where
        at_n : (get_or (set ms n (mark below next)) n d).order_key ≡ below
        at_n = ap (λ (m : Mark). m.order_key) (here d)

        which : Order k n → order_key < (get_or (set ms n (mark below next)) k d).order_key
        which (less p) = absurd (omega (arith, p, h))
        which (same p) = subst (λ (i : ℕ). order_key < (get_or (set ms n (mark below next)) i d).order_key) (sym p) (omega (arith, at_n, low))
        which (more p) = let f : (get_or (set ms n (mark below next)) n d).order_key < (get_or (set ms n (mark below next)) k d).order_key = renewed.ascend n k d p in_set in omega (arith, f, at_n, low)

-- ---- Marks that were created before all behind them

abbrev Older : ℕ → Mark → Mark → Type 0
Older first l m = l.item_id < first → l.item_id < m.item_id

first_set : (ms : List Mark) (first n order_key item_id : ℕ) → n < length ms → first ≤ item_id → All (λ (m : Mark). m.item_id < item_id) ms → AreFirst ms first → AreFirst (set ms n (mark order_key item_id)) first
first_set ms first n order_key item_id within late past are =
    all_pairs_set (Older first) ms n (mark order_key item_id) within are
    (λ k d h early. past k d (omega (arith, h, within)))
    (λ k d h in_ms early. absurd (omega (arith, late, early)))

first_insert : (ms : List Mark) (first n order_key item_id : ℕ) → n ≤ length ms → first ≤ item_id → All (λ (m : Mark). m.item_id < item_id) ms → AreFirst ms first → AreFirst (insert ms n (mark order_key item_id)) first
first_insert ms first n order_key item_id within late past are =
    all_pairs_insert (Older first) ms n (mark order_key item_id) within are
    (λ k d h early. past k d (omega (arith, h, within)))
    (λ k d h in_ms early. absurd (omega (arith, late, early)))

pub first_without : (ms : List Mark) (first n : ℕ) → n < length ms → AreFirst ms first → AreFirst (remove ms n) first
first_without ms first n within are = all_pairs_remove (Older first) ms n within are

pub first_renewed : (ms : List Mark) (next first n order_key : ℕ) → n < length ms → first ≤ next → AreMarks ms next → AreFirst ms first → AreFirst (set ms n (mark order_key next)) first
first_renewed ms next first n order_key within late marks are = first_set ms first n order_key next within late marks.past are

pub first_split : (ms : List Mark) (next first n below order_key : ℕ) → n < length ms → first ≤ next → AreMarks ms next → AreFirst ms first →
    AreFirst (insert (set ms n (mark below next)) n (mark order_key (next + 1))) first
first_split ms next first n below order_key within late marks are =
    first_insert (set ms n (mark below next)) first n order_key (next + 1)
    (let e : length (set ms n (mark below next)) ≡ length ms = length-set ms n (mark below next) in omega (arith, e, within)) (omega (arith, late))
    (all_set (λ (m : Mark). m.item_id < next + 1) ms n (mark below next) within (later ms next marks) (omega arith))
    (first_renewed ms next first n below within late marks are)

-- what is told of one of them
oldest_below : (ms : List Mark) (first n : ℕ) (b : Mark) → AreFirst ms first → b ≡ get_or ms n b → b.item_id < first → IsOldestBelow ms n
oldest_below ms first n b are b_is early k own other n_k at at_k =
    let own_is : b ≡ own = b_is ∙ get_or_from_slice_get ms n own b at in
    let other_is : get_or ms k b ≡ other = get_or_from_slice_get ms k other b at_k in
    let older : (get_or ms n b).item_id < (get_or ms k b).item_id = are n k b n_k (slice_get_within ms k other at_k) (subst (λ (m : Mark). m.item_id < first) b_is early) in
    subst (λ (m : Mark). m.item_id < other.item_id) own_is (subst (λ (m : Mark). b.item_id < m.item_id) other_is (subst (λ (m : Mark). m.item_id < (get_or ms k b).item_id) (sym b_is) older))

-- ---- At first

abbrev pub gap : ℕ
gap = 281474976710656

pub first_marks : (ms : List Mark) (count : ℕ) → length ms ≡ count → ((k : ℕ) (d : Mark) → k < length ms → get_or ms k d ≡ mark (k * gap) k) → AreMarks ms count
first_marks ms count many each = record {
  ascend = (λ i j d i_j within.
      let e : (get_or ms i d).order_key ≡ i * gap = ap (λ (m : Mark). m.order_key) (each i d (omega (arith, i_j, within))) in
      let f : (get_or ms j d).order_key ≡ j * gap = ap (λ (m : Mark). m.order_key) (each j d within) in
      omega (arith, e, f, i_j));
  differ = (λ i j d i_j within same_item_id.
      let e : (get_or ms i d).item_id ≡ i = ap (λ (m : Mark). m.item_id) (each i d (omega (arith, i_j, within))) in
      let f : (get_or ms j d).item_id ≡ j = ap (λ (m : Mark). m.item_id) (each j d within) in
      let g : (get_or ms i d).item_id ≡ (get_or ms j d).item_id = same_item_id in
      absurd (omega (arith, e, f, g, i_j)));
  past = (λ k d within. let e : (get_or ms k d).item_id ≡ k = ap (λ (m : Mark). m.item_id) (each k d within) in omega (arith, e, many, within));
}

pub first_are_first : (ms : List Mark) (count : ℕ) → ((k : ℕ) (d : Mark) → k < length ms → get_or ms k d ≡ mark (k * gap) k) → AreFirst ms count
first_are_first ms count each i j d i_j within early =
    let e : (get_or ms i d).item_id ≡ i = ap (λ (m : Mark). m.item_id) (each i d (omega (arith, i_j, within))) in
    let f : (get_or ms j d).item_id ≡ j = ap (λ (m : Mark). m.item_id) (each j d within) in
    omega (arith, e, f, i_j)

-- ---- What becomes of marks, seen as the value of their type

abbrev list_of : List Mark → ℕ → MarkList
list_of ms next = record { list = ms; next = next }

none_is_one : (m : Mark) → [] ≡ m ∷ [] → ⊥
none_is_one m e = let f : 0 ≡ 1 = ap length e in absurd (omega (arith, f))

two_are_one : (k l m : Mark) → k ∷ l ∷ [] ≡ m ∷ [] → ⊥
two_are_one k l m e = let f : 2 ≡ 1 = ap length e in absurd (omega (arith, f))

abbrev first_order_key : List Mark → ℕ
first_order_key [] = 0
first_order_key (m ∷ ms) = m.order_key

pub without_is : (m : MarkList) (ms : List Mark) (next n : ℕ) → list_of ms next ≡ m → AreRenewed m.list (remove ms n) m.next n 0
without_is m ms next n e = subst (λ (m : MarkList). AreRenewed m.list (remove ms n) m.next n 0) e
    (record { made = []; count_is = refl; later = (λ k d within. absurd (omega (arith, within))); order_key = (λ m' f. absurd (none_is_one m' f)); is = put_none n ms })

only : (order_key next item_id : ℕ) → next ≤ item_id → All (λ (m : Mark). next ≤ m.item_id) (mark order_key item_id ∷ [])
only order_key next item_id least zero d within = least
only order_key next item_id least (suc k) d within = absurd (omega (arith, within))

pub renewed_is : (m : MarkList) (ms : List Mark) (next n : ℕ) (b : Mark) → list_of ms next ≡ m → n < length m.list → b ≡ get_or ms n b → AreRenewed m.list (set ms n (mark b.order_key next)) m.next n 1
renewed_is m ms next n b e within b_is = subst (λ (m : MarkList). n < length m.list → AreRenewed m.list (set ms n (mark b.order_key next)) m.next n 1) e
    (λ at. record {
      made = mark b.order_key next ∷ [];
      count_is = refl;
      later = only b.order_key next next (omega arith);
      order_key = (λ m' f. subst (λ (l : ℕ). IsOrderKeyAt ms l n) (ap first_order_key f) (get_or ms n b, slice_get-get_or ms n b at, ap (λ (m : Mark). m.order_key) (sym b_is)));
      is = put_one n (mark b.order_key next) ms;
    }) within

both : (order_key below next : ℕ) → All (λ (m : Mark). next ≤ m.item_id) (mark order_key (next + 1) ∷ mark below next ∷ [])
both order_key below next zero d within = omega arith
both order_key below next (suc k) d within = only below next next (omega arith) k d (omega (arith, within))

pub split_is : (m : MarkList) (ms : List Mark) (next n below order_key : ℕ) → list_of ms next ≡ m → n < length m.list →
    AreRenewed m.list (insert (set ms n (mark below next)) n (mark order_key (next + 1))) m.next n 2
split_is m ms next n below order_key e within = subst (λ (m : MarkList). n < length m.list → AreRenewed m.list (insert (set ms n (mark below next)) n (mark order_key (next + 1))) m.next n 2) e
    (λ at. record { made = mark order_key (next + 1) ∷ mark below next ∷ []; count_is = refl; later = both order_key below next; order_key = (λ m' f. absurd (two_are_one (mark order_key (next + 1)) (mark below next) m' f)); is = put_two n (mark below next) (mark order_key (next + 1)) ms at }) within

pub oldest_is : (m : MarkList) (ms : List Mark) (next first n : ℕ) (b : Mark) → list_of ms next ≡ m → AreFirst ms first → b ≡ get_or ms n b → b.item_id < first → IsOldestBelow m.list n
oldest_is m ms next first n b e are b_is early = subst (λ (m : MarkList). IsOldestBelow m.list n) e (oldest_below ms first n b are b_is early)

pub within_is : (m : MarkList) (ms : List Mark) (next n : ℕ) → list_of ms next ≡ m → n < length m.list → n < length ms
within_is m ms next n e = subst (λ (m : MarkList). n < length m.list → n < length ms) e (λ h. h)

pub split_marks : (ms : List Mark) (next n : ℕ) (a b : Mark) (order_key : ℕ) → n < length ms → 0 < n → a ≡ get_or ms (n - 1) a → b ≡ get_or ms n b → a.order_key < order_key → order_key < b.order_key →
    AreMarks ms next → AreMarks (insert (set ms n (mark b.order_key next)) n (mark order_key (next + 1))) (next + 2)
split_marks ms next n a b order_key within behind a_is b_is high low are =
    marks_split ms next n a.order_key b.order_key order_key within behind
    (λ d. ap (λ (m : Mark). m.order_key) (a_is ∙ get_or_default ms (n - 1) a d (omega (arith, within))))
    (λ d. ap (λ (m : Mark). m.order_key) (b_is ∙ get_or_default ms n b d within)) high low are
