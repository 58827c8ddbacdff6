-- Lists from which repeats go, those that weigh most first.
use Rattle.std.proofs.Common.{◌≡◌, ◌⊎◌, ℕ, zero, suc, ◌+◌, ◌-◌, ◌<◌, ◌≤◌, Bool, true, false, cond, List, [], ◌∷◌, map, length, refl, sym, ap, subst, inl, inr, ◌∙◌, arith}
use Rattle.std.specs.Prelude.{◌↔◌, ◌==◌, ◌&&◌, nat_lt}
use Rattle.std.specs.List.{AllByRecursion, Contains}
use Rattle.list_facts.proofs.Members.{Contains-cons_cases, Contains-here, Contains-there}
use Rattle.run_laws.specs.Marks.{Descends, count_above, count_of, goes, kept, mark, marks}

-- ---- Comparing

pub data Compared (l m : ℕ) : Type 0 where
  is_more : l < m → Compared l m
  is_same : m ≡ l → Compared l m
  is_less : m < l → Compared l m

pub compared : (l m : ℕ) → Compared l m
compared zero zero = is_same refl
compared zero (suc m) = is_more (omega arith)
compared (suc l) zero = is_less (omega arith)
compared (suc l) (suc m) = which (compared l m)
  where
    which : Compared l m → Compared (suc l) (suc m)
    which (is_more h) = is_more (omega (arith, h))
    which (is_same h) = is_same (ap suc h)
    which (is_less h) = is_less (omega (arith, h))

lt_true : (a b : ℕ) → a < b → nat_lt a b ≡ true
lt_true a b h = grind (arith, h)

lt_false : (a b : ℕ) → b ≤ a → nat_lt a b ≡ false
lt_false a b h = grind (arith, h)

same_true : (a b : ℕ) → a ≡ b → (a == b) ≡ true
same_true a b h = grind (arith, h)

same_false : (a b : ℕ) → a < b → (a == b) ≡ false
same_false a b h = grind (arith, h)

-- ---- Which go

goes_more : (l c m : ℕ) (ms : List ℕ) → l < m → goes l c (m ∷ ms) ≡ true ∷ goes l c ms
goes_more l c m ms h = ap (λ (b : Bool). cond b (true ∷ goes l c ms) (cond ((m == l) && nat_lt 0 c) (true ∷ goes l (c - 1) ms) (false ∷ goes l c ms))) (lt_true l m h)

goes_kept : (l c m : ℕ) (ms : List ℕ) → m ≤ l → ((m == l) && nat_lt 0 c) ≡ false → goes l c (m ∷ ms) ≡ false ∷ goes l c ms
goes_kept l c m ms h other =
    ap (λ (b : Bool). cond b (true ∷ goes l c ms) (cond ((m == l) && nat_lt 0 c) (true ∷ goes l (c - 1) ms) (false ∷ goes l c ms))) (lt_false l m h)
    ∙ ap (λ (b : Bool). cond b (true ∷ goes l (c - 1) ms) (false ∷ goes l c ms)) other

goes_same : (l c m : ℕ) (ms : List ℕ) → m ≡ l → goes l (suc c) (m ∷ ms) ≡ true ∷ goes l c ms
goes_same l c m ms h =
    let one : ((m == l) && nat_lt 0 (suc c)) ≡ true = ap (λ (b : Bool). b && nat_lt 0 (suc c)) (same_true m l h) ∙ lt_true 0 (suc c) (omega arith) in
    let e : suc c - 1 ≡ c = omega arith in
    ap (λ (b : Bool). cond b (true ∷ goes l (suc c) ms) (cond ((m == l) && nat_lt 0 (suc c)) (true ∷ goes l (suc c - 1) ms) (false ∷ goes l (suc c) ms))) (lt_false l m (omega (arith, h)))
    ∙ ap (λ (b : Bool). cond b (true ∷ goes l (suc c - 1) ms) (false ∷ goes l (suc c) ms)) one
    ∙ ap (λ (n : ℕ). true ∷ goes l n ms) e

goes_none : (l m : ℕ) (ms : List ℕ) → m ≡ l → goes l 0 (m ∷ ms) ≡ false ∷ goes l 0 ms
goes_none l m ms h = goes_kept l 0 m ms (omega (arith, h)) (ap (λ (b : Bool). b && nat_lt 0 0) (same_true m l h) ∙ lt_false 0 0 (omega arith))

goes_less : (l c m : ℕ) (ms : List ℕ) → m < l → goes l c (m ∷ ms) ≡ false ∷ goes l c ms
goes_less l c m ms h = goes_kept l c m ms (omega (arith, h)) (ap (λ (b : Bool). b && nat_lt 0 c) (same_false m l h))

count_same : (l m : ℕ) (ms : List ℕ) → m ≡ l → count_of l (m ∷ ms) ≡ suc (count_of l ms)
count_same l m ms h = ap (λ (b : Bool). cond b 1 0 + count_of l ms) (same_true m l h) ∙ omega arith

count_other : (l m : ℕ) (ms : List ℕ) → (m == l) ≡ false → count_of l (m ∷ ms) ≡ count_of l ms
count_other l m ms h = ap (λ (b : Bool). cond b 1 0 + count_of l ms) h ∙ omega arith

count_less : (l m : ℕ) (ms : List ℕ) → m < l → count_of l (m ∷ ms) ≡ count_of l ms
count_less l m ms h = count_other l m ms (same_false m l h)

count_more : (l m : ℕ) (ms : List ℕ) → l < m → count_of l (m ∷ ms) ≡ count_of l ms
count_more l m ms h = count_other l m ms (different m l h)
  where
    different : (a b : ℕ) → b < a → (a == b) ≡ false
    different a b h = grind (arith, h)

-- ---- How many go

above_more : (l m : ℕ) (ms : List ℕ) → l < m → count_above l (m ∷ ms) ≡ suc (count_above l ms)
above_more l m ms h = ap (λ (b : Bool). cond b 1 0 + count_above l ms) (lt_true l m h) ∙ omega arith

above_least : (l m : ℕ) (ms : List ℕ) → count_above l ms ≤ count_above l (m ∷ ms)
above_least l m ms = let e : count_above l (m ∷ ms) ≡ cond (nat_lt l m) 1 0 + count_above l ms = refl in omega (arith, e)

-- no more than those that are heavier and so many
pub few_go : {X : Type 0} (l c : ℕ) (ms : List ℕ) (xs : List X) → length xs ≤ length (kept (goes l c ms) xs) + (count_above l ms + c)
few_go l c [] xs = omega arith
few_go {X} l c (m ∷ ms) [] = omega arith
few_go {X} l c (m ∷ ms) (x ∷ xs) = which (compared l m) c (λ (n : ℕ). few_go l n ms xs)
  where
    which : Compared l m → (n : ℕ) → ((k : ℕ) → length xs ≤ length (kept (goes l k ms) xs) + (count_above l ms + k)) →
        length (x ∷ xs) ≤ length (kept (goes l n (m ∷ ms)) (x ∷ xs)) + (count_above l (m ∷ ms) + n)
    which (is_more g) n rest =
        let e : length (kept (goes l n (m ∷ ms)) (x ∷ xs)) ≡ length (kept (goes l n ms) xs) = ap (λ (gs : List Bool). length (kept gs (x ∷ xs))) (goes_more l n m ms g) in
        let f = above_more l m ms g in let r = rest n in omega (arith, e, f, r)
    which (is_same g) zero rest =
        let e : length (kept (goes l 0 (m ∷ ms)) (x ∷ xs)) ≡ suc (length (kept (goes l 0 ms) xs)) = ap (λ (gs : List Bool). length (kept gs (x ∷ xs))) (goes_none l m ms g) in
        let r = rest 0 in let f = above_least l m ms in omega (arith, e, f, r)
    which (is_same g) (suc n) rest =
        let e : length (kept (goes l (suc n) (m ∷ ms)) (x ∷ xs)) ≡ length (kept (goes l n ms) xs) = ap (λ (gs : List Bool). length (kept gs (x ∷ xs))) (goes_same l n m ms g) in
        let r = rest n in let f = above_least l m ms in omega (arith, e, f, r)
    which (is_less g) n rest =
        let e : length (kept (goes l n (m ∷ ms)) (x ∷ xs)) ≡ suc (length (kept (goes l n ms) xs)) = ap (λ (gs : List Bool). length (kept gs (x ∷ xs))) (goes_less l n m ms g) in
        let r = rest n in let f = above_least l m ms in omega (arith, e, f, r)

pub few_of_one : {X : Type 0} (l c : ℕ) (ms : List ℕ) (xs : List X) → length xs ≤ length (kept (goes l c ms) xs) + (count_above l ms + count_of l ms)
few_of_one l c [] xs = omega arith
few_of_one {X} l c (m ∷ ms) [] = omega arith
few_of_one {X} l c (m ∷ ms) (x ∷ xs) = which (compared l m) c (λ (n : ℕ). few_of_one l n ms xs)
  where
    which : Compared l m → (n : ℕ) → ((k : ℕ) → length xs ≤ length (kept (goes l k ms) xs) + (count_above l ms + count_of l ms)) →
        length (x ∷ xs) ≤ length (kept (goes l n (m ∷ ms)) (x ∷ xs)) + (count_above l (m ∷ ms) + count_of l (m ∷ ms))
    which (is_more g) n rest =
        let e : length (kept (goes l n (m ∷ ms)) (x ∷ xs)) ≡ length (kept (goes l n ms) xs) = ap (λ (gs : List Bool). length (kept gs (x ∷ xs))) (goes_more l n m ms g) in
        let f = above_more l m ms g in let h = count_more l m ms g in let r = rest n in omega (arith, e, f, h, r)
    which (is_same g) zero rest =
        let e : length (kept (goes l 0 (m ∷ ms)) (x ∷ xs)) ≡ suc (length (kept (goes l 0 ms) xs)) = ap (λ (gs : List Bool). length (kept gs (x ∷ xs))) (goes_none l m ms g) in
        let r = rest 0 in let f = above_least l m ms in let h = count_same l m ms g in omega (arith, e, f, h, r)
    which (is_same g) (suc n) rest =
        let e : length (kept (goes l (suc n) (m ∷ ms)) (x ∷ xs)) ≡ length (kept (goes l n ms) xs) = ap (λ (gs : List Bool). length (kept gs (x ∷ xs))) (goes_same l n m ms g) in
        let r = rest n in let f = above_least l m ms in let h = count_same l m ms g in omega (arith, e, f, h, r)
    which (is_less g) n rest =
        let e : length (kept (goes l n (m ∷ ms)) (x ∷ xs)) ≡ suc (length (kept (goes l n ms) xs)) = ap (λ (gs : List Bool). length (kept gs (x ∷ xs))) (goes_less l n m ms g) in
        let r = rest n in let f = above_least l m ms in let h = count_less l m ms g in omega (arith, e, f, h, r)

-- as many as are heavier and so many, if there are so many
above_less : (l m : ℕ) (ms : List ℕ) → m ≤ l → count_above l (m ∷ ms) ≡ count_above l ms
above_less l m ms h = ap (λ (b : Bool). cond b 1 0 + count_above l ms) (lt_false l m h) ∙ omega arith

pub all_go : {X : Type 0} (l c : ℕ) (ms : List ℕ) (xs : List X) → length ms ≡ length xs → c ≤ count_of l ms → length (kept (goes l c ms) xs) + (count_above l ms + c) ≤ length xs
all_go l c [] xs long many = omega (arith, many)
all_go {X} l c (m ∷ ms) [] long many = absurd (omega (arith, long))
all_go {X} l c (m ∷ ms) (x ∷ xs) long many = which (compared l m) c many (λ (n : ℕ). all_go l n ms xs (omega (arith, long)))
  where
    which : Compared l m → (n : ℕ) → n ≤ count_of l (m ∷ ms) → ((k : ℕ) → k ≤ count_of l ms → length (kept (goes l k ms) xs) + (count_above l ms + k) ≤ length xs) →
        length (kept (goes l n (m ∷ ms)) (x ∷ xs)) + (count_above l (m ∷ ms) + n) ≤ length (x ∷ xs)
    which (is_more g) n many rest =
        let e : length (kept (goes l n (m ∷ ms)) (x ∷ xs)) ≡ length (kept (goes l n ms) xs) = ap (λ (gs : List Bool). length (kept gs (x ∷ xs))) (goes_more l n m ms g) in
        let f = above_more l m ms g in let h = count_more l m ms g in let r = rest n (omega (arith, h, many)) in omega (arith, e, f, r)
    which (is_same g) zero many rest =
        let e : length (kept (goes l 0 (m ∷ ms)) (x ∷ xs)) ≡ suc (length (kept (goes l 0 ms) xs)) = ap (λ (gs : List Bool). length (kept gs (x ∷ xs))) (goes_none l m ms g) in
        let f = above_less l m ms (omega (arith, g)) in let r = rest 0 (omega arith) in omega (arith, e, f, r)
    which (is_same g) (suc n) many rest =
        let e : length (kept (goes l (suc n) (m ∷ ms)) (x ∷ xs)) ≡ length (kept (goes l n ms) xs) = ap (λ (gs : List Bool). length (kept gs (x ∷ xs))) (goes_same l n m ms g) in
        let f = above_less l m ms (omega (arith, g)) in let h = count_same l m ms g in let r = rest n (omega (arith, h, many)) in omega (arith, e, f, r)
    which (is_less g) n many rest =
        let e : length (kept (goes l n (m ∷ ms)) (x ∷ xs)) ≡ suc (length (kept (goes l n ms) xs)) = ap (λ (gs : List Bool). length (kept gs (x ∷ xs))) (goes_less l n m ms g) in
        let f = above_less l m ms (omega (arith, g)) in let h = count_less l m ms g in let r = rest n (omega (arith, h, many)) in omega (arith, e, f, r)

-- and if there are no more, as many as there are
pub all_of_one_go : {X : Type 0} (l c : ℕ) (ms : List ℕ) (xs : List X) → length ms ≡ length xs → count_of l ms ≤ c → length (kept (goes l c ms) xs) + (count_above l ms + count_of l ms) ≤ length xs
all_of_one_go l c [] xs long few = omega (arith, few)
all_of_one_go {X} l c (m ∷ ms) [] long few = absurd (omega (arith, long))
all_of_one_go {X} l c (m ∷ ms) (x ∷ xs) long few = which (compared l m) c few (λ (n : ℕ). all_of_one_go l n ms xs (omega (arith, long)))
  where
    which : Compared l m → (n : ℕ) → count_of l (m ∷ ms) ≤ n → ((k : ℕ) → count_of l ms ≤ k → length (kept (goes l k ms) xs) + (count_above l ms + count_of l ms) ≤ length xs) →
        length (kept (goes l n (m ∷ ms)) (x ∷ xs)) + (count_above l (m ∷ ms) + count_of l (m ∷ ms)) ≤ length (x ∷ xs)
    which (is_more g) n few rest =
        let e : length (kept (goes l n (m ∷ ms)) (x ∷ xs)) ≡ length (kept (goes l n ms) xs) = ap (λ (gs : List Bool). length (kept gs (x ∷ xs))) (goes_more l n m ms g) in
        let f = above_more l m ms g in let h = count_more l m ms g in let r = rest n (omega (arith, h, few)) in omega (arith, e, f, h, r)
    which (is_same g) zero few rest = let h = count_same l m ms g in absurd (omega (arith, h, few))
    which (is_same g) (suc n) few rest =
        let e : length (kept (goes l (suc n) (m ∷ ms)) (x ∷ xs)) ≡ length (kept (goes l n ms) xs) = ap (λ (gs : List Bool). length (kept gs (x ∷ xs))) (goes_same l n m ms g) in
        let f = above_less l m ms (omega (arith, g)) in let h = count_same l m ms g in let r = rest n (omega (arith, h, few)) in omega (arith, e, f, h, r)
    which (is_less g) n few rest =
        let e : length (kept (goes l n (m ∷ ms)) (x ∷ xs)) ≡ suc (length (kept (goes l n ms) xs)) = ap (λ (gs : List Bool). length (kept gs (x ∷ xs))) (goes_less l n m ms g) in
        let f = above_less l m ms (omega (arith, g)) in let h = count_less l m ms g in let r = rest n (omega (arith, h, few)) in omega (arith, e, f, h, r)

-- of the next smaller weight those that are heavier are those of this weight and those above it
pub above_below : (l : ℕ) (ms : List ℕ) → count_above l ms ≡ count_above (suc l) ms + count_of (suc l) ms
above_below l [] = omega arith
above_below l (m ∷ ms) = which (compared (suc l) m) (above_below l ms)
  where
    which : Compared (suc l) m → count_above l ms ≡ count_above (suc l) ms + count_of (suc l) ms → count_above l (m ∷ ms) ≡ count_above (suc l) (m ∷ ms) + count_of (suc l) (m ∷ ms)
    which (is_more g) rest =
        let e = above_more l m ms (omega (arith, g)) in let f = above_more (suc l) m ms g in let h = count_more (suc l) m ms g in omega (arith, e, f, h, rest)
    which (is_same g) rest =
        let e = above_more l m ms (omega (arith, g)) in let f = above_less (suc l) m ms (omega (arith, g)) in let h = count_same (suc l) m ms g in omega (arith, e, f, h, rest)
    which (is_less g) rest =
        let e = above_less l m ms (omega (arith, g)) in let f = above_less (suc l) m ms (omega (arith, g)) in let h = count_less (suc l) m ms g in omega (arith, e, f, h, rest)

pub marks_length : {X : Type 0} (again : X → List X → Bool) (weight : X → ℕ) (xs : List X) → length (marks again weight xs) ≡ length xs
marks_length again weight [] = refl
marks_length again weight (x ∷ xs) = ap suc (marks_length again weight xs)

-- ---- What holds of all elements

pub all_kept : {X : Type 0} (P : X → Type 0) (gs : List Bool) (xs : List X) → AllByRecursion P xs → AllByRecursion P (kept gs xs)
all_kept P [] xs all = all
all_kept P (g ∷ gs) [] all = tt
all_kept P (true ∷ gs) (x ∷ xs) all = all_kept P gs xs all.1
all_kept P (false ∷ gs) (x ∷ xs) all = (all.0, all_kept P gs xs all.1)

-- ---- Elements with parts

module _ {X Y : Type 0} (part : X → Y) (weight : X → ℕ) where
  -- no element that weighs so much is again later
  abbrev pub NoneAgain : ℕ → List X → Type 0
  NoneAgain t [] = Unit {0}
  NoneAgain t (x ∷ xs) = (t ≤ weight x → Contains (map part xs) (part x) → ⊥) × NoneAgain t xs

  -- the element of this number goes next: the first of those that weigh so much and are again later
  abbrev pub Next : (l i : ℕ) → List X → List X → Type 0
  Next l i [] ys = ⊥
  Next l zero (x ∷ xs) ys = (weight x ≡ l) × Contains (map part xs) (part x) × (ys ≡ xs)
  Next l (suc i) (x ∷ xs) [] = ⊥
  Next l (suc i) (x ∷ xs) (y ∷ ys) = (y ≡ x) × (l ≤ weight x → Contains (map part xs) (part x) → ⊥) × Next l i xs ys

module _ {X Y : Type 0} (part : X → Y) (again : X → List X → Bool) (weight : X → ℕ)
    (again_is : (x : X) (xs : List X) → again x xs ≡ true ↔ Contains (map part xs) (part x)) where
  abbrev Later : X → List X → Type 0
  Later x xs = Contains (map part xs) (part x)

  abbrev ms : List X → List ℕ
  ms xs = marks again weight xs

  abbrev L : ℕ → ℕ → List X → List X
  L l c xs = kept (goes l c (ms xs)) xs

  pub descends_kept : (gs : List Bool) (xs : List X) → Descends part weight xs → Descends part weight (kept gs xs)
  descends_kept [] xs d = d
  descends_kept (g ∷ gs) [] d = tt
  descends_kept (true ∷ gs) (x ∷ xs) d = descends_kept gs xs d.1
  descends_kept (false ∷ gs) (x ∷ xs) d = (all_kept (λ (y : X). part y ≡ part x → weight y ≤ weight x) gs xs d.0, descends_kept gs xs d.1)

  was_part : (p : Y) (gs : List Bool) (xs : List X) → Contains (map part (kept gs xs)) p → Contains (map part xs) p
  was_part p [] xs h = h
  was_part p (g ∷ gs) [] h = h
  was_part p (true ∷ gs) (x ∷ xs) h = Contains-there (part x) (map part xs) p (was_part p gs xs h)
  was_part p (false ∷ gs) (x ∷ xs) h = which (Contains-cons_cases (part x) (map part (kept gs xs)) p h) (was_part p gs xs)
    where
      which : (part x ≡ p) ⊎ Contains (map part (kept gs xs)) p → (Contains (map part (kept gs xs)) p → Contains (map part xs) p) → Contains (part x ∷ map part xs) p
      which (inl e) rest = subst (Contains (part x ∷ map part xs)) e (Contains-here (part x) (map part xs))
      which (inr k) rest = Contains-there (part x) (map part xs) p (rest k)

  -- what the mark of an element says
  pub data Marked (x : X) (xs : List X) : Type 0 where
    repeated : mark again weight x xs ≡ weight x → Later x xs → Marked x xs
    single : mark again weight x xs ≡ 0 → (Later x xs → ⊥) → Marked x xs

  marked : (x : X) (xs : List X) → Marked x xs
  marked x xs = which (again x xs) refl
    where
      which : (b : Bool) → again x xs ≡ b → Marked x xs
      which true e = repeated (ap (λ (b : Bool). cond b (weight x) 0) e) ((again_is x xs).0 e)
      which false e = single (ap (λ (b : Bool). cond b (weight x) 0) e) (λ later. let f : true ≡ false = sym ((again_is x xs).1 later) ∙ e in cc)

  -- an element with a mark is again later
  later_of : (x : X) (xs : List X) → 0 < mark again weight x xs → (mark again weight x xs ≡ weight x) × Later x xs
  later_of x xs some = which (marked x xs)
    where
      which : Marked x xs → (mark again weight x xs ≡ weight x) × Later x xs
      which (repeated e later) = (e, later)
      which (single e never) = absurd (omega (arith, e, some))

  mark_of : (x : X) (xs : List X) → Later x xs → mark again weight x xs ≡ weight x
  mark_of x xs later = which (marked x xs)
    where
      which : Marked x xs → mark again weight x xs ≡ weight x
      which (repeated e also) = e
      which (single e never) = absurd (never later)

  -- ---- What becomes of a list by the mark of its first element

  abbrev m : X → List X → ℕ
  m x xs = mark again weight x xs

  L_more : (l c : ℕ) (x : X) (xs : List X) → l < m x xs → L l c (x ∷ xs) ≡ L l c xs
  L_more l c x xs h = ap (λ (gs : List Bool). kept gs (x ∷ xs)) (goes_more l c (m x xs) (ms xs) h)

  L_same : (l c : ℕ) (x : X) (xs : List X) → m x xs ≡ l → L l (suc c) (x ∷ xs) ≡ L l c xs
  L_same l c x xs h = ap (λ (gs : List Bool). kept gs (x ∷ xs)) (goes_same l c (m x xs) (ms xs) h)

  L_none : (l : ℕ) (x : X) (xs : List X) → m x xs ≡ l → L l 0 (x ∷ xs) ≡ x ∷ L l 0 xs
  L_none l x xs h = ap (λ (gs : List Bool). kept gs (x ∷ xs)) (goes_none l (m x xs) (ms xs) h)

  L_less : (l c : ℕ) (x : X) (xs : List X) → m x xs < l → L l c (x ∷ xs) ≡ x ∷ L l c xs
  L_less l c x xs h = ap (λ (gs : List Bool). kept gs (x ∷ xs)) (goes_less l c (m x xs) (ms xs) h)

  -- no part is lost
  pub keeps_part : (l c : ℕ) → 0 < l → (xs : List X) (p : Y) → Contains (map part xs) p → Contains (map part (L l c xs)) p
  keeps_part l c some [] p h = h
  keeps_part l c some (x ∷ xs) p h = which (Contains-cons_cases (part x) (map part xs) p h) (compared l (m x xs)) c (λ (n : ℕ). keeps_part l n some xs p)
    where
      stays : (n : ℕ) → (Contains (map part xs) p → Contains (map part (L l n xs)) p) → (part x ≡ p) ⊎ Contains (map part xs) p → Contains (map part (x ∷ L l n xs)) p
      stays n rest (inl e) = subst (Contains (part x ∷ map part (L l n xs))) e (Contains-here (part x) (map part (L l n xs)))
      stays n rest (inr k) = Contains-there (part x) (map part (L l n xs)) p (rest k)

      lost : (n : ℕ) → (Contains (map part xs) p → Contains (map part (L l n xs)) p) → 0 < m x xs → (part x ≡ p) ⊎ Contains (map part xs) p → Contains (map part (L l n xs)) p
      lost n rest marks (inl e) = rest (subst (Contains (map part xs)) e (later_of x xs marks).1)
      lost n rest marks (inr k) = rest k

      which : (part x ≡ p) ⊎ Contains (map part xs) p → Compared l (m x xs) → (n : ℕ) → ((k : ℕ) → Contains (map part xs) p → Contains (map part (L l k xs)) p) → Contains (map part (L l n (x ∷ xs))) p
      which at (is_more g) n rest = subst (λ (zs : List X). Contains (map part zs) p) (sym (L_more l n x xs g)) (lost n (rest n) (omega (arith, g)) at)
      which at (is_same e) zero rest = subst (λ (zs : List X). Contains (map part zs) p) (sym (L_none l x xs e)) (stays 0 (rest 0) at)
      which at (is_same e) (suc n) rest = subst (λ (zs : List X). Contains (map part zs) p) (sym (L_same l n x xs e)) (lost n (rest n) (omega (arith, e, some)) at)
      which at (is_less g) n rest = subst (λ (zs : List X). Contains (map part zs) p) (sym (L_less l n x xs g)) (stays n (rest n) at)

  -- ---- No heavy element is again later

  -- the element would have a greater mark
  not_later : (t l c : ℕ) (x : X) (xs : List X) → m x xs < t → t ≤ weight x → Contains (map part (L l c xs)) (part x) → ⊥
  not_later t l c x xs light heavy later =
      let e : m x xs ≡ weight x = mark_of x xs (was_part (part x) (goes l c (ms xs)) xs later) in
      omega (arith, e, light, heavy)

  pub none_heavier : (l c : ℕ) (xs : List X) → NoneAgain part weight (suc l) (L l c xs)
  none_heavier l c [] = tt
  none_heavier l c (x ∷ xs) = which (compared l (m x xs)) c (λ (n : ℕ). none_heavier l n xs)
    where
      which : Compared l (m x xs) → (n : ℕ) → ((k : ℕ) → NoneAgain part weight (suc l) (L l k xs)) → NoneAgain part weight (suc l) (L l n (x ∷ xs))
      which (is_more g) n rest = subst (NoneAgain part weight (suc l)) (sym (L_more l n x xs g)) (rest n)
      which (is_same e) zero rest = subst (NoneAgain part weight (suc l)) (sym (L_none l x xs e)) (not_later (suc l) l 0 x xs (omega (arith, e)), rest 0)
      which (is_same e) (suc n) rest = subst (NoneAgain part weight (suc l)) (sym (L_same l n x xs e)) (rest n)
      which (is_less g) n rest = subst (NoneAgain part weight (suc l)) (sym (L_less l n x xs g)) (not_later (suc l) l n x xs (omega (arith, g)), rest n)

  pub none_as_heavy : (l c : ℕ) (xs : List X) → count_of l (ms xs) ≤ c → NoneAgain part weight l (L l c xs)
  none_as_heavy l c [] all = tt
  none_as_heavy l c (x ∷ xs) all = which (compared l (m x xs)) c all (λ (n : ℕ). none_as_heavy l n xs)
    where
      which : Compared l (m x xs) → (n : ℕ) → count_of l (ms (x ∷ xs)) ≤ n → ((k : ℕ) → count_of l (ms xs) ≤ k → NoneAgain part weight l (L l k xs)) → NoneAgain part weight l (L l n (x ∷ xs))
      which (is_more g) n all rest = let e = count_more l (m x xs) (ms xs) g in subst (NoneAgain part weight l) (sym (L_more l n x xs g)) (rest n (omega (arith, e, all)))
      which (is_same e) zero all rest = let f = count_same l (m x xs) (ms xs) e in absurd (omega (arith, f, all))
      which (is_same e) (suc n) all rest = let f = count_same l (m x xs) (ms xs) e in subst (NoneAgain part weight l) (sym (L_same l n x xs e)) (rest n (omega (arith, f, all)))
      which (is_less g) n all rest = let e = count_less l (m x xs) (ms xs) g in subst (NoneAgain part weight l) (sym (L_less l n x xs g)) (not_later l l n x xs g, rest n (omega (arith, e, all)))

  -- ---- One more goes

  pub one_more : (l c : ℕ) → 0 < l → (xs : List X) → c < count_of l (ms xs) → (i : ℕ) × Next part weight l i (L l c xs) (L l (suc c) xs)
  one_more l c some [] below = absurd (omega (arith, below))
  one_more l c some (x ∷ xs) below = which (compared l (m x xs)) c below (λ (n : ℕ). one_more l n some xs)
    where
      which : Compared l (m x xs) → (n : ℕ) → n < count_of l (ms (x ∷ xs)) → ((k : ℕ) → k < count_of l (ms xs) → (i : ℕ) × Next part weight l i (L l k xs) (L l (suc k) xs)) →
          (i : ℕ) × Next part weight l i (L l n (x ∷ xs)) (L l (suc n) (x ∷ xs))
      which (is_more g) n below rest =
          let e = count_more l (m x xs) (ms xs) g in
          let w = rest n (omega (arith, e, below)) in
          (w.0, subst (λ (zs : List X). Next part weight l w.0 zs (L l (suc n) (x ∷ xs))) (sym (L_more l n x xs g)) (subst (Next part weight l w.0 (L l n xs)) (sym (L_more l (suc n) x xs g)) w.1))
      which (is_same e) zero below rest =
          let w = later_of x xs (omega (arith, e, some)) in
          (zero, subst (λ (zs : List X). Next part weight l zero zs (L l 1 (x ∷ xs))) (sym (L_none l x xs e)) (sym w.0 ∙ e, keeps_part l 0 some xs (part x) w.1, L_same l 0 x xs e))
      which (is_same e) (suc n) below rest =
          let f = count_same l (m x xs) (ms xs) e in
          let w = rest n (omega (arith, f, below)) in
          (w.0, subst (λ (zs : List X). Next part weight l w.0 zs (L l (suc (suc n)) (x ∷ xs))) (sym (L_same l n x xs e)) (subst (Next part weight l w.0 (L l n xs)) (sym (L_same l (suc n) x xs e)) w.1))
      which (is_less g) n below rest =
          let e = count_less l (m x xs) (ms xs) g in
          let w = rest n (omega (arith, e, below)) in (
            suc w.0,
            subst (λ (zs : List X). Next part weight l (suc w.0) zs (L l (suc n) (x ∷ xs))) (sym (L_less l n x xs g))
                (subst (Next part weight l (suc w.0) (x ∷ L l n xs)) (sym (L_less l (suc n) x xs g)) (refl, not_later l l n x xs g, w.1)),
          )

  -- ---- From one weight to the next

  pub all_gone : (l c : ℕ) (xs : List X) → count_of (suc l) (ms xs) ≤ c → L (suc l) c xs ≡ L l 0 xs
  all_gone l c [] all = refl
  all_gone l c (x ∷ xs) all = which (compared (suc l) (m x xs)) c all (λ (n : ℕ). all_gone l n xs)
    where
      light : m x xs < suc l → L l 0 (x ∷ xs) ≡ x ∷ L l 0 xs
      light g = by (compared l (m x xs))
        where
          by : Compared l (m x xs) → L l 0 (x ∷ xs) ≡ x ∷ L l 0 xs
          by (is_more h) = absurd (omega (arith, g, h))
          by (is_same e) = L_none l x xs e
          by (is_less h) = L_less l 0 x xs h

      which : Compared (suc l) (m x xs) → (n : ℕ) → count_of (suc l) (ms (x ∷ xs)) ≤ n → ((k : ℕ) → count_of (suc l) (ms xs) ≤ k → L (suc l) k xs ≡ L l 0 xs) → L (suc l) n (x ∷ xs) ≡ L l 0 (x ∷ xs)
      which (is_more g) n all rest = let e = count_more (suc l) (m x xs) (ms xs) g in L_more (suc l) n x xs g ∙ rest n (omega (arith, e, all)) ∙ sym (L_more l 0 x xs (omega (arith, g)))
      which (is_same e) zero all rest = let f = count_same (suc l) (m x xs) (ms xs) e in absurd (omega (arith, f, all))
      which (is_same e) (suc n) all rest = let f = count_same (suc l) (m x xs) (ms xs) e in L_same (suc l) n x xs e ∙ rest n (omega (arith, f, all)) ∙ sym (L_more l 0 x xs (omega (arith, e)))
      which (is_less g) n all rest = let e = count_less (suc l) (m x xs) (ms xs) g in L_less (suc l) n x xs g ∙ ap (λ (zs : List X). x ∷ zs) (rest n (omega (arith, e, all))) ∙ sym (light g)

  -- none is so heavy
  abbrev pub total : List ℕ → ℕ
  total [] = 0
  total (n ∷ ns) = n + total ns

  pub none_gone : (l : ℕ) (xs : List X) → total (ms xs) ≤ l → L l 0 xs ≡ xs
  none_gone l [] light = refl
  none_gone l (x ∷ xs) light = let sum : m x xs + total (ms xs) ≤ l = light in which sum (none_gone l xs (omega (arith, sum))) (compared l (m x xs))
    where
      which : m x xs + total (ms xs) ≤ l → L l 0 xs ≡ xs → Compared l (m x xs) → L l 0 (x ∷ xs) ≡ x ∷ xs
      which sum rest (is_more g) = absurd (omega (arith, g, sum))
      which sum rest (is_same e) = L_none l x xs e ∙ ap (λ (zs : List X). x ∷ zs) rest
      which sum rest (is_less g) = L_less l 0 x xs g ∙ ap (λ (zs : List X). x ∷ zs) rest
