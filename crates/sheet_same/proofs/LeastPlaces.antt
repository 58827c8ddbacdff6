-- Behind which member no later one stands before another one in one of two sheets alone.
use Rattle.std.proofs.Common.{◌≡◌, ℕ, zero, suc, ◌+◌, ◌-◌, ◌<◌, ◌≤◌, Bool, true, false, not, List, [], ◌∷◌, ◌++◌, length, map, take, drop, get_or, reverse, Option, Some, refl, sym, ap, ap₂, ◌∙◌, subst, inl, inr, arith}
use Rattle.std.specs.Bool.{beq}
use Rattle.std.specs.Prelude.{◌&&◌, ◌||◌, if◌then◌else◌, slice_get}
use Rattle.std.specs.List.{AllByRecursion, filter}
use Rattle.std.specs.List.Sorted.{IsPartitionedBy}
use Rattle.std.proofs.lemmas.Bool.{false≢true, and_from, and_parts}
use Rattle.std.proofs.lemmas.Bool.Decides.{nat_tests}
use Rattle.std.proofs.lemmas.List.{reverse-append, take_more, take_rest}
use Rattle.css_model.specs.Cascade.Winner.{Place, IsLater}
use Rattle.sheet_same.specs.declared.ends.Least.{Least}
use Rattle.sheet_same.specs.declared.standing.Spot.{Spot}
use Rattle.sheet_same.specs.Ends.{earlier_of, with_least, leasts_on, leasts, is_past}
use Rattle.sheet_same.specs.Standing.{Standing, is_later, spots_differ, are_turned, members_weigh, couples_with}
use Rattle.sheet_same.specs.Turned.{Couple, couple}
use Rattle.sheet_same.proofs.Spots.{spot_place, later_is, is_later_of}

-- ---- Places

not_later : (x y : Spot) → is_later x y ≡ false → (x.item ≤ y.item) × (x.item ≡ y.item → x.decl ≤ y.decl)
not_later x y h = (let e = h in grind (arith, nat_tests), λ same. let e = h in grind (arith, nat_tests))

later_chain : (p q r : Place) → IsLater p q → IsLater q r → IsLater p r
later_chain p q r (inl h) (inl g) = inl (omega (arith, h, g))
later_chain p q r (inl h) (inr g) = let e = g.0 in inl (omega (arith, h, e))
later_chain p q r (inr h) (inl g) = let e = h.0 in inl (omega (arith, e, g))
later_chain p q r (inr h) (inr g) = let d = h.1 in let e = g.1 in inr (h.0 ∙ g.0, omega (arith, d, e))

later_unless : (x y m : Spot) → is_later x y ≡ false → IsLater (spot_place x) (spot_place m) → IsLater (spot_place y) (spot_place m)
later_unless x y m h (inl g) = let up = (not_later x y h).0 in inl (omega (arith, up, g))
later_unless x y m h (inr g) = which (is_later y x) refl
  where
    which : (b : Bool) → is_later y x ≡ b → IsLater (spot_place y) (spot_place m)
    which true e = later_chain (spot_place y) (spot_place x) (spot_place m) (later_is y x e) (inr g)
    which false e =
        let up = not_later x y h in
        let down = not_later y x e in
        let a = up.0 in let b = down.0 in
        let same : x.item ≡ y.item = omega (arith, a, b) in
        let more = up.1 same in let d = g.1 in
        inr (sym same ∙ g.0, omega (arith, more, d))

-- where the earlier of two places is later than a third, both are
earlier_past : (x y m : Spot) → is_later (earlier_of x y) m ≡ true → (is_later x m ≡ true) × (is_later y m ≡ true)
earlier_past x y m h = which (is_later x y) refl h
  where
    which : (b : Bool) → is_later x y ≡ b → is_later (if b then y else x) m ≡ true → (is_later x m ≡ true) × (is_later y m ≡ true)
    which true e g = (is_later_of x m (later_chain (spot_place x) (spot_place y) (spot_place m) (later_is x y e) (later_is y m g)), g)
    which false e g = (g, is_later_of y m (later_unless x y m e (later_is x m g)))

-- ---- Members

record BothPast (x : Standing) (l : Least) (m : Standing) : Type 0 where
  here : is_later x.here m.here ≡ true
  there : is_later x.there m.there ≡ true
  behind : is_past l m ≡ true

both_past : (x : Standing) (l : Least) (m : Standing) → is_past (with_least x (Some l)) m ≡ true → BothPast x l m
both_past x l m h =
    let parts : (is_later (earlier_of x.here l.here) m.here ≡ true) × (is_later (earlier_of x.there l.there) m.there ≡ true) =
    and_parts (is_later (earlier_of x.here l.here) m.here) (is_later (earlier_of x.there l.there) m.there) h in
    let here : (is_later x.here m.here ≡ true) × (is_later l.here m.here ≡ true) = earlier_past x.here l.here m.here parts.0 in
    let there : (is_later x.there m.there ≡ true) × (is_later l.there m.there ≡ true) = earlier_past x.there l.there m.there parts.1 in
    record { here = here.0; there = there.0; behind = and_from (is_later l.here m.here) (is_later l.there m.there) here.1 there.1 }

not_back : (x y : Spot) → is_later x y ≡ true → is_later y x ≡ false
not_back x y h = which (is_later y x) refl
  where
    never : IsLater (spot_place x) (spot_place y) → IsLater (spot_place y) (spot_place x) → ⊥
    never (inl a) (inl b) = omega (arith, a, b)
    never (inl a) (inr b) = let e = b.0 in omega (arith, a, e)
    never (inr a) (inl b) = let e = a.0 in omega (arith, b, e)
    never (inr a) (inr b) = let d = a.1 in let e = b.1 in omega (arith, d, e)

    which : (b : Bool) → is_later y x ≡ b → is_later y x ≡ false
    which true e = absurd (never (later_is x y h) (later_is y x e))
    which false e = e

-- one that is later in both sheets
not_differ : (m x : Standing) → is_later x.here m.here ≡ true → is_later x.there m.there ≡ true → spots_differ m x ≡ false
not_differ m x here there =
    ap₂ (λ (a b : Bool). not (beq a b) || not (beq (is_later m.here x.here) (is_later m.there x.there))) here there
    ∙ ap₂ (λ (a b : Bool). not (beq a b)) (not_back x.here m.here here) (not_back x.there m.there there)

abbrev pub Behind : Standing → List Standing → Type 0
Behind m xs = AllByRecursion (λ x. spots_differ m x ≡ false) xs

abbrev FirstPast : List Least → Standing → Type 0
FirstPast [] m = Unit {0}
FirstPast (l ∷ ls) m = is_past l m ≡ true

past_all : (xs : List Standing) (m : Standing) → FirstPast (leasts xs) m → Behind m xs
past_all [] m h = tt
past_all (x ∷ []) m h =
    let parts : (is_later x.here m.here ≡ true) × (is_later x.there m.there ≡ true) = and_parts (is_later x.here m.here) (is_later x.there m.there) h in
    (not_differ m x parts.0 parts.1, tt)
past_all (x ∷ y ∷ xs) m h =
    let both : BothPast x (with_least y (slice_get (leasts xs) 0)) m = both_past x (with_least y (slice_get (leasts xs) 0)) m h in
    (not_differ m x both.here both.there, past_all (y ∷ xs) m both.behind)

-- ---- Lists of least places

pub leasts_last : (xs : List Standing) (x : Standing) (ls : List Least) → leasts_on (xs ++ x ∷ []) ls ≡ leasts_on xs (with_least x (slice_get ls 0) ∷ ls)
leasts_last [] x ls = refl
leasts_last (y ∷ xs) x ls = ap (λ (zs : List Least). with_least y (slice_get zs 0) ∷ zs) (leasts_last xs x ls)

-- the list that is made from its end on
leasts_pushed : (members : List Standing) (found : List Least) (k : ℕ) (x : Standing) (o : Option Least) → k < length members → x ≡ get_or members k x → o ≡ slice_get (reverse found) 0 →
    leasts_on (take (k + 1) members) (reverse found) ≡ leasts_on (take k members) (reverse (found ++ with_least x o ∷ []))
leasts_pushed members found k x o below at is =
    ap (λ (xs : List Standing). leasts_on xs (reverse found)) (take_more members k x below ∙ ap (λ (y : Standing). take k members ++ y ∷ []) (sym at))
    ∙ leasts_last (take k members) x (reverse found)
    ∙ ap (λ (p : Option Least). leasts_on (take k members) (with_least x p ∷ reverse found)) (sym is)
    ∙ ap (leasts_on (take k members)) (sym (reverse-append found (with_least x o ∷ [])))

first_pushed : (found : List Least) (l : Least) → Some l ≡ slice_get (reverse (found ++ l ∷ [])) 0
first_pushed found l = ap (λ (ls : List Least). slice_get ls 0) (sym (reverse-append found (l ∷ [])))

pub leasts_next : (members : List Standing) (found more : List Least) (k n : ℕ) (x : Standing) (o : Option Least) (l : Least) → n ≡ k + 1 → n ≤ length members → x ≡ get_or members k x → o ≡ slice_get (reverse found) 0 →
    l ≡ with_least x o → more ≡ found ++ l ∷ [] → leasts_on (take n members) (reverse found) ≡ leasts members → leasts_on (take k members) (reverse more) ≡ leasts members
leasts_next members found more k n x o l next within at first least pushed is =
    ap (λ (ls : List Least). leasts_on (take k members) (reverse ls)) (pushed ∙ ap (λ (y : Least). found ++ y ∷ []) least)
    ∙ sym (leasts_pushed members found k x o (omega (arith, next, within)) at first)
    ∙ ap (λ (m : ℕ). leasts_on (take m members) (reverse found)) (sym next)
    ∙ is

pub first_next : (found more : List Least) (l : Least) → more ≡ found ++ l ∷ [] → Some l ≡ slice_get (reverse more) 0
first_next found more l pushed = first_pushed found l ∙ ap (λ (ls : List Least). slice_get (reverse ls) 0) (sym pushed)

pub leasts_long : (xs : List Standing) → length (leasts xs) ≡ length xs
leasts_long [] = refl
leasts_long (x ∷ xs) = ap suc (leasts_long xs)

pub leasts_drop : (n : ℕ) (xs : List Standing) → drop n (leasts xs) ≡ leasts (drop n xs)
leasts_drop zero xs = refl
leasts_drop (suc n) [] = refl
leasts_drop (suc n) (x ∷ xs) = leasts_drop n xs

past_on : (xs : List Standing) (m : Standing) (i j : ℕ) (d : Least) → i ≤ j → j < length (leasts xs) → is_past (get_or (leasts xs) i d) m ≡ true → is_past (get_or (leasts xs) j d) m ≡ true
past_on [] m i j d le below h = absurd (omega (arith, below))
past_on (x ∷ xs) m zero zero d le below h = h
past_on (x ∷ xs) m (suc i) zero d le below h = absurd (omega (arith, le))
past_on (x ∷ xs) m (suc i) (suc j) d le below h = past_on xs m i j d (omega (arith, le)) (omega (arith, below)) h
past_on (x ∷ []) m zero (suc j) d le below h = absurd (omega (arith, below))
past_on (x ∷ y ∷ xs) m zero (suc j) d le below h =
    past_on (y ∷ xs) m zero j d (omega arith) (omega (arith, below)) (both_past x (with_least y (slice_get (leasts xs) 0)) m h).behind

-- those that are not past stand before those that are
parted : (xs : List Standing) (m : Standing) → IsPartitionedBy (λ l. not (is_past l m)) (leasts xs)
parted xs m i j d le below h = which (is_past (get_or (leasts xs) i d) m) refl
  where
    which : (b : Bool) → is_past (get_or (leasts xs) i d) m ≡ b → not b ≡ true
    which true e = absurd (false≢true (sym (ap not (past_on xs m i j d le below e)) ∙ h))
    which false e = refl

pub parted_as : (later : List Standing) (ls : List Least) (m : Standing) → ls ≡ leasts later → IsPartitionedBy (λ l. not (is_past l m)) ls
parted_as later ls m is = subst (λ (xs : List Least). IsPartitionedBy (λ l. not (is_past l m)) xs) (sym is) (parted later m)

pub end_within : (later : List Standing) (ls : List Least) (e : ℕ) → ls ≡ leasts later → e ≤ length ls → e ≤ length later
end_within later ls e is within = let long : length ls ≡ length later = ap (λ (xs : List Least). length xs) is ∙ leasts_long later in omega (arith, long, within)

-- where the least places from a member on are past another one, all members from it on are
end_found : (xs : List Standing) (m : Standing) (e : ℕ) → e ≤ length xs → ((d : Least) → e < length (leasts xs) → is_past (get_or (leasts xs) e d) m ≡ true) → Behind m (drop e xs)
end_found xs m e within past = past_all (drop e xs) m (subst (λ (ls : List Least). FirstPast ls m) (leasts_drop e xs) (first e (leasts xs) past))
  where
    first : (n : ℕ) (ls : List Least) → ((d : Least) → n < length ls → is_past (get_or ls n d) m ≡ true) → FirstPast (drop n ls) m
    first n [] h = nothing n
      where
        nothing : (k : ℕ) → FirstPast (drop k []) m
        nothing zero = tt
        nothing (suc k) = tt
    first zero (l ∷ ls) h = h l (omega arith)
    first (suc n) (l ∷ ls) h = first n ls (λ d below. h d (omega (arith, below)))

-- what a search by tests of least places finds
pub end_searched : (later : List Standing) (ls : List Least) (m : Standing) (e : ℕ) → ls ≡ leasts later → e ≤ length ls → ((k : ℕ) (d : Least) → e ≤ k → k < length ls → not (is_past (get_or ls k d) m) ≡ false) → Behind m (drop e later)
end_searched later ls m e is within past = end_found later m e (end_within later ls e is within) (λ d below. shown d (subst (λ (xs : List Least). e < length xs) (sym is) below))
  where
    truth : (b : Bool) → not b ≡ false → b ≡ true
    truth true h = refl
    truth false h = sym h

    shown : (d : Least) → e < length ls → is_past (get_or (leasts later) e d) m ≡ true
    shown d below = ap (λ (xs : List Least). is_past (get_or xs e d) m) (sym is) ∙ truth (is_past (get_or ls e d) m) (past e d (omega arith) below)

-- the least places of those that are left
pub leasts_left : (members : List Standing) (ls : List Least) (n : ℕ) → ls ≡ leasts members → take (length ls - n) (drop n ls) ≡ leasts (take (length members - n) (drop n members))
leasts_left members ls n is = take_rest ls n ∙ ap (drop n) is ∙ leasts_drop n members ∙ ap leasts (sym (take_rest members n))

-- ---- Couples

none_turned : (m : Standing) (xs : List Standing) → Behind m xs → couples_with m xs ≡ []
none_turned m [] h = refl
none_turned m (x ∷ xs) h =
    ap (λ (b : Bool). map (λ y. couple m.member y.member) (if b && members_weigh m.member x.member then x ∷ filter (are_turned m) xs else filter (are_turned m) xs)) h.0
    ∙ none_turned m xs h.1

pub couples_cut : (m : Standing) (e : ℕ) (xs : List Standing) → Behind m (drop e xs) → couples_with m (take e xs) ≡ couples_with m xs
couples_cut m zero xs h = sym (none_turned m xs h)
couples_cut m (suc e) [] h = refl
couples_cut m (suc e) (x ∷ xs) h = which (are_turned m x) (couples_cut m e xs h)
  where
    which : (b : Bool) → couples_with m (take e xs) ≡ couples_with m xs →
        map (λ y. couple m.member y.member) (if b then x ∷ filter (are_turned m) (take e xs) else filter (are_turned m) (take e xs))
        ≡ map (λ y. couple m.member y.member) (if b then x ∷ filter (are_turned m) xs else filter (are_turned m) xs)
    which true ih = ap (λ (cs : List Couple). couple m.member x.member ∷ cs) ih
    which false ih = ih
