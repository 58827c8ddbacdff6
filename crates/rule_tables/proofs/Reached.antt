-- Lists of order keys that ascend, taken together: what is ahead in them, and of which declarations they are.
use Rattle.std.proofs.Common.{◌≡◌, ◌≢◌, ◌⊎◌, ◌↔◌, inl, inr, ℕ, ◌+◌, ◌<◌, ◌≤◌, ◌==◌, Bool, true, false, cond, List, [], ◌∷◌, ◌++◌, length, map, get_or, take, drop, set, Option, Some, None, refl, sym, ap, subst, ◌∙◌, append_assoc, arith}
use Rattle.std.specs.Prelude.{◌||◌, IfNone, IfSome}
use Rattle.std.specs.List.{Contains}
use Rattle.std.specs.List.Sorted.{IsStrictlyIncreasing}
use Rattle.std.proofs.Math.Seq.{get_or-append_seam, set-append_seam}
use Rattle.std.proofs.lemmas.Bool.{cases_lt, false≢true}
use Rattle.std.proofs.lemmas.Bool.Decides.{Decides-eqb}
use Rattle.std.proofs.Math.ListN.{drop_of_length-le}
use Rattle.std.proofs.lemmas.List.{drop_more, get_or-map, length-map, length-take-le, map-append, take_more}
use Rattle.std.proofs.lemmas.List.Elements.{Contains-append_cases, Contains-append_left, Contains-append_right}
use Rattle.list_facts.proofs.Members.{Contains-cons_cases, Contains-here, Contains-nil, Contains-there}
use Rattle.order_laws.specs.Members.{has_number}
use Rattle.rule_tables.proofs.Ascending.{behind_above, behind_ascends, first_least}
use Rattle.rule_tables.proofs.EntrySets.{mapped, unmapped}
use Rattle.rule_tables.specs.Ahead.{AllAscend, AreAllAt, AreAllOfFirst, GoesWith, IsAhead, IsFirst, IsSooner, PutsList, Reached, Reaches, SaysTheSame, count_left, passed, starts_with, total_at, total_of_first, without}
use Rattle.rule_tables.specs.declared.ahead.Common.{Common}

-- ---- Whether a number is among others

pub has_is : (xs : List ℕ) (k : ℕ) → (has_number xs k ≡ true) ↔ Contains xs k
has_is [] k = (λ h. absurd (false≢true h), λ h. absurd (Contains-nil k h))
has_is (x ∷ xs) k = which (x == k) refl (has_is xs k)
  where
    which : (b : Bool) → (x == k) ≡ b → (has_number xs k ≡ true) ↔ Contains xs k → (has_number (x ∷ xs) k ≡ true) ↔ Contains (x ∷ xs) k
    which true e rest = (
      λ h. subst (Contains (x ∷ xs)) ((Decides-eqb x k).0 e) (Contains-here x xs),
      λ h. ap (λ (b : Bool). b || has_number xs k) e,
    )
    which false e rest = (
      λ h. Contains-there x xs k (rest.0 (sym (ap (λ (b : Bool). b || has_number xs k) e) ∙ h)),
      λ h. ap (λ (b : Bool). b || has_number xs k) e ∙ elim (Contains-cons_cases x xs k h) [ inl same ↦ absurd (false≢true (sym e ∙ (Decides-eqb x k).1 same)) | inr g ↦ rest.1 g ],
    )

bools_same : (a b : Bool) → (a ≡ true → b ≡ true) → (b ≡ true → a ≡ true) → a ≡ b
bools_same true true f g = refl
bools_same true false f g = sym (f refl)
bools_same false true f g = g refl
bools_same false false f g = refl

pub same_has : (xs ys : List ℕ) (k : ℕ) → (Contains xs k → Contains ys k) → (Contains ys k → Contains xs k) → has_number xs k ≡ has_number ys k
same_has xs ys k there back = bools_same (has_number xs k) (has_number ys k) (λ h. (has_is ys k).1 (there ((has_is xs k).0 h))) (λ h. (has_is xs k).1 (back ((has_is ys k).0 h)))

-- ---- A list that is put to others

pub total_pushed : (f : Common → ℕ) (lists : List Reached) (l : Reached) (k : ℕ) → total_at f (lists ++ l ∷ []) k ≡ total_at f lists k + cond (has_number l.order_keys k) (f l.common) 0
total_pushed f [] l k = let e : cond (has_number l.order_keys k) (f l.common) 0 + 0 ≡ 0 + cond (has_number l.order_keys k) (f l.common) 0 = omega arith in e
total_pushed f (y ∷ ys) l k =
    let rest : total_at f (ys ++ l ∷ []) k ≡ total_at f ys k + cond (has_number l.order_keys k) (f l.common) 0 = total_pushed f ys l k in
    let e : cond (has_number y.order_keys k) (f y.common) 0 + total_at f (ys ++ l ∷ []) k ≡ cond (has_number y.order_keys k) (f y.common) 0 + total_at f ys k + cond (has_number l.order_keys k) (f l.common) 0 = omega (arith, rest) in e

ahead_pushed : (lists : List Reached) (l : Reached) (k : ℕ) → IsAhead (lists ++ l ∷ []) k ↔ (IsAhead lists k ⊎ Contains l.order_keys k)
ahead_pushed lists l k = (λ h. there h.0 h.2 (Contains-append_cases lists (l ∷ []) h.0 h.1), back)
  where
    there : (m : Reached) → Contains m.order_keys k → Contains lists m ⊎ Contains (l ∷ []) m → IsAhead lists k ⊎ Contains l.order_keys k
    there m h (inl g) = inl (m, g, h)
    there m h (inr g) = elim (Contains-cons_cases l [] m g) [ inl e ↦ inr (subst (λ (x : Reached). Contains x.order_keys k) (sym e) h) | inr n ↦ absurd (Contains-nil m n) ]

    back : IsAhead lists k ⊎ Contains l.order_keys k → IsAhead (lists ++ l ∷ []) k
    back (inl h) = (h.0, Contains-append_left lists (l ∷ []) h.0 h.1, h.2)
    back (inr h) = (l, Contains-append_right lists (l ∷ []) l (Contains-here l []), h)

puts_pushed : (lists : List Reached) (l : Reached) → PutsList lists l (lists ++ l ∷ [])
puts_pushed lists l = record { ahead = ahead_pushed lists l; totals = λ f k. total_pushed f lists l k }

pub puts_one : (lists new : List Reached) (l : Reached) → new ≡ lists ++ l ∷ [] → PutsList lists l new
puts_one lists new l is = subst (PutsList lists l) (sym is) (puts_pushed lists l)

pub puts_none : (lists : List Reached) (l : Reached) → l.order_keys ≡ [] → PutsList lists l lists
puts_none lists l none = record { ahead = λ k. ((λ h. inl h), back k); totals = same }
  where
    back : (k : ℕ) → IsAhead lists k ⊎ Contains l.order_keys k → IsAhead lists k
    back k (inl h) = h
    back k (inr h) = absurd (Contains-nil k (subst (λ (xs : List ℕ). Contains xs k) none h))

    same : (f : Common → ℕ) (k : ℕ) → total_at f lists k ≡ total_at f lists k + cond (has_number l.order_keys k) (f l.common) 0
    same f k =
        let e : cond (has_number l.order_keys k) (f l.common) 0 ≡ 0 = ap (λ (xs : List ℕ). cond (has_number xs k) (f l.common) 0) none in
        let g : total_at f lists k ≡ total_at f lists k + cond (has_number l.order_keys k) (f l.common) 0 = omega (arith, e) in g

pub none_ascend : AllAscend []
none_ascend l h = absurd (Contains-nil l h)

pub pushed_ascend : (lists : List Reached) (l : Reached) → AllAscend lists → IsStrictlyIncreasing l.order_keys → AllAscend (lists ++ l ∷ [])
pushed_ascend lists l all one m h = elim (Contains-append_cases lists (l ∷ []) m h) [
  | inl g ↦ all m g
  | inr g ↦ elim (Contains-cons_cases l [] m g) [ inl e ↦ subst (λ (x : Reached). IsStrictlyIncreasing x.order_keys) e one | inr n ↦ absurd (Contains-nil m n) ]
]

-- a list after the first one
ahead_next : (rest behind : List Reached) (l : Reached) → rest ≡ l ∷ behind → (k : ℕ) → IsAhead rest k → Contains l.order_keys k ⊎ IsAhead behind k
ahead_next rest behind l is k (m, inside, h) = elim (Contains-cons_cases l behind m (subst (λ (ms : List Reached). Contains ms m) is inside)) [
  | inl e ↦ inl (subst (λ (x : Reached). Contains x.order_keys k) (sym e) h)
  | inr g ↦ inr (m, g, h)
]

ahead_here : (rest behind : List Reached) (l : Reached) → rest ≡ l ∷ behind → (k : ℕ) → Contains l.order_keys k → IsAhead rest k
ahead_here rest behind l is k h = (l, subst (λ (ms : List Reached). Contains ms l) (sym is) (Contains-here l behind), h)

ahead_there : (rest behind : List Reached) (l : Reached) → rest ≡ l ∷ behind → (k : ℕ) → IsAhead behind k → IsAhead rest k
ahead_there rest behind l is k (m, inside, h) = (m, subst (λ (ms : List Reached). Contains ms m) (sym is) (Contains-there l behind m inside), h)

none_ahead : (rest : List Reached) → rest ≡ [] → (k : ℕ) → IsAhead rest k → ⊥
none_ahead rest is k (m, inside, h) = Contains-nil m (subst (λ (ms : List Reached). Contains ms m) is inside)

pub one_ascends : (rest behind : List Reached) (l : Reached) → rest ≡ l ∷ behind → AllAscend rest → IsStrictlyIncreasing l.order_keys
one_ascends rest behind l is all = all l (subst (λ (ms : List Reached). Contains ms l) (sym is) (Contains-here l behind))

pub others_ascend : (rest behind : List Reached) (l : Reached) → rest ≡ l ∷ behind → AllAscend rest → AllAscend behind
others_ascend rest behind l is all m h = all m (subst (λ (ms : List Reached). Contains ms m) (sym is) (Contains-there l behind m h))

-- the lists from a number on
module _ {X : Type 0} (f : X → Reached) (xs : List X) (n : ℕ) where
  module _ (x : X) (within : n < length xs) (is : x ≡ get_or xs n x) where
    there_at : get_or (map f xs) n (f x) ≡ f x
    there_at = get_or-map f xs n x (f x) within ∙ ap f (sym is)

    within_all : n < length (map f xs)
    within_all = let long : length (map f xs) ≡ length xs = length-map xs f in omega (arith, within, long)

    pub left_at : drop n (map f xs) ≡ f x ∷ drop (n + 1) (map f xs)
    left_at = drop_more (map f xs) n (f x) within_all ∙ ap (λ (l : Reached). l ∷ drop (n + 1) (map f xs)) there_at

    pub ascends_at : AllAscend (map f xs) → IsStrictlyIncreasing (f x).order_keys
    ascends_at all = all (f x) (n, within_all, there_at)

    pub itself_at : f x ≡ get_or (map f xs) n (f x)
    itself_at = sym there_at

  pub none_left_at : length xs ≤ n → drop n (map f xs) ≡ []
  none_left_at past = drop_of_length-le (map f xs) (let long : length (map f xs) ≡ length xs = length-map xs f in omega (arith, past, long))

-- ---- The first order key

pub sooner_none : (best : Option ℕ) (xs : List ℕ) → xs ≡ [] → IsSooner best xs best
sooner_none best xs none = ((λ k e. inl e), there)
  where
    there : (j : ℕ) → (best ≡ Some j) ⊎ Contains xs j → (k : ℕ) × (best ≡ Some k) × (k ≤ j)
    there j (inl e) = (j, e, omega arith)
    there j (inr h) = absurd (Contains-nil j (subst (λ (ys : List ℕ). Contains ys j) none h))

some_is : (a b : ℕ) → Some a ≡ Some b → a ≡ b
some_is a b e = cc

-- of a list and another order key
module _ (xs behind : List ℕ) (first : ℕ) (is : xs ≡ first ∷ behind) (ascends : IsStrictlyIncreasing xs) where
  first_is_in : Contains xs first
  first_is_in = subst (λ (ys : List ℕ). Contains ys first) (sym is) (Contains-here first behind)

  pub sooner_first : IsSooner None xs (Some first)
  sooner_first = ((λ k e. inr (subst (Contains xs) (some_is first k e) first_is_in)), there)
    where
      there : (j : ℕ) → (None ≡ Some j) ⊎ Contains xs j → (k : ℕ) × (Some first ≡ Some k) × (k ≤ j)
      there j (inl e) = absurd (let f : None ≡ Some j = e in cc)
      there j (inr h) = (first, refl, first_least xs behind first is ascends j h)

  pub sooner_other : (other : ℕ) → other ≤ first → IsSooner (Some other) xs (Some other)
  sooner_other other less = ((λ k e. inl e), there)
    where
      there : (j : ℕ) → (Some other ≡ Some j) ⊎ Contains xs j → (k : ℕ) × (Some other ≡ Some k) × (k ≤ j)
      there j (inl e) = (j, e, omega arith)
      there j (inr h) = (other, refl, (let least = first_least xs behind first is ascends j h in omega (arith, least, less)))

  pub sooner_new : (other : ℕ) → first ≤ other → IsSooner (Some other) xs (Some first)
  sooner_new other less = ((λ k e. inr (subst (Contains xs) (some_is first k e) first_is_in)), there)
    where
      there : (j : ℕ) → (Some other ≡ Some j) ⊎ Contains xs j → (k : ℕ) × (Some first ≡ Some k) × (k ≤ j)
      there j (inl e) = (first, refl, (let same : other ≡ j = some_is other j e in omega (arith, same, less)))
      there j (inr h) = (first, refl, first_least xs behind first is ascends j h)

-- the first one of several lists and another one
abbrev pub IsBest : Option ℕ → List Reached → Option ℕ → Type 0
IsBest start lists final = ((k : ℕ) → final ≡ Some k → (start ≡ Some k) ⊎ IsAhead lists k)
    × ((j : ℕ) → (start ≡ Some j) ⊎ IsAhead lists j → (k : ℕ) × (final ≡ Some k) × (k ≤ j))

pub best_next : (start next : Option ℕ) (rest behind : List Reached) (l : Reached) → rest ≡ l ∷ behind → IsSooner start l.order_keys next → (final : Option ℕ) → IsBest next behind final → IsBest start rest final
best_next start next rest behind l is sooner final best = (from, below)
  where
    from : (k : ℕ) → final ≡ Some k → (start ≡ Some k) ⊎ IsAhead rest k
    from k e = elim (best.0 k e) [
      | inl f ↦ elim (sooner.0 k f) [ inl g ↦ inl g | inr h ↦ inr (ahead_here rest behind l is k h) ]
      | inr h ↦ inr (ahead_there rest behind l is k h)
    ]

    through : (j : ℕ) → (k : ℕ) × (next ≡ Some k) × (k ≤ j) → (k : ℕ) × (final ≡ Some k) × (k ≤ j)
    through j (i, e, less) = let w : (k : ℕ) × (final ≡ Some k) × (k ≤ i) = best.1 i (inl e) in (w.0, w.1, (let m = w.2 in omega (arith, m, less)))

    below : (j : ℕ) → (start ≡ Some j) ⊎ IsAhead rest j → (k : ℕ) × (final ≡ Some k) × (k ≤ j)
    below j (inl e) = through j (sooner.1 j (inl e))
    below j (inr h) = elim (ahead_next rest behind l is j h) [ inl g ↦ through j (sooner.1 j (inr g)) | inr g ↦ best.1 j (inr g) ]

pub best_end : (start : Option ℕ) (rest : List Reached) → rest ≡ [] → IsBest start rest start
best_end start rest is = ((λ k e. inl e), there)
  where
    there : (j : ℕ) → (start ≡ Some j) ⊎ IsAhead rest j → (k : ℕ) × (start ≡ Some k) × (k ≤ j)
    there j (inl e) = (j, e, omega arith)
    there j (inr h) = absurd (none_ahead rest is j h)

no_start : (lists : List Reached) (k : ℕ) → (None ≡ Some k) ⊎ IsAhead lists k → IsAhead lists k
no_start lists k (inl e) = absurd (let f : None ≡ Some k = e in cc)
no_start lists k (inr h) = h

best_is_first : (lists : List Reached) (final : Option ℕ) (k : ℕ) → IsBest None lists final → final ≡ Some k → IsFirst lists k
best_is_first lists final k best is = (
  no_start lists k (best.0 k is),
  λ j h. let w : (i : ℕ) × (final ≡ Some i) × (i ≤ j) = best.1 j (inr h) in let same : k ≡ w.0 = some_is k w.0 (sym is ∙ w.1) in let less = w.2 in omega (arith, same, less),
)

none_is_best : (lists : List Reached) (final : Option ℕ) → IsBest None lists final → final ≡ None → (k : ℕ) → IsAhead lists k → ⊥
none_is_best lists final best is k h = let w : (i : ℕ) × (final ≡ Some i) × (i ≤ k) = best.1 k (inr h) in let f : None ≡ Some w.0 = sym is ∙ w.1 in cc

pub best_some : (lists : List Reached) (final : Option ℕ) → IsBest None lists final → IfSome final (IsFirst lists)
best_some lists None best = tt
best_some lists (Some k) best = best_is_first lists (Some k) k best refl

pub best_none : (lists : List Reached) (final : Option ℕ) → IsBest None lists final → IfNone final ((k : ℕ) → IsAhead lists k → ⊥)
best_none lists None best = none_is_best lists None best refl
best_none lists (Some k) best = tt

-- ---- The declarations of the lists that begin with an order key

reaches_next : (final next s c t : ℕ) → Reaches next (s + c) → Reaches final (next + t) → Reaches final (s + (c + t))
reaches_next final next s c t one rest m small least = elim (cases_lt (s + c) m) [
  | inl less ↦ (let h : s + c ≤ next = one (s + c) (omega (arith, less, small)) (omega arith) in rest m small (omega (arith, h, least)))
  | inr most ↦ (let h : m ≤ next = one m small most in rest m small (omega (arith, h)))
]

pub goes_with : (start next : Common) (l : Reached) (k : ℕ) → starts_with l.order_keys k ≡ true → Reaches next.count (start.count + l.common.count) → Reaches next.weight (start.weight + l.common.weight) → GoesWith start l k next
goes_with start next l k e count weight behind final all =
    (part (λ c. c.count) start.count next.count final.count count all.0, part (λ c. c.weight) start.weight next.weight final.weight weight all.1)
  where
    part : (f : Common → ℕ) (s s' n : ℕ) → Reaches s' (s + f l.common) → Reaches n (s' + total_of_first f behind k) → Reaches n (s + total_of_first f (l ∷ behind) k)
    part f s s' n one all m small least =
        let g : cond (starts_with l.order_keys k) (f l.common) 0 ≡ f l.common = ap (λ (b : Bool). cond b (f l.common) 0) e in
        reaches_next n s' s (f l.common) (total_of_first f behind k) one all m small (omega (arith, least, g))

pub goes_without : (start : Common) (l : Reached) (k : ℕ) → starts_with l.order_keys k ≡ false → GoesWith start l k start
goes_without start l k e behind final all = (part (λ c. c.count) start.count final.count all.0, part (λ c. c.weight) start.weight final.weight all.1)
  where
    part : (f : Common → ℕ) (s n : ℕ) → Reaches n (s + total_of_first f behind k) → Reaches n (s + total_of_first f (l ∷ behind) k)
    part f s n all m small least =
        let g : cond (starts_with l.order_keys k) (f l.common) 0 ≡ 0 = ap (λ (b : Bool). cond b (f l.common) 0) e in
        all m small (omega (arith, least, g))

pub common_next : (k : ℕ) (rest behind : List Reached) (l : Reached) → rest ≡ l ∷ behind → (start next final : Common) → GoesWith start l k next → AreAllOfFirst next behind k final → AreAllOfFirst start rest k final
common_next k rest behind l is start next final goes all = subst (λ (ls : List Reached). AreAllOfFirst start ls k final) (sym is) (goes behind final all)

pub common_end : (k : ℕ) (rest : List Reached) → rest ≡ [] → (common : Common) → AreAllOfFirst common rest k common
common_end k rest is common = subst (λ (ls : List Reached). AreAllOfFirst common ls k common) (sym is) ((λ m small least. omega (arith, least)), (λ m small least. omega (arith, least)))

-- ---- An order key that is taken out

module _ (k n : ℕ) (all lists : List Reached) (l : Reached) (within : n < length all) (so_far : lists ≡ map (passed k) (take n all) ++ drop n all) (is : l ≡ get_or lists n l) where
  abbrev front : List Reached
  front = map (passed k) (take n all)

  abbrev one : Reached
  one = get_or all n l

  abbrev rest : List Reached
  rest = drop (n + 1) all

  split : lists ≡ front ++ one ∷ rest
  split = so_far ∙ ap (λ (ls : List Reached). map (passed k) (take n all) ++ ls) (drop_more all n l within)

  count : length front ≡ n
  count = length-map (take n all) (passed k) ∙ length-take-le n all (omega (arith, within))

  same : l ≡ one
  same = is ∙ ap (λ (ls : List Reached). get_or ls n l) split ∙ ap (λ (i : ℕ). get_or (front ++ one ∷ rest) i l) (sym count) ∙ get_or-append_seam front one rest l

  pub pass_next : set lists n (passed k l) ≡ map (passed k) (take (n + 1) all) ++ drop (n + 1) all
  pass_next =
      ap (λ (ls : List Reached). set ls n (passed k l)) split
      ∙ ap (λ (i : ℕ). set (front ++ one ∷ rest) i (passed k l)) (sym count)
      ∙ set-append_seam front one rest (passed k l)
      ∙ ap (λ (x : Reached). front ++ passed k x ∷ rest) same
      ∙ sym (append_assoc front (passed k one ∷ []) rest)
      ∙ ap (λ (ls : List Reached). ls ++ rest) (sym (map-append (passed k) (take n all) (one ∷ [])) ∙ ap (map (passed k)) (sym (take_more all n l within)))

-- a list without its first order key, if it is this one, which is at most the first
module _ (k : ℕ) where
  without_is : (xs : List ℕ) → IsStrictlyIncreasing xs → ((j : ℕ) → Contains xs j → k ≤ j) → (j : ℕ) → Contains (without k xs) j ↔ (Contains xs j × (j ≢ k))
  without_is [] ascends least j = ((λ h. absurd (Contains-nil j h)), (λ h. absurd (Contains-nil j h.0)))
  without_is (x ∷ xs) ascends least j = which (x == k) refl
    where
      which : (b : Bool) → (x == k) ≡ b → Contains (cond b xs (x ∷ xs)) j ↔ (Contains (x ∷ xs) j × (j ≢ k))
      which true e =
          let same : x ≡ k = (Decides-eqb x k).0 e in (
            (λ h. (Contains-there x xs j h, λ f. let less : x < j = behind_above (x ∷ xs) xs x refl ascends j h in let g : j ≡ k = f in omega (arith, less, same, g))),
            (λ h. elim (Contains-cons_cases x xs j h.0) [ inl f ↦ absurd (h.1 (sym f ∙ same)) | inr g ↦ g ]),
          )
      which false e = (
        (λ h. (h, λ f. other h f)),
        (λ h. h.0),
      )
        where
          other : Contains (x ∷ xs) j → j ≡ k → ⊥
          other h f =
              let a : k ≤ x = least x (Contains-here x xs) in
              let b : x ≤ j = first_least (x ∷ xs) xs x refl ascends j h in
              let same : x ≡ k = omega (arith, a, b, f) in
              false≢true (sym e ∙ (Decides-eqb x k).1 same)

  without_ascends : (xs : List ℕ) → IsStrictlyIncreasing xs → IsStrictlyIncreasing (without k xs)
  without_ascends [] ascends = ascends
  without_ascends (x ∷ xs) ascends = which (x == k)
    where
      which : (b : Bool) → IsStrictlyIncreasing (cond b xs (x ∷ xs))
      which true = behind_ascends (x ∷ xs) xs x refl ascends
      which false = ascends

  starts_is : (xs : List ℕ) → IsStrictlyIncreasing xs → ((j : ℕ) → Contains xs j → k ≤ j) → starts_with xs k ≡ has_number xs k
  starts_is [] ascends least = refl
  starts_is (x ∷ xs) ascends least = bools_same (x == k) (has_number (x ∷ xs) k) (λ e. ap (λ (b : Bool). b || has_number xs k) e) back
    where
      back : has_number (x ∷ xs) k ≡ true → (x == k) ≡ true
      back h =
          let there : Contains (x ∷ xs) k = (has_is (x ∷ xs) k).0 h in
          let a : k ≤ x = least x (Contains-here x xs) in
          let b : x ≤ k = first_least (x ∷ xs) xs x refl ascends k there in
          (Decides-eqb x k).1 (omega (arith, a, b))

  without_short : (xs : List ℕ) → length (without k xs) ≤ length xs
  without_short [] = omega arith
  without_short (x ∷ xs) = which (x == k)
    where
      which : (b : Bool) → length (cond b xs (x ∷ xs)) ≤ length (x ∷ xs)
      which true = omega arith
      which false = omega arith

  without_shorter : (xs : List ℕ) → starts_with xs k ≡ true → length (without k xs) < length xs
  without_shorter [] starts = absurd (false≢true starts)
  without_shorter (x ∷ xs) starts = which (x == k) starts
    where
      which : (b : Bool) → b ≡ true → length (cond b xs (x ∷ xs)) < length (x ∷ xs)
      which true e = omega arith
      which false e = absurd (false≢true e)

  none_longer : (lists : List Reached) → count_left (map (passed k) lists) ≤ count_left lists
  none_longer [] = omega arith
  none_longer (l ∷ lists) =
      let own : length (without k l.order_keys) ≤ length l.order_keys = without_short l.order_keys in
      let rest : count_left (map (passed k) lists) ≤ count_left lists = none_longer lists in
      let all : length (without k l.order_keys) + count_left (map (passed k) lists) ≤ length l.order_keys + count_left lists = omega (arith, own, rest) in all

  less_of : (m : Reached) (lists : List Reached) (l : Reached) → starts_with l.order_keys k ≡ true → (Contains lists l → count_left (map (passed k) lists) < count_left lists) → (m ≡ l) ⊎ Contains lists l →
      length (without k m.order_keys) + count_left (map (passed k) lists) < length m.order_keys + count_left lists
  less_of m lists l starts less (inl same) =
      let own : length (without k m.order_keys) < length m.order_keys = without_shorter m.order_keys (subst (λ (x : Reached). starts_with x.order_keys k ≡ true) (sym same) starts) in
      let rest : count_left (map (passed k) lists) ≤ count_left lists = none_longer lists in omega (arith, own, rest)
  less_of m lists l starts less (inr there) =
      let own : length (without k m.order_keys) ≤ length m.order_keys = without_short m.order_keys in
      let rest : count_left (map (passed k) lists) < count_left lists = less there in omega (arith, own, rest)

  one_less : (lists : List Reached) (l : Reached) → Contains lists l → starts_with l.order_keys k ≡ true → count_left (map (passed k) lists) < count_left lists
  one_less [] l inside starts = absurd (Contains-nil l inside)
  one_less (m ∷ lists) l inside starts = less_of m lists l starts (λ there. one_less lists l there starts) (Contains-cons_cases m lists l inside)

  module _ (Is : Reached → Type 0) (ascends : (l : Reached) → Is l → IsStrictlyIncreasing l.order_keys) (least : (l : Reached) → Is l → (j : ℕ) → Contains l.order_keys j → k ≤ j) where
    same_totals : (f : Common → ℕ) (lists : List Reached) → ((l : Reached) → Contains lists l → Is l) → (j : ℕ) → j ≢ k → total_at f (map (passed k) lists) j ≡ total_at f lists j
    same_totals f [] each j other = refl
    same_totals f (l ∷ lists) each j other =
        let l_is : Is l = each l (Contains-here l lists) in
        let w : Contains (without k l.order_keys) j ↔ (Contains l.order_keys j × (j ≢ k)) = without_is l.order_keys (ascends l l_is) (least l l_is) j in
        let e : has_number (without k l.order_keys) j ≡ has_number l.order_keys j = same_has (without k l.order_keys) l.order_keys j (λ h. (w.0 h).0) (λ h. w.1 (h, other)) in
        let g : cond (has_number (without k l.order_keys) j) (f l.common) 0 ≡ cond (has_number l.order_keys j) (f l.common) 0 = ap (λ (b : Bool). cond b (f l.common) 0) e in
        let rest : total_at f (map (passed k) lists) j ≡ total_at f lists j = same_totals f lists (λ m h. each m (Contains-there l lists m h)) j other in
        let all : cond (has_number (without k l.order_keys) j) (f l.common) 0 + total_at f (map (passed k) lists) j ≡ cond (has_number l.order_keys j) (f l.common) 0 + total_at f lists j = omega (arith, g, rest) in all

    totals_of_first : (f : Common → ℕ) (lists : List Reached) → ((l : Reached) → Contains lists l → Is l) → total_of_first f lists k ≡ total_at f lists k
    totals_of_first f [] each = refl
    totals_of_first f (l ∷ lists) each =
        let l_is : Is l = each l (Contains-here l lists) in
        let g : cond (starts_with l.order_keys k) (f l.common) 0 ≡ cond (has_number l.order_keys k) (f l.common) 0 = ap (λ (b : Bool). cond b (f l.common) 0) (starts_is l.order_keys (ascends l l_is) (least l l_is)) in
        let rest : total_of_first f lists k ≡ total_at f lists k = totals_of_first f lists (λ m h. each m (Contains-there l lists m h)) in
        let all : cond (starts_with l.order_keys k) (f l.common) 0 + total_of_first f lists k ≡ cond (has_number l.order_keys k) (f l.common) 0 + total_at f lists k = omega (arith, g, rest) in all

  -- the first order key of lists that ascend
  module _ (lists : List Reached) (ascend : AllAscend lists) (first : IsFirst lists k) where
    abbrev IsOne : Reached → Type 0
    IsOne l = Contains lists l

    one_least : (l : Reached) → Contains lists l → (j : ℕ) → Contains l.order_keys j → k ≤ j
    one_least l inside j h = first.1 j (l, inside, h)

    pub passed_ascend : (new : List Reached) → new ≡ map (passed k) lists → AllAscend new
    passed_ascend new is m h =
        let w : (l : Reached) × Contains lists l × (passed k l ≡ m) = unmapped (passed k) lists m (subst (λ (ms : List Reached). Contains ms m) is h) in
        subst (λ (x : Reached). IsStrictlyIncreasing x.order_keys) w.2 (without_ascends w.0.order_keys (ascend w.0 w.1))

    pub passed_ahead : (new : List Reached) → new ≡ map (passed k) lists → (j : ℕ) → IsAhead new j ↔ (IsAhead lists j × (j ≢ k))
    passed_ahead new is j = (there, back)
      where
        there : IsAhead new j → IsAhead lists j × (j ≢ k)
        there (m, inside, h) =
            let w : (l : Reached) × Contains lists l × (passed k l ≡ m) = unmapped (passed k) lists m (subst (λ (ms : List Reached). Contains ms m) is inside) in
            let v : Contains w.0.order_keys j × (j ≢ k) = (without_is w.0.order_keys (ascend w.0 w.1) (one_least w.0 w.1) j).0 (subst (λ (x : Reached). Contains x.order_keys j) (sym w.2) h) in
            ((w.0, w.1, v.0), v.1)

        back : IsAhead lists j × (j ≢ k) → IsAhead new j
        back ((l, inside, h), other) = (
          passed k l,
          subst (λ (ms : List Reached). Contains ms (passed k l)) (sym is) (mapped (passed k) lists l inside),
          (without_is l.order_keys (ascend l inside) (one_least l inside) j).1 (h, other),
        )

    pub passed_less : (new : List Reached) → new ≡ map (passed k) lists → count_left new < count_left lists
    passed_less new is = subst (λ (ls : List Reached). count_left ls < count_left lists) (sym is)
        (one_less lists first.0.0 first.0.1 (starts_is first.0.0.order_keys (ascend first.0.0 first.0.1) (one_least first.0.0 first.0.1) ∙ (has_is first.0.0.order_keys k).1 first.0.2))

    pub passed_same : (new : List Reached) → new ≡ map (passed k) lists → SaysTheSame (λ j. j ≢ k) lists new
    passed_same new is f j other = ap (λ (ls : List Reached). total_at f ls j) is ∙ same_totals IsOne ascend one_least f lists (λ l h. h) j other

    pub all_of_first : (common start : Common) → start ≡ record { count = 0; weight = 0 } → AreAllOfFirst start lists k common → AreAllAt lists k common
    all_of_first common start none all = (
      λ m small least. all.0 m small (let e : total_of_first (λ c. c.count) lists k ≡ total_at (λ c. c.count) lists k = totals_of_first IsOne ascend one_least (λ c. c.count) lists (λ l h. h) in
          let z : start.count ≡ 0 = ap (λ (c : Common). c.count) none in omega (arith, least, e, z)),
      λ m small least. all.1 m small (let e : total_of_first (λ c. c.weight) lists k ≡ total_at (λ c. c.weight) lists k = totals_of_first IsOne ascend one_least (λ c. c.weight) lists (λ l h. h) in
          let z : start.weight ≡ 0 = ap (λ (c : Common). c.weight) none in omega (arith, least, e, z)),
    )

-- ---- Some of the order keys of lists

-- what is put to a start goes on to a final state: the order keys of this kind of the lists
pub record GoesOn (Of : ℕ → Type 0) (lists start final : List Reached) : Type 0 where
  pub ahead : (k : ℕ) → IsAhead final k ↔ (IsAhead start k ⊎ (IsAhead lists k × Of k))
  pub totals : (f : Common → ℕ) (k : ℕ) → Of k → total_at f final k ≡ total_at f start k + total_at f lists k

pub goes_next : (Of : ℕ → Type 0) (rest behind : List Reached) (l more : Reached) (start next final : List Reached) → rest ≡ l ∷ behind → more.common ≡ l.common →
    ((k : ℕ) → Contains more.order_keys k ↔ (Contains l.order_keys k × Of k)) → PutsList start more next → GoesOn Of behind next final → GoesOn Of rest start final
goes_next Of rest behind l more start next final is common some puts goes = record { ahead = λ k. (there k, back k); totals = totals }
  where
    there : (k : ℕ) → IsAhead final k → IsAhead start k ⊎ (IsAhead rest k × Of k)
    there k h = elim ((goes.ahead k).0 h) [
      | inl g ↦ elim ((puts.ahead k).0 g) [ inl m ↦ inl m | inr m ↦ (let w : Contains l.order_keys k × Of k = (some k).0 m in inr (ahead_here rest behind l is k w.0, w.1)) ]
      | inr g ↦ inr (ahead_there rest behind l is k g.0, g.1)
    ]

    from_rest : (k : ℕ) → Of k → Contains l.order_keys k ⊎ IsAhead behind k → IsAhead final k
    from_rest k of (inl g) = (goes.ahead k).1 (inl ((puts.ahead k).1 (inr ((some k).1 (g, of)))))
    from_rest k of (inr g) = (goes.ahead k).1 (inr (g, of))

    back : (k : ℕ) → IsAhead start k ⊎ (IsAhead rest k × Of k) → IsAhead final k
    back k (inl h) = (goes.ahead k).1 (inl ((puts.ahead k).1 (inl h)))
    back k (inr h) = from_rest k h.1 (ahead_next rest behind l is k h.0)

    totals : (f : Common → ℕ) (k : ℕ) → Of k → total_at f final k ≡ total_at f start k + total_at f rest k
    totals f k of =
        let e : total_at f final k ≡ total_at f next k + total_at f behind k = goes.totals f k of in
        let p : total_at f next k ≡ total_at f start k + cond (has_number more.order_keys k) (f more.common) 0 = puts.totals f k in
        let has : has_number more.order_keys k ≡ has_number l.order_keys k = same_has more.order_keys l.order_keys k (λ h. ((some k).0 h).0) (λ h. (some k).1 (h, of)) in
        let c : cond (has_number more.order_keys k) (f more.common) 0 ≡ cond (has_number l.order_keys k) (f l.common) 0 =
        ap (λ (b : Bool). cond b (f more.common) 0) has ∙ ap (λ (x : Common). cond (has_number l.order_keys k) (f x) 0) common in
        let r : total_at f rest k ≡ cond (has_number l.order_keys k) (f l.common) 0 + total_at f behind k = ap (λ (ls : List Reached). total_at f ls k) is in
        omega (arith, e, p, c, r)

pub goes_end : (Of : ℕ → Type 0) (rest start : List Reached) → rest ≡ [] → GoesOn Of rest start start
goes_end Of rest start is = record { ahead = λ k. ((λ h. inl h), back k); totals = λ f k of. (let e : total_at f rest k ≡ 0 = ap (λ (ls : List Reached). total_at f ls k) is in omega (arith, e)) }
  where
    back : (k : ℕ) → IsAhead start k ⊎ (IsAhead rest k × Of k) → IsAhead start k
    back k (inl h) = h
    back k (inr h) = absurd (none_ahead rest is k h.0)

module _ (Of : ℕ → Type 0) (lists start final : List Reached) (none : start ≡ []) (goes : GoesOn Of lists start final) where
  pub gone_ahead : (k : ℕ) → IsAhead final k ↔ (IsAhead lists k × Of k)
  gone_ahead k = ((λ h. there ((goes.ahead k).0 h)), λ h. (goes.ahead k).1 (inr h))
    where
      there : IsAhead start k ⊎ (IsAhead lists k × Of k) → IsAhead lists k × Of k
      there (inl h) = absurd (none_ahead start none k h)
      there (inr h) = h

  pub gone_same : SaysTheSame Of lists final
  gone_same f k of =
      let e : total_at f final k ≡ total_at f start k + total_at f lists k = goes.totals f k of in
      let z : total_at f start k ≡ 0 = ap (λ (ls : List Reached). total_at f ls k) none in
      omega (arith, e, z)

-- ---- Whether there is no other order key

pub others_next : (rest behind : List Reached) (l : Reached) (own : ℕ) → rest ≡ l ∷ behind → ((k : ℕ) → Contains l.order_keys k → k ≡ own) → (k : ℕ) → IsAhead rest k → (k ≡ own) ⊎ IsAhead behind k
others_next rest behind l own is only k h = elim (ahead_next rest behind l is k h) [ inl g ↦ inl (only k g) | inr g ↦ inr g ]

pub others_end : (rest : List Reached) (own k : ℕ) → rest ≡ [] → (k ≡ own) ⊎ IsAhead rest k → k ≡ own
others_end left own k is (inl e) = e
others_end left own k is (inr h) = absurd (none_ahead left is k h)
