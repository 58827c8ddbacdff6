-- Lists of order keys that are left out.
use Rattle.std.proofs.Common.{◌≡◌, ◌⊎◌, inl, inr, ℕ, ◌+◌, ◌<◌, ◌≤◌, Bool, true, false, cond, List, [], ◌∷◌, ◌++◌, length, get_or, take, drop, set, refl, sym, ap, subst, ◌∙◌, arith}
use Rattle.std.specs.List.{Contains}
use Rattle.std.specs.List.Sorted.{IsStrictlyIncreasing}
use Rattle.std.proofs.Math.Seq.{get_or-append_seam, set-append_seam}
use Rattle.std.proofs.lemmas.List.{drop_more, length-take-le, take-append-drop}
use Rattle.std.proofs.lemmas.List.Elements.{Contains-append_cases, Contains-append_left, Contains-append_right}
use Rattle.list_facts.proofs.Members.{Contains-cons_cases, Contains-here, Contains-nil, Contains-there}
use Rattle.order_laws.specs.Members.{has_number}
use Rattle.rule_tables.proofs.Reached.{has_is}
use Rattle.rule_tables.specs.Ahead.{AllAscend, IsAhead, LeavesOut, Reached, count_left, total_at}
use Rattle.rule_tables.specs.declared.ahead.Common.{Common}

-- ---- An order key is ahead, or nothing is said of it

is_ahead_or_none : (lists : List Reached) (k : ℕ) → IsAhead lists k ⊎ ((total_at (λ c. c.count) lists k ≡ 0) × (total_at (λ c. c.weight) lists k ≡ 0))
is_ahead_or_none [] k = inr (refl, refl)
is_ahead_or_none (y ∷ ys) k = which (has_number y.order_keys k) refl (is_ahead_or_none ys k)
  where
    which : (b : Bool) → has_number y.order_keys k ≡ b → IsAhead ys k ⊎ ((total_at (λ c. c.count) ys k ≡ 0) × (total_at (λ c. c.weight) ys k ≡ 0)) →
        IsAhead (y ∷ ys) k ⊎ ((total_at (λ c. c.count) (y ∷ ys) k ≡ 0) × (total_at (λ c. c.weight) (y ∷ ys) k ≡ 0))
    which true e rest = inl (y, Contains-here y ys, (has_is y.order_keys k).0 e)
    which false e (inl (m, inside, h)) = inl (m, Contains-there y ys m inside, h)
    which false e (inr (count, weight)) = inr (
      (let own : cond (has_number y.order_keys k) y.common.count 0 ≡ 0 = ap (λ (b : Bool). cond b y.common.count 0) e in omega (arith, own, count)),
      (let own : cond (has_number y.order_keys k) y.common.weight 0 ≡ 0 = ap (λ (b : Bool). cond b y.common.weight 0) e in omega (arith, own, weight)),
    )

-- ---- One list

cond_most : (b : Bool) (n : ℕ) → cond b n 0 ≤ n
cond_most true n = omega arith
cond_most false n = omega arith

module _ (rest : List Reached) (l e : Reached) (none : e.order_keys ≡ []) where
  total_left : (f : Common → ℕ) (front : List Reached) (k : ℕ) → total_at f (front ++ l ∷ rest) k ≤ total_at f (front ++ e ∷ rest) k + f l.common
  total_left f [] k =
      let own : cond (has_number l.order_keys k) (f l.common) 0 ≤ f l.common = cond_most (has_number l.order_keys k) (f l.common) in
      let all : cond (has_number l.order_keys k) (f l.common) 0 + total_at f rest k ≤ cond (has_number e.order_keys k) (f e.common) 0 + total_at f rest k + f l.common = omega (arith, own) in all
  total_left f (y ∷ ys) k =
      let behind : total_at f (ys ++ l ∷ rest) k ≤ total_at f (ys ++ e ∷ rest) k + f l.common = total_left f ys k in
      let all : cond (has_number y.order_keys k) (f y.common) 0 + total_at f (ys ++ l ∷ rest) k ≤ cond (has_number y.order_keys k) (f y.common) 0 + total_at f (ys ++ e ∷ rest) k + f l.common = omega (arith, behind) in all

  fewer_left : (front : List Reached) → 0 < length l.order_keys → count_left (front ++ e ∷ rest) < count_left (front ++ l ∷ rest)
  fewer_left [] some = let z : length e.order_keys ≡ 0 = ap length none in let all : length e.order_keys + count_left rest < length l.order_keys + count_left rest = omega (arith, some, z) in all
  fewer_left (y ∷ ys) some =
      let behind : count_left (ys ++ e ∷ rest) < count_left (ys ++ l ∷ rest) = fewer_left ys some in
      let all : length y.order_keys + count_left (ys ++ e ∷ rest) < length y.order_keys + count_left (ys ++ l ∷ rest) = omega (arith, behind) in all

  none_in : (k : ℕ) → Contains e.order_keys k → ⊥
  none_in k h = Contains-nil k (subst (λ (ks : List ℕ). Contains ks k) none h)

  -- a list is the one that is left out, or was there before
  was_there : (front : List Reached) (m : Reached) → Contains (front ++ e ∷ rest) m → (m ≡ e) ⊎ Contains (front ++ l ∷ rest) m
  was_there front m h = elim (Contains-append_cases front (e ∷ rest) m h) [
    | inl g ↦ inr (Contains-append_left front (l ∷ rest) m g)
    | inr g ↦ elim (Contains-cons_cases e rest m g) [
      | inl same ↦ inl (sym same)
      | inr there ↦ inr (Contains-append_right front (l ∷ rest) m (Contains-there l rest m there))
    ]
  ]

  ahead_before : (front : List Reached) (k : ℕ) → IsAhead (front ++ e ∷ rest) k → IsAhead (front ++ l ∷ rest) k
  ahead_before front k (m, inside, h) = elim (was_there front m inside) [
    | inl same ↦ absurd (none_in k (subst (λ (x : Reached). Contains x.order_keys k) same h))
    | inr there ↦ (m, there, h)
  ]

  ascend_still : (front : List Reached) → IsStrictlyIncreasing e.order_keys → AllAscend (front ++ l ∷ rest) → AllAscend (front ++ e ∷ rest)
  ascend_still front one all m inside = elim (was_there front m inside) [
    | inl same ↦ subst (λ (x : Reached). IsStrictlyIncreasing x.order_keys) (sym same) one
    | inr there ↦ all m there
  ]

  leaves_split : (front : List Reached) (left now : Common) → IsStrictlyIncreasing e.order_keys → now.count ≡ left.count + l.common.count → now.weight ≡ left.weight + l.common.weight →
      LeavesOut (front ++ l ∷ rest) left (front ++ e ∷ rest) now
  leaves_split front left now one count weight = record {
    ahead = ahead_before front;
    stays = is_ahead_or_none (front ++ e ∷ rest);
    count = λ k. let most = total_left (λ c. c.count) front k in omega (arith, most, count);
    weight = λ k. let most = total_left (λ c. c.weight) front k in omega (arith, most, weight);
    ascend = ascend_still front one;
  }

module _ (lists : List Reached) (n : ℕ) (l e : Reached) (within : n < length lists) (is : l ≡ get_or lists n l) (none : e.order_keys ≡ []) where
  abbrev front : List Reached
  front = take n lists

  abbrev rest : List Reached
  rest = drop (n + 1) lists

  abbrev one : Reached
  one = get_or lists n l

  split : lists ≡ front ++ one ∷ rest
  split = sym (take-append-drop n lists) ∙ ap (λ (ls : List Reached). front ++ ls) (drop_more lists n l within)

  count : length front ≡ n
  count = length-take-le n lists (omega (arith, within))

  whole : lists ≡ front ++ l ∷ rest
  whole = split ∙ ap (λ (x : Reached). front ++ x ∷ rest) (sym is)

  emptied : set lists n e ≡ front ++ e ∷ rest
  emptied = ap (λ (ls : List Reached). set ls n e) split ∙ ap (λ (i : ℕ). set (front ++ one ∷ rest) i e) (sym count) ∙ set-append_seam front one rest e

  pub leaves_one : (left now : Common) → IsStrictlyIncreasing e.order_keys → now.count ≡ left.count + l.common.count → now.weight ≡ left.weight + l.common.weight → LeavesOut lists left (set lists n e) now
  leaves_one left now ascends more heavier =
      subst (λ (ls : List Reached). LeavesOut ls left (set lists n e) now) (sym whole)
      (subst (λ (ls : List Reached). LeavesOut (front ++ l ∷ rest) left ls now) (sym emptied) (leaves_split rest l e none front left now ascends more heavier))

  pub fewer_one : 0 < length l.order_keys → count_left (set lists n e) < count_left lists
  fewer_one some =
      subst (λ (ls : List Reached). count_left (set lists n e) < count_left ls) (sym whole)
      (subst (λ (ls : List Reached). count_left ls < count_left (front ++ l ∷ rest)) (sym emptied) (fewer_left rest l e none front some))

-- ---- Several lists

pub leaves_itself : (lists : List Reached) (left : Common) → LeavesOut lists left lists left
leaves_itself lists left = record {
  ahead = λ k h. h;
  stays = is_ahead_or_none lists;
  count = λ k. omega arith;
  weight = λ k. omega arith;
  ascend = λ all. all;
}

pub leaves_both : (old next new : List Reached) (left more now : Common) → LeavesOut old left next more → LeavesOut next more new now → LeavesOut old left new now
leaves_both old next new left more now one other = record {
  ahead = λ k h. one.ahead k (other.ahead k h);
  stays = other.stays;
  count = λ k. let a = one.count k in let b = other.count k in omega (arith, a, b);
  weight = λ k. let a = one.weight k in let b = other.weight k in omega (arith, a, b);
  ascend = λ all. other.ascend (one.ascend all);
}
