-- How great tallies and totals become.
use Rattle.std.proofs.Common.{◌≡◌, ℕ, zero, suc, ◌+◌, ◌*◌, ◌^◌, ◌<◌, ◌≤◌, Bool, true, false, cond, List, [], ◌∷◌, ◌++◌, map, length, get_or, set, take, Option, sym, ap, ◌∙◌, arith, append-nil, length-append}
use Rattle.std.specs.List.{AllByRecursion, filter, range_with_len, sum_by}
use Rattle.std.proofs.lemmas.List.{take_more}
use Rattle.std.proofs.lemmas.List.Elements.{filter-append}
use Rattle.std.proofs.lemmas.List.Sums.{sum_by-append, sum_by-cons}
use Rattle.blockers_text.specs.Bounds.{AreBelow, IsBelow}
use Rattle.blockers_text.specs.declared.stopped.Part.{Part}
use Rattle.blockers_text.specs.declared.tally.Tally.{Tally}
use Rattle.blockers_text.specs.declared.totals.Count.{Count}
use Rattle.blockers_text.specs.declared.totals.Weighed.{Weighed}
use Rattle.blockers_text.specs.Tallies.{Stopped, alone_by, count_of, counted, counted_at, counts, is_alone, is_stopped, no_tally, stopped_by, tallies_of, tally_of, total, with_step}

-- ---- Tallies

none_below : (n : ℕ) → IsBelow n no_tally
none_below n = record { steps = omega arith; bytes = omega arith; alone = omega arith; alone_bytes = omega arith }

below_more : (m n : ℕ) (t : Tally) → m ≤ n → IsBelow m t → IsBelow n t
below_more m n t more b =
    let steps = b.steps in
    let bytes = b.bytes in
    let alone = b.alone in
    let alone_bytes = b.alone_bytes in
    record { steps = omega (arith, steps, more); bytes = omega (arith, bytes, more); alone = omega (arith, alone, more); alone_bytes = omega (arith, alone_bytes, more) }

pub all_below_more : (m n : ℕ) (ts : List Tally) → m ≤ n → AreBelow m ts → AreBelow n ts
all_below_more m n [] more all = tt
all_below_more m n (t ∷ ts) more all = (below_more m n t more all.0, all_below_more m n ts more all.1)

pub below_at : (n : ℕ) (ts : List Tally) (i : ℕ) → AreBelow n ts → IsBelow n (get_or ts i no_tally)
below_at n [] i all = none_below n
below_at n (t ∷ ts) zero all = all.0
below_at n (t ∷ ts) (suc i) all = below_at n ts i all.1

below_set : (n : ℕ) (ts : List Tally) (i : ℕ) (t : Tally) → AreBelow n ts → IsBelow n t → AreBelow n (set ts i t)
below_set n [] i t all one = tt
below_set n (u ∷ ts) zero t all one = (one, all.1)
below_set n (u ∷ ts) (suc i) t all one = (all.0, below_set n ts i t all.1 one)

counted_below : (n : ℕ) (t : Tally) (s : Stopped) → s.saved < 2 ^ 32 → IsBelow n t → IsBelow (n + 1) (counted t s)
counted_below n t s small b =
    let steps = b.steps in
    let bytes = b.bytes in
    record {
      steps = omega (arith, steps);
      bytes = omega (arith, bytes, small);
      alone = number (is_alone s);
      alone_bytes = amount (is_alone s);
    }
  where
    number : (c : Bool) → cond c (t.alone + 1) t.alone ≤ n + 1
    number true = let alone = b.alone in omega (arith, alone)
    number false = let alone = b.alone in omega (arith, alone)

    amount : (c : Bool) → cond c (t.alone_bytes + s.saved) t.alone_bytes ≤ (n + 1) * 2 ^ 32
    amount true = let alone = b.alone_bytes in omega (arith, alone, small)
    amount false = let alone = b.alone_bytes in omega (arith, alone)

pub at_below : (n : ℕ) (ts : List Tally) (i : ℕ) (s : Stopped) → s.saved < 2 ^ 32 → AreBelow n ts → AreBelow (n + 1) (counted_at ts i s)
at_below n ts i s small all =
    below_set (n + 1) ts i (counted (get_or ts i no_tally) s) (all_below_more n (n + 1) ts (omega arith) all) (counted_below n (get_or ts i no_tally) s small (below_at n ts i all))

-- ---- Tallies of steps that save little

few : {X : Type 0} (p : X → Bool) (xs : List X) → length (filter p xs) ≤ length xs
few p [] = omega arith
few {X = X} p (x ∷ xs) = which (p x) (few p xs)
  where
    which : (b : Bool) → length (filter p xs) ≤ length xs → length (cond b (x ∷ filter p xs) (filter p xs)) ≤ suc (length xs)
    which true h = omega (arith, h)
    which false h = omega (arith, h)

-- each saves less than this
abbrev pub SaveLittle : List Stopped → Type 0
SaveLittle xs = AllByRecursion (λ s. s.saved < 2 ^ 32) xs

filter_little : (p : Stopped → Bool) (xs : List Stopped) → SaveLittle xs → SaveLittle (filter p xs)
filter_little p [] all = tt
filter_little p (x ∷ xs) all = which (p x) (filter_little p xs all.1)
  where
    which : (b : Bool) → SaveLittle (filter p xs) → SaveLittle (cond b (x ∷ filter p xs) (filter p xs))
    which true rest = (all.0, rest)
    which false rest = rest

sum_little : (xs : List Stopped) → SaveLittle xs → sum_by (λ s. s.saved) xs ≤ length xs * 2 ^ 32
sum_little [] all = omega arith
sum_little (x ∷ xs) all =
    let one : x.saved < 2 ^ 32 = all.0 in
    let rest : sum_by (λ s. s.saved) xs ≤ length xs * 2 ^ 32 = sum_little xs all.1 in
    let sum : sum_by (λ s. s.saved) (x ∷ xs) ≡ x.saved + sum_by (λ s. s.saved) xs = sum_by-cons (λ s. s.saved) x xs in
    omega (arith, one, rest, sum)

tally_below : (all : List Stopped) (n : ℕ) → SaveLittle all → IsBelow (length all) (tally_of all n)
tally_below all n little =
    let some : length (stopped_by n all) ≤ length all = few (is_stopped n) all in
    let alone : length (alone_by n all) ≤ length (stopped_by n all) = few is_alone (stopped_by n all) in
    let bytes : sum_by (λ s. s.saved) (stopped_by n all) ≤ length (stopped_by n all) * 2 ^ 32 = sum_little (stopped_by n all) (filter_little (is_stopped n) all little) in
    let alone_bytes : sum_by (λ s. s.saved) (alone_by n all) ≤ length (alone_by n all) * 2 ^ 32 = sum_little (alone_by n all) (filter_little is_alone (stopped_by n all) (filter_little (is_stopped n) all little)) in
    record {
      steps = some;
      bytes = omega (arith, some, bytes);
      alone = omega (arith, some, alone);
      alone_bytes = omega (arith, some, alone, alone_bytes);
    }

map_below : (all : List Stopped) (ns : List ℕ) → SaveLittle all → AreBelow (length all) (map (tally_of all) ns)
map_below all [] little = tt
map_below all (n ∷ ns) little = (tally_below all n little, map_below all ns little)

pub tallies_below : (all : List Stopped) (count : ℕ) → SaveLittle all → AreBelow (length all) (tallies_of all count)
tallies_below all count little = map_below all (range_with_len 0 count) little

-- ---- Totals

same_count : (a b m n : ℕ) → a ≡ m → b ≡ n → (let c : Count = record { steps = a; bytes = b } in c) ≡ record { steps = m; bytes = n }
same_count a b m n p q = cc

-- the total of one step more
total_push : (of : Option Part) (ws : List Weighed) (w : Weighed) → total of (ws ++ w ∷ []) ≡ with_step of (total of ws) w
total_push of ws w = ap count_of (filter-append (counts of) ws (w ∷ [])) ∙ which (counts of w)
  where
    which : (b : Bool) → count_of (filter (counts of) ws ++ cond b (w ∷ []) [])
        ≡ cond b (record { steps = length (filter (counts of) ws) + 1; bytes = sum_by (λ x. x.saved) (filter (counts of) ws) + w.saved }) (count_of (filter (counts of) ws))
    which true =
        let both : sum_by (λ x. x.saved) (filter (counts of) ws ++ w ∷ []) ≡ sum_by (λ x. x.saved) (filter (counts of) ws) + sum_by (λ x. x.saved) (w ∷ []) = sum_by-append (λ x. x.saved) (filter (counts of) ws) (w ∷ []) in
        let one : sum_by (λ x. x.saved) (w ∷ []) ≡ w.saved + 0 = sum_by-cons (λ x. x.saved) w [] in
        same_count _ _ _ _ (length-append (filter (counts of) ws) (w ∷ [])) (omega (arith, both, one))
    which false = ap count_of (append-nil (filter (counts of) ws))

pub total_more : (of : Option Part) (ws : List Weighed) (i : ℕ) (d : Weighed) (old new : Count) → i < length ws → old ≡ total of (take i ws) → new ≡ with_step of old (get_or ws i d) → new ≡ total of (take (i + 1) ws)
total_more of ws i d old new inside before one =
    one ∙ ap (λ (c : Count). with_step of c (get_or ws i d)) before ∙ sym (total_push of (take i ws) (get_or ws i d)) ∙ ap (total of) (sym (take_more ws i d inside))
