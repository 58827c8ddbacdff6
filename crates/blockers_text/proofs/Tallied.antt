-- The tallies of items with one more step.
use Rattle.std.proofs.Common.{◌≡◌, ℕ, ◌+◌, ◌<◌, Bool, true, false, ◌||◌, cond, List, [], ◌∷◌, ◌++◌, map, length, get_or, set, replicate, Option, None, refl, sym, ap, subst, ◌∙◌, arith, append-nil, length-append, get_or-set_other, get_or-set_same, eq-eqb}
use Rattle.std.specs.Prelude.{◌==◌}
use Rattle.std.specs.List.{filter, sum_by}
use Rattle.std.proofs.lemmas.Bool.{eqb-true, false≢true}
use Rattle.std.proofs.lemmas.List.{ext_get_or, get_or-replicate, length-replicate, length-set}
use Rattle.std.proofs.lemmas.List.Elements.{filter-append}
use Rattle.std.proofs.lemmas.List.FromFn.{get_or-map-range_with_len, length-map-range_with_len}
use Rattle.std.proofs.lemmas.List.Sums.{sum_by-append, sum_by-cons}
use Rattle.blockers_text.proofs.Finding.{named_push}
use Rattle.blockers_text.specs.declared.stopped.Best.{Best}
use Rattle.blockers_text.specs.declared.tally.Tally.{Tally}
use Rattle.blockers_text.specs.declared.totals.Weighed.{Weighed}
use Rattle.blockers_text.specs.Levels.{CountsSteps}
use Rattle.blockers_text.specs.Stopping.{has_item, item_of, stopping, stopping_after, stops, with_entry}
use Rattle.blockers_text.specs.Tallies.{Stopped, best_after, best_by, better, counted, counted_at, counted_each, is_alone, is_stopped, no_tally, stopped_by, stopped_of, tallies_of, tally_of}
use Rattle.css_model.specs.declared.sheet.Item.{Item}
use Rattle.sheet_order.specs.declared.places.Reversed.{Reversed}
use Rattle.step_laws.specs.declared.step.Step.{Step}
use Rattle.step_laws.specs.Free.{Answered}

-- ---- Entries that name different items

abbrev pub AreDifferent : List Reversed → Type 0
AreDifferent [] = Unit {0}
AreDifferent (r ∷ rs) = (has_item rs (item_of r) ≡ false) × AreDifferent rs

eqb_turned : (a b : ℕ) → (a == b) ≡ false → (b == a) ≡ false
eqb_turned a b h = which (b == a) refl
  where
    which : (c : Bool) → (b == a) ≡ c → c ≡ false
    which true e = absurd (false≢true (sym h ∙ eq-eqb a b (sym (eqb-true b a e))))
    which false e = refl

different_push : (rs : List Reversed) (r : Reversed) → AreDifferent rs → has_item rs (item_of r) ≡ false → AreDifferent (rs ++ r ∷ [])
different_push [] r all new = (refl, tt)
different_push (s ∷ rs) r all new =
    let parts = or_false_parts (item_of s == item_of r) (has_item rs (item_of r)) new in
    (named_push rs r (item_of s) ∙ both (has_item rs (item_of s)) (item_of r == item_of s) all.0 (eqb_turned (item_of s) (item_of r) parts.0), different_push rs r all.1 parts.1)
  where
    or_false_parts : (a b : Bool) → (a || b) ≡ false → (a ≡ false) × (b ≡ false)
    or_false_parts true b h = absurd (false≢true (sym h))
    or_false_parts false b h = (refl, h)

    both : (a b : Bool) → a ≡ false → b ≡ false → (a || (b || false)) ≡ false
    both a b x y = ap (λ (z : Bool). z || (b || false)) x ∙ ap (λ (z : Bool). z || false) y

different_with : (answers : List Answered) (items : List Item) (found : List Reversed) (r : Reversed) → AreDifferent found → AreDifferent (with_entry answers items found r)
different_with answers items found r all = which (has_item found (item_of r)) (stops answers items r) refl
  where
    which : (named stop : Bool) → has_item found (item_of r) ≡ named → AreDifferent (cond named found (cond stop (found ++ r ∷ []) found))
    which true stop e = all
    which false true e = different_push found r all e
    which false false e = all

different_after : (answers : List Answered) (items : List Item) (entries found : List Reversed) → AreDifferent found → AreDifferent (stopping_after answers items found entries)
different_after answers items [] found all = all
different_after answers items (r ∷ entries) found all = different_after answers items entries (with_entry answers items found r) (different_with answers items found r all)

pub stopping_different : (answers : List Answered) (items : List Item) (entries : List Reversed) → AreDifferent (stopping answers items entries)
stopping_different answers items entries = different_after answers items entries [] tt

-- ---- A step is counted once for each item

pub length_each : (ts : List Tally) (rs : List Reversed) (s : Stopped) → length (counted_each ts rs s) ≡ length ts
length_each ts [] s = refl
length_each ts (r ∷ rs) s = length_each (counted_at ts (item_of r) s) rs s ∙ length-set ts (item_of r) (counted (get_or ts (item_of r) no_tally) s)

abbrev WithStep : Bool → Tally → Stopped → Tally
WithStep named t s = cond named (counted t s) t

each_at : (ts : List Tally) (rs : List Reversed) (s : Stopped) (n : ℕ) → AreDifferent rs → n < length ts → get_or (counted_each ts rs s) n no_tally ≡ WithStep (has_item rs n) (get_or ts n no_tally) s
each_at ts [] s n all inside = refl
each_at ts (r ∷ rs) s n all inside =
    each_at (counted_at ts (item_of r) s) rs s n all.1 (subst (λ (m : ℕ). n < m) (sym (length-set ts (item_of r) (counted (get_or ts (item_of r) no_tally) s))) inside) ∙ which (item_of r == n) refl
  where
    which : (b : Bool) → (item_of r == n) ≡ b → WithStep (has_item rs n) (get_or (counted_at ts (item_of r) s) n no_tally) s ≡ WithStep (item_of r == n || has_item rs n) (get_or ts n no_tally) s
    which true e =
        let same : item_of r ≡ n = eqb-true (item_of r) n e in
        let none : has_item rs n ≡ false = subst (λ (m : ℕ). has_item rs m ≡ false) same all.0 in
        let here : get_or (counted_at ts (item_of r) s) n no_tally ≡ counted (get_or ts n no_tally) s =
        subst (λ (m : ℕ). get_or (set ts m (counted (get_or ts m no_tally) s)) n no_tally ≡ counted (get_or ts n no_tally) s) (sym same) (get_or-set_same ts n (counted (get_or ts n no_tally) s) no_tally inside) in
        ap (λ (b : Bool). WithStep b (get_or (counted_at ts (item_of r) s) n no_tally) s) none ∙ here ∙ ap (λ (b : Bool). WithStep (b || has_item rs n) (get_or ts n no_tally) s) (sym e)
    which false e =
        let other : get_or (counted_at ts (item_of r) s) n no_tally ≡ get_or ts n no_tally =
        get_or-set_other ts (item_of r) n (counted (get_or ts (item_of r) no_tally) s) no_tally (λ same. false≢true (sym e ∙ eq-eqb (item_of r) n (sym same))) in
        ap (λ (t : Tally). WithStep (has_item rs n) t s) other ∙ ap (λ (b : Bool). WithStep (b || has_item rs n) (get_or ts n no_tally) s) (sym e)

-- ---- The tally of one step more

best_push : (best : Option Best) (xs : List Stopped) (s : Stopped) → best_after best (xs ++ s ∷ []) ≡ better (best_after best xs) (best_by s.step s.saved s.by)
best_push best [] s = refl
best_push best (x ∷ xs) s = best_push (better best (best_by x.step x.saved x.by)) xs s

-- the tally of these steps, of which those count by themselves
abbrev tally_by : List Stopped → List Stopped → Tally
tally_by xs alone = record { steps = length xs; bytes = sum_by (λ s. s.saved) xs; alone = length alone; alone_bytes = sum_by (λ s. s.saved) alone; best = best_after None alone }

same_parts : (a b c d a' b' c' d' : ℕ) (x x' : Option Best) → a ≡ a' → b ≡ b' → c ≡ c' → d ≡ d' → x ≡ x' →
    (let t : Tally = record { steps = a; bytes = b; alone = c; alone_bytes = d; best = x } in t) ≡ record { steps = a'; bytes = b'; alone = c'; alone_bytes = d'; best = x' }
same_parts a b c d a' b' c' d' x x' p q r s t = cc

length_push : (xs : List Stopped) (s : Stopped) → length (xs ++ s ∷ []) ≡ length xs + 1
length_push xs s = length-append xs (s ∷ [])

sum_push : (xs : List Stopped) (s : Stopped) → sum_by (λ x. x.saved) (xs ++ s ∷ []) ≡ sum_by (λ x. x.saved) xs + s.saved
sum_push xs s =
    let both : sum_by (λ x. x.saved) (xs ++ s ∷ []) ≡ sum_by (λ x. x.saved) xs + sum_by (λ x. x.saved) (s ∷ []) = sum_by-append (λ x. x.saved) xs (s ∷ []) in
    let one : sum_by (λ x. x.saved) (s ∷ []) ≡ s.saved + 0 = sum_by-cons (λ x. x.saved) s [] in
    omega (arith, both, one)

tally_named : (xs : List Stopped) (s : Stopped) → tally_by (xs ++ s ∷ []) (filter is_alone (xs ++ s ∷ [])) ≡ counted (tally_by xs (filter is_alone xs)) s
tally_named xs s = ap (tally_by (xs ++ s ∷ [])) (filter-append is_alone xs (s ∷ [])) ∙ which (is_alone s)
  where
    which : (b : Bool) → tally_by (xs ++ s ∷ []) (filter is_alone xs ++ cond b (s ∷ []) [])
        ≡ record {
          steps = length xs + 1;
          bytes = sum_by (λ x. x.saved) xs + s.saved;
          alone = cond b (length (filter is_alone xs) + 1) (length (filter is_alone xs));
          alone_bytes = cond b (sum_by (λ x. x.saved) (filter is_alone xs) + s.saved) (sum_by (λ x. x.saved) (filter is_alone xs));
          best = cond b (better (best_after None (filter is_alone xs)) (best_by s.step s.saved s.by)) (best_after None (filter is_alone xs));
        }
    which true = same_parts _ _ _ _ _ _ _ _ _ _ (length_push xs s) (sum_push xs s) (length_push (filter is_alone xs) s) (sum_push (filter is_alone xs) s) (best_push None (filter is_alone xs) s)
    which false =
        let none : filter is_alone xs ++ [] ≡ filter is_alone xs = append-nil (filter is_alone xs) in
        same_parts _ _ _ _ _ _ _ _ _ _ (length_push xs s) (sum_push xs s) (ap length none) (ap (sum_by (λ x. x.saved)) none) (ap (best_after None) none)

tally_more : (xs : List Stopped) (s : Stopped) (b : Bool) → tally_by (xs ++ cond b (s ∷ []) []) (filter is_alone (xs ++ cond b (s ∷ []) [])) ≡ WithStep b (tally_by xs (filter is_alone xs)) s
tally_more xs s true = tally_named xs s
tally_more xs s false = ap (λ (ys : List Stopped). tally_by ys (filter is_alone ys)) (append-nil xs)

tally_push : (all : List Stopped) (s : Stopped) (n : ℕ) → tally_of (all ++ s ∷ []) n ≡ WithStep (has_item s.by n) (tally_of all n) s
tally_push all s n = ap (λ (ys : List Stopped). tally_by ys (filter is_alone ys)) (filter-append (is_stopped n) all (s ∷ [])) ∙ tally_more (stopped_by n all) s (has_item s.by n)

-- ---- The tallies of all items

tallies_length : (all : List Stopped) (count : ℕ) → length (tallies_of all count) ≡ count
tallies_length all count = length-map-range_with_len (tally_of all) 0 count

-- there is one for each item
pub counted_length : (answers : List Answered) (source : List ℕ) (items : List Item) (ks : List Step) (steps more : List Weighed) (tallies : List Tally) → CountsSteps answers source items ks steps more tallies → length tallies ≡ length items
counted_length answers source items ks steps more tallies counts = ap length counts.tallies_are ∙ tallies_length (map (stopped_of answers source items) ks) (length items)

pub tally_at : (all : List Stopped) (count n : ℕ) → n < count → get_or (tallies_of all count) n no_tally ≡ tally_of all n
tally_at all count n inside = get_or-map-range_with_len (tally_of all) 0 count n n no_tally inside (omega arith)

pub tallies_push : (all : List Stopped) (s : Stopped) (count : ℕ) → AreDifferent s.by → counted_each (tallies_of all count) s.by s ≡ tallies_of (all ++ s ∷ []) count
tallies_push all s count different =
    ext_get_or no_tally (counted_each (tallies_of all count) s.by s) (tallies_of (all ++ s ∷ []) count) (long ∙ sym (tallies_length (all ++ s ∷ []) count))
    (λ n inside.
    let within : n < count = omega (arith, long) in
    each_at (tallies_of all count) s.by s n different (omega (arith, tallies_length all count))
    ∙ ap (λ (t : Tally). WithStep (has_item s.by n) t s) (tally_at all count n within)
    ∙ sym (tally_push all s n) ∙ sym (tally_at (all ++ s ∷ []) count n within))
  where
    long : length (counted_each (tallies_of all count) s.by s) ≡ count
    long = length_each (tallies_of all count) s.by s ∙ tallies_length all count

pub no_tallies : (count : ℕ) → replicate count no_tally ≡ tallies_of [] count
no_tallies count = ext_get_or no_tally (replicate count no_tally) (tallies_of [] count) (length-replicate count no_tally ∙ sym (tallies_length [] count))
    (λ n inside. let within : n < count = omega (arith, length-replicate count no_tally) in get_or-replicate count n no_tally no_tally within ∙ sym (tally_at [] count n within))
