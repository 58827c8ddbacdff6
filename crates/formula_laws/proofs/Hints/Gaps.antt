-- Hints on the distance of two elements.
use Rattle.std.proofs.Common.{Bool, IsTrue, List, Option, [], ap, arith, false, length, map, refl, suc, sym, true, zero, ℕ, ◌%◌, ◌&&◌, ◌*◌, ◌++◌, ◌+◌, ◌-◌, ◌/◌, ◌<◌, ◌^◌, ◌||◌, ◌∙◌, ◌∷◌, ◌≡◌, ◌≤◌}
use Rattle.std.proofs.Math.Nat.{add-mul-mod_self_right, div-add-mod, le_of_dvd, mod-add-mod, mod-lt, mod-mod_of_dvd, pow-suc}
use Rattle.std.proofs.lemmas.Bool.{and_from, and_parts, leb-true}
use Rattle.std.proofs.lemmas.List.{length-map}
use Rattle.std.specs.List.{list_all}
use Rattle.std.specs.Option.{unwrap_or}
use Rattle.std.specs.Prelude.{None, Some, nat_le}
use Rattle.cnf.proofs.ForCallers.{Extends-trans, adder-facts, adder-grows, are_below-mono, are_below-negations, division-facts, division-grows, is_below-mono, kept-hold, list_all-append-from, remainder_of}
use Rattle.cnf.specs.Cnf.{Cnf, is_in_range}
use Rattle.cnf.specs.Gates.{Extends}
use Rattle.cnf.specs.Lits.{are_below, is_below, negation}
use Rattle.cnf.specs.Numbers.{with_division}
use Rattle.cnf.specs.Sums.{bit, number, option_below, with_adder}
use Rattle.cnf.specs.Values.{all_hold, holds, value}
use Rattle.cnf.specs.declared.lit.Lit.{Lit}
use Rattle.formula_laws.proofs.Hints.Hint.{Hint, IsStable, gate_hint, no_hint, when_hint}
use Rattle.formula_laws.proofs.Hints.Joints.{IsGiven}
use Rattle.formula_laws.proofs.Hints.Rests.{rest_below, rest_holds}
use Rattle.formula_laws.proofs.Items.MoreItems.{implied_back, implied_below}
use Rattle.formula_laws.proofs.Numbers.Counted.{HasDigits}
use Rattle.formula_laws.proofs.Numbers.Related.{digits_back, digits_below, number_negations}
use Rattle.formula_laws.specs.Distances.{First, are_related, gap_rest, given_clauses, top_digit, with_distance, with_gap, with_gap_of, with_related}
use Rattle.formula_laws.specs.Hints.{rest_digits}
use Rattle.formula_laws.specs.Path.{only_if}
use Rattle.formula_laws.specs.Relations.{same_digits}
use Rattle.formula_laws.specs.declared.count.Count.{Count}
use Rattle.formula_laws.specs.declared.count.Count.TheVariants.{Before, Behind}
use Rattle.remainders.proofs.ForCallers.{common_divides}
use Rattle.remainders.specs.Divisors.{common_divisor}
use Rattle.remainders.specs.Remainders.{most_joint}

-- what is left of the distance
gap_left : (v b s all big small step : ℕ) → 0 < step → v + s ≡ b + all → b % step ≡ big % step → s % step ≡ small % step → v % step ≡ (big + (step - small % step) + all) % step
gap_left v b s all big small step some far eb es =
    let d = div-add-mod s step in
    let l = mod-lt s some in
    let l' : small % step < step = mod-lt small some in
    let turns : (s / step + 1) * step ≡ step * (s / step) + step = omega arith in
    let whole : v + (s / step + 1) * step ≡ b + ((step - small % step) + all) = omega arith in
    sym (add-mul-mod_self_right v (s / step + 1) step) ∙ ap (λ (k : ℕ). k % step) whole ∙ sym (mod-add-mod b step ((step - small % step) + all))
    ∙ ap (λ (k : ℕ). (k + ((step - small % step) + all)) % step) eb ∙ mod-add-mod big step ((step - small % step) + all)
    ∙ ap (λ (k : ℕ). k % step) (let e : big + ((step - small % step) + all) ≡ big + (step - small % step) + all = omega arith in e)

bit_small : (b : Bool) → bit b ≤ 1
bit_small true = omega arith
bit_small false = omega arith

top_holds : (vs : List Bool) (ls : List Lit) (n : ℕ) → length ls ≡ suc n → 2 ^ n ≤ number vs ls → IsTrue (all_hold vs (top_digit ls))
top_holds vs [] n e great = refl
top_holds vs (l ∷ []) zero e great = and_from (holds vs (l ∷ [])) true (by (value vs l) great) refl
  where
    by : (b : Bool) → 2 ^ 0 ≤ bit b + 2 * 0 → IsTrue (b || false)
    by true h = refl
    by false h = absurd (let one : 2 ^ 0 ≡ 1 = refl in omega arith)
top_holds vs (l ∷ []) (suc n) e great = absurd (omega arith)
top_holds vs (l ∷ m ∷ ls) zero e great = absurd (omega arith)
top_holds vs (l ∷ m ∷ ls) (suc n) e great =
    let p = pow-suc 2 n in
    let b = bit_small (value vs l) in
    top_holds vs (m ∷ ls) n (omega arith) (half (bit (value vs l)) (number vs (m ∷ ls)) (2 ^ n) (2 ^ suc n) b p great)
  where
    half : (b r n n' : ℕ) → b ≤ 1 → n' ≡ n * 2 → n' ≤ b + 2 * r → n ≤ r
    half b r n n' hb e h = omega arith

top_below : (v : ℕ) (ls : List Lit) → IsTrue (are_below v ls) → IsTrue (list_all (are_below v) (top_digit ls))
top_below v [] h = refl
top_below v (l ∷ []) h = and_from (are_below v (l ∷ [])) true h refl
top_below v (l ∷ m ∷ ls) h = top_below v (m ∷ ls) (and_parts (is_below v l) (are_below v (m ∷ ls)) h).1

given_hold : (vs : List Bool) (given : Option Lit) (cs : List (List Lit)) → (IsGiven given vs → IsTrue (all_hold vs cs)) → IsTrue (all_hold vs (given_clauses given cs))
given_hold vs None cs h = h tt
given_hold vs (Some l) cs h = implied_back vs l cs h

given_in_range : (v : ℕ) (given : Option Lit) (cs : List (List Lit)) → IsTrue (option_below v given) → IsTrue (list_all (are_below v) cs) → IsTrue (list_all (are_below v) (given_clauses given cs))
given_in_range v None cs hg hc = hc
given_in_range v (Some l) cs hg hc = implied_below v l cs hg hc

given_mono : (v w : ℕ) → v ≤ w → (given : Option Lit) → IsTrue (option_below v given) → IsTrue (option_below w given)
given_mono v w low None h = refl
given_mono v w low (Some l) h = is_below-mono v w low l h

-- two sums, and what the second one leaves
abbrev pub gapped : First → First → ℕ → Cnf → Cnf × (List Lit × List Lit × List Lit)
gapped big small step f =
    let u = with_adder f big.own (map negation small.own) in
    let v = with_adder u.0 small.other (map negation big.other) in
    let d = with_division v.0 v.1 step in
    (d.formula, (u.1, v.1, d.remainder))

-- both numbers of a first compound have w digits
abbrev pub FirstDigits : ℕ → ℕ → First → Type 0
FirstDigits base w first = HasDigits base w first.own × HasDigits base w first.other

record GapFacts (f : Cnf) (w : ℕ) (big small : First) (step : ℕ) (r : Cnf × (List Lit × List Lit × List Lit)) : Type 0 where
  extends : Extends f r.0
  one_in : IsTrue (are_below r.0.vars r.1.0)
  other_in : IsTrue (are_below r.0.vars r.1.1)
  rest_in : IsTrue (are_below r.0.vars r.1.2)
  one_digits : length r.1.0 ≡ suc w
  other_digits : length r.1.1 ≡ suc w
  one : (vs : List Bool) → IsTrue (all_hold vs r.0.clauses) → number vs r.1.0 ≡ number vs big.own + number vs (map negation small.own)
  other : (vs : List Bool) → IsTrue (all_hold vs r.0.clauses) → number vs r.1.1 ≡ number vs small.other + number vs (map negation big.other)
  rest : (vs : List Bool) → IsTrue (all_hold vs r.0.clauses) → number vs r.1.2 ≡ number vs r.1.1 % step

gap-facts : (f : Cnf) (w : ℕ) (big small : First) (step : ℕ) → IsTrue (is_in_range f) → FirstDigits f.vars w big → FirstDigits f.vars w small → 0 < step → step ≤ most_joint → GapFacts f w big small step (gapped big small step f)
gap-facts f w big small step r hb hs some few =
    let u = with_adder f big.own (map negation small.own) in
    let a = adder-facts f big.own (map negation small.own) r hb.0.0 (are_below-negations f.vars small.own hs.0.0) in
    let v = with_adder u.0 small.other (map negation big.other) in
    let b = adder-facts u.0 small.other (map negation big.other) a.extends.in_range (are_below-mono f.vars u.0.vars a.extends.more_vars small.other hs.1.0)
    (are_below-negations u.0.vars big.other (are_below-mono f.vars u.0.vars a.extends.more_vars big.other hb.1.0)) in
    let d = with_division v.0 v.1 step in
    let c = division-facts v.0 v.1 step b.extends.in_range b.below some (omega arith) in
    record {
      extends = Extends-trans f u.0 d.formula a.extends (Extends-trans u.0 v.0 d.formula b.extends c.extends);
      one_in = are_below-mono v.0.vars d.formula.vars c.extends.more_vars u.1 (are_below-mono u.0.vars v.0.vars b.extends.more_vars u.1 a.below);
      other_in = are_below-mono v.0.vars d.formula.vars c.extends.more_vars v.1 b.below;
      rest_in = c.remainder_below;
      one_digits = let x = a.digits in let y = length-map small.own negation in let z = hb.0.1 in let z' = hs.0.1 in omega arith;
      other_digits = let x = b.digits in let y = length-map big.other negation in let z = hs.1.1 in let z' = hb.1.1 in omega arith;
      one = λ vs h. a.means vs (kept-hold u.0 v.0 vs b.extends (kept-hold v.0 d.formula vs c.extends h));
      other = λ vs h. b.means vs (kept-hold v.0 d.formula vs c.extends h);
      rest = λ vs h. let m = c.means vs h in remainder_of (number vs v.1) (number vs d.quotient) (number vs d.remainder) step m.0 m.1;
    }

-- what is known of two elements of a row: the sums of their numbers are the same, and where their order is known one has more of its own kind
abbrev pub GapSays : Bool → First → First → List Bool → Type 0
GapSays ordered big small vs = (number vs big.own + number vs big.other ≡ number vs small.own + number vs small.other) × (ordered ≡ true → number vs small.own < number vs big.own)

-- the same sum by either kind of numbers
same_gap : (b o s t flipped flipped' all : ℕ) → suc (s + flipped) ≡ all → suc (o + flipped') ≡ all → b + o ≡ s + t → b + flipped ≡ t + flipped'
same_gap b o s t flipped flipped' all es eo far = omega arith

gap_hint : (base w : ℕ) (given : Option Lit) (ordered : Bool) (step big_rest small_rest : ℕ) (big small : First) (P : List Bool → Type 0) → IsStable base P → IsTrue (option_below base given) → FirstDigits base w big → FirstDigits base w small →
    0 < step → step ≤ most_joint → ((vs : List Bool) → P vs → (number vs big.own % step ≡ big_rest % step) × (number vs small.own % step ≡ small_rest % step)) → ((vs : List Bool) → P vs → IsGiven given vs → GapSays ordered big small vs) →
    Hint base (with_gap given ordered step (gap_rest step big_rest small_rest (length small.own)) big small) P
gap_hint base w given ordered step big_rest small_rest big small P stable hg hb hs some few rests says =
    gate_hint base (gapped big small step) (λ r. given_clauses given (clauses r)) P stable
    (λ f low i. (facts f low i).extends)
    (λ f.
    let u = with_adder f big.own (map negation small.own) in
    let gu = adder-grows f big.own (map negation small.own) in
    let v = with_adder u.0 small.other (map negation big.other) in
    let gv = adder-grows u.0 small.other (map negation big.other) in
    let gd = division-grows v.0 v.1 step in
    omega arith)
    (λ f low i.
    let a = facts f low i in
    let r = gapped big small step f in
    let more = a.extends.more_vars in
    given_in_range r.0.vars given (clauses r.1) (given_mono base r.0.vars (omega arith) given hg)
    (list_all-append-from (are_below r.0.vars) (same_digits r.1.0 r.1.1) (rest_digits r.1.2 rest ++ only_if ordered (top_digit r.1.0 ++ top_digit r.1.1)) (digits_below r.0.vars r.1.0 r.1.1 a.one_in a.other_in)
    (list_all-append-from (are_below r.0.vars) (rest_digits r.1.2 rest) (only_if ordered (top_digit r.1.0 ++ top_digit r.1.1)) (rest_below r.0.vars r.1.2 (Some rest) a.rest_in)
    (passes ordered (are_below r.0.vars) (top_digit r.1.0 ++ top_digit r.1.1) (λ _. list_all-append-from (are_below r.0.vars) (top_digit r.1.0) (top_digit r.1.1) (top_below r.0.vars r.1.0 a.one_in) (top_below r.0.vars r.1.1 a.other_in))))))
    (λ f vs low i gate p. given_hold vs given (clauses (gapped big small step f).1) (λ is. hold f vs (facts f low i) gate (rests vs p) (says vs p is)))
  where
    rest : ℕ
    rest = gap_rest step big_rest small_rest (length small.own)

    clauses : (List Lit × List Lit × List Lit) → List (List Lit)
    clauses r = same_digits r.0 r.1 ++ (rest_digits r.2 rest ++ only_if ordered (top_digit r.0 ++ top_digit r.1))

    up : (f : Cnf) → base ≤ f.vars → (first : First) → FirstDigits base w first → FirstDigits f.vars w first
    up f low first h = ((are_below-mono base f.vars low first.own h.0.0, h.0.1), (are_below-mono base f.vars low first.other h.1.0, h.1.1))

    facts : (f : Cnf) → base ≤ f.vars → IsTrue (is_in_range f) → GapFacts f w big small step (gapped big small step f)
    facts f low i = gap-facts f w big small step i (up f low big hb) (up f low small hs) some few

    passes : (b : Bool) (p : List Lit → Bool) (cs : List (List Lit)) → (b ≡ true → IsTrue (list_all p cs)) → IsTrue (list_all p (only_if b cs))
    passes true p cs h = h refl
    passes false p cs h = refl

    hold : (f : Cnf) (vs : List Bool) → GapFacts f w big small step (gapped big small step f) → IsTrue (all_hold vs (gapped big small step f).0.clauses) →
        (number vs big.own % step ≡ big_rest % step) × (number vs small.own % step ≡ small_rest % step) → GapSays ordered big small vs → IsTrue (all_hold vs (clauses (gapped big small step f).1))
    hold f vs a gate left far =
        let r = gapped big small step f in
        let flipped = number_negations vs small.own in
        let flipped' : suc (number vs big.other + number vs (map negation big.other)) ≡ 2 ^ length small.own = number_negations vs big.other ∙ ap (λ (n : ℕ). 2 ^ n) (hb.1.1 ∙ sym hs.0.1) in
        let one = a.one vs gate in
        let other = a.other vs gate in
        let same : number vs r.1.0 ≡ number vs r.1.1 =
        one ∙ same_gap (number vs big.own) (number vs big.other) (number vs small.own) (number vs small.other) (number vs (map negation small.own)) (number vs (map negation big.other)) (2 ^ length small.own) flipped flipped' far.0 ∙ sym other in
        let gap : number vs r.1.1 + number vs small.own ≡ number vs big.own + (2 ^ length small.own - 1) = omega arith in
        let is = a.rest vs gate ∙ gap_left (number vs r.1.1) (number vs big.own) (number vs small.own) (2 ^ length small.own - 1) big_rest small_rest step some gap left.0 left.1 in
        list_all-append-from (holds vs) (same_digits r.1.0 r.1.1) (rest_digits r.1.2 rest ++ only_if ordered (top_digit r.1.0 ++ top_digit r.1.1)) (digits_back vs r.1.0 r.1.1 (let x = a.one_digits in let y = a.other_digits in omega arith) same)
        (list_all-append-from (holds vs) (rest_digits r.1.2 rest) (only_if ordered (top_digit r.1.0 ++ top_digit r.1.1)) (rest_holds vs r.1.2 rest is)
        (passes ordered (holds vs) (top_digit r.1.0 ++ top_digit r.1.1) (λ e.
        let less = far.1 e in
        let size : 2 ^ w ≡ 2 ^ length small.own = ap (λ (n : ℕ). 2 ^ n) (sym hs.0.1) in
        list_all-append-from (holds vs) (top_digit r.1.0) (top_digit r.1.1) (top_holds vs r.1.0 w a.one_digits (omega arith)) (top_holds vs r.1.1 w a.other_digits (omega arith)))))

-- what a first compound's own number leaves, where its step is not too great
abbrev pub FirstLeaves : List Bool → First → Type 0
FirstLeaves vs first = first.step ≤ most_joint → first.rest ≡ Some (number vs first.own % first.step)

related_hint : (base w : ℕ) (given : Option Lit) (ordered : Bool) (big small : First) (P : List Bool → Type 0) → IsStable base P → IsTrue (option_below base given) → FirstDigits base w big → FirstDigits base w small → 0 < big.step →
    ((vs : List Bool) → P vs → FirstLeaves vs big × FirstLeaves vs small) → ((vs : List Bool) → P vs → IsGiven given vs → GapSays ordered big small vs) → Hint base (with_related given ordered big small) P
related_hint base w given ordered big small P stable hg hb hs some leaves says =
    when_hint base (are_related big.step small.step) (with_gap_of given ordered step big small big.rest small.rest) P (λ e.
    let a = and_parts (nat_le big.step most_joint) (nat_le small.step most_joint && nat_le 2 step) e in
    let b = and_parts (nat_le small.step most_joint) (nat_le 2 step) a.1 in
    of_rests (leb-true big.step most_joint a.0) (leb-true small.step most_joint b.0) (leb-true 2 step b.1) big.rest small.rest refl refl)
  where
    step : ℕ
    step = common_divisor big.step small.step

    same : (b c : ℕ) → Some b ≡ Some c → b ≡ c
    same b c e = ap (λ o. unwrap_or o 0) e

    of_rests : big.step ≤ most_joint → small.step ≤ most_joint → 2 ≤ step → (b s : Option ℕ) → big.rest ≡ b → small.rest ≡ s → Hint base (with_gap_of given ordered step big small b s) P
    of_rests fb fs two None s eb es = no_hint base P
    of_rests fb fs two (Some b) None eb es = no_hint base P
    of_rests fb fs two (Some b) (Some s) eb es =
        let divides = common_divides big.step small.step in
        gap_hint base w given ordered step b s big small P stable hg hb hs (omega arith) (let l = le_of_dvd some divides.0 in omega arith)
        (λ vs p.
        let l = leaves vs p in
        let ib = same b (number vs big.own % big.step) (sym eb ∙ l.0 fb) in
        let is = same s (number vs small.own % small.step) (sym es ∙ l.1 fs) in
        (sym (ap (λ (k : ℕ). k % step) ib ∙ mod-mod_of_dvd step (number vs big.own) divides.0), sym (ap (λ (k : ℕ). k % step) is ∙ mod-mod_of_dvd step (number vs small.own) divides.1)))
        says

-- more siblings are before the right one of two elements, and fewer behind it
abbrev pub IsRight : Count → ℕ → ℕ → Type 0
IsRight Before right left = left < right
IsRight Behind right left = right < left

-- what is known of two elements of a row, by which of them is to the right
abbrev pub DistanceSays : Count → Bool → First → First → List Bool → Type 0
DistanceSays count ordered right left vs = (number vs right.own + number vs right.other ≡ number vs left.own + number vs left.other) × (ordered ≡ true → IsRight count (number vs right.own) (number vs left.own))

pub distance_hint : (base w : ℕ) (count : Count) (given : Option Lit) (ordered : Bool) (right left : First) (P : List Bool → Type 0) → IsStable base P → IsTrue (option_below base given) → FirstDigits base w right → FirstDigits base w left → 0 < right.step → 0 < left.step →
    ((vs : List Bool) → P vs → FirstLeaves vs right × FirstLeaves vs left) → ((vs : List Bool) → P vs → IsGiven given vs → DistanceSays count ordered right left vs) → Hint base (with_distance count given ordered right left) P
distance_hint base w Before given ordered right left P stable hg hr hl sr sl leaves says = related_hint base w given ordered right left P stable hg hr hl sr leaves says
distance_hint base w Behind given ordered right left P stable hg hr hl sr sl leaves says =
    related_hint base w given ordered left right P stable hg hl hr sl (λ vs p. ((leaves vs p).1, (leaves vs p).0)) (λ vs p is. (sym (says vs p is).0, (says vs p is).1))
