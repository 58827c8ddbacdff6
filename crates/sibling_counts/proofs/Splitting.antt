-- What is asked of a child's position, taken apart into what is asked of each side and of both.
use Rattle.std.proofs.Common.{◌≡◌, ◌↔◌, ℕ, zero, suc, ◌+◌, ◌<◌, ◌≤◌, ◌==◌, ◌&&◌, ◌++◌, Bool, true, false, not, cond, if◌then◌else◌, List, [], ◌∷◌, Option, Some, None, refl, sym, ap, subst, ◌∙◌, true≢false, arith}
use Rattle.std.specs.Bool.{MatchBool}
use Rattle.std.specs.Option.{MatchOption}
use Rattle.std.specs.Cmp.{unsigned_Decides}
use Rattle.std.specs.List.{All, cons_option, count_by, filter_map, list_all}
use Rattle.std.proofs.lemmas.List.Elements.{All-head, All-tail, All-nil, All-cons, filter_map-append}
use Rattle.std.proofs.lemmas.List.Folds.{list_all-append}
use Rattle.std.proofs.lemmas.List.Recursion.{is_count_by}
use Rattle.css_model.specs.declared.position.AnB.{AnB}
use Rattle.css_model.specs.declared.selector.Simple.{Simple}
use Rattle.css_model.specs.declared.selector.Test.{Test}
use Rattle.css_model.specs.declared.selector.Test.TheVariants.{Any, Kind, Id, Attr, Nth, NthLast, OnlyChild, Root, Empty, State}
use Rattle.css_model.specs.Positions.Range.{IsInRange, is_stepped}
use Rattle.css_model.specs.Selectors.Compounds.{is_stepped_test}
use Rattle.slot_plan.specs.Parts.{part_of}
use Rattle.slot_plan.specs.Positions.{PositionFits, PositionHolds, is_position}
use Rattle.sibling_counts.specs.declared.least.Siblings.{Siblings}
use Rattle.sibling_counts.specs.declared.side.Asked.{Asked}
use Rattle.sibling_counts.specs.Places.{AreFew, AreLeast, ChildPasses, NoChildPasses}
use Rattle.sibling_counts.specs.Sides.{BothLeast, BothPass, NoneLeast, PassesTest, PassesTests, behind_of, behind_test, both_hold, both_of, front_of, front_test, positions_of}

-- ---- One simple selector

abbrev Fits : (negated : Bool) → ℕ → ℕ → Test → Type 0
Fits negated b a test = is_position test ≡ true → MatchBool negated (PositionHolds false false b a test → ⊥) (PositionHolds false false b a test)

-- a test that a side may have passes
abbrev Side : ℕ → Option Asked → Type 0
Side n None = Unit {0}
Side n (Some t) = PassesTest n t

and_true : (b c : Bool) → b ≡ true → c ≡ true → (b && c) ≡ true
and_true true true e f = refl
and_true true false e f = f
and_true false c e f = absurd (true≢false (sym e))

and_first : (b c : Bool) → (b && c) ≡ true → b ≡ true
and_first true c h = refl
and_first false c h = h

and_second : (b c : Bool) → (b && c) ≡ true → c ≡ true
and_second true c h = h
and_second false c h = absurd (true≢false (sym h))

-- whether a child is alone
alone_to : (b a : ℕ) → ((b == 0) && (a == 0)) ≡ true → (b ≡ 0) × (a ≡ 0)
alone_to b a h = ((unsigned_Decides b 0).0 (and_first (b == 0) (a == 0) h), (unsigned_Decides a 0).0 (and_second (b == 0) (a == 0) h))

alone_from : (b a : ℕ) → (b ≡ 0) × (a ≡ 0) → ((b == 0) && (a == 0)) ≡ true
alone_from b a h = and_true (b == 0) (a == 0) ((unsigned_Decides b 0).1 h.0) ((unsigned_Decides a 0).1 h.1)

asked_to : (P : Type 0) (negated x : Bool) → (x ≡ true → P) → (P → x ≡ true) → MatchBool negated (P → ⊥) P → (if negated then not x else x) ≡ true
asked_to P false x to from h = from h
asked_to P true true to from h = absurd (h (to refl))
asked_to P true false to from h = refl

asked_from : (P : Type 0) (negated x : Bool) → (x ≡ true → P) → (P → x ≡ true) → (if negated then not x else x) ≡ true → MatchBool negated (P → ⊥) P
asked_from P false x to from h = to h
asked_from P true true to from h = absurd (true≢false (sym h))
asked_from P true false to from h = λ p. true≢false (sym (from p))

root_to : (negated : Bool) → MatchBool negated (false ≡ true → ⊥) (false ≡ true) → negated ≡ true
root_to true h = refl
root_to false h = h

root_from : (negated : Bool) → negated ≡ true → MatchBool negated (false ≡ true → ⊥) (false ≡ true)
root_from true h = λ e. true≢false (sym e)
root_from false h = h

splits_one : (b a : ℕ) (test : Test) (negated : Bool) → Fits negated b a test →
    Side b (front_of test negated) × Side a (behind_of test negated) × (both_of ((b == 0) && (a == 0)) test negated ≡ true)
splits_one b a Any negated h = (tt, tt, refl)
splits_one b a (Kind v) negated h = (tt, tt, refl)
splits_one b a (Id v) negated h = (tt, tt, refl)
splits_one b a (Attr v) negated h = (tt, tt, refl)
splits_one b a (Nth x) negated h = (h refl, tt, refl)
splits_one b a (NthLast x) negated h = (tt, h refl, refl)
splits_one b a OnlyChild negated h = (tt, tt, asked_to ((b ≡ 0) × (a ≡ 0)) negated ((b == 0) && (a == 0)) (alone_to b a) (alone_from b a) (h refl))
splits_one b a Root negated h = (tt, tt, root_to negated (h refl))
splits_one b a Empty negated h = (tt, tt, refl)
splits_one b a (State v) negated h = (tt, tt, refl)

joins_one : (b a : ℕ) (test : Test) (negated : Bool) → Side b (front_of test negated) → Side a (behind_of test negated) → both_of ((b == 0) && (a == 0)) test negated ≡ true → Fits negated b a test
joins_one b a Any negated f g h = λ is. absurd (true≢false (sym is))
joins_one b a (Kind v) negated f g h = λ is. absurd (true≢false (sym is))
joins_one b a (Id v) negated f g h = λ is. absurd (true≢false (sym is))
joins_one b a (Attr v) negated f g h = λ is. absurd (true≢false (sym is))
joins_one b a (Nth x) negated f g h = λ is. f
joins_one b a (NthLast x) negated f g h = λ is. g
joins_one b a OnlyChild negated f g h = λ is. asked_from ((b ≡ 0) × (a ≡ 0)) negated ((b == 0) && (a == 0)) (alone_to b a) (alone_from b a) h
joins_one b a Root negated f g h = λ is. root_from negated h
joins_one b a Empty negated f g h = λ is. absurd (true≢false (sym is))
joins_one b a (State v) negated f g h = λ is. absurd (true≢false (sym is))

-- ---- All of them

side_cons : (n : ℕ) (o : Option Asked) (tests : List Asked) → Side n o → PassesTests tests n → PassesTests (cons_option o tests) n
side_cons n None tests h rest = rest
side_cons n (Some t) tests h rest = All-cons (PassesTest n) t tests h rest

side_head : (n : ℕ) (o : Option Asked) (tests : List Asked) → PassesTests (cons_option o tests) n → Side n o
side_head n None tests h = tt
side_head n (Some t) tests h = All-head (PassesTest n) t tests h

side_tail : (n : ℕ) (o : Option Asked) (tests : List Asked) → PassesTests (cons_option o tests) n → PassesTests tests n
side_tail n None tests h = h
side_tail n (Some t) tests h = All-tail (PassesTest n) t tests h

splits : (simples : List Simple) (b a : ℕ) → ChildPasses simples b a →
    PassesTests (filter_map front_test simples) b × PassesTests (filter_map behind_test simples) a × (list_all (both_hold ((b == 0) && (a == 0))) simples ≡ true)
splits [] b a h = (All-nil (PassesTest b), All-nil (PassesTest a), refl)
splits (s ∷ simples) b a h =
    let one = splits_one b a s.test s.negated (All-head (PositionFits false false b a) s simples h) in
    let rest = splits simples b a (All-tail (PositionFits false false b a) s simples h) in (
      side_cons b (front_test s) (filter_map front_test simples) one.0 rest.0,
      side_cons a (behind_test s) (filter_map behind_test simples) one.1 rest.1,
      and_true (both_hold ((b == 0) && (a == 0)) s) (list_all (both_hold ((b == 0) && (a == 0))) simples) one.2 rest.2,
    )

joins : (simples : List Simple) (b a : ℕ) → PassesTests (filter_map front_test simples) b → PassesTests (filter_map behind_test simples) a →
    list_all (both_hold ((b == 0) && (a == 0))) simples ≡ true → ChildPasses simples b a
joins [] b a f g h = All-nil (PositionFits false false b a)
joins (s ∷ simples) b a f g h =
    All-cons (PositionFits false false b a) s simples
    (joins_one b a s.test s.negated (side_head b (front_test s) (filter_map front_test simples) f) (side_head a (behind_test s) (filter_map behind_test simples) g)
    (and_first (both_hold ((b == 0) && (a == 0)) s) (list_all (both_hold ((b == 0) && (a == 0))) simples) h))
    (joins simples b a (side_tail b (front_test s) (filter_map front_test simples) f) (side_tail a (behind_test s) (filter_map behind_test simples) g)
    (and_second (both_hold ((b == 0) && (a == 0)) s) (list_all (both_hold ((b == 0) && (a == 0))) simples) h))

chosen : (simples : List Simple) (alone : Bool) → (if alone then list_all (both_hold true) simples else list_all (both_hold false) simples) ≡ list_all (both_hold alone) simples
chosen simples true = refl
chosen simples false = refl

-- what a child passes is what both sides pass, and what is asked of both
abbrev pub Sides : List Simple → ℕ → ℕ → Type 0
Sides simples b a = BothPass (PassesTests (filter_map front_test simples)) (PassesTests (filter_map behind_test simples)) (list_all (both_hold true) simples) (list_all (both_hold false) simples) b a

pub child_to_sides : (simples : List Simple) (b a : ℕ) → ChildPasses simples b a → Sides simples b a
child_to_sides simples b a h = let s = splits simples b a h in (s.0, s.1, chosen simples ((b == 0) && (a == 0)) ∙ s.2)

pub sides_to_child : (simples : List Simple) (b a : ℕ) → Sides simples b a → ChildPasses simples b a
sides_to_child simples b a h = joins simples b a h.0 h.1 (sym (chosen simples ((b == 0) && (a == 0))) ∙ h.2)

-- ---- The answers

given : (simples : List Simple) (fronts behinds : List Asked) (alone apart : Bool) → fronts ≡ filter_map front_test simples → behinds ≡ filter_map behind_test simples →
    alone ≡ list_all (both_hold true) simples → apart ≡ list_all (both_hold false) simples → (b a : ℕ) → Sides simples b a → BothPass (PassesTests fronts) (PassesTests behinds) alone apart b a
given simples fronts behinds alone apart f g h k b a p = (
  subst (λ (ts : List Asked). PassesTests ts b) (sym f) p.0,
  subst (λ (ts : List Asked). PassesTests ts a) (sym g) p.1,
  subst (λ (x : Bool). (if (b == 0) && (a == 0) then x else apart) ≡ true) (sym h) (subst (λ (x : Bool). (if (b == 0) && (a == 0) then list_all (both_hold true) simples else x) ≡ true) (sym k) p.2),
)

-- of lists and tests that are these
none_least : (simples : List Simple) (fronts behinds : List Asked) (alone apart : Bool) → fronts ≡ filter_map front_test simples → behinds ≡ filter_map behind_test simples →
    alone ≡ list_all (both_hold true) simples → apart ≡ list_all (both_hold false) simples → NoneLeast (PassesTests fronts) (PassesTests behinds) alone apart → NoChildPasses simples
none_least simples fronts behinds alone apart f g h k none b a c = none b a (given simples fronts behinds alone apart f g h k b a (child_to_sides simples b a c))

both_least : (simples : List Simple) (fronts behinds : List Asked) (alone apart : Bool) (b a : ℕ) → fronts ≡ filter_map front_test simples → behinds ≡ filter_map behind_test simples →
    alone ≡ list_all (both_hold true) simples → apart ≡ list_all (both_hold false) simples → BothLeast (PassesTests fronts) (PassesTests behinds) alone apart b a → AreLeast simples b a
both_least simples fronts behinds alone apart b a f g h k least = record {
  passes = sides_to_child simples b a (taken least.passes);
  least_before = λ b' a' l c. least.least_before b' a' l (given simples fronts behinds alone apart f g h k b' a' (child_to_sides simples b' a' c));
  least_behind = λ a' l c. least.least_behind a' l (given simples fronts behinds alone apart f g h k b a' (child_to_sides simples b a' c));
}
  where
    taken : BothPass (PassesTests fronts) (PassesTests behinds) alone apart b a → Sides simples b a
    taken p = (
      subst (λ (ts : List Asked). PassesTests ts b) f p.0,
      subst (λ (ts : List Asked). PassesTests ts a) g p.1,
      subst (λ (x : Bool). (if (b == 0) && (a == 0) then x else list_all (both_hold false) simples) ≡ true) h (subst (λ (x : Bool). (if (b == 0) && (a == 0) then alone else x) ≡ true) k p.2),
    )

pub found_least : (simples : List Simple) (fronts behinds : List Asked) (alone apart : Bool) (r : Option Siblings) → fronts ≡ filter_map front_test simples → behinds ≡ filter_map behind_test simples →
    alone ≡ list_all (both_hold true) simples → apart ≡ list_all (both_hold false) simples →
    MatchOption r (NoneLeast (PassesTests fronts) (PassesTests behinds) alone apart) (λ s. BothLeast (PassesTests fronts) (PassesTests behinds) alone apart s.before s.behind) →
    MatchOption r (NoChildPasses simples) (λ s. AreLeast simples s.before s.behind)
found_least simples fronts behinds alone apart None f g h k r = none_least simples fronts behinds alone apart f g h k r
found_least simples fronts behinds alone apart (Some s) f g h k r = both_least simples fronts behinds alone apart s.before s.behind f g h k r

-- ---- Two compounds

pub fronts_joined : (x y : List Simple) → filter_map front_test x ++ filter_map front_test y ≡ filter_map front_test (x ++ y)
fronts_joined x y = sym (filter_map-append front_test x y)

pub behinds_joined : (x y : List Simple) → filter_map behind_test x ++ filter_map behind_test y ≡ filter_map behind_test (x ++ y)
behinds_joined x y = sym (filter_map-append behind_test x y)

pub both_joined : (alone : Bool) (x y : List Simple) → list_all (both_hold alone) (x ++ y) ≡ (list_all (both_hold alone) x && list_all (both_hold alone) y)
both_joined alone x y = list_all-append (both_hold alone) x y

-- ---- The positions of each side are among all

abbrev gathered : List Simple → List AnB
gathered simples = filter_map (λ s. part_of s.test) simples

range_tail : (o : Option AnB) (rest : List AnB) → All IsInRange (cons_option o rest) → All IsInRange rest
range_tail None rest h = h
range_tail (Some x) rest h = All-tail IsInRange x rest h

front_range : (test : Test) (negated : Bool) (parts : List AnB) (tests : List Asked) → All IsInRange (cons_option (part_of test) parts) → All IsInRange (positions_of tests) → All IsInRange (positions_of (cons_option (front_of test negated) tests))
front_range (Nth x) negated parts tests h rest = All-cons IsInRange x (positions_of tests) (All-head IsInRange x parts h) rest
front_range Any negated parts tests h rest = rest
front_range (Kind v) negated parts tests h rest = rest
front_range (Id v) negated parts tests h rest = rest
front_range (Attr v) negated parts tests h rest = rest
front_range (NthLast v) negated parts tests h rest = rest
front_range OnlyChild negated parts tests h rest = rest
front_range Root negated parts tests h rest = rest
front_range Empty negated parts tests h rest = rest
front_range (State v) negated parts tests h rest = rest

behind_range : (test : Test) (negated : Bool) (parts : List AnB) (tests : List Asked) → All IsInRange (cons_option (part_of test) parts) → All IsInRange (positions_of tests) → All IsInRange (positions_of (cons_option (behind_of test negated) tests))
behind_range (NthLast x) negated parts tests h rest = All-cons IsInRange x (positions_of tests) (All-head IsInRange x parts h) rest
behind_range Any negated parts tests h rest = rest
behind_range (Kind v) negated parts tests h rest = rest
behind_range (Id v) negated parts tests h rest = rest
behind_range (Attr v) negated parts tests h rest = rest
behind_range (Nth v) negated parts tests h rest = rest
behind_range OnlyChild negated parts tests h rest = rest
behind_range Root negated parts tests h rest = rest
behind_range Empty negated parts tests h rest = rest
behind_range (State v) negated parts tests h rest = rest

pub fronts_in_range : (simples : List Simple) → All IsInRange (filter_map (λ s. part_of s.test) simples) → All IsInRange (positions_of (filter_map front_test simples))
fronts_in_range [] h = All-nil IsInRange
fronts_in_range (s ∷ simples) h =
    front_range s.test s.negated (gathered simples) (filter_map front_test simples) h (fronts_in_range simples (range_tail (part_of s.test) (gathered simples) h))

pub behinds_in_range : (simples : List Simple) → All IsInRange (filter_map (λ s. part_of s.test) simples) → All IsInRange (positions_of (filter_map behind_test simples))
behinds_in_range [] h = All-nil IsInRange
behinds_in_range (s ∷ simples) h =
    behind_range s.test s.negated (gathered simples) (filter_map behind_test simples) h (behinds_in_range simples (range_tail (part_of s.test) (gathered simples) h))

abbrev counted : {X : Type 0} → (X → Bool) → List X → ℕ
counted p [] = 0
counted p (x ∷ xs) = cond (p x) (1 + counted p xs) (counted p xs)

counted_is : {X : Type 0} (p : X → Bool) (xs : List X) → counted p xs ≡ count_by p xs
counted_is p xs = is_count_by (counted p) p refl (λ x ys. refl) xs

more_counted : (b : Bool) (m n : ℕ) → m ≤ n → m ≤ cond b (1 + n) n
more_counted true m n h = omega arith
more_counted false m n h = h

both_counted : (b : Bool) (m n : ℕ) → m ≤ n → cond b (1 + m) m ≤ cond b (1 + n) n
both_counted true m n h = omega arith
both_counted false m n h = h

front_few : (test : Test) (negated : Bool) (tests : List Asked) (n : ℕ) → counted is_stepped (positions_of tests) ≤ n →
    counted is_stepped (positions_of (cons_option (front_of test negated) tests)) ≤ cond (is_stepped_test test) (1 + n) n
front_few (Nth x) negated tests n h = both_counted (is_stepped x) (counted is_stepped (positions_of tests)) n h
front_few (NthLast x) negated tests n h = more_counted (is_stepped x) (counted is_stepped (positions_of tests)) n h
front_few Any negated tests n h = h
front_few (Kind v) negated tests n h = h
front_few (Id v) negated tests n h = h
front_few (Attr v) negated tests n h = h
front_few OnlyChild negated tests n h = h
front_few Root negated tests n h = h
front_few Empty negated tests n h = h
front_few (State v) negated tests n h = h

behind_few : (test : Test) (negated : Bool) (tests : List Asked) (n : ℕ) → counted is_stepped (positions_of tests) ≤ n →
    counted is_stepped (positions_of (cons_option (behind_of test negated) tests)) ≤ cond (is_stepped_test test) (1 + n) n
behind_few (NthLast x) negated tests n h = both_counted (is_stepped x) (counted is_stepped (positions_of tests)) n h
behind_few (Nth x) negated tests n h = more_counted (is_stepped x) (counted is_stepped (positions_of tests)) n h
behind_few Any negated tests n h = h
behind_few (Kind v) negated tests n h = h
behind_few (Id v) negated tests n h = h
behind_few (Attr v) negated tests n h = h
behind_few OnlyChild negated tests n h = h
behind_few Root negated tests n h = h
behind_few Empty negated tests n h = h
behind_few (State v) negated tests n h = h

fronts_counted : (simples : List Simple) → counted is_stepped (positions_of (filter_map front_test simples)) ≤ counted (λ s. is_stepped_test s.test) simples
fronts_counted [] = omega arith
fronts_counted (s ∷ simples) = front_few s.test s.negated (filter_map front_test simples) (counted (λ s. is_stepped_test s.test) simples) (fronts_counted simples)

behinds_counted : (simples : List Simple) → counted is_stepped (positions_of (filter_map behind_test simples)) ≤ counted (λ s. is_stepped_test s.test) simples
behinds_counted [] = omega arith
behinds_counted (s ∷ simples) = behind_few s.test s.negated (filter_map behind_test simples) (counted (λ s. is_stepped_test s.test) simples) (behinds_counted simples)

pub fronts_few : (simples : List Simple) → count_by is_stepped (positions_of (filter_map front_test simples)) ≤ count_by (λ s. is_stepped_test s.test) simples
fronts_few simples =
    let l = counted_is is_stepped (positions_of (filter_map front_test simples)) in
    let r = counted_is (λ (s : Simple). is_stepped_test s.test) simples in
    let h = fronts_counted simples in
    omega arith

pub behinds_few : (simples : List Simple) → count_by is_stepped (positions_of (filter_map behind_test simples)) ≤ count_by (λ s. is_stepped_test s.test) simples
behinds_few simples =
    let l = counted_is is_stepped (positions_of (filter_map behind_test simples)) in
    let r = counted_is (λ (s : Simple). is_stepped_test s.test) simples in
    let h = behinds_counted simples in
    omega arith
