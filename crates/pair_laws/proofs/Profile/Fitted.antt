-- Features may be asked for of such compounds.
use Rattle.std.proofs.Common.{ℕ, ◌+◌, ◌≡◌, ◌≤◌, Bool, true, false, not, cond, List, [], ◌∷◌, ◌++◌, length, refl, ap, ◌∙◌, subst, arith, append-nil}
use Rattle.std.specs.Prelude.{nat_le}
use Rattle.std.specs.List.{All, AllByRecursion, filter, flat_map}
use Rattle.std.proofs.lemmas.Bool.{and_from}
use Rattle.std.proofs.lemmas.List.Elements.{All-append, All-cons, All-from_recursion, All-nil}
use Rattle.list_facts.proofs.Elements.{all_with, member}
use Rattle.css_model.specs.declared.selector.AttrTest.{AttrTest}
use Rattle.css_model.specs.declared.selector.Simple.{Simple}
use Rattle.css_model.specs.declared.selector.Test.{Test}
use Rattle.css_model.specs.declared.selector.Test.TheVariants.{Id, Attr}
use Rattle.css_model.specs.Lists.{same_text}
use Rattle.compound_fit.proofs.ForCallers.{enough_left, plain_all, plain_both}
use Rattle.compound_fit.specs.Attributes.{attribute_test, attribute_tests, tests_of}
use Rattle.compound_fit.specs.Conditions.{IsFittable, has_plain_tests}
use Rattle.compound_fit.specs.Laws.{wide_of}
use Rattle.compound_fit.specs.Table.{others, target, with_each}
use Rattle.pair_laws.specs.Profile.Fittable.{CompoundsAreFittable, PairsAreFittable, TablesAreFittable}
use Rattle.pair_laws.proofs.Profile.Compounds.{IsFine, chain_fine, fine_nothing}
use Rattle.pair_laws.proofs.Profile.DerivedChains.{simples_wide}
use Rattle.pair_laws.proofs.Profile.DerivedTests.{test_wide, total_append}
use Rattle.pair_laws.proofs.Profile.Wide.{wide}

wide_append : (xs ys : List ℕ) → wide (xs ++ ys) ≡ wide xs + wide ys
wide_append [] ys = omega arith
wide_append (x ∷ xs) ys = by (nat_le 0x10000 x) (wide_append xs ys)
  where
    by : (b : Bool) → wide (xs ++ ys) ≡ wide xs + wide ys →
        length (cond b (x ∷ filter (λ c. nat_le 0x10000 c) (xs ++ ys)) (filter (λ c. nat_le 0x10000 c) (xs ++ ys)))
        ≡ length (cond b (x ∷ filter (λ c. nat_le 0x10000 c) xs) (filter (λ c. nat_le 0x10000 c) xs)) + wide ys
    by true later = omega (arith, later)
    by false later = later

-- the values of tests, one after another
values : List (AttrTest × Bool) → List ℕ
values tests = flat_map (λ t. t.0.value) tests

named_wide : (name : List ℕ) (tests : List (AttrTest × Bool)) → wide (values (tests_of name tests)) ≤ wide (values tests)
unfolding values
named_wide name [] = omega arith
named_wide name (t ∷ tests) = by (same_text t.0.name name) (named_wide name tests)
  where
    by : (b : Bool) → wide (flat_map (λ t. t.0.value) (tests_of name tests)) ≤ wide (flat_map (λ t. t.0.value) tests) →
        wide (flat_map (λ t. t.0.value) (cond b (t ∷ tests_of name tests) (tests_of name tests))) ≤ wide (t.0.value ++ flat_map (λ t. t.0.value) tests)
    by true le =
        let part = wide_append t.0.value (flat_map (λ t. t.0.value) (tests_of name tests)) in
        let whole = wide_append t.0.value (flat_map (λ t. t.0.value) tests) in
        omega (arith, le, part, whole)
    by false le = let whole = wide_append t.0.value (flat_map (λ t. t.0.value) tests) in omega (arith, le, whole)

one_wide : (test : Test) (w : Bool) (rest : List (AttrTest × Bool)) → wide (values (attribute_test test w rest)) ≡ test_wide test + wide (values rest)
unfolding values
one_wide (Attr t) w rest = wide_append t.value (flat_map (λ t. t.0.value) rest)
one_wide (Id v) w rest = wide_append v (flat_map (λ t. t.0.value) rest)
one_wide _ w rest = omega arith

all_wide : (simples : List Simple) → wide (values (attribute_tests simples)) ≡ simples_wide simples
unfolding values
all_wide [] = refl
all_wide (s ∷ simples) = one_wide s.test (not s.negated) (attribute_tests simples) ∙ ap (λ (n : ℕ). test_wide s.test + n) (all_wide simples)

both_fit : (c d : List Simple) → IsFine c → IsFine d → IsFittable (c ++ d)
unfolding values
both_fit c d p q =
    let plain : has_plain_tests (c ++ d) ≡ true = plain_both c d ∙ and_from (has_plain_tests c) (has_plain_tests d) p.plain q.plain in
    record {
      ids = plain_all (c ++ d) plain;
      unused = λ name. enough_left (tests_of name (attribute_tests (c ++ d))) (few name);
    }
  where
    few : (name : List ℕ) → length (wide_of (tests_of name (attribute_tests (c ++ d)))) ≤ 0xFFFFF
    few name =
        let named : wide (flat_map (λ t. t.0.value) (tests_of name (attribute_tests (c ++ d)))) ≤ wide (flat_map (λ t. t.0.value) (attribute_tests (c ++ d))) = named_wide name (attribute_tests (c ++ d)) in
        let all : wide (flat_map (λ t. t.0.value) (attribute_tests (c ++ d))) ≡ simples_wide (c ++ d) = all_wide (c ++ d) in
        let parts : simples_wide (c ++ d) ≡ simples_wide c + simples_wide d = total_append (λ (s : Simple). test_wide s.test) c d in
        let first = p.few in
        let second = q.few in
        omega (arith, named, all, parts, first, second)

one_fits : (c : List Simple) → IsFine c → IsFittable c
one_fits c p = subst IsFittable (append-nil c) (both_fit c [] p fine_nothing)

all_fit : (cs : List (List Simple)) → AllByRecursion IsFine cs → All IsFittable cs
all_fit cs all = All-from_recursion IsFittable cs (all_with IsFine IsFittable one_fits cs all)

pub compounds_fit : CompoundsAreFittable
compounds_fit x p = all_fit x.chain (chain_fine x p)

pub pairs_fit : PairsAreFittable
pairs_fit x y c d p q in_x in_y = both_fit c d (member IsFine x.chain c (chain_fine x p) in_x) (member IsFine y.chain d (chain_fine y q) in_y)

target_fine : (cs : List (List Simple)) → AllByRecursion IsFine cs → IsFine (target cs)
target_fine [] all = fine_nothing
target_fine (c ∷ cs) all = all.0

others_fine : (cs : List (List Simple)) → AllByRecursion IsFine cs → AllByRecursion IsFine (others cs)
others_fine [] all = tt
others_fine (c ∷ cs) all = all.1

with_fit : (c : List Simple) (ds : List (List Simple)) → IsFine c → AllByRecursion IsFine ds → All IsFittable (with_each c ds)
with_fit c [] p all = All-nil IsFittable
with_fit c (d ∷ ds) p all = All-cons IsFittable (c ++ d) (with_each c ds) (both_fit c d p all.0) (with_fit c ds p all.1)

each_fit : (cs ds : List (List Simple)) → AllByRecursion IsFine cs → AllByRecursion IsFine ds → All IsFittable (flat_map (λ c. with_each c ds) cs)
each_fit [] ds all more = All-nil IsFittable
each_fit (c ∷ cs) ds all more = All-append IsFittable (with_each c ds) (flat_map (λ c. with_each c ds) cs) (with_fit c ds all.0 more) (each_fit cs ds all.1 more)

pub tables_fit : TablesAreFittable
tables_fit x y p q =
    let xs = chain_fine x p in
    let ys = chain_fine y q in
    let left = others_fine x.chain xs in
    let right = others_fine y.chain ys in
    All-cons IsFittable (target x.chain ++ target y.chain) _ (both_fit (target x.chain) (target y.chain) (target_fine x.chain xs) (target_fine y.chain ys))
    (All-append IsFittable (others x.chain) (others y.chain ++ flat_map (λ c. with_each c (others y.chain)) (others x.chain)) (all_fit (others x.chain) left)
    (All-append IsFittable (others y.chain) (flat_map (λ c. with_each c (others y.chain)) (others x.chain)) (all_fit (others y.chain) right)
    (each_fit (others x.chain) (others y.chain) left right)))
