-- Hints on all tests that must not hold.
use Rattle.std.proofs.Common.{Bool, IsTrue, List, [], ap, arith, false, length, refl, suc, true, ℕ, ◌*◌, ◌-◌, ◌||◌, ◌∷◌, ◌≡◌, ◌≤◌}
use Rattle.std.proofs.lemmas.Bool.{false≢true}
use Rattle.std.specs.List.{AllByRecursion, filter_map}
use Rattle.std.specs.Prelude.{◌==◌}
use Rattle.cnf.proofs.ForCallers.{one_below}
use Rattle.cnf.specs.Lits.{are_below, is_below}
use Rattle.cnf.specs.Sums.{number}
use Rattle.cnf.specs.Values.{holds, value}
use Rattle.cnf.specs.declared.lit.Lit.{Lit}
use Rattle.css_model.specs.Documents.SelectorParts.{SelectorParts}
use Rattle.css_model.specs.declared.selector.Combinator.{Combinator}
use Rattle.css_model.specs.declared.selector.Simple.{Simple}
use Rattle.formula_laws.proofs.Hints.Hint.{Hint, IsStable, below_hint, both_hints, when_hint}
use Rattle.formula_laws.proofs.Hints.Joints.{GivenBelow, JointSays, aside_back, left_below, left_known, right_below, right_known}
use Rattle.formula_laws.proofs.Hints.Needing.{IsDenied, compound_denied}
use Rattle.formula_laws.proofs.Hints.Positions.{counted}
use Rattle.formula_laws.proofs.Hints.Refusing.{each_hint, refused_hint}
use Rattle.formula_laws.proofs.Hints.Remaining.{befores_say, behinds_say, left_fits, right_fits}
use Rattle.formula_laws.proofs.Hints.Runs.{IsAside, joined_aside, joined_numbers}
use Rattle.formula_laws.proofs.Numbers.Counted.{NamesBelow}
use Rattle.formula_laws.proofs.Whole.Conditions.{Says}
use Rattle.formula_laws.specs.Allowed.{Allowed}
use Rattle.formula_laws.specs.Asked.{are_joined, starts_run}
use Rattle.formula_laws.specs.Counts.{Names, steps_below, when}
use Rattle.formula_laws.specs.Hints.{Owns}
use Rattle.formula_laws.specs.Path.{only_if}
use Rattle.formula_laws.specs.Refused.{left_joints, refused_test, right_joints, with_each, with_refused, with_refused_chain, with_refused_compound, with_refused_hints, with_refused_test}
use Rattle.formula_laws.specs.declared.count.Count.{Count}
use Rattle.formula_laws.specs.declared.count.Count.TheVariants.{Before, Behind}
use Rattle.formula_laws.specs.declared.joint.Joint.{Joint}
use Rattle.formula_laws.specs.declared.refused.Refused.{Refused}
use Rattle.grid_laws.specs.Numbers.{RunFits}
use Rattle.grid_laws.specs.Solved.{nth_compound, numbers_asked}

-- what a chain says of one kind of its numbers, and of its tests that must not hold
pub record ChainSays (count : Count) (links : List Combinator) (chain : List (List Simple)) (joints : ℕ → List Joint) (own : ℕ → List Lit) (root : Lit) (vs : List Bool) : Type 0 where
  pub known : (p : ℕ) → AllByRecursion (JointSays count vs (number vs (own p))) (joints p)
  pub apart : (p k : ℕ) → are_joined links p k ≡ true → IsAside count (number vs (own p)) (number vs (own k)) 0 (k - p)
  pub denied : (k : ℕ) → k ≤ length links → AllByRecursion (IsDenied (k == length links) (value vs root) (number vs (own k))) (filter_map (refused_test count) (nth_compound chain k))

root_holds : (vs : List Bool) (b : Bool) (root : Lit) → (b ≡ true) × (value vs root ≡ true) → IsTrue (holds vs (only_if b (root ∷ [])))
root_holds vs true root h = ap (λ a. a || false) h.1
root_holds vs false root h = absurd (false≢true h.0)

root_below : (v : ℕ) (b : Bool) (root : Lit) → IsTrue (is_below v root) → IsTrue (are_below v (only_if b (root ∷ [])))
root_below v true root h = one_below v root h
root_below v false root h = refl

compound_hint : (base : ℕ) (count : Count) (links : List Combinator) (chain : List (List Simple)) (joints : ℕ → List Joint) (own : ℕ → List Lit) (root : Lit) (p k : ℕ) (P : List Bool → Type 0) → IsStable base P → k ≤ length links →
    IsTrue (are_below base (own k)) → IsTrue (is_below base root) → ((v : ℕ) → base ≤ v → AllByRecursion (GivenBelow v) (joints p)) → ((vs : List Bool) → P vs → ChainSays count links chain joints own root vs) →
    Hint base (with_refused_compound count links chain (joints p) own root p k) P
compound_hint base count links chain joints own root p k P stable hk hn hr hj says =
    when_hint base (are_joined links p k) (λ f. with_each (with_refused_test count (joints p) (k - p) (own k) (only_if (k == length links) (root ∷ []))) (filter_map (refused_test count) (nth_compound chain k)) f) P (λ e.
    each_hint base (with_refused_test count (joints p) (k - p) (own k) (only_if (k == length links) (root ∷ []))) P (λ vs r. IsDenied (k == length links) (value vs root) (number vs (own k)) r × ChainSays count links chain joints own root vs) stable
    (λ r denied. refused_hint base count (joints p) (k - p) (own k) (only_if (k == length links) (root ∷ [])) r P stable hn (root_below base (k == length links) root hr) hj (λ vs s.
    let d = denied vs s in
    let c = d.1 in
    record {
      some = d.0.0;
      first = number vs (own p);
      known = c.known p;
      apart = c.apart p k e;
      denied = λ leaves bounded. root_holds vs (k == length links) root (d.0.1 leaves bounded);
    }))
    (filter_map (refused_test count) (nth_compound chain k))
    (λ vs s. let c = says vs s in with_all' vs c (filter_map (refused_test count) (nth_compound chain k)) (c.denied k hk)))
  where
    with_all' : (vs : List Bool) → ChainSays count links chain joints own root vs → (rs : List Refused) → AllByRecursion (IsDenied (k == length links) (value vs root) (number vs (own k))) rs →
        AllByRecursion (λ r. IsDenied (k == length links) (value vs root) (number vs (own k)) r × ChainSays count links chain joints own root vs) rs
    with_all' vs c [] d = tt
    with_all' vs c (r ∷ rs) d = ((d.0, c), with_all' vs c rs d.1)

chain_hint : (base : ℕ) (count : Count) (links : List Combinator) (chain : List (List Simple)) (joints : ℕ → List Joint) (own : ℕ → List Lit) (root : Lit) (P : List Bool → Type 0) → IsStable base P →
    ((k : ℕ) → k ≤ length links → IsTrue (are_below base (own k))) → IsTrue (is_below base root) → ((p v : ℕ) → base ≤ v → AllByRecursion (GivenBelow v) (joints p)) → ((vs : List Bool) → P vs → ChainSays count links chain joints own root vs) →
    Hint base (λ f. with_refused_chain count links chain joints own root f) P
chain_hint base count links chain joints own root P stable hn hr hj says =
    below_hint base (suc (length links)) (λ p f. when (starts_run links p) (steps_below (suc (length links)) (with_refused_compound count links chain (joints p) own root p)) f) P stable (λ p hp.
    when_hint base (starts_run links p) (λ f. steps_below (suc (length links)) (with_refused_compound count links chain (joints p) own root p) f) P (λ _.
    below_hint base (suc (length links)) (with_refused_compound count links chain (joints p) own root p) P stable (λ k hk.
    compound_hint base count links chain joints own root p k P stable (omega arith) (hn k (omega arith)) hr (hj p) says)))

-- what both chains say
pub record BothSay (x y : SelectorParts) (owns : Owns) (rx ry : Lit) (vs : List Bool) : Type 0 where
  pub left_chain : ChainSays owns.count x.links x.chain (left_joints owns.count x y) owns.left rx vs
  pub right_chain : ChainSays owns.count y.links y.chain (right_joints owns.count x y) owns.right ry vs

pub refused_tests_hint : (base : ℕ) (x y : SelectorParts) (owns : Owns) (rx ry : Lit) (P : List Bool → Type 0) → IsStable base P → 3 * (suc (length x.links) * suc (length y.links)) ≤ base →
    ((p : ℕ) → p ≤ length x.links → IsTrue (are_below base (owns.left p))) → ((q : ℕ) → q ≤ length y.links → IsTrue (are_below base (owns.right q))) → IsTrue (is_below base rx) → IsTrue (is_below base ry) →
    ((vs : List Bool) → P vs → BothSay x y owns rx ry vs) → Hint base (λ f. with_refused x y owns rx ry f) P
refused_tests_hint base x y owns rx ry P stable nodes left right hx hy says =
    both_hints base (λ f. with_refused_chain owns.count x.links x.chain (left_joints owns.count x y) owns.left rx f) (λ f. with_refused_chain owns.count y.links y.chain (right_joints owns.count x y) owns.right ry f) P stable
    (chain_hint base owns.count x.links x.chain (left_joints owns.count x y) owns.left rx P stable left hx (λ p v low. left_below v owns.count x y p (omega arith)) (λ vs s. (says vs s).left_chain))
    (chain_hint base owns.count y.links y.chain (right_joints owns.count x y) owns.right ry P stable right hy (λ q v low. right_below v owns.count x y q (omega arith)) (λ vs s. (says vs s).right_chain))

-- how far a compound is from the first one of its run
chain_apart : (count : Count) (links : List Combinator) (b a : ℕ → ℕ) → RunFits links b a → (p k : ℕ) → are_joined links p k ≡ true → IsAside count (counted count (b p) (a p)) (counted count (b k) (a k)) 0 (k - p)
chain_apart count links b a fits p k e =
    aside_back count (counted count (b k) (a k)) (counted count (b p) (a p)) (k - p) 0 (joined_aside count b a p k (joined_numbers links b a fits p k e))

befores_refuse : (x y : SelectorParts) (allowed : Allowed) (names : Names) (vs : List Bool) → numbers_asked x y ≡ true → Says x y allowed names vs → BothSay x y (record { count = Before; left = names.bx; right = names.by }) names.rx names.ry vs
befores_refuse x y allowed names vs asked s =
    let owns = befores_say x y allowed names vs asked s in
    record {
      left_chain = record {
        known = left_known x y (record { count = Before; left = names.bx; right = names.by }) vs owns;
        apart = chain_apart Before x.links (λ i. number vs (names.bx i)) (λ i. number vs (names.ax i)) (left_fits x y allowed names vs asked s);
        denied = λ k hk. compound_denied Before (k == length x.links) (value vs names.rx) (value vs names.child) (number vs (names.bx k)) (number vs (names.ax k)) (nth_compound x.chain k) (s.tests.0 k (omega arith));
      };
      right_chain = record {
        known = right_known x y (record { count = Before; left = names.bx; right = names.by }) vs owns;
        apart = chain_apart Before y.links (λ j. number vs (names.by j)) (λ j. number vs (names.ay j)) (right_fits x y allowed names vs asked s);
        denied = λ k hk. compound_denied Before (k == length y.links) (value vs names.ry) (value vs names.child) (number vs (names.by k)) (number vs (names.ay k)) (nth_compound y.chain k) (s.tests.1 k (omega arith));
      };
    }

behinds_refuse : (x y : SelectorParts) (allowed : Allowed) (names : Names) (vs : List Bool) → numbers_asked x y ≡ true → Says x y allowed names vs → BothSay x y (record { count = Behind; left = names.ax; right = names.ay }) names.rx names.ry vs
behinds_refuse x y allowed names vs asked s =
    let owns = behinds_say x y allowed names vs asked s in
    record {
      left_chain = record {
        known = left_known x y (record { count = Behind; left = names.ax; right = names.ay }) vs owns;
        apart = chain_apart Behind x.links (λ i. number vs (names.bx i)) (λ i. number vs (names.ax i)) (left_fits x y allowed names vs asked s);
        denied = λ k hk. compound_denied Behind (k == length x.links) (value vs names.rx) (value vs names.child) (number vs (names.bx k)) (number vs (names.ax k)) (nth_compound x.chain k) (s.tests.0 k (omega arith));
      };
      right_chain = record {
        known = right_known x y (record { count = Behind; left = names.ax; right = names.ay }) vs owns;
        apart = chain_apart Behind y.links (λ j. number vs (names.by j)) (λ j. number vs (names.ay j)) (right_fits x y allowed names vs asked s);
        denied = λ k hk. compound_denied Behind (k == length y.links) (value vs names.ry) (value vs names.child) (number vs (names.by k)) (number vs (names.ay k)) (nth_compound y.chain k) (s.tests.1 k (omega arith));
      };
    }

-- those of both kinds of numbers
pub refused_hints_hint : (base w : ℕ) (x y : SelectorParts) (allowed : Allowed) (names : Names) → NamesBelow base (length x.links) (length y.links) w names → IsStable base (Says x y allowed names) → numbers_asked x y ≡ true →
    Hint base (λ f. with_refused_hints x y names f) (Says x y allowed names)
refused_hints_hint base w x y allowed names h stable asked =
    both_hints base (λ f. with_refused x y (record { count = Before; left = names.bx; right = names.by }) names.rx names.ry f) (λ f. with_refused x y (record { count = Behind; left = names.ax; right = names.ay }) names.rx names.ry f) (Says x y allowed names) stable
    (refused_tests_hint base x y (record { count = Before; left = names.bx; right = names.by }) names.rx names.ry (Says x y allowed names) stable h.nodes (λ p hp. (h.bx p hp).0) (λ q hq. (h.by q hq).0) h.rx h.ry (λ vs s. befores_refuse x y allowed names vs asked s))
    (refused_tests_hint base x y (record { count = Behind; left = names.ax; right = names.ay }) names.rx names.ry (Says x y allowed names) stable h.nodes (λ p hp. (h.ax p hp).0) (λ q hq. (h.ay q hq).0) h.rx h.ry (λ vs s. behinds_refuse x y allowed names vs asked s))
