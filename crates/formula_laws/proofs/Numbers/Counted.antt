-- The clauses of the numbers of siblings say that they fit.
use Rattle.std.proofs.Common.{Bool, IsTrue, List, [], ap, arith, false, length, not, refl, suc, sym, true, ℕ, ◌&&◌, ◌*◌, ◌++◌, ◌+◌, ◌<◌, ◌||◌, ◌∙◌, ◌∷◌, ◌≡◌, ◌≤◌}
use Rattle.std.proofs.lemmas.Bool.{false≢true}
use Rattle.formula_laws.proofs.Items.Items.{Item, both_items, gate_item, no_item}
use Rattle.formula_laws.proofs.Items.MoreItems.{below_item, implied_item, item_as, when_item}
use Rattle.formula_laws.proofs.Items.Ranges.{node_below}
use Rattle.formula_laws.proofs.Numbers.Related.{digits_back, digits_below, digits_means, less_item, number_stable, sum_item}
use Rattle.formula_laws.proofs.Paths.Pathway.{Joined}
use Rattle.formula_laws.specs.Counts.{Names, implied, steps_below, when, with_counts, with_equal, with_equal_sums, with_link, with_order_left, with_order_right, with_run}
use Rattle.formula_laws.specs.Path.{both_fit, left_fits, node_lit, right_fits, true_nodes}
use Rattle.formula_laws.specs.Relations.{same_digits, with_less, with_sum}
use Rattle.cnf.proofs.ForCallers.{Extends-trans, adder-facts, adder-grows, are_below-mono, is_below-negation, kept-hold, list_all-append-from, list_all-append-parts, one_below, pair_below, value-negation}
use Rattle.cnf.specs.Cnf.{Cnf, is_in_range}
use Rattle.cnf.specs.Gates.{Extends, with_clauses}
use Rattle.cnf.specs.Lits.{are_below, is_below, negation}
use Rattle.cnf.specs.Sums.{bit, number, with_adder}
use Rattle.cnf.specs.Values.{all_hold, holds, value}
use Rattle.cnf.specs.declared.lit.Lit.{Lit}
use Rattle.css_model.specs.declared.selector.Combinator.{Combinator}
use Rattle.css_model.specs.declared.selector.Combinator.TheVariants.{Child, Inside, Later, Next}
use Rattle.grid_laws.specs.Grid.{goes_up_at, left_alone, right_alone, together}
use Rattle.grid_laws.specs.Numbers.{Counted, LinkNumbers, RunFits}

-- the names are below the base, and all numbers have w digits
pub record NamesBelow (base m n w : ℕ) (names : Names) : Type 0 where
  pub nodes : 3 * (suc m * suc n) ≤ base
  pub root : IsTrue (is_below base names.root)
  pub child : IsTrue (is_below base names.child)
  pub rx : IsTrue (is_below base names.rx)
  pub ry : IsTrue (is_below base names.ry)
  pub one : IsTrue (is_below base names.one)
  pub bx : (i : ℕ) → i ≤ m → IsTrue (are_below base (names.bx i)) × (length (names.bx i) ≡ w)
  pub ax : (i : ℕ) → i ≤ m → IsTrue (are_below base (names.ax i)) × (length (names.ax i) ≡ w)
  pub by : (j : ℕ) → j ≤ n → IsTrue (are_below base (names.by j)) × (length (names.by j) ≡ w)
  pub ay : (j : ℕ) → j ≤ n → IsTrue (are_below base (names.ay j)) × (length (names.ay j) ≡ w)

-- two sums that are equal
pub record SumsFacts (f : Cnf) (x y z u : List Lit) (r : Cnf × (List Lit × List Lit)) : Type 0 where
  extends : Extends f r.0
  below_first : IsTrue (are_below r.0.vars r.1.0)
  below_second : IsTrue (are_below r.0.vars r.1.1)
  same : length r.1.1 ≤ length r.1.0
  first : (vs : List Bool) → IsTrue (all_hold vs r.0.clauses) → number vs r.1.0 ≡ number vs x + number vs y
  second : (vs : List Bool) → IsTrue (all_hold vs r.0.clauses) → number vs r.1.1 ≡ number vs z + number vs u

abbrev pub two_sums : List Lit → List Lit → List Lit → List Lit → Cnf → Cnf × (List Lit × List Lit)
two_sums x y z u f =
    let s = with_adder f x y in
    let t = with_adder s.0 z u in
    (t.0, (s.1, t.1))

sums-facts : (w : ℕ) (f : Cnf) (x y z u : List Lit) → IsTrue (is_in_range f) → IsTrue (are_below f.vars x) × (length x ≡ w) → IsTrue (are_below f.vars y) × (length y ≡ w) → IsTrue (are_below f.vars z) × (length z ≡ w) → IsTrue (are_below f.vars u) × (length u ≡ w) → SumsFacts f x y z u (two_sums x y z u f)
sums-facts w f x y z u r hx hy hz hu =
    let s = with_adder f x y in
    let a = adder-facts f x y r hx.0 hy.0 in
    let t = with_adder s.0 z u in
    let b = adder-facts s.0 z u a.extends.in_range (are_below-mono f.vars s.0.vars a.extends.more_vars z hz.0) (are_below-mono f.vars s.0.vars a.extends.more_vars u hu.0) in
    record {
      extends = Extends-trans f s.0 t.0 a.extends b.extends;
      below_first = are_below-mono s.0.vars t.0.vars b.extends.more_vars s.1 a.below;
      below_second = b.below;
      same = let da = a.digits in let db = b.digits in let lx = hx.1 in let ly = hy.1 in let lz = hz.1 in let lu = hu.1 in omega arith;
      first = λ vs h. a.means vs (kept-hold s.0 t.0 vs b.extends h);
      second = λ vs h. b.means vs h;
    }

abbrev pub HasDigits : ℕ → ℕ → List Lit → Type 0
HasDigits base w x = IsTrue (are_below base x) × (length x ≡ w)

equal_sums_item : (base w : ℕ) (x y z u : List Lit) → HasDigits base w x → HasDigits base w y → HasDigits base w z → HasDigits base w u →
    Item base (with_equal_sums x y z u) (λ vs. number vs x + number vs y ≡ number vs z + number vs u)
equal_sums_item base w x y z u hx hy hz hu =
    gate_item base (two_sums x y z u) (λ r. same_digits r.0 r.1) (λ vs. number vs x + number vs y ≡ number vs z + number vs u)
    (λ f low r. (facts f low r).extends)
    (λ f. let g = adder-grows f x y in let s = with_adder f x y in let h = adder-grows s.0 z u in omega arith)
    (λ f low r. let s = facts f low r in digits_below (two_sums x y z u f).0.vars (two_sums x y z u f).1.0 (two_sums x y z u f).1.1 s.below_first s.below_second)
    (λ f vs low r gate rest. let s = facts f low r in sym (s.first vs gate) ∙ digits_means vs (two_sums x y z u f).1.0 (two_sums x y z u f).1.1 s.same rest ∙ s.second vs gate)
    (λ f vs low r gate p. let s = facts f low r in digits_back vs (two_sums x y z u f).1.0 (two_sums x y z u f).1.1 s.same (s.first vs gate ∙ p ∙ sym (s.second vs gate)))
    (λ vs more low p. number_stable2 vs more low x hx.0 y hy.0 ∙ p ∙ sym (number_stable2 vs more low z hz.0 u hu.0))
  where
    up : (f : Cnf) → base ≤ f.vars → (l : List Lit) → HasDigits base w l → HasDigits f.vars w l
    up f low l h = (are_below-mono base f.vars low l h.0, h.1)

    facts : (f : Cnf) → base ≤ f.vars → IsTrue (is_in_range f) → SumsFacts f x y z u (two_sums x y z u f)
    facts f low r = sums-facts w f x y z u r (up f low x hx) (up f low y hy) (up f low z hz) (up f low u hu)

    number_stable2 : (vs more : List Bool) → base ≤ length vs → (p : List Lit) → IsTrue (are_below base p) → (q : List Lit) → IsTrue (are_below base q) → number (vs ++ more) p + number (vs ++ more) q ≡ number vs p + number vs q
    number_stable2 vs more low p hp q hq =
        let e = number_stable vs more p (are_below-mono base (length vs) low p hp) in
        let e' = number_stable vs more q (are_below-mono base (length vs) low q hq) in
        omega arith

-- what the clauses of a combinator say
abbrev pub LinkSays : Combinator → List Lit → List Lit → List Lit → List Lit → Lit → List Bool → Type 0
LinkSays Inside b b' a a' one vs = Unit {0}
LinkSays Child b b' a a' one vs = Unit {0}
LinkSays Next b b' a a' one vs = (number vs b' + number vs (one ∷ []) ≡ number vs b) × (number vs a + number vs (one ∷ []) ≡ number vs a')
LinkSays Later b b' a a' one vs = ((holds vs [] ≡ false) → number vs b' < number vs b) × (number vs b' + number vs a' ≡ number vs b + number vs a)

abbrev pub RunSays : List Combinator → (ℕ → List Lit) → (ℕ → List Lit) → Lit → List Bool → Type 0
RunSays [] b a one vs = Unit {0}
RunSays (link ∷ links) b a one vs = LinkSays link (b 0) (b 1) (a 0) (a 1) one vs × RunSays links (λ i. b (suc i)) (λ i. a (suc i)) one vs

link_item : (base w : ℕ) (link : Combinator) (b b' a a' : List Lit) (one : Lit) → HasDigits base w b → HasDigits base w b' → HasDigits base w a → HasDigits base w a' → IsTrue (is_below base one) →
    Item base (λ f. with_link link b b' a a' one f) (λ vs. LinkSays link b b' a a' one vs)
link_item base w Inside b b' a a' one hb hb' ha ha' h1 = no_item base
link_item base w Child b b' a a' one hb hb' ha ha' h1 = no_item base
link_item base w Next b b' a a' one hb hb' ha ha' h1 =
    both_items base (with_sum b' (one ∷ []) b) (with_sum a (one ∷ []) a') (λ vs. number vs b' + number vs (one ∷ []) ≡ number vs b) (λ vs. number vs a + number vs (one ∷ []) ≡ number vs a')
    (sum_item base b' (one ∷ []) b hb'.0 (one_below base one h1) hb.0 (let l = hb.1 in let l' = hb'.1 in omega arith))
    (sum_item base a (one ∷ []) a' ha.0 (one_below base one h1) ha'.0 (let l = ha.1 in let l' = ha'.1 in omega arith))
link_item base w Later b b' a a' one hb hb' ha ha' h1 =
    both_items base (with_less [] b' b) (with_equal_sums b' a' b a) (λ vs. (holds vs [] ≡ false) → number vs b' < number vs b) (λ vs. number vs b' + number vs a' ≡ number vs b + number vs a)
    (less_item base [] b' b refl hb'.0 hb.0)
    (equal_sums_item base w b' a' b a hb' ha' hb ha)

run_item : (base w : ℕ) (links : List Combinator) (b a : ℕ → List Lit) (one : Lit) → ((i : ℕ) → i ≤ length links → HasDigits base w (b i)) → ((i : ℕ) → i ≤ length links → HasDigits base w (a i)) → IsTrue (is_below base one) →
    Item base (λ f. with_run links b a one f) (λ vs. RunSays links b a one vs)
run_item base w [] b a one hb ha h1 = no_item base
run_item base w (link ∷ links) b a one hb ha h1 =
    both_items base (λ f. with_link link (b 0) (b 1) (a 0) (a 1) one f) (λ f. with_run links (λ i. b (suc i)) (λ i. a (suc i)) one f) (λ vs. LinkSays link (b 0) (b 1) (a 0) (a 1) one vs) (λ vs. RunSays links (λ i. b (suc i)) (λ i. a (suc i)) one vs)
    (link_item base w link (b 0) (b 1) (a 0) (a 1) one (hb 0 (omega arith)) (hb 1 (omega arith)) (ha 0 (omega arith)) (ha 1 (omega arith)) h1)
    (run_item base w links (λ i. b (suc i)) (λ i. a (suc i)) one (λ i h. hb (suc i) (omega arith)) (λ i h. ha (suc i) (omega arith)) h1)

one_number : (vs : List Bool) (one : Lit) → value vs one ≡ true → number vs (one ∷ []) ≡ 1
one_number vs one t = ap (λ b. bit b + 2 * 0) t

pub run_means : (links : List Combinator) (b a : ℕ → List Lit) (one : Lit) (vs : List Bool) → value vs one ≡ true → RunSays links b a one vs → RunFits links (λ i. number vs (b i)) (λ i. number vs (a i))
run_means [] b a one vs t says = tt
run_means (link ∷ links) b a one vs t says = (by link says.0, run_means links (λ i. b (suc i)) (λ i. a (suc i)) one vs t says.1)
  where
    by : (link : Combinator) → LinkSays link (b 0) (b 1) (a 0) (a 1) one vs → LinkNumbers link (number vs (b 0)) (number vs (b 1)) (number vs (a 0)) (number vs (a 1))
    by Inside s = tt
    by Child s = tt
    by Next s = let e = one_number vs one t in let s0 = s.0 in let s1 = s.1 in (omega arith, omega arith)
    by Later s = (s.0 refl, s.1)

run_back : (links : List Combinator) (b a : ℕ → List Lit) (one : Lit) (vs : List Bool) → value vs one ≡ true → RunFits links (λ i. number vs (b i)) (λ i. number vs (a i)) → RunSays links b a one vs
run_back [] b a one vs t fits = tt
run_back (link ∷ links) b a one vs t fits = (by link fits.0, run_back links (λ i. b (suc i)) (λ i. a (suc i)) one vs t fits.1)
  where
    by : (link : Combinator) → LinkNumbers link (number vs (b 0)) (number vs (b 1)) (number vs (a 0)) (number vs (a 1)) → LinkSays link (b 0) (b 1) (a 0) (a 1) one vs
    by Inside s = tt
    by Child s = tt
    by Next s = let e = one_number vs one t in let s0 = s.0 in let s1 = s.1 in (omega arith, omega arith)
    by Later s = (λ _. s.0, s.1)

-- one slot, one number
equal_item : (base w : ℕ) (l : Lit) (x y z u : List Lit) → IsTrue (is_below base l) → HasDigits base w x → HasDigits base w y → HasDigits base w z → HasDigits base w u →
    Item base (λ f. with_clauses f (implied l (same_digits x y ++ same_digits z u))) (λ vs. value vs l ≡ true → (number vs x ≡ number vs y) × (number vs z ≡ number vs u))
equal_item base w l x y z u hl hx hy hz hu =
    item_as base (λ f. with_clauses f (implied l (same_digits x y ++ same_digits z u))) (λ vs. value vs l ≡ true → IsTrue (all_hold vs (same_digits x y ++ same_digits z u))) (λ vs. value vs l ≡ true → (number vs x ≡ number vs y) × (number vs z ≡ number vs u))
    (λ vs h t. let p = list_all-append-parts (holds vs) (same_digits x y) (same_digits z u) (h t) in (digits_means vs x y (let a = hx.1 in let b = hy.1 in omega arith) p.0, digits_means vs z u (let a = hz.1 in let b = hu.1 in omega arith) p.1))
    (λ vs h t. let p = h t in list_all-append-from (holds vs) (same_digits x y) (same_digits z u) (digits_back vs x y (let a = hx.1 in let b = hy.1 in omega arith) p.0) (digits_back vs z u (let a = hz.1 in let b = hu.1 in omega arith) p.1))
    (implied_item base l (same_digits x y ++ same_digits z u) hl (list_all-append-from (are_below base) (same_digits x y) (same_digits z u) (digits_below base x y hx.0 hy.0) (digits_below base z u hz.0 hu.0)))

abbrev pub EqualSays : List Combinator → List Combinator → Names → ℕ → ℕ → List Bool → Type 0
EqualSays xl yl names i j vs = both_fit xl yl i j ≡ true → value vs (node_lit (suc (length yl)) together i j) ≡ true → (number vs (names.bx i) ≡ number vs (names.by j)) × (number vs (names.ax i) ≡ number vs (names.ay j))

abbrev pub OrderSays : Bool → Lit → Lit → List Lit → List Lit → List Bool → Type 0
OrderSays asked k l x y vs = asked ≡ true → (holds vs (negation k ∷ negation l ∷ []) ≡ false) → number vs x < number vs y

order_item : (base w : ℕ) (asked : Bool) (k l : Lit) (x y : List Lit) → IsTrue (is_below base k) → IsTrue (is_below base l) → HasDigits base w x → HasDigits base w y →
    Item base (λ f. when asked (with_less (negation k ∷ negation l ∷ []) x y) f) (OrderSays asked k l x y)
order_item base w asked k l x y hk hl hx hy = when_item base asked (with_less (negation k ∷ negation l ∷ []) x y) (λ vs. (holds vs (negation k ∷ negation l ∷ []) ≡ false) → number vs x < number vs y)
    (λ _. less_item base (negation k ∷ negation l ∷ []) x y (pair_below base (negation k) (negation l) (is_below-negation base k hk) (is_below-negation base l hl)) hx.0 hy.0)

abbrev pub asked_left : List Combinator → List Combinator → ℕ → ℕ → Bool
asked_left xl yl i j = not (goes_up_at xl (suc i)) && (right_fits xl yl i j && left_fits xl yl (suc i) j)

abbrev pub asked_right : List Combinator → List Combinator → ℕ → ℕ → Bool
asked_right xl yl i j = not (goes_up_at yl (suc j)) && (left_fits xl yl i j && right_fits xl yl i (suc j))

-- what the clauses of the numbers say
pub record CountsSay (xl yl : List Combinator) (names : Names) (vs : List Bool) : Type 0 where
  pub run_left : RunSays xl names.bx names.ax names.one vs
  pub run_right : RunSays yl names.by names.ay names.one vs
  pub equal : (i : ℕ) → i < suc (length xl) → (j : ℕ) → j < suc (length yl) → EqualSays xl yl names i j vs
  pub order_left : (i : ℕ) → i < length xl → (j : ℕ) → j < suc (length yl) → OrderSays (asked_left xl yl i j) (node_lit (suc (length yl)) right_alone i j) (node_lit (suc (length yl)) left_alone (suc i) j) (names.bx (suc i)) (names.by j) vs
  pub order_right : (i : ℕ) → i < suc (length xl) → (j : ℕ) → j < length yl → OrderSays (asked_right xl yl i j) (node_lit (suc (length yl)) left_alone i j) (node_lit (suc (length yl)) right_alone i (suc j)) (names.by (suc j)) (names.bx i) vs

pub counts_item : (base w : ℕ) (xl yl : List Combinator) (names : Names) → NamesBelow base (length xl) (length yl) w names → Item base (λ f. with_counts xl yl names f) (CountsSay xl yl names)
counts_item base w xl yl names h =
    item_as base (λ f. with_counts xl yl names f) (λ vs. (((RunSays xl names.bx names.ax names.one vs × RunSays yl names.by names.ay names.one vs)
    × ((i : ℕ) → i < suc (length xl) → (j : ℕ) → j < suc (length yl) → EqualSays xl yl names i j vs))
    × ((i : ℕ) → i < length xl → (j : ℕ) → j < suc (length yl) → OrderSays (asked_left xl yl i j) (node_lit (suc (length yl)) right_alone i j) (node_lit (suc (length yl)) left_alone (suc i) j) (names.bx (suc i)) (names.by j) vs))
    × ((i : ℕ) → i < suc (length xl) → (j : ℕ) → j < length yl → OrderSays (asked_right xl yl i j) (node_lit (suc (length yl)) left_alone i j) (node_lit (suc (length yl)) right_alone i (suc j)) (names.by (suc j)) (names.bx i) vs))
    (CountsSay xl yl names)
    (λ vs p. record { run_left = p.0.0.0.0; run_right = p.0.0.0.1; equal = p.0.0.1; order_left = p.0.1; order_right = p.1 })
    (λ vs s. ((((s.run_left, s.run_right), s.equal), s.order_left), s.order_right))
    (both_items base _ _ _ _ (both_items base _ _ _ _ (both_items base _ _ _ _ (both_items base _ _ _ _
    (run_item base w xl names.bx names.ax names.one h.bx h.ax h.one)
    (run_item base w yl names.by names.ay names.one h.by h.ay h.one))
    (below_item base (suc (length xl)) (λ i f. steps_below (suc (length yl)) (with_equal xl yl names i) f) (λ i vs. (j : ℕ) → j < suc (length yl) → EqualSays xl yl names i j vs) (λ i hi.
    below_item base (suc (length yl)) (with_equal xl yl names i) (λ j vs. EqualSays xl yl names i j vs) (λ j hj.
    when_item base (both_fit xl yl i j) _ (λ vs. value vs (node_lit (suc (length yl)) together i j) ≡ true → (number vs (names.bx i) ≡ number vs (names.by j)) × (number vs (names.ax i) ≡ number vs (names.ay j)))
    (λ _. equal_item base w (node_lit (suc (length yl)) together i j) (names.bx i) (names.by j) (names.ax i) (names.ay j) (node_below (length xl) (length yl) together i j base (omega arith) (omega arith) h.nodes) (h.bx i (omega arith)) (h.by j (omega arith)) (h.ax i (omega arith)) (h.ay j (omega arith)))))))
    (below_item base (length xl) (λ i f. steps_below (suc (length yl)) (with_order_left xl yl names i) f) (λ i vs. (j : ℕ) → j < suc (length yl) → OrderSays (asked_left xl yl i j) (node_lit (suc (length yl)) right_alone i j) (node_lit (suc (length yl)) left_alone (suc i) j) (names.bx (suc i)) (names.by j) vs) (λ i hi.
    below_item base (suc (length yl)) (with_order_left xl yl names i) (λ j vs. OrderSays (asked_left xl yl i j) (node_lit (suc (length yl)) right_alone i j) (node_lit (suc (length yl)) left_alone (suc i) j) (names.bx (suc i)) (names.by j) vs) (λ j hj.
    order_item base w (asked_left xl yl i j) (node_lit (suc (length yl)) right_alone i j) (node_lit (suc (length yl)) left_alone (suc i) j) (names.bx (suc i)) (names.by j)
    (node_below (length xl) (length yl) right_alone i j base (omega arith) (omega arith) h.nodes) (node_below (length xl) (length yl) left_alone (suc i) j base (omega arith) (omega arith) h.nodes) (h.bx (suc i) (omega arith)) (h.by j (omega arith))))))
    (below_item base (suc (length xl)) (λ i f. steps_below (length yl) (with_order_right xl yl names i) f) (λ i vs. (j : ℕ) → j < length yl → OrderSays (asked_right xl yl i j) (node_lit (suc (length yl)) left_alone i j) (node_lit (suc (length yl)) right_alone i (suc j)) (names.by (suc j)) (names.bx i) vs) (λ i hi.
    below_item base (length yl) (with_order_right xl yl names i) (λ j vs. OrderSays (asked_right xl yl i j) (node_lit (suc (length yl)) left_alone i j) (node_lit (suc (length yl)) right_alone i (suc j)) (names.by (suc j)) (names.bx i) vs) (λ j hj.
    order_item base w (asked_right xl yl i j) (node_lit (suc (length yl)) left_alone i j) (node_lit (suc (length yl)) right_alone i (suc j)) (names.by (suc j)) (names.bx i)
    (node_below (length xl) (length yl) left_alone i j base (omega arith) (omega arith) h.nodes) (node_below (length xl) (length yl) right_alone i (suc j) base (omega arith) (omega arith) h.nodes) (h.by (suc j) (omega arith)) (h.bx i (omega arith))))))

-- both nodes true: the clause is not satisfied by them
both_false : (vs : List Bool) (k l : Lit) → value vs k ≡ true → value vs l ≡ true → holds vs (negation k ∷ negation l ∷ []) ≡ false
both_false vs k l hk hl = ap (λ b. b || (value vs (negation l) || false)) (value-negation vs k ∙ ap not hk) ∙ ap (λ b. b || false) (value-negation vs l ∙ ap not hl)

false_both : (vs : List Bool) (k l : Lit) → holds vs (negation k ∷ negation l ∷ []) ≡ false → (value vs k ≡ true) × (value vs l ≡ true)
false_both vs k l h = by (value vs k) (value vs l) (ap (λ b. b || (not (value vs l) || false)) (sym (value-negation vs k)) ∙ ap (λ b. value vs (negation k) || (b || false)) (sym (value-negation vs l)) ∙ h)
  where
    by : (a b : Bool) → (not a || (not b || false)) ≡ false → (a ≡ true) × (b ≡ true)
    by true true e = (refl, refl)
    by true false e = absurd (false≢true (sym e))
    by false b e = absurd (false≢true (sym e))

abbrev pub numbers : List Bool → (ℕ → List Lit) → ℕ → ℕ
numbers vs lits i = number vs (lits i)

three_true : (a b c : Bool) → a ≡ false → b ≡ true → c ≡ true → (not a && (b && c)) ≡ true
three_true false true true e e' e'' = refl
three_true true b c e e' e'' = absurd (false≢true (sym e))
three_true false false c e e' e'' = absurd (false≢true e')
three_true false true false e e' e'' = absurd (false≢true e'')

not_first : (a b : Bool) → (not a && b) ≡ true → a ≡ false
not_first true b e = absurd (false≢true e)
not_first false b e = refl

-- what they say is `Counted`
pub counted_means : (xl yl : List Combinator) (names : Names) (vs : List Bool) → value vs names.one ≡ true → Joined xl yl (true_nodes (suc (length yl)) vs) → CountsSay xl yl names vs →
    Counted xl yl (true_nodes (suc (length yl)) vs) (numbers vs names.bx) (numbers vs names.ax) (numbers vs names.by) (numbers vs names.ay)
counted_means xl yl names vs t joined says = record {
  run_left = run_means xl names.bx names.ax names.one vs t says.run_left;
  run_right = run_means yl names.by names.ay names.one vs t says.run_right;
  equal = λ i j hi hj on. says.equal i (omega arith) j (omega arith) (joined.both i j hi hj on) on;
  order_left = λ i j hi hj on on' side. says.order_left i hi j (omega arith) (three_true _ _ _ side (joined.right i j (omega arith) hj on) (joined.left (suc i) j (omega arith) hj on'))
      (both_false vs (node_lit (suc (length yl)) right_alone i j) (node_lit (suc (length yl)) left_alone (suc i) j) on on');
  order_right = λ i j hi hj on on' side. says.order_right i (omega arith) j hj (three_true _ _ _ side (joined.left i j hi (omega arith) on) (joined.right i (suc j) hi (omega arith) on'))
      (both_false vs (node_lit (suc (length yl)) left_alone i j) (node_lit (suc (length yl)) right_alone i (suc j)) on on');
}

pub counted_back : (xl yl : List Combinator) (names : Names) (vs : List Bool) → value vs names.one ≡ true →
    Counted xl yl (true_nodes (suc (length yl)) vs) (numbers vs names.bx) (numbers vs names.ax) (numbers vs names.by) (numbers vs names.ay) → CountsSay xl yl names vs
counted_back xl yl names vs t c = record {
  run_left = run_back xl names.bx names.ax names.one vs t c.run_left;
  run_right = run_back yl names.by names.ay names.one vs t c.run_right;
  equal = λ i hi j hj fits on. c.equal i j (omega arith) (omega arith) on;
  order_left = λ i hi j hj asked none. let on = false_both vs (node_lit (suc (length yl)) right_alone i j) (node_lit (suc (length yl)) left_alone (suc i) j) none in
      c.order_left i j hi (omega arith) on.0 on.1 (not_first (goes_up_at xl (suc i)) _ asked);
  order_right = λ i hi j hj asked none. let on = false_both vs (node_lit (suc (length yl)) left_alone i j) (node_lit (suc (length yl)) right_alone i (suc j)) none in
      c.order_right i j (omega arith) hj on.0 on.1 (not_first (goes_up_at yl (suc j)) _ asked);
}
