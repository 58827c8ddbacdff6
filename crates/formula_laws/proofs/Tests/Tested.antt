-- What the clauses of tests of positions say.
use Rattle.std.proofs.Common.{Bool, IsTrue, List, [], ap, arith, false, length, not, refl, subst, sym, true, ℕ, ◌&&◌, ◌++◌, ◌+◌, ◌||◌, ◌↔◌, ◌∙◌, ◌∷◌, ◌≡◌, ◌≤◌}
use Rattle.std.proofs.lemmas.Bool.{and_from, and_parts, false≢true}
use Rattle.std.proofs.lemmas.List.Elements.{All-cons, All-head, All-nil, All-tail}
use Rattle.std.specs.Bool.{MatchBool}
use Rattle.std.specs.List.{All, list_all}
use Rattle.formula_laws.proofs.Items.Items.{Item, both_items, clauses_item, gate_item, no_item}
use Rattle.formula_laws.proofs.Items.MoreItems.{item_as}
use Rattle.formula_laws.proofs.Tests.Gates.{GateFacts, nth_gate, zeros_gate}
use Rattle.formula_laws.specs.Positions.{AreSmallTests, IsSmallTest, is_root_clauses, test_clauses, with_nth, with_positions, with_test, with_tested, with_zeros}
use Rattle.cnf.proofs.ForCallers.{is_below-mono, is_below-negation, one_below, pair_below, value-append, value-negation}
use Rattle.cnf.specs.Cnf.{Cnf}
use Rattle.cnf.specs.Gates.{with_clauses}
use Rattle.cnf.specs.Lits.{are_below, is_below, negation}
use Rattle.cnf.specs.Sums.{number}
use Rattle.cnf.specs.Values.{all_hold, holds, value}
use Rattle.cnf.specs.declared.lit.Lit.{Lit}
use Rattle.css_model.specs.Documents.Matching.{IsNth}
use Rattle.css_model.specs.declared.position.AnB.{AnB}
use Rattle.css_model.specs.declared.selector.Simple.{Simple}
use Rattle.css_model.specs.declared.selector.Test.{Test}
use Rattle.css_model.specs.declared.selector.Test.TheVariants.{Any, Attr, Empty, Id, Kind, Nth, NthLast, OnlyChild, Root, State}
use Rattle.slot_plan.specs.Positions.{PositionFits, PositionHolds, is_position}

-- what the clauses of a test say
abbrev pub TestSays : Bool → Bool → Type 0 → Bool → Bool → Type 0
TestSays true false G r c = G × (r ≡ true → c ≡ true)
TestSays true true G r c = (G → r ≡ true) × (G → c ≡ false)
TestSays false false G r c = G
TestSays false true G r c = G → ⊥

first_of : (vs : List Bool) (a : Lit) → IsTrue (holds vs (a ∷ [])) → value vs a ≡ true
first_of vs a h = by (value vs a) h
  where
    by : (x : Bool) → IsTrue (x || false) → x ≡ true
    by true h = refl
    by false h = h

of_first : (vs : List Bool) (a : Lit) → value vs a ≡ true → IsTrue (holds vs (a ∷ []))
of_first vs a e = ap (λ b. b || false) e

implies : (vs : List Bool) (l : Lit) (rest : List Lit) → IsTrue (holds vs (negation l ∷ rest)) → value vs l ≡ true → IsTrue (holds vs rest)
implies vs l rest h t = subst (λ b. IsTrue (b || holds vs rest)) (value-negation vs l ∙ ap not t) h

implies_back : (vs : List Bool) (l : Lit) (rest : List Lit) → (value vs l ≡ true → IsTrue (holds vs rest)) → IsTrue (holds vs (negation l ∷ rest))
implies_back vs l rest h = subst (λ b. IsTrue (b || holds vs rest)) (sym (value-negation vs l)) (by (value vs l) h)
  where
    by : (b : Bool) → (b ≡ true → IsTrue (holds vs rest)) → IsTrue (not b || holds vs rest)
    by true h = h refl
    by false h = refl

is_false : (vs : List Bool) (l : Lit) → IsTrue (holds vs (negation l ∷ [])) → value vs l ≡ false
is_false vs l h = no_not (value vs l) (sym (value-negation vs l) ∙ first_of vs (negation l) h)
  where
    no_not : (b : Bool) → not b ≡ true → b ≡ false
    no_not true e = sym e
    no_not false e = refl

false_is : (vs : List Bool) (l : Lit) → value vs l ≡ false → IsTrue (holds vs (negation l ∷ []))
false_is vs l e = of_first vs (negation l) (value-negation vs l ∙ ap not e)

test_means : (last negated : Bool) (r child g : Lit) (vs : List Bool) (G : Type 0) → (value vs g ≡ true) ↔ G → IsTrue (all_hold vs (test_clauses last negated r child g)) → TestSays last negated G (value vs r) (value vs child)
test_means true false r child g vs G is h =
    let p = and_parts (holds vs (g ∷ [])) (all_hold vs ((negation r ∷ child ∷ []) ∷ [])) h in
    let q = and_parts (holds vs (negation r ∷ child ∷ [])) true p.1 in
    (is.0 (first_of vs g p.0), λ t. first_of vs child (implies vs r (child ∷ []) q.0 t))
test_means true true r child g vs G is h =
    let p = and_parts (holds vs (negation g ∷ r ∷ [])) (all_hold vs ((negation g ∷ negation child ∷ []) ∷ [])) h in
    let q = and_parts (holds vs (negation g ∷ negation child ∷ [])) true p.1 in
    (λ t. first_of vs r (implies vs g (r ∷ []) p.0 (is.1 t)), λ t. is_false vs child (implies vs g (negation child ∷ []) q.0 (is.1 t)))
test_means false false r child g vs G is h = is.0 (first_of vs g (and_parts (holds vs (g ∷ [])) true h).0)
test_means false true r child g vs G is h = λ t. false≢true (sym (is_false vs g (and_parts (holds vs (negation g ∷ [])) true h).0) ∙ is.1 t)

test_back : (last negated : Bool) (r child g : Lit) (vs : List Bool) (G : Type 0) → (value vs g ≡ true) ↔ G → TestSays last negated G (value vs r) (value vs child) → IsTrue (all_hold vs (test_clauses last negated r child g))
test_back true false r child g vs G is s = and_from (holds vs (g ∷ [])) _ (of_first vs g (is.1 s.0)) (and_from (holds vs (negation r ∷ child ∷ [])) true (implies_back vs r (child ∷ []) (λ t. of_first vs child (s.1 t))) refl)
test_back true true r child g vs G is s = and_from (holds vs (negation g ∷ r ∷ [])) _ (implies_back vs g (r ∷ []) (λ t. of_first vs r (s.0 (is.0 t)))) (and_from (holds vs (negation g ∷ negation child ∷ [])) true (implies_back vs g (negation child ∷ []) (λ t. false_is vs child (s.1 (is.0 t)))) refl)
test_back false false r child g vs G is s = and_from (holds vs (g ∷ [])) true (of_first vs g (is.1 s)) refl
test_back false true r child g vs G is s = and_from (holds vs (negation g ∷ [])) true (implies_back vs g [] (λ t. absurd (s (is.0 t)))) refl

test_below : (v : ℕ) (last negated : Bool) (r child g : Lit) → IsTrue (is_below v r) → IsTrue (is_below v child) → IsTrue (is_below v g) → IsTrue (list_all (are_below v) (test_clauses last negated r child g))
test_below v true false r child g hr hc hg = and_from (are_below v (g ∷ [])) _ (one_below v g hg) (and_from (are_below v (negation r ∷ child ∷ [])) true (pair_below v (negation r) child (is_below-negation v r hr) hc) refl)
test_below v true true r child g hr hc hg = and_from (are_below v (negation g ∷ r ∷ [])) _ (pair_below v (negation g) r (is_below-negation v g hg) hr) (and_from (are_below v (negation g ∷ negation child ∷ [])) true (pair_below v (negation g) (negation child) (is_below-negation v g hg) (is_below-negation v child hc)) refl)
test_below v false false r child g hr hc hg = and_from (are_below v (g ∷ [])) true (one_below v g hg) refl
test_below v false true r child g hr hc hg = and_from (are_below v (negation g ∷ [])) true (one_below v (negation g) (is_below-negation v g hg)) refl

says_same : (last negated : Bool) (G H : Type 0) (r r' c c' : Bool) → G ↔ H → r ≡ r' → c ≡ c' → TestSays last negated G r c → TestSays last negated H r' c'
says_same true false G H r r' c c' is e e' s = (is.0 s.0, λ t. sym e' ∙ s.1 (e ∙ t))
says_same true true G H r r' c c' is e e' s = (λ h. sym e ∙ s.0 (is.1 h), λ h. sym e' ∙ s.1 (is.1 h))
says_same false false G H r r' c c' is e e' s = is.0 s
says_same false true G H r r' c c' is e e' s = λ h. s (is.1 h)

value_same : (base : ℕ) (l : Lit) → IsTrue (is_below base l) → (vs more : List Bool) → base ≤ length vs → value (vs ++ more) l ≡ value vs l
value_same base l h vs more low = value-append vs more l (is_below-mono base (length vs) low l h)

-- a test, as a part of a formula
tested_item : (base : ℕ) (last negated : Bool) (r child : Lit) (gate : Cnf → Cnf × Lit) (G : List Bool → Type 0) → IsTrue (is_below base r) → IsTrue (is_below base child) → GateFacts base gate G →
    Item base (λ f. with_tested last negated r child gate f) (λ vs. TestSays last negated (G vs) (value vs r) (value vs child))
tested_item base last negated r child gate G hr hc g =
    gate_item base gate (λ l. test_clauses last negated r child l) (λ vs. TestSays last negated (G vs) (value vs r) (value vs child))
    g.extends g.grows
    (λ f low i. let grown = g.grows f in test_below (gate f).0.vars last negated r child (gate f).1 (is_below-mono base (gate f).0.vars (omega arith) r hr) (is_below-mono base (gate f).0.vars (omega arith) child hc) (g.below f low i))
    (λ f vs low i h cs. test_means last negated r child (gate f).1 vs (G vs) (g.means f vs low i h) cs)
    (λ f vs low i h s. test_back last negated r child (gate f).1 vs (G vs) (g.means f vs low i h) s)
    (λ vs more low s. let st = g.stable vs more low in says_same last negated (G vs) (G (vs ++ more)) (value vs r) (value (vs ++ more) r) (value vs child) (value (vs ++ more) child) (st.1, st.0) (sym (value_same base r hr vs more low)) (sym (value_same base child hc vs more low)) s)

-- what the clauses say of a test, by the numbers before and behind
abbrev pub PositionSays : Bool → Bool → Bool → Bool → ℕ → ℕ → Test → Type 0
PositionSays last negated r c before after (Nth x) = TestSays last negated (IsNth x (before + 1)) r c
PositionSays last negated r c before after (NthLast x) = TestSays last negated (IsNth x (after + 1)) r c
PositionSays last negated r c before after OnlyChild = TestSays last negated ((before ≡ 0) × (after ≡ 0)) r c
PositionSays last negated r c before after Root = MatchBool negated ((r && last) ≡ true → ⊥) ((r && last) ≡ true)
PositionSays last negated r c before after _ = Unit {0}

root_means : (last negated : Bool) (r : Lit) (vs : List Bool) → IsTrue (all_hold vs (is_root_clauses last negated r)) → MatchBool negated ((value vs r && last) ≡ true → ⊥) ((value vs r && last) ≡ true)
root_means true false r vs h = subst (λ b. (b && true) ≡ true) (sym (first_of vs r (and_parts (holds vs (r ∷ [])) true h).0)) refl
root_means true true r vs h = λ t. false≢true (sym (ap (λ b. b && true) (is_false vs r (and_parts (holds vs (negation r ∷ [])) true h).0)) ∙ t)
root_means false false r vs h = absurd (false≢true h)
root_means false true r vs h = λ t. no (value vs r) t
  where
    no : (b : Bool) → (b && false) ≡ true → ⊥
    no true e = false≢true e
    no false e = false≢true e

root_back : (last negated : Bool) (r : Lit) (vs : List Bool) → MatchBool negated ((value vs r && last) ≡ true → ⊥) ((value vs r && last) ≡ true) → IsTrue (all_hold vs (is_root_clauses last negated r))
root_back true false r vs s = and_from (holds vs (r ∷ [])) true (of_first vs r (by (value vs r) s)) refl
  where
    by : (b : Bool) → (b && true) ≡ true → b ≡ true
    by true e = refl
    by false e = e
root_back true true r vs s = and_from (holds vs (negation r ∷ [])) true (false_is vs r (by (value vs r) s)) refl
  where
    by : (b : Bool) → ((b && true) ≡ true → ⊥) → b ≡ false
    by true never = absurd (never refl)
    by false never = refl
root_back false false r vs s = absurd (by (value vs r) s)
  where
    by : (b : Bool) → (b && false) ≡ true → ⊥
    by true e = false≢true e
    by false e = false≢true e
root_back false true r vs s = refl

root_below : (v : ℕ) (last negated : Bool) (r : Lit) → IsTrue (is_below v r) → IsTrue (list_all (are_below v) (is_root_clauses last negated r))
root_below v true false r h = and_from (are_below v (r ∷ [])) true (one_below v r h) refl
root_below v true true r h = and_from (are_below v (negation r ∷ [])) true (one_below v (negation r) (is_below-negation v r h)) refl
root_below v false false r h = refl
root_below v false true r h = refl

test_item : (base : ℕ) (last negated : Bool) (r child : Lit) (b a : List Lit) (t : Test) → IsTrue (is_below base r) → IsTrue (is_below base child) → IsTrue (are_below base b) → IsTrue (are_below base a) → IsSmallTest t →
    Item base (λ f. with_test last negated r child b a t f) (λ vs. PositionSays last negated (value vs r) (value vs child) (number vs b) (number vs a) t)
test_item base last negated r child b a (Nth x) hr hc hb ha small = tested_item base last negated r child (with_nth x.a x.b b) (λ vs. IsNth x (number vs b + 1)) hr hc (nth_gate base x b hb small)
test_item base last negated r child b a (NthLast x) hr hc hb ha small = tested_item base last negated r child (with_nth x.a x.b a) (λ vs. IsNth x (number vs a + 1)) hr hc (nth_gate base x a ha small)
test_item base last negated r child b a OnlyChild hr hc hb ha small = tested_item base last negated r child (with_zeros b a) (λ vs. (number vs b ≡ 0) × (number vs a ≡ 0)) hr hc (zeros_gate base b a hb ha)
test_item base last negated r child b a Root hr hc hb ha small =
    item_as base (λ f. with_clauses f (is_root_clauses last negated r)) (λ vs. IsTrue (all_hold vs (is_root_clauses last negated r))) (λ vs. MatchBool negated ((value vs r && last) ≡ true → ⊥) ((value vs r && last) ≡ true))
    (root_means last negated r) (root_back last negated r) (clauses_item base (is_root_clauses last negated r) (root_below base last negated r hr))
test_item base last negated r child b a Any hr hc hb ha small = no_item base
test_item base last negated r child b a (Kind name) hr hc hb ha small = no_item base
test_item base last negated r child b a (Id name) hr hc hb ha small = no_item base
test_item base last negated r child b a (Attr test) hr hc hb ha small = no_item base
test_item base last negated r child b a Empty hr hc hb ha small = no_item base
test_item base last negated r child b a (State flag) hr hc hb ha small = no_item base

-- of all tests of a compound
abbrev pub CompoundSays : Bool → Bool → Bool → ℕ → ℕ → List Simple → Type 0
CompoundSays last r c before after [] = Unit {0}
CompoundSays last r c before after (s ∷ ss) = PositionSays last s.negated r c before after s.test × CompoundSays last r c before after ss

pub compound_item : (base : ℕ) (last : Bool) (r child : Lit) (b a : List Lit) (ss : List Simple) → IsTrue (is_below base r) → IsTrue (is_below base child) → IsTrue (are_below base b) → IsTrue (are_below base a) → AreSmallTests ss →
    Item base (λ f. with_positions last r child b a ss f) (λ vs. CompoundSays last (value vs r) (value vs child) (number vs b) (number vs a) ss)
compound_item base last r child b a [] hr hc hb ha small = no_item base
compound_item base last r child b a (s ∷ ss) hr hc hb ha small =
    both_items base (λ f. with_test last s.negated r child b a s.test f) (λ f. with_positions last r child b a ss f)
    (λ vs. PositionSays last s.negated (value vs r) (value vs child) (number vs b) (number vs a) s.test) (λ vs. CompoundSays last (value vs r) (value vs child) (number vs b) (number vs a) ss)
    (test_item base last s.negated r child b a s.test hr hc hb ha small.0) (compound_item base last r child b a ss hr hc hb ha small.1)

-- in the root all numbers are 0, so the gate speaks of position 1 there
abbrev pub AtRoot : Bool → Bool → Type 0 → Type 0 → Type 0
AtRoot r last G H = r ≡ true → last ≡ true → G ↔ H

says_fits : (last negated r c : Bool) (G H : Type 0) → AtRoot r last G H → TestSays last negated G r c → MatchBool negated (MatchBool (r && last) ((c ≡ true) × H) G → ⊥) (MatchBool (r && last) ((c ≡ true) × H) G)
says_fits true false true c G H at s = (s.1 refl, (at refl refl).0 s.0)
says_fits true false false c G H at s = s.0
says_fits true true true c G H at s = λ h. false≢true (sym (s.1 ((at refl refl).1 h.1)) ∙ h.0)
says_fits true true false c G H at s = λ h. false≢true (s.0 h)
says_fits false false true c G H at s = s
says_fits false false false c G H at s = s
says_fits false true true c G H at s = s
says_fits false true false c G H at s = s

fits_says : (last negated r c : Bool) (G H : Type 0) → AtRoot r last G H → MatchBool negated (MatchBool (r && last) ((c ≡ true) × H) G → ⊥) (MatchBool (r && last) ((c ≡ true) × H) G) → TestSays last negated G r c
fits_says true false true c G H at s = ((at refl refl).1 s.1, λ _. s.0)
fits_says true false false c G H at s = (s, λ e. absurd (false≢true e))
fits_says true true true c G H at s = (λ _. refl, λ g. by c (λ e. s (e, (at refl refl).0 g)))
  where
    by : (c : Bool) → (c ≡ true → ⊥) → c ≡ false
    by true never = absurd (never refl)
    by false never = refl
fits_says true true false c G H at s = (λ g. absurd (s g), λ g. absurd (s g))
fits_says false false true c G H at s = s
fits_says false false false c G H at s = s
fits_says false true true c G H at s = s
fits_says false true false c G H at s = s

abbrev pub ZeroAtRoot : Bool → Bool → ℕ → ℕ → Type 0
ZeroAtRoot r last before after = r ≡ true → last ≡ true → (before ≡ 0) × (after ≡ 0)

nth_at : (x : AnB) (n : ℕ) → n ≡ 0 → IsNth x (n + 1) ↔ IsNth x 1
nth_at x n e = (λ h. subst (λ (k : ℕ). IsNth x (k + 1)) e h, λ h. subst (λ (k : ℕ). IsNth x (k + 1)) (sym e) h)

-- `:only-child` in the root asks no number
with_unit : (negated b : Bool) (P G : Type 0) → MatchBool negated (MatchBool b (P × Unit {0}) G → ⊥) (MatchBool b (P × Unit {0}) G) → MatchBool negated (MatchBool b P G → ⊥) (MatchBool b P G)
with_unit true true P G h = λ p. h (p, tt)
with_unit true false P G h = h
with_unit false true P G h = h.0
with_unit false false P G h = h

from_plain : (negated b : Bool) (P G : Type 0) → MatchBool negated (MatchBool b P G → ⊥) (MatchBool b P G) → MatchBool negated (MatchBool b (P × Unit {0}) G → ⊥) (MatchBool b (P × Unit {0}) G)
from_plain true true P G h = λ p. h p.0
from_plain true false P G h = h
from_plain false true P G h = (h, tt)
from_plain false false P G h = h

position_means : (last r c : Bool) (before after : ℕ) (s : Simple) → ZeroAtRoot r last before after → PositionSays last s.negated r c before after s.test → PositionFits (r && last) c before after s
position_means last r c before after s zero' says asked = by s.negated s.test asked says
  where
    by : (n : Bool) (t : Test) → is_position t ≡ true → PositionSays last n r c before after t → MatchBool n (PositionHolds (r && last) c before after t → ⊥) (PositionHolds (r && last) c before after t)
    by n (Nth x) e s = says_fits last n r c (IsNth x (before + 1)) (IsNth x 1) (λ e e'. nth_at x before (zero' e e').0) s
    by n (NthLast x) e s = says_fits last n r c (IsNth x (after + 1)) (IsNth x 1) (λ e e'. nth_at x after (zero' e e').1) s
    by n OnlyChild e s = with_unit n (r && last) (c ≡ true) ((before ≡ 0) × (after ≡ 0)) (says_fits last n r c ((before ≡ 0) × (after ≡ 0)) (Unit {0}) (λ e e'. (λ _. tt, λ _. zero' e e')) s)
    by n Root e s = s
    by n Any e s = absurd (false≢true e)
    by n (Kind name) e s = absurd (false≢true e)
    by n (Id name) e s = absurd (false≢true e)
    by n (Attr test) e s = absurd (false≢true e)
    by n Empty e s = absurd (false≢true e)
    by n (State flag) e s = absurd (false≢true e)

position_back : (last r c : Bool) (before after : ℕ) (s : Simple) → ZeroAtRoot r last before after → PositionFits (r && last) c before after s → PositionSays last s.negated r c before after s.test
position_back last r c before after s zero' fits = by s.negated s.test fits
  where
    by : (n : Bool) (t : Test) → (is_position t ≡ true → MatchBool n (PositionHolds (r && last) c before after t → ⊥) (PositionHolds (r && last) c before after t)) → PositionSays last n r c before after t
    by n (Nth x) s = fits_says last n r c (IsNth x (before + 1)) (IsNth x 1) (λ e e'. nth_at x before (zero' e e').0) (s refl)
    by n (NthLast x) s = fits_says last n r c (IsNth x (after + 1)) (IsNth x 1) (λ e e'. nth_at x after (zero' e e').1) (s refl)
    by n OnlyChild s = fits_says last n r c ((before ≡ 0) × (after ≡ 0)) (Unit {0}) (λ e e'. (λ _. tt, λ _. zero' e e')) (from_plain n (r && last) (c ≡ true) ((before ≡ 0) × (after ≡ 0)) (s refl))
    by n Root s = s refl
    by n Any s = tt
    by n (Kind name) s = tt
    by n (Id name) s = tt
    by n (Attr test) s = tt
    by n Empty s = tt
    by n (State flag) s = tt

pub compound_means : (last r c : Bool) (before after : ℕ) (ss : List Simple) → ZeroAtRoot r last before after → CompoundSays last r c before after ss → All (PositionFits (r && last) c before after) ss
compound_means last r c before after [] zero' says = All-nil (PositionFits (r && last) c before after)
compound_means last r c before after (s ∷ ss) zero' says = All-cons (PositionFits (r && last) c before after) s ss (position_means last r c before after s zero' says.0) (compound_means last r c before after ss zero' says.1)

pub compound_back : (last r c : Bool) (before after : ℕ) (ss : List Simple) → ZeroAtRoot r last before after → All (PositionFits (r && last) c before after) ss → CompoundSays last r c before after ss
compound_back last r c before after [] zero' fits = tt
compound_back last r c before after (s ∷ ss) zero' fits = (position_back last r c before after s zero' (All-head (PositionFits (r && last) c before after) s ss fits), compound_back last r c before after ss zero' (All-tail (PositionFits (r && last) c before after) s ss fits))
