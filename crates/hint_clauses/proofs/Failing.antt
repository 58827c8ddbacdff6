-- Hints on tests of positions that must not hold.
use Rattle.std.proofs.Common.{Bool, IsTrue, List, Option, [], ap, arith, drop, false, get_or, length, refl, subst, sym, take, true, ℕ, ◌++◌, ◌-◌, ◌∙◌, ◌∷◌, ◌≡◌, ◌≤◌}
use Rattle.std.proofs.lemmas.Bool.{and_from}
use Rattle.std.proofs.lemmas.List.{take_all}
use Rattle.std.specs.List.{AllByRecursion, cons_option, filter_map, list_any}
use Rattle.std.specs.Prelude.{None, Some, IfSome, if◌then◌else◌, ◌==◌}
use Rattle.cnf.proofs.ForCallers.{are_below-mono, at_least-grows, is_below-mono, one_below}
use Rattle.cnf.specs.Cnf.{Cnf}
use Rattle.cnf.specs.Gates.{with_clauses}
use Rattle.cnf.specs.Lits.{are_below, is_below}
use Rattle.cnf.specs.declared.lit.Lit.{Lit}
use Rattle.css_model.specs.Documents.SelectorParts.{SelectorParts}
use Rattle.css_model.specs.declared.selector.Combinator.{Combinator}
use Rattle.css_model.specs.declared.selector.Simple.{Simple}
use Rattle.formula_laws.specs.Asked.{are_joined}
use Rattle.formula_laws.specs.Counts.{when}
use Rattle.formula_laws.specs.Path.{only_if}
use Rattle.formula_laws.specs.Refused.{failing, given_clause, is_met, met_clause, refused_test, with_each, with_refused_compound, with_refused_test}
use Rattle.formula_laws.specs.declared.count.Count.{Count}
use Rattle.formula_laws.specs.declared.joint.Joint.{Joint}
use Rattle.formula_laws.specs.declared.refused.Refused.{Refused}
use Rattle.grid_laws.specs.Solved.{nth_compound}
use Rattle.hint_clauses.specs.Chains.{row_at}
use Rattle.hint_clauses.specs.Known.{AreBrief, AreNear, HasPlaces}
use Rattle.hint_clauses.specs.Refusals.{compound_step, test_step}
use Rattle.hint_clauses.specs.declared.refusals.KnownRun.{KnownRun}
use Rattle.remainders.specs.declared.remainder.Remainder.{Remainder}
use Rattle.sibling_clauses.proofs.ForCallers.{Grows, added_none, added_twice, when_grows}

-- runs that are near
pub near_places : (vars : ℕ) (joints : List Joint) → AreNear vars joints → AllByRecursion HasPlaces joints
near_places vars [] h = tt
near_places vars (j ∷ js) h = (h.0.0, near_places vars js h.1)

pub near_more : (m n : ℕ) (joints : List Joint) → AreNear m joints → m ≤ n → AreNear n joints
near_more m n [] h le = tt
near_more m n (j ∷ js) h le = ((h.0.0, given j.given h.0.1), near_more m n js h.1 le)
  where
    given : (o : Option Lit) → IfSome o (λ l. IsTrue (is_below m l)) → IfSome o (λ l. IsTrue (is_below n l))
    given None h = tt
    given (Some l) h = is_below-mono m n le l h

-- the root's literal is in range
pub root_below : (v : ℕ) (b : Bool) (root : Lit) (others : List Lit) → others ≡ only_if b (root ∷ []) → IsTrue (is_below v root) → IsTrue (are_below v others)
root_below v b root others e h = subst (λ ls. IsTrue (are_below v ls)) (sym e) (by b)
  where
    by : (b : Bool) → IsTrue (are_below v (only_if b (root ∷ [])))
    by true = one_below v root h
    by false = refl

-- a literal of a larger formula before others
pub lits_below : (m n : ℕ) (l : Lit) (others lits : List Lit) → lits ≡ l ∷ others → IsTrue (is_below n l) → IsTrue (are_below m others) → m ≤ n → IsTrue (are_below n lits)
lits_below m n l others lits e h hs le = subst (λ ls. IsTrue (are_below n ls)) (sym e) (and_from (is_below n l) (are_below n others) h (are_below-mono m n le others hs))

-- a test takes no variable away
refused_test_grows : (count : Count) (joints : List Joint) (far : ℕ) (number others : List Lit) (t : Refused) → Grows (with_refused_test count joints far number others t)
refused_test_grows count joints far number others t = when_grows (list_any (is_met count far t.rest) joints) _ (λ f. at_least-grows f number t.bound)

pub test_grows : (run : KnownRun) (far : ℕ) (number others : List Lit) (t : Refused) → Grows (test_step run far number others t)
test_grows run far number others t = refused_test_grows run.count run.joints.items far number others t

each_grows : {A : Type 0} (step : A → Cnf → Cnf) → ((x : A) → Grows (step x)) → (xs : List A) → Grows (with_each step xs)
each_grows step grows [] f = omega arith
each_grows step grows (x ∷ xs) f = let a = grows x f in let b = each_grows step grows xs (step x f) in omega arith

pub refused_compound_grows : (count : Count) (links : List Combinator) (chain : List (List Simple)) (joints : List Joint) (own : ℕ → List Lit) (root : Lit) (p k : ℕ) → Grows (with_refused_compound count links chain joints own root p k)
refused_compound_grows count links chain joints own root p k = when_grows (are_joined links p k) _ (each_grows (with_refused_test count joints (k - p) (own k) (only_if (k == length links) (root ∷ [])))
    (refused_test_grows count joints (k - p) (own k) (only_if (k == length links) (root ∷ []))) (filter_map (refused_test count) (nth_compound chain k)))

pub compound_grows : (x : SelectorParts) (run : KnownRun) (k : ℕ) → Grows (compound_step x run k)
compound_grows x run k = refused_compound_grows run.count x.links x.chain run.joints.items (row_at run.numbering run.row) run.root run.first k

-- one test
pub test_is : (run : KnownRun) (far : ℕ) (number others : List Lit) (t : Refused) (f : Cnf) → list_any (is_met run.count far t.rest) run.joints.items ≡ true →
    test_step run far number others t f ≡ with_clauses (failing number t f).0 (filter_map (met_clause run.count far t.rest ((failing number t f).1 ∷ others)) run.joints.items)
test_is run far number others t f e =
    ap (λ b. when b (λ f. with_clauses (failing number t f).0 (filter_map (met_clause run.count far t.rest ((failing number t f).1 ∷ others)) run.joints.items)) f) e

pub test_out : (run : KnownRun) (far : ℕ) (number others : List Lit) (t : Refused) (f : Cnf) → list_any (is_met run.count far t.rest) run.joints.items ≡ false → f ≡ test_step run far number others t f
test_out run far number others t f e =
    sym (ap (λ b. when b (λ f. with_clauses (failing number t f).0 (filter_map (met_clause run.count far t.rest ((failing number t f).1 ∷ others)) run.joints.items)) f) e)

pub test_made : (run : KnownRun) (far : ℕ) (number others lits : List Lit) (t : Refused) (literal : Lit) (f g h : Cnf) → list_any (is_met run.count far t.rest) run.joints.items ≡ true →
    g ≡ (failing number t f).0 → literal ≡ (failing number t f).1 → lits ≡ literal ∷ others → h ≡ with_clauses g (filter_map (met_clause run.count far t.rest lits) run.joints.items) → h ≡ test_step run far number others t f
test_made run far number others lits t literal f g h met eg el es eh =
    eh ∙ ap (λ (k : Cnf). with_clauses k (filter_map (met_clause run.count far t.rest lits) run.joints.items)) eg
    ∙ ap (λ (ls : List Lit). with_clauses (failing number t f).0 (filter_map (met_clause run.count far t.rest ls) run.joints.items)) (es ∙ ap (λ (l : Lit). l ∷ others) el)
    ∙ sym (test_is run far number others t f met)

-- the tests of a compound: the first one, and then the others
pub tests_room : (run : KnownRun) (far : ℕ) (number others : List Lit) (ts : List Refused) (d : Refused) (f : Cnf) (most : ℕ) → 1 ≤ length ts → (with_each (test_step run far number others) ts f).vars ≤ most →
    (test_step run far number others (get_or ts 0 d) f).vars ≤ most
tests_room run far number others [] d f most some room = absurd (omega arith)
tests_room run far number others (t ∷ ts) d f most some room = let a = each_grows (test_step run far number others) (test_grows run far number others) ts (test_step run far number others t f) in omega (arith, a, room)

abbrev tests_behind : List Refused → List Refused
tests_behind ts = take (length ts - 1) (drop 1 ts)

behind_first : (t : Refused) (ts : List Refused) → tests_behind (t ∷ ts) ≡ ts
behind_first t ts = take_all (length (t ∷ ts) - 1) ts (omega arith)

pub others_room : (run : KnownRun) (far : ℕ) (number others : List Lit) (ts : List Refused) (d : Refused) (f g : Cnf) (most : ℕ) → 1 ≤ length ts → g ≡ test_step run far number others (get_or ts 0 d) f →
    (with_each (test_step run far number others) ts f).vars ≤ most → (with_each (test_step run far number others) (take (length ts - 1) (drop 1 ts)) g).vars ≤ most
others_room run far number others [] d f g most some e room = absurd (omega arith)
others_room run far number others (t ∷ ts) d f g most some e room = rw (behind_first t ts, e) room

pub others_brief : (ts : List Refused) → AreBrief ts → AreBrief (take (length ts - 1) (drop 1 ts))
others_brief [] h = tt
others_brief (t ∷ ts) h = subst AreBrief (sym (behind_first t ts)) h.1

pub test_stays : (run : KnownRun) (far n : ℕ) (number others : List Lit) (t : Refused) (f g : Cnf) → g ≡ test_step run far number others t f → n ≤ f.vars → n ≤ g.vars
test_stays run far n number others t f g e room = rw e (let a = test_grows run far number others t f in omega (arith, a, room))

pub below_stays : (run : KnownRun) (far : ℕ) (number others ls : List Lit) (t : Refused) (f g : Cnf) → g ≡ test_step run far number others t f → IsTrue (are_below f.vars ls) → IsTrue (are_below g.vars ls)
below_stays run far number others ls t f g e h = rw e (are_below-mono _ _ (test_grows run far number others t f) ls h)

pub compound_is : (x : SelectorParts) (run : KnownRun) (k : ℕ) (own others : List Lit) (tests : List Refused) (f : Cnf) → are_joined x.links run.first k ≡ true → own ≡ row_at run.numbering run.row k →
    others ≡ only_if (k == length x.links) (run.root ∷ []) → tests ≡ filter_map (refused_test run.count) (nth_compound x.chain k) →
    compound_step x run k f ≡ with_each (test_step run (k - run.first) own others) tests f
compound_is x run k own others tests f joined en eo et =
    ap (λ b. when b (with_each (test_step run (k - run.first) (row_at run.numbering run.row k) (only_if (k == length x.links) (run.root ∷ []))) (filter_map (refused_test run.count) (nth_compound x.chain k))) f) joined
    ∙ sym (ap (λ (n : List Lit). with_each (test_step run (k - run.first) n others) tests f) en
    ∙ ap (λ (os : List Lit). with_each (test_step run (k - run.first) (row_at run.numbering run.row k) os) tests f) eo
    ∙ ap (λ (ts : List Refused). with_each (test_step run (k - run.first) (row_at run.numbering run.row k) (only_if (k == length x.links) (run.root ∷ []))) ts f) et)

pub compound_out : (x : SelectorParts) (run : KnownRun) (k : ℕ) (f : Cnf) → are_joined x.links run.first k ≡ false → f ≡ compound_step x run k f
compound_out x run k f none =
    sym (ap (λ b. when b (with_each (test_step run (k - run.first) (row_at run.numbering run.row k) (only_if (k == length x.links) (run.root ∷ []))) (filter_map (refused_test run.count) (nth_compound x.chain k))) f) none)

-- a clause for each that is known
pub met_here : (count : Count) (far : ℕ) (rest : Remainder) (lits : List Lit) (joint : Joint) (f h : Cnf) → is_met count far rest joint ≡ true → h ≡ with_clauses f (given_clause joint.given lits ∷ []) →
    h ≡ with_clauses f (cons_option (met_clause count far rest lits joint) [])
met_here count far rest lits joint f h met e = e ∙ sym (ap (λ b. with_clauses f (cons_option (if b then Some (given_clause joint.given lits) else None) [])) met)

pub met_out : (count : Count) (far : ℕ) (rest : Remainder) (lits : List Lit) (joint : Joint) (f : Cnf) → is_met count far rest joint ≡ false → f ≡ with_clauses f (cons_option (met_clause count far rest lits joint) [])
met_out count far rest lits joint f none = sym (ap (λ b. with_clauses f (cons_option (if b then Some (given_clause joint.given lits) else None) [])) none ∙ added_none f)

pub met_more : (count : Count) (far : ℕ) (rest : Remainder) (lits : List Lit) (joint : Joint) (joints : List Joint) (f g h : Cnf) → g ≡ with_clauses f (cons_option (met_clause count far rest lits joint) []) →
    h ≡ with_clauses g (filter_map (met_clause count far rest lits) joints) → h ≡ with_clauses f (filter_map (met_clause count far rest lits) (joint ∷ joints))
met_more count far rest lits joint joints f g h eg eh =
    eh ∙ ap (λ (k : Cnf). with_clauses k (filter_map (met_clause count far rest lits) joints)) eg
    ∙ added_twice f (cons_option (met_clause count far rest lits joint) []) (filter_map (met_clause count far rest lits) joints)
    ∙ ap (with_clauses f) (joined (met_clause count far rest lits joint) (filter_map (met_clause count far rest lits) joints))
  where
    joined : (o : Option (List Lit)) (cs : List (List Lit)) → cons_option o [] ++ cs ≡ cons_option o cs
    joined None cs = refl
    joined (Some c) cs = refl

pub ruleset mets_added = (met_more, added_none)
