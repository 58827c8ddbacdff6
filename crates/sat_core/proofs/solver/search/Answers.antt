use Rattle.std.proofs.Common.{◌≡◌, ◌≢◌, ℕ, ◌+◌, ◌-◌, ◌*◌, ◌^◌, ◌<◌, ◌≤◌, ◌↔◌, true, false, IsTrue, List, [], ◌∷◌, ◌++◌, length, get_or, None, Some, refl, sym, ap, subst, ◌∙◌, inl, inr, arith, rules}
use Rattle.std.specs.List.{list_all}
use Rattle.std.proofs.lemmas.List.{length_push, append-nil}
use Rattle.std.proofs.lemmas.Bool.{cases_eq, cases_lt, lt-ltb, false≢true}
use Rattle.cnf.specs.declared.lit.Lit.{Lit}
use Rattle.cnf.specs.Budgets.{no_limit, IsWithin}
use Rattle.cnf.specs.Cnf.{Cnf}
use Rattle.cnf.specs.Lits.{is_below, are_below, positive, negation, variable}
use Rattle.cnf.specs.Propagation.{IsLedger}
use Rattle.cnf.proofs.ForCallers.{list_all-append-from}
use Rattle.sat_arena.specs.Arena.{WatchedClauses}
use Rattle.sat_trail.specs.declared.entry.Entry.{Entry}
use Rattle.sat_trail.specs.Trail.{Assignment, lits, value_in}
use Rattle.sat_trail.proofs.ForCallers.{room-from_open}
use Rattle.sat_watch.specs.Nonempty.{is_nonempty, are_nonempty}
use Rattle.sat_watch.specs.Numbered.{numbered, clauses_of}
use Rattle.sat_watch.specs.Soundness.{IsSound}
use Rattle.sat_core.specs.Search.{IsSearch}
use Rattle.sat_core.specs.Verdict.{Refutes, UsesUp}
use Rattle.sat_core.proofs.CountLemmas.{short, lit-cases}
use Rattle.sat_core.proofs.LedgerLemmas.{no_values-from_empty, logged-in_range}
use Rattle.sat_watch.proofs.ForCallers.{ready-start, ready-decided, longer-grows, open-negation, sound-decide}
use Rattle.sat_watch.proofs.ForCallers.{clauses_of-numbered}
use Rattle.sat_core.proofs.SolveLemmas.{model, refutes, kept, shorter}
use Rattle.sat_core.proofs.solver.search.Goals as goal

-- before anything is known
started : (f : Cnf) (a : WatchedClauses) (t : Assignment) → clauses_of (numbered a) ≡ f.clauses → a.vars ≡ f.vars → t ≡ record { vars = f.vars; level = 0; entries = [] } → IsTrue (are_nonempty f.clauses) → IsSearch f [] a t
started f a t cs v e full =
    rw e (record {
      same_clauses = cs ∙ sym (append-nil f.clauses);
      same_vars = v;
      trail_vars = refl;
      logged = tt;
      nonempty_formula = full;
      nonempty_ledger = refl;
      sound = record { reasons = tt; rests = λ n b. absurd (omega arith) };
    })

-- a propagation keeps the state
propagated : (f : Cnf) (ledger : List (List Lit)) (a b : WatchedClauses) (t u : Assignment) → IsSearch f ledger a t → numbered b ≡ numbered a → b.vars ≡ a.vars → u.vars ≡ t.vars → IsSound (numbered b) u → IsSearch f ledger b u
propagated f ledger a b t u s same av v sound = record {
  same_clauses = ap clauses_of same ∙ s.same_clauses;
  same_vars = av ∙ s.same_vars;
  trail_vars = v ∙ s.trail_vars;
  logged = s.logged;
  nonempty_formula = s.nonempty_formula;
  nonempty_ledger = s.nonempty_ledger;
  sound = sound;
}

pub propagate-found-requires-clause-nonempty : goal.propagate-found-requires-clause-nonempty
propagate-found-requires-clause-nonempty c =
    let s = c.search.invariant.state in
    let P : List (List Lit) → Type 0 = λ cs. IsTrue (are_nonempty cs) in
    subst P (sym s.same_clauses) (list_all-append-from is_nonempty c.args.f.now.clauses c.search.ledger.items s.nonempty_formula s.nonempty_ledger)

-- the literal that is decided is open
open_decision : (trail : List Lit) (v : ℕ) (l : Lit) → value_in trail (positive v) ≡ None → variable l ≡ v → value_in trail l ≡ None
open_decision trail v l e same_variable =
    let P : Lit → Type 0 = λ x. value_in trail x ≡ None in
    elim (lit-cases l) [
      | inl p ↦ subst P (sym (p ∙ ap positive same_variable)) e
      | inr p ↦ subst P (sym (p ∙ ap (λ v. negation (positive v)) same_variable)) (open-negation trail (positive v) e)
    ]

pub decide-requires-clause-open : goal.decide-requires-clause-open
decide-requires-clause-open c =
    rw c.in-Some-next_free.ensures.same (open_decision (lits c.propagate-found.new.trail.entries) c.in-Some-next_free.var c.as_before.result c.in-Some-next_free.ensures.found.1 c.as_before.ensures)

-- one more clause within the budget
one_more : (budget n m : ℕ) → m ≡ n + 1 → ((budget ≢ no_limit) × (budget ≤ n) → ⊥) → IsWithin budget m
one_more budget n m e h =
    elim (cases_eq budget no_limit) [
      | inl q ↦ inl q
      | inr q ↦ elim (cases_lt n budget) [ inl l ↦ inr (omega arith) | inr l ↦ absurd (h (q, l)) ]
    ]

pub search-init : goal.search-init
search-init c =
    let t = c.in_ok-trail.ensures ∙ ap (λ n. let t : Assignment = record { vars = n; level = 0; entries = [] } in t) c.vars.ensures.value in
    rw c.new-ledger.ensures.items (record {
      state = started c.args.f.now c.in_ok-arena.arena c.in_ok-trail.trail (clauses_of-numbered c.in_ok-arena.arena ∙ c.in_ok-arena.ensures.clauses) c.in_ok-arena.ensures.vars t c.requires;
      seen = search rules;
      phases = search rules;
      within = inr (omega arith);
      ready = ready-start c.args.f.now.vars c.in_ok-arena.arena c.in_ok-trail.trail c.in_ok-arena.ensures.arena t (omega (arith, c.vars.ensures.value, c.vars.ensures.small));
    })

pub returns-in-None-next_free : goal.returns-in-None-next_free
returns-in-None-next_free c =
    let s = c.search.invariant.state in
    let f = c.args.f.now in
    let t = c.propagate-found.new.trail in
    let ledger = c.search.ledger.items in
    let p = c.in-None.ensures in
    let n = c.vars-in-None-next_free.ensures.value in
    let full : (v : ℕ) → v < t.vars → value_in (lits t.entries) (positive v) ≢ None = λ v b. c.in-None-next_free.ensures.found v b in
    let found = c.in_ok-values-in-None-next_free.ensures in
    let Q : Assignment → Type 0 = λ t. (v : ℕ) → v < c.vars-in-None-next_free.result → (IsTrue (get_or c.in_ok-values-in-None-next_free.field-0.items v false) ↔ (value_in (lits t.entries) (positive v) ≡ Some true)) in
    let read : Q t = subst Q c.in-None-next_free.ensures.same found.values in
    let vals : (v : ℕ) → v < t.vars → (IsTrue (get_or c.in_ok-values-in-None-next_free.field-0.items v false) ↔ (value_in (lits t.entries) (positive v) ≡ Some true)) = λ v b. read v (omega (arith, b, n, p.vars, s.trail_vars)) in
    let P : List (List Lit) → Type 0 = λ cs. IsTrue (list_all (are_below f.vars) cs) in
    let range = subst P (sym (ap clauses_of p.same ∙ s.same_clauses)) (list_all-append-from (are_below f.vars) f.clauses ledger c.vars-in-None-next_free.ensures.in_range (logged-in_range f.vars f.clauses ledger s.logged)) in
    model f ledger (clauses_of (numbered c.propagate-found.new.arena)) t c.in_ok-values-in-None-next_free.field-0.items (ap clauses_of p.same ∙ s.same_clauses) (p.vars ∙ s.trail_vars) range c.level-level.ensures.trail p.found full (found.size ∙ c.vars-in-None-next_free.ensures.value) vals

pub search-smaller-in-Some-next_free : goal.search-smaller-in-Some-next_free
search-smaller-in-Some-next_free c =
    let s = c.search.invariant.state in
    let t = c.propagate-found.new.trail in
    let p = c.in-None.ensures in
    let x = c.as_before.result in
    let e : Entry = record { lit = x; level = t.level + 1; reason = None } in
    let below : IsTrue (is_below t.vars x) = lt-ltb (variable x) t.vars (let b = c.in-Some-next_free.ensures.found.0 in omega (arith, s.trail_vars, p.vars, c.as_before.ensures)) in
    let room = room-from_open t.vars t.entries e c.level-level.ensures.trail.in_range c.level-level.ensures.trail.distinct below (open_decision (lits t.entries) c.in-Some-next_free.var x c.in-Some-next_free.ensures.found.1 c.as_before.ensures) in
    let longer = length_push t.entries e in
    let decided = rw c.in-Some-next_free.ensures.same at c.decide.ensures in
    let entries : length c.decide.new.self.entries ≡ length t.entries + 1 = ap (λ (t : Assignment). length t.entries) decided ∙ longer in
    let fewer : c.args.f.now.vars - length c.decide.new.self.entries < c.args.f.now.vars - length c.search.trail.entries = (let grows = longer-grows c.search.trail.entries t.entries p.longer in omega (arith, s.trail_vars, p.vars, grows)) in
    let all : (3 ^ c.args.f.now.vars - length c.search.ledger.items) * (c.args.f.now.vars + 1) + (c.args.f.now.vars - length c.decide.new.self.entries) < (3 ^ c.args.f.now.vars - length c.search.ledger.items) * (c.args.f.now.vars + 1) + (c.args.f.now.vars - length c.search.trail.entries) = omega arith in
    all

pub search-preserved-in-Some-next_free : goal.search-preserved-in-Some-next_free
search-preserved-in-Some-next_free c =
    let s = c.search.invariant.state in
    let t = c.propagate-found.new.trail in
    let p = c.in-None.ensures in
    let x = c.as_before.result in
    let below : IsTrue (is_below t.vars x) = lt-ltb (variable x) t.vars (let b = c.in-Some-next_free.ensures.found.0 in omega (arith, s.trail_vars, p.vars, c.as_before.ensures)) in
    let a = c.propagate-found.new.arena in
    let sound = sound-decide (numbered a) t x c.level-level.ensures.trail p.sound p.found in
    rw (c.decide.ensures, c.in-Some-next_free.ensures.same) (record {
      state = propagated c.args.f.now c.search.ledger.items c.search.arena a c.search.trail (record t { level = t.level + 1; entries = t.entries ++ record { lit = x; level = t.level + 1; reason = None } ∷ [] }) s p.same p.arena_vars p.vars sound;
      seen = c.search.invariant.seen;
      phases = c.search.invariant.phases;
      within = c.search.invariant.within;
      ready = ready-decided a t x c.propagate-found.new.head p.ready p.looked p.short below (open_decision (lits t.entries) c.in-Some-next_free.var x c.in-Some-next_free.ensures.found.1 c.as_before.ensures);
    })

pub returns-then-level-eq0 : goal.returns-then-level-eq0
returns-then-level-eq0 c =
    let s = c.search.invariant.state in
    let t = c.propagate-found.new.trail in
    let p = c.in-Some.ensures in
    let all = refutes c.args.f.now c.search.ledger.items c.propagate-found.new.arena t c.args.budget c.in-Some.conflict (propagated c.args.f.now c.search.ledger.items c.search.arena c.propagate-found.new.arena c.search.trail t s p.same p.arena_vars p.vars p.sound) c.level-level.ensures.trail (sym c.level-level.ensures.value ∙ c.if-level-eq0.true) p.found c.search.invariant.within in
    let ledger : c.push.new.self.items ≡ c.search.ledger.items ++ [] ∷ [] = c.in_ok-push-in-Some.ensures.items ∙ ap (λ (l : List Lit). c.search.ledger.items ++ l ∷ []) c.new-then-level-eq0.ensures.items in
    let P : List (List Lit) → Type 0 = λ l. Refutes c.args.f.now c.args.budget l in
    record {
      none = λ vs v. no_values-from_empty c.args.f.now c.search.ledger.items all.logged vs v;
      by_empty = λ h. absurd (false≢true (sym h ∙ c.requires));
      by_ledger = λ _. subst P (sym ledger) all;
    }

pub search-smaller : goal.search-smaller
search-smaller c =
    let s = c.search.invariant.state in
    let v = c.args.f.now.vars in
    let few = short c.args.f.now c.search.ledger.items s.logged s.nonempty_ledger in
    let longer : length c.push-in-Some.new.self.items ≡ length c.search.ledger.items + 1 = ap length c.in_ok-push-in-Some-2.ensures.items ∙ length_push c.search.ledger.items c.in_ok-learned-in-Some.learned in
    let rest : 3 ^ v - length c.push-in-Some.new.self.items ≡ 3 ^ v - length c.search.ledger.items - 1 = omega arith in
    let less = shorter (3 ^ v - length c.search.ledger.items) v (v - length c.after_learning.new.trail.entries) (v - length c.search.trail.entries) (omega arith) (omega arith) in
    let P : ℕ → Type 0 = λ a. a * (v + 1) + (v - length c.after_learning.new.trail.entries) < (3 ^ v - length c.search.ledger.items) * (v + 1) + (v - length c.search.trail.entries) in
    subst P (sym rest) less

pub search-preserved : goal.search-preserved
search-preserved c =
    let s = c.search.invariant.state in
    let t = c.propagate-found.new.trail in
    let p = c.in-Some.ensures in
    let l = c.in_ok-learned-in-Some.ensures in
    let learned = c.in_ok-learned-in-Some.learned in
    let again = c.after_learning.ensures in
    let before = propagated c.args.f.now c.search.ledger.items c.search.arena c.propagate-found.new.arena c.search.trail t s p.same p.arena_vars p.vars p.sound in
    let after = kept c.args.f.now c.search.ledger.items c.propagate-found.new.arena c.learn.new.arena t c.after_learning.new.trail learned before l.logged l.nonempty l.clauses l.arena_vars (again.vars ∙ l.vars) (again.sound (numbered c.learn.new.arena) l.ready.trail l.sound) in
    let pushed : c.push-in-Some.new.self.items ≡ c.search.ledger.items ++ learned ∷ [] = c.in_ok-push-in-Some-2.ensures.items in
    let longer : length c.push-in-Some.new.self.items ≡ length c.search.ledger.items + 1 = ap length pushed ∙ length_push c.search.ledger.items learned in
    let P : List (List Lit) → Type 0 = λ l. IsSearch c.args.f.now l c.learn.new.arena c.after_learning.new.trail in
    let used : (c.args.budget ≢ no_limit) × (c.args.budget ≤ length c.search.ledger.items) → ⊥ = λ h. false≢true (sym c.if-is_used_up.false ∙ c.is_used_up.ensures.1 (h.0, omega (arith, h.1, c.len.ensures, c.search.ledger.ok))) in
    record {
      state = subst P (sym pushed) after;
      seen = l.seen ∙ (p.vars ∙ s.trail_vars);
      phases = c.remember.ensures ∙ (p.vars ∙ s.trail_vars);
      within = one_more c.args.budget (length c.search.ledger.items) (length c.push-in-Some.new.self.items) longer used;
      ready = again.ready c.learn.new.arena l.ready;
    }

spent : (f : Cnf) (ledger : List (List Lit)) (budget : ℕ) → IsTrue (are_nonempty f.clauses) → IsLedger f ledger → IsTrue (are_nonempty ledger) → IsWithin budget (length ledger) → budget ≢ no_limit → budget ≤ length ledger → UsesUp f budget ledger
spent f ledger budget full_formula logged nonempty (inl q) limited full = absurd (limited q)
spent f ledger budget full_formula logged nonempty (inr q) limited full =
    let few = short f ledger logged nonempty in
    record {
      limited = limited;
      nonempty_formula = full_formula;
      logged = logged;
      nonempty = nonempty;
      used_up = omega arith;
      below = omega arith;
    }

pub returns-then-is_used_up : goal.returns-then-is_used_up
returns-then-is_used_up c =
    let s = c.search.invariant.state in
    let used = c.is_used_up.ensures.0 c.if-is_used_up.true in
    spent c.args.f.now c.search.ledger.items c.args.budget c.requires s.logged s.nonempty_ledger c.search.invariant.within used.0 (omega (arith, used.1, c.len.ensures, c.search.ledger.ok))
