use Rattle.std.proofs.Common.{◌<◌, ℕ, true, IsTrue, List, [], ◌∷◌, length, take, get_or, refl, sym, subst, ◌∙◌, arith}
use Rattle.std.specs.List.{list_all}
use Rattle.std.proofs.lemmas.Bool.{and_parts, and_from, false≢true, eq-eqb}
use Rattle.std.proofs.lemmas.List.{take_all, take_more}
use Rattle.std.proofs.lemmas.List.Folds.{list_any_at}
use Rattle.cnf.specs.declared.lit.Lit.{Lit}
use Rattle.cnf.specs.Lits.{same, is_among, are_below}
use Rattle.cnf.specs.Propagation.{IsForced, is_consistent}
use Rattle.cnf.proofs.ForCallers.{list_all-append-from, list_all-mono}
use Rattle.sat_trail.specs.Trail.{lits}
use Rattle.sat_watch.specs.Numbered.{Numbered, numbered, clauses_of}
use Rattle.sat_watch.specs.Soundness.{is_false}
use Rattle.rup_check.proofs.RestLemmas.{not_forced-from_rest, trail-consistent}
use Rattle.rup_check.proofs.RootLemmas.{quiet-rest, root-decided, false-longer}
use Rattle.rup_check.proofs.root.refute.Goals as goal

among-place : (ls : List Lit) (k : ℕ) (d : Lit) → k < length ls → IsTrue (is_among ls (get_or ls k d))
among-place ls k d b = list_any_at (same (get_or ls k d)) ls k d b (eq-eqb (get_or ls k d).0 (get_or ls k d).0 refl)

pub loop-k-init : goal.loop-k-init
loop-k-init c =
    let r = c.requires.root in
    record {
      same = refl;
      vars = refl;
      quiet = r.quiet;
      decided = root-decided c.args.clause.now c.args.trail.now r.quiet.kept.ready.trail r.level;
      denied = refl;
    }

pub returns-then-deny-clause-forced : goal.returns-then-deny-clause-forced
returns-then-deny-clause-forced c =
    let i = c.loop-k.invariant in
    let clause = c.args.clause.now in
    let d : Lit = record { 0 = 0 } in
    let P : List Numbered → Type 0 = λ ns. IsForced (clauses_of ns) clause in
    let con = (and_parts (are_below c.args.arena.now.vars clause) (is_consistent clause) c.requires.step).1 in
    let forced = c.if-deny.ensures.forced refl clause (among-place clause c.loop-k.k d c.loop-k-test.true) con i.decided in
    (λ h. subst P i.same forced, λ h. refl)

pub loop-k-preserved : goal.loop-k-preserved
loop-k-preserved c =
    let i = c.loop-k.invariant in
    let e = c.if-deny.ensures in
    let t = c.loop-k.trail in
    let u = c.deny.new.trail in
    let clause = c.args.clause.now in
    let d : Lit = record { 0 = 0 } in
    let P : List Lit → Type 0 = λ ls. IsTrue (list_all (is_false (lits u.entries)) ls) in
    let older = list_all-mono (is_false (lits t.entries)) (is_false (lits u.entries)) (λ x h. false-longer t u x e.longer h) (take c.loop-k.k clause) i.denied in
    record {
      same = e.same ∙ i.same;
      vars = e.vars ∙ i.vars;
      quiet = e.quiet refl;
      decided = e.decided clause (among-place clause c.loop-k.k d c.loop-k-test.true) i.decided;
      denied = subst P (sym (take_more clause c.loop-k.k d c.loop-k-test.true)) (list_all-append-from (is_false (lits u.entries)) (take c.loop-k.k clause) (get_or clause c.loop-k.k d ∷ []) older (and_from _ true (e.denied refl) refl));
    }

pub returns-clause-forced : goal.returns-clause-forced
returns-clause-forced c =
    let i = c.loop-k.invariant in
    let a = c.loop-k.arena in
    let t = c.loop-k.trail in
    let clause = c.args.clause.now in
    let P : List Lit → Type 0 = λ ls. IsTrue (list_all (is_false (lits t.entries)) ls) in
    let Q : List Numbered → Type 0 = λ ns. IsForced (clauses_of ns) clause in
    let all = subst P (take_all c.loop-k.k clause (omega (arith, c.loop-k-test.false))) i.denied in
    (λ h. absurd (false≢true h), λ f. absurd (not_forced-from_rest (clauses_of (numbered a)) clause (lits t.entries) (trail-consistent t i.quiet.kept.ready.trail) (quiet-rest a t c.loop-k.head i.quiet) all (subst Q (sym i.same) f)))
