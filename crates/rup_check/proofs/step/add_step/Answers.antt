use Rattle.std.proofs.Common.{◌≡◌, ◌≢◌, ℕ, IsTrue, List, sym, ap, subst, ◌∙◌, arith}
use Rattle.cnf.specs.declared.lit.Lit.{Lit}
use Rattle.sat_arena.specs.Arena.{WatchedClause, clause_at, new_clause, last_watch, next_watch}
use Rattle.sat_watch.specs.Nonempty.{are_nonempty}
use Rattle.sat_watch.specs.Numbered.{Numbered, clauses_of}
use Rattle.sat_watch.specs.Watches.{IsBacked, ShortAreTrue}
use Rattle.sat_watch.proofs.ForCallers.{ready-attached, short-attached}
use Rattle.rup_check.proofs.RootLemmas.{if-none, own-attached, root-found, nonempty-attached, sound-attached}
use Rattle.rup_check.proofs.step.add_step.Goals as goal

pub propagate-requires-clause-sound : goal.propagate-requires-clause-sound
propagate-requires-clause-sound c =
    let r = c.requires.root in
    sound-attached c.args.arena.now c.attach.new.self c.args.trail.now c.in_ok-clause.clause c.args.step.now c.in_ok-clause.ensures.clauses r.level r.quiet.kept.sound

pub propagate-requires-clause-ready : goal.propagate-requires-clause-ready
propagate-requires-clause-ready c =
    let r = c.requires.root in
    let k = c.in_ok-clause.ensures in
    let own = own-attached c.args.arena.now c.attach.new.self c.in_ok-clause.clause c.args.step.now k.clauses k.fresh in
    let number : ℕ → Lit = λ n. record { 0 = n } in
    let w = c.watches.ensures in
    let one : last_watch c.args.step.now ≡ next_watch c.args.step.now = ap (λ (x : WatchedClause). x.one) (sym own) ∙ (sym w.one ∙ (ap number c.if-one-other.true ∙ (w.other ∙ ap (λ (x : WatchedClause). x.other) own))) in
    ready-attached c.args.arena.now c.attach.new.self c.args.trail.now c.args.head.now c.args.head.now c.in_ok-clause.clause c.args.step.now r.quiet.kept.ready r.level k.arena k.clauses k.fresh (omega arith) (λ two. absurd (two one))

pub returns-then-one-other-clause-root : goal.returns-then-one-other-clause-root
returns-then-one-other-clause-root c =
    let p = c.propagate.ensures in
    let r = c.requires.root in
    let k = c.in_ok-clause.ensures in
    let P : List Numbered → Type 0 = λ ns. IsTrue (are_nonempty (clauses_of ns)) in
    let full = subst P (sym p.same) (nonempty-attached c.args.arena.now c.attach.new.self c.in_ok-clause.clause c.args.step.now k.clauses r.quiet.kept.nonempty c.requires.nonempty) in
    root-found c.propagate.new.arena c.propagate.new.trail c.propagate.new.head c.propagate.result c.is_some.result c.is_some.ensures (p.level ∙ r.level) (p.vars ∙ (r.quiet.kept.vars ∙ (sym c.in_ok-clause.ensures.vars ∙ sym p.arena_vars))) full p.sound p.ready p.found p.looked p.short

pub propagate_entries-requires-clause-sound : goal.propagate_entries-requires-clause-sound
propagate_entries-requires-clause-sound c =
    let r = c.requires.root in
    sound-attached c.args.arena.now c.attach.new.self c.args.trail.now c.in_ok-clause.clause c.args.step.now c.in_ok-clause.ensures.clauses r.level r.quiet.kept.sound

-- two watches that differ
apart : (k : WatchedClause) (ls : List Lit) (c : ℕ) (x y : Lit) → k ≡ new_clause c ls → x ≡ k.one → y ≡ k.other → x.0 ≢ y.0 → last_watch ls ≢ next_watch ls
apart k ls c x y own one other ne q = ne (ap (λ (l : Lit). l.0) (one ∙ (ap (λ (x : WatchedClause). x.one) own ∙ (q ∙ (sym (ap (λ (x : WatchedClause). x.other) own) ∙ sym other)))))

pub propagate_entries-requires-clause-ready : goal.propagate_entries-requires-clause-ready
propagate_entries-requires-clause-ready c =
    let r = c.requires.root in
    let k = c.in_ok-clause.ensures in
    let w = c.watches.ensures in
    let h = c.head_for.ensures in
    let own = own-attached c.args.arena.now c.attach.new.self c.in_ok-clause.clause c.args.step.now k.clauses k.fresh in
    let es = c.args.trail.now.entries in
    let A : Lit → Type 0 = λ x. IsBacked es c.head_for.result x c.watches.result.1 in
    let B : Lit → Type 0 = λ x. IsBacked es c.head_for.result (last_watch c.args.step.now) x in
    let backed = subst B (w.other ∙ ap (λ (x : WatchedClause). x.other) own) (subst A (w.one ∙ ap (λ (x : WatchedClause). x.one) own) h.1) in
    ready-attached c.args.arena.now c.attach.new.self c.args.trail.now c.args.head.now c.head_for.result c.in_ok-clause.clause c.args.step.now r.quiet.kept.ready r.level k.arena k.clauses k.fresh h.0 (λ _. backed)

pub propagate_entries-requires-clause-short : goal.propagate_entries-requires-clause-short
propagate_entries-requires-clause-short c =
    let k = c.in_ok-clause.ensures in
    let w = c.watches.ensures in
    let own = own-attached c.args.arena.now c.attach.new.self c.in_ok-clause.clause c.args.step.now k.clauses k.fresh in
    short-attached c.args.arena.now c.attach.new.self c.args.trail.now c.in_ok-clause.clause c.args.step.now k.clauses k.fresh (apart (clause_at c.attach.new.self c.in_ok-clause.clause) c.args.step.now c.in_ok-clause.clause c.watches.result.0 c.watches.result.1 own w.one w.other c.if-one-other.false) c.requires.root.quiet.kept.short

pub returns-clause-root : goal.returns-clause-root
returns-clause-root c =
    let p = c.propagate_entries.ensures in
    let r = c.requires.root in
    let k = c.in_ok-clause.ensures in
    let P : List Numbered → Type 0 = λ ns. IsTrue (are_nonempty (clauses_of ns)) in
    let full = subst P (sym p.same) (nonempty-attached c.args.arena.now c.attach.new.self c.in_ok-clause.clause c.args.step.now k.clauses r.quiet.kept.nonempty c.requires.nonempty) in
    root-found c.propagate_entries.new.arena c.propagate_entries.new.trail c.propagate_entries.new.head c.propagate_entries.result c.is_some-2.result c.is_some-2.ensures (p.level ∙ r.level) (p.vars ∙ (r.quiet.kept.vars ∙ (sym c.in_ok-clause.ensures.vars ∙ sym p.arena_vars))) full p.sound p.ready p.found p.looked (if-none c.propagate_entries.result (ShortAreTrue c.propagate_entries.new.arena c.propagate_entries.new.trail.entries) p.short)
