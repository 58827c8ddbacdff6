use Rattle.std.proofs.Common.{◌≡◌, ℕ, ◌∷◌, [], ◌++◌, List, IsTrue, length, sym, ap, subst, ◌∙◌}
use Rattle.cnf.specs.declared.lit.Lit.{Lit}
use Rattle.cnf.specs.Lits.{are_below}
use Rattle.cnf.specs.Propagation.{IsLogged}
use Rattle.sat_trail.specs.Trail.{Assignment, lits}
use Rattle.sat_core.specs.Analysis.{marked}
use Rattle.sat_watch.specs.Nonempty.{is_nonempty}
use Rattle.sat_watch.specs.Numbered.{Numbered, numbered, clauses_of}
use Rattle.sat_core.proofs.LearnLemmas.{marked-below, logged-marked, nonempty-marked, sound-learned, back-le}
use Rattle.sat_core.proofs.LearnedLemmas.{back-from, place-inside, ready-learned}
use Rattle.sat_watch.proofs.ForCallers.{numbered-push, clauses_of-push}
use Rattle.sat_core.proofs.learning.learn.Goals as goal

pub back_level-back-requires-clause-place : goal.back_level-back-requires-clause-place
back_level-back-requires-clause-place c =
    let m = rw c.deref-2.ensures.value at c.last_marked-before.ensures in
    place-inside c.resolve-at.new.trail.entries c.shorten.new.seen.items c.resolve-at.result (length c.resolve-at.new.trail.entries) c.last_marked-before.result m c.in_ok-shorten.ensures.resolved.place

pub undo_to-requires : goal.undo_to-requires
undo_to-requires c =
    let r = c.resolve-at.ensures in
    let m = rw c.deref-2.ensures.value at c.last_marked-before.ensures in
    let back = back-from c.resolve-at.new.trail.entries c.shorten.new.seen.items c.resolve-at.result c.back_level-back.result c.last_marked-before.result m c.back_level-back.ensures in
    rw c.bump.ensures (back-le (clauses_of (numbered c.args.arena.now)) c.resolve-at.new.trail c.shorten.new.seen.items c.resolve-at.result c.back_level-back.result (rw c.resolve-at.ensures.same c.resolve-at.ensures.trail) c.in_ok-shorten.ensures.resolved back)

pub attach-requires : goal.attach-requires
attach-requires c =
    let P : List Lit → Type 0 = λ ls. IsTrue (are_below c.args.arena.now.vars ls) in
    let Q : ℕ → Type 0 = λ n. IsTrue (are_below n (lits c.resolve-at.new.trail.entries)) in
    subst P (sym (c.deref-4.ensures.value ∙ c.in_ok-lits.ensures)) (marked-below c.args.arena.now.vars c.deref.result.now (lits c.resolve-at.new.trail.entries) (subst Q (ap (λ (t : Assignment). t.vars) c.resolve-at.ensures.same ∙ c.requires.vars) (rw c.resolve-at.ensures.same c.resolve-at.ensures.trail.in_range)))

pub bump-requires : goal.bump-requires
bump-requires c =
    let P : List Lit → Type 0 = λ ls. IsTrue (are_below c.resolve-at.new.trail.vars ls) in
    subst P (sym (c.deref-3.ensures.value ∙ c.in_ok-lits.ensures)) (marked-below c.resolve-at.new.trail.vars c.deref.result.now (lits c.resolve-at.new.trail.entries) (rw c.resolve-at.ensures.same c.resolve-at.ensures.trail.in_range))

pub returns-clause-logged : goal.returns-clause-logged
returns-clause-logged c =
    let r = c.resolve-at.ensures in
    let formula = clauses_of (numbered c.args.arena.now) in
    let all = logged-marked (numbered c.args.arena.now) c.resolve-at.new.trail c.shorten.new.seen.items c.resolve-at.result (rw c.resolve-at.ensures.same c.resolve-at.ensures.trail) (rw c.resolve-at.ensures.same c.requires.sound) (rw c.resolve-at.ensures.same c.requires.level) c.in_ok-shorten.ensures.resolved in
    let P : List Lit → Type 0 = λ ls. IsLogged c.args.arena.now.vars formula ls in
    let Q : ℕ → Type 0 = λ n. IsLogged n formula (marked c.shorten.new.seen.items (lits c.resolve-at.new.trail.entries)) in
    let same_clause : c.in_ok-lits.lits.items ≡ marked c.shorten.new.seen.items (lits c.resolve-at.new.trail.entries) = c.in_ok-lits.ensures ∙ ap (λ s. marked s (lits c.resolve-at.new.trail.entries)) c.deref.ensures.value in
    subst P (sym same_clause) (subst Q (ap (λ (t : Assignment). t.vars) c.resolve-at.ensures.same ∙ c.requires.vars) all)

pub returns-clause-nonempty : goal.returns-clause-nonempty
returns-clause-nonempty c =
    let r = c.resolve-at.ensures in
    let P : List Lit → Type 0 = λ ls. IsTrue (is_nonempty ls) in
    let same_clause : c.in_ok-lits.lits.items ≡ marked c.shorten.new.seen.items (lits c.resolve-at.new.trail.entries) = c.in_ok-lits.ensures ∙ ap (λ s. marked s (lits c.resolve-at.new.trail.entries)) c.deref.ensures.value in
    subst P (sym same_clause) (nonempty-marked (clauses_of (numbered c.args.arena.now)) c.resolve-at.new.trail c.shorten.new.seen.items c.resolve-at.result c.in_ok-shorten.ensures.resolved)

pub returns-clause-clauses : goal.returns-clause-clauses
returns-clause-clauses c =
    let a = c.args.arena.now in
    let n : Numbered = record { number = c.in_ok-attach.field-0; lits = c.deref-4.result.now } in
    ap clauses_of (numbered-push a c.attach.new.self c.in_ok-attach.field-0 c.deref-4.result.now c.in_ok-attach.ensures.clauses)
    ∙ (clauses_of-push (numbered a) n ∙ ap (λ ls. clauses_of (numbered a) ++ ls ∷ []) c.deref-4.ensures.value)

pub returns-clause-sound : goal.returns-clause-sound
returns-clause-sound c =
    let r = c.resolve-at.ensures in
    let a = c.args.arena.now in
    let t = c.resolve-at.new.trail in
    let seen = c.shorten.new.seen.items in
    let n : Numbered = record { number = c.in_ok-attach.field-0; lits = c.deref-4.result.now } in
    let m = rw c.deref-2.ensures.value at c.last_marked-before.ensures in
    let back = back-from t.entries seen c.resolve-at.result c.back_level-back.result c.last_marked-before.result m c.back_level-back.ensures in
    let low = back-le (clauses_of (numbered a)) t seen c.resolve-at.result c.back_level-back.result (rw c.resolve-at.ensures.same c.resolve-at.ensures.trail) c.in_ok-shorten.ensures.resolved back in
    let same_clause : c.deref-4.result.now ≡ marked seen (lits t.entries) = c.deref-4.ensures.value ∙ (c.in_ok-lits.ensures ∙ ap (λ s. marked s (lits t.entries)) c.deref.ensures.value) in
    let all = sound-learned (numbered a) n t seen c.resolve-at.result c.back_level-back.result (rw c.resolve-at.ensures.same c.resolve-at.ensures.trail) (rw c.resolve-at.ensures.same c.requires.sound) c.in_ok-shorten.ensures.resolved back low same_clause in
    rw (numbered-push a c.attach.new.self c.in_ok-attach.field-0 c.deref-4.result.now c.in_ok-attach.ensures.clauses, c.undo_to.ensures, c.bump.ensures) all

pub returns-clause-ready : goal.returns-clause-ready
returns-clause-ready c =
    let a = c.args.arena.now in
    let t = c.resolve-at.new.trail in
    let seen = c.shorten.new.seen.items in
    let k = c.in_ok-attach.ensures in
    let m = rw c.deref-2.ensures.value at c.last_marked-before.ensures in
    let same_clause : c.deref-4.result.now ≡ marked seen (lits t.entries) = c.deref-4.ensures.value ∙ (c.in_ok-lits.ensures ∙ ap (λ s. marked s (lits t.entries)) c.deref.ensures.value) in
    let all = ready-learned (clauses_of (numbered a)) a c.attach.new.self t seen c.resolve-at.result c.back_level-back.result c.args.head.now c.in_ok-attach.field-0 c.last_marked-before.result c.deref-4.result.now (rw c.resolve-at.ensures.same c.requires.ready) (rw c.resolve-at.ensures.same c.requires.level) c.in_ok-shorten.ensures.resolved m c.back_level-back.ensures same_clause k.arena k.clauses k.fresh in
    rw (c.head_after.ensures, c.undo_to.ensures, c.bump.ensures) all
