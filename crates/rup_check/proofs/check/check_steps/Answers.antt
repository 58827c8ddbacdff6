use Rattle.std.proofs.Common.{◌≡◌, Bool, IsTrue, List, [], ◌∷◌, ◌++◌, length, take, refl, sym, ap, subst, ◌∙◌, inl}
use Rattle.std.specs.Prelude.{MatchBool}
use Rattle.std.proofs.lemmas.Bool.{false≢true}
use Rattle.std.proofs.lemmas.List.{append-nil}
use Rattle.std.proofs.lemmas.Option.{slice_get_read}
use Rattle.cnf.specs.declared.lit.Lit.{Lit}
use Rattle.cnf.specs.Cnf.{Cnf}
use Rattle.cnf.specs.Propagation.{IsForced}
use Rattle.sat_trail.specs.Trail.{Assignment}
use Rattle.sat_arena.specs.Arena.{WatchedClauses, clause_lits}
use Rattle.sat_watch.specs.Nonempty.{is_nonempty, are_nonempty}
use Rattle.sat_watch.specs.Numbered.{Numbered, numbered, clauses_of}
use Rattle.sat_watch.proofs.ForCallers.{clauses_of-numbered}
use Rattle.rup_check.specs.Root.{IsRoot}
use Rattle.rup_check.proofs.LogLemmas.{at-end, each-all, each-next, each-rest, fault-at, front-next}
use Rattle.rup_check.proofs.RootLemmas.{forced-nonempty, root-found}
use Rattle.rup_check.proofs.check.check_steps.Goals as goal

-- no clause of the arena is empty
full : (f : Cnf) (a : WatchedClauses) → clause_lits a ≡ f.clauses → IsTrue (are_nonempty f.clauses) → IsTrue (are_nonempty (clauses_of (numbered a)))
full f a e h = let P : List (List Lit) → Type 0 = λ cs. IsTrue (are_nonempty cs) in subst P (sym (clauses_of-numbered a ∙ e)) h

pub propagate-requires-clause-nonempty : goal.propagate-requires-clause-nonempty
propagate-requires-clause-nonempty c = full c.args.f.now c.in_ok-arena.arena c.in_ok-arena.ensures.clauses c.requires.nonempty

pub returns-then-is_some : goal.returns-then-is_some
returns-then-is_some c =
    let p = c.propagate.ensures in
    let f = c.args.f.now in
    let a = c.propagate.new.arena in
    let P : List Numbered → Type 0 = λ ns. IsTrue (are_nonempty (clauses_of ns)) in
    let nonempty = subst P (sym p.same) (full f c.in_ok-arena.arena c.in_ok-arena.ensures.clauses c.requires.nonempty) in
    let level : c.in_ok-trail.trail.level ≡ 0 = ap (λ (t : Assignment). t.level) c.in_ok-trail.ensures in
    let vars : c.in_ok-trail.trail.vars ≡ c.vars.result = ap (λ (t : Assignment). t.vars) c.in_ok-trail.ensures in
    let m = root-found a c.propagate.new.trail c.propagate.new.head c.propagate.result c.is_some.result c.is_some.ensures (p.level ∙ level) (p.vars ∙ (vars ∙ (c.vars.ensures.value ∙ (sym c.in_ok-arena.ensures.vars ∙ sym p.arena_vars)))) nonempty p.sound p.ready p.found p.looked p.short in
    let B : Bool → Type 0 = λ b. MatchBool b (IsForced (clauses_of (numbered a)) []) (IsRoot a c.propagate.new.trail c.propagate.new.head) in
    let F : List (List Lit) → Type 0 = λ cs. IsForced cs [] in
    let forced = subst F (ap clauses_of p.same ∙ (clauses_of-numbered c.in_ok-arena.arena ∙ c.in_ok-arena.ensures.clauses)) (subst B c.if-is_some.true m) in
    at-end f.clauses c.args.steps.now c.at_end.result c.requires.nonempty (each-all f.clauses c.args.steps.now forced) c.at_end.ensures

pub steps-init : goal.steps-init
steps-init c =
    let p = c.propagate.ensures in
    let f = c.args.f.now in
    let a = c.propagate.new.arena in
    let P : List Numbered → Type 0 = λ ns. IsTrue (are_nonempty (clauses_of ns)) in
    let nonempty = subst P (sym p.same) (full f c.in_ok-arena.arena c.in_ok-arena.ensures.clauses c.requires.nonempty) in
    let level : c.in_ok-trail.trail.level ≡ 0 = ap (λ (t : Assignment). t.level) c.in_ok-trail.ensures in
    let vars : c.in_ok-trail.trail.vars ≡ c.vars.result = ap (λ (t : Assignment). t.vars) c.in_ok-trail.ensures in
    let m = root-found a c.propagate.new.trail c.propagate.new.head c.propagate.result c.is_some.result c.is_some.ensures (p.level ∙ level) (p.vars ∙ (vars ∙ (c.vars.ensures.value ∙ (sym c.in_ok-arena.ensures.vars ∙ sym p.arena_vars)))) nonempty p.sound p.ready p.found p.looked p.short in
    let B : Bool → Type 0 = λ b. MatchBool b (IsForced (clauses_of (numbered a)) []) (IsRoot a c.propagate.new.trail c.propagate.new.head) in
    record {
      clauses = ap clauses_of p.same ∙ (clauses_of-numbered c.in_ok-arena.arena ∙ (c.in_ok-arena.ensures.clauses ∙ sym (append-nil f.clauses)));
      vars = p.arena_vars ∙ c.in_ok-arena.ensures.vars;
      root = subst B c.if-is_some.false m;
      forced = tt;
    }

pub returns-then-not-is_forced : goal.returns-then-not-is_forced
returns-then-not-is_forced c =
    let i = c.steps.invariant in
    let steps = c.args.steps.now in
    let step = c.index-steps-k.result in
    let at = slice_get_read steps (length steps) c.steps.k step refl c.steps-test.true c.index-steps-k.is in
    let read = c.deref.ensures.value ∙ c.step.view_is in
    let F : List (List Lit) → Type 0 = λ cs. IsForced cs step in
    let S : List Lit → Type 0 = λ ls. IsForced (clauses_of (numbered c.steps.arena)) ls in
    inl (fault-at c.args.f.now.clauses steps c.steps.k step at i.forced (λ f. false≢true (sym c.if-not-is_forced.true ∙ c.is_forced.ensures.forced.1 (subst S (sym read) (subst F (sym i.clauses) f)))))

pub add_step-requires-clause-nonempty : goal.add_step-requires-clause-nonempty
add_step-requires-clause-nonempty c =
    let i = c.steps.invariant in
    let read = c.deref.ensures.value ∙ c.step.view_is in
    let again = c.deref-in-steps.ensures.value ∙ c.step.view_is in
    let N : List Lit → Type 0 = λ ls. IsTrue (is_nonempty ls) in
    subst N (read ∙ sym again) (forced-nonempty c.steps.arena c.steps.trail c.steps.head c.deref.result.now i.root (c.is_forced.ensures.forced.0 c.if-not-is_forced.false))

pub returns-then-branch : goal.returns-then-branch
returns-then-branch c =
    let i = c.steps.invariant in
    let formula = c.args.f.now.clauses in
    let steps = c.args.steps.now in
    let step = c.index-steps-k.result in
    let at = slice_get_read steps (length steps) c.steps.k step refl c.steps-test.true c.index-steps-k.is in
    let read = c.deref.ensures.value ∙ c.step.view_is in
    let again = c.deref-in-steps.ensures.value ∙ c.step.view_is in
    let F : List (List Lit) → Type 0 = λ cs. IsForced cs step in
    let S : List Lit → Type 0 = λ ls. IsForced (clauses_of (numbered c.steps.arena)) ls in
    let forced = subst F i.clauses (subst S read (c.is_forced.ensures.forced.0 c.if-not-is_forced.false)) in
    let a = c.add_step.new.arena in
    let e = c.in_ok-add_step.ensures in
    let B : Bool → Type 0 = λ b. MatchBool b (IsForced (clauses_of (numbered a)) []) (IsRoot a c.add_step.new.trail c.add_step.new.head) in
    let refuted = subst B c.if-branch.true e.root in
    let added : clauses_of (numbered a) ≡ (formula ++ take c.steps.k steps) ++ step ∷ [] = e.clauses ∙ (ap (λ cs. cs ++ c.deref-in-steps.result.now ∷ []) (ap clauses_of c.is_forced.ensures.same ∙ i.clauses) ∙ ap (λ ls. (formula ++ take c.steps.k steps) ++ ls ∷ []) again) in
    let E : List (List Lit) → Type 0 = λ cs. IsForced cs [] in
    at-end formula steps c.at_end-then-branch.result c.requires.nonempty (each-rest formula steps c.steps.k step at i.forced forced (subst E added refuted)) c.at_end-then-branch.ensures

pub steps-preserved : goal.steps-preserved
steps-preserved c =
    let i = c.steps.invariant in
    let formula = c.args.f.now.clauses in
    let steps = c.args.steps.now in
    let step = c.index-steps-k.result in
    let at = slice_get_read steps (length steps) c.steps.k step refl c.steps-test.true c.index-steps-k.is in
    let read = c.deref.ensures.value ∙ c.step.view_is in
    let again = c.deref-in-steps.ensures.value ∙ c.step.view_is in
    let F : List (List Lit) → Type 0 = λ cs. IsForced cs step in
    let S : List Lit → Type 0 = λ ls. IsForced (clauses_of (numbered c.steps.arena)) ls in
    let forced = subst F i.clauses (subst S read (c.is_forced.ensures.forced.0 c.if-not-is_forced.false)) in
    let a = c.add_step.new.arena in
    let e = c.in_ok-add_step.ensures in
    let B : Bool → Type 0 = λ b. MatchBool b (IsForced (clauses_of (numbered a)) []) (IsRoot a c.add_step.new.trail c.add_step.new.head) in
    let added : clauses_of (numbered a) ≡ (formula ++ take c.steps.k steps) ++ step ∷ [] = e.clauses ∙ (ap (λ cs. cs ++ c.deref-in-steps.result.now ∷ []) (ap clauses_of c.is_forced.ensures.same ∙ i.clauses) ∙ ap (λ ls. (formula ++ take c.steps.k steps) ++ ls ∷ []) again) in
    record {
      clauses = added ∙ front-next formula steps c.steps.k step at;
      vars = e.vars ∙ (c.is_forced.ensures.vars ∙ i.vars);
      root = subst B c.if-branch.false e.root;
      forced = each-next formula steps c.steps.k step at i.forced forced;
    }
