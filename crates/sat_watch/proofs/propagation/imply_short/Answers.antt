use Rattle.std.proofs.Common.{◌≡◌, ◌+◌, ℕ, IsTrue, length, map, sym, subst, ◌∙◌, arith}
use Rattle.std.proofs.lemmas.List.{length-map}
use Rattle.cnf.specs.declared.lit.Lit.{Lit}
use Rattle.cnf.specs.Lits.{is_below}
use Rattle.sat_trail.specs.Trail.{Assignment, lits}
use Rattle.sat_arena.specs.Arena.{WatchedClause, clause_at}
use Rattle.sat_watch.specs.Numbered.{numbered}
use Rattle.sat_watch.specs.Soundness.{is_false, IsConflict}
use Rattle.sat_watch.specs.Watches.{IsMadeTrue}
use Rattle.sat_watch.proofs.ShortLemmas.{AreDone, short-below, short-conflict, done-two, done-made, done-all, same-watches, apart-watches}
use Rattle.sat_watch.proofs.propagation.imply_short.Goals as goal
use Rattle.sat_watch.proofs.propagation.imply_short.Goals.{else-one-other-via-then-one-other+else-not-make_true, else-one-other-via-else-one-other}

pub make_true-requires : goal.make_true-requires
make_true-requires c =
    let a = c.args.arena.now in
    let w = c.watches.ensures in
    let one = same-watches (clause_at a c.at-clause.result) c.watches.result.0 c.watches.result.1 w.one w.other c.if-one-other.true in
    let N : ℕ → Type 0 = λ n. IsTrue (is_below n c.watches.result.0) in
    let L : Lit → Type 0 = λ l. IsTrue (is_below a.vars l) in
    subst N (sym (c.loop-k.invariant.vars ∙ c.requires.vars)) (subst L (sym w.one) (short-below a c.at-clause.result c.requires.arena c.requires.nonempty c.at-clause.ensures.known one))

pub returns-then-not-make_true-clause-found : goal.returns-then-not-make_true-clause-found
returns-then-not-make_true-clause-found c =
    let a = c.args.arena.now in
    let w = c.watches.ensures in
    let one = same-watches (clause_at a c.at-clause.result) c.watches.result.0 c.watches.result.1 w.one w.other c.if-one-other.true in
    let m = rw c.if-not-make_true.true at c.make_true.ensures in
    let F : Lit → Type 0 = λ l. IsTrue (is_false (lits c.loop-k.trail.entries) l) in
    let P : Assignment → Type 0 = λ t. IsConflict (numbered a) (lits t.entries) c.at-clause.result in
    subst P (sym m.0) (short-conflict a c.at-clause.result (lits c.loop-k.trail.entries) c.requires.arena c.at-clause.ensures.known one (subst F w.one m.1))

pub loop-k-preserved : goal.loop-k-preserved
loop-k-preserved c =
    let a = c.args.arena.now in
    let w = c.watches.ensures in
    let P : Assignment → Type 0 = λ t. AreDone a c.args.trail.now t (c.loop-k.k + 1) in
    elim c.else-one-other.branch [
      | else-one-other-via-then-one-other+else-not-make_true b ↦
          let one = same-watches (clause_at a c.at-clause.result) c.watches.result.0 c.watches.result.1 w.one w.other b.if-one-other.true in
          let m = rw b.if-not-make_true.false at b.make_true.ensures in
          let M : Lit → Type 0 = λ l. IsMadeTrue c.loop-k.trail b.make_true.new.trail l c.at-clause.result in
          subst P (sym b.trail-is) (done-made a c.args.trail.now c.loop-k.trail b.make_true.new.trail c.loop-k.k c.at-clause.result c.requires.arena c.requires.nonempty (c.loop-k.invariant.vars ∙ c.requires.vars) c.loop-k.invariant c.at-clause.ensures.index c.at-clause.ensures.known one (subst M w.one m))
      | else-one-other-via-else-one-other b ↦
          subst P (sym b.trail-is) (done-two a c.args.trail.now c.loop-k.trail c.loop-k.k c.at-clause.result c.loop-k.invariant c.at-clause.ensures.index (apart-watches (clause_at a c.at-clause.result) c.watches.result.0 c.watches.result.1 w.one w.other b.if-one-other.false))
    ]

pub returns-clause-found : goal.returns-clause-found
returns-clause-found c =
    let a = c.args.arena.now in
    let n : length (map (λ (k : WatchedClause). k.index) a.clauses) ≡ length a.clauses = simp length-map in
    done-all a c.args.trail.now c.loop-k.trail c.loop-k.k c.loop-k.invariant (omega (arith, n, c.len-k-end.ensures, c.loop-k-test.false)) (omega (arith, c.loop-k.invariant.level, c.level.ensures.value, c.if-level-gt0.false))
