use Rattle.std.proofs.Common.{◌<◌, ℕ, IsTrue, Option, Some, length, refl, sym, subst}
use Rattle.cnf.specs.declared.lit.Lit.{Lit}
use Rattle.cnf.specs.Lits.{is_among}
use Rattle.sat_trail.specs.Trail.{lits, with_implied}
use Rattle.sat_arena.specs.Arena.{clause_at, watch_list}
use Rattle.sat_arena.proofs.ForCallers.{rest_from, IsWalk, walk-meets}
use Rattle.sat_watch.specs.Numbered.{numbered}
use Rattle.sat_watch.specs.Watch.{IsUnit}
use Rattle.sat_watch.proofs.NumberLemmas.{under-index}
use Rattle.sat_watch.proofs.StepLemmas.{implies-from_unit}
use Rattle.sat_watch.proofs.VisitLemmas.{IsVisit, visit-begin, met-known, visit-keep, visit-longer, implied-true, visit-move, visit-end, visit-conflict, looked-false, met-fewer, kept-fewer}
use Rattle.sat_watch.proofs.propagation.visit.Goals as goal

pub walk-init : goal.walk-init
walk-init c = visit-begin c.args.arena.now c.args.trail.now c.args.head c.args.lit c.first-next.result c.requires.sound c.requires.ready c.requires.entry c.first-next.ensures c.requires.short

pub at-requires-clause-known : goal.at-requires-clause-known
at-requires-clause-known c =
    let v = c.walk.invariant in
    let W : Option ℕ → Type 0 = λ o. IsWalk (watch_list c.walk.arena c.args.lit) c.walk.before o in
    (met-known c.walk.arena c.args.lit c.walk.before c.in-Some.clause v.arena (subst W c.in-Some.is v.walk)).0

pub at-requires-clause-watching : goal.at-requires-clause-watching
at-requires-clause-watching c =
    let v = c.walk.invariant in
    let W : Option ℕ → Type 0 = λ o. IsWalk (watch_list c.walk.arena c.args.lit) c.walk.before o in
    (met-known c.walk.arena c.args.lit c.walk.before c.in-Some.clause v.arena (subst W c.in-Some.is v.walk)).1

pub at-requires-clause-is_false : goal.at-requires-clause-is_false
at-requires-clause-is_false c = looked-false c.args.arena.now c.args.trail.now c.args.head c.args.lit c.walk.arena c.walk.trail c.walk.before c.walk.next c.walk.invariant

pub walk-smaller-in-Backed : goal.walk-smaller-in-Backed
walk-smaller-in-Backed c =
    let v = c.walk.invariant in
    let cs = watch_list c.walk.arena c.args.lit in
    let W : Option ℕ → Type 0 = λ o. IsWalk cs c.walk.before o in
    let L : Option ℕ → Type 0 = λ o. length (rest_from cs c.next-next.result) < length (rest_from cs o) in
    subst L (sym c.in-Some.is) (kept-fewer cs c.walk.before c.next-next.result c.in-Some.clause (v.arena.once c.args.lit) (subst W c.in-Some.is v.walk) c.next-next.ensures)

pub walk-preserved-in-Backed : goal.walk-preserved-in-Backed
walk-preserved-in-Backed c =
    let V : Option ℕ → Type 0 = λ o. IsVisit c.args.arena.now c.args.trail.now c.args.head c.args.lit c.walk.arena c.walk.trail c.walk.before o in
    visit-keep c.args.arena.now c.args.trail.now c.args.head c.args.lit c.walk.arena c.walk.trail c.walk.before c.next-next.result c.in-Some.clause (subst V c.in-Some.is c.walk.invariant) c.next-next.ensures c.in-Backed.ensures.shows

pub move_after-requires-clause-behind : goal.move_after-requires-clause-behind
move_after-requires-clause-behind c =
    let v = c.walk.invariant in
    let cs = watch_list c.walk.arena c.args.lit in
    let W : Option ℕ → Type 0 = λ o. IsWalk cs c.walk.before o in
    (walk-meets cs c.walk.before c.next-next.result c.in-Some.clause (v.arena.once c.args.lit) (subst W c.in-Some.is v.walk) c.next-next.ensures).behind

pub walk-smaller-in-Other : goal.walk-smaller-in-Other
walk-smaller-in-Other c =
    let v = c.walk.invariant in
    let cs = watch_list c.walk.arena c.args.lit in
    let W : Option ℕ → Type 0 = λ o. IsWalk cs c.walk.before o in
    let L : Option ℕ → Type 0 = λ o. length (rest_from (watch_list c.move_after.new.self c.args.lit) c.next-next.result) < length (rest_from cs o) in
    subst L (sym c.in-Some.is) (met-fewer cs (watch_list c.move_after.new.self c.args.lit) c.walk.before c.next-next.result c.in-Some.clause (v.arena.once c.args.lit) (subst W c.in-Some.is v.walk) c.next-next.ensures c.move_after.ensures.lit)

pub walk-preserved-in-Other : goal.walk-preserved-in-Other
walk-preserved-in-Other c =
    let V : Option ℕ → Type 0 = λ o. IsVisit c.args.arena.now c.args.trail.now c.args.head c.args.lit c.walk.arena c.walk.trail c.walk.before o in
    let m = c.move_after.ensures in
    visit-move c.args.arena.now c.args.trail.now c.args.head c.args.lit c.walk.arena c.move_after.new.self c.walk.trail c.walk.before c.next-next.result c.in-Some.clause c.in-Other.to (subst V c.in-Some.is c.walk.invariant) c.next-next.ensures c.in-Other.ensures.shows m.arena m.vars m.clauses m.lit

pub walk-smaller : goal.walk-smaller
walk-smaller c =
    let v = c.walk.invariant in
    let cs = watch_list c.walk.arena c.args.lit in
    let W : Option ℕ → Type 0 = λ o. IsWalk cs c.walk.before o in
    let L : Option ℕ → Type 0 = λ o. length (rest_from cs c.next-next.result) < length (rest_from cs o) in
    subst L (sym c.in-Some.is) (kept-fewer cs c.walk.before c.next-next.result c.in-Some.clause (v.arena.once c.args.lit) (subst W c.in-Some.is v.walk) c.next-next.ensures)

pub walk-preserved : goal.walk-preserved
walk-preserved c =
    let a = c.walk.arena in
    let t = c.walk.trail in
    let clause = c.in-Some.clause in
    let V : Option ℕ → Type 0 = λ o. IsVisit c.args.arena.now c.args.trail.now c.args.head c.args.lit a t c.walk.before o in
    let v = subst V c.in-Some.is c.walk.invariant in
    let known = (met-known a c.args.lit c.walk.before clause v.arena v.walk).0 in
    let shows = c.in-Unit.ensures.shows in
    let unit : IsUnit (clause_at a clause).lits (lits t.entries) c.in-Unit.partner = shows.1 in
    let longer = visit-longer c.args.arena.now c.args.trail.now c.args.head c.args.lit a t c.walk.before (Some clause) c.in-Unit.partner clause v (c.in-Unit.ensures.unit c.in-Unit.partner refl) unit.open_one (implies-from_unit (numbered a) (lits t.entries) clause (clause_at a clause).lits c.in-Unit.partner (under-index a clause known) unit) in
    let T : Lit → Type 0 = λ l. IsTrue (is_among (lits (with_implied t c.in-Unit.partner clause).entries) l) in
    rw c.imply.ensures (visit-keep c.args.arena.now c.args.trail.now c.args.head c.args.lit a (with_implied t c.in-Unit.partner clause) c.walk.before c.next-next.result clause longer c.next-next.ensures (subst T shows.0 (implied-true t c.in-Unit.partner clause)))

pub returns-in-False-clause-found : goal.returns-in-False-clause-found
returns-in-False-clause-found c =
    let V : Option ℕ → Type 0 = λ o. IsVisit c.args.arena.now c.args.trail.now c.args.head c.args.lit c.walk.arena c.walk.trail c.walk.before o in
    visit-conflict c.args.arena.now c.args.trail.now c.args.head c.args.lit c.walk.arena c.walk.trail c.walk.before c.in-Some.clause (subst V c.in-Some.is c.walk.invariant) c.in-False.ensures.shows

pub returns-clause-found : goal.returns-clause-found
returns-clause-found c = visit-end c.args.arena.now c.args.trail.now c.args.head c.args.lit c.walk.arena c.walk.trail c.walk.before c.walk.next c.walk.invariant c.in_default.is
