use Rattle.std.proofs.Common.{◌||◌, IsTrue, sym, ◌∙◌}
use Rattle.std.proofs.lemmas.Bool.{or_left, or_right, eq-eqb}
use Rattle.cnf.specs.Lits.{same}
use Rattle.sat_trail.specs.Trail.{lits}
use Rattle.sat_arena.specs.Arena.{clause_at}
use Rattle.sat_arena.proofs.ForCallers.{among-slice_get}
use Rattle.sat_watch.specs.Soundness.{is_false}
use Rattle.sat_watch.proofs.PartnerLemmas.{but-more}
use Rattle.sat_watch.proofs.watch.other_watch.Goals as goal
use Rattle.sat_watch.proofs.watch.other_watch.Goals.{else-to-one-via-then-to-one+then-to-other+else-not-is_false, else-to-one-via-then-to-one+else-to-other, else-to-one-via-else-to-one}

pub returns-then-not-is_false-clause-found : goal.returns-then-not-is_false-clause-found
returns-then-not-is_false-clause-found c = record {
  holds_it = among-slice_get (clause_at c.args.arena.now c.args.clause).lits c.loop-k.k c.literal-to.result c.literal-to.ensures.literal;
  not_one = c.if-to-one.true;
  not_other = c.if-to-other.true;
  not_false = sym c.is_false.ensures ∙ c.if-not-is_false.true;
}

pub loop-k-preserved : goal.loop-k-preserved
loop-k-preserved c =
    let trail = lits c.args.trail.now.entries in
    let to = c.literal-to.result in
    let one = c.args.one in
    let other = c.args.other in
    let at : IsTrue (same to one || (same to other || is_false trail to)) = elim c.else-to-one.branch [
      | else-to-one-via-then-to-one+then-to-other+else-not-is_false w ↦ or_right (same to one) _ (or_right (same to other) (is_false trail to) (sym w.is_false.ensures ∙ w.if-not-is_false.false))
      | else-to-one-via-then-to-one+else-to-other w ↦ or_right (same to one) _ (or_left (same to other) (is_false trail to) (eq-eqb _ _ w.if-to-other.false))
      | else-to-one-via-else-to-one w ↦ or_left (same to one) _ (eq-eqb _ _ w.if-to-one.false)
    ] in
    but-more (clause_at c.args.arena.now c.args.clause).lits trail one other to c.loop-k.k c.loop-k.invariant c.literal-to.ensures.literal at
