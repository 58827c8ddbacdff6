use Rattle.std.proofs.Common.{arith, ◌≤◌, ◌∙◌}
use Rattle.sibling_clauses.proofs.Counting.{link_room, run_step}
use Rattle.sibling_clauses.proofs.Growing.{link_grows}
use Rattle.sibling_clauses.proofs.counts.add_run.Goals as goal
use Rattle.formula_laws.specs.Formula.{names_of}

pub add_link-requires-clause-room : goal.add_link-requires-clause-room
add_link-requires-clause-room c =
    link_room c.args.g c.args.first c.loop-k.k _ _ c.args.links.now _ (names_of c.args.g.left c.args.g.right c.args.g.digits).one c.loop-k.f _ c.loop-k-test.true (omega arith) c.loop-k.invariant.left c.requires.room

pub loop-k-preserved : goal.loop-k-preserved
loop-k-preserved c = record {
  left = run_step c.args.g c.args.first c.loop-k.k _ c.args.links.now _ (names_of c.args.g.left c.args.g.right c.args.g.digits).one c.loop-k.f c.add_link.new.f c.loop-k-test.true (omega arith) c.in_ok-add_link.ensures ∙ c.loop-k.invariant.left;
  grows =
      let g = c.loop-k.invariant.grows in
      let m : c.loop-k.f.vars ≤ c.add_link.new.f.vars = rw c.in_ok-add_link.ensures (link_grows _ _ _ _ _ _ c.loop-k.f) in
      omega (arith, g, m);
}
