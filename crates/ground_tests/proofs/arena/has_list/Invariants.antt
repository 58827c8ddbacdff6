use Rattle.std.proofs.Common.{IfSome}
use Rattle.std.specs.List.{Contains}
use Rattle.sat_arena.specs.Arena.{watch_list}
use Rattle.ground_tests.proofs.arena.has_list.Given as goal

abbrev pub invariant-loop-place : goal.invariant-loop-place
invariant-loop-place l = IfSome l.next (Contains (watch_list l.arena l.lit))
