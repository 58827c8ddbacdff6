use Rattle.std.proofs.Common.{◌≡◌, ◌+◌, ◌<◌, vec_len, arith}
use Rattle.std.proofs.lemmas.Grind.{common_steps}
use Rattle.css_io.proofs.Moving.{gave_more}
use Rattle.css_io.proofs.moves.read_all.Goals as goal

pub pieces-preserved : goal.pieces-preserved
pieces-preserved g c =
    let some : 0 < c.in-Ok.n = grind (arith, common_steps) in
    let sum : vec_len c.extend_from_slice.new.self ≡ vec_len c.pieces.read + c.in-Ok.n = grind (arith, common_steps) in
    record {
      taken = grind (arith, common_steps);
      within = grind (arith, common_steps);
      room = grind (arith, common_steps);
      later = omega (arith, c.pieces.invariant.later, c.read.ensures.later);
      gave = gave_more g.S.Source.read_gives (vec_len c.pieces.read) c.in-Ok.n (vec_len c.extend_from_slice.new.self) c.args.src.now c.pieces.src c.read.new.self c.pieces.invariant.gave
          c.in-Ok.ensures.gives some sum;
    }
