-- One part more makes the threshold the greater of the two.
use Rattle.std.proofs.Common.{◌≡◌, ◌≤◌, pos, ◌∙◌, sym, ap, arith, rules, get_or, w32, max}
use Rattle.std.specs.Prelude.{unsigned_abs, FitsSigned}
use Rattle.std.proofs.lemmas.Int.{to_z-of_z}
use Rattle.css_model.specs.declared.position.AnB.{AnB}
use Rattle.nth_positions.proofs.Offsets.{threshold_more}
use Rattle.nth_positions.proofs.limits.threshold.Goals as goal

pub loop-x-preserved : goal.loop-x-preserved
loop-x-preserved c =
    let d : AnB = record { a = pos 0; b = pos 0 } in
    let x : AnB = get_or c.args.parts.now c.loop-x.x-index d in
    let f : FitsSigned w32 x.b = search rules in
    let size : c.unsigned_abs.result ≡ unsigned_abs x.b = c.unsigned_abs.ensures.value ∙ ap unsigned_abs (to_z-of_z w32 x.b f) in
    let range : unsigned_abs x.b ≤ 1000 = (c.requires c.loop-x.x-index d c.loop-x-test.true).1 in
    record {
      exact = c.max-greatest.ensures ∙ ap (λ n. max n c.loop-x.greatest) size ∙ ap (max (unsigned_abs x.b)) c.loop-x.invariant.exact ∙ sym (threshold_more c.args.parts.now c.loop-x.x-index d c.loop-x-test.true);
      small = omega arith;
    }
