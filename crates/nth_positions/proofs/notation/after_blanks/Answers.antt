-- One blank less leaves a shorter text, and the same text behind all of them.
use Rattle.std.proofs.Common.{◌∙◌, sym}
use Rattle.nth_positions.proofs.Blanks.{past_blank_shorter, past_blanks_some}
use Rattle.nth_positions.proofs.notation.after_blanks.Goals as goal

pub loop-next-smaller : goal.loop-next-smaller
loop-next-smaller c = past_blank_shorter c.loop-next.rest.now c.in-Some.next.now (sym c.in-Some.ensures)

pub loop-next-preserved : goal.loop-next-preserved
loop-next-preserved c = sym (past_blanks_some c.loop-next.rest.now c.in-Some.next.now (sym c.in-Some.ensures)) ∙ c.loop-next.invariant
