use Rattle.std.proofs.Common.{length, take, sym, ap, ◌∙◌}
use Rattle.std.proofs.Math.Seq.{take-append_seam}
use Rattle.std.proofs.lemmas.Bool.{false≢true}
use Rattle.std.proofs.lemmas.Bool.Decides.{Decides-eqb}
use Rattle.std.proofs.lemmas.Slice.Eq.{slice_eq-Decides}
use Rattle.rup_check.proofs.fronts.after.Goals as goal

pub returns-else-eq : goal.returns-else-eq
returns-else-eq c rest e =
    let front = c.args.front.now in
    let d = slice_eq-Decides Decides-eqb _ _ _ c.eq.ensures in
    false≢true (sym c.if-eq.false ∙ d.1 (c.split_at.ensures.front ∙ (ap (take (length front)) e ∙ take-append_seam front rest)))
