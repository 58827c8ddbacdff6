use Rattle.std.proofs.Common.{◌∙◌, ◌++◌, ℕ, List, ap}
use Rattle.compound_fit.specs.Kinds.{passes_kinds}
use Rattle.compound_fit.proofs.KindParts.{kind_fails, kind_passes}
use Rattle.compound_fit.proofs.kind.kind.Goals as goal

pub returns-then-both_pass : goal.returns-then-both_pass
returns-then-both_pass c =
    kind_passes c.in_ok-kind.kind (c.args.x.now ++ c.args.y.now) c.in_ok-kind.ensures
    (c.if-both_pass.ensures ∙ ap (λ (kind : List ℕ). passes_kinds kind (c.args.x.now ++ c.args.y.now)) c.codes.ensures.value)

pub returns-else-both_pass : goal.returns-else-both_pass
returns-else-both_pass c =
    kind_fails c.in_ok-kind.kind (c.args.x.now ++ c.args.y.now) c.in_ok-kind.ensures
    (c.if-both_pass.ensures ∙ ap (λ (kind : List ℕ). passes_kinds kind (c.args.x.now ++ c.args.y.now)) c.codes.ensures.value)
