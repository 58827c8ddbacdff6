use Rattle.std.proofs.Common.{◌++◌, ℕ, List, ap, sym, ◌∙◌}
use Rattle.compound_fit.specs.Kinds.{refused_kinds}
use Rattle.compound_fit.proofs.TwoLists.{refused_append}
use Rattle.compound_fit.proofs.kind.refused_kinds.Goals as goal

pub returns : goal.returns
returns c =
    let x = c.args.x.now in
    let y = c.args.y.now in
    c.in_ok-push_refused-2.ensures ∙
    ap (λ (t : List (List ℕ)). t ++ refused_kinds y) (c.in_ok-push_refused.ensures ∙ ap (λ (t : List (List ℕ)). t ++ refused_kinds x) c.new-kinds.ensures.items) ∙ sym (refused_append x y)
