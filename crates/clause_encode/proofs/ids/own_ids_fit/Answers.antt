use Rattle.std.proofs.Common.{ap, length, true, ◌∙◌}
use Rattle.clause_encode.proofs.Apart.{own_apart}
use Rattle.clause_encode.proofs.ids.own_ids_fit.Goals as goal
use Rattle.formula_laws.specs.Allowed.{all_below, apart_in}
use Rattle.grid_laws.specs.Solved.{nth_compound}

pub returns : goal.returns
returns c =
    c.are_apart.ensures ∙ ap (λ chain. all_below (length chain) (λ i. apart_in (nth_compound chain i) chain (length chain) true i)) c.chain_of.ensures
    ∙ own_apart c.args.selector.now c.requires
