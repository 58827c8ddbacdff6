use Rattle.std.proofs.Common.{ℕ, List, ap₂, subst, ◌∙◌}
use Rattle.std.specs.List.{filter, filter_map}
use Rattle.std.specs.Option.{option_map}
use Rattle.css_model.specs.Cascade.Winner.{AppliedDeclaration, greatest, outcome}
use Rattle.css_model.specs.Lists.{same_text}
use Rattle.cascade_eval.specs.Entries.{AscendingNames}
use Rattle.cascade_eval.proofs.Chosen.{winners_are}
use Rattle.cascade_eval.proofs.winning.winners.Goals as goal

pub returns : goal.returns
returns c =
    winners_are c.args.x.now c.args.sheet.now.items c.in_ok-entries.entries.items c.in_ok-names.names.items c.in_ok-wons.wons.items c.in_ok-entries.ensures
    (subst (λ (es : List AppliedDeclaration). AscendingNames c.in_ok-names.names.items es) c.as_slice.ensures.value c.in_ok-names.ensures)
    (c.in_ok-wons.ensures
    ∙ ap₂ (λ (es : List AppliedDeclaration) (names : List (List ℕ)). filter_map (λ name. option_map outcome (greatest (filter (λ e. same_text e.decl.name name) es))) names)
    c.as_slice-2.ensures.value c.as_slice-3.ensures.value)
