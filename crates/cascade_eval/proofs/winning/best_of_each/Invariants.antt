use Rattle.std.proofs.Common.{◌≡◌, ◌++◌, map, length}
use Rattle.std.specs.List.{filter, filter_map}
use Rattle.std.specs.Option.{option_map}
use Rattle.css_model.specs.Cascade.Winner.{greatest, outcome}
use Rattle.css_model.specs.Lists.{same_text}
use Rattle.cascade_eval.specs.Winners.{outcome_of}
use Rattle.cascade_eval.proofs.winning.best_of_each.Given as goal

abbrev pub invariant-names : goal.invariant-names
invariant-names l =
    map (λ won. outcome_of won) l.wons.items ++ filter_map (λ name. option_map outcome (greatest (filter (λ e. same_text e.decl.name name) l.entries))) l.left
    ≡ filter_map (λ name. option_map outcome (greatest (filter (λ e. same_text e.decl.name name) l.entries))) l.names

abbrev pub decreases-names : goal.decreases-names
decreases-names l = length l.left
