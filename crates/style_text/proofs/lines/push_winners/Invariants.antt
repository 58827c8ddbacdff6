use Rattle.std.proofs.Common.{◌≡◌, ◌++◌, drop, map}
use Rattle.std.specs.List.{flat_map}
use Rattle.cascade_eval.specs.Winners.{outcome_of}
use Rattle.style_text.specs.Lines.{winner_line}
use Rattle.style_text.proofs.lines.push_winners.Given as goal

abbrev pub invariant-loop-won : goal.invariant-loop-won
invariant-loop-won l =
    l.out.items ++ flat_map winner_line (map (λ won. outcome_of won) (drop l.won-index l.wons))
    ≡ l.initial.out.items ++ flat_map winner_line (map (λ won. outcome_of won) l.wons)
