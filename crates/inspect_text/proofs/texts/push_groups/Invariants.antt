use Rattle.std.proofs.Common.{◌≡◌, ◌∷◌, ◌++◌, drop}
use Rattle.std.specs.List.{flat_map}
use Rattle.inspect_text.proofs.texts.push_groups.Given as goal

abbrev pub invariant-loop-group : goal.invariant-loop-group
invariant-loop-group l = l.out.items ++ flat_map (λ text. 10 ∷ text) (drop l.group-index l.groups) ≡ l.initial.out.items ++ flat_map (λ text. 10 ∷ text) l.groups
