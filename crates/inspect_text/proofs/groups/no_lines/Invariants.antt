use Rattle.std.proofs.Common.{◌≡◌, [], map, take}
use Rattle.inspect_text.proofs.groups.no_lines.Given as goal

abbrev pub invariant-loop-family : goal.invariant-loop-family
invariant-loop-family l = l.texts.items ≡ map (λ family. []) (take l._family-index l.families)
