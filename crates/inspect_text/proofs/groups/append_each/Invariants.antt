use Rattle.std.proofs.Common.{◌≡◌, ◌++◌, drop, map, take}
use Rattle.inspect_text.proofs.groups.append_each.Given as goal

-- the groups that have the line, and those that are left
abbrev pub invariant-loop-number : goal.invariant-loop-number
invariant-loop-number l = l.texts.items ≡ map (λ text. text ++ l.line) (take l.number l.fn.texts.items) ++ drop l.number l.fn.texts.items
