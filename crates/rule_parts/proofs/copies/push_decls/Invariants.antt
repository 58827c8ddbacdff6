use Rattle.std.proofs.Common.{◌≡◌, ◌++◌, take}
use Rattle.rule_parts.proofs.copies.push_decls.Given as goal

-- copies of the first ones stand behind the others
abbrev pub invariant-loop-item : goal.invariant-loop-item
invariant-loop-item l = l.into.items ≡ l.fn.into.items ++ take l.item-index l.items
