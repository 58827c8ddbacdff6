use Rattle.std.proofs.Common.{◌≡◌, ◌++◌, take}
use Rattle.merge_steps.proofs.edits.push_items.Given as goal

-- copies of the first ones stand behind the others
abbrev pub invariant-loop-item : goal.invariant-loop-item
invariant-loop-item l = l.items.items ≡ l.fn.items.items ++ take l.item-index l.more
