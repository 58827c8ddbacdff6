use Rattle.std.proofs.Common.{◌≡◌, ◌++◌, map, take}
use Rattle.std.specs.List.{filter}
use Rattle.order_laws.specs.Reversed as order
use Rattle.sheet_order.proofs.entries.push_pairs_reversed.Given as goal

-- the entries of the first ones stand behind the others
abbrev pub invariant-loop-q : goal.invariant-loop-q
invariant-loop-q l = l.found.items ≡ l.fn.found.items ++ map (order.with_pair l.p) (filter (λ x. order.is_reversed l.old.items.now l.new.items.now l.p.pair x.pair) (take l.q-index l.pairs))
