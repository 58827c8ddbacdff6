use Rattle.std.proofs.Common.{◌≡◌, not}
use Rattle.std.specs.List.{filter}
use Rattle.order_laws.specs.Members as members
use Rattle.indexed_sheet.proofs.parts.new_selectors.Given as goal

-- those of the first ones
abbrev pub invariant-loop-item : goal.invariant-loop-item
invariant-loop-item l = l.kept.items ≡ filter (λ s. not (members.has_selector l.others s.selector)) l.yielded
