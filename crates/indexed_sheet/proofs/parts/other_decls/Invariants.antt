use Rattle.std.proofs.Common.{◌≡◌, not}
use Rattle.std.specs.List.{filter}
use Rattle.order_laws.specs.Members as members
use Rattle.indexed_sheet.proofs.parts.other_decls.Given as goal

-- those of the first ones
abbrev pub invariant-loop-item : goal.invariant-loop-item
invariant-loop-item l = l.kept.items ≡ filter (λ d. not (members.has_decl l.others d.decl)) l.yielded
