use Rattle.std.proofs.Common.{drop, ◌++◌, ◌≡◌}
use Rattle.element_laws.specs.Chosen.{with_id}
use Rattle.example_doc.proofs.elements.with_id.Given as goal

abbrev pub invariant-loop-name : goal.invariant-loop-name
invariant-loop-name l = l.given.items ++ with_id l.id (drop l.name-index l.attrs) ≡ with_id l.id l.attrs
