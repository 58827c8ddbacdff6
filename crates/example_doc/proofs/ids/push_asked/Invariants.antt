use Rattle.std.proofs.Common.{◌++◌, ◌≡◌, drop}
use Rattle.element_laws.specs.Ids.{asked_ids}
use Rattle.example_doc.proofs.ids.push_asked.Given as goal

abbrev pub invariant-loop-simple : goal.invariant-loop-simple
invariant-loop-simple l = l.ids.items ++ asked_ids (drop l.simple-index l.simples) ≡ l.fn.ids.items ++ asked_ids l.simples
