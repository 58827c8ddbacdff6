use Rattle.std.proofs.Common.{◌++◌, ◌≡◌, drop}
use Rattle.element_laws.specs.Ids.{refused_ids}
use Rattle.example_doc.proofs.ids.push_refused.Given as goal

abbrev pub invariant-loop-simple : goal.invariant-loop-simple
invariant-loop-simple l = l.ids.items ++ refused_ids (drop l.simple-index l.simples) ≡ l.fn.ids.items ++ refused_ids l.simples
