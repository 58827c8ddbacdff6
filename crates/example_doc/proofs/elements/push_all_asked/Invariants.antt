use Rattle.std.proofs.Common.{drop, ◌++◌, ◌≡◌}
use Rattle.std.specs.List.{flat_map}
use Rattle.element_laws.specs.Ids.{asked_ids}
use Rattle.example_doc.proofs.elements.push_all_asked.Given as goal

abbrev pub invariant-loop-compound : goal.invariant-loop-compound
invariant-loop-compound l = l.ids.items ++ flat_map asked_ids (drop l.compound-index l.chain) ≡ l.fn.ids.items ++ flat_map asked_ids l.chain
