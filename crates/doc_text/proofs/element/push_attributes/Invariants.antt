use Rattle.std.proofs.Common.{◌≡◌, ◌++◌, drop, map}
use Rattle.doc_text.specs.DocText.{attribute_field, spaced}
use Rattle.doc_text.proofs.element.push_attributes.Given as goal

abbrev pub invariant-loop-name : goal.invariant-loop-name
invariant-loop-name l = l.out.items ++ spaced (map attribute_field (drop l.name-index l.attributes)) ≡ l.initial.out.items ++ spaced (map attribute_field l.attributes)
