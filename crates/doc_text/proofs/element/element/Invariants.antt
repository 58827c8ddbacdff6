use Rattle.std.proofs.Common.{◌≡◌, ◌||◌, ◌++◌, length}
use Rattle.doc_text.specs.Elements.{attributes_of, flags_with, has_text}
use Rattle.doc_text.specs.Lines.{fields_of}
use Rattle.doc_text.proofs.element.element.Given as goal

-- what is told so far, with what the rest tells
abbrev pub invariant-fields : goal.invariant-fields
invariant-fields l =
    ((l.text || has_text (fields_of l.rest)) ≡ has_text (fields_of l.fields)) × (flags_with l.flags (fields_of l.rest) ≡ flags_with 0 (fields_of l.fields))
    × (l.attrs.items ++ attributes_of (fields_of l.rest) ≡ attributes_of (fields_of l.fields))

abbrev pub decreases-fields : goal.decreases-fields
decreases-fields l = length l.rest
