use Rattle.std.proofs.Common.{◌≡◌, ◌++◌, take}
use Rattle.std.specs.List.{flat_map}
use Rattle.css_model.specs.Documents.Matching.{matches}
use Rattle.css_model.specs.Documents.RunDocuments.{expand, target_of}
use Rattle.inspect_laws.specs.Entries.{body_layer, by_layer}
use Rattle.inspect_text.proofs.gathering.push_bodies.Given as goal

-- the entries of the bodies so far
abbrev pub invariant-loop-number : goal.invariant-loop-number
invariant-loop-number l =
    l.found.items ≡ l.fn.found.items ++ flat_map (λ m. by_layer (matches (expand l.x) (target_of l.x)) (body_layer l.source m)) (take l.number l.media)
