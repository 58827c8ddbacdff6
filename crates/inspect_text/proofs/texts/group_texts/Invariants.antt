use Rattle.std.proofs.Common.{◌≡◌, map, take}
use Rattle.std.specs.List.{filter, flat_map}
use Rattle.inspect_laws.specs.Groups.{is_in_group}
use Rattle.inspect_text.specs.Claims.{AreClaims}
use Rattle.inspect_text.specs.InspectTexts.{line_among}
use Rattle.inspect_text.proofs.texts.group_texts.Given as goal

-- the claims of the entries so far, and their lines
abbrev pub invariant-loop-e : goal.invariant-loop-e
invariant-loop-e l = record {
  claims : AreClaims (take l.e-index l.sorted) l.claims.keys;
  texts : l.texts.items ≡ map (λ family. flat_map (line_among l.lines.text.now l.sorted) (filter (is_in_group family) (take l.e-index l.sorted))) l.families;
}
