use Rattle.std.proofs.Common.{◌≡◌, ◌+◌, ◌++◌, length}
use Rattle.std.specs.List.{AllByRecursion, enumerate_from, flat_map}
use Rattle.cascade_eval.specs.Entries.{HasSmallSelectors}
use Rattle.css_model.specs.Documents.Matching.{matches}
use Rattle.css_model.specs.Documents.RunDocuments.{expand, target_of}
use Rattle.css_model.specs.Sheets.Sound.{IsSound}
use Rattle.inspect_laws.specs.Entries.{by_item}
use Rattle.inspect_text.proofs.gathering.push_items.Given as goal

-- what was put, and what is left to put
abbrev pub invariant-items : goal.invariant-items
invariant-items l = record {
  found : l.found.items ++ flat_map (by_item (matches (expand l.x) (target_of l.x)) l.layer) (enumerate_from l.number l.rest)
      ≡ l.fn.found.items ++ flat_map (by_item (matches (expand l.x) (target_of l.x)) l.layer) (enumerate_from 0 l.fn.items);
  small : AllByRecursion HasSmallSelectors l.rest;
  sound : IsSound l.layer.source l.rest;
  number : l.number + length l.rest ≡ length l.fn.items;
}

abbrev pub decreases-items : goal.decreases-items
decreases-items l = length l.rest
