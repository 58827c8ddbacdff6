use Rattle.std.proofs.Common.{◌≡◌, ◌+◌, ◌++◌, length}
use Rattle.std.specs.List.{AllByRecursion}
use Rattle.css_model.specs.Documents.Matching.{matches}
use Rattle.css_model.specs.Documents.RunDocuments.{expand, target_of}
use Rattle.cascade_eval.specs.Entries.{HasSmallSelectors, by_rules}
use Rattle.cascade_eval.proofs.entries.entries.Given as goal

abbrev pub invariant-items : goal.invariant-items
invariant-items l = record {
  found : l.found.items ++ by_rules (matches (expand l.x) (target_of l.x)) l.number l.left ≡ by_rules (matches (expand l.x) (target_of l.x)) 0 l.sheet.items;
  small : AllByRecursion HasSmallSelectors l.left;
  counted : l.number + length l.left ≡ length l.sheet.items;
}

abbrev pub decreases-items : goal.decreases-items
decreases-items l = length l.left
