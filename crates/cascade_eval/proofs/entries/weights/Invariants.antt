use Rattle.std.proofs.Common.{◌≡◌, ◌++◌, map, length}
use Rattle.std.specs.List.{AllByRecursion, filter}
use Rattle.css_model.specs.Documents.Matching.{matches}
use Rattle.css_model.specs.Documents.RunDocuments.{expand, target_of}
use Rattle.css_model.specs.Documents.Specificity.{specificity_of}
use Rattle.cascade_eval.specs.Entries.{IsSmall}
use Rattle.cascade_eval.proofs.entries.weights.Given as goal

abbrev pub invariant-selectors : goal.invariant-selectors
invariant-selectors l = record {
  weights :
      l.weights.items ++ map (λ selector. specificity_of selector) (filter (matches (expand l.x) (target_of l.x)) (map (λ s. s.selector) l.left))
      ≡ map (λ selector. specificity_of selector) (filter (matches (expand l.x) (target_of l.x)) (map (λ s. s.selector) l.fn.selectors));
  small : AllByRecursion (λ s. IsSmall s.selector) l.left;
}

abbrev pub decreases-selectors : goal.decreases-selectors
decreases-selectors l = length l.left
