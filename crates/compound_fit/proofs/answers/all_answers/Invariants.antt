use Rattle.std.proofs.Common.{◌≡◌, map, take}
use Rattle.std.specs.List.{All}
use Rattle.compound_fit.specs.Attributes.{tests_of}
use Rattle.compound_fit.specs.Fitting.{SolvesName}
use Rattle.compound_fit.proofs.answers.all_answers.Given as goal

abbrev pub invariant-loop-name : goal.invariant-loop-name
invariant-loop-name l = record {
  names : map (λ a. a.0) l.answers.items ≡ take l.name-index l.name-items;
  solved : All (λ a. SolvesName a.0 a.1 (tests_of a.0 l.tests)) l.answers.items;
}
