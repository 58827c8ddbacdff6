use Rattle.std.proofs.Common.{◌≡◌}
use Rattle.compound_fit.specs.Answers.{AreTexts}
use Rattle.compound_fit.specs.Attributes.{given}
use Rattle.compound_fit.proofs.answers.all_given.Given as goal

abbrev pub invariant-loop-name : goal.invariant-loop-name
invariant-loop-name l = record {
  pairs : l.pairs.items ≡ given l.yielded;
  texts : AreTexts l.pairs.items;
}
