use Rattle.std.proofs.Common.{◌≡◌, ◌++◌, length, map}
use Rattle.std.specs.List.{AllByRecursion}
use Rattle.diff_text.specs.Lines.{told_word}
use Rattle.diff_text.specs.Shown.{IsReadyTold}
use Rattle.diff_text.proofs.telling.words_of.Given as goal

abbrev pub invariant-told : goal.invariant-told
invariant-told l = record {
  words : l.words.items ++ map (told_word l.sides) l.rest ≡ map (told_word l.sides) l.fn.told;
  ready : AllByRecursion IsReadyTold l.rest;
}

abbrev pub decreases-told : goal.decreases-told
decreases-told l = length l.rest
