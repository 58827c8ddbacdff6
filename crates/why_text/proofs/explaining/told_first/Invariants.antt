use Rattle.std.proofs.Common.{take}
use Rattle.why_text.specs.Explaining.{AsksAmong, TellNothing}
use Rattle.why_text.proofs.explaining.told_first.Given as goal

-- nothing is told of the first entries
abbrev pub invariant-loop-entry : goal.invariant-loop-entry
invariant-loop-entry l = record {
  asks : AsksAmong l.sheet.items l.entries l.fn.pairs l.pairs;
  nothing : TellNothing l.pairs.answers l.sheet.items (take l.entry-index l.entries);
}
