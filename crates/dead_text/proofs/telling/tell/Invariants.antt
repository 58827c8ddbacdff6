use Rattle.std.proofs.Common.{take}
use Rattle.dead_text.specs.DeadTexts.{AsksEach, TellsEach}
use Rattle.dead_text.proofs.telling.tell.Given as goal

-- the first selectors were told of
abbrev pub invariant-loop-one : goal.invariant-loop-one
invariant-loop-one l = record {
  asks : AsksEach l.fn.pairs l.pairs l.selectors;
  tells : TellsEach l.pairs (take l.one-index l.selectors) l.out.items;
}
