use Rattle.std.proofs.Common.{take}
use Rattle.lint_text.specs.Asking.{AreHeld, AsksEach}
use Rattle.lint_text.proofs.asking.settle_each.Given as goal

-- the first selectors were asked for
abbrev pub invariant-loop-one : goal.invariant-loop-one
invariant-loop-one l = record {
  asks : AsksEach l.fn.pairs l.pairs l.selectors;
  held : AreHeld l.pairs.answers (take l.one-index l.selectors);
}
