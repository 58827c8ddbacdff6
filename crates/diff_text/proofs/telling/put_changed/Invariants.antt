use Rattle.std.proofs.Common.{◌≡◌, ◌++◌, length}
use Rattle.std.specs.List.{AllByRecursion, filter, flat_map}
use Rattle.sheet_members.specs.Ready.{IsReadyCommon}
use Rattle.diff_text.specs.Lines.{changed_line}
use Rattle.diff_text.proofs.telling.put_changed.Given as goal

abbrev pub invariant-commons : goal.invariant-commons
invariant-commons l = record {
  text : l.out.items ++ flat_map (changed_line l.sides) (filter (λ c. c.mine.label.changed) l.rest)
      ≡ l.fn.out.items ++ flat_map (changed_line l.sides) (filter (λ c. c.mine.label.changed) l.fn.commons);
  ready : AllByRecursion IsReadyCommon l.rest;
}

abbrev pub decreases-commons : goal.decreases-commons
decreases-commons l = length l.rest
