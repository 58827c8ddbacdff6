use Rattle.std.proofs.Common.{◌≡◌, ◌++◌, [], take, drop}
use Rattle.sheet_members.specs.Occurrences.{with_repeats}
use Rattle.sheet_members.specs.Repeats.{AreSelectors}
use Rattle.sheet_members.proofs.laying.with_repeats.Given as goal

-- the selectors so far are in the table; those found, and those to come
abbrev pub invariant-loop-number : goal.invariant-loop-number
invariant-loop-number l = record {
  keys : AreSelectors (take l.number l.selectors) l.before.keys;
  found : l.found.items ++ with_repeats (take l.number l.selectors) (drop l.number l.selectors) ≡ with_repeats [] l.selectors;
}
