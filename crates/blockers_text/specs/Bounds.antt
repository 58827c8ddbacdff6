-- How great tallies are (own).
use Rattle.std.specs.Prelude.{ℕ, ◌≤◌, ◌*◌, ◌^◌, List}
use Rattle.std.specs.List.{AllByRecursion}
use Rattle.blockers_text.specs.declared.tally.Tally.{Tally}

-- a tally of no more than so many steps
pub record IsBelow (n : ℕ) (t : Tally) : Type 0 where
  pub steps : t.steps ≤ n
  pub bytes : t.bytes ≤ n * 2 ^ 32
  pub alone : t.alone ≤ n
  pub alone_bytes : t.alone_bytes ≤ n * 2 ^ 32

abbrev pub AreBelow : ℕ → List Tally → Type 0
AreBelow n tallies = AllByRecursion (IsBelow n) tallies
