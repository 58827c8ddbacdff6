-- What contracts see of a source and a sink in memory.
use Rattle.std.specs.Prelude.{◌≡◌, ◌≤◌, ℕ, List, Result, Ok, Err, Contains, drop, length}
use Rattle.css_io.specs.Io.{next_count}

-- a source: the bytes left, how many a call gives at most, which calls fail, the number of the
-- next call, and how many have failed
pub record SourceState : Type 0 where
  pub left : List ℕ
  pub piece : ℕ
  pub fails : List ℕ
  pub call : ℕ
  pub faults : ℕ

-- what a read answers and leaves: it fails exactly at the calls that are told, and then takes no byte
abbrev pub SourceGives : {E : Type 0} → SourceState → Result ℕ E → SourceState → Type 0
SourceGives old (Ok n) new =
    (¬ Contains old.fails old.call) × (n ≤ length old.left) × (new ≡ record old { left = drop n old.left; call = next_count old.call })
SourceGives old (Err e) new =
    Contains old.fails old.call × (new ≡ record old { call = next_count old.call; faults = next_count old.faults })

-- a sink: the bytes written, how many it has room for in all, how many a call takes at most, which
-- calls fail, the number of the next call, and how many have failed
pub record SinkState : Type 0 where
  pub written : List ℕ
  pub room : ℕ
  pub piece : ℕ
  pub fails : List ℕ
  pub call : ℕ
  pub faults : ℕ
