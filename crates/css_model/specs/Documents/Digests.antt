-- The digest of what is fed to a hasher (own): the same number, below 2 ^ 32, for the same writes.
use Rattle.std.specs.Prelude.{ℕ}
use Rattle.std.specs.Hash.{HashWrites}
use Rattle.std.specs.List.{fold}
use Rattle.mixing.specs.Mixer.{finished, initial, write}

unfoldable pub digest_of : HashWrites → ℕ
digest_of writes = finished (fold write initial writes)
