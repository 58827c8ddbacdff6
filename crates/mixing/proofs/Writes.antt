-- What a write feeds, by how many bytes it has.
use Rattle.std.proofs.Common.{◌≡◌, ℕ, ◌==◌, false, List, length, fold}
use Rattle.std.specs.Int.{from_le_bytes, w32, w64}
use Rattle.mixing.specs.declared.mixer.Mixer.{Mixer}
use Rattle.mixing.specs.Mixer.{mixed, write}

module _ (m : Mixer) (bytes : List ℕ) where
  pub four : length bytes ≡ 4 → write m bytes ≡ mixed m (from_le_bytes w32 bytes)
  unfolding write
  four e = rw e

  pub eight : length bytes ≡ 8 → write m bytes ≡ mixed m (from_le_bytes w64 bytes)
  unfolding write
  eight e = rw e

  pub others : (length bytes == 4) ≡ false → (length bytes == 8) ≡ false → write m bytes ≡ fold mixed m bytes
  unfolding write
  others a b = rw (a, b)
