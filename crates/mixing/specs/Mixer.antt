-- What a hasher of one number holds after writes (own).
use Rattle.std.specs.Prelude.{ℕ, ◌==◌, ◌*◌, ◌/◌, ◌%◌, ◌^◌, List, if◌then◌else◌, length, bit_xor}
use Rattle.std.specs.Int.{from_le_bytes, rotate_left, w32, w64}
use Rattle.std.specs.List.{fold}
use Rattle.mixing.specs.declared.mixer.Mixer.{Mixer}

-- the state before anything was fed
unfoldable pub initial : Mixer
initial = record { state = 0x243f_6a88_85a3_08d3 }

-- the state after one number: the old one is rotated, the number goes in by xor, and a product mixes both
unfoldable pub mixed : Mixer → ℕ → Mixer
mixed m n = record { state = (bit_xor (rotate_left w64 m.state 5) n * 0x9e37_79b9_7f4a_7c15) % 2 ^ 64 }

-- The state after a write: four or eight bytes are one number, with the lowest byte first; of others each byte is one.
unfoldable pub write : Mixer → List ℕ → Mixer
write m bytes =
    if length bytes == 4 then mixed m (from_le_bytes w32 bytes)
    else (if length bytes == 8 then mixed m (from_le_bytes w64 bytes) else fold mixed m bytes)

-- the upper half of the state
unfoldable pub finished : Mixer → ℕ
finished m = m.state / 2 ^ 32
