-- A text as it is shown on one line of a terminal (own).
use Rattle.std.specs.Prelude.{ℕ, nat_lt, ◌==◌, ◌||◌, Bool, if◌then◌else◌, List, map}
use Rattle.css_model.specs.Text.Characters.{space}

-- a control code of ASCII: U+0000 to U+001F, or U+007F (RFC 20, section 5.2)
abbrev pub is_control : ℕ → Bool
is_control byte = nat_lt byte space || byte == 0x7F

-- a space for a control code; all else stays
abbrev pub shown_byte : ℕ → ℕ
shown_byte byte = if is_control byte then space else byte

-- the text with one space for each control code, so that it is one line and no terminal obeys it
abbrev pub shown : List ℕ → List ℕ
shown text = map shown_byte text
