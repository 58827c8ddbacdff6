-- Parts that are read where they stand.
use Rattle.std.specs.Prelude.{◌≡◌, ⊤, List, [], ◌∷◌, ◌++◌, ℕ, length, Ok, None}
use Rattle.std.specs.List.{AllByRecursion}
use Rattle.std.specs.Str.{IsUtf8}
use Rattle.css_model.specs.Text.TokenAt.{part_at}
use Rattle.css_model.specs.Text.Tokens.{Part, parts, text_of}

-- each part is the one at the front of its bytes and those behind it
abbrev pub IsLexed : List Part → Type 0
IsLexed [] = ⊤
IsLexed (p ∷ ps) = (part_at (p.bytes ++ text_of ps) ≡ Ok (p.kind, length p.bytes)) × IsLexed ps

-- the parts of a text with nothing wrong are read where they stand
abbrev pub PartsAreLexed : Type 0
PartsAreLexed = (text : List ℕ) → (parts text).flaw ≡ None → IsLexed (parts text).parts

-- parts that are read where they stand are the parts of the text that they spell
abbrev pub LexedAreParts : Type 0
LexedAreParts = (ps : List Part) → IsLexed ps → parts (text_of ps) ≡ record { parts = ps; flaw = None }

-- each such part of a text in UTF-8 is UTF-8 itself
abbrev pub LexedAreUtf8 : Type 0
LexedAreUtf8 = (ps : List Part) → IsLexed ps → IsUtf8 (text_of ps) → AllByRecursion (λ p. IsUtf8 p.bytes) ps
