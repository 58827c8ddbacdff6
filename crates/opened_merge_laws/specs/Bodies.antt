-- How long the bodies of opened blocks are together.
use Rattle.std.specs.Prelude.{ℕ, ◌+◌, ◌≡◌, ◌≤◌, List, [], ◌∷◌, Ok, length}
use Rattle.css_model.specs.declared.sheet.Item.{Item}
use Rattle.css_model.specs.Sheets.Sheet.{sheet_of}
use Rattle.css_model.specs.Text.Source.{text_at}
use Rattle.media_groups.specs.declared.media.Media.{Media}
use Rattle.media_groups.specs.Opened.{opened_of}

-- how many bytes the bodies of these opened blocks have together
abbrev pub bytes_in : List ℕ → List Media → ℕ
bytes_in source [] = 0
bytes_in source (m ∷ media) = length (text_at source m.body) + bytes_in source media

-- The bodies of the opened blocks of a sheet stand apart in its source: together they have no more bytes than it.
abbrev pub OpenedBodiesStandApart : Type 0
OpenedBodiesStandApart = (source : List ℕ) (items : List Item) → sheet_of source ≡ Ok items → bytes_in source (opened_of items source) ≤ length source
