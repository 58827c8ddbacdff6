-- What is known of opened blocks on the way through the items of a sheet.
use Rattle.std.specs.Prelude.{ℕ, suc, ◌≡◌, ◌≤◌, ◌==◌, if◌then◌else◌, List, [], ◌∷◌, Option, Some, None}
use Rattle.std.specs.List.{AllByRecursion}
use Rattle.css_model.specs.declared.sheet.Item.{Item}
use Rattle.css_model.specs.Sheets.Sound.{IsSound}
use Rattle.css_model.specs.Text.Source.{text_at}
use Rattle.media_groups.specs.declared.media.Media.{Media}
use Rattle.media_groups.specs.Laws.{IsBlockOf}
use Rattle.media_groups.specs.Opened.{opened_from, opened_of}
use Rattle.list_text.specs.ListTexts.{block_of}

-- the first of these blocks, if it is the item of this number, from 1
abbrev pub first_of : (number : ℕ) → List Media → Option Media
first_of number [] = None
first_of number (m ∷ media) = if suc m.item == number then Some m else None

-- those after it, or all if it is not
abbrev pub after_first : (number : ℕ) → List Media → List Media
after_first number [] = []
after_first number (m ∷ media) = if suc m.item == number then media else m ∷ media

-- an opened block of the sheet with these bytes, whose body can be printed
pub record IsBody (text : List ℕ) (m : Media) : Type 0 where
  pub block : IsBlockOf text m
  pub sound : IsSound (text_at text m.body) m.sheet.items

-- These blocks are those of the items from this one on, whose number is n from 0; of all blocks of the sheet they are the ones
-- that have the number of such an item.
pub record AreLeft (text : List ℕ) (all : List Item) (n : ℕ) (items : List Item) (media : List Media) : Type 0 where
  pub are : media ≡ opened_from text n items
  pub found : (k : ℕ) → n ≤ k → block_of (suc k) (opened_of all text) ≡ block_of (suc k) media
  pub bodies : AllByRecursion (IsBody text) media
