-- What the printed text of an opened body is read back as.
use Rattle.std.specs.Prelude.{ℕ, ◌≡◌, ◌≤◌, nat_eq, false, List, length, Ok}
use Rattle.std.specs.List.{AllByRecursion, starts_with}
use Rattle.css_model.specs.declared.sheet.Item.{Item}
use Rattle.css_model.specs.Sheets.ComesFrom.{ComesFrom}
use Rattle.css_model.specs.Sheets.Limits.{max_bytes}
use Rattle.css_model.specs.Sheets.Printed.{printed}
use Rattle.css_model.specs.Sheets.Sheet.{sheet_of}
use Rattle.css_model.specs.Sheets.Spelling.{AreSame}
use Rattle.css_model.specs.Text.Source.{text_at}
use Rattle.css_model.specs.Text.Tokens.{byte_order_mark}
use Rattle.media_groups.specs.declared.media.Media.{Media}
use Rattle.media_groups.specs.Opened.{opened_of}
use Rattle.sheet_laws.specs.Twins.{AreTwins}

-- The printed text of a sheet of parts of a body is read back as that sheet, up to spelling and part by part, printed again it is the
-- same, and it does not begin with a byte order mark.
pub record IsBodyAgain (body : List ℕ) (new : List Item) : Type 0 where
  pub again : List Item
  pub reads : sheet_of (printed body new) ≡ Ok again
  pub same : AreSame body new (printed body new) again
  pub twins : AreTwins body (printed body new) new again
  pub prints : printed (printed body new) again ≡ printed body new
  pub unmarked : starts_with nat_eq (printed body new) byte_order_mark ≡ false

-- each sheet that is made of the parts of an opened body is read back from its printed text, where that is not too long
abbrev pub ReadsBackInBody : List ℕ → Media → Type 0
ReadsBackInBody source m = (new : List Item) → ComesFrom (text_at source m.body) m.sheet.items new → length (printed (text_at source m.body) new) ≤ max_bytes
    → IsBodyAgain (text_at source m.body) new

abbrev pub BodiesReadBack : Type 0
BodiesReadBack = (source : List ℕ) (items : List Item) → AllByRecursion (ReadsBackInBody source) (opened_of items source)

-- the printed text of an opened body as it was read is no longer than the body
abbrev pub BodiesAreNoLonger : Type 0
BodiesAreNoLonger = (source : List ℕ) (items : List Item) →
    AllByRecursion (λ m. length (printed (text_at source m.body) m.sheet.items) ≤ length (text_at source m.body)) (opened_of items source)
