-- What is told of a sheet that is read.
use Rattle.std.proofs.Common.{◌≡◌, ℕ, List, Ok}
use Rattle.css_model.specs.declared.sheet.Item.{Item}
use Rattle.css_model.specs.Sheets.Sheet.{sheet_of}
use Rattle.doc_text.specs.DocText.{ended}
use Rattle.list_text.specs.ListTexts.{IsListText, list_lines}

pub lists_read : (source text : List ℕ) (items : List Item) → sheet_of source ≡ Ok items → text ≡ ended (list_lines source items) → IsListText source text
lists_read source text items read lines = record { items = items; read = read; lines = lines }
