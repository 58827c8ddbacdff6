-- What is asked and told of a sheet that is read.
use Rattle.std.proofs.Common.{◌≡◌, ℕ, List, Result, Ok, Err, refl, sym, subst}
use Rattle.css_model.specs.declared.fault.SheetFault.{SheetFault}
use Rattle.css_model.specs.declared.sheet.Item.{Item}
use Rattle.css_model.specs.Sheets.Sheet.{sheet_of}
use Rattle.overlap.specs.PairsParts.{PairsParts}
use Rattle.dead_text.specs.DeadTexts.{AsksEach, AsksOf, TellsEach, TellsOf}
use Rattle.dead_text.specs.Listing.{numbered_selectors}
use Rattle.dead_text.proofs.Asked.{asks_none}

pub asks_nothing : (read : Result (List Item) SheetFault) (p : PairsParts) → AsksOf read p p
asks_nothing (Ok items) p = asks_none p (numbered_selectors items)
asks_nothing (Err fault) p = refl

pub asks_of_read : (read : Result (List Item) SheetFault) (items : List Item) (p q : PairsParts) → read ≡ Ok items → AsksEach p q (numbered_selectors items) → AsksOf read p q
asks_of_read read items p q is h = subst (λ (r : Result (List Item) SheetFault). AsksOf r p q) (sym is) h

pub tells_of_read : (p : PairsParts) (source text : List ℕ) (items : List Item) → sheet_of source ≡ Ok items → TellsEach p (numbered_selectors items) text → TellsOf p source text
tells_of_read p source text items read h = record { items = items; read = read; lives = h }
