-- What is asked of a sheet that is read.
use Rattle.std.proofs.Common.{◌≡◌, ℕ, List, Result, Ok, Err, refl, sym, subst}
use Rattle.css_model.specs.declared.fault.SheetFault.{SheetFault}
use Rattle.css_model.specs.declared.sheet.Item.{Item}
use Rattle.overlap.specs.PairsParts.{PairsParts}
use Rattle.lint_text.specs.Asking.{AsksEach, AsksOf, all_selectors}
use Rattle.lint_text.proofs.Asked.{asks_none}

pub asks_nothing : (text : List ℕ) (read : Result (List Item) SheetFault) (p : PairsParts) → AsksOf text read p p
asks_nothing text (Ok items) p = asks_none p (all_selectors text items)
asks_nothing text (Err fault) p = refl

pub asks_of_read : (text : List ℕ) (read : Result (List Item) SheetFault) (items : List Item) (p q : PairsParts) → read ≡ Ok items → AsksEach p q (all_selectors text items) → AsksOf text read p q
asks_of_read text read items p q is h = subst (λ (r : Result (List Item) SheetFault). AsksOf text r p q) (sym is) h
