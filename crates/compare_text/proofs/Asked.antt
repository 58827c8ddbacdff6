-- Asking for nothing.
use Rattle.std.proofs.Common.{◌≡◌, ℕ, [], Result, Ok, Err, arith, refl, sym}
use Rattle.std.proofs.lemmas.List.{append-nil}
use Rattle.css_model.specs.Documents.SelectorParts.{SelectorParts}
use Rattle.overlap.specs.PairsParts.{PairsParts}
use Rattle.compare_text.specs.ComparedTexts.{AsksFor}

pub asks_nothing : (left right : Result SelectorParts ℕ) (pairs : PairsParts) → AsksFor left right pairs pairs
asks_nothing (Ok x) (Ok y) pairs = record { budget = refl; more = []; is = sym (append-nil pairs.answers); only = λ k e none. absurd (omega (arith, none)) }
asks_nothing (Ok x) (Err reason) pairs = refl
asks_nothing (Err reason) right pairs = refl
