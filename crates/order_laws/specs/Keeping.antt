-- What a sheet has in common with one that it keeps.
use Rattle.std.specs.Prelude.{◌≡◌, ℕ, List}
use Rattle.std.specs.List.{Contains}
use Rattle.css_model.specs.declared.sheet.Item.{Item}
use Rattle.css_model.specs.Cascade.Winner.{Declared, AreMeanings, Understood, winner}
use Rattle.css_model.specs.Documents.Document.{Document, Target, IsLegal}
use Rattle.css_model.specs.Cascade.Family.{Related}
use Rattle.css_model.specs.Cascade.Order.{Keeps}

-- Each two names of the understood declarations are related: they may compete for one longhand
-- (CSS Cascading 3, section 3; which names are related is own).
abbrev pub AreRelated : List Understood → Type 0
AreRelated us = (u v : Understood) → Contains us u → Contains us v → Related u.name v.name

-- The law of the cascade: a sheet that keeps another one has its winners (CSS Cascading 3, section 6),
-- in every legal document, for every target, whatever the kept items mean and a browser understands.
abbrev pub KeepingKeepsWinners : Type 0
KeepingKeepsWinners = (source source' : List ℕ) (items items' : List Item) → Keeps source items source' items' →
    (doc : Document) (target : Target) (meanings : List (List Declared)) (us : List Understood) →
    IsLegal doc → AreMeanings items meanings → AreRelated us →
    winner doc target meanings items us ≡ winner doc target meanings items' us

-- each sheet keeps itself
abbrev pub EachSheetKeepsItself : Type 0
EachSheetKeepsItself = (source : List ℕ) (items : List Item) → Keeps source items source items

-- a sheet is kept by each one that it keeps
abbrev pub KeepingIsMutual : Type 0
KeepingIsMutual = (source source' : List ℕ) (items items' : List Item) →
    Keeps source items source' items' → Keeps source' items' source items

-- what keeps a sheet that keeps another one keeps this one too
abbrev pub KeepingGoesOn : Type 0
KeepingGoesOn = (source source' source'' : List ℕ) (items items' items'' : List Item) →
    Keeps source items source' items' → Keeps source' items' source'' items'' → Keeps source items source'' items''
