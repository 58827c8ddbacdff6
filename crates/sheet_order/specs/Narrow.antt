-- Sheets whose parts can be numbered, and entries whose numbers are small.
use Rattle.std.specs.Prelude.{ℕ, ◌<◌, ◌^◌, List}
use Rattle.std.specs.List.{AllByRecursion}
use Rattle.css_model.specs.declared.sheet.Item.{Item}
use Rattle.css_model.specs.declared.sheet.Item.TheVariants.{Rule, KeptRule, KeptBlock}
use Rattle.order_laws.specs.Places.{PairPlace}
use Rattle.order_laws.specs.Reversed.{Other, AnotherPair, KeptAt, Reversal}
use Rattle.plan_laws.specs.Plannable.{IsPlannable}
use Rattle.selector_laws.specs.Limits.{KeepsLimits}

-- a sheet can be planned, with some source (own)
abbrev pub CanBePlanned : List Item → Type 0
CanBePlanned items = (source : List ℕ) × IsPlannable source items

-- the selectors of a rule keep the limits of the profile (own)
abbrev pub HasLimits : Item → Type 0
HasLimits (Rule r) = AllByRecursion (λ s. KeepsLimits s.selector) r.selectors
HasLimits (KeptRule kept) = Unit {0}
HasLimits (KeptBlock piece) = Unit {0}

-- the three numbers of a place are small (own)
pub record IsNarrowPlace (p : PairPlace) : Type 0 where
  pub item : p.item < 2 ^ 32
  pub selector : p.selector < 2 ^ 32
  pub decl : p.decl < 2 ^ 32

-- those of what is reversed with a pair are (own)
abbrev pub IsNarrowOther : Other → Type 0
IsNarrowOther (AnotherPair q) = IsNarrowPlace q.place
IsNarrowOther (KeptAt n) = n < 2 ^ 32

-- those of an entry are (own)
pub record IsNarrow (r : Reversal) : Type 0 where
  pub moved : IsNarrowPlace r.moved.place
  pub other : IsNarrowOther r.other
