-- What is found in couples whose order differs, by what is answered.
use Rattle.std.specs.Prelude.{◌≡◌, ◌<◌, ◌^◌, List, ◌∷◌, ◌++◌, Option, Some, None}
use Rattle.std.specs.List.{AllByRecursion}
use Rattle.css_model.specs.declared.sheet.Item.{Item}
use Rattle.css_model.specs.Selectors.Profile.{IsInProfile}
use Rattle.css_model.specs.Sheets.KeptItems.{kept_before}
use Rattle.order_laws.specs.Places.{PlacedPair}
use Rattle.overlap.specs.declared.answer.Answer.{Answer}
use Rattle.overlap.specs.declared.answer.Answer.TheVariants as answers
use Rattle.overlap.specs.PairsParts.{Answered}
use Rattle.overlap.specs.Remembered.{IsAnswered}
use Rattle.selector_laws.specs.Limits.{KeepsLimits}
use Rattle.sheet_order.specs.declared.places.PairPlace.{PairPlace}
use Rattle.sheet_order.specs.Narrow.{IsNarrowPlace}
use Rattle.sheet_order.specs.Places.{place_of}
use Rattle.sheet_same.specs.declared.compared.Compared.{Compared}
use Rattle.sheet_same.specs.declared.compared.Compared.TheVariants.{Reversed, KeptItem, Unsure}
use Rattle.sheet_same.specs.Members.{Member, Paired, KeptAt}
use Rattle.sheet_same.specs.Turned.{Couple}

-- ---- What may be asked

-- the numbers of a pair are small, and its selector is in the profile (own)
pub record IsAskablePair (x : PlacedPair) : Type 0 where
  pub narrow : IsNarrowPlace x.place
  pub profile : IsInProfile x.pair.selector
  pub limits : KeepsLimits x.pair.selector

abbrev pub IsAskable : Member → Type 0
IsAskable (Paired x) = IsAskablePair x
IsAskable (KeptAt n item) = n < 2 ^ 32

-- ---- What is found

-- what an answer for the selectors of two pairs at these places says of the sheets (own)
abbrev pub found_by : PairPlace → PairPlace → Answer → Option Compared
found_by p q answers.Apart = None
found_by p q (answers.Meet e) = Some (Reversed p q e)
found_by p q (answers.Outside reason number) = Some (Unsure reason)
found_by p q (answers.Spent ledger) = Some (Unsure 0)

-- this is found by the answer that is held for two pairs, the earlier one's selector first (own)
pub record JudgesPair (held : List Answered) (x y : PlacedPair) (found : Option Compared) : Type 0 where
  pub answer : Answer
  pub answered : IsAnswered held x.pair.selector y.pair.selector answer
  pub says : found_by (place_of x.place) (place_of y.place) answer ≡ found

-- This is found in a couple (own): of two pairs by the answer, and else the kept item by its number among the kept items.
abbrev pub JudgesMembers : List Answered → List Item → Member → Member → Option Compared → Type 0
JudgesMembers held items (Paired x) (Paired y) found = JudgesPair held x y found
JudgesMembers held items (Paired x) (KeptAt n item) found = found ≡ Some (KeptItem (kept_before n items))
JudgesMembers held items (KeptAt n item) m found = found ≡ Some (KeptItem (kept_before n items))

abbrev pub Judges : List Answered → List Item → Couple → Option Compared → Type 0
Judges held items c found = JudgesMembers held items c.earlier c.later found

-- nothing is found in any couple (own)
abbrev pub AreApart : List Answered → List Item → List Couple → Type 0
AreApart held items couples = AllByRecursion (λ c. Judges held items c None) couples

-- this is found in the first couple in which something is (own)
pub record IsFirst (held : List Answered) (items : List Item) (couples : List Couple) (found : Compared) : Type 0 where
  pub before : List Couple
  pub couple : Couple
  pub behind : List Couple
  pub parts : couples ≡ before ++ couple ∷ behind
  pub apart : AreApart held items before
  pub judges : Judges held items couple (Some found)

abbrev pub IsJudged : List Answered → List Item → List Couple → Option Compared → Type 0
IsJudged held items couples None = AreApart held items couples
IsJudged held items couples (Some found) = IsFirst held items couples found
