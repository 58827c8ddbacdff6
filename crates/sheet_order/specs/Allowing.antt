-- Whether a step may be taken, by what is answered.
use Rattle.std.specs.Prelude.{◌≡◌, ℕ, List, ◌∷◌, ◌++◌, Option, Some, None}
use Rattle.std.specs.List.{AllByRecursion}
use Rattle.css_model.specs.Documents.SelectorParts.{SelectorParts}
use Rattle.css_model.specs.Selectors.Profile.{IsInProfile}
use Rattle.order_laws.specs.Reversed.{Other, AnotherPair, KeptAt, Reversal}
use Rattle.overlap.specs.declared.answer.Answer.{Answer}
use Rattle.overlap.specs.declared.answer.Answer.TheVariants.{Apart, Meet, Outside, Spent}
use Rattle.overlap.specs.PairsParts.{Answered, PairsParts}
use Rattle.overlap.specs.Remembered.{IsAnswered}
use Rattle.step_laws.specs.declared.cause.BlockCause.{BlockCause}
use Rattle.step_laws.specs.declared.cause.BlockCause.TheVariants as causes
use Rattle.sheet_order.specs.declared.permitting.Allowed.{Allowed}
use Rattle.sheet_order.specs.declared.permitting.Allowed.TheVariants.{Free, Blocked}
use Rattle.sheet_order.specs.Narrow.{IsNarrow}

-- ---- Answers

-- all that was held is held, with the same budget (own)
pub record Stays (old new : PairsParts) : Type 0 where
  pub budget : new.budget ≡ old.budget
  pub held : (x y : SelectorParts) (answer : Answer) → IsAnswered old.answers x y answer → IsAnswered new.answers x y answer

-- the cause by an answer for a pair of the item of this number, if it is not that the selectors are apart (own)
abbrev pub cause_by : ℕ → Answer → Option BlockCause
cause_by item Apart = None
cause_by item (Meet e) = Some (causes.Meet item)
cause_by item (Outside reason number) = Some (causes.Outside item reason)
cause_by item (Spent ledger) = Some (causes.Spent item)

-- two selectors are answered to be apart, or this is the cause by another answer (own)
abbrev pub JudgesPair : List Answered → SelectorParts → SelectorParts → ℕ → Option BlockCause → Type 0
JudgesPair answers x y item None = IsAnswered answers x y Apart
JudgesPair answers x y item (Some cause) = (answer : Answer) × IsAnswered answers x y answer × (cause_by item answer ≡ Some cause)

-- ---- Entries

-- what is reversed with a pair is answered to be apart from it, or this is the cause that it is not (own)
abbrev pub JudgesOther : List Answered → SelectorParts → Other → Option BlockCause → Type 0
JudgesOther answers x (AnotherPair q) cause = JudgesPair answers x q.pair.selector q.place.item cause
JudgesOther answers x (KeptAt n) cause = cause ≡ Some (causes.Kept n)

-- an entry by itself (own)
abbrev pub Judges : List Answered → Reversal → Option BlockCause → Type 0
Judges answers r cause = JudgesOther answers r.moved.pair.selector r.other cause

-- each entry is a pair whose selectors are answered to be apart (own)
abbrev pub AreFree : List Answered → List Reversal → Type 0
AreFree answers entries = AllByRecursion (λ r. Judges answers r None) entries

-- the first entry that is not gives the cause (own)
pub record IsFirst (answers : List Answered) (entries : List Reversal) (cause : BlockCause) : Type 0 where
  pub before : List Reversal
  pub entry : Reversal
  pub behind : List Reversal
  pub parts : entries ≡ before ++ entry ∷ behind
  pub free : AreFree answers before
  pub blocks : Judges answers entry (Some cause)

-- A step with these entries may be taken exactly where each is a pair whose selectors are answered to be
-- apart, and else the first that is not tells the cause (own).
abbrev pub IsAllowed : List Answered → List Reversal → Allowed → Type 0
IsAllowed answers entries Free = AreFree answers entries
IsAllowed answers entries (Blocked cause) = IsFirst answers entries cause

-- ---- What is asked

-- what is reversed with a pair may be asked for (own)
abbrev pub IsAskableOther : Other → Type 0
IsAskableOther (AnotherPair q) = IsInProfile q.pair.selector
IsAskableOther (KeptAt n) = Unit {0}

-- the selectors of an entry are in the profile, and its numbers are small (own)
pub record IsAskable (r : Reversal) : Type 0 where
  pub narrow : IsNarrow r
  pub moved : IsInProfile r.moved.pair.selector
  pub other : IsAskableOther r.other
