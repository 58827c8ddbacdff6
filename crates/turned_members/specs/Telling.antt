-- Which couples that are turned are told (own).
use Rattle.std.specs.Prelude.{◌≡◌, ℕ, nat_le, ◌==◌, Bool, true, false, ◌&&◌, ◌||◌, List, [], ◌∷◌, ◌++◌, length, Option, Some, None}
use Rattle.std.specs.List.{list_any}
use Rattle.css_model.specs.Documents.SelectorParts.{SelectorParts}
use Rattle.overlap.specs.declared.answer.Answer.{Answer}
use Rattle.overlap.specs.declared.answer.Answer.TheVariants as answers
use Rattle.overlap.specs.PairsParts.{Answered}
use Rattle.overlap.specs.Remembered.{IsAnswered}
use Rattle.sheet_members.specs.Compared.{Common}
use Rattle.sheet_members.specs.Occurrences.{Part, Paired, Kept}
use Rattle.turned_members.specs.declared.verdict.Verdict.{Verdict}
use Rattle.turned_members.specs.declared.verdict.Verdict.TheVariants as verdicts
use Rattle.turned_members.specs.Turned.{Couple}

-- ---- One couple

-- what an answer says of two pairs: nothing, where they are apart
abbrev pub verdict_by : Answer → Option Verdict
verdict_by answers.Apart = None
verdict_by (answers.Meet x) = Some (verdicts.Meet x)
verdict_by (answers.Outside reason number) = Some (verdicts.Outside reason)
verdict_by (answers.Spent ledger) = Some verdicts.Spent

-- what is found by the answer that is held for two selectors
abbrev pub IsAnswer : (held : List Answered) → (x y : SelectorParts) → Option Verdict → Type 0
IsAnswer held x y found = (answer : Answer) × IsAnswered held x y answer × (verdict_by answer ≡ found)

-- what is found in two parts that are turned: by the answer for two pairs, the selector of the first one first; kept items are
-- always told
abbrev pub AreJudged : (held : List Answered) → Part → Part → Option Verdict → Type 0
AreJudged held (Paired s d) (Paired s' d') found = IsAnswer held s.selector s'.selector found
AreJudged held (Paired s d) (Kept item) found = found ≡ Some verdicts.Kept
AreJudged held (Kept item) p found = found ≡ Some verdicts.Kept

abbrev pub IsJudged : (held : List Answered) → Couple → Option Verdict → Type 0
IsJudged held c found = AreJudged held c.first.mine.occurrence.part c.second.mine.occurrence.part found

-- a couple that is told, and what is found in it
pub record Told : Type 0 where
  pub couple : Couple
  pub verdict : Verdict

-- ---- Couples of the same items

abbrev pub same_block : Option ℕ → Option ℕ → Bool
same_block None None = true
same_block None (Some block) = false
same_block (Some block) None = false
same_block (Some block) (Some other) = block == other

-- whether two members are of one item of the first sheet
abbrev pub same_item : Common → Common → Bool
same_item c d = same_block c.mine.occurrence.layer.block d.mine.occurrence.layer.block && c.mine.occurrence.item == d.mine.occurrence.item

abbrev pub is_kept_part : Part → Bool
is_kept_part (Paired s d) = false
is_kept_part (Kept item) = true

abbrev pub is_kept : Common → Bool
is_kept c = is_kept_part c.mine.occurrence.part

-- whether a kept item is one of a couple
abbrev pub is_kept_in : Couple → Common → Bool
is_kept_in c k = is_kept k && (same_item k c.first || same_item k c.second)

-- whether a couple is of the same two items as another one, or has the same kept item
abbrev pub covers : Couple → Couple → Bool
covers told c = (same_item told.first c.first && same_item told.second c.second) || (is_kept_in c told.first || is_kept_in c told.second)

-- ---- All couples

-- whether no more of these couples are told, or one that is told covers this one
abbrev pub is_passed : (limit : ℕ) → List Told → Couple → Bool
is_passed limit told c = nat_le limit (length told) || list_any (λ t. covers t.couple c) told

-- those that are told with what is found in one more
abbrev pub told_with : List Told → Couple → Option Verdict → List Told
told_with told c None = told
told_with told c (Some verdict) = told ++ record { couple = c; verdict = verdict } ∷ []

-- what is told after one couple more: nothing more if it is passed
abbrev pub StepsBy : (passed : Bool) → (held : List Answered) → List Told → Couple → List Told → Type 0
StepsBy true held told c new = new ≡ told
StepsBy false held told c new = (found : Option Verdict) × IsJudged held c found × (new ≡ told_with told c found)

abbrev pub Steps : (held : List Answered) → (limit : ℕ) → List Told → Couple → List Told → Type 0
Steps held limit told c new = StepsBy (is_passed limit told c) held told c new

-- What is told after these couples, one after the other: each of two pairs that are not answered to be apart, and each with a kept
-- item, unless one of the same two items of the first sheet or with the same kept item was told before; at most so many.
abbrev pub AreTold : (held : List Answered) → (limit : ℕ) → List Told → List Couple → List Told → Type 0
AreTold held limit told [] new = new ≡ told
AreTold held limit told (c ∷ cs) new = (next : List Told) × Steps held limit told c next × AreTold held limit next cs new
