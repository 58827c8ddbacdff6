-- The move of an item that is there.
use Rattle.std.proofs.Common.{◌≡◌, ℕ, zero, suc, ◌<◌, List, [], ◌∷◌, length, get_or, Option, Some, None, Result, Ok, Err, refl, sym, ◌∙◌, subst}
use Rattle.cascade_laws.proofs.ForCallers.{some-same}
use Rattle.std.specs.Prelude.{slice_get}
use Rattle.css_model.specs.declared.fault.SheetFault.{SheetFault}
use Rattle.css_model.specs.declared.sheet.Item.{Item}
use Rattle.css_model.specs.declared.sheet.Item.TheVariants.{Rule, KeptRule, KeptBlock}
use Rattle.css_model.specs.Sheets.RuleParts.{RuleParts}
use Rattle.overlap.specs.PairsParts.{Answered, PairsParts}
use Rattle.overlap.specs.Remembered.{IsTrueList}
use Rattle.why_text.specs.declared.explaining.Explained.{Explained}
use Rattle.why_text.specs.declared.explaining.Explained.TheVariants.{KeptItem}
use Rattle.why_text.specs.Explaining.{AsksAmong, IsExplained, reversed_by_moving}
use Rattle.why_text.specs.WhyTexts.{Asks, HasPairs, IsMoveText, IsToldText, reversed_with}
use Rattle.why_text.proofs.Entries.{asks_nothing}
use Rattle.why_text.proofs.Numbers.{item_there}
use Rattle.why_text.proofs.Places.{told_has_pairs}

-- ---- A kept item

read_is : (items : List Item) (i : ℕ) (item d : Item) → slice_get items i ≡ Some item → get_or items i d ≡ item
read_is [] i item d at = absurd (let bad : None ≡ Some item = at in cc)
read_is (x ∷ items) zero item d at = some-same at
read_is (x ∷ items) (suc i) item d at = read_is items i item d at

-- an item that is no rule is told to be kept
pub kept_told : (answers : List Answered) (items : List Item) (from to : ℕ) (item read : Item) → slice_get items from ≡ Some item → read ≡ get_or items from read → ((r : RuleParts) → read ≡ Rule r → ⊥) →
    IsExplained answers items from to item (KeptItem from)
kept_told answers items from to item read at is other = of item (is ∙ read_is items from item read at)
  where
    of : (x : Item) → read ≡ x → IsExplained answers items from to x (KeptItem from)
    of (Rule r) same = absurd (other r same)
    of (KeptRule kept) same = refl
    of (KeptBlock piece) same = refl

-- ---- An item by its number

-- nothing is asked
pub asks_none : (read : Result (List Item) SheetFault) (from to : ℕ) (p : PairsParts) → Asks read from to p p
asks_none (Err fault) from to p = asks_nothing [] [] p
asks_none (Ok items) from to p = asks_nothing items _ p

module _ (items : List Item) (from to : ℕ) (below : from < length items) where
  there : (item : Item) × (slice_get items from ≡ Some item)
  there = item_there items from below

  pub asks_of_item : (p q : PairsParts) → ((item : Item) → slice_get items from ≡ Some item → AsksAmong items (reversed_by_moving items from to item) p q) → AsksAmong items (reversed_with items from to (slice_get items from)) p q
  asks_of_item p q h = subst (λ (o : Option Item). AsksAmong items (reversed_with items from to o) p q) (sym there.1) (h there.0 there.1)

  module _ (p : PairsParts) (x : Explained) (is : (item : Item) → slice_get items from ≡ Some item → IsExplained p.answers items from to item x) where
    pub pairs_of_item : HasPairs items x
    pairs_of_item = told_has_pairs p.answers items from to there.0 x (is there.0 there.1)

    pub text_of_item : (source : List ℕ) → ∥ IsTrueList p ∥₁ → (text : List ℕ) → IsToldText source items x text → IsMoveText source items from to p text
    text_of_item source all_true text told = record {
      item = there.0;
      item_at = there.1;
      explained = x;
      is_explained = is there.0 there.1;
      all_true = all_true;
      text_is = told;
    }
