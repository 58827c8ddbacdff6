-- Kept items, one by one.
use Rattle.std.proofs.Common.{◌≡◌, ℕ, zero, suc, ◌+◌, ◌-◌, nat_eq, false, List, [], ◌∷◌, ◌++◌, refl, ap, ◌∙◌, arith}
use Rattle.std.proofs.lemmas.Bool.{true≢false}
use Rattle.css_model.specs.declared.sheet.Item.{Item}
use Rattle.css_model.specs.declared.sheet.Item.TheVariants.{Rule, KeptRule, KeptBlock}
use Rattle.css_model.specs.Sheets.KeptItems.{kept_before}
use Rattle.sheet_order.specs.Counting.{count_of}
use Rattle.order_laws.specs.Reversed.{kept_from}

counted_first : (n : ℕ) (item : Item) (items : List Item) → kept_before (suc n) (item ∷ items) ≡ count_of item + kept_before n items
counted_first n (Rule r) items = omega arith
counted_first n (KeptRule k) items = omega arith
counted_first n (KeptBlock piece) items = omega arith

-- of some items the first one counts by itself
pub kept_next : (n : ℕ) (item : Item) (items : List Item) → nat_eq n 0 ≡ false → kept_before n (item ∷ items) ≡ count_of item + kept_before (n - 1) items
kept_next zero item items h = absurd (true≢false h)
kept_next (suc n) item items h = let e : n ≡ suc n - 1 = omega arith in counted_first n item items ∙ ap (λ (m : ℕ). count_of item + kept_before m items) e

pub kept_none : (n : ℕ) → kept_before n [] ≡ 0
kept_none zero = refl
kept_none (suc n) = refl

pub kept_from_cons : (n : ℕ) (item : Item) (items : List Item) → kept_from n (item ∷ items) ≡ kept_from n (item ∷ []) ++ kept_from (suc n) items
kept_from_cons n (Rule r) items = refl
kept_from_cons n (KeptRule k) items = refl
kept_from_cons n (KeptBlock piece) items = refl
