-- The numbers of kept items.
use Rattle.std.proofs.Common.{ℕ, zero, suc, ◌≤◌, ◌<◌, List, [], ◌∷◌, arith}
use Rattle.std.specs.Prelude.{◌^◌}
use Rattle.css_model.specs.declared.sheet.Item.{Item}
use Rattle.css_model.specs.declared.sheet.Item.TheVariants.{Rule, KeptRule, KeptBlock}
use Rattle.css_model.specs.Sheets.KeptItems.{kept_before}

before_few : (n : ℕ) (items : List Item) → kept_before n items ≤ n
before_few zero items = omega arith
before_few (suc n) [] = omega arith
before_few (suc n) (Rule r ∷ items) = let h : kept_before n items ≤ n = before_few n items in omega (arith, h)
before_few (suc n) (KeptRule k ∷ items) = let h : kept_before n items ≤ n = before_few n items in omega (arith, h)
before_few (suc n) (KeptBlock piece ∷ items) = let h : kept_before n items ≤ n = before_few n items in omega (arith, h)

pub small_number : (n : ℕ) (items : List Item) → n < 2 ^ 32 → kept_before n items < 2 ^ 32
small_number n items h = let g : kept_before n items ≤ n = before_few n items in omega (arith, h, g)
