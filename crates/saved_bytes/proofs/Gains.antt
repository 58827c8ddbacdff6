-- What a step saves, by the lengths before it and after it.
use Rattle.std.proofs.Common.{◌≡◌, ℕ, ◌+◌, ◌<◌, ◌≤◌, List, length, arith}
use Rattle.std.specs.Prelude.{ℤ, pos, ◌-ℤ◌, ◌≤ℤ◌}
use Rattle.std.proofs.lemmas.Int.{ints}
use Rattle.css_model.specs.declared.sheet.Item.{Item}
use Rattle.css_model.specs.Sheets.Limits.{max_bytes}
use Rattle.merge_laws.specs.Reading.{ReadKeepsTheLimits}
use Rattle.saved_bytes.specs.Savings.{IsSaving}
use Rattle.order_laws.specs.Edits.{Edit, edited}
use Rattle.plan_laws.specs.Plannable.{IsPlannable}
use Rattle.step_laws.specs.declared.step.Step.{Step}
use Rattle.step_laws.specs.Sizes.{size}
use Rattle.step_laws.specs.Steps.{HasStep, IsStep}

-- a number of bytes that is told is saved, and no more are
told : (m n result : ℕ) (saving : ℤ) → saving ≡ pos m -ℤ pos n → (0 < result → saving ≡ pos result) → 0 < result → m ≡ n + result
told m n result saving is exact more = let e : saving ≡ pos result = exact more in omega (arith, ints)

most : (m n result other : ℕ) (saving : ℤ) → saving ≡ pos m -ℤ pos n → saving ≤ℤ pos result → m ≡ n + other → other ≤ result
most m n result other saving is above saves = omega (arith, ints)

small : (m n most : ℕ) (saving : ℤ) → saving ≡ pos m -ℤ pos n → m ≤ most → saving ≤ℤ pos most
small m n most saving is short = omega (arith, ints)

-- the source of a sheet that can be planned is no longer than a sheet may be
pub short_source : ReadKeepsTheLimits → (source : List ℕ) (items : List Item) → IsPlannable source items → length source ≤ max_bytes
short_source law source items plannable = (law source plannable.read.0 plannable.read.1).0

module _ (source : List ℕ) (items : List Item) (k : Step) (saving : ℤ) where
  -- it is no more than the length before
  pub not_above : IsPlannable source items → HasStep items k → ((e : Edit) → IsStep items k e → saving ≡ pos (size source items) -ℤ pos (size source (edited e items))) → saving ≤ℤ pos max_bytes
  not_above plannable has is = small (size source items) (size source (edited has.0 items)) max_bytes saving (is has.0 has.1) plannable.short

  -- so many bytes, or none where it is 0
  pub saved : (result : ℕ) → ((e : Edit) → IsStep items k e → saving ≡ pos (size source items) -ℤ pos (size source (edited e items))) → saving ≤ℤ pos result → (0 < result → saving ≡ pos result) → IsSaving source items k result
  saved result is above exact e step = (
    (λ more. told (size source items) (size source (edited e items)) result saving (is e step) exact more),
    (λ m saves. most (size source items) (size source (edited e items)) result m saving (is e step) above saves),
  )
