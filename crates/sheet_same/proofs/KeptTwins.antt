-- Kept items by lists of their numbers.
use Rattle.std.proofs.Common.{◌≡◌, ℕ, zero, suc, ◌+◌, ◌<◌, ◌≤◌, List, [], ◌∷◌, ◌++◌, get_or, length, refl, ap, ◌∙◌, subst, arith}
use Rattle.css_model.specs.declared.sheet.Item.{Item}
use Rattle.css_model.specs.declared.sheet.Item.TheVariants.{Rule, KeptRule, KeptBlock}
use Rattle.css_model.specs.Sheets.KeptItems.{kept_before}
use Rattle.sheet_same.specs.Standing.{kept_at}
use Rattle.sheet_same.specs.Twins.{counts_from, places_from}

count_from : (count : ℕ) (items : List Item) (n d : ℕ) → n < length (counts_from count items) → get_or (counts_from count items) n d ≡ count + kept_before n items
count_from count [] n d below = absurd (omega (arith, below))
count_from count (x ∷ items) zero d below = omega arith
count_from count (Rule r ∷ items) (suc n) d below =
    let ih : get_or (counts_from (count + 0) items) n d ≡ count + 0 + kept_before n items = count_from (count + 0) items n d (omega (arith, below)) in ih ∙ omega arith
count_from count (KeptRule k ∷ items) (suc n) d below =
    let ih : get_or (counts_from (count + 1) items) n d ≡ count + 1 + kept_before n items = count_from (count + 1) items n d (omega (arith, below)) in ih ∙ omega arith
count_from count (KeptBlock piece ∷ items) (suc n) d below =
    let ih : get_or (counts_from (count + 1) items) n d ≡ count + 1 + kept_before n items = count_from (count + 1) items n d (omega (arith, below)) in ih ∙ omega arith

-- how many kept ones there are before an item, by a list of counts
pub count_is : (items : List Item) (counts : List ℕ) (n c : ℕ) → counts ≡ counts_from 0 items → n < length counts → ((d : ℕ) → c ≡ get_or counts n d) → c ≡ kept_before n items
count_is items counts n c is below at =
    at 0 ∙ ap (λ (ns : List ℕ). get_or ns n 0) is
    ∙ count_from 0 items n 0 (subst (λ (ns : List ℕ). n < length ns) is below)
    ∙ omega arith

pub places_cons : (n : ℕ) (item : Item) (items : List Item) → places_from n (item ∷ items) ≡ places_from n (item ∷ []) ++ places_from (suc n) items
places_cons n (Rule r) items = refl
places_cons n (KeptRule k) items = refl
places_cons n (KeptBlock piece) items = refl

place_from : (first number : ℕ) (items : List Item) (d : ℕ) → number < length (places_from first items) → get_or (places_from first items) number d ≡ kept_at first number items
place_from first number [] d below = absurd (omega (arith, below))
place_from first zero (Rule r ∷ items) d below = place_from (suc first) zero items d below
place_from first (suc number) (Rule r ∷ items) d below = place_from (suc first) (suc number) items d below
place_from first zero (KeptRule k ∷ items) d below = refl
place_from first (suc number) (KeptRule k ∷ items) d below = place_from (suc first) number items d (omega (arith, below))
place_from first zero (KeptBlock piece ∷ items) d below = refl
place_from first (suc number) (KeptBlock piece ∷ items) d below = place_from (suc first) number items d (omega (arith, below))

none_from : (first number : ℕ) (items : List Item) → length (places_from first items) ≤ number → first + length items ≡ kept_at first number items
none_from first number [] past = omega arith
none_from first zero (Rule r ∷ items) past = let ih : suc first + length items ≡ kept_at (suc first) zero items = none_from (suc first) zero items past in omega (arith, ih)
none_from first (suc number) (Rule r ∷ items) past = let ih : suc first + length items ≡ kept_at (suc first) (suc number) items = none_from (suc first) (suc number) items past in omega (arith, ih)
none_from first zero (KeptRule k ∷ items) past = absurd (omega (arith, past))
none_from first (suc number) (KeptRule k ∷ items) past =
    let ih : suc first + length items ≡ kept_at (suc first) number items = none_from (suc first) number items (omega (arith, past)) in omega (arith, ih)
none_from first zero (KeptBlock piece ∷ items) past = absurd (omega (arith, past))
none_from first (suc number) (KeptBlock piece ∷ items) past =
    let ih : suc first + length items ≡ kept_at (suc first) number items = none_from (suc first) number items (omega (arith, past)) in omega (arith, ih)

-- the kept item of a number, by a list of places
pub place_is : (items : List Item) (places : List ℕ) (n p : ℕ) → places ≡ places_from 0 items → n < length places → ((d : ℕ) → p ≡ get_or places n d) → p ≡ kept_at 0 n items
place_is items places n p is below at =
    at 0 ∙ ap (λ (ns : List ℕ). get_or ns n 0) is ∙ place_from 0 n items 0 (subst (λ (ns : List ℕ). n < length ns) is below)

pub no_place : (items : List Item) (places : List ℕ) (n : ℕ) → places ≡ places_from 0 items → length places ≤ n → length items ≡ kept_at 0 n items
no_place items places n is past =
    let end : 0 + length items ≡ kept_at 0 n items = none_from 0 n items (subst (λ (ns : List ℕ). length ns ≤ n) is past) in omega (arith, end)
