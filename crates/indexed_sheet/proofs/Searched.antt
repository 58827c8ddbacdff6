-- What a binary search finds among marks.
use Rattle.std.proofs.Common.{◌≡◌, ◌⊎◌, ℕ, zero, suc, ◌<◌, ◌≤◌, List, length, get_or, Result, Ok, Err, IfOk, OnErr, refl, sym, ap, inl, inr, ◌∙◌, arith}
use Rattle.std.specs.List.Sorted.{IsSearchInRange, IsBinarySearchResult, IsNonDecreasingBy}
use Rattle.std.specs.Ordering.{nat_cmp, ordering_index}
use Rattle.std.proofs.lemmas.Bool.Decides.{nat_tests}
use Rattle.std.proofs.lemmas.Cmp.{ranked}
use Rattle.std.proofs.lemmas.Option.{slice_get_within, get_or_from_slice_get, slice_get-get_or}
use Rattle.indexed_sheet.specs.declared.marks.Mark.{Mark}
use Rattle.indexed_sheet.specs.MarkList.{Ascends, IsOrderKeyAt, LacksOrderKey}

mark : Mark
mark = record { order_key = 0; item_id = 0 }

order_keys_rise : (ms : List Mark) → Ascends ms → (i j : ℕ) (d : Mark) → i ≤ j → j < length ms → (get_or ms i d).order_key ≤ (get_or ms j d).order_key
order_keys_rise ms ascends i j d le within = which (which_less i j le)
  where
    which_less : (i j : ℕ) → i ≤ j → (i < j) ⊎ (i ≡ j)
    which_less zero zero h = inr refl
    which_less zero (suc j) h = inl (omega arith)
    which_less (suc i) zero h = absurd (omega (arith, h))
    which_less (suc i) (suc j) h = next (which_less i j (omega (arith, h)))
      where
        next : (i < j) ⊎ (i ≡ j) → (suc i < suc j) ⊎ (suc i ≡ suc j)
        next (inl g) = inl (omega (arith, g))
        next (inr g) = inr (ap suc g)

    which : (i < j) ⊎ (i ≡ j) → (get_or ms i d).order_key ≤ (get_or ms j d).order_key
    which (inl h) = let g : (get_or ms i d).order_key < (get_or ms j d).order_key = ascends i j d h within in omega (arith, g)
    which (inr h) = let g : (get_or ms i d).order_key ≡ (get_or ms j d).order_key = ap (λ (k : ℕ). (get_or ms k d).order_key) h in omega (arith, g)

-- the comparisons with an order key rise along the marks
index_rises : (x y order_key : ℕ) → x ≤ y → ordering_index (nat_cmp x order_key) ≤ ordering_index (nat_cmp y order_key)
index_rises x y order_key le = grind (arith, nat_tests)

comparisons_rise : (ms : List Mark) (order_key : ℕ) → Ascends ms → IsNonDecreasingBy (λ (m : Mark). ordering_index (nat_cmp m.order_key order_key)) ms
comparisons_rise ms order_key ascends i j d le within = index_rises (get_or ms i d).order_key (get_or ms j d).order_key order_key (order_keys_rise ms ascends i j d le within)

pub order_key_searched : (ms : List Mark) (order_key : ℕ) (r : Result ℕ ℕ) → Ascends ms → IsSearchInRange r (length ms) → IsBinarySearchResult (λ (m : Mark). nat_cmp m.order_key order_key) ms r →
    record { within : IfOk r (λ n. n < length ms); found : IfOk r (IsOrderKeyAt ms order_key); absent : OnErr r (LacksOrderKey ms order_key) }
order_key_searched ms order_key (Ok n) ascends in_range equal = record {
  within = in_range;
  found = (get_or ms n mark, slice_get-get_or ms n mark in_range, ranked (get_or ms n mark).order_key order_key _ (sym (equal mark)));
  absent = tt;
}
order_key_searched ms order_key (Err n) ascends in_range parted = record { within = tt; found = tt; absent = lacks }
  where
    lacks : LacksOrderKey ms order_key
    lacks k m at same = which (which_less k n)
      where
        which_less : (i j : ℕ) → (i < j) ⊎ (j ≤ i)
        which_less zero zero = inr (omega arith)
        which_less zero (suc j) = inl (omega arith)
        which_less (suc i) zero = inr (omega arith)
        which_less (suc i) (suc j) = next (which_less i j)
          where
            next : (i < j) ⊎ (j ≤ i) → (suc i < suc j) ⊎ (suc j ≤ suc i)
            next (inl g) = inl (omega (arith, g))
            next (inr g) = inr (omega (arith, g))

        order_key_is : (get_or ms k m).order_key ≡ order_key
        order_key_is = ap (λ (x : Mark). x.order_key) (get_or_from_slice_get ms k m m at) ∙ same

        which : (k < n) ⊎ (n ≤ k) → ⊥
        which (inl h) = let less : (get_or ms k m).order_key < order_key = ranked (get_or ms k m).order_key order_key _ (sym ((parted (comparisons_rise ms order_key ascends)).0 k m (omega arith) h)) in absurd (omega (arith, less, order_key_is))
        which (inr h) = let more : order_key < (get_or ms k m).order_key = ranked (get_or ms k m).order_key order_key _ (sym ((parted (comparisons_rise ms order_key ascends)).1 k m h (slice_get_within ms k m at))) in absurd (omega (arith, more, order_key_is))
