-- Numbers put behind others, and sorted, each left once.
use Rattle.std.proofs.Common.{◌≡◌, ◌⊎◌, inl, inr, ℕ, List, [], ◌++◌, Result, Ok, Err, OnOk, is_ok, if◌then◌else◌, subst, sym, eqb}
use Rattle.std.specs.Ordering.{nat_cmp}
use Rattle.std.specs.List.{Contains, dedup}
use Rattle.std.specs.List.Retain.{DiffersFromLast, IsFiltered}
use Rattle.std.specs.List.Sorted.{IsPermutation, IsSorted, IsStrictlyIncreasing}
use Rattle.std.proofs.lemmas.List.Filters.{dedup_is}
use Rattle.std.proofs.lemmas.List.Kept.{Contains-dedup_nat, Contains-from_dedup}
use Rattle.std.proofs.lemmas.List.Sorted.{Contains-permutation, IsPermutation-sym}
use Rattle.std.proofs.lemmas.Map.Keys.{IsStrictlyIncreasing-dedup}
use Rattle.std.proofs.lemmas.List.Elements.{Contains-append_cases, Contains-append_left, Contains-append_right}
use Rattle.rule_tables.specs.Entries.{HaveSameMembers, Puts}

pub put_behind : {X : Type 0} (old new more : List X) → new ≡ old ++ more → Puts old more new
put_behind {X} old new more is x = (
  λ h. Contains-append_cases old more x (subst (λ (xs : List X). Contains xs x) is h),
  λ h. subst (λ (xs : List X). Contains xs x) (sym is) (back h),
)
  where
    back : Contains old x ⊎ Contains more x → Contains (old ++ more) x
    back (inl h) = Contains-append_left old more x h
    back (inr h) = Contains-append_right old more x h

pub appended : {A E : Type 0} (r : Result A E) (old new more : List ℕ) → new ≡ (if is_ok r then old ++ more else old) → OnOk r (Puts old more new)
appended (Ok a) old new more is = put_behind old new more is
appended (Err e) old new more is = tt

module _ (old sorted new : List ℕ) (moved : IsPermutation old sorted) (kept : IsFiltered (DiffersFromLast eqb) [] sorted new) where
  is : new ≡ dedup eqb sorted
  is = dedup_is eqb sorted new kept

  pub same_numbers : HaveSameMembers new old
  same_numbers x = (
    λ h. Contains-permutation sorted old x (IsPermutation-sym old sorted moved) (Contains-from_dedup eqb sorted x (subst (λ (xs : List ℕ). Contains xs x) is h)),
    λ h. subst (λ (xs : List ℕ). Contains xs x) (sym is) (Contains-dedup_nat sorted x (Contains-permutation old sorted x moved h)),
  )

  pub numbers_ascend : IsSorted nat_cmp sorted → IsStrictlyIncreasing new
  numbers_ascend h = subst IsStrictlyIncreasing (sym is) (IsStrictlyIncreasing-dedup sorted h)
