-- The families that have a group.
use Rattle.std.proofs.Common.{◌≡◌, ◌⊎◌, inl, inr, ℕ, Bool, true, false, not, cond, List, [], ◌∷◌, ◌++◌, map, refl, sym, ap, subst, ◌∙◌}
use Rattle.std.specs.Prelude.{nat_eq, IsPermutation}
use Rattle.std.specs.Cmp.Lexicographic.{bytes_decides, nat_list_cmp_total, nat_list_eq_equiv, pointwise, slice_cmp, texts_ties}
use Rattle.std.specs.Ordering.{nat_cmp}
use Rattle.std.specs.List.{Contains, dedup, filter, list_all}
use Rattle.std.specs.List.Sorted.{IsSorted, IsStrictlySortedBy}
use Rattle.std.proofs.lemmas.List.{map-append}
use Rattle.std.proofs.lemmas.List.Elements.{Contains-append_cases, Contains-append_left, Contains-append_right, Contains-push_cases, filter-append}
use Rattle.std.proofs.lemmas.List.Kept.{Contains-dedup, Contains-from_dedup, IsStrictlySortedBy-dedup}
use Rattle.std.proofs.lemmas.List.Sorted.{Contains-permutation, IsPermutation-sym}
use Rattle.inspect_laws.specs.Entries.{Entry}
use Rattle.inspect_laws.specs.Groups.{AreFamilies, family_name, is_all, leading}
use Rattle.inspect_text.specs.Leading.{SameNames, leading_names, leads}

-- a name that is there may come again
pub pushed_again : (names : List (List ℕ)) (name : List ℕ) → Contains names name → SameNames names (names ++ name ∷ [])
pushed_again names name there other = (λ h. Contains-append_left names (name ∷ []) other h, λ h. which (Contains-push_cases names name other h))
  where
    which : Contains names other ⊎ (name ≡ other) → Contains names other
    which (inl h) = h
    which (inr same) = subst (Contains names) same there

pub same_before : (xs ys zs : List (List ℕ)) → SameNames xs ys → SameNames (xs ++ zs) (ys ++ zs)
same_before xs ys zs same name = (
  λ h. one xs ys (λ g. (same name).0 g) (Contains-append_cases xs zs name h),
  λ h. one ys xs (λ g. (same name).1 g) (Contains-append_cases ys zs name h),
)
  where
    one : (us vs : List (List ℕ)) → (Contains us name → Contains vs name) → Contains us name ⊎ Contains zs name → Contains (vs ++ zs) name
    one us vs over (inl h) = Contains-append_left vs zs name (over h)
    one us vs over (inr h) = Contains-append_right vs zs name h

-- ---- The names of the entries that lead

-- one entry more
pub leading_next : (only_all : Bool) (old new : List (List ℕ)) (es fs : List Entry) (e : Entry) → es ++ e ∷ [] ≡ fs → SameNames new (old ++ leading_names only_all (e ∷ [])) →
    SameNames old (leading_names only_all es) → SameNames new (leading_names only_all fs)
leading_next only_all old new es fs e more one so_far name =
    let first = one name in
    let rest = same_before old (leading_names only_all es) (leading_names only_all (e ∷ [])) so_far name in
    let same : leading_names only_all es ++ leading_names only_all (e ∷ []) ≡ leading_names only_all fs =
    sym (map-append family_name (filter (leads only_all) es) (filter (leads only_all) (e ∷ []))) ∙ ap (map family_name) (sym (filter-append (leads only_all) es (e ∷ []))) ∙ ap (leading_names only_all) more in (
      λ h. subst (λ (xs : List (List ℕ)). Contains xs name) same (rest.0 (first.0 h)),
      λ h. first.1 (rest.1 (subst (λ (xs : List (List ℕ)). Contains xs name) (sym same) h)),
    )

everything : (es : List Entry) → filter (leads true) es ≡ es
everything [] = refl
everything (e ∷ es) = ap (λ (xs : List Entry). e ∷ xs) (everything es)

leading_is : (es : List Entry) (only_all : Bool) → only_all ≡ list_all is_all es → filter (leads only_all) es ≡ leading es
leading_is es true is = everything es ∙ ap (λ (b : Bool). cond b es (filter (λ e. not (is_all e)) es)) is
leading_is es false is = ap (λ (b : Bool). cond b es (filter (λ e. not (is_all e)) es)) is

pub leading_all : (only_all : Bool) (es fs : List Entry) (names : List (List ℕ)) → only_all ≡ list_all is_all es → fs ≡ es → SameNames names (leading_names only_all fs) → SameNames names (map family_name (leading es))
leading_all only_all es fs names is all same name =
    let goal : leading_names only_all fs ≡ map family_name (leading es) = ap (leading_names only_all) all ∙ ap (map family_name) (leading_is es only_all is) in (
      λ h. subst (λ (xs : List (List ℕ)). Contains xs name) goal ((same name).0 h),
      λ h. (same name).1 (subst (λ (xs : List (List ℕ)). Contains xs name) (sym goal) h),
    )

-- ---- In order, each once

pub families_ascend : (es : List Entry) (names sorted families : List (List ℕ)) → SameNames names (map family_name (leading es)) → IsPermutation names sorted →
    IsSorted (slice_cmp nat_cmp) sorted → families ≡ dedup (pointwise nat_eq) sorted → AreFamilies es families
families_ascend es names sorted families same moved up kept = record {
  ascending = subst (IsStrictlySortedBy (slice_cmp nat_cmp)) (sym kept) (IsStrictlySortedBy-dedup nat_list_cmp_total texts_ties sorted up);
  exactly = λ name. (
    λ h. (same name).0 (Contains-permutation sorted names name (IsPermutation-sym names sorted moved)
        (Contains-from_dedup (pointwise nat_eq) sorted name (subst (λ (xs : List (List ℕ)). Contains xs name) kept h))),
    λ h. subst (λ (xs : List (List ℕ)). Contains xs name) (sym kept)
        (Contains-dedup nat_list_eq_equiv (λ x y g. (bytes_decides x y).0 g) sorted name (Contains-permutation names sorted name moved ((same name).1 h))),
  );
}

-- ---- One entry that leads

pub leading_one : (only_all : Bool) (e : Entry) (name : List ℕ) → leads only_all e ≡ true → name ≡ family_name e → name ∷ [] ≡ leading_names only_all (e ∷ [])
leading_one only_all e name first is = ap (λ (n : List ℕ). n ∷ []) is ∙ sym (ap (λ (b : Bool). map family_name (cond b (e ∷ []) [])) first)

pub leading_none : (only_all : Bool) (e : Entry) → leads only_all e ≡ false → leading_names only_all (e ∷ []) ≡ []
leading_none only_all e other = ap (λ (b : Bool). map family_name (cond b (e ∷ []) [])) other
