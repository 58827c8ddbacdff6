-- The names of all entries, after a sort, and without repeats.
use Rattle.std.proofs.Common.{◌≡◌, ℕ, List, [], ◌∷◌, map, sym, subst}
use Rattle.std.proofs.lemmas.List.Elements.{All-nil, All-cons, All-weaker}
use Rattle.std.proofs.lemmas.List.Kept.{Contains-dedup, IsStrictlySortedBy-dedup}
use Rattle.std.proofs.lemmas.List.Sorted.{Contains-permutation}
use Rattle.std.specs.Prelude.{nat_eq}
use Rattle.std.specs.Cmp.Lexicographic.{pointwise, slice_cmp, bytes_decides, nat_list_cmp_total, nat_list_eq_equiv, texts_ties}
use Rattle.std.specs.Ordering.{nat_cmp}
use Rattle.std.specs.List.{All, Contains, dedup}
use Rattle.std.specs.List.Sorted.{IsPermutation, IsSorted, IsStrictlySortedBy}
use Rattle.css_model.specs.Cascade.Winner.{AppliedDeclaration}
use Rattle.list_facts.proofs.Members.{Contains-here, Contains-there}
use Rattle.cascade_eval.specs.Entries.{AscendingNames}

abbrev names_of : List AppliedDeclaration → List (List ℕ)
names_of es = map (λ e. e.decl.name) es

all_named : (es : List AppliedDeclaration) → All (λ e. Contains (names_of es) e.decl.name) es
all_named [] = All-nil (λ e. Contains [] e.decl.name)
all_named (e ∷ es) =
    All-cons (λ f. Contains (names_of (e ∷ es)) f.decl.name) e es (Contains-here e.decl.name (names_of es))
    (All-weaker (λ f. Contains (names_of es) f.decl.name) (λ f. Contains (names_of (e ∷ es)) f.decl.name) (λ f has. Contains-there e.decl.name (names_of es) f.decl.name has) es (all_named es))

pub names_ascend : (es : List AppliedDeclaration) (all sorted names : List (List ℕ)) → all ≡ map (λ e. e.decl.name) es → IsPermutation all sorted →
    IsSorted (slice_cmp nat_cmp) sorted → names ≡ dedup (pointwise nat_eq) sorted → AscendingNames names es
names_ascend es all sorted names is moved ascend kept = record {
  ascending = subst (IsStrictlySortedBy (slice_cmp nat_cmp)) (sym kept) (IsStrictlySortedBy-dedup nat_list_cmp_total texts_ties sorted ascend);
  all =
      subst (λ (xs : List (List ℕ)). All (λ e. Contains xs e.decl.name) es) (sym kept)
      (All-weaker (λ e. Contains (names_of es) e.decl.name) (λ e. Contains (dedup (pointwise nat_eq) sorted) e.decl.name)
      (λ e has. Contains-dedup nat_list_eq_equiv (λ x y h. (bytes_decides x y).0 h) sorted e.decl.name
      (Contains-permutation all sorted e.decl.name moved (subst (λ (xs : List (List ℕ)). Contains xs e.decl.name) (sym is) has))) es (all_named es));
}
