-- A walk along a list, member by member, that may take members out.
use Rattle.std.proofs.Common.{◌≡◌, ℕ, eqb, Option, Some, None, IfSome, List, [], ◌∷◌, ◌++◌, refl, sym, ap, subst, ◌∙◌, inl, inr, append_assoc}
use Rattle.std.specs.Prelude.{MatchOption}
use Rattle.std.specs.List.{Contains, IsDistinct}
use Rattle.std.proofs.lemmas.Bool.{cases_eq, cond-true, cond-false, eq-eqb, ne_eqb}
use Rattle.std.proofs.lemmas.Map.Keys.{IsDistinct-tail}
use Rattle.sat_arena.specs.Arena.{first_of, next_in, IsBehind, without}
use Rattle.sat_arena.proofs.Members.{contains-none, contains-here, contains-there, contains-cases, contains-middle, distinct-apart, distinct-middle, distinct-without, without-middle}
use Rattle.sat_arena.proofs.WalkLemmas.{from_member, from_member-middle}

-- what is left of a list from the next member on
abbrev pub rest_from : List ℕ → Option ℕ → List ℕ
rest_from cs None = []
rest_from cs (Some c) = from_member cs c

-- a walk that has come to the next member, behind the one before
pub record IsWalk (cs : List ℕ) (before next : Option ℕ) : Type 0 where
  pub front : List ℕ
  pub parts : cs ≡ front ++ rest_from cs next
  pub last : MatchOption before (front ≡ []) (λ p. (xs : List ℕ) × (front ≡ xs ++ p ∷ []))
  pub member : IfSome next (Contains cs)

rest_from-first : (xs ys : List ℕ) → IsDistinct eqb (xs ++ ys) → rest_from (xs ++ ys) (first_of ys) ≡ ys
rest_from-first xs [] u = refl
rest_from-first xs (y ∷ ys) u = from_member-middle xs y ys u

first-member : (xs ys : List ℕ) → IfSome (first_of ys) (Contains (xs ++ ys))
first-member xs [] = tt
first-member xs (y ∷ ys) = contains-middle xs y ys

next_in-middle : (xs : List ℕ) (c : ℕ) (ys : List ℕ) → IsDistinct eqb (xs ++ c ∷ ys) → next_in (xs ++ c ∷ ys) c ≡ first_of ys
next_in-middle [] c ys u = cond-true (eqb c c) (first_of ys) (next_in ys c) (eq-eqb c c refl)
next_in-middle (x ∷ xs) c ys u =
    cond-false (eqb x c) (first_of (xs ++ c ∷ ys)) (next_in (xs ++ c ∷ ys) c) (ne_eqb x c (distinct-middle x xs c ys u))
    ∙ next_in-middle xs c ys (IsDistinct-tail eqb x (xs ++ c ∷ ys) u)

-- the list of a member: what is before it, and what is behind
from_member-parts : (cs : List ℕ) (c : ℕ) → Contains cs c → (ys : List ℕ) × (from_member cs c ≡ c ∷ ys)
from_member-parts [] c m = absurd (contains-none c m)
from_member-parts (d ∷ ds) c m =
    elim (cases_eq d c) [
      | inl e ↦ (ds, cond-true (eqb d c) (d ∷ ds) (from_member ds c) (eq-eqb d c e) ∙ ap (λ x. x ∷ ds) e)
      | inr ne ↦
          let rest = from_member-parts ds c (elim (contains-cases d ds c m) [ inl e ↦ absurd (ne e) | inr k ↦ k ]) in
          (rest.0, cond-false (eqb d c) (d ∷ ds) (from_member ds c) (ne_eqb d c ne) ∙ rest.1)
    ]

-- a walk begins at the first member
pub walk-begin : (cs : List ℕ) (next : Option ℕ) → IsDistinct eqb cs → next ≡ first_of cs → IsWalk cs None next
walk-begin cs next u e =
    let P : Option ℕ → Type 0 = λ o. IsWalk cs None o in
    subst P (sym e) (record {
      front = [];
      parts = sym (rest_from-first [] cs u);
      last = refl;
      member = first-member [] cs;
    })

-- what a walk knows of the member that it has come to
pub record Meets (cs : List ℕ) (before : Option ℕ) (c : ℕ) (next : Option ℕ) : Type 0 where
  pub rest : List ℕ
  pub here : rest_from cs (Some c) ≡ c ∷ rest
  pub behind : IsBehind cs before c
  pub apart : Contains rest c → ⊥
  pub kept : IsWalk cs (Some c) next
  pub kept_rest : rest_from cs next ≡ rest
  pub taken : IsWalk (without c cs) before next
  pub taken_rest : rest_from (without c cs) next ≡ rest

meets-parts : (cs : List ℕ) (before next : Option ℕ) (c : ℕ) (front ys : List ℕ) → IsDistinct eqb (front ++ c ∷ ys) → cs ≡ front ++ c ∷ ys → next ≡ next_in cs c → rest_from cs (Some c) ≡ c ∷ ys → MatchOption before (front ≡ []) (λ p. (xs : List ℕ) × (front ≡ xs ++ p ∷ [])) → Meets cs before c next
meets-parts cs before next c front ys u parts e here last =
    let following : next ≡ first_of ys = e ∙ (ap (λ zs. next_in zs c) parts ∙ next_in-middle front c ys u) in
    let assoc : front ++ c ∷ ys ≡ (front ++ c ∷ []) ++ ys = sym (append_assoc front (c ∷ []) ys) in
    let longer : cs ≡ (front ++ c ∷ []) ++ ys = parts ∙ assoc in
    let left : without c cs ≡ front ++ ys = ap (without c) parts ∙ without-middle front c ys u in
    let both = distinct-without front c ys u in
    let kept_rest : rest_from cs next ≡ ys = ap (rest_from cs) following ∙ (ap (λ zs. rest_from zs (first_of ys)) longer ∙ rest_from-first (front ++ c ∷ []) ys (subst (IsDistinct eqb) assoc u)) in
    let taken_rest : rest_from (without c cs) next ≡ ys = ap (rest_from (without c cs)) following ∙ (ap (λ zs. rest_from zs (first_of ys)) left ∙ rest_from-first front ys both.0) in
    let P : Option ℕ → Type 0 = λ o. IfSome o (Contains cs) in
    let Q : List ℕ → Type 0 = λ zs. IfSome (first_of ys) (Contains zs) in
    let R : Option ℕ → Type 0 = λ o. IfSome o (Contains (without c cs)) in
    record {
      rest = ys;
      here = here;
      behind = by before last;
      apart = λ m. distinct-apart c ys (behind front u) m;
      kept = record {
        front = front ++ c ∷ [];
        parts = longer ∙ ap (λ zs. (front ++ c ∷ []) ++ zs) (sym kept_rest);
        last = (front, refl);
        member = subst P (sym following) (subst Q (sym longer) (first-member (front ++ c ∷ []) ys));
      };
      kept_rest = kept_rest;
      taken = record {
        front = front;
        parts = left ∙ ap (λ zs. front ++ zs) (sym taken_rest);
        last = last;
        member = subst R (sym following) (subst Q (sym left) (first-member front ys));
      };
      taken_rest = taken_rest;
    }
  where
    behind : (xs : List ℕ) → IsDistinct eqb (xs ++ c ∷ ys) → IsDistinct eqb (c ∷ ys)
    behind [] h = h
    behind (x ∷ xs) h = behind xs (IsDistinct-tail eqb x (xs ++ c ∷ ys) h)

    by : (before : Option ℕ) → MatchOption before (front ≡ []) (λ p. (xs : List ℕ) × (front ≡ xs ++ p ∷ [])) → IsBehind cs before c
    by None last = (ys, parts ∙ ap (λ zs. zs ++ c ∷ ys) last)
    by (Some p) last = (last.0, (ys, parts ∙ (ap (λ zs. zs ++ c ∷ ys) last.1 ∙ append_assoc last.0 (p ∷ []) (c ∷ ys))))

pub walk-meets : (cs : List ℕ) (before next : Option ℕ) (c : ℕ) → IsDistinct eqb cs → IsWalk cs before (Some c) → next ≡ next_in cs c → Meets cs before c next
walk-meets cs before next c u w e =
    let split = from_member-parts cs c w.member in
    let parts : cs ≡ w.front ++ c ∷ split.0 = w.parts ∙ ap (λ zs. w.front ++ zs) split.1 in
    meets-parts cs before next c w.front split.0 (subst (IsDistinct eqb) parts u) parts e split.1 w.last
