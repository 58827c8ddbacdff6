-- What callers need: the literals of a clause, and walks along a list of watching clauses.
use Rattle.std.proofs.Common.{◌≡◌, ℕ, Option, Some, None, IfSome, IsTrue, List, [], ◌∷◌, eqb, refl, sym, ap, subst, inl, inr}
use Rattle.std.specs.List.{Contains, slice_get}
use Rattle.std.proofs.lemmas.Bool.{cases_eq, cond-true, cond-false, eq-eqb, ne_eqb}
use Rattle.std.proofs.lemmas.List.Folds.{list_any_at}
use Rattle.std.proofs.lemmas.Option.{slice_get_within, get_or_from_slice_get}
use Rattle.cnf.specs.declared.lit.Lit.{Lit}
use Rattle.cnf.specs.Lits.{same, is_among}
use Rattle.sat_arena.specs.Arena.{first_of, next_in}
use Rattle.sat_arena.proofs.Members.{contains-here, contains-there}
pub use Rattle.sat_arena.proofs.ListWalks.{rest_from, IsWalk, Meets, walk-begin, walk-meets}

-- a literal that was read is one of the clause's
pub among-slice_get : (ls : List Lit) (k : ℕ) (l : Lit) → slice_get ls k ≡ Some l → IsTrue (is_among ls l)
among-slice_get ls k l e = list_any_at (same l) ls k l (slice_get_within ls k l e) (eq-eqb _ _ (ap (λ (x : Lit). x.0) (sym (get_or_from_slice_get ls k l l e))))

-- the first of a list is a member
pub member-first_of : (cs : List ℕ) (o : Option ℕ) → o ≡ first_of cs → IfSome o (Contains cs)
member-first_of cs o e = let P : Option ℕ → Type 0 = λ o. IfSome o (Contains cs) in subst P (sym e) (first cs)
  where
    first : (cs : List ℕ) → IfSome (first_of cs) (Contains cs)
    first [] = tt
    first (c ∷ cs) = contains-here c cs

-- and so is the one behind another
pub member-next_in : (cs : List ℕ) (c : ℕ) (o : Option ℕ) → o ≡ next_in cs c → IfSome o (Contains cs)
member-next_in cs c o e = let P : Option ℕ → Type 0 = λ o. IfSome o (Contains cs) in subst P (sym e) (next cs c)
  where
    more : (d : ℕ) (ds : List ℕ) (o : Option ℕ) → IfSome o (Contains ds) → IfSome o (Contains (d ∷ ds))
    more d ds None h = tt
    more d ds (Some x) h = contains-there d ds x h

    next : (cs : List ℕ) (c : ℕ) → IfSome (next_in cs c) (Contains cs)
    next [] c = tt
    next (d ∷ ds) c =
        let P : Option ℕ → Type 0 = λ o. IfSome o (Contains (d ∷ ds)) in
        elim (cases_eq d c) [
          | inl is ↦ subst P (sym (cond-true (eqb d c) (first_of ds) (next_in ds c) (eq-eqb d c is))) (more d ds (first_of ds) (member-first_of ds (first_of ds) refl))
          | inr ne ↦ subst P (sym (cond-false (eqb d c) (first_of ds) (next_in ds c) (ne_eqb d c ne))) (more d ds (next_in ds c) (next ds c))
        ]
