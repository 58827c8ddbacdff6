-- A walk along a linked list to one of its members.
use Rattle.std.proofs.Common.{◌≡◌, ◌+◌, ◌<◌, ℕ, eqb, if◌then◌else◌, ◌==◌, Option, None, Some, List, [], ◌∷◌, ◌++◌, length, get_or, refl, sym, ap, subst, ◌∙◌, inl, inr, arith, append_assoc}
use Rattle.std.specs.Prelude.{MatchOption}
use Rattle.std.specs.List.{Contains, IsDistinct}
use Rattle.std.proofs.lemmas.Bool.{cond-true, cond-false, eq-eqb, ne_eqb}
use Rattle.std.proofs.lemmas.Map.Keys.{IsDistinct-tail}
use Rattle.cnf.specs.declared.lit.Lit.{Lit}
use Rattle.sat_arena.specs.Arena.{WatchedClause, clause_at, indexes, IsBehind, IsWatching}
use Rattle.sat_arena.specs.Links.{Linked, link}
use Rattle.sat_arena.specs.Words.{list_from, watched_clauses, IsArenaInside}
use Rattle.sat_arena.proofs.Members.{contains-none, contains-cases, contains-middle, distinct-middle}
use Rattle.sat_arena.proofs.WordLemmas.{in_order-at}
use Rattle.sat_arena.proofs.ReadLemmas.{known-start, clause_at-is}
use Rattle.sat_arena.proofs.ModelLemmas.{words-from_watching}

-- the list from a member on
abbrev pub from_member : List ℕ → ℕ → List ℕ
from_member [] c = []
from_member (d ∷ ds) c = if d == c then d ∷ ds else from_member ds c

-- the walk has come to `at`, behind `before`, and has not passed c
pub record IsAt (next : ℕ → ℕ) (cs : List ℕ) (before : Option ℕ) (at c : ℕ) : Type 0 where
  pub left : List ℕ
  pub right : List ℕ
  pub parts : cs ≡ left ++ at ∷ right
  pub linked : Linked next 0 (next at) right
  pub ahead : Contains (at ∷ right) c
  pub last : MatchOption before (left ≡ []) (λ p. (zs : List ℕ) × (left ≡ zs ++ p ∷ []))

pub at-begin : (next : ℕ → ℕ) (first c : ℕ) (cs : List ℕ) → Linked next 0 first cs → Contains cs c → IsAt next cs None first c
at-begin next first c [] h o = absurd (contains-none c o)
at-begin next first c (d ∷ ds) h o =
    let P : ℕ → Type 0 = λ x. IsAt next (d ∷ ds) None x c in
    subst P (sym h.0) (record { left = []; right = ds; parts = refl; linked = h.1; ahead = o; last = refl })

-- behind a member that is not c
beyond : (at c : ℕ) (right : List ℕ) → Contains (at ∷ right) c → (at ≡ c → ⊥) → Contains right c
beyond at c right o ne = elim (contains-cases at right c o) [ inl e ↦ absurd (ne e) | inr k ↦ k ]

pub at-step : (next : ℕ → ℕ) (cs : List ℕ) (before : Option ℕ) (at c : ℕ) → IsAt next cs before at c → (at ≡ c → ⊥) → IsAt next cs (Some at) (next at) c
at-step next cs before at c i ne = by_right i.right i.parts i.linked (beyond at c i.right i.ahead ne)
  where
    by_right : (right : List ℕ) → cs ≡ i.left ++ at ∷ right → Linked next 0 (next at) right → Contains right c → IsAt next cs (Some at) (next at) c
    by_right [] p l o = absurd (contains-none c o)
    by_right (d ∷ ds) p l o =
        let P : ℕ → Type 0 = λ x. IsAt next cs (Some at) x c in
        subst P (sym l.0) (record {
          left = i.left ++ at ∷ [];
          right = ds;
          parts = p ∙ sym (append_assoc i.left (at ∷ []) (d ∷ ds));
          linked = l.1;
          ahead = o;
          last = (i.left, refl);
        })

pub at-end : (next : ℕ → ℕ) (cs : List ℕ) (before : Option ℕ) (at c : ℕ) → IsAt next cs before at c → at ≡ c → IsBehind cs before c
at-end next cs None at c i e =
    let P : List ℕ → Type 0 = λ xs. cs ≡ xs ++ at ∷ i.right in
    (i.right, subst P i.last i.parts ∙ ap (λ x. x ∷ i.right) e)
at-end next cs (Some p) at c i e =
    let P : List ℕ → Type 0 = λ xs. cs ≡ xs ++ at ∷ i.right in
    let zs = i.last.0 in
    (zs, (i.right, subst P i.last.1 i.parts ∙ (append_assoc zs (p ∷ []) (at ∷ i.right) ∙ ap (λ x. zs ++ p ∷ x ∷ i.right) e)))

pub at-member : (next : ℕ → ℕ) (cs : List ℕ) (before : Option ℕ) (at c : ℕ) → IsAt next cs before at c → Contains cs at
at-member next cs before at c i = let P : List ℕ → Type 0 = λ zs. Contains zs at in subst P (sym i.parts) (contains-middle i.left at i.right)

pub from_member-middle : (xs : List ℕ) (at : ℕ) (ys : List ℕ) → IsDistinct eqb (xs ++ at ∷ ys) → from_member (xs ++ at ∷ ys) at ≡ at ∷ ys
from_member-middle [] at ys a = cond-true (eqb at at) (at ∷ ys) (from_member ys at) (eq-eqb at at refl)
from_member-middle (x ∷ xs) at ys a =
    cond-false (eqb x at) (x ∷ (xs ++ at ∷ ys)) (from_member (xs ++ at ∷ ys) at) (ne_eqb x at (distinct-middle x xs at ys a))
    ∙ from_member-middle xs at ys (IsDistinct-tail eqb x (xs ++ at ∷ ys) a)

at-length : (next : ℕ → ℕ) (cs : List ℕ) (before : Option ℕ) (at c : ℕ) → IsDistinct eqb cs → (i : IsAt next cs before at c) → length (from_member cs at) ≡ length i.right + 1
at-length next cs before at c a i =
    let e : from_member cs at ≡ at ∷ i.right = ap (λ zs. from_member zs at) i.parts ∙ from_member-middle i.left at i.right (subst (IsDistinct eqb) i.parts a) in
    let n : length (at ∷ i.right) ≡ length i.right + 1 = omega arith in
    ap length e ∙ n

-- what is left of the list gets shorter
pub at-shorter : (next : ℕ → ℕ) (cs : List ℕ) (before : Option ℕ) (at c : ℕ) → IsDistinct eqb cs → IsAt next cs before at c → (at ≡ c → ⊥) → length (from_member cs (next at)) < length (from_member cs at)
at-shorter next cs before at c a i ne =
    let n = at-length next cs before at c a i in
    let k = one_less i.right i.parts i.linked (beyond at c i.right i.ahead ne) in
    omega (arith, n, k)
  where
    one_less : (right : List ℕ) → cs ≡ i.left ++ at ∷ right → Linked next 0 (next at) right → Contains right c → length (from_member cs (next at)) ≡ length right
    one_less [] p l o = absurd (contains-none c o)
    one_less (d ∷ ds) p l o =
        let whole : cs ≡ (i.left ++ at ∷ []) ++ d ∷ ds = p ∙ sym (append_assoc i.left (at ∷ []) (d ∷ ds)) in
        ap (λ x. length (from_member cs x)) l.0 ∙ (ap (λ zs. length (from_member zs d)) whole ∙ ap length (from_member-middle (i.left ++ at ∷ []) d ds (subst (IsDistinct eqb) whole a)))

-- what the walk needs of the list of a watched literal
abbrev pub Walks : ℕ → ℕ → List ℕ → ℕ → Type 0
Walks l c words at = Linked (link words l) 0 at (list_from words l at) × (IsDistinct eqb (list_from words l at) × (((d : ℕ) → Contains (list_from words l at) d → d + 4 < length words) × Contains (list_from words l at) c))

pub walks : (vars : ℕ) (words firsts starts : List ℕ) (l : Lit) (c : ℕ) → IsArenaInside vars words firsts starts → l.0 < vars + vars → Contains (indexes (watched_clauses vars words firsts starts)) c → IsWatching (clause_at (watched_clauses vars words firsts starts) c) l → Walks l.0 c words (get_or firsts l.0 0)
walks vars words firsts starts l c h b known w =
    let o = known-start vars words firsts starts c known in
    let i = h.lists l.0 b in
    let P : WatchedClause → Type 0 = λ x. IsWatching x l in
    let watches = words-from_watching words c l (subst P (clause_at-is vars words firsts starts c o) w) in
    (i.linked, (i.distinct, ((λ d k. let m = (in_order-at words 1 starts d h.in_order (i.only d k).0).1 in omega arith), i.all c o watches)))
