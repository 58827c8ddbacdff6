-- What the words say of the model that they stand for.
use Rattle.std.proofs.Common.{◌≡◌, ◌+◌, ◌<◌, ◌≤◌, ◌^◌, ℕ, cond, eqb, IsTrue, None, Some, List, [], ◌∷◌, length, map, get_or, sym, ap, subst, ◌∙◌, inl, inr, arith}
use Rattle.std.specs.List.{Contains, slice_get}
use Rattle.std.proofs.lemmas.Bool.{cases_eq, cond-true, cond-false, eq-eqb, ne_eqb, ltb-true, lt-ltb}
use Rattle.std.proofs.lemmas.List.{get_or-map, get_or_default, length-map}
use Rattle.std.proofs.lemmas.Option.{slice_get-get_or}
use Rattle.cnf.specs.declared.lit.Lit.{Lit}
use Rattle.cnf.specs.Lits.{variable, is_below}
use Rattle.sat_arena.specs.Arena.{WatchedClause, WatchedClauses, indexes, clause_at, first_of, next_in}
use Rattle.sat_arena.specs.Links.{Linked, link}
use Rattle.sat_arena.specs.Words.{clause_in, list_from, watched_clauses, IsList, IsArenaInside}
use Rattle.sat_arena.proofs.Members.{contains-none, contains-here, contains-there, contains-cases}
use Rattle.sat_arena.proofs.WordLemmas.{in_order-at, length-lits_in, get_or-lits_in, indexes-are, clause_of-are, get_or-lists_from}

-- a literal in range is that of a list
pub below-number : (n : ℕ) (l : Lit) → IsTrue (is_below n l) → l.0 < n + n
below-number n l h = let k = ltb-true (variable l) n h in omega arith

pub below-from_number : (n : ℕ) (l : Lit) → l.0 < n + n → IsTrue (is_below n l)
below-from_number n l h = let k : variable l < n = omega arith in lt-ltb (variable l) n k

-- ---- the clauses

pub known-start : (vars : ℕ) (words firsts starts : List ℕ) (c : ℕ) → Contains (indexes (watched_clauses vars words firsts starts)) c → Contains starts c
known-start vars words firsts starts c h = let P : List ℕ → Type 0 = λ cs. Contains cs c in subst P (indexes-are words starts) h

pub start-known : (vars : ℕ) (words firsts starts : List ℕ) (c : ℕ) → Contains starts c → Contains (indexes (watched_clauses vars words firsts starts)) c
start-known vars words firsts starts c h = let P : List ℕ → Type 0 = λ cs. Contains cs c in subst P (sym (indexes-are words starts)) h

pub clause_at-is : (vars : ℕ) (words firsts starts : List ℕ) (c : ℕ) → Contains starts c → clause_at (watched_clauses vars words firsts starts) c ≡ clause_in words c
clause_at-is vars words firsts starts c o = clause_of-are words starts c o

-- a clause lies inside the words
pub clause-inside : (vars : ℕ) (words firsts starts : List ℕ) (c : ℕ) → IsArenaInside vars words firsts starts → Contains starts c → (1 ≤ c) × (c + 5 + get_or words (c + 4) 0 ≤ length words)
clause-inside vars words firsts starts c h o = in_order-at words 1 starts c h.in_order o

pub size-is : (vars : ℕ) (words firsts starts : List ℕ) (c : ℕ) → Contains starts c → length (clause_at (watched_clauses vars words firsts starts) c).lits ≡ get_or words (c + 4) 0
size-is vars words firsts starts c o = ap (λ (k : WatchedClause). length k.lits) (clause_of-are words starts c o) ∙ length-lits_in words (c + 5) (get_or words (c + 4) 0)

pub literal-is : (vars : ℕ) (words firsts starts : List ℕ) (c k : ℕ) (d : Lit) → Contains starts c → k < get_or words (c + 4) 0 → get_or (clause_at (watched_clauses vars words firsts starts) c).lits k d ≡ record { 0 = get_or words (c + 5 + k) 0 }
literal-is vars words firsts starts c k d o b = ap (λ (x : WatchedClause). get_or x.lits k d) (clause_of-are words starts c o) ∙ get_or-lits_in words (c + 5) (get_or words (c + 4) 0) k d b

-- what reading the k-th index says
pub record ReadsIndex (a : WatchedClauses) (k c : ℕ) : Type 0 where
  pub clause : slice_get a.clauses k ≡ Some (clause_at a c)
  pub index : slice_get (indexes a) k ≡ Some c
  pub known : Contains (indexes a) c

pub reads-index : (vars : ℕ) (words firsts starts : List ℕ) (k : ℕ) → k < length starts → ReadsIndex (watched_clauses vars words firsts starts) k (get_or starts k 0)
reads-index vars words firsts starts k b =
    let a = watched_clauses vars words firsts starts in
    let c = get_or starts k 0 in
    let o : Contains starts c = (k, b, at_k starts k b) in
    let n : length (map (clause_in words) starts) ≡ length starts = simp length-map in
    let at : get_or (map (clause_in words) starts) k (clause_in words c) ≡ clause_in words c = get_or-map (clause_in words) starts k 0 (clause_in words c) b in
    record {
      clause = slice_get-get_or a.clauses k (clause_in words c) (omega (arith, n, b)) ∙ ap Some (at ∙ sym (clause_of-are words starts c o));
      index = ap (λ cs. slice_get cs k) (indexes-are words starts) ∙ slice_get-get_or starts k 0 b;
      known = start-known vars words firsts starts c o;
    }
  where
    at_k : (cs : List ℕ) (k : ℕ) → k < length cs → get_or cs k (get_or cs k 0) ≡ get_or cs k 0
    at_k cs k b = get_or_default cs k (get_or cs k 0) 0 b

-- what reading a literal needs and says
pub record ReadsLiteral (vars : ℕ) (words : List ℕ) (a : WatchedClauses) (c k : ℕ) : Type 0 where
  pub inside : c + 5 + k < length words
  pub number : get_or words (c + 5 + k) 0 < 2 ^ 32
  pub literal : slice_get (clause_at a c).lits k ≡ Some (record { 0 = get_or words (c + 5 + k) 0 })
  pub in_range : IsTrue (is_below vars (record { 0 = get_or words (c + 5 + k) 0 }))

pub reads-literal : (vars : ℕ) (words firsts starts : List ℕ) (c k : ℕ) → IsArenaInside vars words firsts starts → Contains (indexes (watched_clauses vars words firsts starts)) c → k < length (clause_at (watched_clauses vars words firsts starts) c).lits → ReadsLiteral vars words (watched_clauses vars words firsts starts) c k
reads-literal vars words firsts starts c k h known bound =
    let a = watched_clauses vars words firsts starts in
    let o = known-start vars words firsts starts c known in
    let size = size-is vars words firsts starts c o in
    let low : k < get_or words (c + 4) 0 = omega (arith, size, bound) in
    let inside = clause-inside vars words firsts starts c h o in
    let below = (h.clauses c o).lits k low in
    let small = h.small in
    let l : Lit = record { 0 = get_or words (c + 5 + k) 0 } in
    record {
      inside = omega (arith, inside.1, low);
      number = omega (arith, below, small);
      literal = slice_get-get_or (clause_at a c).lits k l bound ∙ ap Some (literal-is vars words firsts starts c k l o low);
      in_range = below-from_number vars l below;
    }

-- ---- the lists

-- the list under a literal's number
abbrev pub numbered_list : WatchedClauses → ℕ → List ℕ
numbered_list a l = get_or a.lists l []

pub list-at : (vars : ℕ) (words firsts starts : List ℕ) (l : ℕ) → l < length firsts → numbered_list (watched_clauses vars words firsts starts) l ≡ list_from words l (get_or firsts l 0)
list-at vars words firsts starts l b = get_or-lists_from words 0 firsts l b ∙ ap (λ x. list_from words x (get_or firsts l 0)) (let e : 0 + l ≡ l = omega arith in e)

pub list-there : (vars : ℕ) (words firsts starts : List ℕ) (l : ℕ) → IsArenaInside vars words firsts starts → l < vars + vars → IsList words starts l (get_or firsts l 0) (numbered_list (watched_clauses vars words firsts starts) l)
list-there vars words firsts starts l h b =
    let P : List ℕ → Type 0 = λ cs. IsList words starts l (get_or firsts l 0) cs in
    subst P (sym (list-at vars words firsts starts l (omega (arith, h.heads)))) (h.lists l b)

positive-members : (vars : ℕ) (words firsts starts : List ℕ) (l at c : ℕ) (cs : List ℕ) → IsArenaInside vars words firsts starts → IsList words starts l at cs → Contains cs c → 0 < c
positive-members vars words firsts starts l at c cs h i o = let k = (clause-inside vars words firsts starts c h (i.only c o).0).0 in omega arith

head-is : (next : ℕ → ℕ) (at : ℕ) (cs : List ℕ) → ((c : ℕ) → Contains cs c → 0 < c) → Linked next 0 at cs → cond (eqb at 0) None (Some at) ≡ first_of cs
head-is next at [] p h = cond-true (eqb at 0) None (Some at) (eq-eqb at 0 h)
head-is next at (c ∷ cs) p h =
    let q = p c (contains-here c cs) in
    let ne : at ≡ 0 → ⊥ = λ e. let f = h.0 in omega arith in
    cond-false (eqb at 0) None (Some at) (ne_eqb at 0 ne) ∙ ap Some h.0

behind-is : (next : ℕ → ℕ) (at c : ℕ) (cs : List ℕ) → ((d : ℕ) → Contains cs d → 0 < d) → Contains cs c → Linked next 0 at cs → cond (eqb (next c) 0) None (Some (next c)) ≡ next_in cs c
behind-is next at c [] p o h = absurd (contains-none c o)
behind-is next at c (d ∷ ds) p o h =
    let rest : (x : ℕ) → Contains ds x → 0 < x = λ x k. p x (contains-there d ds x k) in
    elim (cases_eq d c) [
      | inl e ↦
          let P : ℕ → Type 0 = λ x. cond (eqb (next x) 0) None (Some (next x)) ≡ first_of ds in
          subst P e (head-is next (next d) ds rest h.1) ∙ sym (cond-true (eqb d c) (first_of ds) (next_in ds c) (eq-eqb d c e))
      | inr ne ↦
          behind-is next (next d) c ds rest (elim (contains-cases d ds c o) [ inl e ↦ absurd (ne e) | inr k ↦ k ]) h.1 ∙ sym (cond-false (eqb d c) (first_of ds) (next_in ds c) (ne_eqb d c ne))
    ]

pub first-is : (vars : ℕ) (words firsts starts : List ℕ) (l : ℕ) → IsArenaInside vars words firsts starts → l < vars + vars → cond (eqb (get_or firsts l 0) 0) None (Some (get_or firsts l 0)) ≡ first_of (numbered_list (watched_clauses vars words firsts starts) l)
first-is vars words firsts starts l h b =
    let i = list-there vars words firsts starts l h b in
    head-is (link words l) (get_or firsts l 0) _ (λ c o. positive-members vars words firsts starts l _ c _ h i o) i.linked

pub next-is : (vars : ℕ) (words firsts starts : List ℕ) (l c : ℕ) → IsArenaInside vars words firsts starts → l < vars + vars → Contains (numbered_list (watched_clauses vars words firsts starts) l) c → cond (eqb (link words l c) 0) None (Some (link words l c)) ≡ next_in (numbered_list (watched_clauses vars words firsts starts) l) c
next-is vars words firsts starts l c h b o =
    let i = list-there vars words firsts starts l h b in
    behind-is (link words l) (get_or firsts l 0) c _ (λ d k. positive-members vars words firsts starts l _ d _ h i k) o i.linked

pub member-inside : (vars : ℕ) (words firsts starts : List ℕ) (l c : ℕ) → IsArenaInside vars words firsts starts → l < vars + vars → Contains (numbered_list (watched_clauses vars words firsts starts) l) c → c + 4 < length words
member-inside vars words firsts starts l c h b o = let k = (clause-inside vars words firsts starts c h ((list-there vars words firsts starts l h b).only c o).0).1 in omega arith
