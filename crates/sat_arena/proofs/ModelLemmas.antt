-- What the invariant of the fields says of the model.
use Rattle.std.proofs.Common.{◌≡◌, ◌≢◌, ◌+◌, ◌<◌, ◌≤◌, ℕ, zero, suc, eqb, IsTrue, List, [], length, get_or, refl, sym, ap, subst, ◌∙◌, inl, inr, arith}
use Rattle.std.specs.List.{Contains, IsDistinct}
use Rattle.std.proofs.lemmas.Bool.{cases_lt, eqb-true, eq-eqb, and_from}
use Rattle.std.proofs.lemmas.List.{get_or_past}
use Rattle.std.proofs.lemmas.List.Folds.{list_any_at, Any-from_list_any}
use Rattle.cnf.specs.declared.lit.Lit.{Lit}
use Rattle.cnf.specs.Lits.{same, is_among, is_below, are_below}
use Rattle.sat_arena.specs.Arena.{WatchedClause, IsWatching, IsWatched, IsArena}
use Rattle.sat_arena.specs.Words.{lits_in, clause_in, watched_clauses, IsNumberIn, IsClause, Watches, IsArenaInside}
use Rattle.sat_arena.proofs.Members.{contains-none, distinct-none}
use Rattle.sat_arena.proofs.WordLemmas.{in_order-distinct, lit-ap, length-lits_in, get_or-lits_in, indexes-are, length-lists_from}
use Rattle.sat_arena.proofs.ReadLemmas.{below-from_number, known-start, start-known, clause_at-is, list-there}

pub among-from_number : (words : List ℕ) (c : ℕ) (l : Lit) → IsNumberIn words c l.0 → IsTrue (is_among (clause_in words c).lits l)
among-from_number words c l h =
    let size = get_or words (c + 4) 0 in
    let n = length-lits_in words (c + 5) size in
    let b = h.1 in
    let is : l.0 ≡ (get_or (lits_in words (c + 5) size) h.0 l).0 = sym (ap (λ (x : Lit). x.0) (get_or-lits_in words (c + 5) size h.0 l b) ∙ h.2) in
    list_any_at (same l) (lits_in words (c + 5) size) h.0 l (omega (arith, n, b)) (eq-eqb _ _ is)

pub number-from_among : (words : List ℕ) (c : ℕ) (l : Lit) → IsTrue (is_among (clause_in words c).lits l) → IsNumberIn words c l.0
number-from_among words c l h =
    let size = get_or words (c + 4) 0 in
    let found = Any-from_list_any (same l) (lits_in words (c + 5) size) h in
    let n = length-lits_in words (c + 5) size in
    let b = found.2 in
    let low : found.0 < size = omega (arith, n, b) in
    let word = ap (λ (x : Lit). x.0) (get_or-lits_in words (c + 5) size found.0 found.1 low) in
    (found.0, low, sym word ∙ (ap (λ (x : Lit). x.0) found.3 ∙ sym (eqb-true l.0 found.1.0 found.4)))

pub watching-from_words : (words : List ℕ) (c : ℕ) (l : Lit) → Watches words l.0 c → IsWatching (clause_in words c) l
watching-from_words words c l w = (λ q. w.0 (ap (λ (x : Lit). x.0) q), elim w.1 [ inl e ↦ inl (lit-ap _ l.0 e) | inr e ↦ inr (lit-ap _ l.0 e) ])

pub words-from_watching : (words : List ℕ) (c : ℕ) (l : Lit) → IsWatching (clause_in words c) l → Watches words l.0 c
words-from_watching words c l w = (λ q. w.0 (lit-ap _ _ q), elim w.1 [ inl e ↦ inl (ap (λ (x : Lit). x.0) e) | inr e ↦ inr (ap (λ (x : Lit). x.0) e) ])

-- a watched literal is in range
pub watched-in_range : (vars : ℕ) (words : List ℕ) (c l : ℕ) → IsClause vars words c → Watches words l c → l < vars + vars
watched-in_range vars words c l k w =
    let t = k.two w.0 in
    elim w.1 [
      | inl e ↦ let n = t.0.2 in let b = k.lits t.0.0 t.0.1 in omega (arith, e, n, b)
      | inr e ↦ let n = t.1.2 in let b = k.lits t.1.0 t.1.1 in omega (arith, e, n, b)
    ]

-- both watches of a clause, where they are different
pub watches-in_range : (vars : ℕ) (words : List ℕ) (c : ℕ) → IsClause vars words c → (◌≡◌ {A = Lit} (record { 0 = get_or words c 0 }) (record { 0 = get_or words (c + 2) 0 }) → ⊥) → IsTrue (is_below vars (record { 0 = get_or words c 0 })) × IsTrue (is_below vars (record { 0 = get_or words (c + 2) 0 }))
watches-in_range vars words c k ne =
    let differ : get_or words c 0 ≢ get_or words (c + 2) 0 = λ q. ne (lit-ap _ _ q) in (
      below-from_number vars (record { 0 = get_or words c 0 }) (watched-in_range vars words c (get_or words c 0) k (differ, inl refl)),
      below-from_number vars (record { 0 = get_or words (c + 2) 0 }) (watched-in_range vars words c (get_or words (c + 2) 0) k (differ, inr refl)),
    )

lits_in-below : (vars : ℕ) (words : List ℕ) (i n : ℕ) → ((k : ℕ) → k < n → get_or words (i + k) 0 < vars + vars) → IsTrue (are_below vars (lits_in words i n))
lits_in-below vars words i zero f = refl
lits_in-below vars words i (suc n) f =
    let P : ℕ → Type 0 = λ x. get_or words x 0 < vars + vars in
    let e0 : i + 0 ≡ i = omega arith in
    let l : Lit = record { 0 = get_or words i 0 } in
    and_from (is_below vars l) (are_below vars (lits_in words (i + 1) n)) (below-from_number vars l (subst P e0 (f 0 (omega arith))))
    (lits_in-below vars words (i + 1) n (λ k b. let e : i + suc k ≡ i + 1 + k = omega arith in subst P e (f (suc k) (omega arith))))

watched-from_clause : (vars : ℕ) (words : List ℕ) (c : ℕ) → IsClause vars words c → IsWatched vars (clause_in words c)
watched-from_clause vars words c k = record {
  in_range = lits_in-below vars words (c + 5) (get_or words (c + 4) 0) k.lits;
  two = λ n.
      let t = k.two (λ q. n (lit-ap _ _ q)) in
      (among-from_number words c (record { 0 = get_or words c 0 }) t.0, among-from_number words c (record { 0 = get_or words (c + 2) 0 }) t.1);
  short = λ e l m.
      let at = number-from_among words c l m in
      lit-ap l.0 _ (sym at.2 ∙ k.short (ap (λ (x : Lit). x.0) e) at.0 at.1);
}

-- no list stands under a literal out of range
pub list-past : (vars : ℕ) (words firsts starts : List ℕ) (l : ℕ) → length firsts ≡ vars + vars → vars + vars ≤ l → get_or (watched_clauses vars words firsts starts).lists l [] ≡ []
list-past vars words firsts starts l n b = get_or_past (watched_clauses vars words firsts starts).lists l [] (let m = length-lists_from words 0 firsts in omega (arith, m, n, b))

pub is-arena : (vars : ℕ) (words firsts starts : List ℕ) → IsArenaInside vars words firsts starts → IsArena (watched_clauses vars words firsts starts)
is-arena vars words firsts starts h =
    let a = watched_clauses vars words firsts starts in
    record {
      distinct = subst (IsDistinct eqb) (sym (indexes-are words starts)) (in_order-distinct words 1 starts h.in_order);
      watched = λ c k.
          let o = known-start vars words firsts starts c k in
          subst (IsWatched vars) (sym (clause_at-is vars words firsts starts c o)) (watched-from_clause vars words c (h.clauses c o));
      once = λ l. elim (cases_lt l.0 (vars + vars)) [
        | inl b ↦ (list-there vars words firsts starts l.0 h b).distinct
        | inr b ↦ subst (IsDistinct eqb) (sym (list-past vars words firsts starts l.0 h.heads b)) distinct-none
      ];
      listed = λ l c. (
        λ m. elim (cases_lt l.0 (vars + vars)) [
          | inl b ↦
              let i = (list-there vars words firsts starts l.0 h b).only c m in
              let P : WatchedClause → Type 0 = λ k. IsWatching k l in
              (start-known vars words firsts starts c i.0, subst P (sym (clause_at-is vars words firsts starts c i.0)) (watching-from_words words c l i.1))
          | inr b ↦ let P : List ℕ → Type 0 = λ cs. Contains cs c in absurd (contains-none c (subst P (list-past vars words firsts starts l.0 h.heads b) m))
        ],
        λ k.
            let o = known-start vars words firsts starts c k.0 in
            let w = words-from_watching words c l (let P : WatchedClause → Type 0 = λ x. IsWatching x l in subst P (clause_at-is vars words firsts starts c o) k.1) in
            (list-there vars words firsts starts l.0 h (watched-in_range vars words c l.0 (h.clauses c o) w)).all c o w,
      );
    }
