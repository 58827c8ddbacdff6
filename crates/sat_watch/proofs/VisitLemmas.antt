-- Lemmas on the clauses that watch a literal, looked at one after the other.
use Rattle.std.proofs.Common.{◌≡◌, ◌≢◌, ◌+◌, ◌<◌, ◌≤◌, ◌⊎◌, ℕ, Bool, true, false, cond, eqb, IsTrue, zero, suc, Option, None, Some, List, [], ◌∷◌, ◌++◌, length, map, get_or, refl, sym, ap, subst, ◌∙◌, inl, inr, arith, append_assoc}
use Rattle.std.specs.List.{Contains, slice_get, list_all, IsDistinct}
use Rattle.std.proofs.lemmas.Bool.{cases_eq, cases_Bool, cond-true, cond-false, eq-eqb, ne_eqb, false≢true, false_from_ne_true}
use Rattle.std.proofs.lemmas.List.{length_push, get_or-append-add, append-nil}
use Rattle.std.proofs.lemmas.Option.{slice_get-get_or, slice_get_within}
use Rattle.cnf.specs.declared.lit.Lit.{Lit}
use Rattle.cnf.specs.Lits.{negation, same, is_among, is_below}
use Rattle.cnf.proofs.ForCallers.{same-eq, same-from_eq}
use Rattle.sat_trail.specs.declared.entry.Entry.{Entry}
use Rattle.sat_trail.specs.Trail.{Assignment, lits, value_in, up_to, with_implied, IsTrail}
use Rattle.sat_trail.proofs.ForCallers.{some≢none, lit-at, lits-get, no-both, rise-push, up_to-all, distinct-push, below-push}
use Rattle.sat_arena.specs.Arena.{WatchedClause, WatchedClauses, indexes, clause_of, clause_at, watch_list, first_of, next_in, without, with_watch, IsWatching, IsArena}
use Rattle.sat_arena.proofs.ForCallers.{rest_from, IsWalk, Meets, walk-begin, walk-meets}
use Rattle.sat_watch.specs.Numbered.{Numbered, with_number, numbered}
use Rattle.sat_watch.specs.Soundness.{is_false, Implies, IsSound, IsConflict}
use Rattle.sat_watch.specs.Watch.{partner, CanWatch}
use Rattle.sat_watch.specs.Watches.{IsBacked, ShortAreTrue, ArePresent, IsReady, IsLonger}
use Rattle.sat_watch.proofs.NumberLemmas.{under-index, contains-tail}
use Rattle.sat_watch.proofs.StepLemmas.{sound-imply, get-push, negation-injective}
use Rattle.sat_watch.proofs.WatchLemmas.{up_to-more, backed-more, backed-less, backed-swap, backed-advance, backed-true, backed-moved}

-- ---- the clauses of an arena

-- a clause of an index that is known has this index
pub index-known : (a : WatchedClauses) (c : ℕ) → Contains (indexes a) c → (clause_at a c).index ≡ c
index-known a c m = from a.clauses m
  where
    from : (ks : List WatchedClause) → Contains (map (λ (k : WatchedClause). k.index) ks) c → (clause_of ks c).index ≡ c
    from [] m = absurd (let b = m.1 in omega arith)
    from (k ∷ ks) m =
        elim (cases_eq k.index c) [
          | inl e ↦ ap (λ (x : WatchedClause). x.index) (cond-true (eqb k.index c) k (clause_of ks c) (eq-eqb _ _ e)) ∙ e
          | inr ne ↦ ap (λ (x : WatchedClause). x.index) (cond-false (eqb k.index c) k (clause_of ks c) (ne_eqb _ _ ne)) ∙ from ks (contains-tail k.index _ c m ne)
        ]

same-index : (c : ℕ) (lit to : Lit) (k : WatchedClause) → (with_watch c lit to k).index ≡ k.index
same-index c lit to k = at (eqb k.index c) (same k.one lit)
  where
    at : (b d : Bool) → (cond b (cond d (record k { one = to }) (record k { other = to })) k).index ≡ k.index
    at true true = refl
    at true false = refl
    at false d = refl

same-lits : (c : ℕ) (lit to : Lit) (k : WatchedClause) → (with_watch c lit to k).lits ≡ k.lits
same-lits c lit to k = at (eqb k.index c) (same k.one lit)
  where
    at : (b d : Bool) → (cond b (cond d (record k { one = to }) (record k { other = to })) k).lits ≡ k.lits
    at true true = refl
    at true false = refl
    at false d = refl

number-eq : (n m : ℕ) (ls ms : List Lit) → n ≡ m → ls ≡ ms → ◌≡◌ {A = Numbered} (record { number = n; lits = ls }) (record { number = m; lits = ms })
number-eq n m ls ms e f = rw (e, f) refl

-- a moved watch leaves the numbers and the literals
pub numbered-move : (a b : WatchedClauses) (c : ℕ) (lit to : Lit) → b.clauses ≡ map (with_watch c lit to) a.clauses → numbered b ≡ numbered a
numbered-move a b c lit to e = ap (map with_number) e ∙ each a.clauses
  where
    each : (ks : List WatchedClause) → map with_number (map (with_watch c lit to) ks) ≡ map with_number ks
    each [] = refl
    each (k ∷ ks) = ap (λ n. n ∷ map with_number (map (with_watch c lit to) ks)) (number-eq _ _ _ _ (same-index c lit to k) (same-lits c lit to k)) ∙ ap (λ ns. with_number k ∷ ns) (each ks)

pub indexes-move : (a b : WatchedClauses) (c : ℕ) (lit to : Lit) → b.clauses ≡ map (with_watch c lit to) a.clauses → indexes b ≡ indexes a
indexes-move a b c lit to e = ap (map (λ (k : WatchedClause). k.index)) e ∙ each a.clauses
  where
    each : (ks : List WatchedClause) → map (λ (k : WatchedClause). k.index) (map (with_watch c lit to) ks) ≡ map (λ (k : WatchedClause). k.index) ks
    each [] = refl
    each (k ∷ ks) = ap (λ n. n ∷ map (λ (x : WatchedClause). x.index) (map (with_watch c lit to) ks)) (same-index c lit to k) ∙ ap (λ ns. k.index ∷ ns) (each ks)

clause_at-move : (a b : WatchedClauses) (c d : ℕ) (lit to : Lit) → b.clauses ≡ map (with_watch c lit to) a.clauses → Contains (indexes a) d → clause_at b d ≡ with_watch c lit to (clause_at a d)
clause_at-move a b c d lit to e m = ap (λ ks. clause_of ks d) e ∙ each a.clauses m
  where
    each : (ks : List WatchedClause) → Contains (map (λ (k : WatchedClause). k.index) ks) d → clause_of (map (with_watch c lit to) ks) d ≡ with_watch c lit to (clause_of ks d)
    each [] m = absurd (let b = m.1 in omega arith)
    each (k ∷ ks) m =
        let rest = clause_of (map (with_watch c lit to) ks) d in
        elim (cases_eq k.index d) [
          | inl q ↦
              cond-true (eqb (with_watch c lit to k).index d) (with_watch c lit to k) rest (eq-eqb _ _ (same-index c lit to k ∙ q))
              ∙ ap (with_watch c lit to) (sym (cond-true (eqb k.index d) k (clause_of ks d) (eq-eqb _ _ q)))
          | inr ne ↦
              cond-false (eqb (with_watch c lit to k).index d) (with_watch c lit to k) rest (ne_eqb _ _ (λ q. ne (sym (same-index c lit to k) ∙ q)))
              ∙ (each ks (contains-tail k.index _ d m ne) ∙ ap (with_watch c lit to) (sym (cond-false (eqb k.index d) k (clause_of ks d) (ne_eqb _ _ ne))))
        ]

-- of another index the clause stays
pub clause_at-other : (a b : WatchedClauses) (c d : ℕ) (lit to : Lit) → b.clauses ≡ map (with_watch c lit to) a.clauses → Contains (indexes a) d → (d ≡ c → ⊥) → clause_at b d ≡ clause_at a d
clause_at-other a b c d lit to e m ne =
    clause_at-move a b c d lit to e m ∙ cond-false (eqb (clause_at a d).index c) _ _ (ne_eqb _ _ (λ q. ne (sym (index-known a d m) ∙ q)))

-- the clause itself watches `to` in place of the literal
pub clause_at-own : (a b : WatchedClauses) (c : ℕ) (lit to : Lit) → b.clauses ≡ map (with_watch c lit to) a.clauses → Contains (indexes a) c → clause_at b c ≡ cond (same (clause_at a c).one lit) (record (clause_at a c) { one = to }) (record (clause_at a c) { other = to })
clause_at-own a b c lit to e m =
    clause_at-move a b c c lit to e m ∙ cond-true (eqb (clause_at a c).index c) _ _ (eq-eqb _ _ (index-known a c m))

-- ---- one more implied literal

pub trail-implied : (t : Assignment) (l : Lit) (number : ℕ) → IsTrail t → IsTrue (is_below t.vars l) → value_in (lits t.entries) l ≡ None → IsTrail (with_implied t l number)
trail-implied t l number h b o =
    let e : Entry = record { lit = l; level = t.level; reason = Some number } in
    record {
      small = h.small;
      in_range = below-push t.vars t.entries e h.in_range b;
      distinct = distinct-push t.entries e h.distinct o;
      rise = rise-push 0 t.entries t.level e h.rise refl;
    }

get-left : {X : Type 0} (xs ys : List X) (k : ℕ) (x : X) → slice_get xs k ≡ Some x → slice_get (xs ++ ys) k ≡ Some x
get-left [] ys k x e = absurd (some≢none (sym e))
get-left (z ∷ zs) ys zero x e = e
get-left (z ∷ zs) ys (suc k) x e = get-left zs ys k x e

lits-push : (es : List Entry) (e : Entry) → lits (es ++ e ∷ []) ≡ lits es ++ e.lit ∷ []
lits-push [] e = refl
lits-push (x ∷ xs) e = ap (λ ls. x.lit ∷ ls) (lits-push xs e)

pub present-implied : (t : Assignment) (l : Lit) (number head : ℕ) → ArePresent t head → ArePresent (with_implied t l number) head
present-implied t l number head h k x b e =
    elim (get-push t.entries (record { lit = l; level = t.level; reason = Some number }) x k e) [
      | inl q ↦ h k x b q
      | inr q ↦ ap (λ (y : Entry). y.level) q
    ]

-- ---- the state of a visit

pub record IsVisit (a0 : WatchedClauses) (t0 : Assignment) (head : ℕ) (lit : Lit) (a : WatchedClauses) (t : Assignment) (before next : Option ℕ) : Type 0 where
  pub same : numbered a ≡ numbered a0
  pub arena_vars : a.vars ≡ a0.vars
  pub vars : t.vars ≡ t0.vars
  pub level : t.level ≡ t0.level
  pub longer : IsLonger t0 t
  pub sound : IsSound (numbered a) t
  pub arena : IsArena a
  pub trail : IsTrail t
  pub entry : slice_get (lits t.entries) head ≡ Some (negation lit)
  pub present : ArePresent t head
  pub walk : IsWalk (watch_list a lit) before next
  pub backed : (c : ℕ) → Contains (indexes a) c → (clause_at a c).one ≢ (clause_at a c).other → IsBacked t.entries (head + 1) (clause_at a c).one (clause_at a c).other ⊎ (Contains (rest_from (watch_list a lit) next) c × IsBacked t.entries head (clause_at a c).one (clause_at a c).other)
  pub short : ShortAreTrue a t.entries

-- what is known of the entry that is looked at
record Looks (t : Assignment) (head : ℕ) (lit : Lit) (d : Entry) : Type 0 where
  inside : head < length t.entries
  lit_is : (get_or t.entries head d).lit ≡ negation lit
  level_is : (get_or t.entries head d).level ≡ t.level

lits-length : (es : List Entry) → length (lits es) ≡ length es
lits-length [] = refl
lits-length (x ∷ xs) = ap suc (lits-length xs)

looks : (t : Assignment) (head : ℕ) (lit : Lit) (d : Entry) → slice_get (lits t.entries) head ≡ Some (negation lit) → ArePresent t head → Looks t head lit d
looks t head lit d e p =
    let w = slice_get_within (lits t.entries) head (negation lit) e in
    let n = lits-length t.entries in
    let b : head < length t.entries = omega arith in
    record {
      inside = b;
      lit_is = lit-at t.entries head (negation lit) d e;
      level_is = p head (get_or t.entries head d) (omega arith) (slice_get-get_or t.entries head d b);
    }

-- a literal other than the one that was made false is not made false
apart-entry : (t : Assignment) (head : ℕ) (lit l : Lit) (d : Entry) → Looks t head lit d → (l ≡ lit → ⊥) → negation l ≡ (get_or t.entries head d).lit → ⊥
apart-entry t head lit l d k ne e = ne (negation-injective l lit (e ∙ k.lit_is))

none-entry : Entry
none-entry = record { lit = record { 0 = 0 }; level = 0; reason = None }

lit-cases : (a b : Lit) → (a ≡ b) ⊎ ((a ≡ b → ⊥) × (same a b ≡ false))
lit-cases a b = elim (cases_Bool (same a b)) [ inl t ↦ inl (same-eq a b t) | inr t ↦ inr (λ e. false≢true (sym t ∙ same-from_eq a b e), t) ]

pub visit-begin : (a : WatchedClauses) (t : Assignment) (head : ℕ) (lit : Lit) (next : Option ℕ) → IsSound (numbered a) t → IsReady a t head → slice_get (lits t.entries) head ≡ Some (negation lit) → next ≡ first_of (watch_list a lit) → ShortAreTrue a t.entries → IsVisit a t head lit a t None next
visit-begin a t head lit next s r e n short =
    let d : Entry = record { lit = record { 0 = 0 }; level = 0; reason = None } in
    let k = looks t head lit d e r.present in
    let w = walk-begin (watch_list a lit) next (r.arena.once lit) n in
    let P : List ℕ → Type 0 = λ zs. watch_list a lit ≡ zs ++ rest_from (watch_list a lit) next in
    let whole : watch_list a lit ≡ rest_from (watch_list a lit) next = subst P w.last w.parts in
    record {
      same = refl;
      arena_vars = refl;
      vars = refl;
      level = refl;
      longer = ([], sym (append-nil t.entries));
      sound = s;
      arena = r.arena;
      trail = r.trail;
      entry = e;
      present = r.present;
      walk = w;
      backed = λ c m two.
          let b = r.backed c m two in
          let one = (clause_at a c).one in
          let other = (clause_at a c).other in
          let Q : List ℕ → Type 0 = λ zs. Contains zs c in
          elim (lit-cases one lit) [
            | inl q ↦ inr (subst Q whole ((r.arena.listed lit c).1 (m, (two, inl q))), b)
            | inr n1 ↦ elim (lit-cases other lit) [
              | inl q ↦ inr (subst Q whole ((r.arena.listed lit c).1 (m, (two, inr q))), b)
              | inr n2 ↦ inl (backed-advance t.entries head d one other k.inside (apart-entry t head lit one d k n1.0) (apart-entry t head lit other d k n2.0) b)
            ]
          ];
      short = short;
    }

-- the true partner of a false watch backs it
partner-backed : (a : WatchedClauses) (t : Assignment) (head : ℕ) (lit : Lit) (c : ℕ) (d : Entry) → IsTrail t → Looks t head lit d → IsWatching (clause_at a c) lit → IsTrue (is_among (lits t.entries) (partner (clause_at a c) lit)) → IsBacked t.entries head (clause_at a c).one (clause_at a c).other → IsBacked t.entries (head + 1) (clause_at a c).one (clause_at a c).other
partner-backed a t head lit c d h k w p b =
    let one = (clause_at a c).one in
    let other = (clause_at a c).other in
    let at : (l : Lit) → IsTrue (is_among (lits t.entries) l) → (n : ℕ) → (get_or t.entries head d).level ≤ n → IsTrue (is_among (lits (up_to n t.entries)) l) = λ l m n low.
    let P : List Entry → Type 0 = λ es. IsTrue (is_among (lits es) l) in
    let e = k.level_is in
    subst P (sym (up_to-all 0 t.entries t.level n h.rise (omega arith))) m in
    let T : Lit → Type 0 = λ l. IsTrue (is_among (lits t.entries) l) in
    elim (lit-cases one lit) [
      | inl q ↦
          let is : partner (clause_at a c) lit ≡ other = cond-true (same one lit) other one (same-from_eq one lit q) in
          backed-true t.entries head d one other k.inside (apart-entry t head lit other d k (λ z. w.0 (q ∙ sym z))) (at other (subst T is p)) b
      | inr n1 ↦
          let is : partner (clause_at a c) lit ≡ one = cond-false (same one lit) other one n1.1 in
          backed-swap t.entries (head + 1) other one (backed-true t.entries head d other one k.inside (apart-entry t head lit one d k n1.0) (at one (subst T is p)) (backed-swap t.entries head one other b))
    ]

-- a clause that is met is known, and watches the literal
pub met-known : (a : WatchedClauses) (lit : Lit) (before : Option ℕ) (c : ℕ) → IsArena a → IsWalk (watch_list a lit) before (Some c) → Contains (indexes a) c × IsWatching (clause_at a c) lit
met-known a lit before c h w = (h.listed lit c).0 w.member

pub visit-keep : (a0 : WatchedClauses) (t0 : Assignment) (head : ℕ) (lit : Lit) (a : WatchedClauses) (t : Assignment) (before next : Option ℕ) (c : ℕ) → IsVisit a0 t0 head lit a t before (Some c) → next ≡ next_in (watch_list a lit) c → IsTrue (is_among (lits t.entries) (partner (clause_at a c) lit)) → IsVisit a0 t0 head lit a t (Some c) next
visit-keep a0 t0 head lit a t before next c v e p =
    let d : Entry = record { lit = record { 0 = 0 }; level = 0; reason = None } in
    let m = walk-meets (watch_list a lit) before next c (v.arena.once lit) v.walk e in
    let k = looks t head lit d v.entry v.present in
    let met = met-known a lit before c v.arena v.walk in
    record {
      same = v.same;
      arena_vars = v.arena_vars;
      vars = v.vars;
      level = v.level;
      longer = v.longer;
      sound = v.sound;
      arena = v.arena;
      trail = v.trail;
      entry = v.entry;
      present = v.present;
      walk = m.kept;
      backed = λ x known two. elim (v.backed x known two) [
        | inl b ↦ inl b
        | inr b ↦
            let P : List ℕ → Type 0 = λ zs. Contains zs x in
            elim (cases_eq c x) [
              | inl q ↦
                  let W : ℕ → Type 0 = λ y. IsWatching (clause_at a y) lit in
                  let T : ℕ → Type 0 = λ y. IsTrue (is_among (lits t.entries) (partner (clause_at a y) lit)) in
                  inl (partner-backed a t head lit x d v.trail k (subst W q met.1) (subst T q p) b.1)
              | inr ne ↦ inr (subst P (sym m.kept_rest) (contains-tail c m.rest x (subst P m.here b.0) ne), b.1)
            ]
      ];
      short = v.short;
    }

-- the trail with one more implied literal
pub visit-longer : (a0 : WatchedClauses) (t0 : Assignment) (head : ℕ) (lit : Lit) (a : WatchedClauses) (t : Assignment) (before next : Option ℕ) (l : Lit) (number : ℕ) → IsVisit a0 t0 head lit a t before next → IsTrue (is_below t.vars l) → value_in (lits t.entries) l ≡ None → Implies (numbered a) (lits t.entries) l number → IsVisit a0 t0 head lit a (with_implied t l number) before next
visit-longer a0 t0 head lit a t before next l number v b o i =
    let e : Entry = record { lit = l; level = t.level; reason = Some number } in
    let d : Entry = record { lit = record { 0 = 0 }; level = 0; reason = None } in
    let k = looks t head lit d v.entry v.present in
    let inside = k.inside in
    let P : List Lit → Type 0 = λ ls. slice_get ls head ≡ Some (negation lit) in
    let longer = length_push t.entries e in
    let more = v.longer in
    record {
      same = v.same;
      arena_vars = v.arena_vars;
      vars = v.vars;
      level = v.level;
      longer = (more.0 ++ e ∷ [], ap (λ es. es ++ e ∷ []) more.1 ∙ append_assoc t0.entries more.0 (e ∷ []));
      sound = sound-imply (numbered a) t l number v.sound i;
      arena = v.arena;
      trail = trail-implied t l number v.trail b o;
      entry = subst P (sym (lits-push t.entries e)) (get-left (lits t.entries) (l ∷ []) head (negation lit) v.entry);
      present = present-implied t l number head v.present;
      walk = v.walk;
      backed = λ c known two. elim (v.backed c known two) [
        | inl w ↦ inl (backed-more t.entries (e ∷ []) (head + 1) _ _ (omega arith) w)
        | inr w ↦ inr (w.0, backed-more t.entries (e ∷ []) head _ _ (omega arith) w.1)
      ];
      short = λ c known one. up_to-more t.entries (e ∷ []) 0 _ (v.short c known one);
    }

-- a literal that is implied is true
pub implied-true : (t : Assignment) (l : Lit) (number : ℕ) → IsTrue (is_among (lits (with_implied t l number).entries) l)
implied-true t l number =
    let e : Entry = record { lit = l; level = t.level; reason = Some number } in
    let longer = length_push t.entries e in
    let P : Lit → Type 0 = λ x. IsTrue (is_among (lits (t.entries ++ e ∷ [])) x) in
    let n = length t.entries in
    let zero_at : n + 0 ≡ n = omega arith in
    let Q : ℕ → Type 0 = λ i. get_or (t.entries ++ e ∷ []) i e ≡ e in
    let at : get_or (t.entries ++ e ∷ []) n e ≡ e = subst Q zero_at (get_or-append-add t.entries (e ∷ []) 0 e) in
    subst P (ap (λ (x : Entry). x.lit) at) (lits-get (t.entries ++ e ∷ []) n e (omega arith))

-- the clause watches another literal
pub visit-move : (a0 : WatchedClauses) (t0 : Assignment) (head : ℕ) (lit : Lit) (a b : WatchedClauses) (t : Assignment) (before next : Option ℕ) (c : ℕ) (to : Lit) → IsVisit a0 t0 head lit a t before (Some c) → next ≡ next_in (watch_list a lit) c → CanWatch (clause_at a c) (lits t.entries) to → IsArena b → b.vars ≡ a.vars → b.clauses ≡ map (with_watch c lit to) a.clauses → watch_list b lit ≡ without c (watch_list a lit) → IsVisit a0 t0 head lit b t before next
visit-move a0 t0 head lit a b t before next c to v e can arena vars clauses list =
    let d : Entry = record { lit = record { 0 = 0 }; level = 0; reason = None } in
    let m = walk-meets (watch_list a lit) before next c (v.arena.once lit) v.walk e in
    let k = looks t head lit d v.entry v.present in
    let met = met-known a lit before c v.arena v.walk in
    let same = numbered-move a b c lit to clauses in
    let is = indexes-move a b c lit to clauses in
    let C : List ℕ → ℕ → Type 0 = λ zs x. Contains zs x in
    let W : List ℕ → Type 0 = λ zs. IsWalk zs before next in
    let S : List Numbered → Type 0 = λ ns. IsSound ns t in
    let two : (clause_at a c).one ≢ (clause_at a c).other = met.1.0 in
    let never : IsTrue (is_among (lits t.entries) lit) → ⊥ = λ h.
    let P : Lit → Type 0 = λ x. IsTrue (is_among (lits t.entries) x) in
    no-both t lit v.trail h (subst P k.lit_is (lits-get t.entries head d k.inside)) in
    let free : IsTrue (is_among (lits t.entries) (negation to)) → ⊥ = λ h. false≢true (sym can.not_false ∙ h) in
    let apart : (x : ℕ) → (x ≡ c → ⊥) → Contains (indexes b) x → clause_at b x ≡ clause_at a x = λ x ne known. clause_at-other a b c x lit to clauses (subst (λ zs. C zs x) is known) ne in
    let rest_is : rest_from (watch_list b lit) next ≡ m.rest = ap (λ zs. rest_from zs next) list ∙ m.taken_rest in
    record {
      same = same ∙ v.same;
      arena_vars = vars ∙ v.arena_vars;
      vars = v.vars;
      level = v.level;
      longer = v.longer;
      sound = subst S (sym same) v.sound;
      arena = arena;
      trail = v.trail;
      entry = v.entry;
      present = v.present;
      walk = subst W (sym list) m.taken;
      backed = λ x known two_b. elim (cases_eq x c) [
        | inl q ↦
            let B : ℕ → Type 0 = λ y. IsBacked t.entries (head + 1) (clause_at b y).one (clause_at b y).other in
            inl (subst B (sym q) (own two never free m k met (elim (v.backed c met.0 two) [ inl w ↦ backed-less t.entries (head + 1) head _ _ (omega arith) w | inr w ↦ w.1 ])))
        | inr ne ↦
            let at = apart x ne known in
            let D : WatchedClause → Type 0 = λ y. IsBacked t.entries (head + 1) y.one y.other ⊎ (Contains (rest_from (watch_list b lit) next) x × IsBacked t.entries head y.one y.other) in
            let T : WatchedClause → Type 0 = λ y. y.one ≢ y.other in
            subst D (sym at) (elim (v.backed x (subst (λ zs. C zs x) is known) (subst T at two_b)) [
              | inl w ↦ inl w
              | inr w ↦ inr (subst (λ zs. C zs x) (sym rest_is) (contains-tail c m.rest x (subst (λ zs. C zs x) m.here w.0) (λ z. ne (sym z))), w.1)
            ])
      ];
      short = λ x known one_b. elim (cases_eq x c) [
        | inl q ↦
            let T : ℕ → Type 0 = λ y. (clause_at b y).one ≡ (clause_at b y).other in
            absurd (still_two met (subst T q one_b))
        | inr ne ↦
            let at = apart x ne known in
            let T : WatchedClause → Type 0 = λ y. y.one ≡ y.other in
            let U : WatchedClause → Type 0 = λ y. IsTrue (is_among (lits (up_to 0 t.entries)) y.one) in
            subst U (sym at) (v.short x (subst (λ zs. C zs x) is known) (subst T at one_b))
      ];
    }
  where
    own : (clause_at a c).one ≢ (clause_at a c).other → (IsTrue (is_among (lits t.entries) lit) → ⊥) → (IsTrue (is_among (lits t.entries) (negation to)) → ⊥) → Meets (watch_list a lit) before c next → Looks t head lit (record { lit = record { 0 = 0 }; level = 0; reason = None }) → Contains (indexes a) c × IsWatching (clause_at a c) lit → IsBacked t.entries head (clause_at a c).one (clause_at a c).other → IsBacked t.entries (head + 1) (clause_at b c).one (clause_at b c).other
    own two never free m k met w =
        let d : Entry = record { lit = record { 0 = 0 }; level = 0; reason = None } in
        let kc = clause_at a c in
        let is = clause_at-own a b c lit to clauses met.0 in
        let B : WatchedClause → Type 0 = λ y. IsBacked t.entries (head + 1) y.one y.other in
        let apart : (x y : Lit) → (x ≡ y → ⊥) → same x y ≡ false = λ x y n. false_from_ne_true _ (λ s. n (same-eq x y s)) in
        elim (lit-cases kc.one lit) [
          | inl q ↦
              let moved = is ∙ cond-true (same kc.one lit) (record kc { one = to }) (record kc { other = to }) (same-from_eq kc.one lit q) in
              let L : Lit → Type 0 = λ x. IsBacked t.entries head x kc.other in
              subst B (sym moved) (backed-moved t.entries head d lit kc.other to k.inside (sym k.lit_is) (apart lit kc.other (λ z. two (q ∙ z))) never free (subst L q w))
          | inr n1 ↦
              let other_is : kc.other ≡ lit = elim met.1.1 [ inl z ↦ absurd (n1.0 z) | inr z ↦ z ] in
              let moved = is ∙ cond-false (same kc.one lit) (record kc { one = to }) (record kc { other = to }) n1.1 in
              let L : Lit → Type 0 = λ x. IsBacked t.entries head kc.one x in
              subst B (sym moved) (backed-swap t.entries (head + 1) to kc.one (backed-moved t.entries head d lit kc.one to k.inside (sym k.lit_is) (apart lit kc.one (λ z. n1.0 (sym z))) never free (backed-swap t.entries head kc.one lit (subst L other_is w))))
        ]

    still_two : Contains (indexes a) c × IsWatching (clause_at a c) lit → (clause_at b c).one ≡ (clause_at b c).other → ⊥
    still_two met z =
        let kc = clause_at a c in
        let is = clause_at-own a b c lit to clauses met.0 in
        let T : WatchedClause → Type 0 = λ y. y.one ≡ y.other in
        elim (lit-cases kc.one lit) [
          | inl q ↦
              let moved = is ∙ cond-true (same kc.one lit) (record kc { one = to }) (record kc { other = to }) (same-from_eq kc.one lit q) in
              can.unwatched (met.1.0, inr (sym (subst T moved z)))
          | inr n1 ↦
              let moved = is ∙ cond-false (same kc.one lit) (record kc { one = to }) (record kc { other = to }) n1.1 in
              can.unwatched (met.1.0, inl (subst T moved z))
        ]

-- ---- how it ends

pub visit-end : (a0 : WatchedClauses) (t0 : Assignment) (head : ℕ) (lit : Lit) (a : WatchedClauses) (t : Assignment) (before next : Option ℕ) → IsVisit a0 t0 head lit a t before next → next ≡ None → IsReady a t (head + 1)
visit-end a0 t0 head lit a t before next v e =
    let d : Entry = record { lit = record { 0 = 0 }; level = 0; reason = None } in
    let k = looks t head lit d v.entry v.present in
    let inside = k.inside in
    record {
      arena = v.arena;
      trail = v.trail;
      looked = omega arith;
      present = λ j x b q. v.present j x (omega arith) q;
      backed = λ c known two. elim (v.backed c known two) [
        | inl w ↦ w
        | inr w ↦
            let P : Option ℕ → Type 0 = λ o. Contains (rest_from (watch_list a lit) o) c in
            absurd (let b = (subst P e w.0).1 in omega arith)
      ];
      short = λ _. v.short;
    }

pub visit-conflict : (a0 : WatchedClauses) (t0 : Assignment) (head : ℕ) (lit : Lit) (a : WatchedClauses) (t : Assignment) (before : Option ℕ) (c : ℕ) → IsVisit a0 t0 head lit a t before (Some c) → IsTrue (list_all (is_false (lits t.entries)) (clause_at a c).lits) → IsReady a t head × IsConflict (numbered a) (lits t.entries) c
visit-conflict a0 t0 head lit a t before c v all =
    let d : Entry = record { lit = record { 0 = 0 }; level = 0; reason = None } in
    let k = looks t head lit d v.entry v.present in
    let inside = k.inside in (
      record {
        arena = v.arena;
        trail = v.trail;
        looked = omega arith;
        present = v.present;
        backed = λ x known two. elim (v.backed x known two) [ inl w ↦ backed-less t.entries (head + 1) head _ _ (omega arith) w | inr w ↦ w.1 ];
        short = λ _. v.short;
      },
      record {
        clause = (clause_at a c).lits;
        is_under = under-index a c (met-known a lit before c v.arena v.walk).0;
        all_false = all;
      },
    )

-- ---- what a look needs

-- the literal that is looked at is false
pub looked-false : (a0 : WatchedClauses) (t0 : Assignment) (head : ℕ) (lit : Lit) (a : WatchedClauses) (t : Assignment) (before next : Option ℕ) → IsVisit a0 t0 head lit a t before next → IsTrue (is_among (lits t.entries) (negation lit))
looked-false a0 t0 head lit a t before next v =
    let d : Entry = record { lit = record { 0 = 0 }; level = 0; reason = None } in
    let k = looks t head lit d v.entry v.present in
    let P : Lit → Type 0 = λ x. IsTrue (is_among (lits t.entries) x) in
    subst P k.lit_is (lits-get t.entries head d k.inside)

-- the rest of the list gets shorter
pub kept-fewer : (cs : List ℕ) (before next : Option ℕ) (c : ℕ) → IsDistinct eqb cs → IsWalk cs before (Some c) → next ≡ next_in cs c → length (rest_from cs next) < length (rest_from cs (Some c))
kept-fewer cs before next c u w e =
    let m = walk-meets cs before next c u w e in
    let a = ap length m.kept_rest in
    let b = ap length m.here in
    omega (arith, a, b)

pub met-fewer : (cs ds : List ℕ) (before next : Option ℕ) (c : ℕ) → IsDistinct eqb cs → IsWalk cs before (Some c) → next ≡ next_in cs c → ds ≡ without c cs → length (rest_from ds next) < length (rest_from cs (Some c))
met-fewer cs ds before next c u w e d =
    let m = walk-meets cs before next c u w e in
    let a = ap (λ zs. length (rest_from zs next)) d ∙ ap length m.taken_rest in
    let b = ap length m.here in
    omega (arith, a, b)
