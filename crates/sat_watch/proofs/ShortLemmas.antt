-- Lemmas on the clauses that watch no literal, and on what propagation leaves.
use Rattle.std.proofs.Common.{◌≡◌, ◌≢◌, ◌+◌, ◌<◌, ◌≤◌, ℕ, Bool, true, false, ◌||◌, eqb, IsTrue, suc, Some, List, [], ◌∷◌, ◌++◌, length, map, refl, sym, ap, subst, ◌∙◌, inl, inr, arith, append_assoc}
use Rattle.std.specs.Prelude.{MatchBool}
use Rattle.std.specs.List.{Contains, slice_get, list_all, list_any, IsDistinct}
use Rattle.std.proofs.lemmas.Bool.{cases_eq, cases_Bool, cond-true, cond-false, eq-eqb, and_from, or_left, or_right, false≢true}
use Rattle.std.proofs.lemmas.List.{append-nil}
use Rattle.std.proofs.lemmas.Option.{slice_get-get_or, slice_get_within, get_or_from_slice_get}
use Rattle.std.proofs.lemmas.List.Elements.{All-contains, All-from_recursion}
use Rattle.std.proofs.lemmas.Map.Keys.{IsDistinct-head, IsDistinct-tail}
use Rattle.cnf.specs.declared.lit.Lit.{Lit}
use Rattle.cnf.specs.Lits.{same, is_among, is_below}
use Rattle.cnf.specs.Propagation.{is_at_rest, has_two_open}
use Rattle.cnf.proofs.ForCallers.{list_all-get, same-eq, same-refl, same-from_eq, all-among, all-from, any-among, among-append_left}
use Rattle.sat_trail.specs.declared.entry.Entry.{Entry}
use Rattle.sat_trail.specs.Trail.{Assignment, lits, value_in, up_to, with_implied, IsTrail}
use Rattle.sat_trail.proofs.ForCallers.{in_some, true-from_value, false-from_value, up_to-all, up_to-among, rise-top}
use Rattle.sat_arena.specs.Arena.{WatchedClause, WatchedClauses, indexes, clause_of, clause_at, IsArena}
use Rattle.sat_watch.specs.Nonempty.{is_nonempty, are_nonempty}
use Rattle.sat_watch.specs.Numbered.{with_number, numbered, clauses_of}
use Rattle.sat_watch.specs.Soundness.{is_false, Implies, IsSound, IsConflict}
use Rattle.sat_watch.specs.Watches.{IsBacked, ShortAreTrue, ArePresent, IsMadeTrue, IsReady}
use Rattle.sat_watch.proofs.NumberLemmas.{under-at, under-index}
use Rattle.sat_watch.proofs.StepLemmas.{sound-imply}
use Rattle.sat_watch.proofs.WatchLemmas.{rests-from_watches, backed-more}
use Rattle.sat_watch.proofs.VisitLemmas.{trail-implied}

-- ---- a literal that is made true

pub made-some : (t : Assignment) (l : Lit) (number : ℕ) (v : Bool) → Some v ≡ value_in (lits t.entries) l → MatchBool v (IsMadeTrue t t l number) ((t ≡ t) × IsTrue (is_false (lits t.entries) l))
made-some t l number true e = inl (true-from_value (lits t.entries) l (sym e), refl)
made-some t l number false e = (refl, false-from_value (lits t.entries) l (sym e))

-- ---- a clause that watches no literal

known-nonempty : (a : WatchedClauses) (c : ℕ) → IsTrue (are_nonempty (clauses_of (numbered a))) → Contains (indexes a) c → IsTrue (is_nonempty (clause_at a c).lits)
known-nonempty a c h m =
    let at = under-at (numbered a) c (clause_at a c).lits (under-index a c m) in
    list_all-get is_nonempty (clauses_of (numbered a)) at.0 (clause_at a c).lits h at.1

first-among : (ls : List Lit) (l : Lit) → IsTrue (is_nonempty ls) → ((x : Lit) → IsTrue (is_among ls x) → x ≡ l) → IsTrue (is_among ls l)
first-among [] l h f = absurd (false≢true h)
first-among (x ∷ xs) l h f =
    let here : IsTrue (is_among (x ∷ xs) x) = or_left (same x x) (is_among xs x) (same-refl x) in
    let P : Lit → Type 0 = λ y. IsTrue (is_among (x ∷ xs) y) in
    subst P (f x here) here

-- its one literal stands in it
pub short-among : (a : WatchedClauses) (c : ℕ) → IsArena a → IsTrue (are_nonempty (clauses_of (numbered a))) → Contains (indexes a) c → (clause_at a c).one ≡ (clause_at a c).other → IsTrue (is_among (clause_at a c).lits (clause_at a c).one)
short-among a c h full m e = first-among (clause_at a c).lits (clause_at a c).one (known-nonempty a c full m) ((h.watched c m).short e)

pub short-below : (a : WatchedClauses) (c : ℕ) → IsArena a → IsTrue (are_nonempty (clauses_of (numbered a))) → Contains (indexes a) c → (clause_at a c).one ≡ (clause_at a c).other → IsTrue (is_below a.vars (clause_at a c).one)
short-below a c h full m e = all-among (is_below a.vars) (clause_at a c).lits (clause_at a c).one (h.watched c m).in_range (short-among a c h full m e)

pub short-implies : (a : WatchedClauses) (c : ℕ) (trail : List Lit) → IsArena a → IsTrue (are_nonempty (clauses_of (numbered a))) → Contains (indexes a) c → (clause_at a c).one ≡ (clause_at a c).other → Implies (numbered a) trail (clause_at a c).one c
short-implies a c trail h full m e = record {
  clause = (clause_at a c).lits;
  is_under = under-index a c m;
  holds_it = short-among a c h full m e;
  others = all-from (λ x. same x (clause_at a c).one || is_false trail x) (clause_at a c).lits (λ x k. or_left _ _ (same-from_eq x (clause_at a c).one ((h.watched c m).short e x k)));
}

pub short-conflict : (a : WatchedClauses) (c : ℕ) (trail : List Lit) → IsArena a → Contains (indexes a) c → (clause_at a c).one ≡ (clause_at a c).other → IsTrue (is_false trail (clause_at a c).one) → IsConflict (numbered a) trail c
short-conflict a c trail h m e f = record {
  clause = (clause_at a c).lits;
  is_under = under-index a c m;
  all_false = all-from (is_false trail) (clause_at a c).lits (λ x k. let P : Lit → Type 0 = λ y. IsTrue (is_false trail y) in subst P (sym ((h.watched c m).short e x k)) f);
}

-- ---- the clauses up to the k-th

-- those that watch no literal are true
pub record AreDone (a : WatchedClauses) (t0 t : Assignment) (k : ℕ) : Type 0 where
  pub sound : IsSound (numbered a) t
  pub vars : t.vars ≡ t0.vars
  pub level : t.level ≡ t0.level
  pub trail : IsTrail t
  pub longer : (more : List Entry) × (t.entries ≡ t0.entries ++ more)
  pub done : (j c : ℕ) → j < k → slice_get (indexes a) j ≡ Some c → (clause_at a c).one ≡ (clause_at a c).other → IsTrue (is_among (lits t.entries) (clause_at a c).one)

pub done-begin : (a : WatchedClauses) (t : Assignment) → IsSound (numbered a) t → IsTrail t → AreDone a t t 0
done-begin a t s h = record { sound = s; vars = refl; level = refl; trail = h; longer = ([], sym (append-nil t.entries)); done = λ j c b. absurd (omega arith) }

one-more : (a : WatchedClauses) (t0 t : Assignment) (k c : ℕ) → AreDone a t0 t k → slice_get (indexes a) k ≡ Some c → ((clause_at a c).one ≡ (clause_at a c).other → IsTrue (is_among (lits t.entries) (clause_at a c).one)) → AreDone a t0 t (k + 1)
one-more a t0 t k c d e f = record {
  sound = d.sound;
  vars = d.vars;
  level = d.level;
  trail = d.trail;
  longer = d.longer;
  done = λ j x b q one. elim (cases_eq j k) [
    | inl z ↦
        let P : ℕ → Type 0 = λ i. slice_get (indexes a) i ≡ Some x in
        let same_clause : c ≡ x = in_some (sym e ∙ subst P z q) in
        let O : ℕ → Type 0 = λ y. ((clause_at a y).one ≡ (clause_at a y).other → IsTrue (is_among (lits t.entries) (clause_at a y).one)) in
        subst O same_clause f one
    | inr n ↦ d.done j x (omega arith) q one
  ];
}

-- the k-th watches two
pub done-two : (a : WatchedClauses) (t0 t : Assignment) (k c : ℕ) → AreDone a t0 t k → slice_get (indexes a) k ≡ Some c → (clause_at a c).one ≢ (clause_at a c).other → AreDone a t0 t (k + 1)
done-two a t0 t k c d e two = one-more a t0 t k c d e (λ one. absurd (two one))

lits-append : (xs ys : List Entry) → lits (xs ++ ys) ≡ lits xs ++ lits ys
lits-append [] ys = refl
lits-append (x ∷ xs) ys = ap (λ ls. x.lit ∷ ls) (lits-append xs ys)

-- or is made true
pub done-made : (a : WatchedClauses) (t0 t u : Assignment) (k c : ℕ) → IsArena a → IsTrue (are_nonempty (clauses_of (numbered a))) → t.vars ≡ a.vars → AreDone a t0 t k → slice_get (indexes a) k ≡ Some c → Contains (indexes a) c → (clause_at a c).one ≡ (clause_at a c).other → IsMadeTrue t u (clause_at a c).one c → AreDone a t0 u (k + 1)
done-made a t0 t u k c h full v d e m one (inl w) =
    let P : Assignment → Type 0 = λ x. AreDone a t0 x (k + 1) in
    subst P (sym w.1) (one-more a t0 t k c d e (λ _. w.0))
done-made a t0 t u k c h full v d e m one (inr w) =
    let l = (clause_at a c).one in
    let x : Entry = record { lit = l; level = t.level; reason = Some c } in
    let P : Assignment → Type 0 = λ y. AreDone a t0 y (k + 1) in
    let N : ℕ → Type 0 = λ n. IsTrue (is_below n l) in
    let more = d.longer in
    let new : IsTrue (is_among (lits (t.entries ++ x ∷ [])) l) = let Q : List Lit → Type 0 = λ ls. IsTrue (is_among ls l) in subst Q (sym (lits-append t.entries (x ∷ []))) (right (lits t.entries) l) in
    let keep : (y : Lit) → IsTrue (is_among (lits t.entries) y) → IsTrue (is_among (lits (t.entries ++ x ∷ [])) y) = λ y z. let Q : List Lit → Type 0 = λ ls. IsTrue (is_among ls y) in subst Q (sym (lits-append t.entries (x ∷ []))) (among-append_left (lits t.entries) (l ∷ []) y z) in
    subst P (sym w.1) (one-more a t0 (with_implied t l c) k c (record {
      sound = sound-imply (numbered a) t l c d.sound (short-implies a c (lits t.entries) h full m one);
      vars = d.vars;
      level = d.level;
      trail = trail-implied t l c d.trail (subst N (sym v) (short-below a c h full m one)) w.0;
      longer = (more.0 ++ x ∷ [], ap (λ es. es ++ x ∷ []) more.1 ∙ append_assoc t0.entries more.0 (x ∷ []));
      done = λ j y b q z. keep (clause_at a y).one (d.done j y b q z);
    }) e (λ _. new))
  where
    right : (ls : List Lit) (l : Lit) → IsTrue (is_among (ls ++ l ∷ []) l)
    right [] l = or_left (same l l) false (same-refl l)
    right (x ∷ xs) l = or_right (same l x) _ (right xs l)

pub done-all : (a : WatchedClauses) (t0 t : Assignment) (k : ℕ) → AreDone a t0 t k → length (indexes a) ≤ k → t.level ≡ 0 → ShortAreTrue a t.entries
done-all a t0 t k d n z c m one =
    let at : slice_get (indexes a) m.0 ≡ Some c = slice_get-get_or (indexes a) m.0 c m.1 ∙ ap Some m.2 in
    let b = m.1 in
    let P : List Entry → Type 0 = λ es. IsTrue (is_among (lits es) (clause_at a c).one) in
    subst P (sym (up_to-all 0 t.entries t.level 0 d.trail.rise (omega arith))) (d.done m.0 c (omega arith) at one)

-- ---- what it leaves for the watches

pub ready-longer : (a : WatchedClauses) (t u : Assignment) (head : ℕ) → IsReady a t head → IsTrail u → u.level ≡ t.level → (more : List Entry) × (u.entries ≡ t.entries ++ more) → (0 < t.level → u ≡ t) → (0 < u.level → ShortAreTrue a u.entries) → IsReady a u head
ready-longer a t u head r h l more above short = record {
  arena = r.arena;
  trail = h;
  looked = let n = ap length more.1 in let b = r.looked in let m = length_append t.entries more.0 in omega arith;
  present = elim (cases_eq t.level 0) [
    | inl z ↦ λ k e b q.
        let w = slice_get_within u.entries k e q in
        let top = rise-top 0 u.entries u.level k e h.rise w in
        let is = ap (λ (x : Entry). x.level) (get_or_from_slice_get u.entries k e e q) in
        omega arith
    | inr n ↦ let P : Assignment → Type 0 = λ x. ArePresent x head in subst P (sym (above (omega arith))) r.present
  ];
  backed = λ c m two. let P : List Entry → Type 0 = λ es. IsBacked es head (clause_at a c).one (clause_at a c).other in subst P (sym more.1) (backed-more t.entries more.0 head _ _ r.looked (r.backed c m two));
  short = short;
}
  where
    length_append : (xs ys : List Entry) → length (xs ++ ys) ≡ length xs + length ys
    length_append [] ys = omega arith
    length_append (x ∷ xs) ys = let n = length_append xs ys in omega arith

-- ---- all clauses are at rest

-- what holds of each clause that is known holds of each clause
all-known : (p : List Lit → Bool) (ks : List WatchedClause) → IsDistinct eqb (map (λ (k : WatchedClause). k.index) ks) → ((c : ℕ) → Contains (map (λ (k : WatchedClause). k.index) ks) c → IsTrue (p (clause_of ks c).lits)) → IsTrue (list_all p (clauses_of (map with_number ks)))
all-known p [] u f = refl
all-known p (k ∷ ks) u f =
    let is = map (λ (x : WatchedClause). x.index) ks in
    let T : WatchedClause → Type 0 = λ x. IsTrue (p x.lits) in
    let first : IsTrue (p k.lits) = subst T (cond-true (eqb k.index k.index) k (clause_of ks k.index) (eq-eqb _ _ refl)) (f k.index (0, omega arith, refl)) in
    let rest = all-known p ks (IsDistinct-tail eqb k.index is u) (λ c m.
    let b = m.1 in
    let apart : eqb k.index c ≡ false = All-contains (λ y. eqb k.index y ≡ false) is c (All-from_recursion (λ y. eqb k.index y ≡ false) is (IsDistinct-head eqb k.index is u)) m in
    subst T (cond-false (eqb k.index c) k (clause_of ks c) apart) (f c (suc m.0, omega arith, m.2))) in
    and_from (p k.lits) _ first rest

pub rested : (a : WatchedClauses) (t : Assignment) (head : ℕ) → IsReady a t head → ShortAreTrue a t.entries → head ≡ length t.entries → IsTrue (are_nonempty (clauses_of (numbered a))) → IsTrue (is_at_rest (clauses_of (numbered a)) (lits t.entries))
rested a t head r short e full = all-known (λ k. list_any (is_among (lits t.entries)) k || has_two_open (lits t.entries) k) a.clauses r.arena.distinct (λ c m.
    let k = clause_at a c in
    let P : List Entry → Type 0 = λ es. IsTrue (list_any (is_among (lits es)) k.lits || has_two_open (lits es) k.lits) in
    let all = up_to-all 0 t.entries t.level t.level r.trail.rise (omega arith) in
    elim (cases_Bool (same k.one k.other)) [
      | inl s ↦
          let one = same-eq k.one k.other s in
          let Q : List Entry → Type 0 = λ es. IsTrue (is_among (lits es) k.one) in
          or_left _ _ (any-among (is_among (lits t.entries)) k.lits k.one (short-among a c r.arena full m one) (among-all t.entries 0 k.one (short c m one)))
      | inr s ↦
          let two : k.one ≢ k.other = λ q. false≢true (sym s ∙ same-from_eq k.one k.other q) in
          let has = (r.arena.watched c m).two two in
          let B : ℕ → Type 0 = λ n. IsBacked t.entries n k.one k.other in
          subst P all (rests-from_watches t.entries k.lits k.one k.other t.level has.0 has.1 s (subst B e (r.backed c m two)))
    ])
  where
    among-all : (es : List Entry) (n : ℕ) (l : Lit) → IsTrue (is_among (lits (up_to n es)) l) → IsTrue (is_among (lits es) l)
    among-all es n l h = up_to-among es n l h

-- above level 0 nothing has changed
pub short-above : (a : WatchedClauses) (t u : Assignment) (head : ℕ) → IsReady a t head → u.level ≡ t.level → (0 < t.level → u ≡ t) → 0 < u.level → ShortAreTrue a u.entries
short-above a t u head r l above pos =
    let p : 0 < t.level = omega arith in
    let P : Assignment → Type 0 = λ x. ShortAreTrue a x.entries in
    subst P (sym (above p)) (r.short p)

pub longer-grows : (es fs : List Entry) → (more : List Entry) × (fs ≡ es ++ more) → length es ≤ length fs
longer-grows es fs m = let n = ap length m.1 in let k = at es m.0 in omega arith
  where
    at : (xs ys : List Entry) → length (xs ++ ys) ≡ length xs + length ys
    at [] ys = omega arith
    at (x ∷ xs) ys = let n = at xs ys in omega arith

-- two watches that are one, by their numbers
pub same-watches : (k : WatchedClause) (x y : Lit) → x ≡ k.one → y ≡ k.other → x.0 ≡ y.0 → k.one ≡ k.other
same-watches k x y e f h = let number : ℕ → Lit = λ n. record { 0 = n } in sym e ∙ (ap number h ∙ f)

pub apart-watches : (k : WatchedClause) (x y : Lit) → x ≡ k.one → y ≡ k.other → x.0 ≢ y.0 → k.one ≢ k.other
apart-watches k x y e f h q = h (ap (λ (l : Lit). l.0) (e ∙ (q ∙ sym f)))
