-- Lemmas on the clauses and the trail between propagations.
use Rattle.std.proofs.Common.{◌≡◌, ◌+◌, ℕ, Bool, true, false, IsTrue, is_some, Option, None, Some, List, [], ◌∷◌, ◌++◌, length, refl, sym, ap, subst, ◌∙◌, inl, inr, arith}
use Rattle.std.specs.Prelude.{IfNone, MatchBool}
use Rattle.std.specs.List.{Contains}
use Rattle.std.proofs.lemmas.Bool.{and_from, cases_eq, false≢true}
use Rattle.std.proofs.lemmas.List.{map-append}
use Rattle.cnf.specs.declared.lit.Lit.{Lit}
use Rattle.cnf.specs.Lits.{negation, is_among, is_below}
use Rattle.cnf.specs.Propagation.{IsForced, is_at_rest}
use Rattle.cnf.proofs.ForCallers.{is_below-negation, negation-twice, among-append_left, list_all-append-from}
use Rattle.sat_trail.specs.declared.entry.Entry.{Entry}
use Rattle.sat_trail.specs.Trail.{Assignment, lits, value_in, up_to, undone_to, with_decided, RiseTo, IsTrail}
use Rattle.sat_trail.proofs.ForCallers.{up_to-all, up_to-up_to}
use Rattle.sat_arena.specs.Arena.{WatchedClauses, indexes, clause_of, clause_at, new_clause}
use Rattle.sat_watch.specs.Numbered.{Numbered, numbered, clauses_of}
use Rattle.sat_watch.specs.Nonempty.{is_nonempty, are_nonempty}
use Rattle.sat_watch.specs.Soundness.{is_false, IsSound, IsConflict, Propagated}
use Rattle.sat_watch.specs.Watches.{IsLonger, IsReady, ShortAreTrue, head_within}
use Rattle.sat_watch.proofs.ForCallers.{clause_of-new, clauses_of-push, numbered-push, reasoned-wider, rested, ready-decided, looked-undone, within-low, sound-decide, open-negation}
use Rattle.rup_check.specs.Root.{DecidedBy, IsKept, IsQuiet, IsRoot}
use Rattle.rup_check.proofs.DecidedLemmas.{decided-append, decided-flat, decided-longer}
use Rattle.rup_check.proofs.ForcedLemmas.{forced-conflict}
use Rattle.rup_check.proofs.RestLemmas.{not_forced-from_rest, trail-consistent}

-- ---- what a propagation found

pub found-some : (ns : List Numbered) (trail : List Lit) (o : Option ℕ) → IsTrue (is_some o) → Propagated ns trail o → (number : ℕ) × IsConflict ns trail number
found-some ns trail None t p = absurd (false≢true t)
found-some ns trail (Some number) t p = (number, p)

pub found-none : (o : Option ℕ) (P : Type 0) → is_some o ≡ false → IfNone o P → P
found-none None P e h = h
found-none (Some number) P e h = absurd (false≢true (sym e))

-- ---- a decision

pub quiet-rest : (a : WatchedClauses) (t : Assignment) (head : ℕ) → IsQuiet a t head → IsTrue (is_at_rest (clauses_of (numbered a)) (lits t.entries))
quiet-rest a t head q = rested a t head q.kept.ready q.kept.short q.looked q.kept.nonempty

pub sound-denied : (a : WatchedClauses) (t u : Assignment) (head : ℕ) (l : Lit) → IsQuiet a t head → u ≡ with_decided t l → IsSound (numbered a) u
sound-denied a t u head l q e = rw e (sound-decide (numbered a) t l q.kept.ready.trail q.kept.sound (quiet-rest a t head q))

pub ready-denied : (a : WatchedClauses) (t u : Assignment) (head : ℕ) (lit l : Lit) → IsQuiet a t head → IsTrue (is_below a.vars lit) → value_in (lits t.entries) lit ≡ None → l ≡ negation lit → u ≡ with_decided t l → IsReady a u head
ready-denied a t u head lit l q b o n e =
    let P : Lit → Type 0 = λ x. IsTrue (is_below t.vars x) in
    let Q : Lit → Type 0 = λ x. value_in (lits t.entries) x ≡ None in
    let R : ℕ → Type 0 = λ v. IsTrue (is_below v lit) in
    let below = is_below-negation t.vars lit (subst R (sym q.kept.vars) b) in
    rw e (ready-decided a t l head q.kept.ready q.looked q.kept.short (subst P (sym n) below) (subst Q (sym n) (open-negation (lits t.entries) lit o)))

-- what is decided is the negation of a literal of the clause
pub decided-denied : (clause : List Lit) (t t1 u : Assignment) (lit l : Lit) → t1 ≡ with_decided t l → l ≡ negation lit → IsTrail t1 → IsTrail u → u.level ≡ t1.level → IsLonger t1 u → IsTrue (is_among clause lit) → DecidedBy clause t.entries → DecidedBy clause u.entries
decided-denied clause t t1 u lit l e n h k same longer m d =
    let P : Lit → Type 0 = λ x. IsTrue (is_among clause x) in
    let Q : Lit → Type 0 = λ x. IsTrue (is_among clause (negation x)) in
    let R : Assignment → Type 0 = λ x. DecidedBy clause x.entries in
    let x : Entry = record { lit = l; level = t.level + 1; reason = None } in
    decided-longer clause t1 u h k same longer (subst R (sym e) (decided-append clause t.entries (x ∷ []) d (subst Q (sym n) (subst P (sym (negation-twice lit)) m), tt)))

-- what is false stays false
pub false-longer : (t u : Assignment) (x : Lit) → IsLonger t u → IsTrue (is_false (lits t.entries) x) → IsTrue (is_false (lits u.entries) x)
false-longer t u x m h =
    let P : List Entry → Type 0 = λ es. IsTrue (is_false (lits es) x) in
    let Q : List Lit → Type 0 = λ ls. IsTrue (is_among ls (negation x)) in
    subst P (sym m.1) (subst Q (sym (map-append (λ (e : Entry). e.lit) t.entries m.0)) (among-append_left (lits t.entries) (lits m.0) (negation x) h))

-- ---- at level 0

flat-rise : (t : Assignment) → IsTrail t → t.level ≡ 0 → RiseTo 0 t.entries 0
flat-rise t h e = let P : ℕ → Type 0 = λ n. RiseTo 0 t.entries n in subst P e h.rise

pub root-decided : (clause : List Lit) (t : Assignment) → IsTrail t → t.level ≡ 0 → DecidedBy clause t.entries
root-decided clause t h e = decided-flat clause 0 t.entries (flat-rise t h e)

-- all levels are taken back
pub root-undone : (a : WatchedClauses) (u v : Assignment) (h g : ℕ) → IsKept a u h → (u.level ≡ 0 → h ≡ length u.entries) → v ≡ undone_to u 0 → g ≡ head_within h (length v.entries) → IsSound (numbered a) v → IsReady a v g → IsRoot a v g
root-undone a u v h g k looked e n sound ready =
    let is : v.entries ≡ up_to 0 u.entries = ap (λ (t : Assignment). t.entries) e in
    let S : List Entry → Type 0 = λ es. ShortAreTrue a es in
    let W : List Entry → Type 0 = λ es. head_within h (length es) ≡ length es in
    let all : head_within h (length (up_to 0 u.entries)) ≡ length (up_to 0 u.entries) = elim (cases_eq u.level 0) [
      | inl z ↦
          let same = up_to-all 0 u.entries u.level 0 k.ready.trail.rise (omega arith) in
          let q = looked z in
          subst W (sym same) (within-low h (length u.entries) (omega arith) ∙ q)
      | inr z ↦ looked-undone a u h 0 (omega arith) k.ready
    ] in
    record {
      level = ap (λ (t : Assignment). t.level) e;
      quiet = record {
        kept = record {
          vars = ap (λ (t : Assignment). t.vars) e ∙ k.vars;
          nonempty = k.nonempty;
          sound = sound;
          ready = ready;
          short = subst S (sym is) (λ x known one.
              let P : List Entry → Type 0 = λ es. IsTrue (is_among (lits es) (clause_at a x).one) in
              subst P (sym (up_to-up_to u.entries 0 0 (omega arith))) (k.short x known one));
        };
        looked = n ∙ subst W (sym is) all;
      };
    }

-- a step that is forced has a literal
pub forced-nonempty : (a : WatchedClauses) (t : Assignment) (head : ℕ) (clause : List Lit) → IsRoot a t head → IsForced (clauses_of (numbered a)) clause → IsTrue (is_nonempty clause)
forced-nonempty a t head [] r f = absurd (not_forced-from_rest (clauses_of (numbered a)) [] (lits t.entries) (trail-consistent t r.quiet.kept.ready.trail) (quiet-rest a t head r.quiet) refl f)
forced-nonempty a t head (l ∷ ls) r f = refl

-- what a propagation at level 0 leaves
pub root-found : (a : WatchedClauses) (t : Assignment) (head : ℕ) (o : Option ℕ) (found : Bool) → found ≡ is_some o → t.level ≡ 0 → t.vars ≡ a.vars → IsTrue (are_nonempty (clauses_of (numbered a))) → IsSound (numbered a) t → IsReady a t head → Propagated (numbered a) (lits t.entries) o → IfNone o (head ≡ length t.entries) → IfNone o (ShortAreTrue a t.entries) → MatchBool found (IsForced (clauses_of (numbered a)) []) (IsRoot a t head)
root-found a t head o found e level vars full sound ready p looked short =
    let P : Bool → Type 0 = λ b. MatchBool b (IsForced (clauses_of (numbered a)) []) (IsRoot a t head) in
    subst P (sym e) (by o p looked short)
  where
    by : (o : Option ℕ) → Propagated (numbered a) (lits t.entries) o → IfNone o (head ≡ length t.entries) → IfNone o (ShortAreTrue a t.entries) → MatchBool (is_some o) (IsForced (clauses_of (numbered a)) []) (IsRoot a t head)
    by None p looked short = record {
      level = level;
      quiet = record {
        kept = record {
          vars = vars;
          nonempty = full;
          sound = sound;
          ready = ready;
          short = short;
        };
        looked = looked;
      };
    }
    by (Some number) p looked short = forced-conflict (numbered a) [] t.entries number sound.reasons (root-decided [] t ready.trail level) p

pub if-none : (o : Option ℕ) (P : Type 0) → P → IfNone o P
if-none None P h = h
if-none (Some number) P h = tt

-- ---- a clause that was attached

pub own-attached : (a b : WatchedClauses) (c : ℕ) (ls : List Lit) → b.clauses ≡ a.clauses ++ new_clause c ls ∷ [] → (Contains (indexes a) c → ⊥) → clause_at b c ≡ new_clause c ls
own-attached a b c ls clauses fresh = ap (λ ks. clause_of ks c) clauses ∙ clause_of-new a.clauses (new_clause c ls) fresh

pub sound-attached : (a b : WatchedClauses) (t : Assignment) (c : ℕ) (ls : List Lit) → b.clauses ≡ a.clauses ++ new_clause c ls ∷ [] → t.level ≡ 0 → IsSound (numbered a) t → IsSound (numbered b) t
sound-attached a b t c ls clauses level s =
    let n : Numbered = record { number = c; lits = ls } in
    let P : List Numbered → Type 0 = λ ns. IsSound ns t in
    subst P (sym (numbered-push a b c ls clauses)) (record {
      reasons = reasoned-wider (numbered a) (n ∷ []) [] t.entries s.reasons;
      rests = λ k b. absurd (omega arith);
    })

pub nonempty-attached : (a b : WatchedClauses) (c : ℕ) (ls : List Lit) → b.clauses ≡ a.clauses ++ new_clause c ls ∷ [] → IsTrue (are_nonempty (clauses_of (numbered a))) → IsTrue (is_nonempty ls) → IsTrue (are_nonempty (clauses_of (numbered b)))
nonempty-attached a b c ls clauses h one =
    let n : Numbered = record { number = c; lits = ls } in
    let P : List (List Lit) → Type 0 = λ cs. IsTrue (are_nonempty cs) in
    subst P (sym (ap clauses_of (numbered-push a b c ls clauses) ∙ clauses_of-push (numbered a) n)) (list_all-append-from is_nonempty (clauses_of (numbered a)) (ls ∷ []) h (and_from (is_nonempty ls) true one refl))
