-- Lemmas on the watches at the start, and after a decision.
use Rattle.std.proofs.Common.{◌≡◌, ◌≢◌, ◌+◌, ◌≤◌, ◌^◌, ◌⊎◌, ℕ, IsTrue, None, List, [], ◌∷◌, ◌++◌, length, map, refl, sym, ap, subst, ◌∙◌, inl, inr, arith}
use Rattle.std.specs.List.{Contains, IsDistinct}
use Rattle.std.proofs.lemmas.Bool.{false≢true, cases_eq, cond-false}
use Rattle.std.proofs.lemmas.List.{length_push, map_push}
use Rattle.std.proofs.lemmas.List.Elements.{Contains-push_cases}
use Rattle.std.proofs.lemmas.Option.{slice_get_within, get_or_from_slice_get}
use Rattle.cnf.specs.declared.lit.Lit.{Lit}
use Rattle.cnf.specs.Lits.{negation, is_among, is_below}
use Rattle.cnf.specs.Propagation.{is_at_rest}
use Rattle.cnf.proofs.ForCallers.{negation-twice}
use Rattle.sat_trail.specs.declared.entry.Entry.{Entry}
use Rattle.sat_trail.specs.Trail.{Assignment, lits, value_in, up_to, with_decided, IsTrail}
use Rattle.sat_trail.proofs.ForCallers.{some≢none, open-parts, below-push, distinct-push, rise-push, rise-top, up_to-all, up_to-push}
use Rattle.sat_arena.specs.Arena.{WatchedClause, WatchedClauses, indexes, clause_of, clause_at, last_watch, next_watch, new_clause, IsArena}
use Rattle.sat_watch.specs.Numbered.{Numbered, clauses_of}
use Rattle.sat_watch.specs.Soundness.{IsSound}
use Rattle.sat_watch.specs.Watches.{IsBacked, ShortAreTrue, IsReady}
use Rattle.sat_watch.proofs.NumberLemmas.{clause_of-push, clause_of-new}
use Rattle.sat_watch.proofs.StepLemmas.{get-push, reasoned-push}
use Rattle.sat_watch.proofs.WatchLemmas.{up_to-more, backed-more, backed-less}

pub ready-start : (vars : ℕ) (a : WatchedClauses) (t : Assignment) → IsArena a → t ≡ record { vars = vars; level = 0; entries = [] } → vars ≤ 2 ^ 30 → IsReady a t 0
unfolding IsDistinct
ready-start vars a t h e s =
    rw e (record {
      arena = h;
      trail = record { small = s; in_range = refl; distinct = tt; rise = refl };
      looked = omega arith;
      present = λ k x b q. absurd (some≢none (sym q));
      backed = λ c m two. record { first = λ n w. absurd (false≢true w); second = λ n w. absurd (false≢true w) };
      short = λ p. absurd (omega arith);
    })

pub ready-decided : (a : WatchedClauses) (t : Assignment) (l : Lit) (head : ℕ) → IsReady a t head → head ≡ length t.entries → ShortAreTrue a t.entries → IsTrue (is_below t.vars l) → value_in (lits t.entries) l ≡ None → IsReady a (with_decided t l) head
ready-decided a t l head r all short b o =
    let e : Entry = record { lit = l; level = t.level + 1; reason = None } in
    let longer = length_push t.entries e in
    record {
      arena = r.arena;
      trail = record {
        small = r.trail.small;
        in_range = below-push t.vars t.entries e r.trail.in_range b;
        distinct = distinct-push t.entries e r.trail.distinct o;
        rise = rise-push 0 t.entries t.level e r.trail.rise refl;
      };
      looked = omega (arith, longer);
      present = λ k x low q. elim (get-push t.entries e x k q) [
        | inl z ↦ absurd (let w = slice_get_within t.entries k x z in omega arith)
        | inr z ↦ ap (λ (y : Entry). y.level) z
      ];
      backed = λ c m two. backed-more t.entries (e ∷ []) head _ _ r.looked (r.backed c m two);
      short = λ p c m one. up_to-more t.entries (e ∷ []) 0 _ (short c m one);
    }

-- ---- a decision

-- the negation of an open literal is open
pub open-negation : (trail : List Lit) (l : Lit) → value_in trail l ≡ None → value_in trail (negation l) ≡ None
open-negation trail l e =
    let p = open-parts trail l e in
    cond-false (is_among trail (negation l)) _ _ p.1
    ∙ cond-false (is_among trail (negation (negation l))) _ _ (ap (is_among trail) (negation-twice l) ∙ p.0)

pub sound-decide : (ns : List Numbered) (t : Assignment) (l : Lit) → IsTrail t → IsSound ns t → IsTrue (is_at_rest (clauses_of ns) (lits t.entries)) → IsSound ns (with_decided t l)
sound-decide ns t l h s r =
    let e : Entry = record { lit = l; level = t.level + 1; reason = None } in
    record {
      reasons = reasoned-push ns [] t.entries e s.reasons tt;
      rests =
          λ n b.
          let P : List Entry → Type 0 = λ es. IsTrue (is_at_rest (clauses_of ns) (lits es)) in
          let top : IsTrue (is_at_rest (clauses_of ns) (lits (up_to n t.entries))) = elim (cases_eq n t.level) [
            | inl q ↦ subst P (sym (up_to-all 0 t.entries t.level n h.rise (omega arith))) r
            | inr q ↦ s.rests n (omega arith)
          ] in
          subst P (sym (up_to-push n t.entries e b)) top;
    }

-- ---- a clause that is attached at level 0

-- it is watched well where no watch of it is false so far
pub ready-attached : (a b : WatchedClauses) (t : Assignment) (head less c : ℕ) (ls : List Lit) → IsReady a t head → t.level ≡ 0 → IsArena b → b.clauses ≡ a.clauses ++ new_clause c ls ∷ [] → (Contains (indexes a) c → ⊥) → less ≤ head → (last_watch ls ≢ next_watch ls → IsBacked t.entries less (last_watch ls) (next_watch ls)) → IsReady b t less
ready-attached a b t head less c ls r flat arena clauses fresh low new =
    let k = new_clause c ls in
    let is : indexes b ≡ indexes a ++ c ∷ [] = ap (map (λ (x : WatchedClause). x.index)) clauses ∙ map_push (λ (x : WatchedClause). x.index) a.clauses k in
    let known : (x : ℕ) → Contains (indexes b) x → Contains (indexes a) x ⊎ (c ≡ x) = λ x q. let P : List ℕ → Type 0 = λ zs. Contains zs x in Contains-push_cases (indexes a) c x (subst P is q) in
    let own : clause_at b c ≡ k = ap (λ ks. clause_of ks c) clauses ∙ clause_of-new a.clauses k fresh in
    let old : (x : ℕ) → Contains (indexes a) x → clause_at b x ≡ clause_at a x = λ x q. ap (λ ks. clause_of ks x) clauses ∙ clause_of-push a.clauses k x q in
    let B : WatchedClause → Type 0 = λ y. IsBacked t.entries less y.one y.other in
    record {
      arena = arena;
      trail = r.trail;
      looked = let h = r.looked in omega arith;
      present = λ j x b q.
          let w = slice_get_within t.entries j x q in
          let top = rise-top 0 t.entries t.level j x r.trail.rise w in
          let at = ap (λ (y : Entry). y.level) (get_or_from_slice_get t.entries j x x q) in
          omega arith;
      backed = λ x q two. elim (known x q) [
        | inl z ↦
            let T : WatchedClause → Type 0 = λ y. y.one ≢ y.other in
            subst B (sym (old x z)) (backed-less t.entries head less _ _ low (r.backed x z (subst T (old x z) two)))
        | inr z ↦
            let C : ℕ → Type 0 = λ y. B (clause_at b y) in
            let T : WatchedClause → Type 0 = λ y. y.one ≢ y.other in
            let U : ℕ → Type 0 = λ y. T (clause_at b y) in
            subst C z (subst B (sym own) (new (subst T own (subst U (sym z) two))))
      ];
      short = λ p. absurd (omega arith);
    }

-- and so it is where nothing was looked at
pub backed-start : (es : List Entry) (a b : Lit) → IsBacked es 0 a b
backed-start es a b = record { first = λ n w. absurd (false≢true w); second = λ n w. absurd (false≢true w) }

-- those that watch no literal are true as before, where the new one watches two
pub short-attached : (a b : WatchedClauses) (t : Assignment) (c : ℕ) (ls : List Lit) → b.clauses ≡ a.clauses ++ new_clause c ls ∷ [] → (Contains (indexes a) c → ⊥) → last_watch ls ≢ next_watch ls → ShortAreTrue a t.entries → ShortAreTrue b t.entries
short-attached a b t c ls clauses fresh two short x q one =
    let k = new_clause c ls in
    let is : indexes b ≡ indexes a ++ c ∷ [] = ap (map (λ (x : WatchedClause). x.index)) clauses ∙ map_push (λ (x : WatchedClause). x.index) a.clauses k in
    let P : List ℕ → Type 0 = λ zs. Contains zs x in
    let T : WatchedClause → Type 0 = λ y. y.one ≡ y.other in
    elim (Contains-push_cases (indexes a) c x (subst P is q)) [
      | inl z ↦
          let old : clause_at b x ≡ clause_at a x = ap (λ ks. clause_of ks x) clauses ∙ clause_of-push a.clauses k x z in
          let U : WatchedClause → Type 0 = λ y. IsTrue (is_among (lits (up_to 0 t.entries)) y.one) in
          subst U (sym old) (short x z (subst T old one))
      | inr z ↦
          let own : clause_at b c ≡ k = ap (λ ks. clause_of ks c) clauses ∙ clause_of-new a.clauses k fresh in
          let S : ℕ → Type 0 = λ y. T (clause_at b y) in
          absurd (two (subst T own (subst S (sym z) one)))
    ]
