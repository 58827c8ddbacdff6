-- Lemmas on one more implied literal, and on one more clause of a pass.
use Rattle.std.proofs.Common.{◌≡◌, ◌+◌, ◌⊎◌, ℕ, true, ◌||◌, IsTrue, zero, suc, Option, None, Some, List, [], ◌∷◌, ◌++◌, take, refl, sym, ap, subst, ◌∙◌, inl, inr, add-one, append_assoc}
use Rattle.std.specs.List.{list_any, slice_get}
use Rattle.std.specs.Prelude.{MatchOption}
use Rattle.std.proofs.lemmas.Bool.{and_from, cases_Bool, cond-true, cond-false, leb-false}
use Rattle.std.proofs.lemmas.List.{append-nil}
use Rattle.cnf.specs.declared.lit.Lit.{Lit}
use Rattle.cnf.specs.Lits.{negation, is_among}
use Rattle.cnf.specs.Propagation.{has_two_open, is_at_rest}
use Rattle.cnf.proofs.ForCallers.{list_all-append-from, negation-twice}
use Rattle.sat_trail.specs.declared.entry.Entry.{Entry}
use Rattle.sat_trail.specs.Trail.{Assignment, lits, up_to, is_up_to, with_implied, RiseTo}
use Rattle.sat_trail.proofs.ForCallers.{in_some, some≢none, rise-none, up_to-push}
use Rattle.sat_watch.specs.Numbered.{Numbered, clauses_of, under}
use Rattle.sat_watch.specs.Soundness.{Implies, Reasoned, IsSound}
use Rattle.sat_watch.specs.Watch.{IsUnit}
use Rattle.sat_watch.specs.Watches.{IsLonger}
use Rattle.sat_watch.proofs.NumberLemmas.{under-append}

pub reasoned-push : (ns : List Numbered) (before : List Lit) (es : List Entry) (e : Entry) → Reasoned ns before es → MatchOption e.reason (Unit {0}) (λ at. Implies ns (before ++ lits es) e.lit at) → Reasoned ns before (es ++ e ∷ [])
reasoned-push ns before [] e r h =
    let P : List Lit → Type 0 = λ b. MatchOption e.reason (Unit {0}) (λ at. Implies ns b e.lit at) in
    (subst P (append-nil before) h, tt)
reasoned-push ns before (x ∷ xs) e r h =
    let P : List Lit → Type 0 = λ b. MatchOption e.reason (Unit {0}) (λ at. Implies ns b e.lit at) in
    (r.0, reasoned-push ns (before ++ x.lit ∷ []) xs e r.1 (subst P (sym (append_assoc before (x.lit ∷ []) (lits xs))) h))

pub sound-imply : (ns : List Numbered) (t : Assignment) (l : Lit) (at : ℕ) → IsSound ns t → Implies ns (lits t.entries) l at → IsSound ns (with_implied t l at)
sound-imply ns t l at s i =
    let e : Entry = record { lit = l; level = t.level; reason = Some at } in
    record {
      reasons = reasoned-push ns [] t.entries e s.reasons i;
      rests =
          λ n b.
          let P : List Entry → Type 0 = λ es. IsTrue (is_at_rest (clauses_of ns) (lits es)) in
          subst P (sym (up_to-push n t.entries e b)) (s.rests n b);
    }

pub take-at : {X : Type 0} (xs : List X) (k : ℕ) (x : X) → slice_get xs k ≡ Some x → take (suc k) xs ≡ take k xs ++ x ∷ []
take-at [] k x e = absurd (some≢none (sym e))
take-at (y ∷ ys) zero x e = ap (λ z. z ∷ []) (in_some e)
take-at (y ∷ ys) (suc k) x e = ap (λ zs. y ∷ zs) (take-at ys k x e)

pub rest-more : (formula : List (List Lit)) (trail : List Lit) (k : ℕ) (clause : List Lit) → slice_get formula k ≡ Some clause → IsTrue (is_at_rest (take k formula) trail) → IsTrue (list_any (is_among trail) clause || has_two_open trail clause) → IsTrue (is_at_rest (take (k + 1) formula) trail)
rest-more formula trail k clause e h r =
    let P : List (List Lit) → Type 0 = λ f. IsTrue (is_at_rest f trail) in
    rw add-one (subst P (sym (take-at formula k clause e)) (list_all-append-from (λ k. list_any (is_among trail) k || has_two_open trail k) (take k formula) (clause ∷ []) h (and_from _ true r refl)))

pub implies-from_unit : (ns : List Numbered) (trail : List Lit) (number : ℕ) (clause : List Lit) (l : Lit) → under ns number ≡ Some clause → IsUnit clause trail l → Implies ns trail l number
implies-from_unit ns trail number clause l e u = record {
  clause = clause;
  is_under = e;
  holds_it = u.holds_it;
  others = u.others;
}

-- entries keep their reasons when more clauses come
pub reasoned-wider : (ns ms : List Numbered) (before : List Lit) (es : List Entry) → Reasoned ns before es → Reasoned (ns ++ ms) before es
reasoned-wider ns ms before [] r = tt
reasoned-wider ns ms before (x ∷ xs) r = (one x.reason r.0, reasoned-wider ns ms (before ++ x.lit ∷ []) xs r.1)
  where
    one : (o : Option ℕ) → MatchOption o (Unit {0}) (λ at. Implies ns before x.lit at) → MatchOption o (Unit {0}) (λ at. Implies (ns ++ ms) before x.lit at)
    one None h = tt
    one (Some at) i = record {
      clause = i.clause;
      is_under = under-append ns ms at i.clause i.is_under;
      holds_it = i.holds_it;
      others = i.others;
    }

-- and those that are left when levels are taken back
pub reasoned-up_to : (ns : List Numbered) (before : List Lit) (l : ℕ) (es : List Entry) (n m : ℕ) → RiseTo l es n → Reasoned ns before es → Reasoned ns before (up_to m es)
reasoned-up_to ns before l [] n m h r = tt
reasoned-up_to ns before l (x ∷ xs) n m h r =
    let P : List Entry → Type 0 = λ ys. Reasoned ns before ys in
    elim (cases_Bool (is_up_to m x)) [
      | inl t ↦ subst P (sym (cond-true (is_up_to m x) (x ∷ up_to m xs) (up_to m xs) t)) (r.0, reasoned-up_to ns (before ++ x.lit ∷ []) x.level xs n m h.1 r.1)
      | inr t ↦ subst P (sym (cond-false (is_up_to m x) (x ∷ up_to m xs) (up_to m xs) t ∙ rise-none x.level xs n m h.1 (leb-false x.level m t))) tt
    ]

-- an entry of a list with one more
pub get-push : (es : List Entry) (e x : Entry) (k : ℕ) → slice_get (es ++ e ∷ []) k ≡ Some x → (slice_get es k ≡ Some x) ⊎ (x ≡ e)
get-push [] e x zero h = inr (sym (in_some h))
get-push [] e x (suc k) h = absurd (some≢none (sym h))
get-push (z ∷ zs) e x zero h = inl h
get-push (z ∷ zs) e x (suc k) h = get-push zs e x k h

pub negation-injective : (a b : Lit) → negation a ≡ negation b → a ≡ b
negation-injective a b e = sym (negation-twice a) ∙ (ap negation e ∙ negation-twice b)

-- ---- trails that grow

pub longer-none : (t : Assignment) → IsLonger t t
longer-none t = ([], sym (append-nil t.entries))

pub longer-trans : (t u v : Assignment) → IsLonger t u → IsLonger u v → IsLonger t v
longer-trans t u v m n = (m.0 ++ n.0, n.1 ∙ (ap (λ es. es ++ n.0) m.1 ∙ append_assoc t.entries m.0 n.0))
