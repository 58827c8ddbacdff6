-- Lemmas on taking levels back: no watch has to move.
use Rattle.std.proofs.Common.{◌≡◌, ◌<◌, ◌≤◌, ℕ, false, eqb, leb, IsTrue, suc, None, List, [], ◌∷◌, length, take, get_or, refl, sym, ap, subst, ◌∙◌, inl, inr, arith}
use Rattle.std.specs.List.{IsDistinct}
use Rattle.std.proofs.lemmas.Bool.{cases_eq, cases_lt, cases_Bool, cond-true, cond-false, leb-false, le-leb}
use Rattle.std.proofs.lemmas.List.{take_all, length-take-le}
use Rattle.std.proofs.lemmas.Option.{slice_get-get_or, slice_get_within}
use Rattle.cnf.specs.Lits.{is_among, are_below}
use Rattle.cnf.specs.Propagation.{is_at_rest}
use Rattle.sat_trail.specs.declared.entry.Entry.{Entry}
use Rattle.sat_trail.specs.Trail.{Assignment, lits, variables, up_to, is_up_to, undone_to, RiseTo, IsTrail}
use Rattle.sat_trail.proofs.ForCallers.{up_to-take, up_to-up_to, up_to-all, rise-none, rise-up_to, below-take, distinct-take}
use Rattle.sat_arena.specs.Arena.{WatchedClauses, clause_at}
use Rattle.sat_watch.specs.Numbered.{Numbered, clauses_of}
use Rattle.sat_watch.specs.Soundness.{IsSound}
use Rattle.sat_watch.specs.Watches.{ArePresent, IsReady, head_within}
use Rattle.sat_watch.proofs.StepLemmas.{reasoned-up_to}
use Rattle.sat_watch.proofs.WatchLemmas.{backs-undo}

prefix : (l : ℕ) (es : List Entry) (n m : ℕ) → RiseTo l es n → (k : ℕ) × (up_to m es ≡ take k es)
prefix l [] n m h = (0, refl)
prefix l (x ∷ xs) n m h =
    elim (cases_Bool (is_up_to m x)) [
      | inl t ↦ let rest = prefix x.level xs n m h.1 in (suc rest.0, cond-true (is_up_to m x) (x ∷ up_to m xs) (up_to m xs) t ∙ ap (λ ys. x ∷ ys) rest.1)
      | inr t ↦ (0, cond-false (is_up_to m x) (x ∷ up_to m xs) (up_to m xs) t ∙ rise-none x.level xs n m h.1 (leb-false x.level m t))
    ]

pub trail-undone : (t : Assignment) (m : ℕ) → IsTrail t → m ≤ t.level → IsTrail (undone_to t m)
trail-undone t m h low =
    let k = prefix 0 t.entries t.level m h.rise in
    let D : List Entry → Type 0 = λ es. IsDistinct eqb (variables es) in
    let B : List Entry → Type 0 = λ es. IsTrue (are_below t.vars (lits es)) in
    record {
      small = h.small;
      in_range = subst B (sym k.1) (below-take t.vars k.0 t.entries h.in_range);
      distinct = subst D (sym k.1) (distinct-take k.0 t.entries h.distinct);
      rise = rise-up_to 0 t.entries t.level m h.rise (omega arith) low;
    }

-- the entries below the level to go back to were all looked at
pub front-same : (t : Assignment) (head m : ℕ) → IsTrail t → ArePresent t head → head ≤ length t.entries → m < t.level → up_to m t.entries ≡ up_to m (take head t.entries)
front-same t head m h p b low =
    let d : Entry = record { lit = record { 0 = 0 }; level = 0; reason = None } in
    elim (cases_lt head (length t.entries)) [
      | inl k ↦
          let is = p head (get_or t.entries head d) (omega arith) (slice_get-get_or t.entries head d k) in
          up_to-take 0 t.entries t.level m head d h.rise k (omega arith)
      | inr k ↦ ap (up_to m) (sym (take_all head t.entries k))
    ]

-- no more entries are left than there were
up_to-fewer : (es : List Entry) (m : ℕ) → length (up_to m es) ≤ length es
up_to-fewer [] m = omega arith
up_to-fewer (x ∷ xs) m =
    let rest = up_to-fewer xs m in
    elim (cases_Bool (is_up_to m x)) [
      | inl t ↦ let n = ap length (cond-true (is_up_to m x) (x ∷ up_to m xs) (up_to m xs) t) in omega (arith, n, rest)
      | inr t ↦ let n = ap length (cond-false (is_up_to m x) (x ∷ up_to m xs) (up_to m xs) t) in omega (arith, n, rest)
    ]

pub within-low : (head count : ℕ) → head ≤ count → head_within head count ≡ head
within-low head count h = cond-true (leb head count) head count (le-leb head count h)

within-high : (head count : ℕ) → count ≤ head → head_within head count ≡ count
within-high head count h =
    elim (cases_eq head count) [
      | inl e ↦ within-low head count (omega arith) ∙ e
      | inr n ↦ cond-false (leb head count) head count (above head count (omega arith))
    ]
  where
    above : (a b : ℕ) → b < a → leb a b ≡ false
    above a b h = grind arith

-- where a level is taken back, all that is left was looked at
pub looked-undone : (a : WatchedClauses) (t : Assignment) (head m : ℕ) → m < t.level → IsReady a t head → head_within head (length (up_to m t.entries)) ≡ length (up_to m t.entries)
looked-undone a t head m low r =
    let front = front-same t head m r.trail r.present r.looked low in
    let fewer = up_to-fewer (take head t.entries) m in
    let n = ap length front in
    let size = length-take-le head t.entries r.looked in
    within-high head (length (up_to m t.entries)) (omega (arith, n, fewer, size))

-- the watches are ready for what is left
pub ready-undone : (a : WatchedClauses) (t : Assignment) (head m : ℕ) → m ≤ t.level → IsReady a t head → IsReady a (undone_to t m) (head_within head (length (up_to m t.entries)))
ready-undone a t head m low r =
    elim (cases_eq m t.level) [
      | inl e ↦
          let is : up_to m t.entries ≡ t.entries = up_to-all 0 t.entries t.level m r.trail.rise (omega arith) in
          let H : ℕ → Type 0 = λ h. IsReady a (undone_to t m) h in
          let E : List Entry → Type 0 = λ es. IsReady a (record { vars = t.vars; level = m; entries = es }) head in
          let M : ℕ → Type 0 = λ n. IsReady a (record { vars = t.vars; level = n; entries = t.entries }) head in
          let n = ap length is in
          subst H (sym (within-low head (length (up_to m t.entries)) (omega (arith, n, r.looked)))) (subst E (sym is) (subst M (sym e) r))
      | inr ne ↦
          let es = up_to m t.entries in
          let front = front-same t head m r.trail r.present r.looked (omega arith) in
          let is = looked-undone a t head m (omega arith) r in
          let H : ℕ → Type 0 = λ h. IsReady a (undone_to t m) h in
          subst H (sym is) (record {
            arena = r.arena;
            trail = trail-undone t m r.trail low;
            looked = omega arith;
            present = λ k x b q. absurd (let w = slice_get_within es k x q in omega arith);
            backed = λ c known two. let v = r.backed c known two in record { first = backs-undo t.entries head m _ _ front v.first; second = backs-undo t.entries head m _ _ front v.second };
            short = λ p c known one.
                let P : List Entry → Type 0 = λ ys. IsTrue (is_among (lits ys) (clause_at a c).one) in
                subst P (sym (up_to-up_to t.entries 0 m (omega arith))) (r.short (omega arith) c known one);
          })
    ]

-- and the trail stays sound
pub sound-undone : (ns : List Numbered) (t : Assignment) (m : ℕ) → IsTrail t → m ≤ t.level → IsSound ns t → IsSound ns (undone_to t m)
sound-undone ns t m h low s = record {
  reasons = reasoned-up_to ns [] 0 t.entries t.level m h.rise s.reasons;
  rests =
      λ n b.
      let P : List Entry → Type 0 = λ es. IsTrue (is_at_rest (clauses_of ns) (lits es)) in
      subst P (sym (up_to-up_to t.entries n m (omega arith))) (s.rests n (omega arith));
}
