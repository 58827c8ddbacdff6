-- Entries in order, and those under the digests of a pair.
use Rattle.std.proofs.Common.{◌≡◌, ℕ, ◌+◌, Bool, true, List, [], ◌∷◌, map, refl, sym, ap, ap₂, ◌∙◌, arith}
use Rattle.std.specs.List.{filter}
use Rattle.std.specs.BTreeMap.Range.{range_contains}
use Rattle.std.specs.declared.cmp.Ordering.{Ordering}
use Rattle.std.specs.declared.cmp.Ordering.TheVariants.{Equal}
use Rattle.std.specs.declared.ops.Bound.TheVariants.{Included, Excluded}
use Rattle.std.specs.Ordering.{nat_cmp, ordering_then}
use Rattle.std.proofs.lemmas.Bool.{false≢true, false_from_ne_true, cond_both, cond-true, cond-false}
use Rattle.std.proofs.lemmas.Bool.Decides.{nat_tests}
use Rattle.step_queue.specs.WatchLists.{is_under, candidates_under, place_of}
use Rattle.step_queue.specs.contracts.watch_list.EntryOrd.TheImpl as entry_ord
use Rattle.step_queue.specs.declared.watch_list.Entry.{Entry}
use Rattle.step_queue.specs.declared.candidate.Candidate.{Candidate}
use Rattle.step_queue.proofs.Keys.{candidate_cmp, is_same, same_candidate, then_equal}

abbrev pub entry_cmp : Entry → Entry → Ordering
entry_cmp = (entry_ord.ghosts).cmp

pub same_entry : (a b : Entry) → entry_cmp a b ≡ Equal → a ≡ b
same_entry a b e =
    let s = then_equal (nat_cmp a.selector b.selector) (ordering_then (nat_cmp a.decl b.decl) (candidate_cmp a.candidate b.candidate)) e in
    let d = then_equal (nat_cmp a.decl b.decl) (candidate_cmp a.candidate b.candidate) s.1 in
    made (is_same a.selector b.selector s.0) (is_same a.decl b.decl d.0) (same_candidate a.candidate b.candidate d.1)
  where
    make : ℕ → ℕ → Candidate → Entry
    make s d l = record { selector = s; decl = d; candidate = l }

    made : {s s' d d' : ℕ} {l l' : Candidate} → s ≡ s' → d ≡ d' → l ≡ l' → make s d l ≡ make s' d' l'
    made {s = s} {s' = s'} {d = d} {d' = d'} {l = l} {l' = l'} e f g = ap (λ n. make n d l) e ∙ ap₂ (make s') f g

-- ---- Those under digests

module _ (selector decl : ℕ) (start end : Entry) (from : start.selector ≡ selector) (to : end.selector ≡ selector) (low : start.decl + 1 ≡ place_of decl) (high : end.decl ≡ place_of decl + 1) where
  abbrev shows : Entry → Bool
  shows = range_contains entry_cmp (Included start) (Excluded end)

  shown : (e : Entry) → is_under selector decl e ≡ true → shows e ≡ true
  shown e under = grind (arith, nat_tests)

  shown_all : (entries : List Entry) → filter (is_under selector decl) (filter shows entries) ≡ filter (is_under selector decl) entries
  shown_all [] = refl
  shown_all (e ∷ entries) = cond_both (shows e) (e ∷ filter shows entries) (filter shows entries) (λ es. filter (is_under selector decl) es ≡ filter (is_under selector decl) (e ∷ entries))
      (λ yes. cond_both (is_under selector decl e) (e ∷ filter (is_under selector decl) (filter shows entries)) (filter (is_under selector decl) (filter shows entries)) (λ es. es ≡ filter (is_under selector decl) (e ∷ entries))
      (λ under. ap (λ es. e ∷ es) (shown_all entries) ∙ sym (cond-true (is_under selector decl e) (e ∷ filter (is_under selector decl) entries) (filter (is_under selector decl) entries) under))
      (λ not_under. shown_all entries ∙ sym (cond-false (is_under selector decl e) (e ∷ filter (is_under selector decl) entries) (filter (is_under selector decl) entries) not_under)))
      (λ no. shown_all entries ∙ sym (cond-false (is_under selector decl e) (e ∷ filter (is_under selector decl) entries) (filter (is_under selector decl) entries)
      (false_from_ne_true (is_under selector decl e) (λ under. false≢true (sym no ∙ shown e under)))))

  pub found : (entries : List Entry) → candidates_under selector decl (filter shows entries) ≡ candidates_under selector decl entries
  found entries = ap (map (λ e. e.candidate)) (shown_all entries)
