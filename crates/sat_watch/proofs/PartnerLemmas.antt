-- Lemmas on a clause of which one watch is false.
use Rattle.std.proofs.Common.{◌≡◌, ◌≢◌, ◌+◌, ◌⊎◌, ℕ, Bool, true, false, not, ◌||◌, IsTrue, Option, None, Some, List, [], ◌∷◌, take, get_or, refl, sym, ap, subst, ◌∙◌, inl, inr}
use Rattle.std.specs.List.{list_all, slice_get}
use Rattle.std.proofs.lemmas.Bool.{and_from, or_cases, or_left, or_right, cases_Bool, cond-true, cond-false, eq-eqb, ne_eqb, false≢true, false_from_ne_true}
use Rattle.std.proofs.lemmas.List.{take_more}
use Rattle.std.proofs.lemmas.Option.{slice_get_within, get_or_from_slice_get}
use Rattle.cnf.specs.declared.lit.Lit.{Lit}
use Rattle.cnf.specs.Lits.{negation, same, is_among}
use Rattle.cnf.proofs.ForCallers.{list_all-append-from, list_all-mono, same-eq, same-from_eq, negation-twice}
use Rattle.sat_trail.specs.Trail.{Assignment, lits, value_in, IsTrail}
use Rattle.sat_trail.proofs.ForCallers.{open-parts, true-from_value, false-from_value, no-both}
use Rattle.sat_arena.specs.Arena.{WatchedClause, IsWatching}
use Rattle.sat_watch.specs.Soundness.{is_false}
use Rattle.sat_watch.specs.Watch.{IsUnit, partner, CanWatch, AreFalseBut, IsOther}

-- ---- whether a literal is false

pub false-some : (t : Assignment) (l : Lit) (v : Bool) → IsTrail t → Some v ≡ value_in (lits t.entries) l → not v ≡ is_false (lits t.entries) l
false-some t l true h e = sym (false_from_ne_true _ (λ m. no-both t l h (true-from_value (lits t.entries) l (sym e)) m))
false-some t l false h e = sym (false-from_value (lits t.entries) l (sym e))

pub false-none : (t : Assignment) (l : Lit) → ◌≡◌ {A = Option Bool} None (value_in (lits t.entries) l) → false ≡ is_false (lits t.entries) l
false-none t l e = sym (open-parts (lits t.entries) l (sym e)).1

-- ---- the literals but two

pub but-more : (clause trail : List Lit) (one other l : Lit) (k : ℕ) → AreFalseBut (take k clause) trail one other → slice_get clause k ≡ Some l → IsTrue (same l one || (same l other || is_false trail l)) → AreFalseBut (take (k + 1) clause) trail one other
but-more clause trail one other l k h e x =
    let P : List Lit → Type 0 = λ ls. AreFalseBut ls trail one other in
    let Q : Lit → Type 0 = λ y. IsTrue (same y one || (same y other || is_false trail y)) in
    let at = get_or_from_slice_get clause k l l e in
    subst P (sym (take_more clause k l (slice_get_within clause k l e))) (list_all-append-from (λ y. same y one || (same y other || is_false trail y)) (take k clause) (get_or clause k l ∷ []) h (and_from _ true (subst Q (sym at) x) refl))

-- ---- the two watches

-- one watch is the literal, and the other is its partner
partner-cases : (k : WatchedClause) (lit : Lit) → IsWatching k lit → ((k.one ≡ lit) × (partner k lit ≡ k.other)) ⊎ ((k.other ≡ lit) × (partner k lit ≡ k.one))
partner-cases k lit w =
    elim (cases_Bool (same k.one lit)) [
      | inl t ↦ inl (same-eq k.one lit t, cond-true (same k.one lit) k.other k.one t)
      | inr t ↦ inr (elim w.1 [ inl e ↦ absurd (false≢true (sym t ∙ same-from_eq k.one lit e)) | inr e ↦ e ], cond-false (same k.one lit) k.other k.one t)
    ]

pub can-watch : (k : WatchedClause) (trail : List Lit) (one other to : Lit) → one ≡ k.one → other ≡ k.other → IsOther k.lits trail one other to → CanWatch k trail to
can-watch k trail one other to e f o = record {
  holds_it = o.holds_it;
  unwatched = λ w. elim w.1 [
    | inl q ↦ o.not_one (ap (λ (x : Lit). x.0) (sym q ∙ sym e))
    | inr q ↦ o.not_other (ap (λ (x : Lit). x.0) (sym q ∙ sym f))
  ];
  not_false = o.not_false;
}

others-false : (k : WatchedClause) (trail : List Lit) (lit : Lit) → IsWatching k lit → IsTrue (is_false trail lit) → AreFalseBut k.lits trail k.one k.other → IsTrue (list_all (λ x. same x (partner k lit) || is_false trail x) k.lits)
others-false k trail lit w h but = list_all-mono (λ x. same x k.one || (same x k.other || is_false trail x)) (λ x. same x (partner k lit) || is_false trail x) each k.lits but
  where
    each : (x : Lit) → IsTrue (same x k.one || (same x k.other || is_false trail x)) → IsTrue (same x (partner k lit) || is_false trail x)
    each x m =
        let F : Lit → Type 0 = λ y. IsTrue (is_false trail y) in
        let S : Lit → Type 0 = λ y. IsTrue (same x y) in
        elim (or_cases (same x k.one) _ m) [
          | inl s ↦ elim (partner-cases k lit w) [
            | inl c ↦ or_right _ _ (subst F (sym c.0 ∙ sym (same-eq x k.one s)) h)
            | inr c ↦ or_left _ _ (subst S (sym c.1) s)
          ]
          | inr s ↦ elim (or_cases (same x k.other) (is_false trail x) s) [
            | inl s2 ↦ elim (partner-cases k lit w) [
              | inl c ↦ or_left _ _ (subst S (sym c.1) s2)
              | inr c ↦ or_right _ _ (subst F (sym c.0 ∙ sym (same-eq x k.other s2)) h)
            ]
            | inr f ↦ or_right _ _ f
          ]
        ]

pub shows-false : (k : WatchedClause) (trail : List Lit) (lit : Lit) → IsWatching k lit → IsTrue (is_false trail lit) → AreFalseBut k.lits trail k.one k.other → IsTrue (is_false trail (partner k lit)) → IsTrue (list_all (is_false trail) k.lits)
shows-false k trail lit w h but p =
    list_all-mono (λ x. same x (partner k lit) || is_false trail x) (is_false trail) (λ x m.
    let F : Lit → Type 0 = λ y. IsTrue (is_false trail y) in
    elim (or_cases (same x (partner k lit)) (is_false trail x) m) [ inl s ↦ subst F (sym (same-eq x (partner k lit) s)) p | inr f ↦ f ]) k.lits (others-false k trail lit w h but)

pub shows-unit : (k : WatchedClause) (trail : List Lit) (lit : Lit) → IsWatching k lit → IsTrue (is_among k.lits k.one) × IsTrue (is_among k.lits k.other) → IsTrue (is_false trail lit) → AreFalseBut k.lits trail k.one k.other → is_false trail (partner k lit) ≡ false → is_false trail (negation (partner k lit)) ≡ false → IsUnit k.lits trail (partner k lit)
shows-unit k trail lit w two h but p n = record {
  holds_it = elim (partner-cases k lit w) [
    | inl c ↦ let P : Lit → Type 0 = λ y. IsTrue (is_among k.lits y) in subst P (sym c.1) two.1
    | inr c ↦ let P : Lit → Type 0 = λ y. IsTrue (is_among k.lits y) in subst P (sym c.1) two.0
  ];
  open_one = cond-false (is_among trail (partner k lit)) _ _ (sym (ap (is_among trail) (negation-twice (partner k lit))) ∙ n) ∙ cond-false (is_among trail (negation (partner k lit))) _ _ p;
  others = others-false k trail lit w h but;
}

-- the partner as the code finds it
pub partner-then : (k : WatchedClause) (lit one other p : Lit) → one ≡ k.one → other ≡ k.other → one.0 ≡ lit.0 → p ≡ other → p ≡ partner k lit
partner-then k lit one other p e f h q = q ∙ (f ∙ sym (cond-true (same k.one lit) k.other k.one (eq-eqb _ _ (ap (λ (x : Lit). x.0) (sym e) ∙ h))))

pub partner-else : (k : WatchedClause) (lit one other p : Lit) → one ≡ k.one → other ≡ k.other → one.0 ≢ lit.0 → p ≡ one → p ≡ partner k lit
partner-else k lit one other p e f h q = q ∙ (e ∙ sym (cond-false (same k.one lit) k.other k.one (ne_eqb _ _ (λ z. h (ap (λ (x : Lit). x.0) e ∙ z)))))
