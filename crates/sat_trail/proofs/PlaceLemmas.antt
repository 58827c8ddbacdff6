-- Lemmas on the table of places.
use Rattle.std.proofs.Common.{◌≡◌, ◌+◌, ◌*◌, ◌/◌, ◌<◌, ◌≤◌, ℕ, true, false, cond, eqb, IsTrue, zero, suc, Option, None, Some, List, [], ◌∷◌, ◌++◌, length, take, set, get_or, refl, sym, ap, subst, ◌∙◌, inl, inr, arith}
use Rattle.std.specs.List.{slice_get, IsDistinct, AllByRecursion}
use Rattle.std.proofs.lemmas.Bool.{or_cases, or_parts, or_from, eqb-true, eq-eqb, eqb-false, ltb-true, ne_eqb, false≢true, cases_Bool, cases_eq, cond-true, cond-false}
use Rattle.std.proofs.lemmas.List.{length-set, get_or-set_same, get_or-set_other, take_more}
use Rattle.std.proofs.lemmas.Map.Keys.{IsDistinct-head, IsDistinct-tail}
use Rattle.std.specs.Option.{is_some}
use Rattle.std.proofs.lemmas.Option.{slice_get-get_or, get_or_from_slice_get}
use Rattle.cnf.specs.declared.lit.Lit.{Lit}
use Rattle.cnf.specs.Lits.{variable, same, is_among, is_below}
use Rattle.cnf.proofs.ForCallers.{parity}
use Rattle.sat_trail.specs.declared.entry.Entry.{Entry}
use Rattle.sat_trail.specs.Places.{place, place_from, IsPlaced, IsTrailInside}
use Rattle.sat_trail.specs.Trail.{Assignment, lits, variables, value_in, entry_of, up_to, IsNext, RiseTo}
use Rattle.sat_trail.proofs.EntryLemmas.{some≢none, in_some, open-parts, below-push, below-take, distinct-push, distinct-take, entry_of-at}
use Rattle.sat_trail.proofs.LevelLemmas.{rise-push, rise-up_to}

some-eq : (a b : ℕ) → a ≡ b → ◌≡◌ {A = Option ℕ} (Some a) (Some b)
some-eq a b e = ap Some e

-- ---- what a place says

place-absent : (at : ℕ) (es : List Entry) (l : Lit) → is_among (lits es) l ≡ false → place_from at es l.0 ≡ None
place-absent at [] l h = refl
place-absent at (e ∷ es) l h =
    let parts = or_parts (same l e.lit) (is_among (lits es) l) h in
    cond-false (eqb l.0 e.lit.0) (Some at) (place_from (at + 1) es l.0) parts.0 ∙ place-absent (at + 1) es l parts.1

place-there : (at : ℕ) (es : List Entry) (l : Lit) → IsTrue (is_among (lits es) l) → place_from at es l.0 ≡ None → ⊥
place-there at [] l h n = false≢true h
place-there at (e ∷ es) l h n =
    elim (cases_Bool (eqb l.0 e.lit.0)) [
      | inl t ↦ some≢none (sym (cond-true (eqb l.0 e.lit.0) (Some at) (place_from (at + 1) es l.0) t) ∙ n)
      | inr t ↦
          elim (or_cases (same l e.lit) (is_among (lits es) l) h) [
            | inl u ↦ false≢true (sym t ∙ u)
            | inr u ↦ place-there (at + 1) es l u (sym (cond-false (eqb l.0 e.lit.0) (Some at) (place_from (at + 1) es l.0) t) ∙ n)
          ]
    ]

place-push_other : (at : ℕ) (es : List Entry) (e : Entry) (i : ℕ) → (i ≡ e.lit.0 → ⊥) → place_from at (es ++ e ∷ []) i ≡ place_from at es i
place-push_other at [] e i h = cond-false (eqb i e.lit.0) (Some at) None (ne_eqb _ _ h)
place-push_other at (x ∷ xs) e i h = ap (λ n. cond (eqb i x.lit.0) (Some at) n) (place-push_other (at + 1) xs e i h)

place-push_same : (at : ℕ) (es : List Entry) (e : Entry) → is_among (lits es) e.lit ≡ false → place_from at (es ++ e ∷ []) e.lit.0 ≡ Some (at + length es)
place-push_same at [] e h = cond-true (eqb e.lit.0 e.lit.0) (Some at) None (eq-eqb _ _ refl) ∙ some-eq at (at + 0) (omega arith)
place-push_same at (x ∷ xs) e h =
    let parts = or_parts (same e.lit x.lit) (is_among (lits xs) e.lit) h in
    let rest = place-push_same (at + 1) xs e parts.1 in
    cond-false (eqb e.lit.0 x.lit.0) (Some at) (place_from (at + 1) (xs ++ e ∷ []) e.lit.0) parts.0
    ∙ (rest ∙ some-eq (at + 1 + length xs) (at + length (x ∷ xs)) (omega arith))

place-low : (at : ℕ) (es : List Entry) (i p : ℕ) → place_from at es i ≡ Some p → at ≤ p
place-low at [] i p h = absurd (some≢none (sym h))
place-low at (x ∷ xs) i p h =
    elim (cases_Bool (eqb i x.lit.0)) [
      | inl t ↦ let q : at ≡ p = in_some (sym (cond-true (eqb i x.lit.0) (Some at) (place_from (at + 1) xs i) t) ∙ h) in omega arith
      | inr t ↦ let q = place-low (at + 1) xs i p (sym (cond-false (eqb i x.lit.0) (Some at) (place_from (at + 1) xs i) t) ∙ h) in omega arith
    ]

place-get : (at : ℕ) (es : List Entry) (i k : ℕ) (d : Entry) → place_from at es i ≡ Some (at + k) → (k < length es) × ((get_or es k d).lit.0 ≡ i)
place-get at [] i k d h = absurd (some≢none (sym h))
place-get at (x ∷ xs) i zero d h =
    elim (cases_Bool (eqb i x.lit.0)) [
      | inl t ↦ (omega arith, sym (eqb-true i x.lit.0 t))
      | inr t ↦ let low = place-low (at + 1) xs i (at + 0) (sym (cond-false (eqb i x.lit.0) (Some at) (place_from (at + 1) xs i) t) ∙ h) in absurd (omega arith)
    ]
place-get at (x ∷ xs) i (suc k) d h =
    elim (cases_Bool (eqb i x.lit.0)) [
      | inl t ↦ let q : at ≡ at + suc k = in_some (sym (cond-true (eqb i x.lit.0) (Some at) (place_from (at + 1) xs i) t) ∙ h) in absurd (omega arith)
      | inr t ↦
          let there = sym (cond-false (eqb i x.lit.0) (Some at) (place_from (at + 1) xs i) t) ∙ h in
          let rest = place-get (at + 1) xs i k d (there ∙ some-eq (at + suc k) (at + 1 + k) (omega arith)) in
          (omega (arith, rest.0), rest.1)
    ]

-- the entry at the place of a number has this number
pub at-place : (es : List Entry) (i k : ℕ) (d : Entry) → place es i ≡ Some k → (k < length es) × ((get_or es k d).lit.0 ≡ i)
at-place es i k d h = place-get 0 es i k d (h ∙ some-eq k (0 + k) (omega arith))

-- ---- the entry of a variable, and the value of a literal

-- the entry at the place of one of a variable's literals is the variable's
pub entry_of-place : (es : List Entry) (v i k : ℕ) (d : Entry) → IsDistinct eqb (variables es) → i / 2 ≡ v → place es i ≡ Some k → (k < length es) × (entry_of es v ≡ Some (get_or es k d))
entry_of-place es v i k d u b h =
    let at = at-place es i k d h in
    (at.0, entry_of-at es v k d u at.0 (ap (λ n. n / 2) at.1 ∙ b))

-- a variable neither of whose literals has a place has no entry
pub entry_of-none : (es : List Entry) (v : ℕ) → place es (2 * v) ≡ None → place es (2 * v + 1) ≡ None → entry_of es v ≡ None
entry_of-none es v a b = from 0 es a b
  where
    from : (at : ℕ) (es : List Entry) → place_from at es (2 * v) ≡ None → place_from at es (2 * v + 1) ≡ None → entry_of es v ≡ None
    from at [] a b = refl
    from at (x ∷ xs) a b =
        elim (cases_Bool (eqb (2 * v) x.lit.0)) [
          | inl t ↦ absurd (some≢none (sym (cond-true (eqb (2 * v) x.lit.0) (Some at) (place_from (at + 1) xs (2 * v)) t) ∙ a))
          | inr t ↦ elim (cases_Bool (eqb (2 * v + 1) x.lit.0)) [
            | inl u ↦ absurd (some≢none (sym (cond-true (eqb (2 * v + 1) x.lit.0) (Some at) (place_from (at + 1) xs (2 * v + 1)) u) ∙ b))
            | inr u ↦
                let there = cond-false (eqb (2 * v) x.lit.0) (Some at) (place_from (at + 1) xs (2 * v)) t in
                let too = cond-false (eqb (2 * v + 1) x.lit.0) (Some at) (place_from (at + 1) xs (2 * v + 1)) u in
                let nt = eqb-false _ _ t in
                let nu = eqb-false _ _ u in
                cond-false (eqb (variable x.lit) v) (Some x) (entry_of xs v) (ne_eqb _ _ (λ h. elim (parity x.lit.0) [ inl p ↦ nt (omega arith) | inr p ↦ nu (omega arith) ]))
                ∙ from (at + 1) xs (sym there ∙ a) (sym too ∙ b)
          ]
        ]

-- a literal has a place exactly where it is true
pub is_some-place : (es : List Entry) (l : Lit) → is_some (place es l.0) ≡ is_among (lits es) l
is_some-place es l =
    elim (cases_Bool (is_among (lits es) l)) [
      | inl t ↦ there (place es l.0) (place-there 0 es l t) ∙ sym t
      | inr t ↦ ap is_some (place-absent 0 es l t) ∙ sym t
    ]
  where
    there : (o : Option ℕ) → (o ≡ None → ⊥) → is_some o ≡ true
    there None h = absurd (h refl)
    there (Some k) h = refl

-- ---- the table

-- a literal's number is within the table
pub within : (n : ℕ) (l : Lit) → IsTrue (is_below n l) → l.0 < n + n
within n l h =
    let k = ltb-true (variable l) n h in
    elim (parity l.0) [ inl p ↦ omega arith | inr p ↦ omega arith ]

-- what a read of the table says
pub placed-get : (es : List Entry) (places : List (Option ℕ)) (i : ℕ) (x : Option ℕ) → IsPlaced es places → i < length places → x ≡ get_or places i x → place es i ≡ x
placed-get es places i x t b e = in_some (sym (t i b) ∙ (slice_get-get_or places i x b ∙ ap Some (sym e)))

get-placed : (es : List Entry) (places : List (Option ℕ)) (i : ℕ) → i < length places → get_or places i None ≡ place es i → slice_get places i ≡ Some (place es i)
get-placed es places i b e = slice_get-get_or places i None b ∙ ap Some e

-- the table with one more entry
table-push : (es : List Entry) (places : List (Option ℕ)) (e : Entry) → IsPlaced es places → value_in (lits es) e.lit ≡ None → IsPlaced (es ++ e ∷ []) (set places e.lit.0 (Some (length es)))
table-push es places e h o i b =
    let parts = open-parts (lits es) e.lit o in
    let length_same = length-set places e.lit.0 (Some (length es)) in
    let within : i < length places = omega arith in
    get-placed (es ++ e ∷ []) (set places e.lit.0 (Some (length es))) i b (elim (cases_eq i e.lit.0) [
      | inl s ↦
          let at : e.lit.0 < length places = omega arith in
          let P : ℕ → Type 0 = λ j. get_or (set places e.lit.0 (Some (length es))) j None ≡ place (es ++ e ∷ []) j in
          subst P (sym s) (get_or-set_same places e.lit.0 (Some (length es)) None at ∙ (some-eq (length es) (0 + length es) (omega arith) ∙ sym (place-push_same 0 es e parts.0)))
      | inr s ↦
          get_or-set_other places e.lit.0 i (Some (length es)) None s
          ∙ (get_or_from_slice_get places i (place es i) None (h i within) ∙ sym (place-push_other 0 es e i s))
    ])

-- the table with one entry less
pub table-pop : (es : List Entry) (places : List (Option ℕ)) (k : ℕ) (d : Entry) → IsDistinct eqb (variables es) → k < length es → (get_or es k d).lit.0 < length places → IsPlaced (take (k + 1) es) places → IsPlaced (take k es) (set places (get_or es k d).lit.0 None)
table-pop es places k d u b at h i w =
    let e = get_or es k d in
    let size = length-set places e.lit.0 None in
    let within : i < length places = omega arith in
    let more = take_more es k d b in
    let shorter = distinct-take (k + 1) es u in
    let pushed_distinct : IsDistinct eqb (variables (take k es ++ e ∷ [])) = let P : List Entry → Type 0 = λ xs. IsDistinct eqb (variables xs) in subst P more shorter in
    get-placed (take k es) (set places e.lit.0 None) i w (elim (cases_eq i e.lit.0) [
      | inl s ↦
          let P : ℕ → Type 0 = λ j. get_or (set places e.lit.0 None) j None ≡ place (take k es) j in
          subst P (sym s) (get_or-set_same places e.lit.0 None None at ∙ sym (place-absent 0 (take k es) e.lit (absent (take k es) e pushed_distinct)))
      | inr s ↦
          get_or-set_other places e.lit.0 i None None s
          ∙ (get_or_from_slice_get places i (place (take (k + 1) es) i) None (h i within)
          ∙ (ap (λ xs. place xs i) more ∙ place-push_other 0 (take k es) e i s))
    ])
  where
    absent : (xs : List Entry) (e : Entry) → IsDistinct eqb (variables (xs ++ e ∷ [])) → is_among (lits xs) e.lit ≡ false
    absent [] e h = refl
    absent (x ∷ xs) e h =
        or_from _ _ (ne_eqb e.lit.0 x.lit.0 (λ q. head_apart xs (IsDistinct-head eqb (variable x.lit) (variables (xs ++ e ∷ [])) h) (let n : ℕ = 2 in ap (λ m. m / n) (sym q)))) (absent xs e (IsDistinct-tail eqb (variable x.lit) (variables (xs ++ e ∷ [])) h))
      where
        head_apart : (ys : List Entry) → AllByRecursion (λ y. eqb (variable x.lit) y ≡ false) (variables (ys ++ e ∷ [])) → variable x.lit ≡ variable e.lit → ⊥
        head_apart [] a q = eqb-false (variable x.lit) (variable e.lit) a.0 q
        head_apart (y ∷ ys) a q = head_apart ys a.1 q

-- ---- the fields

-- after one more entry
pub pushed : (t : Assignment) (level capacity after : ℕ) (places : List (Option ℕ)) (e : Entry) → IsTrailInside t capacity places → IsTrue (is_below t.vars e.lit) → value_in (lits t.entries) e.lit ≡ None → IsNext t.level e → level ≡ e.level → capacity ≤ after → IsTrailInside (record { vars = t.vars; level = level; entries = t.entries ++ e ∷ [] }) after (set places e.lit.0 (Some (length t.entries)))
pushed t level capacity after places e h b o next l more = record {
  trail = record {
    small = h.trail.small;
    in_range = below-push t.vars t.entries e h.trail.in_range b;
    distinct = distinct-push t.entries e h.trail.distinct o;
    rise = let P : ℕ → Type 0 = λ m. RiseTo 0 (t.entries ++ e ∷ []) m in subst P (sym l) (rise-push 0 t.entries t.level e h.trail.rise next);
  };
  table = let k = length-set places e.lit.0 (Some (length t.entries)) in omega (arith, h.table);
  placed = table-push t.entries places e h.placed o;
  room = omega (arith, h.room);
}

-- after the entries above a level are gone
pub undone : (t : Assignment) (level capacity k : ℕ) (places after : List (Option ℕ)) → IsTrailInside t capacity places → level ≤ t.level → take k t.entries ≡ up_to level t.entries → length after ≡ length places → IsPlaced (take k t.entries) after → IsTrailInside (record { vars = t.vars; level = level; entries = take k t.entries }) capacity after
undone t level capacity k places after h b e l p = record {
  trail = record {
    small = h.trail.small;
    in_range = below-take t.vars k t.entries h.trail.in_range;
    distinct = distinct-take k t.entries h.trail.distinct;
    rise = let P : List Entry → Type 0 = λ xs. RiseTo 0 xs level in subst P (sym e) (rise-up_to 0 t.entries t.level level h.trail.rise (omega arith) b);
  };
  table = omega (arith, h.table);
  placed = p;
  room = h.room;
}
