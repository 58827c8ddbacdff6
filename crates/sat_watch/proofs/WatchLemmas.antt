-- What the watches of a clause give, and what keeps them backed.
use Rattle.std.proofs.Common.{◌≡◌, ◌+◌, ◌<◌, ◌≤◌, ◌⊎◌, ℕ, Bool, true, false, not, ◌&&◌, ◌||◌, cond, IsTrue, zero, suc, List, [], ◌∷◌, ◌++◌, length, take, get_or, refl, sym, ap, subst, ◌∙◌, inl, inr, arith}
use Rattle.std.specs.List.{list_any}
use Rattle.std.proofs.lemmas.Bool.{and_from, or_cases, or_left, or_right, false≢true, cases_Bool, cases_lt, not_from_false, cond-true, cond-false, le-leb, leb-true}
use Rattle.std.proofs.lemmas.List.{take_all, take_more, take-append-le}
use Rattle.std.proofs.lemmas.List.Elements.{filter-append}
use Rattle.cnf.specs.declared.lit.Lit.{Lit}
use Rattle.cnf.specs.Lits.{negation, same, is_among}
use Rattle.cnf.specs.Propagation.{is_open, has_two_open}
use Rattle.cnf.proofs.ForCallers.{same-eq, same-from_eq, any-among, negation-twice}
use Rattle.sat_trail.specs.declared.entry.Entry.{Entry}
use Rattle.sat_trail.specs.Trail.{lits, up_to, is_up_to}
use Rattle.sat_trail.proofs.ForCallers.{up_to-up_to, up_to-among}
use Rattle.sat_watch.specs.Watches.{Backs, IsBacked}

-- whether the clause is at rest
abbrev pub Rests : List Lit → List Lit → Type 0
Rests trail k = IsTrue (list_any (is_among trail) k || has_two_open trail k)

-- ---- what it gives: with all entries looked at, the clause is at rest at the end of each level
pub rests-from_watches : (es : List Entry) (k : List Lit) (a b : Lit) (n : ℕ) → IsTrue (is_among k a) → IsTrue (is_among k b) → same a b ≡ false → IsBacked es (length es) a b → Rests (lits (up_to n es)) k
rests-from_watches es k a b n ka kb ne w =
    let trail = lits (up_to n es) in
    let whole : take (length es) es ≡ es = take_all (length es) es (omega arith) in
    let P : Lit → List Entry → Type 0 = λ x ys. IsTrue (is_among (lits (up_to n ys)) (negation x)) in
    elim (cases_Bool (is_among trail (negation a))) [
      | inl fa ↦ or_left _ _ (any-among (is_among trail) k b kb (w.first n (let Q : List Entry → Type 0 = λ ys. P a ys in subst Q (sym whole) fa)))
      | inr oa ↦
          elim (cases_Bool (is_among trail (negation b))) [
            | inl fb ↦ or_left _ _ (any-among (is_among trail) k a ka (w.second n (let Q : List Entry → Type 0 = λ ys. P b ys in subst Q (sym whole) fb)))
            | inr ob ↦
                or_right _ _ (any-among (λ x. list_any (λ y. not (same x y) && (is_open trail x && is_open trail y)) k) k a ka (any-among (λ y. not (same a y) && (is_open trail a && is_open trail y)) k b kb (and_from _ _ (not_from_false _ ne) (and_from _ _ (not_from_false _ oa) (not_from_false _ ob)))))
          ]
    ]

-- ---- undoing: the entries that are left were all looked at

-- entries of a front that are up to a level stand in the front of those up to a level
lits-shrink : (ys : List Entry) (n m : ℕ) (l : Lit) → IsTrue (is_among (lits (up_to n (up_to m ys))) l) → IsTrue (is_among (lits (up_to n ys)) l)
lits-shrink [] n m l h = h
lits-shrink (y ∷ ys) n m l h = by (is_up_to m y) (is_up_to n y) (lits-shrink ys n m l) (elim (cases_Bool (is_up_to m y)) [
  | inl t ↦ let P : List Entry → Type 0 = λ zs. IsTrue (is_among (lits (up_to n zs)) l) in inl (subst P (cond-true (is_up_to m y) (y ∷ up_to m ys) (up_to m ys) t) h)
  | inr t ↦ let P : List Entry → Type 0 = λ zs. IsTrue (is_among (lits (up_to n zs)) l) in inr (subst P (cond-false (is_up_to m y) (y ∷ up_to m ys) (up_to m ys) t) h)
])
  where
    by : (c b : Bool) → (IsTrue (is_among (lits (up_to n (up_to m ys))) l) → IsTrue (is_among (lits (up_to n ys)) l)) → IsTrue (is_among (lits (cond b (y ∷ up_to n (up_to m ys)) (up_to n (up_to m ys)))) l) ⊎ IsTrue (is_among (lits (up_to n (up_to m ys))) l) → IsTrue (is_among (lits (cond b (y ∷ up_to n ys) (up_to n ys))) l)
    by c true r (inl h) = elim (or_cases (same l y.lit) _ h) [ inl s ↦ or_left _ _ s | inr s ↦ or_right _ _ (r s) ]
    by c false r (inl h) = r h
    by c true r (inr h) = or_right _ _ (r h)
    by c false r (inr h) = r h

-- the entries up to a level are all up to a higher one
pub up_to-wider : (ys : List Entry) (m n : ℕ) → m ≤ n → up_to n (up_to m ys) ≡ up_to m ys
up_to-wider [] m n le = refl
up_to-wider (y ∷ ys) m n le =
    elim (cases_Bool (is_up_to m y)) [
      | inl t ↦
          let u = cond-true (is_up_to m y) (y ∷ up_to m ys) (up_to m ys) t in
          ap (up_to n) u ∙ (cond-true (is_up_to n y) (y ∷ up_to n (up_to m ys)) (up_to n (up_to m ys)) (le-leb y.level n (let k = leb-true y.level m t in omega arith)) ∙ (ap (λ zs. y ∷ zs) (up_to-wider ys m n le) ∙ sym u))
      | inr t ↦
          let u = cond-false (is_up_to m y) (y ∷ up_to m ys) (up_to m ys) t in
          ap (up_to n) u ∙ (up_to-wider ys m n le ∙ sym u)
    ]

-- the levels up to m are all among the first `head` entries: so it is after a conflict above m
pub backs-undo : (es : List Entry) (head m : ℕ) (a b : Lit) → up_to m es ≡ up_to m (take head es) → Backs es head a b → Backs (up_to m es) (length (up_to m es)) a b
backs-undo es head m a b front w n h =
    let whole : take (length (up_to m es)) (up_to m es) ≡ up_to m es = take_all (length (up_to m es)) (up_to m es) (omega arith) in
    let P : List Entry → Type 0 = λ ys. IsTrue (is_among (lits (up_to n ys)) (negation a)) in
    let left : IsTrue (is_among (lits (up_to n (up_to m es))) (negation a)) = subst P whole h in
    let Q : List Entry → Type 0 = λ ys. IsTrue (is_among (lits ys) b) in
    elim (cases_lt m n) [
      | inl lt ↦
          -- above m: all of what is left is up to m
          let low : IsTrue (is_among (lits (up_to m (take head es))) (negation a)) = let R : List Entry → Type 0 = λ ys. IsTrue (is_among (lits ys) (negation a)) in subst R (up_to-wider es m n (omega arith) ∙ front) left in
          subst Q (sym (up_to-wider es m n (omega arith))) (w m low)
      | inr le ↦
          let low : IsTrue (is_among (lits (up_to n (take head es))) (negation a)) = lits-shrink (take head es) n m (negation a) (subst P front left) in
          subst Q (sym (up_to-up_to es n m le)) (w n low)
    ]

-- literals that are true stay true with more entries
pub up_to-more : (es more : List Entry) (n : ℕ) (l : Lit) → IsTrue (is_among (lits (up_to n es)) l) → IsTrue (is_among (lits (up_to n (es ++ more))) l)
up_to-more es more n l h =
    let P : List Entry → Type 0 = λ ys. IsTrue (is_among (lits ys) l) in
    subst P (sym (filter-append (is_up_to n) es more)) (left (up_to n es) (up_to n more) h)
  where
    left : (xs ys : List Entry) → IsTrue (is_among (lits xs) l) → IsTrue (is_among (lits (xs ++ ys)) l)
    left [] ys h = absurd (false≢true h)
    left (x ∷ xs) ys h = elim (or_cases (same l x.lit) (is_among (lits xs) l) h) [ inl s ↦ or_left _ _ s | inr s ↦ or_right _ _ (left xs ys s) ]

-- more entries that were not looked at
pub backs-more : (es more : List Entry) (head : ℕ) (a b : Lit) → head ≤ length es → Backs es head a b → Backs (es ++ more) head a b
backs-more es more head a b h w n m =
    let P : List Entry → Type 0 = λ ys. IsTrue (is_among (lits (up_to n ys)) (negation a)) in
    up_to-more es more n b (w n (subst P (take-append-le head es more h) m))

-- fewer entries that were looked at
pub backs-less : (es : List Entry) (head less : ℕ) (a b : Lit) → less ≤ head → Backs es head a b → Backs es less a b
backs-less es head less a b h w n m = w n (wider es head less h m)
  where
    put : (x : Entry) (xs ys : List Entry) → (IsTrue (is_among (lits (up_to n xs)) (negation a)) → IsTrue (is_among (lits (up_to n ys)) (negation a))) → IsTrue (is_among (lits (up_to n (x ∷ xs))) (negation a)) → IsTrue (is_among (lits (up_to n (x ∷ ys))) (negation a))
    put x xs ys f m =
        let P : List Entry → Type 0 = λ zs. IsTrue (is_among (lits zs) (negation a)) in
        elim (cases_Bool (is_up_to n x)) [
          | inl t ↦
              subst P (sym (cond-true (is_up_to n x) (x ∷ up_to n ys) (up_to n ys) t)) (elim (or_cases (same (negation a) x.lit) (is_among (lits (up_to n xs)) (negation a)) (subst P (cond-true (is_up_to n x) (x ∷ up_to n xs) (up_to n xs) t) m)) [ inl s ↦ or_left _ _ s | inr s ↦ or_right _ _ (f s) ])
          | inr t ↦ subst P (sym (cond-false (is_up_to n x) (x ∷ up_to n ys) (up_to n ys) t)) (f (subst P (cond-false (is_up_to n x) (x ∷ up_to n xs) (up_to n xs) t) m))
        ]

    wider : (es : List Entry) (head less : ℕ) → less ≤ head → IsTrue (is_among (lits (up_to n (take less es))) (negation a)) → IsTrue (is_among (lits (up_to n (take head es))) (negation a))
    wider es head zero h m = absurd (false≢true m)
    wider [] head (suc less) h m = absurd (false≢true m)
    wider (x ∷ xs) zero (suc less) h m = absurd (omega arith)
    wider (x ∷ xs) (suc head) (suc less) h m = put x (take less xs) (take head xs) (wider xs head less (omega arith)) m

-- ---- one entry more is looked at

-- the literals of a front and one entry more
front-more : (es : List Entry) (head n : ℕ) (d : Entry) (l : Lit) → head < length es → IsTrue (is_among (lits (up_to n (take (head + 1) es))) l) → IsTrue (is_among (lits (up_to n (take head es))) l) ⊎ ((l ≡ (get_or es head d).lit) × ((get_or es head d).level ≤ n))
front-more es head n d l b h =
    let P : List Entry → Type 0 = λ ys. IsTrue (is_among (lits (up_to n ys)) l) in
    let Q : List Entry → Type 0 = λ ys. IsTrue (is_among (lits ys) l) in
    split (take head es) (get_or es head d) (subst P (take_more es head d b) h)
  where
    one : (e : Entry) → IsTrue (is_among (lits (up_to n (e ∷ []))) l) → (l ≡ e.lit) × (e.level ≤ n)
    one e h =
        elim (cases_Bool (is_up_to n e)) [
          | inl t ↦
              let R : List Entry → Type 0 = λ ys. IsTrue (is_among (lits ys) l) in
              elim (or_cases (same l e.lit) false (subst R (cond-true (is_up_to n e) (e ∷ []) [] t) h)) [
                | inl s ↦ (same-eq l e.lit s, leb-true e.level n t)
                | inr s ↦ absurd (false≢true s)
              ]
          | inr t ↦ let R : List Entry → Type 0 = λ ys. IsTrue (is_among (lits ys) l) in absurd (false≢true (subst R (cond-false (is_up_to n e) (e ∷ []) [] t) h))
        ]

    lits-cases : (xs ys : List Entry) → IsTrue (is_among (lits (xs ++ ys)) l) → IsTrue (is_among (lits xs) l) ⊎ IsTrue (is_among (lits ys) l)
    lits-cases [] ys h = inr h
    lits-cases (x ∷ xs) ys h =
        elim (or_cases (same l x.lit) (is_among (lits (xs ++ ys)) l) h) [
          | inl s ↦ inl (or_left _ _ s)
          | inr s ↦ elim (lits-cases xs ys s) [ inl a ↦ inl (or_right _ _ a) | inr a ↦ inr a ]
        ]

    split : (xs : List Entry) (e : Entry) → IsTrue (is_among (lits (up_to n (xs ++ e ∷ []))) l) → IsTrue (is_among (lits (up_to n xs)) l) ⊎ ((l ≡ e.lit) × (e.level ≤ n))
    split xs e h =
        let S : List Entry → Type 0 = λ ys. IsTrue (is_among (lits ys) l) in
        elim (lits-cases (up_to n xs) (up_to n (e ∷ [])) (subst S (filter-append (is_up_to n) xs (e ∷ [])) h)) [
          | inl a ↦ inl a
          | inr a ↦ inr (one e a)
        ]

-- a watch that the entry does not make false
pub backs-advance : (es : List Entry) (head : ℕ) (d : Entry) (a b : Lit) → head < length es → (negation a ≡ (get_or es head d).lit → ⊥) → Backs es head a b → Backs es (head + 1) a b
backs-advance es head d a b h ne w n m =
    elim (front-more es head n d (negation a) h m) [ inl k ↦ w n k | inr k ↦ absurd (ne k.0) ]

-- a watch that it makes false, with a true partner: at no higher level, since the entry is of the last one
pub backs-true : (es : List Entry) (head : ℕ) (d : Entry) (a b : Lit) → head < length es → Backs es head a b → ((n : ℕ) → (get_or es head d).level ≤ n → IsTrue (is_among (lits (up_to n es)) b)) → Backs es (head + 1) a b
backs-true es head d a b h w t n m =
    elim (front-more es head n d (negation a) h m) [ inl k ↦ w n k | inr k ↦ t n k.1 ]

-- a watch that is not false backs whatever there is
pub backs-open : (es : List Entry) (head : ℕ) (a b : Lit) → (IsTrue (is_among (lits es) (negation a)) → ⊥) → Backs es head a b
backs-open es head a b never n m = absurd (never (lits-front es head n (negation a) m))
  where
    lits-front : (es : List Entry) (head n : ℕ) (l : Lit) → IsTrue (is_among (lits (up_to n (take head es))) l) → IsTrue (is_among (lits es) l)
    lits-front es head n l h = taken es head (up_to-among (take head es) n l h)
      where
        taken : (es : List Entry) (head : ℕ) → IsTrue (is_among (lits (take head es)) l) → IsTrue (is_among (lits es) l)
        taken es zero h = absurd (false≢true h)
        taken [] (suc head) h = absurd (false≢true h)
        taken (x ∷ xs) (suc head) h = elim (or_cases (same l x.lit) _ h) [ inl s ↦ or_left _ _ s | inr s ↦ or_right _ _ (taken xs head s) ]

-- the partner of a watch that the entry makes false is not false so far: so any new watch will do for it
pub backs-moved : (es : List Entry) (head : ℕ) (d : Entry) (a b c : Lit) → head < length es → negation a ≡ (get_or es head d).lit → same a b ≡ false → (IsTrue (is_among (lits es) a) → ⊥) → Backs es head b a → Backs es (head + 1) b c
backs-moved es head d a b c h e ne never w n m =
    elim (front-more es head n d (negation b) h m) [
      | inl k ↦ absurd (never (up_to-among es n a (w n k)))
      | inr k ↦ absurd (false≢true (sym ne ∙ same-from_eq a b (sym (negation-twice a) ∙ (ap negation (e ∙ sym k.0) ∙ negation-twice b))))
    ]

-- ---- both ways

pub backed-more : (es more : List Entry) (head : ℕ) (a b : Lit) → head ≤ length es → IsBacked es head a b → IsBacked (es ++ more) head a b
backed-more es more head a b h w = record { first = backs-more es more head a b h w.first; second = backs-more es more head b a h w.second }

pub backed-less : (es : List Entry) (head less : ℕ) (a b : Lit) → less ≤ head → IsBacked es head a b → IsBacked es less a b
backed-less es head less a b h w = record { first = backs-less es head less a b h w.first; second = backs-less es head less b a h w.second }

pub backed-swap : (es : List Entry) (head : ℕ) (a b : Lit) → IsBacked es head a b → IsBacked es head b a
backed-swap es head a b w = record { first = w.second; second = w.first }

-- the entry makes neither watch false
pub backed-advance : (es : List Entry) (head : ℕ) (d : Entry) (a b : Lit) → head < length es → (negation a ≡ (get_or es head d).lit → ⊥) → (negation b ≡ (get_or es head d).lit → ⊥) → IsBacked es head a b → IsBacked es (head + 1) a b
backed-advance es head d a b h na nb w = record { first = backs-advance es head d a b h na w.first; second = backs-advance es head d b a h nb w.second }

-- it makes a false, and b is true
pub backed-true : (es : List Entry) (head : ℕ) (d : Entry) (a b : Lit) → head < length es → (negation b ≡ (get_or es head d).lit → ⊥) → ((n : ℕ) → (get_or es head d).level ≤ n → IsTrue (is_among (lits (up_to n es)) b)) → IsBacked es head a b → IsBacked es (head + 1) a b
backed-true es head d a b h nb t w = record { first = backs-true es head d a b h w.first t; second = backs-advance es head d b a h nb w.second }

-- it makes a false, and another literal that is not false is watched instead
pub backed-moved : (es : List Entry) (head : ℕ) (d : Entry) (a b to : Lit) → head < length es → negation a ≡ (get_or es head d).lit → same a b ≡ false → (IsTrue (is_among (lits es) a) → ⊥) → (IsTrue (is_among (lits es) (negation to)) → ⊥) → IsBacked es head a b → IsBacked es (head + 1) to b
backed-moved es head d a b to h e ne never free w = record { first = backs-open es (head + 1) to b free; second = backs-moved es head d a b to h e ne never w.second }
