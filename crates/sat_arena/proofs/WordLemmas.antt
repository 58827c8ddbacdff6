-- Where the clauses lie in the words, and what the words stand for.
use Rattle.std.proofs.Common.{◌≡◌, ◌+◌, ◌<◌, ◌≤◌, ◌⊎◌, ℕ, eqb, zero, suc, Some, List, [], ◌∷◌, ◌++◌, length, map, take, get_or, refl, sym, ap, subst, ◌∙◌, inl, inr, arith}
use Rattle.std.specs.List.{Contains, IsDistinct, slice_get}
use Rattle.std.proofs.lemmas.Bool.{cases_eq, cond-true, cond-false, eqb-true, eq-eqb, ne_eqb}
use Rattle.std.proofs.lemmas.Option.{slice_get_within, get_or_from_slice_get}
use Rattle.std.proofs.lemmas.List.{take_more}
use Rattle.std.proofs.lemmas.Map.Views.{Contains-from_any}
use Rattle.std.proofs.lemmas.Map.Steps.{length-le_from_distinct_below}
use Rattle.cnf.specs.declared.lit.Lit.{Lit}
use Rattle.sat_arena.specs.Arena.{WatchedClause, clause_of}
use Rattle.sat_arena.specs.Links.{Linked, link}
use Rattle.sat_arena.specs.Words.{lits_in, clause_in, walk, list_from, lists_from, AreInOrder, IsList}
use Rattle.sat_arena.proofs.Members.{contains-none, contains-here, contains-there, contains-cases, distinct-none, distinct-more}

-- ---- the places

pub in_order-end : (words : List ℕ) (at : ℕ) (cs : List ℕ) → AreInOrder words at cs → at ≤ length words
in_order-end words at [] s = s
in_order-end words at (c ∷ cs) s = let rest = in_order-end words (c + 5 + get_or words (c + 4) 0) cs s.1 in let first = s.0 in omega arith

-- a clause is behind the point, and ends inside the words
pub in_order-at : (words : List ℕ) (at : ℕ) (cs : List ℕ) (c : ℕ) → AreInOrder words at cs → Contains cs c → (at ≤ c) × (c + 5 + get_or words (c + 4) 0 ≤ length words)
in_order-at words at [] c s h = absurd (contains-none c h)
in_order-at words at (d ∷ ds) c s h =
    elim (contains-cases d ds c h) [
      | inl e ↦
          let P : ℕ → Type 0 = λ x. (at ≤ x) × (x + 5 + get_or words (x + 4) 0 ≤ length words) in
          subst P e (s.0, in_order-end words (d + 5 + get_or words (d + 4) 0) ds s.1)
      | inr k ↦ let rest = in_order-at words (d + 5 + get_or words (d + 4) 0) ds c s.1 k in let first = s.0 in (omega (arith, rest.0), rest.1)
    ]

-- no two of them overlap
pub in_order-far : (words : List ℕ) (at : ℕ) (cs : List ℕ) (c d : ℕ) → AreInOrder words at cs → Contains cs c → Contains cs d → (c ≡ d → ⊥) → (c + 5 + get_or words (c + 4) 0 ≤ d) ⊎ (d + 5 + get_or words (d + 4) 0 ≤ c)
in_order-far words at [] c d s hc hd ne = absurd (contains-none c hc)
in_order-far words at (x ∷ xs) c d s hc hd ne =
    let behind : (y : ℕ) → Contains xs y → x + 5 + get_or words (x + 4) 0 ≤ y = λ y k. (in_order-at words (x + 5 + get_or words (x + 4) 0) xs y s.1 k).0 in
    elim (contains-cases x xs c hc) [
      | inl ec ↦
          elim (contains-cases x xs d hd) [
            | inl ed ↦ absurd (ne (sym ec ∙ ed))
            | inr kd ↦ let P : ℕ → Type 0 = λ y. y + 5 + get_or words (y + 4) 0 ≤ d in inl (subst P ec (behind d kd))
          ]
      | inr kc ↦
          elim (contains-cases x xs d hd) [
            | inl ed ↦ let P : ℕ → Type 0 = λ y. y + 5 + get_or words (y + 4) 0 ≤ c in inr (subst P ed (behind c kc))
            | inr kd ↦ in_order-far words (x + 5 + get_or words (x + 4) 0) xs c d s.1 kc kd ne
          ]
    ]

-- so none begins where another does
pub in_order-distinct : (words : List ℕ) (at : ℕ) (cs : List ℕ) → AreInOrder words at cs → IsDistinct eqb cs
in_order-distinct words at [] s = distinct-none
in_order-distinct words at (c ∷ cs) s = distinct-more c cs (λ h. let k = (in_order-at words (c + 5 + get_or words (c + 4) 0) cs c s.1 h).0 in omega arith) (in_order-distinct words (c + 5 + get_or words (c + 4) 0) cs s.1)

-- only the sizes matter
pub in_order-same : (words after : List ℕ) (at : ℕ) (cs : List ℕ) → length after ≡ length words → ((c : ℕ) → Contains cs c → get_or after (c + 4) 0 ≡ get_or words (c + 4) 0) → AreInOrder words at cs → AreInOrder after at cs
in_order-same words after at [] n f s = omega (arith, s)
in_order-same words after at (c ∷ cs) n f s =
    let P : ℕ → Type 0 = λ x. AreInOrder after (c + 5 + x) cs in
    (s.0, subst P (sym (f c (contains-here c cs))) (in_order-same words after (c + 5 + get_or words (c + 4) 0) cs n (λ d h. f d (contains-there c cs d h)) s.1))

-- ---- the clauses

-- the literal with a number
pub lit-ap : (x y : ℕ) → x ≡ y → ◌≡◌ {A = Lit} (record { 0 = x }) (record { 0 = y })
lit-ap x y e = let number : ℕ → Lit = λ n. record { 0 = n } in ap number e

pub length-lits_in : (words : List ℕ) (i n : ℕ) → length (lits_in words i n) ≡ n
length-lits_in words i zero = refl
length-lits_in words i (suc n) = ap suc (length-lits_in words (i + 1) n)

pub get_or-lits_in : (words : List ℕ) (i n k : ℕ) (d : Lit) → k < n → get_or (lits_in words i n) k d ≡ record { 0 = get_or words (i + k) 0 }
get_or-lits_in words i zero k d b = absurd (omega arith)
get_or-lits_in words i (suc n) zero d b = let e : i ≡ i + 0 = omega arith in lit-ap _ _ (ap (λ x. get_or words x 0) e)
get_or-lits_in words i (suc n) (suc k) d b =
    let e : i + 1 + k ≡ i + suc k = omega arith in
    get_or-lits_in words (i + 1) n k d (omega arith) ∙ lit-ap _ _ (ap (λ x. get_or words x 0) e)

pub lits_in-same : (words after : List ℕ) (i n : ℕ) → ((k : ℕ) → k < n → get_or after (i + k) 0 ≡ get_or words (i + k) 0) → lits_in after i n ≡ lits_in words i n
lits_in-same words after i zero f = refl
lits_in-same words after i (suc n) f =
    let P : ℕ → Type 0 = λ x. get_or after x 0 ≡ get_or words x 0 in
    let e0 : i + 0 ≡ i = omega arith in
    let first : get_or after i 0 ≡ get_or words i 0 = subst P e0 (f 0 (omega arith)) in
    let rest = lits_in-same words after (i + 1) n (λ k l. let e : i + suc k ≡ i + 1 + k = omega arith in subst P e (f (suc k) (omega arith))) in
    ap (λ x. x ∷ lits_in after (i + 1) n) (lit-ap _ _ first) ∙ ap (λ ls. record { 0 = get_or words i 0 } ∷ ls) rest

pub lits_in-is : (words : List ℕ) (i : ℕ) (ls : List Lit) → ((k : ℕ) (d : Lit) → k < length ls → get_or words (i + k) 0 ≡ (get_or ls k d).0) → lits_in words i (length ls) ≡ ls
lits_in-is words i [] f = refl
lits_in-is words i (l ∷ ls) f =
    let e0 : i + 0 ≡ i = omega arith in
    let P : ℕ → Type 0 = λ x. get_or words x 0 ≡ l.0 in
    let first : get_or words i 0 ≡ l.0 = subst P e0 (f 0 l (omega arith)) in
    let rest = lits_in-is words (i + 1) ls (λ k d b. let e : i + suc k ≡ i + 1 + k = omega arith in let Q : ℕ → Type 0 = λ x. get_or words x 0 ≡ (get_or ls k d).0 in subst Q e (f (suc k) d (omega arith))) in
    ap (λ x. x ∷ lits_in words (i + 1) (length ls)) (lit-ap _ l.0 first) ∙ ap (λ ms. l ∷ ms) rest

-- a clause by its parts
pub clause-eq : (c : ℕ) (ls ms : List Lit) (a b a' b' : ℕ) → ls ≡ ms → a ≡ a' → b ≡ b' → ◌≡◌ {A = WatchedClause} (record { index = c; lits = ls; one = record { 0 = a }; other = record { 0 = b } }) (record { index = c; lits = ms; one = record { 0 = a' }; other = record { 0 = b' } })
clause-eq c ls ms a b a' b' p q r = rw (p, q, r)

pub indexes-are : (words cs : List ℕ) → map (λ (k : WatchedClause). k.index) (map (clause_in words) cs) ≡ cs
indexes-are words [] = refl
indexes-are words (c ∷ cs) = ap (λ ds. c ∷ ds) (indexes-are words cs)

pub clause_of-are : (words cs : List ℕ) (c : ℕ) → Contains cs c → clause_of (map (clause_in words) cs) c ≡ clause_in words c
clause_of-are words [] c h = absurd (contains-none c h)
clause_of-are words (d ∷ ds) c h =
    elim (cases_eq d c) [
      | inl e ↦ cond-true (eqb d c) (clause_in words d) (clause_of (map (clause_in words) ds) c) (eq-eqb d c e) ∙ ap (clause_in words) e
      | inr ne ↦
          cond-false (eqb d c) (clause_in words d) (clause_of (map (clause_in words) ds) c) (ne_eqb d c ne)
          ∙ clause_of-are words ds c (elim (contains-cases d ds c h) [ inl e ↦ absurd (ne e) | inr k ↦ k ])
    ]

-- ---- the lists

pub length-lists_from : (words : List ℕ) (s : ℕ) (ats : List ℕ) → length (lists_from words s ats) ≡ length ats
length-lists_from words s [] = refl
length-lists_from words s (at ∷ ats) = ap suc (length-lists_from words (s + 1) ats)

pub get_or-lists_from : (words : List ℕ) (s : ℕ) (ats : List ℕ) (l : ℕ) → l < length ats → get_or (lists_from words s ats) l [] ≡ list_from words (s + l) (get_or ats l 0)
get_or-lists_from words s [] l b = absurd (omega arith)
get_or-lists_from words s (at ∷ ats) zero b = let e : s ≡ s + 0 = omega arith in ap (λ x. list_from words x at) e
get_or-lists_from words s (at ∷ ats) (suc l) b =
    let e : s + 1 + l ≡ s + suc l = omega arith in
    get_or-lists_from words (s + 1) ats l (omega arith) ∙ ap (λ x. list_from words x (get_or ats l 0)) e

walk-linked : (words : List ℕ) (l n at : ℕ) (cs : List ℕ) → ((c : ℕ) → Contains cs c → 0 < c) → length cs ≤ n → Linked (link words l) 0 at cs → walk n words l at ≡ cs
walk-linked words l zero at [] p b h = refl
walk-linked words l zero at (c ∷ cs) p b h = absurd (omega arith)
walk-linked words l (suc n) at [] p b h = cond-true (eqb at 0) [] (at ∷ walk n words l (link words l at)) (eq-eqb at 0 h)
walk-linked words l (suc n) at (c ∷ cs) p b h =
    let ne : at ≡ 0 → ⊥ = λ e. let q = p c (contains-here c cs) in let f = h.0 in omega arith in
    let P : ℕ → Type 0 = λ x. Linked (link words l) 0 (link words l x) cs in
    let rest = walk-linked words l n (link words l at) cs (λ d k. p d (contains-there c cs d k)) (omega arith) (subst P (sym h.0) h.1) in
    cond-false (eqb at 0) [] (at ∷ walk n words l (link words l at)) (ne_eqb at 0 ne) ∙ (ap (λ ds. at ∷ ds) rest ∙ ap (λ x. x ∷ cs) h.0)

-- a list of watching clauses is what the walk finds: it has fewer members than there are words
pub list_from-is : (words starts : List ℕ) (l at : ℕ) (cs : List ℕ) → AreInOrder words 1 starts → IsList words starts l at cs → list_from words l at ≡ cs
list_from-is words starts l at cs s i =
    let inside : (c : ℕ) → Contains cs c → (1 ≤ c) × (c + 5 + get_or words (c + 4) 0 ≤ length words) = λ c h. in_order-at words 1 starts c s (i.only c h).0 in
    let few = length-le_from_distinct_below cs (length words) i.distinct (λ q h. let k = inside q (Contains-from_any eqb-true q cs h) in omega (arith, k.1)) in
    walk-linked words l (length words) at cs (λ c h. omega (arith, (inside c h).0)) few i.linked

-- one more clause of a formula
pub take-get : {X : Type 0} (xs : List X) (k : ℕ) (x : X) → slice_get xs k ≡ Some x → take (k + 1) xs ≡ take k xs ++ x ∷ []
take-get xs k x e = rw (← get_or_from_slice_get xs k x x e) (take_more xs k x (slice_get_within xs k x e))
