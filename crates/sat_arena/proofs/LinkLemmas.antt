-- Linked lists, and what a write to a link leaves of them.
use Rattle.std.proofs.Common.{◌≡◌, ◌+◌, ◌<◌, ◌⊎◌, ℕ, cond, eqb, List, [], ◌∷◌, ◌++◌, length, set, get_or, sym, ap, subst, ◌∙◌, inl, inr, arith}
use Rattle.std.specs.List.{Contains, IsDistinct}
use Rattle.std.proofs.lemmas.Bool.{cases_Bool, cond-true, cond-false, eq-eqb, ne_eqb}
use Rattle.std.proofs.lemmas.List.{get_or-set_same, get_or-set_other}
use Rattle.std.proofs.lemmas.Map.Keys.{IsDistinct-tail}
use Rattle.sat_arena.specs.Links.{Linked, slot, link}
use Rattle.sat_arena.proofs.Members.{contains-here, contains-there, distinct-apart, distinct-middle}

-- only the members' links matter
pub linked-same : (next after : ℕ → ℕ) (end at : ℕ) (cs : List ℕ) → ((c : ℕ) → Contains cs c → after c ≡ next c) → Linked next end at cs → Linked after end at cs
linked-same next after end at [] f h = h
linked-same next after end at (c ∷ cs) f h =
    let P : ℕ → Type 0 = λ x. Linked next end x cs in
    (h.0, linked-same next after end (after c) cs (λ d k. f d (contains-there c cs d k)) (subst P (sym (f c (contains-here c cs))) h.1))

-- a write to p's link takes the member behind p out
pub linked-behind : (next after : ℕ → ℕ) (end at : ℕ) (xs : List ℕ) (p c : ℕ) (cs : List ℕ) → IsDistinct eqb (xs ++ p ∷ c ∷ cs) → ((d : ℕ) → Contains (xs ++ p ∷ cs) d → (d ≡ p → ⊥) → after d ≡ next d) → after p ≡ next c → Linked next end at (xs ++ p ∷ c ∷ cs) → Linked after end at (xs ++ p ∷ cs)
linked-behind next after end at [] p c cs a f e h =
    let P : ℕ → Type 0 = λ x. Linked after end x cs in
    let other : (d : ℕ) → Contains cs d → d ≡ p → ⊥ = λ d k q. distinct-apart p (c ∷ cs) a (contains-there c cs p (subst (Contains cs) q k)) in
    (h.0, subst P (sym e) (linked-same next after end (next c) cs (λ d k. f d (contains-there p cs d k) (other d k)) h.1.1))
linked-behind next after end at (x ∷ xs) p c cs a f e h =
    let P : ℕ → Type 0 = λ y. Linked next end y (xs ++ p ∷ c ∷ cs) in
    let rest = IsDistinct-tail eqb x (xs ++ p ∷ c ∷ cs) a in
    let first = f x (contains-here x (xs ++ p ∷ cs)) (distinct-middle x xs p (c ∷ cs) a) in
    (h.0, linked-behind next after end (after x) xs p c cs rest (λ d k. f d (contains-there x (xs ++ p ∷ cs) d k)) e (subst P (sym first) h.1))

-- ---- the links in the words

pub slot-cases : (words : List ℕ) (l c : ℕ) → (slot words l c ≡ c + 1) ⊎ (slot words l c ≡ c + 3)
slot-cases words l c =
    elim (cases_Bool (eqb (get_or words c 0) l)) [
      | inl t ↦ inl (cond-true (eqb (get_or words c 0) l) (c + 1) (c + 3) t)
      | inr t ↦ inr (cond-false (eqb (get_or words c 0) l) (c + 1) (c + 3) t)
    ]

pub slot-one : (words : List ℕ) (l c : ℕ) → get_or words c 0 ≡ l → slot words l c ≡ c + 1
slot-one words l c e = cond-true (eqb (get_or words c 0) l) (c + 1) (c + 3) (eq-eqb _ _ e)

pub slot-other : (words : List ℕ) (l c : ℕ) → (get_or words c 0 ≡ l → ⊥) → slot words l c ≡ c + 3
slot-other words l c n = cond-false (eqb (get_or words c 0) l) (c + 1) (c + 3) (ne_eqb _ _ n)

-- a write anywhere but to the first watch leaves the slots
slot-set : (words : List ℕ) (i v l d : ℕ) → (d ≡ i → ⊥) → slot (set words i v) l d ≡ slot words l d
slot-set words i v l d ne = ap (λ x. cond (eqb x l) (d + 1) (d + 3)) (get_or-set_other words i d v 0 ne)

pub link-set : (words : List ℕ) (l c v : ℕ) → slot words l c < length words → link (set words (slot words l c) v) l c ≡ v
link-set words l c v b =
    let s = slot words l c in
    let stays = slot-set words s v l c (elim (slot-cases words l c) [ inl e ↦ λ q. omega arith | inr e ↦ λ q. omega arith ]) in
    ap (λ i. get_or (set words s v) i 0) stays ∙ get_or-set_same words s v 0 b

-- a clause's links in the lists of its two watches are two words
pub link-set_other : (words : List ℕ) (l m c v : ℕ) → get_or words c 0 ≡ l → (l ≡ m → ⊥) → (link (set words (slot words l c) v) m c ≡ link words m c) × (link (set words (slot words m c) v) l c ≡ link words l c)
link-set_other words l m c v w ne =
    let first = slot-one words l c w in
    let second = slot-other words m c (λ q. ne (sym w ∙ q)) in (
      ap (λ i. get_or (set words (slot words l c) v) i 0) (slot-set words (slot words l c) v m c (λ q. omega arith)) ∙ get_or-set_other words (slot words l c) (slot words m c) v 0 (λ q. omega arith),
      ap (λ i. get_or (set words (slot words m c) v) i 0) (slot-set words (slot words m c) v l c (λ q. omega arith)) ∙ get_or-set_other words (slot words m c) (slot words l c) v 0 (λ q. omega arith),
    )
