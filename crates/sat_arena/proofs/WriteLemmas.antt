-- What writes to the words of one clause leave of the others.
use Rattle.std.proofs.Common.{◌≡◌, ◌+◌, ◌<◌, ◌≤◌, ◌⊎◌, ℕ, cond, eqb, List, length, set, get_or, sym, ap, subst, ◌∙◌, inl, inr, arith}
use Rattle.std.specs.List.{Contains}
use Rattle.std.proofs.lemmas.Bool.{cases_eq}
use Rattle.std.proofs.lemmas.List.{get_or-set_other, length-set}
use Rattle.sat_arena.specs.Links.{slot, link}
use Rattle.sat_arena.specs.Words.{AreInOrder}
use Rattle.sat_arena.proofs.LinkLemmas.{slot-cases}
use Rattle.sat_arena.proofs.WordLemmas.{in_order-far}

-- the watches of a clause and their links are the same
pub record SameHead (words after : List ℕ) (d : ℕ) : Type 0 where
  pub one : get_or after d 0 ≡ get_or words d 0
  pub one_link : get_or after (d + 1) 0 ≡ get_or words (d + 1) 0
  pub other : get_or after (d + 2) 0 ≡ get_or words (d + 2) 0
  pub other_link : get_or after (d + 3) 0 ≡ get_or words (d + 3) 0

pub head-then : (words between after : List ℕ) (d : ℕ) → SameHead words between d → SameHead between after d → SameHead words after d
head-then words between after d a b = record { one = b.one ∙ a.one; one_link = b.one_link ∙ a.one_link; other = b.other ∙ a.other; other_link = b.other_link ∙ a.other_link }

head-outside : (words : List ℕ) (i v d : ℕ) → (i < d) ⊎ (d + 4 ≤ i) → SameHead words (set words i v) d
head-outside words i v d far = record {
  one = get_or-set_other words i d v 0 (λ q. elim far [ inl f ↦ omega arith | inr f ↦ omega arith ]);
  one_link = get_or-set_other words i (d + 1) v 0 (λ q. elim far [ inl f ↦ omega arith | inr f ↦ omega arith ]);
  other = get_or-set_other words i (d + 2) v 0 (λ q. elim far [ inl f ↦ omega arith | inr f ↦ omega arith ]);
  other_link = get_or-set_other words i (d + 3) v 0 (λ q. elim far [ inl f ↦ omega arith | inr f ↦ omega arith ]);
}

pub head-link : (words after : List ℕ) (d m : ℕ) → SameHead words after d → link after m d ≡ link words m d
head-link words after d m h =
    let slots : slot after m d ≡ slot words m d = ap (λ x. cond (eqb x m) (d + 1) (d + 3)) h.one in
    let P : ℕ → Type 0 = λ i. get_or after i 0 ≡ get_or words i 0 in
    ap (λ i. get_or after i 0) slots ∙ elim (slot-cases words m d) [ inl e ↦ subst P (sym e) h.one_link | inr e ↦ subst P (sym e) h.other_link ]

-- a write to the head of one clause leaves the head of another
pub head-set : (words starts : List ℕ) (c i v d : ℕ) → AreInOrder words 1 starts → Contains starts c → c ≤ i → i < c + 4 → Contains starts d → (d ≡ c → ⊥) → SameHead words (set words i v) d
head-set words starts c i v d s hc low high hd ne =
    head-outside words i v d (elim (in_order-far words 1 starts c d s hc hd (λ e. ne (sym e))) [ inl f ↦ inl (omega arith) | inr f ↦ inr (omega arith) ])

-- the sizes and the literals of all clauses are the same
pub record SameBodies (words after starts : List ℕ) : Type 0 where
  pub size : length after ≡ length words
  pub rest : (d k : ℕ) → Contains starts d → k ≤ get_or words (d + 4) 0 → get_or after (d + 4 + k) 0 ≡ get_or words (d + 4 + k) 0

pub bodies-size : (words after starts : List ℕ) (d : ℕ) → SameBodies words after starts → Contains starts d → get_or after (d + 4) 0 ≡ get_or words (d + 4) 0
bodies-size words after starts d b h =
    let e : d + 4 + 0 ≡ d + 4 = omega arith in
    let P : ℕ → Type 0 = λ i. get_or after i 0 ≡ get_or words i 0 in
    subst P e (b.rest d 0 h (omega arith))

pub bodies-lit : (words after starts : List ℕ) (d k : ℕ) → SameBodies words after starts → Contains starts d → k < get_or words (d + 4) 0 → get_or after (d + 5 + k) 0 ≡ get_or words (d + 5 + k) 0
bodies-lit words after starts d k b h l =
    let e : d + 4 + (k + 1) ≡ d + 5 + k = omega arith in
    let P : ℕ → Type 0 = λ i. get_or after i 0 ≡ get_or words i 0 in
    subst P e (b.rest d (k + 1) h (omega arith))

pub bodies-then : (words between after starts : List ℕ) → SameBodies words between starts → SameBodies between after starts → SameBodies words after starts
bodies-then words between after starts a b = record {
  size = b.size ∙ a.size;
  rest = λ d k h l. let e = bodies-size words between starts d a h in b.rest d k h (omega arith) ∙ a.rest d k h l;
}

pub bodies-set : (words starts : List ℕ) (c i v : ℕ) → AreInOrder words 1 starts → Contains starts c → c ≤ i → i < c + 4 → SameBodies words (set words i v) starts
bodies-set words starts c i v s hc low high = record {
  size = length-set words i v;
  rest = λ d k h l. get_or-set_other words i (d + 4 + k) v 0 (λ q. elim (cases_eq c d) [
    | inl e ↦ omega arith
    | inr ne ↦ elim (in_order-far words 1 starts c d s hc h ne) [ inl f ↦ omega arith | inr f ↦ omega arith ]
  ]);
}
