-- Parts of a rule that may be in it more than once, by their digests.
use Rattle.std.proofs.Common.{◌≡◌, ℕ, zero, suc, ◌+◌, ◌<◌, ◌≤◌, ◌==◌, Bool, cond, List, [], ◌∷◌, Option, Some, length, map, get_or, refl, sym, ap, subst, inl, inr, ◌∙◌, arith, false, true}
use Rattle.std.specs.Prelude.{IfSome, IsTrue, slice_get}
use Rattle.std.specs.BTreeMap.{is_at}
use Rattle.std.specs.BTreeSet.{BTreeSet, contains}
use Rattle.std.specs.List.{Contains, list_any, remove, sum_by}
use Rattle.std.specs.List.Sorted.{IsNonDecreasingBy, IsPermutation}
use Rattle.std.specs.Ordering.{nat_cmp}
use Rattle.std.proofs.lemmas.Bool.{cases_eq, eq-eqb, false≢true, ne_eqb}
use Rattle.std.proofs.lemmas.List.Kept.{AllPairs-cons}
use Rattle.std.proofs.lemmas.List.Sorted.{sum_by-IsPermutation}
use Rattle.std.proofs.lemmas.List.Sums.{sum_by-cons}
use Rattle.std.proofs.lemmas.List.{get_or-map, get_or_default, length-map}
use Rattle.std.proofs.lemmas.List.Elements.{All-contains_itself}
use Rattle.css_model.specs.declared.sheet.SelItem.{SelItem}
use Rattle.css_model.specs.Documents.SelectorParts.{SelectorParts}
use Rattle.order_laws.proofs.ForCallers.{has_selector_is, map_has, sels}
use Rattle.order_laws.specs.Members.{has_selector}
use Rattle.next_step.specs.Once.{StandOnce}
use Rattle.next_step.specs.Repeated.{HasPartsTwice, HasTwice}
use Rattle.next_step.proofs.Differing.{no_other}

module _ {X Y : Type 0} (part : X → Y) (digest : Y → ℕ) where
  -- parts that are alike have one digest
  pub by_digests : (xs : List X) (numbers : List ℕ) (set : BTreeSet ℕ) → numbers ≡ map (λ x. digest (part x)) xs → HasTwice numbers set → HasPartsTwice part digest xs set
  by_digests xs numbers set are twice = λ i j d less within same.
      let all : HasTwice (map (λ x. digest (part x)) xs) set = subst (λ (ns : List ℕ). HasTwice ns set) are twice in
      let one : get_or (map (λ x. digest (part x)) xs) i (digest (part d)) ≡ digest (part (get_or xs i d)) = get_or-map (λ x. digest (part x)) xs i d (digest (part d)) (omega (arith, less, within)) in
      let other : get_or (map (λ x. digest (part x)) xs) j (digest (part d)) ≡ digest (part (get_or xs j d)) = get_or-map (λ x. digest (part x)) xs j d (digest (part d)) within in
      subst (λ (n : ℕ). IsTrue (contains nat_cmp set n)) one (all i j (digest (part d)) less (rw length-map within) (one ∙ ap digest same ∙ sym other))

  -- parts that stand once need none
  pub by_once : (xs : List X) (set : BTreeSet ℕ) → StandOnce part xs → HasPartsTwice part digest xs set
  by_once xs set once = λ i j d less within same. absurd (once i j d less within same)

  module _ (xs : List X) (digests : Option (BTreeSet ℕ)) (repeats : IfSome digests (HasPartsTwice part digest xs)) where
    told : (set : BTreeSet ℕ) → digests ≡ Some set → HasPartsTwice part digest xs set
    told set is = subst (λ (o : Option (BTreeSet ℕ)). IfSome o (HasPartsTwice part digest xs)) is repeats

    -- a part whose digest is not told is not among the others
    pub lacked_once : (n : ℕ) (x : X) → slice_get xs n ≡ Some x → ((set : BTreeSet ℕ) × (digests ≡ Some set) × (contains nat_cmp set (digest (part x)) ≡ false)) → Contains (map part (remove xs n)) (part x) → ⊥
    lacked_once n x at (set, is, lacks) =
        no_other part xs n x (λ i j d less within same is_x.
        false≢true (sym lacks ∙ subst (λ (y : Y). IsTrue (contains nat_cmp set (digest y))) is_x (told set is i j d less within same))) at

    -- where no digest is told, each part stands once
    pub none_once : ((n : ℕ) → (set : BTreeSet ℕ) × (digests ≡ Some set) × (contains nat_cmp set n ≡ false)) → StandOnce part xs
    none_once none = λ i j d less within same.
        let lacks = none (digest (part (get_or xs i d))) in
        false≢true (sym lacks.2 ∙ told lacks.0 lacks.1 i j d less within same)

-- an empty set has no number
pub none_inside : (set : BTreeSet ℕ) → set.keys ≡ [] → (n : ℕ) → contains nat_cmp set n ≡ false
none_inside set none n = ap (list_any (is_at (nat_cmp n))) none

-- ---- Selectors

-- a selector that is not again among others that stand once
pub more_once : (rest behind : List SelItem) (x : SelItem) → rest ≡ x ∷ behind → has_selector behind x.selector ≡ false → StandOnce (λ (s : SelItem). s.selector) behind → StandOnce (λ (s : SelItem). s.selector) rest
more_once rest behind x is none once =
    subst (StandOnce (λ (s : SelItem). s.selector)) (sym is) (AllPairs-cons (λ (a b : SelItem). a.selector ≡ b.selector → ⊥) x behind
    (λ k d within same. false≢true (sym none ∙ (has_selector_is behind x.selector).1
    (subst (λ (z : SelectorParts). Contains (sels behind) z) (sym same) (map_has (λ (y : SelItem). y.selector) behind (get_or behind k d) (All-contains_itself behind k d within))))) once)

pub none_stand : (rest : List SelItem) → rest ≡ [] → StandOnce (λ (s : SelItem). s.selector) rest
none_stand rest is = subst (StandOnce (λ (s : SelItem). s.selector)) (sym is) (λ i j d less within same. absurd (omega (arith, within)))

-- ---- Numbers that ascend

pub either_true : (a b : Bool) → b ≡ true → cond a true b ≡ true
either_true true b is = refl
either_true false b is = is

pub ascends_behind : (x : ℕ) (xs : List ℕ) → IsNonDecreasingBy (λ (n : ℕ). n) (x ∷ xs) → IsNonDecreasingBy (λ (n : ℕ). n) xs
ascends_behind x xs ascends = λ i j d most less. ascends (suc i) (suc j) d (omega (arith, most)) (let l : j < length xs = less in omega (arith, l))

-- a number that is behind itself is the next one
pub next_is : (x y : ℕ) (ys : List ℕ) → IsNonDecreasingBy (λ (n : ℕ). n) (x ∷ y ∷ ys) → Contains (y ∷ ys) x → y ≡ x
next_is x y ys ascends (k, less, is) =
    let first : x ≤ y = ascends 0 1 x (omega arith) (omega arith) in
    let rest : y ≤ get_or (y ∷ ys) k x = ascends 1 (suc k) x (omega arith) (let l : k < length (y ∷ ys) = less in omega (arith, l)) in
    let last : get_or (y ∷ ys) k x ≡ x = is in
    omega (arith, first, rest, last)

pub none_twice : (set : BTreeSet ℕ) → HasTwice [] set
none_twice set = λ i j d less within same. absurd (omega (arith, within))

-- the first one and the others
pub with_first : (x : ℕ) (xs : List ℕ) (set : BTreeSet ℕ) → (Contains xs x → IsTrue (contains nat_cmp set x)) → HasTwice xs set → HasTwice (x ∷ xs) set
with_first x xs set first rest = AllPairs-cons (λ m n. m ≡ n → IsTrue (contains nat_cmp set m)) x xs (λ k d less same. first (k, less, sym (same_default k d less) ∙ sym same)) rest
  where
    same_default : (k d : ℕ) → k < length xs → get_or xs k d ≡ get_or xs k x
    same_default k d less = get_or_default xs k d x less

-- ---- Numbers in another order

abbrev one : ℕ → ℕ → ℕ
one m n = cond (m == n) 1 0

one_is : (m n : ℕ) → m ≡ n → one m n ≡ 1
one_is m n same = ap (λ (b : Bool). cond b 1 0) (eq-eqb m n same)

one_less : (m n : ℕ) → one m n ≤ 1
one_less m n = which (m == n)
  where
    which : (b : Bool) → cond b 1 0 ≤ 1
    which true = omega arith
    which false = omega arith

some_one : (m : ℕ) (xs : List ℕ) (j d : ℕ) → j < length xs → m ≡ get_or xs j d → 1 ≤ sum_by (one m) xs
some_one m [] j d less same = absurd (omega (arith, less))
some_one m (x ∷ xs) zero d less same =
    let sum : sum_by (one m) (x ∷ xs) ≡ one m x + sum_by (one m) xs = sum_by-cons (one m) x xs in let own : one m x ≡ 1 = one_is m x same in omega (arith, sum, own)
some_one m (x ∷ xs) (suc j) d less same =
    let sum : sum_by (one m) (x ∷ xs) ≡ one m x + sum_by (one m) xs = sum_by-cons (one m) x xs in
    let ih : 1 ≤ sum_by (one m) xs = some_one m xs j d (omega (arith, less)) same in omega (arith, sum, ih)

two : (m : ℕ) (xs : List ℕ) (i j d : ℕ) → i < j → j < length xs → m ≡ get_or xs i d → m ≡ get_or xs j d → 2 ≤ sum_by (one m) xs
two m [] i j d less within here there = absurd (omega (arith, within))
two m (x ∷ xs) i zero d less within here there = absurd (omega (arith, less))
two m (x ∷ xs) zero (suc j) d less within here there =
    let sum : sum_by (one m) (x ∷ xs) ≡ one m x + sum_by (one m) xs = sum_by-cons (one m) x xs in let own : one m x ≡ 1 = one_is m x here in
    let rest : 1 ≤ sum_by (one m) xs = some_one m xs j d (omega (arith, within)) there in omega (arith, sum, own, rest)
two m (x ∷ xs) (suc i) (suc j) d less within here there =
    let sum : sum_by (one m) (x ∷ xs) ≡ one m x + sum_by (one m) xs = sum_by-cons (one m) x xs in
    let ih : 2 ≤ sum_by (one m) xs = two m xs i j d (omega (arith, less)) (omega (arith, within)) here there in omega (arith, sum, ih)

none_of : (m : ℕ) (xs : List ℕ) → ((j d : ℕ) → j < length xs → m ≡ get_or xs j d → ⊥) → sum_by (one m) xs ≡ 0
none_of m [] none = refl
none_of m (x ∷ xs) none =
    let sum : sum_by (one m) (x ∷ xs) ≡ one m x + sum_by (one m) xs = sum_by-cons (one m) x xs in
    let own : one m x ≡ 0 = ap (λ (b : Bool). cond b 1 0) (ne_eqb m x (none 0 x (omega arith))) in
    let ih : sum_by (one m) xs ≡ 0 = none_of m xs (λ j d less same. none (suc j) d (let l : j < length xs = less in omega (arith, l)) same) in
    omega (arith, sum, own, ih)

at_most_one : (m : ℕ) (xs : List ℕ) (set : BTreeSet ℕ) → (IsTrue (contains nat_cmp set m) → ⊥) → HasTwice xs set → sum_by (one m) xs ≤ 1
at_most_one m [] set lacks twice = omega arith
at_most_one m (x ∷ xs) set lacks twice = elim (cases_eq m x) [
  | inl same ↦ (
      let rest : sum_by (one m) xs ≡ 0 = none_of m xs (λ j d less is. lacks (subst (λ (n : ℕ). IsTrue (contains nat_cmp set n)) (sym same) (twice 0 (suc j) d (omega arith) (let l : j < length xs = less in omega (arith, l)) (sym same ∙ is)))) in
      omega (arith, sum, rest, one_less m x))
  | inr other ↦ (
      let ih : sum_by (one m) xs ≤ 1 = at_most_one m xs set lacks (λ i j d less within. twice (suc i) (suc j) d (omega (arith, less)) (let l : j < length xs = within in omega (arith, l))) in
      let own : one m x ≡ 0 = ap (λ (b : Bool). cond b 1 0) (ne_eqb m x other) in
      omega (arith, sum, ih, own))
]
  where
    sum : sum_by (one m) (x ∷ xs) ≡ one m x + sum_by (one m) xs
    sum = sum_by-cons (one m) x xs

pub in_any_order : (xs ys : List ℕ) (set : BTreeSet ℕ) → IsPermutation xs ys → HasTwice ys set → HasTwice xs set
in_any_order xs ys set permuted twice = λ i j d less within same. which i j d less within same (contains nat_cmp set (get_or xs i d)) refl
  where
    which : (i j d : ℕ) → i < j → j < length xs → get_or xs i d ≡ get_or xs j d → (b : Bool) → contains nat_cmp set (get_or xs i d) ≡ b → IsTrue (contains nat_cmp set (get_or xs i d))
    which i j d less within same true has = has
    which i j d less within same false lacks =
        let many : 2 ≤ sum_by (one (get_or xs i d)) xs = two (get_or xs i d) xs i j d less within refl same in
        let few : sum_by (one (get_or xs i d)) ys ≤ 1 = at_most_one (get_or xs i d) ys set (λ has. false≢true (sym lacks ∙ has)) twice in
        let alike : sum_by (one (get_or xs i d)) ys ≡ sum_by (one (get_or xs i d)) xs = sum_by-IsPermutation (one (get_or xs i d)) xs ys permuted in
        absurd (omega (arith, many, few, alike))
