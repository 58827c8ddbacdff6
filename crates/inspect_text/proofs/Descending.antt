-- Entries of different ranks that are sorted: each is greater than those after it.
use Rattle.std.proofs.Common.{◌≡◌, ℕ, zero, suc, ◌<◌, true, false, List, [], ◌∷◌, length, get_or, refl, sym, ap₂, ◌∙◌, arith}
use Rattle.std.specs.Prelude.{IsPermutation, IsSortedBy}
use Rattle.std.specs.Cmp.{IsStrictWeakOrder}
use Rattle.std.specs.Cmp.Lexicographic.{bytes_decides}
use Rattle.std.specs.List.{IsDistinct}
use Rattle.std.proofs.lemmas.Bool.{false≢true, false_from_ne_true, true_from_ne_false}
use Rattle.std.proofs.lemmas.Bool.Decides.{nat_tests}
use Rattle.std.proofs.lemmas.List.Elements.{All-from_recursion, All-get_or}
use Rattle.std.proofs.lemmas.List.Sorted.{sorted_far}
use Rattle.std.proofs.lemmas.Map.Keys.{IsDistinct-IsPermutation, IsDistinct-head, IsDistinct-tail}
use Rattle.cascade_laws.proofs.ForCallers.{exceeds-not_transitive}
use Rattle.css_model.specs.Cascade.Winner.{exceeds}
use Rattle.inspect_laws.specs.Entries.{Entry}
use Rattle.inspect_laws.specs.Order.{AreOrdered, outranks, rank, same_rank}
use Rattle.inspect_laws.proofs.ForCallers.{flips, not_itself, outranks_chain}

pub one_way : (e f : Entry) → outranks e f ≡ true → outranks f e ≡ false
one_way e f h = false_from_ne_true (outranks f e) (λ back. false≢true (sym (not_itself e) ∙ outranks_chain e f e h back))

pub weak : IsStrictWeakOrder outranks
weak = record { one_way = one_way; chain = λ e f g h i. exceeds-not_transitive (rank e) (rank f) (rank g) refl h i }

-- two lists of one length, none of which exceeds the other, are equal
neither : (xs ys : List ℕ) → length xs ≡ length ys → exceeds xs ys ≡ false → exceeds ys xs ≡ false → xs ≡ ys
neither [] [] l h g = refl
neither [] (y ∷ ys) l h g = absurd (omega arith)
neither (x ∷ xs) [] l h g = absurd (omega arith)
neither (x ∷ xs) (y ∷ ys) l h g =
    let e : x ≡ y = grind (arith, nat_tests) in
    let h' : exceeds xs ys ≡ false = grind (arith, nat_tests) in
    let g' : exceeds ys xs ≡ false = grind (arith, nat_tests) in
    ap₂ (λ n ns. n ∷ ns) e (neither xs ys (omega arith) h' g')

distinct_at : (es : List Entry) → IsDistinct same_rank es → (i j : ℕ) (d : Entry) → i < j → j < length es → same_rank (get_or es i d) (get_or es j d) ≡ false
distinct_at [] apart i j d before within = absurd (omega arith)
distinct_at (e ∷ es) apart i zero d before within = absurd (omega arith)
distinct_at (e ∷ es) apart zero (suc j) d before within =
    All-get_or (λ (f : Entry). same_rank e f ≡ false) es j d (omega (arith, within)) (All-from_recursion (λ (f : Entry). same_rank e f ≡ false) es (IsDistinct-head same_rank e es apart))
distinct_at (e ∷ es) apart (suc i) (suc j) d before within = distinct_at es (IsDistinct-tail same_rank e es apart) i j d (omega (arith, before)) (omega (arith, within))

pub in_order : (all sorted : List Entry) → IsDistinct same_rank all → IsPermutation all sorted → IsSortedBy outranks sorted → AreOrdered all sorted
in_order all sorted apart moved up = record {
  same = moved;
  descending = λ i j d before within. true_from_ne_false (outranks (get_or sorted i d) (get_or sorted j d)) (λ under.
      let back : outranks (get_or sorted j d) (get_or sorted i d) ≡ false = sorted_far outranks weak sorted up i j d (omega (arith, before)) within in
      let same : rank (get_or sorted i d) ≡ rank (get_or sorted j d) = neither (rank (get_or sorted i d)) (rank (get_or sorted j d)) refl under back in
      false≢true (sym (distinct_at sorted (IsDistinct-IsPermutation same_rank flips all sorted moved apart) i j d before within)
      ∙ (bytes_decides (rank (get_or sorted i d)) (rank (get_or sorted j d))).1 same));
}
