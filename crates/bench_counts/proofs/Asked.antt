-- The kinds of answers, as pairs are asked for one after the other.
use Rattle.std.proofs.Common.{◌≡◌, ℕ, suc, ◌+◌, ◌<◌, List, [], ◌∷◌, ◌++◌, length, map, take, get_or, append_assoc, append-nil, refl, sym, ap, subst, ◌∙◌, arith}
use Rattle.std.specs.List.{flat_map}
use Rattle.std.proofs.lemmas.Grind.{flat_map-append}
use Rattle.std.proofs.lemmas.List.{map-append}
use Rattle.std.proofs.lemmas.List.Elements.{All-append, All-nil, All-push}
use Rattle.std.proofs.Math.Seq.{take-suc}
use Rattle.css_model.specs.Documents.SelectorParts.{SelectorParts}
use Rattle.overlap.specs.PairsParts.{Answered}
use Rattle.bench_counts.specs.declared.answering.Kind.{Kind}
use Rattle.bench_counts.specs.Asking.{AddsKinds, AreKinds, IsKind, IsTrueFor, kind_of, row}

pair_of : Answered → SelectorParts × SelectorParts
pair_of a = (a.left, a.right)

pub none_asked : (budget : ℕ) → AreKinds budget [] []
none_asked budget = record { answers = []; of_each = refl; are_true = All-nil (IsTrueFor budget); kinds_are = refl }

one_asked : (budget : ℕ) (x y : SelectorParts) (kind : Kind) → IsKind budget x y kind → AreKinds budget ((x, y) ∷ []) (kind ∷ [])
one_asked budget x y kind h =
    let a : Answered = record { left = x; right = y; answer = h.0 } in
    record {
      answers = a ∷ [];
      of_each = refl;
      are_true = All-push (IsTrueFor budget) [] a (All-nil (IsTrueFor budget)) h.1;
      kinds_are = ap (λ (k : Kind). k ∷ []) h.2;
    }

more_asked : (budget : ℕ) (xs ys : List (SelectorParts × SelectorParts)) (ks ls : List Kind) → AreKinds budget xs ks → AreKinds budget ys ls → AreKinds budget (xs ++ ys) (ks ++ ls)
more_asked budget xs ys ks ls h g = record {
  answers = h.answers ++ g.answers;
  of_each = map-append (λ (a : Answered). (a.left, a.right)) h.answers g.answers ∙ ap (λ (zs : List (SelectorParts × SelectorParts)). zs ++ map (λ a. (a.left, a.right)) g.answers) h.of_each
      ∙ ap (λ (zs : List (SelectorParts × SelectorParts)). xs ++ zs) g.of_each;
  are_true = All-append (IsTrueFor budget) h.answers g.answers h.are_true g.are_true;
  kinds_are = ap (λ (zs : List Kind). zs ++ ls) h.kinds_are ∙ ap (λ (zs : List Kind). map (λ a. kind_of a.answer) h.answers ++ zs) g.kinds_are
      ∙ sym (map-append (λ (a : Answered). kind_of a.answer) h.answers g.answers);
}

-- the next one of some selectors is asked, with the same first one
pub row_next : (budget : ℕ) (x y : SelectorParts) (all : List SelectorParts) (i : ℕ) (kind : Kind) (old now : List Kind) → i < length all → y ≡ get_or all i y →
    AddsKinds budget (row x (take i all)) old now → IsKind budget x y kind → AddsKinds budget (row x (take (i + 1) all)) old (now ++ kind ∷ [])
row_next budget x y all i kind old now below at h k =
    let next : suc i ≡ i + 1 = omega arith in
    let more : take i all ++ y ∷ [] ≡ take (i + 1) all =
    ap (λ (z : SelectorParts). take i all ++ z ∷ []) at ∙ sym (take-suc all i y below) ∙ ap (λ (n : ℕ). take n all) next in
    let longer : row x (take i all) ++ (x, y) ∷ [] ≡ row x (take (i + 1) all) =
    sym (map-append (λ (z : SelectorParts). (x, z)) (take i all) (y ∷ [])) ∙ ap (row x) more in (
      h.0 ++ kind ∷ [],
      subst (λ (asked : List (SelectorParts × SelectorParts)). AreKinds budget asked (h.0 ++ kind ∷ [])) longer
          (more_asked budget (row x (take i all)) ((x, y) ∷ []) h.0 (kind ∷ []) h.1 (one_asked budget x y kind k)),
      ap (λ (zs : List Kind). zs ++ kind ∷ []) h.2 ∙ append_assoc old h.0 (kind ∷ []),
    )

-- the next one is asked with all
pub all_next : (budget : ℕ) (x : SelectorParts) (all : List SelectorParts) (i : ℕ) (old new : List Kind) → i < length all → x ≡ get_or all i x →
    AreKinds budget (flat_map (λ z. row z all) (take i all)) old → AddsKinds budget (row x all) old new → AreKinds budget (flat_map (λ z. row z all) (take (i + 1) all)) new
all_next budget x all i old new below at h a =
    let next : suc i ≡ i + 1 = omega arith in
    let more : take i all ++ x ∷ [] ≡ take (i + 1) all =
    ap (λ (z : SelectorParts). take i all ++ z ∷ []) at ∙ sym (take-suc all i x below) ∙ ap (λ (n : ℕ). take n all) next in
    let longer : flat_map (λ z. row z all) (take i all) ++ row x all ≡ flat_map (λ z. row z all) (take (i + 1) all) =
    ap (λ (zs : List (SelectorParts × SelectorParts)). flat_map (λ z. row z all) (take i all) ++ zs) (sym (append-nil (row x all)))
    ∙ sym (flat_map-append (λ (z : SelectorParts). row z all) (take i all) (x ∷ [])) ∙ ap (flat_map (λ z. row z all)) more in
    subst (λ (asked : List (SelectorParts × SelectorParts)). AreKinds budget asked new) longer
    (subst (λ (ks : List Kind). AreKinds budget (flat_map (λ z. row z all) (take i all) ++ row x all) ks) (sym a.2)
    (more_asked budget (flat_map (λ z. row z all) (take i all)) (row x all) old a.0 h a.1))
