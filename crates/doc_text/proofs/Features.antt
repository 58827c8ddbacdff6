-- Which lines may stand in a document, as a test.
use Rattle.std.proofs.Common.{ℕ, ◌≡◌, ◌≢◌, ◌<◌, ◌^◌, ◌↔◌, Bool, true, not, ◌==◌, List, [], ◌∷◌, map, length, take, drop, get_or, subst, ◌-◌, refl, sym, ap, ◌∙◌, arith}
use Rattle.std.specs.Prelude.{nat_lt}
use Rattle.std.specs.List.{AllByRecursion}
use Rattle.std.specs.List.Sorted.{IsStrictlySortedBy}
use Rattle.std.specs.Cmp.Lexicographic.{nat_list_cmp_total, slice_cmp}
use Rattle.std.specs.Ordering.{is_lt, nat_cmp}
use Rattle.std.specs.declared.cmp.Ordering.{Ordering}
use Rattle.std.specs.declared.cmp.Ordering.TheVariants.{Less, Equal, Greater}
use Rattle.std.proofs.lemmas.Bool.{and_from, and_parts, false≢true, lt-ltb, ltb-true, ne_eqb}
use Rattle.std.proofs.lemmas.List.Elements.{All-cons, All-from_recursion, recursion_from_All}
use Rattle.std.proofs.Math.Seq.{take-length}
use Rattle.css_model.specs.declared.example.RunLine.{RunLine}
use Rattle.css_model.specs.Documents.Document.{IsText}
use Rattle.css_model.specs.Documents.FeatureParts.{FeatureParts}
use Rattle.css_model.specs.Documents.RunDocuments.{AreRunFeatures}
use Rattle.doc_text.specs.Elements.{AreTexts, IsLine, are_features, ascend, ascend_behind, have_names}

names : List (List ℕ × List ℕ) → List (List ℕ)
names attrs = map (λ a. a.0) attrs

less_is : (o : Ordering) → is_lt o ≡ true → o ≡ Less
less_is Less e = refl
less_is Equal e = absurd (false≢true e)
less_is Greater e = absurd (false≢true e)

-- a name below the first of ascending ones is below all
below_all : (x y : List ℕ) (ys : List (List ℕ)) → slice_cmp nat_cmp x y ≡ Less → AllByRecursion (λ z. slice_cmp nat_cmp y z ≡ Less) ys → AllByRecursion (λ z. slice_cmp nat_cmp x z ≡ Less) ys
below_all x y [] less all = tt
below_all x y (z ∷ zs) less all = (nat_list_cmp_total.trans x y z less all.0, below_all x y zs less all.1)

sorted_behind : (name : List ℕ) (attrs : List (List ℕ × List ℕ)) → ascend_behind name attrs ≡ true → AllByRecursion (λ z. slice_cmp nat_cmp name z ≡ Less) (names attrs) × IsStrictlySortedBy (slice_cmp nat_cmp) (names attrs)
unfolding names IsStrictlySortedBy
sorted_behind name [] e = (tt, tt)
sorted_behind name (a ∷ attrs) e =
    let both = and_parts (is_lt (slice_cmp nat_cmp name a.0)) (ascend_behind a.0 attrs) e in
    let less = less_is (slice_cmp nat_cmp name a.0) both.0 in
    let later = sorted_behind a.0 attrs both.1 in
    ((less, below_all name a.0 (names attrs) less later.0), later)

sorted_to : (attrs : List (List ℕ × List ℕ)) → ascend attrs ≡ true → IsStrictlySortedBy (slice_cmp nat_cmp) (names attrs)
unfolding names IsStrictlySortedBy
sorted_to [] e = tt
sorted_to (a ∷ attrs) e = sorted_behind a.0 attrs e

behind_from : (name : List ℕ) (attrs : List (List ℕ × List ℕ)) → AllByRecursion (λ z. slice_cmp nat_cmp name z ≡ Less) (names attrs) → IsStrictlySortedBy (slice_cmp nat_cmp) (names attrs) → ascend_behind name attrs ≡ true
unfolding names IsStrictlySortedBy
behind_from name [] below sorted = refl
behind_from name (a ∷ attrs) below sorted = and_from (is_lt (slice_cmp nat_cmp name a.0)) (ascend_behind a.0 attrs) (ap is_lt below.0) (behind_from a.0 attrs sorted.0 sorted.1)

sorted_from : (attrs : List (List ℕ × List ℕ)) → IsStrictlySortedBy (slice_cmp nat_cmp) (names attrs) → ascend attrs ≡ true
unfolding names IsStrictlySortedBy
sorted_from [] sorted = refl
sorted_from (a ∷ attrs) sorted = behind_from a.0 attrs sorted.0 sorted.1

-- a text that is not empty
some_to : (text : List ℕ) → not (length text == 0) ≡ true → text ≢ []
some_to [] e none = false≢true e
some_to (c ∷ cs) e none = let size : length (c ∷ cs) ≡ 0 = ap length none in omega (arith, size)

some_from : (text : List ℕ) → text ≢ [] → not (length text == 0) ≡ true
some_from [] some = absurd (some refl)
some_from (c ∷ cs) some = ap not (ne_eqb (length (c ∷ cs)) 0 (omega arith))

named_to : (attrs : List (List ℕ × List ℕ)) → AllByRecursion (λ a. IsText a.0 × IsText a.1) attrs → have_names attrs ≡ true → AllByRecursion (λ a. IsText a.0 × (a.0 ≢ []) × IsText a.1) attrs
named_to [] texts e = tt
named_to (a ∷ attrs) texts e =
    let both = and_parts (not (length a.0 == 0)) (have_names attrs) e in
    ((texts.0.0, some_to a.0 both.0, texts.0.1), named_to attrs texts.1 both.1)

named_from : (attrs : List (List ℕ × List ℕ)) → AllByRecursion (λ a. IsText a.0 × (a.0 ≢ []) × IsText a.1) attrs → have_names attrs ≡ true
named_from [] all = refl
named_from (a ∷ attrs) all = and_from (not (length a.0 == 0)) (have_names attrs) (some_from a.0 all.0.1) (named_from attrs all.1)

features_to : (f : FeatureParts) → IsText f.kind → AreTexts f.attrs → are_features f ≡ true → AreRunFeatures f
unfolding names
features_to f kind texts e =
    let one = and_parts (nat_lt f.flags 512) _ e in
    let two = and_parts (not (length f.kind == 0)) _ one.1 in
    let three = and_parts (have_names f.attrs) (ascend f.attrs) two.1 in
    let low = ltb-true f.flags 512 one.0 in
    record {
      kind = (kind, some_to f.kind two.0);
      attributes = All-from_recursion (λ a. IsText a.0 × (a.0 ≢ []) × IsText a.1) f.attrs (named_to f.attrs (recursion_from_All (λ a. IsText a.0 × IsText a.1) f.attrs texts) three.0);
      ascending = sorted_to f.attrs three.1;
      flags = omega (arith, low);
    }

features_from : (f : FeatureParts) → AreRunFeatures f → are_features f ≡ true
unfolding names
features_from f good =
    let low = good.flags in
    and_from (nat_lt f.flags 512) _ (lt-ltb f.flags 512 (omega (arith, low)))
    (and_from (not (length f.kind == 0)) _ (some_from f.kind good.kind.1)
    (and_from (have_names f.attrs) (ascend f.attrs) (named_from f.attrs (recursion_from_All (λ a. IsText a.0 × (a.0 ≢ []) × IsText a.1) f.attrs good.attributes)) (sorted_from f.attrs good.ascending)))

pub line_decided : (l : RunLine) (b : Bool) → IsText l.element.kind → AreTexts l.element.attrs → 0 < l.count → l.count < 2 ^ 32 → l.depth < 2 ^ 32 → b ≡ are_features l.element → (b ≡ true) ↔ IsLine l
line_decided l b kind texts some count depth is = (
  λ e. record { features = features_to l.element kind texts (sym is ∙ e); some = some; count = count; depth = depth },
  λ line. is ∙ features_from l.element line.features,
)

-- where the first are texts and the rest are, all are
pub see_more : (xs : List (List ℕ × List ℕ)) (d e : List ℕ × List ℕ) → 0 < length xs → IsText (get_or xs 0 d).0 → IsText (get_or xs 0 e).1 → AreTexts (take (length xs - 1) (drop 1 xs)) → AreTexts xs
see_more [] d e some first second rest = absurd (omega arith)
see_more (x ∷ xs) d e some first second rest =
    let all : take (length (x ∷ xs) - 1) xs ≡ xs = let size : length (x ∷ xs) - 1 ≡ length xs = omega arith in ap (λ (n : ℕ). take n xs) size ∙ take-length xs in
    All-cons (λ a. IsText a.0 × IsText a.1) x xs (first, second) (subst AreTexts all rest)
