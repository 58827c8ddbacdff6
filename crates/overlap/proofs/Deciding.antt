-- What is answered, put together.
use Rattle.std.proofs.Common.{◌≡◌, ◌⊎◌, inl, inr, ℕ, ◌<◌, ◌≤◌, ◌==◌, ◌&&◌, ◌++◌, Bool, true, false, List, [], ◌∷◌, length, Option, Some, None, Result, Ok, Err, IfOk, refl, sym, ap, subst, ◌∙◌, true≢false, arith, lt-ltb, le-ltb}
use Rattle.std.specs.Prelude.{slice_index_or}
use Rattle.std.specs.Bool.{MatchBool}
use Rattle.std.specs.Cmp.{unsigned_Decides}
use Rattle.std.specs.List.{All}
use Rattle.std.proofs.lemmas.List.Elements.{All-cons, All-nil}
use Rattle.css_model.specs.Cascade.Order.{Meet as TheyMeet}
use Rattle.css_model.specs.declared.example.Example.{Example}
use Rattle.css_model.specs.declared.selector.Combinator.{Combinator}
use Rattle.css_model.specs.declared.selector.Pseudo.{Pseudo}
use Rattle.css_model.specs.declared.selector.Pseudo.TheVariants.{FirstLine, FirstLetter, Before, After}
use Rattle.css_model.specs.declared.selector.Simple.{Simple}
use Rattle.css_model.specs.Documents.Document.{Document, Target}
use Rattle.css_model.specs.Documents.FeatureParts.{FeatureParts}
use Rattle.css_model.specs.Documents.Matching.{Matches, MatchesFrom, same_pseudo}
use Rattle.css_model.specs.Documents.RunDocuments.{expand, target_of}
use Rattle.css_model.specs.Documents.SelectorParts.{SelectorParts}
use Rattle.css_model.specs.Sheets.Limits.{max_stepped}
use Rattle.compound_fit.specs.Attributes.{attribute_tests}
use Rattle.compound_fit.specs.Fitting.{AreFeatures, IsAnswer, SpacesAreLeft}
use Rattle.compound_fit.specs.Table.{AreFits, groups, target}
use Rattle.element_laws.specs.Names.{HaveNames}
use Rattle.sibling_counts.specs.Places.{ChildPasses}
use Rattle.single_examples.specs.Examples.{IsSingleExample, RootPasses}
use Rattle.single_examples.specs.Laws.{ExamplesShowMeeting, MeetingPasses, Passes, single}
use Rattle.single_examples.specs.Trying.{IsTried, NoneTried}
use Rattle.overlap.specs.declared.answer.Answer.{Answer}
use Rattle.overlap.specs.declared.answer.Answer.TheVariants.{Apart, Meet, Outside, Spent}
use Rattle.overlap.specs.declared.answer.Decision.{Decision}
use Rattle.overlap.specs.Combined.{IsCombinedAnswer}
use Rattle.overlap.specs.Answers.{IsAlikeAnswer, IsDecided, IsFewAnswer, IsTrueAnswer, are_single, pair_stepped, too_many_stepped}
use Rattle.overlap.specs.Singles.{IsSingleAnswer}

-- ---- Pseudo-elements

pub same_self : (a : Option Pseudo) → same_pseudo a a ≡ true
same_self None = refl
same_self (Some FirstLine) = refl
same_self (Some FirstLetter) = refl
same_self (Some Before) = refl
same_self (Some After) = refl

pub same_is : (a b : Option Pseudo) → same_pseudo a b ≡ true → a ≡ b
same_is None None h = refl
same_is (Some FirstLine) (Some FirstLine) h = refl
same_is (Some FirstLetter) (Some FirstLetter) h = refl
same_is (Some Before) (Some Before) h = refl
same_is (Some After) (Some After) h = refl
same_is None (Some q) h = absurd (true≢false (sym h))
same_is (Some FirstLine) None h = absurd (true≢false (sym h))
same_is (Some FirstLetter) None h = absurd (true≢false (sym h))
same_is (Some Before) None h = absurd (true≢false (sym h))
same_is (Some After) None h = absurd (true≢false (sym h))
same_is (Some FirstLine) (Some FirstLetter) h = absurd (true≢false (sym h))
same_is (Some FirstLine) (Some Before) h = absurd (true≢false (sym h))
same_is (Some FirstLine) (Some After) h = absurd (true≢false (sym h))
same_is (Some FirstLetter) (Some FirstLine) h = absurd (true≢false (sym h))
same_is (Some FirstLetter) (Some Before) h = absurd (true≢false (sym h))
same_is (Some FirstLetter) (Some After) h = absurd (true≢false (sym h))
same_is (Some Before) (Some FirstLine) h = absurd (true≢false (sym h))
same_is (Some Before) (Some FirstLetter) h = absurd (true≢false (sym h))
same_is (Some Before) (Some After) h = absurd (true≢false (sym h))
same_is (Some After) (Some FirstLine) h = absurd (true≢false (sym h))
same_is (Some After) (Some FirstLetter) h = absurd (true≢false (sym h))
same_is (Some After) (Some Before) h = absurd (true≢false (sym h))

-- ---- From the cases to the whole

pub other_pseudo : (x y : SelectorParts) → (x.pseudo ≡ y.pseudo → ⊥) → (budget : ℕ) → IsTrueAnswer x y budget Apart
other_pseudo x y other budget = by (same_pseudo x.pseudo y.pseudo) refl
  where
    by : (b : Bool) → same_pseudo x.pseudo y.pseudo ≡ b → MatchBool b (IsAlikeAnswer x y budget Apart) (Apart ≡ Apart)
    by true e = absurd (other (same_is x.pseudo y.pseudo e))
    by false e = refl

pub alike_pseudo : (x y : SelectorParts) (budget : ℕ) (answer : Answer) → x.pseudo ≡ y.pseudo → IsAlikeAnswer x y budget answer → IsTrueAnswer x y budget answer
alike_pseudo x y budget answer e h =
    subst (λ (b : Bool). MatchBool b (IsAlikeAnswer x y budget answer) (answer ≡ Apart)) (sym (subst (λ (p : Option Pseudo). same_pseudo x.pseudo p ≡ true) e (same_self x.pseudo))) h

pub many_stepped : (x y : SelectorParts) (budget n : ℕ) → n ≡ pair_stepped x y → max_stepped < n → IsAlikeAnswer x y budget (Outside too_many_stepped n)
many_stepped x y budget n e l =
    subst (λ (b : Bool). MatchBool b (Outside too_many_stepped n ≡ Outside too_many_stepped (pair_stepped x y)) (IsFewAnswer x y budget (Outside too_many_stepped n)))
    (sym (lt-ltb max_stepped (pair_stepped x y) (let k : max_stepped < pair_stepped x y = subst (λ m. max_stepped < m) e l in k))) (ap (λ m. Outside too_many_stepped m) e)

pub few_stepped : (x y : SelectorParts) (budget : ℕ) (answer : Answer) → pair_stepped x y ≤ max_stepped → IsFewAnswer x y budget answer → IsAlikeAnswer x y budget answer
few_stepped x y budget answer l h =
    subst (λ (b : Bool). MatchBool b (answer ≡ Outside too_many_stepped (pair_stepped x y)) (IsFewAnswer x y budget answer)) (sym (le-ltb max_stepped (pair_stepped x y) l)) h

fits_leave : (fits : List (Option FeatureParts)) (gs : List (List Simple)) → AreFits fits gs → All (λ g. SpacesAreLeft (attribute_tests g)) gs
fits_leave [] [] h = All-nil (λ (g : List Simple). SpacesAreLeft (attribute_tests g))
fits_leave [] (g ∷ gs) h = absurd h
fits_leave (f ∷ fits) [] h = absurd h
fits_leave (f ∷ fits) (g ∷ gs) h = All-cons (λ (g : List Simple). SpacesAreLeft (attribute_tests g)) g gs h.0.0 (fits_leave fits gs h.1)

pub fitted : (x y : SelectorParts) (budget : ℕ) (fits : List (Option FeatureParts)) (answer : Answer) → AreFits fits (groups x.chain y.chain) → IsDecided x y budget answer → IsFewAnswer x y budget answer
fitted x y budget fits answer h d = inr (fits_leave fits (groups x.chain y.chain) h, d)

-- ---- Selectors of one compound

-- the first group is that of both compounds
pub first_fits : (x y : SelectorParts) (c d : List Simple) (fits : List (Option FeatureParts)) (o : Option FeatureParts) → x.chain ≡ c ∷ [] → y.chain ≡ d ∷ [] →
    AreFits fits (groups x.chain y.chain) → o ≡ slice_index_or fits 0 o → IsAnswer o (c ++ d)
first_fits x y c d fits o e f h is = by fits (subst (λ (n : List (List Simple)). AreFits fits (groups (c ∷ []) n)) f (subst (λ (m : List (List Simple)). AreFits fits (groups m y.chain)) e h)) is
  where
    by : (fs : List (Option FeatureParts)) → AreFits fs (groups (c ∷ []) (d ∷ [])) → o ≡ slice_index_or fs 0 o → IsAnswer o (c ++ d)
    by [] h i = absurd h
    by (g ∷ gs) h i = subst (λ (q : Option FeatureParts). IsAnswer q (c ++ d)) (sym i) h.0.1

pub some_fits : (x y : SelectorParts) (fits : List (Option FeatureParts)) → AreFits fits (groups x.chain y.chain) → 0 < length fits
some_fits x y [] h = absurd h
some_fits x y (f ∷ fits) h = omega arith

-- by the laws of one compound
pub meet_single : ExamplesShowMeeting → (x y : List Simple) (p : Option Pseudo) (e : Example) (f : FeatureParts) (o : Option FeatureParts) (found : Option Example) → HaveNames x → HaveNames y → IsAnswer o (x ++ y) → o ≡ Some f →
    found ≡ Some e → IsTried found (x ++ y) f p → IsSingleAnswer x y p (Meet e)
meet_single law x y p e f o found hx hy features g is tried =
    let t : IsTried (Some e) (x ++ y) f p = subst (λ (q : Option Example). IsTried q (x ++ y) f p) is tried in
    let fits : AreFeatures f (x ++ y) = subst (λ (q : Option FeatureParts). IsAnswer q (x ++ y)) g features in
    (law x y p e hx hy t.0 (f, fits, t.1), (f, fits, t.1))

pub apart_tried : MeetingPasses → (x y : List Simple) (p : Option Pseudo) (f : FeatureParts) (found : Option Example) → found ≡ None → IsTried found (x ++ y) f p → TheyMeet (single x p) (single y p) → ⊥
apart_tried law x y p f found is tried meet = none (subst (λ (q : Option Example). IsTried q (x ++ y) f p) is tried) (law x y p p meet)
  where
    none : NoneTried (x ++ y) → Passes (x ++ y) → ⊥
    none (inl refused) passes = refused passes.empties
    none (inr (child, root, other)) passes = at passes.position
      where
        at : ((before : ℕ) × (behind : ℕ) × ChildPasses (x ++ y) before behind) ⊎ ((root_is_child : Bool) × RootPasses root_is_child (x ++ y)) → ⊥
        at (inl (b, a, h)) = child b a h
        at (inr (true, h)) = other h
        at (inr (false, h)) = root h

pub apart_unfit : MeetingPasses → (x y : List Simple) (p : Option Pseudo) (o : Option FeatureParts) → IsAnswer o (x ++ y) → o ≡ None → TheyMeet (single x p) (single y p) → ⊥
apart_unfit law x y p o unfit is meet = (subst (λ (q : Option FeatureParts). IsAnswer q (x ++ y)) is unfit) (law x y p p meet).features

-- a selector and its parts
matches_to : (doc : Document) (t : Target) (x : SelectorParts) (c : List Simple) (p : Option Pseudo) → x.chain ≡ c ∷ [] → x.links ≡ [] → x.pseudo ≡ p → Matches doc t x → Matches doc t (single c p)
matches_to doc t x c p e f g h = record {
  pseudo = h.pseudo ∙ g;
  element = subst (λ (chain : List (List Simple)). MatchesFrom doc chain [] t.path) e (subst (λ (links : List Combinator). MatchesFrom doc x.chain links t.path) f h.element);
}

matches_from : (doc : Document) (t : Target) (x : SelectorParts) (c : List Simple) (p : Option Pseudo) → x.chain ≡ c ∷ [] → x.links ≡ [] → x.pseudo ≡ p → Matches doc t (single c p) → Matches doc t x
matches_from doc t x c p e f g h = record {
  pseudo = h.pseudo ∙ sym g;
  element = subst (λ (links : List Combinator). MatchesFrom doc x.chain links t.path) (sym f) (subst (λ (chain : List (List Simple)). MatchesFrom doc chain [] t.path) (sym e) h.element);
}

are_one : (x y : SelectorParts) (c d : List Simple) → x.chain ≡ c ∷ [] → y.chain ≡ d ∷ [] → are_single x y ≡ true
are_one x y c d e f = ap (λ (m : List (List Simple)). (length m == 1) && (length y.chain == 1)) e ∙ ap (λ (n : List (List Simple)). (length (c ∷ []) == 1) && (length n == 1)) f

pub single_decided : (x y : SelectorParts) (budget : ℕ) (c d : List Simple) (answer : Answer) → x.chain ≡ c ∷ [] → y.chain ≡ d ∷ [] → x.links ≡ [] → y.links ≡ [] → x.pseudo ≡ y.pseudo →
    IsSingleAnswer c d x.pseudo answer → IsDecided x y budget answer
single_decided x y budget c d Apart e f g h p is = λ meet. is (record {
  doc = meet.doc;
  target = meet.target;
  legal = meet.legal;
  first = matches_to meet.doc meet.target x c x.pseudo e g refl meet.first;
  second = matches_to meet.doc meet.target y d x.pseudo f h (sym p) meet.second;
})
single_decided x y budget c d (Meet ex) e f g h p is = (
  (
    record {
      rules = is.0.0.rules;
      legal = is.0.0.legal;
      left = matches_from (expand ex) (target_of ex) x c x.pseudo e g refl is.0.0.left;
      right = matches_from (expand ex) (target_of ex) y d x.pseudo f h (sym p) is.0.0.right;
    },
    (let l = is.0.1 in omega arith),
  ),
  λ one. subst (λ (n : List (List Simple)). IsSingleExample ex (target x.chain ++ target n) x.pseudo) (sym f) (subst (λ (m : List (List Simple)). IsSingleExample ex (target m ++ d) x.pseudo) (sym e) is.1),
)
single_decided x y budget c d (Outside r n) e f g h p is = absurd is
single_decided x y budget c d (Spent l) e f g h p is = absurd is

pub few_result : {E : Type 0} (x y : SelectorParts) (budget : ℕ) (fits : List (Option FeatureParts)) (r : Result Decision E) → AreFits fits (groups x.chain y.chain) → IfOk r (λ d. IsDecided x y budget d.answer) → IfOk r (λ d. IsFewAnswer x y budget d.answer)
few_result x y budget fits (Ok a) h d = fitted x y budget fits a.answer h d
few_result x y budget fits (Err e) h d = d

-- a chain that is not of one compound
pub not_single : (x y : SelectorParts) → (length x.chain ≡ 1 → length y.chain ≡ 1 → ⊥) → are_single x y ≡ false
not_single x y apart = by (length x.chain == 1) (length y.chain == 1) refl refl
  where
    by : (a b : Bool) → (length x.chain == 1) ≡ a → (length y.chain == 1) ≡ b → (a && b) ≡ false
    by true true e f = absurd (apart ((unsigned_Decides (length x.chain) 1).0 e) ((unsigned_Decides (length y.chain) 1).0 f))
    by true false e f = refl
    by false b e f = refl

-- ---- Selectors with a combinator

combined_decided : (x y : SelectorParts) (budget : ℕ) (answer : Answer) → are_single x y ≡ false → IsCombinedAnswer x y budget answer → IsDecided x y budget answer
combined_decided x y budget Apart e h = h
combined_decided x y budget (Meet ex) e h = (h, λ one. absurd (true≢false (sym one ∙ e)))
combined_decided x y budget (Outside r n) e h = h
combined_decided x y budget (Spent l) e h = (e, h)

pub combined_result : {E : Type 0} (x y : SelectorParts) (budget : ℕ) (r : Result Decision E) → are_single x y ≡ false → IfOk r (λ d. IsCombinedAnswer x y budget d.answer) → IfOk r (λ d. IsDecided x y budget d.answer)
combined_result x y budget (Ok d) e h = combined_decided x y budget d.answer e h
combined_result x y budget (Err n) e h = h
