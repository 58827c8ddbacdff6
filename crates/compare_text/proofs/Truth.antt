-- What the printed text of an answer says is true.
use Rattle.std.proofs.Common.{◌≡◌, ◌⊎◌, inl, inr, ℕ, Bool, true, false, nat_lt, List, [], ◌∷◌, ◌++◌, eq-eqb, nat_eq, refl, sym, ◌∙◌, ap, subst}
use Rattle.std.proofs.Math.Logic.{∥∥₁_map}
use Rattle.std.proofs.lemmas.Bool.{false≢true}
use Rattle.std.proofs.lemmas.List.Elements.{All-contains}
use Rattle.std.specs.Bool.{MatchBool}
use Rattle.std.specs.Prelude.{codes, drop}
use Rattle.css_model.specs.Cascade.Order.{Meet as TheyMeet}
use Rattle.css_model.specs.declared.example.Example.{Example}
use Rattle.css_model.specs.Documents.Matching.{same_pseudo}
use Rattle.css_model.specs.Documents.SelectorParts.{SelectorParts}
use Rattle.css_model.specs.Sheets.Limits.{max_stepped}
use Rattle.css_model.specs.Text.Characters.{line_feed}
use Rattle.doc_text.specs.DocText.{doc_text}
use Rattle.shape_laws.specs.Document.Laws.{ShowsMeeting}
use Rattle.overlap.specs.Answers.{IsFewAnswer, IsTrueAnswer, pair_stepped, too_many_stepped}
use Rattle.overlap.specs.Combined.{IsEvidence}
use Rattle.overlap.specs.Laws.{ApartSelectorsDoNotMeet}
use Rattle.overlap.specs.PairsParts.{Answered, PairsParts}
use Rattle.overlap.specs.Remembered.{IsAnswered, IsTrueList}
use Rattle.overlap.specs.declared.answer.Answer.{Answer}
use Rattle.overlap.specs.declared.answer.Answer.TheVariants.{Apart, Meet, Outside, Spent}
use Rattle.compare_text.specs.ComparedTexts.{answer_text, IsTextOfAnswer}

-- texts with other first letters differ
other_first : (a b : List ℕ) (c d : ℕ) (cs ds : List ℕ) → a ≡ c ∷ cs → b ≡ d ∷ ds → nat_eq c d ≡ false → a ≡ b → ⊥
other_first a b c d cs ds p q differ same = let heads : c ≡ d = let whole : c ∷ cs ≡ d ∷ ds = sym p ∙ same ∙ q in cc in false≢true (sym differ ∙ eq-eqb c d heads)

apart_of : (answer : Answer) → answer_text answer ≡ codes "disjoint" ++ line_feed ∷ [] → answer ≡ Apart
apart_of Apart is = refl
apart_of (Meet e) is = absurd (other_first (answer_text (Meet e)) (codes "disjoint" ++ line_feed ∷ []) 111 100 _ _ refl refl refl is)
apart_of (Outside reason number) is = absurd (other_first (answer_text (Outside reason number)) (codes "disjoint" ++ line_feed ∷ []) 111 100 _ _ refl refl refl is)
apart_of (Spent ledger) is = absurd (other_first (answer_text (Spent ledger)) (codes "disjoint" ++ line_feed ∷ []) 115 100 _ _ refl refl refl is)

pub disjoint_is_apart : (x y : SelectorParts) (pairs : PairsParts) (text : List ℕ) → ApartSelectorsDoNotMeet → IsTextOfAnswer x y pairs text → text ≡ codes "disjoint" ++ line_feed ∷ [] → TheyMeet x y → ⊥
disjoint_is_apart x y pairs text apart is same meet =
    let answer : is.answer ≡ Apart = apart_of is.answer (sym is.text_is ∙ same) in
    apart pairs x y is.all_true (subst (λ (a : Answer). IsAnswered pairs.answers x y a) answer is.held) meet

evidence : (x y : SelectorParts) (budget : ℕ) (e : Example) → IsTrueAnswer x y budget (Meet e) → IsEvidence e x y
evidence x y budget e h = by (same_pseudo x.pseudo y.pseudo) (nat_lt max_stepped (pair_stepped x y)) h
  where
    by : (p q : Bool) → MatchBool p (MatchBool q (Meet e ≡ Outside too_many_stepped (pair_stepped x y)) (IsFewAnswer x y budget (Meet e))) (Meet e ≡ Apart) → IsEvidence e x y
    by true true is = absurd (let bad : ⊥ = cc in bad)
    by true false (inl lacking) = absurd (let bad : ⊥ = let is = lacking.1 in cc in bad)
    by true false (inr (have, decided)) = decided.0
    by false q is = absurd (let bad : ⊥ = cc in bad)

-- the answer for two selectors that is among the true ones
shown : (x y : SelectorParts) (pairs : PairsParts) (e : Example) → ∥ IsTrueList pairs ∥₁ → IsAnswered pairs.answers x y (Meet e) → ∥ ShowsMeeting x y e ∥₁
shown x y pairs e all_true held =
    ∥∥₁_map all_true (λ t. (evidence x y pairs.budget e
    (All-contains (λ (a : Answered). IsTrueAnswer a.left a.right pairs.budget a.answer) pairs.answers (record { left = x; right = y; answer = Meet e }) t.true_answers held)).0)

meet_of : (answer : Answer) (rest : List ℕ) → answer_text answer ≡ codes "overlap" ++ line_feed ∷ rest → (e : Example) × (answer ≡ Meet e) × (rest ≡ doc_text e)
meet_of Apart rest is = absurd (other_first (answer_text Apart) (codes "overlap" ++ line_feed ∷ rest) 100 111 _ _ refl refl refl is)
meet_of (Meet e) rest is = (e, refl, ap (drop 8) (sym is))
meet_of (Outside reason number) rest is = absurd (other_first (drop 1 (answer_text (Outside reason number))) (drop 1 (codes "overlap" ++ line_feed ∷ rest)) 117 118 _ _ refl refl refl (ap (drop 1) is))
meet_of (Spent ledger) rest is = absurd (other_first (answer_text (Spent ledger)) (codes "overlap" ++ line_feed ∷ rest) 115 111 _ _ refl refl refl is)

pub overlap_shows : (x y : SelectorParts) (pairs : PairsParts) (text rest : List ℕ) → IsTextOfAnswer x y pairs text → text ≡ codes "overlap" ++ line_feed ∷ rest
    → (example : Example) × (rest ≡ doc_text example) × ∥ ShowsMeeting x y example ∥₁
overlap_shows x y pairs text rest is same =
    let met = meet_of is.answer rest (sym is.text_is ∙ same) in
    (met.0, met.2, shown x y pairs met.0 is.all_true (subst (λ (a : Answer). IsAnswered pairs.answers x y a) met.1 is.held))
