-- What is held of a selector and `*`.
use Rattle.std.proofs.Common.{◌≡◌, ◌⊎◌, inl, inr, ℕ, zero, suc, ◌+◌, ◌<◌, ◌≤◌, Bool, true, false, List, [], length, append-nil, Option, Some, None, Result, Ok, Err, IfOk, refl, sym, ap, subst, ◌∙◌, true≢false, arith, le-ltb}
use Rattle.std.specs.Prelude.{nat_lt, ◌==◌, ◌&&◌}
use Rattle.std.specs.Bool.{MatchBool}
use Rattle.std.specs.List.{All, Contains}
use Rattle.std.proofs.Math.Logic.{∥∥₁_elim, ∥∥₁_map}
use Rattle.std.proofs.Math.Nat.{ℕ_set}
use Rattle.std.proofs.lemmas.List.Elements.{All-contains, All-nil}
use Rattle.css_model.specs.declared.selector.Pseudo.{Pseudo}
use Rattle.css_model.specs.declared.selector.Pseudo.TheVariants.{FirstLine, FirstLetter, Before, After}
use Rattle.css_model.specs.Documents.Document.{Document, Target, IsLegal}
use Rattle.css_model.specs.Documents.Matching.{Matches, same_pseudo}
use Rattle.css_model.specs.Documents.SelectorParts.{SelectorParts}
use Rattle.css_model.specs.Selectors.Profile.{IsInProfile}
use Rattle.css_model.specs.Sheets.Limits.{max_stepped}
use Rattle.overlap.specs.Answers.{IsAlikeAnswer, IsFewAnswer, IsDecided, IsTrueAnswer, LackSpaces, HaveSpaces, no_space_left, pair_stepped, too_many_stepped}
use Rattle.overlap.specs.declared.answer.Answer.{Answer}
use Rattle.overlap.specs.declared.answer.Answer.TheVariants.{Apart, Meet, Outside, Spent}
use Rattle.overlap.specs.PairsParts.{Answered, PairsParts}
use Rattle.overlap.specs.Remembered.{Asks, IsAnswered, IsHeld, IsOfOther, IsTrueList, IsUnknown}
use Rattle.pair_laws.specs.Profile.Limited.{ProfileKeepsTheLimits}
use Rattle.selector_laws.specs.Limits.{KeepsLimits}
use Rattle.dead_sel.specs.declared.living.Life.{Life}
use Rattle.dead_sel.specs.Living.{every, life_by, answer_by, IsLife, IsTrueLife, MatchesNothing}
use Rattle.dead_sel.proofs.Star.{every_matches, few_with_every}

-- what is held is not unknown
pub not_unknown : (answers : List Answered) (x y : SelectorParts) → IsHeld answers x y → IsUnknown answers x y → ⊥
not_unknown answers x y held none = All-contains (IsOfOther x y) answers (record { left = x; right = y; answer = held.0 }) none held.1 (refl, refl)

-- where nothing was asked, nothing was added
pub asks_nothing : (p : PairsParts) (x y : SelectorParts) → Asks p p x y
asks_nothing p x y = record { budget = refl; more = []; is = sym (append-nil p.answers); only = All-nil (λ e. (e.left ≡ x) × (e.right ≡ y)) }

-- ---- What a true answer says

same_self : (a : Option Pseudo) → same_pseudo a a ≡ true
same_self None = refl
same_self (Some FirstLine) = refl
same_self (Some FirstLetter) = refl
same_self (Some Before) = refl
same_self (Some After) = refl

-- the two tests before the decision never answer
few : (s : SelectorParts) (budget : ℕ) (answer : Answer) → KeepsLimits s → IsTrueAnswer s (every s.pseudo) budget answer → IsFewAnswer s (every s.pseudo) budget answer
few s budget answer h k =
    let alike : IsAlikeAnswer s (every s.pseudo) budget answer = subst (λ (b : Bool). MatchBool b (IsAlikeAnswer s (every s.pseudo) budget answer) (answer ≡ Apart)) (same_self s.pseudo) k in
    subst (λ (b : Bool). MatchBool b (answer ≡ Outside too_many_stepped (pair_stepped s (every s.pseudo))) (IsFewAnswer s (every s.pseudo) budget answer))
    (le-ltb max_stepped (pair_stepped s (every s.pseudo)) (few_with_every s s.pseudo h)) alike

-- a selector that is not of one compound has more than one
many : (n : ℕ) → 1 ≤ n → ((n == 1) && true) ≡ false → 1 < n
many zero h e = absurd (omega arith)
many (suc zero) h e = absurd (true≢false e)
many (suc (suc n)) h e = omega arith

true_life : (s : SelectorParts) (budget : ℕ) (answer : Answer) → KeepsLimits s → IsFewAnswer s (every s.pseudo) budget answer →
    IsTrueLife s budget (life_by answer) × (answer ≡ answer_by (life_by answer))
true_life s budget Apart h (inl (lack, e)) = cc
true_life s budget Apart h (inr (have, apart)) =
    (λ doc target legal m. apart (record { doc = doc; target = target; legal = legal; first = m; second = every_matches doc target s m }), refl)
true_life s budget (Meet x) h (inl (lack, e)) = cc
true_life s budget (Meet x) h (inr (have, (evidence, single))) =
    (record { rules = evidence.0.rules; legal = evidence.0.legal; matches = evidence.0.left; short = evidence.1 }, refl)
true_life s budget (Outside reason number) h (inl (lack, e)) = (lack, e)
true_life s budget (Outside reason number) h (inr (have, none)) = absurd none
true_life s budget (Spent ledger) h (inl (lack, e)) = cc
true_life s budget (Spent ledger) h (inr (have, (more, spent))) = ((many (length s.chain) h.some more, spent), refl)

pub of_held : (p : PairsParts) (s : SelectorParts) (answer : Answer) → KeepsLimits s → ∥ IsTrueList p ∥₁ → IsAnswered p.answers s (every s.pseudo) answer →
    ∥ IsTrueLife s p.budget (life_by answer) × (answer ≡ answer_by (life_by answer)) ∥₁
of_held p s answer h list held = ∥∥₁_map list (λ t. true_life s p.budget answer h (few s p.budget answer h
    (All-contains (λ e. IsTrueAnswer e.left e.right p.budget e.answer) p.answers (record { left = s; right = every s.pseudo; answer = answer }) t.true_answers held)))

-- ---- The answer that a life tells

abbrev reason_in : Answer → ℕ
reason_in (Outside reason number) = reason
reason_in _ = 0

abbrev number_in : Answer → ℕ
number_in (Outside reason number) = number
number_in _ = 0

pub answer_is : (answer : Answer) → ∥ answer ≡ answer_by (life_by answer) ∥₁ → answer ≡ answer_by (life_by answer)
answer_is Apart h = refl
answer_is (Meet x) h = refl
answer_is (Spent ledger) h = refl
answer_is (Outside reason number) h =
    let r : reason ≡ no_space_left = ∥∥₁_elim h (ℕ_set reason no_space_left) (λ e. ap reason_in e) in
    let n : number ≡ 0 = ∥∥₁_elim h (ℕ_set number 0) (λ e. ap number_in e) in
    ap (λ (m : ℕ). Outside m number) r ∙ ap (λ (m : ℕ). Outside no_space_left m) n

life_is : ProfileKeepsTheLimits → (p : PairsParts) (s all : SelectorParts) (answer : Answer) (life : Life) → IsInProfile s → all ≡ every s.pseudo → ∥ IsTrueList p ∥₁ →
    IsAnswered p.answers s all answer → life ≡ life_by answer → IsLife p.answers s life
life_is limits p s all answer life profile is list held e =
    let at : IsAnswered p.answers s (every s.pseudo) answer = subst (λ x. IsAnswered p.answers s x answer) is held in
    let told = answer_is answer (∥∥₁_map (of_held p s answer (limits s profile) list at) (λ t. t.1)) in
    subst (λ a. IsAnswered p.answers s (every s.pseudo) a) (told ∙ ap answer_by (sym e)) at

life_is_true : ProfileKeepsTheLimits → (p : PairsParts) (s all : SelectorParts) (answer : Answer) (life : Life) → IsInProfile s → all ≡ every s.pseudo → ∥ IsTrueList p ∥₁ →
    IsAnswered p.answers s all answer → life ≡ life_by answer → ∥ IsTrueLife s p.budget life ∥₁
life_is_true limits p s all answer life profile is list held e =
    let at : IsAnswered p.answers s (every s.pseudo) answer = subst (λ x. IsAnswered p.answers s x answer) is held in
    subst (λ l. ∥ IsTrueLife s p.budget l ∥₁) (sym e) (∥∥₁_map (of_held p s answer (limits s profile) list at) (λ t. t.0))

-- ---- The same of a copy, which may not be made

pub copied_life : {E : Type 0} (r : Result Life E) → ProfileKeepsTheLimits → (p : PairsParts) (s all : SelectorParts) (answer : Answer) → IsInProfile s → all ≡ every s.pseudo → ∥ IsTrueList p ∥₁ →
    IsAnswered p.answers s all answer → IfOk r (λ life. life ≡ life_by answer) → IfOk r (λ life. IsLife p.answers s life)
copied_life (Ok life) limits p s all answer profile is list held e = life_is limits p s all answer life profile is list held e
copied_life (Err error) limits p s all answer profile is list held e = e

pub copied_life_is_true : {E : Type 0} (r : Result Life E) → ProfileKeepsTheLimits → (p : PairsParts) (s all : SelectorParts) (answer : Answer) → IsInProfile s → all ≡ every s.pseudo → ∥ IsTrueList p ∥₁ →
    IsAnswered p.answers s all answer → IfOk r (λ life. life ≡ life_by answer) → IfOk r (λ life. ∥ IsTrueLife s p.budget life ∥₁)
copied_life_is_true (Ok life) limits p s all answer profile is list held e = life_is_true limits p s all answer life profile is list held e
copied_life_is_true (Err error) limits p s all answer profile is list held e = e
