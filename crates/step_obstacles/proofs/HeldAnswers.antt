-- Answers that are held.
use Rattle.std.proofs.Common.{◌≡◌, ◌⊎◌, ℕ, suc, ◌+◌, ◌<◌, ◌≤◌, true, List, [], ◌∷◌, ◌++◌, length, map, Option, Some, None, inl, inr, refl, sym, ap, ◌∙◌, subst, arith}
use Rattle.std.specs.List.{All, AllPairs, Contains}
use Rattle.std.proofs.Math.Logic.{∥∥₁_elim, ∥∥₁_map}
use Rattle.std.proofs.lemmas.Bool.{cases_lt}
use Rattle.std.proofs.lemmas.List.{length-append}
use Rattle.std.proofs.lemmas.List.Elements.{Contains-append_left}
use Rattle.css_model.specs.Documents.SelectorParts.{SelectorParts}
use Rattle.obstacles.specs.Bounds.{AreWithin, IsReached}
use Rattle.order_laws.proofs.ForCallers.{map_has, map_from}
use Rattle.overlap.specs.declared.answer.Answer.{Answer}
use Rattle.overlap.specs.declared.answer.Answer.TheVariants.{Apart, Meet, Outside, Spent}
use Rattle.overlap.specs.Laws.{ApartSelectorsDoNotMeet}
use Rattle.overlap.specs.PairsParts.{Answered, PairsParts}
use Rattle.overlap.specs.Remembered.{IsAnswered, IsOfOther, IsTrueList, Asks}
use Rattle.sheet_order.specs.Laws.{is_apart, answer_seen}
use Rattle.step_laws.specs.Free as steps
use Rattle.step_obstacles.specs.Asking.{AskedParts, Stays}

-- ---- What is held stays, within a bound

within_itself : (most : Option ℕ) (n : ℕ) → AreWithin most n n
within_itself None n = tt
within_itself (Some most) n = inr (omega arith)

within_on : (most : Option ℕ) (k l m : ℕ) → AreWithin most k l → AreWithin most l m → AreWithin most k m
within_on None k l m f g = tt
within_on (Some most) k l m f (inl few) = inl few
within_on (Some most) k l m (inl few) (inr less) = inl (omega (arith, few, less))
within_on (Some most) k l m (inr same) (inr less) = inr (omega (arith, same, less))

pub stays_itself : (p : AskedParts) → Stays p p
stays_itself p = record { budget = refl; most = refl; held = λ x y answer h. h; within = within_itself p.most (length p.answers) }

pub stays_on : (p q r : AskedParts) → Stays p q → Stays q r → Stays p r
stays_on p q r f g = record {
  budget = g.budget ∙ f.budget;
  most = g.most ∙ f.most;
  held = λ x y answer h. g.held x y answer (f.held x y answer h);
  within = within_on p.most (length p.answers) (length q.answers) (length r.answers) f.within (subst (λ (most : Option ℕ). AreWithin most (length q.answers) (length r.answers)) f.most g.within);
}

-- what is held stays among what is seen
pub stays_among : (old new : AskedParts) → Stays old new → steps.AreAmong (map answer_seen old.answers) (map answer_seen new.answers)
stays_among old new stays a inside =
    let from = map_from answer_seen old.answers a inside in
    subst (λ (x : steps.Answered). Contains (map answer_seen new.answers) x) from.2 (map_has answer_seen new.answers from.0 (stays.held from.0.left from.0.right from.0.answer from.1))

-- ---- One answer is asked for

-- of two answers behind others one is for another pair
other_pair : (xs : List Answered) (a b : Answered) (rest : List Answered) → AllPairs (λ e f. IsOfOther e.left e.right f) (xs ++ a ∷ b ∷ rest) → IsOfOther a.left a.right b
other_pair [] a b rest once = once 0 1 a (omega arith) (omega arith)
other_pair (x ∷ xs) a b rest once = other_pair xs a b rest (λ i j d less below. once (suc i) (suc j) d (omega (arith, less)) (omega (arith, below)))

-- so at most one answer comes to those that are held
more_is_few : (xs more : List Answered) (x y : SelectorParts) → All (λ e. (e.left ≡ x) × (e.right ≡ y)) more → ∥ AllPairs (λ e f. IsOfOther e.left e.right f) (xs ++ more) ∥₁ → length more ≤ 1
more_is_few xs [] x y only once = omega arith
more_is_few xs (a ∷ []) x y only once = omega arith
more_is_few xs (a ∷ b ∷ rest) x y only once =
    let first : (a.left ≡ x) × (a.right ≡ y) = only 0 a (omega arith) in
    let second : (b.left ≡ x) × (b.right ≡ y) = only 1 a (omega arith) in
    absurd (∥∥₁_elim once (λ p q. absurd p) (λ o. other_pair xs a b rest o (second.0 ∙ sym first.0, second.1 ∙ sym first.1)))

one_more : (p q : PairsParts) (x y : SelectorParts) → Asks p q x y → ∥ IsTrueList q ∥₁ → length q.answers ≤ length p.answers + 1
one_more p q x y asks list =
    let once = ∥∥₁_map list (λ t. subst (AllPairs (λ e f. IsOfOther e.left e.right f)) asks.is t.once) in
    let few : length asks.more ≤ 1 = more_is_few p.answers asks.more x y asks.only once in
    let sum : length q.answers ≡ length p.answers + length asks.more = ap length asks.is ∙ length-append p.answers asks.more in
    omega (arith, few, sum)

asked_few : (most : Option ℕ) (n m : ℕ) → (IsReached most n → ⊥) → m ≤ n + 1 → AreWithin most n m
asked_few None n m free more = tt
asked_few (Some most) n m free more = which (cases_lt n most)
  where
    which : (n < most) ⊎ (most ≤ n) → AreWithin (Some most) n m
    which (inl less) = inl (omega (arith, less, more))
    which (inr full) = absurd (free full)

-- what was held before a pair is asked for is held afterwards, within the bound if it was not reached
asked_stays : (p q : PairsParts) (most : Option ℕ) (x y : SelectorParts) → (IsReached most (length p.answers) → ⊥) → Asks p q x y → ∥ IsTrueList q ∥₁ →
    Stays (record { budget = p.budget; answers = p.answers; most = most }) (record { budget = q.budget; answers = q.answers; most = most })
asked_stays p q most x y free asks list = record {
  budget = asks.budget;
  most = refl;
  held = λ s t answer h. subst (λ answers. IsAnswered answers s t answer) (sym asks.is) (Contains-append_left p.answers asks.more (record { left = s; right = t; answer = answer }) h);
  within = asked_few most (length p.answers) (length q.answers) free (one_more p q x y asks list);
}

-- the same of what a contract sees
pub asked_on : (seen : AskedParts) (p q : PairsParts) (most : Option ℕ) (x y : SelectorParts) → record { budget = p.budget; answers = p.answers; most = most } ≡ seen → (IsReached seen.most (length seen.answers) → ⊥) →
    Asks p q x y → ∥ IsTrueList q ∥₁ → Stays seen (record { budget = q.budget; answers = q.answers; most = most })
asked_on seen p q most x y is free asks list =
    subst (λ (old : AskedParts). Stays old (record { budget = q.budget; answers = q.answers; most = most })) is
    (asked_stays p q most x y (λ full. free (subst (λ (old : AskedParts). IsReached old.most (length old.answers)) is full)) asks list)

-- an answer that says so
apart_is : (answer : Answer) → is_apart answer ≡ true → answer ≡ Apart
apart_is Apart e = refl
apart_is (Meet x) e = absurd (let f = e in cc)
apart_is (Outside reason number) e = absurd (let f = e in cc)
apart_is (Spent ledger) e = absurd (let f = e in cc)

-- what a true list calls apart does not meet
pub true_answers : ApartSelectorsDoNotMeet → (pairs : PairsParts) → ∥ IsTrueList pairs ∥₁ → steps.AreTrue (map answer_seen pairs.answers)
true_answers law pairs are_true x y apart =
    let from = map_from answer_seen pairs.answers (record { first = x; second = y; is_apart = true }) apart in
    law pairs x y are_true (held from.0 from.1 from.2)
  where
    held : (e : Answered) → Contains pairs.answers e → answer_seen e ≡ record { first = x; second = y; is_apart = true } → IsAnswered pairs.answers x y Apart
    held e inside same =
        let left : e.left ≡ x = ap (λ (a : steps.Answered). a.first) same in
        let right : e.right ≡ y = ap (λ (a : steps.Answered). a.second) same in
        let answer : e.answer ≡ Apart = apart_is e.answer (ap (λ (a : steps.Answered). a.is_apart) same) in
        subst (λ (s : SelectorParts). IsAnswered pairs.answers s y Apart) left
        (subst (λ (t : SelectorParts). IsAnswered pairs.answers e.left t Apart) right
        (subst (λ (w : Answer). IsAnswered pairs.answers e.left e.right w) answer inside))
