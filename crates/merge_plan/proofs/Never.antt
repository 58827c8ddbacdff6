-- A step that is blocked by true answers is not free.
use Rattle.std.proofs.Common.{◌≡◌, ◌<◌, inl, inr, ℕ, true, false, List, map, length, get_or, refl, sym, ◌∙◌, ap, subst, arith}
use Rattle.std.proofs.Math.Logic.{∥∥₁_elim}
use Rattle.std.proofs.lemmas.Bool.{cases_lt, false≢true}
use Rattle.std.proofs.lemmas.List.{get_or_default}
use Rattle.std.specs.List.{AllPairs, Contains}
use Rattle.css_model.specs.declared.sheet.Item.{Item}
use Rattle.css_model.specs.Documents.SelectorParts.{SelectorParts}
use Rattle.order_laws.proofs.ForCallers.{map_from}
use Rattle.order_laws.specs.Edits.{Edit}
use Rattle.overlap.specs.declared.answer.Answer.{Answer}
use Rattle.overlap.specs.PairsParts.{Answered, PairsParts}
use Rattle.overlap.specs.Remembered.{IsAnswered, IsOfOther, IsTrueList}
use Rattle.sheet_order.specs.Laws.{answer_seen, is_apart}
use Rattle.step_laws.specs.Free as steps

abbrev entry : SelectorParts → SelectorParts → Answer → Answered
entry x y answer = record { left = x; right = y; answer = answer }

-- no later answer is of the same pair
none_later : (answers : List Answered) (x y : SelectorParts) (a b : Answer) (k l : ℕ) → AllPairs (λ e f. IsOfOther e.left e.right f) answers → k < l → l < length answers →
    get_or answers k (entry x y a) ≡ entry x y a → get_or answers l (entry x y b) ≡ entry x y b → ⊥
none_later answers x y a b k l once before within first second =
    let d = entry x y a in
    let other : get_or answers l d ≡ entry x y b = get_or_default answers l d (entry x y b) within ∙ second in
    once k l d before within (ap (λ (e : Answered). e.left) other ∙ sym (ap (λ (e : Answered). e.left) first), ap (λ (e : Answered). e.right) other ∙ sym (ap (λ (e : Answered). e.right) first))

-- a pair has one answer
one_answer : (answers : List Answered) (x y : SelectorParts) (a b : Answer) → AllPairs (λ e f. IsOfOther e.left e.right f) answers → IsAnswered answers x y a → IsAnswered answers x y b → a ≡ b
one_answer answers x y a b once (k, k_in, first) (l, l_in, second) =
    elim (cases_lt k l) [
      | inl before ↦ absurd (none_later answers x y a b k l once before l_in first second)
      | inr behind ↦ elim (cases_lt l k) [
        | inl before ↦ absurd (none_later answers x y b a l k once before k_in second first)
        | inr more ↦
            let same : k ≡ l = omega arith in
            let other : get_or answers l (entry x y a) ≡ entry x y b = get_or_default answers l (entry x y a) (entry x y b) l_in ∙ second in
            ap (λ (e : Answered). e.answer) (sym first ∙ (ap (λ (n : ℕ). get_or answers n (entry x y a)) same ∙ other))
      ]
    ]

-- what is seen of two selectors is what was answered for them
seen : (answers : List Answered) (s : steps.Answered) → Contains (map answer_seen answers) s → (answer : Answer) × IsAnswered answers s.first s.second answer × (is_apart answer ≡ s.is_apart)
seen answers s inside =
    let from = map_from answer_seen answers s inside in
    let left : from.0.left ≡ s.first = ap (λ (a : steps.Answered). a.first) from.2 in
    let right : from.0.right ≡ s.second = ap (λ (a : steps.Answered). a.second) from.2 in (
      from.0.answer,
      subst (λ (x : SelectorParts). IsAnswered answers x s.second from.0.answer) left (subst (λ (y : SelectorParts). IsAnswered answers from.0.left y from.0.answer) right from.1),
      ap (λ (a : steps.Answered). a.is_apart) from.2,
    )

not_both : (pairs : PairsParts) (x y : SelectorParts) → ∥ IsTrueList pairs ∥₁ → steps.AreApart (map answer_seen pairs.answers) x y → steps.AreNotApart (map answer_seen pairs.answers) x y → ⊥
not_both pairs x y all_true apart other =
    let a = seen pairs.answers (record { first = x; second = y; is_apart = true }) apart in
    let b = seen pairs.answers (record { first = x; second = y; is_apart = false }) other in
    ∥∥₁_elim all_true (λ u v. absurd u) (λ t.
    false≢true (sym b.2 ∙ (ap is_apart (one_answer pairs.answers x y b.0 a.0 t.once b.1 a.1) ∙ a.2)))

pub never_free : (pairs : PairsParts) (items : List Item) (e : Edit) → ∥ IsTrueList pairs ∥₁ → steps.IsBlocked (map answer_seen pairs.answers) items e → steps.IsFree (map answer_seen pairs.answers) items e → ⊥
never_free pairs items e all_true (steps.by_pair p q turns other) free = not_both pairs p.selector q.selector all_true (free.pairs p q turns) other
never_free pairs items e all_true (steps.by_kept p n turns) free = free.kept p n turns
