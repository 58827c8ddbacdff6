-- What is answered stays, and no answers contradict one another.
use Rattle.std.proofs.Common.{◌≡◌, inl, inr, ℕ, ◌<◌, Bool, true, false, not, ◌&&◌, List, map, length, get_or, refl, sym, ap, subst, ◌∙◌, arith}
use Rattle.std.specs.List.{AllPairs, Contains}
use Rattle.std.proofs.Math.Logic.{∥∥₁_elim}
use Rattle.std.proofs.lemmas.Bool.{cases_lt, false≢true, and_from, and_parts, false_from_ne_true}
use Rattle.std.proofs.lemmas.List.{get_or_default}
use Rattle.std.proofs.lemmas.List.Elements.{Contains-append_left}
use Rattle.css_model.proofs.ForCallers.{selector_decides}
use Rattle.css_model.specs.Documents.SelectorParts.{SelectorParts}
use Rattle.order_laws.proofs.ForCallers.{any_from, any_of, map_from, map_has}
use Rattle.order_laws.specs.Members.{same_selector}
use Rattle.overlap.specs.declared.answer.Answer.{Answer}
use Rattle.overlap.specs.PairsParts as overlap
use Rattle.overlap.specs.Remembered.{Asks, IsAnswered, IsOfOther, IsTrueList}
use Rattle.sheet_order.specs.Laws.{answer_seen, is_apart}
use Rattle.step_laws.specs.Free.{Answered, AreAmong, AreApart, AreNotApart}
use Rattle.blockers_text.specs.Later.{Grows, IsLater, TellsOther, seen}
use Rattle.blockers_text.specs.Stopping.{is_other}

-- ---- More is answered

pub grows_itself : (p : overlap.PairsParts) → Grows p p
grows_itself p = record { among = λ a h. h; budget = refl }

pub grows_on : (p q r : overlap.PairsParts) → Grows p q → Grows q r → Grows p r
grows_on p q r f g = record { among = λ a h. g.among a (f.among a h); budget = g.budget ∙ f.budget }

pub same_grows : (p q : overlap.PairsParts) → q ≡ p → Grows p q
same_grows p q same = subst (λ (x : overlap.PairsParts). Grows p x) (sym same) (grows_itself p)

pub asks_grow : (p q : overlap.PairsParts) (x y : SelectorParts) → Asks p q x y → Grows p q
asks_grow p q x y asks = record {
  among = λ a h.
      let w = map_from answer_seen p.answers a h in
      let there : Contains q.answers w.0 = subst (λ (xs : List overlap.Answered). Contains xs w.0) (sym asks.is) (Contains-append_left p.answers asks.more w.0 w.1) in
      subst (λ (z : Answered). Contains (seen q) z) w.2 (map_has answer_seen q.answers w.0 there);
  budget = asks.budget;
}

pub later_on : (p q r : List Answered) → AreAmong p q → IsLater q r → IsLater p r
later_on p q r among later = record { among = λ a h. later.among a (among a h); once = later.once }

-- ---- One answer for a pair

abbrev entry : SelectorParts → SelectorParts → Answer → overlap.Answered
entry x y answer = record { left = x; right = y; answer = answer }

none_later : (answers : List overlap.Answered) (x y : SelectorParts) (a b : Answer) (k l : ℕ) → AllPairs (λ e f. IsOfOther e.left e.right f) answers → k < l → l < length answers →
    get_or answers k (entry x y a) ≡ entry x y a → get_or answers l (entry x y b) ≡ entry x y b → ⊥
none_later answers x y a b k l once before within first second =
    let d = entry x y a in
    let other : get_or answers l d ≡ entry x y b = get_or_default answers l d (entry x y b) within ∙ second in
    once k l d before within (ap (λ (e : overlap.Answered). e.left) other ∙ sym (ap (λ (e : overlap.Answered). e.left) first), ap (λ (e : overlap.Answered). e.right) other ∙ sym (ap (λ (e : overlap.Answered). e.right) first))

one_answer : (answers : List overlap.Answered) (x y : SelectorParts) (a b : Answer) → AllPairs (λ e f. IsOfOther e.left e.right f) answers → IsAnswered answers x y a → IsAnswered answers x y b → a ≡ b
one_answer answers x y a b once (k, k_in, first) (l, l_in, second) =
    elim (cases_lt k l) [
      | inl before ↦ absurd (none_later answers x y a b k l once before l_in first second)
      | inr behind ↦ elim (cases_lt l k) [
        | inl before ↦ absurd (none_later answers x y b a l k once before k_in second first)
        | inr more ↦
            let same : k ≡ l = omega arith in
            let other : get_or answers l (entry x y a) ≡ entry x y b = get_or_default answers l (entry x y a) (entry x y b) l_in ∙ second in
            ap (λ (e : overlap.Answered). e.answer) (sym first ∙ (ap (λ (n : ℕ). get_or answers n (entry x y a)) same ∙ other))
      ]
    ]

-- what is seen of two selectors is what was answered for them
seen_from : (answers : List overlap.Answered) (s : Answered) → Contains (map answer_seen answers) s → (answer : Answer) × IsAnswered answers s.first s.second answer × (is_apart answer ≡ s.is_apart)
seen_from answers s inside =
    let from = map_from answer_seen answers s inside in
    let left : from.0.left ≡ s.first = ap (λ (a : Answered). a.first) from.2 in
    let right : from.0.right ≡ s.second = ap (λ (a : Answered). a.second) from.2 in (
      from.0.answer,
      subst (λ (x : SelectorParts). IsAnswered answers x s.second from.0.answer) left (subst (λ (y : SelectorParts). IsAnswered answers from.0.left y from.0.answer) right from.1),
      ap (λ (a : Answered). a.is_apart) from.2,
    )

never_both : (p : overlap.PairsParts) → ∥ IsTrueList p ∥₁ → (x y : SelectorParts) → AreApart (seen p) x y → AreNotApart (seen p) x y → ⊥
never_both p all_true x y apart other =
    let a = seen_from p.answers (record { first = x; second = y; is_apart = true }) apart in
    let b = seen_from p.answers (record { first = x; second = y; is_apart = false }) other in
    ∥∥₁_elim all_true (λ u v. absurd u) (λ t. false≢true (sym b.2 ∙ (ap is_apart (one_answer p.answers x y b.0 a.0 t.once b.1 a.1) ∙ a.2)))

pub later_itself : (p : overlap.PairsParts) → ∥ IsTrueList p ∥₁ → IsLater (seen p) (seen p)
later_itself p all_true = record { among = λ a h. h; once = never_both p all_true }

-- ---- What is answered for two selectors

abbrev is_not_apart : SelectorParts → SelectorParts → Answered → Bool
is_not_apart x y a = same_selector a.first x && same_selector a.second y && not a.is_apart

not_apart_says : (x y : SelectorParts) → is_not_apart x y (record { first = x; second = y; is_apart = false }) ≡ true
not_apart_says x y = and_from (same_selector x x && same_selector y y) true (and_from (same_selector x x) (same_selector y y) ((selector_decides x x).1 refl) ((selector_decides y y).1 refl)) refl

not_true : (b : Bool) → not b ≡ true → b ≡ false
not_true true h = absurd (false≢true h)
not_true false h = refl

-- what says so is held
said : (answers : List Answered) (x y : SelectorParts) → is_other answers x y ≡ true → AreNotApart answers x y
said answers x y h =
    let w = any_from (is_not_apart x y) answers h in
    let both = and_parts (same_selector w.0.first x && same_selector w.0.second y) (not w.0.is_apart) w.2 in
    let names = and_parts (same_selector w.0.first x) (same_selector w.0.second y) both.0 in
    subst (λ (a : Answered). Contains answers a) (parts_same w.0 ((selector_decides w.0.first x).0 names.0) ((selector_decides w.0.second y).0 names.1) (not_true w.0.is_apart both.1)) w.1
  where
    parts_same : (a : Answered) → a.first ≡ x → a.second ≡ y → a.is_apart ≡ false → a ≡ record { first = x; second = y; is_apart = false }
    parts_same a first second apart =
        ap (λ (s : SelectorParts). record { first = s; second = a.second; is_apart = a.is_apart }) first
        ∙ ap (λ (s : SelectorParts). record { first = x; second = s; is_apart = a.is_apart }) second
        ∙ ap (λ (b : Bool). record { first = x; second = y; is_apart = b }) apart

pub other_by : (old later : List Answered) (x y : SelectorParts) (apart : Bool) → IsLater old later → Contains later (record { first = x; second = y; is_apart = apart }) → is_other later x y ≡ not apart
other_by old later x y true is h = false_from_ne_true (is_other later x y) (λ other. is.once x y h (said later x y other))
other_by old later x y false is h = any_of (is_not_apart x y) later (record { first = x; second = y; is_apart = false }) h (not_apart_says x y)

-- by an answer that is held
pub tells_held : (answers : List overlap.Answered) (x y : SelectorParts) (answer : Answer) (later : List Answered) → IsAnswered answers x y answer → IsLater (map answer_seen answers) later → TellsOther later x y (not (is_apart answer))
tells_held answers x y answer later h is =
    let there : Contains later (record { first = x; second = y; is_apart = is_apart answer }) = is.among (record { first = x; second = y; is_apart = is_apart answer }) (map_has answer_seen answers (entry x y answer) h) in
    record { is = other_by (map answer_seen answers) later x y (is_apart answer) is there; answered = (is_apart answer, there) }
