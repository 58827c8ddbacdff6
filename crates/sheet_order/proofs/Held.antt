-- Answers that are held.
use Rattle.std.proofs.Common.{◌≡◌, ℕ, suc, ◌+◌, ◌<◌, List, [], ◌∷◌, ◌++◌, length, get_or, take, drop, Some, None, refl, sym, ap, ◌∙◌, subst, arith}
use Rattle.std.proofs.lemmas.List.Elements.{All-contains, Contains-append_left}
use Rattle.std.proofs.lemmas.List.{drop_more, take-append-drop}
use Rattle.std.proofs.Math.Seq.{take-suc}
use Rattle.css_model.specs.Documents.SelectorParts.{SelectorParts}
use Rattle.order_laws.specs.Reversed.{Other, AnotherPair, KeptAt, Reversal}
use Rattle.overlap.specs.declared.answer.Answer.{Answer}
use Rattle.overlap.specs.declared.answer.Answer.TheVariants.{Apart, Meet, Outside, Spent}
use Rattle.overlap.specs.PairsParts.{Answered, PairsParts}
use Rattle.overlap.specs.Remembered.{IsAnswered, IsHeld, IsOfOther, IsUnknown, Asks}
use Rattle.step_laws.specs.declared.cause.BlockCause.{BlockCause}
use Rattle.sheet_order.specs.Allowing.{Stays, cause_by, JudgesPair, JudgesOther, Judges, AreFree, IsFirst}

-- what is held is not unknown
pub not_unknown : (answers : List Answered) (x y : SelectorParts) → IsHeld answers x y → IsUnknown answers x y → ⊥
not_unknown answers x y held none = All-contains (IsOfOther x y) answers (record { left = x; right = y; answer = held.0 }) none held.1 (refl, refl)

-- the cause by what is held
pub judged : (answers : List Answered) (x y : SelectorParts) (answer : Answer) (item : ℕ) → IsAnswered answers x y answer → JudgesPair answers x y item (cause_by item answer)
judged answers x y Apart item h = h
judged answers x y (Meet e) item h = (Meet e, h, refl)
judged answers x y (Outside reason number) item h = (Outside reason number, h, refl)
judged answers x y (Spent ledger) item h = (Spent ledger, h, refl)

pub stays_itself : (p : PairsParts) → Stays p p
stays_itself p = record { budget = refl; held = λ x y answer h. h }

pub stays_on : (p q r : PairsParts) → Stays p q → Stays q r → Stays p r
stays_on p q r f g = record { budget = g.budget ∙ f.budget; held = λ x y answer h. g.held x y answer (f.held x y answer h) }

-- what was held before a pair is asked for is held afterwards
pub asked_stays : (p q : PairsParts) (x y : SelectorParts) → Asks p q x y → Stays p q
asked_stays p q x y asks = record {
  budget = asks.budget;
  held = λ s t answer h. subst (λ answers. IsAnswered answers s t answer) (sym asks.is) (Contains-append_left p.answers asks.more (record { left = s; right = t; answer = answer }) h);
}

free_other : (p q : PairsParts) → Stays p q → (x : SelectorParts) (o : Other) → JudgesOther p.answers x o None → JudgesOther q.answers x o None
free_other p q stays x (AnotherPair y) h = stays.held x y.pair.selector Apart h
free_other p q stays x (KeptAt n) h = h

pub free_stays : (p q : PairsParts) → Stays p q → (entries : List Reversal) → AreFree p.answers entries → AreFree q.answers entries
free_stays p q stays [] h = tt
free_stays p q stays (r ∷ entries) h = (free_other p q stays r.moved.pair.selector r.other h.0, free_stays p q stays entries h.1)

free_append : (answers : List Answered) (entries : List Reversal) (r : Reversal) → AreFree answers entries → Judges answers r None → AreFree answers (entries ++ r ∷ [])
free_append answers [] r h g = (g, tt)
free_append answers (s ∷ entries) r h g = (h.0, free_append answers entries r h.1 g)

-- one more entry is free
pub one_more_free : (p q : PairsParts) (entries : List Reversal) (i : ℕ) (r : Reversal) → i < length entries → r ≡ get_or entries i r →
    AreFree p.answers (take i entries) → Stays p q → Judges q.answers r None → AreFree q.answers (take (i + 1) entries)
one_more_free p q entries i r below at h stays g =
    let next : suc i ≡ i + 1 = omega arith in
    let more : take i entries ++ r ∷ [] ≡ take (i + 1) entries = ap (λ (x : Reversal). take i entries ++ x ∷ []) at ∙ sym (take-suc entries i r below) ∙ ap (λ (n : ℕ). take n entries) next in
    subst (λ (rs : List Reversal). AreFree q.answers rs) more (free_append q.answers (take i entries) r (free_stays p q stays (take i entries) h) g)

-- the first one that blocks
pub first_blocked : (p q : PairsParts) (entries : List Reversal) (i : ℕ) (r : Reversal) (cause : BlockCause) → i < length entries → r ≡ get_or entries i r →
    AreFree p.answers (take i entries) → Stays p q → Judges q.answers r (Some cause) → IsFirst q.answers entries cause
first_blocked p q entries i r cause below at h stays g = record {
  before = take i entries;
  entry = r;
  behind = drop (i + 1) entries;
  parts = sym (take-append-drop i entries) ∙ ap (λ rs. take i entries ++ rs) (drop_more entries i r below ∙ ap (λ (x : Reversal). x ∷ drop (i + 1) entries) (sym at));
  free = free_stays p q stays (take i entries) h;
  blocks = g;
}
