-- What is held, seen, free and done while more is answered.
use Rattle.std.proofs.Common.{◌≡◌, ℕ, List, [], ◌∷◌, map, Option, Some, None, refl, ◌∙◌, subst}
use Rattle.std.specs.List.{Contains}
use Rattle.css_model.specs.declared.sheet.Item.{Item}
use Rattle.css_model.specs.Documents.SelectorParts.{SelectorParts}
use Rattle.order_laws.proofs.ForCallers.{map_has, map_from}
use Rattle.order_laws.specs.Reversed.{Other, AnotherPair, KeptAt, Reversal}
use Rattle.overlap.specs.declared.answer.Answer.TheVariants.{Apart}
use Rattle.overlap.specs.PairsParts.{PairsParts}
use Rattle.plan_laws.proofs.ForCallers.{blocked_more}
use Rattle.sheet_order.specs.Allowing.{Stays, JudgesOther, AreFree, IsFirst}
use Rattle.sheet_order.specs.Laws.{answer_seen}
use Rattle.step_laws.specs.declared.cause.BlockCause.{BlockCause}
use Rattle.step_laws.specs.Free as steps
use Rattle.step_laws.specs.Leading.{IsDone}

pub stays_itself : (p : PairsParts) → Stays p p
stays_itself p = record { budget = refl; held = λ x y answer h. h }

pub stays_on : (p q r : PairsParts) → Stays p q → Stays q r → Stays p r
stays_on p q r f g = record { budget = g.budget ∙ f.budget; held = λ x y answer h. g.held x y answer (f.held x y answer h) }

-- what is held stays among what is seen
pub stays_among : (p q : PairsParts) → Stays p q → steps.AreAmong (map answer_seen p.answers) (map answer_seen q.answers)
stays_among p q stays a inside =
    let from = map_from answer_seen p.answers a inside in
    subst (λ (x : steps.Answered). Contains (map answer_seen q.answers) x) from.2 (map_has answer_seen q.answers from.0 (stays.held from.0.left from.0.right from.0.answer from.1))

-- nothing is left to do while more is answered
pub done_more : (p q : PairsParts) → Stays p q → (source : List ℕ) (items : List Item) → IsDone (map answer_seen p.answers) source items → IsDone (map answer_seen q.answers) source items
done_more p q stays source items done = λ k e n is saves some. blocked_more (map answer_seen p.answers) (map answer_seen q.answers) (stays_among p q stays) items e (done k e n is saves some)

module _ (p q : PairsParts) (stays : Stays p q) where
  judges_more : (x : SelectorParts) (o : Other) (cause : Option BlockCause) → JudgesOther p.answers x o cause → JudgesOther q.answers x o cause
  judges_more x (AnotherPair r) None h = stays.held x r.pair.selector Apart h
  judges_more x (AnotherPair r) (Some cause) h = (h.0, stays.held x r.pair.selector h.0 h.1, h.2)
  judges_more x (KeptAt n) cause h = h

  free_more : (entries : List Reversal) → AreFree p.answers entries → AreFree q.answers entries
  free_more [] h = h
  free_more (r ∷ entries) h = (judges_more r.moved.pair.selector r.other None h.0, free_more entries h.1)

  -- what blocks first stays the first
  pub first_more : (entries : List Reversal) (cause : BlockCause) → IsFirst p.answers entries cause → IsFirst q.answers entries cause
  first_more entries cause is = record {
    before = is.before;
    entry = is.entry;
    behind = is.behind;
    parts = is.parts;
    free = free_more is.before is.free;
    blocks = judges_more is.entry.moved.pair.selector is.entry.other (Some cause) is.blocks;
  }
