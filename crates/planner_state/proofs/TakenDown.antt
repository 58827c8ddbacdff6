-- Barriers that are taken down, and a plan of which a priority is taken out.
use Rattle.std.proofs.Common.{◌≡◌, ◌⊎◌, ℕ, ◌+◌, ◌<◌, ◌≤◌, List, ◌∷◌, Some, length, refl, sym, ap, ◌∙◌, subst, inl, inr, arith}
use Rattle.std.specs.Prelude.{slice_get}
use Rattle.std.specs.List.{Contains}
use Rattle.std.proofs.lemmas.Bool.{cases_lt}
use Rattle.std.proofs.lemmas.Option.{slice_get_within}
use Rattle.cascade_laws.proofs.ForCallers.{some-same}
use Rattle.css_model.specs.Sheets.Limits.{max_bytes}
use Rattle.pending_laws.specs.declared.way.Way.{Way}
use Rattle.pending_laws.specs.declared.way.Way.TheVariants.{Up, Down}
use Rattle.pending_laws.specs.Candidates as pending
use Rattle.pending_laws.specs.Ways.{scope_of}
use Rattle.queue_laws.specs.IndexedBarriers.{moves_candidate, IsStanding}
use Rattle.queue_laws.specs.Known.{IsKnown}
use Rattle.step_queue.specs.declared.barriers.Barrier.{Barrier}
use Rattle.step_queue.specs.declared.candidate.Candidate.{Candidate}
use Rattle.step_queue.specs.declared.candidate.Scope.{Scope}
use Rattle.step_queue.specs.declared.candidate.Scope.TheVariants.{Alone, Owned, Ups, Downs}
use Rattle.step_queue.specs.Told.{candidate_told, scope_told}
use Rattle.step_queue.specs.BarrierParts.{barriers_on, BarrierParts}
use Rattle.list_facts.proofs.Members.{Contains-cons_cases}
use Rattle.planner_state.specs.PlanParts.{PlanParts}
use Rattle.planner_state.specs.State.{IsQueuedBy, IsState}
use Rattle.planner_state.specs.Barriers.{moves_scope, IsFromOther, IsOfOther, SomeStay}
use Rattle.step_laws.specs.Free.{Answered}

-- ---- Barriers that do not stand at some order keys

abbrev Below : (first last : ℕ) → List Barrier → List Barrier → ℕ → Type 0
Below first last old new count = SomeStay old new (λ b order_key. b < count → IsFromOther first last b order_key)

pub none_below : (first last : ℕ) (barriers : List Barrier) → Below first last barriers barriers 0
none_below first last barriers = record { long = refl; left = λ b stop at some. (at, (λ less. absurd (omega (arith, less)))) }

pub more_below : (first last : ℕ) (barriers old new : List Barrier) (count : ℕ) → Below first last barriers old count → SomeStay old new (λ b order_key. count ≡ b → IsFromOther first last b order_key) → Below first last barriers new (count + 1)
more_below first last barriers old new count before here = record { long = here.long ∙ before.long; left = left }
  where
    left : (b : ℕ) (stop : Barrier) → slice_get new b ≡ Some stop → 0 < stop.order_key → (slice_get barriers b ≡ Some stop) × (b < count + 1 → IsFromOther first last b stop.order_key)
    left b stop at some = (w.0, which)
      where
        v : (slice_get old b ≡ Some stop) × (count ≡ b → IsFromOther first last b stop.order_key)
        v = here.left b stop at some

        w : (slice_get barriers b ≡ Some stop) × (b < count → IsFromOther first last b stop.order_key)
        w = before.left b stop v.0 some

        which : b < count + 1 → IsFromOther first last b stop.order_key
        which less = elim (cases_lt b count) [
          | inl l ↦ w.1 l
          | inr l ↦ v.1 (let e : count ≡ b = omega (arith, l, less) in e)
        ]

pub all_below : (first last : ℕ) (barriers new : List Barrier) (count : ℕ) → length barriers ≤ count → Below first last barriers new count → SomeStay barriers new (IsFromOther first last)
all_below first last barriers new count long below = record { long = below.long; left = λ b stop at some. (let w = below.left b stop at some in (w.0, w.1 (let inside : b < length barriers = slice_get_within barriers b stop w.0 in omega (arith, inside, long)))) }

-- ---- Barriers that do not stand at an item of a step

pub outside : (order_keys : List ℕ) (barriers new : List Barrier) (x y first last : ℕ) → slice_get order_keys x ≡ Some first → slice_get order_keys y ≡ Some last → SomeStay barriers new (IsFromOther first last) →
    SomeStay barriers new (λ item_id order_key. (n : ℕ) → slice_get order_keys n ≡ Some order_key → (x ≡ n → ⊥) × (y ≡ n → ⊥))
outside order_keys barriers new x y first last x_at y_at stay = record { long = stay.long; left = left }
  where
    left : (b : ℕ) (stop : Barrier) → slice_get new b ≡ Some stop → 0 < stop.order_key → (slice_get barriers b ≡ Some stop) × ((n : ℕ) → slice_get order_keys n ≡ Some stop.order_key → (x ≡ n → ⊥) × (y ≡ n → ⊥))
    left b stop at some =
        let w : (slice_get barriers b ≡ Some stop) × IsFromOther first last b stop.order_key = stay.left b stop at some in
        (w.0, (λ n there. ((λ e. w.1.0 (some-same (sym x_at ∙ ap (slice_get order_keys) e ∙ there))), (λ e. w.1.1 (some-same (sym y_at ∙ ap (slice_get order_keys) e ∙ there))))))

-- ---- Barriers in both ways

pub both_stay : (old new : BarrierParts) (Stays : Way → ℕ → ℕ → Type 0) → SomeStay old.ups new.ups (Stays Up) → SomeStay old.downs new.downs (Stays Down) → (way : Way) → SomeStay (barriers_on way old) (barriers_on way new) (Stays way)
both_stay old new Stays up down Up = up
both_stay old new Stays up down Down = down

pub all_stay : (barriers : List Barrier) (Stays : ℕ → ℕ → Type 0) → ((item_id order_key : ℕ) → Stays item_id order_key) → SomeStay barriers barriers Stays
all_stay barriers Stays stays = record { long = refl; left = λ item_id stop at some. (at, stays item_id stop.order_key) }

pub less_stay : (old new : List Barrier) (Stays Stays' : ℕ → ℕ → Type 0) → ((item_id order_key : ℕ) → Stays item_id order_key → Stays' item_id order_key) → SomeStay old new Stays → SomeStay old new Stays'
less_stay old new Stays Stays' less stay = record { long = stay.long; left = λ item_id stop at some. (let w = stay.left item_id stop at some in (w.0, less item_id stop.order_key w.1)) }

-- ---- A priority is taken out

-- a candidate with the scope of all steps in a way has it in the code
scope_is : (way : Way) (scope : Scope) → scope_told scope ≡ scope_of way → scope ≡ moves_scope way
scope_is Up Alone e = absurd (cc)
scope_is Up Owned e = absurd (cc)
scope_is Up Ups e = refl
scope_is Up Downs e = absurd (cc)
scope_is Down Alone e = absurd (cc)
scope_is Down Owned e = absurd (cc)
scope_is Down Ups e = absurd (cc)
scope_is Down Downs e = refl

pub taken_out : (answers : List Answered) (source : List ℕ) (p p' : PlanParts) (candidate : Candidate) → p' ≡ record p { candidates = p'.candidates; barriers = p'.barriers } → p.candidates ≡ candidate_told candidate ∷ p'.candidates →
    ((way : Way) → SomeStay (barriers_on way p.barriers) (barriers_on way p'.barriers) (IsOfOther way candidate)) → IsState answers source p → IsQueuedBy answers source p' (candidate_told candidate ∷ p'.candidates)
taken_out answers source p p' candidate same taken stay s =
    subst (λ (q : PlanParts). IsQueuedBy answers source q (candidate_told candidate ∷ p'.candidates)) (sym same) (record {
      indexed = record { plannable = s.indexed.plannable; marked = s.indexed.marked; covered = s.indexed.covered; homes = s.indexed.homes; weighed = s.indexed.weighed };
      watched = s.watched;
      known = subst (λ (ls : List pending.Candidate). IsKnown answers source p.indexed ls s.watched p.entries) taken s.known;
      barriers = record { past = λ way. (let b = s.barriers.past way in let l = (stay way).long in omega (arith, b, l)); each = each };
    })
  where
    each : (way : Way) (item_id : ℕ) (stop : Barrier) → slice_get (barriers_on way p'.barriers) item_id ≡ Some stop → 0 < stop.order_key → IsStanding answers p.indexed p.entries (max_bytes + 1) p'.candidates way item_id stop
    each way item_id stop at some = which (s.barriers.each way item_id stop old.0 some)
      where
        old : (slice_get (barriers_on way p.barriers) item_id ≡ Some stop) × IsOfOther way candidate item_id stop.order_key
        old = (stay way).left item_id stop at some

        by_candidate : (candidate_told candidate ≡ moves_candidate way (max_bytes + 1) item_id) ⊎ Contains p'.candidates (moves_candidate way (max_bytes + 1) item_id) → IsStanding answers p.indexed p.entries (max_bytes + 1) p'.candidates way item_id stop
        by_candidate (inl e) = absurd (old.1 (scope_is way candidate.scope (ap (λ (l : pending.Candidate). l.scope) e)) (ap (λ (l : pending.Candidate). l.owner) e))
        by_candidate (inr h) = inr (inl h)

        which : IsStanding answers p.indexed p.entries (max_bytes + 1) p.candidates way item_id stop → IsStanding answers p.indexed p.entries (max_bytes + 1) p'.candidates way item_id stop
        which (inl w) = inl w
        which (inr (inl h)) = by_candidate (Contains-cons_cases (candidate_told candidate) p'.candidates (moves_candidate way (max_bytes + 1) item_id) (subst (λ (ls : List pending.Candidate). Contains ls (moves_candidate way (max_bytes + 1) item_id)) taken h))
        which (inr (inr gone)) = inr (inr gone)
