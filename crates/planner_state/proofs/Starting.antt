-- A plan of which nothing is known.
use Rattle.std.proofs.Common.{◌≡◌, ℕ, ◌+◌, ◌<◌, ◌≤◌, Bool, true, List, [], ◌∷◌, Some, None, length, get_or, sym, refl, ◌∙◌, subst, arith}
use Rattle.std.specs.Prelude.{slice_get}
use Rattle.std.specs.List.{Contains}
use Rattle.std.proofs.lemmas.Option.{slice_get-map, slice_get_within, slice_get-get_or}
use Rattle.css_model.specs.declared.sheet.Item.{Item}
use Rattle.css_model.specs.declared.sheet.Item.TheVariants.{Rule}
use Rattle.css_model.specs.Sheets.Limits.{max_bytes}
use Rattle.css_model.specs.Sheets.RuleParts.{RuleParts}
use Rattle.pending_laws.specs.declared.way.Way.{Way}
use Rattle.pending_laws.specs.declared.way.Way.TheVariants.{Up, Down}
use Rattle.pending_laws.specs.Candidates as pending
use Rattle.pending_laws.specs.Scopes.{Owned}
use Rattle.pending_laws.specs.Priorities.{first_priority}
use Rattle.queue_laws.specs.Beside.{CoverIsOfEach}
use Rattle.queue_laws.specs.Known.{IsKnown, StartIsKnown}
use Rattle.queue_laws.specs.MarkNames.{IsMarked}
use Rattle.step_queue.specs.RuleWeights.{AreWeighed}
use Rattle.step_queue.specs.declared.barriers.Barrier.{Barrier}
use Rattle.step_queue.specs.BarrierParts.{barriers_on, BarrierParts}
use Rattle.list_facts.proofs.Options.{mapped}
use Rattle.indexed_sheet.specs.IndexedParts.{IndexedParts}
use Rattle.indexed_sheet.specs.declared.marks.Mark.{Mark}
use Rattle.indexed_sheet.specs.MarkList.{item_ids_of}
use Rattle.plan_laws.specs.Plannable.{IsPlannable}
use Rattle.rule_tables.specs.Tables.{TableParts, Cover, with_order_key}
use Rattle.step_laws.specs.Free.{Answered}
use Rattle.planner_state.specs.Enqueuing.{AreEnqueued, IsEnqueued, first_candidate}
use Rattle.planner_state.specs.PlanParts.{PlanParts}
use Rattle.planner_state.specs.State.{IsState}

pub item_at : (items : List Item) (n : ℕ) → n < length items → (x : Item) × (slice_get items n ≡ Some x)
item_at items n less = (get_or items n none, slice_get-get_or items n none less)
  where
    none : Item
    none = Rule (record { selectors = []; decls = [] })

-- what enqueuing does for each item that was created at `next` or later
module _ (put : Bool) (next : ℕ) (b : IndexedParts) (marked : IsMarked b) (tables : TableParts) (candidates : List pending.Candidate) (homes : List ℕ) (enqueued : AreEnqueued put next b.marks b.items tables candidates homes) where
  one : (n : ℕ) (m : Mark) → slice_get b.marks n ≡ Some m → next ≤ m.item_id → (x : Item) × IsEnqueued put tables candidates homes m x
  one n m at later =
      let w : (x : Item) × (slice_get b.items n ≡ Some x) = item_at b.items n (let i = slice_get_within b.marks n m at in let e = marked.1 in omega (arith, i, e)) in
      (w.0, enqueued n m w.0 at w.1 later)

  pub home_there : (n : ℕ) (m : Mark) → slice_get b.marks n ≡ Some m → next ≤ m.item_id → slice_get homes m.item_id ≡ Some m.order_key
  home_there n m at later = (one n m at later).1.home

  pub covered_there : put ≡ true → (n : ℕ) (m : Mark) (r : RuleParts) → slice_get b.marks n ≡ Some m → slice_get b.items n ≡ Some (Rule r) → next ≤ m.item_id → Cover tables (with_order_key r m.order_key ∷ [])
  covered_there asked n m r at item later = (enqueued n m (Rule r) at item later).covered asked r refl

  pub candidate_there : (n item_id : ℕ) → slice_get (item_ids_of b.marks) n ≡ Some item_id → next ≤ item_id → Contains candidates (record { priority = first_priority (max_bytes + 1); owner = item_id; scope = Owned })
  candidate_there n item_id at later =
      let w : (m : Mark) × (slice_get b.marks n ≡ Some m) × (m.item_id ≡ item_id) = mapped (λ (m : Mark). m.item_id) (slice_get b.marks n) item_id (sym (slice_get-map (λ (m : Mark). m.item_id) b.marks n) ∙ at) in
      subst (λ (k : ℕ). Contains candidates (first_candidate k)) w.2 ((one n w.0 w.1 (subst (λ (k : ℕ). next ≤ k) (sym w.2) later)).1.candidate)

-- no barrier stands in either way
pub none_on : (barriers : BarrierParts) → barriers.ups ≡ [] → barriers.downs ≡ [] → (way : Way) → barriers_on way barriers ≡ []
none_on barriers ups downs Up = ups
none_on barriers ups downs Down = downs

pub start_state : StartIsKnown → CoverIsOfEach → (answers : List Answered) (source : List ℕ) (p : PlanParts) → IsPlannable source p.indexed.items → IsMarked p.indexed → p.entries ≡ [] → ((way : Way) → barriers_on way p.barriers ≡ []) →
    AreWeighed source p.indexed.items (item_ids_of p.indexed.marks) p.weights → AreEnqueued true 0 p.indexed.marks p.indexed.items p.tables p.candidates p.homes → IsState answers source p
start_state start cover answers source p plannable marked none no_barriers weighed enqueued = record {
  indexed = record {
    plannable = plannable;
    marked = marked;
    covered = cover p.indexed p.tables (λ n m r at item. covered_there true 0 p.indexed marked p.tables p.candidates p.homes enqueued refl n m r at item (omega arith));
    homes = λ n m at. home_there true 0 p.indexed marked p.tables p.candidates p.homes enqueued n m at (omega arith);
    weighed = weighed;
  };
  watched = [];
  known = subst (IsKnown answers source p.indexed p.candidates []) (sym none)
      (start answers source p.indexed p.candidates (max_bytes + 1) marked (let short = plannable.short in omega (arith, short)) (λ n item_id at. candidate_there true 0 p.indexed marked p.tables p.candidates p.homes enqueued n item_id at (omega arith)));
  barriers = record { past = λ way. subst (λ (xs : List Barrier). length xs ≤ p.indexed.next) (sym (no_barriers way)) (omega arith); each = λ way item_id stop at some. absurd (nowhere way item_id stop at) };
}
  where
    nowhere : (way : Way) (item_id : ℕ) (stop : Barrier) → slice_get (barriers_on way p.barriers) item_id ≡ Some stop → ⊥
    nowhere way item_id stop at = let e : None ≡ Some stop = subst (λ (xs : List Barrier). slice_get xs item_id ≡ Some stop) (no_barriers way) at in cc
