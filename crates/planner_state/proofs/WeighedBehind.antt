-- The rules behind a step are weighed.
use Rattle.std.proofs.Common.{◌≡◌, ◌⊎◌, ℕ, ◌<◌, ◌≤◌, List, Option, Some, None, get_or, length, refl, sym, ◌∙◌, subst, inl, inr, arith}
use Rattle.std.specs.Prelude.{IfSome, slice_get}
use Rattle.std.proofs.lemmas.Option.{get_or_from_slice_get, same_Some, slice_get-get_or, slice_get_within}
use Rattle.css_model.specs.declared.sheet.Item.{Item}
use Rattle.css_model.specs.declared.sheet.Item.TheVariants.{Rule}
use Rattle.css_model.specs.Sheets.RuleParts.{RuleParts}
use Rattle.queue_laws.specs.MarkNames.{IsMarked}
use Rattle.step_queue.specs.declared.rule_weights.RuleWeight.{RuleWeight}
use Rattle.step_queue.specs.RuleWeights.{AreWeighed, WeighsAtMost, WeightParts}
use Rattle.order_laws.specs.Edits.{Edit, edited}
use Rattle.indexed_sheet.specs.IndexedParts.{IndexedParts}
use Rattle.indexed_sheet.specs.declared.marks.Mark.{Mark}
use Rattle.indexed_sheet.specs.Marking.{AreKept, IsLeft}
use Rattle.indexed_sheet.specs.MarkList.{item_ids_of}
use Rattle.planner_state.specs.Weighing.{AreAtMost, AreWeighable, BringsAtMost, IsWeighed, IsWeighedAt, MakesAtMost, Stay}
use Rattle.planner_state.proofs.Behind.{HasStood, brought_or_left}
use Rattle.planner_state.proofs.Weighed.{are_weighed, item_id_at, still_weighed}
use Rattle.step_laws.specs.declared.step.Step.{Step}
use Rattle.step_laws.specs.Steps.{IsStep}
use Rattle.step_savings.specs.Weighing.{IsWeighable}
use Rattle.plan_laws.specs.Barrier.Renumbering.{ItemsStay, new_number}

module _ (source : List ℕ) (old new : IndexedParts) (e : Edit) (marked : IsMarked old) (kept : AreKept old new e) (items_are : new.items ≡ edited e old.items) where
  -- what stands there was created before, if the edit left it
  created_before : (n : ℕ) (m : Mark) (x : Item) → slice_get new.marks n ≡ Some m → HasStood e old.items n x → m.item_id < old.next
  created_before n m x at was =
      let there : was.number < length old.marks = (let i = slice_get_within old.items was.number x was.at in let l = marked.1 in omega (arith, i, l)) in
      let stays : slice_get new.marks n ≡ Some (get_or old.marks was.number m) = subst (λ (k : ℕ). slice_get new.marks k ≡ Some (get_or old.marks was.number m)) was.is
      (kept.kept was.number (get_or old.marks was.number m) was.leaves (slice_get-get_or old.marks was.number m there)) in
      subst (λ (o : Mark). o.item_id < old.next) (same_Some (get_or old.marks was.number m) m (sym stays ∙ at)) (marked.0.past was.number m there)

  -- so what was created since was put in
  created_at_most : (w : RuleWeight) → BringsAtMost source w e → AreWeighable source new.items → AreAtMost source old.next new w
  created_at_most w brings can n m r at item_at later =
      which (brought_or_left (λ x. (q : RuleParts) → x ≡ Rule q → IsWeighable source q → WeighsAtMost source q w) e old.items n (Rule r) brings (subst (λ (xs : List Item). slice_get xs n ≡ Some (Rule r)) items_are item_at))
    where
      which : ((q : RuleParts) → Rule r ≡ Rule q → IsWeighable source q → WeighsAtMost source q w) ⊎ HasStood e old.items n (Rule r) → WeighsAtMost source r w
      which (inl put) = put r refl (can n r item_at)
      which (inr was) = absurd (let before = created_before n m (Rule r) at was in omega (arith, before, later))

  pub known_at_most : (k : Step) (weights : WeightParts) (made : Option RuleWeight) → IsStep old.items k e → AreWeighed source old.items (item_ids_of old.marks) weights → AreWeighable source new.items →
      IfSome made (MakesAtMost old weights k) → IfSome made (AreAtMost source old.next new)
  known_at_most k weights None is weighed can makes = tt
  known_at_most k weights (Some w) is weighed can makes = created_at_most w (makes source e weighed is) can

  pub weighed_behind : ItemsStay → IsMarked new → (w w' : WeightParts) → Stay (λ b. b < old.next) w w' → ((n : ℕ) → IsWeighedAt source old.next new w' n) → AreWeighed source old.items (item_ids_of old.marks) w →
      AreWeighed source new.items (item_ids_of new.marks) w'
  weighed_behind stay marked' w w' stays created weighed = are_weighed source new w' marked' each
    where
      each : (n : ℕ) → IsWeighedAt source 0 new w' n
      each n m r at item_at any = which (kept.created n m at)
        where
          which : (old.next ≤ m.item_id) ⊎ IsLeft old e n m → IsWeighed source w' m.item_id r
          which (inl later) = created n m r at item_at later
          which (inr left) =
              let inside : left.number < length old.marks = slice_get_within old.marks left.number m left.mark_at in
              let there : left.number < length old.items = (let l = marked.1 in omega (arith, inside, l)) in
              let x : Item = get_or old.items left.number (Rule r) in
              let behind : slice_get (edited e old.items) (new_number e old.items left.number) ≡ Some x = stay e old.items left.number x left.leaves (slice_get-get_or old.items left.number (Rule r) there) in
              let here : slice_get (edited e old.items) (new_number e old.items left.number) ≡ Some (Rule r) =
              subst (λ (xs : List Item). slice_get xs (new_number e old.items left.number) ≡ Some (Rule r)) items_are (subst (λ (k : ℕ). slice_get new.items k ≡ Some (Rule r)) left.is item_at) in
              let was : slice_get old.items left.number ≡ Some (Rule r) = slice_get-get_or old.items left.number (Rule r) there ∙ sym behind ∙ here in
              let item_id : slice_get (item_ids_of old.marks) left.number ≡ Some m.item_id = item_id_at old.marks left.number m left.mark_at in
              let past : m.item_id < old.next = subst (λ (o : Mark). o.item_id < old.next) (get_or_from_slice_get old.marks left.number m m left.mark_at) (marked.0.past left.number m inside) in
              still_weighed source (λ b. b < old.next) w w' m.item_id r past stays
              (record { own = weighed.each left.number m.item_id r was item_id; all = weighed.all left.number r was; once = λ told. weighed.once told left.number r was; plain = λ told. weighed.plain told left.number r was })
