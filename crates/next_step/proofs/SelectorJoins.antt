-- Joins by selectors: what they save at most, and that they come late.
use Rattle.std.proofs.Common.{◌≡◌, ◌≤◌, ℕ, List, ◌∷◌, refl, sym, subst, inl, inr}
use Rattle.std.specs.List.{Contains}
use Rattle.std.specs.List.Sorted.{IsStrictlyIncreasing}
use Rattle.css_model.specs.declared.sheet.Item.{Item}
use Rattle.css_model.specs.Sheets.Sound.{IsSound}
use Rattle.step_queue.specs.declared.heaviest.Heaviest.{Heaviest}
use Rattle.step_kinds.specs.declared.kind.Kind.TheVariants.{SelJoinUp}
use Rattle.step_queue.specs.Heaviest.{AreNotHeavier}
use Rattle.step_kinds.specs.StepsByKind.{kind_of, step_of_kind}
use Rattle.list_facts.proofs.Members.{Contains-here}
use Rattle.order_laws.specs.Edits.{Edit}
use Rattle.indexed_sheet.specs.MarkList.{AreMarks}
use Rattle.step_laws.specs.declared.step.Step.{Step}
use Rattle.step_laws.specs.declared.step.Step.TheVariants.{CutDecl, CutSel, JoinSelUp, JoinSelDown, JoinDeclUp, JoinDeclDown, Share}
use Rattle.step_laws.specs.Sizes.{Saves}
use Rattle.step_laws.specs.Steps.{IsStep, first_item, last_item}
use Rattle.next_step.specs.Kinds.{IsSelectorJoin}
use Rattle.next_step.specs.Late.{IsFrom}
use Rattle.next_step.specs.LaterOrderKeys.{AreAllOnOneSide, AreLateFrom}
use Rattle.next_step.specs.Looking.{FoundParts, IsWith}
use Rattle.next_step.specs.Viewed.{CoversIn, IsFocus, IsView}
use Rattle.next_step.specs.declared.view.Focus.{Focus}
use Rattle.next_step.specs.declared.view.View.{View}
use Rattle.next_step.proofs.Later.{late_covers}
use Rattle.next_step.proofs.LaterOrderKeys.{first_is_least, late_with}
use Rattle.next_step.proofs.Telling.{order_key_index}
use Rattle.next_step.proofs.Weights.{selectors_down, selectors_up}
use Rattle.plan_laws.specs.Barrier.Renumbering.{IsOfTwo}

pub joins_two : (k : Step) → IsSelectorJoin k → IsOfTwo k
joins_two (CutDecl n i) join = join
joins_two (CutSel n i) join = join
joins_two (JoinSelUp x y) join = tt
joins_two (JoinSelDown x y) join = tt
joins_two (JoinDeclUp x y) join = absurd join
joins_two (JoinDeclDown x y) join = absurd join
joins_two (Share x y) join = absurd join

-- their kinds are the one up and one behind it
join_from : (k : Step) → IsSelectorJoin k → (x y : ℕ) → IsFrom (step_of_kind SelJoinUp x y) (step_of_kind (kind_of k) x y)
join_from (CutDecl n i) join x y = absurd join
join_from (CutSel n i) join x y = absurd join
join_from (JoinSelUp a b) join x y = inl refl
join_from (JoinSelDown a b) join x y = inr refl
join_from (JoinDeclUp a b) join x y = absurd join
join_from (JoinDeclDown a b) join x y = absurd join
join_from (Share a b) join x y = absurd join

join_saves : (source : List ℕ) (items : List Item) → IsSound source items → (h : Heaviest) → AreNotHeavier source items h → (k : Step) → IsSelectorJoin k → (e : Edit) (n : ℕ) → IsStep items k e → Saves source items e n → n ≤ h.selectors
join_saves source items sound h heavy (CutDecl m i) join e n is saves = absurd join
join_saves source items sound h heavy (CutSel m i) join e n is saves = absurd join
join_saves source items sound h heavy (JoinSelUp x y) join e n is saves = selectors_up source items sound x y e n saves h.selectors (λ r at. (heavy y r at).0) is
join_saves source items sound h heavy (JoinSelDown x y) join e n is saves = selectors_down source items sound x y e n saves h.selectors (λ r at. (heavy x r at).0) is
join_saves source items sound h heavy (JoinDeclUp x y) join e n is saves = absurd join
join_saves source items sound h heavy (JoinDeclDown x y) join e n is saves = absurd join
join_saves source items sound h heavy (Share x y) join e n is saves = absurd join

pub both_covered : (v : View) (found : FoundParts) (upper lower : ℕ) → CoversIn v found (JoinSelUp upper lower) →
    CoversIn v found (JoinSelDown upper lower) → (k : Step) → IsSelectorJoin k → first_item k ≡ upper → last_item k ≡ lower → CoversIn v found k
both_covered v found upper lower up down (CutDecl n i) join first last = absurd join
both_covered v found upper lower up down (CutSel n i) join first last = absurd join
both_covered v found upper lower up down (JoinSelUp x y) join first last =
    subst (λ (m : ℕ). CoversIn v found (JoinSelUp m y)) (sym first) (subst (λ (n : ℕ). CoversIn v found (JoinSelUp upper n)) (sym last) up)
both_covered v found upper lower up down (JoinSelDown x y) join first last =
    subst (λ (m : ℕ). CoversIn v found (JoinSelDown m y)) (sym first) (subst (λ (n : ℕ). CoversIn v found (JoinSelDown upper n)) (sym last) down)
both_covered v found upper lower up down (JoinDeclUp x y) join first last = absurd join
both_covered v found upper lower up down (JoinDeclDown x y) join first last = absurd join
both_covered v found upper lower up down (Share x y) join first last = absurd join

-- the joins with this order key and with all behind it are late
pub joins_are_late : (v : View) → IsView v → (o : Focus) → IsFocus v o → (found : FoundParts) (next : ℕ) → AreMarks v.indexed.now.marks next → (h : Heaviest) → AreNotHeavier v.source.now v.indexed.now.items h → (order_key : ℕ) (behind rest all : List ℕ) → rest ≡ order_key ∷ behind → IsStrictlyIncreasing rest →
    ((x : ℕ) → Contains rest x → Contains all x) → AreAllOnOneSide o.order_key all → AreLateFrom found.others SelJoinUp o.order_key order_key h.selectors →
    (x : ℕ) (k : Step) → Contains rest x → IsWith v.indexed.now o.number x k → IsSelectorJoin k → CoversIn v found k
joins_are_late v is_view o is_focus found next are h heavy order_key behind rest all is ascends within side late x k left with_it join =
    let first : Contains rest order_key = subst (λ (xs : List ℕ). Contains xs order_key) (sym is) (Contains-here order_key behind) in
    let least : order_key ≤ x = first_is_least order_key behind (subst IsStrictlyIncreasing is ascends) x (subst (λ (xs : List ℕ). Contains xs x) is left) in
    late_covers v found k
    (late_with v.source.now v.indexed.now next are found SelJoinUp o.order_key order_key h.selectors o.number (order_key_index v.indexed.now.marks o.number o.order_key is_focus.order_key) late x k least (side order_key x (within order_key first) (within x left)) with_it (join_from k join) (join_saves v.source.now v.indexed.now.items is_view.plannable.sound h heavy k join))
