-- What makes this shape valid, condition by condition.
use Rattle.std.proofs.Common.{Bool, List, [], ap, arith, false, get_or, length, refl, reverse, subst, suc, sym, take, true, zero, ℕ, ◌-◌, ◌<◌, ◌∙◌, ◌∷◌, ◌≡◌, ◌≢◌, ◌≤◌}
use Rattle.std.proofs.lemmas.Bool.{eqb-true, false≢true}
use Rattle.std.proofs.lemmas.List.{get_or_past, length-reverse}
use Rattle.std.proofs.lemmas.List.Elements.{All-contains}
use Rattle.std.specs.Bool.{MatchBool}
use Rattle.std.specs.List.{All, AllZip, filter_map}
use Rattle.std.specs.Prelude.{Contains, ◌==◌}
use Rattle.css_model.specs.Documents.Document.{Document, ElementAt, IsLegal, element_at, none}
use Rattle.css_model.specs.Documents.Matching.{SimpleHolds}
use Rattle.css_model.specs.Documents.SelectorParts.{SelectorParts}
use Rattle.css_model.specs.declared.selector.Combinator.{Combinator}
use Rattle.css_model.specs.declared.selector.Simple.{Simple}
use Rattle.slot_plan.specs.Positions.{PositionFits}
use Rattle.slot_plan.specs.Steps.{is_parent}
use Rattle.slot_plan.specs.ValidShape.{EmptyFits, RootFits, SlotsOf, asked_id, is_empty_test, is_root_slot, simples_in}
use Rattle.shape_laws.proofs.Elements.Counts.{after_in, before_in}
use Rattle.shape_laws.proofs.Elements.Ids.{asked, one_id}
use Rattle.shape_laws.proofs.Elements.Parents.{above_children, empty_seen}
use Rattle.shape_laws.proofs.Elements.Positions.{position_fits}
use Rattle.shape_laws.proofs.Elements.Seen.{Sees, Stood}
use Rattle.shape_laws.proofs.Elements.Siblings.{later_count, row_after, row_before}
use Rattle.shape_laws.proofs.Lists.{from_given, zip_length}
use Rattle.shape_laws.proofs.Shaping.Made.{Ready, origin, root_is, sees_in, shape_for}
use Rattle.shape_laws.proofs.Slots.InOrder.{last_up, length-steps_from, nth_last, nth_map, parent_place, rise_behind}
use Rattle.shape_laws.proofs.Slots.Links.{links_fit}
use Rattle.shape_laws.proofs.Slots.Numbers.{numbers_ascend, numbers_length}
use Rattle.shape_laws.proofs.Slots.SlotList.{Slot, SlotsRise, last_place, nth_place, numbers_where, places_where, steps_from}
use Rattle.shape_laws.proofs.Visits.Places.{IsPlace, Place, Trail}
use Rattle.shape_laws.proofs.Visits.Trails.{height, same_place}

-- tests of positions
pub position : (doc : Document) (target : List ℕ) (x y : SelectorParts) (there : ElementAt) (ss : List Slot) → Ready doc target x y there ss → (k : ℕ) → k ≤ length ss → (s : Simple) → Sees doc target (nth_place origin ss k) s →
    PositionFits (is_root_slot (shape_for doc target ss) k) doc.root_is_child (get_or (shape_for doc target ss).before k 0) (get_or (shape_for doc target ss).after k 0) s
position doc target x y there ss r k inside s see =
    let st = r.stand k in
    let p = nth_place origin ss k in
    let fits = position_fits doc target st.path there st.here p s st.at r.e st.is (see st.path st.here st.at st.is) in
    subst (λ b. PositionFits b doc.root_is_child (get_or (shape_for doc target ss).before k 0) (get_or (shape_for doc target ss).after k 0) s) (sym (root_is doc target x y there ss r k inside))
    (subst (λ (m : ℕ). PositionFits (p.up == length target) doc.root_is_child m (get_or (shape_for doc target ss).after k 0) s) (sym (nth_map (before_in (row_before target)) origin ss k inside))
    (subst (λ (m : ℕ). PositionFits (p.up == length target) doc.root_is_child (before_in (row_before target) p) m s) (sym (nth_map (after_in (row_after doc target)) origin ss k inside)) fits))

-- the slots of one selector
pub slots_of : (doc : Document) (target : List ℕ) (chain : List (List Simple)) (links : List Combinator) (one : Slot → Bool) (ss : List Slot) → SlotsRise origin ss →
    AllZip (λ c p. All (Sees doc target p) c) chain (origin ∷ places_where one ss) → Trail links origin (places_where one ss) → SlotsOf chain links (steps_from origin ss) (0 ∷ numbers_where one 1 ss)
slots_of doc target chain links one ss rise seen joins = (
  refl,
  numbers_ascend one 0 1 ss (omega arith),
  ap suc (numbers_length one 1 ss) ∙ zip_length (λ c p. All (Sees doc target p) c) chain (origin ∷ places_where one ss) seen,
  links_fit one [] [] links 0 0 origin origin ss refl refl refl rise joins,
)

-- the root
pub root_fits : (doc : Document) (target : List ℕ) (x y : SelectorParts) (there : ElementAt) (ss : List Slot) → Ready doc target x y there ss → ((last_place origin ss).up == length target) ≡ true → RootFits (shape_for doc target ss)
root_fits doc target x y there ss r top = record {
  on_line = last_up origin ss r.rise left;
  before = ap (λ (k : ℕ). get_or (shape_for doc target ss).before k 0) (length-steps_from origin ss) ∙ nth_map (before_in (row_before target)) origin ss (length ss) (omega arith) ∙ ap (before_in (row_before target)) (nth_last origin ss) ∙ (let w : row_before target (last_place origin ss).up ≡ 0 = ap (row_before target) up ∙ get_or_past (reverse target) (length target) 0 (let l = length-reverse target in omega arith) in omega arith);
  after = ap (λ (k : ℕ). get_or (shape_for doc target ss).after k 0) (length-steps_from origin ss) ∙ nth_map (after_in (row_after doc target)) origin ss (length ss) (omega arith) ∙ ap (after_in (row_after doc target)) (nth_last origin ss) ∙ (let w : row_after doc target (last_place origin ss).up ≡ 0 = ap (row_after doc target) up ∙ none_after (length target - length target) (omega arith) in let z = left in omega arith);
}
  where
    up : (last_place origin ss).up ≡ length target
    up = eqb-true (last_place origin ss).up (length target) top

    left : (last_place origin ss).left ≡ 0
    left =
        let st = r.stand (length ss) in
        let h = height target (nth_place origin ss (length ss)) st.path st.at in
        ap (λ (p : Place). p.left) (sym (nth_last origin ss)) ∙ h.1 (ap (λ (p : Place). p.up) (nth_last origin ss) ∙ up)

    none_after : (n : ℕ) → n ≡ 0 → later_count (element_at doc (take n target)) ≡ 0
    none_after zero h = refl
    none_after (suc n) h = absurd (omega arith)

-- `:empty`
pub empties : (doc : Document) (target : List ℕ) (x y : SelectorParts) (there : ElementAt) (ss : List Slot) → Ready doc target x y there ss → (k : ℕ) → k ≤ length ss → EmptyFits (is_parent (steps_from origin ss) k) (simples_in x y (shape_for doc target ss) k)
empties doc target x y there ss r k inside s in' asks plain = (no_parent (is_parent (steps_from origin ss) k) refl k inside, others)
  where
    st : Stood doc target (nth_place origin ss k)
    st = r.stand k

    seen : (t : Simple) → Contains (simples_in x y (shape_for doc target ss) k) t → SimpleHolds doc st.path st.here t
    seen t h = All-contains (Sees doc target (nth_place origin ss k)) (simples_in x y (shape_for doc target ss) k) t (sees_in doc target x y there ss r k) h st.path st.here st.at st.is

    is_bare : (st.here.children ≡ none) × (st.here.element.text ≡ false)
    is_bare = subst (λ n. MatchBool n (((st.here.children ≡ none) × (st.here.element.text ≡ false)) → ⊥) ((st.here.children ≡ none) × (st.here.element.text ≡ false))) plain (empty_seen doc st.path st.here s asks (seen s in'))

    no_parent : (b : Bool) → is_parent (steps_from origin ss) k ≡ b → (k' : ℕ) → k' ≤ length ss → b ≡ false
    no_parent false e k' h = refl
    no_parent true e k' h = absurd (at k inside e (above_children doc target there (nth_place origin ss k) st.path st.here r.e st.at st.is))
      where
        at : (k : ℕ) → k ≤ length ss → is_parent (steps_from origin ss) k ≡ true → ((nth_place origin ss k).left ≡ 0 → 0 < (nth_place origin ss k).up → st.here.children ≢ none) → ⊥
        at zero h e some = absurd (false≢true e)
        at (suc k) h e some = let p = parent_place origin ss k r.rise (omega arith) e in some p.0 p.1 is_bare.0

    others : (t : Simple) → Contains (simples_in x y (shape_for doc target ss) k) t → is_empty_test t.test ≡ true → t.negated ≡ false
    others t h asks' = by t.negated (empty_seen doc st.path st.here t asks' (seen t h))
      where
        by : (n : Bool) → MatchBool n (((st.here.children ≡ none) × (st.here.element.text ≡ false)) → ⊥) ((st.here.children ≡ none) × (st.here.element.text ≡ false)) → n ≡ false
        by false h = refl
        by true h = absurd (h is_bare)

-- ids
pub own_ids : (doc : Document) (target : List ℕ) (x y : SelectorParts) (there : ElementAt) (ss : List Slot) → Ready doc target x y there ss → IsLegal doc → (j k : ℕ) (v : List ℕ) → j < k → k ≤ length ss →
    Contains (filter_map asked_id (simples_in x y (shape_for doc target ss) j)) v → Contains (filter_map asked_id (simples_in x y (shape_for doc target ss) k)) v → ⊥
own_ids doc target x y there ss r legal j k v less inside h h' =
    let a = r.stand j in let b = r.stand k in
    let one = from_given asked_id (simples_in x y (shape_for doc target ss) j) v h in
    let two = from_given asked_id (simples_in x y (shape_for doc target ss) k) v h' in
    let s = All-contains (Sees doc target (nth_place origin ss j)) (simples_in x y (shape_for doc target ss) j) one.0 (sees_in doc target x y there ss r j) one.1 a.path a.here a.at a.is in
    let t = All-contains (Sees doc target (nth_place origin ss k)) (simples_in x y (shape_for doc target ss) k) two.0 (sees_in doc target x y there ss r k) two.1 b.path b.here b.at b.is in
    let same = one_id doc a.path b.path a.here b.here v legal a.is b.is (asked doc a.path a.here one.0 v one.2 s) (asked doc b.path b.here two.0 v two.2 t) in
    same_place target (nth_place origin ss j) (nth_place origin ss k) b.path (subst (λ p. IsPlace target (nth_place origin ss j) p) same a.at) b.at (rise_behind origin ss j k r.rise less inside)
