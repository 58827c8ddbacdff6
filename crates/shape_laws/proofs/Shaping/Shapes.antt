-- Two selectors that match one target of a legal document have a valid shape.
use Rattle.std.proofs.Common.{List, Some, [], ap, arith, inl, inr, length, refl, subst, sym, ℕ, ◌+◌, ◌∙◌, ◌∷◌, ◌≡◌, ◌≤◌}
use Rattle.std.proofs.lemmas.List.Elements.{All-contains}
use Rattle.std.specs.List.{All, AllByRecursion, AllZip}
use Rattle.css_model.specs.Documents.Document.{Document, ElementAt, IsLegal, IsLegalElement, element_at, elements_of}
use Rattle.css_model.specs.Documents.Matching.{MatchesFrom}
use Rattle.css_model.specs.Documents.SelectorParts.{SelectorParts}
use Rattle.css_model.specs.declared.selector.Simple.{Simple}
use Rattle.slot_plan.specs.ShapeParts.{ShapeParts}
use Rattle.slot_plan.specs.ValidShape.{ValidShape, simples_in}
use Rattle.shape_laws.proofs.Elements.Counts.{counts_fit}
use Rattle.shape_laws.proofs.Elements.Features.{member_at, suits_here}
use Rattle.shape_laws.proofs.Elements.Seen.{Sees, Stood, room, sees_all, stood}
use Rattle.shape_laws.proofs.Elements.Siblings.{row_after, row_before}
use Rattle.shape_laws.proofs.Lists.{zip_all, zip_weaker}
use Rattle.shape_laws.proofs.Shaping.Conditions.{empties, own_ids, position, root_fits, slots_of}
use Rattle.shape_laws.proofs.Shaping.Made.{Ready, origin, sees_in, shape_for}
use Rattle.shape_laws.proofs.Slots.InOrder.{length-steps_from, nth_all, slots_all}
use Rattle.shape_laws.proofs.Slots.Merging.{merge}
use Rattle.shape_laws.proofs.Slots.Numbers.{numbers_inside, numbers_used}
use Rattle.shape_laws.proofs.Slots.SlotList.{Slot, in_both, places_where, steps_from}
use Rattle.shape_laws.proofs.Visits.Order.{trail_rises}
use Rattle.shape_laws.proofs.Visits.Places.{HoldsIn, Trail}
use Rattle.shape_laws.proofs.Visits.Trails.{one_path, start, trail}

valid : (doc : Document) (target : List ℕ) (x y : SelectorParts) (there : ElementAt) (ss : List Slot) → Ready doc target x y there ss → IsLegal doc → x.pseudo ≡ y.pseudo → ValidShape x y (shape_for doc target ss)
valid doc target x y there ss r legal pseudo = record {
  left = slots_of doc target x.chain x.links (λ s. s.in_left) ss r.rise r.seen_left r.trail_left;
  right = slots_of doc target y.chain y.links (λ s. s.in_right) ss r.rise r.seen_right r.trail_right;
  used = λ k h. numbers_used 0 (in_both origin ∷ ss) k (inl refl, r.used) (omega arith) (let l = length-steps_from origin ss in omega arith);
  inside = λ k h. elim h [
    | inl a ↦ (let w = numbers_inside (λ s. s.in_left) 0 (in_both origin ∷ ss) k a in let l = length-steps_from origin ss in omega arith)
    | inr a ↦ (let w = numbers_inside (λ s. s.in_right) 0 (in_both origin ∷ ss) k a in let l = length-steps_from origin ss in omega arith)
  ];
  counts = counts_fit (row_before target) (row_after doc target) origin ss r.rise r.rooms;
  root = root_fits doc target x y there ss r;
  positions = λ k h i d l. position doc target x y there ss r k (inner k h) _ (sees_in doc target x y there ss r k i d l);
  empties = λ k h. empties doc target x y there ss r k (inner k h);
  features = λ k h. let st = r.stand k in suits_here doc st.path st.here (simples_in x y (shape_for doc target ss) k)
      (All-contains IsLegalElement (elements_of doc) st.here.element legal.elements (member_at doc st.path st.here st.is))
      (λ i d l. sees_in doc target x y there ss r k i d l st.path st.here st.at st.is);
  ids = λ j k v less h. own_ids doc target x y there ss r legal j k v less (inner k h);
  pseudo = pseudo;
}
  where
    inner : (k : ℕ) → k ≤ length (steps_from origin ss) → k ≤ length ss
    inner k h = let l = length-steps_from origin ss in omega arith

-- each slot has a place in its row
slots_room : (doc : Document) (target : List ℕ) (there : ElementAt) → element_at doc target ≡ Some there → (ss : List Slot) → AllByRecursion (λ s. Stood doc target s.place) ss → AllByRecursion (λ s. s.place.left ≤ row_before target s.place.up) ss
slots_room doc target there e [] h = tt
slots_room doc target there e (s ∷ ss) (this, h) = (room doc target there s.place e this, slots_room doc target there e ss h)

pub shape_exists : (doc : Document) (target : List ℕ) (x y : SelectorParts) → IsLegal doc → MatchesFrom doc x.chain x.links target → MatchesFrom doc y.chain y.links target → x.pseudo ≡ y.pseudo → (shape : ShapeParts) × ValidShape x y shape
shape_exists doc target x y legal mx my pseudo = by x.chain y.chain refl refl mx my
  where
    by : (xc yc : List (List Simple)) → x.chain ≡ xc → y.chain ≡ yc → MatchesFrom doc xc x.links target → MatchesFrom doc yc y.links target → (shape : ShapeParts) × ValidShape x y shape
    by [] yc ex ey mx my = absurd mx
    by (c ∷ cs) [] ex ey mx my = absurd my
    by (c ∷ cs) (d ∷ ds) ex ey mx my =
        let tx = trail doc target cs x.links c origin target (start target) mx in
        let ty = trail doc target ds y.links d origin target (start target) my in
        let m = merge (length tx.0 + length ty.0) origin tx.0 ty.0 (omega arith) (trail_rises x.links origin tx.0 tx.1) (trail_rises y.links origin ty.0 ty.1) in
        let first_here = stood doc target c origin tx.2.0 in
        let there = first_here.here in
        let e : element_at doc target ≡ Some there = ap (element_at doc) (one_path target origin target first_here.path (start target) first_here.at) ∙ first_here.is in
        let all : AllByRecursion (λ s. Stood doc target s.place) m.slots = slots_all (Stood doc target) m.slots m.used
        (subst (AllByRecursion (Stood doc target)) (sym m.left) (zip_all (HoldsIn doc target) (Stood doc target) (stood doc target) cs tx.0 tx.2.1))
        (subst (AllByRecursion (Stood doc target)) (sym m.right) (zip_all (HoldsIn doc target) (Stood doc target) (stood doc target) ds ty.0 ty.2.1)) in
        let ready : Ready doc target x y there m.slots = record {
          e = e;
          rise = m.rise;
          used = m.used;
          seen_left = subst (λ chain. AllZip (λ c p. All (Sees doc target p) c) chain (origin ∷ places_where (λ s. s.in_left) m.slots)) (sym ex)
              (subst (λ ps. AllZip (λ c p. All (Sees doc target p) c) (c ∷ cs) (origin ∷ ps)) (sym m.left) (zip_weaker (HoldsIn doc target) (λ c p. All (Sees doc target p) c) (sees_all doc target) (c ∷ cs) (origin ∷ tx.0) tx.2));
          seen_right = subst (λ chain. AllZip (λ c p. All (Sees doc target p) c) chain (origin ∷ places_where (λ s. s.in_right) m.slots)) (sym ey)
              (subst (λ ps. AllZip (λ c p. All (Sees doc target p) c) (d ∷ ds) (origin ∷ ps)) (sym m.right) (zip_weaker (HoldsIn doc target) (λ c p. All (Sees doc target p) c) (sees_all doc target) (d ∷ ds) (origin ∷ ty.0) ty.2));
          trail_left = subst (Trail x.links origin) (sym m.left) tx.1;
          trail_right = subst (Trail y.links origin) (sym m.right) ty.1;
          stand = nth_all (Stood doc target) origin m.slots first_here all;
          rooms = slots_room doc target there e m.slots all;
        } in
        (shape_for doc target m.slots, valid doc target x y there m.slots ready legal pseudo)
