-- A selector matches in the document of a shape where its compounds hold in their slots.
use Rattle.std.proofs.Common.{Bool, List, [], ap, arith, drop, get_or, length, refl, subst, suc, sym, zero, ℕ, ◌++◌, ◌+◌, ◌-◌, ◌<◌, ◌∙◌, ◌∷◌, ◌≡◌, ◌≤◌}
use Rattle.std.proofs.lemmas.List.{length-drop, length-take-le}
use Rattle.std.specs.List.{AllByRecursion, AllZip, slice_range}
use Rattle.css_model.specs.Documents.Document.{Document}
use Rattle.css_model.specs.Documents.Matching.{Allows, CompoundHolds, MatchesFrom}
use Rattle.css_model.specs.declared.selector.Combinator.{Combinator}
use Rattle.css_model.specs.declared.selector.Simple.{Simple}
use Rattle.shape_laws.proofs.Document.Climbing.{Climb, StepWay, fits_allows, step_way}
use Rattle.shape_laws.proofs.Document.Paths.{AllInRow, slot_path}
use Rattle.list_facts.proofs.SliceRange.{slice_range_last, slice_range_none}
use Rattle.slot_plan.specs.Counts.{CountsFit}
use Rattle.slot_plan.specs.Steps.{LinkFits, LinksFit}
use Rattle.slot_plan.specs.ValidShape.{Ascend}
use Rattle.slot_plan.specs.declared.shape.SlotStep.{SlotStep}
use Rattle.slot_plan.specs.declared.shape.SlotStep.TheVariants.{NextTo}

-- the path of the next slot
slot_step : (root : Bool) (ss : List SlotStep) (b : ℕ) (bs : List ℕ) (a : ℕ) (aa : List ℕ) (k : ℕ) → CountsFit ss (b ∷ bs) (a ∷ aa) → AllInRow root ss → k < length ss →
    StepWay (get_or ss k NextTo) (slot_path root ss b bs k) (slot_path root ss b bs (suc k))
slot_step root [] b bs a aa k fit rows h = absurd (omega arith)
slot_step root (s ∷ ss) b [] a aa k fit rows h = absurd fit
slot_step root (s ∷ ss) b (b' ∷ bs) a [] k fit rows h = absurd fit
slot_step root (s ∷ ss) b (b' ∷ bs) a (a' ∷ aa) zero fit (row, rows) h = step_way root s ss b b' bs a a' aa fit row
slot_step root (s ∷ ss) b (b' ∷ bs) a (a' ∷ aa) (suc k) (step, fit) (row, rows) h = slot_step root ss b' bs a' aa k fit rows (omega arith)

climb_push : (ss : List SlotStep) (s : SlotStep) (p q r : List ℕ) → Climb ss p q → StepWay s q r → Climb (ss ++ s ∷ []) p r
climb_push [] s p q r is way = (r, subst (λ o. StepWay s o r) (sym is) way, refl)
climb_push (t ∷ ss) s p q r (mid, step, rest) way = (mid, step, climb_push ss s mid q r rest way)

climb_slice : (root : Bool) (ss : List SlotStep) (b : ℕ) (bs : List ℕ) (a : ℕ) (aa : List ℕ) (p d : ℕ) → CountsFit ss (b ∷ bs) (a ∷ aa) → AllInRow root ss → p + d ≤ length ss →
    Climb (slice_range ss p (p + d)) (slot_path root ss b bs p) (slot_path root ss b bs (p + d))
climb_slice root ss b bs a aa p zero fit rows h =
    let e : p + 0 ≡ p = omega arith in
    subst (λ (n : ℕ). Climb (slice_range ss p n) (slot_path root ss b bs p) (slot_path root ss b bs n)) (sym e)
    (subst (λ steps. Climb steps (slot_path root ss b bs p) (slot_path root ss b bs p)) (sym (slice_range_none ss p)) refl)
climb_slice root ss b bs a aa p (suc d) fit rows h =
    let ih = climb_slice root ss b bs a aa p d fit rows (omega arith) in
    let way = slot_step root ss b bs a aa (p + d) fit rows (omega arith) in
    let e : suc (p + d) ≡ p + suc d = omega arith in
    let f : p + d + 1 ≡ suc (p + d) = omega arith in
    subst (λ (n : ℕ). Climb (slice_range ss p n) (slot_path root ss b bs p) (slot_path root ss b bs n)) e
    (subst (λ steps. Climb steps (slot_path root ss b bs p) (slot_path root ss b bs (suc (p + d))))
    (sym (slice_range_last ss p (p + d) NextTo (omega arith) (omega arith)) ∙ ap (λ (n : ℕ). slice_range ss p n) f)
    (climb_push (slice_range ss p (p + d)) (get_or ss (p + d) NextTo) (slot_path root ss b bs p) (slot_path root ss b bs (p + d)) (slot_path root ss b bs (suc (p + d))) ih way))

-- steps that are some
allows_by : (link : Combinator) (ss : List SlotStep) (p q : List ℕ) → 0 < length ss → LinkFits link ss → Climb ss p q → Allows link p q
allows_by link [] p q h fit way = absurd (omega arith)
allows_by link (s ∷ ss) p q h fit way = fits_allows link s ss p q fit way

pub matches_in : (doc : Document) (root : Bool) (ss : List SlotStep) (b : ℕ) (bs : List ℕ) (a : ℕ) (aa : List ℕ) (chain : List (List Simple)) (links : List Combinator) (p : ℕ) (ps : List ℕ) →
    CountsFit ss (b ∷ bs) (a ∷ aa) → AllInRow root ss → LinksFit ss links p ps → Ascend p ps → AllByRecursion (λ q. q ≤ length ss) ps →
    AllZip (λ c k. CompoundHolds doc (slot_path root ss b bs k) c) chain (p ∷ ps) → MatchesFrom doc chain links (slot_path root ss b bs p)
matches_in doc root ss b bs a aa [] links p ps fit rows links_fit up bound holds = absurd holds
matches_in doc root ss b bs a aa (c ∷ []) links p [] fit rows links_fit up bound holds = holds.0
matches_in doc root ss b bs a aa (c ∷ []) links p (q ∷ qs) fit rows links_fit up bound holds = absurd holds.1
matches_in doc root ss b bs a aa (c ∷ d ∷ cs) links p [] fit rows links_fit up bound holds = absurd holds.1
matches_in doc root ss b bs a aa (c ∷ d ∷ cs) [] p (q ∷ qs) fit rows links_fit up bound holds = absurd links_fit
matches_in doc root ss b bs a aa (c ∷ d ∷ cs) (link ∷ links) p (q ∷ qs) fit rows (one, more) (less, up) bound holds =
    (holds.0, (slot_path root ss b bs q, there, matches_in doc root ss b bs a aa (d ∷ cs) links q qs fit rows more up bound.1 holds.1))
  where
    inside : q ≤ length ss
    inside = bound.0

    e : p + (q - p) ≡ q
    e = omega arith

    size : 0 < length (slice_range ss p q)
    size = let l = length-take-le (q - p) (drop p ss) (let d = length-drop p ss in let i = inside in omega arith) in omega arith

    there : Allows link (slot_path root ss b bs p) (slot_path root ss b bs q)
    there = allows_by link (slice_range ss p q) (slot_path root ss b bs p) (slot_path root ss b bs q) size one
        (subst (λ (n : ℕ). Climb (slice_range ss p n) (slot_path root ss b bs p) (slot_path root ss b bs n)) e (climb_slice root ss b bs a aa p (q - p) fit rows (let i = inside in omega arith)))
