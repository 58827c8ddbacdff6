-- The steps between the slots of compounds, one by one.
use Rattle.std.proofs.Common.{List, [], ap, arith, drop, false, get_or, length, not, refl, subst, suc, sym, true, zero, ℕ, ◌+◌, ◌-◌, ◌<◌, ◌∙◌, ◌∷◌, ◌≡◌, ◌≤◌}
use Rattle.std.proofs.lemmas.Bool.{false≢true}
use Rattle.std.proofs.lemmas.List.{get_or-drop, get_or-take, get_or_append_left, get_or_at, length-append, length-drop, length-take-le}
use Rattle.std.specs.List.{slice_range}
use Rattle.css_model.specs.declared.selector.Combinator.{Combinator}
use Rattle.css_model.specs.declared.selector.Combinator.TheVariants.{Child, Inside, Later, Next}
use Rattle.grid_laws.proofs.Walks.Placed.{place_of}
use Rattle.grid_laws.specs.Grid.{goes_up, goes_up_at, waits, waits_at}
use Rattle.grid_laws.specs.Numbers.{LinkNumbers, RunFits}
use Rattle.slot_plan.specs.Counts.{CountsFit, StepCounts}
use Rattle.slot_plan.specs.Steps.{AreSides, IsUp, LinkFits, LinksFit, is_parent, is_up}
use Rattle.slot_plan.specs.ValidShape.{Ascend}
use Rattle.slot_plan.specs.declared.shape.SlotStep.{SlotStep}
use Rattle.slot_plan.specs.declared.shape.SlotStep.TheVariants.{Further, NextTo, UpMore, UpOne}

is_parent_at : (steps : List SlotStep) (k : ℕ) → is_parent steps (suc k) ≡ is_up (get_or steps k NextTo)
is_parent_at [] k = refl
is_parent_at (s ∷ ss) zero = refl
is_parent_at (s ∷ ss) (suc k) = is_parent_at ss k

sides_get : (ss : List SlotStep) (t : ℕ) → AreSides ss → is_up (get_or ss t NextTo) ≡ false
sides_get [] t _ = refl
sides_get (NextTo ∷ ss) zero _ = refl
sides_get (Further ∷ ss) zero _ = refl
sides_get (UpOne ∷ ss) zero (bad, _) = absurd bad
sides_get (UpMore ∷ ss) zero (bad, _) = absurd bad
sides_get (s ∷ ss) (suc t) (_, more) = sides_get ss t more

slice_at : (ss : List SlotStep) (p q t : ℕ) → t < q - p → get_or (slice_range ss p q) t NextTo ≡ get_or ss (p + t) NextTo
slice_at ss p q t h = get_or-take (q - p) (drop p ss) t NextTo h ∙ get_or-drop p ss t NextTo

length_slice : (ss : List SlotStep) (p q : ℕ) → q ≤ length ss → length (slice_range ss p q) ≡ q - p
length_slice ss p q h = length-take-le (q - p) (drop p ss) (let l = length-drop p ss in omega arith)

ups : (s : SlotStep) → IsUp s → is_up s ≡ true
ups NextTo bad = absurd bad
ups Further bad = absurd bad
ups UpOne _ = refl
ups UpMore _ = refl

end_up : (link : Combinator) (ss : List SlotStep) (n : ℕ) → LinkFits link ss → length ss ≡ suc n → is_up (get_or ss n NextTo) ≡ goes_up link
end_up Next ss n is len = sides_get ss n (subst AreSides (sym is) (tt, tt))
end_up Later ss n sides len = sides_get ss n sides
end_up Child ss n (front, is, _) len = ap (λ steps. is_up (get_or steps n NextTo)) is ∙ ap is_up (get_or_at front UpOne [] NextTo n (let l = ap length is in let m = length-append front (UpOne ∷ []) in omega arith))
end_up Inside ss n (front, last, is, up) len = ap (λ steps. is_up (get_or steps n NextTo)) is ∙ ap is_up (get_or_at front last [] NextTo n (let l = ap length is in let m = length-append front (last ∷ []) in omega arith)) ∙ ups last up

mid_waits : (link : Combinator) (ss : List SlotStep) (t : ℕ) → LinkFits link ss → suc t < length ss → waits link (is_up (get_or ss t NextTo)) ≡ true
mid_waits Next ss t is h = absurd (let l = ap length is in omega arith)
mid_waits Later ss t sides h = ap not (sides_get ss t sides)
mid_waits Child ss t (front, is, sides) h =
    ap (λ steps. not (is_up (get_or steps t NextTo))) is
    ∙ ap (λ s. not (is_up s)) (get_or_append_left front (UpOne ∷ []) NextTo t (let l = ap length is in let m = length-append front (UpOne ∷ []) in omega arith))
    ∙ ap not (sides_get front t sides)
mid_waits Inside ss t _ h = refl

-- the step into a compound's slot goes up where its combinator does
pub own_up : (steps : List SlotStep) (links : List Combinator) (p : ℕ) (ps : List ℕ) (i : ℕ) → LinksFit steps links p ps → Ascend p ps → ((k : ℕ) → place_of p ps k ≤ length steps) → i < length ps →
    is_parent steps (place_of p ps (suc i)) ≡ goes_up_at links (suc i)
own_up steps links p [] i fit up bound h = absurd (omega arith)
own_up steps [] p (q ∷ qs) i fit up bound h = absurd fit
own_up steps (link ∷ links) p (q ∷ qs) zero (fit, more) (less, up) bound h =
    let inside : q ≤ length steps = bound 1 in
    ap (is_parent steps) (let e : q ≡ suc (q - 1) = omega arith in e)
    ∙ is_parent_at steps (q - 1)
    ∙ ap (λ (k : ℕ). is_up (get_or steps k NextTo)) (let e : q - 1 ≡ p + (q - 1 - p) = omega arith in e)
    ∙ ap is_up (sym (slice_at steps p q (q - 1 - p) (omega arith)))
    ∙ end_up link (slice_range steps p q) (q - 1 - p) fit (length_slice steps p q inside ∙ (let e : q - p ≡ suc (q - 1 - p) = omega arith in e))
own_up steps (link ∷ links) p (q ∷ qs) (suc i) (fit, more) (less, up) bound h = own_up steps links q qs i more up (λ k. bound (suc k)) (omega arith)

-- a slot between two compounds of a selector is one at which it waits
pub waits_fit : (steps : List SlotStep) (links : List Combinator) (p : ℕ) (ps : List ℕ) (j k : ℕ) → LinksFit steps links p ps → Ascend p ps → ((n : ℕ) → place_of p ps n ≤ length steps) → length links ≡ length ps →
    j ≤ length ps → place_of p ps j < k → (j < length ps → k < place_of p ps (suc j)) → waits_at links j (is_parent steps k) ≡ true
waits_fit steps [] p ps j k fit up bound same hj low high = refl
waits_fit steps (link ∷ links) p [] j k fit up bound same hj low high = absurd (omega arith)
waits_fit steps (link ∷ links) p (q ∷ qs) zero k (fit, more) (less, up) bound same hj low high =
    let inside : q ≤ length steps = bound 1 in
    let top : k < q = high (omega arith) in
    ap (λ (n : ℕ). waits link (is_parent steps n)) (let e : k ≡ suc (k - 1) = omega arith in e)
    ∙ ap (waits link) (is_parent_at steps (k - 1))
    ∙ ap (λ (n : ℕ). waits link (is_up (get_or steps n NextTo))) (let e : k - 1 ≡ p + (k - 1 - p) = omega arith in e)
    ∙ ap (λ s. waits link (is_up s)) (sym (slice_at steps p q (k - 1 - p) (omega arith)))
    ∙ mid_waits link (slice_range steps p q) (k - 1 - p) fit (let l = length_slice steps p q inside in omega arith)
waits_fit steps (link ∷ links) p (q ∷ qs) (suc j) k (fit, more) (less, up) bound same hj low high = waits_fit steps links q qs j k more up (λ n. bound (suc n)) (omega arith) (omega arith) low (λ h. high (omega arith))

-- the counts of a step
step_at : (ss : List SlotStep) (bs aa : List ℕ) (k : ℕ) → CountsFit ss bs aa → k < length ss → StepCounts (get_or ss k NextTo) (get_or bs k 0) (get_or bs (suc k) 0) (get_or aa k 0) (get_or aa (suc k) 0)
step_at [] bs aa k fit h = absurd (omega arith)
step_at (s ∷ ss) (b ∷ b' ∷ bs) (a ∷ a' ∷ aa) zero (step, fit) h = step
step_at (s ∷ ss) (b ∷ b' ∷ bs) (a ∷ a' ∷ aa) (suc k) (step, fit) h = step_at ss (b' ∷ bs) (a' ∷ aa) k fit (omega arith)
step_at (s ∷ ss) [] aa k fit h = absurd fit
step_at (s ∷ ss) (b ∷ []) aa k fit h = absurd fit
step_at (s ∷ ss) (b ∷ b' ∷ bs) [] k fit h = absurd fit
step_at (s ∷ ss) (b ∷ b' ∷ bs) (a ∷ []) k fit h = absurd fit

side_step : (s : SlotStep) (b b' a a' : ℕ) → is_up s ≡ false → StepCounts s b b' a a' → (b' < b) × (b' + a' ≡ b + a)
side_step NextTo b b' a a' side step = (omega (arith, step), omega (arith, step))
side_step Further b b' a a' side (gap, some, is, is') = (omega arith, omega arith)
side_step UpOne b b' a a' side step = absurd (false≢true (sym side))
side_step UpMore b b' a a' side step = absurd (false≢true (sym side))

-- along steps to the left
pub row : (ss : List SlotStep) (bs aa : List ℕ) (d p : ℕ) → CountsFit ss bs aa → ((t : ℕ) → t < d → is_up (get_or ss (p + t) NextTo) ≡ false) → p + d ≤ length ss →
    (get_or bs (p + d) 0 + d ≤ get_or bs p 0) × (get_or bs (p + d) 0 + get_or aa (p + d) 0 ≡ get_or bs p 0 + get_or aa p 0)
row ss bs aa zero p fit sides h =
    let e : p + 0 ≡ p = omega arith in
    ((let w = ap (λ (n : ℕ). get_or bs n 0) e in omega arith), ap (λ (n : ℕ). get_or bs n 0 + get_or aa n 0) e)
row ss bs aa (suc d) p fit sides h =
    let ih = row ss bs aa d p fit (λ t l. sides t (omega arith)) (omega arith) in
    let st = side_step (get_or ss (p + d) NextTo) (get_or bs (p + d) 0) (get_or bs (suc (p + d)) 0) (get_or aa (p + d) 0) (get_or aa (suc (p + d)) 0) (sides d (omega arith)) (step_at ss bs aa (p + d) fit (omega arith)) in
    let e : p + suc d ≡ suc (p + d) = omega arith in
    let w = ap (λ (n : ℕ). get_or bs n 0) e in
    let w' = ap (λ (n : ℕ). get_or aa n 0) e in
    (omega (arith, ih, st), omega (arith, ih, st))

link_counts : (link : Combinator) (ss : List SlotStep) (bs aa : List ℕ) (p q : ℕ) → CountsFit ss bs aa → p < q → q ≤ length ss → LinkFits link (slice_range ss p q) → LinkNumbers link (get_or bs p 0) (get_or bs q 0) (get_or aa p 0) (get_or aa q 0)
link_counts Inside ss bs aa p q fit less inside link = tt
link_counts Child ss bs aa p q fit less inside link = tt
link_counts Next ss bs aa p q fit less inside link =
    let l : q - p ≡ 1 = sym (length_slice ss p q inside) ∙ ap length link in
    let at : get_or ss p NextTo ≡ NextTo = ap (λ (n : ℕ). get_or ss n NextTo) (let e : p ≡ p + 0 = omega arith in e) ∙ sym (slice_at ss p q 0 (omega arith)) ∙ ap (λ steps. get_or steps 0 NextTo) link in
    let step = subst (λ s. StepCounts s (get_or bs p 0) (get_or bs (suc p) 0) (get_or aa p 0) (get_or aa (suc p) 0)) at (step_at ss bs aa p fit (omega arith)) in
    let e : q ≡ suc p = omega arith in
    let w = ap (λ (n : ℕ). get_or bs n 0) e in
    let w' = ap (λ (n : ℕ). get_or aa n 0) e in
    (omega (arith, step), omega (arith, step))
link_counts Later ss bs aa p q fit less inside link =
    let r = row ss bs aa (q - p) p fit (λ t h. ap is_up (sym (slice_at ss p q t h)) ∙ sides_get (slice_range ss p q) t link) (omega arith) in
    let e : p + (q - p) ≡ q = omega arith in
    let w = ap (λ (n : ℕ). get_or bs n 0) e in
    let w' = ap (λ (n : ℕ). get_or aa n 0) e in
    (omega (arith, r), omega (arith, r))

pub runs : (ss : List SlotStep) (bs aa : List ℕ) (links : List Combinator) (p : ℕ) (ps : List ℕ) → CountsFit ss bs aa → LinksFit ss links p ps → Ascend p ps → ((n : ℕ) → place_of p ps n ≤ length ss) → length links ≡ length ps →
    RunFits links (λ i. get_or bs (place_of p ps i) 0) (λ i. get_or aa (place_of p ps i) 0)
runs ss bs aa [] p ps fit links up bound same = tt
runs ss bs aa (link ∷ links) p [] fit fits up bound same = absurd (omega arith)
runs ss bs aa (link ∷ links) p (q ∷ qs) fit (one, more) (less, up) bound same =
    (link_counts link ss bs aa p q fit less (bound 1) one, runs ss bs aa links q qs fit more up (λ n. bound (suc n)) (omega arith))

-- the slots of a chain ascend
pub ascends : (p : ℕ) (ps : List ℕ) (i : ℕ) → Ascend p ps → i < length ps → place_of p ps i < place_of p ps (suc i)
ascends p [] i up h = absurd (omega arith)
ascends p (q ∷ qs) zero (less, up) h = less
ascends p (q ∷ qs) (suc i) (less, up) h = ascends q qs i up (omega arith)

link_sides : (link : Combinator) (ss : List SlotStep) → goes_up link ≡ false → LinkFits link ss → AreSides ss
link_sides Inside ss h fit = absurd (false≢true (sym h))
link_sides Child ss h fit = absurd (false≢true (sym h))
link_sides Next ss h fit = subst AreSides (sym fit) (tt, tt)
link_sides Later ss h fit = fit

-- where a combinator does not go up, all its steps lead to the left
pub sides_between : (steps : List SlotStep) (links : List Combinator) (p : ℕ) (ps : List ℕ) (i k : ℕ) → LinksFit steps links p ps → i < length ps → goes_up_at links (suc i) ≡ false →
    place_of p ps i ≤ k → k < place_of p ps (suc i) → is_up (get_or steps k NextTo) ≡ false
sides_between steps links p [] i k fit h side low high = absurd (omega arith)
sides_between steps [] p (q ∷ qs) i k fit h side low high = absurd fit
sides_between steps (link ∷ links) p (q ∷ qs) zero k (fit, more) h side low high =
    ap (λ (n : ℕ). is_up (get_or steps n NextTo)) (let e : k ≡ p + (k - p) = omega arith in e)
    ∙ ap is_up (sym (slice_at steps p q (k - p) (omega arith)))
    ∙ sides_get (slice_range steps p q) (k - p) (link_sides link (slice_range steps p q) side fit)
sides_between steps (link ∷ links) p (q ∷ qs) (suc i) k (fit, more) h side low high = sides_between steps links q qs i k more (omega arith) side low high
