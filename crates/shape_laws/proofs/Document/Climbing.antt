-- The paths of the slots of a shape stand to each other as its steps and the combinators say.
use Rattle.std.proofs.Common.{Bool, List, [], ap, arith, false, refl, subst, suc, sym, true, ℕ, ◌++◌, ◌+◌, ◌-◌, ◌∙◌, ◌∷◌, ◌≡◌, ◌≢◌}
use Rattle.std.proofs.lemmas.Bool.{false≢true}
use Rattle.std.proofs.lemmas.List.{append_assoc, same_from_push}
use Rattle.css_model.specs.Documents.Matching.{Allows}
use Rattle.css_model.specs.declared.selector.Combinator.{Combinator}
use Rattle.css_model.specs.declared.selector.Combinator.TheVariants.{Child, Inside, Later, Next}
use Rattle.shape_laws.proofs.Document.Paths.{InRow, path_from}
use Rattle.shape_laws.proofs.Lists.{Snoc, append_some, empty, last, push_some, snoc}
use Rattle.slot_plan.specs.Counts.{CountsFit}
use Rattle.slot_plan.specs.Steps.{AreSides, IsSide, LinkFits}
use Rattle.slot_plan.specs.declared.shape.SlotStep.{SlotStep}
use Rattle.slot_plan.specs.declared.shape.SlotStep.TheVariants.{Further, NextTo, UpMore, UpOne}

-- what a step does to a path
abbrev pub StepWay : SlotStep → List ℕ → List ℕ → Type 0
StepWay NextTo p q = Allows Next p q
StepWay Further p q = Allows Later p q
StepWay UpOne p q = Allows Child p q
StepWay UpMore p q = Allows Inside p q

abbrev pub Climb : List SlotStep → List ℕ → List ℕ → Type 0
Climb [] p q = p ≡ q
Climb (s ∷ ss) p q = (mid : List ℕ) × StepWay s p mid × Climb ss mid q

-- one step to the left
left_way : (s : SlotStep) (p q : List ℕ) → IsSide s → StepWay s p q → Allows Later p q
left_way NextTo p q _ (parent, i, is, was) = (parent, suc i, i, is, was, omega arith)
left_way Further p q _ way = way
left_way UpOne p q bad way = absurd bad
left_way UpMore p q bad way = absurd bad

sides_way : (s : SlotStep) (ss : List SlotStep) (p q : List ℕ) → AreSides (s ∷ ss) → Climb (s ∷ ss) p q → Allows Later p q
sides_way s [] p q (side, _) (mid, step, is) = subst (λ r. Allows Later p r) is (left_way s p mid side step)
sides_way s (t ∷ ss) p q (side, sides) (mid, step, way) =
    let one = left_way s p mid side step in
    let more = sides_way t ss mid q sides way in
    let same = same_from_push one.0 more.0 one.2 more.1 (sym one.4 ∙ more.3) in
    (one.0, one.1, more.2, one.3, more.4 ∙ ap (λ o. o ++ more.2 ∷ []) (sym same.0), (let e : one.2 ≡ more.1 = same.1 in let l = one.5 in let m = more.5 in omega arith))

climb_parts : (xs ys : List SlotStep) (p q : List ℕ) → Climb (xs ++ ys) p q → (mid : List ℕ) × Climb xs p mid × Climb ys mid q
climb_parts [] ys p q way = (p, refl, way)
climb_parts (x ∷ xs) ys p q (mid, step, way) = let rest = climb_parts xs ys mid q way in (rest.0, (mid, step, rest.1), rest.2)

child_way : (sides : List SlotStep) (p mid q : List ℕ) → AreSides sides → Climb sides p mid → Allows Child mid q → Allows Child p q
child_way [] p mid q _ is way = subst (λ r. Allows Child r q) (sym is) way
child_way (s ∷ ss) p mid q sides climb (x, is) =
    let row = sides_way s ss p mid sides climb in
    let same = same_from_push row.0 q row.2 x (sym row.4 ∙ is) in
    (row.1, row.3 ∙ ap (λ o. o ++ row.1 ∷ []) same.0)

-- steps that end below an element begin below it
reach : (ss : List SlotStep) (p mid q : List ℕ) (rest : List ℕ) → Climb ss p mid → rest ≢ [] → mid ≡ q ++ rest → (more : List ℕ) × (more ≢ []) × (p ≡ q ++ more)
reach [] p mid q rest is some at = (rest, some, is ∙ at)
reach (s ∷ ss) p mid q rest (mid', step, way) some at =
    let ih = reach ss mid' mid q rest way some at in
    by s step ih.0 ih.1 ih.2
  where
    side : (more : List ℕ) → more ≢ [] → mid' ≡ q ++ more → Allows Later p mid' → (more : List ℕ) × (more ≢ []) × (p ≡ q ++ more)
    side more some' is (parent, i, j, now, then', less) = end (snoc more)
      where
        end : Snoc more → (more : List ℕ) × (more ≢ []) × (p ≡ q ++ more)
        end (empty none) = absurd (some' none)
        end (last front x e) =
            let same = same_from_push parent (q ++ front) j x (sym then' ∙ is ∙ ap (λ r. q ++ r) e ∙ sym (append_assoc q front (x ∷ []))) in
            (front ++ i ∷ [], push_some front i, now ∙ ap (λ o. o ++ i ∷ []) same.0 ∙ append_assoc q front (i ∷ []))

    by : (s : SlotStep) → StepWay s p mid' → (more : List ℕ) → more ≢ [] → mid' ≡ q ++ more → (more : List ℕ) × (more ≢ []) × (p ≡ q ++ more)
    by NextTo step more some' is = side more some' is (left_way NextTo p mid' tt step)
    by Further step more some' is = side more some' is step
    by UpOne (x, up) more some' is = (more ++ x ∷ [], push_some more x, up ∙ ap (λ o. o ++ x ∷ []) is ∙ append_assoc q more (x ∷ []))
    by UpMore (r, some'', up) more some' is = (more ++ r, λ e. some'' (append_some more r e), up ∙ ap (λ o. o ++ r) is ∙ append_assoc q more r)

-- the steps that a combinator allows lead where it joins
pub fits_allows : (link : Combinator) (s : SlotStep) (ss : List SlotStep) (p q : List ℕ) → LinkFits link (s ∷ ss) → Climb (s ∷ ss) p q → Allows link p q
fits_allows Next s ss p q is way = let one : Climb (NextTo ∷ []) p q = subst (λ steps. Climb steps p q) is way in subst (λ r. Allows Next p r) one.2 one.1
fits_allows Later s ss p q sides way = sides_way s ss p q sides way
fits_allows Child s ss p q (sides, is, are) way =
    let parts = climb_parts sides (UpOne ∷ []) p q (subst (λ steps. Climb steps p q) is way) in
    child_way sides p parts.0 q are parts.1 (subst (λ r. Allows Child parts.0 r) parts.2.2 parts.2.1)
fits_allows Inside s ss p q (before, UpOne, is, _) way =
    let parts = climb_parts before (UpOne ∷ []) p q (subst (λ steps. Climb steps p q) is way) in
    let up : Allows Child parts.0 q = subst (λ r. Allows Child parts.0 r) parts.2.2 parts.2.1 in
    let r = reach before p parts.0 q (up.0 ∷ []) parts.1 (λ e. cc) up.1 in r
fits_allows Inside s ss p q (before, UpMore, is, _) way =
    let parts = climb_parts before (UpMore ∷ []) p q (subst (λ steps. Climb steps p q) is way) in
    let up : Allows Inside parts.0 q = subst (λ r. Allows Inside parts.0 r) parts.2.2 parts.2.1 in
    let r = reach before p parts.0 q up.0 parts.1 up.1 up.2 in r
fits_allows Inside s ss p q (before, NextTo, is, bad) way = absurd bad
fits_allows Inside s ss p q (before, Further, is, bad) way = absurd bad

-- The paths of neighbouring slots.
tail : (root : Bool) (ss : List SlotStep) (b : ℕ) (bs : List ℕ) (i : ℕ) (p q : List ℕ) → path_from root ss b bs i (p ++ q) ≡ path_from root ss b bs i p ++ q
tail true [] b bs i p q = refl
tail false [] b bs i p q = refl
tail root (s ∷ ss) b [] i p q = refl
tail root (NextTo ∷ ss) b (b' ∷ bs) i p q = tail root ss b' bs ((b - b') + i) p q
tail root (Further ∷ ss) b (b' ∷ bs) i p q = tail root ss b' bs ((b - b') + i) p q
tail root (UpOne ∷ ss) b (b' ∷ bs) i p q = tail root ss b' bs 0 ((b + i) ∷ p) q
tail root (UpMore ∷ ss) b (b' ∷ bs) i p q = tail root ss b' bs 0 (0 ∷ (b + i) ∷ p) q

-- the elements of a slot's row have one parent
pub row_form : (root : Bool) (ss : List SlotStep) (b : ℕ) (bs : List ℕ) (a : ℕ) (aa : List ℕ) → CountsFit ss (b ∷ bs) (a ∷ aa) → InRow root ss →
    (parent : List ℕ) × ((j : ℕ) → path_from root ss b bs j [] ≡ parent ++ (b + j) ∷ [])
row_form true [] b bs a aa fit row = absurd (false≢true (sym row))
row_form false [] b bs a aa fit row = ([], λ j. refl)
row_form root (s ∷ ss) b [] a aa fit row = absurd fit
row_form root (s ∷ ss) b (b' ∷ bs) a [] fit row = absurd fit
row_form root (NextTo ∷ ss) b (b' ∷ bs) a (a' ∷ aa) (step, fit) row =
    let ih = row_form root ss b' bs a' aa fit row in
    (ih.0, λ j. ih.1 ((b - b') + j) ∙ ap (λ (n : ℕ). ih.0 ++ n ∷ []) (let e = step.0 in omega arith))
row_form root (Further ∷ ss) b (b' ∷ bs) a (a' ∷ aa) ((g, some, is, is'), fit) row =
    let ih = row_form root ss b' bs a' aa fit row in
    (ih.0, λ j. ih.1 ((b - b') + j) ∙ ap (λ (n : ℕ). ih.0 ++ n ∷ []) (omega arith))
row_form root (UpOne ∷ ss) b (b' ∷ bs) a (a' ∷ aa) (step, fit) row = (path_from root ss b' bs 0 [], λ j. tail root ss b' bs 0 [] ((b + j) ∷ []))
row_form root (UpMore ∷ ss) b (b' ∷ bs) a (a' ∷ aa) (step, fit) row = (path_from root ss b' bs 0 (0 ∷ []), λ j. tail root ss b' bs 0 (0 ∷ []) ((b + j) ∷ []))

-- from a slot to the next one
pub step_way : (root : Bool) (s : SlotStep) (ss : List SlotStep) (b b' : ℕ) (bs : List ℕ) (a a' : ℕ) (aa : List ℕ) → CountsFit (s ∷ ss) (b ∷ b' ∷ bs) (a ∷ a' ∷ aa) → InRow root (s ∷ ss) → StepWay s (path_from root (s ∷ ss) b (b' ∷ bs) 0 []) (path_from root ss b' bs 0 [])
step_way root NextTo ss b b' bs a a' aa (step, fit) row =
    let form = row_form root ss b' bs a' aa fit row in
    (form.0, b', form.1 ((b - b') + 0) ∙ ap (λ (n : ℕ). form.0 ++ n ∷ []) (let e = step.0 in omega arith), form.1 0 ∙ ap (λ (n : ℕ). form.0 ++ n ∷ []) (let e : b' + 0 ≡ b' = omega arith in e))
step_way root Further ss b b' bs a a' aa ((g, some, is, is'), fit) row =
    let form = row_form root ss b' bs a' aa fit row in
    (form.0, b, b', form.1 ((b - b') + 0) ∙ ap (λ (n : ℕ). form.0 ++ n ∷ []) (let e : b' + ((b - b') + 0) ≡ b = omega arith in e), form.1 0 ∙ ap (λ (n : ℕ). form.0 ++ n ∷ []) (let e : b' + 0 ≡ b' = omega arith in e), omega arith)
step_way root UpOne ss b b' bs a a' aa fit row = (b + 0, tail root ss b' bs 0 [] ((b + 0) ∷ []))
step_way root UpMore ss b b' bs a a' aa fit row = (0 ∷ (b + 0) ∷ [], (λ e. cc), tail root ss b' bs 0 [] (0 ∷ (b + 0) ∷ []))
