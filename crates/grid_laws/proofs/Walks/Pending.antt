-- What the combinators ask while slots are laid.
use Rattle.std.proofs.Common.{Bool, List, [], ap, arith, false, not, refl, suc, sym, true, ℕ, ◌++◌, ◌+◌, ◌-◌, ◌<◌, ◌∙◌, ◌∷◌, ◌≡◌, ◌≢◌}
use Rattle.std.proofs.lemmas.Bool.{eqb-true, false≢true}
use Rattle.std.specs.Prelude.{if◌then◌else◌, ◌==◌}
use Rattle.css_model.specs.declared.selector.Combinator.{Combinator}
use Rattle.css_model.specs.declared.selector.Combinator.TheVariants.{Child, Inside, Later, Next}
use Rattle.grid_laws.specs.Grid.{goes_up, waits_at}
use Rattle.grid_laws.specs.Numbers.{LinkNumbers}
use Rattle.grid_laws.specs.Slots.{step_for}
use Rattle.slot_plan.specs.Counts.{StepCounts}
use Rattle.slot_plan.specs.Steps.{AreSides, IsSide, LinkFits}
use Rattle.slot_plan.specs.declared.shape.SlotStep.{SlotStep}
use Rattle.slot_plan.specs.declared.shape.SlotStep.TheVariants.{Further, NextTo, UpOne}

-- what is known since the last compound of a selector, by the combinator behind it
abbrev pub Pending : List Combinator → List SlotStep → Type 0
Pending [] mids = Unit {0}
Pending (Next ∷ links) mids = mids ≡ []
Pending (Later ∷ links) mids = AreSides mids
Pending (Child ∷ links) mids = AreSides mids
Pending (Inside ∷ links) mids = Unit {0}

-- one more step to a sibling
sides_push : (mids : List SlotStep) (s : SlotStep) → AreSides mids → IsSide s → AreSides (mids ++ s ∷ [])
sides_push [] s _ h = (h, tt)
sides_push (m ∷ mids) s (here, more) h = (here, sides_push mids s more h)

-- a step that does not lead up leads to a sibling
side : (b b' : ℕ) → IsSide (step_for false b b')
side b b' = by (b == suc b')
  where
    by : (e : Bool) → IsSide (if e then NextTo else Further)
    by true = tt
    by false = tt

-- a compound is laid
pub lay : (link : Combinator) (links : List Combinator) (mids : List SlotStep) (b b' : ℕ) → Pending (link ∷ links) mids → (link ≡ Next → b ≡ suc b') → LinkFits link (mids ++ step_for (goes_up link) b b' ∷ [])
lay Next links mids b b' none one = by (b == suc b') refl
  where
    by : (e : Bool) → (b == suc b') ≡ e → mids ++ (if e then NextTo else Further) ∷ [] ≡ NextTo ∷ []
    by true e = ap (λ ms. ms ++ NextTo ∷ []) none
    by false e = absurd (let h : b ≡ suc b' = one refl in grind arith)
lay Later links mids b b' sides one = sides_push mids (step_for false b b') sides (side b b')
lay Child links mids b b' sides one = (mids, refl, sides)
lay Inside links mids b b' _ one = (mids, UpOne, refl, tt)

-- a slot without a compound of the selector
pub wait : (links : List Combinator) (up : Bool) (mids : List SlotStep) (b b' : ℕ) → Pending links mids → waits_at links 0 up ≡ true → Pending links (mids ++ step_for up b b' ∷ [])
wait [] up mids b b' _ ok = tt
wait (Next ∷ links) up mids b b' _ ok = absurd (false≢true ok)
wait (Later ∷ links) true mids b b' sides ok = absurd (false≢true ok)
wait (Later ∷ links) false mids b b' sides ok = sides_push mids (step_for false b b') sides (side b b')
wait (Child ∷ links) true mids b b' sides ok = absurd (false≢true ok)
wait (Child ∷ links) false mids b b' sides ok = sides_push mids (step_for false b b') sides (side b b')
wait (Inside ∷ links) up mids b b' _ ok = tt

-- the counts of a step
pub counts : (up : Bool) (b b' a a' : ℕ) → (up ≡ false → (b' < b) × (b' + a' ≡ b + a)) → StepCounts (step_for up b b') b b' a a'
counts true b b' a a' h = tt
counts false b b' a a' h = by (b == suc b') refl (h refl)
  where
    by : (e : Bool) → (b == suc b') ≡ e → (b' < b) × (b' + a' ≡ b + a) → StepCounts (if e then NextTo else Further) b b' a a'
    by true e (less, sum) = let is : b ≡ suc b' = eqb-true b (suc b') e in (is, omega arith)
    by false e (less, sum) = (b - suc b', grind arith, omega arith, omega arith)

-- the combinator behind the last compound stays in the row
abbrev pub stays : List Combinator → Bool
stays [] = false
stays (link ∷ links) = not (goes_up link)

-- one selector, seen from the slot laid last: `has` says whether it has a compound there, b0 and a0 are
-- the numbers of its last compound, b and a those of the slot
pub record Side (has : Bool) (links : List Combinator) (mids : List SlotStep) (b0 a0 b a : ℕ) : Type 0 where
  pub pending : Pending links mids
  pub here : has ≡ true → (mids ≡ []) × (b0 ≡ b) × (a0 ≡ a)
  pub gone : has ≡ false → mids ≢ []
  pub sum : stays links ≡ true → b0 + a0 ≡ b + a

-- right behind a compound nothing is pending
pub pending_none : (links : List Combinator) → Pending links []
pending_none [] = tt
pending_none (Next ∷ links) = refl
pending_none (Later ∷ links) = tt
pending_none (Child ∷ links) = tt
pending_none (Inside ∷ links) = tt

-- at the first slot
pub begin : (links : List Combinator) (b a : ℕ) → Side true links [] b a b a
begin links b a = record { pending = pending_none links; here = λ _. (refl, refl, refl); gone = λ h. absurd (false≢true (sym h)); sum = λ _. refl }

-- the combinator `+`
abbrev pub is_next : Combinator → Bool
is_next Inside = false
is_next Child = false
is_next Next = true
is_next Later = false

-- its next compound is laid, with the numbers b1 and a1
pub advance : (has : Bool) (link : Combinator) (links : List Combinator) (mids : List SlotStep) (b0 a0 b1 a1 b a : ℕ) → Side has (link ∷ links) mids b0 a0 b a → LinkNumbers link b0 b1 a0 a1 →
    (has ≡ false → goes_up link ≡ false → b1 < b) → (goes_up link ≡ false → (b1 < b) × (b1 + a1 ≡ b + a)) × (link ≡ Next → b ≡ suc b1)
advance has Inside links mids b0 a0 b1 a1 b a s numbers less = (λ h. absurd (false≢true (sym h)), λ h. absurd (let e : goes_up Inside ≡ goes_up Next = ap goes_up h in false≢true (sym e)))
advance has Child links mids b0 a0 b1 a1 b a s numbers less = (λ h. absurd (false≢true (sym h)), λ h. absurd (let e : goes_up Child ≡ goes_up Next = ap goes_up h in false≢true (sym e)))
advance true Next links mids b0 a0 b1 a1 b a s numbers less = let at = s.here refl in (λ _. (omega (arith, numbers, at), omega (arith, numbers, at)), λ _. omega (arith, numbers, at))
advance false Next links mids b0 a0 b1 a1 b a s numbers less = absurd (s.gone refl s.pending)
advance true Later links mids b0 a0 b1 a1 b a s numbers less = let at = s.here refl in (λ _. (omega (arith, numbers, at), omega (arith, numbers, at)), λ h. absurd (let e : is_next Later ≡ is_next Next = ap is_next h in false≢true e))
advance false Later links mids b0 a0 b1 a1 b a s numbers less = let sum = s.sum refl in let l = less refl refl in (λ _. (l, omega (arith, numbers, sum)), λ h. absurd (let e : is_next Later ≡ is_next Next = ap is_next h in false≢true e))

-- a list with a last element is not empty
push_some : {A : Type 0} (xs : List A) (x : A) → xs ++ x ∷ [] ≢ []
push_some [] x e = cc
push_some (y ∷ ys) x e = cc

-- a slot without a compound of it is laid, with the numbers b' and a'
pub stay : (has : Bool) (links : List Combinator) (mids : List SlotStep) (b0 a0 b a b' a' : ℕ) (up : Bool) → Side has links mids b0 a0 b a → waits_at links 0 up ≡ true → (up ≡ false → b' + a' ≡ b + a) →
    Side false links (mids ++ step_for up b b' ∷ []) b0 a0 b' a'
stay has links mids b0 a0 b a b' a' up s ok same = record {
  pending = wait links up mids b b' s.pending ok;
  here = λ h. absurd (false≢true h);
  gone = λ _. push_some mids (step_for up b b');
  sum = by links up s.sum ok same;
}
  where
    by : (links : List Combinator) (up : Bool) → (stays links ≡ true → b0 + a0 ≡ b + a) → waits_at links 0 up ≡ true → (up ≡ false → b' + a' ≡ b + a) → stays links ≡ true → b0 + a0 ≡ b' + a'
    by [] up sum ok same h = absurd (false≢true h)
    by (Inside ∷ links) up sum ok same h = absurd (false≢true h)
    by (Child ∷ links) up sum ok same h = absurd (false≢true h)
    by (Next ∷ links) up sum ok same h = absurd (false≢true ok)
    by (Later ∷ links) true sum ok same h = absurd (false≢true ok)
    by (Later ∷ links) false sum ok same h = sum refl ∙ sym (same refl)
