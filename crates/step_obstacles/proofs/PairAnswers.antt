-- What tells of a moved pair and what it faces.
use Rattle.std.proofs.Common.{◌≡◌, ◌↔◌, ℕ, zero, suc, Bool, true, false, List, [], ◌∷◌, Some, None, refl, sym, ap, ◌∙◌, subst, arith}
use Rattle.std.specs.Prelude.{Result, IfOk, not, slice_get}
use Rattle.std.proofs.lemmas.Bool.{false≢true}
use Rattle.cascade_laws.proofs.ForCallers.{some-same}
use Rattle.css_model.specs.Cascade.Order.{Pair, WeighsKept}
use Rattle.css_model.specs.declared.selector.Specificity.{Specificity}
use Rattle.css_model.specs.declared.sheet.Decl.{Decl}
use Rattle.css_model.specs.declared.sheet.Item.{Item}
use Rattle.css_model.specs.declared.sheet.Item.TheVariants.{Rule, KeptRule, KeptBlock}
use Rattle.css_model.specs.Documents.SelectorParts.{SelectorParts}
use Rattle.css_model.specs.Documents.Specificity.{specificity_of}
use Rattle.css_model.specs.Sheets.KeptItems.{is_kept, kept_before}
use Rattle.css_model.specs.Sheets.RuleParts.{RuleParts}
use Rattle.obstacles.specs.declared.obstacle.PairPlace.{PairPlace}
use Rattle.overlap.specs.PairsParts.{Answered}
use Rattle.step_obstacles.specs.Blocked.{AllPass, AreAnswered, Crosses, IsKeptIn, IsTold}
use Rattle.step_obstacles.specs.declared.facing.Facing.{Facing}
use Rattle.step_obstacles.specs.declared.facing.Facing.TheVariants as facing
use Rattle.step_obstacles.specs.Turns.{Faces, MayWeigh, OfSelectors, hindrance_of, pair_of, with_kept}
use Rattle.plan_laws.specs.Barrier.Hindering.{OfPair, OfKept}
use Rattle.window_order.specs.declared.window.Window.{Window}
use Rattle.window_order.specs.Reversed.{IsReversed, IsKeptReversed, kept_number}
use Rattle.window_order.specs.Weighing.{DeclsWeigh}

module _ (answers : List Answered) (w : Window) (p q : Pair) where
  pub told_by : (x y : SelectorParts) → x ≡ p.selector → y ≡ q.selector → DeclsWeigh p.decl q.decl → specificity_of p.selector ≡ specificity_of q.selector → IsReversed w p q → (apart : Bool) → AreAnswered answers x y apart →
      IsTold answers w (OfPair p q) (not apart)
  told_by x y x_is y_is weigh specificity reversed apart h =
      of apart (subst (λ (s : SelectorParts). AreAnswered answers s q.selector apart) x_is (subst (λ (t : SelectorParts). AreAnswered answers x t apart) y_is h))
    where
      of : (apart : Bool) → AreAnswered answers p.selector q.selector apart → IsTold answers w (OfPair p q) (not apart)
      of true g = λ c. g
      of false g = ((record { different = weigh.different; names = weigh.names; importance = weigh.importance; specificity = specificity }, reversed), g)

-- what is told of two pairs is told of what the one faces
pub pair_faced : {E : Type 0} (answers : List Answered) (w : Window) (p : Pair) (f : Facing) (q : Pair) (place : PairPlace) (k : Specificity) → f ≡ facing.Pair q place k →
    (res : Result Bool E) → IfOk res (λ b. IsTold answers w (OfPair p q) b) → IfOk res (λ b. IsTold answers w (hindrance_of w.items.now f p) b)
pair_faced answers w p f q place k is res told = subst (λ (g : Facing). IfOk res (λ b. IsTold answers w (hindrance_of w.items.now g p) b)) (sym is) told

-- a pair of another specificity does not weigh
pub unlike_passes : (answers : List Answered) (w : Window) (f : Facing) (p : Pair) → Faces w p.decl f → (MayWeigh (specificity_of p.selector) f → ⊥) → IsTold answers w (hindrance_of w.items.now f p) false
unlike_passes answers w (facing.Pair q place k) p faces other crosses = absurd (other (crosses.0.specificity ∙ sym faces.3))
unlike_passes answers w (facing.Kept i) p faces other crosses = absurd (other tt)

-- kept items with as many kept ones before them are one
kept_same : (xs : List Item) (i j : ℕ) (a b : Item) → slice_get xs i ≡ Some a → is_kept a ≡ true → slice_get xs j ≡ Some b → is_kept b ≡ true → kept_before i xs ≡ kept_before j xs → i ≡ j
kept_same [] i j a b at kept at' kept' same = absurd (let e : None ≡ Some a = at in cc)
kept_same (Rule r ∷ xs) zero j a b at kept at' kept' same = absurd (false≢true (ap is_kept (some-same at) ∙ kept))
kept_same (Rule r ∷ xs) (suc i) zero a b at kept at' kept' same = absurd (false≢true (ap is_kept (some-same at') ∙ kept'))
kept_same (Rule r ∷ xs) (suc i) (suc j) a b at kept at' kept' same = ap suc (kept_same xs i j a b at kept at' kept' same)
kept_same (KeptRule k ∷ xs) zero zero a b at kept at' kept' same = refl
kept_same (KeptRule k ∷ xs) zero (suc j) a b at kept at' kept' same = absurd (omega (arith, same))
kept_same (KeptRule k ∷ xs) (suc i) zero a b at kept at' kept' same = absurd (omega (arith, same))
kept_same (KeptRule k ∷ xs) (suc i) (suc j) a b at kept at' kept' same = ap suc (kept_same xs i j a b at kept at' kept' (omega (arith, same)))
kept_same (KeptBlock k ∷ xs) zero zero a b at kept at' kept' same = refl
kept_same (KeptBlock k ∷ xs) zero (suc j) a b at kept at' kept' same = absurd (omega (arith, same))
kept_same (KeptBlock k ∷ xs) (suc i) zero a b at kept at' kept' same = absurd (omega (arith, same))
kept_same (KeptBlock k ∷ xs) (suc i) (suc j) a b at kept at' kept' same = ap suc (kept_same xs i j a b at kept at' kept' (omega (arith, same)))

pub kept_told : (answers : List Answered) (w : Window) (p : Pair) (i : ℕ) (k : IsKeptIn w i) → WeighsKept p k.item → (b : Bool) → (b ≡ true) ↔ IsKeptReversed w p (kept_number w i) → IsTold answers w (OfKept p (kept_before i w.items.now)) b
kept_told answers w p i k weighs true f = ((i, k, refl, weighs, f.0 refl), tt)
kept_told answers w p i k weighs false f = λ c. false≢true (f.1 (subst (λ (j : ℕ). IsKeptReversed w p (kept_number w j)) (sym (kept_same w.items.now i c.0 k.item c.1.item k.item_at k.kept c.1.item_at c.1.kept c.2)) c.4))

pub kept_faced : (answers : List Answered) (w : Window) (p : Pair) (f : Facing) (i : ℕ) → f ≡ facing.Kept i → Faces w p.decl f → (b : Bool) → (b ≡ true) ↔ IsKeptReversed w p (kept_number w i) → IsTold answers w (hindrance_of w.items.now f p) b
kept_faced answers w p f i is faces b told =
    let k : Faces w p.decl (facing.Kept i) = subst (Faces w p.decl) is faces in
    subst (λ (g : Facing). IsTold answers w (hindrance_of w.items.now g p) b) (sym is) (kept_told answers w p i k.0 (k.1 p refl) b told)

-- a kept item that does not weigh lets the step pass
pub kept_light : (answers : List Answered) (w : Window) (n : ℕ) (item : Item) → slice_get w.items.now n ≡ Some item → is_kept item ≡ true → (r : RuleParts) (d : Decl) →
    ((p : Pair) → p.decl ≡ d → WeighsKept p item → ⊥) → AllPass answers w (OfSelectors r d (with_kept w.items.now n))
kept_light answers w n item at kept r d light by (x, inside, is) crosses =
    let c : Crosses w (OfKept (pair_of x d) (kept_before n w.items.now)) = subst (Crosses w) is crosses in
    let same : n ≡ c.0 = kept_same w.items.now n c.0 item c.1.item at kept c.1.item_at c.1.kept c.2 in
    let item_same : c.1.item ≡ item = some-same (sym c.1.item_at ∙ ap (slice_get w.items.now) (sym same) ∙ at) in
    absurd (light (pair_of x d) refl (subst (WeighsKept (pair_of x d)) item_same c.3))
