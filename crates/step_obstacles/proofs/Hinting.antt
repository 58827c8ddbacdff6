-- What is found by what blocked before.
use Rattle.std.proofs.Common.{◌≡◌, ◌⊎◌, ℕ, ◌≤◌, true, List, [], ◌∷◌, map, Some, None, refl, sym, ap, ap₂, ◌∙◌, subst, inl, inr}
use Rattle.std.specs.Prelude.{Option, Result, Ok, Err, IfOk, IfSome, slice_get}
use Rattle.std.specs.List.{Contains}
use Rattle.css_model.specs.Cascade.Order.{Pair, WeighsKept}
use Rattle.css_model.specs.declared.sheet.Decl.{Decl}
use Rattle.css_model.specs.declared.sheet.DeclItem.{DeclItem}
use Rattle.css_model.specs.declared.sheet.Item.{Item}
use Rattle.css_model.specs.declared.sheet.Item.TheVariants.{Rule, KeptRule, KeptBlock}
use Rattle.css_model.specs.declared.sheet.Piece.{Piece}
use Rattle.css_model.specs.declared.sheet.SelItem.{SelItem}
use Rattle.css_model.specs.Documents.SelectorParts.{SelectorParts}
use Rattle.css_model.specs.Documents.Specificity.{specificity_of}
use Rattle.css_model.specs.Sheets.KeptItems.{kept_before}
use Rattle.css_model.specs.Sheets.KeptRuleParts.{KeptRuleParts}
use Rattle.css_model.specs.Sheets.RuleParts.{RuleParts}
use Rattle.list_facts.proofs.Members.{Contains-here, Contains-nil, Contains-cons_cases}
use Rattle.obstacles.specs.Blocking.{IsAt}
use Rattle.obstacles.specs.declared.obstacle.Obstacle.{Obstacle}
use Rattle.order_laws.proofs.ForCallers.{map_has}
use Rattle.overlap.specs.PairsParts.{Answered}
use Rattle.sheet_order.specs.declared.places.Moved.{Moved}
use Rattle.sheet_order.specs.declared.places.Moved.TheVariants as moved
use Rattle.step_laws.specs.Steps.{decls_of}
use Rattle.step_obstacles.proofs.Deciding.{looked_at_kept, looked_at_pair}
use Rattle.step_obstacles.proofs.Looking.{member_at}
use Rattle.step_obstacles.proofs.Named.{faced, kept_either}
use Rattle.step_obstacles.specs.Blocked.{IsFound, IsKeptIn}
use Rattle.step_obstacles.specs.declared.facing.DeclAt.{DeclAt}
use Rattle.step_obstacles.specs.declared.facing.Facing.{Facing}
use Rattle.step_obstacles.specs.declared.facing.Facing.TheVariants as facing
use Rattle.step_obstacles.specs.declared.facing.Source.{Source}
use Rattle.step_obstacles.specs.Hinted.{FacesWithin, IsDeclOf, IsFirstOf}
use Rattle.step_obstacles.specs.StepWindow.{IsOfSource, IsToldBy}
use Rattle.step_obstacles.specs.Turns.{IsAskable, IsDeclAt, IsRuleAt, OfWindow, hindrance_of, is_common, pair_of}
use Rattle.plan_laws.specs.Barrier.Hindering.{Hindrance}
use Rattle.window_order.specs.declared.window.Window.{Window}
use Rattle.window_order.specs.Weighing.{DeclsWeigh}

-- ---- What the code has at hand

-- a declaration of a rule stands where it says
pub decl_stands : (items : List Item) (r : RuleParts) (n k : ℕ) (d : DeclAt) → slice_get items n ≡ Some (Rule r) → IsDeclOf r n k d → IsDeclAt items d
decl_stands items r n k d at is = record {
  item = is.part;
  rule_at = ap (slice_get items) is.item_is ∙ (at ∙ ap (λ (q : RuleParts). Some (Rule q)) (sym is.rule_is));
  decl_at = ap₂ (λ (q : RuleParts) (m : ℕ). slice_get q.decls m) is.rule_is is.number_is ∙ is.part_at;
  is = is.decl_is;
  masked = is.masked;
}

-- the pair of another declaration faces those of one with which it weighs
pub pair_faces : (w : Window) (other : DeclAt) (n : ℕ) (y : SelItem) → IsDeclAt w.items.now other → slice_get other.rule.now.selectors n ≡ Some y → IsAskable w.items.now → (d : Decl) → DeclsWeigh d other.decl.now →
    w.start ≤ other.item → other.item ≤ w.last → (f : Facing) → f ≡ facing.Pair (pair_of y other.decl.now) (record { item = other.item; sel = n; decl = other.number }) (specificity_of y.selector) → FacesWithin w d f
pair_faces w other n y is at askable d weigh above below f f_is =
    subst (FacesWithin w d) (sym f_is) (record { faces = faced w other n y is at askable d weigh y.selector refl (specificity_of y.selector) refl; within = (above, below) })

-- a kept item faces those with which it weighs
pub kept_faces : (w : Window) (d : Decl) (n : ℕ) (item : Item) → slice_get w.items.now n ≡ Some item → ((k : KeptRuleParts) × (item ≡ KeptRule k)) ⊎ ((k : Piece) × (item ≡ KeptBlock k)) → w.start ≤ n → n ≤ w.last →
    ((p : Pair) → p.decl ≡ d → WeighsKept p item) → FacesWithin w d (facing.Kept n)
kept_faces w d n item at is above below weighs = record { faces = (record { item = item; item_at = at; kept = kept_either item is; above = above; below = below }, weighs); within = tt }

-- ---- What blocks is among what is looked at

module _ (w : Window) (s : Source) (d : DeclAt) (i : ℕ) (x : SelItem) (is : IsDeclOf s.rule.now s.item d.number d) (at : slice_get d.rule.now.selectors i ≡ Some x) (common : is_common s.with d.decl.now ≡ true) where
  abbrev p : Pair
  p = pair_of x d.decl.now

  one : (z : Source) × Contains (s ∷ []) z × IsOfSource z p
  one = (
    s,
    Contains-here s [],
    record {
      selector = map_has (λ (z : SelItem). z.selector) s.rule.now.selectors x (member_at s.rule.now.selectors i x (ap (λ (r : RuleParts). slice_get r.selectors i) (sym is.rule_is) ∙ at));
      decl = subst (λ (e : Decl). Contains (decls_of s.rule.now) e) is.decl_is (map_has (λ (z : DeclItem). z.decl) s.rule.now.decls is.part (member_at s.rule.now.decls d.number is.part is.part_at));
      common = common;
    },
  )

  of_window : (f : Facing) → FacesWithin w d.decl.now f → OfWindow w (s ∷ []) (hindrance_of w.items.now f p)
  of_window (facing.Pair q place k) h =
      let stands : IsAt w.items.now place q = h.faces.2 in
      looked_at_pair w (s ∷ []) p one q place.item place.decl stands.rule stands.decl h.within.0 h.within.1 stands.rule_at
      (subst (λ (t : SelectorParts). Contains (map (λ (z : SelItem). z.selector) stands.rule.selectors) t) (sym (ap (λ (r : Pair). r.selector) stands.is))
      (map_has (λ (z : SelItem). z.selector) stands.rule.selectors stands.selector (member_at stands.rule.selectors place.sel stands.selector stands.selector_at)))
      stands.decl_at (sym (ap (λ (r : Pair). r.decl) stands.is))
  of_window (facing.Kept n) h =
      let k : IsKeptIn w n = h.faces.0 in
      looked_at_kept w (s ∷ []) p one n (kept_before n w.items.now) k.item k.above k.below k.item_at k.kept refl

  pub found_within : {E : Type 0} (answers : List Answered) (f : Facing) → FacesWithin w d.decl.now f → (res : Result (Option Obstacle) E) →
      IfOk res (λ found. IfSome found (λ o. IsFound answers w (λ by. by ≡ hindrance_of w.items.now f p) o)) → IfOk res (λ found. IfSome found (λ o. IsFound answers w (OfWindow w (s ∷ [])) o))
  found_within answers f faces (Ok None) h = tt
  found_within answers f faces (Ok (Some o)) h = record { by = h.by; of = subst (λ (by : Hindrance). OfWindow w (s ∷ []) by) (sym h.of) (of_window f faces); names = h.names; told = h.told }
  found_within answers f faces (Err e) h = tt

-- ---- What is told of the rules that are moved

-- the first of them is there
pub first_there : (items : List Item) (m : Moved) (s : Source) → IsFirstOf items m s → IsRuleAt items s.item s.rule.now
first_there items (moved.Rule n) s is = ap (slice_get items) is.0 ∙ is.2
first_there items (moved.Common x y) s is = ap (slice_get items) is.0 ∙ is.2

-- the pairs of one of two rules are among those of both
of_both : (w : Window) (s t : Source) (by : Hindrance) → OfWindow w (s ∷ []) by → OfWindow w (s ∷ t ∷ []) by
of_both w s t by (n, above, below, (item, at, (z, inside, of))) = (n, above, below, (item, at, (z, which (Contains-cons_cases s [] z inside), of)))
  where
    which : (s ≡ z) ⊎ Contains [] z → Contains (s ∷ t ∷ []) z
    which (inl e) = subst (λ (y : Source). Contains (s ∷ t ∷ []) y) e (Contains-here s (t ∷ []))
    which (inr g) = absurd (Contains-nil z g)

-- what is found of the first is found of all
pub told_first : (answers : List Answered) (items : List Item) (w : Window) (m : Moved) (s : Source) → IsFirstOf items m s → (o : Obstacle) → IsFound answers w (OfWindow w (s ∷ [])) o → IsToldBy answers items m w (Some o)
told_first answers items w (moved.Rule n) s is o h = (s ∷ [], record { source = s; are = refl; with = is.1; rule_at = is.2 }, h)
told_first answers items w (moved.Common x y) s is o h = (
  s ∷ lower ∷ [],
  record { upper = s; lower = lower; are = refl; upper_with = is.1; lower_with = (s.rule, refl, is.2); upper_at = is.2; lower_at = is.1.2 },
  record { by = h.by; of = of_both w s lower h.by h.of; names = h.names; told = h.told },
)
  where
    lower : Source
    lower = record s { item = y; rule = is.1.0; with = Some s.rule }
