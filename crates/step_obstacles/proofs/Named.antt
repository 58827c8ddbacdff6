-- What is told of a moved pair, by its place.
use Rattle.std.proofs.Common.{◌≡◌, ◌⊎◌, ℕ, true, false, List, Some, refl, sym, ap, ◌∙◌, subst, inl, inr}
use Rattle.std.specs.Prelude.{Option, Result, Ok, Err, IfOk, slice_get}
use Rattle.std.specs.List.{Contains}
use Rattle.std.proofs.lemmas.Bool.{false≢true}
use Rattle.cascade_laws.proofs.ForCallers.{some-same}
use Rattle.css_model.specs.Cascade.Order.{Pair}
use Rattle.css_model.specs.declared.selector.Specificity.{Specificity}
use Rattle.css_model.specs.declared.sheet.Decl.{Decl}
use Rattle.css_model.specs.declared.sheet.DeclItem.{DeclItem}
use Rattle.css_model.specs.declared.sheet.Item.{Item}
use Rattle.css_model.specs.declared.sheet.Item.TheVariants.{Rule, KeptRule, KeptBlock}
use Rattle.css_model.specs.declared.sheet.Piece.{Piece}
use Rattle.css_model.specs.declared.sheet.SelItem.{SelItem}
use Rattle.css_model.specs.Sheets.KeptItems.{is_kept}
use Rattle.css_model.specs.Sheets.KeptRuleParts.{KeptRuleParts}
use Rattle.css_model.specs.Sheets.RuleParts.{RuleParts}
use Rattle.css_model.specs.Documents.SelectorParts.{SelectorParts}
use Rattle.css_model.specs.Documents.Specificity.{specificity_of}
use Rattle.css_model.specs.Selectors.Profile.{IsInProfile}
use Rattle.obstacles.specs.Blocking.{IsAt, Names}
use Rattle.obstacles.specs.declared.obstacle.Obstacle.{Obstacle}
use Rattle.obstacles.specs.declared.obstacle.PairPlace.{PairPlace}
use Rattle.order_laws.proofs.ForCallers.{map_has}
use Rattle.overlap.specs.PairsParts.{Answered}
use Rattle.step_obstacles.proofs.Looking.{member_at}
use Rattle.step_obstacles.proofs.Noted.{known_so, so_known}
use Rattle.step_obstacles.proofs.PairAnswers.{unlike_passes}
use Rattle.step_obstacles.specs.Blocked.{AllPass, Crosses, IsFound, IsTold, IsToldOf}
use Rattle.step_obstacles.specs.declared.facing.DeclAt.{DeclAt}
use Rattle.step_obstacles.specs.declared.facing.Facing.{Facing}
use Rattle.step_obstacles.specs.declared.facing.Facing.TheVariants as facing
use Rattle.step_obstacles.specs.Known.{FacedStands, IsNoted}
use Rattle.step_obstacles.specs.Turns.{Faces, IsAskable, IsDeclAt, MayWeigh, OfItem, OfRule, OfSelectors, hindrance_of, other_of, pair_of, specificities_of, with_kept}
use Rattle.plan_laws.specs.Barrier.Hindering.{Hindrance, OfPair}
use Rattle.window_order.specs.Places.{IsKnownPair}
use Rattle.window_order.specs.declared.ends_known.KnownPair.{KnownPair}
use Rattle.window_order.specs.declared.window.Window.{Window}
use Rattle.window_order.specs.Weighing.{DeclsWeigh}

abbrev pub pair : SelectorParts → Decl → Pair
pair s d = record { selector = s; decl = d }

abbrev obstacle_at : DeclAt → ℕ → Facing → Obstacle
obstacle_at moved i f = record { moved = record { item = moved.item; sel = i; decl = moved.number }; other = other_of f }

module _ (w : Window) (moved : DeclAt) (i : ℕ) (x : SelItem) (is : IsDeclAt w.items.now moved) (at : slice_get moved.rule.now.selectors i ≡ Some x) where
  -- the pair stands at its place
  stands : IsAt w.items.now (record { item = moved.item; sel = i; decl = moved.number }) (pair_of x moved.decl.now)
  stands = record { rule = moved.rule.now; selector = x; decl = is.item; rule_at = is.rule_at; selector_at = at; decl_at = is.decl_at; is = ap (pair x.selector) (sym is.is) }

  abbrev pair_place : PairPlace
  pair_place = record { item = moved.item; sel = i; decl = moved.number }

  -- what is noted of its place holds of it
  pub stands_as_noted : (s : KnownPair) → IsNoted w pair_place s → (t : SelectorParts) → t ≡ x.selector → IsKnownPair w (pair t moved.decl.now) s
  stands_as_noted s noted t t_is = subst (λ (u : SelectorParts). IsKnownPair w (pair u moved.decl.now) s) (sym t_is) (known_so w (pair_of x moved.decl.now) s (noted (pair_of x moved.decl.now) stands))

  -- what holds of it may be noted of its place
  pub noted_as_stands : (s : KnownPair) (t : SelectorParts) → t ≡ x.selector → IsKnownPair w (pair t moved.decl.now) s → IsNoted w pair_place s
  noted_as_stands s t t_is h p there = so_known w p s (subst (λ (q : Pair). IsKnownPair w q s) same h)
    where
      rules : moved.rule.now ≡ there.rule
      rules = let e : Some (Rule moved.rule.now) ≡ Some (Rule there.rule) = sym is.rule_at ∙ there.rule_at in cc

      selectors : x ≡ there.selector
      selectors = some-same (sym at ∙ ap (λ (r : RuleParts). slice_get r.selectors i) rules ∙ there.selector_at)

      decls : is.item ≡ there.decl
      decls = some-same (sym is.decl_at ∙ ap (λ (r : RuleParts). slice_get r.decls moved.number) rules ∙ there.decl_at)

      same : pair t moved.decl.now ≡ p
      same =
          ap (λ (u : SelectorParts). pair u moved.decl.now) (t_is ∙ ap (λ (y : SelItem). y.selector) selectors)
          ∙ ap (λ (d : Decl). pair there.selector.selector d) (sym is.is ∙ ap (λ (y : DeclItem). y.decl) decls)
          ∙ sym there.is

  -- its selector may be asked for
  pub in_profile : IsAskable w.items.now → (s : SelectorParts) → s ≡ x.selector → IsInProfile s
  in_profile askable s s_is = subst IsInProfile (sym s_is) (askable.profile moved.item moved.rule.now x is.rule_at (member_at moved.rule.now.selectors i x at))

  -- another declaration's pairs face it, if both weigh
  pub faced : IsAskable w.items.now → (d : Decl) → DeclsWeigh d moved.decl.now → (s : SelectorParts) → s ≡ x.selector → (k : Specificity) → k ≡ specificity_of s →
      Faces w d (facing.Pair (pair s moved.decl.now) (record { item = moved.item; sel = i; decl = moved.number }) k)
  faced askable d weigh s s_is k k_is = (weigh, in_profile askable s s_is, subst (λ (t : SelectorParts). IsAt w.items.now (record { item = moved.item; sel = i; decl = moved.number }) (pair t moved.decl.now)) (sym s_is) stands, k_is)

  names : (f : Facing) → Faces w moved.decl.now f → Names w.items.now (obstacle_at moved i f) (hindrance_of w.items.now f (pair_of x moved.decl.now))
  names (facing.Pair q place k) faces = record { moved = stands; other = faces.2 }
  names (facing.Kept n) faces = record { moved = stands; other = record { item = faces.0.item; item_at = faces.0.item_at; kept = faces.0.kept; number_is = refl } }

  -- whichever selector has this number, it blocks
  pub blocks_named : (answers : List Answered) (f : Facing) → Faces w moved.decl.now f → (s : SelectorParts) → s ≡ x.selector → IsTold answers w (hindrance_of w.items.now f (pair s moved.decl.now)) true →
      (o : Obstacle) → o ≡ obstacle_at moved i f → IsFound answers w (λ by. by ≡ hindrance_of w.items.now f (pair_of x moved.decl.now)) o
  blocks_named answers f faces s s_is told o o_is = record {
    by = hindrance_of w.items.now f (pair_of x moved.decl.now);
    of = refl;
    names = subst (λ (o : Obstacle). Names w.items.now o (hindrance_of w.items.now f (pair_of x moved.decl.now))) (sym o_is) (names f faces);
    told = subst (λ (t : SelectorParts). IsTold answers w (hindrance_of w.items.now f (pair t moved.decl.now)) true) s_is told;
  }

  -- or it lets the step pass
  pub passes_named : (answers : List Answered) (f : Facing) (s : SelectorParts) → s ≡ x.selector → IsTold answers w (hindrance_of w.items.now f (pair s moved.decl.now)) false →
      AllPass answers w (λ by. by ≡ hindrance_of w.items.now f (pair_of x moved.decl.now))
  passes_named answers f s s_is told by by_is =
      subst (λ (h : Hindrance). IsTold answers w h false) (sym by_is) (subst (λ (t : SelectorParts). IsTold answers w (hindrance_of w.items.now f (pair t moved.decl.now)) false) s_is told)

  -- so it does where its specificity is not that of the pair that it faces
  pub passes_unlike : (answers : List Answered) (f : Facing) → Faces w moved.decl.now f → (k : Specificity) → k ≡ specificity_of x.selector → (MayWeigh k f → ⊥) →
      AllPass answers w (λ by. by ≡ hindrance_of w.items.now f (pair_of x moved.decl.now))
  passes_unlike answers f faces k k_is other by by_is =
      subst (λ (h : Hindrance). IsTold answers w h false) (sym by_is) (unlike_passes answers w f (pair_of x moved.decl.now) faces (λ h. other (subst (λ (j : Specificity). MayWeigh j f) (sym k_is) h)))

-- what is noted of the place of a pair that is faced holds of it
pub own_faces : (w : Window) (f : Facing) (q : Pair) (place : PairPlace) (k : Specificity) → f ≡ facing.Pair q place k → (s : KnownPair) → IsNoted w place s →
    (d : Decl) → Faces w d f → FacedStands w f s
own_faces w f q place k is s noted d faces =
    let there : Faces w d (facing.Pair q place k) = subst (λ (g : Facing). Faces w d g) is faces in
    subst (λ (g : Facing). FacedStands w g s) (sym is) (known_so w q s (noted q there.2))

-- what is told of a pair by its selector is told of the selector of its number
pub told_same : {E : Type 0} (answers : List Answered) (w : Window) (r : RuleParts) (d o : Decl) (s : SelectorParts) (At : SelItem → Type 0) → ((y : SelItem) → At y → s ≡ y.selector) →
    (res : Result (Option Obstacle) E) → IfOk res (λ found. IsToldOf answers w (OfSelectors r d (λ p. OfPair p (pair s o))) found) →
    IfOk res (λ found. (y : SelItem) → At y → IsToldOf answers w (OfSelectors r d (λ p. OfPair p (pair_of y o))) found)
told_same answers w r d o s At is (Ok found) h = λ y at. subst (λ (t : SelectorParts). IsToldOf answers w (OfSelectors r d (λ p. OfPair p (pair t o))) found) (is y at) h
told_same answers w r d o s At is (Err e) h = tt

-- where no selector of a rule has the specificity of another pair, its pairs let the step pass
pub passes_unlike_all : (answers : List Answered) (w : Window) (r : RuleParts) (d o : Decl) (y : SelItem) (list : List Specificity) (k : Specificity) → list ≡ specificities_of r.selectors → k ≡ specificity_of y.selector → (Contains list k → ⊥) →
    AllPass answers w (OfSelectors r d (λ p. OfPair p (pair_of y o)))
passes_unlike_all answers w r d o y list k list_is k_is none by (x, inside, is) crosses =
    let c : Crosses w (OfPair (pair_of x d) (pair_of y o)) = subst (Crosses w) is crosses in
    let among : Contains list (specificity_of x.selector) = subst (λ (ks : List Specificity). Contains ks (specificity_of x.selector)) (sym list_is) (map_has (λ (z : SelItem). specificity_of z.selector) r.selectors x inside) in
    absurd (none (subst (λ (j : Specificity). Contains list j) (c.0.specificity ∙ sym k_is) among))

-- ---- Items

pub kept_either : (item : Item) → ((k : KeptRuleParts) × (item ≡ KeptRule k)) ⊎ ((k : Piece) × (item ≡ KeptBlock k)) → is_kept item ≡ true
kept_either item (inl h) = ap is_kept h.1
kept_either item (inr h) = ap is_kept h.1

told_kept_as : {E : Type 0} (answers : List Answered) (w : Window) (r : RuleParts) (d : Decl) (n : ℕ) (item : Item) → is_kept item ≡ true →
    (res : Result (Option Obstacle) E) → IfOk res (λ found. IsToldOf answers w (OfSelectors r d (with_kept w.items.now n)) found) → IfOk res (λ found. IsToldOf answers w (OfItem r d w.items.now n item) found)
told_kept_as answers w r d n (Rule q) kept res h = absurd (false≢true kept)
told_kept_as answers w r d n (KeptRule k) kept res h = h
told_kept_as answers w r d n (KeptBlock k) kept res h = h

pub told_kept : {E : Type 0} (answers : List Answered) (w : Window) (r : RuleParts) (d : Decl) (n : ℕ) (item : Item) → ((k : KeptRuleParts) × (item ≡ KeptRule k)) ⊎ ((k : Piece) × (item ≡ KeptBlock k)) →
    (res : Result (Option Obstacle) E) → IfOk res (λ found. IsToldOf answers w (OfSelectors r d (with_kept w.items.now n)) found) → IfOk res (λ found. IsToldOf answers w (OfItem r d w.items.now n item) found)
told_kept answers w r d n item is res h = told_kept_as answers w r d n item (kept_either item is) res h

pub told_rule : {E : Type 0} (answers : List Answered) (w : Window) (r : RuleParts) (d : Decl) (n : ℕ) (item : Item) (q : RuleParts) → item ≡ Rule q →
    (res : Result (Option Obstacle) E) → IfOk res (λ found. IsToldOf answers w (OfRule r d q) found) → IfOk res (λ found. IsToldOf answers w (OfItem r d w.items.now n item) found)
told_rule answers w r d n item q is res h = subst (λ (i : Item). IfOk res (λ found. IsToldOf answers w (OfItem r d w.items.now n i) found)) (sym is) h
