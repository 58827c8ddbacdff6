-- What specificities tell: nothing of an item weighs with what is moved.
use Rattle.std.proofs.Common.{◌≡◌, ◌⊎◌, ◌↔◌, ℕ, ◌+◌, ◌<◌, List, ◌∷◌, length, get_or, take, Some, sym, ap, ◌∙◌, subst, inl, inr}
use Rattle.std.specs.Prelude.{slice_get}
use Rattle.std.specs.List.{Contains}
use Rattle.cascade_laws.proofs.ForCallers.{some-same}
use Rattle.css_model.specs.declared.selector.Specificity.{Specificity}
use Rattle.css_model.specs.declared.sheet.Item.{Item}
use Rattle.css_model.specs.declared.sheet.Item.TheVariants.{Rule, KeptRule, KeptBlock}
use Rattle.css_model.specs.declared.sheet.SelItem.{SelItem}
use Rattle.css_model.specs.Documents.Specificity.{specificity_of}
use Rattle.list_facts.proofs.Members.{Contains-there, Contains-cons_cases}
use Rattle.order_laws.proofs.ForCallers.{map_has}
use Rattle.overlap.specs.PairsParts.{Answered}
use Rattle.step_obstacles.proofs.Looking.{get_at, taken_more}
use Rattle.step_obstacles.specs.Blocked.{AllPass, Crosses}
use Rattle.step_obstacles.specs.declared.facing.Source.{Source}
use Rattle.step_obstacles.specs.Turns.{HaveOneOf, IsMasked, ItemMayWeigh, OfSource, pair_of, specificities_of}
use Rattle.plan_laws.specs.Barrier.Hindering.{OfPair}
use Rattle.window_order.specs.declared.window.Window.{Window}

-- what is not the first of some is among those behind
pub behind_first : {X : Type 0} (x first : X) (rest behind all : List X) → rest ≡ first ∷ behind → (first ≡ x → ⊥) → Contains rest x ↔ Contains all x → Contains behind x ↔ Contains all x
behind_first {X} x first rest behind all is other h = (
  λ g. h.0 (subst (λ (xs : List X). Contains xs x) (sym is) (Contains-there first behind x g)),
  λ g. which (Contains-cons_cases first behind x (subst (λ (xs : List X). Contains xs x) is (h.1 g))),
)
  where
    which : (first ≡ x) ⊎ Contains behind x → Contains behind x
    which (inl e) = absurd (other e)
    which (inr g) = g

-- a selector more has none of these
pub none_more : (ks : List Specificity) (xs : List SelItem) (i : ℕ) (d : SelItem) (k : Specificity) → i < length xs → d ≡ get_or xs i d → k ≡ specificity_of d.selector → (Contains ks k → ⊥) →
    (HaveOneOf ks (take i xs) → ⊥) → HaveOneOf ks (take (i + 1) xs) → ⊥
none_more ks xs i d k less is k_is other none (x, inside, of) = which (taken_more xs i x inside)
  where
    which : Contains (take i xs) x ⊎ (slice_get xs i ≡ Some x) → ⊥
    which (inl g) = none (x, g, of)
    which (inr at) =
        let same : x ≡ d = some-same (sym at ∙ get_at xs i d less) ∙ sym is in
        other (subst (λ (j : Specificity). Contains ks j) (ap (λ (y : SelItem). specificity_of y.selector) same ∙ sym k_is) of)

-- nothing of an item blocks whose pairs have other specificities
pub unlike_passed : (answers : List Answered) (w : Window) (n : ℕ) (item : Item) (s : Source) → IsMasked s → (ItemMayWeigh s item → ⊥) → AllPass answers w (OfSource w.items.now n item s)
unlike_passed answers w n (Rule q) s masked other by (x, x_in, (common, (g, g_in, (y, y_in, (z, z_in, is))))) crosses =
    let c : Crosses w (OfPair (pair_of z x.decl) (pair_of y g.decl)) = subst (Crosses w) is crosses in
    let there : Contains (specificities_of s.rule.now.selectors) (specificity_of z.selector) = map_has (λ (t : SelItem). specificity_of t.selector) s.rule.now.selectors z z_in in
    absurd (other (y, y_in, subst (λ (k : Specificity). Contains s.specificities.items k) c.0.specificity (subst (λ (ks : List Specificity). Contains ks (specificity_of z.selector)) (sym masked.specificities) there)))
unlike_passed answers w n (KeptRule k) s masked other by of crosses = absurd (other tt)
unlike_passed answers w n (KeptBlock k) s masked other by of crosses = absurd (other tt)
