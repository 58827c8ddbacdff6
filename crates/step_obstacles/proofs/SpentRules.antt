-- A rule whose pairs all stand behind a window: none of them is reversed in it.
use Rattle.std.proofs.Common.{◌≡◌, ◌⊎◌, ℕ, Bool, true, List, [], ◌∷◌, Some, None, refl, sym, subst, inl, inr}
use Rattle.std.specs.Prelude.{slice_get}
use Rattle.std.specs.List.{Contains, list_all}
use Rattle.std.proofs.lemmas.Bool.{and_parts}
use Rattle.css_model.specs.Cascade.Order.{Pair, HasPair}
use Rattle.css_model.specs.declared.sheet.Decl.{Decl}
use Rattle.css_model.specs.declared.sheet.DeclItem.{DeclItem}
use Rattle.css_model.specs.declared.sheet.Item.{Item}
use Rattle.css_model.specs.declared.sheet.Item.TheVariants.{Rule}
use Rattle.css_model.specs.declared.sheet.SelItem.{SelItem}
use Rattle.css_model.specs.Documents.SelectorParts.{SelectorParts}
use Rattle.css_model.specs.Sheets.RuleParts.{RuleParts}
use Rattle.list_facts.proofs.Members.{Contains-nil, Contains-cons_cases}
use Rattle.obstacles.specs.Blocking.{moved_pair}
use Rattle.order_laws.proofs.ForCallers.{map_from}
use Rattle.overlap.specs.PairsParts.{Answered}
use Rattle.sheet_order.specs.declared.places.Moved.TheVariants as moved
use Rattle.step_obstacles.proofs.Deciding.{of_one}
use Rattle.step_obstacles.specs.Blocked.{AllPass, Crosses}
use Rattle.step_obstacles.specs.declared.facing.Source.{Source}
use Rattle.step_obstacles.specs.StepWindow.{IsOfSource, IsToldBy}
use Rattle.step_obstacles.specs.Turns.{OfWindow, pair_of}
use Rattle.plan_laws.specs.Barrier.Hindering.{Hindrance, OfPair, OfKept}
use Rattle.window_order.proofs.ForCallers.{stands_is}
use Rattle.window_order.specs.declared.window.Window.{Window}
use Rattle.window_order.specs.Reversed.{behind_of}
use Rattle.window_order.specs.Standing.{stands}

each_passes : {X : Type 0} (test : X → Bool) (xs : List X) (x : X) → list_all test xs ≡ true → Contains xs x → test x ≡ true
each_passes test [] x h inside = absurd (Contains-nil x inside)
each_passes {X} test (y ∷ ys) x h inside = which (and_parts (test y) (list_all test ys) h) (each_passes test ys x) (Contains-cons_cases y ys x inside)
  where
    which : (test y ≡ true) × (list_all test ys ≡ true) → (list_all test ys ≡ true → Contains ys x → test x ≡ true) → (y ≡ x) ⊎ Contains ys x → test x ≡ true
    which both again (inl e) = subst (λ (z : X). test z ≡ true) e both.0
    which both again (inr g) = again both.1 g

abbrev AreBehind : Window → RuleParts → Type 0
AreBehind w r = list_all (λ d. list_all (λ s. stands (behind_of w) (pair_of s d.decl)) r.selectors) r.decls ≡ true

-- a pair of the rule stands behind
pair_behind : (w : Window) (r : RuleParts) → AreBehind w r → (x : DeclItem) (y : SelItem) → Contains r.decls x → Contains r.selectors y → HasPair (behind_of w) (pair_of y x.decl)
pair_behind w r all x y has_x has_y =
    (stands_is (behind_of w) (pair_of y x.decl)).0
    (each_passes (λ (s : SelItem). stands (behind_of w) (pair_of s x.decl)) r.selectors y (each_passes (λ (d : DeclItem). list_all (λ s. stands (behind_of w) (pair_of s d.decl)) r.selectors) r.decls x all has_x) has_y)

-- a pair by its parts
of_parts : (w : Window) (s : Source) (p : Pair) → AreBehind w s.rule.now → IsOfSource s p → HasPair (behind_of w) p
of_parts w s p all is =
    let d = map_from (λ (z : DeclItem). z.decl) s.rule.now.decls p.decl is.decl in
    let t = map_from (λ (z : SelItem). z.selector) s.rule.now.selectors p.selector is.selector in
    subst (λ (f : Decl). HasPair (behind_of w) (record { selector = p.selector; decl = f })) d.2
    (subst (λ (a : SelectorParts). HasPair (behind_of w) (record { selector = a; decl = d.0.decl })) t.2 (pair_behind w s.rule.now all d.0 t.0 d.1 t.1))

none_crosses : (w : Window) (by : Hindrance) → HasPair (behind_of w) (moved_pair by) → Crosses w by → ⊥
none_crosses w (OfPair p q) behind crosses = crosses.1.first behind
none_crosses w (OfKept p number) behind (i, kept, is, weighs, crosses) = crosses.first behind

all_pass : (answers : List Answered) (w : Window) (s : Source) → AreBehind w s.rule.now → AllPass answers w (OfWindow w (s ∷ []))
all_pass answers w s all by of crosses = absurd (none_crosses w by (of_only (of_one w (s ∷ []) by of)) crosses)
  where
    of_only : (t : Source) × Contains (s ∷ []) t × IsOfSource t (moved_pair by) → HasPair (behind_of w) (moved_pair by)
    of_only (t, inside, is) = which t is (Contains-cons_cases s [] t inside)
      where
        which : (t : Source) → IsOfSource t (moved_pair by) → (s ≡ t) ⊎ Contains [] t → HasPair (behind_of w) (moved_pair by)
        which t is (inl e) = of_parts w s (moved_pair by) all (subst (λ (u : Source). IsOfSource u (moved_pair by)) (sym e) is)
        which t is (inr g) = absurd (Contains-nil t g)

-- so nothing blocks where all pairs of a rule that is moved do
pub told_behind : (answers : List Answered) (items : List Item) (w : Window) (n : ℕ) (s : Source) → s.with ≡ None → slice_get items n ≡ Some (Rule s.rule.now) → AreBehind w s.rule.now → IsToldBy answers items (moved.Rule n) w None
told_behind answers items w n s with at all = (s ∷ [], record { source = s; are = refl; with = with; rule_at = at }, all_pass answers w s all)
