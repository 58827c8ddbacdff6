-- The example that is given shows that two selectors meet.
use Rattle.std.proofs.Common.{◌≡◌, ◌⊎◌, inl, inr, ℕ, zero, suc, ◌≤◌, Bool, true, false, List, [], ◌∷◌, ◌++◌, length, Option, refl, sym, ap, subst, arith}
use Rattle.std.specs.List.{All, AllByRecursion}
use Rattle.css_model.specs.declared.example.Example.{Example}
use Rattle.css_model.specs.declared.selector.Pseudo.{Pseudo}
use Rattle.css_model.specs.declared.selector.Simple.{Simple}
use Rattle.css_model.specs.Documents.FeatureParts.{FeatureParts}
use Rattle.css_model.specs.Documents.Features.{CanSuit, element_of}
use Rattle.compound_fit.specs.Fitting.{AreFeatures}
use Rattle.shape_laws.specs.Document.Laws.{ShapesShowMeeting, ShowsMeeting}
use Rattle.element_laws.specs.Names.{HasName, HaveNames}
use Rattle.slot_plan.specs.ValidShape.{EmptyFits}
use Rattle.sibling_counts.specs.Places.{AreLeast, ChildPasses, NoChildPasses}
use Rattle.single_examples.specs.Examples.{IsFirst, IsSingleExample, RootPasses, child_example, plain_lines, root_example, with_text}
use Rattle.single_examples.specs.Laws.{ExamplesShowMeeting, single}
use Rattle.single_examples.proofs.Lines.{suits_slot}
use Rattle.single_examples.proofs.Shapes.{child_is, child_is_valid, one_element, one_slot, root_is, root_is_valid}

abbrev Shown : List Simple → List Simple → Option Pseudo → Example → Type 0
Shown x y p e = ShowsMeeting (single x p) (single y p) e × (length e.doc.lines ≤ 4)

few_lines : (b a : ℕ) (f : FeatureParts) (p : Option Pseudo) → length (child_example b a f p).doc.lines ≤ 4
few_lines zero zero f p = omega arith
few_lines zero (suc a) f p = omega arith
few_lines (suc b) zero f p = omega arith
few_lines (suc b) (suc a) f p = omega arith

named_both : (x y : List Simple) → HaveNames x → HaveNames y → HaveNames (x ++ y)
named_both [] y h k = k
named_both (s ∷ x) y (h, hs) k = (h, named_both x y hs k)

child_shows : ShapesShowMeeting → (x y : List Simple) (p : Option Pseudo) (b a : ℕ) (f : FeatureParts) → HaveNames x → HaveNames y → EmptyFits false (x ++ y) → AreFeatures f (x ++ y) →
    ChildPasses (x ++ y) b a → Shown x y p (child_example b a (with_text f (x ++ y)) p)
child_shows law x y p b a f hx hy empties features passes = (
  subst (ShowsMeeting (single x p) (single y p)) (child_is b a (with_text f (x ++ y)) p)
      (law (single x p) (single y p) (one_slot false false b a) (with_text f (x ++ y) ∷ [])
      (child_is_valid x y p false b a passes empties (element_of f, features.legal, features.suits))
      (one_element x y p false false b a (with_text f (x ++ y)) (suits_slot f (x ++ y) (named_both x y hx hy) features))),
  few_lines b a (with_text f (x ++ y)) p,
)

root_shows : ShapesShowMeeting → (x y : List Simple) (p : Option Pseudo) (child : Bool) (f : FeatureParts) → HaveNames x → HaveNames y → EmptyFits false (x ++ y) → AreFeatures f (x ++ y) →
    RootPasses child (x ++ y) → Shown x y p (root_example child (with_text f (x ++ y)) p)
root_shows law x y p child f hx hy empties features passes = (
  subst (ShowsMeeting (single x p) (single y p)) (root_is child (with_text f (x ++ y)) p)
      (law (single x p) (single y p) (one_slot true child 0 0) (with_text f (x ++ y) ∷ [])
      (root_is_valid x y p child passes empties (element_of f, features.legal, features.suits))
      (one_element x y p true child 0 0 (with_text f (x ++ y)) (suits_slot f (x ++ y) (named_both x y hx hy) features))),
  (let l : 1 ≤ 4 = omega arith in l),
)

pub examples_show_meeting : ShapesShowMeeting → ExamplesShowMeeting
examples_show_meeting law x y p e hx hy empties (f, features, inl (b, a, least, is)) =
    subst (Shown x y p) (sym is) (child_shows law x y p b a f hx hy empties features least.passes)
examples_show_meeting law x y p e hx hy empties (f, features, inr (inl (none, passes, is))) =
    subst (Shown x y p) (sym is) (root_shows law x y p false f hx hy empties features passes)
examples_show_meeting law x y p e hx hy empties (f, features, inr (inr (none, refused, passes, is))) =
    subst (Shown x y p) (sym is) (root_shows law x y p true f hx hy empties features passes)
