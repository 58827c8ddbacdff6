-- The root and two compounds.
use Rattle.std.proofs.Common.{◌≡◌, ◌↔◌, ℕ, Bool, true, false, ◌++◌, List, [], ◌∷◌}
use Rattle.std.specs.List.{All}
use Rattle.std.proofs.lemmas.List.Elements.{All-append, All-cons, All-head, All-nil, All-tail}
use Rattle.css_model.specs.declared.selector.Simple.{Simple}
use Rattle.slot_plan.specs.Positions.{PositionFits}
use Rattle.single_examples.specs.Examples.{RootPasses}

pub roots_joined : (child : Bool) (x y : List Simple) → RootPasses child x → RootPasses child y → RootPasses child (x ++ y)
roots_joined child x y h k = All-append (PositionFits true child 0 0) x y h k

pub roots_parted : (child : Bool) (x y : List Simple) → RootPasses child (x ++ y) → RootPasses child x × RootPasses child y
roots_parted child [] y h = (All-nil (PositionFits true child 0 0), h)
roots_parted child (s ∷ x) y h =
    let rest = roots_parted child x y (All-tail (PositionFits true child 0 0) s (x ++ y) h) in
    (All-cons (PositionFits true child 0 0) s x (All-head (PositionFits true child 0 0) s (x ++ y) h) rest.0, rest.1)
