-- What is known of what is looked at on the way outward from what a step moves (own).
use Rattle.std.specs.Prelude.{◌≡◌, ℕ, List, [], ◌∷◌, Some, bit_or, slice_get}
use Rattle.std.specs.List.{AllByRecursion}
use Rattle.order_index.specs.declared.moving.Moving.{Moving}
use Rattle.order_index.specs.Listed.{IsMoving}
use Rattle.order_index.specs.Told.{moved_by}
use Rattle.order_laws.specs.Places.{PlacedPair}
use Rattle.related_props.specs.Masks.{decl_mask}
use Rattle.step_laws.specs.declared.step.Step.{Step}
use Rattle.step_laws.specs.declared.step.Step.TheVariants.{CutDecl, CutSel, JoinSelUp, JoinSelDown, JoinDeclUp, JoinDeclDown, Share}
use Rattle.window_order.specs.Places.{IsKnownPair}
use Rattle.window_order.specs.declared.ends_known.KnownPair.{KnownPair}
use Rattle.window_order.specs.declared.window.Window.{Window}

-- ---- What a step moves

-- what is known of pairs by their numbers is so
abbrev pub AreKnown : Window → List PlacedPair → List KnownPair → Type 0
AreKnown w pairs known = (i : ℕ) (p : PlacedPair) (k : KnownPair) → slice_get pairs i ≡ Some p → slice_get known i ≡ Some k → IsKnownPair w p.pair k

-- a mask with those of pairs put to it
abbrev pub with_masks : ℕ → List PlacedPair → ℕ
with_masks mask [] = mask
with_masks mask (p ∷ ps) = with_masks (bit_or mask (decl_mask p.pair.decl)) ps

-- the pairs that a step moves, with what is known of them in its window
pub record IsMovedBy (w : Window) (k : Step) (m : Moving) : Type 0 where
  pub pairs : m.pairs.items ≡ moved_by w.items.now k
  pub moving : AllByRecursion (IsMoving w.items.now k) m.pairs.items
  pub known : AreKnown w m.pairs.items m.known.items
  pub mask : m.mask ≡ with_masks 0 m.pairs.items

-- ---- What it moves them out of

-- the item that a step moves pairs out of, of two the upper one
abbrev pub first_source : Step → ℕ
first_source (CutDecl n i) = n
first_source (CutSel n i) = n
first_source (JoinSelUp x y) = y
first_source (JoinSelDown x y) = x
first_source (JoinDeclUp x y) = y
first_source (JoinDeclDown x y) = x
first_source (Share x y) = x

-- of two the lower one
abbrev pub last_source : Step → ℕ
last_source (CutDecl n i) = n
last_source (CutSel n i) = n
last_source (JoinSelUp x y) = y
last_source (JoinSelDown x y) = x
last_source (JoinDeclUp x y) = y
last_source (JoinDeclDown x y) = x
last_source (Share x y) = y
