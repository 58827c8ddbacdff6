-- What is known of pairs is so.
use Rattle.std.proofs.Common.{◌≡◌, List, [], ◌∷◌, Option, Some, None, refl, sym, subst}
use Rattle.std.specs.Prelude.{slice_get}
use Rattle.std.specs.List.{All}
use Rattle.css_model.specs.Cascade.Order.{HasPair, Pair}
use Rattle.css_model.specs.declared.sheet.Item.{Item}
use Rattle.css_model.specs.declared.sheet.Item.TheVariants.{Rule}
use Rattle.css_model.specs.declared.sheet.SelItem.{SelItem}
use Rattle.obstacles.specs.Blocking.{IsAt}
use Rattle.order_laws.proofs.ForCallers.{map_has}
use Rattle.step_obstacles.proofs.Looking.{member_at}
use Rattle.obstacles.specs.declared.obstacle.PairPlace.{PairPlace}
use Rattle.step_obstacles.specs.declared.known.Entry.{Entry}
use Rattle.step_obstacles.specs.Known.{IsEntry, IsNoted, IsSo}
use Rattle.window_order.specs.declared.ends_known.Ends.{Ends}
use Rattle.window_order.specs.declared.ends_known.KnownPair.{KnownPair}
use Rattle.window_order.specs.declared.place.Standing.{Standing}
use Rattle.window_order.specs.declared.window.Window.{Window}
use Rattle.window_order.specs.Places.{AreEndsIfKnown, IsKnownPair, IsStanding, unknown}

-- ---- Both forms of it

pub so_known : (w : Window) (p : Pair) (k : KnownPair) → IsKnownPair w p k → IsSo w p k.ends k.standing
so_known w p k h = which k.ends k.standing h
  where
    which : (e : Option Ends) (s : Standing) → AreEndsIfKnown w p e × IsStanding w p s → IsSo w p e s
    which None s g = g.1
    which (Some e) s g = g

pub known_so : (w : Window) (p : Pair) (k : KnownPair) → IsSo w p k.ends k.standing → IsKnownPair w p k
known_so w p k h = which k.ends k.standing h
  where
    which : (e : Option Ends) (s : Standing) → IsSo w p e s → AreEndsIfKnown w p e × IsStanding w p s
    which None s g = (tt, g)
    which (Some e) s g = g

-- ---- Of a pair of which nothing is known

nothing_noted : (w : Window) (place : PairPlace) → IsNoted w place unknown
nothing_noted w place p at = tt

pub unknown_noted : (w : Window) (place : PairPlace) (k : KnownPair) → k ≡ unknown → IsNoted w place k
unknown_noted w place k is = subst (λ (j : KnownPair). IsNoted w place j) (sym is) (nothing_noted w place)

pub all_unknown : (w : Window) (entries : List Entry) → All (λ (e : Entry). e.standing ≡ unknown) entries → All (IsEntry w) entries
all_unknown w entries are k d less = unknown_noted w _ _ (are k d less)

-- ---- Of a pair whose item tells where it stands

-- the item at a pair's place has it
place_has : (items : List Item) (place : PairPlace) (p : Pair) → (at : IsAt items place p) → HasPair (Rule at.rule ∷ []) p
place_has items place p at = subst (λ (q : Pair). HasPair (Rule at.rule ∷ []) q) (sym at.is) (
  record { item = 0; position = place.decl },
  record {
    rule = at.rule;
    decl = at.decl;
    rule_at = refl;
    selector_in = map_has (λ (x : SelItem). x.selector) at.rule.selectors at.selector (member_at at.rule.selectors place.sel at.selector at.selector_at);
    decl_at = at.decl_at;
    decl_is = refl;
  },
)

abbrev pub IsToldOfItem : Window → PairPlace → Standing → Type 0
IsToldOfItem w place s = (x : Item) → slice_get w.items.now place.item ≡ Some x → (p : Pair) → HasPair (x ∷ []) p → IsStanding w p s

pub own_noted : (w : Window) (place : PairPlace) (s : Standing) → IsToldOfItem w place s → IsNoted w place (record { ends = None; standing = s })
own_noted w place s told p at = told (Rule at.rule) at.rule_at p (place_has w.items.now place p at)

pub own_noted_with : (w : Window) (place : PairPlace) (k : KnownPair) (s : Standing) → IsNoted w place k → IsToldOfItem w place s → IsNoted w place (record { ends = k.ends; standing = s })
own_noted_with w place k s noted told p at =
    so_known w p (record { ends = k.ends; standing = s }) ((known_so w p k (noted p at)).0, own_noted w place s told p at)
