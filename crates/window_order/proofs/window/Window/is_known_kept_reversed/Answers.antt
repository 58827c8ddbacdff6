use Rattle.std.proofs.Common.{ℕ, sym, subst}
use Rattle.std.proofs.lemmas.Bool.{false≢true}
use Rattle.css_model.specs.Sheets.KeptItems.{kept_before}
use Rattle.window_order.proofs.KeptOrder.{never_other_place}
use Rattle.window_order.proofs.LastFound.{no}
use Rattle.window_order.proofs.window.Window.is_known_kept_reversed.Goals as goal
use Rattle.window_order.specs.Left.{items_of}
use Rattle.window_order.specs.Reversed.{IsKeptReversed, first_of, last_of, middle_of}

pub returns-then-always_same_kept-clause-told : goal.returns-then-always_same_kept-clause-told
returns-then-always_same_kept-clause-told c = no (λ r.
    let at = c.place_between-place.ensures.kept in
    let reversed : IsKeptReversed c.args.self.now c.args.p.now (kept_before c.place_between-place.result (middle_of c.args.self.now)) =
    subst (λ (n : ℕ). IsKeptReversed c.args.self.now c.args.p.now (kept_before n (middle_of c.args.self.now))) (sym c.place_between-place.ensures.place) r in
    false≢true ((never_other_place (middle_of c.args.self.now) c.place_between-place.result at.0 at.1 at.2 c.args.p.now c.ends_of-ends.result.old c.ends_of-ends.result.new (c.always_same_kept.ensures.0 c.if-always_same_kept.true)
    (first_of c.args.self.now) (last_of c.args.self.now) (items_of c.args.self.now.first_left) (items_of c.args.self.now.last_left) c.ends_of-ends.ensures.ends.0 c.ends_of-ends.ensures.ends.1 c.args.self.now.first_plain c.args.self.now.left_plain).1 reversed.order))
