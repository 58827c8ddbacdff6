use Rattle.std.proofs.Common.{◌≡◌, ℕ, List, Some, length, refl, sym, ap, ap₂, ◌∙◌, subst}
use Rattle.std.specs.Prelude.{slice_get}
use Rattle.std.specs.List.{AllByRecursion}
use Rattle.std.proofs.lemmas.Option.{slice_get_read}
use Rattle.css_model.specs.declared.sheet.Item.{Item}
use Rattle.order_index.proofs.Around.{member_at}
use Rattle.order_index.proofs.OneMoved.{light_kept, not_far, number_told}
use Rattle.order_index.proofs.Telling.{none_of}
use Rattle.order_index.proofs.walking.of_number_kept.Goals as goal
use Rattle.order_index.specs.Listed.{IsMoving}
use Rattle.order_index.specs.Told.{IsOfMoved, moved_by, reversed_by}
use Rattle.order_index.specs.Walked.{with_masks}
use Rattle.order_laws.specs.Places.{PlacedPair}
use Rattle.order_laws.specs.Reversed.{KeptAt, distance}

pub returns-then-distance-far-clause-told : goal.returns-then-distance-far-clause-told
returns-then-distance-far-clause-told c =
    let items = c.args.change.now.window.items.now in
    let k = c.args.change.now.step in
    let p = c.index-p.result.now in
    let pairs = c.args.moving.now.pairs.items in
    let at = subst (λ (xs : List PlacedPair). slice_get xs c.args.number ≡ Some p) c.requires.moved.pairs (slice_get_read pairs (length pairs) c.args.number p refl c.requires.number c.index-p.ensures) in
    let number : c.args.kept.now.0 ≡ c.kept.inside.number = sym (ap (λ (x : ℕ × Item). x.0) c.kept.view_is) in
    let far : distance c.args.kept.now.0 p.place.item ≡ c.distance.result = ap₂ distance number (sym c.item_number-own.ensures) ∙ sym c.distance.ensures in
    λ answers. none_of answers (reversed_by items k) (IsOfMoved (moved_by items k) (KeptAt c.args.kept.now.0) c.args.far c.args.number)
    (not_far items k c.args.number p at c.args.far (KeptAt c.args.kept.now.0) (λ e. c.if-distance-far.true (sym far ∙ e)))

pub returns-then-not-weighs_with-clause-told : goal.returns-then-not-weighs_with-clause-told
returns-then-not-weighs_with-clause-told c =
    let items = c.args.change.now.window.items.now in
    let k = c.args.change.now.step in
    let p = c.index-p.result.now in
    let pairs = c.args.moving.now.pairs.items in
    let at = subst (λ (xs : List PlacedPair). slice_get xs c.args.number ≡ Some p) c.requires.moved.pairs (slice_get_read pairs (length pairs) c.args.number p refl c.requires.number c.index-p.ensures) in
    λ answers. none_of answers (reversed_by items k) (IsOfMoved (moved_by items k) (KeptAt c.args.kept.now.0) c.args.far c.args.number)
    (light_kept items k c.args.number p at c.args.far c.listed_is_reversed.ensures c.listed_stands_last.ensures c.weighing_is_decided.ensures c.order_is_decided.ensures c.args.kept.now.0 c.args.kept.now.1 c.requires.kept.at (sym c.weighs_with.ensures ∙ c.if-not-weighs_with.true))

pub of_kept-allowed-requires-clause-moved : goal.of_kept-allowed-requires-clause-moved
of_kept-allowed-requires-clause-moved c =
    let p = c.index-p.result.now in
    let pairs = c.args.moving.now.pairs.items in
    let at = subst (λ (xs : List PlacedPair). slice_get xs c.args.number ≡ Some p) c.requires.moved.pairs (slice_get_read pairs (length pairs) c.args.number p refl c.requires.number c.index-p.ensures) in
    member_at (moved_by c.args.change.now.window.items.now c.args.change.now.step) c.args.number p at

pub of_kept-allowed-requires-clause-of_p : goal.of_kept-allowed-requires-clause-of_p
of_kept-allowed-requires-clause-of_p c =
    let pairs = c.args.moving.now.pairs.items in
    c.known_of-of_p.ensures c.args.change.now.window c.index-p.result.now c.requires.moved.known (slice_get_read pairs (length pairs) c.args.number c.index-p.result.now refl c.requires.number c.index-p.ensures)

pub returns-clause-told : goal.returns-clause-told
returns-clause-told c =
    let items = c.args.change.now.window.items.now in
    let k = c.args.change.now.step in
    let p = c.index-p.result.now in
    let pairs = c.args.moving.now.pairs.items in
    let at = subst (λ (xs : List PlacedPair). slice_get xs c.args.number ≡ Some p) c.requires.moved.pairs (slice_get_read pairs (length pairs) c.args.number p refl c.requires.number c.index-p.ensures) in
    let number : c.args.kept.now.0 ≡ c.kept.inside.number = sym (ap (λ (x : ℕ × Item). x.0) c.kept.view_is) in
    let far : distance c.args.kept.now.0 p.place.item ≡ c.args.far = ap₂ distance number (sym c.item_number-own.ensures) ∙ sym c.distance.ensures ∙ c.if-distance-far.false in
    λ answers. number_told items k c.args.number p at c.args.far (KeptAt c.args.kept.now.0) far answers c.of_kept-allowed.result (c.of_kept-allowed.ensures.told answers)

pub returns-clause-moved : goal.returns-clause-moved
returns-clause-moved c =
    let items = c.args.change.now.window.items.now in
    let k = c.args.change.now.step in
    let p = c.index-p.result.now in
    let pairs = c.args.moving.now.pairs.items in
    let at = slice_get_read pairs (length pairs) c.args.number p refl c.requires.number c.index-p.ensures in
    record {
      pairs = c.note.ensures.pairs ∙ c.requires.moved.pairs;
      moving = subst (AllByRecursion (IsMoving items k)) (sym c.note.ensures.pairs) c.requires.moved.moving;
      known = c.note.ensures.known c.args.change.now.window p c.requires.moved.known at c.of_kept-allowed.ensures.of_p;
      mask = c.note.ensures.mask ∙ c.requires.moved.mask ∙ ap (with_masks 0) (sym c.note.ensures.pairs);
    }
