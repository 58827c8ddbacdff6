use Rattle.std.proofs.Common.{◌≡◌, List, Some, length, refl, sym, ap, ap₂, ◌∙◌, subst}
use Rattle.std.specs.Prelude.{slice_get}
use Rattle.std.specs.List.{AllByRecursion}
use Rattle.std.proofs.lemmas.Option.{slice_get_read}
use Rattle.list_facts.proofs.Elements.{member}
use Rattle.order_index.proofs.Around.{are_listed, member_at}
use Rattle.order_index.proofs.OneMoved.{light, number_told}
use Rattle.order_index.proofs.Telling.{none_of}
use Rattle.order_index.proofs.walking.of_number.Goals as goal
use Rattle.order_index.specs.Listed.{IsListed, IsMoving}
use Rattle.order_index.specs.Told.{IsOfMoved, moved_by, reversed_by}
use Rattle.order_index.specs.Walked.{with_masks}
use Rattle.order_laws.specs.Places.{PlacedPair, last_pairs}
use Rattle.order_laws.specs.Reversed.{AnotherPair, distance}

pub weighs-requires-clause-second : goal.weighs-requires-clause-second
weighs-requires-clause-second c =
    let items = c.args.change.now.window.items.now in
    (member (IsListed items) (last_pairs items) c.args.q.now (are_listed c.listed_stands_last.ensures c.read_selectors_keep_the_limits.ensures items c.requires.planned) c.requires.other).limited

pub returns-then-not-weighs-clause-told : goal.returns-then-not-weighs-clause-told
returns-then-not-weighs-clause-told c =
    let items = c.args.change.now.window.items.now in
    let k = c.args.change.now.step in
    let p = c.index-p.result.now in
    let pairs = c.args.moving.now.pairs.items in
    let at = subst (λ (xs : List PlacedPair). slice_get xs c.args.number ≡ Some p) c.requires.moved.pairs (slice_get_read pairs (length pairs) c.args.number p refl c.requires.number c.index-p.ensures) in
    none_of c.args.pairs.now.answers (reversed_by items k) (IsOfMoved (moved_by items k) (AnotherPair c.args.q.now) c.args.far c.args.number)
    (light items k c.args.number p at c.args.far c.listed_is_reversed.ensures c.listed_stands_last.ensures c.weighing_is_decided.ensures c.order_is_decided.ensures c.args.q.now (sym c.weighs.ensures ∙ c.if-not-weighs.true))

pub of_pair-requires-clause-moved : goal.of_pair-requires-clause-moved
of_pair-requires-clause-moved c =
    let p = c.index-p.result.now in
    let pairs = c.args.moving.now.pairs.items in
    let at = subst (λ (xs : List PlacedPair). slice_get xs c.args.number ≡ Some p) c.requires.moved.pairs (slice_get_read pairs (length pairs) c.args.number p refl c.requires.number c.index-p.ensures) in
    member_at (moved_by c.args.change.now.window.items.now c.args.change.now.step) c.args.number p at

pub of_pair-requires-clause-of_p : goal.of_pair-requires-clause-of_p
of_pair-requires-clause-of_p c =
    let pairs = c.args.moving.now.pairs.items in
    c.known_of-of_p.ensures c.args.change.now.window c.index-p.result.now c.requires.moved.known (slice_get_read pairs (length pairs) c.args.number c.index-p.result.now refl c.requires.number c.index-p.ensures)

pub returns-clause-told : goal.returns-clause-told
returns-clause-told c =
    let items = c.args.change.now.window.items.now in
    let k = c.args.change.now.step in
    let p = c.index-p.result.now in
    let pairs = c.args.moving.now.pairs.items in
    let at = subst (λ (xs : List PlacedPair). slice_get xs c.args.number ≡ Some p) c.requires.moved.pairs (slice_get_read pairs (length pairs) c.args.number p refl c.requires.number c.index-p.ensures) in
    let far : distance c.args.q.now.place.item p.place.item ≡ c.args.far = ap₂ distance (sym c.item_number-other.ensures) (sym c.item_number-own.ensures) ∙ sym c.distance.ensures ∙ c.if-distance-far.false in
    number_told items k c.args.number p at c.args.far (AnotherPair c.args.q.now) far c.of_pair.new.pairs.answers c.in_ok-allowed.allowed c.in_ok-allowed.ensures.told

pub returns-clause-moved : goal.returns-clause-moved
returns-clause-moved c =
    let items = c.args.change.now.window.items.now in
    let k = c.args.change.now.step in
    let p = c.index-p.result.now in
    let pairs = c.args.moving.now.pairs.items in
    let at = slice_get_read pairs (length pairs) c.args.number p refl c.requires.number c.index-p.ensures in
    record {
      pairs = c.note.ensures.pairs ∙ c.requires.moved.pairs;
      moving = subst (AllByRecursion (IsMoving items k)) (sym c.note.ensures.pairs) c.requires.moved.moving;
      known = c.note.ensures.known c.args.change.now.window p c.requires.moved.known at c.of_pair.ensures.of_p;
      mask = c.note.ensures.mask ∙ c.requires.moved.mask ∙ ap (with_masks 0) (sym c.note.ensures.pairs);
    }
