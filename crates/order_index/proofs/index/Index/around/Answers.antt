use Rattle.std.proofs.Common.{◌≡◌, List, ◌∙◌, ap, drop, nat_lt}
use Rattle.std.specs.List.{prefix_len}
use Rattle.order_index.proofs.Around.{around_all, part_listed, rest_rises}
use Rattle.order_index.proofs.index.Index.around.Goals as goal
use Rattle.order_laws.specs.Places.{PlacedPair, last_pairs}

pub up_to_item-requires : goal.up_to_item-requires
up_to_item-requires c =
    let pairs_are : c.deref.result.now ≡ last_pairs c.args.self.now = c.deref.ensures.value ∙ c.self.inside.listed ∙ ap last_pairs c.self.view_is in
    let rest_is : c.from_item-rest.result.now ≡ drop (prefix_len (λ q. nat_lt q.place.item c.args.change.now.window.start) (last_pairs c.args.self.now)) (last_pairs c.args.self.now) =
    c.from_item-rest.ensures ∙ ap (λ (xs : List PlacedPair). drop (prefix_len (λ q. nat_lt q.place.item c.args.change.now.window.start) xs) xs) pairs_are in
    rest_rises c.args.self.now _ c.from_item-rest.result.now rest_is

pub returns-clause-listed : goal.returns-clause-listed
returns-clause-listed c =
    let pairs_are : c.deref.result.now ≡ last_pairs c.args.self.now = c.deref.ensures.value ∙ c.self.inside.listed ∙ ap last_pairs c.self.view_is in
    let rest_is : c.from_item-rest.result.now ≡ drop (prefix_len (λ q. nat_lt q.place.item c.args.change.now.window.start) (last_pairs c.args.self.now)) (last_pairs c.args.self.now) =
    c.from_item-rest.ensures ∙ ap (λ (xs : List PlacedPair). drop (prefix_len (λ q. nat_lt q.place.item c.args.change.now.window.start) xs) xs) pairs_are in
    part_listed c.listed_stands_last.ensures c.read_selectors_keep_the_limits.ensures c.args.self.now c.requires.planned _ _ c.from_item-rest.result.now c.up_to_item.result.now rest_is c.up_to_item.ensures

pub returns-clause-all : goal.returns-clause-all
returns-clause-all c =
    let pairs_are : c.deref.result.now ≡ last_pairs c.args.self.now = c.deref.ensures.value ∙ c.self.inside.listed ∙ ap last_pairs c.self.view_is in
    let rest_is : c.from_item-rest.result.now ≡ drop (prefix_len (λ q. nat_lt q.place.item c.args.change.now.window.start) (last_pairs c.args.self.now)) (last_pairs c.args.self.now) =
    c.from_item-rest.ensures ∙ ap (λ (xs : List PlacedPair). drop (prefix_len (λ q. nat_lt q.place.item c.args.change.now.window.start) xs) xs) pairs_are in
    around_all c.listed_stands_last.ensures c.steps_have_windows.ensures c.windows_tell_pairs.ensures c.weighing_is_decided.ensures c.order_is_decided.ensures c.args.change.now.window c.args.change.now.step c.requires.change c.args.self.now
    c.requires.items c.from_item-rest.result.now c.up_to_item.result.now rest_is c.up_to_item.ensures
