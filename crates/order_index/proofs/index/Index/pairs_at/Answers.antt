use Rattle.std.proofs.Common.{◌≡◌, List, ◌∙◌, ap, drop, nat_lt}
use Rattle.std.specs.List.{prefix_len}
use Rattle.order_index.proofs.Around.{rest_rises}
use Rattle.order_index.proofs.PairsAt.{pairs_at}
use Rattle.order_index.proofs.index.Index.pairs_at.Goals as goal
use Rattle.order_laws.specs.Places.{PlacedPair, last_pairs}

pub up_to_item-requires : goal.up_to_item-requires
up_to_item-requires c =
    let pairs_are : c.deref.result.now ≡ last_pairs c.args.self.now = c.deref.ensures.value ∙ c.self.inside.listed ∙ ap last_pairs c.self.view_is in
    let rest_is : c.from_item-rest.result.now ≡ drop (prefix_len (λ q. nat_lt q.place.item c.args.number) (last_pairs c.args.self.now)) (last_pairs c.args.self.now) =
    c.from_item-rest.ensures ∙ ap (λ (xs : List PlacedPair). drop (prefix_len (λ q. nat_lt q.place.item c.args.number) xs) xs) pairs_are in
    rest_rises c.args.self.now _ c.from_item-rest.result.now rest_is

pub returns : goal.returns
returns c =
    let pairs_are : c.deref.result.now ≡ last_pairs c.args.self.now = c.deref.ensures.value ∙ c.self.inside.listed ∙ ap last_pairs c.self.view_is in
    let rest_is : c.from_item-rest.result.now ≡ drop (prefix_len (λ q. nat_lt q.place.item c.args.number) (last_pairs c.args.self.now)) (last_pairs c.args.self.now) =
    c.from_item-rest.ensures ∙ ap (λ (xs : List PlacedPair). drop (prefix_len (λ q. nat_lt q.place.item c.args.number) xs) xs) pairs_are in
    pairs_at c.args.self.now c.args.number c.requires.rule c.from_item-rest.result.now c.up_to_item.result.now rest_is c.up_to_item.ensures
