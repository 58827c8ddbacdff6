use Rattle.std.proofs.Common.{List, ap, ◌∙◌}
use Rattle.std.specs.List.{find}
use Rattle.order_laws.specs.Members.{same_pair}
use Rattle.order_laws.specs.Places.{PlacedPair}
use Rattle.sheet_same.proofs.Standings.{found_spot, no_spot}
use Rattle.sheet_same.proofs.standing.spot_in.Goals as goal

pub returns-in-Some : goal.returns-in-Some
returns-in-Some c =
    c.spot_of.ensures
    ∙ found_spot c.args.twins.now.other.now.pairs.items c.args.pair.now.pair c.in-Some.twin.now
    (c.in-Some.ensures ∙ ap (λ (xs : List PlacedPair). find (λ q. same_pair q.pair c.args.pair.now.pair) xs) c.args.twins.now.indexed)

pub returns-in-None : goal.returns-in-None
returns-in-None c =
    no_spot c.args.twins.now.other.now.pairs.items c.args.pair.now.pair
    (c.in-None.ensures ∙ ap (λ (xs : List PlacedPair). find (λ q. same_pair q.pair c.args.pair.now.pair) xs) c.args.twins.now.indexed)
