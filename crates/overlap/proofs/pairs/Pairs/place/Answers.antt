use Rattle.std.proofs.Common.{rules, ◌≡◌, List, sym, subst}
use Rattle.overlap.specs.PairsParts.{Answered}
use Rattle.overlap.specs.Remembered.{IsUnknown, StandsAt}
use Rattle.overlap.specs.Stored.{answers_of}
use Rattle.overlap.proofs.Keeping.{known_nowhere, none_stands, stands_is}
use Rattle.overlap.proofs.pairs.Pairs.place.Goals as goal

pub returns-in_err-places : goal.returns-in_err-places
returns-in_err-places c =
    let v : c.args.self.now.answers ≡ answers_of c.self.inside.selectors.keys c.self.inside.answers.entries = search rules in
    none_stands c.args.self.now.answers c.args.x.now c.args.y.now c.from_residual.result c.from_residual.ensures
    (subst (λ (answers : List Answered). IsUnknown answers c.args.x.now c.args.y.now) (sym v)
    (known_nowhere c.self.inside.selectors.keys c.self.inside.answers.entries c.args.x.now c.args.y.now c.self.inside.kept c.in_err-places.ensures))

pub returns : goal.returns
returns c =
    let v : c.args.self.now.answers ≡ answers_of c.self.inside.selectors.keys c.self.inside.answers.entries = search rules in
    subst (λ (answers : List Answered). StandsAt answers c.args.x.now c.args.y.now c.get_index_of.result) (sym v)
    (stands_is c.self.inside.selectors.keys c.self.inside.answers.entries c.args.x.now c.args.y.now c.in_ok-places.places c.get_index_of.result c.self.inside.kept c.in_ok-places.ensures c.get_index_of.ensures.index)
