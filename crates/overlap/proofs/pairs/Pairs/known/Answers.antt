use Rattle.std.proofs.Common.{rules, ◌≡◌, List, sym, subst}
use Rattle.overlap.specs.PairsParts.{Answered}
use Rattle.overlap.specs.Remembered.{IsUnknown, Known}
use Rattle.overlap.specs.Stored.{answers_of}
use Rattle.overlap.proofs.Keeping.{known_is, known_nowhere, none_known}
use Rattle.overlap.proofs.pairs.Pairs.known.Goals as goal

pub returns-in_err-places-clause-known : goal.returns-in_err-places-clause-known
returns-in_err-places-clause-known c =
    let v : c.args.self.now.answers ≡ answers_of c.self.inside.selectors.keys c.self.inside.answers.entries = search rules in
    none_known c.args.self.now.answers c.args.x.now c.args.y.now c.from_residual.result c.from_residual.ensures
    (subst (λ (answers : List Answered). IsUnknown answers c.args.x.now c.args.y.now) (sym v)
    (known_nowhere c.self.inside.selectors.keys c.self.inside.answers.entries c.args.x.now c.args.y.now c.self.inside.kept c.in_err-places.ensures))

pub returns-clause-known : goal.returns-clause-known
returns-clause-known c =
    let v : c.args.self.now.answers ≡ answers_of c.self.inside.selectors.keys c.self.inside.answers.entries = search rules in
    subst (λ (answers : List Answered). Known answers c.args.x.now c.args.y.now c.get.result) (sym v)
    (known_is c.self.inside.selectors.keys c.self.inside.answers.entries c.args.x.now c.args.y.now c.in_ok-places.places c.get.result c.self.inside.kept c.in_ok-places.ensures c.get.ensures.value)
