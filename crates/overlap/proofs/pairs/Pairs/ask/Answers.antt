use Rattle.std.proofs.Common.{Some, refl, sym, subst}
use Rattle.overlap.specs.PairsParts.{PairsParts}
use Rattle.overlap.specs.Remembered.{Asks, StandsAt}
use Rattle.overlap.proofs.Keeping.{lent_at}
use Rattle.overlap.proofs.pairs.Pairs.ask.Goals as goal

pub returns : goal.returns
returns c = (
  (
    refl,
    (λ p. tt),
    (
      subst (λ (v : PairsParts). Asks c.args.self.now v c.args.x.now c.args.y.now) (sym c.self.view_is) c.in_ok-at.ensures.asks,
      c.self.inside.list,
      lent_at c.self.inside.selectors.keys c.self.inside.answers.entries c.args.x.now c.args.y.now c.in_ok-at.at c.index.result.now
          (subst (λ (v : PairsParts). StandsAt v.answers c.args.x.now c.args.y.now (Some c.in_ok-at.at)) (sym c.self.view_is) c.in_ok-at.ensures.at) c.index.ensures,
    ),
  ),
  record { ends = tt },
)
