use Rattle.std.proofs.Common.{sym, ap}
use Rattle.order_laws.specs.Places.{PlacedPair}
use Rattle.sheet_same.proofs.Weighing.{kept_weighs}
use Rattle.sheet_same.proofs.standing.kept_weighs.Goals as goal

pub returns : goal.returns
returns c = kept_weighs c.weighing_is_decided.ensures c.weighs_kept.result c.args.p.now.pair c.args.item.now (c.weighs_kept.ensures c.args.p.now.pair (sym (ap (λ (x : PlacedPair). x.pair.decl) c.p.view_is)))
