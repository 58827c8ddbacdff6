use Rattle.next_step.proofs.LightRules.{weighed_at}
use Rattle.next_step.proofs.too_late.by_weights.weight_at.Goals as goal

pub returns : goal.returns
returns c = weighed_at c.args.view.now.source.now c.args.view.now.indexed.now.items c.args.view.now.indexed.now.marks c.args.view.now.weights.now c.requires.view.weighed c.args.number c.mark.result c.mark.ensures c.under.result c.under.ensures
