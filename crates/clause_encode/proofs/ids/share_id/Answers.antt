use Rattle.std.proofs.Common.{◌∙◌}
use Rattle.clause_encode.proofs.Apart.{shares}
use Rattle.clause_encode.proofs.ids.share_id.Goals as goal

pub returns : goal.returns
returns c = c.share.ensures ∙ shares c.args.simples.now c.args.others.now
