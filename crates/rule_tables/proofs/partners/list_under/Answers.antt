use Rattle.std.proofs.Common.{refl}
use Rattle.rule_tables.proofs.Sharing.{is_under_as}
use Rattle.rule_tables.proofs.partners.list_under.Goals as goal

pub returns : goal.returns
returns c = record { under = is_under_as c.args.entries.now c.under.result.now c.decl_digest.ensures c.under.ensures.same; ascends = c.under.ensures.ascends; common = refl }
