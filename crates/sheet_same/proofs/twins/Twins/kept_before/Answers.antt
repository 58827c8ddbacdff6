use Rattle.std.proofs.Common.{◌∙◌}
use Rattle.sheet_same.proofs.KeptTwins.{count_is}
use Rattle.sheet_same.proofs.twins.Twins.kept_before.Goals as goal

pub returns-in-Some : goal.returns-in-Some
returns-in-Some c =
    count_is c.args.self.now.sheet.now.items.now c.deref.result.now c.args.number c.in-Some.count.now (c.deref.ensures.value ∙ c.args.self.now.counted)
    c.in-Some.ensures.lookup.3.0 c.in-Some.ensures.lookup.3.1
