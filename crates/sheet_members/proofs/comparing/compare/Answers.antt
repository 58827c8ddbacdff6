use Rattle.sheet_members.proofs.Placing.{compared_is}
use Rattle.sheet_members.proofs.comparing.compare.Goals as goal

pub returns : goal.returns
returns c =
    compared_is c.args.members.now c.args.others.now _ _ c.in_ok-commons_of.field-0.items c.in_ok-lacking_of.field-0.items c.in_ok-lacking_of-2.field-0.items
    c.in_ok-mine.ensures c.in_ok-yours.ensures c.in_ok-commons_of.ensures c.in_ok-lacking_of.ensures c.in_ok-lacking_of-2.ensures
