use Rattle.std.specs.HashMap.{get}
use Rattle.sheet_members.specs.Labels.{same_label}
use Rattle.sheet_members.proofs.Repeats.{numbered_is}
use Rattle.sheet_members.proofs.listing.numbered_one.Goals as goal

pub returns : goal.returns
returns c = λ before are.
    numbered_is before (get same_label c.args.counts.now) (get same_label c.count.new.counts) c.args.m.now (record { occurrence = c.m.inside.occurrence.now; label = c.m.inside.label })
    c.in_ok-number.number c.with_number.result c.m.view_is are c.in_ok-number.ensures.before c.with_number.ensures c.in_ok-number.ensures.counts
