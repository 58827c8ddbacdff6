use Rattle.std.proofs.Common.{◌-◌, length, take, drop, refl}
use Rattle.turned_members.specs.Turned.{turned, turned_with}
use Rattle.turned_members.specs.Walking.{commons_of}
use Rattle.turned_members.proofs.Way.{cut_first, way_goes_on}
use Rattle.turned_members.proofs.walk.tell_all.Goals as goal

pub members-preserved : goal.members-preserved
members-preserved c =
    let rest = c.members.rest.now in
    let w = c.w-item.result in
    let others = take (length rest - 1) (drop 1 rest) in
    way_goes_on turned c.args.limit c.args.pairs.now c.members.pairs c.tell_with.new.pairs c.args.told.now.items c.members.told.items c.tell_with.new.told.items c.args.members.now rest others w
    (turned_with w.common (commons_of others)) (cut_first rest w c.in-len1-up.len_at_least c.w-item.is) refl c.members.invariant c.tell_with.ensures.stays c.in_ok-tell_with.ensures.tells
