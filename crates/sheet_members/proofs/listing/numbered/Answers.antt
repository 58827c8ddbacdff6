use Rattle.std.proofs.Common.{[], take, arith}
use Rattle.std.specs.HashMap.{get}
use Rattle.sheet_members.specs.Labels.{same_label}
use Rattle.sheet_members.specs.Members.{numbered}
use Rattle.sheet_members.proofs.Repeats.{counts_next, labels_of, numbers_next}
use Rattle.sheet_members.proofs.listing.numbered.Goals as goal

pub loop-m-preserved : goal.loop-m-preserved
loop-m-preserved c =
    let ms = c.args.members.now in
    let i = c.loop-m.m-index in
    let made = c.in_ok-numbered_one.ensures (labels_of (take i ms)) c.loop-m.invariant.counts in
    record {
      counts = counts_next ms i c.m-item.result (omega arith) c.m-item.is (get same_label c.numbered_one.new.counts) made.1;
      found = numbers_next ms i c.m-item.result (omega arith) c.m-item.is c.loop-m.found.items c.push.new.self.items (numbered [] ms) c.in_ok-numbered_one.field-0 made.0 c.in_ok-push.ensures.items c.loop-m.invariant.found;
    }
