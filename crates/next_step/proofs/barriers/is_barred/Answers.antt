use Rattle.next_step.proofs.SharesPast.{share_is_barred}
use Rattle.next_step.proofs.barriers.is_barred.Goals as goal

pub returns-in-Share : goal.returns-in-Share
returns-in-Share c =
    let is = share_is_barred c.args.indexed.now c.args.barriers.now c.in-Share.upper c.in-Share.lower c.args.step.now c.in-Share.is in
    (λ yes. is.0 (c.is_share_past.ensures.0 yes), λ barred. c.is_share_past.ensures.1 (is.1 barred))
