use Rattle.std.proofs.Common.{ℕ, ◌-◌, List, ap, drop, set, ◌∙◌}
use Rattle.rule_tables.proofs.FreePlaces.{moved_front}
use Rattle.rule_tables.proofs.order_key_lists.move_front.Goals as goal

pub returns-clause-moved : goal.returns-clause-moved
returns-clause-moved c =
    ap (λ (xs : List ℕ). drop (c.args.from - 1) (set xs (c.args.to - 1) c.args.order_key)) c.copy_within.ensures.after
    ∙ moved_front c.args.places.now c.args.from c.args.to c.args.order_key c.requires.some c.requires.order c.requires.within
