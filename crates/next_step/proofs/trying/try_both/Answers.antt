use Rattle.next_step.specs.Viewed.{Grows}
use Rattle.next_step.proofs.Looking.{grows_both, kept_covers}
use Rattle.next_step.proofs.Results.{on_ok}
use Rattle.next_step.proofs.trying.try_both.Goals as goal

pub returns-clause-grows : goal.returns-clause-grows
returns-clause-grows c = on_ok c.put_priority-2.result (Grows c.args.view.now c.put_priority.new.found c.put_priority-2.new.found) _
    (grows_both c.args.view.now c.args.found.now c.put_priority.new.found c.put_priority-2.new.found c.in_ok-put_priority.ensures.grows) c.put_priority-2.ensures.grows

pub returns-clause-first : goal.returns-clause-first
returns-clause-first c = on_ok c.put_priority-2.result (Grows c.args.view.now c.put_priority.new.found c.put_priority-2.new.found) _
    (λ grows. kept_covers c.args.view.now c.put_priority.new.found c.put_priority-2.new.found grows c.args.first.now.step c.in_ok-put_priority.ensures.covers) c.put_priority-2.ensures.grows
