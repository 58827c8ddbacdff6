use Rattle.std.proofs.Common.{◌<◌, ℕ, List, sym, subst}
use Rattle.std.specs.List.{Contains}
use Rattle.planner_state.proofs.Results.{if_fine}
use Rattle.planner_state.proofs.weighing.weigh_created.Goals as goal

pub weigh_those-requires-clause-there : goal.weigh_those-requires-clause-there
weigh_those-requires-clause-there c = λ n among. subst (λ (k : ℕ). n < k) c.requires.marked.1 ((rw c.in-Some.is at c.requires.created).there n (subst (λ (ns : List ℕ). Contains ns n) c.deref.ensures among))

pub returns-in-Some-clause-weighed : goal.returns-in-Some-clause-weighed
returns-in-Some-clause-weighed c =
    if_fine c.weigh_those.result (λ weighed n m r at item_at later. weighed n (subst (λ (ns : List ℕ). Contains ns n) (sym c.deref.ensures) ((rw c.in-Some.is at c.requires.created).only n m at later)) m r at item_at later) c.weigh_those.ensures.weighed
