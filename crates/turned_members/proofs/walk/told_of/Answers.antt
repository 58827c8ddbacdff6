use Rattle.std.proofs.Common.{List, ap, ◌∙◌}
use Rattle.turned_members.specs.Walking.{Walked, commons_of}
use Rattle.turned_members.proofs.Way.{walked_ready}
use Rattle.turned_members.proofs.walk.told_of.Goals as goal

pub tell_all-requires-clause-all : goal.tell_all-requires-clause-all
tell_all-requires-clause-all c =
    walked_ready c.args.commons.now c.deref.result.now (ap (λ (ws : List Walked). commons_of ws) c.deref.ensures.value ∙ c.in_ok-members.ensures.commons) c.requires
