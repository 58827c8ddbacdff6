use Rattle.cascade_laws.proofs.Greatest.{winner-greatest}
use Rattle.cascade_laws.proofs.winning.winner_is_greatest.Goals as goal
use Rattle.css_model.specs.Cascade.Winner.{applied}

pub returns : goal.returns
returns c = λ doc target meanings items us. winner-greatest us (applied doc target meanings items)
