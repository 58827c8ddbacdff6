use Rattle.cascade_laws.proofs.Greatest.{winner-none, none-winner}
use Rattle.cascade_laws.proofs.winning.no_winner_is_none_understood.Goals as goal
use Rattle.css_model.specs.Cascade.Winner.{applied}

pub returns : goal.returns
returns c = λ doc target meanings items us. (winner-none us (applied doc target meanings items), none-winner us (applied doc target meanings items))
