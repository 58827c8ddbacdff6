use Rattle.inspect_text.proofs.Told.{lost_lose}
use Rattle.inspect_text.proofs.laws.lost_lines_lose.Goals as goal

pub returns : goal.returns
returns c = lost_lose c.first_wins.ensures c.lost_never_wins.ensures
