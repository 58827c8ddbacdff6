use Rattle.inspect_laws.proofs.Winning.{wins_under, wins_where_none}
use Rattle.inspect_laws.proofs.laws.told_winners_win.Goals as goal

pub returns-clause-outside : goal.returns-clause-outside
returns-clause-outside c = wins_where_none c.first_wins.ensures

pub returns-clause-inside : goal.returns-clause-inside
returns-clause-inside c = wins_under c.first_wins.ensures
