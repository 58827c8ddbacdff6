use Rattle.inspect_text.proofs.Told.{when_win, wins_win}
use Rattle.inspect_text.proofs.laws.winners_are_told.Goals as goal

pub returns-clause-outside : goal.returns-clause-outside
returns-clause-outside c = wins_win c.told_winners_win.ensures.outside

pub returns-clause-inside : goal.returns-clause-inside
returns-clause-inside c = when_win c.told_winners_win.ensures.inside
