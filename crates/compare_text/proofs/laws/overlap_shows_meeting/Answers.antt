use Rattle.compare_text.proofs.Truth.{overlap_shows}
use Rattle.compare_text.proofs.laws.overlap_shows_meeting.Goals as goal

pub returns : goal.returns
returns c = overlap_shows
