use Rattle.std.proofs.Common.{sym, ap, ◌∙◌}
use Rattle.turned_members.specs.Telling.{Told}
use Rattle.diff_text.proofs.Kept.{shown_rules}
use Rattle.diff_text.proofs.wording.word_of.Goals as goal

pub meeting_word-requires-clause-rules : goal.meeting_word-requires-clause-rules
meeting_word-requires-clause-rules c =
    shown_rules c.args.t.now.verdict c.in-Meet.x (sym (ap (λ (t : Told). t.verdict) c.t.view_is) ∙ c.in-Meet.is) c.requires.shown
