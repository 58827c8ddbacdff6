use Rattle.std.proofs.Common.{sym, ap, ◌∙◌}
use Rattle.turned_members.specs.Telling.{Told}
use Rattle.diff_text.proofs.Kept.{shown_rules}
use Rattle.diff_text.proofs.telling.put_verdict.Goals as goal

pub put_example-requires-clause-rules : goal.put_example-requires-clause-rules
put_example-requires-clause-rules c =
    shown_rules c.args.t.now.verdict c.in-Meet.x (sym (ap (λ (t : Told). t.verdict) c.t.view_is) ∙ c.in-Meet.is) c.requires.shown
