use Rattle.std.proofs.Common.{ap, sym, ◌∙◌}
use Rattle.css_print.specs.Walking.{solid_of}
use Rattle.css_print.specs.Words.{behind_kept}
use Rattle.css_print.proofs.print.behind.Goals as goal

pub returns-in-None : goal.returns-in-None
returns-in-None c = c.behind_last.ensures c.args.word.text.now c.args.word.gap ∙ sym (ap (behind_kept (solid_of c.args.word)) c.in-None.is)
