use Rattle.cssmin_run.proofs.Told.{line_told}
use Rattle.cssmin_run.proofs.telling.tell_text.Goals as goal

pub returns-clause-told : goal.returns-clause-told
returns-clause-told g c = line_told c.write_all.result c.args.text.now _ c.write_all.ensures.ok c.write_all.ensures.write_fault c.write_all.ensures.part
