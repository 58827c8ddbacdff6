use Rattle.cssmin_run.proofs.Forms.{blockers_told, differences_told, entries_told, findings_told, items_listed, told_same, told_why, told_style, told_dead, checked, completed, others_done, refused_for}
use Rattle.cssmin_run.proofs.laws.each_sheet_has_its_status.Goals as goal

pub returns-clause-refuses : goal.returns-clause-refuses
returns-clause-refuses c = refused_for

pub returns-clause-complete : goal.returns-clause-complete
returns-clause-complete c = completed

pub returns-clause-others : goal.returns-clause-others
returns-clause-others c = others_done

pub returns-clause-checked : goal.returns-clause-checked
returns-clause-checked c = checked

pub returns-clause-told_dead : goal.returns-clause-told_dead
returns-clause-told_dead c = told_dead

pub returns-clause-told_style : goal.returns-clause-told_style
returns-clause-told_style c = told_style

pub returns-clause-told_why : goal.returns-clause-told_why
returns-clause-told_why c = told_why

pub returns-clause-told_same : goal.returns-clause-told_same
returns-clause-told_same c = told_same

pub returns-clause-listed : goal.returns-clause-listed
returns-clause-listed c = items_listed

pub returns-clause-found : goal.returns-clause-found
returns-clause-found c = findings_told

pub returns-clause-differences : goal.returns-clause-differences
returns-clause-differences c = differences_told

pub returns-clause-blockers : goal.returns-clause-blockers
returns-clause-blockers c = blockers_told

pub returns-clause-inspected : goal.returns-clause-inspected
returns-clause-inspected c = entries_told
