use Rattle.sat_watch.specs.Numbered.{numbered}
use Rattle.rup_check.proofs.RootLemmas.{root-undone}
use Rattle.rup_check.proofs.root.is_forced.Goals as goal

pub returns-clause-root : goal.returns-clause-root
returns-clause-root c =
    let a = c.refute-forced.new.arena in
    let r = c.refute-forced.ensures in
    let u = c.undo.ensures in
    root-undone a c.refute-forced.new.trail c.undo.new.trail c.refute-forced.new.head c.undo.new.head r.kept r.looked u.trail u.head (u.sound (numbered a) r.kept.ready.trail r.kept.sound) (u.ready a r.kept.ready)
