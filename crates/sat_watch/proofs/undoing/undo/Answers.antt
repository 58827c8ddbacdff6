use Rattle.sat_watch.proofs.UndoLemmas.{ready-undone, sound-undone}
use Rattle.sat_watch.proofs.undoing.undo.Goals as goal

pub returns-clause-ready : goal.returns-clause-ready
returns-clause-ready c a r = rw (c.within.ensures, c.len.ensures.value, c.undo_to.ensures) (ready-undone a c.args.trail.now c.args.head.now c.args.level c.requires r)

pub returns-clause-sound : goal.returns-clause-sound
returns-clause-sound c ns h s = rw c.undo_to.ensures (sound-undone ns c.args.trail.now c.args.level h c.requires s)
