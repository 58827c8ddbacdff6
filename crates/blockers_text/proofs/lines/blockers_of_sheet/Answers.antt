use Rattle.blockers_text.proofs.Answered.{later_itself}
use Rattle.blockers_text.proofs.Telling.{text_told}
use Rattle.blockers_text.proofs.lines.blockers_of_sheet.Goals as goal
use Rattle.blockers_text.specs.Later.{seen}

pub returns-clause-tells : goal.returns-clause-tells
returns-clause-tells c =
    let p = c.tell_all.new.pairs in
    text_told p c.args.source.now c.in_ok-text.text.items c.args.sheet.now.items c.in_ok-told.told c.requires c.are_true.ensures (c.in_ok-told.ensures.tells (seen p) (later_itself p c.are_true.ensures)) c.in_ok-text.ensures
