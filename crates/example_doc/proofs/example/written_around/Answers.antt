use Rattle.example_doc.proofs.Written.{written_is}
use Rattle.example_doc.proofs.example.written_around.Goals as goal

pub returns-clause-lines : goal.returns-clause-lines
returns-clause-lines c =
    written_is c.args.top_is_root c.args.steps.now c.args.start.now.before c.args.before.now c.args.start.now.after c.args.after.now c.args.start.now.element.now c.args.elements.now
    c.new-lines.result.items c.push_front.new.lines.items c.push_line.new.lines.items c.push_plain.new.lines.items c.push_back.new.lines.items c.in_ok-depth.depth c.in_ok-copy.copy
    c.requires.counts c.requires.elements c.new-lines.ensures.items c.in_ok-depth.ensures.lines c.in_ok-depth.ensures.depth c.in_ok-copy.ensures c.in_ok-push_line.ensures c.in_ok-push_plain.ensures c.in_ok-push_back.ensures
