use Rattle.std.proofs.Common.{rules}
use Rattle.sheet_order.proofs.LastDecls.{decl_put}
use Rattle.sheet_order.proofs.pairs.last_decls.Goals as goal

pub rest-preserved : goal.rest-preserved
rest-preserved c =
    decl_put c.args.decls.now c.rest.rest.now c.in-Some.before.now c.in-Some.last.now c.rest.lasts.keys c.insert.new.self.keys
    (search rules) c.rest.invariant c.in_ok-insert.ensures.keys
