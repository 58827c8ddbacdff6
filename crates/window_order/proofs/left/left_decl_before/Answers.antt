use Rattle.std.proofs.Common.{◌∙◌, sym, ap}
use Rattle.window_order.proofs.LeftTests.{before_common, before_other}
use Rattle.window_order.proofs.left.left_decl_before.Goals as goal
use Rattle.window_order.specs.Left.{decls_of}
use Rattle.window_order.specs.Standing.{decl_before}
use Rattle.window_order.specs.declared.left.LeftDecls.{LeftDecls}

pub returns-in-Common : goal.returns-in-Common
returns-in-Common c =
    c.before_where.ensures
    ∙ sym (before_common c.in-Common.list.now c.in-Common.others.now c.args.decl.now c.args.other.now)
    ∙ ap (λ (ds : LeftDecls). decl_before (decls_of ds) c.args.decl.now c.args.other.now) (sym c.in-Common.is)

pub returns-in-Others : goal.returns-in-Others
returns-in-Others c =
    c.before_where-in-Others.ensures
    ∙ sym (before_other c.in-Others.list.now c.in-Others.others.now c.args.decl.now c.args.other.now)
    ∙ ap (λ (ds : LeftDecls). decl_before (decls_of ds) c.args.decl.now c.args.other.now) (sym c.in-Others.is)
