use Rattle.std.proofs.Common.{◌∙◌, sym, ap}
use Rattle.order_laws.specs.Members.{has_decl}
use Rattle.window_order.proofs.LeftTests.{has_common, has_other}
use Rattle.window_order.proofs.left.has_left_decl.Goals as goal
use Rattle.window_order.specs.Left.{decls_of}
use Rattle.window_order.specs.declared.left.LeftDecls.{LeftDecls}

pub returns-in-Common : goal.returns-in-Common
returns-in-Common c = c.has_decl_where.ensures ∙ sym (has_common c.in-Common.list.now c.in-Common.others.now c.args.decl.now) ∙ ap (λ (ds : LeftDecls). has_decl (decls_of ds) c.args.decl.now) (sym c.in-Common.is)

pub returns-in-Others : goal.returns-in-Others
returns-in-Others c = c.has_decl_where-in-Others.ensures ∙ sym (has_other c.in-Others.list.now c.in-Others.others.now c.args.decl.now) ∙ ap (λ (ds : LeftDecls). has_decl (decls_of ds) c.args.decl.now) (sym c.in-Others.is)
