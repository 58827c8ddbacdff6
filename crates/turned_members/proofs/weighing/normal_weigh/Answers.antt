use Rattle.std.proofs.Common.{refl}
use Rattle.css_model.specs.Cascade.Order.{Pair}
use Rattle.turned_members.proofs.Weights.{decl_with, weigh_seen}
use Rattle.turned_members.proofs.weighing.normal_weigh.Goals as goal

pub returns : goal.returns
returns c =
    let p : Pair = record { selector = c.p.inside.selector.now; decl = decl_with c.p.inside.decl.now.name c.p.inside.text.now c.p.inside.decl.now.important } in
    let q : Pair = record { selector = c.q.inside.selector.now; decl = decl_with c.q.inside.decl.now.name c.q.inside.text.now c.q.inside.decl.now.important } in
    weigh_seen c.weighing_is_decided.ensures c.same_decls-same.result c.related-names.result _ c.same_specificity-specificity.result c.all_four.result c.args.p.now c.args.q.now p q
    c.p.view_is c.q.view_is c.same_decls-same.ensures c.related-names.ensures.exact refl c.same_specificity-specificity.ensures c.all_four.ensures
