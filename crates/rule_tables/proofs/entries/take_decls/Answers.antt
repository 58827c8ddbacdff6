use Rattle.std.proofs.Common.{◌≡◌}
use Rattle.std.proofs.lemmas.List.{nil_from_length}
use Rattle.css_model.specs.declared.sheet.DeclItem.{DeclItem}
use Rattle.rule_tables.specs.Digests.{decl_digest}
use Rattle.rule_tables.specs.Entries.{entry}
use Rattle.rule_tables.proofs.EntrySets.{takes_end, takes_step}
use Rattle.rule_tables.proofs.entries.take_decls.Goals as goal

pub rest-preserved : goal.rest-preserved
rest-preserved c =
    let is : c.entry_of.result ≡ entry (decl_digest c.in-Some.first.now.decl) c.args.order_key = cc in
    λ final h. c.rest.invariant final (takes_step (λ (x : DeclItem). entry (decl_digest x.decl) c.args.order_key) c.rest.rest.now c.in-Some.behind.now c.in-Some.first.now c.in-Some.ensures.cases.0
    c.rest.entries c.take.new.self final c.entry_of.result is c.take.ensures h)

pub returns : goal.returns
returns c =
    c.rest.invariant c.rest.entries (takes_end (λ (x : DeclItem). entry (decl_digest x.decl) c.args.order_key) c.rest.rest.now (nil_from_length c.rest.rest.now (rw c.in_default.is at c.split_first.ensures.cases)) c.rest.entries)
