use Rattle.std.proofs.Common.{◌≡◌}
use Rattle.std.proofs.lemmas.List.{nil_from_length}
use Rattle.css_model.specs.declared.sheet.DeclItem.{DeclItem}
use Rattle.rule_tables.specs.Digests.{decl_digest}
use Rattle.rule_tables.specs.Entries.{entry}
use Rattle.rule_tables.proofs.EntrySets.{given_some, puts_end, puts_step, some_put, some_step}
use Rattle.rule_tables.proofs.entries.put_decls.Goals as goal

pub returns-in_err-put-clause-err : goal.returns-in_err-put-clause-err
returns-in_err-put-clause-err c =
    given_some c.from_residual.result (c.rest.invariant.part c.put.new.self (some_put c.rest.entries c.put.new.self _ c.in_err-put.ensures.err))

pub rest-preserved : goal.rest-preserved
rest-preserved c =
    let is : c.entry_of.result ≡ entry (decl_digest c.in-Some.first.now.decl) c.args.order_key = cc in
    record {
      whole = λ final h. c.rest.invariant.whole final (puts_step (λ (x : DeclItem). entry (decl_digest x.decl) c.args.order_key) c.rest.rest.now c.in-Some.behind.now c.in-Some.first.now c.in-Some.ensures.cases.0
          c.rest.entries c.put.new.self final c.entry_of.result is c.in_ok-put.ensures.ok h);
      part = λ final h. c.rest.invariant.part final (some_step (λ (x : DeclItem). entry (decl_digest x.decl) c.args.order_key) c.rest.rest.now c.in-Some.behind.now c.in-Some.first.now c.in-Some.ensures.cases.0
          c.rest.entries c.put.new.self final c.entry_of.result is c.in_ok-put.ensures.ok h);
    }

pub returns-clause-ok : goal.returns-clause-ok
returns-clause-ok c =
    c.rest.invariant.whole c.rest.entries (puts_end (λ (x : DeclItem). entry (decl_digest x.decl) c.args.order_key) c.rest.rest.now (nil_from_length c.rest.rest.now (rw c.in_default.is at c.split_first.ensures.cases)) c.rest.entries)
