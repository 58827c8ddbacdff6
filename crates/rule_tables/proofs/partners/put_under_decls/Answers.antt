use Rattle.std.proofs.Common.{ℕ, List, sym, subst}
use Rattle.rule_tables.specs.Entries.{HaveSameMembers}
use Rattle.rule_tables.specs.Tables.{decl_digests}
use Rattle.rule_tables.proofs.EntrySets.{then_ok}
use Rattle.rule_tables.proofs.Sharing.{under_the_same}
use Rattle.rule_tables.proofs.partners.put_under_decls.Goals as goal

pub returns : goal.returns
returns c =
    let same : HaveSameMembers c.deref.result.now (decl_digests c.args.decls.now) =
    subst (λ (ds : List ℕ). HaveSameMembers ds (decl_digests c.args.decls.now)) (sym c.deref.ensures.value) (subst (λ (ds : List ℕ). HaveSameMembers c.each_once-digests.result.items ds) c.in_ok-decl_digests.ensures c.each_once-digests.ensures) in
    then_ok c.put_under_each.result (under_the_same c.args.entries.now c.deref.result.now (decl_digests c.args.decls.now) same c.args.found.now.items c.put_under_each.new.found.items) c.put_under_each.ensures
