use Rattle.std.proofs.Common.{ap, sym, true≢false}
use Rattle.rule_tables.specs.Tables.{TableParts}
use Rattle.rule_tables.proofs.OtherRules.{listed_by_decl, listed_by_selector}
use Rattle.rule_tables.proofs.Sharing.{only_own}
use Rattle.rule_tables.proofs.tables.Tables.is_elsewhere.Goals as goal

pub returns-then-has_no_other : goal.returns-then-has_no_other
returns-then-has_no_other g c = (
  λ h. absurd (true≢false (sym h)),
  λ a. absurd (a.1 (only_own c.under-with_decl.result.now c.args.own (c.has_no_other.ensures.0 c.if-has_no_other.true) a.0
      (listed_by_decl (g.R.OrderKeyedRules.rules c.args.rules.now) c.args.own c.args.selector.now c.args.decl.now c.args.self.now c.self.inside.decls (ap (λ (t : TableParts). t.decls) c.self.view_is) c.requires c.decl_digest.result
      c.decl_digest.ensures c.under-with_decl.result.now c.under-with_decl.ensures.same a.0 a.2))),
)

pub is_pair_in_both-requires-clause-all : goal.is_pair_in_both-requires-clause-all
is_pair_in_both-requires-clause-all g c = λ order_key has. (
  listed_by_selector (g.R.OrderKeyedRules.rules c.args.rules.now) c.args.own c.args.selector.now c.args.decl.now c.args.self.now c.self.inside.selectors (ap (λ (t : TableParts). t.selectors) c.self.view_is) c.requires
      c.selector_digest.result c.selector_digest.ensures c.under-with_selector.result.now c.under-with_selector.ensures.same order_key has,
  listed_by_decl (g.R.OrderKeyedRules.rules c.args.rules.now) c.args.own c.args.selector.now c.args.decl.now c.args.self.now c.self.inside.decls (ap (λ (t : TableParts). t.decls) c.self.view_is) c.requires
      c.decl_digest.result c.decl_digest.ensures c.under-with_decl.result.now c.under-with_decl.ensures.same order_key has,
)

pub is_pair_in_both-requires-2-clause-all : goal.is_pair_in_both-requires-2-clause-all
is_pair_in_both-requires-2-clause-all g c = λ order_key has. (
  listed_by_decl (g.R.OrderKeyedRules.rules c.args.rules.now) c.args.own c.args.selector.now c.args.decl.now c.args.self.now c.self.inside.decls (ap (λ (t : TableParts). t.decls) c.self.view_is) c.requires
      c.decl_digest.result c.decl_digest.ensures c.under-with_decl.result.now c.under-with_decl.ensures.same order_key has,
  listed_by_selector (g.R.OrderKeyedRules.rules c.args.rules.now) c.args.own c.args.selector.now c.args.decl.now c.args.self.now c.self.inside.selectors (ap (λ (t : TableParts). t.selectors) c.self.view_is) c.requires
      c.selector_digest.result c.selector_digest.ensures c.under-with_selector.result.now c.under-with_selector.ensures.same order_key has,
)
