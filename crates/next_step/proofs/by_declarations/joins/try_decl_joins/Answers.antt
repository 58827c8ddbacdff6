use Rattle.std.proofs.Common.{refl}
use Rattle.pending_laws.specs.declared.way.Way.TheVariants.{Up, Down}
use Rattle.step_laws.specs.declared.step.Step.TheVariants.{JoinDeclUp, JoinDeclDown}
use Rattle.next_step.proofs.Alike.{decl_joins_alike}
use Rattle.next_step.proofs.Later.{late_covers}
use Rattle.next_step.proofs.Looking.{no_step}
use Rattle.next_step.proofs.by_declarations.joins.try_decl_joins.Goals as goal

pub returns-then-decls_differ-clause-up : goal.returns-then-decls_differ-clause-up
returns-then-decls_differ-clause-up c =
    no_step c.args.view.now c.args.found.now (JoinDeclUp c.args.partners.now.upper c.args.partners.now.lower) (c.decls_differ.ensures c.if-decls_differ.true)

pub returns-then-decls_differ-clause-down : goal.returns-then-decls_differ-clause-down
returns-then-decls_differ-clause-down c =
    no_step c.args.view.now c.args.found.now (JoinDeclDown c.args.partners.now.upper c.args.partners.now.lower)
    (λ has. c.decls_differ.ensures c.if-decls_differ.true ((decl_joins_alike c.args.view.now.indexed.now.items c.args.partners.now.upper c.args.partners.now.lower).1 has))

pub try_both-requires-clause-alike : goal.try_both-requires-clause-alike
try_both-requires-clause-alike c = decl_joins_alike c.args.view.now.indexed.now.items c.args.partners.now.upper c.args.partners.now.lower

pub try_both-requires-clause-first : goal.try_both-requires-clause-first
try_both-requires-clause-first c = record {
  once = λ known. tt;
  apart = c.requires.partners.apart;
  past = λ known. (Up, (tt, c.is_up_past.ensures.0 known, refl));
}

pub try_both-requires-clause-second : goal.try_both-requires-clause-second
try_both-requires-clause-second c = record {
  once = λ known. tt;
  apart = c.requires.partners.apart;
  past = λ known. (Down, (tt, c.is_down_past.ensures.0 known, refl));
}

pub returns-then-decl_joins_are_late-clause-up : goal.returns-then-decl_joins_are_late-clause-up
returns-then-decl_joins_are_late-clause-up c =
    late_covers c.args.view.now c.args.found.now (JoinDeclUp c.args.partners.now.upper c.args.partners.now.lower) (c.decl_joins_are_late.ensures.up c.if-decl_joins_are_late.true)

pub returns-then-decl_joins_are_late-clause-down : goal.returns-then-decl_joins_are_late-clause-down
returns-then-decl_joins_are_late-clause-down c =
    late_covers c.args.view.now c.args.found.now (JoinDeclDown c.args.partners.now.upper c.args.partners.now.lower) (c.decl_joins_are_late.ensures.down c.if-decl_joins_are_late.true)
