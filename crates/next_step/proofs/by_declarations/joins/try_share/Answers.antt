use Rattle.std.proofs.lemmas.Bool.{false≢true}
use Rattle.pending_laws.specs.declared.way.Way.TheVariants.{Down}
use Rattle.step_laws.specs.declared.step.Step.TheVariants.{Share}
use Rattle.next_step.proofs.Later.{late_covers}
use Rattle.next_step.proofs.Looking.{no_step, past_barrier}
use Rattle.next_step.proofs.by_declarations.joins.try_share.Goals as goal

pub returns-then-is_share_past-clause-covers : goal.returns-then-is_share_past-clause-covers
returns-then-is_share_past-clause-covers c =
    past_barrier c.args.view.now c.args.found.now (Share c.args.partners.now.upper c.args.partners.now.lower) (Down, c.is_share_past.ensures.0 c.if-is_share_past.true)

pub returns-then-share_no_decl-clause-covers : goal.returns-then-share_no_decl-clause-covers
returns-then-share_no_decl-clause-covers c =
    no_step c.args.view.now c.args.found.now (Share c.args.partners.now.upper c.args.partners.now.lower) (c.share_no_decl.ensures c.if-share_no_decl.true)

pub returns-then-share_is_late-clause-covers : goal.returns-then-share_is_late-clause-covers
returns-then-share_is_late-clause-covers c =
    late_covers c.args.view.now c.args.found.now (Share c.args.partners.now.upper c.args.partners.now.lower) (c.share_is_late.ensures c.if-share_is_late.true)

pub try_step-requires-clause-attempt : goal.try_step-requires-clause-attempt
try_step-requires-clause-attempt c = record {
  once = λ known. tt;
  apart = c.requires.partners.apart;
  past = λ known. absurd (false≢true known);
}
