use Rattle.std.proofs.Common.{refl}
use Rattle.std.proofs.lemmas.Bool.{false≢true}
use Rattle.pending_laws.specs.declared.way.Way.TheVariants.{Up, Down}
use Rattle.step_laws.specs.declared.step.Step.TheVariants.{JoinSelUp, JoinSelDown}
use Rattle.next_step.proofs.Alike.{selector_joins_alike}
use Rattle.next_step.proofs.Later.{late_covers}
use Rattle.next_step.proofs.Looking.{no_step}
use Rattle.next_step.proofs.by_selectors.try_selector_joins.Goals as goal

pub returns-then-selectors_differ-clause-up : goal.returns-then-selectors_differ-clause-up
returns-then-selectors_differ-clause-up c =
    no_step c.args.view.now c.args.found.now (JoinSelUp c.args.partners.now.upper c.args.partners.now.lower) (c.selectors_differ.ensures c.if-selectors_differ.true)

pub returns-then-selectors_differ-clause-down : goal.returns-then-selectors_differ-clause-down
returns-then-selectors_differ-clause-down c =
    no_step c.args.view.now c.args.found.now (JoinSelDown c.args.partners.now.upper c.args.partners.now.lower)
    (λ has. c.selectors_differ.ensures c.if-selectors_differ.true ((selector_joins_alike c.args.view.now.indexed.now.items c.args.partners.now.upper c.args.partners.now.lower).1 has))

pub try_both-requires-clause-alike : goal.try_both-requires-clause-alike
try_both-requires-clause-alike c = selector_joins_alike c.args.view.now.indexed.now.items c.args.partners.now.upper c.args.partners.now.lower

pub try_both-requires-clause-first : goal.try_both-requires-clause-first
try_both-requires-clause-first c = record {
  once = λ known. tt;
  apart = λ known. absurd (false≢true known);
  past = λ known. (Up, (tt, c.requires.past_up known, refl));
}

pub try_both-requires-clause-second : goal.try_both-requires-clause-second
try_both-requires-clause-second c = record {
  once = λ known. tt;
  apart = λ known. absurd (false≢true known);
  past = λ known. (Down, (tt, c.requires.past_down known, refl));
}

pub returns-then-selector_joins_are_late-clause-up : goal.returns-then-selector_joins_are_late-clause-up
returns-then-selector_joins_are_late-clause-up c =
    late_covers c.args.view.now c.args.found.now (JoinSelUp c.args.partners.now.upper c.args.partners.now.lower) (c.selector_joins_are_late.ensures.up c.if-selector_joins_are_late.true)

pub returns-then-selector_joins_are_late-clause-down : goal.returns-then-selector_joins_are_late-clause-down
returns-then-selector_joins_are_late-clause-down c =
    late_covers c.args.view.now c.args.found.now (JoinSelDown c.args.partners.now.upper c.args.partners.now.lower) (c.selector_joins_are_late.ensures.down c.if-selector_joins_are_late.true)
