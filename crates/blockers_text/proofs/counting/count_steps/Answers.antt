use Rattle.std.proofs.Common.{ℕ, length, replicate, ap, subst, ◌∙◌, arith}
use Rattle.std.specs.List.{AllByRecursion}
use Rattle.std.proofs.lemmas.Slice.{first_rest}
use Rattle.blockers_text.proofs.Answered.{grows_itself, grows_on}
use Rattle.blockers_text.proofs.Planning.{counted_all, counted_none, counted_on, counted_small}
use Rattle.blockers_text.proofs.counting.count_steps.Goals as goal
use Rattle.blockers_text.specs.Tallies.{no_tally}
use Rattle.merge_plan.specs.Blocked.{BlockedStep}
use Rattle.step_candidates.specs.Saving.{IsSavingStep}

pub steps-init : goal.steps-init
steps-init c = record {
  grows = grows_itself c.args.pairs.now;
  saving = c.requires.saving;
  counts = counted_none c.args.source.now c.args.sheet.now.items c.args.pairs.now c.args.blocked.now c.args.steps.now.items c.in_ok-tallies.tallies.items
      (c.in_ok-tallies.ensures ∙ ap (λ (n : ℕ). replicate n no_tally) (ap length c.items_of.ensures));
}

pub count_one-requires-clause-saves : goal.count_one-requires-clause-saves
count_one-requires-clause-saves c =
    (subst (AllByRecursion (λ (b : BlockedStep). IsSavingStep c.args.source.now c.args.sheet.now.items b.0)) (first_rest c.steps.rest.now _ c.in-len1-up.len_at_least) c.steps.invariant.saving).0

pub count_one-requires-clause-small : goal.count_one-requires-clause-small
count_one-requires-clause-small c =
    counted_small c.args.source.now c.args.sheet.now.items c.steps.pairs c.args.blocked.now c.steps.rest.now c.args.steps.now.items c.steps.steps.items c.steps.tallies.items
    c.requires.plannable.short c.are_true.ensures (omega arith) c.steps.invariant.counts

pub returns-in_err-count_one-clause-grows : goal.returns-in_err-count_one-clause-grows
returns-in_err-count_one-clause-grows c = grows_on c.args.pairs.now c.steps.pairs c.count_one.new.pairs c.steps.invariant.grows c.count_one.ensures.grows

pub steps-preserved : goal.steps-preserved
steps-preserved c =
    let p = c.steps.pairs in
    let q = c.count_one.new.pairs in
    let cut = first_rest c.steps.rest.now _ c.in-len1-up.len_at_least in
    record {
      grows = grows_on c.args.pairs.now p q c.steps.invariant.grows c.count_one.ensures.grows;
      saving = (subst (AllByRecursion (λ (b : BlockedStep). IsSavingStep c.args.source.now c.args.sheet.now.items b.0)) cut c.steps.invariant.saving).1;
      counts = counted_on c.args.source.now c.args.sheet.now.items p q c.count_one.ensures.grows c.args.blocked.now c.steps.rest.now _ _ c.args.steps.now.items c.steps.steps.items c.count_one.new.steps.items
          c.steps.tallies.items c.count_one.new.tallies.items cut c.steps.invariant.counts c.in_ok-count_one.ensures.counts;
    }

pub returns-clause-counts : goal.returns-clause-counts
returns-clause-counts c = λ later is.
    let below = c.in_default.len_below in
    counted_all c.args.source.now c.args.sheet.now.items c.steps.pairs c.args.blocked.now c.steps.rest.now c.args.steps.now.items c.steps.steps.items c.steps.tallies.items (omega (arith, below)) c.steps.invariant.counts later is
