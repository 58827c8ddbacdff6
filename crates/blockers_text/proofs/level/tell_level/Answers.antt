use Rattle.std.proofs.Common.{List, ◌++◌, length, sym, ap, subst, ◌∙◌}
use Rattle.std.specs.List.{AllByRecursion}
use Rattle.blockers_text.proofs.Answered.{grows_on, later_itself}
use Rattle.blockers_text.proofs.Planning.{blocked_save, each_saves, steps_in}
use Rattle.blockers_text.proofs.Tallied.{counted_length}
use Rattle.blockers_text.proofs.Telling.{tells_level}
use Rattle.blockers_text.proofs.level.tell_level.Goals as goal
use Rattle.blockers_text.specs.Later.{seen}
use Rattle.blockers_text.specs.declared.tally.Tally.{Tally}
use Rattle.blockers_text.specs.Levels.{CountsSteps, level_of}
use Rattle.blockers_text.specs.Lines.{ranked_with}
use Rattle.merge_plan.specs.Blocked.{BlockedStep}
use Rattle.step_candidates.specs.Saving.{IsSavingStep}

pub count_steps-requires-clause-saving : goal.count_steps-requires-clause-saving
count_steps-requires-clause-saving c =
    subst (AllByRecursion (λ (b : BlockedStep). IsSavingStep c.args.level.now.source.now c.in_ok-found.found.sheet.items b.0)) (sym c.deref.ensures.value)
    (each_saves c.plan_level.new.pairs.answers c.args.level.now.source.now c.in_ok-found.found.sheet.items c.in_ok-found.found.blocked.items c.in_ok-found.ensures.blocked)

pub tell_items-requires-clause-sound : goal.tell_items-requires-clause-sound
tell_items-requires-clause-sound c = c.in_ok-found.ensures.plannable.sound

pub tell_items-requires-clause-many : goal.tell_items-requires-clause-many
tell_items-requires-clause-many c =
    let q = c.count_steps.new.pairs in
    ap length c.deref-2.ensures.value
    ∙ counted_length (seen q) c.args.level.now.source.now c.in_ok-found.found.sheet.items _ _ _ c.in_ok-tallies.tallies.items (c.in_ok-tallies.ensures.counts (seen q) (later_itself q c.are_true.ensures))

pub returns-in_err-tallies-clause-grows : goal.returns-in_err-tallies-clause-grows
returns-in_err-tallies-clause-grows c = grows_on c.args.pairs.now c.plan_level.new.pairs c.count_steps.new.pairs c.plan_level.ensures.grows c.count_steps.ensures.grows

pub returns-in_err-tell_items-clause-grows : goal.returns-in_err-tell_items-clause-grows
returns-in_err-tell_items-clause-grows c = grows_on c.args.pairs.now c.plan_level.new.pairs c.count_steps.new.pairs c.plan_level.ensures.grows c.count_steps.ensures.grows

pub returns-clause-grows : goal.returns-clause-grows
returns-clause-grows c = grows_on c.args.pairs.now c.plan_level.new.pairs c.count_steps.new.pairs c.plan_level.ensures.grows c.count_steps.ensures.grows

pub returns-clause-tells : goal.returns-clause-tells
returns-clause-tells c = λ later is.
    let p = c.plan_level.new.pairs in
    let text = c.args.lines.now.text.now in
    let level = level_of c.args.level.now in
    let found = c.in_ok-found.found in
    let blocked = found.blocked.items in
    let steps = c.args.told.now.weighed.items in
    let more = c.count_steps.new.steps.items in
    let tallies = c.in_ok-tallies.tallies.items in
    let ranked = c.args.told.now.ranked.items in
    tells_level (seen p) later text level found.sheet.items found.taken (steps_in blocked) steps more tallies ranked c.tell_items.new.ranked.items
    (λ a h. is.among a (c.count_steps.ensures.grows.among a h)) c.in_ok-found.ensures.leads c.in_ok-found.ensures.done (blocked_save p.answers level.source found.sheet.items blocked c.in_ok-found.ensures.blocked)
    (subst (λ (bs : List BlockedStep). CountsSteps later level.source found.sheet.items (steps_in bs) steps more tallies) c.deref.ensures.value (c.in_ok-tallies.ensures.counts later is))
    (c.in_ok-tell_items.ensures
    ∙ ap (λ (ts : List Tally). ranked ++ ranked_with (record { text = text; start = level.start; source = level.source; items = found.sheet.items }) ts) c.deref-2.ensures.value)
