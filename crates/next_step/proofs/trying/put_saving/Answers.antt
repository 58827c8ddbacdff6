use Rattle.std.proofs.Common.{◌≡◌, ◌⊎◌, ◌<◌, ℕ, rules, subst}
use Rattle.step_queue.specs.declared.candidate.Candidate.{Candidate}
use Rattle.step_queue.specs.Told.{candidate_told}
use Rattle.saved_bytes.specs.Savings.{IsSaving}
use Rattle.plan_laws.specs.Cover.{IsSooner}
use Rattle.next_step.specs.Looking.{IsAmong, Keeps}
use Rattle.next_step.proofs.Looking.{later_priority, nothing_saved, put_grows}
use Rattle.next_step.proofs.Results.{on_both}
use Rattle.next_step.proofs.trying.put_saving.Goals as goal

pub returns-then-saving-eq0-clause-covers : goal.returns-then-saving-eq0-clause-covers
returns-then-saving-eq0-clause-covers c =
    nothing_saved c.args.view.now c.args.found.now c.args.step.now
    (subst (λ (m : ℕ). IsSaving c.args.view.now.source.now c.args.view.now.indexed.now.items c.args.step.now m) c.if-saving-eq0.true c.requires.saving)

pub returns-clause-grows : goal.returns-clause-grows
returns-clause-grows c =
    let some : 0 < c.args.saving = search rules in
    let later : IsSooner (candidate_told c.args.view.now.after.now).priority (candidate_told c.candidate_of-candidate.result).priority = search rules in
    on_both c.put.result (Keeps c.args.found.now c.put.new.self) ((l : Candidate) → IsAmong c.put.new.self l → IsAmong c.args.found.now l ⊎ (l ≡ c.candidate_of-candidate.result)) _
    (put_grows c.args.view.now c.args.found.now c.put.new.self c.candidate_of-candidate.result
    (later_priority c.args.view.now c.args.step.now c.args.saving c.candidate_of-candidate.result c.requires.has c.requires.beside c.requires.saving some
    c.candidate_of-candidate.ensures.priority c.candidate_of-candidate.ensures.saving c.candidate_of-candidate.ensures.owner c.candidate_of-candidate.ensures.scope later) c.put.ensures.few) c.put.ensures.keeps c.put.ensures.only
