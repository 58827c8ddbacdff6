use Rattle.std.proofs.Common.{◌≡◌, suc, ◌+◌, ◌≤◌, ◌∷◌, length, rules, ap, arith}
use Rattle.std.proofs.lemmas.List.{nil_from_length}
use Rattle.std.specs.List.{Contains}
use Rattle.planner.proofs.Followed.{one_more, all_done}
use Rattle.planner.proofs.following.queue_all_alone.Goals as goal
use Rattle.step_queue.specs.Told.{alone}
use Rattle.step_queue.specs.Weights.{total}

pub rest-preserved : goal.rest-preserved
rest-preserved c =
    let is : c.rest.rest.now ≡ c.in-Some.first.now ∷ c.in-Some.behind.now = search rules in
    let more : length c.rest.rest.now ≡ suc (length c.in-Some.behind.now) = ap length is in
    let weighs : total c.queue_alone.new.queue ≤ total c.rest.queue + 1 = c.in_ok-queue_alone.ensures.weighs in
    record {
      stay = λ h among. c.queue_alone.ensures.stay h (c.rest.invariant.stay h among);
      added = one_more (λ l. Contains c.rest.queue (alone l)) (λ l. Contains c.queue_alone.new.queue (alone l)) c.args.candidates.now c.rest.rest.now c.in-Some.behind.now c.in-Some.first.now is
          (λ l among. c.queue_alone.ensures.stay (alone l) among) c.in_ok-queue_alone.ensures.added c.rest.invariant.added;
      weighs = (let before = c.rest.invariant.weighs in omega (arith, more, weighs, before));
    }

pub returns-clause-added : goal.returns-clause-added
returns-clause-added c = all_done (λ l. Contains c.rest.queue (alone l)) c.args.candidates.now c.rest.rest.now (nil_from_length c.rest.rest.now (rw c.in_default.is at c.split_first.ensures.cases)) c.rest.invariant.added
