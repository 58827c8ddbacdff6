use Rattle.std.proofs.Common.{◌≡◌, ◌<◌, ℕ, List, ◌∷◌, length, rules, sym, subst}
use Rattle.std.specs.List.{Contains}
use Rattle.std.proofs.lemmas.List.{nil_from_length}
use Rattle.list_facts.proofs.Members.{Contains-here, Contains-there}
use Rattle.planner_state.specs.Weighing.{IsWeighedAt}
use Rattle.planner_state.proofs.Members as members
use Rattle.planner_state.proofs.Weighed.{one_more, stays_on}
use Rattle.planner_state.proofs.weighing.weigh_those.Goals as goal

pub weigh_at-requires-clause-there : goal.weigh_at-requires-clause-there
weigh_at-requires-clause-there c = let split : c.rest.rest.now ≡ c.in-Some.number.now ∷ c.in-Some.behind.now = search rules in
    c.rest.invariant.there c.in-Some.number.now (subst (λ (ns : List ℕ). Contains ns c.in-Some.number.now) (sym split) (Contains-here c.in-Some.number.now c.in-Some.behind.now))

pub rest-preserved : goal.rest-preserved
rest-preserved c =
    let split : c.rest.rest.now ≡ c.in-Some.number.now ∷ c.in-Some.behind.now = search rules in
    let there : c.in-Some.number.now < length c.args.indexed.now.items = c.rest.invariant.there c.in-Some.number.now (subst (λ (ns : List ℕ). Contains ns c.in-Some.number.now) (sym split) (Contains-here c.in-Some.number.now c.in-Some.behind.now)) in
    record {
      there = λ n among. c.rest.invariant.there n (subst (λ (ns : List ℕ). Contains ns n) (sym split) (Contains-there c.in-Some.number.now c.in-Some.behind.now n among));
      weighed = members.one_more (IsWeighedAt c.args.source.now c.args.next c.args.indexed.now c.rest.weights) (IsWeighedAt c.args.source.now c.args.next c.args.indexed.now c.weigh_at.new.weights) c.args.numbers.now c.rest.rest.now c.in-Some.behind.now c.in-Some.number.now split
          (one_more c.args.source.now c.args.next c.args.indexed.now c.requires.marked c.rest.weights c.weigh_at.new.weights c.in-Some.number.now there c.in_ok-weigh_at.ensures.others c.in_ok-weigh_at.ensures.weighed) c.in_ok-weigh_at.ensures.weighed c.rest.invariant.weighed;
      stay = stays_on (λ b. b < c.args.next) c.args.weights.now c.rest.weights c.weigh_at.new.weights c.rest.invariant.stay c.in_ok-weigh_at.ensures.stay;
    }

pub returns-clause-weighed : goal.returns-clause-weighed
returns-clause-weighed c = λ n among. members.all_done (IsWeighedAt c.args.source.now c.args.next c.args.indexed.now c.rest.weights) c.args.numbers.now c.rest.rest.now (nil_from_length c.rest.rest.now (rw c.in_default.is at c.split_first.ensures.cases)) c.rest.invariant.weighed n among
