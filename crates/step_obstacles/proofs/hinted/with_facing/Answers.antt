use Rattle.std.proofs.Common.{Bool, true, ap, refl, subst, sym}
use Rattle.css_model.specs.Cascade.Order.{Pair}
use Rattle.step_obstacles.proofs.hinted.with_facing.Goals as goal
use Rattle.obstacles.specs.declared.obstacle.PairPlace.{PairPlace}
use Rattle.step_obstacles.proofs.Named.{blocks_named, in_profile, stands_as_noted}
use Rattle.step_obstacles.specs.Blocked.{IsTold}
use Rattle.step_obstacles.specs.Known.{IsNoted}
use Rattle.step_obstacles.specs.Turns.{hindrance_of}
use Rattle.window_order.specs.Places.{IsKnownPair}

pub specificity_in_profile-requires : goal.specificity_in_profile-requires
specificity_in_profile-requires c = in_profile c.args.window.now c.args.moved.now c.args.number c.args.selector.now c.requires.moved c.requires.number c.requires.askable c.args.selector.now.selector refl

pub blocks-requires-clause-profile : goal.blocks-requires-clause-profile
blocks-requires-clause-profile c =
    in_profile c.args.window.now c.args.moved.now c.args.number c.args.selector.now c.requires.moved c.requires.number c.requires.askable c.pair_of-p.result.selector (ap (λ (p : Pair). p.selector) c.pair_of-p.ensures)

pub returns-then-blocked-clause-told : goal.returns-then-blocked-clause-told
returns-then-blocked-clause-told c =
    blocks_named c.args.window.now c.args.moved.now c.args.number c.args.selector.now c.requires.moved c.requires.number c.blocks-2.new.pairs.answers c.args.facing.now c.requires.faces c.args.selector.now.selector refl
    (subst (λ (p : Pair). IsTold c.blocks-2.new.pairs.answers c.args.window.now (hindrance_of c.args.window.now.items.now c.args.facing.now p) true) c.pair_of-p.ensures
    (subst (λ (b : Bool). IsTold c.blocks-2.new.pairs.answers c.args.window.now (hindrance_of c.args.window.now.items.now c.args.facing.now c.pair_of-p.result) b) c.if-blocked.true c.in_ok-blocked.ensures.told))
    c.named.result c.named.ensures

pub blocks-requires-clause-of_p : goal.blocks-requires-clause-of_p
blocks-requires-clause-of_p c =
    subst (λ (p : Pair). IsKnownPair c.args.window.now p c.own_pair-of_p.result) (sym c.pair_of-p.ensures)
    (stands_as_noted c.args.window.now c.args.moved.now c.args.number c.args.selector.now c.requires.moved c.requires.number c.own_pair-of_p.result
    (subst (λ (place : PairPlace). IsNoted c.args.window.now place c.own_pair-of_p.result) c.place_of.ensures c.own_pair-of_p.ensures) c.args.selector.now.selector refl)

pub blocks-requires-clause-faced : goal.blocks-requires-clause-faced
blocks-requires-clause-faced c = c.own_faced-of_facing.ensures c.args.moved.now.decl.now c.requires.faces
