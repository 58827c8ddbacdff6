use Rattle.std.proofs.Common.{subst, arith}
use Rattle.std.specs.List.{AllByRecursion}
use Rattle.blockers_text.proofs.Answered.{grows_itself, grows_on}
use Rattle.blockers_text.proofs.Planning.{cut_first}
use Rattle.blockers_text.proofs.Telling.{told_all, told_none, told_on}
use Rattle.blockers_text.proofs.lines.tell_bodies.Goals as goal
use Rattle.media_groups.specs.Laws.{IsBlockOf}

pub bodies-init : goal.bodies-init
bodies-init c = record {
  grows = grows_itself c.args.pairs.now;
  blocks = c.requires;
  told = told_none c.args.lines.now.text.now c.args.pairs.now c.args.media.now c.args.told.now;
}

pub tell_body-requires : goal.tell_body-requires
tell_body-requires c =
    (subst (AllByRecursion (IsBlockOf c.args.lines.now.text.now)) (cut_first c.bodies.rest.now c.block-item.result c.in-len1-up.len_at_least c.block-item.is) c.bodies.invariant.blocks).0

pub returns-in_err-tell_body-clause-grows : goal.returns-in_err-tell_body-clause-grows
returns-in_err-tell_body-clause-grows c = grows_on c.args.pairs.now c.bodies.pairs c.tell_body.new.pairs c.bodies.invariant.grows c.tell_body.ensures.grows

pub bodies-preserved : goal.bodies-preserved
bodies-preserved c =
    let text = c.args.lines.now.text.now in
    let p = c.bodies.pairs in
    let q = c.tell_body.new.pairs in
    let cut = cut_first c.bodies.rest.now c.block-item.result c.in-len1-up.len_at_least c.block-item.is in
    record {
      grows = grows_on c.args.pairs.now p q c.bodies.invariant.grows c.tell_body.ensures.grows;
      blocks = (subst (AllByRecursion (IsBlockOf text)) cut c.bodies.invariant.blocks).1;
      told = told_on text p q c.tell_body.ensures.grows c.args.media.now c.bodies.rest.now _ c.block-item.result c.args.told.now c.bodies.told c.tell_body.new.told cut c.bodies.invariant.told c.in_ok-tell_body.ensures.tells;
    }

pub returns-clause-tells : goal.returns-clause-tells
returns-clause-tells c = λ later is.
    let below = c.in_default.len_below in
    told_all c.args.lines.now.text.now c.bodies.pairs c.args.media.now c.bodies.rest.now c.args.told.now c.bodies.told (omega (arith, below)) c.bodies.invariant.told later is
