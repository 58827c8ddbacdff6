use Rattle.overlap.proofs.Keeping.{added_answers, given_err, kept_added, kept_more, kept_once, more_answers, no_places, same_later}
use Rattle.overlap.proofs.store.store.Goals as goal

pub give_places-requires : goal.give_places-requires
give_places-requires c = kept_once c.args.selectors.now.keys c.args.answers.now.entries c.requires.store

pub returns-in_err-places-clause-store : goal.returns-in_err-places-clause-store
returns-in_err-places-clause-store c = kept_added c.args.selectors.now.keys c.give_places.new.selectors.keys c.args.answers.now.entries c.requires.store c.give_places.ensures.adds

pub returns-in_err-places-clause-err : goal.returns-in_err-places-clause-err
returns-in_err-places-clause-err c = given_err c.from_residual.result (added_answers c.args.selectors.now.keys c.give_places.new.selectors.keys c.args.answers.now.entries c.requires.store c.give_places.ensures.adds)

pub put-requires : goal.put-requires
put-requires c =
    no_places c.args.selectors.now.keys c.give_places.new.selectors.keys c.args.answers.now.entries c.args.x.now c.args.y.now c.in_ok-places.places c.requires.store c.requires.unknown
    c.in_ok-places.ensures.adds c.in_ok-places.ensures.places

pub returns-clause-store : goal.returns-clause-store
returns-clause-store c =
    kept_more c.put.result c.give_places.new.selectors.keys c.args.answers.now.entries c.put.new.answers.entries c.args.x.now c.args.y.now c.in_ok-places.places c.args.answer
    (kept_added c.args.selectors.now.keys c.give_places.new.selectors.keys c.args.answers.now.entries c.requires.store c.in_ok-places.ensures.adds)
    c.in_ok-places.ensures.places c.put.ensures.ok c.put.ensures.err

pub returns-clause-ok : goal.returns-clause-ok
returns-clause-ok c =
    more_answers c.put.result c.args.selectors.now.keys c.give_places.new.selectors.keys c.args.answers.now.entries c.put.new.answers.entries c.args.x.now c.args.y.now c.in_ok-places.places c.args.answer
    c.requires.store c.in_ok-places.ensures.adds c.in_ok-places.ensures.places c.put.ensures.ok

pub returns-clause-err : goal.returns-clause-err
returns-clause-err c =
    same_later c.put.result c.args.selectors.now.keys c.give_places.new.selectors.keys c.args.answers.now.entries c.put.new.answers.entries c.requires.store c.in_ok-places.ensures.adds c.put.ensures.err
