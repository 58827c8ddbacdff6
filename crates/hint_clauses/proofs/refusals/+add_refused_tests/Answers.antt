use Rattle.std.proofs.Common.{rules}
use Rattle.hint_clauses.proofs.Failing.{below_stays, others_brief, others_room, test_stays, tests_room}
use Rattle.hint_clauses.proofs.refusals.+add_refused_tests.Goals as goal

pub add_refused_test-requires-clause-room : goal.add_refused_test-requires-clause-room
add_refused_test-requires-clause-room t c = tests_room c.args.run.now c.args.far c.args.number.now c.args.others.now c.args.tests.now _ c.args.f.now _ c.in-len1-up.len_at_least c.requires.room

pub add_refused_tests-requires : goal.add_refused_tests-requires
add_refused_tests-requires t c = (
  search rules,
  (
    others_brief c.args.tests.now c.requires.brief,
    (
      c.requires.far,
      (
        c.requires.near,
        (
          test_stays c.args.run.now c.args.far _ c.args.number.now c.args.others.now _ c.args.f.now _ c.in_ok-add_refused_test-in-len1-up.ensures c.requires.in_range,
          (
            below_stays c.args.run.now c.args.far c.args.number.now c.args.others.now _ _ c.args.f.now _ c.in_ok-add_refused_test-in-len1-up.ensures c.requires.number,
            (
              below_stays c.args.run.now c.args.far c.args.number.now c.args.others.now _ _ c.args.f.now _ c.in_ok-add_refused_test-in-len1-up.ensures c.requires.others,
              (others_room c.args.run.now c.args.far c.args.number.now c.args.others.now c.args.tests.now _ c.args.f.now _ _ c.in-len1-up.len_at_least c.in_ok-add_refused_test-in-len1-up.ensures c.requires.room),
            ),
          ),
        ),
      ),
    ),
  ),
)
