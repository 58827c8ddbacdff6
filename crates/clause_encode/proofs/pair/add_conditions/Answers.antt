use Rattle.std.proofs.Common.{ap, arith, length, ◌∙◌, ◌≡◌}
use Rattle.clause_encode.proofs.Whole.{path_whole, rooms}
use Rattle.clause_encode.proofs.pair.add_conditions.Goals as goal
use Rattle.clause_encode.specs.Fits.{is_fit}
use Rattle.formula_laws.specs.Allowed.{allowed_by}
use Rattle.formula_laws.specs.Formula.{names_of, with_numbers, with_path, with_refusals, with_root, with_tests}

pub add_numbers-requires-clause-room : goal.add_numbers-requires-clause-room
add_numbers-requires-clause-room c =
    let r = rooms c.args.left.now c.args.right.now (allowed_by (is_fit (length c.args.left.now.links) (length c.args.right.now.links) c.args.fits.now) c.args.left.now c.args.right.now) (names_of c.args.g.left c.args.g.right c.args.g.digits) c.args.f.now _ c.requires.room in
    let path : c.add_path.new.f ≡ with_path c.args.left.now c.args.right.now c.args.f.now = (c.in_ok-add_path.ensures ∙ path_whole c.args.left.now c.args.right.now c.args.g.left c.args.g.right c.args.f.now c.requires.left c.requires.right) in
    rw path r.numbers

pub add_root-requires-clause-in_range : goal.add_root-requires-clause-in_range
add_root-requires-clause-in_range c =
    let r = rooms c.args.left.now c.args.right.now (allowed_by (is_fit (length c.args.left.now.links) (length c.args.right.now.links) c.args.fits.now) c.args.left.now c.args.right.now) (names_of c.args.g.left c.args.g.right c.args.g.digits) c.args.f.now _ c.requires.room in
    let path : c.add_path.new.f ≡ with_path c.args.left.now c.args.right.now c.args.f.now = (c.in_ok-add_path.ensures ∙ path_whole c.args.left.now c.args.right.now c.args.g.left c.args.g.right c.args.f.now c.requires.left c.requires.right) in
    rw (c.in_ok-add_numbers.ensures, path) (omega (arith, r.numbers_more, c.requires.in_range))

pub add_tests-requires-clause-in_range : goal.add_tests-requires-clause-in_range
add_tests-requires-clause-in_range c =
    let r = rooms c.args.left.now c.args.right.now (allowed_by (is_fit (length c.args.left.now.links) (length c.args.right.now.links) c.args.fits.now) c.args.left.now c.args.right.now) (names_of c.args.g.left c.args.g.right c.args.g.digits) c.args.f.now _ c.requires.room in
    let path : c.add_path.new.f ≡ with_path c.args.left.now c.args.right.now c.args.f.now = (c.in_ok-add_path.ensures ∙ path_whole c.args.left.now c.args.right.now c.args.g.left c.args.g.right c.args.f.now c.requires.left c.requires.right) in
    rw (c.in_ok-add_root.ensures.formula, c.in_ok-add_numbers.ensures, path) (omega (arith, r.root_more, c.requires.in_range))

pub add_tests-requires-clause-room : goal.add_tests-requires-clause-room
add_tests-requires-clause-room c =
    let r = rooms c.args.left.now c.args.right.now (allowed_by (is_fit (length c.args.left.now.links) (length c.args.right.now.links) c.args.fits.now) c.args.left.now c.args.right.now) (names_of c.args.g.left c.args.g.right c.args.g.digits) c.args.f.now _ c.requires.room in
    let path : c.add_path.new.f ≡ with_path c.args.left.now c.args.right.now c.args.f.now = (c.in_ok-add_path.ensures ∙ path_whole c.args.left.now c.args.right.now c.args.g.left c.args.g.right c.args.f.now c.requires.left c.requires.right) in
    rw (c.in_ok-add_root.ensures.formula, c.in_ok-add_numbers.ensures, path) r.tests

pub add_refusals-requires-clause-in_range : goal.add_refusals-requires-clause-in_range
add_refusals-requires-clause-in_range c =
    let r = rooms c.args.left.now c.args.right.now (allowed_by (is_fit (length c.args.left.now.links) (length c.args.right.now.links) c.args.fits.now) c.args.left.now c.args.right.now) (names_of c.args.g.left c.args.g.right c.args.g.digits) c.args.f.now _ c.requires.room in
    let path : c.add_path.new.f ≡ with_path c.args.left.now c.args.right.now c.args.f.now = (c.in_ok-add_path.ensures ∙ path_whole c.args.left.now c.args.right.now c.args.g.left c.args.g.right c.args.f.now c.requires.left c.requires.right) in
    rw (c.in_ok-add_tests.ensures, c.in_ok-add_root.ensures.formula, c.in_ok-add_numbers.ensures, path) (omega (arith, r.tests_more, c.requires.in_range))

pub returns : goal.returns
returns c =
    let path : c.add_path.new.f ≡ with_path c.args.left.now c.args.right.now c.args.f.now = (c.in_ok-add_path.ensures ∙ path_whole c.args.left.now c.args.right.now c.args.g.left c.args.g.right c.args.f.now c.requires.left c.requires.right) in
    let names = names_of c.args.g.left c.args.g.right c.args.g.digits in
    c.in_ok-add_refusals.ensures
    ∙ ap (λ f. with_refusals c.args.left.now c.args.right.now (allowed_by (is_fit (length c.args.left.now.links) (length c.args.right.now.links) c.args.fits.now) c.args.left.now c.args.right.now) f)
    (c.in_ok-add_tests.ensures
    ∙ ap (λ f. with_tests c.args.left.now c.args.right.now names f)
    (c.in_ok-add_root.ensures.formula ∙ ap (λ f. with_root c.args.left.now c.args.right.now names f) (c.in_ok-add_numbers.ensures ∙ ap (λ f. with_numbers c.args.left.now c.args.right.now names f) path)))
