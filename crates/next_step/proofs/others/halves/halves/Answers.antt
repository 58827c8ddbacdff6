use Rattle.std.proofs.Common.{◌+◌, ◌<◌, ◌≤◌, arith}
use Rattle.std.specs.Prelude.{slice_index}
use Rattle.next_step.proofs.Halves.{before_it, behind_it, found_at, from_it, up_to_it}
use Rattle.next_step.proofs.others.halves.halves.Goals as goal

pub order_keys_before-requires-clause-before : goal.order_keys_before-requires-clause-before
order_keys_before-requires-clause-before c =
    let found = rw c.in-Ok.is at (found_at c.args.order_keys.now c.args.at c.binary_search.result c.requires c.binary_search.ensures.position) in
    before_it c.args.order_keys.now c.requires c.args.at c.in-Ok.number found.0 found.1

pub order_keys_before-requires-clause-behind : goal.order_keys_before-requires-clause-behind
order_keys_before-requires-clause-behind c =
    let found = rw c.in-Ok.is at (found_at c.args.order_keys.now c.args.at c.binary_search.result c.requires c.binary_search.ensures.position) in
    from_it c.args.order_keys.now c.requires c.args.at c.in-Ok.number found.1

pub order_keys_from-requires-clause-before : goal.order_keys_from-requires-clause-before
order_keys_from-requires-clause-before c =
    let found = rw c.in-Ok.is at (found_at c.args.order_keys.now c.args.at c.binary_search.result c.requires c.binary_search.ensures.position) in
    λ k less within. up_to_it c.args.order_keys.now c.requires c.args.at c.in-Ok.number found.0 found.1 k (let l : k < c.in-Ok.number + 1 = less in omega (arith, l))

pub order_keys_from-requires-clause-behind : goal.order_keys_from-requires-clause-behind
order_keys_from-requires-clause-behind c =
    let found = rw c.in-Ok.is at (found_at c.args.order_keys.now c.args.at c.binary_search.result c.requires c.binary_search.ensures.position) in
    λ k most within. behind_it c.args.order_keys.now c.requires c.args.at c.in-Ok.number found.1 k (let l : c.in-Ok.number + 1 ≤ k = most in omega (arith, l)) within

pub order_keys_before-requires-in-Err-clause-before : goal.order_keys_before-requires-in-Err-clause-before
order_keys_before-requires-in-Err-clause-before c =
    let found = rw c.in-Err.is at (found_at c.args.order_keys.now c.args.at c.binary_search.result c.requires c.binary_search.ensures.position) in
    found.1

pub order_keys_before-requires-in-Err-clause-behind : goal.order_keys_before-requires-in-Err-clause-behind
order_keys_before-requires-in-Err-clause-behind c =
    let found = rw c.in-Err.is at (found_at c.args.order_keys.now c.args.at c.binary_search.result c.requires c.binary_search.ensures.position) in
    λ k most within. let h : c.args.at < slice_index c.args.order_keys.now k = found.2 k most within in omega (arith, h)

pub order_keys_from-requires-in-Err-clause-before : goal.order_keys_from-requires-in-Err-clause-before
order_keys_from-requires-in-Err-clause-before c =
    let found = rw c.in-Err.is at (found_at c.args.order_keys.now c.args.at c.binary_search.result c.requires c.binary_search.ensures.position) in
    λ k less within. let h : slice_index c.args.order_keys.now k < c.args.at = found.1 k less in omega (arith, h)

pub order_keys_from-requires-in-Err-clause-behind : goal.order_keys_from-requires-in-Err-clause-behind
order_keys_from-requires-in-Err-clause-behind c =
    let found = rw c.in-Err.is at (found_at c.args.order_keys.now c.args.at c.binary_search.result c.requires c.binary_search.ensures.position) in
    found.2
