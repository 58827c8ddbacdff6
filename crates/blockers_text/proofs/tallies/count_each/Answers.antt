use Rattle.std.proofs.Common.{◌≡◌, ◌+◌, ◌-◌, ◌<◌, ◌^◌, length, take, drop, refl, sym, subst, arith}
use Rattle.std.proofs.lemmas.Grind.{common_steps}
use Rattle.blockers_text.proofs.Counted.{all_below_more, at_below}
use Rattle.blockers_text.proofs.Planning.{length_others}
use Rattle.blockers_text.proofs.tallies.count_each.Goals as goal
use Rattle.blockers_text.specs.Bounds.{AreBelow}

pub entries-init : goal.entries-init
entries-init c = record {
  counts = refl;
  below = (2 ^ 64, refl, let few : c.requires.0 < 2 ^ 64 = c.requires.1 in all_below_more c.requires.0 (2 ^ 64) c.args.tallies.now.items (omega (arith, few)) c.requires.2);
}

pub count_at-requires : goal.count_at-requires
count_at-requires c =
    let so = c.entries.invariant.below in
    let sum : so.0 + length c.entries.rest.now ≡ 2 ^ 64 + length c.args.by.now = so.1 in
    all_below_more so.0 (2 ^ 70) c.entries.tallies.items (omega (arith, sum)) so.2

pub entries-preserved : goal.entries-preserved
entries-preserved c =
    let so = c.entries.invariant.below in
    let sum : so.0 + length c.entries.rest.now ≡ 2 ^ 64 + length c.args.by.now = so.1 in
    let shorter : length (take (length c.entries.rest.now - 1) (drop 1 c.entries.rest.now)) + 1 ≡ length c.entries.rest.now = length_others c.entries.rest.now c.in-len1-up.len_at_least in
    record {
      counts = grind (arith, common_steps);
      below = (so.0 + 1, omega (arith, sum, shorter), subst (AreBelow (so.0 + 1)) (sym c.count_at.ensures) (at_below so.0 c.entries.tallies.items _ c.args.stopped.now c.saved_of-saved.ensures.small so.2));
    }
