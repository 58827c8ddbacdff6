use Rattle.std.proofs.Common.{◌≡◌, ℕ, ◌+◌, ◌-◌, ◌<◌, length, take, None, get_or, subst, sym, ◌∙◌, arith}
use Rattle.std.proofs.lemmas.List.{length-set}
use Rattle.std.proofs.lemmas.Option.{slice_get-get_or}
use Rattle.sat_trail.specs.declared.entry.Entry.{Entry}
use Rattle.sat_trail.specs.Places.{IsPlaced}
use Rattle.sat_trail.specs.Trail.{up_to}
use Rattle.sat_trail.proofs.LevelLemmas.{up_to-take, up_to-last}
use Rattle.sat_trail.proofs.PlaceLemmas.{table-pop}
use Rattle.sat_trail.proofs.places.forget_above.Goals as goal

pub loop-kept-preserved : goal.loop-kept-preserved
loop-kept-preserved c =
    let k = c.loop-kept.kept - 1 in
    let d : Entry = record { lit = record { 0 = 0 }; level = 0; reason = None } in
    let es = c.args.entries.now in
    let e : c.loop-kept.kept ≡ k + 1 = omega arith in
    let P : ℕ → Type 0 = λ n. IsPlaced (take n es) c.loop-kept.places.items in
    let below : k < length es = omega arith in
    let in_table = c.requires.in_table k (get_or es k d) (slice_get-get_or es k d below) in
    record {
      bound = omega arith;
      kept = sym (up_to-take 0 es c.requires.rise.0 c.args.level k d c.requires.rise.1 below c.if-entries-kept.true);
      placed =
          table-pop es c.loop-kept.places.items k d c.requires.distinct below (omega (arith, c.loop-kept.invariant.size)) (subst P e c.loop-kept.invariant.placed);
      size = length-set c.loop-kept.places.items _ None ∙ c.loop-kept.invariant.size;
    }

pub returns-else-entries-kept-clause-kept : goal.returns-else-entries-kept-clause-kept
returns-else-entries-kept-clause-kept c =
    let k = c.loop-kept.kept - 1 in
    let d : Entry = record { lit = record { 0 = 0 }; level = 0; reason = None } in
    let es = c.args.entries.now in
    let e : k + 1 ≡ c.loop-kept.kept = omega arith in
    let P : ℕ → Type 0 = λ n. up_to c.args.level (take n es) ≡ take n es in
    let last = up_to-last 0 es c.requires.rise.0 c.args.level k d c.requires.rise.1 (omega arith) c.if-entries-kept.false in
    sym (subst P e last) ∙ c.loop-kept.invariant.kept
