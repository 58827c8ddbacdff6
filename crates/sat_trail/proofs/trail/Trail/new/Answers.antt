use Rattle.std.proofs.Common.{◌≡◌, ℕ, ◌+◌, ◌≤◌, ◌^◌, Option, None, Some, true, false, List, [], length, replicate, refl, ap, ◌∙◌, arith, rules, vec_capacity}
use Rattle.std.specs.List.{IsDistinct}
use Rattle.std.proofs.lemmas.List.{length-replicate, get_or-replicate}
use Rattle.std.proofs.lemmas.Option.{slice_get-get_or, get_or_from_slice_get}
use Rattle.sat_trail.specs.declared.entry.Entry.{Entry}
use Rattle.sat_trail.specs.Places.{IsTrailInside}
use Rattle.sat_trail.proofs.trail.Trail.new.Goals as goal

empty : (vars capacity : ℕ) (es : List Entry) (places : List (Option ℕ)) → vars ≤ 2 ^ 30 → vars ≤ capacity → es ≡ [] → places ≡ replicate (vars + vars) None → IsTrailInside (record { vars = vars; level = 0; entries = es }) capacity places
unfolding IsDistinct
empty vars capacity es places s r e p =
    let none : List (Option ℕ) = replicate (vars + vars) None in
    let size : length none ≡ vars + vars = length-replicate (vars + vars) None in
    rw (e, p) (record {
      trail = record { small = s; in_range = refl; distinct = tt; rise = refl };
      table = size;
      placed = λ i b. slice_get-get_or none i None b ∙ ap Some (get_or-replicate (vars + vars) i None None (omega arith));
      room = r;
    })

pub invariant_of-result : goal.invariant_of-result
invariant_of-result c =
    let nones : c.in_ok-places.places.items ≡ replicate (c.args.vars + c.args.vars) None = search rules in (
      empty c.args.vars (vec_capacity c.in_ok-entries.entries) c.in_ok-entries.entries.items c.in_ok-places.places.items c.requires (omega (arith, c.in_ok-entries.ensures.exact)) c.in_ok-entries.ensures.items nones,
      record {
        table = c.in_ok-heap.ensures.size;
        in_heap = λ v b o. get_or_from_slice_get c.in_ok-heap.heap.is_in v true false (c.in_ok-heap.ensures.is_in v b);
      },
    )
