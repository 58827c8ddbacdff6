use Rattle.std.proofs.Common.{List, [], sym, subst, arith}
use Rattle.std.proofs.lemmas.Slice.{first_rest}
use Rattle.blockers_text.proofs.Answered.{grows_itself, grows_on, later_on}
use Rattle.blockers_text.proofs.Finding.{AreFound, all_found, found_next, no_marks, none_found}
use Rattle.blockers_text.proofs.entries.find_stopping.Goals as goal
use Rattle.blockers_text.specs.Later.{AreMarks, seen}
use Rattle.sheet_order.specs.declared.places.Reversed.{Reversed}

pub entries-init : goal.entries-init
entries-init c = record {
  grows = grows_itself c.args.pairs.now;
  marked = subst (λ (rs : List Reversed). AreMarks c.args.items.now rs c.in_ok-marks.marks.items) (sym c.new-found.ensures.items)
      (subst (AreMarks c.args.items.now []) (sym c.in_ok-marks.ensures) (no_marks c.args.items.now));
  all = λ later is. subst (λ (rs : List Reversed). AreFound later c.args.items.now c.args.entries.now rs c.args.entries.now) (sym c.new-found.ensures.items) (none_found later c.args.items.now c.args.entries.now);
}

pub returns-in_err-add_entry-clause-grows : goal.returns-in_err-add_entry-clause-grows
returns-in_err-add_entry-clause-grows c = grows_on c.args.pairs.now c.entries.pairs c.add_entry.new.pairs c.entries.invariant.grows c.add_entry.ensures.grows

pub entries-preserved : goal.entries-preserved
entries-preserved c =
    let p = c.entries.pairs in
    let q = c.add_entry.new.pairs in
    record {
      grows = grows_on c.args.pairs.now p q c.entries.invariant.grows c.add_entry.ensures.grows;
      marked = c.in_ok-add_entry.ensures.marked;
      all = λ later is. found_next later c.args.items.now c.args.entries.now c.entries.found.items c.add_entry.new.found.items c.entries.rest.now _ _
          (c.entries.invariant.all later (later_on (seen p) (seen q) later c.add_entry.ensures.grows.among is)) (first_rest c.entries.rest.now _ c.in-len1-up.len_at_least) (c.in_ok-add_entry.ensures.adds later is);
    }

pub returns-clause-tells : goal.returns-clause-tells
returns-clause-tells c = λ later is.
    let below = c.in_default.len_below in
    all_found later c.args.items.now c.args.entries.now c.entries.found.items c.entries.rest.now (c.entries.invariant.all later is) (omega (arith, below))
