use Rattle.std.proofs.Common.{Bool, List, ◌++◌, ◌∷◌, [], sym, subst, ◌∙◌, arith}
use Rattle.blockers_text.proofs.Answered.{later_itself}
use Rattle.blockers_text.proofs.Finding.{adds_none, adds_stop, marks_more, stops_inside}
use Rattle.blockers_text.proofs.entries.add_new.Goals as goal
use Rattle.blockers_text.specs.Later.{AddsEntry, AreMarks, TellsEntry, seen}
use Rattle.sheet_order.specs.declared.places.Reversed.{Reversed}

pub put_entry-requires : goal.put_entry-requires
put_entry-requires c =
    let p = c.entry_stops.new.pairs in
    let tells = c.in_ok-stop.ensures.tells (seen p) (later_itself p c.are_true.ensures) in
    let inside = stops_inside (seen p) c.args.items.now c.args.entry.now (tells.is ∙ c.if-stop.true) in
    let many = c.requires.marked.many in
    omega (arith, inside, many)

pub returns-in_ok-put_entry-clause-marked : goal.returns-in_ok-put_entry-clause-marked
returns-in_ok-put_entry-clause-marked c =
    let p = c.entry_stops.new.pairs in
    let items = c.args.items.now in
    let entry = c.args.entry.now in
    let found = c.args.found.now.items in
    let tells = c.in_ok-stop.ensures.tells (seen p) (later_itself p c.are_true.ensures) in
    let inside = stops_inside (seen p) items entry (tells.is ∙ c.if-stop.true) in
    subst (λ (rs : List Reversed). AreMarks items rs c.put_entry.new.marks.items) (sym c.in_ok-put_entry.ensures.put)
    (subst (λ (ms : List Bool). AreMarks items (found ++ entry ∷ []) ms) (sym c.in_ok-put_entry.ensures.marked) (marks_more items found c.args.marks.now.items entry c.requires.marked inside))

pub returns-in_ok-put_entry-clause-adds : goal.returns-in_ok-put_entry-clause-adds
returns-in_ok-put_entry-clause-adds c = λ later is.
    let items = c.args.items.now in
    let entry = c.args.entry.now in
    let found = c.args.found.now.items in
    subst (λ (rs : List Reversed). AddsEntry later items found entry rs) (sym c.in_ok-put_entry.ensures.put)
    (adds_stop later items found entry c.requires.unnamed (subst (λ (stop : Bool). TellsEntry later items entry stop) c.if-stop.true (c.in_ok-stop.ensures.tells later is)))

pub returns-else-stop-clause-adds : goal.returns-else-stop-clause-adds
returns-else-stop-clause-adds c = λ later is.
    let items = c.args.items.now in
    let entry = c.args.entry.now in
    let found = c.args.found.now.items in
    adds_none later items found entry c.requires.unnamed (subst (λ (stop : Bool). TellsEntry later items entry stop) c.if-stop.false (c.in_ok-stop.ensures.tells later is))
