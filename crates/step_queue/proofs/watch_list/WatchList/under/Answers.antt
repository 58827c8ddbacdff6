use Rattle.std.proofs.Common.{◌≡◌, ◌++◌, List, [], rules, sym, ap, ◌∙◌, arith}
use Rattle.std.proofs.lemmas.List.{append-nil}
use Rattle.step_queue.specs.WatchLists as spec
use Rattle.step_queue.specs.declared.watch_list.Entry.{Entry}
use Rattle.step_queue.proofs.Entries.{found}
use Rattle.step_queue.proofs.watch_list.WatchList.under.Goals as goal

pub returns : goal.returns
returns c =
    let place : c.place_of-place.result ≡ spec.place_of c.args.decl = c.place_of-place.ensures.exact in
    let done : c.rest.rest ≡ [] = (rw c.in_default.is at c.next.ensures.steps).0 in
    sym (append-nil c.rest.found.items) ∙ ap (λ (es : List Entry). c.rest.found.items ++ spec.candidates_under c.args.selector c.args.decl es) (sym done) ∙ c.rest.invariant
    ∙ ap (spec.candidates_under c.args.selector c.args.decl) (c.range-rest.ensures.between (search rules))
    ∙ found c.args.selector c.args.decl c.bound-start.result c.bound-end.result c.bound-start.ensures.selector c.bound-end.ensures.selector
    (let l = c.bound-start.ensures.decl in omega (arith, l, place)) (let h = c.bound-end.ensures.decl in omega (arith, h, place)) c.self.inside.entries.keys
    ∙ ap (spec.candidates_under c.args.selector c.args.decl) c.self.view_is
