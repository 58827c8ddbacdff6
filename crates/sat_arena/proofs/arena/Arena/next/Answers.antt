use Rattle.std.proofs.Common.{◌≡◌, ◌<◌, cond, eqb, Some, None, length, get_or, ap, ◌∙◌}
use Rattle.std.specs.List.{Contains}
use Rattle.std.proofs.lemmas.List.{get_or_default}
use Rattle.sat_arena.specs.Arena.{watch_list}
use Rattle.sat_arena.specs.Links.{slot, link}
use Rattle.sat_arena.specs.Words.{watched_clauses}
use Rattle.sat_arena.proofs.ReadLemmas.{below-number, member-inside, next-is}
use Rattle.sat_arena.proofs.arena.Arena.next.Goals as goal

pub slot-requires : goal.slot-requires
slot-requires c =
    let a = c.self.inside in
    let below = below-number a.vars c.args.lit (rw (← c.self.view_is) at c.requires.in_range) in
    let member : Contains (watch_list (watched_clauses a.vars a.words.items a.firsts.items a.starts.items) c.args.lit) c.args.clause = rw (← c.self.view_is) at c.requires.member in
    rw c.deref.ensures.value (member-inside a.vars a.words.items a.firsts.items a.starts.items c.args.lit.0 c.args.clause c.self.invariant below member)

pub returns : goal.returns
returns c =
    let a = c.self.inside in
    let below = below-number a.vars c.args.lit (rw (← c.self.view_is) at c.requires.in_range) in
    let member : Contains (watch_list (watched_clauses a.vars a.words.items a.firsts.items a.starts.items) c.args.lit) c.args.clause = rw (← c.self.view_is) at c.requires.member in
    let place : c.slot.result ≡ slot a.words.items c.args.lit.0 c.args.clause = rw c.deref.ensures.value at c.slot.ensures.value in
    let bound : c.slot.result < length a.words.items = rw c.deref.ensures.value at c.slot.ensures.bound in
    let word : c.index.result.now ≡ link a.words.items c.args.lit.0 c.args.clause = c.index.ensures ∙ (get_or_default a.words.items c.slot.result c.index.result.now 0 bound ∙ ap (λ j. get_or a.words.items j 0) place) in
    rw (← c.self.view_is) (c.linked_index.ensures ∙ (ap (λ x. cond (eqb x 0) None (Some x)) word ∙ next-is a.vars a.words.items a.firsts.items a.starts.items c.args.lit.0 c.args.clause c.self.invariant below member))
