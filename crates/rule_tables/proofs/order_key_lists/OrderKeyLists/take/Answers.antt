use Rattle.std.proofs.Common.{◌≡◌, ◌∙◌, List, [], ◌∷◌, Some, None, IsSome, cond, nat_eq, refl, ap, sym, subst}
use Rattle.std.specs.Map.{lookup}
use Rattle.rule_tables.specs.declared.entries.Entry.{Entry}
use Rattle.rule_tables.specs.Entries.{TakesOut, entries_of}
use Rattle.rule_tables.proofs.ListedEntries.{Lists, ChangesAt, cond_twice, none_among, takes_at, takes_none}
use Rattle.rule_tables.proofs.order_key_lists.OrderKeyLists.take.Goals.{in-Some+in-Heap-1, in-Some+in-Inline-1, in-None-1}
use Rattle.rule_tables.proofs.order_key_lists.OrderKeyLists.take.Goals as goal

pub returns-in_default : goal.returns-in_default
returns-in_default c =
    let old : Lists = c.self.inside.lists.entries in
    let was : c.get_mut.follows.lender-at-none.entries ≡ old = ap (λ m. m.entries) c.get_mut.follows.holds-at-none in
    subst (λ (es : List Entry). TakesOut es (c.args.entry ∷ []) (entries_of c.get_mut.follows.lender-at-none.entries)) c.self.view_is
    (subst (λ (lists : Lists). TakesOut (entries_of old) (c.args.entry ∷ []) (entries_of lists)) (sym was)
    (takes_none old c.self.invariant c.args.entry.digest c.args.entry.order_key (sym c.in_default.ensures.value)))

pub returns-then-is_empty : goal.returns-then-is_empty
returns-then-is_empty c =
    let old : Lists = c.self.inside.lists.entries in
    let between : Lists = (c.get_mut.follows.lender c.take.new.self).entries in
    let new : Lists = c.remove.new.self.entries in
    let holds = c.get_mut.follows.holds c.take.new.self in
    let first : ChangesAt c.args.entry.digest (Some c.take.new.self) old between = (holds.3 (subst IsSome c.in-Some.ensures.value refl)).0 in
    let second : ChangesAt c.args.entry.digest None between new = c.remove.ensures.updates.0 in
    let changes : ChangesAt c.args.entry.digest None old new =
    λ q. second q ∙ ap (cond (nat_eq c.args.entry.digest q) None) (first q) ∙ cond_twice (nat_eq c.args.entry.digest q) None (Some c.take.new.self) (lookup (nat_eq q) old) in
    let is : c.match-remove.self ≡ entries_of new = elim c.match-remove.branch [ in-Some+in-Heap-1 w ↦ w.self-is | in-Some+in-Inline-1 w ↦ w.self-is | in-None-1 w ↦ w.self-is ] in
    subst (TakesOut c.args.self.now (c.args.entry ∷ [])) (sym is)
    (subst (λ (es : List Entry). TakesOut es (c.args.entry ∷ []) (entries_of new)) c.self.view_is
    (takes_at old new c.self.invariant c.remove.ensures.unique c.args.entry.digest c.args.entry.order_key (Some c.in-Some.list.now) None (sym c.in-Some.ensures.value) changes
    (none_among c.take.new.self c.in-Some.list.now c.args.entry.order_key (c.is_empty.ensures.0 c.if-is_empty.true) c.take.ensures)))

pub returns-else-is_empty : goal.returns-else-is_empty
returns-else-is_empty c =
    let old : Lists = c.self.inside.lists.entries in
    let new : Lists = (c.get_mut.follows.lender c.take.new.self).entries in
    let holds = c.get_mut.follows.holds c.take.new.self in
    let changes : ChangesAt c.args.entry.digest (Some c.take.new.self) old new = (holds.3 (subst IsSome c.in-Some.ensures.value refl)).0 in
    subst (λ (es : List Entry). TakesOut es (c.args.entry ∷ []) (entries_of new)) c.self.view_is
    (takes_at old new c.self.invariant holds.4 c.args.entry.digest c.args.entry.order_key (Some c.in-Some.list.now) (Some c.take.new.self) (sym c.in-Some.ensures.value) changes c.take.ensures)
