use Rattle.std.proofs.Common.{◌≡◌, ◌∙◌, List, [], ◌∷◌, Some, None, IsSome, nat_eq, refl, ap, sym, subst}
use Rattle.std.proofs.lemmas.Map.Steps.{set_value_same}
use Rattle.std.specs.Map.{set_value}
use Rattle.rule_tables.specs.declared.entries.Entry.{Entry}
use Rattle.rule_tables.specs.Entries.{Puts, entries_of}
use Rattle.rule_tables.proofs.EntrySets.{then_err, then_ok}
use Rattle.rule_tables.proofs.ListedEntries.{Lists, ChangesAt, one_among, puts_at}
use Rattle.rule_tables.proofs.order_key_lists.OrderKeyLists.put.Goals as goal

pub returns-in-Some-clause-ok : goal.returns-in-Some-clause-ok
returns-in-Some-clause-ok c =
    let old : Lists = c.self.inside.lists.entries in
    let new : Lists = (c.get_mut.follows.lender c.put.new.self).entries in
    let holds = c.get_mut.follows.holds c.put.new.self in
    let changes : ChangesAt c.args.entry.digest (Some c.put.new.self) old new = (holds.3 (subst IsSome c.in-Some.ensures.value refl)).0 in
    let puts : Puts c.in-Some.list.now (c.args.entry.order_key ∷ []) c.put.new.self → Puts c.args.self.now (c.args.entry ∷ []) (entries_of new) =
    λ h. subst (λ (es : List Entry). Puts es (c.args.entry ∷ []) (entries_of new)) c.self.view_is
    (puts_at old new c.self.invariant holds.4 c.args.entry.digest c.args.entry.order_key (Some c.in-Some.list.now) (Some c.put.new.self) (sym c.in-Some.ensures.value) changes h) in
    then_ok c.put.result puts c.put.ensures.ok

pub returns-in-Some-clause-err : goal.returns-in-Some-clause-err
returns-in-Some-clause-err c =
    let old : Lists = c.self.inside.lists.entries in
    let new : Lists = (c.get_mut.follows.lender c.put.new.self).entries in
    let same : c.put.new.self ≡ c.in-Some.list.now → entries_of new ≡ c.args.self.now =
    λ h. ap entries_of ((c.get_mut.follows.holds c.put.new.self).0 ∙ ap (set_value (nat_eq c.args.entry.digest) old) h ∙ set_value_same (nat_eq c.args.entry.digest) old c.in-Some.list.now (sym c.in-Some.ensures.value)) ∙ c.self.view_is in
    then_err c.put.result same c.put.ensures.err

pub returns-in_ok-insert-in-None-clause-ok : goal.returns-in_ok-insert-in-None-clause-ok
returns-in_ok-insert-in-None-clause-ok c =
    let old : Lists = c.self.inside.lists.entries in
    let new : Lists = c.insert.new.self.entries in
    let was : c.get_mut.follows.lender-at-none.entries ≡ old = ap (λ m. m.entries) c.get_mut.follows.holds-at-none in
    let changes : ChangesAt c.args.entry.digest (Some c.of_one-list.result) old new =
    subst (λ (lists : Lists). ChangesAt c.args.entry.digest (Some c.of_one-list.result) lists new) was c.in_ok-insert-in-None.ensures.updates.0 in
    subst (λ (es : List Entry). Puts es (c.args.entry ∷ []) (entries_of new)) c.self.view_is
    (puts_at old new c.self.invariant c.in_ok-insert-in-None.ensures.unique c.args.entry.digest c.args.entry.order_key None (Some c.of_one-list.result) (sym c.in-None.ensures.value) changes
    (one_among c.args.entry.order_key c.of_one-list.result c.of_one-list.ensures))
