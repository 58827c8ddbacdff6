use Rattle.std.proofs.Common.{◌≡◌, ℕ, ◌-◌, ◌<◌, ◌||◌, false, IsTrue, length, set, get_or, Some, None, sym, ap, ◌∙◌, arith}
use Rattle.std.proofs.lemmas.Bool.{ltb-true}
use Rattle.std.proofs.lemmas.List.{length-set, get_or-set_same, get_or-set_other, get_or_default}
use Rattle.cnf.specs.Lits.{variable}
use Rattle.sat_trail.specs.declared.entry.Entry.{Entry}
use Rattle.sat_trail.specs.Trail.{entry_of, reason_in}
use Rattle.sat_trail.proofs.ForCallers.{below-get, lit-at}
use Rattle.sat_watch.specs.Numbered.{numbered}
use Rattle.sat_watch.proofs.ForCallers.{known-from}
use Rattle.sat_core.specs.Analysis.{is_marked, has_variable}
use Rattle.sat_core.proofs.ResolveLemmas.{reason-at}
use Rattle.sat_core.proofs.ShortenLemmas.{reason-known, resolved-further}
use Rattle.sat_core.proofs.shortening.shorten.Goals as goal

pub do_others_follow-requires-clause-known : goal.do_others_follow-requires-clause-known
do_others_follow-requires-clause-known c = reason-known c.args.arena.now c.args.trail.now.entries c.variable-var.result c.in-Some.number c.requires.sound.reasons c.in-Some.ensures

pub mark-requires-clause-known : goal.mark-requires-clause-known
mark-requires-clause-known c = reason-known c.args.arena.now c.args.trail.now.entries c.variable-var.result c.in-Some.number c.requires.sound.reasons c.in-Some.ensures

pub down-preserved-then-do_others_follow : goal.down-preserved-then-do_others_follow
down-preserved-then-do_others_follow c =
    let t = c.args.trail.now in
    let h = c.level-level.ensures.trail in
    let i = c.down.invariant in
    let k = c.down.k - 1 in
    let var = c.variable-var.result in
    let seen = c.down.seen.items in
    let with = c.mark.new.seen.items in
    let d : Entry = record { lit = record { 0 = 0 }; level = 0; reason = None } in
    let place = i.resolved.place in
    let below : k < length t.entries = omega (arith, place) in
    let v : var ≡ variable (get_or t.entries k d).lit = c.variable-var.ensures ∙ ap variable (sym (lit-at t.entries k c.entry.result d c.entry.ensures.literal)) in
    let e : Some c.in-Some.number ≡ reason_in (entry_of t.entries (variable (get_or t.entries k d).lit)) = c.in-Some.ensures ∙ ap (λ v. reason_in (entry_of t.entries v)) v in
    let r = reason-at (numbered c.args.arena.now) t k c.in-Some.number d h c.requires.sound below e in
    let same_clause = (known-from c.args.arena.now c.in-Some.number r.clause r.is_under).1 in
    let in_range = ltb-true _ t.vars (below-get t.vars t.entries k d h.in_range below) in
    let in_marks : var < length seen = omega (arith, i.size) in
    let on : IsTrue (is_marked seen (get_or t.entries k d).lit) = ap (λ v. get_or seen v false) (sym v) ∙ (get_or_default seen var false _ in_marks ∙ (sym c.index.ensures ∙ c.if-index.true)) in
    let off : get_or (set with var false) (variable (get_or t.entries k d).lit) false ≡ false = ap (λ w. get_or (set with var false) w false) (sym v) ∙ get_or-set_same with var false false (omega (arith, c.mark.ensures.size)) in
    let marks : (w : ℕ) → (w ≡ variable (get_or t.entries k d).lit → ⊥) → get_or (set with var false) w false ≡ (get_or seen w false || has_variable r.clause w) = λ w ne. get_or-set_other with var w false false (λ q. ne (q ∙ v)) ∙ (c.mark.ensures.marks w ∙ ap (λ cl. get_or seen w false || has_variable cl w) same_clause) in
    record {
      size = length-set with var false ∙ c.mark.ensures.size;
      resolved = resolved-further (numbered c.args.arena.now) t seen (set with var false) k c.args.at c.in-Some.number d h i.resolved (omega arith) on r off marks;
    }
