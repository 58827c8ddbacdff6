use Rattle.std.proofs.Common.{◌≡◌, true, false, [], ◌∷◌, ◌++◌, take, get_or, None, sym, ap, ◌∙◌, arith}
use Rattle.std.proofs.lemmas.Bool.{cond-true, cond-false}
use Rattle.std.proofs.lemmas.List.{append-nil}
use Rattle.cnf.specs.Lits.{variable, negation}
use Rattle.sat_trail.specs.declared.entry.Entry.{Entry}
use Rattle.sat_trail.specs.Trail.{lits}
use Rattle.sat_trail.proofs.ForCallers.{lit-at}
use Rattle.sat_core.specs.Analysis.{is_marked, marked}
use Rattle.sat_core.proofs.MarkLemmas.{marked-push}
use Rattle.sat_core.proofs.learning.collect.Goals as goal
use Rattle.sat_core.proofs.learning.collect.Goals.{then-seen-variable+in_ok-push, else-seen-variable}

pub loop-k-preserved : goal.loop-k-preserved
loop-k-preserved c =
    let d : Entry = record { lit = record { 0 = 0 }; level = 0; reason = None } in
    let e = get_or c.args.trail.now.entries c.loop-k.k d in
    let front = marked c.args.seen.now (lits (take c.loop-k.k c.args.trail.now.entries)) in
    let more = marked-push c.args.seen.now c.args.trail.now.entries c.loop-k.k d (omega (arith, c.len-k-end.ensures.value)) in
    let there = sym (lit-at c.args.trail.now.entries c.loop-k.k c.entry-lit.result d c.entry-lit.ensures.literal) in
    let same_variable : c.variable.result ≡ variable e.lit = c.variable.ensures ∙ ap variable there in
    elim c.if-seen-variable.branch [
      | then-seen-variable+in_ok-push w ↦
          let on : is_marked c.args.seen.now e.lit ≡ true = ap (λ v. get_or c.args.seen.now v false) (sym same_variable) ∙ w.if-seen-variable.true in
          ap (λ (v : _). v.items) w.clause-is
          ∙ (w.in_ok-push.ensures.items
          ∙ (ap (λ ls. ls ++ w.negation.result ∷ []) c.loop-k.invariant
          ∙ (ap (λ l. front ++ l ∷ []) (w.negation.ensures.value ∙ ap negation there)
          ∙ (ap (λ ls. front ++ ls) (sym (cond-true (is_marked c.args.seen.now e.lit) (negation e.lit ∷ []) [] on)) ∙ sym more))))
      | else-seen-variable w ↦
          let off : is_marked c.args.seen.now e.lit ≡ false = ap (λ v. get_or c.args.seen.now v false) (sym same_variable) ∙ w.if-seen-variable.false in
          ap (λ (v : _). v.items) w.clause-is
          ∙ (c.loop-k.invariant
          ∙ (sym (append-nil front)
          ∙ (ap (λ ls. front ++ ls) (sym (cond-false (is_marked c.args.seen.now e.lit) (negation e.lit ∷ []) [] off)) ∙ sym more)))
    ]
