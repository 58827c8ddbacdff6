use Rattle.std.proofs.Common.{IsTrue, Some, List, refl, sym, ap, subst, ◌∙◌, arith}
use Rattle.cnf.specs.Lits.{negation}
use Rattle.cnf.proofs.ForCallers.{negation-twice}
use Rattle.sat_watch.specs.Nonempty.{are_nonempty}
use Rattle.sat_watch.specs.Numbered.{Numbered, clauses_of}
use Rattle.sat_watch.proofs.ShortLemmas.{rested}
use Rattle.sat_watch.proofs.StepLemmas.{longer-none, longer-trans}
use Rattle.sat_watch.proofs.propagation.propagate_entries.Goals as goal

pub visit-requires-clause-entry : goal.visit-requires-clause-entry
visit-requires-clause-entry c = c.entry.ensures.literal ∙ ap Some (sym (negation-twice c.entry.result) ∙ ap negation (sym c.negation-lit.ensures.value))

pub returns-clause-found : goal.returns-clause-found
returns-clause-found c =
    let i = c.looks.invariant in
    let P : List Numbered → Type 0 = λ ns. IsTrue (are_nonempty (clauses_of ns)) in
    rested c.looks.arena c.looks.trail c.looks.head i.ready i.short (omega (arith, i.ready.looked, c.len.ensures.value, c.looks-test.false)) (subst P (sym i.same) c.requires.nonempty)

pub looks-init : goal.looks-init
looks-init c = record {
  same = refl;
  arena_vars = refl;
  sound = c.requires.sound;
  vars = refl;
  level = refl;
  longer = longer-none c.args.trail.now;
  ready = c.requires.ready;
  short = c.requires.short;
}

pub looks-preserved : goal.looks-preserved
looks-preserved c =
    let i = c.looks.invariant in
    let v = c.visit.ensures in
    record {
      same = v.same ∙ i.same;
      arena_vars = v.arena_vars ∙ i.arena_vars;
      sound = v.sound;
      vars = v.vars ∙ i.vars;
      level = v.level ∙ i.level;
      longer = longer-trans c.args.trail.now c.looks.trail c.visit.new.trail i.longer v.longer;
      ready = c.in_default.ensures.found;
      short = v.short;
    }

pub returns-in-Some-clause-longer : goal.returns-in-Some-clause-longer
returns-in-Some-clause-longer c = longer-trans c.args.trail.now c.looks.trail c.visit.new.trail c.looks.invariant.longer c.visit.ensures.longer
