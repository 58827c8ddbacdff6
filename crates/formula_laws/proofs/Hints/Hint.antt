-- Parts of a formula whose clauses follow from what the parts before them say.
use Rattle.std.proofs.Common.{Bool, IsTrue, List, [], ap, arith, false, length, refl, subst, suc, sym, true, zero, ℕ, ◌++◌, ◌<◌, ◌∙◌, ◌≡◌, ◌≤◌}
use Rattle.std.proofs.lemmas.List.{append-nil, append_assoc}
use Rattle.std.specs.List.{list_all}
use Rattle.formula_laws.proofs.Items.Items.{Item}
use Rattle.formula_laws.specs.Counts.{steps_below, when}
use Rattle.cnf.proofs.ForCallers.{list_all-append-from, list_all-append-parts}
use Rattle.cnf.specs.Cnf.{Cnf, Satisfies, is_in_range}
use Rattle.cnf.specs.Gates.{Extends, with_clauses}
use Rattle.cnf.specs.Lits.{are_below}
use Rattle.cnf.specs.Values.{all_hold, holds}
use Rattle.cnf.specs.declared.lit.Lit.{Lit}

-- the clauses before a part stay in front of its own
abbrev pub Keeps : Cnf → Cnf → Type 0
Keeps f g = (more : List (List Lit)) × (g.clauses ≡ f.clauses ++ more)

-- A part that keeps the clauses before it, and that values of which P holds satisfy once they are continued.
pub record Hint (base : ℕ) (step : Cnf → Cnf) (P : List Bool → Type 0) : Type 0 where
  pub more_vars : (f : Cnf) → f.vars ≤ (step f).vars
  pub in_range : (f : Cnf) → base ≤ f.vars → IsTrue (is_in_range f) → IsTrue (is_in_range (step f))
  pub keeps : (f : Cnf) → base ≤ f.vars → IsTrue (is_in_range f) → Keeps f (step f)
  pub complete : (f : Cnf) (vs : List Bool) → base ≤ f.vars → IsTrue (is_in_range f) → Satisfies vs f → P vs → (more : List Bool) × Satisfies (vs ++ more) (step f)

-- P stays with more values
abbrev pub IsStable : ℕ → (List Bool → Type 0) → Type 0
IsStable base P = (vs more : List Bool) → base ≤ length vs → P vs → P (vs ++ more)

pub no_hint : (base : ℕ) (P : List Bool → Type 0) → Hint base (λ f. f) P
no_hint base P = record {
  more_vars = λ f. omega arith;
  in_range = λ f _ r. r;
  keeps = λ f _ _. ([], sym (append-nil f.clauses));
  complete = λ f vs _ _ s _. ([], subst (λ ws. Satisfies ws f) (sym (append-nil vs)) s);
}

keeps_trans : (f g h : Cnf) → Keeps f g → Keeps g h → Keeps f h
keeps_trans f g h (a, e) (b, e') = (a ++ b, e' ∙ ap (λ (cs : List (List Lit)). cs ++ b) e ∙ append_assoc f.clauses a b)

pub both_hints : (base : ℕ) (s t : Cnf → Cnf) (P : List Bool → Type 0) → IsStable base P → Hint base s P → Hint base t P → Hint base (λ f. t (s f)) P
both_hints base s t P stable a b = record {
  more_vars = λ f. let m = a.more_vars f in let n = b.more_vars (s f) in omega arith;
  in_range = λ f low r. b.in_range (s f) (let m = a.more_vars f in omega arith) (a.in_range f low r);
  keeps = λ f low r. keeps_trans f (s f) (t (s f)) (a.keeps f low r) (b.keeps (s f) (let m = a.more_vars f in omega arith) (a.in_range f low r));
  complete = λ f vs low r sat p.
      let one = a.complete f vs low r sat p in
      let two = b.complete (s f) (vs ++ one.0) (let m = a.more_vars f in omega arith) (a.in_range f low r) one.1 (stable vs one.0 (let e = sat.one_each in omega arith) p) in
      (one.0 ++ two.0, subst (λ ws. Satisfies ws (t (s f))) (append_assoc vs one.0 two.0) two.1);
}

pub when_hint : (base : ℕ) (b : Bool) (s : Cnf → Cnf) (P : List Bool → Type 0) → (b ≡ true → Hint base s P) → Hint base (λ f. when b s f) P
when_hint base true s P hint = hint refl
when_hint base false s P hint = no_hint base P

pub below_hint : (base n : ℕ) (step : ℕ → Cnf → Cnf) (P : List Bool → Type 0) → IsStable base P → ((k : ℕ) → k < n → Hint base (step k) P) → Hint base (λ f. steps_below n step f) P
below_hint base zero step P stable each = no_hint base P
below_hint base (suc n) step P stable each =
    both_hints base (λ f. steps_below n step f) (step n) P stable (below_hint base n step P stable (λ k less. each k (omega arith))) (each n (omega arith))

-- clauses over what a gate makes of the first variables
pub gate_hint : {A : Type 0} (base : ℕ) (gate : Cnf → Cnf × A) (cs : A → List (List Lit)) (P : List Bool → Type 0) → IsStable base P →
    ((f : Cnf) → base ≤ f.vars → IsTrue (is_in_range f) → Extends f (gate f).0) →
    ((f : Cnf) → f.vars ≤ (gate f).0.vars) →
    ((f : Cnf) → base ≤ f.vars → IsTrue (is_in_range f) → IsTrue (list_all (are_below (gate f).0.vars) (cs (gate f).1))) →
    ((f : Cnf) (vs : List Bool) → base ≤ f.vars → IsTrue (is_in_range f) → IsTrue (all_hold vs (gate f).0.clauses) → P vs → IsTrue (all_hold vs (cs (gate f).1))) →
    Hint base (λ f. with_clauses (gate f).0 (cs (gate f).1)) P
gate_hint base gate cs P stable extends grows below back = record {
  more_vars = grows;
  in_range = λ f low r. list_all-append-from (are_below (gate f).0.vars) (gate f).0.clauses (cs (gate f).1) ((extends f low r).in_range) (below f low r);
  keeps = λ f low r. keeps_trans f (gate f).0 (with_clauses (gate f).0 (cs (gate f).1)) (extends f low r).kept (cs (gate f).1, refl);
  complete = λ f vs low r sat p.
      let more = (extends f low r).extendable vs sat in (
        more.0,
        record {
          one_each = more.1.one_each;
          each_holds = list_all-append-from (holds (vs ++ more.0)) (gate f).0.clauses (cs (gate f).1) more.1.each_holds
              (back f (vs ++ more.0) low r more.1.each_holds (stable vs more.0 (let e = sat.one_each in omega arith) p));
        },
      );
}

-- so they hold where all hold
old_hold : (f g : Cnf) (vs : List Bool) → Keeps f g → IsTrue (all_hold vs g.clauses) → IsTrue (all_hold vs f.clauses)
old_hold f g vs (more, e) h = (list_all-append-parts (holds vs) f.clauses more (subst (λ cs. IsTrue (all_hold vs cs)) e h)).0

-- a part with hints behind it says no more and no less
pub with_hint : (base : ℕ) (s t : Cnf → Cnf) (P : List Bool → Type 0) → Item base s P → Hint base t P → Item base (λ f. t (s f)) P
with_hint base s t P item hint = record {
  more_vars = λ f. let m = item.more_vars f in let n = hint.more_vars (s f) in omega arith;
  in_range = λ f low r. hint.in_range (s f) (let m = item.more_vars f in omega arith) (item.in_range f low r);
  sound = λ f vs low r h. item.sound f vs low r (old_hold (s f) (t (s f)) vs (hint.keeps (s f) (let m = item.more_vars f in omega arith) (item.in_range f low r)) h);
  complete = λ f vs low r sat p.
      let one = item.complete f vs low r sat p in
      let two = hint.complete (s f) (vs ++ one.0) (let m = item.more_vars f in omega arith) (item.in_range f low r) one.1 (item.stable vs one.0 (let e = sat.one_each in omega arith) p) in
      (one.0 ++ two.0, subst (λ ws. Satisfies ws (t (s f))) (append_assoc vs one.0 two.0) two.1);
  stable = item.stable;
}
