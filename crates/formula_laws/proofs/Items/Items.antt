-- Parts of a formula that share nothing but the first variables.
use Rattle.std.proofs.Common.{Bool, IsTrue, List, [], arith, fold, length, subst, sym, ℕ, ◌++◌, ◌∙◌, ◌∷◌, ◌≤◌}
use Rattle.std.proofs.lemmas.List.{append-nil, append_assoc}
use Rattle.std.specs.List.{AllByRecursion, list_all}
use Rattle.cnf.proofs.ForCallers.{all_below-mono, all_hold-values, list_all-append-from, list_all-append-parts}
use Rattle.cnf.specs.Cnf.{Cnf, Satisfies, is_in_range}
use Rattle.cnf.specs.Gates.{Extends, with_clauses}
use Rattle.cnf.specs.Lits.{are_below}
use Rattle.cnf.specs.Values.{all_hold, holds}
use Rattle.cnf.specs.declared.lit.Lit.{Lit}

-- A part of a formula that says P of the first variables.
pub record Item (base : ℕ) (step : Cnf → Cnf) (P : List Bool → Type 0) : Type 0 where
  pub more_vars : (f : Cnf) → f.vars ≤ (step f).vars
  pub in_range : (f : Cnf) → base ≤ f.vars → IsTrue (is_in_range f) → IsTrue (is_in_range (step f))
  pub sound : (f : Cnf) (vs : List Bool) → base ≤ f.vars → IsTrue (is_in_range f) → IsTrue (all_hold vs (step f).clauses) → IsTrue (all_hold vs f.clauses) × P vs
  pub complete : (f : Cnf) (vs : List Bool) → base ≤ f.vars → IsTrue (is_in_range f) → Satisfies vs f → P vs → (more : List Bool) × Satisfies (vs ++ more) (step f)
  pub stable : (vs more : List Bool) → base ≤ length vs → P vs → P (vs ++ more)

pub no_item : (base : ℕ) → Item base (λ f. f) (λ vs. Unit {0})
no_item base = record {
  more_vars = λ f. omega arith;
  in_range = λ f _ r. r;
  sound = λ f vs _ _ h. (h, tt);
  complete = λ f vs _ _ s _. ([], subst (λ ws. Satisfies ws f) (sym (append-nil vs)) s);
  stable = λ vs more _ _. tt;
}

pub both_items : (base : ℕ) (s t : Cnf → Cnf) (P Q : List Bool → Type 0) → Item base s P → Item base t Q → Item base (λ f. t (s f)) (λ vs. P vs × Q vs)
both_items base s t P Q a b = record {
  more_vars = λ f. let m = a.more_vars f in let n = b.more_vars (s f) in omega arith;
  in_range = λ f low r. b.in_range (s f) (let m = a.more_vars f in omega arith) (a.in_range f low r);
  sound = λ f vs low r h.
      let second = b.sound (s f) vs (let m = a.more_vars f in omega arith) (a.in_range f low r) h in
      let first = a.sound f vs low r second.0 in
      (first.0, (first.1, second.1));
  complete = λ f vs low r sat p.
      let one = a.complete f vs low r sat p.0 in
      let two = b.complete (s f) (vs ++ one.0) (let m = a.more_vars f in omega arith) (a.in_range f low r) one.1 (b.stable vs one.0 (let e = sat.one_each in omega arith) p.1) in
      (one.0 ++ two.0, subst (λ ws. Satisfies ws (t (s f))) (append_assoc vs one.0 two.0) two.1);
  stable = λ vs more low p. (a.stable vs more low p.0, b.stable vs more low p.1);
}

each_item : {X : Type 0} (base : ℕ) (step : X → Cnf → Cnf) (P : X → List Bool → Type 0) → ((x : X) → Item base (step x) (P x)) → (xs : List X) →
    Item base (λ f. fold (λ g x. step x g) f xs) (λ vs. AllByRecursion (λ x. P x vs) xs)
each_item base step P each [] = no_item base
each_item base step P each (x ∷ xs) = both_items base (step x) (λ f. fold (λ g y. step y g) f xs) (P x) (λ vs. AllByRecursion (λ y. P y vs) xs) (each x) (each_item base step P each xs)

-- clauses over the first variables alone
pub clauses_item : (base : ℕ) (cs : List (List Lit)) → IsTrue (list_all (are_below base) cs) → Item base (λ f. with_clauses f cs) (λ vs. IsTrue (all_hold vs cs))
clauses_item base cs below = record {
  more_vars = λ f. omega arith;
  in_range = λ f low r. list_all-append-from (are_below f.vars) f.clauses cs r (all_below-mono base f.vars low cs below);
  sound = λ f vs low r h. list_all-append-parts (holds vs) f.clauses cs h;
  complete = λ f vs low r sat p. ([], subst (λ ws. Satisfies ws (with_clauses f cs)) (sym (append-nil vs)) (record { one_each = sat.one_each; each_holds = list_all-append-from (holds vs) f.clauses cs sat.each_holds p }));
  stable = λ vs more low p. all_hold-values vs more cs (all_below-mono base (length vs) low cs below) ∙ p;
}

-- Clauses over the first variables and what gates make of them: `gates` says what its answer means.
pub gate_item : {A : Type 0} (base : ℕ) (gate : Cnf → Cnf × A) (cs : A → List (List Lit)) (P : List Bool → Type 0) →
    ((f : Cnf) → base ≤ f.vars → IsTrue (is_in_range f) → Extends f (gate f).0) →
    ((f : Cnf) → f.vars ≤ (gate f).0.vars) →
    ((f : Cnf) → base ≤ f.vars → IsTrue (is_in_range f) → IsTrue (list_all (are_below (gate f).0.vars) (cs (gate f).1))) →
    ((f : Cnf) (vs : List Bool) → base ≤ f.vars → IsTrue (is_in_range f) → IsTrue (all_hold vs (gate f).0.clauses) → IsTrue (all_hold vs (cs (gate f).1)) → P vs) →
    ((f : Cnf) (vs : List Bool) → base ≤ f.vars → IsTrue (is_in_range f) → IsTrue (all_hold vs (gate f).0.clauses) → P vs → IsTrue (all_hold vs (cs (gate f).1))) →
    ((vs more : List Bool) → base ≤ length vs → P vs → P (vs ++ more)) →
    Item base (λ f. with_clauses (gate f).0 (cs (gate f).1)) P
gate_item base gate cs P extends grows below means back stable = record {
  more_vars = grows;
  in_range = λ f low r. list_all-append-from (are_below (gate f).0.vars) (gate f).0.clauses (cs (gate f).1) ((extends f low r).in_range) (below f low r);
  sound = λ f vs low r h.
      let parts = list_all-append-parts (holds vs) (gate f).0.clauses (cs (gate f).1) h in
      let e = extends f low r in
      let old : IsTrue (all_hold vs (f.clauses ++ e.kept.0)) = rw (← e.kept.1) parts.0 in
      ((list_all-append-parts (holds vs) f.clauses e.kept.0 old).0, means f vs low r parts.0 parts.1);
  complete = λ f vs low r sat p.
      let more = (extends f low r).extendable vs sat in (
        more.0,
        record {
          one_each = more.1.one_each;
          each_holds = list_all-append-from (holds (vs ++ more.0)) (gate f).0.clauses (cs (gate f).1) more.1.each_holds
              (back f (vs ++ more.0) low r more.1.each_holds (stable vs more.0 (let e = sat.one_each in omega arith) p));
        },
      );
  stable = stable;
}
