-- Formulas that grow by variables and clauses.
use Rattle.std.proofs.Common.{◌≡◌, ◌+◌, ℕ, Bool, false, IsTrue, List, [], ◌∷◌, ◌++◌, length, refl, sym, ap, ◌∙◌, arith}
use Rattle.std.specs.List.{list_all}
use Rattle.std.proofs.lemmas.List.{append_assoc, append-nil, get_or_at, length-append}
use Rattle.cnf.specs.declared.lit.Lit.{Lit}
use Rattle.cnf.specs.Cnf.{Cnf, is_in_range}
use Rattle.cnf.specs.Gates.{Extends}
use Rattle.cnf.specs.Lits.{positive, are_below}
use Rattle.cnf.specs.Values.{value, holds, all_hold}
use Rattle.cnf.proofs.LitLemmas.{value-positive, all_hold-values, list_all-append-from, list_all-append-parts, all_below-mono}

pub Extends-refl : (f : Cnf) → IsTrue (is_in_range f) → Extends f f
Extends-refl f r = record {
  more_vars = omega arith;
  kept = ([], sym (append-nil f.clauses));
  in_range = r;
  extendable =
      λ vs s. (
        [],
        record {
          one_each = ap length (append-nil vs) ∙ s.one_each;
          each_holds = rw append-nil s.each_holds;
        },
      );
}

pub Extends-trans : (f g h : Cnf) → Extends f g → Extends g h → Extends f h
Extends-trans f g h a b = record {
  more_vars = omega arith;
  kept = (
    a.kept.0 ++ b.kept.0,
    b.kept.1 ∙ (ap (λ cs. cs ++ b.kept.0) a.kept.1 ∙ append_assoc f.clauses a.kept.0 b.kept.0),
  );
  in_range = b.in_range;
  extendable =
      λ vs s.
      let one = a.extendable vs s in
      let two = b.extendable (vs ++ one.0) one.1 in
      (one.0 ++ two.0, rw (← append_assoc vs one.0 two.0) two.1);
}

-- the old clauses hold where the new ones do
pub kept-hold : (f g : Cnf) (vs : List Bool) → Extends f g → IsTrue (all_hold vs g.clauses) → IsTrue (all_hold vs f.clauses)
kept-hold f g vs e h =
    let k : IsTrue (all_hold vs (f.clauses ++ e.kept.0)) = rw (← e.kept.1) h in
    (list_all-append-parts (holds vs) f.clauses e.kept.0 k).0

-- n more variables, with values under which the new clauses hold
pub extends-by : (f : Cnf) (n : ℕ) (cs : List (List Lit)) → IsTrue (is_in_range f) → IsTrue (list_all (are_below (f.vars + n)) cs) → ((vs : List Bool) → length vs ≡ f.vars → (ws : List Bool) × (length ws ≡ n) × IsTrue (all_hold (vs ++ ws) cs)) → Extends f (record { vars = f.vars + n; clauses = f.clauses ++ cs })
extends-by f n cs r new give = record {
  more_vars = omega arith;
  kept = (cs, refl);
  in_range =
      list_all-append-from (are_below (f.vars + n)) f.clauses cs (all_below-mono f.vars (f.vars + n) (omega arith) f.clauses r) new;
  extendable =
      λ vs s.
      let more = give vs s.one_each in
      let inside : IsTrue (list_all (are_below (length vs)) f.clauses) = rw s.one_each r in
      let old : IsTrue (all_hold (vs ++ more.0) f.clauses) = all_hold-values vs more.0 f.clauses inside ∙ s.each_holds in (
        more.0,
        record {
          one_each = omega (arith, length-append vs more.0, s.one_each, more.1);
          each_holds = list_all-append-from (holds (vs ++ more.0)) f.clauses cs old more.2;
        },
      );
}

-- the values of fresh variables
pub value-first : (vs ws : List Bool) (b : Bool) (n : ℕ) → length vs ≡ n → value (vs ++ b ∷ ws) (positive n) ≡ b
value-first vs ws b n e = value-positive (vs ++ b ∷ ws) n ∙ get_or_at vs b ws false n e

pub value-second : (vs ws : List Bool) (a b : Bool) (n : ℕ) → length vs ≡ n → value (vs ++ a ∷ b ∷ ws) (positive (n + 1)) ≡ b
value-second vs ws a b n e =
    ap (λ us. value us (positive (n + 1))) (sym (append_assoc vs (a ∷ []) (b ∷ ws)))
    ∙ value-first (vs ++ a ∷ []) ws b (n + 1) (omega (arith, length-append vs (a ∷ [])))
