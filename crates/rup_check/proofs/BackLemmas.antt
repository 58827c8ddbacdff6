-- What is printed is read back: there is one way to read the text of a log.
use Rattle.std.proofs.Common.{◌≡◌, ◌≢◌, ◌+◌, ◌<◌, ◌≤◌, ◌^◌, ◌⊎◌, ℕ, IsTrue, List, [], ◌∷◌, ◌++◌, length, codes, refl, sym, ap, subst, ◌∙◌, inl, inr, arith, append_assoc}
use Rattle.std.specs.List.{list_all}
use Rattle.std.specs.Prelude.{decimal}
use Rattle.std.proofs.lemmas.Bool.{and_parts}
use Rattle.cnf.specs.declared.lit.Lit.{Lit}
use Rattle.cnf.specs.Cnf.{Cnf}
use Rattle.cnf.specs.Lits.{are_below}
use Rattle.cnf.specs.Propagation.{is_consistent, is_distinct}
use Rattle.rup_check.specs.Checks.{is_step}
use Rattle.rup_check.specs.Laws.{LogsHaveNoFault, TextsAreOfOneLog}
use Rattle.rup_check.specs.Reading.{IsBadClause, IsBadHead, IsBadLine, IsBadStep, IsLog, IsLogText, NoLine, are_plain, is_plain, max_clauses, max_vars}
use Rattle.rup_check.specs.Text.{head_text, line_text, lines_text, log_text}
use Rattle.rup_check.proofs.FrontLemmas.{front-tail, head-parts, line-shorter, line-unique, number-unique}

-- ---- the first line

-- there is one way to read it
head-unique : (v w m n : ℕ) (r s : List ℕ) → v ≤ max_vars → w ≤ max_vars → m ≤ max_clauses → n ≤ max_clauses → head_text v m ++ r ≡ head_text w n ++ s → (v ≡ w) × (m ≡ n) × (r ≡ s)
head-unique v w m n r s hv hw hm hn e =
    let vars = number-unique v w 32 (codes "clauses " ++ (decimal m ++ 10 ∷ r)) (codes "clauses " ++ (decimal n ++ 10 ∷ s)) (omega arith) (omega arith) (omega arith)
    (front-tail (codes "vars ") _ _ (sym (head-parts v m r) ∙ (e ∙ head-parts w n s))) in
    let count = number-unique m n 10 r s (omega arith) (omega arith) (omega arith) (front-tail (codes "clauses ") _ _ vars.1) in
    (vars.0, count.0, count.1)

-- ---- lines

-- a line, and what follows it
line-rest : (vars : ℕ) (c d : List Lit) (r s : List ℕ) → vars ≤ max_vars → IsTrue (are_below vars c) → IsTrue (are_below vars d) → line_text c ++ r ≡ line_text d ++ s → (c ≡ d) × (r ≡ s)
line-rest vars c d r s small hc hd e =
    let same = line-unique vars c d r s small hc hd e in
    let P : List Lit → Type 0 = λ ls. line_text ls ++ r ≡ line_text d ++ s in
    (same, front-tail (line_text d) r s (subst P same e))

lines-split : (c : List Lit) (cs : List (List Lit)) (r : List ℕ) → lines_text (c ∷ cs) ++ r ≡ line_text c ++ (lines_text cs ++ r)
lines-split c cs r = append_assoc (line_text c) (lines_text cs) r

-- as many lines, and what follows them
lines-unique : (vars : ℕ) (cs ds : List (List Lit)) (r s : List ℕ) → vars ≤ max_vars → IsTrue (list_all (are_below vars) cs) → IsTrue (list_all (are_below vars) ds) → length cs ≡ length ds
    → lines_text cs ++ r ≡ lines_text ds ++ s → (cs ≡ ds) × (r ≡ s)
lines-unique vars [] [] r s small hc hd n e = (refl, e)
lines-unique vars [] (d ∷ ds) r s small hc hd n e = absurd (omega arith)
lines-unique vars (c ∷ cs) [] r s small hc hd n e = absurd (omega arith)
lines-unique vars (c ∷ cs) (d ∷ ds) r s small hc hd n e =
    let pc = and_parts (are_below vars c) (list_all (are_below vars) cs) hc in
    let pd = and_parts (are_below vars d) (list_all (are_below vars) ds) hd in
    let first = line-rest vars c d (lines_text cs ++ r) (lines_text ds ++ s) small pc.0 pd.0 (sym (lines-split c cs r) ∙ (e ∙ lines-split d ds s)) in
    let rest = lines-unique vars cs ds r s small pc.1 pd.1 (omega arith) first.1 in
    (ap (λ x. x ∷ cs) first.0 ∙ ap (λ xs. d ∷ xs) rest.0, rest.1)

-- fewer lines: behind them stands the next one
next-line : (vars : ℕ) (cs ds : List (List Lit)) (r s : List ℕ) → vars ≤ max_vars → IsTrue (list_all (are_below vars) cs) → IsTrue (list_all (are_below vars) ds) → length cs < length ds
    → lines_text cs ++ r ≡ lines_text ds ++ s → NoLine (are_below vars) r → ⊥
next-line vars cs [] r s small hc hd n e none = omega arith
next-line vars [] (d ∷ ds) r s small hc hd n e none = none d (lines_text ds ++ s) (and_parts (are_below vars d) (list_all (are_below vars) ds) hd).0 (e ∙ lines-split d ds s)
next-line vars (c ∷ cs) (d ∷ ds) r s small hc hd n e none =
    let pc = and_parts (are_below vars c) (list_all (are_below vars) cs) hc in
    let pd = and_parts (are_below vars d) (list_all (are_below vars) ds) hd in
    let first = line-rest vars c d (lines_text cs ++ r) (lines_text ds ++ s) small pc.0 pd.0 (sym (lines-split c cs r) ∙ (e ∙ lines-split d ds s)) in
    next-line vars cs ds r s small pc.1 pd.1 (omega arith) first.1 none

-- ---- steps

plain-below : (vars : ℕ) (c : List Lit) → IsTrue (is_plain vars c) → IsTrue (are_below vars c)
plain-below vars c h = (and_parts (are_below vars c) (is_consistent c) (and_parts (is_step vars c) (is_distinct c) h).0).0

-- no line is empty
line-some : (c : List Lit) (r : List ℕ) → line_text c ++ r ≡ [] → ⊥
line-some c r e = let n = line-shorter c [] r (sym e) in omega arith

-- some steps before others: nothing is left, or the next one is
next-step : (vars : ℕ) (xs ys : List (List Lit)) (r : List ℕ) → vars ≤ max_vars → IsTrue (are_plain vars xs) → IsTrue (are_plain vars ys) → lines_text xs ++ r ≡ lines_text ys → r ≢ [] → NoLine (is_plain vars) r → ⊥
next-step vars [] [] r small hx hy e some none = some e
next-step vars [] (y ∷ ys) r small hx hy e some none = none y (lines_text ys) (and_parts (is_plain vars y) (are_plain vars ys) hy).0 e
next-step vars (x ∷ xs) [] r small hx hy e some none = line-some x (lines_text xs ++ r) (sym (lines-split x xs r) ∙ e)
next-step vars (x ∷ xs) (y ∷ ys) r small hx hy e some none =
    let px = and_parts (is_plain vars x) (are_plain vars xs) hx in
    let py = and_parts (is_plain vars y) (are_plain vars ys) hy in
    let first = line-rest vars x y (lines_text xs ++ r) (lines_text ys) small (plain-below vars x px.0) (plain-below vars y py.0) (sym (lines-split x xs r) ∙ e) in
    next-step vars xs ys r small px.1 py.1 first.1 some none

-- there is one way to read steps
steps-unique : (vars : ℕ) (xs ys : List (List Lit)) → vars ≤ max_vars → IsTrue (are_plain vars xs) → IsTrue (are_plain vars ys) → lines_text xs ≡ lines_text ys → xs ≡ ys
steps-unique vars [] [] small hx hy e = refl
steps-unique vars [] (y ∷ ys) small hx hy e = absurd (line-some y (lines_text ys) (sym e))
steps-unique vars (x ∷ xs) [] small hx hy e = absurd (line-some x (lines_text xs) e)
steps-unique vars (x ∷ xs) (y ∷ ys) small hx hy e =
    let px = and_parts (is_plain vars x) (are_plain vars xs) hx in
    let py = and_parts (is_plain vars y) (are_plain vars ys) hy in
    let first = line-rest vars x y (lines_text xs) (lines_text ys) small (plain-below vars x px.0) (plain-below vars y py.0) e in
    ap (λ z. z ∷ xs) first.0 ∙ ap (λ zs. y ∷ zs) (steps-unique vars xs ys small px.1 py.1 first.1)

-- ---- logs

log-parts : (text : List ℕ) (f : Cnf) (steps : List (List Lit)) → text ≡ log_text f steps → text ≡ head_text f.vars (length f.clauses) ++ (lines_text f.clauses ++ lines_text steps)
log-parts text f steps e = e ∙ append_assoc (head_text f.vars (length f.clauses)) (lines_text f.clauses) (lines_text steps)

-- the formula, and the lines behind it
formula-unique : (f g : Cnf) (r s : List ℕ) → IsLog f [] → IsLog g [] → head_text f.vars (length f.clauses) ++ (lines_text f.clauses ++ r) ≡ head_text g.vars (length g.clauses) ++ (lines_text g.clauses ++ s)
    → (f ≡ g) × (r ≡ s)
formula-unique f g r s hf hg e =
    let head = head-unique f.vars g.vars (length f.clauses) (length g.clauses) _ _ hf.vars_bound hg.vars_bound hf.count_bound hg.count_bound e in
    let P : ℕ → Type 0 = λ vars. IsTrue (list_all (are_below vars) g.clauses) in
    let lines = lines-unique f.vars f.clauses g.clauses r s hf.vars_bound hf.in_range (subst P (sym head.0) hg.in_range) head.1 head.2 in
    let of : ℕ → List (List Lit) → Cnf = λ vars clauses. record { vars = vars; clauses = clauses } in
    (ap (λ vars. of vars f.clauses) head.0 ∙ ap (of g.vars) lines.0, lines.1)

without : (f : Cnf) (steps : List (List Lit)) → IsLog f steps → IsLog f []
without f steps h = record { vars_bound = h.vars_bound; count_bound = h.count_bound; in_range = h.in_range; plain = refl }

pub texts_are_of_one_log : TextsAreOfOneLog
texts_are_of_one_log text f g xs ys h k =
    let formula = formula-unique f g (lines_text xs) (lines_text ys) (without f xs h.is_log) (without g ys k.is_log) (sym (log-parts text f xs h.parts) ∙ log-parts text g ys k.parts) in
    let P : Cnf → Type 0 = λ c. IsTrue (are_plain c.vars ys) in
    (formula.0, steps-unique f.vars xs ys h.is_log.vars_bound h.is_log.plain (subst P (sym formula.0) k.is_log.plain) formula.1)

no_bad_head : (text : List ℕ) (f : Cnf) (steps : List (List Lit)) (number : ℕ) → IsLogText text f steps → IsBadHead text number → ⊥
no_bad_head text f steps number h bad = bad.none f.vars (length f.clauses) (lines_text f.clauses ++ lines_text steps) h.is_log.vars_bound h.is_log.count_bound (log-parts text f steps h.parts)

no_bad_clause : (text : List ℕ) (f : Cnf) (steps : List (List Lit)) (number : ℕ) → IsLogText text f steps → IsBadClause text number → ⊥
no_bad_clause text f steps number h bad =
    let line = bad.bad_line in
    let head = head-unique bad.vars f.vars bad.count (length f.clauses) bad.lines _ bad.vars_bound h.is_log.vars_bound bad.count_bound h.is_log.count_bound (sym bad.parts ∙ log-parts text f steps h.parts) in
    let P : ℕ → Type 0 = λ vars. IsTrue (list_all (are_below vars) f.clauses) in
    next-line bad.vars line.clauses f.clauses line.rest (lines_text steps) bad.vars_bound line.in_range (subst P (sym head.0) h.is_log.in_range)
    (let few = line.few in let same = head.1 in omega arith)
    (sym line.parts ∙ head.2) line.none

no_bad_step : (text : List ℕ) (f : Cnf) (steps : List (List Lit)) (number : ℕ) → IsLogText text f steps → IsBadStep text number → ⊥
no_bad_step text f steps number h bad =
    let line = bad.bad_line in
    let formula = formula-unique bad.formula f bad.lines (lines_text steps) bad.is_log (without f steps h.is_log) (sym bad.parts ∙ log-parts text f steps h.parts) in
    let P : Cnf → Type 0 = λ c. IsTrue (are_plain c.vars steps) in
    next-step bad.formula.vars line.steps steps line.rest bad.is_log.vars_bound line.plain (subst P (sym formula.0) h.is_log.plain) (sym line.parts ∙ formula.1) line.some line.none

pub logs_have_no_fault : LogsHaveNoFault
logs_have_no_fault text f steps number h fault = by fault
  where
    by : IsBadLine text number → ⊥
    by (inl bad) = no_bad_head text f steps number h bad
    by (inr (inl bad)) = no_bad_clause text f steps number h bad
    by (inr (inr bad)) = no_bad_step text f steps number h bad
