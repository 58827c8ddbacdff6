-- Paths to the lines of a tree of runs.
use Rattle.std.proofs.Common.{Bool, List, [], ap, arith, false, length, refl, suc, take, true, zero, ℕ, ◌&&◌, ◌++◌, ◌<◌, ◌∙◌, ◌∷◌, ◌≡◌}
use Rattle.std.proofs.lemmas.Bool.{eq-eqb, le-ltb, lt-ltb}
use Rattle.std.proofs.lemmas.List.{append_assoc, take-append-le}
use Rattle.std.proofs.lemmas.List.Folds.{list_all-append}
use Rattle.std.specs.List.{list_all}
use Rattle.std.specs.Prelude.{if◌then◌else◌, nat_lt}
use Rattle.css_model.specs.Documents.FeatureParts.{FeatureParts}
use Rattle.css_model.specs.Documents.RunDocuments.{behind, is_below, path_below}
use Rattle.css_model.specs.declared.example.RunLine.{RunLine}
use Rattle.cascade_laws.specs.Line.Runs.{Runs, done, lines_of, run}

-- all lines of a deeper tree are deeper
are_deeper : (d e : ℕ) (t : Runs) → d < e → list_all (λ l. nat_lt d l.depth) (lines_of e t) ≡ true
are_deeper d e done h = refl
are_deeper d e (run n f c l) h =
    ap (λ b. b && list_all (λ r. nat_lt d r.depth) (lines_of (suc e) c ++ lines_of e l)) (lt-ltb d e h)
    ∙ list_all-append (λ r. nat_lt d r.depth) (lines_of (suc e) c) (lines_of e l)
    ∙ ap (λ b. b && list_all (λ r. nat_lt d r.depth) (lines_of e l)) (are_deeper d (suc e) c (omega arith))
    ∙ are_deeper d e l h

-- what holds of all holds of the first ones
all_first : (p : RunLine → Bool) (n : ℕ) (ls : List RunLine) → list_all p ls ≡ true → list_all p (take n ls) ≡ true
all_first p zero [] h = refl
all_first p zero (l ∷ ls) h = refl
all_first p (suc n) [] h = refl
all_first p (suc n) (l ∷ ls) h = by (p l) h (all_first p n ls)
  where
    by : (b : Bool) → (b && list_all p ls) ≡ true → (list_all p ls ≡ true → list_all p (take n ls) ≡ true) → (b && list_all p (take n ls)) ≡ true
    by true h rest = rest h
    by false h rest = h

-- so those of a deeper tree stand below
below_tree : (d n : ℕ) (t : Runs) (more : List RunLine) → n < length (lines_of (suc d) t) → is_below d (lines_of (suc d) t ++ more) n ≡ true
below_tree d n t more h =
    ap (list_all (λ l. nat_lt d l.depth)) (take-append-le (suc n) (lines_of (suc d) t) more (omega arith))
    ∙ all_first (λ l. nat_lt d l.depth) (suc n) (lines_of (suc d) t) (are_deeper d (suc d) t (omega arith))

-- and those of a tree of the same depth do not
not_below : (d n : ℕ) (t : Runs) (more : List RunLine) → n < length (lines_of d t) → is_below d (lines_of d t ++ more) n ≡ false
not_below d n done more h = absurd (omega arith)
not_below d n (run m f c l) more h =
    ap (λ b. b && list_all (λ r. nat_lt d r.depth) (take n ((lines_of (suc d) c ++ lines_of d l) ++ more))) (le-ltb d d (omega arith))

pub path_inside : (depth count n : ℕ) (f : FeatureParts) (children later : Runs) (more : List RunLine) → n < length (lines_of (suc depth) children) →
    path_below (lines_of depth (run count f children later) ++ more) depth (suc n)
    ≡ 0 ∷ path_below (lines_of (suc depth) children ++ (lines_of depth later ++ more)) (suc depth) n
path_inside d m n f c l more h =
    ap (λ b. if b then (if is_below d lines n then 0 ∷ path_below lines (suc d) n else behind m (path_below lines d n)) else path_below lines d n) (eq-eqb d d refl)
    ∙ ap (λ ls. if is_below d ls n then 0 ∷ path_below ls (suc d) n else behind m (path_below ls d n)) (append_assoc (lines_of (suc d) c) (lines_of d l) more)
    ∙ ap (λ b. if b then 0 ∷ path_below parts (suc d) n else behind m (path_below parts d n)) (below_tree d n c (lines_of d l ++ more) h)
  where
    lines : List RunLine
    lines = (lines_of (suc d) c ++ lines_of d l) ++ more

    parts : List RunLine
    parts = lines_of (suc d) c ++ (lines_of d l ++ more)

pub path_past : (depth count n : ℕ) (f : FeatureParts) (later : Runs) (more : List RunLine) → n < length (lines_of depth later) →
    path_below (lines_of depth (run count f done later) ++ more) depth (suc n) ≡ behind count (path_below (lines_of depth later ++ more) depth n)
path_past d m n f l more h =
    ap (λ b. if b then (if is_below d (lines_of d l ++ more) n then 0 ∷ path_below (lines_of d l ++ more) (suc d) n else behind m (path_below (lines_of d l ++ more) d n)) else path_below (lines_of d l ++ more) d n) (eq-eqb d d refl)
    ∙ ap (λ b. if b then 0 ∷ path_below (lines_of d l ++ more) (suc d) n else behind m (path_below (lines_of d l ++ more) d n)) (not_below d n l more h)
