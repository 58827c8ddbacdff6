-- Plain elements in front of others, and where the others stand.
use Rattle.std.proofs.Common.{List, ap, arith, suc, zero, ℕ, ◌+◌, ◌∙◌, ◌≡◌}
use Rattle.css_model.specs.Documents.Document.{Element, Siblings, element_below, none}
use Rattle.css_model.specs.Documents.Features.{element_of}
use Rattle.css_model.specs.Documents.Matching.{count_siblings}
use Rattle.css_model.specs.Documents.RunDocuments.{repeated}
use Rattle.shape_laws.specs.Document.Trees.{plain, plain_runs}
use Rattle.cascade_laws.specs.Line.Runs.{Runs, elements_on}

-- behind copies without children
below_repeated : (e : Element) (n i : ℕ) (s : Siblings) (path : List ℕ) → element_below (repeated n e none s) (n + i) path ≡ element_below s i path
below_repeated e zero i s path = ap (λ (k : ℕ). element_below s k path) (let q : 0 + i ≡ i = omega arith in q)
below_repeated e (suc n) i s path =
    ap (λ (k : ℕ). element_below (repeated (suc n) e none s) k path) (let q : suc n + i ≡ suc (n + i) = omega arith in q)
    ∙ below_repeated e n i s path

-- behind plain elements
pub below_plain : (n i : ℕ) (row : Runs) (others : Siblings) (path : List ℕ) → element_below (elements_on (plain_runs n row) others) (n + i) path ≡ element_below (elements_on row others) i path
below_plain zero i row others path = ap (λ (k : ℕ). element_below (elements_on row others) k path) (let q : 0 + i ≡ i = omega arith in q)
below_plain (suc n) i row others path = below_repeated (element_of plain) (suc n) i (elements_on row others) path

count_repeated : (n : ℕ) (e : Element) (children later : Siblings) → count_siblings (repeated n e children later) ≡ n + count_siblings later
count_repeated zero e children later = let q : count_siblings later ≡ 0 + count_siblings later = omega arith in q
count_repeated (suc n) e children later = let ih = count_repeated n e children later in omega arith

-- how many they are
pub count_plain : (n : ℕ) (row : Runs) (others : Siblings) → count_siblings (elements_on (plain_runs n row) others) ≡ n + count_siblings (elements_on row others)
count_plain zero row others = let q : count_siblings (elements_on row others) ≡ 0 + count_siblings (elements_on row others) = omega arith in q
count_plain (suc n) row others = count_repeated (suc n) (element_of plain) none (elements_on row others)
