-- The lines of a tree of runs stand for its elements.
use Rattle.std.proofs.Common.{Bool, List, [], ap, arith, false, refl, suc, ℕ, ◌++◌, ◌<◌, ◌∙◌, ◌∷◌, ◌≡◌, ◌≤◌}
use Rattle.std.proofs.lemmas.Bool.{eq-eqb, le-ltb, lt-ltb}
use Rattle.std.proofs.lemmas.List.{append_assoc}
use Rattle.std.specs.Prelude.{if◌then◌else◌, nat_lt, ◌==◌}
use Rattle.css_model.specs.Documents.Document.{none}
use Rattle.css_model.specs.Documents.FeatureParts.{FeatureParts}
use Rattle.css_model.specs.Documents.Features.{element_of}
use Rattle.css_model.specs.Documents.RunDocuments.{document_of, repeated, siblings_of}
use Rattle.css_model.specs.declared.example.RunLine.{RunLine}
use Rattle.cascade_laws.specs.Line.Expansion.{EndsDeeper}
use Rattle.cascade_laws.specs.Line.Runs.{Runs, done, elements_on, lines_of, run}

-- a number is not one that is greater
pub not_same : (m n : ℕ) → n < m → (m == n) ≡ false
not_same m n h = grind arith

-- a line of this depth
here : (l : RunLine) (lines : List RunLine) (d : ℕ) → l.depth ≡ d → siblings_of (l ∷ lines) d ≡ repeated l.count (element_of l.element) (siblings_of lines (suc d)) (siblings_of lines d)
here l lines d e =
    ap (λ b. if b then repeated l.count (element_of l.element) (siblings_of lines (suc d)) (siblings_of lines d) else (if nat_lt l.depth d then none else siblings_of lines d)) (eq-eqb l.depth d e)

-- a deeper line
deeper : (l : RunLine) (lines : List RunLine) (d : ℕ) → d < l.depth → siblings_of (l ∷ lines) d ≡ siblings_of lines d
deeper l lines d h =
    ap (λ b. if b then repeated l.count (element_of l.element) (siblings_of lines (suc d)) (siblings_of lines d) else (if nat_lt l.depth d then none else siblings_of lines d)) (not_same l.depth d h)
    ∙ ap (λ b. if b then none else siblings_of lines d) (le-ltb l.depth d (omega arith))

-- lines that are less deep
pub less_deep : (d : ℕ) (more : List RunLine) → EndsDeeper d more → siblings_of more (suc d) ≡ none
less_deep d [] h = refl
less_deep d (l ∷ lines) h =
    ap (λ b. if b then repeated l.count (element_of l.element) (siblings_of lines (suc (suc d))) (siblings_of lines (suc d)) else (if nat_lt l.depth (suc d) then none else siblings_of lines (suc d))) (not_equal l.depth d h)
    ∙ ap (λ b. if b then none else siblings_of lines (suc d)) (lt-ltb l.depth (suc d) (omega arith))
  where
    not_equal : (m n : ℕ) → m ≤ n → (m == suc n) ≡ false
    not_equal m n h = grind arith

-- a deeper tree
pub skip : (d e : ℕ) (t : Runs) (more : List RunLine) → d < e → siblings_of (lines_of e t ++ more) d ≡ siblings_of more d
skip d e done more h = refl
skip d e (run n f c l) more h =
    deeper (record { depth = e; count = n; element = f }) ((lines_of (suc e) c ++ lines_of e l) ++ more) d h
    ∙ ap (λ ls. siblings_of ls d) (append_assoc (lines_of (suc e) c) (lines_of e l) more)
    ∙ skip d (suc e) c (lines_of e l ++ more) (omega arith)
    ∙ skip d e l more h

-- the lines of a tree end what is deeper, where those behind it do
pub ends : (d : ℕ) (t : Runs) (more : List RunLine) → EndsDeeper d more → EndsDeeper d (lines_of d t ++ more)
ends d done more h = h
ends d (run n f c l) more h = omega arith

-- what ends a depth ends the next one
pub ends_more : (d : ℕ) (more : List RunLine) → EndsDeeper d more → EndsDeeper (suc d) more
ends_more d [] h = tt
ends_more d (l ∷ lines) h = omega arith

pub expands : (d : ℕ) (t : Runs) (more : List RunLine) → EndsDeeper d more → siblings_of (lines_of d t ++ more) d ≡ elements_on t (siblings_of more d)
expands d done more h = refl
expands d (run n f c l) more h =
    let behind = ends d l more h in
    here (record { depth = d; count = n; element = f }) ((lines_of (suc d) c ++ lines_of d l) ++ more) d refl
    ∙ ap (λ ls. repeated n (element_of f) (siblings_of ls (suc d)) (siblings_of ls d)) (append_assoc (lines_of (suc d) c) (lines_of d l) more)
    ∙ ap (λ s. repeated n (element_of f) s (siblings_of (lines_of (suc d) c ++ (lines_of d l ++ more)) d))
    (expands (suc d) c (lines_of d l ++ more) (ends_more d (lines_of d l ++ more) behind) ∙ ap (elements_on c) (less_deep d (lines_of d l ++ more) behind))
    ∙ ap (λ s. repeated n (element_of f) (elements_on c none) s) (skip d (suc d) c (lines_of d l ++ more) (omega arith) ∙ expands d l more h)

pub expands_document : (root_is_child : Bool) (f : FeatureParts) (children : Runs) →
    document_of root_is_child (lines_of 0 (run 1 f children done))
    ≡ record { root = element_of f; children = elements_on children none; root_is_child = root_is_child }
expands_document root_is_child f children =
    ap (λ s. record { root = element_of f; children = s; root_is_child = root_is_child }) (expands 1 children [] tt)
