-- The path of the marked line is that of slot 0.
use Rattle.std.proofs.Common.{Bool, List, [], ap, arith, false, length, refl, subst, suc, sym, true, zero, ℕ, ◌++◌, ◌+◌, ◌-◌, ◌<◌, ◌∙◌, ◌∷◌, ◌≡◌}
use Rattle.std.proofs.lemmas.List.{append_assoc, append-nil, length-append}
use Rattle.std.specs.List.{slice_get}
use Rattle.std.specs.Prelude.{IsSomeAnd}
use Rattle.css_model.specs.Documents.FeatureParts.{FeatureParts}
use Rattle.css_model.specs.Documents.RunDocuments.{behind, path_below, path_of}
use Rattle.css_model.specs.declared.example.RunLine.{RunLine}
use Rattle.shape_laws.proofs.Document.Paths.{Ends, path_from}
use Rattle.shape_laws.proofs.Document.Standing.{Row, ends_on, next_row}
use Rattle.shape_laws.specs.Document.Trees.{behind_plain, grown, line_from, plain, plain_runs, tree_from}
use Rattle.cascade_laws.proofs.ForCallers.{path_inside, path_past}
use Rattle.cascade_laws.specs.Line.Runs.{Runs, done, lines_of, run}
use Rattle.list_facts.proofs.Zips.{cons_tail}
use Rattle.slot_plan.specs.Counts.{CountsFit}
use Rattle.slot_plan.specs.declared.shape.SlotStep.{SlotStep}
use Rattle.slot_plan.specs.declared.shape.SlotStep.TheVariants.{Further, NextTo, UpMore, UpOne}

-- Line n of a tree, at whichever depth and in front of whichever lines: it is there, it stands for one element, and
-- its path is i and then this one.
pub record Leads (t : Runs) (n i : ℕ) (path : List ℕ) : Type 0 where
  pub within : (d : ℕ) → n < length (lines_of d t)
  pub single : (d : ℕ) (more : List RunLine) → IsSomeAnd (slice_get (lines_of d t ++ more) n) (λ l. l.count ≡ 1)
  pub at : (d : ℕ) (more : List RunLine) → path_below (lines_of d t ++ more) d n ≡ i ∷ path

-- the first line of a tree
pub leads_first : (f : FeatureParts) (children later : Runs) → Leads (run 1 f children later) 0 0 []
leads_first f c l = record { within = λ d. omega arith; single = λ d more. refl; at = λ d more. refl }

-- behind plain elements
pub leads_plain : (m : ℕ) (t : Runs) (n i : ℕ) (path : List ℕ) → Leads t n i path → Leads (plain_runs m t) (behind_plain m n) (m + i) path
leads_plain zero t n i path l = subst (λ (k : ℕ). Leads t n k path) (let e : i ≡ 0 + i = omega arith in e) l
leads_plain (suc m) t n i path l = record {
  within = λ d. (let h = l.within d in omega arith);
  single = λ d more. l.single d more;
  at = λ d more. path_past d (suc m) n plain t more (l.within d) ∙ ap (behind (suc m)) (l.at d more);
}

-- behind one element without children
leads_past : (f : FeatureParts) (t : Runs) (n i : ℕ) (path : List ℕ) → Leads t n i path → Leads (run 1 f done t) (suc n) (1 + i) path
leads_past f t n i path l = record {
  within = λ d. (let h = l.within d in omega arith);
  single = λ d more. l.single d more;
  at = λ d more. path_past d 1 n f t more (l.within d) ∙ ap (behind 1) (l.at d more);
}

-- among the children of a run
leads_inside : (m : ℕ) (f : FeatureParts) (children later : Runs) (n i : ℕ) (path : List ℕ) → Leads children n i path → Leads (run m f children later) (suc n) 0 (i ∷ path)
leads_inside m f c t n i path l = record {
  within = λ d. (let h = l.within (suc d) in let e = length-append (lines_of (suc d) c) (lines_of d t) in omega arith);
  single = λ d more. subst (λ ls. IsSomeAnd (slice_get ls n) (λ l. l.count ≡ 1)) (sym (append_assoc (lines_of (suc d) c) (lines_of d t) more)) (l.single (suc d) (lines_of d t ++ more));
  at = λ d more. path_inside d m n f c t more (l.within (suc d)) ∙ ap (λ p. 0 ∷ p) (l.at (suc d) (lines_of d t ++ more));
}

-- the line and the path of an element in the whole tree
pub record LeadsTo (t : Runs) (n : ℕ) (path : List ℕ) : Type 0 where
  pub single : IsSomeAnd (slice_get (lines_of 0 t) n) (λ l. l.count ≡ 1)
  pub at : path_of (lines_of 0 t) n ≡ path

-- below a root
leads_below : (f : FeatureParts) (children : Runs) (n i : ℕ) (path : List ℕ) → Leads children n i path → LeadsTo (run 1 f children done) (suc n) (i ∷ path)
leads_below f c n i path l = record { single = l.single 1 []; at = l.at 1 [] }

-- the root, or what stands below it
leads_root : (f : FeatureParts) (children : Runs) (n : ℕ) (path : List ℕ) → Leads (run 1 f children done) n 0 path → LeadsTo (run 1 f children done) n path
leads_root f c zero path l = record { single = refl; at = cons_tail 0 0 [] path (l.at 0 []) }
leads_root f c (suc n) path l = record {
  single = subst (λ ls. IsSomeAnd (slice_get ls (suc n)) (λ l. l.count ≡ 1)) (append-nil (lines_of 0 (run 1 f c done))) (l.single 0 []);
  at = cons_tail 0 0 (path_below (lines_of 1 c ++ []) 1 n) path (sym (path_inside 0 1 n f c done [] inner) ∙ l.at 0 []);
}
  where
    inner : n < length (lines_of 1 c)
    inner = let h = l.within 0 in let e = length-append (lines_of 1 c) [] in omega arith

-- from a slot on
pub leads_from : (root : Bool) (ss : List SlotStep) (b : ℕ) (bs : List ℕ) (a : ℕ) (aa : List ℕ) (f : FeatureParts) (fs : List FeatureParts) (p : Bool) (row : Runs) (n i : ℕ) (path : List ℕ) →
    CountsFit ss (b ∷ bs) (a ∷ aa) → length fs ≡ length ss → (root ≡ true → Ends ss aa i a) → Row f a p row → Leads row n i path →
    LeadsTo (tree_from root ss b bs aa fs row) (line_from root ss b bs n) (path_from root ss b bs i path)
leads_from true [] b bs a aa f fs p row n i path fit same end r l =
    let e = end refl in
    subst (λ t. LeadsTo t n path) (sym (top e.1)) (leads_root f r.children n path (subst (λ t. Leads t n 0 path) (top e.1) (subst (λ (k : ℕ). Leads row n k path) e.0 l)))
  where
    top : a ≡ 0 → row ≡ run 1 f r.children done
    top none_behind = r.is ∙ ap (λ t. run 1 f r.children t) (r.last none_behind)
leads_from false [] b bs a aa f fs p row n i path fit same end r l = leads_below plain (plain_runs b row) (behind_plain b n) (b + i) path (leads_plain b row n i path l)
leads_from root (s ∷ ss) b [] a aa f fs p row n i path fit same end r l = absurd fit
leads_from root (s ∷ ss) b (b' ∷ bs) a [] f fs p row n i path fit same end r l = absurd fit
leads_from root (s ∷ ss) b (b' ∷ bs) a (a' ∷ aa) f [] p row n i path fit same end r l = absurd (omega arith)
leads_from root (NextTo ∷ ss) b (b' ∷ bs) a (a' ∷ aa) f (g ∷ fs) p row n i path (step, fit) same end r l =
    leads_from root ss b' bs a' aa g fs false (grown NextTo g b b' a' row) (suc (behind_plain (b - suc b') n)) ((b - b') + i) path fit (omega arith) (λ h. ends_on NextTo ss a' aa i ((b - b') + i) a (λ up. absurd up) (end h)) (next_row NextTo f g a a' b b' p row step r)
    (subst (λ (k : ℕ). Leads (grown NextTo g b b' a' row) (suc (behind_plain (b - suc b') n)) k path) (let w : 1 + ((b - suc b') + i) ≡ (b - b') + i = omega (arith, step) in w)
    (leads_past g (plain_runs (b - suc b') row) (behind_plain (b - suc b') n) ((b - suc b') + i) path (leads_plain (b - suc b') row n i path l)))
leads_from root (Further ∷ ss) b (b' ∷ bs) a (a' ∷ aa) f (g ∷ fs) p row n i path ((gap, some, is-b, is-a), fit) same end r l =
    leads_from root ss b' bs a' aa g fs false (grown Further g b b' a' row) (suc (behind_plain (b - suc b') n)) ((b - b') + i) path fit (omega arith) (λ h. ends_on Further ss a' aa i ((b - b') + i) a (λ up. absurd up) (end h)) (next_row Further f g a a' b b' p row (gap, some, is-b, is-a) r)
    (subst (λ (k : ℕ). Leads (grown Further g b b' a' row) (suc (behind_plain (b - suc b') n)) k path) (let w : 1 + ((b - suc b') + i) ≡ (b - b') + i = omega arith in w)
    (leads_past g (plain_runs (b - suc b') row) (behind_plain (b - suc b') n) ((b - suc b') + i) path (leads_plain (b - suc b') row n i path l)))
leads_from root (UpOne ∷ ss) b (b' ∷ bs) a (a' ∷ aa) f (g ∷ fs) p row n i path (step, fit) same end r l =
    leads_from root ss b' bs a' aa g fs true (grown UpOne g b b' a' row) (suc (behind_plain b n)) 0 ((b + i) ∷ path) fit (omega arith) (λ h. ends_on UpOne ss a' aa i 0 a (λ up. refl) (end h)) (next_row UpOne f g a a' b b' p row step r)
    (leads_inside 1 g (plain_runs b row) (plain_runs a' done) (behind_plain b n) (b + i) path (leads_plain b row n i path l))
leads_from root (UpMore ∷ ss) b (b' ∷ bs) a (a' ∷ aa) f (g ∷ fs) p row n i path (step, fit) same end r l =
    leads_from root ss b' bs a' aa g fs true (grown UpMore g b b' a' row) (suc (suc (behind_plain b n))) 0 (0 ∷ (b + i) ∷ path) fit (omega arith) (λ h. ends_on UpMore ss a' aa i 0 a (λ up. refl) (end h)) (next_row UpMore f g a a' b b' p row step r)
    (leads_inside 1 g (run 1 plain (plain_runs b row) done) (plain_runs a' done) (suc (behind_plain b n)) 0 ((b + i) ∷ path)
    (leads_inside 1 plain (plain_runs b row) done (behind_plain b n) (b + i) path (leads_plain b row n i path l)))
