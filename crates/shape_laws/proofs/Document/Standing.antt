-- Where the elements of a shape's document stand.
use Rattle.std.proofs.Common.{Bool, List, Some, [], ap, arith, false, get_or, length, refl, suc, sym, true, zero, ℕ, ◌+◌, ◌-◌, ◌∙◌, ◌∷◌, ◌≡◌, ◌≢◌, ◌≤◌}
use Rattle.std.proofs.lemmas.Bool.{false≢true}
use Rattle.css_model.specs.Documents.Document.{Document, ElementAt, Siblings, element_at, element_below, first, none}
use Rattle.css_model.specs.Documents.FeatureParts.{FeatureParts}
use Rattle.css_model.specs.Documents.Features.{element_of}
use Rattle.css_model.specs.Documents.Matching.{count_siblings}
use Rattle.shape_laws.proofs.Document.Paths.{Ends, parent_at, path_from, slot_path}
use Rattle.shape_laws.proofs.Document.Rows.{below_plain, count_plain}
use Rattle.shape_laws.specs.Document.Trees.{grown, plain, plain_runs, tree_from}
use Rattle.cascade_laws.specs.Line.Runs.{Runs, done, elements_on, run}
use Rattle.slot_plan.specs.Counts.{CountsFit, StepCounts}
use Rattle.slot_plan.specs.Steps.{IsUp, is_parent, is_up}
use Rattle.slot_plan.specs.declared.shape.SlotStep.{SlotStep}
use Rattle.slot_plan.specs.declared.shape.SlotStep.TheVariants.{Further, NextTo, UpMore, UpOne}

-- A slot with all to its right: its element, so many siblings behind it, and whether something stands in it.
pub record Row (f : FeatureParts) (a : ℕ) (parent : Bool) (row : Runs) : Type 0 where
  pub children : Runs
  pub later : Runs
  pub is : row ≡ run 1 f children later
  pub count : count_siblings (elements_on later none) ≡ a
  pub last : a ≡ 0 → later ≡ done
  pub some : parent ≡ true → elements_on children none ≢ none
  pub nothing : parent ≡ false → children ≡ done

-- slot 0
pub first_row : (f : FeatureParts) (a : ℕ) → Row f a false (run 1 f done (plain_runs a done))
first_row f a = record {
  children = done;
  later = plain_runs a done;
  is = refl;
  count = (let c = count_plain a done none in omega arith);
  last = λ e. ap (λ (n : ℕ). plain_runs n done) e;
  some = λ e. absurd (false≢true e);
  nothing = λ e. refl;
}

-- a row has an element
row_some : (f : FeatureParts) (a : ℕ) (p : Bool) (row : Runs) (n : ℕ) → Row f a p row → elements_on (plain_runs n row) none ≢ none
row_some f a p row zero r e = let q = sym (ap (λ t. elements_on t none) r.is) ∙ e in cc
row_some f a p row (suc n) r e = let q : first (element_of plain) none _ ≡ none = e in cc

-- the count of a row
row_count : (f : FeatureParts) (a : ℕ) (p : Bool) (row : Runs) → Row f a p row → count_siblings (elements_on row none) ≡ suc a
row_count f a p row r = ap (λ t. count_siblings (elements_on t none)) r.is ∙ ap suc r.count

-- the next slot
pub next_row : (s : SlotStep) (f g : FeatureParts) (a a' b b' : ℕ) (p : Bool) (row : Runs) → StepCounts s b b' a a' → Row f a p row → Row g a' (is_up s) (grown s g b b' a' row)
next_row NextTo f g a a' b b' p row (is-b, is-a) r = record {
  children = done;
  later = plain_runs (b - suc b') row;
  is = refl;
  count = (let c = count_plain (b - suc b') row none in let d = row_count f a p row r in omega arith);
  last = λ e. absurd (omega arith);
  some = λ e. absurd (false≢true e);
  nothing = λ e. refl;
}
next_row Further f g a a' b b' p row (gap, some, is-b, is-a) r = record {
  children = done;
  later = plain_runs (b - suc b') row;
  is = refl;
  count = (let c = count_plain (b - suc b') row none in let d = row_count f a p row r in omega arith);
  last = λ e. absurd (omega arith);
  some = λ e. absurd (false≢true e);
  nothing = λ e. refl;
}
next_row UpOne f g a a' b b' p row step r = record {
  children = plain_runs b row;
  later = plain_runs a' done;
  is = refl;
  count = (let c = count_plain a' done none in omega arith);
  last = λ e. ap (λ (n : ℕ). plain_runs n done) e;
  some = λ e. row_some f a p row b r;
  nothing = λ e. absurd (false≢true (sym e));
}
next_row UpMore f g a a' b b' p row step r = record {
  children = run 1 plain (plain_runs b row) done;
  later = plain_runs a' done;
  is = refl;
  count = (let c = count_plain a' done none in omega arith);
  last = λ e. ap (λ (n : ℕ). plain_runs n done) e;
  some = λ e q. (let w : first (element_of plain) _ none ≡ none = q in cc);
  nothing = λ e. absurd (false≢true (sym e));
}

-- the document of a tree
abbrev pub tree_document : Bool → Runs → Document
tree_document child done = record { root = element_of plain; children = none; root_is_child = child }
tree_document child (run n f c l) = record { root = element_of f; children = elements_on c none; root_is_child = child }

-- what the end asks behind a step
pub ends_on : (s : SlotStep) (ss : List SlotStep) (a' : ℕ) (aa : List ℕ) (i j a : ℕ) → (IsUp s → j ≡ 0) → Ends (s ∷ ss) (a' ∷ aa) i a → Ends ss aa j a'
ends_on s [] a' aa i j a z (up, e) = (z up, e)
ends_on s (t ∷ []) a' [] i j a z end = end
ends_on s (t ∷ []) a' (a'' ∷ aa) i j a z end = end
ends_on s (t ∷ u ∷ ss) a' [] i j a z end = end
ends_on s (t ∷ u ∷ ss) a' (a'' ∷ aa) i j a z end = end

-- where nothing stands side by side
none_there : (s : Siblings) → count_siblings s ≡ 0 → s ≡ none
none_there none e = refl
none_there (first f c l) e = absurd (omega arith)

-- the root
at_root : (child : Bool) (f : FeatureParts) (children later : Runs) (path : List ℕ) → elements_on later none ≡ none →
    element_at (tree_document child (run 1 f children later)) path ≡ element_below (elements_on (run 1 f children later) none) 0 path
at_root child f children later [] e = ap (λ l. Some (record { element = element_of f; children = elements_on children none; later = l })) (sym e)
at_root child f children later (j ∷ path) e = refl

-- The element at the path that leads i places to the right of a slot is the i-th from it on.
pub stands : (root child : Bool) (ss : List SlotStep) (b : ℕ) (bs : List ℕ) (a : ℕ) (aa : List ℕ) (f : FeatureParts) (fs : List FeatureParts) (p : Bool) (row : Runs) (i : ℕ) (path : List ℕ) →
    CountsFit ss (b ∷ bs) (a ∷ aa) → length fs ≡ length ss → (root ≡ true → Ends ss aa i a) → Row f a p row →
    element_at (tree_document child (tree_from root ss b bs aa fs row)) (path_from root ss b bs i path) ≡ element_below (elements_on row none) i path
stands true child [] b bs a aa f fs p row i path fit n end r =
    let e = end refl in
    ap (λ t. element_at (tree_document child t) path) r.is
    ∙ at_root child f r.children r.later path (none_there (elements_on r.later none) (r.count ∙ e.1))
    ∙ ap (λ t. element_below (elements_on t none) 0 path) (sym r.is)
    ∙ ap (λ (k : ℕ). element_below (elements_on row none) k path) (sym e.0)
stands false child [] b bs a aa f fs p row i path fit n end r = below_plain b i row none path
stands root child (s ∷ ss) b [] a aa f fs p row i path fit n end r = absurd fit
stands root child (s ∷ ss) b (b' ∷ bs) a [] f fs p row i path fit n end r = absurd fit
stands root child (s ∷ ss) b (b' ∷ bs) a (a' ∷ aa) f [] p row i path fit n end r = absurd (omega arith)
stands root child (NextTo ∷ ss) b (b' ∷ bs) a (a' ∷ aa) f (g ∷ fs) p row i path (step, fit) n end r =
    stands root child ss b' bs a' aa g fs false (grown NextTo g b b' a' row) ((b - b') + i) path fit (omega arith) (λ h. ends_on NextTo ss a' aa i ((b - b') + i) a (λ up. absurd up) (end h)) (next_row NextTo f g a a' b b' p row step r)
    ∙ ap (λ (k : ℕ). element_below (elements_on (grown NextTo g b b' a' row) none) k path) (let w : (b - b') + i ≡ suc ((b - suc b') + i) = omega (arith, step) in w)
    ∙ below_plain (b - suc b') i row none path
stands root child (Further ∷ ss) b (b' ∷ bs) a (a' ∷ aa) f (g ∷ fs) p row i path ((gap, some, is-b, is-a), fit) n end r =
    stands root child ss b' bs a' aa g fs false (grown Further g b b' a' row) ((b - b') + i) path fit (omega arith) (λ h. ends_on Further ss a' aa i ((b - b') + i) a (λ up. absurd up) (end h)) (next_row Further f g a a' b b' p row (gap, some, is-b, is-a) r)
    ∙ ap (λ (k : ℕ). element_below (elements_on (grown Further g b b' a' row) none) k path) (let w : (b - b') + i ≡ suc ((b - suc b') + i) = omega arith in w)
    ∙ below_plain (b - suc b') i row none path
stands root child (UpOne ∷ ss) b (b' ∷ bs) a (a' ∷ aa) f (g ∷ fs) p row i path (step, fit) n end r =
    stands root child ss b' bs a' aa g fs true (grown UpOne g b b' a' row) 0 ((b + i) ∷ path) fit (omega arith) (λ h. ends_on UpOne ss a' aa i 0 a (λ up. refl) (end h)) (next_row UpOne f g a a' b b' p row step r)
    ∙ below_plain b i row none path
stands root child (UpMore ∷ ss) b (b' ∷ bs) a (a' ∷ aa) f (g ∷ fs) p row i path (step, fit) n end r =
    stands root child ss b' bs a' aa g fs true (grown UpMore g b b' a' row) 0 (0 ∷ (b + i) ∷ path) fit (omega arith) (λ h. ends_on UpMore ss a' aa i 0 a (λ up. refl) (end h)) (next_row UpMore f g a a' b b' p row step r)
    ∙ below_plain b i row none path

-- What stands at the path of a slot: its element, with so many siblings behind it, and something in it where it is
-- a parent.
pub record SlotAt (doc : Document) (path : List ℕ) (f : FeatureParts) (a : ℕ) (parent : Bool) : Type 0 where
  pub here : ElementAt
  pub is : element_at doc path ≡ Some here
  pub element : here.element ≡ element_of f
  pub later : count_siblings here.later ≡ a
  pub some : parent ≡ true → here.children ≢ none
  pub nothing : parent ≡ false → here.children ≡ none

-- one slot
slot_at : (root child : Bool) (ss : List SlotStep) (b : ℕ) (bs : List ℕ) (a : ℕ) (aa : List ℕ) (f : FeatureParts) (fs : List FeatureParts) (p : Bool) (row : Runs) →
    CountsFit ss (b ∷ bs) (a ∷ aa) → length fs ≡ length ss → (root ≡ true → Ends ss aa 0 a) → Row f a p row →
    SlotAt (tree_document child (tree_from root ss b bs aa fs row)) (path_from root ss b bs 0 []) f a p
slot_at root child ss b bs a aa f fs p row fit n end r = record {
  here = record { element = element_of f; children = elements_on r.children none; later = elements_on r.later none };
  is = stands root child ss b bs a aa f fs p row 0 [] fit n end r ∙ ap (λ t. element_below (elements_on t none) 0 []) r.is;
  element = refl;
  later = r.count;
  some = r.some;
  nothing = λ e. ap (λ t. elements_on t none) (r.nothing e);
}

-- all slots
pub slots_at : (root child : Bool) (ss : List SlotStep) (b : ℕ) (bs : List ℕ) (a : ℕ) (aa : List ℕ) (f : FeatureParts) (fs : List FeatureParts) (p : Bool) (row : Runs) →
    CountsFit ss (b ∷ bs) (a ∷ aa) → length fs ≡ length ss → (root ≡ true → Ends ss aa 0 a) → Row f a p row → (k : ℕ) → k ≤ length ss →
    SlotAt (tree_document child (tree_from root ss b bs aa fs row)) (slot_path root ss b bs k) (get_or (f ∷ fs) k plain) (get_or (a ∷ aa) k 0) (parent_at p ss k)
slots_at root child ss b bs a aa f fs p row fit n end r zero h = slot_at root child ss b bs a aa f fs p row fit n end r
slots_at root child [] b bs a aa f fs p row fit n end r (suc k) h = absurd (omega arith)
slots_at root child (s ∷ ss) b [] a aa f fs p row fit n end r (suc k) h = absurd fit
slots_at root child (s ∷ ss) b (b' ∷ bs) a [] f fs p row fit n end r (suc k) h = absurd fit
slots_at root child (s ∷ ss) b (b' ∷ bs) a (a' ∷ aa) f [] p row fit n end r (suc k) h = absurd (omega arith)
slots_at root child (s ∷ ss) b (b' ∷ bs) a (a' ∷ aa) f (g ∷ fs) p row fit n end r (suc k) h =
    slots_at root child ss b' bs a' aa g fs (is_up s) (grown s g b b' a' row) fit.1 (omega arith) (λ e. ends_on s ss a' aa 0 0 a (λ up. refl) (end e)) (next_row s f g a a' b b' p row fit.0 r) k (omega arith)

-- of slot 0, which is no parent
pub parent_is : (ss : List SlotStep) (k : ℕ) → parent_at false ss k ≡ is_parent ss k
parent_is ss zero = refl
parent_is ss (suc k) = by false ss k
  where
    by : (p : Bool) (ss : List SlotStep) (k : ℕ) → parent_at p ss (suc k) ≡ is_parent ss (suc k)
    by p [] k = refl
    by p (s ∷ ss) zero = refl
    by p (s ∷ ss) (suc k) = by (is_up s) ss k
