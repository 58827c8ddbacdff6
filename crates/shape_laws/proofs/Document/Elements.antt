-- The elements of the document of a shape: their ids, what holds of each, and how many lines they take.
use Rattle.std.proofs.Common.{Bool, List, None, Option, Some, [], ap, arith, false, length, refl, subst, suc, sym, true, zero, ℕ, ◌++◌, ◌+◌, ◌*◌, ◌-◌, ◌∙◌, ◌∷◌, ◌≡◌, ◌≢◌, ◌≤◌}
use Rattle.std.proofs.lemmas.Bool.{false≢true}
use Rattle.std.proofs.lemmas.List.{append-nil, length-append}
use Rattle.std.proofs.lemmas.List.Elements.{All-cons, All-nil, Contains-get_or}
use Rattle.std.proofs.lemmas.List.Kept.{AllPairs-cons}
use Rattle.list_facts.proofs.Members.{Contains-nil}
use Rattle.slot_plan.specs.Steps.{is_up}
use Rattle.std.specs.Char.{IsScalar}
use Rattle.std.specs.List.{All, AllByRecursion, AllPairs, cons_option, filter_map}
use Rattle.std.specs.List.Sorted.{IsStrictlySortedBy}
use Rattle.std.specs.Prelude.{Contains, codes}
use Rattle.css_model.specs.Documents.Document.{Element, IsLegalElement, attribute_value, elements_below, first, ids_of, if_not_empty, none}
use Rattle.css_model.specs.Documents.FeatureParts.{FeatureParts}
use Rattle.css_model.specs.Documents.Features.{element_of}
use Rattle.css_model.specs.Documents.RunDocuments.{AreRunFeatures}
use Rattle.shape_laws.proofs.Document.Paths.{Ends}
use Rattle.shape_laws.proofs.Document.Standing.{Row, ends_on, next_row, tree_document}
use Rattle.shape_laws.specs.Document.SlotElements.{HaveNewIds, own_id}
use Rattle.shape_laws.specs.Document.Trees.{grown, plain, plain_runs, tree_from}
use Rattle.cascade_laws.proofs.ForCallers.{values, values_first, values_repeated}
use Rattle.cascade_laws.specs.Line.Runs.{AllRuns, IsWritable, Runs, done, elements_on, lines_of, run}
use Rattle.slot_plan.specs.Counts.{CountsFit}
use Rattle.slot_plan.specs.declared.shape.SlotStep.{SlotStep}
use Rattle.slot_plan.specs.declared.shape.SlotStep.TheVariants.{Further, NextTo, UpMore, UpOne}

-- the id of an element, if it is not empty
abbrev pub id_of : Element → Option (List ℕ)
id_of e = if_not_empty (attribute_value e (codes "id"))

-- one value or none in front of others
own_append : {Y : Type 0} (o : Option Y) (ys : List Y) → cons_option o [] ++ ys ≡ cons_option o ys
own_append None ys = refl
own_append (Some y) ys = refl

-- plain elements have no id
plain_values : (n : ℕ) (row : Runs) → values id_of (elements_on (plain_runs n row) none) ≡ values id_of (elements_on row none)
plain_values zero row = refl
plain_values (suc n) row = values_repeated id_of (suc n) (element_of plain) (elements_on row none) refl

-- the ids of the next slot with all to its right
pub grown_values : (s : SlotStep) (g : FeatureParts) (b b' a' : ℕ) (row : Runs) → values id_of (elements_on (grown s g b b' a' row) none) ≡ cons_option (own_id g) (values id_of (elements_on row none))
grown_values NextTo g b b' a' row =
    values_first id_of (element_of g) none (elements_on (plain_runs (b - suc b') row) none) ∙ own_append (own_id g) (values id_of (elements_on (plain_runs (b - suc b') row) none)) ∙ ap (cons_option (own_id g)) (plain_values (b - suc b') row)
grown_values Further g b b' a' row =
    values_first id_of (element_of g) none (elements_on (plain_runs (b - suc b') row) none) ∙ own_append (own_id g) (values id_of (elements_on (plain_runs (b - suc b') row) none)) ∙ ap (cons_option (own_id g)) (plain_values (b - suc b') row)
grown_values UpOne g b b' a' row =
    values_first id_of (element_of g) (elements_on (plain_runs b row) none) (elements_on (plain_runs a' done) none)
    ∙ own_append (own_id g) (values id_of (elements_on (plain_runs b row) none) ++ values id_of (elements_on (plain_runs a' done) none))
    ∙ ap (λ ys. cons_option (own_id g) (values id_of (elements_on (plain_runs b row) none) ++ ys)) (plain_values a' done)
    ∙ ap (cons_option (own_id g)) (append-nil (values id_of (elements_on (plain_runs b row) none)) ∙ plain_values b row)
grown_values UpMore g b b' a' row =
    values_first id_of (element_of g) (first (element_of plain) (elements_on (plain_runs b row) none) none) (elements_on (plain_runs a' done) none)
    ∙ own_append (own_id g) (values id_of (first (element_of plain) (elements_on (plain_runs b row) none) none) ++ values id_of (elements_on (plain_runs a' done) none))
    ∙ ap (λ ys. cons_option (own_id g) (values id_of (first (element_of plain) (elements_on (plain_runs b row) none) none) ++ ys)) (plain_values a' done)
    ∙ ap (cons_option (own_id g)) (append-nil (values id_of (first (element_of plain) (elements_on (plain_runs b row) none) none))
    ∙ values_first id_of (element_of plain) (elements_on (plain_runs b row) none) none
    ∙ append-nil (values id_of (elements_on (plain_runs b row) none)) ∙ plain_values b row)

-- one more value keeps values different where it is not among them
pub pairs_more : {Y : Type 0} (o : Option Y) (ys : List Y) → ((y : Y) → o ≡ Some y → Contains ys y → ⊥) → AllPairs ◌≢◌ ys → AllPairs ◌≢◌ (cons_option o ys)
pairs_more None ys new pairs = pairs
pairs_more (Some y) ys new pairs = AllPairs-cons ◌≢◌ y ys (λ k d h e. new y refl (subst (Contains ys) (sym e) (Contains-get_or ys k d h))) pairs

-- what is said of the features of each run
abbrev pub IsFine : FeatureParts → Type 0
IsFine f = IsLegalElement (element_of f) × AreRunFeatures f

is_x : All IsScalar (codes "x")
is_x = All-cons IsScalar 0x78 [] refl (All-nil IsScalar)

plain_is_fine : IsFine plain
unfolding IsStrictlySortedBy
plain_is_fine = (
  record {
    kind = is_x;
    attributes = All-nil _;
    names = λ i j d less h e. absurd (omega arith);
    links = λ e. absurd (false≢true e);
    controls = λ e. absurd (false≢true e);
  },
  record {
    kind = (is_x, λ e. (let q : 0x78 ∷ [] ≡ [] = e in cc));
    attributes = All-nil _;
    ascending = tt;
    flags = omega arith;
  },
)

-- A slot with all to its right: which ids it has, that these differ, and that it can be written in so many lines.
pub record Good (row : Runs) (ids : List (List ℕ)) (lines : ℕ) : Type 0 where
  pub values : values id_of (elements_on row none) ≡ ids
  pub differ : AllPairs ◌≢◌ ids
  pub writable : IsWritable row
  pub fine : AllRuns IsFine row
  pub few : (d : ℕ) → length (lines_of d row) ≤ lines

writable_plain : (n : ℕ) (row : Runs) → IsWritable row → IsWritable (plain_runs n row)
writable_plain zero row w = w
writable_plain (suc n) row w = (omega arith, (λ e. absurd (false≢true e)), tt, w)

fine_plain : (n : ℕ) (row : Runs) → AllRuns IsFine row → AllRuns IsFine (plain_runs n row)
fine_plain zero row w = w
fine_plain (suc n) row w = (plain_is_fine, tt, w)

few_plain : (n : ℕ) (row : Runs) (d : ℕ) → length (lines_of d (plain_runs n row)) ≤ suc (length (lines_of d row))
few_plain zero row d = omega arith
few_plain (suc n) row d = omega arith

-- slot 0
pub first_good : (f : FeatureParts) (a : ℕ) → IsFine f → Good (run 1 f done (plain_runs a done)) (cons_option (own_id f) []) 2
first_good f a fine = record {
  values = values_first id_of (element_of f) none (elements_on (plain_runs a done) none) ∙ own_append (own_id f) (values id_of (elements_on (plain_runs a done) none)) ∙ ap (cons_option (own_id f)) (plain_values a done);
  differ = pairs_more (own_id f) [] (λ y e h. Contains-nil y h) (λ i j d less h e. absurd (omega arith));
  writable = (omega arith, (λ e. refl), tt, writable_plain a done tt);
  fine = (fine, tt, fine_plain a done tt);
  few = λ d. (let h = few_plain a done d in omega arith);
}

-- the next slot
pub next_good : (s : SlotStep) (g : FeatureParts) (b b' a' : ℕ) (row : Runs) (ids : List (List ℕ)) (lines : ℕ) → IsFine g → ((id : List ℕ) → own_id g ≡ Some id → Contains ids id → ⊥) → Good row ids lines →
    Good (grown s g b b' a' row) (cons_option (own_id g) ids) (lines + 4)
next_good s g b b' a' row ids lines fine new good = record {
  values = grown_values s g b b' a' row ∙ ap (cons_option (own_id g)) good.values;
  differ = pairs_more (own_id g) ids new good.differ;
  writable = writable s;
  fine = all_fine s;
  few = few s;
}
  where
    writable : (s : SlotStep) → IsWritable (grown s g b b' a' row)
    writable NextTo = (omega arith, (λ e. refl), tt, writable_plain (b - suc b') row good.writable)
    writable Further = (omega arith, (λ e. refl), tt, writable_plain (b - suc b') row good.writable)
    writable UpOne = (omega arith, (λ e. refl), writable_plain b row good.writable, writable_plain a' done tt)
    writable UpMore = (omega arith, (λ e. refl), (omega arith, (λ e. refl), writable_plain b row good.writable, tt), writable_plain a' done tt)

    all_fine : (s : SlotStep) → AllRuns IsFine (grown s g b b' a' row)
    all_fine NextTo = (fine, tt, fine_plain (b - suc b') row good.fine)
    all_fine Further = (fine, tt, fine_plain (b - suc b') row good.fine)
    all_fine UpOne = (fine, fine_plain b row good.fine, fine_plain a' done tt)
    all_fine UpMore = (fine, (plain_is_fine, fine_plain b row good.fine, tt), fine_plain a' done tt)

    few : (s : SlotStep) (d : ℕ) → length (lines_of d (grown s g b b' a' row)) ≤ lines + 4
    few NextTo d = let h = few_plain (b - suc b') row d in let i = good.few d in omega arith
    few Further d = let h = few_plain (b - suc b') row d in let i = good.few d in omega arith
    few UpOne d =
        let h = few_plain b row (suc d) in let i = good.few (suc d) in let j = few_plain a' done d in
        let l = length-append (lines_of (suc d) (plain_runs b row)) (lines_of d (plain_runs a' done)) in omega arith
    few UpMore d =
        let h = few_plain b row (suc (suc d)) in let i = good.few (suc (suc d)) in let j = few_plain a' done d in
        let l = length-append (lines_of (suc d) (run 1 plain (plain_runs b row) done)) (lines_of d (plain_runs a' done)) in
        let m = length-append (lines_of (suc (suc d)) (plain_runs b row)) [] in omega arith

-- A whole tree: its root, the ids of its document, and that it can be written in so many lines.
pub record GoodTree (child : Bool) (t : Runs) (lines : ℕ) : Type 0 where
  pub features : FeatureParts
  pub children : Runs
  pub is : t ≡ run 1 features children done
  pub differ : AllPairs ◌≢◌ (ids_of (tree_document child t))
  pub writable : IsWritable children
  pub fine : AllRuns IsFine t
  pub few : length (lines_of 0 t) ≤ lines

-- the ids of a document are those of its root and of what stands below it
ids_are : (child : Bool) (f : FeatureParts) (children : Runs) → ids_of (tree_document child (run 1 f children done)) ≡ values id_of (elements_on (run 1 f children done) none)
ids_are child f children = ap (cons_option (own_id f)) (ap (filter_map id_of) (sym (append-nil (elements_below (elements_on children none)))))

-- from a slot on
pub good_from : (root child : Bool) (ss : List SlotStep) (b : ℕ) (bs : List ℕ) (a : ℕ) (aa : List ℕ) (f : FeatureParts) (fs : List FeatureParts) (p : Bool) (row : Runs) (i : ℕ) (ids : List (List ℕ)) (lines : ℕ) →
    CountsFit ss (b ∷ bs) (a ∷ aa) → length fs ≡ length ss → (root ≡ true → Ends ss aa i a) → Row f a p row → AllByRecursion IsFine fs → HaveNewIds ids fs → Good row ids lines →
    GoodTree child (tree_from root ss b bs aa fs row) (lines + (4 * length ss + 2))
good_from true child [] b bs a aa f fs p row i ids lines fit same end r fine new good =
    let e = end refl in
    let is : row ≡ run 1 f r.children done = r.is ∙ ap (λ t. run 1 f r.children t) (r.last e.1) in
    record {
      features = f;
      children = r.children;
      is = is;
      differ = subst (AllPairs ◌≢◌) (sym (ap (λ t. ids_of (tree_document child t)) is ∙ ids_are child f r.children ∙ ap (λ t. values id_of (elements_on t none)) (sym is) ∙ good.values)) good.differ;
      writable = (subst IsWritable is good.writable).2;
      fine = good.fine;
      few = (let h = good.few 0 in omega arith);
    }
good_from false child [] b bs a aa f fs p row i ids lines fit same end r fine new good = record {
  features = plain;
  children = plain_runs b row;
  is = refl;
  differ = subst (AllPairs ◌≢◌) (sym (plain_values b row ∙ good.values)) good.differ;
  writable = writable_plain b row good.writable;
  fine = (plain_is_fine, fine_plain b row good.fine, tt);
  few = (let h = good.few 1 in let i = few_plain b row 1 in let l = length-append (lines_of 1 (plain_runs b row)) [] in omega arith);
}
good_from root child (s ∷ ss) b [] a aa f fs p row i ids lines fit same end r fine new good = absurd fit
good_from root child (s ∷ ss) b (b' ∷ bs) a [] f fs p row i ids lines fit same end r fine new good = absurd fit
good_from root child (s ∷ ss) b (b' ∷ bs) a (a' ∷ aa) f [] p row i ids lines fit same end r fine new good = absurd (omega arith)
good_from root child (s ∷ ss) b (b' ∷ bs) a (a' ∷ aa) f (g ∷ fs) p row i ids lines fit same end r fine new good =
    subst (GoodTree child (tree_from root ss b' bs aa fs (grown s g b b' a' row))) (let e : (lines + 4) + (4 * length ss + 2) ≡ lines + (4 * suc (length ss) + 2) = omega arith in e)
    (good_from root child ss b' bs a' aa g fs (is_up s) (grown s g b b' a' row) 0 (cons_option (own_id g) ids) (lines + 4) fit.1 (omega arith) (λ h. ends_on s ss a' aa i 0 a (λ up. refl) (end h)) (next_row s f g a a' b b' p row fit.0 r) fine.1 new.1
    (next_good s g b b' a' row ids lines fine.0 new.0 good))
