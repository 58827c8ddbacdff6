-- The elements of a tree of runs: what holds of each, and which values they have.
use Rattle.std.proofs.Common.{List, None, Option, Some, [], ap, refl, suc, zero, ℕ, ◌++◌, ◌∙◌, ◌∷◌, ◌≡◌}
use Rattle.std.proofs.lemmas.List.Elements.{filter_map-append}
use Rattle.std.specs.List.{AllByRecursion, cons_option, filter_map}
use Rattle.css_model.specs.Documents.Document.{Element, Siblings, elements_below, first, none}
use Rattle.css_model.specs.Documents.Features.{element_of}
use Rattle.css_model.specs.Documents.RunDocuments.{repeated}
use Rattle.cascade_laws.specs.Line.Runs.{AllRuns, Runs, done, elements_on, run}

-- what holds of the members of two lists holds of those of both, one behind the other
pub all_append : {X : Type 0} (P : X → Type 0) (xs ys : List X) → AllByRecursion P xs → AllByRecursion P ys → AllByRecursion P (xs ++ ys)
all_append P [] ys h h' = h'
all_append P (x ∷ xs) ys (here, h) h' = (here, all_append P xs ys h h')

-- what holds of an element, of those in it and of those behind it holds of so many copies
all_repeated : (P : Element → Type 0) (n : ℕ) (e : Element) (children later : Siblings) → P e → AllByRecursion P (elements_below children) → AllByRecursion P (elements_below later) →
    AllByRecursion P (elements_below (repeated n e children later))
all_repeated P zero e children later here below behind = behind
all_repeated P (suc n) e children later here below behind =
    (here, all_append P (elements_below children) (elements_below (repeated n e children later)) below (all_repeated P n e children later here below behind))

-- what holds of the features of each run holds of each element
pub all_elements : (P : Element → Type 0) (t : Runs) (others : Siblings) → AllRuns (λ f. P (element_of f)) t → AllByRecursion P (elements_below others) → AllByRecursion P (elements_below (elements_on t others))
all_elements P done others h rest = rest
all_elements P (run n f c l) others (here, below, behind) rest =
    all_repeated P n (element_of f) (elements_on c none) (elements_on l others) here (all_elements P c none below tt) (all_elements P l others behind rest)

-- the values that elements have
abbrev pub values : {Y : Type 0} → (Element → Option Y) → Siblings → List Y
values f s = filter_map f (elements_below s)

-- the value of one element, as a list
abbrev pub own : {Y : Type 0} → Option Y → List Y
own o = cons_option o []

-- those of a first sibling, of what stands in it, and of its later siblings
pub values_first : {Y : Type 0} (f : Element → Option Y) (e : Element) (children later : Siblings) → values f (first e children later) ≡ own (f e) ++ (values f children ++ values f later)
values_first f e children later = ap (cons_option (f e)) (filter_map-append f (elements_below children) (elements_below later)) ∙ by (f e)
  where
    by : (o : Option _) → cons_option o (values f children ++ values f later) ≡ cons_option o [] ++ (values f children ++ values f later)
    by None = refl
    by (Some y) = refl

-- copies without a value and without children add none
pub values_repeated : {Y : Type 0} (f : Element → Option Y) (n : ℕ) (e : Element) (later : Siblings) → f e ≡ None → values f (repeated n e none later) ≡ values f later
values_repeated f zero e later no_value = refl
values_repeated f (suc n) e later no_value =
    values_first f e none (repeated n e none later) ∙ ap (λ o. own o ++ ([] ++ values f (repeated n e none later))) no_value ∙ values_repeated f n e later no_value
