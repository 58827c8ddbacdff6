-- The document of a shape shows that its two selectors meet, and is short.
use Rattle.std.proofs.Common.{Bool, List, None, Option, Some, [], ap, arith, false, get_or, inl, inr, length, refl, subst, suc, sym, true, zero, ℕ, ◌&&◌, ◌*◌, ◌++◌, ◌+◌, ◌<◌, ◌∙◌, ◌∷◌, ◌≡◌, ◌≢◌, ◌≤◌, ◌⊎◌}
use Rattle.std.proofs.lemmas.Bool.{eq-eqb, eqb-true, false≢true}
use Rattle.std.proofs.lemmas.List.{append-nil, get_or-append-add, get_or_append_left, length-append}
use Rattle.std.proofs.lemmas.List.Elements.{All-from_recursion}
use Rattle.std.specs.List.{All, AllByRecursion, AllPairs, AllZip, cons_option}
use Rattle.std.specs.Prelude.{Contains, IsSomeAnd, if◌then◌else◌, ◌==◌}
use Rattle.css_model.specs.declared.example.Example.{Example}
use Rattle.css_model.specs.Documents.Document.{Document, ElementAt, IsLegal, IsLegalElement, element_at, elements_of, ids_of, none}
use Rattle.css_model.specs.Documents.FeatureParts.{FeatureParts}
use Rattle.css_model.specs.Documents.Features.{element_of}
use Rattle.css_model.specs.Documents.Matching.{CompoundHolds, MatchesFrom, SimpleHolds}
use Rattle.css_model.specs.Documents.RunDocuments.{AreRunFeatures, expand}
use Rattle.css_model.specs.Documents.SelectorParts.{SelectorParts}
use Rattle.css_model.specs.declared.selector.Combinator.{Combinator}
use Rattle.css_model.specs.declared.selector.Simple.{Simple}
use Rattle.shape_laws.proofs.Document.Climbing.{row_form}
use Rattle.shape_laws.proofs.Document.Elements.{GoodTree, IsFine, first_good, good_from}
use Rattle.shape_laws.proofs.Document.Marked.{LeadsTo, leads_first, leads_from}
use Rattle.shape_laws.proofs.Document.Matching.{matches_in}
use Rattle.shape_laws.proofs.Document.Paths.{AllInRow, Ends, InRow, parent_at, path_from, slot_path}
use Rattle.shape_laws.proofs.Document.Standing.{SlotAt, first_row, parent_is, slots_at, tree_document}
use Rattle.shape_laws.proofs.Document.Tests.{StandsAt, all_hold}
use Rattle.shape_laws.specs.Document.Laws.{ShowsMeeting}
use Rattle.shape_laws.specs.Document.SlotElements.{AreSlotElements, EachFrom, HaveNewIds, SuitsSlot, own_id}
use Rattle.shape_laws.specs.Document.Trees.{example_of, line_from, line_with, marked_line, plain, plain_runs, tree_from, tree_of, tree_with}
use Rattle.cascade_laws.proofs.ForCallers.{all_elements, all_lines, expands_document, keeps_rules}
use Rattle.cascade_laws.specs.Line.Runs.{AllRuns, IsWritable, Runs, done, lines_of, run}
use Rattle.list_facts.proofs.Elements.{all_in, all_with, member}
use Rattle.list_facts.proofs.Members.{Contains-here, Contains-there}
use Rattle.shape_laws.proofs.Gaps.FewSlots.{slots_few, slots_length}
use Rattle.slot_plan.specs.Counts.{CountsFit}
use Rattle.slot_plan.specs.Positions.{PositionFits}
use Rattle.slot_plan.specs.ShapeParts.{ShapeParts}
use Rattle.slot_plan.specs.Steps.{IsUp, is_parent, is_up}
use Rattle.slot_plan.specs.ValidShape.{Ascend, SlotsOf, ValidShape, is_root_slot, simples_at, simples_in}
use Rattle.slot_plan.specs.declared.shape.SlotStep.{SlotStep}
use Rattle.slot_plan.specs.declared.shape.SlotStep.TheVariants.{Further, NextTo, UpMore, UpOne}

-- ---- The root

-- a step that leads up
up_is : (s : SlotStep) → is_up s ≡ true → IsUp s
up_is NextTo e = false≢true e
up_is Further e = false≢true e
up_is UpOne e = tt
up_is UpMore e = tt

-- where the last slot can be the root's, the shape ends there
ends_of : (ss : List SlotStep) (b : ℕ) (bs : List ℕ) (a : ℕ) (aa : List ℕ) → CountsFit ss (b ∷ bs) (a ∷ aa) → (length ss ≡ 0) ⊎ (is_parent ss (length ss) ≡ true) → get_or (a ∷ aa) (length ss) 0 ≡ 0 → Ends ss aa 0 a
ends_of [] b bs a aa fit line none_behind = (refl, none_behind)
ends_of (s ∷ ss) b [] a aa fit line none_behind = absurd fit
ends_of (s ∷ ss) b (b' ∷ bs) a [] fit line none_behind = absurd fit
ends_of (s ∷ []) b (b' ∷ bs) a (a' ∷ aa) fit line none_behind = (elim line [ inl e ↦ absurd (omega arith) | inr e ↦ up_is s e ], none_behind)
ends_of (s ∷ t ∷ ss) b (b' ∷ bs) a (a' ∷ aa) fit line none_behind = more (ends_of (t ∷ ss) b' bs a' aa fit.1 (elim line [ inl e ↦ absurd (omega arith) | inr e ↦ inr e ]) none_behind)
  where
    more : Ends (t ∷ ss) aa 0 a' → Ends (t ∷ ss) aa 0 0
    more = same ss aa
      where
        same : (ss : List SlotStep) (aa : List ℕ) → Ends (t ∷ ss) aa 0 a' → Ends (t ∷ ss) aa 0 0
        same [] [] end = end
        same [] (x ∷ xs) end = end
        same (u ∷ us) [] end = end
        same (u ∷ us) (x ∷ xs) end = end

-- a row ends in a step up
in_row : (root : Bool) (ss : List SlotStep) (aa : List ℕ) (s : SlotStep) (a : ℕ) → (root ≡ true → Ends (s ∷ ss) aa 0 a) → InRow root (s ∷ ss)
in_row root ss aa UpOne a end = tt
in_row root ss aa UpMore a end = tt
in_row false [] aa NextTo a end = refl
in_row false [] aa Further a end = refl
in_row true [] [] NextTo a end = absurd (end refl)
in_row true [] [] Further a end = absurd (end refl)
in_row true [] (a' ∷ aa) NextTo a end = absurd (end refl).0
in_row true [] (a' ∷ aa) Further a end = absurd (end refl).0
in_row root (t ∷ ss) [] NextTo a end = in_row root ss [] t 0 (λ e. absurd (end e))
in_row root (t ∷ ss) [] Further a end = in_row root ss [] t 0 (λ e. absurd (end e))
in_row root (t ∷ ss) (a' ∷ aa) NextTo a end = in_row root ss aa t 0 end
in_row root (t ∷ ss) (a' ∷ aa) Further a end = in_row root ss aa t 0 end

all_in_row : (root : Bool) (ss : List SlotStep) (aa : List ℕ) (a : ℕ) → (root ≡ true → Ends ss aa 0 a) → AllInRow root ss
all_in_row root [] aa a end = tt
all_in_row root (s ∷ []) aa a end = (in_row root [] aa s a end, tt)
all_in_row root (s ∷ t ∷ ss) [] a end = (in_row root (t ∷ ss) [] s a end, all_in_row root (t ∷ ss) [] 0 (λ e. absurd (end e)))
all_in_row root (s ∷ t ∷ ss) (a' ∷ aa) a end = (in_row root (t ∷ ss) (a' ∷ aa) s a end, all_in_row root (t ∷ ss) aa 0 end)

-- where each slot stands
slot_stands : (root : Bool) (ss : List SlotStep) (b : ℕ) (bs : List ℕ) (a : ℕ) (aa : List ℕ) (k : ℕ) → CountsFit ss (b ∷ bs) (a ∷ aa) → AllInRow root ss → k ≤ length ss →
    StandsAt (slot_path root ss b bs k) (root && (k == length ss)) (get_or (b ∷ bs) k 0)
slot_stands true [] b bs a aa zero fit rows h = record { root = λ e. refl; child = λ e. absurd (false≢true (sym e)) }
slot_stands false [] b bs a aa zero fit rows h = record { root = λ e. absurd (false≢true e); child = λ e. ([], ap (λ (n : ℕ). n ∷ []) (let q : b + 0 ≡ b = omega arith in q)) }
slot_stands root [] b bs a aa (suc k) fit rows h = absurd (omega arith)
slot_stands root (s ∷ ss) b bs a aa zero fit rows h = record {
  root = λ e. absurd (not_last root e);
  child = λ e. (let form = row_form root (s ∷ ss) b bs a aa fit rows.0 in (form.0, form.1 0 ∙ ap (λ (n : ℕ). form.0 ++ n ∷ []) (let q : b + 0 ≡ b = omega arith in q)));
}
  where
    not_last : (root : Bool) → (root && (0 == suc (length ss))) ≡ true → ⊥
    not_last true e = let q : 0 ≡ suc (length ss) = eqb-true 0 (suc (length ss)) e in omega arith
    not_last false e = false≢true e
slot_stands root (s ∷ ss) b [] a aa (suc k) fit rows h = absurd fit
slot_stands root (s ∷ ss) b (b' ∷ bs) a [] (suc k) fit rows h = absurd fit
slot_stands root (s ∷ ss) b (b' ∷ bs) a (a' ∷ aa) (suc k) fit rows h =
    subst (λ r. StandsAt (slot_path root ss b' bs k) (root && r) (get_or (b' ∷ bs) k 0)) (let e : (k == length ss) ≡ (suc k == suc (length ss)) = same k (length ss) in e)
    (slot_stands root ss b' bs a' aa k fit.1 rows.1 (omega arith))
  where
    same : (m n : ℕ) → (m == n) ≡ (suc m == suc n)
    same m n = by (m == n) refl
      where
        by : (r : Bool) → (m == n) ≡ r → r ≡ (suc m == suc n)
        by true e = sym (eq-eqb (suc m) (suc n) (ap suc (eqb-true m n e)))
        by false e = grind arith

-- ---- The compounds

-- what holds of the element in each slot, by its number
each_at : (P : ℕ → FeatureParts → Type 0) (n : ℕ) (fs : List FeatureParts) (k : ℕ) → EachFrom n P fs → k < length fs → P (n + k) (get_or fs k plain)
each_at P n [] k h less = absurd (omega arith)
each_at P n (f ∷ fs) zero h less = subst (λ (m : ℕ). P m f) (let e : n ≡ n + 0 = omega arith in e) h.0
each_at P n (f ∷ fs) (suc k) h less = subst (λ (m : ℕ). P m (get_or fs k plain)) (let e : suc n + k ≡ n + suc k = omega arith in e) (each_at P (suc n) fs k h.1 (omega arith))

-- a later slot has a greater number
later_slots : (p : ℕ) (ps : List ℕ) → Ascend p ps → AllByRecursion (λ q. p < q) ps
later_slots p [] up = tt
later_slots p (q ∷ qs) (less, up) = (less, all_with (λ r. q < r) (λ r. p < r) (λ r h. omega arith) qs (later_slots q qs up))

-- slots that ascend
abbrev Rises : List ℕ → Type 0
Rises [] = Unit {0}
Rises (p ∷ ps) = Ascend p ps

rises_on : (p : ℕ) (ps : List ℕ) → Ascend p ps → Rises ps
rises_on p [] up = tt
rises_on p (q ∷ qs) up = up.1

-- what holds of the simple selectors in each slot of a chain holds of its compounds
compounds : (P : ℕ → List Simple → Type 0) (chain : List (List Simple)) (ps : List ℕ) → length ps ≡ length chain → Rises ps →
    ((k : ℕ) → Contains ps k → P k (simples_at chain ps k)) → AllZip (λ c k. P k c) chain ps
compounds P [] [] same up holds = tt
compounds P (c ∷ chain) [] same up holds = absurd (omega arith)
compounds P [] (p ∷ ps) same up holds = absurd (omega arith)
compounds P (c ∷ chain) (p ∷ ps) same up holds = (here, compounds P chain ps (omega arith) (rises_on p ps up) behind)
  where
    here : P p c
    here = subst (P p) (ap (λ b. if b then c else simples_at chain ps p) (eq-eqb p p refl)) (holds p (Contains-here p ps))

    behind : (k : ℕ) → Contains ps k → P k (simples_at chain ps k)
    behind k in' =
        let less = member (λ r. p < r) ps k (later_slots p ps up) in' in
        subst (P k) (ap (λ b. if b then c else simples_at chain ps k) (let e : (p == k) ≡ false = not_same p k less in e)) (holds k (Contains-there p ps k in'))
      where
        not_same : (m n : ℕ) → m < n → (m == n) ≡ false
        not_same m n h = grind arith

-- one selector
one_matches : (doc : Document) (root : Bool) (ss : List SlotStep) (b : ℕ) (bs : List ℕ) (a : ℕ) (aa : List ℕ) (chain : List (List Simple)) (links : List Combinator) (slots : List ℕ) →
    CountsFit ss (b ∷ bs) (a ∷ aa) → AllInRow root ss → SlotsOf chain links ss slots → ((k : ℕ) → Contains slots k → k ≤ length ss) →
    ((k : ℕ) → k ≤ length ss → CompoundHolds doc (slot_path root ss b bs k) (simples_at chain slots k)) → MatchesFrom doc chain links (slot_path root ss b bs 0)
one_matches doc root ss b bs a aa chain links [] fit rows of inside holds = absurd of
one_matches doc root ss b bs a aa chain links (p ∷ ps) fit rows (first', up, same, links_fit) inside holds =
    subst (λ (n : ℕ). MatchesFrom doc chain links (slot_path root ss b bs n)) first'
    (matches_in doc root ss b bs a aa chain links p ps fit rows links_fit up
    (all_with (Contains ps) (λ q. q ≤ length ss) (λ q in'. inside q (Contains-there p ps q in')) ps (all_in ps))
    (compounds (λ k c. CompoundHolds doc (slot_path root ss b bs k) c) chain (p ∷ ps) same up (λ k in'. holds k (inside k in'))))

-- what holds of the members of two lists, one behind the other, holds of those of each
all_left : {X : Type 0} (P : X → Type 0) (xs ys : List X) → All P (xs ++ ys) → All P xs
all_left P xs ys h k d less = subst P (get_or_append_left xs ys d k less) (h k d (let l = length-append xs ys in omega arith))

all_right : {X : Type 0} (P : X → Type 0) (xs ys : List X) → All P (xs ++ ys) → All P ys
all_right P xs ys h k d less = subst P (get_or-append-add xs ys k d) (h (length xs + k) d (let l = length-append xs ys in omega arith))

-- ---- The whole

-- the parts of a shape and its elements
pub record Parts (shape : ShapeParts) (elements : List FeatureParts) : Type 0 where
  pub b : ℕ
  pub bs : List ℕ
  pub a : ℕ
  pub aa : List ℕ
  pub f : FeatureParts
  pub fs : List FeatureParts
  pub before : shape.before ≡ b ∷ bs
  pub after : shape.after ≡ a ∷ aa
  pub each : elements ≡ f ∷ fs
  pub fit : CountsFit shape.steps (b ∷ bs) (a ∷ aa)
  pub same : length fs ≡ length shape.steps

-- the numbers of siblings, one for each slot
counts_some : (ss : List SlotStep) (before after : List ℕ) → CountsFit ss before after → (b : ℕ) × (bs : List ℕ) × (a : ℕ) × (aa : List ℕ) × (before ≡ b ∷ bs) × (after ≡ a ∷ aa)
counts_some [] (b ∷ []) (a ∷ []) fit = (b, [], a, [], refl, refl)
counts_some [] [] aa fit = absurd fit
counts_some [] (b ∷ []) [] fit = absurd fit
counts_some [] (b ∷ []) (a ∷ a' ∷ aa) fit = absurd fit
counts_some [] (b ∷ b' ∷ bs) aa fit = absurd fit
counts_some (s ∷ ss) [] aa fit = absurd fit
counts_some (s ∷ ss) (b ∷ []) aa fit = absurd fit
counts_some (s ∷ ss) (b ∷ b' ∷ bs) [] fit = absurd fit
counts_some (s ∷ ss) (b ∷ b' ∷ bs) (a ∷ []) fit = absurd fit
counts_some (s ∷ ss) (b ∷ b' ∷ bs) (a ∷ a' ∷ aa) fit = (b, b' ∷ bs, a, a' ∷ aa, refl, refl)

parts : (shape : ShapeParts) (elements : List FeatureParts) → CountsFit shape.steps shape.before shape.after → length elements ≡ suc (length shape.steps) → Parts shape elements
parts shape elements fit count = by elements refl
  where
    some : (b : ℕ) × (bs : List ℕ) × (a : ℕ) × (aa : List ℕ) × (shape.before ≡ b ∷ bs) × (shape.after ≡ a ∷ aa)
    some = counts_some shape.steps shape.before shape.after fit

    by : (fs : List FeatureParts) → elements ≡ fs → Parts shape elements
    by [] e = absurd (let l : length elements ≡ 0 = ap length e in omega arith)
    by (f ∷ fs) e = record {
      b = some.0;
      bs = some.1;
      a = some.2;
      aa = some.3;
      f = f;
      fs = fs;
      before = some.4;
      after = some.5;
      each = e;
      fit = subst (λ bs. CountsFit shape.steps bs (some.2 ∷ some.3)) some.4 (subst (λ aa. CountsFit shape.steps shape.before aa) some.5 fit);
      same = (let l : length elements ≡ suc (length fs) = ap length e in omega arith);
    }

-- the tree of a shape, from slot 0 on
abbrev pub grown_tree : (shape : ShapeParts) (elements : List FeatureParts) → Parts shape elements → Runs
grown_tree shape elements q = tree_from shape.top_is_root shape.steps q.b q.bs q.aa q.fs (run 1 q.f done (plain_runs q.a done))

tree_is : (shape : ShapeParts) (elements : List FeatureParts) (q : Parts shape elements) → tree_of shape elements ≡ grown_tree shape elements q
tree_is shape elements q =
    ap (λ l. tree_with shape.top_is_root shape.steps l shape.after elements) q.before
    ∙ ap (λ l. tree_with shape.top_is_root shape.steps (q.b ∷ q.bs) l elements) q.after
    ∙ ap (λ l. tree_with shape.top_is_root shape.steps (q.b ∷ q.bs) (q.a ∷ q.aa) l) q.each

-- the last slot, where it is the root's
ending : (x y : SelectorParts) (shape : ShapeParts) (elements : List FeatureParts) (q : Parts shape elements) → ValidShape x y shape → shape.top_is_root ≡ true → Ends shape.steps q.aa 0 q.a
ending x y shape elements q v e =
    let r = v.root e in
    ends_of shape.steps q.b q.bs q.a q.aa q.fit r.on_line (sym (ap (λ l. get_or l (length shape.steps) 0) q.after) ∙ r.after)

-- what holds of each element holds of those of all slots
fine_all : (P : ℕ → FeatureParts → Type 0) → ((k : ℕ) (f : FeatureParts) → P k f → IsFine f) → (n : ℕ) (fs : List FeatureParts) → EachFrom n P fs → AllByRecursion IsFine fs
fine_all P each n [] h = tt
fine_all P each n (f ∷ fs) h = (each n f h.0, fine_all P each (suc n) fs h.1)

-- the tree is good
good_tree : (x y : SelectorParts) (shape : ShapeParts) (elements : List FeatureParts) (q : Parts shape elements) → ValidShape x y shape → AreSlotElements x y shape elements →
    GoodTree shape.root_is_child (grown_tree shape elements q) (2 + (4 * length shape.steps + 2))
good_tree x y shape elements q v s =
    good_from shape.top_is_root shape.root_is_child shape.steps q.b q.bs q.a q.aa q.f q.fs false (run 1 q.f done (plain_runs q.a done)) 0 (cons_option (own_id q.f) []) 2
    q.fit q.same (ending x y shape elements q v) (first_row q.f q.a) fine.1 ids.1 (first_good q.f q.a fine.0)
  where
    fine : IsFine q.f × AllByRecursion IsFine q.fs
    fine = fine_all (λ k f. SuitsSlot (is_parent shape.steps k) (simples_in x y shape k) f) (λ k f h. (h.legal, h.written)) 0 (q.f ∷ q.fs)
        (subst (EachFrom 0 (λ k f. SuitsSlot (is_parent shape.steps k) (simples_in x y shape k) f)) q.each s.each)

    ids : HaveNewIds [] (q.f ∷ q.fs)
    ids = subst (HaveNewIds []) q.each s.ids

-- all that is asked of a slot holds there
slot_holds : (x y : SelectorParts) (shape : ShapeParts) (elements : List FeatureParts) (q : Parts shape elements) (v : ValidShape x y shape) (s : AreSlotElements x y shape elements) (g : GoodTree shape.root_is_child (grown_tree shape elements q) (2 + (4 * length shape.steps + 2))) (k : ℕ) → k ≤ length shape.steps →
    CompoundHolds (tree_document shape.root_is_child (run 1 g.features g.children done)) (slot_path shape.top_is_root shape.steps q.b q.bs k) (simples_in x y shape k)
slot_holds x y shape elements q v s g k h =
    subst (λ o. IsSomeAnd o (λ here. All (λ s. SimpleHolds doc path here s) (simples_in x y shape k))) (sym slot.is)
    (all_hold doc path (get_or (q.f ∷ q.fs) k plain) (get_or (q.a ∷ q.aa) k 0) (get_or (q.b ∷ q.bs) k 0) (is_root_slot shape k) (is_parent shape.steps k) (simples_in x y shape k) slot
    (slot_stands shape.top_is_root shape.steps q.b q.bs q.a q.aa k q.fit (all_in_row shape.top_is_root shape.steps q.aa q.a (ending x y shape elements q v)) h)
    (subst (λ (n : ℕ). SuitsSlot (is_parent shape.steps n) (simples_in x y shape n) (get_or (q.f ∷ q.fs) k plain)) (let e : 0 + k ≡ k = omega arith in e)
    (each_at (λ k f. SuitsSlot (is_parent shape.steps k) (simples_in x y shape k) f) 0 (q.f ∷ q.fs) k
    (subst (EachFrom 0 (λ k f. SuitsSlot (is_parent shape.steps k) (simples_in x y shape k) f)) q.each s.each) (let e = q.same in omega arith)))
    (v.empties k h)
    (subst (λ l. All (PositionFits (is_root_slot shape k) shape.root_is_child (get_or l k 0) (get_or (q.a ∷ q.aa) k 0)) (simples_in x y shape k)) q.before
    (subst (λ l. All (PositionFits (is_root_slot shape k) shape.root_is_child (get_or shape.before k 0) (get_or l k 0)) (simples_in x y shape k)) q.after
    (v.positions k h))))
  where
    doc : Document
    doc = tree_document shape.root_is_child (run 1 g.features g.children done)

    path : List ℕ
    path = slot_path shape.top_is_root shape.steps q.b q.bs k

    slot : SlotAt doc path (get_or (q.f ∷ q.fs) k plain) (get_or (q.a ∷ q.aa) k 0) (is_parent shape.steps k)
    slot =
        subst (λ p. SlotAt doc path (get_or (q.f ∷ q.fs) k plain) (get_or (q.a ∷ q.aa) k 0) p) (parent_is shape.steps k)
        (subst (λ t. SlotAt (tree_document shape.root_is_child t) path (get_or (q.f ∷ q.fs) k plain) (get_or (q.a ∷ q.aa) k 0) (parent_at false shape.steps k)) g.is
        (slots_at shape.top_is_root shape.root_is_child shape.steps q.b q.bs q.a q.aa q.f q.fs false (run 1 q.f done (plain_runs q.a done)) q.fit q.same (ending x y shape elements q v) (first_row q.f q.a) k h))

-- an example of a tree
abbrev pub tree_example : SelectorParts → Bool → Runs → ℕ → Example
tree_example x child t n = record { doc = record { root_is_child = child; lines = lines_of 0 t }; marked = n; pseudo = x.pseudo }

-- what holds of the features of each run, from what does
runs_with : (P Q : FeatureParts → Type 0) → ((f : FeatureParts) → P f → Q f) → (t : Runs) → AllRuns P t → AllRuns Q t
runs_with P Q each done h = tt
runs_with P Q each (run n f c l) (here, below, behind) = (each f here, runs_with P Q each c below, runs_with P Q each l behind)

shows_tree : (x y : SelectorParts) (child : Bool) (f : FeatureParts) (c : Runs) (n : ℕ) (path : List ℕ) → LeadsTo (run 1 f c done) n path → IsWritable c → AllRuns IsFine (run 1 f c done) →
    AllPairs ◌≢◌ (ids_of (tree_document child (run 1 f c done))) → MatchesFrom (tree_document child (run 1 f c done)) x.chain x.links path → MatchesFrom (tree_document child (run 1 f c done)) y.chain y.links path → x.pseudo ≡ y.pseudo →
    ShowsMeeting x y (tree_example x child (run 1 f c done) n)
shows_tree x y child f c n path leads writable fine differ left right pseudo = record {
  rules = record {
    lines = keeps_rules f c writable;
    features = All-from_recursion (λ l. AreRunFeatures l.element) (lines_of 0 (run 1 f c done))
        (subst (AllByRecursion (λ l. AreRunFeatures l.element)) (append-nil (lines_of 0 (run 1 f c done)))
        (all_lines AreRunFeatures (run 1 f c done) 0 [] (runs_with IsFine AreRunFeatures (λ f h. h.1) (run 1 f c done) fine) tt));
    marked = leads.single;
  };
  legal = subst IsLegal (sym doc) (record {
    elements = All-from_recursion IsLegalElement (elements_of (tree_document child (run 1 f c done)))
        (fine.0.0, all_elements IsLegalElement c none (runs_with IsFine (λ f. IsLegalElement (element_of f)) (λ f h. h.0) c fine.1) tt);
    ids = differ;
  });
  left = record { pseudo = refl; element = subst (λ p. MatchesFrom (expand (tree_example x child (run 1 f c done) n)) x.chain x.links p) (sym leads.at) (subst (λ d. MatchesFrom d x.chain x.links path) (sym doc) left) };
  right = record { pseudo = pseudo; element = subst (λ p. MatchesFrom (expand (tree_example x child (run 1 f c done) n)) y.chain y.links p) (sym leads.at) (subst (λ d. MatchesFrom d y.chain y.links path) (sym doc) right) };
}
  where
    doc : expand (tree_example x child (run 1 f c done) n) ≡ tree_document child (run 1 f c done)
    doc = expands_document child f c

pub shows : (x y : SelectorParts) (shape : ShapeParts) (elements : List FeatureParts) → ValidShape x y shape → AreSlotElements x y shape elements → ShowsMeeting x y (example_of x.pseudo shape elements)
shows x y shape elements v s =
    subst (λ t. ShowsMeeting x y (tree_example x shape.root_is_child t (marked_line shape))) (sym (tree_is shape elements q ∙ g.is))
    (subst (λ (n : ℕ). ShowsMeeting x y (tree_example x shape.root_is_child (run 1 g.features g.children done) n)) (sym (ap (line_with shape.top_is_root shape.steps) q.before))
    (shows_tree x y shape.root_is_child g.features g.children (line_from shape.top_is_root shape.steps q.b q.bs 0) (path_from shape.top_is_root shape.steps q.b q.bs 0 [])
    (subst (λ t. LeadsTo t (line_from shape.top_is_root shape.steps q.b q.bs 0) (path_from shape.top_is_root shape.steps q.b q.bs 0 [])) g.is
    (leads_from shape.top_is_root shape.steps q.b q.bs q.a q.aa q.f q.fs false (run 1 q.f done (plain_runs q.a done)) 0 0 [] q.fit q.same end (first_row q.f q.a) (leads_first q.f done (plain_runs q.a done))))
    g.writable (subst (AllRuns IsFine) g.is g.fine) (subst (λ t. AllPairs ◌≢◌ (ids_of (tree_document shape.root_is_child t))) g.is g.differ)
    (one_matches doc shape.top_is_root shape.steps q.b q.bs q.a q.aa x.chain x.links shape.left q.fit rows v.left (λ k in'. v.inside k (inl in'))
    (λ k h. half k (simples_in x y shape k) (simples_at x.chain shape.left k) (λ here. all_left (λ s. SimpleHolds doc (slot_path shape.top_is_root shape.steps q.b q.bs k) here s) (simples_at x.chain shape.left k) (simples_at y.chain shape.right k)) (holds k h)))
    (one_matches doc shape.top_is_root shape.steps q.b q.bs q.a q.aa y.chain y.links shape.right q.fit rows v.right (λ k in'. v.inside k (inr in'))
    (λ k h. half k (simples_in x y shape k) (simples_at y.chain shape.right k) (λ here. all_right (λ s. SimpleHolds doc (slot_path shape.top_is_root shape.steps q.b q.bs k) here s) (simples_at x.chain shape.left k) (simples_at y.chain shape.right k)) (holds k h)))
    v.pseudo))
  where
    q : Parts shape elements
    q = parts shape elements v.counts s.count

    g : GoodTree shape.root_is_child (grown_tree shape elements q) (2 + (4 * length shape.steps + 2))
    g = good_tree x y shape elements q v s

    end : shape.top_is_root ≡ true → Ends shape.steps q.aa 0 q.a
    end = ending x y shape elements q v

    rows : AllInRow shape.top_is_root shape.steps
    rows = all_in_row shape.top_is_root shape.steps q.aa q.a end

    doc : Document
    doc = tree_document shape.root_is_child (run 1 g.features g.children done)

    holds : (k : ℕ) → k ≤ length shape.steps → CompoundHolds doc (slot_path shape.top_is_root shape.steps q.b q.bs k) (simples_in x y shape k)
    holds k h = slot_holds x y shape elements q v s g k h

    half : (k : ℕ) (c d : List Simple) → ((here : ElementAt) → All (λ s. SimpleHolds doc (slot_path shape.top_is_root shape.steps q.b q.bs k) here s) c → All (λ s. SimpleHolds doc (slot_path shape.top_is_root shape.steps q.b q.bs k) here s) d) →
        CompoundHolds doc (slot_path shape.top_is_root shape.steps q.b q.bs k) c → CompoundHolds doc (slot_path shape.top_is_root shape.steps q.b q.bs k) d
    half k c d f = by (element_at doc (slot_path shape.top_is_root shape.steps q.b q.bs k))
      where
        by : (o : Option ElementAt) → IsSomeAnd o (λ here. All (λ s. SimpleHolds doc (slot_path shape.top_is_root shape.steps q.b q.bs k) here s) c) → IsSomeAnd o (λ here. All (λ s. SimpleHolds doc (slot_path shape.top_is_root shape.steps q.b q.bs k) here s) d)
        by None h = h
        by (Some here) h = f here h

pub short : (x y : SelectorParts) (shape : ShapeParts) (elements : List FeatureParts) → ValidShape x y shape → AreSlotElements x y shape elements → length (lines_of 0 (tree_of shape elements)) ≤ 4 * (length x.chain + length y.chain) + 2
short x y shape elements v s =
    let q = parts shape elements v.counts s.count in
    let few : length (lines_of 0 (tree_of shape elements)) ≤ 2 + (4 * length shape.steps + 2) = subst (λ t. length (lines_of 0 t) ≤ 2 + (4 * length shape.steps + 2)) (sym (tree_is shape elements q)) (good_tree x y shape elements q v s).few in
    let slots = slots_few x y shape v in
    let left = slots_length x.chain x.links shape.steps shape.left v.left in
    let right = slots_length y.chain y.links shape.steps shape.right v.right in
    omega arith
