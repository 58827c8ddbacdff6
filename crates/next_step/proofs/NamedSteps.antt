-- Which step a candidate names.
use Rattle.std.proofs.Common.{◌≡◌, ℕ, zero, suc, ◌+◌, ◌<◌, ◌≤◌, ◌^◌, List, [], ◌∷◌, Some, None, length, sym, ap, ap₂, subst, ◌∙◌, arith}
use Rattle.std.specs.Prelude.{slice_get, slice_index}
use Rattle.cascade_laws.proofs.ForCallers.{some-same}
use Rattle.css_model.specs.declared.sheet.Item.{Item}
use Rattle.css_model.specs.declared.sheet.Item.TheVariants.{Rule, KeptRule, KeptBlock}
use Rattle.css_model.specs.Sheets.Limits.{max_bytes, max_items}
use Rattle.css_model.specs.Sheets.RuleParts.{RuleParts}
use Rattle.pending_laws.specs.Priorities.{named}
use Rattle.step_kinds.specs.declared.kind.Kind.{Kind}
use Rattle.step_kinds.specs.declared.kind.Kind.TheVariants.{DeclCut, SelCut, SelJoinUp, SelJoinDown, DeclJoinUp, DeclJoinDown, Sharing}
use Rattle.step_queue.specs.declared.candidate.Candidate.{Candidate}
use Rattle.step_queue.specs.Told.{candidate_told}
use Rattle.step_kinds.specs.StepsByKind.{kind_of, second_of, step_of_kind}
use Rattle.saved_bytes.specs.Savings.{IsSaving}
use Rattle.order_laws.specs.Edits.{Edit, edited}
use Rattle.indexed_sheet.specs.IndexedParts.{IndexedParts}
use Rattle.indexed_sheet.specs.declared.marks.Mark.{Mark}
use Rattle.indexed_sheet.specs.MarkList.{AreMarks}
use Rattle.plan_laws.specs.Plannable.{IsPlannable}
use Rattle.step_laws.specs.declared.step.Step.{Step}
use Rattle.step_laws.specs.declared.step.Step.TheVariants.{CutDecl, CutSel, JoinSelUp, JoinSelDown, JoinDeclUp, JoinDeclDown, Share}
use Rattle.step_laws.specs.Left.{PartsAreFew}
use Rattle.step_laws.specs.Sizes.{Saves, part_count, size}
use Rattle.step_laws.specs.Steps.{HasStep, IsStep, first_item}
use Rattle.indexed_sheet.specs.MarkList.{order_keys_of}
use Rattle.next_step.specs.Named.{IsStepOf, Names, NamesNone}
use Rattle.next_step.specs.Seconds.{HasSecond, second_name}
use Rattle.step_kinds.proofs.ForCallers.{made_of}
use Rattle.next_step.proofs.StepParts.{first_there, last_there, same_priority, second_there, priority_is}
use Rattle.next_step.proofs.Telling.{order_key_is_at, number_is}

-- ---- Second numbers

-- no two items have one order key
numbers_one : (marks : List Mark) (next count : ℕ) → AreMarks marks next → length marks ≡ count → (x n name : ℕ) → x < count → n < count →
    slice_index (order_keys_of marks) x ≡ name → slice_index (order_keys_of marks) n ≡ name → x ≡ n
numbers_one marks next count are beside x n name less less' e f =
    number_is marks next are x n name (subst (λ (c : ℕ). x < c) (sym beside) less) e (order_key_is_at marks n name (subst (λ (c : ℕ). n < c) (sym beside) less') f)

-- no two numbers have one name
seconds_one : (marks : List Mark) (next count : ℕ) → AreMarks marks next → length marks ≡ count → (kind : Kind) (y n name : ℕ) → HasSecond kind y count → HasSecond kind n count →
    second_name kind (order_keys_of marks) y ≡ name → second_name kind (order_keys_of marks) n ≡ name → y ≡ n
seconds_one marks next count are beside DeclCut y n name h k e f = e ∙ sym f
seconds_one marks next count are beside SelCut y n name h k e f = e ∙ sym f
seconds_one marks next count are beside SelJoinUp y n name h k e f = numbers_one marks next count are beside y n name h k e f
seconds_one marks next count are beside SelJoinDown y n name h k e f = numbers_one marks next count are beside y n name h k e f
seconds_one marks next count are beside DeclJoinUp y n name h k e f = numbers_one marks next count are beside y n name h k e f
seconds_one marks next count are beside DeclJoinDown y n name h k e f = numbers_one marks next count are beside y n name h k e f
seconds_one marks next count are beside Sharing y n name h k e f = numbers_one marks next count are beside y n name h k e f

-- ---- Parts are few

decls_few : (items : List Item) (n : ℕ) (r : RuleParts) → slice_get items n ≡ Some (Rule r) → length r.decls ≤ part_count items
decls_few [] n r at = absurd (let e : None ≡ Some (Rule r) = at in cc)
decls_few (x ∷ items) zero r at = subst (λ (y : Item). length r.decls ≤ part_count (y ∷ items)) (sym (some-same at)) (let e : length r.decls ≤ length r.selectors + length r.decls + part_count items = omega arith in e)
decls_few (Rule q ∷ items) (suc n) r at = let ih : length r.decls ≤ part_count items = decls_few items n r at in let e : length r.decls ≤ length q.selectors + length q.decls + part_count items = omega (arith, ih) in e
decls_few (KeptRule k ∷ items) (suc n) r at = decls_few items n r at
decls_few (KeptBlock piece ∷ items) (suc n) r at = decls_few items n r at

selectors_few : (items : List Item) (n : ℕ) (r : RuleParts) → slice_get items n ≡ Some (Rule r) → length r.selectors ≤ part_count items
selectors_few [] n r at = absurd (let e : None ≡ Some (Rule r) = at in cc)
selectors_few (x ∷ items) zero r at = subst (λ (y : Item). length r.selectors ≤ part_count (y ∷ items)) (sym (some-same at)) (let e : length r.selectors ≤ length r.selectors + length r.decls + part_count items = omega arith in e)
selectors_few (Rule q ∷ items) (suc n) r at = let ih : length r.selectors ≤ part_count items = selectors_few items n r at in let e : length r.selectors ≤ length q.selectors + length q.decls + part_count items = omega (arith, ih) in e
selectors_few (KeptRule k ∷ items) (suc n) r at = selectors_few items n r at
selectors_few (KeptBlock piece ∷ items) (suc n) r at = selectors_few items n r at

-- the parts of a rule of a sheet that can be planned
pub rule_is_small : PartsAreFew → (source : List ℕ) (items : List Item) → IsPlannable source items → (n : ℕ) (r : RuleParts) → slice_get items n ≡ Some (Rule r) →
    (length r.decls ≤ max_bytes) × (length r.selectors ≤ max_bytes)
rule_is_small few source items plannable n r at =
    let parts : part_count items ≤ size source items = few source items plannable.sound in
    let short : size source items ≤ max_bytes = plannable.short in
    let d : length r.decls ≤ part_count items = decls_few items n r at in
    let s : length r.selectors ≤ part_count items = selectors_few items n r at in
    (omega (arith, parts, short, d), omega (arith, parts, short, s))

small_second : PartsAreFew → (source : List ℕ) (items : List Item) → IsPlannable source items → (k : Step) (e : Edit) → IsStep items k e → second_of k < 2 ^ 32
small_second few source items plannable (CutDecl n i) e is =
    let part : i < length is.rule.decls = is.part in let m : length is.rule.decls ≤ max_bytes = (rule_is_small few source items plannable n is.rule is.rule_at).0 in omega (arith, part, m)
small_second few source items plannable (CutSel n i) e is =
    let part : i < length is.rule.selectors = is.part in let m : length is.rule.selectors ≤ max_bytes = (rule_is_small few source items plannable n is.rule is.rule_at).1 in omega (arith, part, m)
small_second few source items plannable (JoinSelUp x y) e is = let l : y < length items = last_there items (JoinSelUp x y) (e, is) in let m : length items ≤ max_items = plannable.few_items in omega (arith, l, m)
small_second few source items plannable (JoinSelDown x y) e is = let l : y < length items = last_there items (JoinSelDown x y) (e, is) in let m : length items ≤ max_items = plannable.few_items in omega (arith, l, m)
small_second few source items plannable (JoinDeclUp x y) e is = let l : y < length items = last_there items (JoinDeclUp x y) (e, is) in let m : length items ≤ max_items = plannable.few_items in omega (arith, l, m)
small_second few source items plannable (JoinDeclDown x y) e is = let l : y < length items = last_there items (JoinDeclDown x y) (e, is) in let m : length items ≤ max_items = plannable.few_items in omega (arith, l, m)
small_second few source items plannable (Share x y) e is = let l : y < length items = last_there items (Share x y) (e, is) in let m : length items ≤ max_items = plannable.few_items in omega (arith, l, m)

-- ---- The step that a candidate names

module _ (indexed : IndexedParts) (candidate : Candidate) where
  pub lacks_first : ((n : ℕ) → n < length indexed.items → slice_index (order_keys_of indexed.marks) n ≡ candidate.first → ⊥) → (j : Step) → Names indexed candidate j → ⊥
  lacks_first lacks j h = lacks h.first h.first_there h.first_named

  pub lacks_second : ((n : ℕ) → HasSecond candidate.kind n (length indexed.items) → second_name candidate.kind (order_keys_of indexed.marks) n ≡ candidate.second → ⊥) → (j : Step) → Names indexed candidate j → ⊥
  lacks_second lacks j h = lacks h.second h.second_there h.second_named

  pub named_one : AreMarks indexed.marks indexed.next → length indexed.marks ≡ length indexed.items → (n m : ℕ) → n < length indexed.items → slice_index (order_keys_of indexed.marks) n ≡ candidate.first →
      HasSecond candidate.kind m (length indexed.items) → second_name candidate.kind (order_keys_of indexed.marks) m ≡ candidate.second →
      (k : Step) → k ≡ step_of_kind candidate.kind n m → (j : Step) → Names indexed candidate j → j ≡ k
  named_one are beside n m less first there second k is j h =
      h.is
      ∙ ap₂ (step_of_kind candidate.kind) (numbers_one indexed.marks indexed.next (length indexed.items) are beside h.first n candidate.first h.first_there less h.first_named first)
      (seconds_one indexed.marks indexed.next (length indexed.items) are beside candidate.kind h.second m candidate.second h.second_there there h.second_named second)
      ∙ sym is

  pub named_priority : (n m : ℕ) → slice_index (order_keys_of indexed.marks) n ≡ candidate.first → second_name candidate.kind (order_keys_of indexed.marks) m ≡ candidate.second → (k : Step) → k ≡ step_of_kind candidate.kind n m →
      named (order_keys_of indexed.marks) candidate.saving.0 k ≡ (candidate_told candidate).priority
  named_priority n m first second k is = sym (priority_is (order_keys_of indexed.marks) k candidate.kind n m candidate.first candidate.second candidate.saving.0 is first second)

-- a step of the sheet with the candidate's priority
pub names_it : PartsAreFew → (source : List ℕ) (indexed : IndexedParts) (candidate : Candidate) → IsPlannable source indexed.items → (k : Step) (e : Edit) (n : ℕ) → IsStep indexed.items k e →
    named (order_keys_of indexed.marks) n k ≡ (candidate_told candidate).priority → Names indexed candidate k × (n ≡ candidate.saving.0)
names_it few source indexed candidate plannable k e n is same =
    let w : (n ≡ candidate.saving.0) × (kind_of k ≡ candidate.kind) × (slice_index (order_keys_of indexed.marks) (first_item k) ≡ candidate.first) × (second_name candidate.kind (order_keys_of indexed.marks) (second_of k) ≡ candidate.second) =
    same_priority (order_keys_of indexed.marks) n candidate.saving.0 k candidate.kind candidate.first candidate.second same in
    let made : k ≡ step_of_kind candidate.kind (first_item k) (second_of k) = made_of k ∙ ap (λ (z : Kind). step_of_kind z (first_item k) (second_of k)) w.1 in (
      record {
        first = first_item k;
        second = second_of k;
        is = made;
        first_there = first_there indexed.items k candidate.kind (first_item k) (second_of k) (e, is) made;
        second_there = second_there indexed.items k candidate.kind (first_item k) (second_of k) (e, is) made (small_second few source indexed.items plannable k e is);
        first_named = w.2;
        second_named = w.3;
      },
      w.0,
    )

-- the answers of the test
pub names_none : PartsAreFew → (source : List ℕ) (indexed : IndexedParts) (candidate : Candidate) → IsPlannable source indexed.items → ((j : Step) → Names indexed candidate j → ⊥) → NamesNone source indexed candidate
names_none few source indexed candidate plannable none k e n is saves some same = none k (names_it few source indexed candidate plannable k e n is same).0

pub tested_none : PartsAreFew → (source : List ℕ) (indexed : IndexedParts) (candidate : Candidate) → IsPlannable source indexed.items → (step : Step) → ((j : Step) → Names indexed candidate j → j ≡ step) →
    ((e : Edit) → IsStep indexed.items step e → Saves source indexed.items e candidate.saving.0 → 0 < candidate.saving.0 → ⊥) → NamesNone source indexed candidate
tested_none few source indexed candidate plannable step one none k e n is saves some same =
    let w : Names indexed candidate k × (n ≡ candidate.saving.0) = names_it few source indexed candidate plannable k e n is same in
    none e (subst (λ (j : Step). IsStep indexed.items j e) (one k w.0) is) (subst (λ (m : ℕ). Saves source indexed.items e m) w.1 saves) (subst (λ (m : ℕ). 0 < m) w.1 some)

pub tested_some : (source : List ℕ) (indexed : IndexedParts) (candidate : Candidate) (step k : Step) → named (order_keys_of indexed.marks) candidate.saving.0 step ≡ (candidate_told candidate).priority → k ≡ step → HasStep indexed.items k → 0 < candidate.saving.0 →
    ((e : Edit) → IsStep indexed.items step e → Saves source indexed.items e candidate.saving.0) → IsStepOf source indexed candidate k
tested_some source indexed candidate step k priority same has some saves = record {
  has = has;
  some = some;
  saves = λ e is. saves e (subst (λ (j : Step). IsStep indexed.items j e) same is);
  priority = ap (named (order_keys_of indexed.marks) candidate.saving.0) same ∙ priority;
}

-- a step that saves another number does not save this one
pub not_so_much : (source : List ℕ) (items : List Item) (k : Step) (m n : ℕ) → IsSaving source items k m → (m ≡ n → ⊥) → (e : Edit) → IsStep items k e → Saves source items e n → 0 < n → ⊥
not_so_much source items k m n saving other e is saves some =
    let most : n ≤ m = (saving e is).1 n saves in
    let this : size source items ≡ size source (edited e items) + m = (saving e is).0 (omega (arith, most, some)) in
    let that : size source items ≡ size source (edited e items) + n = saves in
    other (omega (arith, this, that))
