-- The first of the priorities behind another one, while steps are looked at.
use Rattle.std.proofs.Common.{◌≡◌, ◌⊎◌, ℕ, ◌+◌, ◌<◌, ◌≤◌, List, Option, Some, None, length, refl, sym, ap, subst, inl, inr, ◌∙◌, arith}
use Rattle.std.proofs.lemmas.Bool.{cases_lt}
use Rattle.cascade_laws.proofs.ForCallers.{some-same}
use Rattle.pending_laws.specs.Priorities.{named, PrioritiesAreOrdered}
use Rattle.queue_laws.specs.IndexedBarriers.{IsBarred}
use Rattle.step_queue.specs.declared.candidate.Candidate.{Candidate}
use Rattle.step_queue.specs.Told.{candidate_told}
use Rattle.step_queue.specs.Weights.{room}
use Rattle.saved_bytes.specs.Savings.{IsSaving}
use Rattle.order_laws.specs.Edits.{Edit}
use Rattle.plan_laws.specs.Cover.{IsSooner}
use Rattle.css_model.specs.declared.sheet.Item.{Item}
use Rattle.indexed_sheet.specs.Facts.{HasNoCut}
use Rattle.step_laws.specs.declared.step.Step.{Step}
use Rattle.step_laws.specs.declared.step.Step.TheVariants.{CutDecl, CutSel, JoinSelUp, JoinSelDown, JoinDeclUp, JoinDeclDown, Share}
use Rattle.step_laws.specs.Sizes.{Saves}
use Rattle.step_laws.specs.Steps.{HasStep, IsStep, first_item, last_item}
use Rattle.next_step.specs.Kinds.{IsByDecls}
use Rattle.next_step.specs.Looking.{FoundParts, IsAmong, Keeps, KeepsLast, ReachesLast}
use Rattle.indexed_sheet.specs.MarkList.{order_keys_of}
use Rattle.next_step.specs.Named.{IsLaterPriority, IsQueuedBeside}
use Rattle.next_step.specs.Viewed.{AreLaterIn, CoversIn, Grows}
use Rattle.next_step.specs.declared.view.View.{View}
use Rattle.plan_laws.specs.Barrier.Renumbering.{IsOfTwo}

-- ---- The sooner of two candidates

pub none_kept : (best new : Option Candidate) → best ≡ None → KeepsLast best new
none_kept best new none t (l, is, late) = absurd (let e : None ≡ Some l = sym none ∙ is in cc)

-- what comes before the candidate that is reached comes before a sooner one
pub sooner_kept : PrioritiesAreOrdered → (best : Option Candidate) (other candidate : Candidate) → best ≡ Some other → IsSooner (candidate_told candidate).priority (candidate_told other).priority → KeepsLast best (Some candidate)
sooner_kept order best other candidate was sooner t (l, is, late) = (candidate, refl, λ before. late (subst (λ (x : Candidate). IsSooner t (candidate_told x).priority) (some-same (sym was ∙ is)) (order.1 t (candidate_told candidate).priority (candidate_told other).priority before sooner)))

pub same_kept : (best : Option Candidate) (other : Candidate) → best ≡ Some other → KeepsLast best (Some other)
same_kept best other was t (l, is, late) = (l, sym was ∙ is, late)

pub reaches_itself : PrioritiesAreOrdered → (candidate : Candidate) → ReachesLast (Some candidate) (candidate_told candidate).priority
reaches_itself order candidate = (candidate, refl, order.0 (candidate_told candidate).priority)

pub reaches_other : (candidate other : Candidate) → (IsSooner (candidate_told candidate).priority (candidate_told other).priority → ⊥) → ReachesLast (Some other) (candidate_told candidate).priority
reaches_other candidate other late = (other, refl, late)

-- ---- What was found

pub grows_itself : (v : View) (found : FoundParts) → Grows v found found
grows_itself v found = record { keeps = λ t h. h; later = λ h. h; few = λ h. h }

pub grows_both : (v : View) (a b c : FoundParts) → Grows v a b → Grows v b c → Grows v a c
grows_both v a b c f g = record {
  keeps = λ t h. g.keeps t (f.keeps t h);
  later = λ h. g.later (f.later h);
  few = λ h. g.few (f.few h);
}

-- ---- A step that is tried

module _ (v : View) where
  pub no_step : (best : FoundParts) (k : Step) → (HasStep v.indexed.now.items k → ⊥) → CoversIn v best k
  no_step best k none e n is saves some beside later = absurd (none (e, is))

  pub nothing_saved : (best : FoundParts) (k : Step) → IsSaving v.source.now v.indexed.now.items k 0 → CoversIn v best k
  nothing_saved best k saving e n is saves some beside later = absurd (let most : n ≤ 0 = (saving e is).1 n saves in omega (arith, most, some))

  pub past_barrier : (best : FoundParts) (k : Step) → IsBarred v.indexed.now v.barriers.now k → CoversIn v best k
  past_barrier best k barred e n is saves some looked later = absurd (looked.1 barred)

  pub later_priority : (k : Step) (m : ℕ) (candidate : Candidate) → HasStep v.indexed.now.items k → IsQueuedBeside v.indexed.now v.after.now k → IsSaving v.source.now v.indexed.now.items k m → 0 < m →
      (candidate_told candidate).priority ≡ named (order_keys_of v.indexed.now.marks) m k → candidate.saving.0 ≡ m → candidate.owner ≡ v.after.now.owner → candidate.scope ≡ v.after.now.scope → IsSooner (candidate_told v.after.now).priority (candidate_told candidate).priority →
      IsLaterPriority v.source.now v.indexed.now v.after.now candidate
  later_priority k m candidate has beside saving some priority amount owner scope later = record {
    step = k;
    names = record {
      has = has;
      some = subst (λ (x : ℕ). 0 < x) (sym amount) some;
      saves = λ e is. subst (λ (x : ℕ). Saves v.source.now v.indexed.now.items e x) (sym amount) ((saving e is).0 some);
      priority = ap (λ (x : ℕ). named (order_keys_of v.indexed.now.marks) x k) amount ∙ sym priority;
    };
    beside = beside;
    owner_is = owner;
    scope_is = scope;
    later = later;
  }

  still_later : (old new : FoundParts) (candidate : Candidate) → AreLaterIn v old → IsLaterPriority v.source.now v.indexed.now v.after.now candidate → ((l : Candidate) → IsAmong new l → IsAmong old l ⊎ (l ≡ candidate)) → AreLaterIn v new
  still_later old new candidate before here only l among = which (only l among)
    where
      which : IsAmong old l ⊎ (l ≡ candidate) → IsLaterPriority v.source.now v.indexed.now v.after.now l
      which (inl h) = before l h
      which (inr e) = subst (IsLaterPriority v.source.now v.indexed.now v.after.now) (sym e) here

  pub put_grows : (old new : FoundParts) (candidate : Candidate) → IsLaterPriority v.source.now v.indexed.now v.after.now candidate → (length old.candidates ≤ room → length new.candidates ≤ room) → Keeps old new →
      ((l : Candidate) → IsAmong new l → IsAmong old l ⊎ (l ≡ candidate)) → Grows v old new
  put_grows old new candidate here few keeps only = record { keeps = keeps; later = λ before. still_later old new candidate before here only; few = few }

  pub kept_covers : (old new : FoundParts) → Grows v old new → (k : Step) → CoversIn v old k → CoversIn v new k
  kept_covers old new grows k covers e n is saves some beside later = grows.keeps (named (order_keys_of v.indexed.now.marks) n k) (covers e n is saves some beside later)

  -- ---- Cuts of a rule, one after the other

  pub cut_more : (cut : ℕ → Step) (old new : FoundParts) (n : ℕ) → Grows v old new → ((i : ℕ) → i < n → CoversIn v old (cut i)) → CoversIn v new (cut n) →
      (i : ℕ) → i < n + 1 → CoversIn v new (cut i)
  cut_more cut old new n grows covers here i less = which (before i n less)
    where
      before : (i n : ℕ) → i < n + 1 → (i < n) ⊎ (i ≡ n)
      before i n l = elim (cases_lt i n) [ inl m ↦ inl m | inr m ↦ inr (let e : i ≡ n = omega arith in e) ]

      which : (i < n) ⊎ (i ≡ n) → CoversIn v new (cut i)
      which (inl l) = kept_covers old new grows (cut i) (covers i l)
      which (inr e) = subst (λ (m : ℕ). CoversIn v new (cut m)) (sym e) here

  pub all_cuts : (best : FoundParts) (number decls selectors : ℕ) → ((i : ℕ) → i < decls → CoversIn v best (CutDecl number i)) →
      ((i : ℕ) → i < selectors → CoversIn v best (CutSel number i)) →
      ((i : ℕ) (e : Edit) → IsStep v.indexed.now.items (CutDecl number i) e → i < decls) → ((i : ℕ) (e : Edit) → IsStep v.indexed.now.items (CutSel number i) e → i < selectors) →
      (k : Step) → (IsOfTwo k → ⊥) → first_item k ≡ number → CoversIn v best k
  all_cuts best number decls selectors by_decl by_selector in_decls in_selectors (CutDecl n i) two first =
      subst (λ (x : ℕ). CoversIn v best (CutDecl x i)) (sym first) (λ f l step. by_decl i (in_decls i f step) f l step)
  all_cuts best number decls selectors by_decl by_selector in_decls in_selectors (CutSel n i) two first =
      subst (λ (x : ℕ). CoversIn v best (CutSel x i)) (sym first) (λ f l step. by_selector i (in_selectors i f step) f l step)
  all_cuts best number decls selectors by_decl by_selector in_decls in_selectors (JoinSelUp x y) two first = absurd (two tt)
  all_cuts best number decls selectors by_decl by_selector in_decls in_selectors (JoinSelDown x y) two first = absurd (two tt)
  all_cuts best number decls selectors by_decl by_selector in_decls in_selectors (JoinDeclUp x y) two first = absurd (two tt)
  all_cuts best number decls selectors by_decl by_selector in_decls in_selectors (JoinDeclDown x y) two first = absurd (two tt)
  all_cuts best number decls selectors by_decl by_selector in_decls in_selectors (Share x y) two first = absurd (two tt)

  -- ---- The steps of two items

  pub all_by_decls : (best : FoundParts) (upper lower : ℕ) → CoversIn v best (JoinDeclUp upper lower) → CoversIn v best (JoinDeclDown upper lower) →
      CoversIn v best (Share upper lower) → (k : Step) → IsByDecls k → first_item k ≡ upper → last_item k ≡ lower → CoversIn v best k
  all_by_decls best upper lower c d f (CutDecl n i) by first last = absurd by
  all_by_decls best upper lower c d f (CutSel n i) by first last = absurd by
  all_by_decls best upper lower c d f (JoinSelUp x y) by first last = absurd by
  all_by_decls best upper lower c d f (JoinSelDown x y) by first last = absurd by
  all_by_decls best upper lower c d f (JoinDeclUp x y) by first last =
      subst (λ (m : ℕ). CoversIn v best (JoinDeclUp m y)) (sym first) (subst (λ (n : ℕ). CoversIn v best (JoinDeclUp upper n)) (sym last) c)
  all_by_decls best upper lower c d f (JoinDeclDown x y) by first last =
      subst (λ (m : ℕ). CoversIn v best (JoinDeclDown m y)) (sym first) (subst (λ (n : ℕ). CoversIn v best (JoinDeclDown upper n)) (sym last) d)
  all_by_decls best upper lower c d f (Share x y) by first last =
      subst (λ (m : ℕ). CoversIn v best (Share m y)) (sym first) (subst (λ (n : ℕ). CoversIn v best (Share upper n)) (sym last) f)

-- no step of some is one of the sheet, one after the other
pub none_more : (items : List Item) (cut : ℕ → Step) (n : ℕ) → ((i : ℕ) → i < n → HasStep items (cut i) → ⊥) → (HasStep items (cut n) → ⊥) → (i : ℕ) → i < n + 1 → HasStep items (cut i) → ⊥
none_more items cut n before here i less has = elim (cases_lt i n) [
  | inl l ↦ before i l has
  | inr l ↦ here (subst (λ (m : ℕ). HasStep items (cut m)) (let e : i ≡ n = omega (arith, less, l) in e) has)
]

-- a rule of which no declaration and no selector can be cut has no cut
pub none_cut : (items : List Item) (number decls selectors : ℕ) → ((i : ℕ) → i < decls → HasStep items (CutDecl number i) → ⊥) → ((i : ℕ) → i < selectors → HasStep items (CutSel number i) → ⊥) →
    ((i : ℕ) (e : Edit) → IsStep items (CutDecl number i) e → i < decls) → ((i : ℕ) (e : Edit) → IsStep items (CutSel number i) e → i < selectors) → HasNoCut items number
none_cut items number decls selectors by_decl by_selector in_decls in_selectors (CutDecl n i) two first (e, is) =
    let there : IsStep items (CutDecl number i) e = subst (λ (m : ℕ). IsStep items (CutDecl m i) e) first is in by_decl i (in_decls i e there) (e, there)
none_cut items number decls selectors by_decl by_selector in_decls in_selectors (CutSel n i) two first (e, is) =
    let there : IsStep items (CutSel number i) e = subst (λ (m : ℕ). IsStep items (CutSel m i) e) first is in by_selector i (in_selectors i e there) (e, there)
none_cut items number decls selectors by_decl by_selector in_decls in_selectors (JoinSelUp x y) two first has = absurd (two tt)
none_cut items number decls selectors by_decl by_selector in_decls in_selectors (JoinSelDown x y) two first has = absurd (two tt)
none_cut items number decls selectors by_decl by_selector in_decls in_selectors (JoinDeclUp x y) two first has = absurd (two tt)
none_cut items number decls selectors by_decl by_selector in_decls in_selectors (JoinDeclDown x y) two first has = absurd (two tt)
none_cut items number decls selectors by_decl by_selector in_decls in_selectors (Share x y) two first has = absurd (two tt)
