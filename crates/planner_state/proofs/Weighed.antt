-- Rules that are weighed one after the other.
use Rattle.std.proofs.Common.{◌≡◌, ◌≢◌, ◌⊎◌, ℕ, ◌+◌, ◌<◌, ◌≤◌, ◌&&◌, List, Option, Some, None, get_or, length, max, refl, sym, ap, ◌∙◌, subst, inl, inr, arith}
use Rattle.std.specs.Prelude.{IfSome, option_map, slice_get}
use Rattle.std.proofs.lemmas.Bool.{and_parts, cases_lt}
use Rattle.std.proofs.lemmas.Option.{slice_get-get_or, slice_get-map, slice_get_within}
use Rattle.std.proofs.Math.Nat.{le-max_left, le-max_right}
use Rattle.css_model.specs.declared.sheet.Item.{Item}
use Rattle.css_model.specs.declared.sheet.Item.TheVariants.{Rule}
use Rattle.css_model.specs.Sheets.RuleParts.{RuleParts}
use Rattle.queue_laws.specs.MarkNames.{IsMarked}
use Rattle.step_queue.specs.declared.heaviest.Heaviest.{Heaviest}
use Rattle.step_queue.specs.declared.rule_weights.RuleWeight.{RuleWeight}
use Rattle.step_queue.specs.RuleWeights.{AreWeighed, WeighsAtMost, WeightParts, weight_under}
use Rattle.list_facts.proofs.Options.{mapped}
use Rattle.indexed_sheet.specs.IndexedParts.{IndexedParts}
use Rattle.indexed_sheet.specs.declared.marks.Mark.{Mark}
use Rattle.indexed_sheet.specs.MarkList.{item_ids_of}
use Rattle.plan_laws.specs.Plannable.{IsPlannable}
use Rattle.planner_state.specs.Weighing.{AreAtMost, AreWeighable, IsWeighed, IsWeighedAt, Stay}
use Rattle.planner_state.proofs.Enqueued.{one_differs}
use Rattle.step_savings.proofs.ForCallers.{weighable}

-- the rules of a sheet that can be planned can be weighed
pub are_weighable : (source : List ℕ) (items : List Item) → IsPlannable source items → AreWeighable source items
are_weighable source items plannable n r at = weighable source items n r r plannable.sound plannable.short at refl

-- the item id of a mark, among all
pub item_id_at : (marks : List Mark) (n : ℕ) (m : Mark) → slice_get marks n ≡ Some m → slice_get (item_ids_of marks) n ≡ Some m.item_id
item_id_at marks n m at = slice_get-map (λ (o : Mark). o.item_id) marks n ∙ ap (λ (o : Option Mark). option_map (λ (k : Mark). k.item_id) o) at

-- ---- What is put down

module _ (old new : WeightParts) (w : RuleWeight) (heaviest : new.heaviest ≡ record { selectors = max old.heaviest.selectors w.selectors; decls = max old.heaviest.decls w.decls }) (once : new.once ≡ (old.once && w.once)) (plain : new.plain ≡ (old.plain && w.plain)) where
  selectors_are : new.heaviest.selectors ≡ max old.heaviest.selectors w.selectors
  selectors_are = ap (λ (h : Heaviest). h.selectors) heaviest

  decls_are : new.heaviest.decls ≡ max old.heaviest.decls w.decls
  decls_are = ap (λ (h : Heaviest). h.decls) heaviest

  pub put_down : (source : List ℕ) (item_id : ℕ) (r : RuleParts) → weight_under new.each item_id ≡ w → WeighsAtMost source r w → IsWeighed source new item_id r
  put_down source item_id r own most = record {
    own = subst (WeighsAtMost source r) (sym own) most;
    all = (
      (let a = most.selectors in let b = le-max_right old.heaviest.selectors w.selectors in let e = selectors_are in omega (arith, a, b, e)),
      (let a = most.decls in let b = le-max_right old.heaviest.decls w.decls in let e = decls_are in omega (arith, a, b, e)),
    );
    once = λ told. most.once (and_parts old.once w.once (sym once ∙ told)).1;
    plain = λ told. most.plain (and_parts old.plain w.plain (sym plain ∙ told)).1;
  }

  pub put_stays : (item_id : ℕ) → ((b : ℕ) → b ≢ item_id → weight_under new.each b ≡ weight_under old.each b) → Stay (λ b. b ≢ item_id) old new
  put_stays item_id others = record {
    kept = others;
    selectors = (let b = le-max_left old.heaviest.selectors w.selectors in let e = selectors_are in omega (arith, b, e));
    decls = (let b = le-max_left old.heaviest.decls w.decls in let e = decls_are in omega (arith, b, e));
    once = λ told. (and_parts old.once w.once (sym once ∙ told)).0;
    plain = λ told. (and_parts old.plain w.plain (sym plain ∙ told)).0;
  }

-- ---- What stays

pub all_stays : (Kept : ℕ → Type 0) (w : WeightParts) → Stay Kept w w
all_stays Kept w = record { kept = λ b k. refl; selectors = omega arith; decls = omega arith; once = λ told. told; plain = λ told. told }

pub stays_on : (Kept : ℕ → Type 0) (a b c : WeightParts) → Stay Kept a b → Stay Kept b c → Stay Kept a c
stays_on Kept a b c s t = record {
  kept = λ n k. t.kept n k ∙ s.kept n k;
  selectors = (let x = s.selectors in let y = t.selectors in omega (arith, x, y));
  decls = (let x = s.decls in let y = t.decls in omega (arith, x, y));
  once = λ told. s.once (t.once told);
  plain = λ told. s.plain (t.plain told);
}

pub still_weighed : (source : List ℕ) (Kept : ℕ → Type 0) (old new : WeightParts) (item_id : ℕ) (r : RuleParts) → Kept item_id → Stay Kept old new → IsWeighed source old item_id r → IsWeighed source new item_id r
still_weighed source Kept old new item_id r is s h = record {
  own = subst (WeighsAtMost source r) (sym (s.kept item_id is)) h.own;
  all = (
    (let a = h.all.0 in let b = s.selectors in omega (arith, a, b)),
    (let a = h.all.1 in let b = s.decls in omega (arith, a, b)),
  );
  once = λ told. h.once (s.once told);
  plain = λ told. h.plain (s.plain told);
}

-- ---- One item

-- what is known of those that were created later is known of one of them
pub known_there : (source : List ℕ) (next : ℕ) (indexed : IndexedParts) (known : Option RuleWeight) (n : ℕ) (m : Mark) (x : Item) → slice_get indexed.marks n ≡ Some m → slice_get indexed.items n ≡ Some x → next ≤ m.item_id →
    IfSome known (AreAtMost source next indexed) → IfSome known (λ w. (r : RuleParts) → x ≡ Rule r → WeighsAtMost source r w)
known_there source next indexed None n m x at item_at later most = tt
known_there source next indexed (Some w) n m x at item_at later most = λ r is. most n m r at (item_at ∙ ap Some is) later

-- ---- One item after the other

module _ (source : List ℕ) (next : ℕ) (indexed : IndexedParts) (marked : IsMarked indexed) (old new : WeightParts) (number : ℕ) (there : number < length indexed.items) where
  pub one_more : ((m : Mark) → slice_get indexed.marks number ≡ Some m → Stay (λ b. b ≢ m.item_id) old new) → IsWeighedAt source next indexed new number → (n : ℕ) → IsWeighedAt source next indexed old n → IsWeighedAt source next indexed new n
  one_more stay now n before m r at item_at later = which (cases_lt n number) (cases_lt number n)
    where
      other : Mark
      other = get_or indexed.marks number m

      other_at : slice_get indexed.marks number ≡ Some other
      other_at = slice_get-get_or indexed.marks number m (let e = marked.1 in omega (arith, there, e))

      still : m.item_id ≢ other.item_id → IsWeighed source new m.item_id r
      still apart = still_weighed source (λ b. b ≢ other.item_id) old new m.item_id r apart (stay other other_at) (before m r at item_at later)

      which : (n < number) ⊎ (number ≤ n) → (number < n) ⊎ (n ≤ number) → IsWeighed source new m.item_id r
      which (inl less) far = still (one_differs indexed.marks marked.0.differ n number m other less at other_at)
      which (inr most) (inl more) = still (λ e. one_differs indexed.marks marked.0.differ number n other m more other_at at (sym e))
      which (inr most) (inr least) =
          let same : n ≡ number = omega (arith, most, least) in
          now m r (subst (λ (k : ℕ). slice_get indexed.marks k ≡ Some m) same at) (subst (λ (k : ℕ). slice_get indexed.items k ≡ Some (Rule r)) same item_at) later

  pub first_weighed : ((m : Mark) → slice_get indexed.marks number ≡ Some m → Stay (λ b. b ≢ m.item_id) old new) → IsWeighedAt source next indexed new number → ((n : ℕ) → n < number → IsWeighedAt source next indexed old n) →
      (n : ℕ) → n < number + 1 → IsWeighedAt source next indexed new n
  first_weighed stay now before n less = which (cases_lt n number)
    where
      which : (n < number) ⊎ (number ≤ n) → IsWeighedAt source next indexed new n
      which (inl front) = one_more stay now n (before n front)
      which (inr behind) = (let same : number ≡ n = omega (arith, less, behind) in subst (IsWeighedAt source next indexed new) same now)

-- ---- All items

-- so the rules of an indexed sheet are weighed
pub are_weighed : (source : List ℕ) (indexed : IndexedParts) (weights : WeightParts) → IsMarked indexed → ((n : ℕ) → IsWeighedAt source 0 indexed weights n) → AreWeighed source indexed.items (item_ids_of indexed.marks) weights
are_weighed source indexed weights marked weighed = record {
  each = λ n b r item_at item_id_at.
      (let w : (m : Mark) × (slice_get indexed.marks n ≡ Some m) × (m.item_id ≡ b) = mapped (λ (m : Mark). m.item_id) (slice_get indexed.marks n) b (sym (slice_get-map (λ (m : Mark). m.item_id) indexed.marks n) ∙ item_id_at) in
      subst (λ (k : ℕ). WeighsAtMost source r (weight_under weights.each k)) w.2 (weighed n w.0 r w.1 item_at (omega arith)).own);
  all = λ n r item_at. (one n r item_at).1.all;
  once = λ told n r item_at. (one n r item_at).1.once told;
  plain = λ told n r item_at. (one n r item_at).1.plain told;
}
  where
    one : (n : ℕ) (r : RuleParts) → slice_get indexed.items n ≡ Some (Rule r) → (item_id : ℕ) × IsWeighed source weights item_id r
    one n r item_at =
        let none : Mark = record { order_key = 0; item_id = 0 } in
        let there : n < length indexed.marks = (let i = slice_get_within indexed.items n (Rule r) item_at in let e = marked.1 in omega (arith, i, e)) in
        ((get_or indexed.marks n none).item_id, weighed n (get_or indexed.marks n none) r (slice_get-get_or indexed.marks n none there) item_at (omega arith))
