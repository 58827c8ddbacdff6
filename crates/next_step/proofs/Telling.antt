-- Order keys and item ids tell the items of an indexed sheet.
use Rattle.std.proofs.Common.{inl, inr, ◌≡◌, ◌≢◌, ℕ, zero, suc, ◌<◌, List, [], ◌∷◌, Option, Some, None, length, map, get_or, refl, sym, ap, subst, ◌∙◌, arith}
use Rattle.std.specs.Prelude.{slice_get, slice_index}
use Rattle.std.specs.List.{AllPairs}
use Rattle.std.proofs.lemmas.Bool.{cases_lt}
use Rattle.std.proofs.lemmas.Option.{get_or_from_slice_get, slice_get_within}
use Rattle.cascade_laws.proofs.ForCallers.{some-same}
use Rattle.css_model.specs.declared.sheet.Item.{Item}
use Rattle.indexed_sheet.specs.declared.marks.Mark.{Mark}
use Rattle.indexed_sheet.specs.MarkList.{AreMarks, IsOrderKeyAt, LacksOrderKey}
use Rattle.rule_tables.specs.Cutting.{AreTold}
use Rattle.indexed_sheet.specs.MarkList.{item_ids_of, order_keys_of}
use Rattle.next_step.proofs.StepParts.{order_key_at}

-- ---- Marks

pub mark_there : (marks : List Mark) (n : ℕ) → n < length marks → (m : Mark) × (slice_get marks n ≡ Some m)
mark_there [] n less = absurd (omega (arith, less))
mark_there (x ∷ marks) zero less = (x, refl)
mark_there (x ∷ marks) (suc n) less = mark_there marks n (omega (arith, less))

-- the mark whose order key, or item id, stands here
pub mark_of : (f : Mark → ℕ) (marks : List Mark) (n x : ℕ) → slice_get (map f marks) n ≡ Some x → (m : Mark) × (slice_get marks n ≡ Some m) × (f m ≡ x)
mark_of f [] n x at = absurd (let e : None ≡ Some x = at in cc)
mark_of f (m ∷ marks) zero x at = (m, refl, some-same at)
mark_of f (m ∷ marks) (suc n) x at = mark_of f marks n x at

pub there_of : (f : Mark → ℕ) (marks : List Mark) (n : ℕ) (m : Mark) → slice_get marks n ≡ Some m → slice_get (map f marks) n ≡ Some (f m)
there_of f [] n m at = absurd (let e : None ≡ Some m = at in cc)
there_of f (x ∷ marks) zero m at = ap (λ (y : Mark). Some (f y)) (some-same at)
there_of f (x ∷ marks) (suc n) m at = there_of f marks n m at

pub item_id_at : (marks : List Mark) (n : ℕ) (m : Mark) → slice_get marks n ≡ Some m → slice_index (item_ids_of marks) n ≡ m.item_id
item_id_at [] n m at = absurd (let e : None ≡ Some m = at in cc)
item_id_at (x ∷ marks) zero m at = ap (λ (y : Mark). y.item_id) (some-same at)
item_id_at (x ∷ marks) (suc n) m at = item_id_at marks n m at

as_long : (f : Mark → ℕ) (marks : List Mark) → length (map f marks) ≡ length marks
as_long f [] = refl
as_long f (m ∷ marks) = ap suc (as_long f marks)

-- ---- No two alike

pub in_order : (R : Mark → Mark → Type 0) (marks : List Mark) → AllPairs R marks → (i j : ℕ) (a b : Mark) → i < j → slice_get marks i ≡ Some a → slice_get marks j ≡ Some b → R a b
in_order R marks all i j a b less at at' =
    subst (λ (x : Mark). R x b) (get_or_from_slice_get marks i a a at)
    (subst (λ (y : Mark). R (get_or marks i a) y) (get_or_from_slice_get marks j b a at') (all i j a less (slice_get_within marks j b at')))

module _ (f : Mark → ℕ) (marks : List Mark) (differ : AllPairs (λ m n. f m ≢ f n) marks) where
  pub one_place : (i j : ℕ) (a b : Mark) → slice_get marks i ≡ Some a → slice_get marks j ≡ Some b → f a ≡ f b → i ≡ j
  one_place i j a b at at' same = elim (cases_lt i j) [
    | inl l ↦ absurd (in_order (λ m n. f m ≢ f n) marks differ i j a b l at at' same)
    | inr l ↦ elim (cases_lt j i) [
      | inl m ↦ absurd (in_order (λ m n. f m ≢ f n) marks differ j i b a m at' at (sym same))
      | inr m ↦ (let e : i ≡ j = omega arith in e)
    ]
  ]

order_keys_differ : (marks : List Mark) (next : ℕ) → AreMarks marks next → AllPairs (λ m n. m.order_key ≢ n.order_key) marks
order_keys_differ marks next are i j d less within = λ e. let f : (get_or marks i d).order_key < (get_or marks j d).order_key = are.ascend i j d less within in let g : (get_or marks i d).order_key ≡ (get_or marks j d).order_key = e in omega (arith, f, g)

pub same_order_key : (marks : List Mark) (next : ℕ) → AreMarks marks next → (i j : ℕ) (a b : Mark) → slice_get marks i ≡ Some a → slice_get marks j ≡ Some b → a.order_key ≡ b.order_key → i ≡ j
same_order_key marks next are = one_place (λ m. m.order_key) marks (order_keys_differ marks next are)

pub same_item_id : (marks : List Mark) (next : ℕ) → AreMarks marks next → (i j : ℕ) (a b : Mark) → slice_get marks i ≡ Some a → slice_get marks j ≡ Some b → a.item_id ≡ b.item_id → i ≡ j
same_item_id marks next are = one_place (λ m. m.item_id) marks are.differ

pub told : (items : List Item) (marks : List Mark) (next : ℕ) → AreMarks marks next → length marks ≡ length items → AreTold items (order_keys_of marks)
told items marks next are beside = record {
  beside = as_long (λ m. m.order_key) marks ∙ beside;
  once = λ i j order_key at at'.
      let a : (m : Mark) × (slice_get marks i ≡ Some m) × (m.order_key ≡ order_key) = mark_of (λ m. m.order_key) marks i order_key at in
      let b : (m : Mark) × (slice_get marks j ≡ Some m) × (m.order_key ≡ order_key) = mark_of (λ m. m.order_key) marks j order_key at' in
      same_order_key marks next are i j a.0 b.0 a.1 b.1 (a.2 ∙ sym b.2);
}

-- ---- The number of an order key

pub number_is : (marks : List Mark) (next : ℕ) → AreMarks marks next → (x n order_key : ℕ) → x < length marks → slice_index (order_keys_of marks) x ≡ order_key → IsOrderKeyAt marks order_key n → x ≡ n
number_is marks next are x n order_key less named (m, at, is) =
    let a : (m : Mark) × (slice_get marks x ≡ Some m) = mark_there marks x less in
    same_order_key marks next are x n a.0 m a.1 at (sym (order_key_at marks x a.0 a.1) ∙ named ∙ sym is)

pub number_lacks : (marks : List Mark) (x order_key : ℕ) → x < length marks → slice_index (order_keys_of marks) x ≡ order_key → LacksOrderKey marks order_key → ⊥
number_lacks marks x order_key less named lacks =
    let a : (m : Mark) × (slice_get marks x ≡ Some m) = mark_there marks x less in
    lacks x a.0 a.1 (sym (order_key_at marks x a.0 a.1) ∙ named)

pub order_key_index : (marks : List Mark) (n order_key : ℕ) → IsOrderKeyAt marks order_key n → slice_index (order_keys_of marks) n ≡ order_key
order_key_index marks n order_key (m, at, is) = order_key_at marks n m at ∙ is

pub order_key_within : (marks : List Mark) (n order_key : ℕ) → IsOrderKeyAt marks order_key n → n < length marks
order_key_within marks n order_key (m, at, is) = slice_get_within marks n m at

pub order_key_is_at : (marks : List Mark) (n order_key : ℕ) → n < length marks → slice_index (order_keys_of marks) n ≡ order_key → IsOrderKeyAt marks order_key n
order_key_is_at marks n order_key less named =
    let a : (m : Mark) × (slice_get marks n ≡ Some m) = mark_there marks n less in
    (a.0, a.1, sym (order_key_at marks n a.0 a.1) ∙ named)

pub order_key_of_mark : (marks : List Mark) (n order_key : ℕ) (m : Mark) → IsOrderKeyAt marks order_key n → slice_get marks n ≡ Some m → m.order_key ≡ order_key
order_key_of_mark marks n order_key m (a, at, is) at' = ap (λ (z : Mark). z.order_key) (one (slice_get marks n) m a at' at) ∙ is
  where
    one : (o : Option Mark) (x y : Mark) → o ≡ Some x → o ≡ Some y → x ≡ y
    one o x y e f = cc
