-- Marks that are made from the end of a list on.
use Rattle.std.proofs.Common.{◌≡◌, ℕ, ◌+◌, ◌≤◌, Bool, true, false, cond, List, [], ◌∷◌, ◌++◌, length, Option, Some, None, reverse, refl, sym, ap, subst, ◌∙◌, append_assoc, arith}
use Rattle.std.specs.Prelude.{◌||◌}
use Rattle.std.specs.Bool.{Decides}
use Rattle.std.specs.List.{AllByRecursion, list_any}
use Rattle.std.proofs.lemmas.List.{reverse-append}
use Rattle.repeat_runs.specs.Seen.{IsHeavier, IsMark, nearest}
use Rattle.run_laws.specs.Marks.{Descends, mark, marks}
use Rattle.step_laws.specs.Sizes.{weight}

-- ---- The last element of a list

pub all_before : {X : Type 0} (P : X → Type 0) (xs : List X) (x : X) → AllByRecursion P (xs ++ (x ∷ [])) → AllByRecursion P xs
all_before P [] x all = tt
all_before P (y ∷ xs) x all = (all.0, all_before P xs x all.1)

pub all_last : {X : Type 0} (P : X → Type 0) (xs : List X) (x : X) → AllByRecursion P (xs ++ (x ∷ [])) → P x
all_last P [] x all = all.0
all_last P (y ∷ xs) x all = all_last P xs x all.1

weight_last : {X : Type 0} (text : X → List ℕ) (xs : List X) (x : X) → weight text (xs ++ (x ∷ [])) ≡ weight text xs + (length (text x) + 1)
weight_last text [] x = let e : length (text x) + 1 + 0 ≡ 0 + (length (text x) + 1) = omega arith in e
weight_last text (y ∷ xs) x =
    let rest : weight text (xs ++ (x ∷ [])) ≡ weight text xs + (length (text x) + 1) = weight_last text xs x in
    let e : length (text y) + 1 + weight text (xs ++ (x ∷ [])) ≡ length (text y) + 1 + weight text xs + (length (text x) + 1) = omega (arith, rest) in e

-- a list weighs no less than the elements before its last one, and no less than this one
pub parts_are_small : {X : Type 0} (text : X → List ℕ) (xs before : List X) (x : X) (most : ℕ) → xs ≡ before ++ (x ∷ []) → weight text xs ≤ most → (weight text before ≤ most) × (length (text x) + 1 ≤ most)
parts_are_small text xs before x most parted small =
    let e : weight text xs ≡ weight text before + (length (text x) + 1) = ap (weight text) parted ∙ weight_last text before x in
    (omega (arith, e, small), omega (arith, e, small))

-- ---- What was seen

module _ {X Y : Type 0} (eq : Y → Y → Bool) (decides : (a b : Y) → Decides (eq a b) (a ≡ b)) (part : X → Y) (weigh : X → ℕ) where
  abbrev again : X → List X → Bool
  again x later = list_any (λ y. eq (part y) (part x)) later

  abbrev Light : Option ℕ → Y → List X → Type 0
  Light None p xs = AllByRecursion (λ y. part y ≡ p → ⊥) xs
  Light (Some most) p xs = AllByRecursion (λ y. part y ≡ p → weigh y ≤ most) xs

  with_part : (p q : Y) → p ≡ q → (most : ℕ) (xs : List X) → AllByRecursion (λ y. part y ≡ p → weigh y ≤ most) xs → AllByRecursion (λ y. part y ≡ q → weigh y ≤ most) xs
  with_part p q e most xs all = subst (λ (z : Y). AllByRecursion (λ y. part y ≡ z → weigh y ≤ most) xs) e all

  -- in a list that descends the nearest one weighs most
  light : (p : Y) (xs : List X) → Descends part weigh xs → Light (nearest eq part weigh xs p) p xs
  light p [] d = tt
  light p (x ∷ xs) d = which (eq (part x) p) refl (light p xs d.1)
    where
      also : (n : Option ℕ) → (part x ≡ p → ⊥) → Light n p xs → Light n p (x ∷ xs)
      also None other all = (other, all)
      also (Some most) other all = (λ e. absurd (other e), all)

      which : (b : Bool) → eq (part x) p ≡ b → Light (nearest eq part weigh xs p) p xs → Light (cond b (Some (weigh x)) (nearest eq part weigh xs p)) p (x ∷ xs)
      which true e rest = (λ f. omega arith, with_part (part x) p ((decides (part x) p).0 e) (weigh x) xs d.0)
      which false e rest = also (nearest eq part weigh xs p) (λ f. let g : true ≡ false = sym ((decides (part x) p).1 f) ∙ e in cc) rest

  abbrev Tells : Option ℕ → Bool → Type 0
  Tells None b = b ≡ false
  Tells (Some n) b = b ≡ true

  tells : (x : X) (xs : List X) → Tells (nearest eq part weigh xs (part x)) (again x xs)
  tells x [] = refl
  tells x (y ∷ xs) = which (eq (part y) (part x)) (tells x xs)
    where
      which : (b : Bool) → Tells (nearest eq part weigh xs (part x)) (again x xs) → Tells (cond b (Some (weigh y)) (nearest eq part weigh xs (part x))) (b || again x xs)
      which true rest = refl
      which false rest = rest

  -- the mark that comes of what was seen
  mark_is : (x : X) (xs : List X) (n : Option ℕ) (m : ℕ) → IsMark n (weigh x) m → Tells n (again x xs) → m ≡ mark again weigh x xs
  mark_is x xs None m is told = is ∙ sym (ap (λ (b : Bool). cond b (weigh x) 0) told)
  mark_is x xs (Some n) m is told = is.0 ∙ sym (ap (λ (b : Bool). cond b (weigh x) 0) told)

  lighter : (x : X) (xs : List X) (n : Option ℕ) (m : ℕ) → IsMark n (weigh x) m → Light n (part x) xs → AllByRecursion (λ y. part y ≡ part x → weigh y ≤ weigh x) xs
  lighter x xs None m is all = none xs all
    where
      none : (ys : List X) → AllByRecursion (λ y. part y ≡ part x → ⊥) ys → AllByRecursion (λ y. part y ≡ part x → weigh y ≤ weigh x) ys
      none [] all = tt
      none (y ∷ ys) all = (λ e. absurd (all.0 e), none ys all.1)
  lighter x xs (Some n) m is all = some xs all
    where
      some : (ys : List X) → AllByRecursion (λ y. part y ≡ part x → weigh y ≤ n) ys → AllByRecursion (λ y. part y ≡ part x → weigh y ≤ weigh x) ys
      some [] all = tt
      some (y ∷ ys) all = ((λ e. let less = all.0 e in let most = is.1 in omega (arith, less, most)), some ys all.1)

  -- ---- From the end on

  -- the elements after the rest are marked, the last one first
  pub record IsMarkedBack (all rest : List X) (back : List ℕ) (seen : Y → Option ℕ) : Type 0 where
    pub done : List X
    pub split : all ≡ rest ++ done
    pub marks_are : back ≡ reverse (marks again weigh done)
    pub seen_is : (q : Y) → seen q ≡ nearest eq part weigh done q
    pub descends : Descends part weigh done

  pub marked_start : (all : List X) (seen : Y → Option ℕ) → ((q : Y) → seen q ≡ None) → IsMarkedBack all all [] seen
  marked_start all seen none = record { done = []; split = at_end all; marks_are = refl; seen_is = none; descends = tt }
    where
      at_end : (xs : List X) → xs ≡ xs ++ []
      at_end [] = refl
      at_end (x ∷ xs) = ap (λ (ys : List X). x ∷ ys) (at_end xs)

  pub marked_on : (all rest before : List X) (x : X) (back back' : List ℕ) (seen seen' : Y → Option ℕ) (m : ℕ) → IsMarkedBack all rest back seen → rest ≡ before ++ (x ∷ []) →
      IsMark (seen (part x)) (weigh x) m → back' ≡ back ++ (m ∷ []) → ((q : Y) → seen' q ≡ cond (eq (part x) q) (Some (weigh x)) (seen q)) → IsMarkedBack all before back' seen'
  marked_on all rest before x back back' seen seen' m w parted is pushed put =
      let n : Option ℕ = nearest eq part weigh w.done (part x) in
      let is' : IsMark n (weigh x) m = subst (λ (o : Option ℕ). IsMark o (weigh x) m) (w.seen_is (part x)) is in
      let same : m ≡ mark again weigh x w.done = mark_is x w.done n m is' (tells x w.done) in
      record {
        done = x ∷ w.done;
        split = w.split ∙ ap (λ (ys : List X). ys ++ w.done) parted ∙ append_assoc before (x ∷ []) w.done;
        marks_are =
            pushed ∙ ap (λ (ms : List ℕ). ms ++ (m ∷ [])) w.marks_are ∙ ap (λ (k : ℕ). reverse (marks again weigh w.done) ++ (k ∷ [])) same
            ∙ sym (reverse-append (mark again weigh x w.done ∷ []) (marks again weigh w.done));
        seen_is = λ q. put q ∙ ap (λ (o : Option ℕ). cond (eq (part x) q) (Some (weigh x)) o) (w.seen_is q);
        descends = (lighter x w.done n m is' (light (part x) w.done w.descends), w.descends);
      }

  pub marked_all : (all rest : List X) (back : List ℕ) (seen : Y → Option ℕ) → length rest ≡ 0 → IsMarkedBack all rest back seen → (back ≡ reverse (marks again weigh all)) × Descends part weigh all
  marked_all all [] back seen none w = (
    w.marks_are ∙ ap (λ (ys : List X). reverse (marks again weigh ys)) (sym w.split),
    subst (Descends part weigh) (sym w.split) w.descends,
  )
  marked_all all (x ∷ rest) back seen none w = absurd (omega (arith, none))

  -- ---- Where a later one weighs more

  descends_after : (xs done : List X) → Descends part weigh (xs ++ done) → Descends part weigh done
  descends_after [] done d = d
  descends_after (x ∷ xs) done d = descends_after xs done d.1

  -- the nearest one is there
  not_light : (x : X) (xs : List X) (p : Y) → p ≡ part x → IsHeavier (nearest eq part weigh xs p) (weigh x) → AllByRecursion (λ y. part y ≡ part x → weigh y ≤ weigh x) xs → ⊥
  not_light x [] p e heavier all = heavier
  not_light x (y ∷ xs) p e heavier all = which (eq (part y) p) refl heavier (λ more. not_light x xs p e more all.1)
    where
      which : (b : Bool) → eq (part y) p ≡ b → IsHeavier (cond b (Some (weigh y)) (nearest eq part weigh xs p)) (weigh x) → (IsHeavier (nearest eq part weigh xs p) (weigh x) → ⊥) → ⊥
      which true is more rest = let most = all.0 ((decides (part y) p).0 is ∙ e) in omega (arith, more, most)
      which false is more rest = rest more

  pub marked_none : (all rest before : List X) (x : X) (back : List ℕ) (seen : Y → Option ℕ) → IsMarkedBack all rest back seen → rest ≡ before ++ (x ∷ []) → IsHeavier (seen (part x)) (weigh x) → Descends part weigh all → ⊥
  marked_none all rest before x back seen w parted heavier d =
      let split : all ≡ before ++ (x ∷ w.done) = w.split ∙ ap (λ (ys : List X). ys ++ w.done) parted ∙ append_assoc before (x ∷ []) w.done in
      not_light x w.done (part x) refl (subst (λ (o : Option ℕ). IsHeavier o (weigh x)) (w.seen_is (part x)) heavier) (descends_after before (x ∷ w.done) (subst (Descends part weigh) split d)).0
