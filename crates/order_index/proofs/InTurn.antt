-- Classes of entries, one after the other.
use Rattle.std.proofs.Common.{◌≡◌, ◌⊎◌, ℕ, ◌+◌, ◌<◌, Bool, true, false, List, [], ◌∷◌, ◌++◌, length, refl, sym, ap, ap₂, ◌∙◌, subst, inl, inr, arith, below_more}
use Rattle.std.specs.List.{AllByRecursion, Contains}
use Rattle.std.proofs.lemmas.Bool.{false≢true}
use Rattle.std.proofs.lemmas.Bool.Decides.{nat_tests}
use Rattle.std.proofs.lemmas.List.Elements.{All-contains}
use Rattle.cascade_laws.proofs.ForCallers.{exceeds-irreflexive}
use Rattle.css_model.specs.Cascade.Winner.{exceeds}
use Rattle.list_facts.proofs.Members.{Contains-here, Contains-there, Contains-cons_cases, Contains-nil}
use Rattle.order_laws.specs.Reversed.{Ascends, Reversal, sort_key}
use Rattle.order_index.specs.InTurn.{AllPass, IsFirstIn, PassBelow}

-- ---- Classes

module _ (P Q B : Reversal → Type 0) (stay : (r : Reversal) → P r → Q r) (entries : List Reversal) (C : ℕ → Reversal → Type 0) where
  pub pass_stays : (n : ℕ) → PassBelow P entries C n → PassBelow Q entries C n
  pass_stays n pass i less r there of = stay r (pass i less r there of)

  -- one more class passes
  pub one_more : (n : ℕ) → PassBelow P entries C n → AllPass Q entries (C n) → PassBelow Q entries C (n + 1)
  one_more n pass more = below_more _ _ (pass_stays n pass) more

  -- the first that does not pass, in the first class with one
  pub first_of : (K : Reversal → Type 0) → ((s : Reversal) → Contains entries s → K s → (i : ℕ) × C i s) → ((i : ℕ) (r : Reversal) → C i r → K r) →
      ((i j : ℕ) (r s : Reversal) → i < j → C i r → C j s → exceeds (sort_key r) (sort_key s) ≡ false) →
      (n : ℕ) → PassBelow P entries C n → IsFirstIn Q B entries (C n) → IsFirstIn Q B entries K
  first_of K cover inside order n pass f = record {
    entry = f.entry;
    among = f.among;
    of = inside n f.entry f.of;
    blocks = f.blocks;
    before = λ s there of less. let w = cover s there of in which s there less w.0 w.1 (three w.0);
  }
    where
      three : (i : ℕ) → (i < n) ⊎ ((i ≡ n) ⊎ (n < i))
      three i = grind (arith, nat_tests)

      which : (s : Reversal) → Contains entries s → exceeds (sort_key f.entry) (sort_key s) ≡ true → (i : ℕ) → C i s → (i < n) ⊎ ((i ≡ n) ⊎ (n < i)) → Q s
      which s there less i of (inl low) = stay s (pass i low s there of)
      which s there less i of (inr (inl e)) = f.before s there (subst (λ (j : ℕ). C j s) e of) less
      which s there less i of (inr (inr high)) = absurd (false≢true (sym (order n i f.entry s high f.of of) ∙ less))

-- all classes pass
pub all_pass : (P : Reversal → Type 0) (entries : List Reversal) (C : ℕ → Reversal → Type 0) (K : Reversal → Type 0) (n : ℕ) → PassBelow P entries C n → ((s : Reversal) → Contains entries s → K s → (i : ℕ) × (i < n) × C i s) → AllPass P entries K
all_pass P entries C K n pass cover s there of = let w = cover s there of in pass w.0 w.1 s there w.2

-- ---- The whole list

-- all that is before the first that does not pass passes
pub record IsParted (P : Reversal → Type 0) (entries : List Reversal) (r : Reversal) : Type 0 where
  pub before : List Reversal
  pub behind : List Reversal
  pub parts : entries ≡ before ++ r ∷ behind
  pub pass : AllByRecursion P before

either : (b : Bool) → (b ≡ true) ⊎ (b ≡ false)
either true = inl refl
either false = inr refl

-- lists of one length none of which exceeds the other are the same
neither : (xs ys : List ℕ) → length xs ≡ length ys → exceeds xs ys ≡ false → exceeds ys xs ≡ false → xs ≡ ys
neither [] [] l h g = refl
neither [] (y ∷ ys) l h g = absurd (omega arith)
neither (x ∷ xs) [] l h g = absurd (omega arith)
neither (x ∷ xs) (y ∷ ys) l h g =
    let e : x ≡ y = grind (arith, nat_tests) in
    let h' : exceeds xs ys ≡ false = grind (arith, nat_tests) in
    let g' : exceeds ys xs ≡ false = grind (arith, nat_tests) in
    ap₂ (λ n ns. n ∷ ns) e (neither xs ys (omega arith) h' g')

-- entries with one key are the same
abbrev pub AreTold : List Reversal → Type 0
AreTold entries = (r s : Reversal) → Contains entries r → Contains entries s → sort_key r ≡ sort_key s → r ≡ s

pub parted : (P : Reversal → Type 0) (entries : List Reversal) → Ascends entries → AreTold entries → (r : Reversal) → Contains entries r → ((s : Reversal) → Contains entries s → exceeds (sort_key r) (sort_key s) ≡ true → P s) → IsParted P entries r
parted P [] ascend told r there pass = absurd (Contains-nil r there)
parted P (t ∷ rest) ascend told r there pass =
    which (λ later. parted P rest ascend.1 (λ a b first second e. told a b (Contains-there t rest a first) (Contains-there t rest b second) e) r later (λ s inside less. pass s (Contains-there t rest s inside) less))
    (either (exceeds (sort_key r) (sort_key t))) (Contains-cons_cases t rest r there)
  where
    here : t ≡ r → IsParted P (t ∷ rest) r
    here e = record { before = []; behind = rest; parts = ap (λ (x : Reversal). x ∷ rest) e; pass = tt }

    which : (Contains rest r → IsParted P rest r) → (exceeds (sort_key r) (sort_key t) ≡ true) ⊎ (exceeds (sort_key r) (sort_key t) ≡ false) → (t ≡ r) ⊎ Contains rest r → IsParted P (t ∷ rest) r
    which ih (inl more) (inl e) = absurd (false≢true (sym (exceeds-irreflexive (sort_key r)) ∙ subst (λ (x : Reversal). exceeds (sort_key r) (sort_key x) ≡ true) e more))
    which ih (inl more) (inr later) =
        let w = ih later in
        record { before = t ∷ w.before; behind = w.behind; parts = ap (λ (xs : List Reversal). t ∷ xs) w.parts; pass = (pass t (Contains-here t rest) more, w.pass) }
    which ih (inr less) (inl e) = here e
    which ih (inr less) (inr later) =
        let other = All-contains (λ (s : Reversal). exceeds (sort_key t) (sort_key s) ≡ false) rest r ascend.0 later in
        here (told t r (Contains-here t rest) there (neither (sort_key t) (sort_key r) refl other less))
