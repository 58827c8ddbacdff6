-- What the declarations that pass a test are at most, by what reaches their count and their weight.
use Rattle.std.proofs.Common.{◌≡◌, ℕ, ◌+◌, ◌<◌, ◌≤◌, Bool, true, false, cond, List, [], ◌∷◌, length, map, refl, subst, arith}
use Rattle.std.specs.Prelude.{◌^◌}
use Rattle.std.specs.List.{filter}
use Rattle.css_model.specs.declared.sheet.Decl.{Decl}
use Rattle.css_model.specs.declared.sheet.DeclItem.{DeclItem}
use Rattle.rule_tables.specs.Ahead.{Reaches}
use Rattle.rule_tables.specs.Tables.{count_of, weight_of}
use Rattle.step_laws.specs.Sizes.{weight}

-- what reaches a number that reaches another one reaches that too
pub reaches_through : (a b c : ℕ) → Reaches a b → Reaches b c → Reaches a c
reaches_through a b c one other m small least = one m small (other m small least)

module _ (passes : Decl → Bool) where
  count_is : (ds : List DeclItem) → count_of passes ds ≡ length (filter (λ d. passes d.decl) ds)
  count_is [] = refl
  count_is (d ∷ ds) = which (passes d.decl) (count_is ds)
    where
      which : (b : Bool) → count_of passes ds ≡ length (filter (λ d. passes d.decl) ds) → cond b 1 0 + count_of passes ds ≡ length (cond b (d ∷ filter (λ d. passes d.decl) ds) (filter (λ d. passes d.decl) ds))
      which true rest = omega (arith, rest)
      which false rest = omega (arith, rest)

  few : (ds : List DeclItem) → count_of passes ds ≤ length ds
  few [] = omega arith
  few (d ∷ ds) = which (passes d.decl) (few ds)
    where
      which : (b : Bool) → count_of passes ds ≤ length ds → cond b 1 0 + count_of passes ds ≤ length (d ∷ ds)
      which true h = omega (arith, h)
      which false h = omega (arith, h)

  -- their count
  pub passes_few : (ds : List DeclItem) (n : ℕ) → Reaches n (count_of passes ds) → length ds < 2 ^ 64 → length (filter (λ d. passes d.decl) ds) ≤ n
  passes_few ds n reaches short =
      let h : count_of passes ds ≤ length ds = few ds in
      subst (λ (k : ℕ). k ≤ n) (count_is ds) (reaches (count_of passes ds) (omega (arith, h, short)) (omega arith))

  module _ (text : DeclItem → List ℕ) where
    abbrev weights : List DeclItem → List ℕ
    weights ds = map (λ d. length (text d) + 1) ds

    weight_is : (ds : List DeclItem) → weight_of passes ds (weights ds) ≡ weight text (filter (λ d. passes d.decl) ds)
    weight_is [] = refl
    weight_is (d ∷ ds) = which (passes d.decl) (weight_is ds)
      where
        which : (b : Bool) → weight_of passes ds (weights ds) ≡ weight text (filter (λ d. passes d.decl) ds) →
            cond b (length (text d) + 1) 0 + weight_of passes ds (weights ds) ≡ weight text (cond b (d ∷ filter (λ d. passes d.decl) ds) (filter (λ d. passes d.decl) ds))
        which true rest = omega (arith, rest)
        which false rest = omega (arith, rest)

    light : (ds : List DeclItem) → weight_of passes ds (weights ds) ≤ weight text ds
    light [] = omega arith
    light (d ∷ ds) = which (passes d.decl) (light ds)
      where
        which : (b : Bool) → weight_of passes ds (weights ds) ≤ weight text ds → cond b (length (text d) + 1) 0 + weight_of passes ds (weights ds) ≤ weight text (d ∷ ds)
        which true h = omega (arith, h)
        which false h = omega (arith, h)

    -- their weight
    pub passes_light : (ds : List DeclItem) (n : ℕ) → Reaches n (weight_of passes ds (weights ds)) → weight text ds < 2 ^ 64 → weight text (filter (λ d. passes d.decl) ds) ≤ n
    passes_light ds n reaches short =
        let h : weight_of passes ds (weights ds) ≤ weight text ds = light ds in
        subst (λ (k : ℕ). k ≤ n) (weight_is ds) (reaches (weight_of passes ds (weights ds)) (omega (arith, h, short)) (omega arith))
