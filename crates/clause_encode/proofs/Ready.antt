-- A table decides what nodes ask of elements alone.
use Rattle.std.proofs.Common.{List, None, Ok, Option, Some, [], ap, arith, get_or, length, refl, subst, suc, sym, true, zero, ℕ, ◌*◌, ◌++◌, ◌+◌, ◌<◌, ◌↔◌, ◌∙◌, ◌∷◌, ◌≡◌, ◌≤◌}
use Rattle.std.proofs.Math.Nat.{mul-le-mul_right}
use Rattle.std.proofs.lemmas.Bool.{false≢true}
use Rattle.std.proofs.lemmas.List.{append-nil, get_or-append-add, get_or-map, get_or_append_left, length-append}
use Rattle.std.specs.List.{AllByRecursion, flat_map}
use Rattle.clause_encode.specs.Fits.{is_fit, is_fit_at}
use Rattle.compound_fit.specs.Fitting.{IsFit}
use Rattle.compound_fit.specs.Table.{AreFits, IsTable, groups, others, target, with_each}
use Rattle.compound_fit.specs.TableParts.{TableParts}
use Rattle.css_model.specs.Documents.FeatureParts.{FeatureParts}
use Rattle.css_model.specs.Documents.Features.{CanSuit, element_of}
use Rattle.css_model.specs.Documents.SelectorParts.{SelectorParts}
use Rattle.css_model.specs.declared.selector.Simple.{Simple}
use Rattle.css_model.specs.declared.selector.Test.{Test}
use Rattle.css_model.specs.declared.selector.Test.TheVariants.{Any, Attr, Empty, Id, Kind, Nth, NthLast, OnlyChild, Root, State}
use Rattle.formula_laws.specs.Allowed.{SuitingIsDecided}
use Rattle.formula_laws.specs.Deciding.{IsReady}
use Rattle.formula_laws.specs.Positions.{AreSmallTests, IsSmallTest}
use Rattle.grid_laws.specs.Grid.{left_alone, right_alone, together}
use Rattle.grid_laws.specs.Solved.{nth_compound}
use Rattle.selector_laws.specs.Limits.{KeepsCompound, KeepsLimits, KeepsTest}

-- a group that has a fit is one that some element passes
fit_means : (fit : Option FeatureParts) (g : List Simple) → IsFit (Ok fit) g → (is_fit_at (fit ∷ []) 0 ≡ true) ↔ CanSuit g
fit_means None g h = (λ e. absurd (false≢true e), λ can. absurd (h.1 can))
fit_means (Some f) g h = (λ _. (element_of f, h.1.legal, h.1.suits), λ _. refl)

fit_at : (fits : List (Option FeatureParts)) (gs : List (List Simple)) (k : ℕ) → AreFits fits gs → k < length gs → (is_fit_at fits k ≡ true) ↔ CanSuit (get_or gs k [])
fit_at [] [] k h less = absurd (omega arith)
fit_at [] (g ∷ gs) k h less = absurd h
fit_at (f ∷ fs) [] k h less = absurd h
fit_at (f ∷ fs) (g ∷ gs) zero h less = fit_means f g h.0
fit_at (f ∷ fs) (g ∷ gs) (suc k) h less = fit_at fs gs k h.1 (omega arith)

-- one compound with each of others
with_count : (c : List Simple) (ds : List (List Simple)) → length (with_each c ds) ≡ length ds
with_count c [] = refl
with_count c (d ∷ ds) = ap suc (with_count c ds)

-- the pairs of other compounds
pair_at : (cs ds : List (List Simple)) (i j : ℕ) → i < length cs → j < length ds → get_or (flat_map (λ c. with_each c ds) cs) (i * length ds + j) [] ≡ get_or cs i [] ++ get_or ds j []
pair_at [] ds i j hi hj = absurd (omega arith)
pair_at (c ∷ cs) ds zero j hi hj =
    ap (λ (k : ℕ). get_or (with_each c ds ++ flat_map (λ c. with_each c ds) cs) k []) (let e : 0 * length ds + j ≡ j = omega arith in e)
    ∙ get_or_append_left (with_each c ds) (flat_map (λ c. with_each c ds) cs) [] j (let l = with_count c ds in omega arith)
    ∙ get_or-map (λ d. c ++ d) ds j [] [] hj
pair_at (c ∷ cs) ds (suc i) j hi hj =
    ap (λ (k : ℕ). get_or (with_each c ds ++ flat_map (λ c. with_each c ds) cs) k []) (let l = with_count c ds in let e : suc i * length ds + j ≡ length (with_each c ds) + (i * length ds + j) = omega arith in e)
    ∙ get_or-append-add (with_each c ds) (flat_map (λ c. with_each c ds) cs) (i * length ds + j) []
    ∙ pair_at cs ds i j (omega arith) hj

pairs_count : (cs ds : List (List Simple)) → length (flat_map (λ c. with_each c ds) cs) ≡ length cs * length ds
pairs_count [] ds = omega arith
pairs_count (c ∷ cs) ds =
    let l = length-append (with_each c ds) (flat_map (λ c. with_each c ds) cs) in let m = with_count c ds in let r = pairs_count cs ds in omega arith

-- a number in a grid of so many columns
cell_less : (i j m n : ℕ) → i < m → j < n → i * n + j < m * n
cell_less i j m n hi hj = let a : suc i * n ≤ m * n = mul-le-mul_right n hi in omega arith

others_at : (chain : List (List Simple)) (i : ℕ) → get_or (others chain) i [] ≡ nth_compound chain (suc i)
others_at [] i = refl
others_at (c ∷ cs) i = refl

others_count : (chain : List (List Simple)) (m : ℕ) → length chain ≡ suc m → length (others chain) ≡ m
others_count [] m e = absurd (omega arith)
others_count (c ∷ cs) m e = omega arith

target_at : (chain : List (List Simple)) → target chain ≡ nth_compound chain 0
target_at [] = refl
target_at (c ∷ cs) = refl

-- the tests of a selector have small steps
small_tests : (simples : List Simple) → AllByRecursion (λ s. KeepsTest s.test) simples → AreSmallTests simples
small_tests [] h = tt
small_tests (s ∷ ss) h = (small_test s.test h.0, small_tests ss h.1)
  where
    small_test : (t : Test) → KeepsTest t → IsSmallTest t
    small_test (Nth x) h = let k = h.0 in omega arith
    small_test (NthLast x) h = let k = h.0 in omega arith
    small_test OnlyChild h = tt
    small_test Root h = tt
    small_test Any h = tt
    small_test (Kind x) h = tt
    small_test (Id x) h = tt
    small_test (Attr x) h = tt
    small_test Empty h = tt
    small_test (State x) h = tt

small_chain : (chain : List (List Simple)) → AllByRecursion KeepsCompound chain → (i : ℕ) → AreSmallTests (nth_compound chain i)
small_chain [] h i = tt
small_chain (c ∷ cs) h zero = small_tests c (h.0).tests
small_chain (c ∷ cs) h (suc i) = small_chain cs h.1 i

pub few_simples : (chain : List (List Simple)) → AllByRecursion KeepsCompound chain → (i : ℕ) → length (nth_compound chain i) ≤ 64
few_simples [] h i = omega arith
few_simples (c ∷ cs) h zero = let f = (h.0).few in omega arith
few_simples (c ∷ cs) h (suc i) = few_simples cs h.1 i

-- the table of two selectors
table_decides : (table : TableParts) (x y : SelectorParts) → IsTable table x y → KeepsLimits x → KeepsLimits y → SuitingIsDecided (is_fit (length x.links) (length y.links) table.fits) x y
table_decides table x y t kx ky = decides
  where
    m : ℕ
    m = length x.links

    n : ℕ
    n = length y.links

    ox : length (others x.chain) ≡ m
    ox = others_count x.chain m (let l = kx.links in omega arith)

    oy : length (others y.chain) ≡ n
    oy = others_count y.chain n (let l = ky.links in omega arith)

    pairs : List (List Simple)
    pairs = flat_map (λ c. with_each c (others y.chain)) (others x.chain)

    count : length (groups x.chain y.chain) ≡ 1 + m + n + m * n
    count =
        let a = length-append (others x.chain) (others y.chain ++ pairs) in
        let b = length-append (others y.chain) pairs in
        let c : length pairs ≡ m * n = pairs_count (others x.chain) (others y.chain) ∙ ap (λ (k : ℕ). k * length (others y.chain)) ox ∙ ap (λ (k : ℕ). m * k) oy in let p = ox in let q = oy in omega arith

    at : (k : ℕ) (g : List Simple) → k < length (groups x.chain y.chain) → get_or (groups x.chain y.chain) k [] ≡ g → (is_fit_at table.fits k ≡ true) ↔ CanSuit g
    at k g less e = let f = fit_at table.fits (groups x.chain y.chain) k t.fits less in (λ h. subst CanSuit e (f.0 h), λ h. f.1 (subst CanSuit (sym e) h))

    left_at : (i : ℕ) → i < m → get_or (groups x.chain y.chain) (suc i) [] ≡ nth_compound x.chain (suc i)
    left_at i h = get_or_append_left (others x.chain) (others y.chain ++ pairs) [] i (let p = ox in let q = oy in let r = count in omega arith) ∙ others_at x.chain i

    right_at : (j : ℕ) → j < n → get_or (groups x.chain y.chain) (suc (m + j)) [] ≡ nth_compound y.chain (suc j)
    right_at j h =
        ap (λ (k : ℕ). get_or (others x.chain ++ (others y.chain ++ pairs)) k []) (let e : m + j ≡ length (others x.chain) + j = (let p = ox in let q = oy in omega arith) in e)
        ∙ get_or-append-add (others x.chain) (others y.chain ++ pairs) j [] ∙ get_or_append_left (others y.chain) pairs [] j (let p = ox in let q = oy in let r = count in omega arith) ∙ others_at y.chain j

    both_at : (i j : ℕ) → i < m → j < n → get_or (groups x.chain y.chain) (suc (m + (n + (i * n + j)))) [] ≡ nth_compound x.chain (suc i) ++ nth_compound y.chain (suc j)
    both_at i j hi hj =
        ap (λ (k : ℕ). get_or (others x.chain ++ (others y.chain ++ pairs)) k []) (let e : m + (n + (i * n + j)) ≡ length (others x.chain) + (n + (i * n + j)) = (let p = ox in let q = oy in omega arith) in e)
        ∙ get_or-append-add (others x.chain) (others y.chain ++ pairs) (n + (i * n + j)) []
        ∙ ap (λ (k : ℕ). get_or (others y.chain ++ pairs) k []) (let e : n + (i * n + j) ≡ length (others y.chain) + (i * n + j) = (let p = ox in let q = oy in omega arith) in e)
        ∙ get_or-append-add (others y.chain) pairs (i * n + j) []
        ∙ ap (λ (k : ℕ). get_or pairs (i * k + j) []) (sym oy)
        ∙ pair_at (others x.chain) (others y.chain) i j (let p = ox in let q = oy in let r = count in omega arith) (let p = ox in let q = oy in let r = count in omega arith)
        ∙ ap (λ c. c ++ get_or (others y.chain) j []) (others_at x.chain i) ∙ ap (λ d. nth_compound x.chain (suc i) ++ d) (others_at y.chain j)

    decides : SuitingIsDecided (is_fit m n table.fits) x y
    decides left_alone zero j hi hj fits = absurd (false≢true fits)
    decides left_alone (suc i) j hi hj fits = at (suc i) (nth_compound x.chain (suc i) ++ []) (let p = ox in let q = oy in let r = count in omega arith) (left_at i hi ∙ sym (append-nil (nth_compound x.chain (suc i))))
    decides right_alone i zero hi hj fits = absurd (false≢true fits)
    decides right_alone i (suc j) hi hj fits =
        subst (λ (k : ℕ). (is_fit_at table.fits k ≡ true) ↔ CanSuit (nth_compound y.chain (suc j))) (let e : suc (m + j) ≡ m + suc j = (let p = ox in let q = oy in omega arith) in e) (at (suc (m + j)) (nth_compound y.chain (suc j)) (let p = ox in let q = oy in let r = count in omega arith) (right_at j hj))
    decides together zero zero hi hj fits = at 0 (nth_compound x.chain 0 ++ nth_compound y.chain 0) (let p = ox in let q = oy in let r = count in omega arith) (ap (λ c. c ++ target y.chain) (target_at x.chain) ∙ ap (λ d. nth_compound x.chain 0 ++ d) (target_at y.chain))
    decides together zero (suc j) hi hj fits = absurd (false≢true fits)
    decides together (suc i) zero hi hj fits = absurd (false≢true fits)
    decides together (suc i) (suc j) hi hj fits =
        let less : i * n + j < m * n = cell_less i j m n hi hj in
        subst (λ (k : ℕ). (is_fit_at table.fits k ≡ true) ↔ CanSuit (nth_compound x.chain (suc i) ++ nth_compound y.chain (suc j))) (let e : suc (m + (n + (i * n + j))) ≡ 1 + m + n + (i * n + j) = (let p = ox in let q = oy in omega arith) in e)
        (at (suc (m + (n + (i * n + j)))) (nth_compound x.chain (suc i) ++ nth_compound y.chain (suc j)) (let p = ox in let q = oy in let r = count in omega arith) (both_at i j hi hj))

pub table_ready : (table : TableParts) (x y : SelectorParts) → IsTable table x y → KeepsLimits x → KeepsLimits y → IsReady (is_fit (length x.links) (length y.links) table.fits) x y
table_ready table x y t kx ky = record {
  left_length = let l = kx.links in omega arith;
  right_length = let l = ky.links in omega arith;
  steps = record { left = small_chain x.chain kx.compounds; right = small_chain y.chain ky.compounds };
  decided = table_decides table x y t kx ky;
}
