-- Which nodes and which pairs are allowed by what is asked of elements alone, by `:empty`, ids and pseudo-elements.
use Rattle.std.specs.List.{filter_map, list_any}
use Rattle.std.specs.Prelude.{Bool, List, [], false, length, not, suc, true, zero, ℕ, ◌&&◌, ◌++◌, ◌==◌, ◌||◌, ◌↔◌, ◌∷◌, ◌≡◌, ◌≤◌}
use Rattle.formula_laws.specs.Path.{each_below, links_fit, node_lit, only_if, same_bool, unless}
use Rattle.cnf.specs.declared.lit.Lit.{Lit}
use Rattle.css_model.specs.Documents.Features.{CanSuit}
use Rattle.css_model.specs.Documents.Matching.{same_pseudo}
use Rattle.css_model.specs.Documents.SelectorParts.{SelectorParts}
use Rattle.css_model.specs.Lists.{same_text}
use Rattle.css_model.specs.declared.selector.Simple.{Simple}
use Rattle.grid_laws.specs.Grid.{Lays, has_left, has_right, left_alone, right_alone, together}
use Rattle.grid_laws.specs.Solved.{node_above, node_simples, nth_compound}
use Rattle.slot_plan.specs.ValidShape.{asked_id, is_empty_test}

-- which nodes are allowed, and whether the whole pair is
pub record Allowed : Type 0 where
  pub empties : Lays → ℕ → ℕ → Bool
  pub features : Lays → ℕ → ℕ → Bool
  pub ids : Lays → ℕ → ℕ → Bool
  pub whole : Bool

-- whether `:empty` is asked, or its negation
abbrev pub asks_empty : Bool → List Simple → Bool
asks_empty negated simples = list_any (λ s. is_empty_test s.test && same_bool s.negated negated) simples

-- whether it can be as it is asked, of a parent or of another element
abbrev pub empty_fits : Bool → List Simple → Bool
empty_fits parent simples = not (asks_empty false simples) || (not parent && not (asks_empty true simples))

-- whether two compounds ask for one id
abbrev pub share_id : List Simple → List Simple → Bool
share_id c d = list_any (λ a. list_any (λ b. same_text a b) (filter_map asked_id d)) (filter_map asked_id c)

-- whether all numbers below n pass
abbrev pub all_below : ℕ → (ℕ → Bool) → Bool
all_below zero p = true
all_below (suc n) p = all_below n p && p n

-- whether a compound asks for no id that one of the first compounds of a chain asks for, other than the k-th where
-- the two stand together
abbrev pub apart_in : List Simple → List (List Simple) → ℕ → Bool → ℕ → Bool
apart_in c chain count beside k = all_below count (λ i. (beside && (i == k)) || not (share_id c (nth_compound chain i)))

-- whether a node lays compounds that ask for one id together
abbrev pub ids_fit : SelectorParts → SelectorParts → Lays → ℕ → ℕ → Bool
ids_fit x y k i j =
    (not (has_left k) || apart_in (nth_compound x.chain i) y.chain (suc (length y.links)) (has_right k) j)
    && (not (has_right k) || apart_in (nth_compound y.chain j) x.chain (suc (length x.links)) (has_left k) i)

-- whether no two compounds of a selector ask for one id
abbrev pub own_ids_fit : SelectorParts → Bool
own_ids_fit x = all_below (suc (length x.links)) (λ i. apart_in (nth_compound x.chain i) x.chain (suc (length x.links)) true i)

-- whether the pair is allowed as a whole: no selector asks for an id twice, and both have one pseudo-element
abbrev pub pair_fits : SelectorParts → SelectorParts → Bool
pair_fits x y = own_ids_fit x && (own_ids_fit y && same_pseudo x.pseudo y.pseudo)

-- what is allowed, where `suits` says of which nodes some element passes what they ask of it alone
abbrev pub allowed_by : (Lays → ℕ → ℕ → Bool) → SelectorParts → SelectorParts → Allowed
allowed_by suits x y = record {
  empties = λ k i j. empty_fits (node_above x y k i j) (node_simples x y k i j);
  features = suits;
  ids = ids_fit x y;
  whole = pair_fits x y;
}

-- that is so for each node that the combinators allow
abbrev pub SuitingIsDecided : (Lays → ℕ → ℕ → Bool) → SelectorParts → SelectorParts → Type 0
SuitingIsDecided suits x y = (k : Lays) (i j : ℕ) → i ≤ length x.links → j ≤ length y.links → links_fit x.links y.links k i j ≡ true → (suits k i j ≡ true) ↔ CanSuit (node_simples x y k i j)

-- whether a node is allowed by all that is asked beside the numbers
abbrev pub node_fits : SelectorParts → SelectorParts → Allowed → Lays → ℕ → ℕ → Bool
node_fits x y allowed k i j = links_fit x.links y.links k i j && (allowed.empties k i j && (allowed.ids k i j && allowed.features k i j))

-- the nodes of a cell that are refused
abbrev pub cell_clauses : ℕ → (Lays → ℕ → ℕ → Bool) → ℕ → ℕ → List (List Lit)
cell_clauses n fits i j =
    unless (fits left_alone i j) (node_lit (suc n) left_alone i j)
    ++ (unless (fits right_alone i j) (node_lit (suc n) right_alone i j)
    ++ unless (fits together i j) (node_lit (suc n) together i j))

-- those of all cells
abbrev pub node_clauses : ℕ → ℕ → (Lays → ℕ → ℕ → Bool) → List (List Lit)
node_clauses m n fits = each_below (suc m) (λ i. each_below (suc n) (λ j. cell_clauses n fits i j))

-- the empty clause, where something is refused for the whole pair
abbrev pub whole_clauses : Bool → List (List Lit)
whole_clauses fits = only_if (not fits) ([] ∷ [])
