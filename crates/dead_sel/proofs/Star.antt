-- The selector `*`, with each pseudo-element.
use Rattle.std.proofs.Common.{◌≡◌, ℕ, ◌+◌, ◌≤◌, ◌++◌, false, cond, List, [], ◌∷◌, length, append-nil, Option, Some, None, IsSomeAnd, Result, Ok, codes, refl, sym, ap, subst, ◌∙◌, arith}
use Rattle.std.specs.List.{All, count_by, flat_map, sum_by}
use Rattle.std.proofs.lemmas.List.Elements.{All-cons, All-nil}
use Rattle.std.proofs.lemmas.List.Sums.{sum_by-append, sum_by-cons}
use Rattle.css_model.specs.declared.selector.Combinator.{Combinator}
use Rattle.css_model.specs.declared.selector.Pseudo.{Pseudo}
use Rattle.css_model.specs.declared.selector.Pseudo.TheVariants.{FirstLine, FirstLetter, Before, After}
use Rattle.css_model.specs.declared.selector.Simple.{Simple}
use Rattle.css_model.specs.declared.selector.Test.TheVariants.{Any}
use Rattle.css_model.specs.Documents.Document.{Document, Target, ElementAt, element_at}
use Rattle.css_model.specs.Documents.Matching.{Matches, MatchesFrom, CompoundHolds, SimpleHolds}
use Rattle.css_model.specs.Documents.SelectorParts.{SelectorParts}
use Rattle.css_model.specs.Selectors.Compounds.{is_stepped_test}
use Rattle.css_model.specs.Selectors.Profile.{IsInProfile}
use Rattle.css_model.specs.Sheets.Limits.{max_stepped}
use Rattle.overlap.specs.Answers.{pair_stepped}
use Rattle.selector_laws.specs.Limits.{KeepsLimits, stepped_in}
use Rattle.slot_plan.specs.Parts.{stepped_count}
use Rattle.dead_sel.specs.Living.{every}

-- ---- It is in the profile

pub every_in_profile : (p : Option Pseudo) → IsInProfile (every p)
every_in_profile None = record { text = codes "*"; short = omega arith; reads = refl }
every_in_profile (Some FirstLine) = record { text = codes "*::first-line"; short = omega arith; reads = refl }
every_in_profile (Some FirstLetter) = record { text = codes "*::first-letter"; short = omega arith; reads = refl }
every_in_profile (Some Before) = record { text = codes "*::before"; short = omega arith; reads = refl }
every_in_profile (Some After) = record { text = codes "*::after"; short = omega arith; reads = refl }

-- ---- It matches what another selector matches

holds_of_any : (doc : Document) (path : List ℕ) (simples : List Simple) → CompoundHolds doc path simples → CompoundHolds doc path (record { negated = false; test = Any } ∷ [])
holds_of_any doc path simples h = by (element_at doc path) h
  where
    by : (found : Option ElementAt) → IsSomeAnd found (λ here. All (λ s. SimpleHolds doc path here s) simples) → IsSomeAnd found (λ here. All (λ s. SimpleHolds doc path here s) (record { negated = false; test = Any } ∷ []))
    by None k = k
    by (Some here) k = All-cons (λ s. SimpleHolds doc path here s) (record { negated = false; test = Any }) [] tt (All-nil (λ s. SimpleHolds doc path here s))

first_holds : (doc : Document) (chain : List (List Simple)) (links : List Combinator) (path : List ℕ) → MatchesFrom doc chain links path → CompoundHolds doc path (record { negated = false; test = Any } ∷ [])
first_holds doc [] links path h = absurd h
first_holds doc (c ∷ []) links path h = holds_of_any doc path c h
first_holds doc (c ∷ d ∷ cs) [] path h = absurd h
first_holds doc (c ∷ d ∷ cs) (link ∷ links) path h = holds_of_any doc path c h.0

pub every_matches : (doc : Document) (target : Target) (s : SelectorParts) → Matches doc target s → Matches doc target (every s.pseudo)
every_matches doc target s m = record { pseudo = m.pseudo; element = first_holds doc s.chain s.links target.path m.element }

-- ---- It asks for no position

chain_counted : (chain : List (List Simple)) → count_by (λ s. is_stepped_test s.test) (flat_map (λ c. c) chain) ≡ sum_by stepped_in chain
chain_counted [] = refl
chain_counted (c ∷ chain) =
    sum_by-append (λ (s : Simple). cond (is_stepped_test s.test) 1 0) c (flat_map (λ c. c) chain)
    ∙ ap (λ n. stepped_in c + n) (chain_counted chain)
    ∙ sym (sum_by-cons stepped_in c chain)

pub few_with_every : (s : SelectorParts) (p : Option Pseudo) → KeepsLimits s → pair_stepped s (every p) ≤ max_stepped
few_with_every s p h =
    let few : stepped_count s ≤ max_stepped = subst (λ n. n ≤ max_stepped) (sym (chain_counted s.chain)) h.stepped in
    let none : stepped_count (every p) ≡ 0 = refl in
    omega arith
