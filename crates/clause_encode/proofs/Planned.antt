-- What the limits of selectors say of their positions.
use Rattle.std.proofs.Common.{◌≡◌, ◌+◌, ◌≤◌, cond, List, [], ◌∷◌, pos, refl, sym, ap, subst, ◌∙◌, arith}
use Rattle.std.specs.List.{All, AllByRecursion, cons_option, count_by, filter_map, flat_map, sum_by}
use Rattle.std.proofs.lemmas.List.Elements.{All-append, All-cons, All-nil, filter_map-append}
use Rattle.std.proofs.lemmas.List.Sums.{sum_by-append, sum_by-cons}
use Rattle.css_model.specs.declared.position.AnB.{AnB}
use Rattle.css_model.specs.declared.selector.Simple.{Simple}
use Rattle.css_model.specs.declared.selector.Test.{Test}
use Rattle.css_model.specs.declared.selector.Test.TheVariants.{Any, Kind, Id, Attr, Nth, NthLast, OnlyChild, Root, Empty, State}
use Rattle.css_model.specs.Documents.SelectorParts.{SelectorParts}
use Rattle.css_model.specs.Positions.Range.{IsInRange}
use Rattle.css_model.specs.Selectors.Compounds.{is_stepped_test}
use Rattle.css_model.specs.Sheets.Limits.{max_stepped}
use Rattle.selector_laws.specs.Limits.{KeepsCompound, KeepsLimits, KeepsTest, stepped_in}
use Rattle.slot_plan.specs.Parts.{pair_parts, part_of, parts_of, stepped_count}
use Rattle.clause_encode.specs.Laws.{LimitsAllowPlans}

-- ---- How many positions have a large step

chain_counted : (chain : List (List Simple)) → count_by (λ s. is_stepped_test s.test) (flat_map (λ c. c) chain) ≡ sum_by stepped_in chain
chain_counted [] = refl
chain_counted (c ∷ chain) =
    sum_by-append (λ (s : Simple). cond (is_stepped_test s.test) 1 0) c (flat_map (λ c. c) chain)
    ∙ ap (λ n. stepped_in c + n) (chain_counted chain)
    ∙ sym (sum_by-cons stepped_in c chain)

few_stepped : (x : SelectorParts) → KeepsLimits x → stepped_count x ≤ max_stepped
few_stepped x h = subst (λ n. n ≤ max_stepped) (sym (chain_counted x.chain)) h.stepped

-- ---- Positions in range

part_range : (test : Test) → KeepsTest test → (rest : List AnB) → All IsInRange rest → All IsInRange (cons_option (part_of test) rest)
part_range (Nth x) h rest more = All-cons IsInRange x rest h more
part_range (NthLast x) h rest more = All-cons IsInRange x rest h more
part_range OnlyChild h rest more = All-cons IsInRange (record { a = pos 0; b = pos 1 }) rest (omega arith, omega arith) more
part_range Any h rest more = more
part_range (Kind v) h rest more = more
part_range (Id v) h rest more = more
part_range (Attr v) h rest more = more
part_range Root h rest more = more
part_range Empty h rest more = more
part_range (State v) h rest more = more

abbrev parts_in : List Simple → List AnB
parts_in simples = filter_map (λ s. part_of s.test) simples

compound_range : (simples : List Simple) → AllByRecursion (λ (s : Simple). KeepsTest s.test) simples → All IsInRange (parts_in simples)
compound_range [] h = All-nil IsInRange
compound_range (s ∷ simples) h = part_range s.test h.0 (parts_in simples) (compound_range simples h.1)

chain_range : (chain : List (List Simple)) → AllByRecursion KeepsCompound chain → All IsInRange (parts_in (flat_map (λ c. c) chain))
chain_range [] h = All-nil IsInRange
chain_range (c ∷ chain) h =
    subst (All IsInRange) (sym (filter_map-append (λ (s : Simple). part_of s.test) c (flat_map (λ c. c) chain)))
    (All-append IsInRange (parts_in c) (parts_in (flat_map (λ c. c) chain)) (compound_range c h.0.tests) (chain_range chain h.1))

pair_range : (x y : SelectorParts) → KeepsLimits x → KeepsLimits y → All IsInRange (pair_parts x y)
pair_range x y h k = All-append IsInRange (parts_of x) (parts_of y) (chain_range x.chain h.compounds) (chain_range y.chain k.compounds)

pub limits_planned : LimitsAllowPlans
limits_planned x y h k = (pair_range x y h k, few_stepped x h, few_stepped y k)
