-- What the limits of selectors of the profile say of their positions and combinators.
use Rattle.std.proofs.Common.{◌≡◌, ◌+◌, ◌≤◌, ◌++◌, cond, List, [], ◌∷◌, length, append-nil, pos, refl, sym, ap, subst, ◌∙◌, arith}
use Rattle.std.specs.List.{All, AllByRecursion, cons_option, count_by, filter_map, flat_map, sum_by}
use Rattle.std.proofs.lemmas.List.Elements.{All-append, All-cons, All-nil, filter_map-append}
use Rattle.std.proofs.lemmas.List.Sums.{sum_by-append, sum_by-cons}
use Rattle.css_model.specs.declared.position.AnB.{AnB}
use Rattle.css_model.specs.declared.selector.Simple.{Simple}
use Rattle.css_model.specs.declared.selector.Test.{Test}
use Rattle.css_model.specs.declared.selector.Test.TheVariants.{Any, Kind, Id, Attr, Nth, NthLast, OnlyChild, Root, Empty, State}
use Rattle.css_model.specs.Documents.SelectorParts.{SelectorParts}
use Rattle.css_model.specs.Positions.Range.{IsInRange}
use Rattle.css_model.specs.Selectors.Compounds.{is_stepped_test}
use Rattle.css_model.specs.Sheets.Limits.{max_stepped}
use Rattle.selector_laws.specs.Limits.{KeepsCompound, KeepsLimits, KeepsTest, stepped_in}
use Rattle.sibling_counts.specs.Places.{AreFew}
use Rattle.slot_plan.specs.Parts.{pair_parts, part_of, parts_of, stepped_count}
use Rattle.overlap.specs.Answers.{pair_stepped}

-- ---- How many positions have a large step

chain_counted : (chain : List (List Simple)) → count_by (λ s. is_stepped_test s.test) (flat_map (λ c. c) chain) ≡ sum_by stepped_in chain
chain_counted [] = refl
chain_counted (c ∷ chain) =
    sum_by-append (λ (s : Simple). cond (is_stepped_test s.test) 1 0) c (flat_map (λ c. c) chain)
    ∙ ap (λ n. stepped_in c + n) (chain_counted chain)
    ∙ sym (sum_by-cons stepped_in c chain)

pub few_stepped : (x : SelectorParts) → KeepsLimits x → stepped_count x ≤ max_stepped
few_stepped x h = subst (λ n. n ≤ max_stepped) (sym (chain_counted x.chain)) h.stepped

-- ---- Positions in range

part_range : (test : Test) → KeepsTest test → (rest : List AnB) → All IsInRange rest → All IsInRange (cons_option (part_of test) rest)
part_range (Nth x) h rest more = All-cons IsInRange x rest h more
part_range (NthLast x) h rest more = All-cons IsInRange x rest h more
part_range OnlyChild h rest more = All-cons IsInRange (record { a = pos 0; b = pos 1 }) rest (omega arith, omega arith) more
part_range Any h rest more = more
part_range (Kind v) h rest more = more
part_range (Id v) h rest more = more
part_range (Attr v) h rest more = more
part_range Root h rest more = more
part_range Empty h rest more = more
part_range (State v) h rest more = more

abbrev parts_in : List Simple → List AnB
parts_in simples = filter_map (λ s. part_of s.test) simples

compound_range : (simples : List Simple) → AllByRecursion (λ (s : Simple). KeepsTest s.test) simples → All IsInRange (parts_in simples)
compound_range [] h = All-nil IsInRange
compound_range (s ∷ simples) h = part_range s.test h.0 (parts_in simples) (compound_range simples h.1)

chain_range : (chain : List (List Simple)) → AllByRecursion KeepsCompound chain → All IsInRange (parts_in (flat_map (λ c. c) chain))
chain_range [] h = All-nil IsInRange
chain_range (c ∷ chain) h =
    subst (All IsInRange) (sym (filter_map-append (λ (s : Simple). part_of s.test) c (flat_map (λ c. c) chain)))
    (All-append IsInRange (parts_in c) (parts_in (flat_map (λ c. c) chain)) (compound_range c h.0.tests) (chain_range chain h.1))

pub pair_range : (x y : SelectorParts) → KeepsLimits x → KeepsLimits y → All IsInRange (pair_parts x y)
pair_range x y h k = All-append IsInRange (parts_of x) (parts_of y) (chain_range x.chain h.compounds) (chain_range y.chain k.compounds)

-- ---- Selectors of one compound

one_kept : (chain : List (List Simple)) (c : List Simple) → chain ≡ c ∷ [] → AllByRecursion KeepsCompound chain → KeepsCompound c
one_kept chain c e h = (subst (AllByRecursion KeepsCompound) e h).0

one_counted : (x : SelectorParts) (c : List Simple) → x.chain ≡ c ∷ [] → stepped_count x ≡ count_by (λ s. is_stepped_test s.test) c
one_counted x c e =
    ap (λ (chain : List (List Simple)). count_by (λ s. is_stepped_test s.test) (flat_map (λ c. c) chain)) e
    ∙ ap (λ (simples : List Simple). count_by (λ s. is_stepped_test s.test) simples) (append-nil c)

pub singles_are_few : (x y : SelectorParts) (c d : List Simple) → x.chain ≡ c ∷ [] → y.chain ≡ d ∷ [] → KeepsLimits x → KeepsLimits y → pair_stepped x y ≤ max_stepped → AreFew (c ++ d)
singles_are_few x y c d e f h k few = record {
  in_range = subst (All IsInRange) (sym (filter_map-append (λ (s : Simple). part_of s.test) c d))
      (All-append IsInRange (parts_in c) (parts_in d) (compound_range c (one_kept x.chain c e h.compounds).tests) (compound_range d (one_kept y.chain d f k.compounds).tests));
  few = (
      let l = one_counted x c e in
      let r = one_counted y d f in
      let both = sum_by-append (λ (s : Simple). cond (is_stepped_test s.test) 1 0) c d in
      subst (λ n. n ≤ max_stepped) (sym (both ∙ ap (λ n. n + count_by (λ s. is_stepped_test s.test) d) (sym l) ∙ ap (λ n. stepped_count x + n) (sym r))) few);
}

no_length : {X : Type 0} (xs : List X) → length xs ≡ 0 → xs ≡ []
no_length [] e = refl
no_length (x ∷ xs) e = absurd (omega arith)

pub no_links : (x : SelectorParts) (c : List Simple) → x.chain ≡ c ∷ [] → KeepsLimits x → x.links ≡ []
no_links x c e h = no_length x.links (let l : length x.chain ≡ 1 = ap length e in let k = h.links in omega arith)
