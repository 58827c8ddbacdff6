-- Matching in a document in lines, from its lines and counts alone (own).
use Rattle.std.specs.Prelude.{◌≡◌, ℕ, zero, suc, ◌+◌, ◌==◌, Bool, true, false, not, ◌&&◌, if◌then◌else◌, List, [], ◌∷◌, map}
use Rattle.css_model.specs.declared.example.Example.{Example}
use Rattle.css_model.specs.declared.example.RunLine.{RunLine}
use Rattle.css_model.specs.declared.selector.Combinator.{Combinator}
use Rattle.css_model.specs.declared.selector.Simple.{Simple}
use Rattle.css_model.specs.Documents.Features.{element_of}
use Rattle.css_model.specs.Documents.Matching.{count_siblings, is_none, matches, same_pseudo}
use Rattle.css_model.specs.Documents.RunDocuments.{KeepsRules, expand, is_below, siblings_of, target_of}
use Rattle.css_model.specs.Documents.SelectorParts.{SelectorParts}
use Rattle.cascade_laws.specs.declared.reaching.Reached.{Reached}
use Rattle.cascade_laws.specs.declared.reaching.Role.{Role}
use Rattle.cascade_laws.specs.declared.reaching.Role.TheVariants.{Marked, Above, Beside, Apart}
use Rattle.cascade_laws.specs.declared.reaching.Standing.{Standing}
use Rattle.cascade_laws.specs.declared.reaching.Surroundings.{Surroundings}
use Rattle.cascade_laws.specs.Eval.Reaching.{from_child, from_root, is_reached, located, passed}
use Rattle.cascade_laws.specs.Eval.Surrounded.{chain_among}

-- how many elements of a depth lines begin with, and whether there is one
abbrev pub count_at : List RunLine → ℕ → ℕ
count_at lines depth = count_siblings (siblings_of lines depth)

abbrev pub has_one_at : List RunLine → ℕ → Bool
has_one_at lines depth = not (is_none (siblings_of lines depth))

-- a line, by those behind it
abbrev pub standing_of : Role → List RunLine → ℕ → Standing
standing_of role lines depth = record { role = role; behind = count_at lines depth; has_children = has_one_at lines (suc depth) }

-- How each line up to the one of this number leads to it, from the elements of a depth that lines begin with: a
-- line of this depth leads there where that line stands below it, and stands beside otherwise.
abbrev pub standings_of : List RunLine → (depth n : ℕ) → List Standing
standings_of [] depth n = []
standings_of (l ∷ lines) depth zero = standing_of Marked lines depth ∷ []
standings_of (l ∷ lines) depth (suc n) =
    if l.depth == depth then (if is_below depth lines n then standing_of Above lines depth ∷ standings_of lines (suc depth) n else standing_of Beside lines depth ∷ standings_of lines depth n)
    else standing_of Apart lines depth ∷ standings_of lines depth n

-- what is around a child
abbrev pub child_among : Bool → ℕ → ℕ → Surroundings
child_among has_children before behind = record { before = before; behind = behind; is_root = false; is_child = true; has_children = has_children }

-- what is around the root
abbrev pub root_among : (root_is_child has_children : Bool) → Surroundings
root_among root_is_child has_children = record { before = 0; behind = 0; is_root = true; is_child = root_is_child; has_children = has_children }

-- which compounds hold of a line's elements
abbrev pub line_among : List (List Simple) → RunLine → Standing → (before behind : ℕ) → List Bool
line_among chain l s before behind = chain_among chain (element_of l.element) (child_among s.has_children before behind)

-- What a selector finds at the last of these lines: what it knows where they begin, with so many siblings before,
-- is carried past the elements of each line beside, and down into each line above.
abbrev pub climbed : List (List Simple) → List Combinator → List RunLine → List Standing → (before : ℕ) → List Reached → Bool
climbed chain links [] standings before rs = false
climbed chain links (l ∷ lines) [] before rs = false
climbed chain links (l ∷ lines) (s ∷ standings) before rs = elim s.role [
  | Marked ↦ is_reached (located (line_among chain l s before s.behind) links rs)
  | Above ↦ climbed chain links lines standings 0 (map from_child (located (line_among chain l s before s.behind) links rs))
  | Beside ↦ climbed chain links lines standings (before + l.count) (passed (line_among chain l s) links l.count before s.behind rs)
  | Apart ↦ climbed chain links lines standings before rs
]

-- what a selector finds at the root
abbrev pub root_reached : Bool → List (List Simple) → List Combinator → RunLine → List RunLine → List Reached
root_reached root_is_child chain links l lines =
    located (chain_among chain (element_of l.element) (root_among root_is_child (has_one_at lines 1))) links (map (λ c. from_root) chain)

-- whether a chain matches at the line of this number
abbrev pub chain_climbs : Bool → List (List Simple) → List Combinator → List RunLine → ℕ → Bool
chain_climbs root_is_child chain links [] n = false
chain_climbs root_is_child chain links (l ∷ lines) zero = is_reached (root_reached root_is_child chain links l lines)
chain_climbs root_is_child chain links (l ∷ lines) (suc n) =
    climbed chain links lines (standings_of lines 1 n) 0 (map from_child (root_reached root_is_child chain links l lines))

-- whether a selector matches the target of an example
abbrev pub climbs : Example → SelectorParts → Bool
climbs x selector = same_pseudo x.pseudo selector.pseudo && chain_climbs x.doc.root_is_child selector.chain selector.links x.doc.lines x.marked

abbrev pub MatchingIsClimbing : Type 0
MatchingIsClimbing = (x : Example) (selector : SelectorParts) → KeepsRules x →
    matches (expand x) (target_of x) selector ≡ climbs x selector
