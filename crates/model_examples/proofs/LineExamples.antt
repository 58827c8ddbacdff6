-- Documents in lines: what they stand for, where the marked element stands, and which keep the rules.
use Rattle.std.proofs.Common.{◌≡◌, ℕ, false, List, [], ◌∷◌, Some, None, refl, arith}
use Rattle.std.specs.Prelude.{codes}
use Rattle.css_model.specs.declared.example.Example.{Example}
use Rattle.css_model.specs.declared.example.RunLine.{RunLine}
use Rattle.css_model.specs.Documents.Document.{none, first, Element, element_at}
use Rattle.css_model.specs.Documents.FeatureParts.{FeatureParts}
use Rattle.css_model.specs.Documents.Features.{element_of}
use Rattle.css_model.specs.Documents.RunDocuments.{path_of, expand, target_of, AreLines}

abbrev features : List ℕ → FeatureParts
features kind = record { kind = kind; attrs = []; flags = 0; text = false }

abbrev line : ℕ → ℕ → List ℕ → RunLine
line depth count kind = record { depth = depth; count = count; element = features kind }

abbrev named : List ℕ → Element
named kind = element_of (features kind)

-- `<ul>`, in it `<li>`, `<li><b></b><i></i><i></i></li>` and two times `<p>`
abbrev lines : List RunLine
lines = line 0 1 (codes "ul") ∷ line 1 1 (codes "li") ∷ line 1 1 (codes "li") ∷ line 2 1 (codes "b") ∷ line 2 2 (codes "i") ∷ line 1 2 (codes "p") ∷ []

abbrev example : ℕ → Example
example marked = record { doc = record { root_is_child = false; lines = lines }; marked = marked; pseudo = None }

-- the children of the root
children : (expand (example 0)).children
    ≡ first (named (codes "li")) none
    (first (named (codes "li")) (first (named (codes "b")) none (first (named (codes "i")) none (first (named (codes "i")) none none)))
    (first (named (codes "p")) none (first (named (codes "p")) none none)))
children = refl

-- the paths of the lines, of their first elements
root : path_of lines 0 ≡ []
root = refl

second_child : path_of lines 2 ≡ 1 ∷ []
second_child = refl

first_grandchild : path_of lines 3 ≡ 1 ∷ 0 ∷ []
first_grandchild = refl

second_grandchild : path_of lines 4 ≡ 1 ∷ 1 ∷ []
second_grandchild = refl

behind_grandchildren : path_of lines 5 ≡ 2 ∷ []
behind_grandchildren = refl

-- the target of an example leads to the element of the marked line
target_is_there : element_at (expand (example 4)) (target_of (example 4)).path
    ≡ Some (record { element = named (codes "i"); children = none; later = first (named (codes "i")) none none })
target_is_there = refl

-- behind three elements of one line stands the fourth
behind_a_run : path_of (line 0 1 (codes "x") ∷ line 1 3 (codes "x") ∷ line 1 1 (codes "p") ∷ []) 2 ≡ 3 ∷ []
behind_a_run = refl

-- these lines are those of a document
are_lines : AreLines lines
are_lines = (
  refl,
  refl,
  (
    omega arith,
    omega arith,
    (λ h. refl),
    omega arith,
    (
      omega arith,
      omega arith,
      (λ h. refl),
      omega arith,
      (
        omega arith,
        omega arith,
        (λ h. refl),
        omega arith,
        (
          omega arith,
          omega arith,
          (λ h. refl),
          omega arith,
          (omega arith, omega arith, (λ h. absurd (omega arith)), omega arith, tt),
        ),
      ),
    ),
  ),
)

-- a second root, a depth that is left out, children of two elements at once, and no element
second_root : AreLines (line 0 1 (codes "x") ∷ line 0 1 (codes "x") ∷ []) → ⊥
second_root h = absurd (omega arith)

depth_left_out : AreLines (line 0 1 (codes "x") ∷ line 2 1 (codes "x") ∷ []) → ⊥
depth_left_out h = absurd (omega arith)

children_of_two : AreLines (line 0 1 (codes "x") ∷ line 1 2 (codes "x") ∷ line 2 1 (codes "x") ∷ []) → ⊥
children_of_two h = absurd (omega arith)

no_element : AreLines (line 0 1 (codes "x") ∷ line 1 0 (codes "x") ∷ []) → ⊥
no_element h = absurd (omega arith)
