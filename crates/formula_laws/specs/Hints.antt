-- Hints: clauses that follow from the conditions. They say nothing new, but a solver sees at once what it would else
-- have to find among the digits of sums.
use Rattle.std.specs.Prelude.{Bool, List, [], None, Option, Some, false, if◌then◌else◌, length, map, nat_le, suc, true, zero, ℕ, ◌%◌, ◌&&◌, ◌++◌, ◌-◌, ◌/◌, ◌==◌, ◌||◌, ◌∷◌}
use Rattle.formula_laws.specs.Asked.{are_joined, aside, run_rests, starts_run}
use Rattle.formula_laws.specs.Counts.{Names, implied, steps_below, when}
use Rattle.formula_laws.specs.Path.{both_fit, each_below, node_lit, only_if}
use Rattle.formula_laws.specs.Relations.{with_less}
use Rattle.cnf.specs.Cnf.{Cnf}
use Rattle.cnf.specs.Gates.{with_clauses}
use Rattle.cnf.specs.Lits.{negation}
use Rattle.cnf.specs.Numbers.{with_division}
use Rattle.cnf.specs.declared.lit.Lit.{Lit}
use Rattle.css_model.specs.Documents.SelectorParts.{SelectorParts}
use Rattle.css_model.specs.declared.selector.Combinator.{Combinator}
use Rattle.css_model.specs.declared.selector.Combinator.TheVariants.{Child, Inside, Later, Next}
use Rattle.css_model.specs.declared.selector.Simple.{Simple}
use Rattle.formula_laws.specs.declared.count.Count.{Count}
use Rattle.formula_laws.specs.declared.count.Count.TheVariants.{Before, Behind}
use Rattle.grid_laws.specs.Grid.{together}
use Rattle.remainders.specs.Remainders.{joint_rest, joint_step, most_joint}
use Rattle.remainders.specs.declared.remainder.Remainder.{Remainder}

-- whether a combinator leads to a sibling somewhere before
abbrev pub is_later : Combinator → Bool
is_later Inside = false
is_later Child = false
is_later Next = false
is_later Later = true

-- whether that between the k-th compound of a chain and the next one does
abbrev pub is_later_at : List Combinator → ℕ → Bool
is_later_at [] k = false
is_later_at (link ∷ links) zero = is_later link
is_later_at (link ∷ links) (suc k) = is_later_at links k

-- then more siblings stand behind the next one
abbrev pub with_rise : List Combinator → (ℕ → List Lit) → ℕ → Cnf → Cnf
with_rise links a k = when (is_later_at links k) (with_less [] (a k) (a (suc k)))

-- the same along a whole chain
abbrev pub with_rises : List Combinator → (ℕ → List Lit) → Cnf → Cnf
with_rises links a = steps_below (length links) (with_rise links a)

-- the digits are those of c
abbrev pub rest_digits : List Lit → ℕ → List (List Lit)
rest_digits [] c = []
rest_digits (l ∷ ls) c = ((if c % 2 == 1 then l else negation l) ∷ []) ∷ rest_digits ls (c / 2)

-- or nothing can be
abbrev pub rest_clauses : List Lit → Option ℕ → List (List Lit)
rest_clauses ls None = [] ∷ []
rest_clauses ls (Some c) = rest_digits ls c

-- a number leaves all of these, where they are two or more
abbrev pub with_rests : List Remainder → List Lit → Cnf → Cnf
with_rests rs n = when (nat_le 2 (length rs) && nat_le (joint_step rs) most_joint)
    (λ f. let d = with_division f n (joint_step rs) in with_clauses d.formula (rest_clauses d.remainder (joint_rest rs)))

-- so does that of the first compound of a run
abbrev pub with_run_rests : Count → List Combinator → List (List Simple) → (ℕ → List Lit) → ℕ → Cnf → Cnf
with_run_rests count links chain own p = when (starts_run links p) (with_rests (run_rests count links chain p) (own p))

-- the numbers of one kind of two selectors
pub record Owns : Type 0 where
  pub count : Count
  pub left : ℕ → List Lit
  pub right : ℕ → List Lit

abbrev pub owns_of : Names → Count → Owns
owns_of names Before = record { count = Before; left = names.bx; right = names.by }
owns_of names Behind = record { count = Behind; left = names.ax; right = names.ay }

-- what two runs ask together, where the compounds i and j, one of which is the first of its run, stand in one slot
abbrev pub shared_rests : Count → List Remainder → List Remainder → ℕ → ℕ → List Remainder
shared_rests count rx ry i' j' = rx ++ map (aside count i' j') ry

-- whether these two compounds of the runs can share a slot, and one of them is the first of its run
abbrev pub is_cell : SelectorParts → SelectorParts → ℕ → ℕ → ℕ → ℕ → Bool
is_cell x y p q i j = are_joined x.links p i && (are_joined y.links q j && (((i == p) || (j == q)) && both_fit x.links y.links i j))

-- the first number leaves that then
abbrev pub cell_rests : Count → SelectorParts → SelectorParts → ℕ → ℕ → List Lit → ℕ → ℕ → List (List Lit)
cell_rests count x y p q remainder i j =
    only_if (is_cell x y p q i j)
    (implied (node_lit (suc (length y.links)) together i j)
    (rest_clauses remainder (joint_rest (shared_rests count (run_rests count x.links x.chain p) (run_rests count y.links y.chain q) (i - p) (j - q)))))

-- the hints of two runs, which begin with the compounds p and q, where something is asked of each
abbrev pub with_shared : SelectorParts → SelectorParts → Owns → ℕ → ℕ → Cnf → Cnf
with_shared x y owns p q =
    let rx = run_rests owns.count x.links x.chain p in
    let ry = run_rests owns.count y.links y.chain q in
    when (starts_run x.links p && (starts_run y.links q && (nat_le 1 (length rx) && (nat_le 1 (length ry) && nat_le (joint_step (rx ++ ry)) most_joint))))
    (λ f. let d = with_division f (owns.left p) (joint_step (rx ++ ry)) in
    with_clauses d.formula (each_below (suc (length x.links)) (λ i. each_below (suc (length y.links)) (λ j. cell_rests owns.count x y p q d.remainder i j))))

-- the hints of one kind of numbers
abbrev pub with_remainders : SelectorParts → SelectorParts → Owns → Cnf → Cnf
with_remainders x y owns f =
    let left = steps_below (suc (length x.links)) (with_run_rests owns.count x.links x.chain owns.left) f in
    let right = steps_below (suc (length y.links)) (with_run_rests owns.count y.links y.chain owns.right) left in
    steps_below (suc (length x.links)) (λ p. steps_below (suc (length y.links)) (with_shared x y owns p)) right

-- the hints on numbers that rise, and on what they leave
abbrev pub with_asked_hints : SelectorParts → SelectorParts → Names → Cnf → Cnf
with_asked_hints x y names f =
    let left = with_rises x.links names.ax f in
    let right = with_rises y.links names.ay left in
    let befores = with_remainders x y (owns_of names Before) right in
    with_remainders x y (owns_of names Behind) befores
