-- The lists of watching clauses, as links between the clauses' words.
use Rattle.std.specs.Prelude.{◌≡◌, ◌+◌, ◌-◌, ◌==◌, if◌then◌else◌, ℕ, List, [], ◌∷◌, Option, None, Some, slice_index, slice_set}
use Rattle.cnf.specs.declared.lit.Lit.{Lit}
use Rattle.sat_arena.specs.declared.words.TheConstants.{ONE_LINK, OTHER_LINK}

-- from `at` on the links go through these members, and then to the end
abbrev pub Linked : (ℕ → ℕ) → ℕ → ℕ → List ℕ → Type 0
Linked next end at [] = at ≡ end
Linked next end at (c ∷ cs) = (at ≡ c) × Linked next end (next c) cs

-- where the link of a clause in the list of one of its watches stands
abbrev pub slot : List ℕ → ℕ → ℕ → ℕ
slot words l c = if slice_index words c == l then c + ONE_LINK else c + OTHER_LINK

-- the clause that is next in the list
abbrev pub link : List ℕ → ℕ → ℕ → ℕ
link words l c = slice_index words (slot words l c)

-- the words after a clause was taken out of a list: the link before it goes past it
abbrev pub words_after_cut : List ℕ → ℕ → Option ℕ → ℕ → List ℕ
words_after_cut words l None next = words
words_after_cut words l (Some p) next = slice_set words (slot words l p) next

-- the heads of the lists then
abbrev pub firsts_after_cut : List ℕ → ℕ → Option ℕ → ℕ → List ℕ
firsts_after_cut firsts l None next = slice_set firsts l next
firsts_after_cut firsts l (Some p) next = firsts

-- the words after a clause watches `to` in place of l: the cut, the watch, and the watch's link
abbrev pub words_after_move : List ℕ → List ℕ → ℕ → Option ℕ → ℕ → ℕ → List ℕ
words_after_move words firsts l before c to =
    slice_set (slice_set (words_after_cut words l before (link words l c)) (slot words l c - 1) to) (slot words l c) (slice_index firsts to)

-- the heads of the lists then
abbrev pub firsts_after_move : List ℕ → List ℕ → ℕ → Option ℕ → ℕ → ℕ → List ℕ
firsts_after_move words firsts l before c to = slice_set (firsts_after_cut firsts l before (link words l c)) to c

-- the heads of the lists after a clause was attached
abbrev pub firsts_after_attach : List ℕ → ℕ → Lit → Lit → List ℕ
firsts_after_attach firsts c one other = if one.0 == other.0 then firsts else slice_set (slice_set firsts one.0 c) other.0 c

-- the link of a new clause in the list of one of its watches
abbrev pub link_of_new : List ℕ → Lit → Lit → Lit → ℕ
link_of_new firsts one other l = if one.0 == other.0 then 0 else slice_index firsts l.0
