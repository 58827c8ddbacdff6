-- What is on the watch list under the digests of pairs.
use Rattle.std.specs.Prelude.{ℕ, ◌+◌, ◌*◌, ◌==◌, ◌&&◌, Bool, List, map}
use Rattle.std.specs.List.{filter}
use Rattle.step_queue.specs.declared.watch_list.Entry.{Entry}
use Rattle.step_queue.specs.declared.candidate.Candidate.{Candidate}

-- the number of an entry for the digest of a declaration: there is another number right before and right after it
abbrev pub place_of : ℕ → ℕ
place_of decl = decl * 2 + 1

-- a candidate under the digests of a selector and of a declaration
abbrev pub entry : (selector decl : ℕ) → Candidate → Entry
entry selector decl candidate = record { selector = selector; decl = place_of decl; candidate = candidate }

-- whether an entry is under these digests
abbrev pub is_under : (selector decl : ℕ) → Entry → Bool
is_under selector decl e = (e.selector == selector) && (e.decl == place_of decl)

-- the candidates of those that do, in their order
abbrev pub candidates_under : (selector decl : ℕ) → List Entry → List Candidate
candidates_under selector decl entries = map (λ e. e.candidate) (filter (is_under selector decl) entries)
