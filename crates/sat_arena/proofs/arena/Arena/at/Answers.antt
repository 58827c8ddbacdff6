use Rattle.std.proofs.Common.{◌≡◌, ◌<◌, ℕ, List, length, map, get_or, sym, subst, ◌∙◌, arith}
use Rattle.std.proofs.lemmas.List.{get_or_default, length-map}
use Rattle.sat_arena.specs.Words.{clause_in, watched_clauses}
use Rattle.sat_arena.proofs.ReadLemmas.{ReadsIndex, reads-index}
use Rattle.sat_arena.proofs.arena.Arena.at.Goals as goal

reads-word : (vars : ℕ) (words firsts starts : List ℕ) (k x : ℕ) → k < length (watched_clauses vars words firsts starts).clauses → x ≡ get_or starts k x → ReadsIndex (watched_clauses vars words firsts starts) k x
reads-word vars words firsts starts k x bound e =
    let n : length (map (clause_in words) starts) ≡ length starts = simp length-map in
    let b : k < length starts = omega (arith, n, bound) in
    subst (ReadsIndex (watched_clauses vars words firsts starts) k) (sym (e ∙ get_or_default starts k x 0 b)) (reads-index vars words firsts starts k b)

pub returns-clause-clause : goal.returns-clause-clause
returns-clause-clause c =
    let a = c.self.inside in
    rw (← c.self.view_is) (reads-word a.vars a.words.items a.firsts.items a.starts.items c.args.k c.index.result.now (rw (← c.self.view_is) at c.requires) c.index.ensures).clause

pub returns-clause-index : goal.returns-clause-index
returns-clause-index c =
    let a = c.self.inside in
    rw (← c.self.view_is) (reads-word a.vars a.words.items a.firsts.items a.starts.items c.args.k c.index.result.now (rw (← c.self.view_is) at c.requires) c.index.ensures).index

pub returns-clause-known : goal.returns-clause-known
returns-clause-known c =
    let a = c.self.inside in
    rw (← c.self.view_is) (reads-word a.vars a.words.items a.firsts.items a.starts.items c.args.k c.index.result.now (rw (← c.self.view_is) at c.requires) c.index.ensures).known
