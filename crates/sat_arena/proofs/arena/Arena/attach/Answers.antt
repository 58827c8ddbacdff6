use Rattle.std.proofs.Common.{rules, ◌≡◌, ◌≢◌, [], ◌∷◌, ◌++◌, length, sym, ap, ◌∙◌, arith}
use Rattle.std.specs.List.{Contains}
use Rattle.cnf.specs.declared.lit.Lit.{Lit}
use Rattle.sat_arena.specs.Arena.{last_watch, next_watch, indexes}
use Rattle.sat_arena.specs.Links.{firsts_after_attach, link_of_new}
use Rattle.sat_arena.specs.Words.{clause_words, watched_clauses}
use Rattle.sat_arena.proofs.ReadLemmas.{known-start}
use Rattle.sat_arena.proofs.AttachLemmas.{attaches}
use Rattle.sat_arena.proofs.arena.Arena.attach.Goals as goal

pub link_of_new-other_link-requires : goal.link_of_new-other_link-requires
link_of_new-other_link-requires c ne =
    let a = c.self.inside in
    let ls = c.args.lits.now in
    let all = attaches a.vars a.words.items a.firsts.items a.starts.items ls c.self.invariant (rw (← c.self.view_is) at c.requires) in
    let one = c.watch_pair.ensures.one in
    let other = c.watch_pair.ensures.other in
    let differ : (last_watch ls).0 ≢ (next_watch ls).0 = λ q. ne (ap (λ (x : Lit). x.0) one ∙ (q ∙ sym (ap (λ (x : Lit). x.0) other))) in
    let b = all.other differ in
    let e = ap (λ (x : Lit). x.0) other in
    rw c.deref-2.ensures.value (omega (arith, b, e))

pub link_of_new-one_link-requires : goal.link_of_new-one_link-requires
link_of_new-one_link-requires c ne =
    let a = c.self.inside in
    let ls = c.args.lits.now in
    let all = attaches a.vars a.words.items a.firsts.items a.starts.items ls c.self.invariant (rw (← c.self.view_is) at c.requires) in
    let one = c.watch_pair.ensures.one in
    let other = c.watch_pair.ensures.other in
    let differ : (last_watch ls).0 ≢ (next_watch ls).0 = λ q. ne (ap (λ (x : Lit). x.0) one ∙ (q ∙ sym (ap (λ (x : Lit). x.0) other))) in
    let b = all.one differ in
    let e = ap (λ (x : Lit). x.0) one in
    rw c.deref.ensures.value (omega (arith, b, e))

pub put_in_front-requires-clause-one : goal.put_in_front-requires-clause-one
put_in_front-requires-clause-one c ne =
    let a = c.self.inside in
    let ls = c.args.lits.now in
    let all = attaches a.vars a.words.items a.firsts.items a.starts.items ls c.self.invariant (rw (← c.self.view_is) at c.requires) in
    let one = c.watch_pair.ensures.one in
    let other = c.watch_pair.ensures.other in
    let differ : (last_watch ls).0 ≢ (next_watch ls).0 = λ q. ne (ap (λ (x : Lit). x.0) one ∙ (q ∙ sym (ap (λ (x : Lit). x.0) other))) in
    let b = all.one differ in
    let e = ap (λ (x : Lit). x.0) one in
    omega (arith, b, e)

pub put_in_front-requires-clause-other : goal.put_in_front-requires-clause-other
put_in_front-requires-clause-other c ne =
    let a = c.self.inside in
    let ls = c.args.lits.now in
    let all = attaches a.vars a.words.items a.firsts.items a.starts.items ls c.self.invariant (rw (← c.self.view_is) at c.requires) in
    let one = c.watch_pair.ensures.one in
    let other = c.watch_pair.ensures.other in
    let differ : (last_watch ls).0 ≢ (next_watch ls).0 = λ q. ne (ap (λ (x : Lit). x.0) one ∙ (q ∙ sym (ap (λ (x : Lit). x.0) other))) in
    let b = all.other differ in
    let e = ap (λ (x : Lit). x.0) other in
    omega (arith, b, e)

pub invariant_of-self-2 : goal.invariant_of-self-2
invariant_of-self-2 c =
    let a = c.self.inside in
    let ls = c.args.lits.now in
    let all = attaches a.vars a.words.items a.firsts.items a.starts.items ls c.self.invariant (rw (← c.self.view_is) at c.requires) in
    let one = c.watch_pair.ensures.one in
    let other = c.watch_pair.ensures.other in
    let index : c.len-index.result ≡ length a.words.items = search rules in
    let one_link : c.link_of_new-one_link.result ≡ link_of_new a.firsts.items (last_watch ls) (next_watch ls) (last_watch ls) = search rules in
    let other_link : c.link_of_new-other_link.result ≡ link_of_new a.firsts.items (last_watch ls) (next_watch ls) (next_watch ls) = search rules in
    let words0 : c.reserve-2.new.self.items ≡ a.words.items = search rules in
    let words : c.push_clause.new.words.items ≡ a.words.items ++ clause_words ls (last_watch ls).0 (link_of_new a.firsts.items (last_watch ls) (next_watch ls) (last_watch ls)) (next_watch ls).0 (link_of_new a.firsts.items (last_watch ls) (next_watch ls) (next_watch ls)) = rw (words0, one_link, other_link, one, other) at c.push_clause.ensures in
    let starts : c.push.new.self.items ≡ a.starts.items ++ length a.words.items ∷ [] = search rules in
    let firsts : c.put_in_front.new.firsts.items ≡ firsts_after_attach a.firsts.items (length a.words.items) (last_watch ls) (next_watch ls) = rw (index, one, other) at c.put_in_front.ensures in
    rw (words, firsts, starts) all.done.inside

pub returns-clause-clauses : goal.returns-clause-clauses
returns-clause-clauses c =
    let a = c.self.inside in
    let ls = c.args.lits.now in
    let all = attaches a.vars a.words.items a.firsts.items a.starts.items ls c.self.invariant (rw (← c.self.view_is) at c.requires) in
    let one = c.watch_pair.ensures.one in
    let other = c.watch_pair.ensures.other in
    let index : c.len-index.result ≡ length a.words.items = search rules in
    let one_link : c.link_of_new-one_link.result ≡ link_of_new a.firsts.items (last_watch ls) (next_watch ls) (last_watch ls) = search rules in
    let other_link : c.link_of_new-other_link.result ≡ link_of_new a.firsts.items (last_watch ls) (next_watch ls) (next_watch ls) = search rules in
    let words0 : c.reserve-2.new.self.items ≡ a.words.items = search rules in
    let words : c.push_clause.new.words.items ≡ a.words.items ++ clause_words ls (last_watch ls).0 (link_of_new a.firsts.items (last_watch ls) (next_watch ls) (last_watch ls)) (next_watch ls).0 (link_of_new a.firsts.items (last_watch ls) (next_watch ls) (next_watch ls)) = rw (words0, one_link, other_link, one, other) at c.push_clause.ensures in
    let starts : c.push.new.self.items ≡ a.starts.items ++ length a.words.items ∷ [] = search rules in
    let firsts : c.put_in_front.new.firsts.items ≡ firsts_after_attach a.firsts.items (length a.words.items) (last_watch ls) (next_watch ls) = rw (index, one, other) at c.put_in_front.ensures in
    rw (← c.self.view_is, words, starts, index) all.done.clauses

pub returns-clause-known : goal.returns-clause-known
returns-clause-known c =
    let a = c.self.inside in
    let ls = c.args.lits.now in
    let all = attaches a.vars a.words.items a.firsts.items a.starts.items ls c.self.invariant (rw (← c.self.view_is) at c.requires) in
    let one = c.watch_pair.ensures.one in
    let other = c.watch_pair.ensures.other in
    let index : c.len-index.result ≡ length a.words.items = search rules in
    let one_link : c.link_of_new-one_link.result ≡ link_of_new a.firsts.items (last_watch ls) (next_watch ls) (last_watch ls) = search rules in
    let other_link : c.link_of_new-other_link.result ≡ link_of_new a.firsts.items (last_watch ls) (next_watch ls) (next_watch ls) = search rules in
    let words0 : c.reserve-2.new.self.items ≡ a.words.items = search rules in
    let words : c.push_clause.new.words.items ≡ a.words.items ++ clause_words ls (last_watch ls).0 (link_of_new a.firsts.items (last_watch ls) (next_watch ls) (last_watch ls)) (next_watch ls).0 (link_of_new a.firsts.items (last_watch ls) (next_watch ls) (next_watch ls)) = rw (words0, one_link, other_link, one, other) at c.push_clause.ensures in
    let starts : c.push.new.self.items ≡ a.starts.items ++ length a.words.items ∷ [] = search rules in
    let firsts : c.put_in_front.new.firsts.items ≡ firsts_after_attach a.firsts.items (length a.words.items) (last_watch ls) (next_watch ls) = rw (index, one, other) at c.put_in_front.ensures in
    rw (words, starts, index) all.known

pub returns-clause-arena : goal.returns-clause-arena
returns-clause-arena c =
    let a = c.self.inside in
    let ls = c.args.lits.now in
    let all = attaches a.vars a.words.items a.firsts.items a.starts.items ls c.self.invariant (rw (← c.self.view_is) at c.requires) in
    let one = c.watch_pair.ensures.one in
    let other = c.watch_pair.ensures.other in
    let index : c.len-index.result ≡ length a.words.items = search rules in
    let one_link : c.link_of_new-one_link.result ≡ link_of_new a.firsts.items (last_watch ls) (next_watch ls) (last_watch ls) = search rules in
    let other_link : c.link_of_new-other_link.result ≡ link_of_new a.firsts.items (last_watch ls) (next_watch ls) (next_watch ls) = search rules in
    let words0 : c.reserve-2.new.self.items ≡ a.words.items = search rules in
    let words : c.push_clause.new.words.items ≡ a.words.items ++ clause_words ls (last_watch ls).0 (link_of_new a.firsts.items (last_watch ls) (next_watch ls) (last_watch ls)) (next_watch ls).0 (link_of_new a.firsts.items (last_watch ls) (next_watch ls) (next_watch ls)) = rw (words0, one_link, other_link, one, other) at c.push_clause.ensures in
    let starts : c.push.new.self.items ≡ a.starts.items ++ length a.words.items ∷ [] = search rules in
    let firsts : c.put_in_front.new.firsts.items ≡ firsts_after_attach a.firsts.items (length a.words.items) (last_watch ls) (next_watch ls) = rw (index, one, other) at c.put_in_front.ensures in
    rw (words, firsts, starts) all.done.arena

pub returns-clause-lists : goal.returns-clause-lists
returns-clause-lists c l =
    let a = c.self.inside in
    let ls = c.args.lits.now in
    let all = attaches a.vars a.words.items a.firsts.items a.starts.items ls c.self.invariant (rw (← c.self.view_is) at c.requires) in
    let one = c.watch_pair.ensures.one in
    let other = c.watch_pair.ensures.other in
    let index : c.len-index.result ≡ length a.words.items = search rules in
    let one_link : c.link_of_new-one_link.result ≡ link_of_new a.firsts.items (last_watch ls) (next_watch ls) (last_watch ls) = search rules in
    let other_link : c.link_of_new-other_link.result ≡ link_of_new a.firsts.items (last_watch ls) (next_watch ls) (next_watch ls) = search rules in
    let words0 : c.reserve-2.new.self.items ≡ a.words.items = search rules in
    let words : c.push_clause.new.words.items ≡ a.words.items ++ clause_words ls (last_watch ls).0 (link_of_new a.firsts.items (last_watch ls) (next_watch ls) (last_watch ls)) (next_watch ls).0 (link_of_new a.firsts.items (last_watch ls) (next_watch ls) (next_watch ls)) = rw (words0, one_link, other_link, one, other) at c.push_clause.ensures in
    let starts : c.push.new.self.items ≡ a.starts.items ++ length a.words.items ∷ [] = search rules in
    let firsts : c.put_in_front.new.firsts.items ≡ firsts_after_attach a.firsts.items (length a.words.items) (last_watch ls) (next_watch ls) = rw (index, one, other) at c.put_in_front.ensures in
    rw (← c.self.view_is, words, firsts, index) (all.done.lists l)

pub returns-clause-fresh : goal.returns-clause-fresh
returns-clause-fresh c o =
    let a = c.self.inside in
    let ls = c.args.lits.now in
    let all = attaches a.vars a.words.items a.firsts.items a.starts.items ls c.self.invariant (rw (← c.self.view_is) at c.requires) in
    let one = c.watch_pair.ensures.one in
    let other = c.watch_pair.ensures.other in
    let index : c.len-index.result ≡ length a.words.items = search rules in
    let known : Contains (indexes (watched_clauses a.vars a.words.items a.firsts.items a.starts.items)) (length a.words.items) = rw (← c.self.view_is, index) at o in
    all.fresh (known-start a.vars a.words.items a.firsts.items a.starts.items (length a.words.items) known)
