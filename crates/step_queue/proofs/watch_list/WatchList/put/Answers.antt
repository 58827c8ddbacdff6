use Rattle.std.proofs.Common.{◌≡◌, ◌⊎◌, ℕ, List, sym, subst}
use Rattle.std.specs.List.{Contains}
use Rattle.std.specs.BTreeSet.{insert_key}
use Rattle.step_queue.specs.WatchLists as spec
use Rattle.step_queue.specs.declared.watch_list.Entry.{Entry}
use Rattle.step_queue.proofs.Entries.{entry_cmp, same_entry}
use Rattle.step_queue.proofs.Sets.{is_put, others_stay, one_put}
use Rattle.step_queue.proofs.watch_list.WatchList.put.Goals as goal

pub returns-clause-stay : goal.returns-clause-stay
returns-clause-stay c = λ e among. subst (λ (ks : List Entry). Contains ks e) (sym c.in_ok-insert.ensures.keys)
    (others_stay entry_cmp same_entry (record { selector = c.args.selector; decl = c.place_of-decl.result; candidate = c.args.candidate }) c.self.inside.entries.keys e (subst (λ (ks : List Entry). Contains ks e) (sym c.self.view_is) among))

pub returns-clause-put : goal.returns-clause-put
returns-clause-put c = subst (λ (ks : List Entry). Contains ks (spec.entry c.args.selector c.args.decl c.args.candidate)) (sym c.in_ok-insert.ensures.keys)
    (subst (λ (n : ℕ). Contains (insert_key entry_cmp c.self.inside.entries.keys (record { selector = c.args.selector; decl = n; candidate = c.args.candidate })) (spec.entry c.args.selector c.args.decl c.args.candidate)) (sym c.place_of-decl.ensures.exact)
    (is_put entry_cmp same_entry (spec.entry c.args.selector c.args.decl c.args.candidate) c.self.inside.entries.keys))

pub returns-clause-only : goal.returns-clause-only
returns-clause-only c = λ e among. subst (λ (ks : List Entry). Contains ks e ⊎ (e ≡ spec.entry c.args.selector c.args.decl c.args.candidate)) c.self.view_is
    (one_put entry_cmp same_entry (spec.entry c.args.selector c.args.decl c.args.candidate) c.self.inside.entries.keys e
    (subst (λ (n : ℕ). Contains (insert_key entry_cmp c.self.inside.entries.keys (record { selector = c.args.selector; decl = n; candidate = c.args.candidate })) e) c.place_of-decl.ensures.exact
    (subst (λ (ks : List Entry). Contains ks e) c.in_ok-insert.ensures.keys among)))
