use Rattle.std.proofs.Common.{◌≡◌, ℕ, List, [], ◌∷◌, ◌++◌, length, ap, ◌∙◌}
use Rattle.std.specs.List.{filter}
use Rattle.std.specs.Prelude.{codes, decimal}
use Rattle.sheet_members.specs.Compared.{Common, Compared, changed}
use Rattle.sheet_members.specs.Members.{Member}
use Rattle.diff_text.specs.Lines.{counted, is_masked, is_related, is_reversed, is_unsure}
use Rattle.diff_text.proofs.Pieces.{ended, grown}
use Rattle.diff_text.proofs.counting.put_first_line.Goals as goal

pub returns : goal.returns
returns c =
    let words = c.args.words.now in
    let m = c.args.compared.now in
    let d : List ℕ = c.push_group-4.new.out.items in
    let e : List ℕ = c.push_members.new.out.items in
    let f : List ℕ = c.push_members-2.new.out.items in
    let g : List ℕ = c.push_changed.new.out.items in
    let missing : e ≡ d ++ (codes " missing " ++ decimal (length m.missing)) =
    c.in_ok-push_members.ensures ∙ ap (λ (ms : List Member). d ++ (codes " missing " ++ decimal (length ms))) (c.deref.ensures.value ∙ ap (λ (x : Compared). x.missing) c.compared.view_is) in
    let extra : f ≡ e ++ (codes " extra " ++ decimal (length m.extra)) =
    c.in_ok-push_members-2.ensures ∙ ap (λ (ms : List Member). e ++ (codes " extra " ++ decimal (length ms))) (c.deref-2.ensures.value ∙ ap (λ (x : Compared). x.extra) c.compared.view_is) in
    let others : g ≡ f ++ (codes " changed " ++ decimal (length (changed m))) =
    c.in_ok-push_changed.ensures
    ∙ ap (λ (cs : List Common). f ++ (codes " changed " ++ decimal (length (filter (λ x. x.mine.label.changed) cs)))) (c.deref-3.ensures.value ∙ ap (λ (x : Compared). x.commons) c.compared.view_is) in
    let reversed : List ℕ = codes "reversed " ++ counted is_reversed words in
    let related : List ℕ = (reversed ++ codes " related ") ++ counted is_related words in
    let masked : List ℕ = (related ++ codes " masked ") ++ counted is_masked words in
    let unsure : List ℕ = (masked ++ codes " unsure ") ++ counted is_unsure words in
    let lacking : List ℕ = (unsure ++ codes " missing ") ++ decimal (length m.missing) in
    let more : List ℕ = (lacking ++ codes " extra ") ++ decimal (length m.extra) in
    let all : List ℕ = (more ++ codes " changed ") ++ decimal (length (changed m)) in
    let out : List ℕ = c.args.out.now.items in
    let a : List ℕ = c.push_group.new.out.items in
    let b : List ℕ = c.push_group-2.new.out.items in
    let k : List ℕ = c.push_group-3.new.out.items in
    let second : b ≡ out ++ related = grown out a b reversed (codes " related ") (counted is_related words) c.in_ok-push_group.ensures c.in_ok-push_group-2.ensures in
    let third : k ≡ out ++ masked = grown out b k related (codes " masked ") (counted is_masked words) second c.in_ok-push_group-3.ensures in
    let fourth : d ≡ out ++ unsure = grown out k d masked (codes " unsure ") (counted is_unsure words) third c.in_ok-push_group-4.ensures in
    let fifth : e ≡ out ++ lacking = grown out d e unsure (codes " missing ") (decimal (length m.missing)) fourth missing in
    let sixth : f ≡ out ++ more = grown out e f lacking (codes " extra ") (decimal (length m.extra)) fifth extra in
    let seventh : g ≡ out ++ all = grown out f g more (codes " changed ") (decimal (length (changed m))) sixth others in
    ended out g c.push.new.self.items all (10 ∷ []) seventh c.in_ok-push.ensures.items
