use Rattle.std.proofs.Common.{◌≡◌, Bool, List, [], ◌∷◌, ◌++◌, length, refl, sym, ap, ◌∙◌, append-nil, arith}
use Rattle.std.specs.Vec.Iter.{into_iter_items}
use Rattle.repeat_runs.proofs.keeping.keep.Goals as goal
use Rattle.run_laws.specs.Marks.{kept}

nothing_left : {X : Type 0} (xs : List X) → length xs ≡ 0 → xs ≡ []
nothing_left [] h = refl
nothing_left (x ∷ xs) h = absurd (omega (arith, h))

kept_nothing : {X : Type 0} (gone : List Bool) → kept {X = X} gone [] ≡ []
kept_nothing [] = refl
kept_nothing (g ∷ gone) = refl

pub returns : goal.returns
returns g c =
    let at = c.items in
    let empty : into_iter_items at.item-iterator ≡ [] = nothing_left (into_iter_items at.item-iterator) (sym at.invariant.long ∙ c.in-None.ensures.steps.0) in
    sym (append-nil at.left.items)
    ∙ ap (λ (zs : List _). at.left.items ++ zs) (sym (kept_nothing at.rest.now) ∙ ap (kept at.rest.now) (sym empty))
    ∙ at.invariant.same
    ∙ ap (kept c.args.gone.now) c.into_iter-item-iterator.ensures.into_iter_gives.0
