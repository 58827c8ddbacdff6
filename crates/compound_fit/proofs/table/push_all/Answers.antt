use Rattle.std.proofs.Common.{◌∷◌, [], ◌++◌, List, ap₂, subst, sym}
use Rattle.std.proofs.lemmas.List.Elements.{All-head, All-tail, Contains-append_left, Contains-append_right}
use Rattle.std.specs.List.{All, flat_map}
use Rattle.css_model.specs.declared.selector.Simple.{Simple}
use Rattle.list_facts.proofs.Members.{Contains-there}
use Rattle.compound_fit.specs.Conditions.{IsFittable}
use Rattle.compound_fit.specs.Table.{AddsFits, NoFits, groups, others, target, with_each}
use Rattle.compound_fit.proofs.TableSteps.{adds_then, first_part, if_err, no_fits_in, on_ok, second_part}
use Rattle.compound_fit.proofs.table.push_all.Goals as goal

pub push_fit-requires : goal.push_fit-requires
push_fit-requires c =
    let x = c.args.x.now in
    let y = c.args.y.now in
    let pairs = flat_map (λ first. with_each first (others y)) (others x) in
    subst IsFittable (sym (ap₂ (λ (s t : List Simple). s ++ t) c.target.ensures c.target-2.ensures))
    (All-head IsFittable (target x ++ target y) (others x ++ (others y ++ pairs)) c.requires)

pub push_alone-requires : goal.push_alone-requires
push_alone-requires c =
    let x = c.args.x.now in
    let y = c.args.y.now in
    let pairs = flat_map (λ first. with_each first (others y)) (others x) in
    subst (All IsFittable) (sym c.others.ensures)
    (first_part IsFittable (others x) (others y ++ pairs) (All-tail IsFittable (target x ++ target y) (others x ++ (others y ++ pairs)) c.requires))

pub returns-in-Err-push_alone-clause-err : goal.returns-in-Err-push_alone-clause-err
returns-in-Err-push_alone-clause-err c =
    let x = c.args.x.now in
    let y = c.args.y.now in
    let pairs = flat_map (λ first. with_each first (others y)) (others x) in
    no_fits_in c.in-Err-push_alone.e (others x) (groups x y)
    (λ g has. Contains-there (target x ++ target y) (others x ++ (others y ++ pairs)) g (Contains-append_left (others x) (others y ++ pairs) g has))
    (subst (NoFits c.in-Err-push_alone.e) c.others.ensures c.in-Err-push_alone.ensures.err)

pub push_alone-requires-2 : goal.push_alone-requires-2
push_alone-requires-2 c =
    let x = c.args.x.now in
    let y = c.args.y.now in
    let pairs = flat_map (λ first. with_each first (others y)) (others x) in
    subst (All IsFittable) (sym c.others-2.ensures)
    (first_part IsFittable (others y) pairs (second_part IsFittable (others x) (others y ++ pairs) (All-tail IsFittable (target x ++ target y) (others x ++ (others y ++ pairs)) c.requires)))

pub returns-in-Err-push_alone-2-clause-err : goal.returns-in-Err-push_alone-2-clause-err
returns-in-Err-push_alone-2-clause-err c =
    let x = c.args.x.now in
    let y = c.args.y.now in
    let pairs = flat_map (λ first. with_each first (others y)) (others x) in
    no_fits_in c.in-Err-push_alone-2.e (others y) (groups x y)
    (λ g has. Contains-there (target x ++ target y) (others x ++ (others y ++ pairs)) g (Contains-append_right (others x) (others y ++ pairs) g (Contains-append_left (others y) pairs g has)))
    (subst (NoFits c.in-Err-push_alone-2.e) c.others-2.ensures c.in-Err-push_alone-2.ensures.err)

pub push_pairs-requires : goal.push_pairs-requires
push_pairs-requires c =
    let x = c.args.x.now in
    let y = c.args.y.now in
    let pairs = flat_map (λ first. with_each first (others y)) (others x) in
    subst (All IsFittable)
    (sym (ap₂ (λ (xs ys : List (List Simple)). flat_map (λ first. with_each first ys) xs) c.others-3.ensures c.others-4.ensures))
    (second_part IsFittable (others y) pairs (second_part IsFittable (others x) (others y ++ pairs) (All-tail IsFittable (target x ++ target y) (others x ++ (others y ++ pairs)) c.requires)))

pub returns-clause-ok : goal.returns-clause-ok
returns-clause-ok c =
    let x = c.args.x.now in
    let y = c.args.y.now in
    let pairs = flat_map (λ first. with_each first (others y)) (others x) in
    let f0 = c.args.fits.now.items in
    let f1 = c.push_fit.new.fits.items in
    let f2 = c.push_alone.new.fits.items in
    let f3 = c.push_alone-2.new.fits.items in
    let f4 = c.push_pairs.new.fits.items in
    let targets : AddsFits f0 f1 ((target x ++ target y) ∷ []) =
    subst (λ (g : List Simple). AddsFits f0 f1 (g ∷ [])) (ap₂ (λ (s t : List Simple). s ++ t) c.target.ensures c.target-2.ensures) c.in-Ok.ensures.ok in
    let left : AddsFits f1 f2 (others x) = subst (AddsFits f1 f2) c.others.ensures c.in-Ok-push_alone.ensures.ok in
    let right : AddsFits f2 f3 (others y) = subst (AddsFits f2 f3) c.others-2.ensures c.in-Ok-push_alone-2.ensures.ok in
    on_ok c.push_pairs.result
    (λ adds. adds_then f0 f1 f4 ((target x ++ target y) ∷ []) (others x ++ (others y ++ pairs)) targets
    (adds_then f1 f2 f4 (others x) (others y ++ pairs) left
    (adds_then f2 f3 f4 (others y) pairs right
    (subst (AddsFits f3 f4) (ap₂ (λ (xs ys : List (List Simple)). flat_map (λ first. with_each first ys) xs) c.others-3.ensures c.others-4.ensures) adds))))
    c.push_pairs.ensures.ok

pub returns-clause-err : goal.returns-clause-err
returns-clause-err c =
    let x = c.args.x.now in
    let y = c.args.y.now in
    let pairs = flat_map (λ first. with_each first (others y)) (others x) in
    let given = flat_map (λ first. with_each first c.others-4.result.now) c.others-3.result.now in
    if_err (λ e. NoFits e given) (λ e. NoFits e (groups x y)) c.push_pairs.result
    (λ e none. no_fits_in e pairs (groups x y)
    (λ g has. Contains-there (target x ++ target y) (others x ++ (others y ++ pairs)) g (Contains-append_right (others x) (others y ++ pairs) g (Contains-append_right (others y) pairs g has)))
    (subst (NoFits e) (ap₂ (λ (xs ys : List (List Simple)). flat_map (λ first. with_each first ys) xs) c.others-3.ensures c.others-4.ensures) none))
    c.push_pairs.ensures.err
