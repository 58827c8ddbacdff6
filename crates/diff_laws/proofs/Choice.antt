-- What wins of what is listed by place, as the best of declarations without their places.
use Rattle.std.proofs.Common.{◌≡◌, Bool, true, false, List, [], ◌∷◌, ◌++◌, map, Option, Some, None, option_map, refl, ap, ◌∙◌}
use Rattle.std.specs.Prelude.{if◌then◌else◌}
use Rattle.std.specs.List.{AllByRecursion, filter, flat_map}
use Rattle.std.proofs.lemmas.List.Elements.{filter-append}
use Rattle.cascade_laws.specs.Meaning.Meanings.{without_place}
use Rattle.css_model.specs.Cascade.Winner.{AppliedDeclaration, Declared, Understood, Winner, exceeds, greater, greatest, is_understood, outcome}
use Rattle.diff_laws.proofs.Best.{best, best_each, best_flat, better}
use Rattle.diff_laws.proofs.Listed.{Ascends, IsNotPast, filter_ascends, greater_is, numbers}

greater_is_better : (e : AppliedDeclaration) (es : List AppliedDeclaration) → AllByRecursion (IsNotPast e) es →
    option_map without_place (greater e (greatest es)) ≡ better (without_place e) (option_map without_place (greatest es))
greater_is_better e es before = which (greatest es) refl
  where
    which : (o : Option AppliedDeclaration) → greatest es ≡ o → option_map without_place (greater e o) ≡ better (without_place e) (option_map without_place o)
    which None is = refl
    which (Some f) is = ap (option_map without_place) (greater_is e es f before is) ∙ chosen (exceeds (numbers e) (numbers f))
      where
        chosen : (b : Bool) → option_map without_place (if b then Some e else Some f) ≡ (if b then Some (without_place e) else Some (without_place f))
        chosen true = refl
        chosen false = refl

greatest_is_best : (es : List AppliedDeclaration) → Ascends es → option_map without_place (greatest es) ≡ best (map without_place es)
greatest_is_best [] up = refl
greatest_is_best (e ∷ es) up = greater_is_better e es up.0 ∙ ap (better (without_place e)) (greatest_is_best es up.1)

filter_map : (p : Declared → Bool) (es : List AppliedDeclaration) → map without_place (filter (λ e. p (without_place e)) es) ≡ filter p (map without_place es)
filter_map p [] = refl
filter_map p (e ∷ es) = which (p (without_place e)) (filter_map p es)
  where
    which : (b : Bool) → map without_place (filter (λ e. p (without_place e)) es) ≡ filter p (map without_place es) →
        map without_place (if b then e ∷ filter (λ e. p (without_place e)) es else filter (λ e. p (without_place e)) es) ≡ (if b then without_place e ∷ filter p (map without_place es) else filter p (map without_place es))
    which true rest = ap (λ (ds : List Declared). without_place e ∷ ds) rest
    which false rest = rest

-- whether a declaration is understood
abbrev pub known : List Understood → Declared → Bool
known us d = is_understood us (record { decl = d.decl; specificity = d.specificity; place = record { item = 0; position = 0 } })

-- what wins by a declaration
abbrev pub won : Declared → Winner
won d = record { name = d.decl.name; value = d.decl.value; important = d.decl.important; specificity = d.specificity }

pub wins_best : (us : List Understood) (es : List AppliedDeclaration) → Ascends es →
    option_map outcome (greatest (filter (is_understood us) es)) ≡ option_map won (best (filter (known us) (map without_place es)))
wins_best us es up =
    in_two (greatest (filter (is_understood us) es))
    ∙ ap (option_map won) (greatest_is_best (filter (is_understood us) es) (filter_ascends (is_understood us) es up) ∙ ap (best) (filter_map (known us) es))
  where
    in_two : (o : Option AppliedDeclaration) → option_map outcome o ≡ option_map won (option_map without_place o)
    in_two None = refl
    in_two (Some e) = refl

-- ---- What elements give

pub filter_flat : (O : Type 0) (p : Declared → Bool) (gives : O → List Declared) (os : List O) → filter p (flat_map gives os) ≡ flat_map (λ o. filter p (gives o)) os
filter_flat O p gives [] = refl
filter_flat O p gives (o ∷ os) = filter-append p (gives o) (flat_map gives os) ∙ ap (λ (ds : List Declared). filter p (gives o) ++ ds) (filter_flat O p gives os)

-- the best of what is understood of what elements give
abbrev pub best_of : (O : Type 0) → List Understood → (O → List Declared) → List O → Option Declared
best_of O us gives os = best_each O (λ o. filter (known us) (gives o)) os

pub wins_of : (O : Type 0) (us : List Understood) (gives : O → List Declared) (os : List O) (es : List AppliedDeclaration) → Ascends es → map without_place es ≡ flat_map gives os →
    option_map outcome (greatest (filter (is_understood us) es)) ≡ option_map won (best_of O us gives os)
wins_of O us gives os es up are =
    wins_best us es up
    ∙ ap (λ (ds : List Declared). option_map won (best (filter (known us) ds))) are
    ∙ ap (λ (ds : List Declared). option_map won (best ds)) (filter_flat O (known us) gives os)
    ∙ ap (option_map won) (best_flat O (λ o. filter (known us) (gives o)) os)
