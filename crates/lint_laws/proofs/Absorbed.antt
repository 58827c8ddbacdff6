-- A declaration that comes again later in a list changes nothing about its winner.
use Rattle.std.proofs.Common.{◌≡◌, ◌⊎◌, ℕ, suc, ◌<◌, Bool, true, false, IsTrue, IfSome, List, [], ◌∷◌, ◌++◌, map, append-nil, Option, Some, None, refl, sym, ap, ap₂, ◌∙◌, subst, inl, inr, arith}
use Rattle.std.specs.List.{All, Contains}
use Rattle.std.proofs.lemmas.Bool.{false≢true}
use Rattle.std.proofs.lemmas.List.{map-append}
use Rattle.std.proofs.lemmas.List.Elements.{All-cons, All-contains, Contains-append_left, Contains-append_right}
use Rattle.list_facts.proofs.Members.{Contains-here, Contains-there, Contains-nil, Contains-cons_cases}
use Rattle.cascade_laws.specs.Meaning.Meanings.{MeaningsCountByWinners, SheetMeansItsWinner, winner_of, without_place}
use Rattle.cascade_laws.specs.Winning.{GreatestIsWinner, IsGreatest, NoWinnerIsNoneUnderstood, Outranks, OutrankingIsDecided, WinnerIsGreatest}
use Rattle.css_model.specs.declared.sheet.Item.{Item}
use Rattle.css_model.specs.declared.sheet.Item.TheVariants.{KeptBlock}
use Rattle.css_model.specs.Cascade.Winner.{AppliedDeclaration, Declared, IsLater, Place, Understood, Winner, applied_by_kept, applied_from, is_understood, outcome, outranks, winner}
use Rattle.css_model.specs.Documents.Document.{Document, Target}
use Rattle.css_model.specs.Documents.Matching.{matches}
use Rattle.css_model.specs.Documents.SelectorParts.{SelectorParts}
use Rattle.lint_laws.proofs.Declarations.{placeless}

-- the laws of the cascade that are used
pub record Laws : Type 0 where
  pub means : SheetMeansItsWinner
  pub counts : MeaningsCountByWinners
  pub is_greatest : WinnerIsGreatest
  pub is_winner : GreatestIsWinner
  pub is_none : NoWinnerIsNoneUnderstood
  pub order : OutrankingIsDecided

-- ---- Two lists one after the other, as what two kept items mean

abbrev two : List Item
two = KeptBlock (record { start = 0; «end» = 0 }) ∷ KeptBlock (record { start = 0; «end» = 0 }) ∷ []

two_mean : (matched : SelectorParts → Bool) (xs ys : List Declared) → map without_place (applied_from matched 0 (xs ∷ ys ∷ []) two) ≡ xs ++ ys
two_mean matched xs ys =
    map-append without_place (applied_by_kept 0 0 xs) (applied_by_kept 1 0 ys ++ [])
    ∙ ap₂ (λ (us vs : List Declared). us ++ vs) (placeless 0 0 xs) (ap (map without_place) (append-nil (applied_by_kept 1 0 ys)) ∙ placeless 1 0 ys)

two_win : Laws → (doc : Document) (target : Target) (us : List Understood) (xs ys : List Declared) → winner_of us (xs ++ ys) ≡ winner doc target (xs ∷ ys ∷ []) two us
two_win laws doc target us xs ys = ap (winner_of us) (sym (two_mean (matches doc target) xs ys)) ∙ laws.means doc target two us (xs ∷ ys ∷ [])

-- what wins in the later part alone decides
pub later_part : Laws → (doc : Document) (target : Target) (us : List Understood) (xs ys zs : List Declared) → winner_of us ys ≡ winner_of us zs → winner_of us (xs ++ ys) ≡ winner_of us (xs ++ zs)
later_part laws doc target us xs ys zs same =
    two_win laws doc target us xs ys ∙ laws.counts doc target two us (xs ∷ ys ∷ []) (xs ∷ zs ∷ []) (refl, (same, tt)) ∙ sym (two_win laws doc target us xs zs)

-- ---- One that comes again

-- a declaration at a place
abbrev put : Place → Declared → AppliedDeclaration
put place x = record { decl = x.decl; specificity = x.specificity; place = place }

abbrev first : Place
first = record { item = 0; position = 0 }

-- a member of what a kept item means is applied somewhere
applied_there : (n k : ℕ) (ys : List Declared) (x : Declared) → Contains ys x → (place : Place) × Contains (applied_by_kept n k ys) (put place x)
applied_there n k [] x h = absurd (Contains-nil x h)
applied_there n k (y ∷ ys) x h = which (Contains-cons_cases y ys x h) (λ g. applied_there n (suc k) ys x g)
  where
    which : (y ≡ x) ⊎ Contains ys x → (Contains ys x → (place : Place) × Contains (applied_by_kept n (suc k) ys) (put place x)) → (place : Place) × Contains (applied_by_kept n k (y ∷ ys)) (put place x)
    which (inl e) rest = (
      record { item = n; position = k },
      subst (λ (z : Declared). Contains (applied_by_kept n k (y ∷ ys)) (put (record { item = n; position = k }) z)) e (Contains-here (put (record { item = n; position = k }) y) (applied_by_kept n (suc k) ys)),
    )
    which (inr g) rest =
        let w : (place : Place) × Contains (applied_by_kept n (suc k) ys) (put place x) = rest g in
        (w.0, Contains-there (put (record { item = n; position = k }) y) (applied_by_kept n (suc k) ys) (put w.0 x) w.1)

-- the first place is no later than another one
not_later : (place : Place) → IsLater first place → ⊥
not_later place (inl h) = absurd (omega arith)
not_later place (inr h) = absurd (let l : place.position < 0 = h.1 in omega arith)

-- what one at another place does not outrank, it does not outrank at the first one
not_above : OutrankingIsDecided → (x : Declared) (place : Place) (e : AppliedDeclaration) → outranks (put place x) e ≡ false → outranks (put first x) e ≡ false
not_above law x place e below = which (outranks (put first x) e) refl
  where
    words : Outranks (put first x) e → Outranks (put place x) e
    words (inl m) = inl m
    words (inr (inl s)) = inr (inl s)
    words (inr (inr l)) = absurd (not_later e.place l.2)

    which : (b : Bool) → outranks (put first x) e ≡ b → outranks (put first x) e ≡ false
    which true h = absurd (false≢true (sym below ∙ (law (put place x) e).1 (words ((law (put first x) e).0 h))))
    which false h = h

module _ (laws : Laws) (doc : Document) (target : Target) (us : List Understood) where
  -- one that comes again may go
  one_goes : (ys : List Declared) (x : Declared) → Contains ys x → winner_of us (x ∷ ys) ≡ winner_of us ys
  one_goes ys x h = two_win laws doc target us (x ∷ []) ys ∙ same (winner doc target ([] ∷ ys ∷ []) two us) refl ∙ sym (two_win laws doc target us [] ys)
    where
      again : (place : Place) × Contains (applied_by_kept 1 0 ys ++ []) (put place x)
      again = let w = applied_there 1 0 ys x h in (w.0, Contains-append_left (applied_by_kept 1 0 ys) [] (put w.0 x) w.1)

      top : (e : AppliedDeclaration) → IsGreatest us (applied_by_kept 1 0 ys ++ []) e → IsGreatest us (put first x ∷ (applied_by_kept 1 0 ys ++ [])) e
      top e g = record {
        applied = Contains-there (put first x) (applied_by_kept 1 0 ys ++ []) e g.applied;
        understood = g.understood;
        greatest = All-cons (λ (f : AppliedDeclaration). IsTrue (is_understood us f) → outranks f e ≡ false) (put first x) (applied_by_kept 1 0 ys ++ [])
            (λ u. not_above laws.order x again.0 e (All-contains (λ (f : AppliedDeclaration). IsTrue (is_understood us f) → outranks f e ≡ false) (applied_by_kept 1 0 ys ++ []) (put again.0 x) g.greatest again.1 u))
            g.greatest;
      }

      same : (o : Option Winner) → winner doc target ([] ∷ ys ∷ []) two us ≡ o → winner doc target ((x ∷ []) ∷ ys ∷ []) two us ≡ winner doc target ([] ∷ ys ∷ []) two us
      same None e =
          let none : All (λ f. is_understood us f ≡ false) (applied_by_kept 1 0 ys ++ []) = (laws.is_none doc target ([] ∷ ys ∷ []) two us).0 e in
          (laws.is_none doc target ((x ∷ []) ∷ ys ∷ []) two us).1
          (All-cons (λ (f : AppliedDeclaration). is_understood us f ≡ false) (put first x) (applied_by_kept 1 0 ys ++ [])
          (All-contains (λ (f : AppliedDeclaration). is_understood us f ≡ false) (applied_by_kept 1 0 ys ++ []) (put again.0 x) none again.1) none)
          ∙ sym e
      same (Some w) e =
          let g : (f : AppliedDeclaration) × IsGreatest us (applied_by_kept 1 0 ys ++ []) f × (w ≡ outcome f) =
          subst (λ (o : Option Winner). IfSome o (λ v. (f : AppliedDeclaration) × IsGreatest us (applied_by_kept 1 0 ys ++ []) f × (v ≡ outcome f))) e (laws.is_greatest doc target ([] ∷ ys ∷ []) two us) in
          laws.is_winner doc target ((x ∷ []) ∷ ys ∷ []) two us g.0 (top g.0 g.1) ∙ ap Some (sym g.2) ∙ sym e

  -- so may some that all come again
  some_go : (xs ys : List Declared) → ((x : Declared) → Contains xs x → Contains ys x) → winner_of us (xs ++ ys) ≡ winner_of us ys
  some_go [] ys h = refl
  some_go (x ∷ xs) ys h = one_goes (xs ++ ys) x (Contains-append_right xs ys x (h x (Contains-here x xs))) ∙ some_go xs ys (λ y g. h y (Contains-there x xs y g))

  -- and what comes after them may go as well
  pub they_go : (xs ys zs : List Declared) → winner_of us ys ≡ winner_of us zs → ((x : Declared) → Contains xs x → Contains zs x) → winner_of us (xs ++ ys) ≡ winner_of us zs
  they_go xs ys zs same h = later_part laws doc target us xs ys zs same ∙ some_go xs zs h
