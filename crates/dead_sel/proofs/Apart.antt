-- Whether the answers that are held say that a selector and `*` are apart.
use Rattle.std.proofs.Common.{◌≡◌, ◌⊎◌, ◌&&◌, inl, inr, ℕ, zero, suc, ◌<◌, Bool, true, false, List, [], ◌∷◌, length, get_or, Option, Some, None, refl, sym, ap, subst, ◌∙◌, arith}
use Rattle.std.specs.Borrow.{Bor}
use Rattle.std.specs.List.{AllPairs, Contains, list_any}
use Rattle.std.proofs.Math.Logic.{∥∥₁_elim, ∥∥₁_map}
use Rattle.std.proofs.lemmas.Bool.{false≢true, and_from, and_parts, cases_order, false_from_ne_true, or_cases, or_left, or_right}
use Rattle.std.proofs.lemmas.List.{get_or_default}
use Rattle.std.proofs.lemmas.List.Elements.{All-contains}
use Rattle.css_model.proofs.ForCallers.{selector_decides}
use Rattle.css_model.specs.contracts.selector.SelectorPartialEq.TheImpl as selector
use Rattle.css_model.specs.Documents.RunDocuments.{expand, target_of}
use Rattle.css_model.specs.Documents.SelectorParts.{SelectorParts}
use Rattle.overlap.specs.declared.answer.Answer.{Answer}
use Rattle.overlap.specs.declared.answer.Answer.TheVariants.{Apart, Meet, Outside, Spent}
use Rattle.overlap.specs.Laws.{ApartSelectorsDoNotMeet}
use Rattle.overlap.specs.PairsParts.{Answered, PairsParts}
use Rattle.overlap.specs.Remembered.{IsAnswered, IsOfOther, IsTrueList, Known}
use Rattle.pair_laws.specs.Profile.Limited.{ProfileKeepsTheLimits}
use Rattle.dead_sel.specs.Held.{is_apart, is_dead, is_known_apart, says_dead}
use Rattle.dead_sel.specs.Laws.{DeadMatchNothing, IsUndecided, OthersAreUndecided}
use Rattle.dead_sel.specs.Living.{every}
use Rattle.dead_sel.proofs.Known.{answer_is, of_held}
use Rattle.dead_sel.proofs.Star.{every_matches}

-- ---- Which answer says it

apart_is : (answer : Answer) → is_apart answer ≡ true → answer ≡ Apart
apart_is Apart h = refl
apart_is (Meet e) h = absurd (false≢true h)
apart_is (Outside reason number) h = absurd (false≢true h)
apart_is (Spent ledger) h = absurd (false≢true h)

-- an answer that says it, by its parts
record Says (s : SelectorParts) (e : Answered) : Type 0 where
  left : e.left ≡ s
  right : e.right ≡ every s.pseudo
  answer : e.answer ≡ Apart

says : (s : SelectorParts) (e : Answered) → says_dead s e ≡ true → Says s e
says s e h =
    let first = and_parts ((selector.ghosts).eq e.left s && (selector.ghosts).eq e.right (every s.pseudo)) (is_apart e.answer) h in
    let second = and_parts ((selector.ghosts).eq e.left s) ((selector.ghosts).eq e.right (every s.pseudo)) first.0 in
    record { left = (selector_decides e.left s).0 second.0; right = (selector_decides e.right (every s.pseudo)).0 second.1; answer = apart_is e.answer first.1 }

-- the answer Apart does
apart_says : (s : SelectorParts) → says_dead s (record { left = s; right = every s.pseudo; answer = Apart }) ≡ true
apart_says s =
    and_from ((selector.ghosts).eq s s && (selector.ghosts).eq (every s.pseudo) (every s.pseudo)) true
    (and_from ((selector.ghosts).eq s s) ((selector.ghosts).eq (every s.pseudo) (every s.pseudo)) ((selector_decides s s).1 refl) ((selector_decides (every s.pseudo) (every s.pseudo)).1 refl)) refl

-- ---- One among others

here : {X : Type 0} (x : X) (xs : List X) → Contains (x ∷ xs) x
here x xs = (0, omega arith, refl)

there : {X : Type 0} (y : X) (xs : List X) (x : X) → Contains xs x → Contains (y ∷ xs) x
there y xs x h = (suc h.0, omega arith, h.2)

any_from : {X : Type 0} (f : X → Bool) (xs : List X) → list_any f xs ≡ true → (x : X) × Contains xs x × (f x ≡ true)
any_from f [] h = absurd (false≢true h)
any_from {X = X} f (x ∷ xs) h = which (or_cases (f x) (list_any f xs) h) (any_from f xs)
  where
    which : (f x ≡ true) ⊎ (list_any f xs ≡ true) → (list_any f xs ≡ true → (y : X) × Contains xs y × (f y ≡ true)) → (y : X) × Contains (x ∷ xs) y × (f y ≡ true)
    which (inl e) rest = (x, here x xs, e)
    which (inr e) rest = let w : (y : X) × Contains xs y × (f y ≡ true) = rest e in (w.0, there x xs w.0 w.1, w.2)

any_of : {X : Type 0} (f : X → Bool) (xs : List X) (k : ℕ) (x : X) → k < length xs → get_or xs k x ≡ x → f x ≡ true → list_any f xs ≡ true
any_of f [] k x below at e = absurd (omega arith)
any_of f (y ∷ xs) zero x below at e = or_left (f y) (list_any f xs) (ap f at ∙ e)
any_of f (y ∷ xs) (suc k) x below at e = or_right (f y) (list_any f xs) (any_of f xs k x (omega (arith, below)) at e)

-- an answer that is held says it where it is Apart
held_apart : (answers : List Answered) (s : SelectorParts) (answer : Answer) → IsAnswered answers s (every s.pseudo) answer → answer ≡ Apart → is_dead answers s ≡ true
held_apart answers s answer h e =
    let g : IsAnswered answers s (every s.pseudo) Apart = subst (λ (a : Answer). IsAnswered answers s (every s.pseudo) a) e h in
    any_of (says_dead s) answers g.0 (record { left = s; right = every s.pseudo; answer = Apart }) g.1 g.2 (apart_says s)

-- what says it is held
says_held : (answers : List Answered) (s : SelectorParts) → is_dead answers s ≡ true → IsAnswered answers s (every s.pseudo) Apart
says_held answers s h =
    let w = any_from (says_dead s) answers h in
    let is : Says s w.0 = says s w.0 w.2 in
    let same : w.0 ≡ record { left = s; right = every s.pseudo; answer = Apart } = parts_same w.0 is in
    subst (λ (e : Answered). Contains answers e) same w.1
  where
    parts_same : (e : Answered) → Says s e → e ≡ record { left = s; right = every s.pseudo; answer = Apart }
    parts_same e is =
        ap (λ (x : SelectorParts). record { left = x; right = e.right; answer = e.answer }) is.left
        ∙ ap (λ (x : SelectorParts). record { left = s; right = x; answer = e.answer }) is.right
        ∙ ap (λ (a : Answer). record { left = s; right = every s.pseudo; answer = a }) is.answer

-- ---- No ordered pair has two answers

abbrev Once : List Answered → Type 0
Once answers = AllPairs (λ e f. IsOfOther e.left e.right f) answers

one_answer : (answers : List Answered) → Once answers → (x y : SelectorParts) (a b : Answer) → IsAnswered answers x y a → IsAnswered answers x y b → a ≡ b
one_answer answers once x y a b h g = which (cases_order h.0 g.0)
  where
    -- two entries at different places are of other pairs
    apart : (i j : ℕ) (c d : Answer) → i < j → j < length answers → get_or answers i (record { left = x; right = y; answer = c }) ≡ record { left = x; right = y; answer = c } →
        get_or answers j (record { left = x; right = y; answer = d }) ≡ record { left = x; right = y; answer = d } → ⊥
    apart i j c d less below at at' =
        let e : Answered = record { left = x; right = y; answer = c } in
        let f : Answered = record { left = x; right = y; answer = d } in
        let same : get_or answers j e ≡ f = get_or_default answers j e f below ∙ at' in
        once i j e less below (
          ap (λ (z : Answered). z.left) same ∙ ap (λ (z : Answered). z.left) (sym at),
          ap (λ (z : Answered). z.right) same ∙ ap (λ (z : Answered). z.right) (sym at),
        )

    which : (h.0 ≡ g.0) ⊎ ((h.0 < g.0) ⊎ (g.0 < h.0)) → a ≡ b
    which (inl e) =
        let f : Answered = record { left = x; right = y; answer = a } in
        let k : Answered = record { left = x; right = y; answer = b } in
        ap (λ (z : Answered). z.answer) (sym h.2 ∙ ap (λ (i : ℕ). get_or answers i f) e ∙ get_or_default answers g.0 f k g.1 ∙ g.2)
    which (inr (inl less)) = absurd (apart h.0 g.0 a b less g.1 h.2 g.2)
    which (inr (inr more)) = absurd (apart g.0 h.0 b a more h.1 g.2 h.2)

-- ---- What is known

-- what is known of a selector and `*` says whether it is dead
pub known_dead : (pairs : PairsParts) (s all : SelectorParts) (known : Option (Bor Answer)) → ∥ IsTrueList pairs ∥₁ → all ≡ every s.pseudo → Known pairs.answers s all known →
    is_known_apart known ≡ is_dead pairs.answers s
known_dead pairs s all known list is h = by_known known (subst (λ (x : SelectorParts). Known pairs.answers s x known) is h)
  where
    by_answer : (answer : Answer) → IsAnswered pairs.answers s (every s.pseudo) answer → (b : Bool) → is_apart answer ≡ b → b ≡ is_dead pairs.answers s
    by_answer answer held true e = sym (held_apart pairs.answers s answer held (apart_is answer e))
    by_answer answer held false e =
        sym (false_from_ne_true (is_dead pairs.answers s)
        (λ dead. ∥∥₁_elim list (λ a b. absurd a)
        (λ t. false≢true (sym e ∙ ap is_apart (one_answer pairs.answers t.once s (every s.pseudo) answer Apart held (says_held pairs.answers s dead))))))

    by_known : (o : Option (Bor Answer)) → Known pairs.answers s (every s.pseudo) o → is_known_apart o ≡ is_dead pairs.answers s
    by_known None none =
        sym (false_from_ne_true (is_dead pairs.answers s)
        (λ dead. All-contains (IsOfOther s (every s.pseudo)) pairs.answers (record { left = s; right = every s.pseudo; answer = Apart }) none (says_held pairs.answers s dead) (refl, refl)))
    by_known (Some answer) held = by_answer answer.now held (is_apart answer.now) refl

-- ---- The laws

-- the law `DeadMatchNothing`
pub match_nothing : ApartSelectorsDoNotMeet → DeadMatchNothing
match_nothing law pairs list s dead doc target legal m =
    law pairs s (every s.pseudo) list (says_held pairs.answers s dead) (record { doc = doc; target = target; legal = legal; first = m; second = every_matches doc target s m })

-- the law `OthersAreUndecided`
pub undecided : ProfileKeepsTheLimits → OthersAreUndecided
undecided limits pairs list s profile held alive none = which held.0 held.1
  where
    which : (answer : Answer) → IsAnswered pairs.answers s (every s.pseudo) answer → IsUndecided pairs.answers s
    which Apart h = absurd (false≢true (sym alive ∙ held_apart pairs.answers s Apart h refl))
    which (Meet e) h =
        absurd (∥∥₁_elim (of_held pairs s (Meet e) (limits s profile) list h) (λ a b. absurd a) (λ t. none (expand e) (target_of e) t.0.legal t.0.matches))
    which (Outside reason number) h = inl (subst (λ (a : Answer). IsAnswered pairs.answers s (every s.pseudo) a) (answer_is (Outside reason number) (∥∥₁_map (of_held pairs s (Outside reason number) (limits s profile) list h) (λ t. t.1))) h)
    which (Spent ledger) h = inr (ledger, h)
