-- Shapes that are the same before two rests, test by test, and lists by their ends.
use Rattle.std.proofs.Common.{ℕ, zero, suc, ◌+◌, ◌<◌, ◌≡◌, Bool, true, false, cond, ltb, List, [], ◌∷◌, ◌++◌, Result, Option, Ok, Err, length, refl, sym, ap, ◌∙◌, arith, append_assoc}
use Rattle.std.proofs.lemmas.Bool.{lt-ltb}
use Rattle.std.proofs.lemmas.List.{length-append}
use Rattle.css_model.specs.declared.token.TokenKind.{TokenKind}
use Rattle.css_model.specs.declared.token.TokenFlaw.{TokenFlaw}
use Rattle.css_model.specs.Text.TokenAt.{Shape}

-- the same test, and two branches that end alike
pub chosen_again : {A : Type 0} (b : Bool) (x y x' y' z : A) → (b ≡ true → x ≡ z → x' ≡ z) → (b ≡ false → y ≡ z → y' ≡ z) → cond b x y ≡ z → cond b x' y' ≡ z
chosen_again true x y x' y' z p q is = p refl is
chosen_again false x y x' y' z p q is = q refl is

-- a test that tells the same where its branch ends alike
pub tested_again : {A : Type 0} (b b' : Bool) (x y x' y' z : A) → (b ≡ true → x ≡ z → (b' ≡ true) × (x' ≡ z)) → (b ≡ false → y ≡ z → (b' ≡ false) × (y' ≡ z))
    → cond b x y ≡ z → cond b' x' y' ≡ z
tested_again true b' x y x' y' z p q is = let now = p refl is in rw now.0 now.1
tested_again false b' x y x' y' z p q is = let now = q refl is in rw now.0 now.1

pub shape_parts : (k k' : Option TokenKind) (n n' : ℕ) → ◌≡◌ {A = Result Shape TokenFlaw} (Ok (k, n)) (Ok (k', n')) → (k ≡ k') × (n ≡ n')
shape_parts k k' n n' is =
    let same : ◌≡◌ {A = Shape} (k, n) (k', n') = cc in
    (ap (λ (s : Shape). s.0) same, ap (λ (s : Shape). s.1) same)

pub same_shape : (k k' : Option TokenKind) (n n' : ℕ) → k ≡ k' → n ≡ n' → ◌≡◌ {A = Result Shape TokenFlaw} (Ok (k, n)) (Ok (k', n'))
same_shape k k' n n' kinds sizes = rw (kinds, sizes) refl

pub both_wrong : (b : Bool) (f g : TokenFlaw) (s : Shape) → ◌≡◌ {A = Result Shape TokenFlaw} (cond b (Err f) (Err g)) (Ok s) → ⊥
both_wrong true f g s is = absurd (cc)
both_wrong false f g s is = absurd (cc)

-- a list by its last element
pub by_last : (P : List ℕ → Type 0) → P [] → ((w : List ℕ) (x : ℕ) → P (w ++ x ∷ [])) → (v : List ℕ) → P v
by_last P none last [] = none
by_last P none last (c ∷ cs) = by_last (λ u. P (c ∷ u)) (last [] c) (λ w x. last (c ∷ w) x) cs

-- a list by the element behind its first n
pub by_cut : (P : List ℕ → Type 0) (n : ℕ) → ((w : List ℕ) (x : ℕ) (z : List ℕ) → length w ≡ n → P (w ++ x ∷ z)) → (v : List ℕ) → n < length v → P v
by_cut P n cut [] inside = absurd (omega arith)
by_cut P zero cut (c ∷ cs) inside = cut [] c cs refl
by_cut P (suc n) cut (c ∷ cs) inside =
    by_cut (λ u. P (c ∷ u)) n (λ w x z size. cut (c ∷ w) x z (omega (arith, size))) cs (omega arith)

-- what is read the same, the last byte of the text before the rests put to them
pub again_last : (f : List ℕ → Result Shape TokenFlaw) (k : Option TokenKind) (n : ℕ) (w : List ℕ) (x : ℕ) (old new : List ℕ)
    → (f (w ++ x ∷ old) ≡ Ok (k, suc n + length w) → f (w ++ x ∷ new) ≡ Ok (k, suc n + length w))
    → f ((w ++ x ∷ []) ++ old) ≡ Ok (k, n + length (w ++ x ∷ [])) → f ((w ++ x ∷ []) ++ new) ≡ Ok (k, n + length (w ++ x ∷ []))
again_last f k n w x old new again is =
    let size : n + length (w ++ x ∷ []) ≡ suc n + length w = omega (arith, length-append w (x ∷ [])) in
    let moved : (rest : List ℕ) → f ((w ++ x ∷ []) ++ rest) ≡ f (w ++ x ∷ rest) = λ rest. ap f (append_assoc w (x ∷ []) rest) in
    let sized : ◌≡◌ {A = Result Shape TokenFlaw} (Ok (k, n + length (w ++ x ∷ []))) (Ok (k, suc n + length w)) = ap (λ (m : ℕ). Ok (k, m)) size in
    moved new ∙ again (sym (moved old) ∙ is ∙ sized) ∙ sym sized

-- whether there is any
pub same_any : (m m' : ℕ) → (m ≡ 0 → m' ≡ 0) → (0 < m → 0 < m') → ltb 0 m' ≡ ltb 0 m
same_any zero m' none some = let is = none refl in rw is refl
same_any (suc m) m' none some = lt-ltb 0 m' (some (omega arith)) ∙ sym (lt-ltb 0 (suc m) (omega arith))
