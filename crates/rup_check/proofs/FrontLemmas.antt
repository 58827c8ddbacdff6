-- Lemmas on numbers and literals in front of a text: there is one way to read them.
use Rattle.std.proofs.Common.{◌≡◌, ◌+◌, ◌<◌, ◌≤◌, ◌^◌, ◌/◌, ◌%◌, ◌⊎◌, eqb, ℕ, false, IsTrue, zero, suc, Result, Ok, Err, List, [], ◌∷◌, ◌++◌, length, get_or, codes, refl, sym, ap, subst, ◌∙◌, inl, inr, arith, append_assoc}
use Rattle.std.specs.Prelude.{decimal}
use Rattle.std.specs.Str.Parse.{AllDigits}
use Rattle.std.proofs.lemmas.Bool.{and_parts, ltb-true, eqb-true, eq-eqb, cases_eq, cases_lt, cases_Bool, cond-true, cond-false}
use Rattle.std.proofs.lemmas.List.{append-nil}
use Rattle.std.proofs.lemmas.Fmt.{decimal_is_IsNumeral, decimal_injective}
use Rattle.std.proofs.lemmas.Str.Parse.{digit_from_value}
use Rattle.cnf.specs.declared.lit.Lit.{Lit}
use Rattle.cnf.specs.Lits.{variable, is_negated, is_below, are_below}
use Rattle.rup_check.specs.Fronts.{IsFirst, NoLiteral, lits_text}
use Rattle.rup_check.specs.Reading.{max_vars}
use Rattle.rup_check.specs.Text.{head_text, lit_text, line_text, lines_text}

cons-head : {X : Type 0} {a b : X} {xs ys : List X} → a ∷ xs ≡ b ∷ ys → a ≡ b
cons-head e = cc

cons-tail : {X : Type 0} {a b : X} {xs ys : List X} → a ∷ xs ≡ b ∷ ys → xs ≡ ys
cons-tail e = cc

pub ok≢err : {E : Type 0} (e : E) (n : ℕ) → ◌≡◌ {A = Result ℕ E} (Err e) (Ok n) → ⊥
ok≢err e n q = cc

pub ok-same : {E : Type 0} (m n : ℕ) → ◌≡◌ {A = Result ℕ E} (Ok m) (Ok n) → m ≡ n
ok-same m n q = cc

-- ---- digits before a byte that is none

pub digits-of : (n : ℕ) → n < 2 ^ 64 → AllDigits 10 (decimal n)
digits-of n h = (decimal_is_IsNumeral n h).0.1

high-at : (xs rest : List ℕ) (k : ℕ) → AllDigits 10 xs → k < length xs → 48 ≤ get_or (xs ++ rest) k 0
high-at [] rest k d b = absurd (omega arith)
high-at (c ∷ cs) rest zero d b = omega (arith, digit_from_value c d.0)
high-at (c ∷ cs) rest (suc k) d b = high-at cs rest k d.1 (omega arith)

pub seam-at : (xs : List ℕ) (y : ℕ) (ys : List ℕ) → get_or (xs ++ y ∷ ys) (length xs) 0 ≡ y
seam-at [] y ys = refl
seam-at (x ∷ xs) y ys = seam-at xs y ys

pub seam-inside : (xs : List ℕ) (y : ℕ) (ys : List ℕ) → length xs < length (xs ++ y ∷ ys)
seam-inside [] y ys = omega arith
seam-inside (x ∷ xs) y ys = let b = seam-inside xs y ys in omega arith

pub first-place : (xs rest text : List ℕ) (end place : ℕ) → AllDigits 10 xs → end < 48 → IsFirst text end place → text ≡ xs ++ end ∷ rest → place ≡ length xs
first-place xs rest text end place d low f e =
    elim (cases_lt place (length xs)) [
      | inl b ↦
          let P : List ℕ → Type 0 = λ t. get_or t place 0 ≡ end in
          let is : get_or (xs ++ end ∷ rest) place 0 ≡ end = subst P e f.is_byte in
          absurd (let h = high-at xs (end ∷ rest) place d b in omega arith)
      | inr b ↦ elim (cases_lt (length xs) place) [
        | inl k ↦
            let Q : List ℕ → Type 0 = λ t. get_or t (length xs) 0 ≡ end in
            absurd (f.none_before (length xs) k (subst Q (sym e) (seam-at xs end rest)))
        | inr k ↦ omega arith
      ]
    ]

seam-unique : (xs ys : List ℕ) (end : ℕ) (r s : List ℕ) → AllDigits 10 xs → AllDigits 10 ys → end < 48 → xs ++ end ∷ r ≡ ys ++ end ∷ s → (xs ≡ ys) × (r ≡ s)
seam-unique [] [] end r s d k low e = (refl, cons-tail e)
seam-unique [] (y ∷ ys) end r s d k low e = absurd (let q = cons-head e in omega (arith, q, digit_from_value y k.0))
seam-unique (x ∷ xs) [] end r s d k low e = absurd (let q = cons-head e in omega (arith, q, digit_from_value x d.0))
seam-unique (x ∷ xs) (y ∷ ys) end r s d k low e =
    let rest = seam-unique xs ys end r s d.1 k.1 low (cons-tail e) in
    (ap (λ z. z ∷ xs) (cons-head e) ∙ ap (λ zs. y ∷ zs) rest.0, rest.1)

-- a number and what follows it
pub number-unique : (m n end : ℕ) (r s : List ℕ) → m < 2 ^ 64 → n < 2 ^ 64 → end < 48 → decimal m ++ end ∷ r ≡ decimal n ++ end ∷ s → (m ≡ n) × (r ≡ s)
number-unique m n end r s hm hn low e =
    let u = seam-unique (decimal m) (decimal n) end r s (digits-of m hm) (digits-of n hn) low e in
    (decimal_injective m n hm hn u.0, u.1)

-- ---- literals

-- no number begins with the sign
pub minus-apart : (n : ℕ) (rest others : List ℕ) → n < 2 ^ 64 → 45 ∷ others ≡ decimal n ++ 32 ∷ rest → ⊥
minus-apart n rest others h e = by (decimal n) (digits-of n h) e
  where
    by : (ds : List ℕ) → AllDigits 10 ds → 45 ∷ others ≡ ds ++ 32 ∷ rest → ⊥
    by [] d e = let q = cons-head e in omega (arith, q)
    by (c ∷ cs) d e = let q = cons-head e in omega (arith, q, digit_from_value c d.0)

pub lit-negated : (l : Lit) → IsTrue (is_negated l) → lit_text l ≡ 45 ∷ decimal (variable l + 1)
lit-negated l t = ap (λ xs. xs ++ decimal (variable l + 1)) (cond-true (is_negated l) (codes "-") [] t)

pub lit-positive : (l : Lit) → is_negated l ≡ false → lit_text l ≡ decimal (variable l + 1)
lit-positive l t = ap (λ xs. xs ++ decimal (variable l + 1)) (cond-false (is_negated l) (codes "-") [] t)

lit-same : (l m : Lit) → is_negated l ≡ is_negated m → variable l ≡ variable m → l ≡ m
lit-same l m n v = let of_number : ℕ → Lit = λ k. record { 0 = k } in ap of_number (number (l.0) (m.0) n v)
  where
    number : (a b : ℕ) → eqb (a % 2) 1 ≡ eqb (b % 2) 1 → a / 2 ≡ b / 2 → a ≡ b
    number a b n v =
        elim (cases_eq (a % 2) 1) [
          | inl p ↦ let q = eqb-true (b % 2) 1 (sym n ∙ eq-eqb (a % 2) 1 p) in omega arith
          | inr p ↦ elim (cases_eq (b % 2) 1) [
            | inl q ↦ absurd (p (eqb-true (a % 2) 1 (n ∙ eq-eqb (b % 2) 1 q)))
            | inr q ↦ omega arith
          ]
        ]

-- there is one way to read a literal
pub literal-unique : (l m : Lit) (r s : List ℕ) → variable l < 2 ^ 32 → variable m < 2 ^ 32 → lit_text l ++ 32 ∷ r ≡ lit_text m ++ 32 ∷ s → (l ≡ m) × (r ≡ s)
literal-unique l m r s bl bm e =
    let A : List ℕ → Type 0 = λ xs. xs ++ 32 ∷ r ≡ lit_text m ++ 32 ∷ s in
    elim (cases_Bool (is_negated l)) [
      | inl t ↦
          let e1 = subst A (lit-negated l t) e in
          let B : List ℕ → Type 0 = λ xs. 45 ∷ (decimal (variable l + 1) ++ 32 ∷ r) ≡ xs ++ 32 ∷ s in
          elim (cases_Bool (is_negated m)) [
            | inl u ↦
                let w = number-unique (variable l + 1) (variable m + 1) 32 r s (omega arith) (omega arith) (omega arith) (cons-tail (subst B (lit-negated m u) e1)) in
                (lit-same l m (t ∙ sym u) (let k = w.0 in omega arith), w.1)
            | inr u ↦ absurd (minus-apart (variable m + 1) s (decimal (variable l + 1) ++ 32 ∷ r) (omega arith) (subst B (lit-positive m u) e1))
          ]
      | inr t ↦
          let e1 = subst A (lit-positive l t) e in
          let B : List ℕ → Type 0 = λ xs. decimal (variable l + 1) ++ 32 ∷ r ≡ xs ++ 32 ∷ s in
          elim (cases_Bool (is_negated m)) [
            | inl u ↦ absurd (minus-apart (variable l + 1) r (decimal (variable m + 1) ++ 32 ∷ s) (omega arith) (sym (subst B (lit-negated m u) e1)))
            | inr u ↦
                let w = number-unique (variable l + 1) (variable m + 1) 32 r s (omega arith) (omega arith) (omega arith) (subst B (lit-positive m u) e1) in
                (lit-same l m (t ∙ sym u) (let k = w.0 in omega arith), w.1)
          ]
    ]

-- a literal in a text is a sign and a number, or a number
pub literal-parts : (l : Lit) (text rest : List ℕ) → text ≡ lit_text l ++ (codes " " ++ rest) → (text ≡ codes "-" ++ (decimal (variable l + 1) ++ (codes " " ++ rest))) ⊎ (text ≡ decimal (variable l + 1) ++ (codes " " ++ rest))
literal-parts l text rest e =
    let P : List ℕ → Type 0 = λ xs. text ≡ xs ++ (codes " " ++ rest) in
    elim (cases_Bool (is_negated l)) [
      | inl t ↦ inl (subst P (lit-negated l t) e)
      | inr t ↦ inr (subst P (lit-positive l t) e)
    ]

pub minus-tail : (xs ys : List ℕ) → codes "-" ++ xs ≡ codes "-" ++ ys → xs ≡ ys
minus-tail xs ys e = cons-tail e

-- ---- lines

pub line-lits : (ls : List Lit) → line_text ls ≡ lits_text ls ++ codes "0\n"
line-lits [] = refl
line-lits (l ∷ ls) =
    ap (λ xs. (lit_text l ++ codes " ") ++ xs) (line-lits ls)
    ∙ (append_assoc (lit_text l) (codes " ") (lits_text ls ++ codes "0\n") ∙ sym (append_assoc (lit_text l) (codes " " ++ lits_text ls) (codes "0\n")))

pub lits-push : (ls : List Lit) (l : Lit) (rest : List ℕ) → lits_text ls ++ (lit_text l ++ (codes " " ++ rest)) ≡ lits_text (ls ++ l ∷ []) ++ rest
lits-push [] l rest = sym (append_assoc (lit_text l) (codes " " ++ []) rest)
lits-push (x ∷ xs) l rest =
    append_assoc (lit_text x) (codes " " ++ lits_text xs) (lit_text l ++ (codes " " ++ rest))
    ∙ (ap (λ ys. lit_text x ++ (codes " " ++ ys)) (lits-push xs l rest)
    ∙ sym (append_assoc (lit_text x) (codes " " ++ lits_text (xs ++ l ∷ [])) rest))

pub shorter : (l : Lit) (text rest : List ℕ) → text ≡ lit_text l ++ (codes " " ++ rest) → length rest < length text
shorter l text rest e = let n = ap length e in let b = at (lit_text l) in omega arith
  where
    at : (xs : List ℕ) → length rest < length (xs ++ (codes " " ++ rest))
    at [] = omega arith
    at (x ∷ xs) = let b = at xs in omega arith

pub line-split : (l : Lit) (ls : List Lit) (more : List ℕ) → line_text (l ∷ ls) ++ more ≡ lit_text l ++ (codes " " ++ (line_text ls ++ more))
line-split l ls more = append_assoc (lit_text l ++ codes " ") (line_text ls) more ∙ append_assoc (lit_text l) (codes " ") (line_text ls ++ more)

-- what is left of a line
abbrev pub IsLeft : ℕ → List ℕ → List ℕ → Type 0
IsLeft vars rest more = (ls : List Lit) × (IsTrue (are_below vars ls) × (rest ≡ line_text ls ++ more))

pub left-next : (vars : ℕ) (rest next more : List ℕ) (l : Lit) → vars ≤ max_vars → IsTrue (is_below vars l) → rest ≡ lit_text l ++ (codes " " ++ next) → ((r : List ℕ) → rest ≡ codes "0\n" ++ r → ⊥) → IsLeft vars rest more → IsLeft vars next more
left-next vars rest next more l small b e not_end w = by w.0 w.1.0 w.1.1
  where
    by : (ls : List Lit) → IsTrue (are_below vars ls) → rest ≡ line_text ls ++ more → IsLeft vars next more
    by [] h q = absurd (not_end more q)
    by (m ∷ ms) h q =
        let parts = and_parts (is_below vars m) (are_below vars ms) h in
        let bl = ltb-true (variable l) vars b in
        let bm = ltb-true (variable m) vars parts.0 in
        (ms, (parts.1, (literal-unique l m next (line_text ms ++ more) (omega arith) (omega arith) (sym e ∙ (q ∙ line-split m ms more))).1))

pub left-none : (vars : ℕ) (rest more : List ℕ) → NoLiteral vars rest → ((r : List ℕ) → rest ≡ codes "0\n" ++ r → ⊥) → IsLeft vars rest more → ⊥
left-none vars rest more none not_end w = by w.0 w.1.0 w.1.1
  where
    by : (ls : List Lit) → IsTrue (are_below vars ls) → rest ≡ line_text ls ++ more → ⊥
    by [] h q = not_end more q
    by (m ∷ ms) h q = none m (line_text ms ++ more) (and_parts (is_below vars m) (are_below vars ms) h).0 (q ∙ line-split m ms more)

-- ---- the first line

pub head-parts : (vars count : ℕ) (rest : List ℕ) → head_text vars count ++ rest ≡ codes "vars " ++ (decimal vars ++ 32 ∷ (codes "clauses " ++ (decimal count ++ 10 ∷ rest)))
head-parts vars count rest =
    let a = codes "vars " in
    let v = decimal vars in
    let b = codes " clauses " in
    let n = decimal count in
    append_assoc (((a ++ v) ++ b) ++ n) (codes "\n") rest
    ∙ (append_assoc ((a ++ v) ++ b) n (codes "\n" ++ rest)
    ∙ (append_assoc (a ++ v) b (n ++ (codes "\n" ++ rest)) ∙ append_assoc a v (b ++ (n ++ (codes "\n" ++ rest)))))

pub front-tail : (front xs ys : List ℕ) → front ++ xs ≡ front ++ ys → xs ≡ ys
front-tail [] xs ys e = e
front-tail (f ∷ fs) xs ys e = front-tail fs xs ys (cons-tail e)

-- ---- one way to read a line

-- no literal begins as the end of a line
end-apart : (l : Lit) (r s : List ℕ) → variable l < 2 ^ 32 → codes "0\n" ++ s ≡ lit_text l ++ (codes " " ++ r) → ⊥
end-apart l r s b e =
    elim (literal-parts l (codes "0\n" ++ s) r e) [
      | inl q ↦ let h = cons-head q in omega (arith, h)
      | inr q ↦ let d = digits-of (variable l + 1) (omega arith) in by (decimal (variable l + 1)) d q
    ]
  where
    by : (ds : List ℕ) → AllDigits 10 ds → 48 ∷ 10 ∷ s ≡ ds ++ 32 ∷ r → ⊥
    by [] d q = let h = cons-head q in omega (arith, h)
    by (c ∷ []) d q = let h = cons-head (cons-tail q) in omega (arith, h)
    by (c ∷ f ∷ cs) d q = let h = cons-head (cons-tail q) in omega (arith, h, digit_from_value f d.1.0)

pub line-unique : (vars : ℕ) (cs ds : List Lit) (r s : List ℕ) → vars ≤ max_vars → IsTrue (are_below vars cs) → IsTrue (are_below vars ds) → line_text cs ++ r ≡ line_text ds ++ s → cs ≡ ds
line-unique vars [] [] r s small hc hd e = refl
line-unique vars [] (d ∷ ds) r s small hc hd e =
    let b = ltb-true (variable d) vars (and_parts (is_below vars d) (are_below vars ds) hd).0 in
    absurd (end-apart d (line_text ds ++ s) r (omega arith) (e ∙ line-split d ds s))
line-unique vars (c ∷ cs) [] r s small hc hd e =
    let b = ltb-true (variable c) vars (and_parts (is_below vars c) (are_below vars cs) hc).0 in
    absurd (end-apart c (line_text cs ++ r) s (omega arith) (sym e ∙ line-split c cs r))
line-unique vars (c ∷ cs) (d ∷ ds) r s small hc hd e =
    let pc = and_parts (is_below vars c) (are_below vars cs) hc in
    let pd = and_parts (is_below vars d) (are_below vars ds) hd in
    let bc = ltb-true (variable c) vars pc.0 in
    let bd = ltb-true (variable d) vars pd.0 in
    let u = literal-unique c d (line_text cs ++ r) (line_text ds ++ s) (omega arith) (omega arith) (sym (line-split c cs r) ∙ (e ∙ line-split d ds s)) in
    let rest = line-unique vars cs ds r s small pc.1 pd.1 u.1 in
    ap (λ x. x ∷ cs) u.0 ∙ ap (λ xs. d ∷ xs) rest

pub lines-push : (cs : List (List Lit)) (c : List Lit) (rest : List ℕ) → lines_text cs ++ (line_text c ++ rest) ≡ lines_text (cs ++ c ∷ []) ++ rest
lines-push [] c rest = ap (λ xs. xs ++ rest) (sym (append-nil (line_text c)))
lines-push (x ∷ xs) c rest =
    append_assoc (line_text x) (lines_text xs) (line_text c ++ rest)
    ∙ (ap (λ ys. line_text x ++ ys) (lines-push xs c rest) ∙ sym (append_assoc (line_text x) (lines_text (xs ++ c ∷ [])) rest))

pub line-shorter : (ls : List Lit) (text rest : List ℕ) → text ≡ line_text ls ++ rest → length rest < length text
line-shorter ls text rest e =
    let n = ap length (e ∙ (ap (λ xs. xs ++ rest) (line-lits ls) ∙ append_assoc (lits_text ls) (codes "0\n") rest)) in
    let b = at (lits_text ls) in
    omega (arith, n, b)
  where
    at : (xs : List ℕ) → length rest < length (xs ++ (codes "0\n" ++ rest))
    at [] = omega arith
    at (x ∷ xs) = let b = at xs in omega arith
