-- Lemmas on the pieces of a list.
use Rattle.std.proofs.Common.{◌≡◌, ◌+◌, ◌-◌, ◌<◌, ◌≤◌, ℕ, zero, suc, List, [], ◌∷◌, ◌++◌, length, get_or, take, drop, Some, refl, sym, ap, ◌∙◌, arith}
use Rattle.std.specs.List.{slice_get, slice_range}
use Rattle.std.proofs.lemmas.List.{take-append-le, drop-append-le, drop_at, take_all, length-drop}
use Rattle.cnf.specs.declared.lit.Lit.{Lit}
use Rattle.cnf.specs.Layout.{pieces, start_of, RiseTo}

pub RiseTo-le : (start : ℕ) (ends : List ℕ) (n : ℕ) → RiseTo start ends n → start ≤ n
RiseTo-le start [] n h = omega arith
RiseTo-le start (end ∷ ends) n h = let k = RiseTo-le end ends n h.1 in let j = h.0 in omega arith

pub RiseTo-push : (start : ℕ) (ends : List ℕ) (n m : ℕ) → RiseTo start ends n → n ≤ m → RiseTo start (ends ++ m ∷ []) m
RiseTo-push start [] n m h k = (omega arith, refl)
RiseTo-push start (end ∷ ends) n m h k = (h.0, RiseTo-push end ends n m h.1 k)

slice_range-append : (xs ys : List Lit) (a b : ℕ) → a ≤ b → b ≤ length xs → slice_range (xs ++ ys) a b ≡ slice_range xs a b
slice_range-append xs ys a b h k =
    ap (take (b - a)) (drop-append-le a xs ys (omega arith))
    ∙ take-append-le (b - a) (drop a xs) ys (omega (arith, length-drop a xs))

-- a piece more
pub pieces-push : (start : ℕ) (ends : List ℕ) (xs ys : List Lit) → RiseTo start ends (length xs) → pieces start (ends ++ (length xs + length ys) ∷ []) (xs ++ ys) ≡ pieces start ends xs ++ ys ∷ []
pieces-push start [] xs ys h =
    let e : drop start (xs ++ ys) ≡ ys = drop_at xs ys start (sym h) in
    let whole : take ((length xs + length ys) - start) (drop start (xs ++ ys)) ≡ ys =
    ap (take ((length xs + length ys) - start)) e ∙ take_all _ ys (omega arith) in
    ap (λ p. p ∷ []) whole
pieces-push start (end ∷ ends) xs ys h =
    let e = slice_range-append xs ys start end h.0 (RiseTo-le end ends (length xs) h.1) in
    let r = pieces-push end ends xs ys h.1 in
    ap (λ p. p ∷ pieces end (ends ++ (length xs + length ys) ∷ []) (xs ++ ys)) e
    ∙ ap (λ p. slice_range xs start end ∷ p) r

pub length-pieces : (start : ℕ) (ends : List ℕ) (xs : List Lit) → length (pieces start ends xs) ≡ length ends
length-pieces start [] xs = refl
length-pieces start (end ∷ ends) xs = ap suc (length-pieces end ends xs)

pub start-le : (start : ℕ) (ends : List ℕ) (n k : ℕ) → RiseTo start ends n → k < length ends → start_of start ends k ≤ get_or ends k 0
start-le start [] n k h b = omega arith
start-le start (end ∷ ends) n zero h b = h.0
start-le start (end ∷ ends) n (suc zero) h b = start-le end ends n zero h.1 (omega arith)
start-le start (end ∷ ends) n (suc (suc k)) h b = start-le end ends n (suc k) h.1 (omega arith)

pub end-le : (start : ℕ) (ends : List ℕ) (n k : ℕ) → RiseTo start ends n → k < length ends → get_or ends k 0 ≤ n
end-le start [] n k h b = omega arith
end-le start (end ∷ ends) n zero h b = RiseTo-le end ends n h.1
end-le start (end ∷ ends) n (suc k) h b = end-le end ends n k h.1 (omega arith)

pub pieces-get : (start : ℕ) (ends : List ℕ) (xs : List Lit) (k : ℕ) → k < length ends → slice_get (pieces start ends xs) k ≡ Some (slice_range xs (start_of start ends k) (get_or ends k 0))
pieces-get start [] xs k b = absurd (omega arith)
pieces-get start (end ∷ ends) xs zero b = refl
pieces-get start (end ∷ ends) xs (suc zero) b = pieces-get end ends xs zero (omega arith)
pieces-get start (end ∷ ends) xs (suc (suc k)) b = pieces-get end ends xs (suc k) (omega arith)
