-- Rows of pieces, and the runs of units that compute them.
use Rattle.std.proofs.Common.{ℕ, zero, suc, ◌+◌, ◌<◌, ◌≤◌, ◌≡◌, ◌⊎◌, inl, inr, List, [], ◌∷◌, ◌++◌, length, drop, refl, sym, ap, ◌∙◌, subst, arith, append_assoc}
use Rattle.std.proofs.lemmas.Bool.{cases_lt}
use Rattle.std.proofs.lemmas.List.{drop_at, length-append}
use Rattle.css_model.specs.Text.Runs.{run}
use Rattle.css_tokens.proofs.ForCallers.{run_none, run_unit}
use Rattle.token_grammar.specs.Rows.{IsRowOf}
use Rattle.token_grammar.specs.Rows.IsRowOf.{nothing, more}

-- a piece takes as many bytes as its unit
pub record PieceLen (unit : List ℕ → ℕ) (piece rest : List ℕ) : Type 0 where
  pub some : 0 < length piece
  pub len : unit (piece ++ rest) ≡ length piece

-- a piece at the front of a text
pub record PieceHere (IsPiece : List ℕ → List ℕ → Type 0) (text : List ℕ) : Type 0 where
  pub piece : List ℕ
  pub rest : List ℕ
  pub joined : text ≡ piece ++ rest
  pub is : IsPiece piece rest
  pub some : 0 < length piece

-- pieces are what units take
pub record Matches (unit : List ℕ → ℕ) (IsPiece : List ℕ → List ℕ → Type 0) : Type 0 where
  pub none : unit [] ≡ 0
  pub lens : (piece rest : List ℕ) → IsPiece piece rest → PieceLen unit piece rest
  pub here : (text : List ℕ) → 0 < unit text → unit text ≤ length text → PieceHere IsPiece text

pub row_len : (unit : List ℕ → ℕ) (IsPiece : List ℕ → List ℕ → Type 0) → Matches unit IsPiece → (rest front : List ℕ) → IsRowOf IsPiece rest front
    → run unit (front ++ rest) ≡ length front + run unit rest
row_len unit IsPiece m rest front nothing = omega arith
row_len unit IsPiece m rest front (more piece others is row) =
    let p = m.lens piece (others ++ rest) is in
    let sizes = length-append piece others in
    let whole = length-append piece (others ++ rest) in
    let joined : run unit ((piece ++ others) ++ rest) ≡ run unit (piece ++ (others ++ rest)) = ap (λ (t : List ℕ). run unit t) (append_assoc piece others rest) in
    let step = run_unit unit (piece ++ (others ++ rest)) (length piece) (omega (arith, p.some, whole)) p.len p.some in
    let behind : run unit (drop (length piece) (piece ++ (others ++ rest))) ≡ run unit (others ++ rest) = ap (λ (t : List ℕ). run unit t) (drop_at piece (others ++ rest) (length piece) refl) in
    let later = row_len unit IsPiece m rest others row in
    omega (arith, sizes, joined, step, behind, later)

-- the longest row at the front of a text: after it no unit begins, or one that is longer than what is left
pub record RowHere (unit : List ℕ → ℕ) (IsPiece : List ℕ → List ℕ → Type 0) (text : List ℕ) : Type 0 where
  pub front : List ℕ
  pub rest : List ℕ
  pub joined : text ≡ front ++ rest
  pub row : IsRowOf IsPiece rest front
  pub ends : (unit rest ≡ 0) ⊎ (length rest < unit rest)

row_from : (unit : List ℕ → ℕ) (IsPiece : List ℕ → List ℕ → Type 0) → Matches unit IsPiece → (n : ℕ) (text : List ℕ) → length text ≤ n → RowHere unit IsPiece text
row_from unit IsPiece m n [] short = record { front = []; rest = []; joined = refl; row = nothing; ends = inl m.none }
row_from unit IsPiece m zero (c ∷ cs) short = absurd (omega (arith, short))
row_from unit IsPiece m (suc n) (c ∷ cs) short =
    by (cases_lt 0 (unit (c ∷ cs))) (cases_lt (length (c ∷ cs)) (unit (c ∷ cs))) (λ (text : List ℕ) (short : length text ≤ n). row_from unit IsPiece m n text short)
  where
    step : ((text : List ℕ) → length text ≤ n → RowHere unit IsPiece text) → PieceHere IsPiece (c ∷ cs) → RowHere unit IsPiece (c ∷ cs)
    step later p =
        let sizes = length-append p.piece p.rest in
        let r = later p.rest (omega (arith, sizes, ap length p.joined, p.some, short)) in
        record {
          front = p.piece ++ r.front;
          rest = r.rest;
          joined = p.joined ∙ (ap (λ (t : List ℕ). p.piece ++ t) r.joined ∙ sym (append_assoc p.piece r.front r.rest));
          row = more p.piece r.front (subst (λ (t : List ℕ). IsPiece p.piece t) r.joined p.is) r.row;
          ends = r.ends;
        }

    by : (0 < unit (c ∷ cs)) ⊎ (unit (c ∷ cs) ≤ 0) → (length (c ∷ cs) < unit (c ∷ cs)) ⊎ (unit (c ∷ cs) ≤ length (c ∷ cs))
        → ((text : List ℕ) → length text ≤ n → RowHere unit IsPiece text) → RowHere unit IsPiece (c ∷ cs)
    by (inr none) long later = record { front = []; rest = c ∷ cs; joined = refl; row = nothing; ends = inl (omega (arith, none)) }
    by (inl some) (inl long) later = record { front = []; rest = c ∷ cs; joined = refl; row = nothing; ends = inr long }
    by (inl some) (inr fits) later = step later (m.here (c ∷ cs) some fits)

pub row_here : (unit : List ℕ → ℕ) (IsPiece : List ℕ → List ℕ → Type 0) → Matches unit IsPiece → (text : List ℕ) → RowHere unit IsPiece text
row_here unit IsPiece m text = row_from unit IsPiece m (length text) text (omega arith)

-- a row before a rest in which no unit begins
pub row_stops : (unit : List ℕ → ℕ) (IsPiece : List ℕ → List ℕ → Type 0) → Matches unit IsPiece → (rest front : List ℕ) → IsRowOf IsPiece rest front
    → unit rest ≡ 0 → run unit (front ++ rest) ≡ length front
row_stops unit IsPiece m rest front row stops =
    let whole = row_len unit IsPiece m rest front row in
    let none = run_none unit rest stops in
    omega (arith, whole, none)
