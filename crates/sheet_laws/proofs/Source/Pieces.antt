-- The tokens of a source stand in order, so a piece has just the tokens that it was made of.
use Rattle.std.proofs.Common.{◌≡◌, subst, ℕ, ◌<◌, ◌≤◌, Bool, true, false, List, [], ◌∷◌, ◌++◌, refl, sym, ◌∙◌, ap, arith, append_assoc, append-nil}
use Rattle.std.proofs.lemmas.Bool.{le-leb, lt-leb}
use Rattle.std.proofs.lemmas.List.Elements.{filter-append}
use Rattle.std.specs.Prelude.{⊤, ◌&&◌, if◌then◌else◌, nat_le}
use Rattle.std.specs.List.{AllByRecursion, filter}
use Rattle.css_model.specs.declared.sheet.Piece.{Piece}
use Rattle.css_model.specs.declared.token.Lexeme.{Lexeme}
use Rattle.css_model.specs.Text.Lexemes.{end_of, piece_of}
use Rattle.css_model.specs.Sheets.Spelling.{stands_in}
use Rattle.sheet_laws.proofs.Shown.Alike.{and_false}
use Rattle.sheet_laws.proofs.Printed.Joins.{StandsIn}

-- tokens from this place on, each of some bytes and behind the one before it
abbrev pub AreAscending : ℕ → List Lexeme → Type 0
AreAscending at [] = ⊤
AreAscending at (x ∷ xs) = (at ≤ x.span.start) × (x.span.start < x.span.«end») × AreAscending x.span.«end» xs

-- where tokens from this place on end
abbrev pub end_from : ℕ → List Lexeme → ℕ
end_from at [] = at
end_from at (x ∷ xs) = end_from x.span.«end» xs

end_of_from : (x : Lexeme) (xs : List Lexeme) → end_of x xs ≡ end_from x.span.«end» xs
end_of_from x [] = refl
end_of_from x (y ∷ ys) = end_of_from y ys

-- a token between two places
abbrev IsBetween : ℕ → ℕ → Lexeme → Type 0
IsBetween from to x = (from ≤ x.span.start) × (x.span.start < x.span.«end») × (x.span.«end» ≤ to)

end_later : (at : ℕ) (xs : List Lexeme) → AreAscending at xs → at ≤ end_from at xs
end_later at [] ascending = omega arith
end_later at (x ∷ xs) ascending = omega (arith, ascending.0, ascending.1, end_later x.span.«end» xs ascending.2)

between_from : (low at to : ℕ) (xs : List Lexeme) → low ≤ at → AreAscending at xs → end_from at xs ≤ to → AllByRecursion (IsBetween low to) xs
between_from low at to [] le ascending fits = tt
between_from low at to (x ∷ xs) le ascending fits = (
  (omega (arith, ascending.0, le), ascending.1, omega (arith, fits, end_later x.span.«end» xs ascending.2)),
  between_from low x.span.«end» to xs (omega (arith, ascending.0, ascending.1, le)) ascending.2 fits,
)

ascending_cut : (at : ℕ) (xs ys : List Lexeme) → AreAscending at (xs ++ ys) → AreAscending at xs × AreAscending (end_from at xs) ys
ascending_cut at [] ys ascending = (tt, ascending)
ascending_cut at (x ∷ xs) ys ascending = let rest = ascending_cut x.span.«end» xs ys ascending.2 in ((ascending.0, ascending.1, rest.0), rest.1)

end_cut : (at : ℕ) (xs ys : List Lexeme) → end_from at (xs ++ ys) ≡ end_from (end_from at xs) ys
end_cut at [] ys = refl
end_cut at (x ∷ xs) ys = end_cut x.span.«end» xs ys

-- tokens that stand in a piece, and tokens that do not
stand_inside : (start end : ℕ) (xs : List Lexeme) → AllByRecursion (IsBetween start end) xs → filter (stands_in (record { start = start; «end» = end })) xs ≡ xs
stand_inside start end [] each = refl
stand_inside start end (x ∷ xs) each =
    let yes : stands_in (record { start = start; «end» = end }) x ≡ true =
    ap (λ b. b && nat_le x.span.«end» end) (le-leb start x.span.start each.0.0) ∙ le-leb x.span.«end» end each.0.2 in
    let rest = filter (stands_in (record { start = start; «end» = end })) xs in
    ap (λ b. if b then x ∷ rest else rest) yes ∙ ap (λ zs. x ∷ zs) (stand_inside start end xs each.1)

stand_before : (start end low : ℕ) (xs : List Lexeme) → AllByRecursion (IsBetween low start) xs → filter (stands_in (record { start = start; «end» = end })) xs ≡ []
stand_before start end low [] each = refl
stand_before start end low (x ∷ xs) each =
    let other : stands_in (record { start = start; «end» = end }) x ≡ false =
    ap (λ b. b && nat_le x.span.«end» end) (lt-leb start x.span.start (omega (arith, each.0.1, each.0.2))) in
    let rest = filter (stands_in (record { start = start; «end» = end })) xs in
    ap (λ b. if b then x ∷ rest else rest) other ∙ stand_before start end low xs each.1

stand_behind : (start end to : ℕ) (xs : List Lexeme) → AllByRecursion (IsBetween end to) xs → filter (stands_in (record { start = start; «end» = end })) xs ≡ []
stand_behind start end to [] each = refl
stand_behind start end to (x ∷ xs) each =
    let other : stands_in (record { start = start; «end» = end }) x ≡ false =
    ap (λ b. nat_le start x.span.start && b) (lt-leb x.span.«end» end (omega (arith, each.0.0, each.0.1))) ∙ and_false (nat_le start x.span.start) in
    let rest = filter (stands_in (record { start = start; «end» = end })) xs in
    ap (λ b. if b then x ∷ rest else rest) other ∙ stand_behind start end to xs each.1

alone_in : (at : ℕ) (front part behind : List Lexeme) → AreAscending at (front ++ (part ++ behind)) → filter (stands_in (piece_of part)) (front ++ (part ++ behind)) ≡ part
alone_in at front [] behind ascending =
    stand_behind 0 0 (end_from at (front ++ behind)) (front ++ behind) (between_from 0 at (end_from at (front ++ behind)) (front ++ behind) (omega arith) ascending (omega arith))
alone_in at front (x ∷ xs) behind ascending =
    filter-append in_piece front (x ∷ xs ++ behind)
    ∙ ap (λ zs. zs ++ filter in_piece (x ∷ xs ++ behind)) before
    ∙ filter-append in_piece (x ∷ xs) behind
    ∙ ap (λ zs. zs ++ filter in_piece behind) inside
    ∙ ap (λ zs. (x ∷ xs) ++ zs) after
    ∙ append-nil (x ∷ xs)
  where
    in_piece : Lexeme → Bool
    in_piece = stands_in (record { start = x.span.start; «end» = end_of x xs })

    cut : AreAscending at front × AreAscending (end_from at front) (x ∷ xs ++ behind)
    cut = ascending_cut at front (x ∷ xs ++ behind) ascending

    parts : AreAscending (end_from at front) (x ∷ xs) × AreAscending (end_from x.span.«end» xs) behind
    parts = ascending_cut (end_from at front) (x ∷ xs) behind cut.1

    end_is : end_of x xs ≡ end_from x.span.«end» xs
    end_is = end_of_from x xs

    before : filter in_piece front ≡ []
    before = stand_before x.span.start (end_of x xs) at front (between_from at at x.span.start front (omega arith) cut.0 cut.1.0)

    inside : filter in_piece (x ∷ xs) ≡ x ∷ xs
    inside = stand_inside x.span.start (end_of x xs) (x ∷ xs)
        (between_from x.span.start x.span.start (end_of x xs) (x ∷ xs) (omega arith) (omega arith, parts.0.1, parts.0.2) (omega (arith, end_is)))

    after : filter in_piece behind ≡ []
    after = stand_behind x.span.start (end_of x xs) (end_from (end_of x xs) behind) behind
        (between_from (end_of x xs) (end_of x xs) (end_from (end_of x xs) behind) behind (omega arith) (subst (λ n. AreAscending n behind) (sym end_is) parts.1) (omega arith))

-- The tokens in the piece of some tokens that stand one behind the other are these.
pub stand_alone : (at : ℕ) (whole part : List Lexeme) → AreAscending at whole → StandsIn whole part → filter (stands_in (piece_of part)) whole ≡ part
stand_alone at whole part ascending inside =
    let is : whole ≡ inside.front ++ (part ++ inside.behind) = inside.is ∙ append_assoc inside.front part inside.behind in
    ap (filter (stands_in (piece_of part))) is ∙ alone_in at inside.front part inside.behind (subst (AreAscending at) is ascending)

-- tokens with the white space behind each, which stands before the next one
abbrev pub AreSpaced : List Lexeme → Type 0
AreSpaced [] = ⊤
AreSpaced (x ∷ xs) = (x.span.«end» ≤ x.white.start) × (x.white.start ≤ x.white.«end») × AreAscending x.white.«end» xs × AreSpaced xs

spaced_cut : (xs ys : List Lexeme) → AreSpaced (xs ++ ys) → AreSpaced ys
spaced_cut [] ys spaced = spaced
spaced_cut (x ∷ xs) ys spaced = spaced_cut xs ys spaced.3

-- no token stands in a piece between a token and those behind it
none_between : (at : ℕ) (front : List Lexeme) (x : Lexeme) (behind : List Lexeme) (start end : ℕ) → AreAscending at (front ++ (x ∷ behind)) → x.span.«end» ≤ start → AreAscending end behind
    → filter (stands_in (record { start = start; «end» = end })) (front ++ (x ∷ behind)) ≡ []
none_between at front x behind start end ascending le later =
    ap (filter in_piece) (sym (append_assoc front (x ∷ []) behind))
    ∙ filter-append in_piece (front ++ x ∷ []) behind
    ∙ ap (λ zs. zs ++ filter in_piece behind) (stand_before start end at (front ++ x ∷ []) (between_from at at start (front ++ x ∷ []) (omega arith) upper (omega (arith, end_cut at front (x ∷ []), le))))
    ∙ stand_behind start end (end_from end behind) behind (between_from end end (end_from end behind) behind (omega arith) later (omega arith))
  where
    in_piece : Lexeme → Bool
    in_piece = stands_in (record { start = start; «end» = end })

    upper : AreAscending at (front ++ x ∷ [])
    upper = (ascending_cut at (front ++ x ∷ []) behind (subst (AreAscending at) (sym (append_assoc front (x ∷ []) behind)) ascending)).0

in_gap : (at : ℕ) (front : List Lexeme) (x : Lexeme) (behind : List Lexeme) (piece : Piece) → AreAscending at (front ++ (x ∷ behind)) → x.span.«end» ≤ piece.start → AreAscending piece.«end» behind
    → filter (stands_in piece) (front ++ (x ∷ behind)) ≡ []
in_gap at front x behind piece = none_between at front x behind piece.start piece.«end»

one_cut : (whole : List Lexeme) (x : Lexeme) (inside : StandsIn whole (x ∷ [])) → whole ≡ inside.front ++ (x ∷ inside.behind)
one_cut whole x inside = inside.is ∙ append_assoc inside.front (x ∷ []) inside.behind

-- No token stands in the white space behind a token, or in the empty piece at its end.
pub none_in_white : (whole : List Lexeme) (x : Lexeme) → AreAscending 0 whole → AreSpaced whole → StandsIn whole (x ∷ []) → filter (stands_in x.white) whole ≡ []
none_in_white whole x ascending spaced inside =
    let is = one_cut whole x inside in
    let here = spaced_cut inside.front (x ∷ inside.behind) (subst AreSpaced is spaced) in
    ap (filter (stands_in x.white)) is ∙ in_gap 0 inside.front x inside.behind x.white (subst (AreAscending 0) is ascending) here.0 here.2

pub none_at_end : (whole : List Lexeme) (x : Lexeme) → AreAscending 0 whole → StandsIn whole (x ∷ []) → filter (stands_in (record { start = x.span.«end»; «end» = x.span.«end» })) whole ≡ []
none_at_end whole x ascending inside =
    let is = one_cut whole x inside in
    let moved = subst (AreAscending 0) is ascending in
    let here = ascending_cut 0 inside.front (x ∷ inside.behind) moved in
    ap (filter (stands_in (record { start = x.span.«end»; «end» = x.span.«end» }))) is
    ∙ none_between 0 inside.front x inside.behind x.span.«end» x.span.«end» moved (omega arith) here.1.2
