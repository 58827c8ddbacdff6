-- What each part of the reader gives, for the contracts of these parts. No public contract cites any of it: that of the
-- whole reader says what is read by the notation alone. A number from the cap on is read as the cap, which is out of range.
use Rattle.std.specs.Prelude.{ℕ, zero, suc, Bool, true, false, not, ◌&&◌, ◌||◌, ◌==◌, min, List, [], ◌∷◌, length, map, take, drop, ℤ, pos, neg_ℤ, Option, Some, None, option_map, codes, if◌then◌else◌}
use Rattle.std.specs.Char.{is_ascii_digit, to_ascii_lowercase}
use Rattle.std.specs.List.{prefix_len}
use Rattle.std.specs.Str.{bytes_eq}
use Rattle.css_model.specs.declared.position.AnB.{AnB}
use Rattle.css_model.specs.Text.Characters.{is_white}
use Rattle.css_model.specs.Positions.Notation.{value}
use Rattle.css_model.specs.Lists.{is_empty}

-- what follows the first `*/`
abbrev pub past_close : List ℕ → Option (List ℕ)
past_close [] = None
past_close (c ∷ []) = None
past_close (c ∷ d ∷ cs) = if (c == 42) && (d == 47) then Some cs else past_close (d ∷ cs)

-- what follows one blank
abbrev pub past_blank : List ℕ → Option (List ℕ)
past_blank [] = None
past_blank (c ∷ []) = if is_white c then Some [] else None
past_blank (c ∷ d ∷ cs) = if is_white c then Some (d ∷ cs) else (if (c == 47) && (d == 42) then past_close cs else None)

-- what follows up to so many blanks
abbrev pub skip : ℕ → List ℕ → List ℕ
skip zero text = text
skip (suc count) text = elim (past_blank text) [ None ↦ text | Some rest ↦ skip count rest ]

-- what follows all of them
unfoldable pub past_blanks : List ℕ → List ℕ
past_blanks text = skip (length text) text

-- the digits at the front
abbrev pub digits_of : List ℕ → List ℕ
digits_of text = take (prefix_len is_ascii_digit text) text

-- what follows them
abbrev pub past_digits : List ℕ → List ℕ
past_digits text = drop (prefix_len is_ascii_digit text) text

-- a number, or the cap where it is beyond that
abbrev pub capped : ℕ → ℕ
capped number = min number 1001

-- the number of a size behind a sign
abbrev pub signed : Bool → ℕ → ℤ
signed negative size = if negative then neg_ℤ (pos size) else pos size

-- whether a `-` stands at the front
abbrev pub is_minus : List ℕ → Bool
is_minus [] = false
is_minus (c ∷ cs) = c == 45

-- what follows the sign at the front, if one is there
abbrev pub past_sign : List ℕ → List ℕ
past_sign [] = []
past_sign (c ∷ cs) = if (c == 43) || (c == 45) then cs else (c ∷ cs)

-- the number at the front, with nothing but blanks behind it
unfoldable pub last_number : Bool → List ℕ → Option ℤ
last_number negative text = if is_empty (digits_of text) || not (is_empty (past_blanks (past_digits text))) then None else Some (signed negative (capped (value (digits_of text))))

-- the offset in what follows an n and the blanks behind it
abbrev pub offset_from : List ℕ → Option ℤ
offset_from [] = Some (pos 0)
offset_from (c ∷ cs) = if (c == 43) || (c == 45) then last_number (c == 45) (past_blanks cs) else None

-- the offset in what follows an n
unfoldable pub offset_of : List ℕ → Option ℤ
offset_of text = offset_from (past_blanks text)

-- the size of a step: 1 where no digits are written
abbrev pub step_size : List ℕ → ℕ
step_size digits = if is_empty digits then 1 else capped (value digits)

-- an integer or a step, by what follows its digits
abbrev pub numbers_from : Bool → List ℕ → List ℕ → Option AnB
numbers_from negative text [] = option_map (λ b. record { a = pos 0; b = b }) (last_number negative text)
numbers_from negative text (c ∷ cs) = if (c == 110) || (c == 78) then option_map (λ b. record { a = signed negative (step_size (digits_of text)); b = b }) (offset_of cs) else option_map (λ b. record { a = pos 0; b = b }) (last_number negative text)

-- an integer or a step
unfoldable pub numbers_of : List ℕ → Option AnB
numbers_of text = numbers_from (is_minus text) (past_sign text) (past_digits (past_sign text))

-- what follows a word, which is in lower case
unfoldable pub past_word : List ℕ → List ℕ → Option (List ℕ)
past_word word text = if bytes_eq (map to_ascii_lowercase (take (length word) text)) word then Some (drop (length word) text) else None

-- x, where nothing but blanks is left
unfoldable pub alone : AnB → List ℕ → Option AnB
alone x rest = if is_empty (past_blanks rest) then Some x else None

-- `odd`, `even`, an integer or a step, with nothing but blanks behind it
unfoldable pub body_of : List ℕ → Option AnB
body_of text = elim (past_word (codes "odd") text) [
  | Some rest ↦ alone (record { a = pos 2; b = pos 1 }) rest
  | None ↦ elim (past_word (codes "even") text) [ Some rest ↦ alone (record { a = pos 2; b = pos 0 }) rest | None ↦ numbers_of text ]
]
