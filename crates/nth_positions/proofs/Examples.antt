-- The definitions on examples of Selectors 3 and CSS Syntax 3, and on small lists.
use Rattle.std.proofs.Common.{◌≡◌, [], ◌∷◌, pos, negsuc, refl, inl, inr, arith}
use Rattle.std.specs.Prelude.{codes}
use Rattle.css_model.specs.declared.position.AnB.{AnB}
use Rattle.css_model.specs.Documents.Matching.{IsNth}
use Rattle.nth_positions.specs.Gaps.{bounds_of, reduced}
use Rattle.css_model.specs.Positions.Notation.{IsNotation, AreBlanks, white_space, comment, odd, step, written, signed}
use Rattle.css_model.specs.Positions.Reading.{body_of, past_word, past_blanks, numbers_of, offset_of, last_number}
use Rattle.nth_positions.proofs.Outcomes.{no_notation}

-- 2n+1 reaches 5, and -n+6 reaches 1
odd_position : IsNth (record { a = pos 2; b = pos 1 }) 5
odd_position = (2, refl)

falling_position : IsNth (record { a = negsuc 0; b = pos 6 }) 1
falling_position = (5, refl)

-- the bounds of 4n and -6n-7, and a gap beyond them
small_bounds : bounds_of (record { a = pos 4; b = pos 0 } ∷ record { a = negsuc 5; b = negsuc 6 } ∷ []) ≡ record { threshold = 7; period = 12; width = 9 }
small_bounds = refl

greater_bounds : bounds_of (record { a = pos 32; b = pos 1 } ∷ record { a = pos 31; b = pos 5 } ∷ []) ≡ record { threshold = 5; period = 992; width = 15 }
greater_bounds = refl

reduced_gap : reduced (record { threshold = 5; period = 992; width = 15 }) 2000 ≡ 16
reduced_gap = refl

-- ` 3n - 2`
no_blanks : AreBlanks []
no_blanks = record { blanks = []; each = tt; joined = refl }

one_space : AreBlanks (codes " ")
one_space = record { blanks = codes " " ∷ []; each = (white_space 32 refl refl, tt); joined = refl }

spaced : IsNotation (codes " 3n - 2") (record { a = pos 3; b = negsuc 1 })
spaced = record {
  before = codes " ";
  body = codes "3n - 2";
  after = [];
  parts = refl;
  blank_before = one_space;
  is_body = step [] (codes "3") (codes " - 2") 110 3 refl (inl refl) (written (record { some = omega arith; each = refl }) refl) refl
      (signed (codes " ") (codes " ") (codes "2") 45 refl one_space one_space (record { some = omega arith; each = refl }) (inr (refl, refl)));
  blank_after = no_blanks;
}

-- `oDD/***/`
mixed_case : IsNotation (codes "oDD/***/") (record { a = pos 2; b = pos 1 })
mixed_case = record {
  before = [];
  body = codes "oDD";
  after = codes "/***/";
  parts = refl;
  blank_before = no_blanks;
  is_body = odd refl refl;
  blank_after = record { blanks = codes "/***/" ∷ []; each = (comment (codes "*") refl refl, tt); joined = refl };
}

-- these stand for nothing
space_before_n : (x : AnB) → IsNotation (codes "3 n") x → ⊥
unfolding body_of past_word past_blanks numbers_of offset_of last_number
space_before_n = no_notation (codes "3 n") refl

space_behind_sign : (x : AnB) → IsNotation (codes "+ 2n") x → ⊥
unfolding body_of past_word past_blanks numbers_of offset_of last_number
space_behind_sign = no_notation (codes "+ 2n") refl

two_signs : (x : AnB) → IsNotation (codes "2n+ -1") x → ⊥
unfolding body_of past_word past_blanks numbers_of offset_of last_number
two_signs = no_notation (codes "2n+ -1") refl

open_comment : (x : AnB) → IsNotation (codes "2n/*") x → ⊥
unfolding body_of past_word past_blanks numbers_of offset_of last_number
open_comment = no_notation (codes "2n/*") refl
