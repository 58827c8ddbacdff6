-- The tokens that a printed selector is read back as are UTF-8 where those of the selector are.
use Rattle.std.proofs.Common.{◌≡◌, ◌<◌, ◌^◌, ◌==◌, ◌&&◌, not, ℕ, zero, suc, Bool, true, false, cond, List, [], ◌∷◌, ◌++◌, Option, Some, None, refl, sym, subst, arith}
use Rattle.std.specs.Prelude.{ℤ, pos, negsuc, codes, unsigned_abs}
use Rattle.std.specs.Fmt.{decimal, signed_decimal}
use Rattle.std.specs.List.{AllByRecursion}
use Rattle.std.specs.Str.{IsAscii, IsUtf8}
use Rattle.std.proofs.lemmas.Fmt.{IsAscii-decimal}
use Rattle.std.proofs.lemmas.Str.{IsAscii-append, IsUtf8-append, IsUtf8-from_ascii}
use Rattle.std.proofs.lemmas.Str.Ascii.{IsAscii-cons, IsAscii-nil}
use Rattle.css_model.specs.declared.position.AnB.{AnB}
use Rattle.css_model.specs.declared.token.TokenKind.{TokenKind}
use Rattle.css_model.specs.Positions.Printed.{anb_text, is_number, letter_n, numbers_text, offset_text, size_text, step_text}
use Rattle.css_model.specs.Selectors.Terms.{counted_gap, depth_behind}
use Rattle.css_model.specs.Selectors.Tokens.{selector_token}
use Rattle.css_model.specs.Text.Characters.{dash, plus, space}
use Rattle.css_model.specs.Text.Kept.{Solid, is_lone, is_open, is_white_gap}
use Rattle.css_model.specs.Text.Lexemes.{is_white_kind}
use Rattle.css_model.specs.Text.Tokens.{Part}
use Rattle.css_tokens.proofs.ForCallers.{lexed_whole}
use Rattle.selector_text_laws.specs.Notation.Printed.{IsSized}
use Rattle.selector_text_laws.proofs.Notation.Tokens.{text_stands}
use Rattle.token_laws.specs.Solids.{closed, gap_before, solids}
use Rattle.selector_text_laws.proofs.Arguments.{argument_is}
use Rattle.selector_text_laws.proofs.Spelled.{own_is}
use Rattle.selector_text_laws.specs.Back.{argument, back, back_from, back_of, back_with, own_tokens, skipped, with_gap}

-- ---- the printed form of a step and an offset

size_ascii : (n : ℕ) → n < 2 ^ 64 → IsAscii (size_text n)
size_ascii n few = which (n == 1)
  where
    which : (b : Bool) → IsAscii (cond b [] (decimal n))
    which true = IsAscii-nil
    which false = IsAscii-decimal n few

step_ascii : (z : ℤ) → unsigned_abs z < 2 ^ 63 → IsAscii (step_text z)
step_ascii (pos n) few = size_ascii n (omega (arith, few))
step_ascii (negsuc n) few = IsAscii-cons dash (size_text (suc n)) (omega arith) (size_ascii (suc n) (omega (arith, few)))

offset_ascii : (z : ℤ) → unsigned_abs z < 2 ^ 63 → IsAscii (offset_text z)
offset_ascii (negsuc n) few = IsAscii-cons dash (decimal (suc n)) (omega arith) (IsAscii-decimal (suc n) (omega (arith, few)))
offset_ascii (pos n) few = which (n == 0)
  where
    which : (b : Bool) → IsAscii (cond b [] (plus ∷ decimal n))
    which true = IsAscii-nil
    which false = IsAscii-cons plus (decimal n) (omega arith) (IsAscii-decimal n (omega (arith, few)))

signed_ascii : (z : ℤ) → unsigned_abs z < 2 ^ 63 → IsAscii (signed_decimal z)
signed_ascii (pos n) few = IsAscii-decimal n (omega (arith, few))
signed_ascii (negsuc n) few = IsAscii-cons dash (decimal (suc n)) (omega arith) (IsAscii-decimal (suc n) (omega (arith, few)))

numbers_ascii : (x : AnB) → IsSized x → IsAscii (numbers_text x)
numbers_ascii x sized = which (is_number 0 x.a)
  where
    which : (b : Bool) → IsAscii (cond b (signed_decimal x.b) (step_text x.a ++ letter_n ∷ offset_text x.b))
    which true = signed_ascii x.b sized.offset
    which false =
        IsAscii-append (step_text x.a) (letter_n ∷ offset_text x.b) (step_ascii x.a sized.step)
        (IsAscii-cons letter_n (offset_text x.b) (omega arith) (offset_ascii x.b sized.offset))

anb_ascii : (x : AnB) → IsSized x → IsAscii (anb_text x)
anb_ascii x sized = which (is_number 2 x.a && is_number 1 x.b)
  where
    which : (b : Bool) → IsAscii (cond b (codes "odd") (numbers_text x))
    which true = IsAscii-cons 111 (100 ∷ 100 ∷ []) (omega arith) (IsAscii-cons 100 (100 ∷ []) (omega arith) (IsAscii-cons 100 [] (omega arith) IsAscii-nil))
    which false = numbers_ascii x sized

-- ---- tokens

abbrev pub AreUtf8 : List Solid → Type 0
AreUtf8 ss = AllByRecursion (λ s. IsUtf8 s.bytes) ss

solids_utf8 : (ps : List Part) → AllByRecursion (λ p. IsUtf8 p.bytes) ps → AreUtf8 (solids ps)
solids_utf8 [] each = tt
solids_utf8 (p ∷ ps) (one, each) = which p.kind (solids_utf8 ps each)
  where
    which : (o : Option TokenKind) → AreUtf8 (solids ps) → AreUtf8 (solids (record { kind = o; bytes = p.bytes } ∷ ps))
    which None later = later
    which (Some k) later = by (is_white_kind k)
      where
        by : (b : Bool) → AreUtf8 (cond b (solids ps) (record { kind = k; bytes = p.bytes; gap = gap_before false ps } ∷ solids ps))
        by true = later
        by false = (one, later)

own_utf8 : (x : AnB) → IsSized x → AreUtf8 (own_tokens (anb_text x))
own_utf8 x sized =
    let s = text_stands x sized in
    let text : IsUtf8 (anb_text x) = IsUtf8-from_ascii (anb_text x) (anb_ascii x sized) in
    subst AreUtf8 (sym (own_is (anb_text x) s)) (solids_utf8 s.parts (lexed_whole s.parts s.alone (subst IsUtf8 (sym s.spells) text)))

all_append : (xs ys : List Solid) → AreUtf8 xs → AreUtf8 ys → AreUtf8 (xs ++ ys)
all_append [] ys first second = second
all_append (x ∷ xs) ys (one, first) second = (one, all_append xs ys first second)

closed_utf8 : (s : Solid) → IsUtf8 s.bytes → IsUtf8 (closed s).bytes
closed_utf8 s utf8 = which (not (is_lone s.kind) && (is_white_gap s.gap && is_open s.bytes))
  where
    which : (b : Bool) → IsUtf8 (cond b (record { kind = s.kind; bytes = s.bytes ++ space ∷ []; gap = s.gap }) s).bytes
    which true = IsUtf8-append s.bytes (space ∷ []) utf8 (IsUtf8-from_ascii (space ∷ []) (IsAscii-cons space [] (omega arith) IsAscii-nil))
    which false = utf8

of_utf8 : (depth : ℕ) (s : Solid) (ss : List Solid) → IsUtf8 s.bytes → IsUtf8 (back_of depth s ss).bytes
of_utf8 depth s [] utf8 = utf8
of_utf8 depth s (t ∷ ts) utf8 = closed_utf8 (with_gap s (counted_gap depth s.kind s.gap (Some t.kind))) utf8

from_utf8 : (depth left : ℕ) (ss : List Solid) → AreUtf8 ss → AreUtf8 (back_from depth left ss)
from_utf8 depth left [] each = tt
from_utf8 depth (suc left) (s ∷ ss) (one, each) = from_utf8 depth left ss each
from_utf8 depth zero (s ∷ ss) (one, each) =
    which (argument s ss) refl (from_utf8 d (skipped (argument s ss) ss) ss each)
  where
    d : ℕ
    d = depth_behind depth (selector_token s)

    which : (o : Option AnB) → argument s ss ≡ o → AreUtf8 (back_from d (skipped o ss) ss) → AreUtf8 (back_with o d s ss (back_from d (skipped o ss) ss))
    which None is later = (of_utf8 d s ss one, later)
    which (Some x) is later =
        (one, all_append (own_tokens (anb_text x)) (back_from d (skipped (Some x) ss) ss) (own_utf8 x (argument_is s ss x is).sized) later)

-- what is read back
pub back_is_utf8 : (ss : List Solid) → AreUtf8 ss → AreUtf8 (back ss)
back_is_utf8 ss each = from_utf8 0 0 ss each
