-- Couples that are told, with their words.
use Rattle.std.proofs.Common.{◌≡◌, ◌<◌, ℕ, zero, suc, ◌+◌, List, [], ◌∷◌, ◌++◌, length, get_or, map, refl, sym, subst, ap, ◌∙◌, arith}
use Rattle.std.specs.List.{AllByRecursion}
use Rattle.diff_text.specs.declared.word.Word.{Word}
use Rattle.diff_text.specs.Lines.{Sides, told_word}
use Rattle.diff_text.specs.Shown.{IsReadyTold}
use Rattle.turned_members.specs.Telling.{Told}

pub as_many : (x : Sides) (told : List Told) (words : List Word) → words ≡ map (told_word x) told → length words ≡ length told
as_many x told words are = ap length are ∙ count told
  where
    count : (ts : List Told) → length (map (told_word x) ts) ≡ length ts
    count [] = refl
    count (t ∷ ts) = ap suc (count ts)

pub ready_at : (told : List Told) (i : ℕ) (t : Told) → AllByRecursion IsReadyTold told → i < length told → t ≡ get_or told i t → IsReadyTold t
ready_at [] i t ready below at = absurd (omega (arith, below))
ready_at (u ∷ told) zero t ready below at = subst IsReadyTold (sym at) ready.0
ready_at (u ∷ told) (suc i) t ready below at = ready_at told i t ready.1 (omega (arith, below)) at

word_in : (x : Sides) (told : List Told) (i : ℕ) (t : Told) (word : Word) → i < length told → t ≡ get_or told i t → word ≡ get_or (map (told_word x) told) i word → word ≡ told_word x t
word_in x [] i t word below at is = absurd (omega (arith, below))
word_in x (u ∷ told) zero t word below at is = is ∙ ap (told_word x) (sym at)
word_in x (u ∷ told) (suc i) t word below at is = word_in x told i t word (omega (arith, below)) at is

pub word_at : (x : Sides) (told : List Told) (words : List Word) (i : ℕ) (t : Told) (word : Word) → words ≡ map (told_word x) told → i < length told → t ≡ get_or told i t →
    word ≡ get_or words i word → word ≡ told_word x t
word_at x told words i t word are below at is = word_in x told i t word below at (is ∙ ap (λ (ws : List Word). get_or ws i word) are)
