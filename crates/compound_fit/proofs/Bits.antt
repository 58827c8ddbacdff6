-- The bits of a number that was put together from them.
use Rattle.std.proofs.Common.{◌≡◌, ℕ, zero, suc, ◌+◌, ◌*◌, Bool, true, false, cond, List, [], ◌∷◌, refl, ap, ◌∙◌, arith, get_or}
use Rattle.std.specs.Prelude.{◌/◌, ◌%◌, ◌==◌}
use Rattle.std.specs.Int.{bit_at}
use Rattle.std.proofs.lemmas.Nat.Bits.{bit_at_lowest, bit_at-suc, bit_at-zero}
use Rattle.css_model.specs.declared.selector.Flag.{Flag}
use Rattle.css_model.specs.declared.selector.Flag.TheVariants.{Link, Visited, Hover, Active, Focus, Target, Enabled, Disabled, Checked}
use Rattle.css_model.specs.declared.selector.Simple.{Simple}
use Rattle.css_model.specs.Documents.Features.{flags_of}
use Rattle.compound_fit.specs.Flags.{is_flag_asked}

-- a number from its bits, the lowest one first
abbrev pub number_of : List Bool → ℕ
number_of [] = 0
number_of (b ∷ bs) = 2 * number_of bs + cond b 1 0

pub one_bit : (n m : ℕ) (b : Bool) (bs : List Bool) → n ≡ number_of bs → m ≡ 2 * n + cond b 1 0 → m ≡ number_of (b ∷ bs)
one_bit n m b bs e f = f ∙ ap (λ (k : ℕ). 2 * k + cond b 1 0) e

lowest : (n : ℕ) (b : Bool) → (2 * n + cond b 1 0) % 2 ≡ cond b 1 0
lowest n true = omega arith
lowest n false = omega arith

halves : (n : ℕ) (b : Bool) → (2 * n + cond b 1 0) / 2 ≡ n
halves n true = omega arith
halves n false = omega arith

is_one : (b : Bool) → (cond b 1 0 == 1) ≡ b
is_one true = refl
is_one false = refl

bit_is : (bs : List Bool) (k : ℕ) → (bit_at (number_of bs) k == 1) ≡ get_or bs k false
bit_is [] k = ap (λ (n : ℕ). n == 1) (bit_at-zero k)
bit_is (b ∷ bs) zero = ap (λ (n : ℕ). n == 1) (bit_at_lowest (2 * number_of bs + cond b 1 0) ∙ lowest (number_of bs) b) ∙ is_one b
bit_is (b ∷ bs) (suc k) = ap (λ (n : ℕ). n == 1) (bit_at-suc (2 * number_of bs + cond b 1 0) k ∙ ap (λ (n : ℕ). bit_at n k) (halves (number_of bs) b)) ∙ bit_is bs k

pub flags_are : (simples : List Simple) (number : ℕ) →
    number ≡ number_of (is_flag_asked Link simples ∷ is_flag_asked Visited simples ∷ is_flag_asked Hover simples ∷ is_flag_asked Active simples ∷ is_flag_asked Focus simples ∷ is_flag_asked Target simples ∷
    is_flag_asked Enabled simples ∷ is_flag_asked Disabled simples ∷ is_flag_asked Checked simples ∷ []) →
    (flag : Flag) → flags_of number flag ≡ is_flag_asked flag simples
flags_are simples number e flag = at flag
  where
    bits : List Bool
    bits =
        is_flag_asked Link simples ∷ is_flag_asked Visited simples ∷ is_flag_asked Hover simples ∷ is_flag_asked Active simples ∷ is_flag_asked Focus simples ∷ is_flag_asked Target simples ∷
        is_flag_asked Enabled simples ∷ is_flag_asked Disabled simples ∷ is_flag_asked Checked simples ∷ []

    at : (flag : Flag) → flags_of number flag ≡ is_flag_asked flag simples
    at Link = ap (λ (n : ℕ). bit_at n 0 == 1) e ∙ bit_is bits 0
    at Visited = ap (λ (n : ℕ). bit_at n 1 == 1) e ∙ bit_is bits 1
    at Hover = ap (λ (n : ℕ). bit_at n 2 == 1) e ∙ bit_is bits 2
    at Active = ap (λ (n : ℕ). bit_at n 3 == 1) e ∙ bit_is bits 3
    at Focus = ap (λ (n : ℕ). bit_at n 4 == 1) e ∙ bit_is bits 4
    at Target = ap (λ (n : ℕ). bit_at n 5 == 1) e ∙ bit_is bits 5
    at Enabled = ap (λ (n : ℕ). bit_at n 6 == 1) e ∙ bit_is bits 6
    at Disabled = ap (λ (n : ℕ). bit_at n 7 == 1) e ∙ bit_is bits 7
    at Checked = ap (λ (n : ℕ). bit_at n 8 == 1) e ∙ bit_is bits 8
