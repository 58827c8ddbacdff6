-- Names before a white space: where they end in an open escape, it takes that white space.
use Rattle.std.proofs.Common.{ℕ, zero, suc, ◌+◌, ◌<◌, ◌≤◌, ◌≡◌, Bool, true, false, cond, ◌==◌, ◌&&◌, List, [], ◌∷◌, ◌++◌, length, refl, arith}
use Rattle.std.specs.Char.{is_ascii_hexdigit}
use Rattle.css_model.specs.Text.Characters.{space, line_feed, carriage_return, is_newline, is_white, begins}
use Rattle.css_model.specs.Text.Runs.{run_from, run, unit_then}
use Rattle.css_model.specs.Text.Units.{white_unit, hex_rest, escape_after}
use Rattle.css_model.specs.Text.Kept.{is_open_hex, is_open_escape}
use Rattle.token_laws.proofs.Ends.Runs.{unit_le_run}
use Rattle.token_laws.proofs.Ends.Units.{escape_two}
use Rattle.css_tokens.proofs.ForCallers.{run_from-drop}

-- how many bytes an escape takes of what follows it: `extra`, however many hex digits may still come
pub record Follows (new : List ℕ) (extra : ℕ) : Type 0 where
  pub taken : (n : ℕ) → hex_rest n new ≡ extra
  pub no_feed : begins line_feed new ≡ false

pub follows_none : Follows [] 0
follows_none = record { taken = λ n. refl; no_feed = refl }

space_taken : (n : ℕ) (rest : List ℕ) → hex_rest n (space ∷ rest) ≡ 1
space_taken zero rest = refl
space_taken (suc n) rest = refl

pub follows_space : (rest : List ℕ) → Follows (space ∷ rest) 1
follows_space rest = record { taken = λ n. space_taken n rest; no_feed = refl }

white_cases : (w r b : Bool) → cond w (cond (r && b) 2 1) 0 ≤ 1 → ◌≡◌ {A = ℕ} (cond w (cond (r && false) 2 1) 0) (cond w (cond (r && b) 2 1) 0)
white_cases false r b fits = refl
white_cases true false b fits = refl
white_cases true true false fits = refl
white_cases true true true fits = absurd (omega arith)

-- a white space that does not take what follows is the same before anything but a line feed
pub white_same : (old new : List ℕ) → begins line_feed new ≡ false → (c : ℕ) (cs : List ℕ) → white_unit (c ∷ cs ++ old) ≤ suc (length cs)
    → white_unit (c ∷ cs ++ new) ≡ white_unit (c ∷ cs ++ old)
white_same old new no_feed c [] fits = rw no_feed (white_cases (is_white c) (c == carriage_return) (begins line_feed old) fits)
white_same old new no_feed c (d ∷ ds) fits = refl

hex_cases : (b o : Bool) (m m' k k' l extra : ℕ) → (m ≤ l → m' ≡ cond o (l + extra) m) → (k ≤ suc l → k' ≡ k) → cond b (suc m) k ≤ suc l
    → ◌≡◌ {A = ℕ} (cond b (suc m') k') (cond (b && o) (suc l + extra) (cond b (suc m) k))
hex_cases true true m m' k k' l extra more white fits = omega (arith, more (omega arith))
hex_cases true false m m' k k' l extra more white fits = omega (arith, more (omega arith))
hex_cases false o m m' k k' l extra more white fits = white fits

hex_near : (old new : List ℕ) (extra : ℕ) → Follows new extra → (n : ℕ) (v : List ℕ) → hex_rest n (v ++ old) ≤ length v
    → hex_rest n (v ++ new) ≡ cond (is_open_hex n v) (length v + extra) (hex_rest n (v ++ old))
hex_near old new extra follows n [] fits = omega (arith, follows.taken n)
hex_near old new extra follows zero (c ∷ cs) fits = white_same old new follows.no_feed c cs fits
hex_near old new extra follows (suc n) (c ∷ cs) fits =
    hex_cases (is_ascii_hexdigit c) (is_open_hex n cs) (hex_rest n (cs ++ old)) (hex_rest n (cs ++ new)) (white_unit (c ∷ cs ++ old)) (white_unit (c ∷ cs ++ new))
    (length cs) extra (hex_near old new extra follows n cs) (white_same old new follows.no_feed c cs) fits

escape_cases : (b h o : Bool) (m m' l extra : ℕ) → (m ≤ l → m' ≡ cond o (l + extra) m) → 0 < cond b 0 (cond h (2 + m) 2) → cond b 0 (cond h (2 + m) 2) ≤ suc (suc l)
    → ◌≡◌ {A = ℕ} (cond b 0 (cond h (2 + m') 2)) (cond (h && o) (suc (suc l) + extra) (cond b 0 (cond h (2 + m) 2)))
escape_cases true h o m m' l extra more some fits = absurd (omega arith)
escape_cases false true true m m' l extra more some fits = omega (arith, more (omega arith))
escape_cases false true false m m' l extra more some fits = omega (arith, more (omega arith))
escape_cases false false o m m' l extra more some fits = refl

-- an escape takes more of what follows it only where it is open
pub escape_near : (old new : List ℕ) (extra : ℕ) → Follows new extra → (v : List ℕ) → 0 < escape_after (v ++ old) → escape_after (v ++ old) ≤ suc (length v)
    → escape_after (v ++ new) ≡ cond (is_open_escape v) (suc (length v) + extra) (escape_after (v ++ old))
escape_near old new extra follows [] some fits = absurd (omega (arith, escape_two old some))
escape_near old new extra follows (c ∷ cs) some fits =
    escape_cases (is_newline c) (is_ascii_hexdigit c) (is_open_hex 5 cs) (hex_rest 5 (cs ++ old)) (hex_rest 5 (cs ++ new)) (length cs) extra
    (hex_near old new extra follows 5 cs) some fits

-- the first unit of a run, and the run of what follows it
pub record FirstUnit (unit : List ℕ → ℕ) (c : ℕ) (cs : List ℕ) (len : ℕ) : Type 0 where
  pub more : ℕ
  pub is : unit (c ∷ cs) ≡ suc more
  pub fits : more ≤ len
  pub rest : run_from unit more cs ≡ len

pub left_below : (unit : List ℕ → ℕ) (left : ℕ) (text : List ℕ) → left ≤ run_from unit left text
left_below unit left text = omega (arith, run_from-drop unit left text)

pub first_unit : (unit : List ℕ → ℕ) (c : ℕ) (cs : List ℕ) (len : ℕ) → run unit (c ∷ cs) ≡ suc len → FirstUnit unit c cs len
first_unit unit c cs len is = which (unit (c ∷ cs)) refl is
  where
    which : (m : ℕ) → unit (c ∷ cs) ≡ m → unit_then m (λ n. run_from unit n cs) ≡ suc len → FirstUnit unit c cs len
    which zero first is = absurd (omega arith)
    which (suc n) first is = record { more = n; is = first; fits = omega (arith, left_below unit n cs); rest = omega arith }

pub run_zero : (unit : List ℕ → ℕ) (text : List ℕ) → unit [] ≡ 0 → run unit text ≡ 0 → unit text ≡ 0
run_zero unit text nil is = omega (arith, unit_le_run unit text nil, is)
