-- A text that is put together item by item is no longer than its source, where each item's own text has room.
use Rattle.std.proofs.Common.{ℕ, zero, suc, ◌+◌, ◌<◌, ◌≤◌, ◌≡◌, ◌⊎◌, inl, inr, Bool, true, false, List, [], ◌∷◌, ◌++◌, length, drop, take, refl, sym, ap, ◌∙◌, subst, arith}
use Rattle.std.specs.Prelude.{if◌then◌else◌, nat_eq}
use Rattle.std.specs.List.{filter, starts_with}
use Rattle.std.specs.Str.{IsUtf8}
use Rattle.std.proofs.lemmas.Bool.{false≢true}
use Rattle.std.proofs.lemmas.List.{length-append, take-append-drop}
use Rattle.css_model.specs.declared.token.Lexeme.{Lexeme}
use Rattle.css_model.specs.Sheets.Items.{items, items_from, item_len, is_between_items, is_whole}
use Rattle.css_model.specs.Lists.{less_one}
use Rattle.css_model.specs.Text.Tokens.{byte_order_mark}
use Rattle.print_laws.proofs.Length.Items.{BeginsAs, BeginsWith, IsPrint, begins_more}
use Rattle.print_laws.proofs.Length.Mark.{FirstReads, first_mark}
use Rattle.print_laws.proofs.Length.Room.{cost, Fits, fits_weights}

-- A text that has room wherever these tokens have it, and begins with the first of them.
pub record Fills (source : List ℕ) (item : List Lexeme) (text : List ℕ) : Type 0 where
  pub size : (from to : ℕ) → Fits source from item to → from + length text ≤ to
  pub begins : BeginsAs source item text

-- what is printed for tokens is such a text
pub print_fills : (source : List ℕ) (item : List Lexeme) (text : List ℕ) → IsPrint source item text → Fills source item text
print_fills source item text print = record {
  size = λ from to fits. omega (arith, print.size, fits_weights source from item to fits);
  begins = print.begins;
}

-- A text of such texts, one behind the other, for items in their order, of which some may have none.
abbrev pub AreFilled : List ℕ → List (List Lexeme) → List ℕ → Type 0
AreFilled source [] text = text ≡ []
AreFilled source (item ∷ raw) text =
    AreFilled source raw text
    ⊎ ((own : List ℕ) × (rest : List ℕ) × (text ≡ own ++ rest) × Fills source item own × AreFilled source raw rest)

-- the room of tokens, and that of those behind them
pub fits_split : (source : List ℕ) (from : ℕ) (xs ys : List Lexeme) (to : ℕ) → Fits source from (xs ++ ys) to → (mid : ℕ) × Fits source from xs mid × Fits source mid ys to
fits_split source from [] ys to fits = (from, omega arith, fits)
fits_split source from (x ∷ xs) ys to (low, some, fits) =
    let behind = fits_split source (x.span.«end» + cost source x) xs ys to fits in
    (behind.0, (low, some, behind.1), behind.2)

-- a text that has no room beside these tokens begins with the first of them
abbrev IsFront : List ℕ → ℕ → List Lexeme → ℕ → List ℕ → Type 0
IsFront source from [] to text = text ≡ []
IsFront source from (x ∷ xs) to text = (from + suc (length text) ≤ to) ⊎ BeginsWith source x text

module _ (source : List ℕ) where
  passes : (from : ℕ) (xs : List Lexeme) (to : ℕ) → Fits source from xs to → from ≤ to
  passes from xs to fits = omega (arith, fits_weights source from xs to fits)

  -- the room of the first tokens, and that of those behind them
  cut : (from : ℕ) (m : ℕ) (xs : List Lexeme) (to : ℕ) → Fits source from xs to → (mid : ℕ) × Fits source from (take m xs) mid × Fits source mid (drop m xs) to
  cut from m xs to fits = fits_split source from (take m xs) (drop m xs) to (subst (λ (ys : List Lexeme). Fits source from ys to) (sym (take-append-drop m xs)) fits)

  -- the text of the first of items, where it has one, and that of the others
  first_size : (item : List Lexeme) (raw : List (List Lexeme)) (text : List ℕ) (from mid to : ℕ) → Fits source from item mid → from ≤ mid
      → ((rest : List ℕ) → AreFilled source raw rest → mid + length rest ≤ to) → AreFilled source (item ∷ raw) text → from + length text ≤ to
  first_size item raw text from mid to fits le later (inl filled) = omega (arith, le, later text filled)
  first_size item raw text from mid to fits le later (inr (own, rest, is, fills, filled)) =
      omega (arith, ap length is, length-append own rest, fills.size from mid fits, later rest filled)

  -- the text of the items behind some tokens
  pub filled_size : (left : ℕ) (xs : List Lexeme) (from to : ℕ) (text : List ℕ) → Fits source from (drop left xs) to → AreFilled source (filter is_whole (items_from left xs)) text → from + length text ≤ to
  filled_size left [] from to text fits filled = omega (arith, passes from (drop left []) to fits, ap length filled)
  filled_size (suc left) (x ∷ xs) from to text fits filled = filled_size left xs from to text fits filled
  filled_size zero (x ∷ xs) from to text (low, some, fits) filled =
      which (is_between_items x.kind) (item_len (x ∷ xs)) (λ left from text fits filled. filled_size left xs from to text fits filled) filled
    where
      behind : ℕ
      behind = x.span.«end» + cost source x

      kept : (m : ℕ) (b : Bool) → ((from : ℕ) (text : List ℕ) → Fits source from (drop m xs) to → AreFilled source (filter is_whole (items_from m xs)) text → from + length text ≤ to)
          → AreFilled source (if b then (x ∷ take m xs) ∷ filter is_whole (items_from m xs) else filter is_whole (items_from m xs)) text → from + length text ≤ to
      kept m true later filled =
          let c = cut behind m xs to fits in
          first_size (x ∷ take m xs) (filter is_whole (items_from m xs)) text from c.0 to (low, some, c.1) (omega (arith, low, some, passes behind (take m xs) c.0 c.1)) (λ rest filled. later c.0 rest c.2 filled) filled
      kept m false later filled =
          let c = cut behind m xs to fits in
          omega (arith, low, some, passes behind (take m xs) c.0 c.1, later c.0 text c.2 filled)

      which : (b : Bool) (n : ℕ) → ((left from : ℕ) (text : List ℕ) → Fits source from (drop left xs) to → AreFilled source (filter is_whole (items_from left xs)) text → from + length text ≤ to)
          → AreFilled source (filter is_whole (if b then items_from 0 xs else take n (x ∷ xs) ∷ items_from (less_one n) xs)) text → from + length text ≤ to
      which true n later filled = omega (arith, low, some, later 0 behind text fits filled)
      which false zero later filled = omega (arith, low, some, later 0 behind text fits filled)
      which false (suc m) later filled = kept m (is_whole (x ∷ take m xs)) (later m) filled

  filled_front : (xs : List Lexeme) (from to : ℕ) (text : List ℕ) → Fits source from xs to → AreFilled source (filter is_whole (items xs)) text → IsFront source from xs to text
  filled_front [] from to text fits filled = filled
  filled_front (x ∷ xs) from to text (low, some, fits) filled = which (is_between_items x.kind) (item_len (x ∷ xs)) filled
    where
      -- the first token belongs to no item of the text
      without : (left : ℕ) → AreFilled source (filter is_whole (items_from left xs)) text → from + suc (length text) ≤ to
      without left filled =
          let c = cut (x.span.«end» + cost source x) left xs to fits in
          omega (arith, low, some, passes (x.span.«end» + cost source x) (take left xs) c.0 c.1, filled_size left xs c.0 to text c.2 filled)

      kept : (m : ℕ) (b : Bool) → AreFilled source (if b then (x ∷ take m xs) ∷ filter is_whole (items_from m xs) else filter is_whole (items_from m xs)) text → IsFront source from (x ∷ xs) to text
      kept m false filled = inl (without m filled)
      kept m true (inl filled) = inl (without m filled)
      kept m true (inr (own, rest, is, fills, filled)) = inr (subst (BeginsWith source x) (sym is) (begins_more source x own rest fills.begins))

      which : (b : Bool) (n : ℕ) → AreFilled source (filter is_whole (if b then items_from 0 xs else take n (x ∷ xs) ∷ items_from (less_one n) xs)) text → IsFront source from (x ∷ xs) to text
      which true n filled = inl (without 0 filled)
      which false zero filled = inl (without 0 filled)
      which false (suc m) filled = kept m (is_whole (x ∷ take m xs)) filled

-- A space before a text that begins with a byte order mark has room too.
pub marked_room : (source : List ℕ) (from : ℕ) (xs : List Lexeme) (text : List ℕ) → IsUtf8 source → Fits source from xs (length source) → FirstReads source xs
    → (0 < from) ⊎ (starts_with nat_eq source byte_order_mark ≡ false) → AreFilled source (filter is_whole (items xs)) text
    → starts_with nat_eq text byte_order_mark ≡ true → suc (length text) ≤ length source
marked_room source from xs text whole fits reads mark filled is = by xs fits reads mark (filled_front source xs from (length source) text fits filled) (λ at fits. filled_size source 0 xs at (length source) text fits filled)
  where
    by : (xs : List Lexeme) → Fits source from xs (length source) → FirstReads source xs → (0 < from) ⊎ (starts_with nat_eq source byte_order_mark ≡ false)
        → IsFront source from xs (length source) text → ((at : ℕ) → Fits source at xs (length source) → at + length text ≤ length source) → suc (length text) ≤ length source
    by xs fits reads (inl some) front size = omega (arith, some, size from fits)
    by [] fits reads (inr none) front size = absurd (false≢true (sym (ap (λ (cs : List ℕ). starts_with nat_eq cs byte_order_mark) front) ∙ is))
    by (x ∷ xs) fits reads (inr none) (inl room) size = omega (arith, room)
    by (x ∷ xs) fits reads (inr none) (inr begins) size = which x.span.start refl
      where
        which : (m : ℕ) → x.span.start ≡ m → suc (length text) ≤ length source
        which zero start = absurd (false≢true (sym none ∙ first_mark source x xs text whole reads start begins is))
        which (suc m) start = omega (arith, start, size x.span.start (omega arith, fits.1, fits.2))
