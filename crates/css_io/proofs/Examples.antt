-- The definitions of `specs/` at values.
use Rattle.std.specs.Prelude.{◌≡◌, ℕ, [], ◌∷◌, Some, Ok, Err, refl}
use Rattle.std.proofs.Common.{rules, inl, inr, lit<}
use Rattle.css_io.specs.Io.{last_count, next_count, Rose, GivesFirst, TakesFirst}

pub one_more : next_count 4 ≡ 5
one_more = refl

pub stays_at_its_end : next_count last_count ≡ last_count
stays_at_its_end = refl

pub rose_by_one : Rose 4 5
rose_by_one = inl (lit< tt)

pub rose_at_its_end : Rose last_count last_count
rose_at_its_end = inr refl

pub did_not_rise : Rose 4 4 → ⊥
did_not_rise = search rules

pub read_two : GivesFirst {E = ℕ} (Some (7 ∷ 8 ∷ 9 ∷ [])) (Some (9 ∷ [])) (7 ∷ 8 ∷ 0 ∷ 0 ∷ []) (Ok 2)
read_two = search rules

pub read_at_the_end : GivesFirst {E = ℕ} (Some []) (Some []) (0 ∷ []) (Ok 0)
read_at_the_end = search rules

pub read_nothing_too_early : GivesFirst {E = ℕ} (Some (7 ∷ [])) (Some (7 ∷ [])) (0 ∷ []) (Ok 0) → ⊥
read_nothing_too_early = search rules

pub read_failed : GivesFirst {E = ℕ} (Some (7 ∷ [])) (Some (7 ∷ [])) (0 ∷ []) (Err 0)
read_failed = refl

pub wrote_two : TakesFirst {E = ℕ} (Some (5 ∷ [])) (Some (5 ∷ 7 ∷ 8 ∷ [])) (7 ∷ 8 ∷ 9 ∷ []) (Ok 2)
wrote_two = search rules

pub wrote_nothing_of_something : TakesFirst {E = ℕ} (Some []) (Some []) (7 ∷ []) (Ok 0) → ⊥
wrote_nothing_of_something = search rules
