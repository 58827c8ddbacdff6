-- The flags that compounds ask for decide.
use Rattle.std.proofs.Common.{◌≡◌, ◌⊎◌, ℕ, Bool, true, false, not, ◌&&◌, ◌||◌, cond, List, [], ◌∷◌, refl, sym, ap, subst, inl, inr, ◌∙◌}
use Rattle.std.specs.Prelude.{◌==◌}
use Rattle.std.specs.Bool.{MatchBool}
use Rattle.std.specs.List.{All}
use Rattle.std.proofs.lemmas.Bool.{false≢true, true≢false, or_parts, or_cases, or_left, or_right, and_parts, and_from, eqb-true, eq-eqb}
use Rattle.std.proofs.lemmas.List.Elements.{All-head, All-tail, All-nil, All-cons}
use Rattle.css_model.specs.declared.selector.Flag.{Flag}
use Rattle.css_model.specs.declared.selector.Flag.TheVariants.{Link, Visited, Hover, Active, Focus, Target, Enabled, Disabled, Checked}
use Rattle.css_model.specs.declared.selector.Simple.{Simple}
use Rattle.css_model.specs.declared.selector.Test.{Test}
use Rattle.css_model.specs.declared.selector.Test.TheVariants.{Any, Kind, Id, Attr, Nth, NthLast, OnlyChild, Root, Empty, State}
use Rattle.compound_fit.specs.Parts.{PassesFlag, is_of_flag, FlagHolds}
use Rattle.css_model.specs.Documents.Features.{flag_number}
use Rattle.compound_fit.specs.Flags.{is_state, is_flag_asked, is_flag_refused, clashes_at, flags_clash, asked_flags, FlagsDecided}

back : ℕ → Flag
back n = cond (n == 0) Link (cond (n == 1) Visited (cond (n == 2) Hover (cond (n == 3) Active (cond (n == 4) Focus (cond (n == 5) Target (cond (n == 6) Enabled (cond (n == 7) Disabled Checked)))))))

back_is : (f : Flag) → back (flag_number f) ≡ f
unfolding back
back_is Link = refl
back_is Visited = refl
back_is Hover = refl
back_is Active = refl
back_is Focus = refl
back_is Target = refl
back_is Enabled = refl
back_is Disabled = refl
back_is Checked = refl

index_tells : (f g : Flag) → (flag_number f == flag_number g) ≡ true → f ≡ g
index_tells f g e = sym (back_is f) ∙ ap back (eqb-true (flag_number f) (flag_number g) e) ∙ back_is g

-- a test that is asked for, and one that is refused
held : (flags : Flag → Bool) (flag : Flag) (test : Test) → is_state flag test ≡ true → MatchBool (is_of_flag test) (FlagHolds flags test) (Unit {0}) → flags flag ≡ true
held flags flag (State f) e h = subst (λ (g : Flag). flags g ≡ true) (index_tells f flag e) h
held flags flag Any e h = absurd (false≢true e)
held flags flag (Kind v) e h = absurd (false≢true e)
held flags flag (Id v) e h = absurd (false≢true e)
held flags flag (Attr v) e h = absurd (false≢true e)
held flags flag (Nth v) e h = absurd (false≢true e)
held flags flag (NthLast v) e h = absurd (false≢true e)
held flags flag OnlyChild e h = absurd (false≢true e)
held flags flag Root e h = absurd (false≢true e)
held flags flag Empty e h = absurd (false≢true e)

not_held : (flags : Flag → Bool) (flag : Flag) (test : Test) → is_state flag test ≡ true → MatchBool (is_of_flag test) (FlagHolds flags test → ⊥) (Unit {0}) → flags flag ≡ true → ⊥
not_held flags flag (State f) e h on = h (subst (λ (g : Flag). flags g ≡ true) (sym (index_tells f flag e)) on)
not_held flags flag Any e h on = false≢true e
not_held flags flag (Kind v) e h on = false≢true e
not_held flags flag (Id v) e h on = false≢true e
not_held flags flag (Attr v) e h on = false≢true e
not_held flags flag (Nth v) e h on = false≢true e
not_held flags flag (NthLast v) e h on = false≢true e
not_held flags flag OnlyChild e h on = false≢true e
not_held flags flag Root e h on = false≢true e
not_held flags flag Empty e h on = false≢true e

one_asked : (flags : Flag → Bool) (flag : Flag) (test : Test) (negated : Bool) → (not negated && is_state flag test) ≡ true →
    MatchBool (is_of_flag test) (MatchBool negated (FlagHolds flags test → ⊥) (FlagHolds flags test)) (Unit {0}) → flags flag ≡ true
one_asked flags flag test true e h = absurd (false≢true e)
one_asked flags flag test false e h = held flags flag test e h

one_refused : (flags : Flag → Bool) (flag : Flag) (test : Test) (negated : Bool) → (negated && is_state flag test) ≡ true →
    MatchBool (is_of_flag test) (MatchBool negated (FlagHolds flags test → ⊥) (FlagHolds flags test)) (Unit {0}) → flags flag ≡ true → ⊥
one_refused flags flag test true e h on = not_held flags flag test e h on
one_refused flags flag test false e h on = false≢true e

asked_holds : (flags : Flag → Bool) (flag : Flag) (simples : List Simple) → All (PassesFlag flags) simples → is_flag_asked flag simples ≡ true → flags flag ≡ true
asked_holds flags flag [] h e = absurd (false≢true e)
asked_holds flags flag (s ∷ simples) h e =
    cases (or_cases (not s.negated && is_state flag s.test) (is_flag_asked flag simples) e) (asked_holds flags flag simples (All-tail (PassesFlag flags) s simples h))
  where
    cases : ((not s.negated && is_state flag s.test) ≡ true) ⊎ (is_flag_asked flag simples ≡ true) → (is_flag_asked flag simples ≡ true → flags flag ≡ true) → flags flag ≡ true
    cases (inl a) later = one_asked flags flag s.test s.negated a (All-head (PassesFlag flags) s simples h)
    cases (inr a) later = later a

refused_fails : (flags : Flag → Bool) (flag : Flag) (simples : List Simple) → All (PassesFlag flags) simples → is_flag_refused flag simples ≡ true → flags flag ≡ true → ⊥
refused_fails flags flag [] h e on = false≢true e
refused_fails flags flag (s ∷ simples) h e on =
    cases (or_cases (s.negated && is_state flag s.test) (is_flag_refused flag simples) e) (λ r. refused_fails flags flag simples (All-tail (PassesFlag flags) s simples h) r on)
  where
    cases : ((s.negated && is_state flag s.test) ≡ true) ⊎ (is_flag_refused flag simples ≡ true) → (is_flag_refused flag simples ≡ true → ⊥) → ⊥
    cases (inl a) later = one_refused flags flag s.test s.negated a (All-head (PassesFlag flags) s simples h) on
    cases (inr a) later = later a

clash_fails : (flags : Flag → Bool) (flag : Flag) (simples : List Simple) → All (PassesFlag flags) simples → clashes_at flag simples ≡ true → ⊥
clash_fails flags flag simples h e =
    let both = and_parts (is_flag_asked flag simples) (is_flag_refused flag simples) e in
    refused_fails flags flag simples h both.1 (asked_holds flags flag simples h both.0)

-- no clash: each that is refused is not asked for
one_passes : (whole : List Simple) → ((flag : Flag) → is_flag_asked flag whole ≡ true → is_flag_refused flag whole ≡ true → ⊥) → (test : Test) (negated : Bool) →
    ((flag : Flag) → (not negated && is_state flag test) ≡ true → is_flag_asked flag whole ≡ true) → ((flag : Flag) → (negated && is_state flag test) ≡ true → is_flag_refused flag whole ≡ true) →
    MatchBool (is_of_flag test) (MatchBool negated (FlagHolds (asked_flags whole) test → ⊥) (FlagHolds (asked_flags whole) test)) (Unit {0})
one_passes whole apart (State f) true asked refused = λ on. apart f on (refused f (eq-eqb (flag_number f) (flag_number f) refl))
one_passes whole apart (State f) false asked refused = asked f (eq-eqb (flag_number f) (flag_number f) refl)
one_passes whole apart Any negated asked refused = tt
one_passes whole apart (Kind v) negated asked refused = tt
one_passes whole apart (Id v) negated asked refused = tt
one_passes whole apart (Attr v) negated asked refused = tt
one_passes whole apart (Nth v) negated asked refused = tt
one_passes whole apart (NthLast v) negated asked refused = tt
one_passes whole apart OnlyChild negated asked refused = tt
one_passes whole apart Root negated asked refused = tt
one_passes whole apart Empty negated asked refused = tt

all_pass : (whole : List Simple) → ((flag : Flag) → is_flag_asked flag whole ≡ true → is_flag_refused flag whole ≡ true → ⊥) → (rest : List Simple) →
    ((flag : Flag) → is_flag_asked flag rest ≡ true → is_flag_asked flag whole ≡ true) → ((flag : Flag) → is_flag_refused flag rest ≡ true → is_flag_refused flag whole ≡ true) →
    All (PassesFlag (asked_flags whole)) rest
all_pass whole apart [] asked refused = All-nil (PassesFlag (asked_flags whole))
all_pass whole apart (s ∷ rest) asked refused =
    All-cons (PassesFlag (asked_flags whole)) s rest
    (one_passes whole apart s.test s.negated
    (λ flag e. asked flag (or_left (not s.negated && is_state flag s.test) (is_flag_asked flag rest) e))
    (λ flag e. refused flag (or_left (s.negated && is_state flag s.test) (is_flag_refused flag rest) e)))
    (all_pass whole apart rest
    (λ flag e. asked flag (or_right (not s.negated && is_state flag s.test) (is_flag_asked flag rest) e))
    (λ flag e. refused flag (or_right (s.negated && is_state flag s.test) (is_flag_refused flag rest) e)))

two : (a b : Bool) → (a && b) ≡ false → a ≡ true → b ≡ true → ⊥
two a b e p q = true≢false (sym (and_from a b p q) ∙ e)

decided_true : (simples : List Simple) → flags_clash simples ≡ true → FlagsDecided true simples
decided_true simples e flags legal h =
    at Link e (λ e. at Visited e (λ e. at Hover e (λ e. at Active e (λ e. at Focus e (λ e. at Target e (λ e. at Enabled e (λ e. at Disabled e (λ e. at Checked e last))))))))
  where
    at : (flag : Flag) {rest : Bool} → (clashes_at flag simples || rest) ≡ true → (rest ≡ true → ⊥) → ⊥
    at flag {rest} e later = cases (or_cases (clashes_at flag simples) rest e)
      where
        cases : (clashes_at flag simples ≡ true) ⊎ (rest ≡ true) → ⊥
        cases (inl c) = clash_fails flags flag simples h c
        cases (inr c) = later c

    on : (flag : Flag) → is_flag_asked flag simples ≡ true → flags flag ≡ true
    on flag e = asked_holds flags flag simples h e

    last : (is_flag_asked Link simples && is_flag_asked Visited simples || is_flag_asked Enabled simples && is_flag_asked Disabled simples) ≡ true → ⊥
    last e = cases (or_cases (is_flag_asked Link simples && is_flag_asked Visited simples) (is_flag_asked Enabled simples && is_flag_asked Disabled simples) e)
      where
        cases : ((is_flag_asked Link simples && is_flag_asked Visited simples) ≡ true) ⊎ ((is_flag_asked Enabled simples && is_flag_asked Disabled simples) ≡ true) → ⊥
        cases (inl c) = let both = and_parts (is_flag_asked Link simples) (is_flag_asked Visited simples) c in legal.0 (on Link both.0) (on Visited both.1)
        cases (inr c) = let both = and_parts (is_flag_asked Enabled simples) (is_flag_asked Disabled simples) c in legal.1 (on Enabled both.0) (on Disabled both.1)

decided_false : (simples : List Simple) → flags_clash simples ≡ false → FlagsDecided false simples
decided_false simples e =
    let p0 = or_parts (clashes_at Link simples) _ e in
    let p1 = or_parts (clashes_at Visited simples) _ p0.1 in
    let p2 = or_parts (clashes_at Hover simples) _ p1.1 in
    let p3 = or_parts (clashes_at Active simples) _ p2.1 in
    let p4 = or_parts (clashes_at Focus simples) _ p3.1 in
    let p5 = or_parts (clashes_at Target simples) _ p4.1 in
    let p6 = or_parts (clashes_at Enabled simples) _ p5.1 in
    let p7 = or_parts (clashes_at Disabled simples) _ p6.1 in
    let p8 = or_parts (clashes_at Checked simples) _ p7.1 in
    let last = or_parts (is_flag_asked Link simples && is_flag_asked Visited simples) (is_flag_asked Enabled simples && is_flag_asked Disabled simples) p8.1 in (
      (two (is_flag_asked Link simples) (is_flag_asked Visited simples) last.0, two (is_flag_asked Enabled simples) (is_flag_asked Disabled simples) last.1),
      all_pass simples (apart p0.0 p1.0 p2.0 p3.0 p4.0 p5.0 p6.0 p7.0 p8.0) simples (λ flag e. e) (λ flag e. e),
    )
  where
    apart : clashes_at Link simples ≡ false → clashes_at Visited simples ≡ false → clashes_at Hover simples ≡ false → clashes_at Active simples ≡ false → clashes_at Focus simples ≡ false →
        clashes_at Target simples ≡ false → clashes_at Enabled simples ≡ false → clashes_at Disabled simples ≡ false → clashes_at Checked simples ≡ false →
        (flag : Flag) → is_flag_asked flag simples ≡ true → is_flag_refused flag simples ≡ true → ⊥
    apart a b c d f g h i j Link = two (is_flag_asked Link simples) (is_flag_refused Link simples) a
    apart a b c d f g h i j Visited = two (is_flag_asked Visited simples) (is_flag_refused Visited simples) b
    apart a b c d f g h i j Hover = two (is_flag_asked Hover simples) (is_flag_refused Hover simples) c
    apart a b c d f g h i j Active = two (is_flag_asked Active simples) (is_flag_refused Active simples) d
    apart a b c d f g h i j Focus = two (is_flag_asked Focus simples) (is_flag_refused Focus simples) f
    apart a b c d f g h i j Target = two (is_flag_asked Target simples) (is_flag_refused Target simples) g
    apart a b c d f g h i j Enabled = two (is_flag_asked Enabled simples) (is_flag_refused Enabled simples) h
    apart a b c d f g h i j Disabled = two (is_flag_asked Disabled simples) (is_flag_refused Disabled simples) i
    apart a b c d f g h i j Checked = two (is_flag_asked Checked simples) (is_flag_refused Checked simples) j

pub decided : (b : Bool) (simples : List Simple) → b ≡ flags_clash simples → FlagsDecided b simples
decided true simples e = decided_true simples (sym e)
decided false simples e = decided_false simples (sym e)
