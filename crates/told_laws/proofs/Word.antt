-- The word `same` is told only where nothing is found.
use Rattle.std.proofs.Common.{◌≡◌, ℕ, ◌<◌, Bool, true, false, List, [], ◌∷◌, refl, sym, ◌∙◌, subst}
use Rattle.std.specs.Prelude.{◌&&◌, ◌==◌, if◌then◌else◌, codes}
use Rattle.std.proofs.lemmas.Bool.{and_parts, eq-eqb, false≢true, true≢false}
use Rattle.diff_laws.specs.Same.{AreSame}
use Rattle.diff_text.specs.DiffTexts.{found_lines, is_none, is_same, sides_of}
use Rattle.sheet_members.specs.Compared.{changed, compared}
use Rattle.turned_members.specs.Telling.{AreTold, Told}
use Rattle.turned_members.specs.Turned.{turned}
use Rattle.told_laws.specs.Same.{SameTextMeansSame}

begins_else : (c d : ℕ) (cs ds : List ℕ) → (c == d) ≡ false → c ∷ cs ≡ d ∷ ds → ⊥
begins_else c d cs ds apart h = let same : c ≡ d = cc in true≢false (sym (eq-eqb c d same) ∙ apart)

none_is : {A : Type 0} (xs : List A) → is_none xs ≡ true → xs ≡ []
none_is [] h = refl
none_is (x ∷ xs) h = absurd (false≢true h)

pub text_means : SameTextMeansSame
text_means source other limit pairs text a some word = which (is_same a.tells.told (compared source a.first other a.second).missing (compared source a.first other a.second).extra (changed (compared source a.first other a.second))) refl (sym a.tells.text_is ∙ word)
  where
    which : (b : Bool) → is_same a.tells.told (compared source a.first other a.second).missing (compared source a.first other a.second).extra (changed (compared source a.first other a.second)) ≡ b →
        (if b then codes "same\n" else found_lines (sides_of source a.first other a.second) limit a.tells.told (compared source a.first other a.second)) ≡ codes "same\n" → AreSame source a.first other a.second
    which false is e = absurd (begins_else 114 115 _ _ refl e)
    which true is e =
        let first = and_parts (is_none a.tells.told) (is_none (compared source a.first other a.second).missing && (is_none (compared source a.first other a.second).extra && is_none (changed (compared source a.first other a.second)))) is in
        let second = and_parts (is_none (compared source a.first other a.second).missing) (is_none (compared source a.first other a.second).extra && is_none (changed (compared source a.first other a.second))) first.1 in
        let third = and_parts (is_none (compared source a.first other a.second).extra) (is_none (changed (compared source a.first other a.second))) second.1 in
        record {
          first_read = a.first_read;
          second_read = a.second_read;
          pairs = pairs;
          true_list = a.tells.all_true;
          limit = limit;
          some = some;
          none_told = subst (λ (xs : List Told). AreTold pairs.answers limit [] (turned (compared source a.first other a.second).commons) xs) (none_is a.tells.told first.0) a.tells.are_told;
          none_missing = none_is (compared source a.first other a.second).missing second.0;
          none_extra = none_is (compared source a.first other a.second).extra third.0;
          none_changed = none_is (changed (compared source a.first other a.second)) third.1;
        }
