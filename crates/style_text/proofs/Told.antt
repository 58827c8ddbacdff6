-- What is printed of an input, by the document and the sheet that it has.
use Rattle.std.proofs.Common.{◌≡◌, ◌⊎◌, inl, inr, ℕ, Bool, true, false, ◌&&◌, ◌==◌, List, [], ◌∷◌, ◌++◌, Ok, refl, sym, ap, subst, ◌∙◌}
use Rattle.std.specs.Prelude.{if◌then◌else◌, is_some, Result}
use Rattle.std.proofs.lemmas.Bool.{and_parts, eqb-true}
use Rattle.std.specs.Cmp.Lexicographic.{slice_cmp}
use Rattle.std.specs.Ordering.{nat_cmp}
use Rattle.std.specs.List.{Contains, filter, filter_map}
use Rattle.std.proofs.lemmas.List.Elements.{All-contains, All-contains_itself, All-weaker}
use Rattle.std.proofs.lemmas.List.Kept.{IsStrictlySortedBy-filter}
use Rattle.list_facts.proofs.Members.{Contains-filtered}
use Rattle.cascade_eval.specs.Entries.{AscendingNames}
use Rattle.cascade_eval.specs.Winners.{applied_in, winner_of}
use Rattle.css_model.specs.declared.example.Example.{Example}
use Rattle.css_model.specs.declared.fault.SheetFault.{SheetFault}
use Rattle.css_model.specs.declared.sheet.Item.{Item}
use Rattle.css_model.specs.Sheets.Sheet.{sheet_of}
use Rattle.css_model.specs.Text.Characters.{line_feed}
use Rattle.doc_text.specs.Reading.{TextsDiffer}
use Rattle.style_text.specs.Inputs.{before_empty_line, behind_empty_line, document_part, sheet_part}
use Rattle.style_text.specs.Laws.{TellsWinners}
use Rattle.style_text.specs.Lines.{style_text}
use Rattle.style_text.specs.Reading.{IsDocument}
use Rattle.style_text.specs.Styled.{IsStyled}
use Rattle.style_text.proofs.Named.{has_winner, kept_some}

same_items : (xs ys : List Item) → ◌≡◌ {A = Result (List Item) SheetFault} (Ok xs) (Ok ys) → xs ≡ ys
same_items xs ys same = cc

same_example : TextsDiffer → (text : List ℕ) (x y : Example) → IsDocument text x → IsDocument text y → x ≡ y
unfolding IsDocument
same_example differ text x y one other = differ text x y one.1 other.1

-- the names with a winner, which those of all declarations that apply are among
few_names : (x : Example) (items : List Item) (names : List (List ℕ)) → AscendingNames names (applied_in x items) → AscendingNames (filter (λ name. is_some (winner_of x items name)) names) (applied_in x items)
few_names x items names ascend = record {
  ascending = IsStrictlySortedBy-filter (slice_cmp nat_cmp) (λ name. is_some (winner_of x items name)) names ascend.ascending;
  all =
      All-weaker (Contains (applied_in x items)) (λ e. Contains (filter (λ name. is_some (winner_of x items name)) names) e.decl.name)
      (λ e there. Contains-filtered (λ name. is_some (winner_of x items name)) names e.decl.name
      (All-contains (λ f. Contains names f.decl.name) (applied_in x items) e ascend.all there) (has_winner x items e there))
      (applied_in x items) (All-contains_itself (applied_in x items));
}

pub told : TextsDiffer → (input text : List ℕ) (x : Example) (items : List Item) → IsStyled input text
    → IsDocument (document_part input) x → sheet_of (sheet_part input) ≡ Ok items → TellsWinners x items text
told differ input text x items styled document sheet =
    let s = styled.style in
    let tells : TellsWinners s.example s.items text = record {
      names = filter (λ name. is_some (winner_of s.example s.items name)) s.win.names;
      winners = filter_map (winner_of s.example s.items) s.win.names;
      ascend = few_names s.example s.items s.win.names s.win.ascend;
      win = kept_some (winner_of s.example s.items) s.win.names;
      text_is = s.text_is ∙ ap (style_text s.items) s.win.won;
    } in
    subst (λ (y : Example). TellsWinners y items text) (same_example differ (document_part input) s.example x s.document_read document)
    (subst (λ (ys : List Item). TellsWinners s.example ys text) (same_items s.items items (sym s.sheet_read ∙ sheet)) tells)

-- ---- The parts of an input

abbrev Splits : (text before behind : List ℕ) → Type 0
Splits text before behind = (text ≡ before ++ line_feed ∷ behind) ⊎ ((text ≡ before) × (behind ≡ []))

one_more : (c : ℕ) (text before behind : List ℕ) → Splits text before behind → Splits (c ∷ text) (c ∷ before) behind
one_more c text before behind (inl is) = inl (ap (λ (cs : List ℕ). c ∷ cs) is)
one_more c text before behind (inr is) = inr (ap (λ (cs : List ℕ). c ∷ cs) is.0, is.1)

splits : (b : Bool) (text : List ℕ) → Splits text (before_empty_line b text) (behind_empty_line b text)
splits b [] = inr (refl, refl)
splits b (c ∷ text) = by (b && c == line_feed) refl (splits (c == line_feed) text)
  where
    by : (t : Bool) → (b && c == line_feed) ≡ t → Splits text (before_empty_line (c == line_feed) text) (behind_empty_line (c == line_feed) text)
        → Splits (c ∷ text) (if t then [] else (c ∷ before_empty_line (c == line_feed) text)) (if t then text else behind_empty_line (c == line_feed) text)
    by true e later = inl (ap (λ (d : ℕ). d ∷ text) (eqb-true c line_feed (and_parts b (c == line_feed) e).1))
    by false e later = one_more c text (before_empty_line (c == line_feed) text) (behind_empty_line (c == line_feed) text) later

pub two_parts : (input : List ℕ) → Splits input (document_part input) (sheet_part input)
unfolding document_part sheet_part
two_parts input = splits true input
