-- Laws on the text of a comparison.
use Rattle.std.specs.Prelude.{◌≡◌, ◌≤◌, ℕ, List, [], ◌∷◌, ◌++◌, length, IsSome, codes}
use Rattle.clause_encode.specs.Fits.{pair_formula}
use Rattle.cnf.specs.declared.lit.Lit.{Lit}
use Rattle.compound_fit.specs.Table.{IsTable}
use Rattle.compound_fit.specs.TableParts.{TableParts}
use Rattle.css_model.specs.Cascade.Order.{Meet}
use Rattle.css_model.specs.declared.example.Example.{Example}
use Rattle.css_model.specs.Documents.SelectorParts.{SelectorParts}
use Rattle.css_model.specs.Selectors.Profile.{IsInProfile}
use Rattle.css_model.specs.Text.Characters.{line_feed}
use Rattle.doc_text.specs.DocText.{doc_text}
use Rattle.shape_laws.specs.Document.Laws.{ShowsMeeting}
use Rattle.log_text.specs.CheckedTexts.{IsCheckedText, Passes, max_log_bytes, yes_text}
use Rattle.overlap.specs.PairsParts.{PairsParts}
use Rattle.rup_check.specs.Reading.{IsLogText}
use Rattle.compare_text.specs.ComparedTexts.{IsTextOfAnswer}
use Rattle.compare_text.specs.LoggedTexts.{IsTextWithLog}

-- Two selectors of which `disjoint` is printed do not meet.
abbrev pub DisjointSelectorsDoNotMeet : Type 0
DisjointSelectorsDoNotMeet = (x y : SelectorParts) (pairs : PairsParts) (text : List ℕ) → IsTextOfAnswer x y pairs text → text ≡ codes "disjoint" ++ line_feed ∷ [] → Meet x y → ⊥

-- Behind `overlap` stands the text of an example, which shows that the two selectors meet.
abbrev pub OverlapShowsMeeting : Type 0
OverlapShowsMeeting =
    (x y : SelectorParts) (pairs : PairsParts) (text rest : List ℕ) → IsTextOfAnswer x y pairs text → text ≡ codes "overlap" ++ line_feed ∷ rest
    → (example : Example) × (rest ≡ doc_text example) × ∥ ShowsMeeting x y example ∥₁

-- A log that stands in the place of an answer passes the check, within the limit of bytes.
abbrev pub LogsPass : Type 0
LogsPass = (x y : SelectorParts) (pairs : PairsParts) (text : List ℕ) (is : IsTextWithLog x y pairs text) → IsSome is.log → length text ≤ max_log_bytes → Passes text

-- Selectors of the profile do not meet, where a log of the formula of both passes the check.
abbrev pub PassedLogsShowApartness : Type 0
PassedLogsShowApartness =
    (x y : SelectorParts) (table : TableParts) (text : List ℕ) (steps : List (List Lit)) → IsInProfile x → IsInProfile y → IsTable table x y
    → IsLogText text (pair_formula x y table.fits) steps → IsCheckedText text yes_text → Meet x y → ⊥
