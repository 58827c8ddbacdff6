-- The selectors of a sheet that is read are small.
use Rattle.std.proofs.Common.{◌≡◌, ◌≤◌, ℕ, List, [], ◌∷◌, Result, Ok, Err, All, length, ap}
use Rattle.std.specs.List.{AllByRecursion}
use Rattle.std.proofs.lemmas.List.Elements.{All-nil, All-cons}
use Rattle.cascade_eval.specs.Entries.{HasSmallSelectors, IsSmall}
use Rattle.css_model.specs.declared.reason.Reason.{Reason}
use Rattle.css_model.specs.declared.selector.Simple.{Simple}
use Rattle.css_model.specs.declared.sheet.Item.{Item}
use Rattle.css_model.specs.declared.sheet.Item.TheVariants.{Rule, KeptRule, KeptBlock}
use Rattle.css_model.specs.declared.sheet.Piece.{Piece}
use Rattle.css_model.specs.declared.sheet.SelItem.{SelItem}
use Rattle.css_model.specs.Documents.SelectorParts.{SelectorParts}
use Rattle.css_model.specs.Selectors.Reading.{selector_of_lexemes}
use Rattle.css_model.specs.Sheets.Limits.{max_simples}
use Rattle.css_model.specs.Sheets.Selectors.{with_piece}
use Rattle.css_model.specs.Sheets.Sheet.{sheet_of}
use Rattle.css_model.specs.Sheets.Sound.{IsSound, IsSoundSelector}
use Rattle.css_model.specs.Text.Lexemes.{piece_of}
use Rattle.selector_laws.specs.Limits.{KeepsCompound, KeepsLimits, ReadSelectorsKeepTheLimits}
use Rattle.sheet_laws.specs.Reading.{ReadIsSound}

few_simples : (chain : List (List Simple)) → AllByRecursion KeepsCompound chain → All (λ compound. length compound ≤ max_simples) chain
few_simples [] keeps = All-nil (λ compound. length compound ≤ max_simples)
few_simples (c ∷ chain) keeps = All-cons (λ compound. length compound ≤ max_simples) c chain (keeps.0).few (few_simples chain keeps.1)

small_selector : (selector : SelectorParts) → KeepsLimits selector → IsSmall selector
small_selector selector keeps = record { few = keeps.few; compounds = few_simples selector.chain keeps.compounds }

-- what a part of a prelude was read as
without_piece : (piece : Piece) (read : Result SelectorParts Reason) (s : SelItem) → with_piece piece read ≡ Ok s → read ≡ Ok s.selector
without_piece piece (Ok selector) s is = (let same : record { selector = selector; piece = piece } ≡ s = cc in ap (λ (s : SelItem). Ok s.selector) same)
without_piece piece (Err reason) s is = absurd (let none : ⊥ = cc in none)

small_selectors : ReadSelectorsKeepTheLimits → (source : List ℕ) (selectors : List SelItem) → AllByRecursion (IsSoundSelector source) selectors → AllByRecursion (λ s. IsSmall s.selector) selectors
small_selectors law source [] sound = tt
small_selectors law source (s ∷ selectors) sound =
    let part = (sound.0).part in
    let read : selector_of_lexemes source part ≡ Ok s.selector = without_piece (piece_of part) (selector_of_lexemes source part) s (sound.0).reads in
    (small_selector s.selector (law source part s.selector read), small_selectors law source selectors sound.1)

small_items : ReadSelectorsKeepTheLimits → (source : List ℕ) (items : List Item) → IsSound source items → AllByRecursion HasSmallSelectors items
small_items law source [] sound = tt
small_items law source (Rule r ∷ items) sound = (small_selectors law source r.selectors (sound.0).selectors, small_items law source items sound.1)
small_items law source (KeptRule kept ∷ items) sound = (tt, small_items law source items sound.1)
small_items law source (KeptBlock piece ∷ items) sound = (tt, small_items law source items sound.1)

pub read_is_small : ReadIsSound → ReadSelectorsKeepTheLimits → (source : List ℕ) (items : List Item) → sheet_of source ≡ Ok items → AllByRecursion HasSmallSelectors items
read_is_small sound limits source items read = small_items limits source items (sound source items read)
