-- Two sheets laid flat.
use Rattle.std.proofs.Common.{◌≡◌, ℕ, List, [], map, Ok, refl, sym, subst, ap, ap₂, ◌∙◌}
use Rattle.std.specs.List.{AllByRecursion, enumerate_from, flat_map}
use Rattle.css_model.specs.declared.sheet.Item.{Item}
use Rattle.css_model.specs.Sheets.Sheet.{sheet_of}
use Rattle.media_groups.specs.Laws.{OpenedBlocksAreSheets}
use Rattle.overlap.specs.PairsParts.{PairsParts}
use Rattle.overlap.specs.Remembered.{IsTrueList}
use Rattle.print_laws.specs.Profile.{SelectorsAreInProfile}
use Rattle.selector_laws.specs.Limits.{ReadSelectorsKeepTheLimits}
use Rattle.sheet_laws.specs.Reading.{ReadIsSound}
use Rattle.sheet_members.proofs.ForCallers.{all_ready}
use Rattle.sheet_members.specs.Compared.{Compared}
use Rattle.sheet_members.specs.Layers.{Layer, body_layers, outer_layer}
use Rattle.sheet_members.specs.Occurrences.{Occurrence, by_outer_item, occurrences}
use Rattle.sheet_members.specs.Ready.{IsReady, IsReadyCommon}
use Rattle.turned_members.specs.Telling.{AreTold, Told}
use Rattle.turned_members.specs.Turned.{turned}
use Rattle.diff_text.specs.DiffTexts.{Tells, diff_text, sides_of}
use Rattle.diff_text.specs.Laid.{TellsSides, compared_in, sides_with}
use Rattle.diff_text.specs.Lines.{Sides}
use Rattle.diff_text.specs.Shown.{AreReadySides, IsReadyCompared, IsReadyTold}
use Rattle.diff_text.proofs.Ready.{compared_ready, told_ready}

pub laid_flat : (outer : Layer) (bodies : List Layer) (found : List Occurrence) (source : List ℕ) (items : List Item) → found ≡ flat_map (by_outer_item bodies outer) (enumerate_from 0 outer.items) →
    outer ≡ outer_layer source items → bodies ≡ body_layers source items → found ≡ occurrences source items
laid_flat outer bodies found source items is outer_is bodies_are =
    is ∙ ap₂ (λ (l : Layer) (ls : List Layer). flat_map (by_outer_item ls l) (enumerate_from 0 l.items)) outer_is bodies_are

pub compared_laid : (x : Sides) (c : Compared) → AreReadySides x → c ≡ compared_in x → IsReadyCompared c
compared_laid x c ready is = subst IsReadyCompared (sym is) (compared_ready x ready)

pub commons_laid : (x : Sides) (c : Compared) → AreReadySides x → c ≡ compared_in x → AllByRecursion IsReadyCommon c.commons
commons_laid x c ready is = (compared_laid x c ready is).commons

pub told_laid : (x : Sides) (c : Compared) (pairs : PairsParts) (limit : ℕ) (told : List Told) → AreReadySides x → c ≡ compared_in x → ∥ IsTrueList pairs ∥₁ →
    AreTold pairs.answers limit [] (turned c.commons) told → AllByRecursion IsReadyTold told
told_laid x c pairs limit told ready is all_true are = told_ready pairs all_true limit c.commons told (commons_laid x c ready is) are

pub tells_laid : (x : Sides) (c : Compared) (pairs : PairsParts) (limit : ℕ) (told : List Told) (text : List ℕ) → c ≡ compared_in x → ∥ IsTrueList pairs ∥₁ →
    AreTold pairs.answers limit [] (turned c.commons) told → text ≡ diff_text x limit told c → TellsSides x limit pairs text
tells_laid x c pairs limit told text is all_true are text_is = record {
  all_true = all_true;
  told = told;
  are_told = subst (λ (d : Compared). AreTold pairs.answers limit [] (turned d.commons) told) is are;
  text_is = text_is ∙ ap (diff_text x limit told) is;
}

-- what occurs in a sheet that was read can be printed
pub is_ready : ReadSelectorsKeepTheLimits → ReadIsSound → SelectorsAreInProfile → OpenedBlocksAreSheets → (source : List ℕ) (s : List Item) (os : List Occurrence) → sheet_of source ≡ Ok s → os ≡ occurrences source s →
    AllByRecursion IsReady os
is_ready limits sound profile blocks source s os read is = subst (AllByRecursion IsReady) (sym is) (all_ready limits sound profile blocks source s read)

pub both_ready : (text : List ℕ) (os : List Occurrence) (there : List ℕ) (ps : List Occurrence) → AllByRecursion IsReady os → AllByRecursion IsReady ps →
    AreReadySides (record { text = text; occurrences = os; other = there; others = ps })
both_ready text os there ps first second = (first, second)

pub second_laid : (text : List ℕ) (os : List Occurrence) (there : List ℕ) (ps : List Occurrence) (source other : List ℕ) (t : List Item) → text ≡ source → there ≡ other → ps ≡ occurrences other t →
    record { text = text; occurrences = os; other = there; others = ps } ≡ sides_with source os other t
second_laid text os there ps source other t text_is there_is ps_are = cc

pub tells_second : (x y : Sides) (limit : ℕ) (pairs : PairsParts) (text : List ℕ) → x ≡ y → TellsSides x limit pairs text → TellsSides y limit pairs text
tells_second x y limit pairs text is tells = subst (λ (z : Sides). TellsSides z limit pairs text) is tells

pub tells_first : (source : List ℕ) (s : List Item) (os : List Occurrence) (other : List ℕ) (t : List Item) (limit : ℕ) (pairs : PairsParts) (text : List ℕ) → os ≡ occurrences source s →
    TellsSides (sides_with source os other t) limit pairs text → Tells source s other t limit pairs text
tells_first source s os other t limit pairs text is tells =
    let there : TellsSides (sides_of source s other t) limit pairs text = subst (λ (zs : List Occurrence). TellsSides (sides_with source zs other t) limit pairs text) is tells in
    record { all_true = there.all_true; told = there.told; are_told = there.are_told; text_is = there.text_is }
