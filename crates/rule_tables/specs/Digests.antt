-- Digests of selectors and declarations (own): numbers below 2 ^ 32, the same for what is the same.
use Rattle.std.specs.Prelude.{ℕ}
use Rattle.std.specs.Hash as fed
use Rattle.std.specs.List.{fold}
use Rattle.css_model.specs.contracts.selector.SelectorHash.TheImpl as selector
use Rattle.css_model.specs.contracts.text.TextHash.TheImpl as text
use Rattle.css_model.specs.declared.sheet.Decl.{Decl}
use Rattle.css_model.specs.Documents.Digests.{digest_of}
use Rattle.css_model.specs.Documents.SelectorParts.{SelectorParts}
use Rattle.mixing.specs.Mixer.{finished, initial, write}
use Rattle.mixing.specs.declared.mixer.Mixer.{Mixer}

-- the state after more was fed
abbrev pub fed_with : fed.HashWrites → Mixer → Mixer
fed_with writes m = fold write m writes

unfoldable pub selector_digest : SelectorParts → ℕ
selector_digest s = digest_of ((selector.ghosts).hash_input s)

unfoldable pub decl_digest : Decl → ℕ
decl_digest d = finished (fed_with (fed.bool d.important) (fed_with (fed.slice fed.u8 d.value) (fed_with ((text.ghosts).hash_input d.name) initial)))
