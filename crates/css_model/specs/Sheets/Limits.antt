-- The limits of a style sheet and of a selector that are read (own: CSS Syntax 3 knows none).
use Rattle.std.specs.Prelude.{ℕ, ◌≡◌}
use Rattle.css_model.specs.declared.limits.TheConstants.{MAX_BYTES, MAX_DEPTH, MAX_ITEMS, MAX_PAIRS, MAX_COMPOUNDS, MAX_SIMPLES, MAX_STEPPED}

-- how many bytes it has at most
abbrev pub max_bytes : ℕ
max_bytes = 1048576

-- how many brackets are open at once at most
abbrev pub max_depth : ℕ
max_depth = 256

-- how many items it has at most
abbrev pub max_items : ℕ
max_items = 16384

-- how many pairs of a selector and a declaration its style rules have together at most
abbrev pub max_pairs : ℕ
max_pairs = 262144

-- how many compounds a selector has at most
abbrev pub max_compounds : ℕ
max_compounds = 12

-- how many simple selectors a compound has at most
abbrev pub max_simples : ℕ
max_simples = 32

-- how many of a selector's positions have a step of 2 or more in size at most
abbrev pub max_stepped : ℕ
max_stepped = 4

-- the numbers of the code are these
abbrev pub LimitsAreDefined : Type 0
LimitsAreDefined =
    (MAX_BYTES ≡ max_bytes) × (MAX_DEPTH ≡ max_depth) × (MAX_ITEMS ≡ max_items) × (MAX_PAIRS ≡ max_pairs)
    × (MAX_COMPOUNDS ≡ max_compounds) × (MAX_SIMPLES ≡ max_simples) × (MAX_STEPPED ≡ max_stepped)
