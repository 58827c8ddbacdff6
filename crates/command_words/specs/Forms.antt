-- The forms of a command line: which words ask for what (own).
use Rattle.std.specs.Prelude.{◌==◌, ℕ, nat_lt, Bool, true, false, not, ◌&&◌, ◌||◌, if◌then◌else◌, List, [], ◌∷◌, Option, Some, None, codes, decimal, take, drop}
use Rattle.std.specs.Cmp.Lexicographic.{pointwise}
use Rattle.std.specs.Str.Parse.{digits_value}
use Rattle.command_words.specs.declared.command.Topic.{Topic}
use Rattle.command_words.specs.declared.command.Topic.TheVariants as topic

-- What words ask for: what a command does, with its operands and options, how the program or a command is used, or
-- the version.
pub data Form : Type 0 where
  Min : (budget work : Option ℕ) (report : Bool) → Form
  Style : Form
  Dead : (budget : Option ℕ) → Form
  Cmp : (left right : List ℕ) (budget : Option ℕ) (log : Bool) → Form
  Check : Form
  Why : (from to : ℕ) (budget : Option ℕ) → Form
  Same : (split : ℕ) (budget : Option ℕ) → Form
  Diff : (split : ℕ) (budget : Option ℕ) (limit : ℕ) → Form
  Blockers : (budget : Option ℕ) → Form
  Listing : Form
  Lint : (budget : Option ℕ) → Form
  Inspect : Form
  Trial : (rules : ℕ) → Form
  Help : Topic → Form
  Version : Form

-- ---- Single words

abbrev pub is_word : List ℕ → List ℕ → Bool
is_word = pointwise ◌==◌

-- a word that asks how something is used
abbrev pub is_help : List ℕ → Bool
is_help word = is_word word (codes "--help") || is_word word (codes "-h")

-- a word that may be a selector: it does not begin with `-`
abbrev pub is_operand : List ℕ → Bool
is_operand [] = true
is_operand (c ∷ cs) = not (c == 45)

-- ---- Numbers

abbrev pub most_budget : ℕ
most_budget = 20000

-- the greatest number of an item, of bytes or of work that words may name
abbrev pub most_number : ℕ
most_number = 4294967295

-- the most rules of a made sheet that words may ask for
abbrev pub most_rules : ℕ
most_rules = 2000

-- the most couples that words may let a comparison tell, and how many it tells where they name no number
abbrev pub most_limit : ℕ
most_limit = 10000

abbrev pub usual_limit : ℕ
usual_limit = 20

-- A number up to `most`, in decimal digits without a sign and without a leading zero.
unfoldable pub number_up_to : (most : ℕ) → List ℕ → Option ℕ
number_up_to most word =
    let number = digits_value 10 word in
    if is_word word (decimal number) && not (nat_lt most number) then Some number else None

-- the same of a number from 1 on
abbrev pub count_up_to : (most : ℕ) → List ℕ → Option ℕ
count_up_to most word = if is_word word (codes "0") then None else number_up_to most word

-- ---- Operands and options

-- What may stand behind the name of a command: operands, in their order, the budget, the limit and the work, if they are named,
-- and whether a log or a report is asked for.
pub data Arguments : Type 0 where
  arguments : (operands : List (List ℕ)) (budget limit work : Option ℕ) (log report : Bool) → Arguments

-- one operand more; no command takes three
abbrev pub with_operand : List ℕ → Option Arguments → Option Arguments
with_operand word (Some (arguments [] budget limit work log report)) = Some (arguments (word ∷ []) budget limit work log report)
with_operand word (Some (arguments (first ∷ []) budget limit work log report)) = Some (arguments (first ∷ word ∷ []) budget limit work log report)
with_operand word before = None

-- a budget, if none is named before
abbrev pub with_budget : Option ℕ → Option Arguments → Option Arguments
with_budget (Some number) (Some (arguments operands None limit work log report)) = Some (arguments operands (Some number) limit work log report)
with_budget number before = None

-- a limit, if none is named before
abbrev pub with_limit : Option ℕ → Option Arguments → Option Arguments
with_limit (Some number) (Some (arguments operands budget None work log report)) = Some (arguments operands budget (Some number) work log report)
with_limit number before = None

-- a bound of work, if none is named before
abbrev pub with_work : Option ℕ → Option Arguments → Option Arguments
with_work (Some number) (Some (arguments operands budget limit None log report)) = Some (arguments operands budget limit (Some number) log report)
with_work number before = None

-- a log, if none is asked for before
abbrev pub with_log : Option Arguments → Option Arguments
with_log (Some (arguments operands budget limit work false report)) = Some (arguments operands budget limit work true report)
with_log before = None

-- a report, if none is asked for before
abbrev pub with_report : Option Arguments → Option Arguments
with_report (Some (arguments operands budget limit work log false)) = Some (arguments operands budget limit work log true)
with_report before = None

-- whether the word behind this one is its number
abbrev pub takes_number : List ℕ → Bool
takes_number option = is_word option (codes "--budget") || is_word option (codes "--limit") || is_word option (codes "--work")

-- such an option with its number
abbrev pub with_number : (option number : List ℕ) → Option Arguments → Option Arguments
with_number option number before =
    if is_word option (codes "--budget") then with_budget (number_up_to most_budget number) before
    else if is_word option (codes "--limit") then with_limit (count_up_to most_limit number) before
    else with_work (number_up_to most_number number) before

-- one word more that is no option: an operand, if it may be one
abbrev pub with_plain_word : List ℕ → Option Arguments → Option Arguments
with_plain_word word before = if is_operand word then with_operand word before else None

-- one word more: `--budget=N`, `--limit=K`, `--work=N`, or an operand
abbrev pub with_other_word : List ℕ → Option Arguments → Option Arguments
with_other_word word before =
    if is_word (take 9 word) (codes "--budget=") then with_budget (number_up_to most_budget (drop 9 word)) before
    else if is_word (take 8 word) (codes "--limit=") then with_limit (count_up_to most_limit (drop 8 word)) before
    else if is_word (take 7 word) (codes "--work=") then with_work (number_up_to most_number (drop 7 word)) before
    else with_plain_word word before

-- the same, or `--log` or `--report`
abbrev pub with_word : List ℕ → Option Arguments → Option Arguments
with_word word before =
    if is_word word (codes "--log") then with_log before else if is_word word (codes "--report") then with_report before else with_other_word word before

-- More words, read from the left: the word behind `--budget`, `--limit` or `--work` is its number.
abbrev pub with_words : Option Arguments → List (List ℕ) → Option Arguments
with_words before [] = before
with_words before (word ∷ []) = with_word word before
with_words before (word ∷ next ∷ words) =
    if takes_number word then with_words (with_number word next before) words
    else with_words (with_word word before) (next ∷ words)

-- what words behind the name of a command are: an option stands once at most, and anywhere
abbrev pub arguments_of : List (List ℕ) → Option Arguments
arguments_of words = with_words (Some (arguments [] None None None false false)) words

-- ---- What words ask for

-- two numbers of items
abbrev pub moved : (from to budget : Option ℕ) → Option Form
moved (Some from) (Some to) budget = Some (Why from to budget)
moved from to budget = None

-- a number of bytes
abbrev pub compared : (split budget : Option ℕ) → Option Form
compared (Some split) budget = Some (Same split budget)
compared None budget = None

-- the limit that is named, or the usual one
abbrev pub limit_or_usual : Option ℕ → ℕ
limit_or_usual (Some limit) = limit
limit_or_usual None = usual_limit

-- a number of bytes, for all that is found
abbrev pub differing : (split budget limit : Option ℕ) → Option Form
differing (Some split) budget limit = Some (Diff split budget (limit_or_usual limit))
differing None budget limit = None

-- a number of rules
abbrev pub tried : (rules : Option ℕ) → Option Form
tried (Some rules) = Some (Trial rules)
tried None = None

-- what a command with these operands and options asks for
abbrev pub asked : Topic → Option Arguments → Option Form
asked topic.Min (Some (arguments [] budget None work false report)) = Some (Min budget work report)
asked topic.Dead (Some (arguments [] budget None None false false)) = Some (Dead budget)
asked topic.Style (Some (arguments [] None None None false false)) = Some Style
asked topic.Cmp (Some (arguments (left ∷ right ∷ []) budget None None log false)) = Some (Cmp left right budget log)
asked topic.Check (Some (arguments [] None None None false false)) = Some Check
asked topic.Why (Some (arguments (from ∷ to ∷ []) budget None None false false)) = moved (number_up_to most_number from) (number_up_to most_number to) budget
asked topic.Same (Some (arguments (split ∷ []) budget None None false false)) = compared (number_up_to most_number split) budget
asked topic.Diff (Some (arguments (split ∷ []) budget limit None false false)) = differing (number_up_to most_number split) budget limit
asked topic.Blockers (Some (arguments [] budget None None false false)) = Some (Blockers budget)
asked topic.Listing (Some (arguments [] None None None false false)) = Some Listing
asked topic.Lint (Some (arguments [] budget None None false false)) = Some (Lint budget)
asked topic.Inspect (Some (arguments [] None None None false false)) = Some Inspect
asked topic.Trial (Some (arguments (rules ∷ []) None None None false false)) = tried (number_up_to most_rules rules)
asked about words = None

-- the command of a name
unfoldable pub command_named : List ℕ → Option Topic
command_named name =
    if is_word name (codes "min") then Some topic.Min
    else if is_word name (codes "dead") then Some topic.Dead
    else if is_word name (codes "style") then Some topic.Style
    else if is_word name (codes "cmp") then Some topic.Cmp
    else if is_word name (codes "check") then Some topic.Check
    else if is_word name (codes "why") then Some topic.Why
    else if is_word name (codes "same") then Some topic.Same
    else if is_word name (codes "diff") then Some topic.Diff
    else if is_word name (codes "blockers") then Some topic.Blockers
    else if is_word name (codes "list") then Some topic.Listing
    else if is_word name (codes "lint") then Some topic.Lint
    else if is_word name (codes "inspect") then Some topic.Inspect
    else if is_word name (codes "trial") then Some topic.Trial else None

-- whether the words behind a command ask how it is used
abbrev pub asks_help : List (List ℕ) → Bool
asks_help (word ∷ []) = is_help word
asks_help words = false

-- a word that is no command may ask, alone, how the program is used, or for its version
abbrev pub alone : List ℕ → List (List ℕ) → Option Form
alone word [] =
    if is_help word || is_word word (codes "help") then Some (Help topic.Program)
    else if is_word word (codes "--version") || is_word word (codes "-V") then Some Version else None
alone word words = None

-- what a name, of this command if of one, and the words behind it ask for
abbrev pub named : Option Topic → (name : List ℕ) (words : List (List ℕ)) → Option Form
named (Some about) name words = if asks_help words then Some (Help about) else asked about (arguments_of words)
named None name words = alone name words

-- What the words after the program's name ask for, if they have a form.
abbrev pub form_of : List (List ℕ) → Option Form
form_of [] = None
form_of (name ∷ words) = named (command_named name) name words
