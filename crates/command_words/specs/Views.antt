-- What a contract sees of a command, and of operands and options.
use Rattle.std.specs.Prelude.{ℕ, List, [], ◌∷◌, Option, Some, None}
use Rattle.command_words.specs.Forms.{Form, Min, Style, Dead, Cmp, Check, Why, Same, Diff, Blockers, Listing, Lint, Inspect, Trial, Help, Version, Arguments, arguments}
use Rattle.command_words.specs.declared.command.Command.{Command}
use Rattle.command_words.specs.declared.command.Command.TheVariants as command
use Rattle.command_words.specs.declared.arguments.Arguments as read
use Rattle.command_words.specs.declared.arguments.Operands.{Operands}
use Rattle.command_words.specs.declared.arguments.Operands.TheVariants as operands

-- the form of a command: its texts in place of the places where they stand
abbrev pub form : Command → Form
form (command.Min budget work report) = Min budget work report
form command.Style = Style
form (command.Dead budget) = Dead budget
form (command.Cmp left right budget log) = Cmp left.now right.now budget log
form command.Check = Check
form (command.Why from to budget) = Why from to budget
form (command.Same split budget) = Same split budget
form (command.Diff split budget limit) = Diff split budget limit
form (command.Blockers budget) = Blockers budget
form command.Listing = Listing
form (command.Lint budget) = Lint budget
form command.Inspect = Inspect
form (command.Trial rules) = Trial rules.number
form (command.Help about) = Help about
form command.Version = Version

abbrev pub form_if_some : Option Command → Option Form
form_if_some None = None
form_if_some (Some command) = Some (form command)

-- the texts of operands
abbrev pub texts : Operands → List (List ℕ)
texts operands.None = []
texts (operands.One first) = first.now ∷ []
texts (operands.Two first second) = first.now ∷ second.now ∷ []

abbrev pub arguments_if_some : Option read.Arguments → Option Arguments
arguments_if_some None = None
arguments_if_some (Some read) = Some (arguments (texts read.operands) read.budget read.limit read.work read.log read.report)
