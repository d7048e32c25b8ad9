-- The meaning of the program's arguments.
use Rattle.std.specs.Prelude.{◌≡◌, ◌≤◌, ◌==◌, ◌⊎◌, ◌||◌, ℕ, Bool, true, false, List, [], ◌∷◌, codes, cond, bytes_eq, length}
use Rattle.std.specs.Prelude.{Option, None, Some, option_map, Result, Ok, Err}
use Rattle.std.specs.List.{after_first, before_first, position_or_len}
use Rattle.std.specs.Result.{result_map_both}
use Rattle.std.specs.Str.Parse.{digits_value}
use Rattle.link_capture_commands.specs.Commands.{IsLimitArgument}
use Rattle.link_lines.specs.Types.{TakesType}
use Rattle.link_lines.specs.Remaining.{Omitted, nothing_omitted}
use Rattle.link_lines.specs.Captures.{everything}
use Rattle.link_lines.specs.MessageLaws.{plain}
use Rattle.link_lines.specs.MessageLines.{Selection}
use Rattle.link_lines.specs.Options.{selection_of}
use Rattle.link_lines.specs.Without.{TakesWord}
use Rattle.link_lines.specs.Words.{Reads, WordFault, parts}
use Rattle.linkshow_program.specs.declared.arguments.Argument.{Argument}
use Rattle.linkshow_program.specs.declared.arguments.Argument.TheVariants.{Flag, Valued, Assigned, Input, End, Name, Invalid}
use Rattle.linkshow_program.specs.declared.arguments.Asked.{Asked}
use Rattle.linkshow_program.specs.declared.arguments.Asked.TheVariants.{Help, Version, Show}
use Rattle.linkshow_program.specs.declared.arguments.FlagOption.{FlagOption}
use Rattle.linkshow_program.specs.declared.arguments.FlagOption.TheVariants.{Kernels, WithoutNumbers, Offsets}
use Rattle.linkshow_program.specs.declared.arguments.FlagOption.TheVariants.{Json, KeepGoing}
use Rattle.linkshow_program.specs.declared.arguments.Options.{Options}
use Rattle.linkshow_program.specs.declared.arguments.UsageError.{UsageError}
use Rattle.linkshow_program.specs.declared.arguments.UsageError.TheVariants as Errors
use Rattle.linkshow_program.specs.declared.arguments.ValueOption.{ValueOption}
use Rattle.linkshow_program.specs.declared.arguments.ValueOption.TheVariants.{Only, Link, Without, Limit}

-- ---- arguments

-- Whether a byte is `=`.
abbrev pub is_equals : ℕ → Bool
is_equals c = c == 61

-- The parts of an argument before and after the first `=`; None if there is none.
abbrev pub assigned : List ℕ → Option (List ℕ × List ℕ)
assigned w = cond (position_or_len is_equals w == length w) None
    (Some (before_first is_equals w, after_first is_equals w))

-- The option that a value follows which has this name; None if there is none.
abbrev pub valued_by : List ℕ → Option ValueOption
valued_by name =
    cond (bytes_eq name (codes "--only")) (Some Only)
    (cond (bytes_eq name (codes "--link")) (Some Link)
    (cond (bytes_eq name (codes "--without")) (Some Without)
    (cond (bytes_eq name (codes "--limit")) (Some Limit) None)))

-- An option with its value, if the part before `=` is such an option.
abbrev pub assigned_to : Option ValueOption → Argument
assigned_to (Some option) = Assigned option
assigned_to None = Invalid

-- The meaning of an argument that begins with `-` and is no option by itself.
abbrev pub assignment_of : Option (List ℕ × List ℕ) → Argument
assignment_of (Some parts) = assigned_to (valued_by parts.0)
assignment_of None = Invalid

-- The meaning of an argument that is no option by itself: an option with its value, or the name of a file.
abbrev pub operand_of : List ℕ → Argument
operand_of [] = Invalid
operand_of (c ∷ more) = cond (c == 45) (assignment_of (assigned (c ∷ more))) Name

-- The value in an argument that is an option with its value.
abbrev pub value_in : Option (List ℕ × List ℕ) → List ℕ
value_in (Some parts) = parts.1
value_in None = []

abbrev pub value_of : List ℕ → List ℕ
value_of w = value_in (assigned w)

-- An option that a value follows, or else the meaning of an operand.
abbrev pub valued_or : Option ValueOption → List ℕ → Argument
valued_or (Some option) w = Valued option
valued_or None w = operand_of w

-- The meaning of an argument that isn't the value of an option.
abbrev pub argument_of : List ℕ → Argument
argument_of w =
    cond (bytes_eq w (codes "--kernels")) (Flag Kernels)
    (cond (bytes_eq w (codes "--without-numbers")) (Flag WithoutNumbers)
    (cond (bytes_eq w (codes "--offsets")) (Flag Offsets)
    (cond (bytes_eq w (codes "--keep-going")) (Flag KeepGoing)
    (cond (bytes_eq w (codes "--json")) (Flag Json)
    (cond (bytes_eq w (codes "-")) Input
    (cond (bytes_eq w (codes "--")) End (valued_or (valued_by w) w)))))))

-- ---- options

-- What options say: the limit, whether quirks are noted, what is shown, and the name of the file if there is one.
pub record Settings : Type 0 where
  pub limit : ℕ
  pub kernels : Bool
  pub shown : Selection
  pub file : Option (List ℕ)

-- What options in code say.
abbrev pub settings_of : Options → Settings
settings_of o = record {
  limit = o.limit;
  kernels = o.kernels;
  shown = selection_of o.show;
  file = option_map (λ name. name.now) o.file;
}

-- The options without any argument.
abbrev pub defaults : Settings
defaults = record { limit = 1048576; kernels = false; shown = plain everything; file = None }

-- Options with this selection changed.
abbrev pub showing : Settings → Selection → Settings
showing o shown = record o { shown = shown }

-- Options with one more that has no value.
abbrev pub with_flag : FlagOption → Settings → Settings
with_flag Kernels o = record o { kernels = true }
with_flag WithoutNumbers o = showing o (record o.shown { numbers = false })
with_flag Offsets o = showing o (record o.shown { offsets = true })
with_flag KeepGoing o = showing o (record o.shown { keep_going = true })
with_flag Json o = showing o (record o.shown { json = true })

-- Options with this limit.
abbrev pub with_limit : ℕ → Settings → Settings
with_limit n o = record o { limit = n }

-- Options that show only these types.
abbrev pub with_only : List ℕ → Settings → Settings
with_only types o = showing o (record o.shown { only = Some types })

-- Options that show only messages about this link.
abbrev pub with_link : List ℕ → Settings → Settings
with_link word o = showing o (record o.shown { link = Some word })

-- Options that leave this out.
abbrev pub with_omitted : Omitted → Settings → Settings
with_omitted omitted o = showing o (record o.shown { omitted = omitted })

-- Options for the file of this name.
abbrev pub of_file : List ℕ → Settings → Settings
of_file name o = record o { file = Some name }

-- ---- faults

-- Why arguments are invalid, by the bytes of their words.
pub data UsageFault : Type 0 where
  Usage : UsageFault
  InvalidLimit : List ℕ → UsageFault
  UnknownType : List ℕ → UsageFault
  UnknownName : List ℕ → UsageFault

-- The fault that an error in code represents.
abbrev pub usage_fault : UsageError → UsageFault
usage_fault Errors.Usage = UsageFault.Usage
usage_fault (Errors.InvalidLimit word) = UsageFault.InvalidLimit word.now
usage_fault (Errors.UnknownType word) = UsageFault.UnknownType word.now
usage_fault (Errors.UnknownName word) = UsageFault.UnknownName word.now

-- The fault of types that aren't read.
abbrev pub type_fault : WordFault → UsageFault
type_fault (WordFault.Unknown word) = UsageFault.UnknownType word
type_fault WordFault.TooMany = UsageFault.Usage

-- The fault of names that aren't read.
abbrev pub name_fault : WordFault → UsageFault
name_fault (WordFault.Unknown word) = UsageFault.UnknownName word
name_fault WordFault.TooMany = UsageFault.Usage

-- ---- arguments, one after the other

-- The options with an option that has this value, or a fault.
abbrev pub Takes : ValueOption → Settings → List ℕ → Result Settings UsageFault → Type 0
Takes Only o w r = (types : Result (List ℕ) WordFault) × Reads TakesType [] (parts w) types ×
    (r ≡ result_map_both (λ ts. with_only ts o) type_fault types)
Takes Link o w r = r ≡ Ok (with_link w o)
Takes Without o w r = (omitted : Result Omitted WordFault) × Reads TakesWord nothing_omitted (parts w) omitted ×
    (r ≡ result_map_both (λ x. with_omitted x o) name_fault omitted)
Takes Limit o w r = (IsLimitArgument w × (r ≡ Ok (with_limit (digits_value 10 w) o))) ⊎
    ((IsLimitArgument w → ⊥) × (r ≡ Err (UsageFault.InvalidLimit w)))

-- The options, if no argument is left.
abbrev pub if_last : List (List ℕ) → Settings → Result Settings UsageFault
if_last [] o = Ok o
if_last (w ∷ rest) o = Err UsageFault.Usage

-- The options for the file of this name, or for standard input if the name is `-`.
abbrev pub named : List ℕ → Settings → Result Settings UsageFault
named [] o = Err UsageFault.Usage
named (c ∷ w) o = cond (bytes_eq (c ∷ w) (codes "-")) (Ok o) (Ok (of_file (c ∷ w) o))

-- The options with what follows `--`: the name of a file, `-` or nothing.
abbrev pub with_operand : List (List ℕ) → Settings → Result Settings UsageFault
with_operand [] o = Ok o
with_operand (w ∷ []) o = named w o
with_operand (w ∷ v ∷ rest) o = Err UsageFault.Usage

-- What is expected next: an option, a file or nothing; or the value of an option.
pub data Expected : Type 0 where
  Nothing : Expected
  ValueOf : ValueOption → Expected

-- What the arguments give, if this is expected next and the arguments before them asked for o.
abbrev pub Gives : Expected → Settings → List (List ℕ) → Result Settings UsageFault → Type 0
Gives (ValueOf option) o [] r = r ≡ Err UsageFault.Usage
Gives (ValueOf option) o (w ∷ rest) r = (next : Result Settings UsageFault) × Takes option o w next × elim next [
  | Ok p ↦ Gives Nothing p rest r
  | Err e ↦ r ≡ Err e
]
Gives Nothing o [] r = r ≡ Ok o
Gives Nothing o (w ∷ rest) r = elim (argument_of w) [
  | Flag flag ↦ Gives Nothing (with_flag flag o) rest r
  | Valued option ↦ Gives (ValueOf option) o rest r
  | Assigned option ↦ (next : Result Settings UsageFault) × Takes option o (value_of w) next × elim next [
    | Ok p ↦ Gives Nothing p rest r
    | Err e ↦ r ≡ Err e
  ]
  | Input ↦ r ≡ if_last rest o
  | End ↦ r ≡ with_operand rest o
  | Name ↦ r ≡ if_last rest (of_file w o)
  | Invalid ↦ r ≡ Err UsageFault.Usage
]

-- Whether an argument asks for the help.
abbrev pub is_help : List ℕ → Bool
is_help w = bytes_eq w (codes "--help") || bytes_eq w (codes "-h")

-- There is one argument, which asks for the help.
abbrev pub AskForHelp : List (List ℕ) → Type 0
AskForHelp arguments = (w : List ℕ) × (arguments ≡ w ∷ []) × (is_help w ≡ true)

-- The arguments ask for this, or have this fault.
abbrev pub Asks : List (List ℕ) → Result Asked UsageError → Type 0
Asks arguments (Ok Help) = AskForHelp arguments
Asks arguments (Ok Version) = arguments ≡ codes "--version" ∷ []
Asks arguments (Ok (Show options)) = Gives Nothing defaults arguments (Ok (settings_of options))
Asks arguments (Err e) = (AskForHelp arguments → ⊥) × (arguments ≡ codes "--version" ∷ [] → ⊥) ×
    Gives Nothing defaults arguments (Err (usage_fault e))

-- The limit is one that a run can have.
abbrev pub HasLimit : Asked → Type 0
HasLimit Help = Unit {0}
HasLimit Version = Unit {0}
HasLimit (Show options) = 16 ≤ options.limit
