-- Options as C has them: which are valid, and what they ask for.
use Rattle.std.specs.Prelude.{◌≡◌, ◌≢◌, ◌==◌, ◌≤◌, ◌<◌, ◌⊎◌, ℕ, bit_and, not, cond, Bool, List, [], ◌∷◌, IsUtf8}
use Rattle.std.specs.Prelude.{Option, None, Some, Result, Ok, Err}
use Rattle.link_lines.specs.MessageLines.{Selection}
use Rattle.link_lines.specs.Options.{selection_of}
use Rattle.link_lines.specs.Types.{TakesType}
use Rattle.link_lines.specs.Remaining.{Omitted, nothing_omitted}
use Rattle.link_lines.specs.Without.{TakesWord}
use Rattle.link_lines.specs.Words.{Reads, WordStep, WordFault, parts}
use Rattle.linkcap_c.specs.Forms.{Form, Form.Text, Form.Lines}
use Rattle.linkcap_c.specs.declared.options.LinkcapOptions.{LinkcapOptions}
use Rattle.linkcap_c.specs.declared.options.Output.{Output}
use Rattle.linkcap_c.specs.declared.options.Output.TheVariants as Outputs
use Rattle.linkcap_c.specs.declared.words.ListError.{ListError}
use Rattle.linkcap_c.specs.declared.words.ListError.TheVariants as Errors

-- ---- lists of words

-- A list of words is read: UTF-8, with commas between the words, or empty, which stands for this.
abbrev pub ReadsList : {A : Type 0} → WordStep A → A → List ℕ → Result A WordFault → Type 0
ReadsList Takes none [] r = r ≡ Ok none
ReadsList Takes none (c ∷ w) r = IsUtf8 (c ∷ w) × Reads Takes none (parts (c ∷ w)) r

-- A list of message types is read: none if it is empty.
abbrev pub ReadsTypes : List ℕ → Result (List ℕ) WordFault → Type 0
ReadsTypes w r = ReadsList TakesType [] w r

-- A list of what is left out is read: nothing if it is empty.
abbrev pub ReadsNames : List ℕ → Result Omitted WordFault → Type 0
ReadsNames w r = ReadsList TakesWord nothing_omitted w r

-- A list isn't UTF-8, or has too many words.
abbrev pub IsInvalidList : {A : Type 0} → WordStep A → A → List ℕ → Type 0
IsInvalidList Takes none w = (IsUtf8 w → ⊥) ⊎ ReadsList Takes none w (Err WordFault.TooMany)

-- Why a list of words isn't read.
abbrev pub IsListError : {A : Type 0} → WordStep A → A → List ℕ → ListError → Type 0
IsListError Takes none w (Errors.Unknown word) = ReadsList Takes none w (Err (WordFault.Unknown word.now))
IsListError Takes none w Errors.Invalid = IsInvalidList Takes none w

-- Both lists are read.
abbrev pub AreRead : List ℕ → List ℕ → Type 0
AreRead only without = (types : List ℕ) × (x : Omitted) × ReadsTypes only (Ok types) × ReadsNames without (Ok x)

-- Why one of both lists isn't read: the types; or else, if these are read, what is left out.
abbrev pub IsErrorOf : List ℕ → List ℕ → ListError → Type 0
IsErrorOf only without e = IsListError TakesType [] only e ⊎
    (((types : List ℕ) × ReadsTypes only (Ok types)) × IsListError TakesWord nothing_omitted without e)

-- A word is the first that isn't known: of the types; or else, if these are read, of what is left out.
abbrev pub IsUnknownWord : List ℕ → List ℕ → List ℕ → Type 0
IsUnknownWord only without word = ReadsTypes only (Err (WordFault.Unknown word)) ⊎
    (((types : List ℕ) × ReadsTypes only (Ok types)) × ReadsNames without (Err (WordFault.Unknown word)))

-- ---- options

-- The limit that options have: the default if it is 0.
abbrev pub limit_of : LinkcapOptions → ℕ
limit_of c = cond (c.limit == 0) 1048576 c.limit

-- Options are valid.
pub record AreValid (c : LinkcapOptions) : Type 0 where
  pub limit : 16 ≤ limit_of c
  pub flags : c.flags < 8
  pub form : c.form < 3
  pub reserved : c.reserved ≡ 0
  pub lists : AreRead c.only.now c.without.now

-- Options aren't valid: the limit is too low; a flag, the form or a word isn't known; or a number is reserved.
abbrev pub AreInvalid : LinkcapOptions → Type 0
AreInvalid c = (limit_of c < 16) ⊎ ((8 ≤ c.flags) ⊎ ((3 ≤ c.form) ⊎ ((c.reserved ≢ 0) ⊎
    ((e : ListError) × IsErrorOf c.only.now c.without.now e))))

-- ---- what they ask for

-- Whether a flag is among flags.
abbrev pub has_flag : ℕ → ℕ → Bool
has_flag flag flags = not (bit_and flags flag == 0)

-- A list, or none if it is empty.
abbrev pub some_of : List ℕ → Option (List ℕ)
some_of [] = None
some_of (c ∷ w) = Some (c ∷ w)

-- What is shown by options of these types, and without what is left out: of messages of all types and about any link if
-- none is given.
abbrev pub selected_by : LinkcapOptions → List ℕ → Omitted → Selection
selected_by c types omitted = record {
  numbers = not (has_flag 1 c.flags);
  only = some_of types;
  link = some_of c.link.now;
  omitted = omitted;
  offsets = has_flag 2 c.flags;
  keep_going = has_flag 4 c.flags;
  json = c.form == 2;
}

-- Options select this.
pub record Selects (c : LinkcapOptions) (o : Selection) : Type 0 where
  pub types : List ℕ
  pub reads_types : ReadsTypes c.only.now (Ok types)
  pub omitted : Omitted
  pub reads_names : ReadsNames c.without.now (Ok omitted)
  pub selection : o ≡ selected_by c types omitted

-- Options choose no lines.
pub record IsPlain (c : LinkcapOptions) : Type 0 where
  pub flags : c.flags ≡ 0
  pub only : c.only.now ≡ []
  pub link : c.link.now ≡ []
  pub without : c.without.now ≡ []

-- Options ask for this to be written.
abbrev pub Asks : LinkcapOptions → Form → Type 0
Asks c Text = (c.form ≡ 0) × IsPlain c
Asks c (Lines o) = (c.form ≢ 0) × Selects c o

-- Options ask for a text, and choose lines.
abbrev pub ChooseOfText : LinkcapOptions → Type 0
ChooseOfText c = (c.form ≡ 0) × (IsPlain c → ⊥)

-- What is written by a value in code.
abbrev pub output_form : Output → Form
output_form Outputs.Texts = Text
output_form (Outputs.Lines o) = Lines (selection_of o)
