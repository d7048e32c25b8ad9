-- The arguments and the exit statuses of the program linkcap.
use Rattle.std.specs.Prelude.{◌≡◌, ℕ, ◌^◌, ◌<◌, ◌≤◌, ⊤, Bool, true, false, List, [], ◌∷◌, codes, Result, Ok, Err}
use Rattle.std.specs.Str.Parse.{IsNumeral, digits_value}
use Rattle.link_capture_checks.specs.declared.sameness.SideFault.{SideFault}
use Rattle.link_capture_commands.specs.declared.command.Command.{Command}
use Rattle.link_capture_commands.specs.declared.command.Command.TheVariants.{Norm, Same}

-- The argument is one digit or more, which write a number from 16 to 4294967295, and nothing else.
pub record IsLimitArgument (argument : List ℕ) : Type 0 where
  pub numeral : IsNumeral 10 argument
  pub low : 16 ≤ digits_value 10 argument
  pub high : digits_value 10 argument < 2 ^ 32

-- The last arguments are this limit: 1 MiB if there are none.
abbrev pub AsksForLimit : List (List ℕ) → ℕ → Type 0
AsksForLimit [] limit = limit ≡ 1048576
AsksForLimit (w ∷ []) limit = IsLimitArgument w × (limit ≡ digits_value 10 w)
AsksForLimit (w ∷ x ∷ more) limit = ⊥

-- The arguments ask for a normal text under this limit.
abbrev pub AsksForNorm : List (List ℕ) → ℕ → Type 0
AsksForNorm [] limit = ⊥
AsksForNorm (w ∷ last) limit = (w ≡ codes "norm") × AsksForLimit last limit

-- The arguments ask whether the files with these names mean the same under this limit.
abbrev pub AsksForSame : List (List ℕ) → List ℕ → List ℕ → ℕ → Type 0
AsksForSame (w ∷ a ∷ b ∷ last) first second limit = (w ≡ codes "same") × (first ≡ a) × (second ≡ b) × AsksForLimit last limit
AsksForSame arguments first second limit = ⊥

-- The arguments ask for this command.
abbrev pub AsksForCommand : List (List ℕ) → Command → Type 0
AsksForCommand arguments (Norm limit) = AsksForNorm arguments limit
AsksForCommand arguments (Same first second limit) = AsksForSame arguments first.now second.now limit

-- The exit status of a run of `norm`: 0 if it succeeded, 2 after a fault.
abbrev pub status_of_norm : {Fault : Type 0} → Result ⊤ Fault → ℕ
status_of_norm (Ok x) = 0
status_of_norm (Err fault) = 2

-- The exit status of a run of `same`: 0 if the captures mean the same, 1 if they don't, 2 after a fault.
abbrev pub status_of_same : Result Bool SideFault → ℕ
status_of_same (Ok true) = 0
status_of_same (Ok false) = 1
status_of_same (Err fault) = 2

-- The command's limit is at least 16, as every run requires.
abbrev pub LimitIsAtLeast16 : Command → Type 0
LimitIsAtLeast16 (Norm limit) = 16 ≤ limit
LimitIsAtLeast16 (Same first second limit) = 16 ≤ limit
