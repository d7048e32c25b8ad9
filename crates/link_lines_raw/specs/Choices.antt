-- What attributes hold if another attribute of the same list chooses it: the name of a queueing discipline, the type of an
-- encapsulation.
use Rattle.std.specs.Prelude.{ℕ, zero, suc, ◌-◌, ◌%◌, ◌==◌, ◌&&◌, not, Bool, cond, List, [], ◌∷◌, Option, Some, None}
use Rattle.std.specs.Prelude.{bytes_eq}
use Rattle.netlink_packet_core_grammar.specs.Attributes.{Attribute, first_attribute}
use Rattle.link_lines_values.specs.declared.exact.ExactBy.{ExactBy}
use Rattle.link_lines_values.specs.declared.fields.Layout.{Layout}
use Rattle.link_lines_values.specs.declared.number_tables.Numbers.{Numbers}
use Rattle.link_lines_parts.specs.KindNames.{has_byte_order_bit}
use Rattle.link_lines_parts.specs.Whole.{padded_length}
use Rattle.link_lines_raw.specs.declared.choices.TheConstants.{ACTION_OPTIONS, ENCAPSULATIONS, OPTIONS}
use Rattle.link_lines_raw.specs.declared.rows.Choice.{Choice}
use Rattle.link_lines_raw.specs.declared.rows.Choice.TheVariants as C
use Rattle.link_lines_raw.specs.declared.rows.RawBy.{RawBy}
use Rattle.link_lines_raw.specs.declared.rows.RawBy.TheVariants as R
use Rattle.link_lines_raw.specs.declared.rows.RecordLineOf.{RecordLineOf}
use Rattle.link_lines_raw.specs.Rows.{Raw, raw_of}

-- A payload, and what it chooses for another attribute.
abbrev pub ChoiceRow : Type 0
ChoiceRow = List ℕ × Raw

-- The rows that a constant in code represents.
abbrev pub choices_in_code : {N : Type 0} → (N → List ℕ) →
    List (N × RawBy (ExactBy Numbers Layout) (RecordLineOf N Layout)) → List ChoiceRow
choices_in_code f [] = []
choices_in_code f (row ∷ rows) = (f row.0, raw_of f row.1) ∷ choices_in_code f rows

-- The rows of a set of choices.
unfoldable pub choices_of : Choice → List ChoiceRow
choices_of C.Encapsulation = choices_in_code (λ n. n.now) ENCAPSULATIONS.now
choices_of C.Options = choices_in_code (λ n. n.now) OPTIONS.now
choices_of C.ActionOptions = choices_in_code (λ n. n.now) ACTION_OPTIONS.now

-- What a payload chooses: by the first row that has it.
abbrev pub chosen_in : List ℕ → List ChoiceRow → Option Raw
chosen_in p [] = None
chosen_in p (row ∷ rows) = cond (bytes_eq row.0 p) (Some row.1) (chosen_in p rows)

-- Whether an attribute is of this kind, with or without the nested bit.
abbrev pub is_of_kind : ℕ → Attribute → Bool
is_of_kind kind e = not (has_byte_order_bit e.kind) && (e.kind % 0x4000 == kind)

-- The payload of the first attribute if it is of this kind, or else the other payload.
abbrev pub payload_or : ℕ → Option (Attribute × List ℕ) → Option (List ℕ) → Option (List ℕ)
payload_or kind None more = None
payload_or kind (Some x) more = cond (is_of_kind kind x.0) (Some x.0.payload) more

-- The payload of the first attribute of this kind in the bytes after the first `skip`.
unfoldable pub payload_after : ℕ → ℕ → List ℕ → Option (List ℕ)
payload_after kind skip [] = None
payload_after kind (suc skip) (b ∷ bytes) = payload_after kind skip bytes
payload_after kind zero (b ∷ bytes) =
    payload_or kind (first_attribute (b ∷ bytes)) (payload_after kind (padded_length (first_attribute (b ∷ bytes)) - 1) bytes)

-- What a payload, if there is one, chooses.
abbrev pub chosen_for : Choice → Option (List ℕ) → Option Raw
chosen_for choice None = None
chosen_for choice (Some p) = chosen_in p (choices_of choice)

-- What another attribute in this list chooses for one, if that is known.
abbrev pub chosen : Raw → List ℕ → Option Raw
chosen (R.Chosen choice kind) list = chosen_for choice (payload_after kind 0 list)
chosen raw list = None

-- What is chosen, or else what is given.
abbrev pub raw_or : Raw → Option Raw → Raw
raw_or raw None = raw
raw_or raw (Some other) = other

-- What an attribute in this list holds: what another attribute chooses, if that is known.
unfoldable pub resolved : Raw → List ℕ → Raw
resolved raw list = raw_or raw (chosen raw list)
