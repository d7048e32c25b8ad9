-- The reading of an accepted list: the canonical form of each attribute, and whether everything inside it fits.
use Rattle.std.specs.Prelude.{◌≡◌, ℕ, ◌&&◌, Bool, true, cond, List, [], ◌∷◌, ◌++◌, map, Option, Some, None, option_map}
use Rattle.std.specs.Option.{option_and_then}
use Rattle.netlink_packet_core_grammar.specs.Attributes.{Attribute, list_text, attributes_of}
use Rattle.netlink_packet_core_grammar.specs.Fits.{attribute_fits}
use Rattle.attribute_tables_grammar.specs.Rules.{Rule}
use Rattle.attribute_tables_grammar.specs.Lists.{Context, no_kind_in_force, Row, Grammar, row_of, canonical_form, ListForm, read_as}
use Rattle.attribute_tables_grammar.specs.Lists.{kept}

-- The canonical form of an attribute, and whether everything inside it fits.
pub record AttributeReading : Type 0 where
  pub entry : Attribute
  pub inside_fits : Bool

-- The reading of an attribute under a row.
abbrev pub attribute_reading : Row → Attribute → AttributeReading
attribute_reading r e = record { entry = canonical_form r e; inside_fits = r.rule.fits e.payload }

-- The readings of a list's attributes; None if one is rejected.
unfoldable pub attribute_readings : Grammar → Context → List Attribute → Option (List AttributeReading)
attribute_readings g c [] = Some []
attribute_readings g c (e ∷ es) =
    cond ((row_of g c e).rule.accepted e.payload) (option_map (λ ws. attribute_reading (row_of g c e) e ∷
    ws) (attribute_readings g (g.next c e) es)) None

-- The reading of the rest of a list, in the context at its start: the attributes that the list kind keeps; None if one
-- is rejected.
unfoldable pub reading : ListForm → Grammar → Context → List ℕ → Option (List AttributeReading)
reading form g c bytes = option_and_then (λ es. attribute_readings g c (kept form es)) (attributes_of bytes)

-- The reading of whole bytes, by their list kind; None if they are rejected.
unfoldable pub reading_as : ListForm → Grammar → List ℕ → Option (List AttributeReading)
reading_as form g bytes = option_and_then (λ es. attribute_readings g no_kind_in_force (kept form es)) (read_as form bytes)

-- Each attribute that was read fits, and so does everything inside it.
unfoldable pub all_readings_fit : List AttributeReading → Bool
all_readings_fit [] = true
all_readings_fit (w ∷ ws) = (attribute_fits w.entry && w.inside_fits) && all_readings_fit ws

-- What was read, followed by the reading of the rest; None if the rest is rejected.
abbrev pub followed_by : List AttributeReading → Option (List AttributeReading) → Option (List AttributeReading)
followed_by ws o = option_map (λ rest. ws ++ rest) o

-- The reading of the whole list is what was read so far, followed by the reading of the rest in its context.
pub record ReadingSoFar (form : ListForm) (g : Grammar) (bytes : List ℕ) (ws : List AttributeReading) (c : Context) (rest : List ℕ) :
    Type 0 where
  pub whole : reading form g no_kind_in_force bytes ≡ followed_by ws (reading form g c rest)

-- The readings are those of bytes that the rule accepts: they have the canonical encoding of the bytes, and fit if and only
-- if the bytes do.
pub record IsReading (r : Rule) (bytes : List ℕ) (ws : List AttributeReading) : Type 0 where
  pub accepted : r.accepted bytes ≡ true
  pub canonical : r.canonical bytes ≡ list_text (map (λ (w : AttributeReading). w.entry) ws)
  pub fits : r.fits bytes ≡ all_readings_fit ws

-- Each value is the variant of its row, in the context after the values before it.
abbrev pub AreRowVariants : {V : Type 0} → Grammar → (V → Attribute) → (Context → V → Type 0) → Context → List V → Type 0
AreRowVariants g entry is_row_variant c [] = Unit {0}
AreRowVariants g entry is_row_variant c (v ∷ vs) = is_row_variant c v ×
    AreRowVariants g entry is_row_variant (g.next c (entry v)) vs
