-- Which attributes a list kind reads, and which it keeps, one after another.
use Rattle.std.proofs.Common.{◌≡◌, ℕ, ◌<◌, Bool, true, false, cond, List, [], ◌∷◌, length, Option, Some, None, refl, ap, arith}
use Rattle.std.specs.Prelude.{filter}
use Rattle.std.specs.Option.{option_and_then}
use Rattle.netlink_packet_core_grammar.specs.Attributes.{Attribute, attributes_within, attributes_of}
use Rattle.netlink_packet_core_grammar.proofs.Attributes.{attributes_cut}
use Rattle.attribute_tables_grammar.specs.Lists.{ListForm, any, non_empty, of_kind_one, ports, first_only, unless_empty, read_as, is_of_kind_one, is_kept, kept}
use Rattle.attribute_tables_grammar.specs.Walks.{IsWalked, RequiresAttribute}

picked : (e : Attribute) (es : List Attribute) (b : Bool) → is_of_kind_one e ≡ b → filter is_of_kind_one (e ∷ es) ≡ cond b (e ∷ filter is_of_kind_one es) (filter is_of_kind_one es)
picked e es b h = ap (λ b. cond b (e ∷ filter is_of_kind_one es) (filter is_of_kind_one es)) h

pub kept_more : (form : ListForm) (e : Attribute) (es : List Attribute) → is_kept form e ≡ true → kept form (e ∷ es) ≡ e ∷ kept form es
kept_more of_kind_one e es h = picked e es true h
kept_more ports e es h = picked e es true h
kept_more form e es h = refl

pub kept_past : (form : ListForm) (e : Attribute) (es : List Attribute) → is_kept form e ≡ false → kept form (e ∷ es) ≡ kept form es
kept_past of_kind_one e es h = picked e es false h
kept_past ports e es h = picked e es false h
kept_past form e es h = absurd cc

pub kept_none : (form : ListForm) → kept form [] ≡ []
kept_none any = refl
kept_none form = refl

-- bytes that are a list of no attributes are empty
pub bytes_not_empty : (bytes : List ℕ) → 0 < length bytes → option_and_then unless_empty (attributes_of bytes) ≡ attributes_of bytes
bytes_not_empty bytes l = by (attributes_of bytes) refl
  where
    by : (o : Option (List Attribute)) → attributes_of bytes ≡ o → option_and_then unless_empty o ≡ o
    by None h = refl
    by (Some []) h = absurd (omega (arith, ap length (attributes_cut bytes [] h)))
    by (Some (e ∷ es)) h = refl

-- bytes whose attributes are walked are read as these
pub read_walked : (form : ListForm) (bytes : List ℕ) → IsWalked form bytes → read_as form bytes ≡ attributes_of bytes
read_walked any bytes w = refl
read_walked of_kind_one bytes w = refl
read_walked non_empty bytes w = bytes_not_empty bytes w
read_walked ports bytes w = bytes_not_empty bytes w
read_walked first_only bytes w = absurd w

-- the empty list is rejected by a list kind that requires an attribute
pub read_none : (form : ListForm) (bytes : List ℕ) → length bytes ≡ 0 → RequiresAttribute form → read_as form bytes ≡ None
unfolding attributes_within
read_none non_empty [] l w = refl
read_none ports [] l w = refl
read_none form [] l w = absurd w
read_none form (b ∷ bytes) l w = absurd (omega arith)
