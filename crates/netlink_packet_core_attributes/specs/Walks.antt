-- The walk over a byte string: its attributes in order, then one fault if bytes remain that begin with no whole
-- attribute.
use Rattle.std.specs.Prelude.{◌≡◌, ℕ, zero, suc, ◌<◌, false, List, [], ◌∷◌, length, Option, Some, None, Result, Ok, Err}
use Rattle.std.specs.Prelude.{IfSome, IfOk, IfErr}
use Rattle.std.specs.Borrow.{Bor}
use Rattle.std.specs.Iterator.{YieldsFirstBy}
use Rattle.netlink_packet_core_grammar.specs.Attributes.{Attribute, first_attribute}
use Rattle.netlink_packet_core_grammar.specs.AttributeViews.{viewed_attribute, BeginsWithAttribute}
use Rattle.netlink_packet_core_numbers.specs.declared.error.DecodeError.{DecodeError}
use Rattle.netlink_packet_core_numbers.specs.Errors.{is_memory}
use Rattle.netlink_packet_core_attributes.specs.declared.nla_buffer.NlaBuffer.{NlaBuffer}
use Rattle.netlink_packet_core_attributes.specs.NlaBuffers.{storage}

-- These are the items of a walk over the bytes; None is the fault.
abbrev pub IsWalk : List ℕ → List (Option Attribute) → Type 0
IsWalk bytes [] = bytes ≡ []
IsWalk bytes (Some e ∷ items) = (rest : List ℕ) × (first_attribute bytes ≡ Some (e, rest)) × IsWalk rest items
IsWalk bytes (None ∷ items) = (0 < length bytes) × (first_attribute bytes ≡ None) × (items ≡ [])

-- One step of a walk: the first attribute, if there is one, and the walk of the rest; otherwise the fault.
abbrev pub walk_on : (List ℕ → List (Option Attribute)) → Option (Attribute × List ℕ) → List (Option Attribute)
walk_on more None = None ∷ []
walk_on more (Some x) = Some x.0 ∷ more x.1

-- The items of a walk of at most n steps.
unfoldable pub walk_within : ℕ → List ℕ → List (Option Attribute)
walk_within zero bytes = []
walk_within (suc n) [] = []
walk_within (suc n) (b ∷ bytes) = walk_on (walk_within n) (first_attribute (b ∷ bytes))

-- The items of the whole walk.
unfoldable pub attribute_walk : List ℕ → List (Option Attribute)
attribute_walk bytes = walk_within (length bytes) bytes

-- The item of the definition for an item of the iterator.
abbrev pub item_of : Result (NlaBuffer (Bor (List ℕ))) DecodeError → Option Attribute
item_of (Ok view) = Some (viewed_attribute (storage view).now)
item_of (Err e) = None

-- A call of `next` yields the first item of the walk over the remaining bytes: a view of them, which begin with a whole
-- attribute, or a fault, which is never out of memory.
pub record StepsOnWalk (old : Bor (List ℕ)) (item : Option (Result (NlaBuffer (Bor (List ℕ))) DecodeError))
    (new : Bor (List ℕ)) : Type 0 where
  pub first : YieldsFirstBy item_of (λ s. attribute_walk s.now) old item new
  pub view : IfSome item (λ r. IfOk r (λ view. (storage view).now ≡ old.now))
  pub whole : IfSome item (λ r. IfOk r (λ view. BeginsWithAttribute (storage view).now))
  pub fault : IfSome item (λ r. IfErr r (λ e. is_memory e ≡ false))
