-- The values that a store has for captures, which depend only on their normal texts.
use Rattle.std.specs.Prelude.{◌≡◌, ◌≢◌, ℕ, List, Option, Some, bytes_eq}
use Rattle.std.specs.HashMap.{get_by}
use Rattle.link_capture.specs.Captures.{texts}
use Rattle.examples.specs.declared.store.Store.{Store}
use Rattle.link_message.specs.Body.{link_body}

-- Stores of values of one type.
module _ {V : Type 0} where
  -- The greatest length of a message in the captures of a store.
  abbrev pub limit_of : Store V → ℕ
  limit_of store = store.limit

  -- The value that a store has for a normal text.
  abbrev pub under : Store V → List ℕ → Option V
  under store text = get_by (λ key. bytes_eq text key.items) store.entries

  -- The value that a store has for a capture.
  abbrev pub stored : Store V → List ℕ → Option V
  stored store capture = under store (texts link_body (limit_of store) capture)

  -- The store has this value for each capture with the normal text of this one.
  abbrev pub HasUnder : Store V → List ℕ → V → Type 0
  HasUnder store capture value =
      (b : List ℕ) → texts link_body (limit_of store) b ≡ texts link_body (limit_of store) capture → stored store b ≡ Some value

  -- For each capture with another normal text than this one, the new store has the value of the old one.
  abbrev pub SameElsewhere : Store V → Store V → List ℕ → Type 0
  SameElsewhere old new capture =
      (b : List ℕ) → texts link_body (limit_of old) b ≢ texts link_body (limit_of old) capture → stored new b ≡ stored old b

  -- For each capture, the new store has the value of the old one.
  abbrev pub IsUnchanged : Store V → Store V → Type 0
  IsUnchanged old new = (b : List ℕ) → stored new b ≡ stored old b
