-- What a walk through nested lists of attributes collects: what an attribute has itself, what is inside it, and what
-- the attributes after it have.
use Rattle.std.specs.Prelude.{◌≡◌, ℕ, zero, suc, ◌+◌, List, [], ◌++◌, length, drop, Option, Some, None}
use Rattle.netlink_packet_core_grammar.specs.Attributes.{Attribute, attribute_length, first_attribute, nla_align}

-- A function of a list, of which these bytes, at an offset, are the rest.
abbrev pub OfLists : Type 0 → Type 0 → Type 0
OfLists L A = L → ℕ → List ℕ → A

-- A walk: what it collects of an attribute, and how it goes on. An L identifies a list, and where in it the walk is.
pub record Walk (L A : Type 0) : Type 0 where
  -- what an attribute at an offset has itself
  pub direct : L → ℕ → Attribute → List A
  -- the list inside an attribute, and the number of bytes before it in the payload
  pub inside : L → Attribute → Option (L × ℕ)
  -- the rest of the list after an attribute
  pub after : L → Attribute → L
  -- the bytes with which the list goes on, of those after an attribute and its padding
  pub rest : L → List ℕ → List ℕ

-- What is collected inside an attribute whose payload is at `offset`, by what is collected of lists.
abbrev pub collected_inside : {L A : Type 0} → OfLists L (List A) → ℕ → Option (L × ℕ) → List ℕ → List A
collected_inside list offset None p = []
collected_inside list offset (Some x) p = list x.0 (offset + x.1) (drop x.1 p)

-- What is collected of a list: what its first attribute has, what is inside that, and what follows it and its padding.
abbrev pub collected_next : {L A : Type 0} → Walk L A → OfLists L (List A) → L → ℕ → Option (Attribute × List ℕ) →
    List A
collected_next w list l offset None = []
collected_next w list l offset (Some x) =
    w.direct l offset x.0 ++ (collected_inside list (offset + 4) (w.inside l x.0) x.0.payload
    ++ list (w.after l x.0) (offset + nla_align (attribute_length x.0)) (w.rest l x.1))

-- What is collected in at most n steps.
unfoldable pub collected_within : {L A : Type 0} → Walk L A → ℕ → OfLists L (List A)
collected_within w zero l offset bytes = []
collected_within w (suc n) l offset bytes =
    collected_next w (λ m q b. collected_within w n m q b) l offset (first_attribute bytes)

-- What a walk collects.
unfoldable pub collected : {L A : Type 0} → Walk L A → OfLists L (List A)
collected w l offset bytes = collected_within w (length bytes) l offset bytes

-- What is collected of a list is what its first attribute has, what is inside that, and what the rest has; nothing if
-- no whole attribute is left.
pub record UnfoldsByAttributes {L A : Type 0} (w : Walk L A) (list : OfLists L (List A)) : Type 0 where
  pub next : (l : L) (offset : ℕ) (bytes : List ℕ) (e : Attribute) (rest : List ℕ) →
      first_attribute bytes ≡ Some (e, rest) →
      list l offset bytes ≡
      w.direct l offset e ++ (collected_inside list (offset + 4) (w.inside l e) e.payload ++
      list (w.after l e) (offset + nla_align (attribute_length e)) (w.rest l rest))
  pub none : (l : L) (offset : ℕ) (bytes : List ℕ) → first_attribute bytes ≡ None → list l offset bytes ≡ []

-- The first of two values, if there is one, else the second.
abbrev pub or_else : {A : Type 0} → Option A → Option A → Option A
or_else None o = o
or_else (Some x) o = Some x
