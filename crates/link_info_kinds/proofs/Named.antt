-- Values and their names: the value found by a name has it, and each kind is found by its name.
use Rattle.std.proofs.Common.{◌≡◌, ℕ, Bool, true, false, cond, List, [], ◌∷◌, ◌++◌, map, Option, Some, None, refl, sym, ap, ◌∙◌}
use Rattle.std.specs.List.{list_all}
use Rattle.std.specs.Prelude.{not, bytes_eq, string_bytes}
use Rattle.std.proofs.lemmas.Bool.{and_parts}
use Rattle.std.proofs.lemmas.Slice.Eq.{bytes_eq-Decides}
use Rattle.netlink_packet_core.specs.Named.{named_by}
use Rattle.link_info_grammar.specs.KindNames.{is_unlisted}
use Rattle.link_info_kinds.specs.Laws.{NamesDetermineKinds, NamesDeterminePortKinds}
use Rattle.link_info_kinds.specs.Kinds.{info_kind_text, info_kind_is_named, listed_kind, early_kinds, late_kinds, listed_kinds, IsNamedBy}
use Rattle.link_info_kinds.specs.PortKinds.{info_port_kind_text, info_port_kind_is_named, listed_port_kind, listed_port_kinds}
use Rattle.link_info_kinds.specs.declared.info_kind.InfoKind.{InfoKind}
use Rattle.link_info_kinds.specs.declared.info_kind.InfoKind.TheVariants as Kind
use Rattle.link_info_kinds.specs.declared.info_port_kind.InfoPortKind.{InfoPortKind}
use Rattle.link_info_kinds.specs.declared.info_port_kind.InfoPortKind.TheVariants as PortKind

module _ {V : Type 0} (text : V → List ℕ) where
  module _ (test : V → Bool) where
    found_at : (b : Bool) (v w : V) (n : List ℕ) (o : Option V) → (b ≡ true → n ≡ text v) → test v ≡ true → (o ≡ Some w → (text w ≡ n) × (test w ≡ true)) → cond b (Some v) o ≡ Some w → (text w ≡ n) × (test w ≡ true)
    found_at true v w n o f t g h =
        let e : w ≡ v = cc in
        (ap text e ∙ sym (f refl), ap test e ∙ t)
    found_at false v w n o f t g h = g h

    -- the value found by a name has the name, and the properties that all have
    found : (vs : List V) (n : List ℕ) (w : V) → list_all test vs ≡ true → named_by text vs n ≡ Some w → (text w ≡ n) × (test w ≡ true)
    found [] n w a h = absurd cc
    found (v ∷ vs) n w a h =
        let b = and_parts (test v) (list_all test vs) a in
        found_at (bytes_eq n (text v)) v w n (named_by text vs n) (λ e. (bytes_eq-Decides n (text v)).0 e) b.0 (found vs n w b.1) h

  skip : (b : Bool) (v : V) (o : Option V) → not b ≡ true → o ≡ None → cond b (Some v) o ≡ None
  skip true v o h e = absurd cc
  skip false v o h e = e

  -- a name that no value has finds none
  not_found : (vs : List V) (n : List ℕ) → is_unlisted (map text vs) n ≡ true → named_by text vs n ≡ None
  not_found [] n h = refl
  not_found (v ∷ vs) n h =
      let b = and_parts (not (bytes_eq n (text v))) (is_unlisted (map text vs) n) h in
      skip (bytes_eq n (text v)) v (named_by text vs n) b.0 (not_found vs n b.1)

  first_at : (b : Bool) (v w : V) (o p : Option V) → (o ≡ Some w → p ≡ Some w) → cond b (Some v) o ≡ Some w → cond b (Some v) p ≡ Some w
  first_at true v w o p f h = h
  first_at false v w o p f h = f h

  second_at : (b : Bool) (v : V) (o p q : Option V) → (o ≡ None → p ≡ q) → cond b (Some v) o ≡ None → cond b (Some v) p ≡ q
  second_at true v o p q f h = absurd cc
  second_at false v o p q f h = f h

  -- a value looked up in two lists is found in the first, or else in the second
  in_first : (vs ws : List V) (n : List ℕ) (w : V) → named_by text vs n ≡ Some w → named_by text (vs ++ ws) n ≡ Some w
  in_first [] ws n w h = absurd cc
  in_first (v ∷ vs) ws n w h = first_at (bytes_eq n (text v)) v w (named_by text vs n) (named_by text (vs ++ ws) n) (in_first vs ws n w) h

  in_second : (vs ws : List V) (n : List ℕ) → named_by text vs n ≡ None → named_by text (vs ++ ws) n ≡ named_by text ws n
  in_second [] ws n h = refl
  in_second (v ∷ vs) ws n h = second_at (bytes_eq n (text v)) v (named_by text vs n) (named_by text (vs ++ ws) n) (named_by text ws n) (in_second vs ws n) h

pub kind-early : (n : List ℕ) (k : InfoKind) → named_by info_kind_text early_kinds n ≡ Some k → named_by info_kind_text listed_kinds n ≡ Some k
kind-early n k h = in_first info_kind_text early_kinds late_kinds n k h

pub kind-late : (n : List ℕ) → named_by info_kind_text early_kinds n ≡ None → named_by info_kind_text listed_kinds n ≡ named_by info_kind_text late_kinds n
kind-late n h = in_second info_kind_text early_kinds late_kinds n h

pub kind-found : (n : List ℕ) (k : InfoKind) → named_by info_kind_text listed_kinds n ≡ Some k → IsNamedBy n k
kind-found n k h = found info_kind_text info_kind_is_named listed_kinds n k refl h

kind-finds : (k : InfoKind) → info_kind_is_named k ≡ true → named_by info_kind_text listed_kinds (info_kind_text k) ≡ listed_kind k
kind-finds (Kind.Other s) h = not_found info_kind_text listed_kinds (string_bytes s) h
kind-finds k h = refl

-- kinds with one name are the same variant, or both `Other`
pub names_determine_kinds : NamesDetermineKinds
names_determine_kinds k m h i e = sym (kind-finds k h) ∙ ap (named_by info_kind_text listed_kinds) e ∙ kind-finds m i

port_kind-finds : (k : InfoPortKind) → info_port_kind_is_named k ≡ true → named_by info_port_kind_text listed_port_kinds (info_port_kind_text k) ≡ listed_port_kind k
port_kind-finds (PortKind.Other s) h = not_found info_port_kind_text listed_port_kinds (string_bytes s) h
port_kind-finds k h = refl

pub names_determine_port_kinds : NamesDeterminePortKinds
names_determine_port_kinds k m h i e = sym (port_kind-finds k h) ∙ ap (named_by info_port_kind_text listed_port_kinds) e ∙ port_kind-finds m i
