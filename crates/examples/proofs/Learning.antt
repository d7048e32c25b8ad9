-- What an iterator over messages has learned.
use Rattle.std.proofs.Common.{◌≡◌, ℕ, ◌+◌, List, [], ◌∷◌, drop, refl, sym, ap, subst, arith}
use Rattle.std.proofs.lemmas.List.{drop-drop}
use Rattle.std.specs.Prelude.{option_map, string_bytes}
use Rattle.std.specs.BTreeMap.{IsUnchanged, is_at}
use Rattle.std.specs.Map.{lookup}
use Rattle.std.specs.Ordering.{nat_cmp}
use Rattle.netlink_packet_core.specs.Attributes.{nla_align}
use Rattle.netlink_packet_core.specs.NetlinkMessage.{NetlinkMessage}
use Rattle.link_capture.specs.declared.route.RouteLink.{RouteLink}
use Rattle.link_capture.specs.Texts.{IsFirstMessage}
use Rattle.examples.specs.declared.interfaces.Interface.{Interface}
use Rattle.examples.specs.Interfaces.{AreMessages, Interfaces, Learns, LearnsAll}

-- what is learned from the messages from an offset on is learned from all messages
abbrev pub LearnedTo : ℕ → List ℕ → ℕ → Interfaces → Interfaces → Type 0
LearnedTo limit c offset old now =
    (later : List (NetlinkMessage RouteLink)) (left : ℕ) (then : Interfaces) → AreMessages limit (drop offset c) later left → LearnsAll later now then
    → (messages : List (NetlinkMessage RouteLink)) × AreMessages limit c messages (offset + left) × LearnsAll messages old then

pub learned_none : (limit : ℕ) (c : List ℕ) (old : Interfaces) → LearnedTo limit c 0 old old
learned_none limit c old later left then a l = let e : left ≡ 0 + left = omega arith in (later, subst (AreMessages limit c later) e a, l)

pub learned_more : (limit : ℕ) (c : List ℕ) (offset n : ℕ) (m : NetlinkMessage RouteLink) (old now new : Interfaces) → LearnedTo limit c offset old now → IsFirstMessage limit (drop offset c) n m → Learns m.payload now new → LearnedTo limit c (offset + nla_align n) old new
learned_more limit c offset n m old now new h g k later left then a l =
    let b = subst (λ x. AreMessages limit x later left) (sym (drop-drop (nla_align n) offset c)) a in
    let r = h (m ∷ later) (nla_align n + left) then (n, g, (left, refl, b)) (new, k, l) in
    let e : offset + (nla_align n + left) ≡ offset + nla_align n + left = omega arith in
    (r.0, subst (AreMessages limit c r.0) e r.1, r.2)

-- if no entry changes, nothing is learned
pub unchanged : (old new : Interfaces) → IsUnchanged old new → LearnsAll [] old new
unchanged old new e index = ap (λ entries. option_map (λ (i : Interface). (string_bytes i.name, i.flags)) (lookup (is_at (nat_cmp index)) entries)) e

-- if the messages after the offset change nothing, those before it are all that was learned
pub learned_all : (limit : ℕ) (c : List ℕ) (offset : ℕ) (old now then : Interfaces) → LearnedTo limit c offset old now → LearnsAll [] now then → (messages : List (NetlinkMessage RouteLink)) × AreMessages limit c messages offset × LearnsAll messages old then
learned_all limit c offset old now then h l =
    let r = h [] 0 then refl l in
    let e : offset + 0 ≡ offset = omega arith in
    (r.0, subst (AreMessages limit c r.0) e r.1, r.2)
