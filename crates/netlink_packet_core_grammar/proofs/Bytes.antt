-- Lists of bytes.
use Rattle.std.proofs.Common.{◌≡◌, ℕ, zero, suc, ◌+◌, ◌-◌, ◌*◌, ◌<◌, ◌≤◌, List, [], ◌∷◌, ◌++◌, take, drop, map, subst, arith}
use Rattle.netlink_packet_core_grammar.specs.Attributes.{nla_align, Attribute, attribute_length, zeros, attribute_text, first_attribute}
use Rattle.netlink_packet_core_grammar.specs.Bytes.{AreBytes}
use Rattle.netlink_packet_core_grammar.proofs.Attributes.{headed}
use Rattle.std.proofs.Common.{Some}

pub AreBytes-append : (a b : List ℕ) → AreBytes a → AreBytes b → AreBytes (a ++ b)
AreBytes-append [] b p q = q
AreBytes-append (x ∷ a) b p q = (p.0, AreBytes-append a b p.1 q)

pub AreBytes-take : (n : ℕ) (a : List ℕ) → AreBytes a → AreBytes (take n a)
AreBytes-take zero a p = tt
AreBytes-take (suc n) [] p = tt
AreBytes-take (suc n) (x ∷ a) p = (p.0, AreBytes-take n a p.1)

pub AreBytes-drop : (n : ℕ) (a : List ℕ) → AreBytes a → AreBytes (drop n a)
AreBytes-drop zero a p = p
AreBytes-drop (suc n) [] p = tt
AreBytes-drop (suc n) (x ∷ a) p = AreBytes-drop n a p.1

pub AreBytes-zeros : (n : ℕ) → AreBytes (zeros n)
AreBytes-zeros zero = tt
AreBytes-zeros (suc n) = (omega arith, AreBytes-zeros n)

pub AreBytes-map : (f : ℕ → ℕ) → ((n : ℕ) → f n < 256) → (a : List ℕ) → AreBytes (map f a)
AreBytes-map f h [] = tt
AreBytes-map f h (x ∷ a) = (h x, AreBytes-map f h a)

-- the parts of an attribute that is cut off
pub AreBytes-first_attribute : (bytes : List ℕ) (e : Attribute) (rest : List ℕ) → first_attribute bytes ≡ Some (e, rest) → AreBytes bytes → (e.kind < 65536) × AreBytes e.payload × AreBytes rest
AreBytes-first_attribute bytes e rest h p =
    let k = headed bytes e rest h in
    let q : AreBytes (k.a ∷ k.b ∷ k.c ∷ k.d ∷ k.tail) = subst AreBytes k.is p in
    let s = k.a + 256 * k.b in (
      omega (arith, k.is_cut.kind_is, q.1.1.0, q.1.1.1.0),
      subst AreBytes k.is_cut.payload_is (AreBytes-take (s - 4) k.tail q.1.1.1.1),
      subst AreBytes k.is_cut.rest_is (AreBytes-drop (nla_align s - 4) k.tail q.1.1.1.1),
    )

pub AreBytes-attribute_text : (e : Attribute) → attribute_length e ≤ 65535 → e.kind < 65536 → AreBytes e.payload → AreBytes (attribute_text e)
unfolding attribute_text
AreBytes-attribute_text e fits k p = (omega arith, (omega arith, (omega arith, (omega arith, AreBytes-append e.payload (zeros (nla_align (attribute_length e) - attribute_length e)) p (AreBytes-zeros (nla_align (attribute_length e) - attribute_length e))))))
