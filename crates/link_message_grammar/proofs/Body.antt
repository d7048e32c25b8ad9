-- Link bodies are lawful, and so are peers that are link bodies.
use Rattle.std.proofs.Common.{◌≡◌, ℕ, ◌+◌, ◌*◌, ◌<◌, ◌≤◌, Bool, true, false, cond, not, List, [], ◌∷◌, ◌++◌, length, take, drop, refl, sym, ap, subst, ◌∙◌, arith, length-append, length-drop}
use Rattle.std.specs.Prelude.{◌&&◌, nat_le, bytes_eq, slice_index}
use Rattle.std.proofs.lemmas.Bool.{and_parts, and_from, not-true, leb-true, le-leb}
use Rattle.std.proofs.lemmas.List.{length-take-le, take_at, drop_at}
use Rattle.std.proofs.lemmas.Slice.Eq.{bytes_eq-Decides}
use Rattle.netlink_packet_core_grammar.specs.Attributes.{nla_align}
use Rattle.netlink_packet_core_grammar.specs.Bytes.{AreBytes}
use Rattle.netlink_packet_core_grammar.proofs.Bytes.{AreBytes-append, AreBytes-take, AreBytes-drop}
use Rattle.attribute_tables_grammar.specs.Rules.{Rule, Lawful, IsMigratedBy}
use Rattle.attribute_tables_grammar.specs.Lists.{any}
use Rattle.attribute_tables_grammar.specs.Peers.{RuleOfPeers, LawfulPeer, bytes_peer}
use Rattle.attribute_tables_grammar.specs.Tables.{Payload.list}
use Rattle.attribute_tables_grammar.proofs.Attributes.{migrates_reflexive}
use Rattle.attribute_tables_grammar.proofs.Migrated.{migrated}
use Rattle.attribute_tables_grammar.proofs.Tables.{bytes_peer_lawful}
use Rattle.link_message_grammar.proofs.Tables.{table_lawful, table_bounded}
use Rattle.link_message_grammar.specs.LinkMessage.{Family, family_of, link_table}
use Rattle.link_message_grammar.specs.Body.{has_layer_type_name, layer_type_text, header_text, attribute_bytes, family, attributes_rule, body_rule, link_peer, link_peer_of}
use Rattle.link_message_grammar.specs.Laws.{PeersThatAreBodiesAreLawful, LinkPeerIsLawful, OldBodiesAreMigrated}

-- ---- the header

-- The header of a body that is long enough, field by field.
pub record Header (b : List ℕ) : Type 0 where
  pub f : ℕ
  pub x : ℕ
  pub k : ℕ
  pub l : ℕ
  pub tail : List ℕ
  pub is : b ≡ f ∷ x ∷ k ∷ l ∷ tail
  pub long : 12 ≤ length tail

pub header_of : (b : List ℕ) → nat_le 16 (length b) ≡ true → Header b
header_of (f ∷ x ∷ k ∷ l ∷ tail) h = record { f = f; x = x; k = k; l = l; tail = tail; is = refl; long = omega (arith, leb-true 16 (length (f ∷ x ∷ k ∷ l ∷ tail)) h) }
header_of b h = absurd cc

-- A layer type that is written is listed.
pub record LayerType (k l : ℕ) : Type 0 where
  pub a : ℕ
  pub b : ℕ
  pub is : layer_type_text k l ≡ a ∷ b ∷ []
  pub idempotent : layer_type_text a b ≡ a ∷ b ∷ []
  pub bytes : k < 256 → l < 256 → AreBytes (a ∷ b ∷ [])

layer_type_by : (k l : ℕ) (t : Bool) → has_layer_type_name (k + 256 * l) ≡ t → LayerType k l
unfolding has_layer_type_name
layer_type_by k l true t =
    let e : layer_type_text k l ≡ k ∷ l ∷ [] = ap (λ b. cond b (k ∷ l ∷ []) (255 ∷ 255 ∷ [])) t in
    record { a = k; b = l; is = e; idempotent = e; bytes = λ p q. (p, (q, tt)) }
layer_type_by k l false t =
    record { a = 255; b = 255; is = ap (λ b. cond b (k ∷ l ∷ []) (255 ∷ 255 ∷ [])) t; idempotent = refl; bytes = λ p q. (omega arith, (omega arith, tt)) }

layer_type_of : (k l : ℕ) → LayerType k l
layer_type_of k l = layer_type_by k l (has_layer_type_name (k + 256 * l)) refl

-- A header that is written, before any bytes.
pub record WrittenHeader (b : List ℕ) : Type 0 where
  pub size : length (header_text b) ≡ 16
  pub first_byte : slice_index (header_text b) 0 ≡ slice_index b 0
  pub idempotent : (c : List ℕ) → header_text (header_text b ++ c) ≡ header_text b
  pub rest : (c : List ℕ) → attribute_bytes (header_text b ++ c) ≡ c
  pub bytes : AreBytes b → AreBytes (header_text b)

written_header_by : (f x k l : ℕ) (tail : List ℕ) → 12 ≤ length tail → WrittenHeader (f ∷ x ∷ k ∷ l ∷ tail)
written_header_by f x k l tail long =
    let y = layer_type_of k l in
    let t = take 12 tail in
    let lt : length t ≡ 12 = length-take-le 12 tail long in
    let h : header_text (f ∷ x ∷ k ∷ l ∷ tail) ≡ f ∷ 0 ∷ y.a ∷ y.b ∷ t = ap (λ (z : List ℕ). f ∷ 0 ∷ (z ++ t)) y.is in
    record {
      size = ap length h ∙ omega (arith, lt);
      first_byte = refl;
      idempotent = λ c. ap (λ z. header_text (z ++ c)) h ∙ ap (λ (z : List ℕ). f ∷ 0 ∷ (z ++ take 12 (t ++ c))) y.idempotent ∙ ap (λ (z : List ℕ). f ∷ 0 ∷ y.a ∷ y.b ∷ z) (take_at t c 12 lt) ∙ sym h;
      rest = λ c. ap (λ z. attribute_bytes (z ++ c)) h ∙ drop_at t c 12 lt;
      bytes = λ p. subst AreBytes (sym h) (p.0, (omega arith, AreBytes-append (y.a ∷ y.b ∷ []) t (y.bytes p.1.1.0 p.1.1.1.0) (AreBytes-take 12 tail p.1.1.1.1)));
    }

pub written_header : (b : List ℕ) → nat_le 16 (length b) ≡ true → WrittenHeader b
written_header b h =
    let k = header_of b h in
    subst WrittenHeader (sym k.is) (written_header_by k.f k.x k.k k.l k.tail k.long)

pub family_read_back : (b c : List ℕ) → WrittenHeader b → family (header_text b ++ c) ≡ family b
family_read_back b c w = ap (λ n. family_of n) (first_byte_of (header_text b) c w.size ∙ w.first_byte)
  where
    first_byte_of : (h c : List ℕ) → length h ≡ 16 → slice_index (h ++ c) 0 ≡ slice_index h 0
    first_byte_of [] c l = absurd (omega arith)
    first_byte_of (x ∷ h) c l = refl

one_family : (a b : List ℕ) → WrittenHeader a → WrittenHeader b → header_text a ≡ header_text b → family a ≡ family b
one_family a b v w h = ap (λ n. family_of n) (sym v.first_byte ∙ ap (λ z. slice_index z 0) h ∙ w.first_byte)

-- ---- bodies

small_rest : (L l : ℕ) → nla_align (4 + L) ≤ 77 * (4 + l) → nla_align (4 + (16 + L)) ≤ 77 * (4 + (16 + l))
small_rest L l h = omega arith

-- If q's attributes migrate those of p, its bodies migrate those of p.
module _ (p q : RuleOfPeers) (migrates : (f : Family) → IsMigratedBy (attributes_rule p f) (attributes_rule q f)) where
  abbrev old_text : List ℕ → List ℕ
  old_text b = (attributes_rule p (family b)).canonical (attribute_bytes b)

  -- Both accept a header that is written, and attributes.
  record BothAccept (b : List ℕ) : Type 0 where
    header : WrittenHeader b
    old : (attributes_rule p (family b)).accepted (attribute_bytes b) ≡ true
    new : (attributes_rule q (family b)).accepted (attribute_bytes b) ≡ true

  both_accept : (b : List ℕ) → (body_rule p).accepted b ≡ true → (body_rule q).accepted b ≡ true → BothAccept b
  unfolding body_rule
  both_accept b x y =
      let s = and_parts (nat_le 16 (length b)) ((attributes_rule p (family b)).accepted (attribute_bytes b)) x in
      let t = and_parts (nat_le 16 (length b)) ((attributes_rule q (family b)).accepted (attribute_bytes b)) y in
      record { header = written_header b s.0; old = s.1; new = t.1 }

  -- The result of q for the attributes in p's text.
  inside : {A : Type 0} (say : Rule → List ℕ → A) (b : List ℕ) → WrittenHeader b → say (attributes_rule q (family (header_text b ++ old_text b))) (attribute_bytes (header_text b ++ old_text b)) ≡ say (attributes_rule q (family b)) (old_text b)
  inside say b w =
      ap (λ f. say (attributes_rule q f) (attribute_bytes (header_text b ++ old_text b))) (family_read_back b (old_text b) w) ∙ ap (say (attributes_rule q (family b))) (w.rest (old_text b))

  pub bodies_migrate : IsMigratedBy (body_rule p) (body_rule q)
  unfolding body_rule
  bodies_migrate = record {
    accepted = λ b x y m.
        let k = both_accept b x y in
        and_from _ _ (le-leb _ _ (omega (arith, length-append (header_text b) (old_text b), k.header.size)))
        (inside (λ r. r.accepted) b k.header ∙ (migrates (family b)).accepted (attribute_bytes b) k.old k.new m);
    empty_ports = λ b x y m. let k = both_accept b x y in inside (λ r. r.empty_ports) b k.header ∙ (migrates (family b)).empty_ports (attribute_bytes b) k.old k.new m;
    fits = λ b x y f. let k = both_accept b x y in inside (λ r. r.fits) b k.header ∙ (migrates (family b)).fits (attribute_bytes b) k.old k.new f;
    canonical = λ b x y.
        let k = both_accept b x y in
        let rest = inside (λ r. r.canonical) b k.header ∙ (migrates (family b)).canonical (attribute_bytes b) k.old k.new in
        ap (λ z. z ++ (attributes_rule q (family (header_text b ++ old_text b))).canonical (attribute_bytes (header_text b ++ old_text b))) (k.header.idempotent (old_text b)) ∙ ap (λ z. header_text b ++ z) rest;
  }

module _ (p : RuleOfPeers) (lawful_peer : LawfulPeer p) where
  law : (f : Family) → Lawful (attributes_rule p f)
  unfolding attributes_rule
  law f = table_lawful p lawful_peer f

  self_migration : IsMigratedBy (body_rule p) (body_rule p)
  self_migration = bodies_migrate p p (λ f. migrates_reflexive (attributes_rule p f) (law f))

  pub body_lawful : Lawful (body_rule p)
  unfolding body_rule
  body_lawful = record {
    canonical_accepted = λ b a m. (self_migration.accepted b a a m, self_migration.empty_ports b a a m);
    canonical_fits = λ b a f. self_migration.fits b a a f;
    canonical_idempotent = λ b a. self_migration.canonical b a a;
    same_implies_equal_text = λ a b x y e.
        let s = and_parts (nat_le 16 (length a)) ((attributes_rule p (family a)).accepted (attribute_bytes a)) x in
        let t = and_parts (nat_le 16 (length b)) ((attributes_rule p (family b)).accepted (attribute_bytes b)) y in
        let e' = and_parts (bytes_eq (header_text a) (header_text b)) ((attributes_rule p (family a)).same (attribute_bytes a) (attribute_bytes b)) e in
        let h : header_text a ≡ header_text b = (bytes_eq-Decides (header_text a) (header_text b)).0 e'.0 in
        let fam = one_family a b (written_header a s.0) (written_header b t.0) h in
        let t' : (attributes_rule p (family a)).accepted (attribute_bytes b) ≡ true = ap (λ f. (attributes_rule p f).accepted (attribute_bytes b)) fam ∙ t.1 in
        let c = (law (family a)).same_implies_equal_text (attribute_bytes a) (attribute_bytes b) s.1 t' e'.1 in
        ap (λ z. z ++ (attributes_rule p (family a)).canonical (attribute_bytes a)) h ∙ ap (λ z. header_text b ++ z) c ∙ ap (λ f. header_text b ++ (attributes_rule p f).canonical (attribute_bytes b)) fam;
    equal_text_implies_same = λ a b x y e.
        let s = and_parts (nat_le 16 (length a)) ((attributes_rule p (family a)).accepted (attribute_bytes a)) x in
        let t = and_parts (nat_le 16 (length b)) ((attributes_rule p (family b)).accepted (attribute_bytes b)) y in
        let ca = (attributes_rule p (family a)).canonical (attribute_bytes a) in
        let cb = (attributes_rule p (family b)).canonical (attribute_bytes b) in
        let v = written_header a s.0 in
        let w = written_header b t.0 in
        let h : header_text a ≡ header_text b = sym (take_at (header_text a) ca 16 v.size) ∙ ap (take 16) e ∙ take_at (header_text b) cb 16 w.size in
        let c : ca ≡ cb = sym (drop_at (header_text a) ca 16 v.size) ∙ ap (drop 16) e ∙ drop_at (header_text b) cb 16 w.size in
        let fam = one_family a b v w h in
        let t' : (attributes_rule p (family a)).accepted (attribute_bytes b) ≡ true = ap (λ f. (attributes_rule p f).accepted (attribute_bytes b)) fam ∙ t.1 in
        and_from _ _ ((bytes_eq-Decides (header_text a) (header_text b)).1 h)
        ((law (family a)).equal_text_implies_same (attribute_bytes a) (attribute_bytes b) s.1 t' (c ∙ ap (λ f. (attributes_rule p f).canonical (attribute_bytes b)) (sym fam)));
    bounded = λ b a.
        let s = and_parts (nat_le 16 (length b)) ((attributes_rule p (family b)).accepted (attribute_bytes b)) a in
        let w = written_header b s.0 in
        let c = (attributes_rule p (family b)).canonical (attribute_bytes b) in
        let l : length (header_text b ++ c) ≡ 16 + length c = length-append (header_text b) c ∙ ap (λ n. n + length c) w.size in
        let lb : length b ≡ 16 + length (attribute_bytes b) = omega (arith, length-drop 16 b, leb-true 16 (length b) s.0) in
        rw (l, lb) (small_rest (length c) (length (attribute_bytes b)) ((law (family b)).bounded (attribute_bytes b) s.1));
    counted = λ b a.
        let s = and_parts (nat_le 16 (length b)) ((attributes_rule p (family b)).accepted (attribute_bytes b)) a in
        omega (arith, (law (family b)).counted (attribute_bytes b) s.1, length-drop 16 b);
    bytes = λ b a m h.
        let s = and_parts (nat_le 16 (length b)) ((attributes_rule p (family b)).accepted (attribute_bytes b)) a in
        let w = written_header b s.0 in
        AreBytes-append (header_text b) ((attributes_rule p (family b)).canonical (attribute_bytes b)) (w.bytes h) ((law (family b)).bytes (attribute_bytes b) s.1 m (AreBytes-drop 16 b h));
  }

  pub body_size : (b : List ℕ) → (body_rule p).accepted b ≡ true → length ((body_rule p).canonical b) ≤ 77 * length b
  unfolding body_rule
  body_size b a =
      let s = and_parts (nat_le 16 (length b)) ((attributes_rule p (family b)).accepted (attribute_bytes b)) a in
      let w = written_header b s.0 in
      let c = (attributes_rule p (family b)).canonical (attribute_bytes b) in
      omega (arith, length-append (header_text b) c, w.size, length-drop 16 b, leb-true 16 (length b) s.0, (law (family b)).bounded (attribute_bytes b) s.1)

-- Bodies whose peers were bytes, under any rule of peers.
pub old_bodies_are_migrated : OldBodiesAreMigrated
unfolding attributes_rule
old_bodies_are_migrated p = bodies_migrate bytes_peer p (λ f. migrated p (list any (link_table f)) (table_bounded f))

-- ---- peers

link_peer_lawful_of : (r : Rule) → Lawful r → ((b : List ℕ) → r.accepted b ≡ true → length (r.canonical b) ≤ 77 * length b) → LawfulPeer (link_peer_of r)
link_peer_lawful_of r l small = record {
  canonical_accepted = λ b a.
      let s = parts b a in
      let o = l.canonical_accepted b s.0 s.1 in
      and_from _ _ (and_from _ _ o.0 (ap not o.1)) (l.canonical_fits b s.0 s.2);
  canonical_idempotent = λ b a. l.canonical_idempotent b (parts b a).0;
  same_implies_equal_text = λ a b x y e. l.same_implies_equal_text a b (parts a x).0 (parts b y).0 e;
  equal_text_implies_same = λ a b x y e. l.equal_text_implies_same a b (parts a x).0 (parts b y).0 e;
  bounded = λ b a. small b (parts b a).0;
  counted = λ b a. l.counted b (parts b a).0;
  bytes = λ b a h. l.bytes b (parts b a).0 (parts b a).2 h;
}
  where
    parts : (b : List ℕ) → (link_peer_of r).accepted b ≡ true → (r.accepted b ≡ true) × (r.empty_ports b ≡ false) × (r.fits b ≡ true)
    parts b a =
        let s = and_parts (r.accepted b && not (r.empty_ports b)) (r.fits b) a in
        let t = and_parts (r.accepted b) (not (r.empty_ports b)) s.0 in
        (t.0, not-true (r.empty_ports b) t.1, s.1)

pub link_peers_are_lawful : PeersThatAreBodiesAreLawful
link_peers_are_lawful p l = link_peer_lawful_of (body_rule p) (body_lawful p l) (body_size p l)

-- The rule of peers in force, under which the peers inside a peer are bytes, is lawful.
pub link_peer_lawful : LinkPeerIsLawful
unfolding link_peer
link_peer_lawful = link_peers_are_lawful bytes_peer bytes_peer_lawful
