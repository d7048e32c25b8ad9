-- The laws of captures under a rule of link bodies, as the functions of `laws` state them.
use Rattle.std.specs.Prelude.{◌≡◌, ◌≢◌, ℕ, ◌+◌, ◌*◌, ◌%◌, ◌^◌, ◌<◌, ◌≤◌, ◌↔◌, ◌⊎◌, true, false, List, [], ◌++◌, length}
use Rattle.std.specs.Prelude.{take, drop, None, Some, Ok, Err}
use Rattle.netlink_packet_core_grammar.specs.Attributes.{Attribute, nla_align}
use Rattle.netlink_packet_core_grammar.specs.Frames.{BeginsWithFrame, frame_length, frame_type, frame_body, frame_text, after_frame}
use Rattle.attribute_tables_grammar.specs.Rules.{Rule, Lawful, IsMigratedBy}
use Rattle.attribute_tables_grammar.specs.Lists.{Grammar, LawfulGrammar, ListForm, list_rule}
use Rattle.attribute_tables_grammar.specs.Peers.{RuleOfPeers, LawfulPeer, bytes_peer}
use Rattle.link_message_grammar.specs.Body.{attribute_row, body_rule, link_body, link_peer}
use Rattle.link_capture_grammar.specs.declared.fault.FaultKind.{FaultKind}
use Rattle.link_capture_grammar.specs.declared.fault.CaptureFault.{CaptureFault}
use Rattle.link_capture_grammar.specs.declared.fault.FaultKind.TheVariants.{Cut, Unfit, TextOverLimit}
use Rattle.link_capture_grammar.specs.Bodies.{body_text, is_link_type}
use Rattle.link_capture_grammar.specs.Captures.{Judged, IsFrameOfLength, CutInBody, checked_header, first_frame}
use Rattle.link_capture_grammar.specs.Captures.{first_fault, texts, shifted, reach}
use Rattle.link_capture_grammar.specs.Captures.{IsLegal, IsOfFrames}
use Rattle.link_capture_grammar.specs.Numbers.{frame_attribute_count, frame_count, attribute_count}
use Rattle.link_capture_grammar.specs.Same.{same_body, SameFrame, SameCapture}
use Rattle.link_capture_grammar.specs.Unlisted.{HoldsUnlisted, KeepsUnlisted}

-- A limit is a number of 32 bits.
abbrev pub IsLimit : ℕ → Type 0
IsLimit limit = limit < 2 ^ 32

-- The texts of any bytes are legal under the same limit.
abbrev pub TextsAreLegal : Rule → Type 0
TextsAreLegal r = (limit : ℕ) (c : List ℕ) → IsLimit limit → IsLegal r limit (texts r limit c)

-- The texts of any bytes are already canonical.
abbrev pub TextsAreCanonical : Rule → Type 0
TextsAreCanonical r = (limit : ℕ) (c : List ℕ) → IsLimit limit →
    texts r limit (texts r limit c) ≡ texts r limit c

-- If a capture is legal under an old rule and a new one, its text under the old rule is legal under the new one, and
-- the text of that under the new rule is the capture's text under the new rule.
abbrev pub TextsAreMigrated : Rule → Rule → Type 0
TextsAreMigrated old new = (limit : ℕ) (c : List ℕ) → IsLimit limit → IsLegal old limit c →
    IsLegal new limit c →
    IsLegal new limit (texts old limit c) ×
    (texts new limit (texts old limit c) ≡ texts new limit c)

-- The first fault of a legal capture whose size is a multiple of 4, followed by b, is that of b, its offset increased
-- by that size.
abbrev pub JoinedFaults : Rule → Type 0
JoinedFaults r = (limit : ℕ) (a b : List ℕ) → IsLegal r limit a → length a % 4 ≡ 0 →
    first_fault r limit (a ++ b) ≡ shifted (length a) (first_fault r limit b)

-- A legal capture whose size is a multiple of 4, followed by b, is legal if and only if b is.
abbrev pub JoinedLegal : Rule → Type 0
JoinedLegal r = (limit : ℕ) (a b : List ℕ) → IsLegal r limit a → length a % 4 ≡ 0 →
    IsLegal r limit (a ++ b) ↔ IsLegal r limit b

-- The texts of a legal capture whose size is a multiple of 4, followed by b, are the texts of both joined.
abbrev pub JoinedTexts : Rule → Type 0
JoinedTexts r = (limit : ℕ) (a b : List ℕ) → IsLegal r limit a → length a % 4 ≡ 0 →
    texts r limit (a ++ b) ≡ texts r limit a ++ texts r limit b

-- A first fault of a prefix, other than a cut frame, is that of the whole.
abbrev pub PrefixFaults : Rule → Type 0
PrefixFaults r = (limit : ℕ) (a b : List ℕ) (fault : CaptureFault) → first_fault r limit a ≡ Some fault →
    fault.kind ≢ Cut → first_fault r limit (a ++ b) ≡ Some fault

-- The texts of a prefix are a prefix of the texts of the whole.
abbrev pub PrefixTexts : Rule → Type 0
PrefixTexts r = (limit : ℕ) (a b : List ℕ) →
    (rest : List ℕ) × (texts r limit (a ++ b) ≡ texts r limit a ++ rest)

-- Texts are at most 77 times as long as the capture.
abbrev pub TextsAreSmall : Rule → Type 0
TextsAreSmall r = (limit : ℕ) (c : List ℕ) → length (texts r limit c) ≤ 77 * length c

-- A first fault is inside the capture, at a multiple of 4, and is of a kind that a frame can have.
abbrev pub FaultsAreAtFrames : Rule → Type 0
FaultsAreAtFrames r = (limit : ℕ) (c : List ℕ) (fault : CaptureFault) → first_fault r limit c ≡ Some fault →
    (fault.offset < length c) × (fault.offset % 4 ≡ 0) × IsOfFrames fault.kind

-- The text of a body is already canonical.
abbrev pub BodyTextsAreCanonical : Rule → Type 0
BodyTextsAreCanonical r = (t : ℕ) (b text : List ℕ) → body_text r t b ≡ Ok text → body_text r t text ≡ Ok text

-- A legal capture and its normal text mean the same.
abbrev pub TextsMeanTheSame : Rule → Type 0
TextsMeanTheSame r = (limit : ℕ) (c : List ℕ) → IsLimit limit → IsLegal r limit c →
    SameCapture r limit c (texts r limit c)

-- Captures mean the same if and only if they are legal and their normal texts are equal.
pub record TextsDetermineMeanings (r : Rule) : Type 0 where
  pub same_implies_equal_text : (limit : ℕ) (a b : List ℕ) → SameCapture r limit a b →
      texts r limit a ≡ texts r limit b
  pub equal_text_implies_same : (limit : ℕ) (a b : List ℕ) → IsLimit limit → IsLegal r limit a →
      IsLegal r limit b → texts r limit a ≡ texts r limit b → SameCapture r limit a b
  -- so equivalence is reflexive on legal captures, symmetric and transitive
  pub reflexive : (limit : ℕ) (a : List ℕ) → IsLimit limit → IsLegal r limit a → SameCapture r limit a a
  pub symmetric : (limit : ℕ) (a b : List ℕ) → SameCapture r limit a b → SameCapture r limit b a
  pub transitive : (limit : ℕ) (a b c : List ℕ) → SameCapture r limit a b → SameCapture r limit b c →
      SameCapture r limit a c

-- Two bodies of a type that have texts mean the same if and only if these texts are equal.
abbrev pub BodyTextsDetermineMeanings : Rule → Type 0
BodyTextsDetermineMeanings r = (t : ℕ) (a b x y : List ℕ) → body_text r t a ≡ Ok x → body_text r t b ≡ Ok y →
    (same_body r t a b ≡ true) ↔ (x ≡ y)

-- Captures that mean the same are legal.
abbrev pub SameAreLegal : Rule → Type 0
SameAreLegal r = (limit : ℕ) (a b : List ℕ) → SameCapture r limit a b →
    IsLegal r limit a × IsLegal r limit b

-- The first frame of c is accepted, and if it is a link's, its body has a header.
pub record LegalFrame (r : Rule) (limit : ℕ) (c : List ℕ) : Type 0 where
  pub text : List ℕ
  pub is : first_frame r limit c ≡ Ok (frame_length c, text)
  pub frame : BeginsWithFrame c
  pub body : is_link_type (frame_type c) ≡ true → 16 ≤ length (frame_body c)

-- The rule accepts nothing without a header of 16 bytes.
abbrev pub NeedsHeaders : Rule → Type 0
NeedsHeaders r = (b : List ℕ) → r.accepted b ≡ true → 16 ≤ length b

-- Equivalence of captures is decided frame by frame.
pub record SamenessUnfoldsByFrames (r : Rule) : Type 0 where
  -- an accepted frame is legal
  pub judged : (limit : ℕ) (c : List ℕ) (frame : ℕ × List ℕ) → first_frame r limit c ≡ Ok frame →
      LegalFrame r limit c
  -- a legal capture that isn't empty begins with a legal frame, and the bytes after that are a legal capture
  pub leading : (limit : ℕ) (c : List ℕ) → IsLegal r limit c → 0 < length c → LegalFrame r limit c
  pub following : (limit : ℕ) (c : List ℕ) → IsLegal r limit c → LegalFrame r limit c →
      IsLegal r limit (after_frame c)
  -- if the first frames mean the same, the captures do if and only if the bytes after the frames do
  pub more : (limit : ℕ) (a b : List ℕ) → LegalFrame r limit a → LegalFrame r limit b → SameFrame r a b →
      SameCapture r limit (after_frame a) (after_frame b) ↔
      SameCapture r limit a b
  -- a frame with the bytes of a legal frame is legal, and means the same
  pub equal : (limit : ℕ) (a b : List ℕ) → LegalFrame r limit a →
      take (frame_length a) b ≡ take (frame_length a) a → LegalFrame r limit b × SameFrame r a b
  -- captures that mean the same begin with frames that do
  pub differs : (limit : ℕ) (a b : List ℕ) → LegalFrame r limit a → LegalFrame r limit b →
      SameCapture r limit a b → SameFrame r a b
  -- an empty capture means the same as an empty one only
  pub ended : (limit : ℕ) (a b : List ℕ) → length a ≡ 0 → length b ≡ 0 → SameCapture r limit a b
  pub left_longer : (limit : ℕ) (a b : List ℕ) → 0 < length a → length b ≡ 0 → SameCapture r limit a b → ⊥
  pub right_longer : (limit : ℕ) (a b : List ℕ) → length a ≡ 0 → 0 < length b → SameCapture r limit a b → ⊥

-- The text of a body of type t, if it has one, is the body: it isn't a NOOP's, nor that of a DONE without a code, nor a
-- link's.
pub record IsBodyKept (t : ℕ) (b : List ℕ) : Type 0 where
  pub no_noop : t ≢ 1
  pub has_code : t ≡ 3 → 0 < length b
  pub no_link : is_link_type t ≡ false

-- What the text of a legal frame keeps of the frame.
pub record TextsKeepFrames (r : Rule) : Type 0 where
  -- its type, flags, sequence number and port number, the bytes 4 to 16
  pub header : (limit : ℕ) (c : List ℕ) (frame : ℕ × List ℕ) → first_frame r limit c ≡ Ok frame →
      take 12 (drop 4 frame.1) ≡ take 12 (drop 4 c)
  -- its length and its body, if `IsBodyKept`
  pub length : (limit : ℕ) (c : List ℕ) (frame : ℕ × List ℕ) → IsLimit limit →
      IsBodyKept (frame_type c) (frame_body c) → first_frame r limit c ≡ Ok frame →
      frame_length frame.1 ≡ frame_length c
  pub body : (limit : ℕ) (c : List ℕ) (frame : ℕ × List ℕ) → IsLimit limit → IsBodyKept (frame_type c) (frame_body c) →
      first_frame r limit c ≡ Ok frame → frame_body frame.1 ≡ frame_body c
  -- for a link the rule accepts the body, and the text has the canonical text of the body
  pub link : (limit : ℕ) (c : List ℕ) (frame : ℕ × List ℕ) → IsLimit limit → is_link_type (frame_type c) ≡ true →
      first_frame r limit c ≡ Ok frame →
      (r.accepted (frame_body c) ≡ true) × (frame_body frame.1 ≡ r.canonical (frame_body c))

-- A frame of at most 883 bytes, of any type, is never refused because of the lengths in its text: those inside fit, and
-- the text is within a limit of 65559 or more. 883 is the sum of two headers of 16 bytes, the frame's and a link
-- body's, and 851 bytes of attributes. 65559 is the sum of the same headers and 65527 bytes, 77 times as many, which a
-- length of 2 bytes can hold.
abbrev pub SmallFramesFit : Type 0
SmallFramesFit = (p : RuleOfPeers) → LawfulPeer p → (limit : ℕ) (c : List ℕ) → 65559 ≤ limit → frame_length c ≤ 883 →
    (first_frame (body_rule p) limit c ≢ Err Unfit) ×
    (first_frame (body_rule p) limit c ≢ Err TextOverLimit)

-- Normal texts of older versions are migrated.
pub record OldCapturesAreMigrated : Type 0 where
  -- those that were written while peers were kept as bytes, under the rule in force
  pub in_force : TextsAreMigrated (body_rule bytes_peer) link_body
  -- those of any rule, under one that migrates it
  pub under_every_rule : (old new : Rule) → IsMigratedBy old new → TextsAreMigrated old new

-- An attribute that no table lists is kept with its kind, flag bits and payload.
pub record UnlistedAttributesAreKept : Type 0 where
  -- in the text of an accepted list
  pub of_lists : (depth : ℕ) (form : ListForm) (g : Grammar) (bytes : List ℕ) (e : Attribute) → LawfulGrammar g →
      (list_rule form g).accepted bytes ≡ true →
      HoldsUnlisted depth form g bytes e → HoldsUnlisted depth form g ((list_rule form g).canonical bytes) e
  -- in the text of a link's frame
  pub of_frames : (limit : ℕ) (c : List ℕ) (frame : ℕ × List ℕ) → IsLimit limit → is_link_type (frame_type c) ≡ true →
      first_frame link_body limit c ≡ Ok frame →
      KeepsUnlisted (attribute_row link_peer) (frame_body c) (frame_body frame.1)
  -- the same under every lawful rule of peers, by its rows
  pub of_frames_under : (p : RuleOfPeers) → LawfulPeer p → (limit : ℕ) (c : List ℕ) (frame : ℕ × List ℕ) → IsLimit limit →
      is_link_type (frame_type c) ≡ true → first_frame (body_rule p) limit c ≡ Ok frame →
      KeepsUnlisted (attribute_row p) (frame_body c) (frame_body frame.1)

-- The result for a frame depends only on the frame's bytes.
pub record FramesAreIndependent (r : Rule) : Type 0 where
  -- an accepted frame has the length in its header
  pub accepted : (limit : ℕ) (c : List ℕ) (frame : ℕ × List ℕ) → first_frame r limit c ≡ Ok frame →
      IsFrameOfLength limit c frame.0
  -- a cut frame has no whole header, or fewer bytes than the length in its header
  pub cut : (limit : ℕ) (c : List ℕ) → first_frame r limit c ≡ Err Cut → (length c < 16) ⊎ CutInBody limit c
  -- if a frame isn't cut, appended bytes don't change its result
  pub unchanged_by_more : (limit : ℕ) (c more : List ℕ) → first_frame r limit c ≢ Err Cut →
      first_frame r limit (c ++ more) ≡ first_frame r limit c

-- A capture is judged and written frame by frame.
pub record CapturesUnfoldByFrames (r : Rule) : Type 0 where
  -- an accepted frame with nothing after it but its padding, or a part of that, is legal, and the capture has the
  -- frame's text
  pub one_legal : (limit : ℕ) (c : List ℕ) (frame : ℕ × List ℕ) → first_frame r limit c ≡ Ok frame →
      IsLegal r limit (take (nla_align frame.0) c)
  pub one_frame_text : (limit : ℕ) (c : List ℕ) (frame : ℕ × List ℕ) → first_frame r limit c ≡ Ok frame →
      texts r limit (take (nla_align frame.0) c) ≡ frame.1
  -- a fault of the first frame is the first fault, and there is no text before it
  pub first_frame_fault : (limit : ℕ) (c : List ℕ) (kind : FaultKind) → 0 < length c →
      first_frame r limit c ≡ Err kind → first_fault r limit c ≡ Some (record { kind = kind; offset = 0 })
  pub first_frame_texts : (limit : ℕ) (c : List ℕ) (kind : FaultKind) → first_frame r limit c ≡ Err kind →
      texts r limit c ≡ []
  -- the frame at the offset of the first fault has that fault
  pub fault_there : (limit : ℕ) (c : List ℕ) (fault : CaptureFault) → first_fault r limit c ≡ Some fault →
      first_frame r limit (drop fault.offset c) ≡ Err fault.kind
  -- the accepted frames before the first fault reach to a multiple of 4
  pub reach_start : (limit : ℕ) (c : List ℕ) → reach r limit c % 4 ≡ 0
  -- the bytes before that offset are legal and have these texts, whatever follows
  pub reach_legal : (limit : ℕ) (c more : List ℕ) → IsLegal r limit (take (reach r limit c) (c ++ more))
  pub reach_texts : (limit : ℕ) (c more : List ℕ) →
      texts r limit (take (reach r limit c) (c ++ more)) ≡ texts r limit c
  -- the bytes after that offset are judged and written independently
  pub rest_fault : (limit : ℕ) (c more : List ℕ) →
      first_fault r limit (c ++ more) ≡
      shifted (reach r limit c) (first_fault r limit (drop (reach r limit c) (c ++ more)))
  pub rest_texts : (limit : ℕ) (c more : List ℕ) →
      texts r limit (c ++ more) ≡
      texts r limit c ++ texts r limit (drop (reach r limit c) (c ++ more))

-- The first frame is judged by its header, then by its body, then by the size of its text.
pub record FramesAreJudged (r : Rule) : Type 0 where
  -- a fault of its header
  pub header : (limit : ℕ) (c : List ℕ) (kind : FaultKind) →
      ((judged : Judged) → checked_header limit (length c) (frame_length c) judged ≡ Err kind) →
      first_frame r limit c ≡ Err kind
  -- else that of its body
  pub body : (limit : ℕ) (c : List ℕ) (kind : FaultKind) → BeginsWithFrame c → frame_length c ≤ limit →
      body_text r (frame_type c) (frame_body c) ≡ Err kind →
      first_frame r limit c ≡ Err kind
  -- else a text over the limit
  pub over : (limit : ℕ) (c text : List ℕ) → BeginsWithFrame c → frame_length c ≤ limit →
      body_text r (frame_type c) (frame_body c) ≡ Ok text → limit < 16 + length text →
      first_frame r limit c ≡ Err TextOverLimit
  -- else its length and its text
  pub ok : (limit : ℕ) (c text : List ℕ) → BeginsWithFrame c → frame_length c ≤ limit →
      body_text r (frame_type c) (frame_body c) ≡ Ok text → 16 + length text ≤ limit →
      first_frame r limit c ≡ Ok (frame_length c, frame_text c text)
  -- the text of a frame is its header, the body's text, and padding
  pub size : (c text : List ℕ) → 16 ≤ length c → length (frame_text c text) ≡ nla_align (16 + length text)

-- Frames, attributes and texts of a capture are counted frame by frame.
pub record CapturesAreCounted (r : Rule) : Type 0 where
  -- c begins with an accepted frame, at the offset `start`
  pub next_fault : (limit start : ℕ) (c : List ℕ) (frame : ℕ × List ℕ) → first_frame r limit c ≡ Ok frame →
      shifted start (first_fault r limit c) ≡
      shifted (start + nla_align frame.0) (first_fault r limit (drop (nla_align frame.0) c))
  pub next_text : (limit : ℕ) (c : List ℕ) (frame : ℕ × List ℕ) → first_frame r limit c ≡ Ok frame →
      texts r limit c ≡ frame.1 ++ texts r limit (drop (nla_align frame.0) c)
  pub next_frames : (limit : ℕ) (c : List ℕ) (frame : ℕ × List ℕ) → first_frame r limit c ≡ Ok frame →
      frame_count r limit c ≡ 1 + frame_count r limit (drop (nla_align frame.0) c)
  pub next_attributes : (limit : ℕ) (c : List ℕ) (frame : ℕ × List ℕ) → first_frame r limit c ≡ Ok frame →
      attribute_count r limit c ≡ frame_attribute_count r c + attribute_count r limit (drop (nla_align frame.0) c)
  -- an empty capture
  pub no_fault : (limit : ℕ) → first_fault r limit [] ≡ None
  pub no_text : (limit : ℕ) → texts r limit [] ≡ []
  pub no_frames : (limit : ℕ) → frame_count r limit [] ≡ 0
  pub no_attributes : (limit : ℕ) → attribute_count r limit [] ≡ 0
  -- an attribute has at least 4 bytes
  pub frame_counted : (limit : ℕ) (c : List ℕ) (frame : ℕ × List ℕ) → first_frame r limit c ≡ Ok frame →
      4 * frame_attribute_count r c ≤ frame.0
  pub counted : (limit : ℕ) (c : List ℕ) → 4 * attribute_count r limit c ≤ length c

-- Two captures have the same first n bytes, and the same bytes after the padding of these, which may differ, and may be cut
-- at the end.
pub record EqualOutsidePadding (n : ℕ) (c d : List ℕ) : Type 0 where
  pub leading : take n c ≡ take n d
  pub following : drop (nla_align n) c ≡ drop (nla_align n) d

-- The padding after an accepted frame changes no result.
pub record PaddingIsIgnored (r : Rule) : Type 0 where
  pub frame : (limit : ℕ) (c d : List ℕ) (frame : ℕ × List ℕ) → first_frame r limit c ≡ Ok frame →
      EqualOutsidePadding frame.0 c d → first_frame r limit d ≡ Ok frame
  pub fault : (limit : ℕ) (c d : List ℕ) (frame : ℕ × List ℕ) → first_frame r limit c ≡ Ok frame →
      EqualOutsidePadding frame.0 c d → first_fault r limit d ≡ first_fault r limit c
  pub texts : (limit : ℕ) (c d : List ℕ) (frame : ℕ × List ℕ) → first_frame r limit c ≡ Ok frame →
      EqualOutsidePadding frame.0 c d → texts r limit d ≡ texts r limit c
  pub frames : (limit : ℕ) (c d : List ℕ) (frame : ℕ × List ℕ) → first_frame r limit c ≡ Ok frame →
      EqualOutsidePadding frame.0 c d → frame_count r limit d ≡ frame_count r limit c
  pub attributes : (limit : ℕ) (c d : List ℕ) (frame : ℕ × List ℕ) → first_frame r limit c ≡ Ok frame →
      EqualOutsidePadding frame.0 c d → attribute_count r limit d ≡ attribute_count r limit c

-- The laws under one rule of link bodies. That of old captures isn't among them, as it is about two rules, nor are
-- those of unlisted attributes and small frames, which are about tables.
pub record CaptureLaws (r : Rule) : Type 0 where
  pub texts_are_legal : TextsAreLegal r
  pub texts_are_canonical : TextsAreCanonical r
  pub joined_captures_have_the_faults_of_the_second : JoinedFaults r
  pub joined_captures_are_legal : JoinedLegal r
  pub joined_captures_have_joined_texts : JoinedTexts r
  pub faults_of_a_prefix_stay : PrefixFaults r
  pub texts_of_a_prefix_stay : PrefixTexts r
  pub texts_are_small : TextsAreSmall r
  pub faults_are_at_frames : FaultsAreAtFrames r
  pub body_texts_are_canonical : BodyTextsAreCanonical r
  pub texts_mean_the_same : TextsMeanTheSame r
  pub same_captures_are_legal : SameAreLegal r
  pub texts_determine_meanings : TextsDetermineMeanings r
  pub body_texts_determine_meanings : BodyTextsDetermineMeanings r
  pub texts_keep_frames : TextsKeepFrames r
  pub frames_are_independent : FramesAreIndependent r
  pub captures_unfold_by_frames : CapturesUnfoldByFrames r
  pub frames_are_judged : FramesAreJudged r
  pub captures_are_counted : CapturesAreCounted r
  pub padding_is_ignored : PaddingIsIgnored r
  -- if the rule accepts no body without a header
  pub sameness_unfolds_by_frames : NeedsHeaders r → SamenessUnfoldsByFrames r

-- The laws of captures hold under every lawful rule of link bodies.
abbrev pub CaptureLawsHoldUnderEveryRule : Type 0
CaptureLawsHoldUnderEveryRule = (r : Rule) → Lawful r → CaptureLaws r
