-- What is read of a source, piece by piece.
use Rattle.std.proofs.Common.{◌≡◌, ℕ, ◌+◌, ◌^◌, ◌<◌, ◌≤◌, ◌&&◌, eqb, eqb-true, ltb, Bool, true, false, Result, Ok, Err, MatchResult, List, [], ◌++◌, length, take, refl, sym, ap, ◌∙◌, arith, append_assoc, length-append}
use Rattle.std.proofs.lemmas.Bool.{lt-ltb}
use Rattle.std.proofs.lemmas.List.{append-nil, length-take}
use Rattle.std.proofs.KnownBytes.{Consumes-kept, Consumes-nil, Consumes-trans}
use Rattle.std.specs.Io.KnownBytes.{Consumes, IsAtEnd, Keeps}
use Rattle.link_capture_grammar.specs.declared.fault.CaptureFault.{CaptureFault}
use Rattle.link_capture_grammar.specs.declared.fault.FaultKind.TheVariants.{Read, TooLong}
use Rattle.link_capture_reader.specs.Devices.{counted, risen, IsPrefix}
use Rattle.link_capture_reader.specs.States.{SourceState}
use Rattle.link_capture_comparing.specs.Comparisons.{IsReadUpTo, IsReadWhole}
use Rattle.link_capture_comparing.specs.Readings.{EndsAs, EndsOrReadFails, HasRead, ReadFailsAfter}

-- nothing was read
pub none_read : (s : SourceState) → HasRead s s false 0 []
none_read s = record { bytes = Consumes-nil s.to_come; failures = refl; ends = refl; count = refl }

pub prefix_refl : (s : List ℕ) → IsPrefix s s
prefix_refl s = ([], sym (append-nil s))

pub prefix_trans : (s t u : List ℕ) → IsPrefix s t → IsPrefix t u → IsPrefix s u
prefix_trans s t u p q = (p.0 ++ q.0, q.1 ∙ ap (λ x. x ++ q.0) p.1 ∙ append_assoc s p.0 q.0)

-- a source that has reported its end or hasn't, after a read of n bytes
ends_by : (initial old new : SourceState) (n capacity : ℕ) (b : Bool) → eqb n 0 ≡ b → 0 < capacity → old.ends_reported ≡ initial.ends_reported → new.ends_reported ≡ counted (eqb n 0 && ltb 0 capacity) old.ends_reported → (n ≡ 0 → 0 < capacity → IsAtEnd new.to_come) → EndsAs b initial new
ends_by initial old new n capacity true e l o c a = (
  c ∙ ap (λ x. counted (x && ltb 0 capacity) old.ends_reported) e ∙ ap (λ x. counted x old.ends_reported) (lt-ltb 0 capacity l) ∙ ap risen o,
  a (eqb-true n 0 e) l,
)
ends_by initial old new n capacity false e l o c a = c ∙ ap (λ x. counted (x && ltb 0 capacity) old.ends_reported) e ∙ o

-- a piece was read
pub piece_read : (initial old new : SourceState) (s buffer : List ℕ) (n read : ℕ) → 0 < length buffer → n ≤ length buffer → HasRead initial old false read s → Consumes old.to_come new.to_come (take n buffer) → (n ≡ 0 → 0 < length buffer → IsAtEnd new.to_come) → new.failures ≡ old.failures → new.ends_reported ≡ counted (eqb n 0 && ltb 0 (length buffer)) old.ends_reported → HasRead initial new (eqb n 0) (read + n) (s ++ take n buffer)
piece_read initial old new s buffer n read l w h b a f c = record {
  bytes = Consumes-trans initial.to_come old.to_come new.to_come s (take n buffer) h.bytes b;
  failures = f ∙ h.failures;
  ends = ends_by initial old new n (length buffer) (eqb n 0) refl l h.ends c a;
  count = omega (arith, h.count, length-append s (take n buffer), length-take n buffer);
}

-- a read failed
pub read_fails : (initial old new : SourceState) (s : List ℕ) (read : ℕ) → HasRead initial old false read s → Keeps old.to_come new.to_come → new.failures ≡ risen old.failures → ReadFailsAfter initial new s (record { kind = Read; offset = read })
read_fails initial old new s read h k f = (
  s,
  prefix_refl s,
  record { bytes = Consumes-kept initial.to_come old.to_come new.to_come s h.bytes k; stops = (f ∙ ap risen h.failures, h.count) },
)

-- more bytes came than 64 bits can count
pub too_long : (initial old new : SourceState) (s buffer : List ℕ) (n read : ℕ) → n ≤ length buffer → n ≤ 32768 → 2 ^ 64 ≤ read + n → HasRead initial old false read s → Consumes old.to_come new.to_come (take n buffer) → ReadFailsAfter initial new s (record { kind = TooLong; offset = read })
too_long initial old new s buffer n read w m l h b =
    let size : length (s ++ take n buffer) ≡ length s + n = length-append s (take n buffer) ∙ omega (arith, length-take n buffer) in (
      s ++ take n buffer,
      (take n buffer, refl),
      record {
        bytes = Consumes-trans initial.to_come old.to_come new.to_come s (take n buffer) h.bytes b;
        stops = (omega (arith, size, h.count), omega (arith, size, h.count), omega (arith, size, h.count));
      },
    )

-- reading stopped later
pub stops_later : (initial now : SourceState) (s t : List ℕ) (fault : CaptureFault) → IsPrefix s t → ReadFailsAfter initial now t fault → ReadFailsAfter initial now s fault
stops_later initial now s t fault p h = (h.0, prefix_trans s t h.0 p h.1, h.2)

-- a source whose end was reported was read whole
pub whole : (initial now : SourceState) (read : ℕ) (s : List ℕ) → HasRead initial now true read s → IsReadWhole initial now s
whole initial now read s h = record { bytes = h.bytes; failures = h.failures; end = h.ends }

-- all that was read since a state of a source, or why it wasn't
pub read_all : {A : Type 0} (before after : SourceState) (r : Result A CaptureFault) → EndsOrReadFails before after [] r → (s : List ℕ) × MatchResult r (λ _. IsReadWhole before after s) (λ fault. IsReadUpTo before after s fault)
read_all before after (Ok x) h = (h.0, h.2)
read_all before after (Err fault) h = (h.0, h.2)
