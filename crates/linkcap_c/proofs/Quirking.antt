-- What a walk over a capture has still to yield.
use Rattle.std.proofs.Common.{◌≡◌, ℕ, suc, zero-add, ◌+◌, ◌-◌, ◌^◌, ◌<◌, ◌≤◌, min, Option, None, Some, Result, Ok, Err, List, [], ◌∷◌, ◌++◌, length, drop, refl, sym, ap, ◌∙◌, append_assoc, append-nil, arith}
use Rattle.std.specs.Prelude.{map}
use Rattle.std.proofs.lemmas.List.{length-append, length-drop, length-map, drop-drop}
use Rattle.std.proofs.Math.Seq.{set-append_seam}
use Rattle.std.proofs.Math.ListN.{set}
use Rattle.link_capture_grammar.specs.declared.fault.CaptureFault.{CaptureFault}
use Rattle.link_capture_grammar.specs.Captures.{first_fault}
use Rattle.link_capture_quirks.specs.declared.quirk_at.QuirkAt.{QuirkAt}
use Rattle.link_capture_quirks.specs.CaptureQuirks.{QuirksLeft, items_left, capture_quirks, quirks_then_fault}
use Rattle.linkcap_c.specs.declared.findings.LinkcapFinding.{LinkcapFinding}
use Rattle.linkcap_c.specs.Findings.{quirk_of, found_quirks}
use Rattle.link_capture_grammar.specs.Body.{link_body}

abbrev pub Yielded : Type 0
Yielded = List (Result QuirkAt CaptureFault)

-- the quirks, and the fault at the end
abbrev pub found : Yielded → List QuirkAt
found [] = []
found (Ok x ∷ rest) = x ∷ found rest
found (Err fault ∷ rest) = []

abbrev pub ending : Yielded → Option CaptureFault
ending [] = None
ending (Ok x ∷ rest) = ending rest
ending (Err fault ∷ rest) = Some fault

found_then : (xs : List QuirkAt) (fault : Option CaptureFault) → found (quirks_then_fault xs fault) ≡ xs
found_then [] None = refl
found_then [] (Some fault) = refl
found_then (x ∷ xs) fault = ap (λ z. x ∷ z) (found_then xs fault)

ending_then : (xs : List QuirkAt) (fault : Option CaptureFault) → ending (quirks_then_fault xs fault) ≡ fault
ending_then [] None = refl
ending_then [] (Some fault) = refl
ending_then (x ∷ xs) fault = ending_then xs fault

abbrev most : ℕ
most = 2 ^ 64 - 1

-- ---- counted

-- the number of quirks that were yielded, or the greatest number that can be counted
pub record Counted (limit : ℕ) (c : List ℕ) (left : Yielded) (count : ℕ) : Type 0 where
  pub fits : count ≤ most
  pub all : min (count + length (found left)) most ≡ min (length (found_quirks limit c)) most
  pub fault : ending left ≡ first_fault link_body limit c

pub counted_none : (limit : ℕ) (c : List ℕ) (s : QuirksLeft) → s.quirks_left ≡ capture_quirks limit c → s.fault ≡ first_fault link_body limit c → Counted limit c (items_left s) 0
counted_none limit c s e f = record {
  fits = omega arith;
  all = ap (λ n. min n most) (zero-add (length (found (items_left s))) ∙ ap length (found_then s.quirks_left s.fault ∙ e) ∙ sym (length-map (capture_quirks limit c) quirk_of));
  fault = ending_then s.quirks_left s.fault ∙ f;
}

pub counted_one : (limit : ℕ) (c : List ℕ) (left rest : Yielded) (x : QuirkAt) (count next : ℕ) → Counted limit c left count → left ≡ Ok x ∷ rest → next ≡ min (count + 1) most → Counted limit c rest next
counted_one limit c left rest x count next w e n =
    let size : length (found left) ≡ suc (length (found rest)) = ap (λ z. length (found z)) e in
    record {
      fits = omega (arith, n);
      all = omega (arith, w.all, size, n);
      fault = sym (ap ending e) ∙ w.fault;
    }

pub counted_fault : (limit : ℕ) (c : List ℕ) (left rest : Yielded) (fault : CaptureFault) (count : ℕ) → Counted limit c left count → left ≡ Err fault ∷ rest → (count ≡ min (length (found_quirks limit c)) most) × (Some fault ≡ first_fault link_body limit c)
counted_fault limit c left rest fault count w e =
    let size : length (found left) ≡ 0 = ap (λ z. length (found z)) e in
    (omega (arith, w.all, size, w.fits), sym (ap ending e) ∙ w.fault)

pub counted_all : (limit : ℕ) (c : List ℕ) (left : Yielded) (count : ℕ) → Counted limit c left count → left ≡ [] → (count ≡ min (length (found_quirks limit c)) most) × (None ≡ first_fault link_body limit c)
counted_all limit c left count w e =
    let size : length (found left) ≡ 0 = ap (λ z. length (found z)) e in
    (omega (arith, w.all, size, w.fits), sym (ap ending e) ∙ w.fault)

-- ---- written

put_one : {A : Type 0} (done rest : List A) (x : A) → 0 < length rest → set (done ++ rest) (length done) x ≡ (done ++ x ∷ []) ++ drop 1 rest
put_one done [] x h = absurd (omega (arith, h))
put_one done (y ∷ rest) x h = set-append_seam done y rest x ∙ sym (append_assoc done (x ∷ []) rest)

-- this number of quirks is written
pub record Written (limit : ℕ) (c : List ℕ) (init out : List LinkcapFinding) (left : Yielded) (written : ℕ) : Type 0 where
  pub done : List LinkcapFinding
  pub size : length done ≡ written
  pub held : out ≡ done ++ drop written init
  pub rest : done ++ map quirk_of (found left) ≡ found_quirks limit c
  pub room : length (found_quirks limit c) ≤ length init

pub written_none : (limit : ℕ) (c : List ℕ) (init : List LinkcapFinding) (s : QuirksLeft) → s.quirks_left ≡ capture_quirks limit c → length (found_quirks limit c) ≤ length init → Written limit c init init (items_left s) 0
written_none limit c init s e h = record {
  done = [];
  size = refl;
  held = refl;
  rest = ap (map quirk_of) (found_then s.quirks_left s.fault ∙ e);
  room = h;
}

module _ (limit : ℕ) (c : List ℕ) (init out : List LinkcapFinding) (left rest : Yielded) (x : QuirkAt) (written : ℕ) (w : Written limit c init out left written) (e : left ≡ Ok x ∷ rest) where
  more : w.done ++ quirk_of x ∷ map quirk_of (found rest) ≡ found_quirks limit c
  more = sym (ap (λ z. w.done ++ map quirk_of (found z)) e) ∙ w.rest

  pub free : written < length init
  free = omega (arith, w.room, w.size, ap length more, length-append w.done (quirk_of x ∷ map quirk_of (found rest)))

  pub inside : written < length out
  inside = omega (arith, free, w.size, ap length w.held, length-append w.done (drop written init), length-drop written init)

  pub written_one : Written limit c init (set out written (quirk_of x)) rest (written + 1)
  written_one =
      let some : 0 < length (drop written init) = omega (arith, free, length-drop written init) in
      record {
        done = w.done ++ quirk_of x ∷ [];
        size = length-append w.done (quirk_of x ∷ []) ∙ ap (λ n. n + 1) w.size;
        held = ap (λ z. set z written (quirk_of x)) w.held
            ∙ ap (λ n. set (w.done ++ drop written init) n (quirk_of x)) (sym w.size)
            ∙ put_one w.done (drop written init) (quirk_of x) some
            ∙ ap (λ z. (w.done ++ quirk_of x ∷ []) ++ z) (drop-drop 1 written init);
        rest = append_assoc w.done (quirk_of x ∷ []) (map quirk_of (found rest)) ∙ more;
        room = w.room;
      }

pub written_all : (limit : ℕ) (c : List ℕ) (init out : List LinkcapFinding) (left : Yielded) (written : ℕ) → Written limit c init out left written → found left ≡ [] → out ≡ found_quirks limit c ++ drop (length (found_quirks limit c)) init
written_all limit c init out left written w e =
    let all : w.done ≡ found_quirks limit c = sym (append-nil w.done) ∙ sym (ap (λ z. w.done ++ map quirk_of z) e) ∙ w.rest in
    w.held ∙ ap (λ n. w.done ++ drop n init) (sym w.size) ∙ ap (λ z. z ++ drop (length z) init) all
