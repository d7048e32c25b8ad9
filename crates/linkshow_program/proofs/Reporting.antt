-- The text that was written to a sink.
use Rattle.std.proofs.Common.{◌≡◌, ◌≤◌, ◌<◌, ℕ, ◌-◌, Bool, List, [], ◌∷◌, ◌++◌, true, false, length, map, take, drop, get_or, Bor, refl, sym, ap, subst, ◌∙◌, append_assoc, append-nil, arith}
use Rattle.std.proofs.lemmas.List.{take_rest}
use Rattle.std.proofs.KnownBytes.{Appends-nil, Appends-trans}
use Rattle.std.specs.Io.KnownBytes.{Appends}
use Rattle.link_capture_reader.specs.Devices.{Rises}
use Rattle.link_capture_refusals.specs.RefusalTexts.{separator_after_name, path_text}
use Rattle.link_capture_refusals.proofs.PathTexts.{cut}
use Rattle.link_capture_reader.specs.States.{IsReported, SinkState}
use Rattle.linkshow_program.specs.Reporting.{texts_joined}

-- A prefix of a text was written to a sink that didn't fail, and the rest remains.
pub record Come (before now : SinkState) (left text : List ℕ) : Type 0 where
  pub prefix : List ℕ
  pub came : Appends before.holds now.holds prefix
  pub same : now.failures ≡ before.failures
  pub whole : prefix ++ left ≡ text

pub come_none : (before : SinkState) (text : List ℕ) → Come before before text text
come_none before text = record { prefix = []; came = Appends-nil before.holds; same = refl; whole = refl }

-- The same statement for an equal result and an equal text.
pub reported_by : (before after : SinkState) (text : List ℕ) (a b : Bool) → a ≡ b → IsReported before after text a → IsReported before after text b
reported_by before after text a b e t = subst (λ r. IsReported before after text r) e t

pub retold : (before after : SinkState) (x text : List ℕ) (r : Bool) → x ≡ text → IsReported before after x r → IsReported before after text r
retold before after x text r e t = subst (λ y. IsReported before after y r) e t

-- One more piece was written.
pub come_more : (before now next : SinkState) (left piece more text : List ℕ) (r : Bool) → Come before now left text → left ≡ piece ++ more → r ≡ true → IsReported now next piece r → Come before next more text
come_more before now next left piece more text r c e b i =
    let all = reported_by now next piece r true b i in
    record {
      prefix = c.prefix ++ piece;
      came = Appends-trans before.holds now.holds next.holds c.prefix piece c.came all.0;
      same = all.1 ∙ c.same;
      whole = append_assoc c.prefix piece more ∙ ap (λ z. c.prefix ++ z) (sym e) ∙ c.whole;
    }

-- All of it was written.
pub come_all : (before now : SinkState) (left text : List ℕ) → Come before now left text → left ≡ [] → IsReported before now text true
come_all before now left text c e = (subst (Appends before.holds now.holds) (sym (append-nil c.prefix) ∙ ap (λ z. c.prefix ++ z) (sym e) ∙ c.whole) c.came, c.same)

-- The sink failed inside a piece.
pub come_failed : (before now next : SinkState) (left piece more text : List ℕ) (r : Bool) → Come before now left text → left ≡ piece ++ more → r ≡ false → IsReported now next piece r → IsReported before next text false
come_failed before now next left piece more text r c e b i =
    let part = reported_by now next piece r false b i in
    let prefix : List ℕ = part.1.0 in
    let rest : List ℕ = part.1.1.0 in
    let whole : text ≡ (c.prefix ++ prefix) ++ (rest ++ more) =
    sym c.whole ∙ ap (λ z. c.prefix ++ z) (e ∙ ap (λ z. z ++ more) part.1.1.1 ∙ append_assoc prefix rest more) ∙ sym (append_assoc c.prefix prefix (rest ++ more)) in
    (subst (λ n. Rises n next.failures) c.same part.0, (c.prefix ++ prefix, (rest ++ more, whole), Appends-trans before.holds now.holds next.holds c.prefix prefix c.came part.1.2))

-- One text was written, and then another; or the first failed.
pub then_reported : (before between after : SinkState) (x first second : List ℕ) (a r : Bool) → a ≡ true → x ≡ first → IsReported before between x a → IsReported between after second r → IsReported before after (first ++ second) r
then_reported before between after x first second a true b e f s =
    let all = retold before between x first true e (reported_by before between x a true b f) in
    (Appends-trans before.holds between.holds after.holds first second all.0 s.0, s.1 ∙ all.1)
then_reported before between after x first second a false b e f s =
    come_failed before between after second second [] (first ++ second) false (come_more before before between (first ++ second) first second (first ++ second) a (come_none before (first ++ second)) refl b (retold before between x first a e f)) (sym (append-nil second)) refl s

pub no_more_reported : (before after : SinkState) (x first second : List ℕ) (a : Bool) → a ≡ false → x ≡ first → IsReported before after x a → IsReported before after (first ++ second) false
no_more_reported before after x first second a b e f = come_failed before before after (first ++ second) first second (first ++ second) a (come_none before (first ++ second)) refl b (retold before after x first a e f)

-- ---- texts, one after the other

-- These texts remain of others.
abbrev pub Reported : SinkState → SinkState → List (Bor (List ℕ)) → List (Bor (List ℕ)) → Type 0
Reported before now left texts = Come before now (texts_joined left) (texts_joined texts)

pub none_reported : (before : SinkState) (texts : List (Bor (List ℕ))) → Reported before before texts texts
none_reported before texts = come_none before (texts_joined texts)

texts_cut : (left : List (Bor (List ℕ))) (d : Bor (List ℕ)) → 1 ≤ length left → texts_joined left ≡ (get_or left 0 d).now ++ texts_joined (take (length left - 1) (drop 1 left))
texts_cut [] d m = absurd (omega arith)
texts_cut (x ∷ more) d m = ap (λ t. x.now ++ texts_joined t) (sym (take_rest (x ∷ more) 1))

-- One more text was written.
pub more_reported : (before now next : SinkState) (left texts : List (Bor (List ℕ))) (d : Bor (List ℕ)) (r : Bool) → 1 ≤ length left → Reported before now left texts → r ≡ true → IsReported now next (get_or left 0 d).now r → Reported before next (take (length left - 1) (drop 1 left)) texts
more_reported before now next left texts d r m t b i = come_more before now next (texts_joined left) (get_or left 0 d).now _ (texts_joined texts) r t (texts_cut left d m) b i

none_left : (left : List (Bor (List ℕ))) → length left < 1 → texts_joined left ≡ []
none_left [] m = refl
none_left (x ∷ more) m = absurd (omega arith)

-- All of them were written.
pub all_reported : (before now : SinkState) (left texts : List (Bor (List ℕ))) → length left < 1 → Reported before now left texts → IsReported before now (texts_joined texts) true
all_reported before now left texts m t = come_all before now (texts_joined left) (texts_joined texts) t (none_left left m)

-- The sink failed inside a text.
pub report_failed : (before now next : SinkState) (left texts : List (Bor (List ℕ))) (d : Bor (List ℕ)) (r : Bool) → 1 ≤ length left → Reported before now left texts → r ≡ false → IsReported now next (get_or left 0 d).now r → IsReported before next (texts_joined texts) false
report_failed before now next left texts d r m t b i = come_failed before now next (texts_joined left) (get_or left 0 d).now _ (texts_joined texts) r t (texts_cut left d m) b i

-- ---- names from the outermost to the innermost

abbrev path_left : List (Bor (List ℕ)) → List ℕ
path_left names = path_text (map (λ n. n.now) names)

path_step : (left : List (Bor (List ℕ))) (d sign : Bor (List ℕ)) → 1 ≤ length left → sign.now ≡ separator_after_name (map (λ n. n.now) (take (length left - 1) (drop 1 left))) →
    path_left left ≡ texts_joined (get_or left 0 d ∷ sign ∷ []) ++ path_left (take (length left - 1) (drop 1 left))
path_step left d sign m e =
    let rest = path_left (take (length left - 1) (drop 1 left)) in
    let name = (get_or left 0 d).now in
    cut left d m ∙ ap (λ z. name ++ (z ++ rest)) (sym e) ∙ sym (append_assoc name sign.now rest) ∙ ap (λ z. (name ++ z) ++ rest) (sym (append-nil sign.now))

pub path_more : (before now next : SinkState) (left path : List (Bor (List ℕ))) (d sign : Bor (List ℕ)) (r : Bool) → 1 ≤ length left → sign.now ≡ separator_after_name (map (λ n. n.now) (take (length left - 1) (drop 1 left))) → Come before now (path_left left) (path_left path) → r ≡ true → IsReported now next (texts_joined (get_or left 0 d ∷ sign ∷ [])) r →
    Come before next (path_left (take (length left - 1) (drop 1 left))) (path_left path)
path_more before now next left path d sign r m e c b i = come_more before now next (path_left left) _ _ (path_left path) r c (path_step left d sign m e) b i

pub path_failed : (before now next : SinkState) (left path : List (Bor (List ℕ))) (d sign : Bor (List ℕ)) (r : Bool) → 1 ≤ length left → sign.now ≡ separator_after_name (map (λ n. n.now) (take (length left - 1) (drop 1 left))) → Come before now (path_left left) (path_left path) → r ≡ false → IsReported now next (texts_joined (get_or left 0 d ∷ sign ∷ [])) r →
    IsReported before next (path_left path) false
path_failed before now next left path d sign r m e c b i = come_failed before now next (path_left left) _ _ (path_left path) r c (path_step left d sign m e) b i

no_name : (left : List (Bor (List ℕ))) → length left < 1 → path_left left ≡ []
no_name [] m = refl
no_name (x ∷ left) m = absurd (omega (arith, m))

pub path_all : (before now : SinkState) (left path : List (Bor (List ℕ))) → length left < 1 → Come before now (path_left left) (path_left path) → IsReported before now (path_left path) true
path_all before now left path m c = come_all before now (path_left left) (path_left path) c (no_name left m)
