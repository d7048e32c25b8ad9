-- Arguments, one after the other.
use Rattle.std.proofs.Common.{◌≡◌, ℕ, ◌-◌, ◌≤◌, ◌<◌, List, [], ◌∷◌, length, map, take, drop, get_or, Result, Ok, Err, refl, sym, ap, subst, ◌∙◌, arith}
use Rattle.std.proofs.lemmas.List.{take_rest}
use Rattle.linkshow_program.specs.Arguments.{argument_of, if_last, of_file, value_of, with_flag, with_operand, Expected.Nothing, Gives, Settings, Takes, UsageFault}
use Rattle.linkshow_program.specs.declared.arguments.FlagOption.{FlagOption}
use Rattle.linkshow_program.specs.declared.arguments.ValueOption.{ValueOption}
use Rattle.linkshow_program.specs.declared.arguments.Argument.TheVariants.{Flag, Valued, Assigned, Input, End, Name, Invalid}

-- What the first arguments give, the second ones do.
pub record Gone (o : Settings) (ws : List (List ℕ)) (q : Settings) (vs : List (List ℕ)) : Type 0 where
  pub gives : (r : Result Settings UsageFault) → Gives Nothing o ws r → Gives Nothing q vs r

pub gone : (o : Settings) (ws : List (List ℕ)) → Gone o ws o ws
gone o ws = record { gives = λ r g. g }

pub gone_on : {o p q : Settings} {us vs ws : List (List ℕ)} → Gone o us p vs → Gone p vs q ws → Gone o us q ws
gone_on f g = record { gives = λ r x. g.gives r (f.gives r x) }

-- The same statement for the remaining arguments, as they are split.
pub left_gone : {o q : Settings} {ws vs us : List (List ℕ)} → ws ≡ us → Gone o ws q vs → Gone o us q vs
left_gone {o} {q} {ws} {vs} {us} d g = subst (λ x. Gone o x q vs) d g

pub cut_arguments : {A : Type 0} (f : A → List ℕ) (ws : List A) (w : A) → 1 ≤ length ws → w ≡ get_or ws 0 w → map f ws ≡ f w ∷ map f (take (length ws - 1) (drop 1 ws))
cut_arguments f [] w m e = absurd (omega arith)
cut_arguments f (x ∷ rest) w m e = ap (λ z. f z ∷ map f rest) (sym e) ∙ ap (λ t. f w ∷ map f t) (sym (take_rest (x ∷ rest) 1))

-- The same statement for a first argument and those after it.
pub argument_gone : {A : Type 0} (f : A → List ℕ) (ws : List A) (w : A) → {o q : Settings} {vs : List (List ℕ)} → 1 ≤ length ws → w ≡ get_or ws 0 w → Gone o (map f ws) q vs →
    Gone o (f w ∷ map f (take (length ws - 1) (drop 1 ws))) q vs
argument_gone f ws w m e g = left_gone (cut_arguments f ws w m e) g

pub no_arguments : {A : Type 0} (f : A → List ℕ) (ws : List A) → length ws < 1 → map f ws ≡ []
no_arguments f [] m = refl
no_arguments f (x ∷ rest) m = absurd (omega arith)

-- ---- options

pub flag_gone : {w : List ℕ} {rest : List (List ℕ)} {flag : FlagOption} {o : Settings} → argument_of w ≡ Flag flag → Gone (with_flag flag o) rest o (w ∷ rest)
flag_gone e = record { gives = λ r. rw (e, Gives) (λ g. g) }

pub value_gone : {w v : List ℕ} {rest : List (List ℕ)} {option : ValueOption} {o p : Settings} → argument_of w ≡ Valued option → Takes option o v (Ok p) → Gone p rest o (w ∷ v ∷ rest)
value_gone {w} {v} {rest} {option} {o} {p} e t = record { gives = λ r. rw (e, Gives) (λ g. (Ok p, t, g)) }

-- The value of an option has a fault.
pub value_failed : (w v : List ℕ) (rest : List (List ℕ)) (option : ValueOption) (o : Settings) (fault : UsageFault) → argument_of w ≡ Valued option → Takes option o v (Err fault) → Gives Nothing o (w ∷ v ∷ rest) (Err fault)
value_failed w v rest option o fault e t = rw (e, Gives) (Err fault, t, refl)

-- The value of an option is missing.
pub value_missing : (w : List ℕ) (option : ValueOption) (o : Settings) → argument_of w ≡ Valued option → Gives Nothing o (w ∷ []) (Err UsageFault.Usage)
value_missing w option o e = rw (e, Gives) refl

-- An option with its value in one argument.
pub assigned_gone : {w v : List ℕ} {rest : List (List ℕ)} {option : ValueOption} {o p : Settings} → argument_of w ≡ Assigned option → v ≡ value_of w → Takes option o v (Ok p) → Gone p rest o (w ∷ rest)
assigned_gone {w} {v} {rest} {option} {o} {p} e d t = record { gives = λ r. rw (e, Gives) (λ g. (Ok p, subst (λ x. Takes option o x (Ok p)) d t, g)) }

-- Its value has a fault.
pub assigned_failed : (w v : List ℕ) (rest : List (List ℕ)) (option : ValueOption) (o : Settings) (fault : UsageFault) → argument_of w ≡ Assigned option → v ≡ value_of w → Takes option o v (Err fault) → Gives Nothing o (w ∷ rest) (Err fault)
assigned_failed w v rest option o fault e d t = rw (e, Gives) (Err fault, subst (λ x. Takes option o x (Err fault)) d t, refl)

-- ---- the last arguments

pub end_last : (w : List ℕ) (rest : List (List ℕ)) (o : Settings) (r : Result Settings UsageFault) → argument_of w ≡ End → r ≡ with_operand rest o → Gives Nothing o (w ∷ rest) r
end_last w rest o r e h = rw (e, Gives) h

pub input_last : (w : List ℕ) (rest : List (List ℕ)) (o : Settings) (r : Result Settings UsageFault) → argument_of w ≡ Input → r ≡ if_last rest o → Gives Nothing o (w ∷ rest) r
input_last w rest o r e h = rw (e, Gives) h

pub name_last : (w : List ℕ) (rest : List (List ℕ)) (o : Settings) (r : Result Settings UsageFault) → argument_of w ≡ Name → r ≡ if_last rest (of_file w o) → Gives Nothing o (w ∷ rest) r
name_last w rest o r e h = rw (e, Gives) h

pub invalid_last : (w : List ℕ) (rest : List (List ℕ)) (o : Settings) → argument_of w ≡ Invalid → Gives Nothing o (w ∷ rest) (Err UsageFault.Usage)
invalid_last w rest o e = rw (e, Gives) refl

-- A single argument.
pub one_argument : {A : Type 0} (f : A → List ℕ) (ws : List A) (w : A) (text : List ℕ) → 1 ≤ length ws → length ws < 2 → w ≡ get_or ws 0 w → f w ≡ text → map f ws ≡ text ∷ []
one_argument f [] w text m n e h = absurd (omega arith)
one_argument f (x ∷ []) w text m n e h = ap (λ z. f z ∷ []) (sym e) ∙ ap (λ z. z ∷ []) h
one_argument f (x ∷ y ∷ rest) w text m n e h = absurd (omega arith)
