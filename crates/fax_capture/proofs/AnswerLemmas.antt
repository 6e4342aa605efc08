-- What is answered to an input.
use Rattle.std.proofs.Common.{◌≡◌, ℕ, ◌<◌, List, [], ◌++◌, take, length, Option, None, Some, IfSome, Ok, Err, refl, sym, ◌∙◌, ap, subst, append-nil}
use Rattle.std.specs.Io.KnownBytes.{Appends, Consumes, IsAtEnd}
use Rattle.std.proofs.KnownBytes.{Consumes-trans, Consumes-whole}
use Rattle.fax_capture.specs.declared.options.CaptureOptions.{CaptureOptions}
use Rattle.fax_capture.specs.declared.counts.Counts.{Counts}
use Rattle.fax_capture.specs.declared.script_fault.ScriptFault.{ScriptFault}
use Rattle.fax_capture.specs.Answers.{Allows, Answers, Fails, fault_counts, fault_line, fault_status}

take_nothing : (octets : List ℕ) → take 0 octets ≡ []
take_nothing octets = refl

-- what holds of all that was read holds of an input that has ended
pub ended : (P : List ℕ → Type 0) (a b c : Option (List ℕ)) (read buffer : List ℕ) (n : ℕ)
    → Consumes a b read → Consumes b c (take n buffer) × (n ≡ 0 → 0 < length buffer → IsAtEnd c) → n ≡ 0 → 0 < length buffer → P read → IfSome a P
ended P a b c read buffer n told more none some holds =
    let nothing : take n buffer ≡ [] = ap (λ (k : ℕ). take k buffer) none ∙ take_nothing buffer in
    let same : read ++ take n buffer ≡ read = ap (λ (l : List ℕ). read ++ l) nothing ∙ append-nil read in
    Consumes-whole a c (read ++ take n buffer) P (Consumes-trans a b c read (take n buffer) told more.0) (more.1 none some) (subst P (sym same) holds)

-- what holds of what was read, whatever follows, holds of the input
pub so_far : (P : List ℕ → Type 0) (known now : Option (List ℕ)) (read : List ℕ) → Consumes known now read → ((more : List ℕ) → P (read ++ more)) → IfSome known P
so_far P None now read told holds = tt
so_far P (Some input) None read told holds = absurd told
so_far P (Some input) (Some left) read told holds = subst P (sym told) (holds left)

pub broken : (P : List ℕ → Type 0) (a b c : Option (List ℕ)) (read piece taken : List ℕ)
    → Consumes a b read → Consumes b c taken → ((more : List ℕ) → P ((read ++ piece) ++ more)) → piece ≡ taken → IfSome a P
broken P a b c read piece taken told more holds is =
    so_far P a c (read ++ piece) (Consumes-trans a b c read piece told (subst (λ (l : List ℕ). Consumes b c l) (sym is) more)) holds

-- a script, or what is wrong, is an answer
pub Answers-script : (options : CaptureOptions) (known : Option (List ℕ)) (text : List ℕ) (counts : Counts)
    → IfSome known (λ input. Allows options input (Ok (text, counts))) → IfSome known (λ input. Answers options input 0 (Some counts) text)
Answers-script options None text counts allowed = tt
Answers-script options (Some input) text counts allowed = record { outcome = Ok (text, counts); allowed = allowed; status_is = refl; counts_is = refl; text_is = refl }

pub Answers-fault : (options : CaptureOptions) (known : Option (List ℕ)) (fault : ScriptFault)
    → IfSome known (λ input. Fails options input fault) → IfSome known (λ input. Answers options input (fault_status fault) (fault_counts fault) (fault_line fault))
Answers-fault options None fault fails = tt
Answers-fault options (Some input) fault fails = record { outcome = Err fault; allowed = fails; status_is = refl; counts_is = refl; text_is = refl }

-- an answer, said of equal things
Answers-same : (options : CaptureOptions) (input : List ℕ) (m n : ℕ) (c d : Option Counts) (s t : List ℕ)
    → Answers options input m c s → n ≡ m → d ≡ c → t ≡ s → Answers options input n d t
Answers-same options input m n c d s t r status counts text =
    subst (λ (k : ℕ). Answers options input k d t) (sym status)
    (subst (λ (e : Option Counts). Answers options input m e t) (sym counts)
    (subst (λ (u : List ℕ). Answers options input m c u) (sym text) r))

-- an answer to an input, where that is known, that was written
pub Answers-written : (options : CaptureOptions) (known : Option (List ℕ)) (m n : ℕ) (c d : Option Counts) (s t : List ℕ) (old new : Option (List ℕ))
    → IfSome known (λ input. Answers options input m c s) → n ≡ m → d ≡ c → t ≡ s → Appends old new t
    → IfSome known (λ input. (text : List ℕ) × Answers options input n d text × Appends old new text)
Answers-written options None m n c d s t old new r status counts text written = tt
Answers-written options (Some input) m n c d s t old new r status counts text written =
    (t, Answers-same options input m n c d s t r status counts text, written)
