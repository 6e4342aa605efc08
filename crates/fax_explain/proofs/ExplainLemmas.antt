-- What is answered to an input.
use Rattle.std.proofs.Common.{◌≡◌, ℕ, List, [], ◌++◌, Option, None, Some, IfSome, Err, codes, refl, sym, subst}
use Rattle.std.specs.Io.KnownBytes.{Appends}
use Rattle.fax_gateway.specs.declared.settings.Settings.{Settings}
use Rattle.fax_command.specs.RowLines.{lines_of, text_of_lines}
use Rattle.fax_trace.specs.declared.script_fault.ScriptFault.TheVariants.{NoMemory}
use Rattle.fax_trace.specs.Playing.{nothing_played}
use Rattle.fax_trace.specs.Answers.{Outcome, status_of, fault_lines}
use Rattle.fax_explain.specs.Explained.{Explains, HasTold}

-- what was told is answered, with the line of its fault
pub explains_told : (settings : Settings) (script ladder text : List ℕ) (outcome : Outcome) → HasTold settings script outcome ladder
    → text ≡ ladder ++ text_of_lines (fault_lines outcome) → Explains settings script (status_of outcome) text
explains_told settings script ladder text outcome h is = record { ladder = ladder; outcome = outcome; has_told = h; status_is = refl; text_is = is }

-- memory may be wanting wherever playing ends
pub told_to_memory : (settings : Settings) (script ladder : List ℕ) (outcome : Outcome) → HasTold settings script outcome ladder
    → HasTold settings script (Err NoMemory) ladder
told_to_memory settings script ladder outcome h = record {
  before = h.before;
  others = h.others;
  lines_are = h.lines_are;
  events = h.events;
  tell = h.tell;
  ends = tt;
  lines = h.lines;
  told = h.told;
  text_is = h.text_is;
}

-- and before anything was played
pub nothing_told : (settings : Settings) (script text : List ℕ) → text ≡ [] → HasTold settings script (Err NoMemory) text
nothing_told settings script text is = record {
  before = [];
  others = lines_of script;
  lines_are = refl;
  events = [];
  tell = tt;
  ends = tt;
  lines = [];
  told = λ setup writes set written. record { played = nothing_played; told = (refl, refl); is_trace = tt };
  text_is = is;
}

-- an answer, said of equal things
pub Explains-same : (settings : Settings) (a b : List ℕ) (m n : ℕ) (s t : List ℕ) → Explains settings a m s → a ≡ b → n ≡ m → t ≡ s → Explains settings b n t
Explains-same settings a b m n s t r input status text = subst (λ (x : List ℕ). Explains settings x n t) input
    (subst (λ (k : ℕ). Explains settings a k t) (sym status) (subst (λ (u : List ℕ). Explains settings a m u) (sym text) r))

-- an answer to what was read is one to the input, where that is known
pub Explains-read : (settings : Settings) (known : Option (List ℕ)) (read : List ℕ) (m n : ℕ) (s t : List ℕ) (old new : Option (List ℕ))
    → IfSome known (λ input. read ≡ input) → Explains settings read m s → n ≡ m → t ≡ s → Appends old new t
    → IfSome known (λ input. (text : List ℕ) × Explains settings input n text × Appends old new text)
Explains-read settings None read m n s t old new whole r status text written = tt
Explains-read settings (Some input) read m n s t old new whole r status text written = (t, Explains-same settings read input m n s t r whole status text, written)

-- want of memory, before the input was read
pub Explains-unread : (settings : Settings) (known : Option (List ℕ)) (n : ℕ) (t : List ℕ) (old new : Option (List ℕ))
    → n ≡ 3 → t ≡ codes "fault memory\n" → Appends old new t
    → IfSome known (λ input. (text : List ℕ) × Explains settings input n text × Appends old new text)
Explains-unread settings None n t old new status text written = tt
Explains-unread settings (Some input) n t old new status text written =
    (t, record { ladder = []; outcome = Err NoMemory; has_told = nothing_told settings input [] refl; status_is = status; text_is = text }, written)
