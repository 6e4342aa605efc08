-- What is answered to an input.
use Rattle.std.proofs.Common.{◌≡◌, ℕ, List, [], ◌∷◌, ◌++◌, length, Option, None, Some, IfSome, Err, codes, refl, sym, ◌∙◌, ap, subst, append-nil, append_assoc}
use Rattle.std.specs.Io.KnownBytes.{Appends}
use Rattle.fax_call.specs.Writings.{Writing}
use Rattle.fax_gateway.specs.declared.settings.Settings.{Settings}
use Rattle.fax_gateway.specs.Events.{Event}
use Rattle.fax_gateway.specs.Setups.{Setup}
use Rattle.fax_command.specs.RowLines.{lines_of, text_of_lines}
use Rattle.fax_trace.specs.declared.script_fault.ScriptFault.TheVariants.{Line, NoMemory}
use Rattle.fax_trace.specs.Scripts.{TellsEvent}
use Rattle.fax_trace.specs.Playing.{nothing_played}
use Rattle.fax_trace.specs.Answers.{Outcome, Answers, AnswersAfter, Ends, IsWanted, status_of, fault_lines}
use Rattle.fax_trace.specs.Rep.{HasPlayed}
use Rattle.fax_command.proofs.TellLemmas.{text_of_lines-append}

-- what was played is answered, with the line of its fault
pub answers_played : (settings : Settings) (script text told : List ℕ) (outcome : Outcome) (lines : ℕ) → HasPlayed settings script outcome lines text
    → told ≡ text ++ text_of_lines (fault_lines outcome) → AnswersAfter settings script lines (status_of outcome) told
answers_played settings script text told outcome lines h is = record {
  answers = record {
    before = h.before;
    others = h.others;
    lines_are = h.lines_are;
    events = h.events;
    tell = h.tell;
    outcome = outcome;
    ends = h.ends;
    status_is = refl;
    told = λ setup writes set written.
        let t = h.told setup writes set written in
        record {
          played = t.played;
          is_played = t.is_played;
          is_trace = t.is_trace;
          ends_so = t.ends_so;
          text_is = is ∙ ap (λ more. more ++ text_of_lines (fault_lines outcome)) (t.text_is ∙ ap text_of_lines (append-nil t.played.lines))
              ∙ sym (text_of_lines-append t.played.lines (fault_lines outcome));
        };
  };
  so_many = h.so_many;
}

-- memory may be wanted for the line of a fault
wanted_for_a_fault : (setup : Setup) (writes : Writing) (trace : List Event) (before others : List (List ℕ)) (number : ℕ) → Ends (length before) others (Err (Line number)) → IsWanted setup writes trace before others
wanted_for_a_fault setup writes trace [] others number e = tt
wanted_for_a_fault setup writes trace (line ∷ before) [] number e = cc (e.3)
wanted_for_a_fault setup writes trace (line ∷ before) (next ∷ others) number e = λ event tells early. e.4 event (subst (λ (x : List ℕ). TellsEvent x event) (first_is next e.1 others e.2 e.3) tells)
  where
    first_is : (a b : List ℕ) (more others : List (List ℕ)) → a ∷ more ≡ b ∷ others → a ≡ b
    first_is a b more others same = cc

pub played_to_memory : (settings : Settings) (script text : List ℕ) (number lines : ℕ) → HasPlayed settings script (Err (Line number)) lines text
    → HasPlayed settings script (Err NoMemory) lines text
played_to_memory settings script text number lines h = record {
  before = h.before;
  so_many = h.so_many;
  others = h.others;
  lines_are = h.lines_are;
  events = h.events;
  tell = h.tell;
  ends = tt;
  told = λ setup writes set written.
      let t = h.told setup writes set written in
      record { played = t.played; is_played = t.is_played; is_trace = t.is_trace; ends_so = wanted_for_a_fault setup writes t.played.trace h.before h.others number h.ends; text_is = t.text_is };
}

-- and before anything was played
pub Answers-memory : (settings : Settings) (input : List ℕ) → AnswersAfter settings input 0 3 (codes "fault memory\n")
Answers-memory settings input = record {
  answers = record {
    before = [];
    others = lines_of input;
    lines_are = refl;
    events = [];
    tell = tt;
    outcome = Err NoMemory;
    ends = tt;
    status_is = refl;
    told = λ setup writes set written. record { played = nothing_played; is_played = refl; is_trace = tt; ends_so = tt; text_is = refl };
  };
  so_many = refl;
}

-- an answer, said of equal things
pub Answers-same : (settings : Settings) (a b : List ℕ) (k l m n : ℕ) (s t : List ℕ) → AnswersAfter settings a k m s → a ≡ b → l ≡ k → n ≡ m → t ≡ s
    → AnswersAfter settings b l n t
Answers-same settings a b k l m n s t r input lines status text =
    subst (λ (x : List ℕ). AnswersAfter settings x l n t) input
    (subst (λ (i : ℕ). AnswersAfter settings a i n t) (sym lines)
    (subst (λ (i : ℕ). AnswersAfter settings a k i t) (sym status) (subst (λ (u : List ℕ). AnswersAfter settings a k m u) (sym text) r)))

-- an answer to what was read is one to the input, where that is known
pub Answers-read : (settings : Settings) (told : Option (List ℕ)) (read : List ℕ) (k l m n : ℕ) (s t : List ℕ) (old new : Option (List ℕ))
    → IfSome told (λ input. read ≡ input) → AnswersAfter settings read k m s → l ≡ k → n ≡ m → t ≡ s → Appends old new t
    → IfSome told (λ input. (text : List ℕ) × AnswersAfter settings input l n text × Appends old new text)
Answers-read settings None read k l m n s t old new whole r lines status text written = tt
Answers-read settings (Some input) read k l m n s t old new whole r lines status text written =
    (t, Answers-same settings read input k l m n s t r whole lines status text, written)

-- want of memory, before the input was read
pub Answers-unread : (settings : Settings) (told : Option (List ℕ)) (l n : ℕ) (t : List ℕ) (old new : Option (List ℕ))
    → l ≡ 0 → n ≡ 3 → t ≡ codes "fault memory\n" → Appends old new t
    → IfSome told (λ input. (text : List ℕ) × AnswersAfter settings input l n text × Appends old new text)
Answers-unread settings None l n t old new lines status text written = tt
Answers-unread settings (Some input) l n t old new lines status text written =
    (t, Answers-same settings input input 0 l 3 n _ t (Answers-memory settings input) refl lines status text, written)

-- whatever was played, it is an answer
pub Answers-played : (settings : Settings) (told : Option (List ℕ)) (played m n : ℕ) (old new : Option (List ℕ))
    → IfSome told (λ input. (text : List ℕ) × AnswersAfter settings input played m text × Appends old new text) → n ≡ m
    → IfSome told (λ input. (text : List ℕ) × Answers settings input n text × Appends old new text)
Answers-played settings None played m n old new after is = tt
Answers-played settings (Some input) played m n old new (text, after, written) is =
    (text, subst (λ (i : ℕ). Answers settings input i text) (sym is) after.answers, written)

-- one write after another
pub Appends-twice : (a b c : Option (List ℕ)) (x y : List ℕ) → Appends a b x → Appends b c y → Appends a c (x ++ y)
Appends-twice None b c x y first second = tt
Appends-twice (Some old) None c x y first second = absurd first
Appends-twice (Some old) (Some mid) None x y first second = absurd second
Appends-twice (Some old) (Some mid) (Some new) x y first second = second ∙ ap (λ l. l ++ y) first ∙ append_assoc old x y
