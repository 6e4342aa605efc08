-- What answers to an input are alike.
use Rattle.std.proofs.Common.{◌≡◌, ℕ, List, Option, None, Some, IfSome, Err, codes, refl, ◌∙◌, subst}
use Rattle.std.specs.Io.KnownBytes.{Appends}
use Rattle.fax_command.specs.declared.input_fault.InputFault.TheVariants.{NoMemory}
use Rattle.fax_command.specs.declared.options.Output.{Output}
use Rattle.fax_command.specs.declared.options.Output.TheVariants.{Runs, Picture, Octets}
use Rattle.fax_command.specs.declared.options.PageOptions.{PageOptions}
use Rattle.fax_command.specs.Answers.{Answers, Allows, AllowsOutput}

-- memory may be wanting at any input
allows_memory : (output : Output) (options : PageOptions) (input : List ℕ) → AllowsOutput output options input (Err NoMemory)
allows_memory Runs options input = tt
allows_memory Picture options input = tt
allows_memory Octets options input = tt

pub Answers-memory : (options : PageOptions) (input text : List ℕ) → text ≡ codes "fault memory\n" → Answers options input 3 text
Answers-memory options input text is = record {
  outcome = Err NoMemory;
  allowed = allows_memory options.output options input;
  status_is = refl;
  text_is = is;
}

-- an answer, said of equal things
pub Answers-same : (options : PageOptions) (a b : List ℕ) (m n : ℕ) (text : List ℕ) → Answers options a m text → a ≡ b → n ≡ m → Answers options b n text
Answers-same options a b m n text r input status = record {
  outcome = r.outcome;
  allowed = let P : List ℕ → Type 0 = λ x. Allows options x r.outcome in subst P input r.allowed;
  status_is = status ∙ r.status_is;
  text_is = r.text_is;
}

-- an answer to what was read is one to the input, where that is known
pub Answers-read : (told : Option (List ℕ)) (options : PageOptions) (read : List ℕ) (m n : ℕ) (text : List ℕ) (old new : Option (List ℕ))
    → IfSome told (λ input. read ≡ input) → Answers options read m text → n ≡ m → Appends old new text
    → IfSome told (λ input. (t : List ℕ) × Answers options input n t × Appends old new t)
Answers-read None options read m n text old new whole r status written = tt
Answers-read (Some input) options read m n text old new whole r status written = (text, Answers-same options read input m n text r whole status, written)

-- want of memory, before the input was read
pub Answers-unread : (told : Option (List ℕ)) (options : PageOptions) (n : ℕ) (text : List ℕ) (old new : Option (List ℕ))
    → n ≡ 3 → text ≡ codes "fault memory\n" → Appends old new text
    → IfSome told (λ input. (t : List ℕ) × Answers options input n t × Appends old new t)
Answers-unread None options n text old new status is written = tt
Answers-unread (Some input) options n text old new status is written =
    (text, Answers-same options input input 3 n text (Answers-memory options input text is) refl status, written)
