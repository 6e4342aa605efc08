-- What is answered to an input.
use Rattle.std.proofs.Common.{◌≡◌, ℕ, List, Option, None, Some, IfSome, codes, refl, sym, ◌∙◌, subst}
use Rattle.std.specs.Io.KnownBytes.{Appends}
use Rattle.fax_pagestore.specs.Pages.{PageValue}
use Rattle.fax_jobs.specs.declared.report.Report.{Report}
use Rattle.fax_command.specs.declared.input_fault.InputFault.{InputFault}
use Rattle.fax_command.specs.declared.input_fault.InputFault.TheVariants.{NoMemory}
use Rattle.fax_command.specs.Answers.{RefusesPage, fault_line}
use Rattle.fax_command.specs.Runs.{RunsOver, Sinks, Sources}
use Rattle.fax_loop.specs.declared.ending.Ending.{Ending}
use Rattle.fax_loop.specs.declared.ending.Ending.TheVariants as endings
use Rattle.fax_loop.specs.Answers.{Answers, EndsOf, EndsSo, Allows, IsInput, IsOf, Outcome, Refuses, Reports, ReportsNone, page_options, fault_ending, ending_status}

-- the line of what is wrong with the input
pub EndsSo-fault : (Sent : PageValue → Option Report → List PageValue → Type 0) (input text : List ℕ) (end : Ending) (fault : InputFault) → RefusesPage page_options input fault → end ≡ fault_ending fault → text ≡ fault_line fault
    → EndsSo Sent input end text
EndsSo-fault Sent input text end fault refused is line = record { outcome = Refuses fault; allowed = refused; ending_is = is; text_is = line }

-- memory may be wanting at any input
pub EndsSo-memory : (Sent : PageValue → Option Report → List PageValue → Type 0) (input text : List ℕ) → text ≡ codes "fault memory\n" → EndsSo Sent input endings.NoMemory text
EndsSo-memory Sent input text is = EndsSo-fault Sent input text endings.NoMemory NoMemory tt refl is

-- what a call came to, where the page was that of the input
pub EndsSo-told : (Sent : PageValue → Option Report → List PageValue → Type 0) (input text : List ℕ) (page : PageValue) (report : Option Report) (pages : List PageValue) (end : Ending) → IsInput page input → Sent page report pages
    → EndsOf report pages end text → EndsSo Sent input end text
EndsSo-told Sent input text page report pages end is sent told = record { outcome = told.outcome; allowed = by told.outcome told.is_of; ending_is = told.ending_is; text_is = told.text_is }
  where
    by : (outcome : Outcome) → IsOf report pages outcome → Allows Sent input outcome
    by (Reports r rows) of = (pages, (page, is, subst (λ (o : Option Report). Sent page o pages) of.0 sent), of.1)
    by ReportsNone of = (pages, (page, is, subst (λ (o : Option Report). Sent page o pages) of sent))
    by (Refuses fault) of = subst (λ (f : InputFault). RefusesPage page_options input f) (sym of) tt

-- an answer, said of equal things
pub EndsSo-same : (Sent : PageValue → Option Report → List PageValue → Type 0) (a b : List ℕ) (m n : Ending) (text : List ℕ) → EndsSo Sent a m text → a ≡ b → n ≡ m → EndsSo Sent b n text
EndsSo-same Sent a b m n text r input end = record {
  outcome = r.outcome;
  allowed = let P : List ℕ → Type 0 = λ x. Allows Sent x r.outcome in subst P input r.allowed;
  ending_is = end ∙ r.ending_is;
  text_is = r.text_is;
}

-- an answer to what was read is one to the input, where that is known
pub EndsSo-read : (Sent : PageValue → Option Report → List PageValue → Type 0) (told : Option (List ℕ)) (read : List ℕ) (m n : Ending) (text : List ℕ) (old new : Option (List ℕ))
    → IfSome told (λ input. read ≡ input) → EndsSo Sent read m text → n ≡ m → Appends old new text
    → IfSome told (λ input. (t : List ℕ) × EndsSo Sent input n t × Appends old new t)
EndsSo-read Sent None read m n text old new whole r end written = tt
EndsSo-read Sent (Some input) read m n text old new whole r end written = (text, EndsSo-same Sent read input m n text r whole end, written)

-- want of memory, before the input was read
pub EndsSo-unread : (Sent : PageValue → Option Report → List PageValue → Type 0) (told : Option (List ℕ)) (n : Ending) (text : List ℕ) (old new : Option (List ℕ))
    → n ≡ endings.NoMemory → text ≡ codes "fault memory\n" → Appends old new text
    → IfSome told (λ input. (t : List ℕ) × EndsSo Sent input n t × Appends old new t)
EndsSo-unread Sent None n text old new end is written = tt
EndsSo-unread Sent (Some input) n text old new end is written = (text, EndsSo-same Sent input input endings.NoMemory n text (EndsSo-memory Sent input text is) refl end, written)

-- the status of how it ends
pub Answers-ended : (Sent : PageValue → Option Report → List PageValue → Type 0) (told : Option (List ℕ)) (end : Ending) (status : ℕ) (old new : Option (List ℕ))
    → IfSome told (λ input. (text : List ℕ) × EndsSo Sent input end text × Appends old new text) → status ≡ ending_status end
    → IfSome told (λ input. (text : List ℕ) × Answers Sent input status text × Appends old new text)
Answers-ended Sent None end status old new ended is = tt
Answers-ended Sent (Some input) end status old new (text, ends, written) is = (text, record { ending = end; ends_so = ends; status_is = is }, written)

-- a run is one by its status
pub Runs-ended : {I O : Type 0} {sources : Sources I} {sinks : Sinks O} {source read : I} {sink written : O} {status other : ℕ} → RunsOver sources sinks source read sink written other → status ≡ other
    → RunsOver sources sinks source read sink written status
Runs-ended {sources = sources} {sinks = sinks} {source = source} {read = read} {sink = sink} {written = written} runs is = subst (λ (n : ℕ). RunsOver sources sinks source read sink written n) (sym is) runs
