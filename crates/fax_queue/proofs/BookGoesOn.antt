-- There are actions of lives: whatever comes to the gateway of a server, these go on.
use Rattle.std.proofs.Common.{◌≡◌, ◌∙◌, ℕ, false, List, [], ◌∷◌, ◌++◌, Option, Some, None, refl, sym, ap}
use Rattle.fax_jobs.specs.declared.report.Report.{Report}
use Rattle.fax_answer.specs.Replies.{ConfirmedPage}
use Rattle.fax_call.specs.Writings.{Writing}
use Rattle.fax_gateway.specs.Restored.{RestoredCall}
use Rattle.fax_gateway.specs.Setups.{Setup}
use Rattle.fax_gateway.specs.Events.{Event, Ring, FromCalling, FromCalled, Tick, Placed, clock}
use Rattle.fax_gateway.specs.CallingLegs.{CallingLeg, calling_leg}
use Rattle.fax_gateway.specs.Cuts.{confirmed_at}
use Rattle.fax_gateway.specs.Lives.{Life}
use Rattle.fax_gateway.specs.Traces.{IsTrace}
use Rattle.fax_queue.specs.Restorations.{ReadPage}
use Rattle.fax_queue.specs.Lives.{PageAction}
use Rattle.fax_queue.specs.Lives.{Stores, Refuses, Ends, Leaves}
use Rattle.fax_queue.specs.Book.{AllIsPut, AreOfLives, NothingIsPut, ServersBegin, ServersGoOn, BookEntry, Confirms, Reports, Restores, confirms, confirms_on, page_of, reports, told_by, told_in, told_over}

-- more actions, by which more is told
record Adds (P : List PageAction → Type 0) (old new : List BookEntry) : Type 0 where
  more : List PageAction
  is : P more
  told : (actions : List PageAction) → told_by actions ≡ old → told_by (more ++ actions) ≡ new

-- a page that is confirmed in the call of this number
abbrev page_in : ℕ → ConfirmedPage → ReadPage
page_in number c =
    record { waits = record { life = 0; call = number; number = 0; format = c.page.format; closes = c.closes; line = []; tag = []; text = [] }; page = c.page }

puts_all : (given : Option (List ℕ)) (number : ℕ) (o : Option ConfirmedPage) (report : Option Report) (old : List BookEntry) → Adds AllIsPut old (reports report (confirms given number o old))
puts_all given number None None old = record { more = []; is = tt; told = λ actions same. same }
puts_all given number (Some c) None old =
    let page : ReadPage = page_in number c in
    record { more = Stores given page ∷ []; is = tt; told = λ actions same. ap (λ (t : List BookEntry). Confirms given (page_of page) c.closes ∷ t) same }
puts_all given number None (Some report) old =
    record { more = Ends report.pages ∷ []; is = tt; told = λ actions same. ap (λ (t : List BookEntry). Reports report.pages ∷ t) same }
puts_all given number (Some c) (Some report) old =
    let page : ReadPage = page_in number c in
    record {
      more = Ends report.pages ∷ Stores given page ∷ [];
      is = tt;
      told = λ actions same. ap (λ (t : List BookEntry). Reports report.pages ∷ Confirms given (page_of page) c.closes ∷ t) same;
    }

puts_nothing : (given : Option (List ℕ)) (number : ℕ) (o : Option ConfirmedPage) (report : Option Report) (old : List BookEntry) → Adds NothingIsPut old (reports report (confirms given number o old))
puts_nothing given number None None old = record { more = []; is = tt; told = λ actions same. same }
puts_nothing given number (Some c) None old =
    let page : ReadPage = page_in number c in
    record { more = Refuses given page false ∷ []; is = (refl, tt); told = λ actions same. ap (λ (t : List BookEntry). Confirms given (page_of page) c.closes ∷ t) same }
puts_nothing given number None (Some report) old =
    record { more = Leaves report.pages ∷ []; is = tt; told = λ actions same. ap (λ (t : List BookEntry). Reports report.pages ∷ t) same }
puts_nothing given number (Some c) (Some report) old =
    let page : ReadPage = page_in number c in
    record {
      more = Leaves report.pages ∷ Refuses given page false ∷ [];
      is = (refl, tt);
      told = λ actions same. ap (λ (t : List BookEntry). Reports report.pages ∷ Confirms given (page_of page) c.closes ∷ t) same;
    }

on_leg : (P : List PageAction → Type 0) → ((given : Option (List ℕ)) (number : ℕ) (o : Option ConfirmedPage) (report : Option Report) (old : List BookEntry) → Adds P old (reports report (confirms given number o old)))
    → (leg : Option CallingLeg) (now : ℕ) (given : Option (List ℕ)) (report : Option Report) (old : List BookEntry) → Adds P old (reports report (confirms_on leg now given old))
on_leg P puts None now given report old = puts given 0 None report old
on_leg P puts (Some l) now given report old = puts given l.number (confirmed_at (Some l) now) report old

on_event : (P : List PageAction → Type 0) → P [] → ((given : Option (List ℕ)) (number : ℕ) (o : Option ConfirmedPage) (report : Option Report) (old : List BookEntry) → Adds P old (reports report (confirms given number o old)))
    → (setup : Setup) (trace : List Event) (before : List BookEntry) (event : Event) → Adds P (told_in setup trace before) (told_in setup (event ∷ trace) before)
on_event P none puts setup trace before (Ring at number) = record { more = []; is = none; told = λ actions same. same }
on_event P none puts setup trace before (FromCalling octets at decided read) = record { more = []; is = none; told = λ actions same. same }
on_event P none puts setup trace before (FromCalled octets at decided) = record { more = []; is = none; told = λ actions same. same }
on_event P none puts setup trace before (Placed at connected) = record { more = []; is = none; told = λ actions same. same }
on_event P none puts setup trace before (Tick at given) =
    on_leg P puts (calling_leg setup trace) (clock (Tick at given ∷ trace)) given.on_calling given.report (told_in setup trace before)

goes_by : (P : List PageAction → Type 0) (writes : Writing) (actions : List PageAction) (life : Life) (earlier : List Life) (event : Event) → AreOfLives writes actions (life ∷ earlier) → IsTrace life.setup writes (event ∷ life.trace)
    → Adds P (told_in life.setup life.trace (told_over earlier)) (told_in life.setup (event ∷ life.trace) (told_over earlier))
    → (more : List PageAction) × P more × AreOfLives writes (more ++ actions) (record { setup = life.setup; trace = event ∷ life.trace } ∷ earlier)
goes_by P writes actions life earlier event are trace adds = (adds.more, adds.is, record { traces = (trace, are.traces.1); same = adds.told actions are.same })

pub servers_go_on : ServersGoOn
servers_go_on writes actions life earlier event are trace = record {
  where_all = goes_by AllIsPut writes actions life earlier event are trace (on_event AllIsPut tt puts_all life.setup life.trace (told_over earlier) event);
  where_nothing = goes_by NothingIsPut writes actions life earlier event are trace (on_event NothingIsPut tt puts_nothing life.setup life.trace (told_over earlier) event);
}

pub servers_begin : ServersBegin
servers_begin writes = (
  record { traces = tt; same = refl },
  λ actions lives setup are owed. record {
    traces = (tt, are.traces);
    same = ap (λ (calls : List RestoredCall). Restores calls ∷ told_by actions) (sym owed) ∙ ap (λ (t : List BookEntry). Restores setup.restored ∷ t) are.same;
  },
)
