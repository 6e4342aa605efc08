-- Over lives: what a restored gateway sends was confirmed in an earlier life, and nothing is lost.
use Rattle.std.proofs.Common.{◌≡◌, ℕ, max, not, ◌&&◌, List, [], ◌∷◌, ◌++◌, ◌⊎◌, inl, inr, Option, Some, None, refl, sym, ◌∙◌, ap, subst, append_assoc}
use Rattle.std.proofs.lemmas.List.{append-nil}
use Rattle.fax_pagestore.specs.Pages.{PageValue}
use Rattle.fax_jobs.specs.Pasts.{Step, Past}
use Rattle.fax_answer.specs.Replies.{ConfirmedPage}
use Rattle.fax_call.specs.Writings.{Writing}
use Rattle.fax_call.specs.Emission.{Mark}
use Rattle.fax_gateway.specs.Restored.{CallPage, pages_restored}
use Rattle.fax_gateway.specs.Setups.{Setup}
use Rattle.fax_gateway.specs.Events.{Event, Ring, FromCalling, FromCalled, Tick, Placed, Given, clock}
use Rattle.fax_gateway.specs.CallingLegs.{CallingLeg, calling_leg, idle_after, answers, confirmed_by}
use Rattle.fax_gateway.specs.CalledLegs.{outcome_told, delivered_told}
use Rattle.fax_gateway.specs.BothLegs.{BothLegs, past_of, book_of, confirms_if, heard_in_tick, both_legs, in_tick}
use Rattle.fax_gateway.specs.Traces.{IsTrace}
use Rattle.fax_gateway.specs.Told.{elements_told, leg_marks, marks_before}
use Rattle.fax_gateway.specs.Forwards.{OrRestored, WasConfirmedIn, IsForwarded, IsForwardedBy}
use Rattle.fax_gateway.specs.Lives.{Life, page_list, pages_at, pages_confirmed, pages_had, AreSomeOf, AreLives, WasConfirmedInOne, ForwardsOverLives, pages_of_jobs, pages_left, all_ended, NoneIsLost}
use Rattle.fax_gateway.proofs.Restoring.{EachPage, each_map, each_both}
use Rattle.fax_gateway.proofs.Confirmed.{later_in, confirmed_now}
use Rattle.fax_gateway.proofs.Forwarding.{each_emission, forwards}
use Rattle.fax_gateway.proofs.OwnConfirmed.{confirmed_told, all_told, ends_told, sends_told, enters_told, restored_first}

-- THE HEADLINE
some_hold : (P : ℕ → PageValue → Type 0) (some all : List CallPage) → AreSomeOf some all → EachPage P all → EachPage P some
some_hold P some [] s e = subst (EachPage P) (sym s) tt
some_hold P [] (p ∷ all) s e = tt
some_hold P (q ∷ some) (p ∷ all) (inl s) e = (subst (λ (r : CallPage). P r.call r.page) (sym s.0) e.0, some_hold P some all s.1 e.1)
some_hold P (q ∷ some) (p ∷ all) (inr s) e = some_hold P (q ∷ some) all s e.1

-- what a life confirmed was confirmed in it
later_pages : (setup : Setup) (e : Event) (trace : List Event) (rs : List CallPage) → EachPage (WasConfirmedIn setup trace) rs → EachPage (WasConfirmedIn setup (e ∷ trace)) rs
later_pages setup e trace rs h = each_map (WasConfirmedIn setup trace) (WasConfirmedIn setup (e ∷ trace)) rs (later_in setup e trace) h

at_tick : (setup : Setup) (writes : Writing) (earlier : List Event) (at : ℕ) (given : Given) (o : Option CallingLeg) → IsTrace setup writes (Tick at given ∷ earlier) → calling_leg setup earlier ≡ o →
    EachPage (WasConfirmedIn setup (Tick at given ∷ earlier)) (pages_at o (max at (clock earlier)))
at_tick setup writes earlier at given None t is = tt
at_tick setup writes earlier at given (Some l) t is = by (confirmed_by (answers l (max at (clock earlier))).given) refl
  where
    by : (o : Option ConfirmedPage) → confirmed_by (answers l (max at (clock earlier))).given ≡ o → EachPage (WasConfirmedIn setup (Tick at given ∷ earlier)) (page_list l.number o)
    by None h = tt
    by (Some c) h = (confirmed_now setup writes earlier at given l c t is h, tt)

confirmed_here : (setup : Setup) (writes : Writing) (trace : List Event) → IsTrace setup writes trace → EachPage (WasConfirmedIn setup trace) (pages_confirmed setup trace)
confirmed_here setup writes [] t = tt
confirmed_here setup writes (Ring at n ∷ earlier) t = later_pages setup (Ring at n) earlier (pages_confirmed setup earlier) (confirmed_here setup writes earlier t.1)
confirmed_here setup writes (FromCalling octets at decided read ∷ earlier) t =
    later_pages setup (FromCalling octets at decided read) earlier (pages_confirmed setup earlier) (confirmed_here setup writes earlier t.1)
confirmed_here setup writes (FromCalled octets at decided ∷ earlier) t =
    later_pages setup (FromCalled octets at decided) earlier (pages_confirmed setup earlier) (confirmed_here setup writes earlier t.1)
confirmed_here setup writes (Placed at connected ∷ earlier) t =
    later_pages setup (Placed at connected) earlier (pages_confirmed setup earlier) (confirmed_here setup writes earlier t.1)
confirmed_here setup writes (Tick at given ∷ earlier) t =
    each_both (WasConfirmedIn setup (Tick at given ∷ earlier)) (pages_confirmed setup earlier) (pages_at (calling_leg setup earlier) (max at (clock earlier)))
    (later_pages setup (Tick at given) earlier (pages_confirmed setup earlier) (confirmed_here setup writes earlier t.1))
    (at_tick setup writes earlier at given (calling_leg setup earlier) t refl)

-- so what it is restored with was confirmed in a life before it
had_hold : (writes : Writing) (lives : List Life) → AreLives writes lives → EachPage (WasConfirmedInOne lives) (pages_had lives)
had_hold writes [] a = tt
had_hold writes (life ∷ earlier) a =
    each_both (WasConfirmedInOne (life ∷ earlier)) (pages_restored life.setup.restored) (pages_confirmed life.setup life.trace)
    (each_map (WasConfirmedInOne earlier) (WasConfirmedInOne (life ∷ earlier)) (pages_restored life.setup.restored) (λ call page w. inr w)
    (some_hold (WasConfirmedInOne earlier) (pages_restored life.setup.restored) (pages_had earlier) a.1 (had_hold writes earlier a.2)))
    (each_map (WasConfirmedIn life.setup life.trace) (WasConfirmedInOne (life ∷ earlier)) (pages_confirmed life.setup life.trace) (λ call page w. inl w)
    (confirmed_here life.setup writes life.trace a.0))

or_before : (P : ℕ → PageValue → Type 0) (rs : List CallPage) (call : ℕ) (page : PageValue) (A : Type 0) → EachPage P rs → OrRestored rs call page A → A ⊎ P call page
or_before P [] call page A e o = inl o
or_before P (r ∷ rs) call page A e (inl s) = inr (subst (λ (x : CallPage). P x.call x.page) s e.0)
or_before P (r ∷ rs) call page A e (inr o) = or_before P rs call page A e.1 o

pub forwards_over_lives : ForwardsOverLives
forwards_over_lives setup writes lives earlier at given w a =
    let book = book_of (in_tick setup writes earlier at) in
    let marks : List Mark = marks_before setup writes earlier at (leg_marks setup writes earlier) in
    let P : ℕ → PageValue → Type 0 = WasConfirmedInOne lives in
    let e : EachPage P (pages_restored setup.restored) = some_hold P (pages_restored setup.restored) (pages_had lives) a.1 (had_hold writes lives a.2) in
    each_emission (IsForwarded setup earlier book) (IsForwardedBy (WasConfirmedInOne (record { setup = setup; trace = earlier } ∷ lives)) book) marks (elements_told given.on_called)
    (λ ms x f. record {
      job = f.job;
      is_sending = f.is_sending;
      n = f.n;
      is_page = f.is_page;
      last = f.last;
      emitted = f.emitted;
      answered = f.answered;
      confirmed = or_before P (pages_restored setup.restored) f.job.call f.is_page.page (WasConfirmedIn setup earlier f.job.call f.is_page.page) e f.confirmed;
    })
    (forwards setup writes earlier at given w a.0)

-- NONE IS LOST
confirms_told : (number : ℕ) (o : Option ConfirmedPage) (steps : List Step) → confirmed_told (confirms_if number o steps) ≡ confirmed_told steps ++ page_list number o
confirms_told number None steps = sym (append-nil (confirmed_told steps))
confirms_told number (Some c) steps = refl

heard_told : (o : Option CallingLeg) (now : ℕ) (steps : List Step) → confirmed_told (heard_in_tick o now steps) ≡ confirmed_told steps ++ pages_at o now
heard_told None now steps = sym (append-nil (confirmed_told steps))
heard_told (Some l) now steps =
    ends_told (answers l now).ended (confirms_if l.number (confirmed_by (answers l now).given) steps)
    ∙ confirms_told l.number (confirmed_by (answers l now).given) steps

told_are : (setup : Setup) (writes : Writing) (trace : List Event) → confirmed_told (both_legs setup writes trace).steps ≡ pages_restored setup.restored ++ pages_confirmed setup trace
told_are setup writes [] = restored_first setup.restored [] ∙ sym (append-nil (pages_restored setup.restored))
told_are setup writes (Ring at number ∷ earlier) = told_are setup writes earlier
told_are setup writes (FromCalling octets at decided read ∷ earlier) =
    ends_told (not (idle_after (calling_leg setup earlier)) && idle_after (calling_leg setup (FromCalling octets at decided read ∷ earlier))) (both_legs setup writes earlier).steps ∙ told_are setup writes earlier
told_are setup writes (FromCalled octets at decided ∷ earlier) = told_are setup writes earlier
told_are setup writes (Placed at connected ∷ earlier) = told_are setup writes earlier
told_are setup writes (Tick at given ∷ earlier) =
    let now : ℕ = max at (clock earlier) in
    let s : BothLegs = both_legs setup writes earlier in
    let z : BothLegs = in_tick setup writes earlier at in
    let o : Option CallingLeg = calling_leg setup earlier in
    enters_told (delivered_told writes z.leg now) (outcome_told writes z.leg now) z.steps
    ∙ sends_told setup writes now (record s { steps = heard_in_tick o now s.steps })
    ∙ heard_told o now s.steps
    ∙ ap (λ (x : List CallPage). x ++ pages_at o now) (told_are setup writes earlier)
    ∙ append_assoc (pages_restored setup.restored) (pages_confirmed setup earlier) (pages_at o now)

pub none_is_lost : NoneIsLost
none_is_lost writes [] a = refl
none_is_lost writes (life ∷ earlier) a =
    let own : List CallPage = pages_confirmed life.setup life.trace in
    let front : List CallPage = all_ended writes earlier in
    let steps : List Step = (both_legs life.setup writes life.trace).steps in
    let past : Past = past_of (both_legs life.setup writes life.trace) in
    ap (λ (x : List CallPage). x ++ own) (none_is_lost writes earlier a.2)
    ∙ append_assoc front (pages_left writes earlier) own
    ∙ ap (λ (x : List CallPage). front ++ (x ++ own)) (sym a.1)
    ∙ ap (λ (x : List CallPage). front ++ x) (sym (told_are life.setup writes life.trace) ∙ sym (all_told steps))
    ∙ sym (append_assoc front (pages_of_jobs past.ended) (pages_left writes (life ∷ earlier)))
