-- An exchange, round by round.
use Rattle.std.proofs.Common.{◌≡◌, ◌↔◌, ℕ, ◌+◌, ◌*◌, ◌<◌, inl, inr, suc, add-one, is_some, Bool, true, false, IsTrue, List, [], ◌∷◌, ◌++◌, length, reverse, Option, Some, None, IsSome, Ok, refl, sym, ◌∙◌, ap, subst, arith}
use Rattle.std.proofs.lemmas.List.{reverse-append}
use Rattle.fax_pagestore.specs.Pages.{PageValue}
use Rattle.fax_jobs.specs.Jobs.{JobValue}
use Rattle.fax_jobs.specs.declared.report.Report.{Report}
use Rattle.fax_call.specs.Writings.{Writing}
use Rattle.fax_gateway.specs.Setups.{Setup}
use Rattle.fax_gateway.specs.Events.{Ring}
use Rattle.fax_gateway.specs.Driving.{Entry, Happens, HasMade, IsTurn, failed_in_a_row, most_failed, receipts}
use Rattle.fax_gateway.specs.Reached.{IsReachedBy}
use Rattle.fax_gateway.proofs.DrivingLemmas.{carries_more, carries_none, grows_more, grows_none, has_failed, reached_more}
use Rattle.fax_terminal.specs.Stores.{pages_of}
use Rattle.fax_terminal.specs.Turns.{AnswererTurned, CallerTurns}
use Rattle.fax_loop.specs.declared.exchange.Parties.{Parties}
use Rattle.fax_terminal.specs.Terminals.{octets_of, pages_on}
use Rattle.fax_loop.specs.Exchanges.{CarriesRounds, IsPlayed, Lines, Round, answerer_after, caller_after, log_after, moment_after, most_rounds, reported, trace_after}
use Rattle.fax_loop.specs.Rep.{HasEnded, HasGone, HasPlayed}
use Rattle.fax_terminal.proofs.AnsweringLemmas.{answerer_sends, called_turned-pages}
use Rattle.fax_terminal.proofs.CallingLemmas.{caller_sends, calling_with-job}

-- the job is that of the call
pub caller_after-job : (setup : Setup) (writes : Writing) (job : JobValue) (rounds : List Round) → (caller_after setup writes job rounds).job ≡ job
caller_after-job setup writes job [] = refl
caller_after-job setup writes job (round ∷ rounds) = calling_with-job writes (moment_after rounds) round.calling (caller_after setup writes job rounds) ∙ caller_after-job setup writes job rounds

-- the pages that are kept are one more, where one was confirmed
pages_kept : (page : Option PageValue) (pages : List PageValue) → reverse (pages ++ pages_of page) ≡ pages_of page ++ reverse pages
pages_kept None pages = reverse-append pages []
pages_kept (Some page) pages = reverse-append pages (page ∷ [])

-- nothing was carried yet
pub carried_none : (setup : Setup) (writes : Writing) (job : JobValue) (lines : Lines) → CarriesRounds setup writes job [] lines lines
carried_none setup writes job lines = record {
  came_to_caller = grows_none lines.caller.received;
  caller_sent = grows_none lines.caller.sent;
  wire = carries_none lines.wire;
  came_to_answerer = grows_none lines.answerer.received;
  answerer_sent = grows_none lines.answerer.sent;
}

-- the moment of a round
pub moment_is : (rounds : List Round) (n now : ℕ) → length rounds ≡ n → n < most_rounds → now ≡ 40 * n → now ≡ moment_after rounds
moment_is rounds n now many low is = omega arith

-- one round more
pub round_more : (setup : Setup) (writes : Writing) (job : JobValue) (rounds : List Round) (now : ℕ) (before a b : Lines) (old new : Parties) (turn : List Entry)
    → now ≡ moment_after rounds → length rounds < most_rounds → reported setup writes rounds ≡ None → failed_in_a_row (receipts (log_after rounds)) < most_failed
    → HasPlayed setup writes job rounds before a old
    → CallerTurns setup writes (caller_after setup writes job rounds) now a.caller b.caller new.caller
    → IsTurn now turn → Happens setup writes turn (trace_after rounds) new.gateway a.wire b.wire → HasMade (turn ++ log_after rounds) new.driver
    → {K : Type 0} (keeps : PageValue → Bool → K → K → Type 0) (first last : K) (page : Option PageValue) → AnswererTurned keeps (Ok page) setup (answerer_after setup rounds) now a.answerer b.answerer first last new.answerer
    → new.confirmed.items ≡ old.confirmed.items ++ pages_of page
    → (round : Round) × (round.gateway ≡ turn) × HasPlayed setup writes job (round ∷ rounds) before b new
round_more setup writes job rounds now before a b old new turn at few unreported goes p calling turned happens made {K} keeps first last page called kept =
    let c = subst (λ n. CallerTurns setup writes (caller_after setup writes job rounds) n a.caller b.caller new.caller) at calling in
    let (d, page_is) = subst (λ n. AnswererTurned keeps (Ok page) setup (answerer_after setup rounds) n a.answerer b.answerer first last new.answerer) at called in
    let leg = answerer_after setup rounds in
    let round : Round = record { calling = c.came; gateway = turn; called = d.came } in (
      round,
      refl,
      record {
        are_rounds = (
          record { few = few; unreported = unreported; receives = goes; few_calling = c.few; turn = subst (λ n. IsTurn n turn) at turned; few_called = d.few; read = d.read },
          p.are_rounds,
        );
        gateway = reached_more setup writes (log_after rounds) turn (Ring 0 0 ∷ []) new.gateway happens.reached;
        driver = made;
        caller = c.called;
        answerer = d.answering;
        pages_are =
            ap reverse kept ∙ pages_kept page old.confirmed.items ∙ ap (λ (pages : List PageValue). pages_of page ++ pages) p.pages_are ∙ ap (λ (o : Option PageValue). pages_of o ++ pages_on leg) page_is
            ∙ sym (called_turned-pages setup (moment_after rounds) d.came leg);
        carried = record {
          came_to_caller = grows_more _ c.came before.caller.received a.caller.received b.caller.received p.carried.came_to_caller c.received;
          caller_sent = caller_sends setup writes (moment_after rounds) c.came (caller_after setup writes job rounds) before.caller a.caller b.caller p.carried.caller_sent c.sent;
          wire = carries_more (log_after rounds) turn before.wire a.wire b.wire p.carried.wire happens.carried;
          came_to_answerer = grows_more _ (octets_of d.came) before.answerer.received a.answerer.received b.answerer.received p.carried.came_to_answerer d.received;
          answerer_sent = answerer_sends setup (moment_after rounds) d.came (answerer_after setup rounds) before.answerer a.answerer b.answerer p.carried.answerer_sent d.sent;
        };
      },
    )

-- no round was played
pub gone_none : (setup : Setup) (writes : Writing) (job : JobValue) (before after : Lines) (parties : Parties) → HasPlayed setup writes job [] before after parties
    → HasGone setup writes job 0 true before after parties
gone_none setup writes job before after parties p = record { rounds = []; many = refl; receives = (λ e. omega arith, λ low. refl); played = p }

-- no more are played where the last 100 receives failed, where the job is reported, and after the last
pub ended_failed : (setup : Setup) (writes : Writing) (job : JobValue) (count : ℕ) (goes_on : Bool) (before after : Lines) (parties : Parties) → goes_on ≡ false
    → HasGone setup writes job count goes_on before after parties → HasEnded setup writes job before after parties
ended_failed setup writes job count goes_on before after parties off g = record {
  rounds = g.rounds;
  over =
      let row = failed_in_a_row (receipts (log_after g.rounds)) in
      inr (inl (has_failed row (subst (λ b. IsTrue b ↔ (row < most_failed)) off g.receives)));
  played = g.played;
}

pub ended_reported : (setup : Setup) (writes : Writing) (job : JobValue) (count : ℕ) (goes_on : Bool) (before after : Lines) (parties : Parties) (report : Option Report) → IsSome report
    → ((rounds : List Round) → IsReachedBy setup writes (trace_after rounds) parties.gateway → report ≡ reported setup writes rounds)
    → HasGone setup writes job count goes_on before after parties → HasEnded setup writes job before after parties
ended_reported setup writes job count goes_on before after parties report some told g = record {
  rounds = g.rounds;
  over = inl (subst (λ (r : Option Report). IsSome r) (told g.rounds g.played.gateway) some);
  played = g.played;
}

pub ended_last : (setup : Setup) (writes : Writing) (job : JobValue) (count : ℕ) (goes_on : Bool) (before after : Lines) (parties : Parties) → count ≡ most_rounds
    → HasGone setup writes job count goes_on before after parties → HasEnded setup writes job before after parties
ended_last setup writes job count goes_on before after parties last g = record { rounds = g.rounds; over = inr (inr (g.many ∙ last)); played = g.played }

-- how it ended
pub played_ended : (setup : Setup) (writes : Writing) (job : JobValue) (before after : Lines) (parties : Parties) (report : Option Report) (pages : List PageValue)
    → ((rounds : List Round) → IsReachedBy setup writes (trace_after rounds) parties.gateway → report ≡ reported setup writes rounds)
    → pages ≡ parties.confirmed.items → HasEnded setup writes job before after parties → IsPlayed setup writes job before after report pages
played_ended setup writes job before after parties report pages told same e = record {
  rounds = e.rounds;
  are_rounds = e.played.are_rounds;
  over = e.over;
  trace = e.played.gateway.is_trace;
  carried = e.played.carried;
  report_is = told e.rounds e.played.gateway;
  pages_are = ap reverse same ∙ e.played.pages_are;
}

none : (o : Option Report) → is_some o ≡ false → o ≡ None
none None h = refl
none (Some report) h = cc

-- one round more of those that are played until the job is reported
pub gone_more : (setup : Setup) (writes : Writing) (job : JobValue) (count now : ℕ) (goes_on after : Bool) (before a b : Lines) (old new : Parties) (report : Option Report)
    → count < most_rounds → now ≡ 40 * count → IsTrue goes_on → is_some report ≡ false
    → ((rounds : List Round) → IsReachedBy setup writes (trace_after rounds) old.gateway → report ≡ reported setup writes rounds)
    → ((rounds : List Round) → now ≡ moment_after rounds → length rounds < most_rounds → reported setup writes rounds ≡ None → failed_in_a_row (receipts (log_after rounds)) < most_failed → HasPlayed setup writes job rounds before a old
    → (round : Round) × (IsTrue after ↔ (failed_in_a_row (receipts (log_after (round ∷ rounds))) < most_failed)) × HasPlayed setup writes job (round ∷ rounds) before b new)
    → HasGone setup writes job count goes_on before a old → HasGone setup writes job (count + 1) after before b new
gone_more setup writes job count now goes_on after before a b old new report low at on unreported told plays g =
    let (round, receives, played) = plays g.rounds (moment_is g.rounds count now g.many low at) (subst (λ (n : ℕ). n < most_rounds) (sym g.many) low) (sym (told g.rounds g.played.gateway) ∙ none report unreported) (g.receives.0 on) g.played in
    record { rounds = round ∷ g.rounds; many = ap suc g.many ∙ sym (add-one count); receives = receives; played = played }

-- of a job
pub played_of : (setup : Setup) (writes : Writing) (job other : JobValue) (before after : Lines) (report : Option Report) (pages : List PageValue) → job ≡ other
    → IsPlayed setup writes job before after report pages → IsPlayed setup writes other before after report pages
played_of setup writes job other before after report pages same p = subst (λ (j : JobValue). IsPlayed setup writes j before after report pages) same p
