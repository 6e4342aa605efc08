-- Over lines that carry what was handed to them each page that the machine that is called confirms is the page.
use Rattle.std.proofs.Common.{◌≡◌, ℕ, ◌<◌, List, [], ◌++◌, length, reverse, Option, Some, None, refl, sym, ◌∙◌, ap, subst, arith, append-nil}
use Rattle.std.specs.Prelude.{flat_map}
use Rattle.fax_pagestore.specs.Pages.{PageValue, IsPage}
use Rattle.fax_udptl.specs.Sending.{AreShort}
use Rattle.fax_jobs.specs.declared.report.Report.{Report}
use Rattle.fax_jobs.specs.Books.{job_of}
use Rattle.fax_jobs.specs.Jobs.{JobValue}
use Rattle.fax_call.specs.Writings.{Writing, IsWriting}
use Rattle.fax_call.proofs.Texts.{pages_have_texts}
use Rattle.fax_gateway.specs.declared.settings.Settings.{Settings}
use Rattle.fax_gateway.specs.Setups.{AreAllowed, AreSet, Setup}
use Rattle.fax_gateway.specs.CallingLegs.{calling_leg}
use Rattle.fax_gateway.specs.CalledLegs.{CalledLeg}
use Rattle.fax_gateway.specs.Driving.{receipts, sent}
use Rattle.fax_gateway.specs.Reached.{arrived_on, given_on}
use Rattle.fax_gateway.specs.Reports.{JobsHaveStates}
use Rattle.fax_gateway.specs.BothLegs.{both_legs}
use Rattle.fax_gateway.specs.Wires.{Grows, Receipt}
use Rattle.fax_loop.specs.Exchanges.{IsExchange, IsPlayed, Lines, Round, answerer_after, caller_after, log_after, moment_after, trace_after}
use Rattle.fax_loop.specs.Faithful.{AreCarried, AreHonest, arrived_by, given_by}
use Rattle.fax_loop.specs.Links.{AreLinked, AreLinkedBack, ConfirmsThePageOver, IsDelivered, IsFaithful, came_called, came_calling, handed_called, most_near}
use Rattle.fax_terminal.specs.Terminals.{datagrams_of, octets_of, pages_on}
use Rattle.fax_loop.proofs.AnswererTrace.{answerer_followed}
use Rattle.fax_loop.proofs.Arrived.{answerer_read, called_leg_read, gateway_read}
use Rattle.fax_loop.proofs.Delivers.{confirms_if_delivered, none_told}
use Rattle.fax_loop.proofs.Faithfully.{confirms_the_page, in_order, is_job_of, one_ring}
use Rattle.fax_loop.proofs.Linked.{AreIn, are_carried, are_in, datagrams_many}
use Rattle.fax_loop.proofs.OneCall.{hands_what_it_gave}
use Rattle.fax_gateway.proofs.OnePage.{Gives}
use Rattle.fax_loop.proofs.Relayed.{Carries, IfGives, called_gives, caller_gives, sends_of}
use Rattle.fax_gateway.proofs.ShortPackets.{gives_short}

-- what went over a line since nothing had
after_none : {A : Type 0} (newer list older : List A) → ◌≡◌ {A = Option (List A)} (Some []) (Some older) → list ≡ newer ++ older → list ≡ newer
after_none {A} newer list older e is = let none : older ≡ [] = cc in is ∙ ap (λ (xs : List A). newer ++ xs) none ∙ append-nil newer

grown : {A : Type 0} (newer list : List A) (before after : Option (List A)) → before ≡ Some [] → after ≡ Some list → Grows newer before after → list ≡ newer
grown {A} newer list before after b a g =
    let h : Grows newer (Some []) (Some list) = subst (λ (x : Option (List A)). Grows newer x (Some list)) b (subst (λ (x : Option (List A)). Grows newer before x) a g) in
    after_none newer list h.0 h.1 h.2

-- the packets of a leg are short
leg_short : (writes : Writing) (page : PageValue) (o : Option CalledLeg) → IfGives writes page o → AreShort (given_by o)
leg_short writes page None g = tt
leg_short writes page (Some l) g = gives_short writes page l g

few_given : (setup : Setup) (given : List (List ℕ)) → length (datagrams_of setup given) < most_near → length given < most_near
few_given setup given h = let l : length (datagrams_of setup given) ≡ length given = datagrams_many setup given in omega arith

are_honest : JobsHaveStates → (setup : Setup) (writes : Writing) (page : PageValue) (before after : Lines) (report : Option Report) (pages : List PageValue) → setup.restored ≡ [] → IsWriting writes → IsPage page
    → (p : IsPlayed setup writes (job_of 0 page) before after report pages) → AreLinked before after → AreHonest setup writes (job_of 0 page) p.rounds
are_honest states setup writes page before after report pages new w is p l =
    let rounds : List Round = p.rounds in
    let caller : CalledLeg = caller_after setup writes (job_of 0 page) rounds in
    let leg : Option CalledLeg = (both_legs setup writes (trace_after rounds)).leg in
    let gives : Gives writes page caller = caller_gives setup writes page (job_of 0 page) rounds w (is_job_of page is) (refl, tt) in
    let caller_is : l.caller_sent ≡ datagrams_of setup caller.given = grown (datagrams_of setup caller.given) l.caller_sent before.caller.sent after.caller.sent l.caller_tells.0 l.caller_tells.1 p.carried.caller_sent in
    let receipts_are : l.receipts ≡ receipts (log_after rounds) = grown (receipts (log_after rounds)) l.receipts before.wire.received after.wire.received l.receipts_told.0 l.receipts_told.1 p.carried.wire.received in
    let handed_are : l.handed ≡ sent (log_after rounds) = grown (sent (log_after rounds)) l.handed before.wire.sent after.wire.sent l.handed_told.0 l.handed_told.1 p.carried.wire.sent in
    let received : List (List ℕ) = flat_map (λ round. octets_of round.called) rounds in
    let received_is : l.answerer_received ≡ received = grown received l.answerer_received before.answerer.received after.answerer.received l.answerer_tells.0 l.answerer_tells.1 p.carried.came_to_answerer in
    let came : AreIn (datagrams_of setup caller.given) (came_calling (receipts (log_after rounds))) =
    subst (λ (rs : List Receipt). AreIn (datagrams_of setup caller.given) (came_calling rs)) receipts_are
    (subst (λ (xs : List (List ℕ)). AreIn xs (came_calling l.receipts)) caller_is (are_in l.caller_sent (came_calling l.receipts) l.to_gateway)) in
    let to_gateway : AreCarried caller.given (arrived_on (calling_leg setup (trace_after rounds))) =
    are_carried setup caller.given (arrived_on (calling_leg setup (trace_after rounds))) (gives_short writes page caller gives)
    (few_given setup caller.given (subst (λ (xs : List (List ℕ)). length xs < most_near) caller_is l.few_to_gateway))
    (gateway_read setup (datagrams_of setup caller.given) (log_after rounds) came) in
    let carries : Carries setup writes caller.given (trace_after rounds) = record { is_trace = p.trace; rings = one_ring setup writes rounds p.are_rounds; carried = to_gateway } in
    let called : IfGives writes page leg = called_gives setup writes (trace_after rounds) page caller.given new w (sends_of page writes caller w gives) carries in
    let hands : handed_called l.handed ≡ datagrams_of setup (given_by leg) = ap handed_called handed_are ∙ hands_what_it_gave states setup writes rounds p.are_rounds p.trace in
    let heard : AreIn (datagrams_of setup (given_by leg)) received =
    subst (λ (ys : List (List ℕ)). AreIn (datagrams_of setup (given_by leg)) ys) received_is
    (subst (λ (xs : List (List ℕ)). AreIn xs l.answerer_received) hands (are_in (handed_called l.handed) l.answerer_received l.to_answerer)) in
    let to_answerer : AreCarried (given_by leg) (arrived_on (answerer_after setup rounds)) =
    are_carried setup (given_by leg) (arrived_on (answerer_after setup rounds)) (leg_short writes page leg called)
    (few_given setup (given_by leg) (subst (λ (xs : List (List ℕ)). length xs < most_near) hands l.few_to_answerer))
    (answerer_read setup (datagrams_of setup (given_by leg)) rounds heard) in
    record { to_gateway = to_gateway; to_answerer = to_answerer }

-- the way back, where no page was confirmed
is_back : (setup : Setup) (writes : Writing) (job : JobValue) (before after : Lines) (report : Option Report) (pages : List PageValue) (p : IsPlayed setup writes job before after report pages) → AreLinkedBack before after
    → pages_on (answerer_after setup p.rounds) ≡ [] → AreCarried (given_on (answerer_after setup p.rounds)) (arrived_by (both_legs setup writes (trace_after p.rounds)).leg)
is_back setup writes job before after report pages p l none =
    let rounds : List Round = p.rounds in
    let given : List (List ℕ) = given_on (answerer_after setup rounds) in
    let told = none_told setup writes (moment_after rounds) (answerer_after setup rounds) (answerer_followed setup writes writes rounds p.are_rounds) none in
    let sent_is : l.answerer_sent ≡ datagrams_of setup given = grown (datagrams_of setup given) l.answerer_sent before.answerer.sent after.answerer.sent l.answerer_tells.0 l.answerer_tells.1 p.carried.answerer_sent in
    let receipts_are : l.receipts ≡ receipts (log_after rounds) = grown (receipts (log_after rounds)) l.receipts before.wire.received after.wire.received l.receipts_told.0 l.receipts_told.1 p.carried.wire.received in
    let came : AreIn (datagrams_of setup given) (came_called (receipts (log_after rounds))) =
    subst (λ (rs : List Receipt). AreIn (datagrams_of setup given) (came_called rs)) receipts_are
    (subst (λ (xs : List (List ℕ)). AreIn xs (came_called l.receipts)) sent_is (are_in l.answerer_sent (came_called l.receipts) l.from_answerer)) in
    are_carried setup given (arrived_by (both_legs setup writes (trace_after rounds)).leg) told.1
    (few_given setup given (subst (λ (xs : List (List ℕ)). length xs < most_near) sent_is l.few_from_answerer))
    (called_leg_read setup writes (datagrams_of setup given) (log_after rounds) (one_ring setup writes rounds p.are_rounds) came)

none_on : (pages newest : List PageValue) → reverse pages ≡ newest → pages ≡ [] → newest ≡ []
none_on pages newest e none = sym e ∙ ap (λ (xs : List PageValue). reverse xs) none

delivers : JobsHaveStates → (setup : Setup) (writes : Writing) (page : PageValue) (before after : Lines) (report : Option Report) (pages : List PageValue) → setup.restored ≡ [] → IsWriting writes → IsPage page
    → (p : IsPlayed setup writes (job_of 0 page) before after report pages) → AreLinked before after → AreLinkedBack before after → (o : Option Report) → report ≡ o → IsDelivered o → pages ≡ [] → ⊥
delivers states setup writes page before after report pages new w is p l back None e d none = d
delivers states setup writes page before after report pages new w is p l back (Some r) e d none =
    let empty : pages_on (answerer_after setup p.rounds) ≡ [] = none_on pages (pages_on (answerer_after setup p.rounds)) p.pages_are none in
    confirms_if_delivered states setup writes page p.rounds r new w is p.are_rounds p.trace (are_honest states setup writes page before after report pages new w is p l)
    (is_back setup writes (job_of 0 page) before after report pages p back empty) (sym p.report_is ∙ e) d empty

pub confirms_the_page_over : JobsHaveStates → ConfirmsThePageOver
confirms_the_page_over states setup writes page before after report pages new w is p = record {
  the_page = λ l. in_order page pages (pages_on (answerer_after setup p.rounds)) p.pages_are
      (confirms_the_page setup writes page p.rounds new w is p.are_rounds p.trace (are_honest states setup writes page before after report pages new w is p l));
  delivered = λ l back d. delivers states setup writes page before after report pages new w is p l back report refl d;
}

-- so is an exchange, whose settings have a setup
pub exchange_is_faithful : ConfirmsThePageOver → (settings : Settings) (page : PageValue) (before after : Lines) (report : Option Report) (pages : List PageValue) → AreAllowed settings → IsPage page
    → IsExchange settings (job_of 0 page) before after report pages → IsFaithful before after page report pages
exchange_is_faithful law settings page before after report pages allowed is e =
    let setup : Setup = record { redundancy = settings.redundancy; few = allowed.0; pause = settings.preamble_ms; is_pause = allowed.1; asks = settings.asks; restored = []; are_pages = tt } in
    let set : AreSet setup settings = record { set = record { redundancy = refl; pause = refl; asks = refl }; restored = refl } in
    law setup pages_have_texts.0 page before after report pages refl pages_have_texts.1 is (e setup pages_have_texts.0 set pages_have_texts.1)
