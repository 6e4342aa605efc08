-- A job through a gateway: the call that brings its pages, and then the one that sends them on.
use Rattle.std.proofs.Common.{◌≡◌, ℕ, zero, suc, ◌+◌, ◌*◌, ◌≤◌, ◌<◌, max, Bool, true, false, List, [], ◌∷◌, ◌++◌, length, Option, Some, None, Result, Ok, Err, ◌⊎◌, inl, inr, refl, sym, ◌∙◌, ap, subst, arith, lit<, append_assoc, length-append, ◌-◌, if◌then◌else◌}
use Rattle.std.proofs.lemmas.List.{append_cancel_right, same_from_push}
use Rattle.fax_udptl.specs.declared.fault.UdptlFault.{UdptlFault}
use Rattle.fax_udptl.specs.Datagrams.{DatagramValue, datagram_of}
use Rattle.fax_pagestore.specs.Pages.{PageValue}
use Rattle.fax_jobs.specs.declared.outcome.Outcome.{Outcome}
use Rattle.fax_jobs.specs.declared.outcome.Outcome.TheVariants as outcomes
use Rattle.fax_jobs.specs.Books.{Book, job_of, report_of}
use Rattle.fax_runcodes.specs.declared.format.Format.{Format}
use Rattle.fax_jobs.specs.Jobs.{IsJob, IsOfFirst, JobValue}
use Rattle.fax_answer.specs.Calls as answer
use Rattle.fax_answer.specs.Calls.{AnswererCore, new_answering}
use Rattle.fax_answer.specs.Replies.{ConfirmedPage}
use Rattle.fax_answer.specs.Shown.{confirmed_in}
use Rattle.fax_call.specs.declared.state.State.TheVariants as calling
use Rattle.fax_call.specs.Calls.{CallerCore}
use Rattle.fax_call.specs.Delivery.{is_over}
use Rattle.fax_call.specs.Writings.{IsWriting, Writing}
use Rattle.fax_gateway.specs.Setups.{Setup}
use Rattle.fax_gateway.specs.Events.{Ring}
use Rattle.fax_gateway.specs.Restored.{RestoredCall, restores}
use Rattle.fax_gateway.specs.CallingLegs as answers
use Rattle.fax_gateway.specs.CallingLegs.{CallingLeg, confirmed_by, is_idle, rung_leg}
use Rattle.fax_gateway.specs.CalledLegs as calls
use Rattle.fax_gateway.specs.CalledLegs.{core_left, outcome_of}
use Rattle.fax_gateway.specs.BothLegs.{book_of, both_legs}
use Rattle.fax_gateway.specs.Traces.{IsTrace}
use Rattle.fax_gateway.proofs.Serving.{waiting_confirms}
use Rattle.fax_laws.specs.delivery.Jobs.{AreAllPassed, AreDelivered, all_kept, rounds_of_pages}
use Rattle.fax_laws.specs.delivery.Links.{Reader, IsReader, read_by, Link, caller_turned, answerer_turned, packet_given, kept_with, round, rounds, begun}
use Rattle.fax_laws.specs.delivery.Datagrams.{Legs, caller_with, answerer_with, by_caller, legs_round, legs_rounds, legs_begun}
use Rattle.fax_laws.specs.delivery.Gateways.{Relay, AreRelayed, GatewaysPassJobs, GatewaysPassPages, ReportsAreDeliveries, ReportsAreOfJobs, IsRelayed, first_job, pages_on, relay_round, relay_rounds, relay_begun}
use Rattle.fax_laws.proofs.delivery.Legs.{GoAlike, alike_after, begin_alike, confirms_alike}
use Rattle.fax_laws.proofs.delivery.CallingLeg.{OnCalling, calling_on, leg_heard, max_is, trace_on}
use Rattle.fax_laws.proofs.delivery.CalledLeg.{book_in, book_with, last_closes, one_joins, opened_book, waits_with}
use Rattle.fax_laws.proofs.delivery.Relaying.{Before, before_on, confirms, Sending, IsOn, IsReported, sending_begins, sending_on}
use Rattle.fax_laws.proofs.delivery.Whole.{job_awake, jobs_get_through, one_job}
use Rattle.fax_laws.proofs.delivery.WholeLegs.{jobs_pass, over_are_all_passed}

-- ---- PAGES THAT ARE KEPT stay

record Grows (old new : List ConfirmedPage) : Type 0 where
  more : List ConfirmedPage
  is : new ≡ more ++ old

kept_more : (o : Option ConfirmedPage) (old : List ConfirmedPage) → Grows old (kept_with o old)
kept_more None old = record { more = []; is = refl }
kept_more (Some c) old = record { more = c ∷ []; is = refl }

round_kept : (writes : Writing) (reads : Reader) (job : JobValue) (now : ℕ) (y : Link)
    → (round writes reads job now y).kept ≡ kept_with (confirmed_in (answerer_turned reads now (packet_given (caller_turned writes job now y).given) y).given) y.kept
unfolding round
round_kept writes reads job now y = refl

grows : (writes : Writing) (reads : Reader) (job : JobValue) (many now : ℕ) (y : Link) → Grows y.kept (rounds writes reads job many now y).kept
unfolding rounds
grows writes reads job zero now y = record { more = []; is = refl }
grows writes reads job (suc many) now y =
    let o : Option ConfirmedPage = confirmed_in (answerer_turned reads now (packet_given (caller_turned writes job now y).given) y).given in
    let one : Grows y.kept (kept_with o y.kept) = kept_more o y.kept in
    let later : Grows (round writes reads job now y).kept (rounds writes reads job many (now + 40) (round writes reads job now y)).kept = grows writes reads job many (now + 40) (round writes reads job now y) in
    record {
      more = later.more ++ one.more;
      is = later.is ∙ ap (λ (ks : List ConfirmedPage). later.more ++ ks) (round_kept writes reads job now y ∙ one.is) ∙ sym (append_assoc later.more one.more y.kept);
    }

-- what is confirmed next of pages that are left
abbrev last_of_left : List PageValue → Bool
last_of_left [] = true
last_of_left (page ∷ pages) = false

record Front (page : PageValue) (rest : List PageValue) (kept : List ConfirmedPage) : Type 0 where
  front : List ConfirmedPage
  is : all_kept (page ∷ rest) kept ≡ front ++ record { page = page; closes = last_of_left rest } ∷ kept

front_of : (page : PageValue) (rest : List PageValue) (kept : List ConfirmedPage) → Front page rest kept
front_of page [] kept = record { front = []; is = refl }
front_of page (next ∷ rest) kept =
    let first : ConfirmedPage = record { page = page; closes = false } in
    let f : Front next rest (first ∷ kept) = front_of next rest (first ∷ kept) in
    record {
      front = f.front ++ record { page = next; closes = last_of_left rest } ∷ [];
      is = f.is ∙ sym (append_assoc f.front (record { page = next; closes = last_of_left rest } ∷ []) (first ∷ kept));
    }

next_is : (page : PageValue) (rest : List PageValue) (kept more : List ConfirmedPage) (c : ConfirmedPage) → all_kept (page ∷ rest) kept ≡ more ++ (c ∷ kept) → c ≡ record { page = page; closes = last_of_left rest }
next_is page rest kept more c h =
    let d : ConfirmedPage = record { page = page; closes = last_of_left rest } in
    let f : Front page rest kept = front_of page rest kept in
    let both : (f.front ++ d ∷ []) ++ kept ≡ (more ++ c ∷ []) ++ kept = append_assoc f.front (d ∷ []) kept ∙ sym f.is ∙ h ∙ sym (append_assoc more (c ∷ []) kept) in
    sym (same_from_push f.front more d c (append_cancel_right (f.front ++ d ∷ []) (more ++ c ∷ []) kept both)).1

all_long : (pages : List PageValue) (kept : List ConfirmedPage) → length (all_kept pages kept) ≡ length pages + length kept
all_long [] kept = omega arith
all_long (page ∷ []) kept = omega arith
all_long (page ∷ next ∷ rest) kept = let further : length (all_kept (next ∷ rest) (record { page = page; closes = false } ∷ kept)) ≡ length (next ∷ rest) + suc (length kept) = all_long (next ∷ rest) (record { page = page; closes = false } ∷ kept) in omega (arith, further)

-- some is left, so not all is kept
some_left : (page : PageValue) (rest : List PageValue) (kept all : List ConfirmedPage) → all_kept (page ∷ rest) kept ≡ all → kept ≡ all → ⊥
some_left page rest kept all is whole =
    let a : length (all_kept (page ∷ rest) kept) ≡ suc (length rest) + length kept = all_long (page ∷ rest) kept in
    let b : length (all_kept (page ∷ rest) kept) ≡ length kept = ap (λ (ks : List ConfirmedPage). length ks) (is ∙ sym whole) in
    omega (arith, a, b)

-- all is kept, so no more is
no_more : (more all : List ConfirmedPage) (c : ConfirmedPage) → more ++ (c ∷ all) ≡ all → ⊥
no_more more all c h =
    let a : length (more ++ (c ∷ all)) ≡ length more + suc (length all) = length-append more (c ∷ all) in
    let b : length (more ++ (c ∷ all)) ≡ length all = ap (λ (ks : List ConfirmedPage). length ks) h in
    omega (arith, a, b)

-- what a round confirms on the leg it keeps on the link
kept_by : (first gateway : Setup) (writes : Writing) (reads : Reader) (job : JobValue) (now : ℕ) (x : Legs) (y : Link) → GoAlike first gateway writes job x y
    → (round writes reads job now y).kept ≡ kept_with (confirms first writes reads now x) y.kept
kept_by first gateway writes reads job now x y g =
    round_kept writes reads job now y
    ∙ ap (λ (o : Option ConfirmedPage). kept_with o y.kept)
    (waiting_confirms (answerer_turned reads now (packet_given (caller_turned writes job now y).given) y).given ∙ ap (λ (t : answer.TickResult). confirmed_by t.given) (sym (confirms_alike first gateway writes reads job now x y g)))

-- the number of the call stays
heard_number : (reads : Reader) (now : ℕ) (o : Option (List ℕ)) (l : CallingLeg) → (answerer_with reads now o l).number ≡ l.number
heard_number reads now None l = refl
heard_number reads now (Some octets) l = by (is_idle (answers.core_of l).state) (datagram_of octets)
  where
    by : (b : Bool) (r : Result DatagramValue UdptlFault) → (if◌then◌else◌ {A = CallingLeg} b l (answers.leg_with l now (read_by reads (answers.question (Some l) now octets)) r)).number ≡ l.number
    by true r = refl
    by false (Err f) = refl
    by false (Ok d) = refl

number_on : (first gateway : Setup) (writes : Writing) (reads : Reader) (now : ℕ) (x : Legs) → (legs_round first gateway writes reads now x).answerer.number ≡ (leg_heard first writes reads now x).number
unfolding legs_round
number_on first gateway writes reads now x = refl

-- ---- THE ROUND in which the page is confirmed

record Parties (first gateway : Setup) (writes : Writing) (job : JobValue) (now : ℕ) (r : Relay) (x : Legs) (y : Link) : Type 0 where
  calling : OnCalling gateway now r x
  alike : GoAlike first gateway writes job x y
  trace : IsTrace gateway writes r.trace
  number : x.answerer.number ≡ 0

parties_on : (first gateway last : Setup) (writes : Writing) (reads : Reader) (job : JobValue) (now : ℕ) (r : Relay) (x : Legs) (y : Link) → IsReader reads → Parties first gateway writes job now r x y
    → Parties first gateway writes job (now + 40) (relay_round first gateway last writes reads now r) (legs_round first gateway writes reads now x) (round writes reads job now y)
parties_on first gateway last writes reads job now r x y is p =
    record {
      calling = calling_on first gateway last writes reads now r x p.calling;
      alike = alike_after first gateway writes reads job now x y p.alike;
      trace = trace_on first gateway last writes reads now r is p.calling.soon p.trace;
      number = number_on first gateway writes reads now x ∙ heard_number reads now (by_caller first writes now (caller_with writes now x.reply x.caller)) x.answerer ∙ p.number;
    }

record Found (first gateway last : Setup) (writes : Writing) (reads : Reader) (job : JobValue) (many rest now : ℕ) (r : Relay) (y : Link) : Type 0 where
  left : ℕ
  at : ℕ
  when : at + 40 + 40 * left ≡ now + 40 * (many + rest)
  further : rest ≤ left
  relay : Relay
  legs : Legs
  link : Link
  same_relay : relay_rounds first gateway last writes reads (many + rest) now r ≡ relay_rounds first gateway last writes reads left (at + 40) relay
  same_link : rounds writes reads job (many + rest) now y ≡ rounds writes reads job left (at + 40) link
  parties : Parties first gateway writes job (at + 40) relay legs link
  kept : link.kept ≡ all_kept job.pages []
  sending : Sending gateway writes (first_job job) (at + 40) relay (legs_round gateway last writes reads at (legs_begun gateway last writes (first_job job) at))

relay_more : (first gateway last : Setup) (writes : Writing) (reads : Reader) (n m now : ℕ) (r : Relay) → n ≡ suc m → relay_rounds first gateway last writes reads n now r ≡ relay_rounds first gateway last writes reads m (now + 40) (relay_round first gateway last writes reads now r)
unfolding relay_rounds
relay_more first gateway last writes reads n m now r e = ap (λ (k : ℕ). relay_rounds first gateway last writes reads k now r) e

link_more : (writes : Writing) (reads : Reader) (job : JobValue) (n m now : ℕ) (y : Link) → n ≡ suc m → rounds writes reads job n now y ≡ rounds writes reads job m (now + 40) (round writes reads job now y)
unfolding rounds
link_more writes reads job n m now y e = ap (λ (k : ℕ). rounds writes reads job k now y) e

link_none : (writes : Writing) (reads : Reader) (job : JobValue) (now : ℕ) (y : Link) → rounds writes reads job 0 now y ≡ y
unfolding rounds
link_none writes reads job now y = refl

-- these pages were confirmed, and these are left, of which this is the next; and the calling leg's call is on until all are
record Bringing (gateway : Setup) (writes : Writing) (reads : Reader) (job : JobValue) (now : ℕ) (r : Relay) (y : Link) (pages : List PageValue) (page : PageValue) (rest : List PageValue) : Type 0 where
  before : Before gateway writes job.format pages r
  split : job.pages ≡ pages ++ (page ∷ rest)
  kept_so : all_kept (page ∷ rest) y.kept ≡ all_kept job.pages []
  awake : (j : ℕ) → (is_idle (rounds writes reads job (suc j) now y).answerer.state ≡ false) ⊎ ((rounds writes reads job j now y).kept ≡ all_kept job.pages [])

part_of : (format : Format) (pages : List PageValue) (page : PageValue) (rest : List PageValue) → IsOfFirst format (pages ++ (page ∷ rest)) → IsOfFirst format (pages ++ page ∷ [])
part_of format [] page rest h = h
part_of format (p ∷ pages) page rest h = h

few_before : (job : JobValue) (pages : List PageValue) (page : PageValue) (rest : List PageValue) → IsJob job → job.pages ≡ pages ++ (page ∷ rest) → length pages < 999
few_before job pages page rest j split =
    let few : length job.pages ≤ 999 = j.few in
    let a : length job.pages ≡ length (pages ++ (page ∷ rest)) = ap (λ (ps : List PageValue). length ps) split in
    let b : length (pages ++ (page ∷ rest)) ≡ length pages + suc (length rest) = length-append pages (page ∷ rest) in
    omega (arith, few, a, b)

-- the core that a round leaves
core_after : (first gateway : Setup) (writes : Writing) (reads : Reader) (job : JobValue) (now : ℕ) (x : Legs) (y : Link) → GoAlike first gateway writes job x y
    → (answers.answers (leg_heard first writes reads now x) now).core ≡ (round writes reads job now y).answerer
unfolding round
core_after first gateway writes reads job now x y g = ap (λ (t : answer.TickResult). t.core) (confirms_alike first gateway writes reads job now x y g)

-- what a round confirms is the next page
confirms_next : (first gateway : Setup) (writes : Writing) (reads : Reader) (job : JobValue) (now : ℕ) (x : Legs) (y : Link) (page : PageValue) (rest : List PageValue) (c : ConfirmedPage) → GoAlike first gateway writes job x y
    → all_kept (page ∷ rest) y.kept ≡ all_kept job.pages [] → Grows (round writes reads job now y).kept (all_kept job.pages []) → confirms first writes reads now x ≡ Some c
    → c ≡ record { page = page; closes = last_of_left rest }
confirms_next first gateway writes reads job now x y page rest c g so later e =
    let now_kept : (round writes reads job now y).kept ≡ c ∷ y.kept = kept_by first gateway writes reads job now x y g ∙ ap (λ (o : Option ConfirmedPage). kept_with o y.kept) e in
    next_is page rest y.kept later.more c (so ∙ later.is ∙ ap (λ (ks : List ConfirmedPage). later.more ++ ks) now_kept)

-- its call is on after the next round too
still_on : (gateway : Setup) (writes : Writing) (reads : Reader) (job : JobValue) (now : ℕ) (r : Relay) (y : Link) (pages : List PageValue) (page : PageValue) (rest : List PageValue)
    → Bringing gateway writes reads job now r y pages page rest → is_idle (round writes reads job now y).answerer.state ≡ false
unfolding rounds
still_on gateway writes reads job now r y pages page rest b = by (b.awake 0)
  where
    by : (is_idle (rounds writes reads job 1 now y).answerer.state ≡ false) ⊎ ((rounds writes reads job 0 now y).kept ≡ all_kept job.pages []) → is_idle (round writes reads job now y).answerer.state ≡ false
    by (inl on) = on
    by (inr whole) = absurd (some_left page rest y.kept (all_kept job.pages []) b.kept_so whole)

-- a round that does not confirm the last page
brings_on : (first gateway last : Setup) (writes : Writing) (reads : Reader) (job : JobValue) (now : ℕ) (r : Relay) (x : Legs) (y : Link) (pages : List PageValue) (page : PageValue) (rest : List PageValue)
    (after : List PageValue) (next : PageValue) (others : List PageValue) (o : Option ConfirmedPage) → gateway.asks ≡ false → Parties first gateway writes job now r x y → Bringing gateway writes reads job now r y pages page rest
    → confirms first writes reads now x ≡ o → book_with o (opened_book job.format pages) ≡ opened_book job.format after → job.pages ≡ after ++ (next ∷ others) → all_kept (next ∷ others) (kept_with o y.kept) ≡ all_kept job.pages []
    → Bringing gateway writes reads job (now + 40) (relay_round first gateway last writes reads now r) (round writes reads job now y) after next others
unfolding rounds
brings_on first gateway last writes reads job now r x y pages page rest after next others o asks p b e book split so =
    let kept : (round writes reads job now y).kept ≡ kept_with o y.kept = kept_by first gateway writes reads job now x y p.alike ∙ ap (λ (k : Option ConfirmedPage). kept_with k y.kept) e in
    let still : all_kept (next ∷ others) (round writes reads job now y).kept ≡ all_kept job.pages [] = ap (λ (ks : List ConfirmedPage). all_kept (next ∷ others) ks) kept ∙ so in
    let on : is_idle (round writes reads job now y).answerer.state ≡ false = still_on gateway writes reads job now r y pages page rest b in
    record {
      before = before_on first gateway last writes reads now r x job.format pages after o asks p.calling b.before e
          (heard_number reads now (by_caller first writes now (caller_with writes now x.reply x.caller)) x.answerer ∙ p.number) book
          (ap (λ (a : AnswererCore). is_idle a.state) (core_after first gateway writes reads job now x y p.alike) ∙ on);
      split = split;
      kept_so = still;
      awake = λ j. b.awake (suc j);
    }

-- a round that confirms a page and not the last one
joins_on : (first gateway last : Setup) (writes : Writing) (reads : Reader) (job : JobValue) (now : ℕ) (r : Relay) (x : Legs) (y : Link) (pages : List PageValue) (page next : PageValue) (left : List PageValue) → gateway.asks ≡ false → IsJob job
    → Parties first gateway writes job now r x y → Bringing gateway writes reads job now r y pages page (next ∷ left) → confirms first writes reads now x ≡ Some (record { page = page; closes = false })
    → Bringing gateway writes reads job (now + 40) (relay_round first gateway last writes reads now r) (round writes reads job now y) (pages ++ page ∷ []) next left
joins_on first gateway last writes reads job now r x y pages page next left asks j p bring e =
    brings_on first gateway last writes reads job now r x y pages page (next ∷ left) (pages ++ page ∷ []) next left (Some (record { page = page; closes = false })) asks p bring e
    (one_joins job.format pages page (part_of job.format pages page (next ∷ left) (subst (λ (ps : List PageValue). IsOfFirst job.format ps) bring.split j.of_first)) (few_before job pages page (next ∷ left) j bring.split))
    (bring.split ∙ sym (append_assoc pages (page ∷ []) (next ∷ left))) bring.kept_so

-- the end of a list with something in front is not the list
abbrev more_before : ConfirmedPage → List ConfirmedPage → List ConfirmedPage → List ConfirmedPage
more_before d [] [] = []
more_before d [] (x ∷ ys) = d ∷ more_before x [] ys
more_before d (e ∷ more) ys = d ∷ more_before e more ys

abbrev last_before : ConfirmedPage → List ConfirmedPage → List ConfirmedPage → ConfirmedPage
last_before d [] [] = d
last_before d [] (x ∷ ys) = last_before x [] ys
last_before d (e ∷ more) ys = last_before e more ys

more_is : (d : ConfirmedPage) (more ys all : List ConfirmedPage) → ((d ∷ more) ++ ys) ++ all ≡ more_before d more ys ++ (last_before d more ys ∷ all)
more_is d [] [] all = refl
more_is d [] (x ∷ ys) all = ap (λ (ks : List ConfirmedPage). d ∷ ks) (more_is x [] ys all)
more_is d (e ∷ more) ys all = ap (λ (ks : List ConfirmedPage). d ∷ ks) (more_is e more ys all)

find : (first gateway last : Setup) (writes : Writing) (reads : Reader) (job : JobValue) (many rest now : ℕ) (r : Relay) (x : Legs) (y : Link) (pages : List PageValue) (page : PageValue) (others : List PageValue) → gateway.asks ≡ false
    → IsReader reads → IsJob job → Parties first gateway writes job now r x y → Bringing gateway writes reads job now r y pages page others → (rounds writes reads job many now y).kept ≡ all_kept job.pages []
    → Found first gateway last writes reads job many rest now r y
find first gateway last writes reads job zero rest now r x y pages page others asks is j p b kept =
    absurd (some_left page others y.kept (all_kept job.pages []) b.kept_so (sym (ap (λ (z : Link). z.kept) (link_none writes reads job now y)) ∙ kept))
find first gateway last writes reads job (suc many) rest now r x y pages page others asks is j p b kept =
    by (confirms first writes reads now x) refl others b
    (λ after next left so. find first gateway last writes reads job many rest (now + 40) (relay_round first gateway last writes reads now r) (legs_round first gateway writes reads now x) (round writes reads job now y) after next left asks is j
    (parties_on first gateway last writes reads job now r x y is p) so later)
  where
    further : suc many + rest ≡ suc (many + rest)
    further = omega arith

    later : (rounds writes reads job many (now + 40) (round writes reads job now y)).kept ≡ all_kept job.pages []
    later = sym (ap (λ (z : Link). z.kept) (link_more writes reads job (suc many) many now y refl)) ∙ kept

    grown : Grows (round writes reads job now y).kept (all_kept job.pages [])
    grown = let g = grows writes reads job many (now + 40) (round writes reads job now y) in record { more = g.more; is = sym later ∙ g.is }

    one_more : Found first gateway last writes reads job many rest (now + 40) (relay_round first gateway last writes reads now r) (round writes reads job now y) → Found first gateway last writes reads job (suc many) rest now r y
    one_more f =
        let when : f.at + 40 + 40 * f.left ≡ now + 40 + 40 * (many + rest) = f.when in
        record {
          left = f.left;
          at = f.at;
          when = omega arith;
          further = f.further;
          relay = f.relay;
          legs = f.legs;
          link = f.link;
          same_relay = relay_more first gateway last writes reads (suc many + rest) (many + rest) now r further ∙ f.same_relay;
          same_link = link_more writes reads job (suc many + rest) (many + rest) now y further ∙ f.same_link;
          parties = f.parties;
          kept = f.kept;
          sending = f.sending;
        }

    by : (o : Option ConfirmedPage) → confirms first writes reads now x ≡ o → (left : List PageValue) → Bringing gateway writes reads job now r y pages page left
        → ((after : List PageValue) (next : PageValue) (others : List PageValue) → Bringing gateway writes reads job (now + 40) (relay_round first gateway last writes reads now r) (round writes reads job now y) after next others
        → Found first gateway last writes reads job many rest (now + 40) (relay_round first gateway last writes reads now r) (round writes reads job now y))
        → Found first gateway last writes reads job (suc many) rest now r y
    by None e left bring go = one_more (go pages page left (brings_on first gateway last writes reads job now r x y pages page left pages page left None asks p bring e refl bring.split bring.kept_so))
    by (Some c) e (next ∷ left) bring go =
        let c_is : c ≡ record { page = page; closes = false } = confirms_next first gateway writes reads job now x y page (next ∷ left) c p.alike bring.kept_so grown e in
        one_more (go (pages ++ page ∷ []) next left (joins_on first gateway last writes reads job now r x y pages page next left asks j p bring (e ∙ ap (λ (k : ConfirmedPage). Some k) c_is)))
    by (Some c) e [] bring go =
        let last_one : ConfirmedPage = record { page = page; closes = true } in
        let c_is : c ≡ record { page = page; closes = true } = confirms_next first gateway writes reads job now x y page [] c p.alike bring.kept_so grown e in
        let now_kept : (round writes reads job now y).kept ≡ all_kept job.pages [] =
        kept_by first gateway writes reads job now x y p.alike ∙ ap (λ (o : Option ConfirmedPage). kept_with o y.kept) (e ∙ ap (λ (k : ConfirmedPage). Some k) c_is) ∙ bring.kept_so in
        let job_is : record { call = 0; format = job.format; pages = pages ++ page ∷ [] } ≡ first_job job =
        ap (λ (ps : List PageValue). let x : JobValue = record { call = 0; format = job.format; pages = ps } in x) (sym bring.split) in
        record {
          left = many + rest;
          at = now;
          when = omega arith;
          further = omega arith;
          relay = relay_round first gateway last writes reads now r;
          legs = legs_round first gateway writes reads now x;
          link = round writes reads job now y;
          same_relay = relay_more first gateway last writes reads (suc many + rest) (many + rest) now r further;
          same_link = link_more writes reads job (suc many + rest) (many + rest) now y further;
          parties = parties_on first gateway last writes reads job now r x y is p;
          kept = now_kept;
          sending =
              sending_begins first gateway last writes reads (first_job job) now r x job.format pages last_one asks p.calling bring.before (e ∙ ap (λ (k : ConfirmedPage). Some k) c_is)
              (heard_number reads now (by_caller first writes now (caller_with writes now x.reply x.caller)) x.answerer ∙ p.number)
              (ap (λ (a : AnswererCore). is_idle a.state) (core_after first gateway writes reads job now x y p.alike) ∙ still_on gateway writes reads job now r y pages page [] bring)
              (last_closes job.format pages page (part_of job.format pages page [] (subst (λ (ps : List PageValue). IsOfFirst job.format ps) bring.split j.of_first)) (few_before job pages page [] j bring.split)
              ∙ ap waits_with job_is);
        }

-- ---- THE ROUNDS after it

record Goes (first gateway last : Setup) (writes : Writing) (reads : Reader) (sent : JobValue) (many now : ℕ) (r : Relay) (z : Legs) : Type 0 where
  trace : IsTrace gateway writes (relay_rounds first gateway last writes reads many now r).trace
  sending : Sending gateway writes sent (now + 40 * many) (relay_rounds first gateway last writes reads many now r) (legs_rounds gateway last writes reads many now z)

goes : (first gateway last : Setup) (writes : Writing) (reads : Reader) (job sent : JobValue) (many now : ℕ) (r : Relay) (x z : Legs) (y : Link) (all : List ConfirmedPage) → gateway.asks ≡ false → IsReader reads
    → Parties first gateway writes job now r x y → Sending gateway writes sent now r z → y.kept ≡ all → (rounds writes reads job many now y).kept ≡ all
    → Goes first gateway last writes reads sent many now r z
unfolding relay_rounds legs_rounds
goes first gateway last writes reads job sent zero now r x z y all asks is p s whole kept =
    let at : now ≡ now + 40 * 0 = omega arith in
    record { trace = p.trace; sending = subst (λ (t : ℕ). Sending gateway writes sent t r z) at s }
goes first gateway last writes reads job sent (suc many) now r x z y all asks is p s whole kept =
    let more : (rounds writes reads job many (now + 40) (round writes reads job now y)).kept ≡ all = sym (ap (λ (w : Link). w.kept) (link_more writes reads job (suc many) many now y refl)) ∙ kept in
    let none : confirms first writes reads now x ≡ None = by (confirms first writes reads now x) refl (grows writes reads job many (now + 40) (round writes reads job now y)) more in
    let g : Goes first gateway last writes reads sent many (now + 40) (relay_round first gateway last writes reads now r) (legs_round gateway last writes reads now z) =
    goes first gateway last writes reads job sent many (now + 40) (relay_round first gateway last writes reads now r) (legs_round first gateway writes reads now x) (legs_round gateway last writes reads now z)
    (round writes reads job now y) all asks is (parties_on first gateway last writes reads job now r x y is p) (sending_on first gateway last writes reads sent now r x z asks p.calling none s)
    (kept_by first gateway writes reads job now x y p.alike ∙ ap (λ (o : Option ConfirmedPage). kept_with o y.kept) none ∙ whole) more in
    let at : now + 40 + 40 * many ≡ now + 40 * suc many = omega arith in
    record {
      trace = g.trace;
      sending = subst (λ (t : ℕ). Sending gateway writes sent t (relay_rounds first gateway last writes reads many (now + 40) (relay_round first gateway last writes reads now r)) (legs_rounds gateway last writes reads many (now + 40) (legs_round gateway last writes reads now z))) at g.sending;
    }
  where
    by : (o : Option ConfirmedPage) → confirms first writes reads now x ≡ o → Grows (round writes reads job now y).kept (rounds writes reads job many (now + 40) (round writes reads job now y)).kept
        → (rounds writes reads job many (now + 40) (round writes reads job now y)).kept ≡ all → o ≡ None
    by None e g h = refl
    by (Some d) e g h =
        let one : (round writes reads job now y).kept ≡ d ∷ all = kept_by first gateway writes reads job now x y p.alike ∙ ap (λ (o : Option ConfirmedPage). kept_with o y.kept) e ∙ ap (λ (ks : List ConfirmedPage). d ∷ ks) whole in
        absurd (no_more g.more all d (ap (λ (ks : List ConfirmedPage). g.more ++ ks) (sym one) ∙ sym g.is ∙ h))

-- ---- THE WHOLE

rung_so : (gateway : Setup) (writes : Writing) (start : ℕ) → IsTrace gateway writes (Ring start 0 ∷ [])
rung_so gateway writes start = ((refl, lit< tt, refl), tt)

began : (first gateway : Setup) (writes : Writing) (job : JobValue) (start : ℕ)
    → Parties first gateway writes job start (relay_begun first writes job start) (legs_begun first gateway writes job start) (begun job (core_left first writes None) (new_answering gateway.pause) start)
began first gateway writes job start =
    let at : max start 0 ≡ start = max_is start 0 (omega arith) in
    record {
      calling = record { caller = refl; leg = ap (λ (t : ℕ). Some (rung_leg (new_answering gateway.pause) t 0)) at; reply = refl; soon = omega (arith, at) };
      alike = begin_alike first gateway writes job start;
      trace = rung_so gateway writes start;
      number = refl;
    }

before : (first gateway : Setup) (writes : Writing) (job : JobValue) (start : ℕ) → gateway.restored ≡ [] → Before gateway writes job.format [] (relay_begun first writes job start)
before first gateway writes job start none =
    record { leg = refl; book = ap (λ (cs : List RestoredCall). book_in (restores cs [])) none; answerer = refl; reply = refl }

-- no page was confirmed yet
none_brought : (first gateway : Setup) (writes : Writing) (reads : Reader) (job : JobValue) (start : ℕ) (page : PageValue) (rest : List PageValue) → gateway.restored ≡ [] → IsWriting writes → IsReader reads → IsJob job
    → job.pages ≡ page ∷ rest → start + 40 * rounds_of_pages writes job.pages < 18446744073709551615
    → Bringing gateway writes reads job start (relay_begun first writes job start) (begun job (core_left first writes None) (new_answering gateway.pause) start) [] page rest
none_brought first gateway writes reads job start page rest restored is_writing is_reader is_job split fits =
    record {
      before = before first gateway writes job start restored;
      split = split;
      kept_so = ap (λ (ps : List PageValue). all_kept ps []) (sym split);
      awake = job_awake writes reads job start (core_left first writes None) (new_answering gateway.pause) is_writing is_reader is_job (record { pause = first.is_pause; allowed = omega arith })
          (record { pause = gateway.is_pause; allowed = omega arith }) fits;
    }

told : (gateway last : Setup) (writes : Writing) (job : JobValue) (now : ℕ) (r : Relay) (x : Legs) → Sending gateway writes (first_job job) now r x → AreAllPassed writes (first_job job) x
    → (book_of (both_legs gateway writes r.trace)).reports ≡ report_of (first_job job) outcomes.Delivered (length job.pages) ∷ []
told gateway last writes job now r x s p = by s.state
  where
    by : IsOn gateway writes (first_job job) r x ⊎ IsReported gateway writes (first_job job) r x → (book_of (both_legs gateway writes r.trace)).reports ≡ report_of (first_job job) outcomes.Delivered (length job.pages) ∷ []
    by (inl i) =
        let over : outcome_of (calls.core_of writes x.caller) ≡ (calls.core_of writes x.caller).outcome = ap (λ s. if◌then◌else◌ {A = Option Outcome} (is_over s) (calls.core_of writes x.caller).outcome None) p.caller_over in
        let clash : Some outcomes.Delivered ≡ None = sym p.outcome ∙ sym over ∙ i.going in
        absurd cc
    by (inr q) =
        let one : q.outcome ≡ outcomes.Delivered = let e : Some q.outcome ≡ Some outcomes.Delivered = sym q.told ∙ p.outcome in cc in
        let count : q.delivered ≡ length job.pages = sym q.counted ∙ p.delivered in
        ap (λ (b : Book). b.reports) q.book
        ∙ ap (λ (o : Outcome). report_of (first_job job) o q.delivered ∷ []) one ∙ ap (λ (n : ℕ). report_of (first_job job) outcomes.Delivered n ∷ []) count

same_job : (job : JobValue) → IsJob job → IsJob (first_job job)
same_job job j = record { some = j.some; few = j.few; of_first = j.of_first; are_pages = j.are_pages }

-- there is a first page
with_first : (job : JobValue) (P : Type 0) → IsJob job → ((page : PageValue) (rest : List PageValue) → job.pages ≡ page ∷ rest → P) → P
with_first job P j f = by job.pages refl
  where
    by : (pages : List PageValue) → job.pages ≡ pages → P
    by [] e = let some : 0 < length job.pages = j.some in let none : length job.pages ≡ 0 = ap (λ (ps : List PageValue). length ps) e in absurd (omega (arith, some, none))
    by (page ∷ rest) e = f page rest e

passes : (first gateway last : Setup) (writes : Writing) (reads : Reader) (job : JobValue) (start many : ℕ) (page : PageValue) (others : List PageValue) → gateway.asks ≡ false → gateway.restored ≡ [] → IsWriting writes → IsReader reads
    → IsJob job → 2 * rounds_of_pages writes job.pages ≤ many → start + 40 * many + 1 < 18446744073709551616 → job.pages ≡ page ∷ others
    → AreRelayed gateway writes job (relay_rounds first gateway last writes reads many start (relay_begun first writes job start))
unfolding legs_rounds
passes first gateway last writes reads job start many page others asks restored is_writing is_reader is_job enough fits split =
    let few : ℕ = rounds_of_pages writes job.pages in
    let rest : ℕ = many - few in
    let all : few + rest ≡ many = omega arith in
    let caller : CallerCore = core_left first writes None in
    let answerer : AnswererCore = new_answering gateway.pause in
    let y : Link = begun job caller answerer start in
    let delivered : (n : ℕ) → few ≤ n → n ≤ many → AreDelivered job (rounds writes reads job n start (begun job caller answerer start)) =
    λ n h k. jobs_get_through writes reads job start n caller answerer is_writing is_reader is_job (record { pause = first.is_pause; allowed = omega arith }) (record { pause = gateway.is_pause; allowed = omega arith }) h (omega arith) in
    let f : Found first gateway last writes reads job few rest start (relay_begun first writes job start) (begun job caller answerer start) =
    find first gateway last writes reads job few rest start (relay_begun first writes job start) (legs_begun first gateway writes job start) (begun job caller answerer start) [] page others asks is_reader is_job
    (began first gateway writes job start) (none_brought first gateway writes reads job start page others restored is_writing is_reader is_job split (omega arith)) (delivered few (omega arith) (omega arith)).kept in
    let kept : (rounds writes reads job f.left (f.at + 40) f.link).kept ≡ all_kept job.pages [] =
    sym (ap (λ (z : Link). z.kept) (sym (ap (λ (n : ℕ). rounds writes reads job n start (begun job caller answerer start)) all) ∙ f.same_link)) ∙ (delivered many (omega arith) (omega arith)).kept in
    let z : Legs = legs_begun gateway last writes (first_job job) f.at in
    let g : Goes first gateway last writes reads (first_job job) f.left (f.at + 40) f.relay (legs_round gateway last writes reads f.at z) =
    goes first gateway last writes reads job (first_job job) f.left (f.at + 40) f.relay f.legs (legs_round gateway last writes reads f.at z) f.link (all_kept job.pages []) asks is_reader f.parties f.sending f.kept kept in
    let when : f.at + 40 + 40 * f.left ≡ start + 40 * (few + rest) = f.when in
    let further : rest ≤ f.left = f.further in
    let passed : AreAllPassed writes (first_job job) (legs_rounds gateway last writes reads (suc f.left) f.at z) =
    jobs_pass gateway last writes reads (first_job job) f.at (suc f.left) is_writing is_reader (same_job job is_job) (omega arith) (omega arith) in
    let same : relay_rounds first gateway last writes reads many start (relay_begun first writes job start) ≡ relay_rounds first gateway last writes reads f.left (f.at + 40) f.relay =
    sym (ap (λ (n : ℕ). relay_rounds first gateway last writes reads n start (relay_begun first writes job start)) all) ∙ f.same_relay in
    subst (AreRelayed gateway writes job) (sym same)
    (record {
      is_trace = g.trace;
      reports = told gateway last writes job (f.at + 40 + 40 * f.left) (relay_rounds first gateway last writes reads f.left (f.at + 40) f.relay) (legs_rounds gateway last writes reads f.left (f.at + 40) (legs_round gateway last writes reads f.at z)) g.sending passed;
      pages = ap pages_on g.sending.answerer ∙ passed.pages;
    })

pub gateways_pass_jobs : GatewaysPassJobs
gateways_pass_jobs first gateway last writes reads job start many asks restored is_writing is_reader is_job enough fits =
    with_first job (AreRelayed gateway writes job (relay_rounds first gateway last writes reads many start (relay_begun first writes job start))) is_job
    (λ page others split. passes first gateway last writes reads job start many page others asks restored is_writing is_reader is_job enough fits split)

-- ---- AT EVERY MOMENT

-- not all is kept so far: it is still before the last page is confirmed
record Still (first gateway last : Setup) (writes : Writing) (reads : Reader) (job : JobValue) (many now : ℕ) (r : Relay) : Type 0 where
  pages : List PageValue
  before : Before gateway writes job.format pages (relay_rounds first gateway last writes reads many now r)

before_all : (first gateway last : Setup) (writes : Writing) (reads : Reader) (job : JobValue) (many now : ℕ) (r : Relay) (x : Legs) (y : Link) (pages : List PageValue) (page : PageValue) (others : List PageValue) (d : ConfirmedPage)
    (more : List ConfirmedPage) → gateway.asks ≡ false → IsReader reads → IsJob job → Parties first gateway writes job now r x y → Bringing gateway writes reads job now r y pages page others
    → all_kept job.pages [] ≡ (d ∷ more) ++ (rounds writes reads job many now y).kept → Still first gateway last writes reads job many now r
unfolding relay_rounds
before_all first gateway last writes reads job zero now r x y pages page others d more asks is j p b left = record { pages = pages; before = b.before }
before_all first gateway last writes reads job (suc many) now r x y pages page others d more asks is j p b left =
    by (confirms first writes reads now x) refl others b
    (λ after next rest so. before_all first gateway last writes reads job many (now + 40) (relay_round first gateway last writes reads now r) (legs_round first gateway writes reads now x) (round writes reads job now y) after next rest d more asks is j
    (parties_on first gateway last writes reads job now r x y is p) so later)
  where
    later : all_kept job.pages [] ≡ (d ∷ more) ++ (rounds writes reads job many (now + 40) (round writes reads job now y)).kept
    later = left ∙ ap (λ (z : Link). (d ∷ more) ++ z.kept) (link_more writes reads job (suc many) many now y refl)

    g : Grows (round writes reads job now y).kept (rounds writes reads job many (now + 40) (round writes reads job now y)).kept
    g = grows writes reads job many (now + 40) (round writes reads job now y)

    grown : Grows (round writes reads job now y).kept (all_kept job.pages [])
    grown = record { more = (d ∷ more) ++ g.more; is = later ∙ ap (λ (ks : List ConfirmedPage). (d ∷ more) ++ ks) g.is ∙ sym (append_assoc (d ∷ more) g.more (round writes reads job now y).kept) }

    one_more : Still first gateway last writes reads job many (now + 40) (relay_round first gateway last writes reads now r) → Still first gateway last writes reads job (suc many) now r
    one_more s = record { pages = s.pages; before = s.before }

    by : (o : Option ConfirmedPage) → confirms first writes reads now x ≡ o → (left : List PageValue) → Bringing gateway writes reads job now r y pages page left
        → ((after : List PageValue) (next : PageValue) (others : List PageValue) → Bringing gateway writes reads job (now + 40) (relay_round first gateway last writes reads now r) (round writes reads job now y) after next others
        → Still first gateway last writes reads job many (now + 40) (relay_round first gateway last writes reads now r))
        → Still first gateway last writes reads job (suc many) now r
    by None e left bring go = one_more (go pages page left (brings_on first gateway last writes reads job now r x y pages page left pages page left None asks p bring e refl bring.split bring.kept_so))
    by (Some c) e (next ∷ left) bring go =
        let c_is : c ≡ record { page = page; closes = false } = confirms_next first gateway writes reads job now x y page (next ∷ left) c p.alike bring.kept_so grown e in
        one_more (go (pages ++ page ∷ []) next left (joins_on first gateway last writes reads job now r x y pages page next left asks j p bring (e ∙ ap (λ (k : ConfirmedPage). Some k) c_is)))
    by (Some c) e [] bring go =
        let c_is : c ≡ record { page = page; closes = true } = confirms_next first gateway writes reads job now x y page [] c p.alike bring.kept_so grown e in
        let now_kept : (round writes reads job now y).kept ≡ all_kept job.pages [] =
        kept_by first gateway writes reads job now x y p.alike ∙ ap (λ (o : Option ConfirmedPage). kept_with o y.kept) (e ∙ ap (λ (k : ConfirmedPage). Some k) c_is) ∙ bring.kept_so in
        absurd (no_more (more_before d more g.more) (all_kept job.pages []) (last_before d more g.more)
        (sym (more_is d more g.more (all_kept job.pages [])) ∙ ap (λ (ks : List ConfirmedPage). ((d ∷ more) ++ g.more) ++ ks) (sym now_kept) ∙ sym grown.is))

-- rounds after rounds
rounds_on : (writes : Writing) (reads : Reader) (job : JobValue) (m n now : ℕ) (y : Link) → rounds writes reads job (m + n) now y ≡ rounds writes reads job n (now + 40 * m) (rounds writes reads job m now y)
rounds_on writes reads job zero n now y =
    let none : 0 + n ≡ n = omega arith in
    let same : now ≡ now + 40 * 0 = omega arith in
    ap (λ (k : ℕ). rounds writes reads job k now y) none ∙ ap (λ (t : ℕ). rounds writes reads job n t y) same ∙ ap (λ (x : Link). rounds writes reads job n (now + 40 * 0) x) (sym (link_none writes reads job now y))
rounds_on writes reads job (suc m) n now y =
    let more : suc m + n ≡ suc (m + n) = omega arith in
    let later : now + 40 + 40 * m ≡ now + 40 * suc m = omega arith in
    link_more writes reads job (suc m + n) (m + n) now y more ∙ rounds_on writes reads job m n (now + 40) (round writes reads job now y)
    ∙ ap (λ (t : ℕ). rounds writes reads job n t (rounds writes reads job m (now + 40) (round writes reads job now y))) later
    ∙ ap (λ (x : Link). rounds writes reads job n (now + 40 * suc m) x) (sym (link_more writes reads job (suc m) m now y refl))

-- every moment
by_state : (gateway last : Setup) (writes : Writing) (job : JobValue) (now : ℕ) (r : Relay) (x : Legs) → IsTrace gateway writes r.trace → Sending gateway writes (first_job job) now r x
    → ((calls.core_of writes x.caller).state ≡ calling.Idle → AreAllPassed writes (first_job job) x) → ((book_of (both_legs gateway writes r.trace)).reports ≡ []) ⊎ AreRelayed gateway writes job r
by_state gateway last writes job now r x t s f = by s.state
  where
    by : IsOn gateway writes (first_job job) r x ⊎ IsReported gateway writes (first_job job) r x → ((book_of (both_legs gateway writes r.trace)).reports ≡ []) ⊎ AreRelayed gateway writes job r
    by (inl i) = inl (ap (λ (k : Book). k.reports) i.book)
    by (inr q) =
        let p : AreAllPassed writes (first_job job) x = f q.over in
        inr (record { is_trace = t; reports = told gateway last writes job now r x s p; pages = ap pages_on s.answerer ∙ p.pages })

Either : (gateway : Setup) → Writing → JobValue → Relay → Type 0
Either gateway writes job r = ((book_of (both_legs gateway writes r.trace)).reports ≡ []) ⊎ AreRelayed gateway writes job r

after_it : (first gateway last : Setup) (writes : Writing) (reads : Reader) (job : JobValue) (start many : ℕ) (page : PageValue) (others : List PageValue) → gateway.asks ≡ false → gateway.restored ≡ [] → IsWriting writes → IsReader reads
    → IsJob job → start + 40 * (2 * rounds_of_pages writes job.pages + many) + 1 < 18446744073709551616 → job.pages ≡ page ∷ others
    → (rounds writes reads job many start (begun job (core_left first writes None) (new_answering gateway.pause) start)).kept ≡ all_kept job.pages []
    → ((book_of (both_legs gateway writes (relay_rounds first gateway last writes reads many start (relay_begun first writes job start)).trace)).reports ≡ [])
    ⊎ AreRelayed gateway writes job (relay_rounds first gateway last writes reads many start (relay_begun first writes job start))
unfolding legs_rounds Either
after_it first gateway last writes reads job start many page others asks restored is_writing is_reader is_job fits split kept =
    let y : Link = begun job (core_left first writes None) (new_answering gateway.pause) start in
    let r : Relay = relay_begun first writes job start in
    let all : many + 0 ≡ many = omega arith in
    let f : Found first gateway last writes reads job many 0 start r y =
    find first gateway last writes reads job many 0 start r (legs_begun first gateway writes job start) y [] page others asks is_reader is_job (began first gateway writes job start)
    (none_brought first gateway writes reads job start page others restored is_writing is_reader is_job split (omega arith)) kept in
    let when : f.at + 40 + 40 * f.left ≡ start + 40 * (many + 0) = f.when in
    let still : (rounds writes reads job f.left (f.at + 40) f.link).kept ≡ all_kept job.pages [] =
    ap (λ (w : Link). w.kept) (sym f.same_link ∙ ap (λ (n : ℕ). rounds writes reads job n start y) all) ∙ kept in
    let z : Legs = legs_begun gateway last writes (first_job job) f.at in
    let g : Goes first gateway last writes reads (first_job job) f.left (f.at + 40) f.relay (legs_round gateway last writes reads f.at z) =
    goes first gateway last writes reads job (first_job job) f.left (f.at + 40) f.relay f.legs (legs_round gateway last writes reads f.at z) f.link (all_kept job.pages []) asks is_reader f.parties f.sending f.kept still in
    let same : relay_rounds first gateway last writes reads many start r ≡ relay_rounds first gateway last writes reads f.left (f.at + 40) f.relay =
    sym (ap (λ (n : ℕ). relay_rounds first gateway last writes reads n start r) all) ∙ f.same_relay in
    subst (Either gateway writes job) (sym same)
    (by_state gateway last writes job (f.at + 40 + 40 * f.left) (relay_rounds first gateway last writes reads f.left (f.at + 40) f.relay) (legs_rounds gateway last writes reads f.left (f.at + 40) (legs_round gateway last writes reads f.at z)) g.trace g.sending
    (λ over. over_are_all_passed gateway last writes reads (first_job job) f.at (suc f.left) is_writing is_reader (same_job job is_job) (omega arith) over))

either_moment : (first gateway last : Setup) (writes : Writing) (reads : Reader) (job : JobValue) (start many : ℕ) (page : PageValue) (others : List PageValue) → gateway.asks ≡ false → gateway.restored ≡ [] → IsWriting writes → IsReader reads
    → IsJob job → start + 40 * (2 * rounds_of_pages writes job.pages + many) + 1 < 18446744073709551616 → job.pages ≡ page ∷ others
    → ((book_of (both_legs gateway writes (relay_rounds first gateway last writes reads many start (relay_begun first writes job start)).trace)).reports ≡ [])
    ⊎ AreRelayed gateway writes job (relay_rounds first gateway last writes reads many start (relay_begun first writes job start))
either_moment first gateway last writes reads job start many page others asks restored is_writing is_reader is_job fits split = by grown.more (sym final ∙ grown.is)
  where
    y : Link
    y = begun job (core_left first writes None) (new_answering gateway.pause) start

    rest : ℕ
    rest = rounds_of_pages writes job.pages

    grown : Grows (rounds writes reads job many start y).kept (rounds writes reads job rest (start + 40 * many) (rounds writes reads job many start y)).kept
    grown = grows writes reads job rest (start + 40 * many) (rounds writes reads job many start y)

    final : (rounds writes reads job rest (start + 40 * many) (rounds writes reads job many start y)).kept ≡ all_kept job.pages []
    final =
        ap (λ (x : Link). x.kept) (sym (rounds_on writes reads job many rest start y))
        ∙ (jobs_get_through writes reads job start (many + rest) (core_left first writes None) (new_answering gateway.pause) is_writing is_reader is_job (record { pause = first.is_pause; allowed = omega arith })
        (record { pause = gateway.is_pause; allowed = omega arith }) (omega arith) (omega arith)).kept

    by : (more : List ConfirmedPage) → all_kept job.pages [] ≡ more ++ (rounds writes reads job many start y).kept
        → ((book_of (both_legs gateway writes (relay_rounds first gateway last writes reads many start (relay_begun first writes job start)).trace)).reports ≡ [])
        ⊎ AreRelayed gateway writes job (relay_rounds first gateway last writes reads many start (relay_begun first writes job start))
    by [] whole = after_it first gateway last writes reads job start many page others asks restored is_writing is_reader is_job fits split (sym whole)
    by (d ∷ more) left =
        let s : Still first gateway last writes reads job many start (relay_begun first writes job start) =
        before_all first gateway last writes reads job many start (relay_begun first writes job start) (legs_begun first gateway writes job start) y [] page others d more asks is_reader is_job (began first gateway writes job start)
        (none_brought first gateway writes reads job start page others restored is_writing is_reader is_job split (omega arith)) left in
        inl (ap (λ (k : Book). k.reports) s.before.book)

pub reports_are_of_jobs : ReportsAreOfJobs
unfolding Either
reports_are_of_jobs first gateway last writes reads job start many asks restored is_writing is_reader is_job fits =
    with_first job (Either gateway writes job (relay_rounds first gateway last writes reads many start (relay_begun first writes job start))) is_job
    (λ page others split. either_moment first gateway last writes reads job start many page others asks restored is_writing is_reader is_job fits split)

-- ---- A JOB OF ONE PAGE
one_relayed : (gateway : Setup) (writes : Writing) (number : ℕ) (page : PageValue) (r : Relay) → AreRelayed gateway writes (job_of number page) r → IsRelayed gateway writes page r
one_relayed gateway writes number page r a = record { is_trace = a.is_trace; reports = a.reports; pages = a.pages }

pub gateways_pass_pages : GatewaysPassPages
gateways_pass_pages first gateway last writes reads page number start many asks restored is_writing is_reader is_page enough fits =
    one_relayed gateway writes number page (relay_rounds first gateway last writes reads many start (relay_begun first writes (job_of number page) start))
    (gateways_pass_jobs first gateway last writes reads (job_of number page) start many asks restored is_writing is_reader (one_job number page is_page) (omega (arith, enough)) fits)

pub reports_are_deliveries : ReportsAreDeliveries
reports_are_deliveries first gateway last writes reads page number start many asks restored is_writing is_reader is_page fits =
    by (reports_are_of_jobs first gateway last writes reads (job_of number page) start many asks restored is_writing is_reader (one_job number page is_page) (omega (arith, fits)))
  where
    by : ((book_of (both_legs gateway writes (relay_rounds first gateway last writes reads many start (relay_begun first writes (job_of number page) start)).trace)).reports ≡ [])
        ⊎ AreRelayed gateway writes (job_of number page) (relay_rounds first gateway last writes reads many start (relay_begun first writes (job_of number page) start))
        → ((book_of (both_legs gateway writes (relay_rounds first gateway last writes reads many start (relay_begun first writes (job_of number page) start)).trace)).reports ≡ [])
        ⊎ IsRelayed gateway writes page (relay_rounds first gateway last writes reads many start (relay_begun first writes (job_of number page) start))
    by (inl none) = inl none
    by (inr a) = inr (one_relayed gateway writes number page (relay_rounds first gateway last writes reads many start (relay_begun first writes (job_of number page) start)) a)
