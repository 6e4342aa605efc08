-- Legs that are joined by datagrams go as machines that are joined by packets.
use Rattle.std.proofs.Common.{◌≡◌, ℕ, zero, suc, ◌+◌, Bool, true, false, List, [], ◌∷◌, length, map, drop, Option, Some, None, Result, Ok, refl, sym, ◌∙◌, ap, subst, arith, if◌then◌else◌}
use Rattle.fax_udptl.specs.declared.fault.UdptlFault.{UdptlFault}
use Rattle.fax_udptl.specs.Datagrams.{DatagramValue, datagram_of}
use Rattle.fax_udptl.specs.Sending.{AreShort, datagram_for}
use Rattle.fax_udptl.specs.Slots.{newest_slots}
use Rattle.fax_udptl.proofs.SlotLemmas.{newest_at_first}
use Rattle.fax_pagestore.specs.Pages.{PageValue}
use Rattle.fax_ifp.specs.Elements.{Slot}
use Rattle.fax_ifp.specs.Pieces.{Piece, pieces}
use Rattle.fax_jobs.specs.Jobs.{JobValue}
use Rattle.fax_answer.specs.Calls as answer
use Rattle.fax_answer.specs.Calls.{AnswererCore, new_answering, rung}
use Rattle.fax_answer.specs.Readings.{comes_all}
use Rattle.fax_answer.specs.Replies.{ConfirmedPage, WaitingPacket}
use Rattle.fax_answer.specs.Sent.{confirmed_with, confirmed_in_tick, pages_confirmed}
use Rattle.fax_answer.specs.Shown.{confirmed_in, packet_in}
use Rattle.fax_answer.specs.Table.{Question, Reading}
use Rattle.fax_answer.proofs.Readings.{comes_came}
use Rattle.fax_call.specs.Calls as call
use Rattle.fax_call.specs.Calls.{CallerCore}
use Rattle.fax_call.specs.Delivery.{is_over}
use Rattle.fax_call.specs.Replies.{Packet, written}
use Rattle.fax_call.specs.Writings.{Writing}
use Rattle.fax_gateway.specs.Setups.{Setup}
use Rattle.fax_gateway.specs.Legs.{new_pieces}
use Rattle.fax_gateway.specs.CallingLegs as answers
use Rattle.fax_gateway.specs.CallingLegs.{CallingLeg, is_idle, question, asked_by}
use Rattle.fax_gateway.specs.CalledLegs as calls
use Rattle.fax_gateway.specs.CalledLegs.{CalledLeg, begun_core, packets_given}
use Rattle.fax_gateway.proofs.Fitting.{AllFit, FitGiven, FitTick, ticked_fits}
use Rattle.fax_laws.specs.delivery.Links.{Reader, read_by, Link, slots_with, pieces_with, caller_turned, answerer_turned, packet_given, kept_with, round, rounds, begun}
use Rattle.fax_laws.specs.delivery.Datagrams.{Legs, caller_with, answerer_with, by_caller, by_answerer, legs_round, legs_rounds, legs_begun}
use Rattle.fax_laws.proofs.delivery.InOrder.{datagrams_in, newest_is, read_back}
use Rattle.fax_answer.proofs.EachReply.{Each, EachTick, IfGiven, rung_each, ticked_each}
use Rattle.fax_gateway.proofs.Hearing.{came_core}
use Rattle.fax_laws.proofs.delivery.Short.{IsShort, are_short, came_short, came_fits, stays_over, stays_idle}

-- ---- ONE DATAGRAM MORE brings the pieces of its packet

pub next_pieces : (redundancy : ℕ) (given : List (List ℕ)) (packet : List ℕ) (arrived : List DatagramValue) (before : List Slot) → arrived ≡ datagrams_in redundancy given → newest_slots arrived ≡ before
    → (new_pieces arrived (datagram_for redundancy given packet) ≡ pieces_with (Some packet) false before) × (newest_slots (datagram_for redundancy given packet ∷ arrived) ≡ Some packet ∷ before)
unfolding new_pieces pieces_with
next_pieces redundancy given packet arrived before is slots =
    let d : DatagramValue = datagram_for redundancy given packet in
    let more : newest_slots (d ∷ arrived) ≡ Some packet ∷ before =
    ap (λ (ds : List DatagramValue). newest_slots (d ∷ ds)) is ∙ newest_is redundancy given packet ∙ ap (λ (ss : List Slot). Some packet ∷ ss) (ap newest_slots (sym is) ∙ slots) in (
      ap (λ (ss : List Slot). drop (length (pieces ss)) (pieces (newest_slots (d ∷ arrived)))) slots ∙ ap (λ (ss : List Slot). drop (length (pieces before)) (pieces ss)) more,
      more,
    )

none_over : (packet : Option (List ℕ)) (before : List Slot) → pieces_with packet true before ≡ []
unfolding pieces_with
none_over None before = refl
none_over (Some packet) before = refl

none_come : (over : Bool) (before : List Slot) → pieces_with None over before ≡ []
unfolding pieces_with
none_come over before = refl

slots_over : (packet : Option (List ℕ)) (before : List Slot) → slots_with packet true before ≡ before
slots_over None before = refl
slots_over (Some packet) before = refl

-- ---- WHAT IS ON THE WAY BACK: nothing, and all came that was given; or the datagram of the packet given last
abbrev pub OnWay : ℕ → (given : List (List ℕ)) → (arrived : List DatagramValue) → (reply : Option (List ℕ)) → (packet : Option (List ℕ)) → Type 0
OnWay redundancy given arrived None None = arrived ≡ datagrams_in redundancy given
OnWay redundancy given arrived (Some octets) (Some packet) =
    (before : List (List ℕ)) × (given ≡ packet ∷ before) × (arrived ≡ datagrams_in redundancy before) × (datagram_of octets ≡ Ok (datagram_for redundancy before packet))
OnWay redundancy given arrived reply packet = ⊥

-- ---- THE CALLER HEARS

record CallerHears (writes : Writing) (now : ℕ) (redundancy : ℕ) (given : List (List ℕ)) (l x : CalledLeg) (a : CallerCore) (over : Bool) (packet : Option (List ℕ)) (before : List Slot) : Type 0 where
  core : calls.core_of writes x ≡ call.came_all a (pieces_with packet over before) now
  slots : newest_slots x.arrived ≡ slots_with packet over before
  same_given : x.given ≡ l.given
  same_job : x.job ≡ l.job
  arrived : over ≡ false → x.arrived ≡ datagrams_in redundancy given

caller_hears : (writes : Writing) (now redundancy : ℕ) (given : List (List ℕ)) (l : CalledLeg) (a : CallerCore) (over : Bool) (reply packet : Option (List ℕ)) (before : List Slot)
    → is_over a.state ≡ over → calls.core_of writes l ≡ a → newest_slots l.arrived ≡ before → (over ≡ false → OnWay redundancy given l.arrived reply packet)
    → CallerHears writes now redundancy given l (caller_with writes now reply l) a over packet before
caller_hears writes now redundancy given l a true reply packet before is core slots way = subst (λ (x : CalledLeg). CallerHears writes now redundancy given l x a true packet before) (sym (same reply)) stays
  where
    stays : CallerHears writes now redundancy given l l a true packet before
    stays = record {
      core = core ∙ ap (λ (ps : List Piece). call.came_all a ps now) (sym (none_over packet before));
      slots = slots ∙ sym (slots_over packet before);
      same_given = refl;
      same_job = refl;
      arrived = λ no. cc;
    }

    same : (r : Option (List ℕ)) → caller_with writes now r l ≡ l
    same None = refl
    same (Some octets) = ap (λ (b : Bool). if◌then◌else◌ {A = CalledLeg} b l (calls.leg_with (datagram_of octets) now l)) (ap (λ (c : CallerCore). is_over c.state) core ∙ is)
caller_hears writes now redundancy given l a false None None before is core slots way =
    record {
      core = core ∙ ap (λ (ps : List Piece). call.came_all a ps now) (sym (none_come false before));
      slots = slots;
      same_given = refl;
      same_job = refl;
      arrived = way;
    }
caller_hears writes now redundancy given l a false None (Some packet) before is core slots way = absurd (way refl)
caller_hears writes now redundancy given l a false (Some octets) None before is core slots way = absurd (way refl)
caller_hears writes now redundancy given l a false (Some octets) (Some packet) before is core slots way =
    let w = way refl in
    let d : DatagramValue = datagram_for redundancy w.0 packet in
    let n = next_pieces redundancy w.0 packet l.arrived before w.2 slots in
    let heard : caller_with writes now (Some octets) l ≡ calls.leg_with (Ok d) now l =
    ap (λ (b : Bool). if◌then◌else◌ {A = CalledLeg} b l (calls.leg_with (datagram_of octets) now l)) (ap (λ (c : CallerCore). is_over c.state) core ∙ is)
    ∙ ap (λ (r : Result DatagramValue UdptlFault). calls.leg_with r now l) w.3 in
    subst (λ (y : CalledLeg). CallerHears writes now redundancy given l y a false (Some packet) before) (sym heard)
    (record {
      core =
          came_core writes l.job (begun_core l) (new_pieces l.arrived d) now l.events
          ∙ ap (λ (ps : List Piece). call.came_all (calls.core_of writes l) ps now) n.0
          ∙ ap (λ (c : CallerCore). call.came_all c (pieces_with (Some packet) false before) now) core;
      slots = n.1;
      same_given = refl;
      same_job = refl;
      arrived = λ no. ap (λ (ds : List DatagramValue). d ∷ ds) w.2 ∙ ap (λ (g : List (List ℕ)). datagrams_in redundancy g) (sym w.1);
    })

-- ---- THE ANSWERER HEARS

pages_same : (a : AnswererCore) (ps : List Piece) (now : ℕ) (read : Reading) (events : List answer.CallEvent) → pages_confirmed a (comes_all ps now read events) ≡ pages_confirmed a events
pages_same a [] now read events = refl
pages_same a (p ∷ ps) now read events = pages_same a ps now read (answer.Comes p now read ∷ events)

record AnswererHears (reads : Reader) (now : ℕ) (redundancy : ℕ) (given : List (List ℕ)) (l x : CallingLeg) (a : AnswererCore) (over : Bool) (packet : Option (List ℕ)) (before : List Slot) : Type 0 where
  core : answers.core_of x ≡ answer.came_all (read_by reads (answer.first_asked a (pieces_with packet over before) now)) a (pieces_with packet over before) now
  slots : newest_slots x.arrived ≡ slots_with packet over before
  same_given : x.given ≡ l.given
  pages : pages_confirmed (rung x.before x.begun) x.events ≡ pages_confirmed (rung l.before l.begun) l.events
  arrived : over ≡ false → x.arrived ≡ datagrams_in redundancy given

-- what the caller gave, and the packet that it is
abbrev Told : ℕ → (given : List (List ℕ)) → (datagram : Option (List ℕ)) → (packet : Option (List ℕ)) → Type 0
Told redundancy given None None = Unit {0}
Told redundancy given (Some octets) (Some packet) = datagram_of octets ≡ Ok (datagram_for redundancy given packet)
Told redundancy given datagram packet = ⊥

abbrev given_with : Option (List ℕ) → List (List ℕ) → List (List ℕ)
given_with None given = given
given_with (Some packet) given = packet ∷ given

answerer_hears : (reads : Reader) (now redundancy : ℕ) (given : List (List ℕ)) (l : CallingLeg) (a : AnswererCore) (over : Bool) (datagram packet : Option (List ℕ)) (before : List Slot)
    → is_idle a.state ≡ over → answers.core_of l ≡ a → newest_slots l.arrived ≡ before → (over ≡ false → l.arrived ≡ datagrams_in redundancy given) → Told redundancy given datagram packet
    → AnswererHears reads now redundancy (given_with packet given) l (answerer_with reads now datagram l) a over packet before
answerer_hears reads now redundancy given l a true datagram packet before is core slots way told = subst (λ (x : CallingLeg). AnswererHears reads now redundancy (given_with packet given) l x a true packet before) (sym (same datagram)) stays
  where
    stays : AnswererHears reads now redundancy (given_with packet given) l l a true packet before
    stays = record {
      core = core ∙ ap (λ (ps : List Piece). answer.came_all (read_by reads (answer.first_asked a ps now)) a ps now) (sym (none_over packet before));
      slots = slots ∙ sym (slots_over packet before);
      same_given = refl;
      pages = refl;
      arrived = λ no. cc;
    }

    same : (r : Option (List ℕ)) → answerer_with reads now r l ≡ l
    same None = refl
    same (Some octets) =
        ap (λ (b : Bool). if◌then◌else◌ {A = CallingLeg} b l (answers.leg_with l now (read_by reads (question (Some l) now octets)) (datagram_of octets))) (ap (λ (c : AnswererCore). is_idle c.state) core ∙ is)
answerer_hears reads now redundancy given l a false None None before is core slots way told =
    record {
      core = core ∙ ap (λ (ps : List Piece). answer.came_all (read_by reads (answer.first_asked a ps now)) a ps now) (sym (none_come false before));
      slots = slots;
      same_given = refl;
      pages = refl;
      arrived = way;
    }
answerer_hears reads now redundancy given l a false None (Some packet) before is core slots way told = absurd told
answerer_hears reads now redundancy given l a false (Some octets) None before is core slots way told = absurd told
answerer_hears reads now redundancy given l a false (Some octets) (Some packet) before is core slots way told =
    let d : DatagramValue = datagram_for redundancy given packet in
    let n = next_pieces redundancy given packet l.arrived before (way refl) slots in
    let on : is_idle (answers.core_of l).state ≡ false = ap (λ (c : AnswererCore). is_idle c.state) core ∙ is in
    let asked : question (Some l) now octets ≡ answer.first_asked a (pieces_with (Some packet) false before) now =
    ap (λ (b : Bool). if◌then◌else◌ {A = Option Question} b None (asked_by l now (datagram_of octets))) on
    ∙ ap (λ (r : Result DatagramValue UdptlFault). asked_by l now r) told
    ∙ ap (λ (ps : List Piece). answer.first_asked (answers.core_of l) ps now) n.0
    ∙ ap (λ (c : AnswererCore). answer.first_asked c (pieces_with (Some packet) false before) now) core in
    let read : Reading = read_by reads (answer.first_asked a (pieces_with (Some packet) false before) now) in
    let heard : answerer_with reads now (Some octets) l ≡ answers.leg_with l now read (Ok d) =
    ap (λ (b : Bool). if◌then◌else◌ {A = CallingLeg} b l (answers.leg_with l now (read_by reads (question (Some l) now octets)) (datagram_of octets))) on
    ∙ ap (λ (r : Result DatagramValue UdptlFault). answers.leg_with l now (read_by reads (question (Some l) now octets)) r) told
    ∙ ap (λ (o : Option Question). answers.leg_with l now (read_by reads o) (Ok d)) asked in
    subst (λ (y : CallingLeg). AnswererHears reads now redundancy (packet ∷ given) l y a false (Some packet) before) (sym heard)
    (record {
      core =
          comes_came (rung l.before l.begun) (new_pieces l.arrived d) now read l.events
          ∙ ap (λ (ps : List Piece). answer.came_all read (answers.core_of l) ps now) n.0
          ∙ ap (λ (c : AnswererCore). answer.came_all read c (pieces_with (Some packet) false before) now) core;
      slots = n.1;
      same_given = refl;
      pages = pages_same (rung l.before l.begun) (new_pieces l.arrived d) now read l.events;
      arrived = λ no. ap (λ (ds : List DatagramValue). d ∷ ds) (way refl);
    })

-- ---- BOTH GO ALIKE

pub record GoAlike (setup other : Setup) (writes : Writing) (job : JobValue) (x : Legs) (y : Link) : Type 0 where
  pub is_job : x.caller.job ≡ job
  pub caller : calls.core_of writes x.caller ≡ y.caller
  pub answerer : answers.core_of x.answerer ≡ y.answerer
  pub to_caller : newest_slots x.caller.arrived ≡ y.to_caller
  pub to_answerer : newest_slots x.answerer.arrived ≡ y.to_answerer
  pub pages : pages_confirmed (rung x.answerer.before x.answerer.begun) x.answerer.events ≡ map (λ (c : ConfirmedPage). c.page) y.kept
  pub fit : AllFit y.caller.waiting
  pub short : Each IsShort y.answerer.waiting
  pub caller_gave : AreShort x.caller.given
  pub answerer_gave : AreShort x.answerer.given
  pub sent : is_idle y.answerer.state ≡ false → x.answerer.arrived ≡ datagrams_in setup.redundancy x.caller.given
  pub back : is_over y.caller.state ≡ false → OnWay other.redundancy x.answerer.given x.caller.arrived x.reply y.reply

told_so : (setup : Setup) (given : List (List ℕ)) (o : Option Packet) → AreShort given → FitGiven o → Told setup.redundancy given (calls.told_by setup given o) (packet_given o)
told_so setup given None s f = tt
told_so setup given (Some p) s f = read_back setup given (written p) (f, s)

given_so : (given : List (List ℕ)) (o : Option Packet) → given_with (packet_given o) given ≡ packets_given o given
given_so given None = refl
given_so given (Some p) = refl

more_short : (given : List (List ℕ)) (o : Option Packet) → AreShort given → FitGiven o → AreShort (packets_given o given)
more_short given None s f = s
more_short given (Some p) s f = (f, s)

reply_short : (given : List (List ℕ)) (o : Option WaitingPacket) → AreShort given → IfGiven IsShort o → AreShort (answers.packets_with o given)
reply_short given None s f = s
reply_short given (Some w) s f = (f, s)

way_so : (other : Setup) (given : List (List ℕ)) (arrived : List DatagramValue) (o : Option WaitingPacket) → AreShort given → IfGiven IsShort o → arrived ≡ datagrams_in other.redundancy given
    → OnWay other.redundancy (answers.packets_with o given) arrived (answers.told_by other given o) (packet_in o)
way_so other given arrived None s f is = is
way_so other given arrived (Some w) s f is = (given, refl, is, read_back other given w.packet (f, s))

pages_so : (pages : List PageValue) (kept : List ConfirmedPage) (o : Option WaitingPacket) → pages ≡ map (λ (c : ConfirmedPage). c.page) kept
    → confirmed_in_tick o pages ≡ map (λ (c : ConfirmedPage). c.page) (kept_with (confirmed_in o) kept)
pages_so pages kept None is = is
pages_so pages kept (Some w) is = by w.confirmed
  where
    by : (o : Option ConfirmedPage) → confirmed_with o pages ≡ map (λ (c : ConfirmedPage). c.page) (kept_with o kept)
    by None = is
    by (Some c) = ap (λ (ps : List PageValue). c.page ∷ ps) is

-- after the caller's turn and the answerer's, each of which is the tick of a core
pub alike_after : (setup other : Setup) (writes : Writing) (reads : Reader) (job : JobValue) (now : ℕ) (x : Legs) (y : Link) → GoAlike setup other writes job x y
    → GoAlike setup other writes job (legs_round setup other writes reads now x) (round writes reads job now y)
unfolding legs_round round caller_turned answerer_turned
alike_after setup other writes reads job now x y g =
    let over : Bool = is_over y.caller.state in
    let ps : List Piece = pieces_with y.reply over y.to_caller in
    let heard : CallerCore = call.came_all y.caller ps now in
    let c : call.TickResult = call.ticked writes job heard now in
    let xc : CalledLeg = caller_with writes now x.reply x.caller in
    let h : CallerHears writes now other.redundancy x.answerer.given x.caller xc y.caller over y.reply y.to_caller =
    caller_hears writes now other.redundancy x.answerer.given x.caller y.caller over x.reply y.reply y.to_caller refl g.caller g.to_caller g.back in
    let ticks : calls.calls writes xc now ≡ c = ap (λ (j : JobValue). call.ticked writes j (calls.core_of writes xc) now) (h.same_job ∙ g.is_job) ∙ ap (λ (k : CallerCore). call.ticked writes job k now) h.core in
    let fits : FitTick c = ticked_fits writes job heard now (came_fits y.caller ps now g.fit) in
    let packet : Option (List ℕ) = packet_given c.given in
    let datagram : by_caller setup writes now xc ≡ calls.told_by setup x.caller.given c.given =
    ap (λ (t : call.TickResult). calls.told_by setup xc.given t.given) ticks ∙ ap (λ (gs : List (List ℕ)). calls.told_by setup gs c.given) h.same_given in
    let gave : packets_given (calls.calls writes xc now).given xc.given ≡ packets_given c.given x.caller.given =
    ap (λ (t : call.TickResult). packets_given t.given xc.given) ticks ∙ ap (λ (gs : List (List ℕ)). packets_given c.given gs) h.same_given in
    let idle : Bool = is_idle y.answerer.state in
    let qs : List Piece = pieces_with packet idle y.to_answerer in
    let read : Reading = read_by reads (answer.first_asked y.answerer qs now) in
    let listened : AnswererCore = answer.came_all read y.answerer qs now in
    let t : answer.TickResult = answer.ticked listened now in
    let xa : CallingLeg = answerer_with reads now (by_caller setup writes now xc) x.answerer in
    let k : AnswererHears reads now setup.redundancy (given_with packet x.caller.given) x.answerer xa y.answerer idle packet y.to_answerer =
    answerer_hears reads now setup.redundancy x.caller.given x.answerer y.answerer idle (by_caller setup writes now xc) packet y.to_answerer refl g.answerer g.to_answerer g.sent
    (subst (λ (o : Option (List ℕ)). Told setup.redundancy x.caller.given o packet) (sym datagram) (told_so setup x.caller.given c.given g.caller_gave fits.given)) in
    let goes : answers.answers xa now ≡ t = ap (λ (b : AnswererCore). answer.ticked b now) k.core in
    let shorts : EachTick IsShort t = ticked_each IsShort are_short listened now (came_short read y.answerer qs now g.short) in
    let replies : answers.packets_with (answers.answers xa now).given xa.given ≡ answers.packets_with t.given x.answerer.given =
    ap (λ (r : answer.TickResult). answers.packets_with r.given xa.given) goes ∙ ap (λ (gs : List (List ℕ)). answers.packets_with t.given gs) k.same_given in
    let told : by_answerer other now xa ≡ answers.told_by other x.answerer.given t.given =
    ap (λ (r : answer.TickResult). answers.told_by other xa.given r.given) goes ∙ ap (λ (gs : List (List ℕ)). answers.told_by other gs t.given) k.same_given in
    record {
      is_job = h.same_job ∙ g.is_job;
      caller = ap (λ (r : call.TickResult). r.core) ticks;
      answerer = ap (λ (r : answer.TickResult). r.core) goes;
      to_caller = h.slots;
      to_answerer = k.slots;
      pages =
          ap (λ (r : answer.TickResult). confirmed_in_tick r.given (pages_confirmed (rung xa.before xa.begun) xa.events)) goes
          ∙ pages_so (pages_confirmed (rung xa.before xa.begun) xa.events) y.kept t.given (k.pages ∙ g.pages);
      fit = fits.core;
      short = shorts.core;
      caller_gave = subst AreShort (sym gave) (more_short x.caller.given c.given g.caller_gave fits.given);
      answerer_gave = subst AreShort (sym replies) (reply_short x.answerer.given t.given g.answerer_gave shorts.given);
      sent = λ on. k.arrived (stays_idle read y.answerer qs now on) ∙ ap (λ (gs : List (List ℕ)). datagrams_in setup.redundancy gs) (given_so x.caller.given c.given ∙ sym gave);
      back = λ on.
          subst (λ (r : Option (List ℕ)). OnWay other.redundancy (answers.packets_with (answers.answers xa now).given xa.given) xc.arrived r (packet_in t.given)) (sym told)
          (subst (λ (gs : List (List ℕ)). OnWay other.redundancy gs xc.arrived (answers.told_by other x.answerer.given t.given) (packet_in t.given)) (sym replies)
          (way_so other x.answerer.given xc.arrived t.given g.answerer_gave shorts.given (h.arrived (stays_over writes job y.caller ps now on))));
    }

-- what the answerer's leg does is what its core does
pub confirms_alike : (setup other : Setup) (writes : Writing) (reads : Reader) (job : JobValue) (now : ℕ) (x : Legs) (y : Link) → GoAlike setup other writes job x y
    → answers.answers (answerer_with reads now (by_caller setup writes now (caller_with writes now x.reply x.caller)) x.answerer) now ≡ answerer_turned reads now (packet_given (caller_turned writes job now y).given) y
unfolding caller_turned answerer_turned
confirms_alike setup other writes reads job now x y g =
    let over : Bool = is_over y.caller.state in
    let ps : List Piece = pieces_with y.reply over y.to_caller in
    let heard : CallerCore = call.came_all y.caller ps now in
    let c : call.TickResult = call.ticked writes job heard now in
    let xc : CalledLeg = caller_with writes now x.reply x.caller in
    let h : CallerHears writes now other.redundancy x.answerer.given x.caller xc y.caller over y.reply y.to_caller =
    caller_hears writes now other.redundancy x.answerer.given x.caller y.caller over x.reply y.reply y.to_caller refl g.caller g.to_caller g.back in
    let ticks : calls.calls writes xc now ≡ c = ap (λ (j : JobValue). call.ticked writes j (calls.core_of writes xc) now) (h.same_job ∙ g.is_job) ∙ ap (λ (k : CallerCore). call.ticked writes job k now) h.core in
    let fits : FitTick c = ticked_fits writes job heard now (came_fits y.caller ps now g.fit) in
    let packet : Option (List ℕ) = packet_given c.given in
    let datagram : by_caller setup writes now xc ≡ calls.told_by setup x.caller.given c.given =
    ap (λ (t : call.TickResult). calls.told_by setup xc.given t.given) ticks ∙ ap (λ (gs : List (List ℕ)). calls.told_by setup gs c.given) h.same_given in
    let idle : Bool = is_idle y.answerer.state in
    let xa : CallingLeg = answerer_with reads now (by_caller setup writes now xc) x.answerer in
    let k : AnswererHears reads now setup.redundancy (given_with packet x.caller.given) x.answerer xa y.answerer idle packet y.to_answerer =
    answerer_hears reads now setup.redundancy x.caller.given x.answerer y.answerer idle (by_caller setup writes now xc) packet y.to_answerer refl g.answerer g.to_answerer g.sent
    (subst (λ (o : Option (List ℕ)). Told setup.redundancy x.caller.given o packet) (sym datagram) (told_so setup x.caller.given c.given g.caller_gave fits.given)) in
    ap (λ (b : AnswererCore). answer.ticked b now) k.core

pub alike_on : (setup other : Setup) (writes : Writing) (reads : Reader) (job : JobValue) (many now : ℕ) (x : Legs) (y : Link) → GoAlike setup other writes job x y
    → GoAlike setup other writes job (legs_rounds setup other writes reads many now x) (rounds writes reads job many now y)
unfolding legs_rounds rounds
alike_on setup other writes reads job zero now x y g = g
alike_on setup other writes reads job (suc many) now x y g =
    alike_on setup other writes reads job many (now + 40) (legs_round setup other writes reads now x) (round writes reads job now y) (alike_after setup other writes reads job now x y g)

-- they begin alike
pub begin_alike : (setup other : Setup) (writes : Writing) (job : JobValue) (now : ℕ)
    → GoAlike setup other writes job (legs_begun setup other writes job now) (begun job (calls.core_left setup writes None) (new_answering other.pause) now)
begin_alike setup other writes job now =
    record {
      is_job = refl;
      caller = refl;
      answerer = refl;
      to_caller = newest_at_first;
      to_answerer = newest_at_first;
      pages = refl;
      fit = (omega arith, tt);
      short = rung_each IsShort are_short (new_answering other.pause) now;
      caller_gave = tt;
      answerer_gave = tt;
      sent = λ on. refl;
      back = λ on. refl;
    }
