-- What one more datagram brings to a leg, and what an endpoint makes of it.
use Rattle.std.proofs.Common.{◌≡◌, ℕ, zero, suc, ◌+◌, ◌↔◌, Bool, true, false, not, nat_lt, List, [], ◌∷◌, ◌++◌, length, drop, map, reverse, replicate, Option, Some, None, option_map, Result, Ok, Err, refl, sym, ◌∙◌, ap, subst, arith, length-append, if◌then◌else◌}
use Rattle.std.proofs.Math.Seq.{drop-append_seam}
use Rattle.std.proofs.lemmas.List.{reverse-append, length-reverse}
use Rattle.std.specs.Result.{OnErr, IsOk}
use Rattle.fax_udptl.specs.declared.fault.UdptlFault.{UdptlFault}
use Rattle.fax_udptl.specs.Datagrams.{DatagramValue, datagram_of}
use Rattle.fax_udptl.specs.Sending.{SenderValue, HasSent}
use Rattle.fax_udptl.specs.Slots.{slots, newest_slots}
use Rattle.fax_udptl.specs.Taking.{IsAfter, DecidedValue, Decides, Takes, slots_in}
use Rattle.fax_ifp.specs.Elements.{Slot}
use Rattle.fax_ifp.specs.Pieces.{Piece, pieces}
use Rattle.fax_jobs.specs.Jobs.{JobValue}
use Rattle.fax_answer.specs.Table.{Reading, Question}
use Rattle.fax_answer.specs.Calls as answer_calls
use Rattle.fax_answer.specs.Calls.{AnswererCore, first_asked, came_all, rung}
use Rattle.fax_answer.specs.Confirmation.{IsRead}
use Rattle.fax_answer.specs.Readings.{comes_all}
use Rattle.fax_answer.specs.Watching as answer_watching
use Rattle.fax_answer.specs.Reached as answer
use Rattle.fax_call.specs.declared.state.State.{State}
use Rattle.fax_call.specs.declared.state.State.TheVariants.{Idle, AwaitDis, AwaitCfr, AwaitMcf, Closing}
use Rattle.fax_call.specs.Writings.{Writing}
use Rattle.fax_call.specs.Calls as call_calls
use Rattle.fax_call.specs.Calls.{CallerCore}
use Rattle.fax_call.specs.Delivery.{is_over}
use Rattle.fax_call.specs.Reached as call
use Rattle.fax_call.specs.Watching as call_watching
use Rattle.fax_gateway.specs.Setups.{Setup}
use Rattle.fax_gateway.specs.declared.caller_endpoint.CallerEndpoint.{CallerEndpoint}
use Rattle.fax_gateway.specs.Legs.{new_pieces, decides, decided_by}
use Rattle.fax_gateway.specs.CallingLegs as calling_legs
use Rattle.fax_gateway.specs.CallingLegs.{CallingLeg, is_idle, idle_after, decided_calling, asked_by}
use Rattle.fax_gateway.specs.CalledLegs as called_legs
use Rattle.fax_gateway.specs.CalledLegs.{CalledLeg, begun_core, comes_to, decided_called, hears}
use Rattle.fax_gateway.specs.Reached.{CallingValue, IsCalling, IsCalled}
use Rattle.fax_gateway.specs.Watched.{HearsCallingTold, called_tellings, called_tellings_of, calling_tellings_of}

-- ONE MORE DATAGRAM
pub newest_more : (arrived : List DatagramValue) (d : DatagramValue) (x : DecidedValue) → Decides arrived d x → newest_slots (d ∷ arrived) ≡ reverse (slots_in x) ++ newest_slots arrived
unfolding newest_slots
newest_more arrived d x h = ap (λ (ss : List Slot). reverse ss) h.slots ∙ reverse-append (slots arrived) (slots_in x)

pieces_new : (arrived : List DatagramValue) (d : DatagramValue) (x : DecidedValue) (given : List Piece) → Decides arrived d x
    → pieces (reverse (slots_in x) ++ newest_slots arrived) ≡ pieces (newest_slots arrived) ++ given → new_pieces arrived d ≡ given
unfolding new_pieces
pieces_new arrived d x given h p =
    let before : List Piece = pieces (newest_slots arrived) in
    ap (λ (ss : List Slot). drop (length before) (pieces ss)) (newest_more arrived d x h) ∙ ap (λ (ps : List Piece). drop (length before) ps) p ∙ drop-append_seam before given

-- whether it decides a slot
more_slots : (m n : ℕ) → nat_lt n (m + n) ≡ nat_lt 0 m
more_slots zero n = grind (arith)
more_slots (suc m) n = grind (arith)

some_slots : (arrived : List DatagramValue) (d : DatagramValue) (x : DecidedValue) → Decides arrived d x → decides arrived d ≡ nat_lt 0 (length (slots_in x))
unfolding decides
some_slots arrived d x h =
    let n : ℕ = length (newest_slots arrived) in
    let count : length (newest_slots (d ∷ arrived)) ≡ length (slots_in x) + n =
    ap length (newest_more arrived d x h) ∙ length-append (reverse (slots_in x)) (newest_slots arrived) ∙ ap (λ (m : ℕ). m + n) (length-reverse (slots_in x)) in
    ap (λ (m : ℕ). nat_lt n m) count ∙ more_slots (length (slots_in x)) n

positive : (n : ℕ) → nat_lt 0 (suc n) ≡ true
positive n = grind (arith)

pub not_none : (ss : List Slot) (b : Bool) → (b ≡ true ↔ (ss ≡ [])) → not b ≡ nat_lt 0 (length ss)
not_none [] true h = refl
not_none [] false h = let e : false ≡ true = h.1 refl in cc
not_none (s ∷ ss) true h = let e : s ∷ ss ≡ [] = h.0 refl in cc
not_none (s ∷ ss) false h = sym (positive (length ss))

-- what is refused for want of memory has a packet, and so it decides a slot
some_packet : (n : ℕ) (ps : List (List ℕ)) → (ps ≡ [] → ⊥) → true ≡ nat_lt 0 (length (replicate n None ++ map (λ (p : List ℕ). Some p) ps))
some_packet zero [] h = absurd (h refl)
some_packet zero (p ∷ ps) h = sym (positive (length (map (λ (p : List ℕ). Some p) ps)))
some_packet (suc n) ps h = sym (positive (length (replicate n None ++ map (λ (p : List ℕ). Some p) ps)))

pub refused_decides : {T E : Type 0} (x : DecidedValue) (r : Result T E) (e : E) → r ≡ Err e → (x.packets ≡ [] → IsOk r) → true ≡ nat_lt 0 (length (slots_in x))
refused_decides x (Ok y) e is h = cc
refused_decides x (Err y) e is h = some_packet x.lost x.packets (λ none. let k : false ≡ true = h none in cc)

pub on_err : {T E : Type 0} {P : Type 0} (r : Result T E) → P → OnErr r P
on_err (Ok x) p = tt
on_err (Err e) p = p

-- THE CALLING LEG
pub comes_core : (a : AnswererCore) (ps : List Piece) (now : ℕ) (read : Reading) (events : List answer_calls.CallEvent) → answer_calls.after_events a (comes_all ps now read events) ≡ came_all read (answer_calls.after_events a events) ps now
comes_core a [] now read events = refl
comes_core a (p ∷ ps) now read events = comes_core a ps now read (answer_calls.Comes p now read ∷ events)

abbrev question_by : Bool → CallingLeg → ℕ → Result DatagramValue UdptlFault → Option Question
question_by b l now r = if b then None else asked_by l now r

abbrev pub heard_by : Bool → CallingLeg → ℕ → Reading → Result DatagramValue UdptlFault → Option CallingLeg
heard_by b l now read r = if b then Some l else Some (calling_legs.leg_with l now read r)

-- where no call is on, nothing is heard: so one is on
pub decided_on_calling : (setup : Setup) (leg : Option CallingLeg) (octets : List ℕ) (x : DecidedValue) (old : CallingValue) (receiver : Option ℕ) (b : Bool) → idle_after leg ≡ false → IsCalling setup leg old
    → Takes octets old.leg.receiver receiver x → b ≡ nat_lt 0 (length (slots_in x)) → b ≡ decided_calling leg octets
decided_on_calling setup None octets x old receiver b off r t e = cc
decided_on_calling setup (Some l) octets x old receiver b off r t e =
    e ∙ sym (some_slots l.arrived t.datagram x (t.decides l.arrived r.on_leg.receiver))
    ∙ sym (ap (λ (b : Bool). decided_by b l.arrived (datagram_of octets)) off ∙ ap (λ (r : Result DatagramValue UdptlFault). decided_by false l.arrived r) t.is)

leg_hears : (setup : Setup) (l : CallingLeg) (now : ℕ) (d : DatagramValue) (x : DecidedValue) (old new : CallingValue) → IsCalling setup (Some l) old → Decides l.arrived d x → IsAfter (d ∷ l.arrived) new.leg.receiver
    → new.number ≡ old.number → new.leg.sender ≡ old.leg.sender → (h : answer.Hears (slots_in x) now (newest_slots l.arrived) (calling_legs.core_of l) new.kept)
    → IsCalling setup (Some (calling_legs.leg_with l now h.read (Ok d))) new
leg_hears setup l now d x old new r n after number sender h =
    let given : new_pieces l.arrived d ≡ h.given = pieces_new l.arrived d x h.given n h.pieces in
    let core : calling_legs.core_of (calling_legs.leg_with l now h.read (Ok d)) ≡ came_all h.read (calling_legs.core_of l) h.given now =
    comes_core (rung l.before l.begun) (new_pieces l.arrived d) now h.read l.events ∙ ap (λ (ps : List Piece). came_all h.read (calling_legs.core_of l) ps now) given in
    record {
      number = r.number ∙ sym number;
      core =
          subst (λ (a : AnswererCore). answer.IsReached (newest_slots (d ∷ l.arrived)) a new.kept) (sym core)
          (subst (λ (ss : List Slot). answer.IsReached ss (came_all h.read (calling_legs.core_of l) h.given now) new.kept) (sym (newest_more l.arrived d x n)) h.reached);
      on_leg = record { receiver = after; sender = subst (λ (s : SenderValue). HasSent setup.redundancy l.given s) (sym sender) r.on_leg.sender };
    }

abbrev told_by : Bool → CallingLeg → ℕ → Reading → Result DatagramValue UdptlFault → List answer_watching.Telling
told_by b l now read r = if b then [] else calling_tellings_of l now read r

pub hears_calling : (Tells : List answer_watching.Telling → Type 0) (setup : Setup) (leg : Option CallingLeg) (now : ℕ) (octets : List ℕ) (x : DecidedValue) (old new : CallingValue) → idle_after leg ≡ false → IsCalling setup leg old → Takes octets old.leg.receiver new.leg.receiver x
    → new.number ≡ old.number → new.leg.sender ≡ old.leg.sender → ((heard : List Slot) (core : AnswererCore) → answer.IsReached heard core old.kept → answer.HearsTold Tells (slots_in x) now heard core new.kept)
    → HearsCallingTold Tells setup leg now octets new
hears_calling Tells setup None now octets x old new off r t number sender f = cc
hears_calling Tells setup (Some l) now octets x old new off r t number sender f =
    let both = f (newest_slots l.arrived) (calling_legs.core_of l) r.core in
    let h = both.hears in
    let n : Decides l.arrived t.datagram x = t.decides l.arrived r.on_leg.receiver in
    let given : new_pieces l.arrived t.datagram ≡ h.given = pieces_new l.arrived t.datagram x h.given n h.pieces in
    let asks : question_by (is_idle (calling_legs.core_of l).state) l now (datagram_of octets) ≡ first_asked (calling_legs.core_of l) h.given now =
    ap (λ (b : Bool). question_by b l now (datagram_of octets)) off ∙ ap (λ (r : Result DatagramValue UdptlFault). question_by false l now r) t.is
    ∙ ap (λ (ps : List Piece). first_asked (calling_legs.core_of l) ps now) given in
    let gives : heard_by (is_idle (calling_legs.core_of l).state) l now h.read (datagram_of octets) ≡ Some (calling_legs.leg_with l now h.read (Ok t.datagram)) =
    ap (λ (b : Bool). heard_by b l now h.read (datagram_of octets)) off ∙ ap (λ (r : Result DatagramValue UdptlFault). heard_by false l now h.read r) t.is in
    let tells : told_by (is_idle (calling_legs.core_of l).state) l now h.read (datagram_of octets) ≡ answer_watching.tellings h.read (calling_legs.core_of l) h.given now =
    ap (λ (b : Bool). told_by b l now h.read (datagram_of octets)) off ∙ ap (λ (r : Result DatagramValue UdptlFault). told_by false l now h.read r) t.is
    ∙ ap (λ (ps : List Piece). answer_watching.tellings h.read (calling_legs.core_of l) ps now) given in
    record {
      hears = record {
        read = h.read;
        right = subst (λ (q : Option Question). IsRead q h.read) (sym asks) h.right;
        calling = subst (λ (o : Option CallingLeg). IsCalling setup o new) (sym gives) (leg_hears setup l now t.datagram x old new r n (t.after l.arrived r.on_leg.receiver) number sender h);
      };
      told = subst Tells (sym tells) both.told;
    }

-- one that comes while no call is on, and one that cannot be read, bring nothing, and nothing is told
abbrev pub BringsNothing : Bool → Result DatagramValue UdptlFault → Type 0
BringsNothing true r = Unit {0}
BringsNothing false (Ok d) = ⊥
BringsNothing false (Err fault) = Unit {0}

abbrev Quiet : (Tells : List answer_watching.Telling → Type 0) → Setup → CallingLeg → ℕ → CallingValue → Bool → Result DatagramValue UdptlFault → Type 0
Quiet Tells setup l now endpoint b r = (read : Reading) × IsRead (question_by b l now r) read × IsCalling setup (heard_by b l now read r) endpoint × Tells (told_by b l now read r)

quiet : (Tells : List answer_watching.Telling → Type 0) (setup : Setup) (l : CallingLeg) (now : ℕ) (endpoint : CallingValue) (b : Bool) (r : Result DatagramValue UdptlFault) → IsCalling setup (Some l) endpoint → Tells [] → BringsNothing b r
    → Quiet Tells setup l now endpoint b r
quiet Tells setup l now endpoint true r c t n = (None, refl, c, t)
quiet Tells setup l now endpoint false (Ok d) c t n = absurd n
quiet Tells setup l now endpoint false (Err fault) c t n = (None, refl, c, t)

abbrev pub LegBringsNothing : Option CallingLeg → List ℕ → Type 0
LegBringsNothing None octets = Unit {0}
LegBringsNothing (Some l) octets = BringsNothing (is_idle (calling_legs.core_of l).state) (datagram_of octets)

pub hears_nothing : (Tells : List answer_watching.Telling → Type 0) (setup : Setup) (leg : Option CallingLeg) (now : ℕ) (octets : List ℕ) (endpoint : CallingValue) → IsCalling setup leg endpoint → Tells [] → LegBringsNothing leg octets
    → HearsCallingTold Tells setup leg now octets endpoint
hears_nothing Tells setup None now octets endpoint c t n = record { hears = record { read = None; right = refl; calling = c }; told = t }
hears_nothing Tells setup (Some l) now octets endpoint c t n =
    let q : Quiet Tells setup l now endpoint (is_idle (calling_legs.core_of l).state) (datagram_of octets) = quiet Tells setup l now endpoint (is_idle (calling_legs.core_of l).state) (datagram_of octets) c t n in
    record { hears = record { read = q.0; right = q.1; calling = q.2 }; told = q.3 }

pub brings_none_idle : (leg : Option CallingLeg) (octets : List ℕ) → idle_after leg ≡ true → LegBringsNothing leg octets
brings_none_idle None octets e = tt
brings_none_idle (Some l) octets e = subst (λ (b : Bool). BringsNothing b (datagram_of octets)) (sym e) tt

fault_brings : (b : Bool) (fault : UdptlFault) → BringsNothing b (Err fault)
fault_brings true fault = tt
fault_brings false fault = tt

pub brings_none_unread : (leg : Option CallingLeg) (octets : List ℕ) (fault : UdptlFault) → datagram_of octets ≡ Err fault → LegBringsNothing leg octets
brings_none_unread None octets fault e = tt
brings_none_unread (Some l) octets fault e =
    subst (λ (r : Result DatagramValue UdptlFault). BringsNothing (is_idle (calling_legs.core_of l).state) r) (sym e) (fault_brings (is_idle (calling_legs.core_of l).state) fault)

-- THE CALLED LEG
pub came_core : (writes : Writing) (job : JobValue) (a : CallerCore) (ps : List Piece) (now : ℕ) (events : List call_calls.CallEvent) → call_calls.after_events writes job a (comes_to ps now events) ≡ call_calls.came_all (call_calls.after_events writes job a events) ps now
came_core writes job a [] now events = refl
came_core writes job a (p ∷ ps) now events = came_core writes job a ps now (call_calls.Comes p now ∷ events)

abbrev pub hears_by : Bool → CalledLeg → ℕ → Result DatagramValue UdptlFault → CalledLeg
hears_by b l now r = if b then l else called_legs.leg_with r now l

on_call : (s : State) → (s ≡ Idle → ⊥) → is_over s ≡ false
on_call Idle h = absurd (h refl)
on_call AwaitDis h = refl
on_call (AwaitCfr dis dcs) h = refl
on_call (AwaitMcf dis dcs) h = refl
on_call (Closing outcome) h = refl

-- before the first job no call is on
abbrev OnCall : Writing → Option CalledLeg → Type 0
OnCall writes None = ⊥
OnCall writes (Some l) = is_over (called_legs.core_of writes l).state ≡ false

on_called : (setup : Setup) (writes : Writing) (leg : Option CalledLeg) (endpoint : CallerEndpoint) → IsCalled setup writes leg endpoint → (endpoint.caller.procedure.state ≡ Idle → ⊥) → OnCall writes leg
on_called setup writes None endpoint r off = off (r.core (record { call = 0; format = endpoint.caller.procedure.format; pages = [] })).follows.state
on_called setup writes (Some l) endpoint r off = on_call (called_legs.core_of writes l).state (λ e. off (r.core.follows.state ∙ e))

pub decided_on_called : (setup : Setup) (writes : Writing) (leg : Option CalledLeg) (octets : List ℕ) (x : DecidedValue) (old : CallerEndpoint) (receiver : Option ℕ) (b : Bool) → (old.caller.procedure.state ≡ Idle → ⊥) → IsCalled setup writes leg old
    → Takes octets old.leg.receiver receiver x → b ≡ nat_lt 0 (length (slots_in x)) → b ≡ decided_called writes leg octets
decided_on_called setup writes None octets x old receiver b off r t e = absurd (on_called setup writes None old r off)
decided_on_called setup writes (Some l) octets x old receiver b off r t e =
    e ∙ sym (some_slots l.arrived t.datagram x (t.decides l.arrived r.on_leg.receiver))
    ∙ sym (ap (λ (b : Bool). decided_by b l.arrived (datagram_of octets)) (on_called setup writes (Some l) old r off) ∙ ap (λ (r : Result DatagramValue UdptlFault). decided_by false l.arrived r) t.is)

leg_hears_called : (setup : Setup) (writes : Writing) (l : CalledLeg) (now : ℕ) (d : DatagramValue) (x : DecidedValue) (old new : CallerEndpoint) → IsCalled setup writes (Some l) old → Decides l.arrived d x → IsAfter (d ∷ l.arrived) new.leg.receiver
    → new.leg.sender ≡ old.leg.sender → call.Hears writes l.job (slots_in x) now (newest_slots l.arrived) (called_legs.core_of writes l) new.caller
    → IsCalled setup writes (Some (called_legs.leg_with (Ok d) now l)) new
leg_hears_called setup writes l now d x old new r n after sender h =
    let given : new_pieces l.arrived d ≡ h.given = pieces_new l.arrived d x h.given n h.pieces in
    let core : called_legs.core_of writes (called_legs.leg_with (Ok d) now l) ≡ call_calls.came_all (called_legs.core_of writes l) h.given now =
    came_core writes l.job (begun_core l) (new_pieces l.arrived d) now l.events ∙ ap (λ (ps : List Piece). call_calls.came_all (called_legs.core_of writes l) ps now) given in
    record {
      core =
          subst (λ (a : CallerCore). call.IsReached writes l.job (newest_slots (d ∷ l.arrived)) a new.caller) (sym core)
          (subst (λ (ss : List Slot). call.IsReached writes l.job ss (call_calls.came_all (called_legs.core_of writes l) h.given now) new.caller) (sym (newest_more l.arrived d x n)) h.reached);
      on_leg = record { receiver = after; sender = subst (λ (s : SenderValue). HasSent setup.redundancy l.given s) (sym sender) r.on_leg.sender };
    }

pub hears_called : (setup : Setup) (writes : Writing) (leg : Option CalledLeg) (now : ℕ) (octets : List ℕ) (x : DecidedValue) (old new : CallerEndpoint) → (old.caller.procedure.state ≡ Idle → ⊥) → IsCalled setup writes leg old → Takes octets old.leg.receiver new.leg.receiver x
    → new.leg.sender ≡ old.leg.sender → ((writes : Writing) (job : JobValue) (heard : List Slot) (core : CallerCore) → call.IsReached writes job heard core old.caller → call.Hears writes job (slots_in x) now heard core new.caller)
    → IsCalled setup writes (option_map (hears writes octets now) leg) new
hears_called setup writes None now octets x old new off r t sender f = absurd (on_called setup writes None old r off)
hears_called setup writes (Some l) now octets x old new off r t sender f =
    let h = f writes l.job (newest_slots l.arrived) (called_legs.core_of writes l) r.core in
    let n : Decides l.arrived t.datagram x = t.decides l.arrived r.on_leg.receiver in
    let gives : hears_by (is_over (called_legs.core_of writes l).state) l now (datagram_of octets) ≡ called_legs.leg_with (Ok t.datagram) now l =
    ap (λ (b : Bool). hears_by b l now (datagram_of octets)) (on_called setup writes (Some l) old r off) ∙ ap (λ (r : Result DatagramValue UdptlFault). hears_by false l now r) t.is in
    subst (λ (k : CalledLeg). IsCalled setup writes (Some k) new) (sym gives) (leg_hears_called setup writes l now t.datagram x old new r n (t.after l.arrived r.on_leg.receiver) sender h)

-- what is told of it
abbrev told_on : Bool → Writing → CalledLeg → ℕ → Result DatagramValue UdptlFault → List call_watching.Telling
told_on b writes l now r = if b then [] else called_tellings_of writes l now r

pub told_called : (Tells : List call_watching.Telling → Type 0) (setup : Setup) (writes : Writing) (leg : Option CalledLeg) (now : ℕ) (octets : List ℕ) (x : DecidedValue) (old new : CallerEndpoint) → (old.caller.procedure.state ≡ Idle → ⊥) → IsCalled setup writes leg old
    → Takes octets old.leg.receiver new.leg.receiver x
    → ((writes : Writing) (job : JobValue) (heard : List Slot) (core : CallerCore) → call.IsReached writes job heard core old.caller → call.HearsTold Tells writes job (slots_in x) now heard core new.caller)
    → Tells (called_tellings writes leg now octets)
told_called Tells setup writes None now octets x old new off r t f = absurd (on_called setup writes None old r off)
told_called Tells setup writes (Some l) now octets x old new off r t f =
    let both = f writes l.job (newest_slots l.arrived) (called_legs.core_of writes l) r.core in
    let given : new_pieces l.arrived t.datagram ≡ both.hears.given = pieces_new l.arrived t.datagram x both.hears.given (t.decides l.arrived r.on_leg.receiver) both.hears.pieces in
    let tells : told_on (is_over (called_legs.core_of writes l).state) writes l now (datagram_of octets) ≡ call_watching.tellings (called_legs.core_of writes l) both.hears.given now =
    ap (λ (b : Bool). told_on b writes l now (datagram_of octets)) (on_called setup writes (Some l) old r off) ∙ ap (λ (r : Result DatagramValue UdptlFault). told_on false writes l now r) t.is
    ∙ ap (λ (ps : List Piece). call_watching.tellings (called_legs.core_of writes l) ps now) given in
    subst Tells (sym tells) both.told

-- where no call is on, and where it cannot be read, nothing is told
is_called_over : (s : State) → s ≡ Idle → is_over s ≡ true
is_called_over s e = ap is_over e

pub told_idle : (Tells : List call_watching.Telling → Type 0) (setup : Setup) (writes : Writing) (leg : Option CalledLeg) (now : ℕ) (octets : List ℕ) (endpoint : CallerEndpoint) → IsCalled setup writes leg endpoint → endpoint.caller.procedure.state ≡ Idle → Tells []
    → Tells (called_tellings writes leg now octets)
told_idle Tells setup writes None now octets endpoint r e t = t
told_idle Tells setup writes (Some l) now octets endpoint r e t =
    subst (λ (b : Bool). Tells (told_on b writes l now (datagram_of octets))) (sym (is_called_over (called_legs.core_of writes l).state (sym r.core.follows.state ∙ e))) t

fault_told : (Tells : List call_watching.Telling → Type 0) (b : Bool) (writes : Writing) (l : CalledLeg) (now : ℕ) (fault : UdptlFault) → Tells [] → Tells (told_on b writes l now (Err fault))
fault_told Tells true writes l now fault t = t
fault_told Tells false writes l now fault t = t

pub told_unread : (Tells : List call_watching.Telling → Type 0) (writes : Writing) (leg : Option CalledLeg) (now : ℕ) (octets : List ℕ) (fault : UdptlFault) → datagram_of octets ≡ Err fault → Tells [] → Tells (called_tellings writes leg now octets)
told_unread Tells writes None now octets fault e t = t
told_unread Tells writes (Some l) now octets fault e t =
    subst (λ (r : Result DatagramValue UdptlFault). Tells (told_on (is_over (called_legs.core_of writes l).state) writes l now r)) (sym e)
    (fault_told Tells (is_over (called_legs.core_of writes l).state) writes l now fault t)
