-- A call of a job whose pages all have one format gives no EOM: all DCS that are heard of it are of one kind.
use Rattle.std.proofs.Common.{◌≡◌, ℕ, zero, suc, ◌+◌, Bool, true, false, ◌||◌, ◌&&◌, nat_le, List, [], ◌∷◌, length, take, drop, replicate, Option, Some, None, refl, ◌∙◌, ap, if◌then◌else◌}
use Rattle.std.specs.List.{list_any}
use Rattle.fax_runcodes.specs.declared.format.Format.{Format}
use Rattle.fax_frames.specs.declared.dcs.Dcs.{Dcs}
use Rattle.fax_runcodes.specs.declared.Width.{Width}
use Rattle.fax_frames.specs.declared.rate.Rate.{Rate}
use Rattle.fax_frames.specs.declared.frame.Frame.TheVariants as frames
use Rattle.fax_frames.specs.Capabilities.{rate_of, width_of}
use Rattle.fax_frames.specs.FieldBits.{bit_of, bits_of_octets, code_at, octets_of}
use Rattle.fax_frames.specs.Frames.{dcs_by, dcs_in, dcs_of}
use Rattle.fax_frames.specs.Rates.{kind_of}
use Rattle.fax_frames.specs.Written.{dcs_bits, written_dcs}
use Rattle.fax_jobs.specs.Jobs.{JobValue, IsJob}
use Rattle.fax_timers.specs.Paces.{pace_allows}
use Rattle.fax_call.specs.Writings.{Writing, IsWriting}
use Rattle.fax_call.specs.Replies.{Packet, Tells, Part, Due, One, Text, part_length, parts_of, check_length, training_check, is_last_page, turn_after, command_by, command}
use Rattle.fax_call.specs.Table.{Move, Stays, Trains, Sends, AsksAgain, Turns, Closes, HangsUp}
use Rattle.fax_call.specs.Calls.{CallerCore, formats_of, started, moved, heard, timed, text_at, TakenPart, after_giving, given_first, TickResult, ticked, CallEvent, Comes, Ticks, after_events}
use Rattle.fax_call.specs.Given.{packets_with, packets_given, tells_eom, is_eom}
use Rattle.fax_call.proofs.FinePackets.{OneKind, one_kind_given}

-- after no page the format is another
abbrev pub IsOneFormat : List Format → Type 0
IsOneFormat formats = (page : ℕ) → turn_after formats page ≡ None

-- no EOM waits
abbrev AreQuiet : List Due → Type 0
AreQuiet [] = Unit {0}
AreQuiet (One packet ∷ due) = (tells_eom packet ≡ false) × AreQuiet due
AreQuiet (Text page dcs from ∷ due) = AreQuiet due

record Quiet (a : CallerCore) : Type 0 where
  one : IsOneFormat a.formats
  due : AreQuiet a.waiting

by_quiet : (bits : ℕ) (rate : Option Rate) (width : Option Width) → is_eom (Some (dcs_by bits rate width)) ≡ false
by_quiet bits None width = refl
by_quiet bits (Some rate) None = refl
by_quiet bits (Some rate) (Some width) = refl

in_quiet : (info : List ℕ) → is_eom (Some (dcs_in info)) ≡ false
in_quiet [] = refl
in_quiet (a ∷ []) = refl
in_quiet (a ∷ b ∷ []) = refl
in_quiet (a ∷ b ∷ c ∷ more) = by (bit_of 24 (a ∷ b ∷ c ∷ more) && bit_of 27 (a ∷ b ∷ c ∷ more))
  where
    bits : ℕ
    bits = bits_of_octets a b c

    by : (t : Bool) → is_eom (Some (if t then frames.Other else dcs_of bits)) ≡ false
    by true = refl
    by false = by_quiet bits (rate_of (code_at 11 14 bits)) (width_of (code_at 17 18 bits))

dcs_quiet : (dcs : Dcs) → tells_eom (Tells (written_dcs dcs)) ≡ false
dcs_quiet dcs = in_quiet (octets_of (dcs_bits dcs))

parts_quiet : (most kind n : ℕ) (octets : List ℕ) → AreQuiet (parts_of most kind n octets)
parts_quiet zero kind n octets = tt
parts_quiet (suc most) kind n octets = by (nat_le (length octets) n) (parts_quiet most kind n (drop n octets))
  where
    by : (b : Bool) → AreQuiet (parts_of most kind n (drop n octets)) → AreQuiet (if b then One (Part kind true octets) ∷ [] else One (Part kind false (take n octets)) ∷ parts_of most kind n (drop n octets))
    by true q = (refl, tt)
    by false q = (refl, q)

check_quiet : (dcs : Dcs) → AreQuiet (training_check dcs)
unfolding training_check
check_quiet dcs = parts_quiet (check_length dcs) (kind_of dcs.rate) (part_length dcs) (replicate (check_length dcs) 0)

command_quiet : (end : Bool) (turn : Option Format) → turn ≡ None → AreQuiet (command (command_by end turn))
command_quiet true turn e = (refl, (refl, tt))
command_quiet false None e = (refl, (refl, tt))
command_quiet false (Some format) e = cc

moved_quiet : (a : CallerCore) (m : Move) → Quiet a → Quiet (moved a m)
moved_quiet a Stays q = q
moved_quiet a (Trains dis dcs c) q = record { one = q.one; due = (refl, (dcs_quiet dcs, (refl, check_quiet dcs))) }
moved_quiet a (Sends dis dcs c) q = record { one = q.one; due = (refl, command_quiet (is_last_page a.pages c.page) (turn_after a.formats c.page) (q.one c.page)) }
moved_quiet a (AsksAgain c) q = record { one = q.one; due = command_quiet (is_last_page a.pages c.page) (turn_after a.formats c.page) (q.one c.page) }
moved_quiet a (Turns format t1 c) q = record { one = q.one; due = tt }
moved_quiet a (Closes outcome c) q = record { one = q.one; due = (refl, (refl, tt)) }
moved_quiet a HangsUp q = record { one = q.one; due = tt }

-- a tick
abbrev GivesNone : Option Packet → Type 0
GivesNone None = Unit {0}
GivesNone (Some packet) = tells_eom packet ≡ false

record QuietTick (t : TickResult) : Type 0 where
  core : Quiet t.core
  given : GivesNone t.given

after_quiet : (a : CallerCore) (now : ℕ) (packet : Packet) (due : List Due) → IsOneFormat a.formats → AreQuiet due → Quiet (after_giving a now packet due)
after_quiet a now packet [] one q = record { one = one; due = tt }
after_quiet a now packet (d ∷ due) one q = record { one = one; due = q }

text_quiet : (a : CallerCore) (now page : ℕ) (dcs : Dcs) (from : ℕ) (part rest : List ℕ) (due : List Due) (b : Bool) → IsOneFormat a.formats → AreQuiet due →
    let t : TakenPart = if◌then◌else◌ {A = TakenPart} b (record { packet = Part (kind_of dcs.rate) true rest; rest = due }) (record { packet = Part (kind_of dcs.rate) false part; rest = Text page dcs (from + part_length dcs) ∷ due }) in
    QuietTick (record { core = after_giving a now t.packet t.rest; given = Some t.packet })
text_quiet a now page dcs from part rest due true one q = record { core = after_quiet a now (Part (kind_of dcs.rate) true rest) due one q; given = refl }
text_quiet a now page dcs from part rest due false one q = record { core = after_quiet a now (Part (kind_of dcs.rate) false part) (Text page dcs (from + part_length dcs) ∷ due) one q; given = refl }

first_quiet : (writes : Writing) (job : JobValue) (a : CallerCore) (now : ℕ) (due : List Due) → Quiet a → AreQuiet due → QuietTick (given_first writes job a now due)
first_quiet writes job a now [] a_quiet q = record { core = a_quiet; given = tt }
first_quiet writes job a now (One packet ∷ due) a_quiet q = record { core = after_quiet a now packet due a_quiet.one q.1; given = q.0 }
first_quiet writes job a now (Text page dcs from ∷ due) a_quiet q =
    let rest : List ℕ = drop from (text_at writes job page dcs) in
    text_quiet a now page dcs from (take (part_length dcs) rest) rest due (nat_le (length rest) (part_length dcs)) a_quiet.one q

paced_quiet : (b : Bool) (a : CallerCore) (t : TickResult) → Quiet a → QuietTick t → QuietTick (if◌then◌else◌ {A = TickResult} b t (record { core = a; given = None }))
paced_quiet true a t q h = h
paced_quiet false a t q h = record { core = q; given = tt }

tick_quiet : (writes : Writing) (job : JobValue) (a : CallerCore) (now : ℕ) → Quiet a → QuietTick (ticked writes job a now)
tick_quiet writes job a now q =
    let b : CallerCore = timed a now in
    let r : Quiet b = moved_quiet a _ q in
    paced_quiet (pace_allows b.pace.last now) b (given_first writes job b now b.waiting) r (first_quiet writes job b now b.waiting r r.due)

events_quiet : (writes : Writing) (job : JobValue) (a : CallerCore) (events : List CallEvent) → Quiet a → Quiet (after_events writes job a events)
events_quiet writes job a [] q = q
events_quiet writes job a (Comes piece now ∷ before) q = let c : CallerCore = after_events writes job a before in moved_quiet c (heard c piece now) (events_quiet writes job a before q)
events_quiet writes job a (Ticks now ∷ before) q = (tick_quiet writes job (after_events writes job a before) now (events_quiet writes job a before q)).core

-- what it gives
with_none : (o : Option Packet) (packets : List Packet) → GivesNone o → list_any tells_eom packets ≡ false → list_any tells_eom (packets_with o packets) ≡ false
with_none None packets g h = h
with_none (Some packet) packets g h = ap (λ (b : Bool). b || list_any tells_eom packets) g ∙ h

given_none : (writes : Writing) (job : JobValue) (a : CallerCore) (events : List CallEvent) → Quiet a → list_any tells_eom (packets_given writes job a events) ≡ false
given_none writes job a [] q = refl
given_none writes job a (Comes piece now ∷ before) q = given_none writes job a before q
given_none writes job a (Ticks now ∷ before) q =
    with_none (ticked writes job (after_events writes job a before) now).given (packets_given writes job a before)
    (tick_quiet writes job (after_events writes job a before) now (events_quiet writes job a before q)).given (given_none writes job a before q)

-- all its DCS are of one kind
pub one_kind_of : (writes : Writing) (job : JobValue) (core : CallerCore) (start : ℕ) (events : List CallEvent) → IsWriting writes → IsJob job → IsOneFormat (formats_of job) → OneKind writes job core start events
one_kind_of writes job core start events w is one =
    one_kind_given writes job core start events w is (given_none writes job (started core job start) events (record { one = one; due = (refl, tt) }))
