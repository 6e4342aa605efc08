-- The packet with a confirmed page is an MCF.
use Rattle.std.proofs.Common.{◌≡◌, ℕ, List, Option, Some, None, refl, subst}
use Rattle.fax_answer.specs.History.{Decision, PassesOver, Trains, HangsUp, GivesCfr, GivesFtt, GivesMcf, GivesRtn}
use Rattle.fax_answer.specs.Replies.{ConfirmedPage, WaitingPacket, reply_to, mcf_packet}
use Rattle.fax_answer.specs.Calls.{AnswererCore, rung, ticked, CallEvent, after_events}
use Rattle.fax_answer.proofs.EachReply.{Each, IfGiven, OfReplies, events_each, rung_each, ticked_each}

abbrev IfMcf : Option ConfirmedPage → List ℕ → Type 0
IfMcf None packet = Unit {0}
IfMcf (Some c) packet = packet ≡ mcf_packet

abbrev IsNeat : WaitingPacket → Type 0
IsNeat w = IfMcf w.confirmed w.packet

reply_neat : (d : Decision) → Each IsNeat (reply_to d)
reply_neat PassesOver = tt
reply_neat (Trains dcs) = tt
reply_neat HangsUp = tt
reply_neat (GivesCfr dcs) = (tt, (tt, tt))
reply_neat GivesFtt = (tt, (tt, tt))
reply_neat (GivesMcf command None) = (tt, (tt, tt))
reply_neat (GivesMcf command (Some page)) = (tt, (refl, tt))
reply_neat GivesRtn = (tt, (tt, tt))

neat : OfReplies IsNeat
neat = record { tone = tt; dis = (tt, (tt, tt)); goodbye = (tt, (tt, tt)); reply = reply_neat }

given_mcf : (o : Option WaitingPacket) (w : WaitingPacket) (c : ConfirmedPage) → IfGiven IsNeat o → o ≡ Some w → w.confirmed ≡ Some c → w.packet ≡ mcf_packet
given_mcf None w c n is h = cc
given_mcf (Some v) w c n is h =
    let e : v ≡ w = cc in
    let m : IfMcf w.confirmed w.packet = subst IsNeat e n in
    subst (λ (q : Option ConfirmedPage). IfMcf q w.packet) h m

-- the tick with a confirmed page gives the MCF
pub mcf_with_page : (core : AnswererCore) (start now : ℕ) (events : List CallEvent) (w : WaitingPacket) (c : ConfirmedPage) →
    (ticked (after_events (rung core start) events) now).given ≡ Some w → w.confirmed ≡ Some c → w.packet ≡ mcf_packet
mcf_with_page core start now events w c is h =
    let a : AnswererCore = after_events (rung core start) events in
    given_mcf (ticked a now).given w c (ticked_each IsNeat neat a now (events_each IsNeat neat (rung core start) events (rung_each IsNeat neat core start))).given is h
