-- LINES THAT CARRY WHAT WAS HANDED TO THEM, told by what went over them. (ITU-T T.38, UDPTL; this project's profile.) Lists have the
-- newest first.
use Rattle.std.specs.Prelude.{◌≡◌, ◌≢◌, ℕ, ◌<◌, All, Contains, List, [], ◌∷◌, length, Option, Some, None}
use Rattle.fax_pagestore.specs.Pages.{PageValue, IsPage}
use Rattle.fax_jobs.specs.declared.outcome.Outcome.TheVariants as outcomes
use Rattle.fax_jobs.specs.declared.report.Report.{Report}
use Rattle.fax_jobs.specs.Books.{job_of}
use Rattle.fax_call.specs.Writings.{IsWriting, Writing}
use Rattle.fax_gateway.specs.declared.leg.Leg.{Leg}
use Rattle.fax_gateway.specs.declared.leg.Leg.TheVariants as legs
use Rattle.fax_gateway.specs.Setups.{Setup}
use Rattle.fax_gateway.specs.Wires.{Came, Failed, HandedDatagram, Nothing, Receipt}
use Rattle.fax_loop.specs.Exchanges.{IsPlayed, Lines}
use Rattle.fax_loop.specs.Faithful.{AreThePage}

-- nothing went before, and this since
abbrev pub IsAll : {A : Type 0} → List A → Option (List A) → Option (List A) → Type 0
IsAll list before after = (before ≡ Some []) × (after ≡ Some list)

-- the datagrams that a gateway received on each leg, and those that it handed over on its called leg
abbrev pub on_calling : Leg → List ℕ → List (List ℕ) → List (List ℕ)
on_calling legs.Calling octets earlier = octets ∷ earlier
on_calling legs.Called octets earlier = earlier

abbrev pub on_called : Leg → List ℕ → List (List ℕ) → List (List ℕ)
on_called legs.Calling octets earlier = earlier
on_called legs.Called octets earlier = octets ∷ earlier

abbrev pub came_called : List Receipt → List (List ℕ)
came_called [] = []
came_called (Came at room octets ∷ earlier) = on_called at octets (came_called earlier)
came_called (Nothing at room ∷ earlier) = came_called earlier
came_called (Failed at room ∷ earlier) = came_called earlier

abbrev pub came_calling : List Receipt → List (List ℕ)
came_calling [] = []
came_calling (Came at room octets ∷ earlier) = on_calling at octets (came_calling earlier)
came_calling (Nothing at room ∷ earlier) = came_calling earlier
came_calling (Failed at room ∷ earlier) = came_calling earlier

abbrev pub handed_called : List HandedDatagram → List (List ℕ)
handed_called [] = []
handed_called (handed ∷ earlier) = on_called handed.leg handed.octets (handed_called earlier)

-- a place is near to every other while fewer datagrams were handed over
abbrev pub most_near : ℕ
most_near = 32768

-- The ends and the wire tell all that went over them, and each datagram that came is one of those that were handed over at the other
-- end of its link: lost, repeated, late and out of order at will. What goes back may be any datagrams.
pub record AreLinked (before after : Lines) : Type 0 where
  pub caller_sent : List (List ℕ)
  pub caller_tells : IsAll caller_sent before.caller.sent after.caller.sent
  pub receipts : List Receipt
  pub receipts_told : IsAll receipts before.wire.received after.wire.received
  pub handed : List HandedDatagram
  pub handed_told : IsAll handed before.wire.sent after.wire.sent
  pub answerer_received : List (List ℕ)
  pub answerer_tells : IsAll answerer_received before.answerer.received after.answerer.received
  pub to_gateway : All (Contains caller_sent) (came_calling receipts)
  pub few_to_gateway : length caller_sent < most_near
  pub to_answerer : All (Contains (handed_called handed)) answerer_received
  pub few_to_answerer : length (handed_called handed) < most_near

-- The same of the way back from the machine that is called to the gateway.
pub record AreLinkedBack (before after : Lines) : Type 0 where
  pub answerer_sent : List (List ℕ)
  pub answerer_tells : IsAll answerer_sent before.answerer.sent after.answerer.sent
  pub receipts : List Receipt
  pub receipts_told : IsAll receipts before.wire.received after.wire.received
  pub from_answerer : All (Contains answerer_sent) (came_called receipts)
  pub few_from_answerer : length answerer_sent < most_near

abbrev pub IsDelivered : Option Report → Type 0
IsDelivered None = ⊥
IsDelivered (Some report) = report.outcome ≡ outcomes.Delivered

-- Over lines that are linked so each page that was confirmed, and so each that is printed, is the page; and where the report is that
-- the job was delivered, there is one at least, if the way back is linked too.
pub record IsFaithful (before after : Lines)
    (page : PageValue) (report : Option Report) (pages : List PageValue) : Type 0 where
  pub the_page : AreLinked before after → AreThePage page pages
  pub delivered : AreLinked before after
      → AreLinkedBack before after → IsDelivered report → pages ≢ []

-- So it is of each exchange of a page, which began with nothing restored.
abbrev pub ConfirmsThePageOver : Type 0
ConfirmsThePageOver = (setup : Setup) (writes : Writing) (page : PageValue) (before after : Lines)
    (report : Option Report) (pages : List PageValue) → setup.restored ≡ [] → IsWriting writes
    → IsPage page → IsPlayed setup writes (job_of 0 page) before after report pages
    → IsFaithful before after page report pages
