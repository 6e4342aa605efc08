-- Pictures of pages that are confirmed.
use Rattle.std.proofs.Common.{◌≡◌, ℕ, max, List, [], ◌∷◌, ◌++◌, length, Option, Some, None, refl, ◌∙◌, ap, append-nil, append_assoc, sym, subst}
use Rattle.fax_pagestore.specs.Pages.{PageValue}
use Rattle.fax_jobs.specs.Newest.{newest_page}
use Rattle.fax_answer.specs.Replies.{ConfirmedPage}
use Rattle.fax_call.specs.Writings.{Writing}
use Rattle.fax_gateway.specs.declared.given.Kept.{Kept}
use Rattle.fax_gateway.specs.CallingLegs.{CallingLeg, calling_leg}
use Rattle.fax_gateway.specs.Cuts.{confirmed_at}
use Rattle.fax_gateway.specs.Events.{Event, Given, Tick, clock}
use Rattle.fax_gateway.specs.Newest.{ConfirmsTheNewest}
use Rattle.fax_gateway.specs.Reached.{GatewayValue, IsReachedBy}
use Rattle.fax_gateway.specs.Setups.{Setup}
use Rattle.fax_gateway.specs.Turns.{kept_at, kept_if}
use Rattle.fax_explain.specs.declared.calling.CallingLeg as explained
use Rattle.fax_explain.specs.declared.stage.FoundPage.{FoundPage}
use Rattle.fax_explain.specs.Places.{Grows, HasPicture, Keeps, confirmed_place, found_at, page_if, page_of}

-- a page that was found comes after those that were
pub keeps_grows : (found : Option FoundPage) (old new : List FoundPage) → Keeps found old new → Grows old new
keeps_grows None old new is = ([], is ∙ sym (append-nil old))
keeps_grows (Some f) old new is = (f ∷ [], is)

-- a page that is confirmed is told as kept
kept_some : (leg : Option CallingLeg) (now : ℕ) (c : ConfirmedPage) → confirmed_at leg now ≡ Some c → (k : Kept) × (kept_at leg now ≡ Some k)
kept_some None now c is = absurd (cc)
kept_some (Some l) now c is =
    (record { call = l.number; format = c.page.format; rows = length c.page.rows; closes = c.closes }, ap (kept_if l.number) is)

-- it is the newest of the gateway, and has its picture
pub picture_found : (setup : Setup) (writes : Writing) (trace : List Event) (moment : ℕ) (given : Given) (gateway : GatewayValue) (confirmed : ConfirmedPage) (kept : Option Kept)
    (leg : explained.CallingLeg) (old mid new : List FoundPage) → ConfirmsTheNewest → IsReachedBy setup writes (Tick moment given ∷ trace) gateway
    → confirmed_at (calling_leg setup trace) (max moment (clock trace)) ≡ Some confirmed → kept ≡ kept_at (calling_leg setup trace) (max moment (clock trace))
    → Keeps (page_of kept (page_if kept gateway.book) leg) old mid → Grows mid new → HasPicture confirmed.page old new
picture_found setup writes trace moment given gateway confirmed kept leg old mid new law reached is kept_is keeps grows =
    let k = kept_some (calling_leg setup trace) (max moment (clock trace)) confirmed is in
    let newest : newest_page gateway.book ≡ Some confirmed.page = ap newest_page reached.book ∙ law setup writes moment given trace confirmed reached.is_trace is in
    let place = confirmed_place k.0 leg in
    let own : Keeps (found_at place (newest_page gateway.book)) old mid =
    subst (λ (o : Option Kept). Keeps (page_of o (page_if o gateway.book) leg) old mid) (kept_is ∙ k.1) keeps in
    let found : mid ≡ old ++ record { place = place; page = confirmed.page } ∷ [] = subst (λ (p : Option PageValue). Keeps (found_at place p) old mid) newest own in
    (place, grows.0, refl, grows.1 ∙ ap (λ (l : List FoundPage). l ++ grows.0) found ∙ append_assoc old (record { place = place; page = confirmed.page } ∷ []) grows.0)
