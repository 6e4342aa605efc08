-- The page that a tick confirms is the newest of the book after it, whatever else the tick does: so who keeps pages elsewhere
-- finds it there. (This project's profile.)
use Rattle.std.specs.Prelude.{◌≡◌, ℕ, max, List, ◌∷◌, Option, Some}
use Rattle.fax_jobs.specs.Newest.{newest_page}
use Rattle.fax_answer.specs.Replies.{ConfirmedPage}
use Rattle.fax_call.specs.Writings.{Writing}
use Rattle.fax_gateway.specs.Setups.{Setup}
use Rattle.fax_gateway.specs.Events.{Event, Tick, Given, clock}
use Rattle.fax_gateway.specs.CallingLegs.{calling_leg}
use Rattle.fax_gateway.specs.BothLegs.{book_of, both_legs}
use Rattle.fax_gateway.specs.Traces.{IsTrace}
use Rattle.fax_gateway.specs.Cuts.{confirmed_at}

abbrev pub ConfirmsTheNewest : Type 0
ConfirmsTheNewest = (setup : Setup)
    (writes : Writing) (at : ℕ) (given : Given) (earlier : List Event) (confirmed : ConfirmedPage)
    → IsTrace setup writes (Tick at given ∷ earlier)
    → confirmed_at (calling_leg setup earlier) (max at (clock earlier)) ≡ Some confirmed
    → newest_page (book_of (both_legs setup writes (Tick at given ∷ earlier))) ≡ Some confirmed.page
