-- The answering table: what is decided at a piece, a row a line. (ITU-T T.30, figure 5-2, phases B to D of a called
-- terminal; narrower where marked (own): this project's profile.)
use Rattle.std.specs.Prelude.{ℕ, zero, suc, ◌/◌, nat_le, nat_eq, max, Bool, true, false, not, ◌&&◌, List, [], ◌∷◌, Option, Some, None, if◌then◌else◌}
use Rattle.fax_frames.specs.declared.dcs.Dcs.{Dcs}
use Rattle.fax_frames.specs.Rates.{bits_a_second}
use Rattle.fax_pagestore.specs.Pages.{PageValue}
use Rattle.fax_ifp.specs.Pieces as pieces
use Rattle.fax_answer.specs.declared.command.Command.{Command}
use Rattle.fax_answer.specs.declared.command.Command.TheVariants.{Eom, Mps, Eop}
use Rattle.fax_answer.specs.declared.command.Order.{Order}
use Rattle.fax_answer.specs.declared.command.Order.TheVariants as orders
use Rattle.fax_answer.specs.declared.state.State.{State}
use Rattle.fax_answer.specs.declared.state.State.TheVariants.{Idle, Listen, Train, Page, Again, Closing}
use Rattle.fax_answer.specs.Orders.{order_of}
use Rattle.fax_answer.specs.History.{Decision, PassesOver, Trains, HangsUp, GivesCfr, GivesFtt, GivesMcf, GivesRtn, Entry, since_answer, images, gap, octets_since, last_image, last_whole, repeated, missing_in_training}

-- the zero octets at the front, and the most of them in a row
abbrev pub zeros : List ℕ → ℕ
zeros [] = 0
zeros (zero ∷ octets) = suc (zeros octets)
zeros (suc o ∷ octets) = 0

abbrev pub longest_zeros : List ℕ → ℕ
longest_zeros [] = 0
longest_zeros (o ∷ octets) = max (zeros (o ∷ octets)) (longest_zeros octets)

-- at least n zero octets in a row
abbrev pub has_zero_run : ℕ → List ℕ → Bool
has_zero_run n octets = nat_le n (longest_zeros octets)

-- The table asks of one image what it means. A reading is the answer: a page, or that there is none. It comes with the
-- piece that asks; which readings are right is said in Confirmation.
abbrev pub Reading : Type 0
Reading = Option PageValue

pub record Question : Type 0 where
  pub octets : List ℕ
  pub dcs : Dcs

-- TRAIN, an image ends. A training check is good where it is whole, nothing is missing since the DCS, and a second of zeros
-- stands in a row, which is rate / 8 octets (own; T.30 sends 1.5 seconds of them): CFR, else FTT.
abbrev pub on_check : Dcs → Bool → List Entry → Decision
on_check dcs whole before = if whole && (not (missing_in_training before)
    && has_zero_run (bits_a_second dcs.rate / 8) (octets_since before))
    then GivesCfr dcs else GivesFtt

-- PAGE, a command comes after one image since the last CFR or MCF, which is whole, with neither a missing slot nor a
-- signal after it: MCF where it means a page, else RTN.
abbrev pub judged : Command → Reading → Decision
judged command (Some page) = GivesMcf command (Some page)
judged command None = GivesRtn

abbrev pub is_one_image : List Entry → Bool
is_one_image since = nat_eq (images since) 1 && (last_whole since && not (gap since))

-- PAGE, the command that was answered by MCF comes again, and no image, missing slot or signal since: MCF. An EOM that was
-- answered so is no such command here: Again is entered with it.
abbrev pub same_command : Option Command → Command → Bool
same_command (Some Mps) Mps = true
same_command (Some Eop) Eop = true
same_command c d = false

abbrev pub is_repeat : List Entry → Command → Bool
is_repeat before command = nat_eq (images (since_answer before)) 0
    && (not (gap (since_answer before)) && same_command (repeated before) command)

-- PAGE, any other command: RTN.
abbrev pub on_command : Reading → List Entry → Command → Decision
on_command read before command =
    if is_one_image (since_answer before) then judged command read
    else if is_repeat before command then GivesMcf command None
    else GivesRtn

-- AGAIN, an EOM, and no image, missing slot or signal since the last MCF: MCF. Any other command: RTN. An image that comes
-- here is counted and not read.
abbrev pub is_quiet : List Entry → Bool
is_quiet since = nat_eq (images since) 0 && not (gap since)

abbrev pub on_command_again : List Entry → Command → Decision
on_command_again before Eom = if is_quiet (since_answer before) then GivesMcf Eom None else GivesRtn
on_command_again before Mps = GivesRtn
on_command_again before Eop = GivesRtn

-- A frame, in each state.
abbrev pub on_order : Reading → State → List Entry → Order → Decision
on_order read Idle before order = PassesOver
on_order read Closing before order = PassesOver
on_order read state before (orders.Train dcs) = Trains dcs
on_order read state before orders.Disconnect = HangsUp
on_order read (Page dcs) before (orders.Judge command) = on_command read before command
on_order read Again before (orders.Judge command) = on_command_again before command
on_order read state before order = PassesOver

-- A piece, in each state. Frames are passed over while packets wait (own).
abbrev pub decision : Reading → State → (waits : Bool) → List Entry → pieces.Piece → Decision
decision read state waits before (pieces.Frame octets) =
    if waits then PassesOver else on_order read state before (order_of octets)
decision read (Train dcs) waits before (pieces.End whole) = on_check dcs whole before
decision read state waits before piece = PassesOver

-- what is asked at a piece: a command in Page asks what the one image before it means
abbrev pub order_asks : State → List Entry → Order → Option Question
order_asks (Page dcs) before (orders.Judge command) = if is_one_image (since_answer before)
    then Some (record { octets = last_image before; dcs = dcs }) else None
order_asks state before order = None

abbrev pub asked_of : State → (waits : Bool) → List Entry → pieces.Piece → Option Question
asked_of state waits before (pieces.Frame octets) =
    if waits then None else order_asks state before (order_of octets)
asked_of state waits before piece = None

-- the state after a decision: Again after the MCF to an EOM
abbrev pub state_after_mcf : Command → State → State
state_after_mcf Eom state = Again
state_after_mcf Mps state = state
state_after_mcf Eop state = state

abbrev pub state_after : State → Decision → State
state_after state (Trains dcs) = Train dcs
state_after state HangsUp = Idle
state_after state (GivesCfr dcs) = Page dcs
state_after state GivesFtt = Listen
state_after state PassesOver = state
state_after state (GivesMcf command page) = state_after_mcf command state
state_after state GivesRtn = state
