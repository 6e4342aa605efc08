-- What a frame asks of the answerer (ITU-T T.30, 5.3.6.1). That every other frame asks nothing is this project's
-- profile.
use Rattle.std.specs.Prelude.{ℕ, List, Option, Some}
use Rattle.fax_frames.specs.declared.frame.Frame.{Frame}
use Rattle.fax_frames.specs.declared.frame.Frame.TheVariants as frames
use Rattle.fax_frames.specs.Frames.{frame_of}
use Rattle.fax_answer.specs.declared.command.Command.TheVariants.{Eom, Mps, Eop}
use Rattle.fax_answer.specs.declared.command.Order.{Order}
use Rattle.fax_answer.specs.declared.command.Order.TheVariants.{Train, Judge, Disconnect, Nothing}

abbrev pub order_by : Option Frame → Order
order_by (Some (frames.Dcs dcs)) = Train dcs
order_by (Some frames.Eom) = Judge Eom
order_by (Some frames.Mps) = Judge Mps
order_by (Some frames.Eop) = Judge Eop
order_by (Some frames.Dcn) = Disconnect
order_by other = Nothing

unfoldable pub order_of : List ℕ → Order
order_of octets = order_by (frame_of octets)
