use Rattle.std.proofs.Common.{◌+◌, ◌≤◌, List, ◌++◌, length, take}
use Rattle.smallvec.specs.SmallVec.{small_vec_len}
use Rattle.fax_ifp.specs.Elements.{Element}
use Rattle.fax_ifp.specs.Pieces.{Piece}
use Rattle.fax_ifp.specs.Inside.Hearing.{HasGiven, images_in}
use Rattle.fax_ifp.specs.Shown.{pieces_shown}
use Rattle.fax_ifp.proofs.SignalsLemmas.{heard_of}
use Rattle.fax_ifp.proofs.signals.Signals.fields.Given as goal

-- the pieces of the fields so far are given, and there is room for one of each field left and an image's end
abbrev pub invariant-loop-field : goal.invariant-loop-field
invariant-loop-field l = record {
  room : small_vec_len l.pieces + images_in l.self.image + length l.fields ≤ l.pieces.capacity + l.field-index;
  given : (heard : List Element) (earlier : List Piece) → HasGiven heard l.fn.self earlier (pieces_shown l.fn.pieces.items)
      → HasGiven (heard_of l.kind (take l.field-index l.fields) ++ heard) l.self earlier (pieces_shown l.pieces.items);
}
