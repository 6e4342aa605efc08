use Rattle.std.proofs.Common.{◌≡◌, List, ◌++◌, reverse, take}
use Rattle.fax_ifp.specs.Pieces.{Piece}
use Rattle.fax_ifp.specs.Shown.{pieces_shown}
use Rattle.fax_explain.specs.Heard.{Hears, IsEar}
use Rattle.fax_explain.specs.Listening.{Ear, later_marks, marks_left}
use Rattle.fax_explain.specs.Openings.{octets_counted, pieces_openings}
use Rattle.fax_explain.proofs.listener.Listener.hear_pieces.Given as goal

-- the pieces so far were told
abbrev pub invariant-loop-piece : goal.invariant-loop-piece
invariant-loop-piece l = record {
  told : (ear : Ear) → IsEar ear l.fn.self → (before : List Piece) → l.fn.self.image.octets ≡ octets_counted before
      → Hears ear (pieces_openings ear (marks_left l.fn.self) before (pieces_shown (take l.piece-index l.pieces))) l.fn.self l.self l.fn.tale l.tale;
  counted : (before : List Piece) → l.fn.self.image.octets ≡ octets_counted before → l.self.image.octets ≡ octets_counted (reverse (pieces_shown (take l.piece-index l.pieces)) ++ before);
  marks : marks_left l.self ≡ later_marks (pieces_shown (take l.piece-index l.pieces)) (marks_left l.fn.self);
  signals : l.self.signals ≡ l.fn.self.signals;
}
