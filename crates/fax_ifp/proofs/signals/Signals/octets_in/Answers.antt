use Rattle.std.proofs.Common.{◌≡◌, ℕ, true, false, List, [], ◌∷◌, Option, Some, None, Ok, Bor, IfSome, OnSome, sym, ◌∙◌, ap}
use Rattle.fax_ifp.specs.Packets.{Message, packet_of}
use Rattle.fax_ifp.specs.WrittenPackets.{image_fields}
use Rattle.fax_ifp.specs.Pieces.{Image, Octets, has_octet}
use Rattle.fax_ifp.specs.Shown.{image_shown}
use Rattle.fax_ifp.specs.Tracked.{TrackState, Tracks, Gives, with_octets}
use Rattle.fax_ifp.proofs.OctetsLemmas.{slot_tracks, slot_gives}
use Rattle.fax_ifp.proofs.signals.Signals.octets_in.Goals as goal
use Rattle.fax_ifp.proofs.signals.Signals.octets_in.Goals.{After-image_octets}

-- the image that is open
shown : After-image_octets → Image
shown c = record { kind = c.in_ok-image.image.kind; started = c.in_ok-image.image.started; whole = c.in_ok-image.image.whole }

is_open : (c : After-image_octets) → c.args.self.now.image ≡ Some (shown c)
unfolding shown
is_open c = ap (λ (t : TrackState). t.image) (sym c.self.view_is) ∙ ap image_shown c.in_ok-image.was

abbrev IsSaid : List ℕ → ℕ → Option (Bor (List ℕ)) → Type 0
IsSaid packet kind octets = IfSome octets (λ own. packet_of packet ≡ Ok (Message kind (image_fields false own.now)))

abbrev AreThere : Option (Bor (List ℕ)) → Type 0
AreThere octets = IfSome octets (λ own. has_octet own.now ≡ true)

tracks : (packet : List ℕ) (old : TrackState) (image : Image) (octets : Option (Bor (List ℕ))) → old.image ≡ Some image → IsSaid packet image.kind octets → AreThere octets → OnSome octets (Tracks (Some packet) old (with_octets old))
tracks packet old image None i e o = tt
tracks packet old image (Some own) i e o = slot_tracks packet own.now old image i o e

gives : (packet : List ℕ) (old : TrackState) (image : Image) (octets : Option (Bor (List ℕ))) → old.image ≡ Some image → IsSaid packet image.kind octets → AreThere octets → IfSome octets (λ own. Gives (Some packet) old (Octets own.now ∷ []))
gives packet old image None i e o = tt
gives packet old image (Some own) i e o = slot_gives packet own.now old image i o e

pub returns-clause-tracked : goal.returns-clause-tracked
unfolding shown
returns-clause-tracked c = tracks c.args.packet.now c.args.self.now (shown c) c.image_octets.result (is_open c) c.image_octets.ensures.octets c.image_octets.ensures.some

pub returns-clause-pieces : goal.returns-clause-pieces
unfolding shown
returns-clause-pieces c = gives c.args.packet.now c.args.self.now (shown c) c.image_octets.result (is_open c) c.image_octets.ensures.octets c.image_octets.ensures.some
