-- The history of a call, and what is read off it. A history has the newest first, and `before` is what came before.
use Rattle.std.specs.Prelude.{ℕ, ◌+◌, Bool, true, false, List, [], ◌∷◌, ◌++◌, Option, Some, None, if◌then◌else◌}
use Rattle.fax_frames.specs.declared.dcs.Dcs.{Dcs}
use Rattle.fax_pagestore.specs.Pages.{PageValue}
use Rattle.fax_ifp.specs.Pieces as pieces
use Rattle.fax_answer.specs.declared.command.Command.{Command}
use Rattle.fax_answer.specs.declared.command.Order.{Order}
use Rattle.fax_answer.specs.declared.command.Order.TheVariants as orders
use Rattle.fax_answer.specs.Orders.{order_of}

-- what the answerer decides at a piece: by the names of the frames that it answers with (ITU-T T.30, 5.3.6.1)
pub data Decision : Type 0 where
  PassesOver : Decision
  Trains : (dcs : Dcs) → Decision
  HangsUp : Decision
  GivesCfr : (dcs : Dcs) → Decision  -- confirms the training with this DCS
  GivesFtt : Decision
  GivesMcf : (command : Command) → (page : Option PageValue) → Decision  -- confirms a new page, or answers a repeated command
  GivesRtn : Decision

-- a piece of the call, and what was decided at it
pub record Entry : Type 0 where
  pub piece : pieces.Piece
  pub decision : Decision

abbrev pub is_answer : Decision → Bool
is_answer (GivesCfr dcs) = true
is_answer (GivesMcf command page) = true
is_answer decision = false

-- the entries since the last CFR or MCF was decided
abbrev pub since_answer : List Entry → List Entry
since_answer [] = []
since_answer (e ∷ before) = if is_answer e.decision then [] else e ∷ since_answer before

-- how many images ended
abbrev pub one_if_end : pieces.Piece → ℕ
one_if_end (pieces.End whole) = 1
one_if_end piece = 0

abbrev pub images : List Entry → ℕ
images [] = 0
images (e ∷ before) = one_if_end e.piece + images before

-- whether a slot was missing or a signal began since the last image's end
abbrev pub gap_with : pieces.Piece → Bool → Bool
gap_with pieces.Gap before = true
gap_with (pieces.Start kind) before = true
gap_with (pieces.End whole) before = false
gap_with (pieces.Frame octets) before = before
gap_with (pieces.Octets octets) before = before

abbrev pub gap : List Entry → Bool
gap [] = false
gap (e ∷ before) = gap_with e.piece (gap before)

-- the octets of the image that is open: those since the last signal began, none after its end
abbrev pub octets_with : pieces.Piece → List ℕ → List ℕ
octets_with (pieces.Octets octets) before = before ++ octets
octets_with (pieces.Start kind) before = []
octets_with (pieces.End whole) before = []
octets_with (pieces.Frame octets) before = before
octets_with pieces.Gap before = before

abbrev pub octets_since : List Entry → List ℕ
octets_since [] = []
octets_since (e ∷ before) = octets_with e.piece (octets_since before)

-- the octets of the last image that ended, and whether it is whole
abbrev pub image_with : pieces.Piece → List ℕ → List ℕ → List ℕ
image_with (pieces.End whole) octets before = octets
image_with piece octets before = before

abbrev pub last_image : List Entry → List ℕ
last_image [] = []
last_image (e ∷ before) = image_with e.piece (octets_since before) (last_image before)

abbrev pub whole_with : pieces.Piece → Bool → Bool
whole_with (pieces.End whole) before = whole
whole_with piece before = before

abbrev pub last_whole : List Entry → Bool
last_whole [] = false
last_whole (e ∷ before) = whole_with e.piece (last_whole before)

-- the command that the last MCF answered, where no CFR was decided since
abbrev pub repeat_with : Decision → Option Command → Option Command
repeat_with (GivesMcf command page) before = Some command
repeat_with (GivesCfr dcs) before = None
repeat_with decision before = before

abbrev pub repeated : List Entry → Option Command
repeated [] = None
repeated (e ∷ before) = repeat_with e.decision (repeated before)

-- whether a slot was missing since the last DCS that trained
abbrev pub missing_with : Decision → pieces.Piece → Bool → Bool
missing_with (Trains dcs) piece before = false
missing_with decision pieces.Gap before = true
missing_with decision piece before = before

abbrev pub missing_in_training : List Entry → Bool
missing_in_training [] = false
missing_in_training (e ∷ before) = missing_with e.decision e.piece (missing_in_training before)

-- the DCS that a piece says, read off the octets of its frame
abbrev pub dcs_asked : Order → Option Dcs
dcs_asked (orders.Train dcs) = Some dcs
dcs_asked order = None

abbrev pub dcs_said : pieces.Piece → Option Dcs
dcs_said (pieces.Frame octets) = dcs_asked (order_of octets)
dcs_said piece = None

-- the DCS of the last frame that trained
abbrev pub trained_with : Decision → Option Dcs → Option Dcs → Option Dcs
trained_with (Trains dcs) said before = said
trained_with decision said before = before

abbrev pub trained_dcs : List Entry → Option Dcs
trained_dcs [] = None
trained_dcs (e ∷ before) = trained_with e.decision (dcs_said e.piece) (trained_dcs before)

-- the DCS that the last CFR answered: that of the last frame that trained before it
abbrev pub dcs_with : Decision → Option Dcs → Option Dcs → Option Dcs
dcs_with (GivesCfr dcs) trained before = trained
dcs_with decision trained before = before

abbrev pub answered_dcs : List Entry → Option Dcs
answered_dcs [] = None
answered_dcs (e ∷ before) = dcs_with e.decision (trained_dcs before) (answered_dcs before)
