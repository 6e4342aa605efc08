-- Control words, each a line (this project's profile).
use Rattle.std.specs.Prelude.{◌≡◌, ◌≢◌, ℕ, ◌<◌, ◌≤◌, ◌^◌, Bool, true, false, List, ◌∷◌, ◌++◌, length, slice_index, codes, decimal, Option, None, Some, option_map, IfSome}
use Rattle.std.specs.Str.{IsUtf8}
use Rattle.std.specs.Net.Grammar.{IsSocketText}
use Rattle.std.specs.declared.net.socket_addr.SocketAddr.{SocketAddr}
use Rattle.fax_control.specs.declared.word.Bounds.{Bounds}
use Rattle.fax_gateway.specs.declared.leg.Leg.{Leg}
use Rattle.fax_gateway.specs.LegNames.{leg_text}
use Rattle.fax_gateway.specs.declared.leg.Leg.TheVariants.{Calling, Called}
use Rattle.fax_control.specs.declared.word.Word.{Word}
use Rattle.fax_control.specs.declared.word.Word.TheVariants as word

-- What a word orders: the same, apart from where its texts lie.
pub data Order : Type 0 where
  Ring : Option (List ℕ) → Option (List ℕ) → Bounds → Order
  Peer : List ℕ → Leg → Option SocketAddr → Bounds → Bool → Order
  HangUp : List ℕ → Leg → Order
  Refuse : List ℕ → List ℕ → Order
  Report : List ℕ → Order
  Undelivered : Option (List ℕ) → Order
  Discard : (line : List ℕ) → (life call : ℕ) → Order
  Retry : (line : List ℕ) → (life call : ℕ) → Order
  Status : Order
  Metrics : Order
  Events : Order
  Frames : List ℕ → Order
  Reload : Order
  Stop : Order

abbrev pub order_of : Word → Order
order_of (word.Ring ring) = Ring (option_map
    (λ text. text.now) ring.line) (option_map (λ text. text.now) ring.tag) ring.bounds
order_of (word.Peer peer) = Peer peer.line.now peer.leg peer.address peer.bounds peer.is_moved
order_of (word.HangUp line leg) = HangUp line.now leg
order_of (word.Refuse line cause) = Refuse line.now cause.now
order_of (word.Report line) = Report line.now
order_of (word.Undelivered line) = Undelivered (option_map (λ text. text.now) line)
order_of (word.Discard said) = Discard said.line.now said.life said.call
order_of (word.Retry said) = Retry said.line.now said.life said.call
order_of word.Status = Status
order_of word.Metrics = Metrics
order_of word.Events = Events
order_of (word.Frames line) = Frames line.now
order_of word.Reload = Reload
order_of word.Stop = Stop

-- no octet of the text is a space
abbrev pub HasNoSpace : List ℕ → Type 0
HasNoSpace text = (k : ℕ) → k < length text → slice_index text k ≢ 32

-- the text can be the name of a line: it is not empty and has no space
abbrev pub IsName : List ℕ → Type 0
IsName text = (0 < length text) × HasNoSpace text

-- the text can be a tag: it is not empty, has at most 64 octets, and no space
abbrev pub IsTag : List ℕ → Type 0
IsTag text = (0 < length text) × (length text ≤ 64) × HasNoSpace text

-- the text can be the cause for which a call could not be placed: any that can be a tag
abbrev pub IsCause : List ℕ → Type 0
IsCause text = IsTag text

-- a word, one space, and what follows it
abbrev pub spaced : List ℕ → List ℕ → List ℕ
spaced first rest = first ++ 32 ∷ rest

-- a word, and what follows it after a space, if anything does
abbrev pub led : List ℕ → Option (List ℕ) → List ℕ
led first None = first
led first (Some rest) = spaced first rest

-- what follows, after a word where there is one
abbrev pub word_led : Option (List ℕ) → Option (List ℕ) → Option (List ℕ)
word_led None rest = rest
word_led (Some first) rest = Some (led first rest)

-- what follows, after an option with its value where it has one
abbrev pub option_led : List ℕ → Option ℕ → Option (List ℕ) → Option (List ℕ)
option_led name None rest = rest
option_led name (Some value) rest = Some (led (name ++ decimal value) rest)

-- what follows, after what is said of bounds
abbrev pub bounds_led : Bounds → Option (List ℕ) → Option (List ℕ)
bounds_led bounds rest = option_led
    (codes "redundancy=") bounds.redundancy (option_led (codes "octets=") bounds.octets rest)

-- that a peer has moved is the last word of all
abbrev pub moved_text : Bool → Option (List ℕ)
moved_text true = Some (codes "moved")
moved_text false = None

-- a value, where there is one, lies between these
abbrev pub IsWithin : ℕ → ℕ → Option ℕ → Type 0
IsWithin least most value = IfSome value (λ n. (least ≤ n) × (n ≤ most))

abbrev pub IsInRange : Bounds → Type 0
IsInRange bounds = IsWithin 0 8 bounds.redundancy × IsWithin 32 65535 bounds.octets

-- the text begins with these octets
abbrev pub BeginsWith : List ℕ → List ℕ → Type 0
BeginsWith front text = (rest : List ℕ) × (text ≡ front ++ rest)

-- the text can be the tag of a ring: it begins as no option does
abbrev pub IsRingTag : List ℕ → Type 0
IsRingTag text =
    IsTag text × ¬ (BeginsWith (codes "redundancy=") text) × ¬ (BeginsWith (codes "octets=") text)

-- what says which line is rung: its name, or `any`, which is the name of none
abbrev pub rung_text : Option (List ℕ) → List ℕ
rung_text None = codes "any"
rung_text (Some line) = line

abbrev pub IsRungLine : Option (List ℕ) → Type 0
IsRungLine line = IfSome line (λ name. IsName name × (name ≢ codes "any"))

-- the text says the peer of a leg: an address, or, of the calling leg alone, that it is any
abbrev pub IsPeerText : Leg → List ℕ → Option SocketAddr → Type 0
IsPeerText leg text (Some address) = HasNoSpace text × IsSocketText text address
IsPeerText Calling text None = text ≡ codes "any"
IsPeerText Called text None = ⊥

-- the number of a life, or of a call in it, has 32 bits
abbrev pub IsCallNumber : ℕ → Type 0
IsCallNumber n = n < 2 ^ 32

-- which call of a line: its name, the number of the life that the call came in, and the number of the call there
abbrev pub call_text : (line : List ℕ) → (life call : ℕ) → List ℕ
call_text line life call = spaced line (spaced (decimal life) (decimal call))

-- events, with what happens in the calls of a line
abbrev pub frames_text : (line : List ℕ) → List ℕ
frames_text line = spaced (codes "events") (spaced (codes "frames") line)

-- the text spells the order
abbrev pub Spells : List ℕ → Order → Type 0
Spells text (Ring line tag bounds) =
    (text ≡ spaced (codes "ring") (led (rung_text line) (word_led tag (bounds_led bounds None))))
    × IsRungLine line × IfSome tag IsRingTag × IsInRange bounds
Spells text (Peer line leg address bounds is_moved) =
    (peer_text : List ℕ) × (text ≡ spaced (codes "peer")
    (spaced line (spaced (leg_text leg) (led peer_text (bounds_led bounds (moved_text is_moved))))))
    × IsName line × IsPeerText leg peer_text address × IsInRange bounds
Spells text (HangUp line leg) =
    (text ≡ spaced (codes "hangup") (spaced line (leg_text leg))) × IsName line
Spells text (Refuse line cause) =
    (text ≡ spaced (codes "refuse") (spaced line cause)) × IsName line × IsCause cause
Spells text (Report line) = (text ≡ spaced (codes "report") line) × IsName line
Spells text (Undelivered line) = (text ≡ led (codes "undelivered") line) × IfSome line IsName
Spells text (Discard line life call) = (text ≡ spaced (codes "discard") (call_text line life call))
    × IsName line × IsCallNumber life × IsCallNumber call
Spells text (Retry line life call) = (text ≡ spaced (codes "retry") (call_text line life call))
    × IsName line × IsCallNumber life × IsCallNumber call
Spells text Status = text ≡ codes "status"
Spells text Metrics = text ≡ codes "metrics"
Spells text Events = text ≡ codes "events"
Spells text (Frames line) = (text ≡ frames_text line) × IsName line
Spells text Reload = text ≡ codes "reload"
Spells text Stop = text ≡ codes "stop"

-- The octets of a line say an order: they are at most 256, they are UTF-8, and they spell it.
pub record Says (octets : List ℕ) (order : Order) : Type 0 where
  pub fits : length octets ≤ 256
  pub is_text : IsUtf8 octets
  pub spelled : Spells octets order
