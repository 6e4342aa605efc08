-- Clients as they are seen, and what a call does with them (this project's profile).
use Rattle.std.specs.Prelude.{◌≡◌, ℕ, zero, suc, ◌+◌, ◌<◌, min, nat_eq, codes, decimal, Bool, true, false, not, ◌&&◌, List, [], ◌∷◌, ◌++◌, drop, flat_map, length, map, ◌⊎◌, Option, None, Some, is_some, unwrap_or, MatchOption}
use Rattle.std.specs.List.{AllZip, items_where_true, list_any}
use Rattle.fax_control.specs.ClientStreams.{EndsALine, HasNoLineFeed, fitting, octets_of_heard}
use Rattle.fax_control.specs.declared.hearing.HeardLine.{HeardLine}
use Rattle.fax_control.specs.events.Queues.{Line, Lost, QueuedLine, after_line, greatest_count, lines_in}

-- What comes of a client: whether more may come, the octets that were read and not heard yet, and the beginning of its
-- next line, none where that is too long.
pub record ClientInput : Type 0 where
  pub more : Bool
  pub unheard : List ℕ
  pub begun : Option (List ℕ)

-- What a client is told: the octets that are still to be written of the text that it is told now, its events as they wait
-- after it, none where it wants none, and how many lines of events it lost that were not counted yet.
pub record ClientOutput : Type 0 where
  pub due : List ℕ
  pub events : Option (List QueuedLine)
  pub lost : ℕ

-- A client: what comes of it, what it is told, and the number of the line that it watches, where it watches one.
pub record ClientValue : Type 0 where
  pub said : ClientInput
  pub told : ClientOutput
  pub watches : Option ℕ

-- All clients: whether they come by a control socket, what is still to be recorded of events, where they are, each client, and
-- how many lines of events were lost, as far as they were counted.
pub record ClientsValue : Type 0 where
  pub has_socket : Bool
  pub journal : Option ClientOutput
  pub clients : List ClientValue
  pub lost : ℕ

-- ---- at the beginning

abbrev pub nothing_said : ClientInput
nothing_said = record { more = true; unheard = []; begun = Some [] }

abbrev pub nothing_told : ClientOutput
nothing_told = record { due = []; events = None; lost = 0 }

-- a client that said nothing, wants no events, and watches no line
abbrev pub silent : ClientValue
silent = record { said = nothing_said; told = nothing_told; watches = None }

-- a client that wants events: those that waited already go on waiting
abbrev pub wanting : ClientValue → ClientValue
wanting client = record client {
  told = record {
    due = client.told.due;
    events = Some (unwrap_or client.told.events []);
    lost = client.told.lost;
  };
}

-- a client that watches this line, and no other
abbrev pub watching : (line : ℕ) → ClientValue → ClientValue
watching line client = record client { watches = Some line }

-- standard input and output: one client, which wants events
abbrev pub standard_alone : ClientsValue
standard_alone =
    record { has_socket = false; journal = None; clients = wanting silent ∷ []; lost = 0 }

-- a record of events in which nothing is
abbrev pub new_journal : ClientOutput
new_journal = record { due = []; events = Some []; lost = 0 }

-- a control socket, and no client; events are recorded or not
abbrev pub socket_alone : Bool → ClientsValue
socket_alone true = record { has_socket = true; journal = Some new_journal; clients = []; lost = 0 }
socket_alone false = record { has_socket = true; journal = None; clients = []; lost = 0 }

-- ---- questions

-- more may come of one of the clients
abbrev pub one_says_more : List ClientValue → Bool
one_says_more clients = list_any (λ client. client.said.more) clients

-- no word can come any more
abbrev pub all_said : ClientsValue → Bool
all_said clients = not clients.has_socket && not (one_says_more clients.clients)

-- one of the clients wants events
abbrev pub one_wants_events : List ClientValue → Bool
one_wants_events clients = list_any (λ client. is_some client.told.events) clients

-- it is this line that is watched
abbrev pub is_line : (line : ℕ) → (watched : Option ℕ) → Bool
is_line line None = false
is_line line (Some watched) = nat_eq watched line

-- one of the clients watches this line
abbrev pub one_watches : (line : ℕ) → List ClientValue → Bool
one_watches line clients = list_any (λ client. is_line line client.watches) clients

-- ---- one client

-- the client at a place is changed, and no other one; with none at that place, none is
abbrev pub changed_at : (ClientValue → ClientValue) → ℕ → List ClientValue → List ClientValue
changed_at change place [] = []
changed_at change zero (client ∷ others) = change client ∷ others
changed_at change (suc place) (client ∷ others) = client ∷ changed_at change place others

abbrev pub with_client : (ClientValue → ClientValue) → ℕ → ClientsValue → ClientsValue
with_client change place clients =
    record {
      has_socket = clients.has_socket;
      journal = clients.journal;
      clients = changed_at change place clients.clients;
      lost = clients.lost;
    }

-- the text is what a client is told now, from its beginning
abbrev pub answered : List ℕ → ClientValue → ClientValue
answered text client = record client {
  told = record { due = text; events = client.told.events; lost = client.told.lost };
}

-- ---- what is heard

-- All that was read was heard, and no line ends in it: it goes on the beginning of the next line.
pub record IsKept (old new : ClientInput) : Type 0 where
  pub more : new.more ≡ old.more
  pub all : new.unheard ≡ []
  pub no_end : HasNoLineFeed old.unheard
  pub begun : (part : List ℕ) → old.begun ≡ fitting part → new.begun ≡ fitting (part ++ old.unheard)

-- A line ends in what was read: it was heard, and what is after it was not.
pub record IsHeard (heard : HeardLine) (old new : ClientInput) : Type 0 where
  pub more : new.more ≡ old.more
  pub line : (end : List ℕ) × EndsALine old.unheard end new.unheard
      × ((part : List ℕ) → old.begun ≡ fitting part → octets_of_heard heard ≡ fitting (part ++ end))
  pub begun : new.begun ≡ Some []

-- Nothing is heard of a client: it is still to be told something, or no line ends in what was read of it.
pub record HearsNoLine (old new : ClientValue) : Type 0 where
  pub told : new.told ≡ old.told
  pub watches : new.watches ≡ old.watches
  pub waits : 0 < length old.told.due → new.said ≡ old.said
  pub kept : old.told.due ≡ [] → IsKept old.said new.said

-- A line is heard of a client, to which nothing is still to be written.
pub record HearsLine (heard : HeardLine) (old new : ClientValue) : Type 0 where
  pub told : new.told ≡ old.told
  pub watches : new.watches ≡ old.watches
  pub due : old.told.due ≡ []
  pub said : IsHeard heard old.said new.said

-- The client at a place is the first of which a line is heard, and no one after it was asked.
abbrev pub Hears : ℕ → HeardLine → List ClientValue → List ClientValue → Type 0
Hears zero heard (one ∷ others) (new_one ∷ new_others) =
    HearsLine heard one new_one × (new_others ≡ others)
Hears (suc place) heard (one ∷ others) (new_one ∷ new_others) =
    HearsNoLine one new_one × Hears place heard others new_others
Hears place heard _ _ = ⊥

-- ---- what is read and written

-- What came of a client stays until it was heard, and no line is begun anew; where it says no more, nothing comes.
pub record ComesOn (old new : ClientInput) : Type 0 where
  pub begun : new.begun ≡ old.begun
  pub waits : 0 < length old.unheard → new ≡ old
  pub ended : old.more ≡ false → new ≡ old

-- so many octets of the text were written
pub record IsWritten (old new : ClientOutput) : Type 0 where
  pub count : ℕ
  pub due : new ≡ record { due = drop count old.due; events = old.events; lost = old.lost }

-- the octets of what the reader of events is told: a line, or that so many were lost
abbrev pub telling_text : QueuedLine → List ℕ
telling_text (Line octets) = octets
telling_text (Lost count) = codes "{\"event\":\"lost\",\"lines\":" ++ (decimal count ++ codes "}\n")

-- how many lines these tell that were lost
abbrev pub lost_in : List QueuedLine → ℕ
lost_in [] = 0
lost_in (Line octets ∷ tellings) = lost_in tellings
lost_in (Lost count ∷ tellings) = count + lost_in tellings

-- Of the events that wait the next is what is told now: a line, and before it how many were lost there. Without memory
-- the line is lost.
pub record TakesNext (old new : ClientOutput) : Type 0 where
  pub idle : old.due ≡ []
  pub next : List QueuedLine
  pub waiting : List QueuedLine
  pub events : old.events ≡ Some (next ++ waiting)
  pub some : 0 < length next
  pub taken : let lost = min (old.lost + lost_in next) greatest_count
      in (new ≡ record { due = flat_map telling_text next; events = Some waiting; lost = lost })
      ⊎ (new ≡ record {
        due = [];
        events = Some waiting;
        lost = min (lost + lines_in next) greatest_count;
      })

-- It is so where nothing is still to be written, and an event waits; else nothing changes.
abbrev pub GoesOn : ClientOutput → ClientOutput → Type 0
GoesOn old new =
    TakesNext old new ⊎ (((0 < length old.due) ⊎ (unwrap_or old.events [] ≡ [])) × (new ≡ old))

pub record IsAsked (old new : ClientValue) : Type 0 where
  pub said : new.said ≡ old.said
  pub watches : new.watches ≡ old.watches
  pub told : GoesOn old.told new.told

pub record IsServed (old new : ClientValue) : Type 0 where
  pub said : ComesOn old.said new.said
  pub watches : new.watches ≡ old.watches
  pub told : IsWritten old.told new.told

-- Each was asked, and then served.
pub record AreServed (old new : List ClientValue) : Type 0 where
  pub asked : List ClientValue
  pub ask : AllZip IsAsked old asked
  pub serve : AllZip IsServed asked new

-- the lines that it lost were counted
abbrev pub counted : ClientValue → ClientValue
counted client =
    record client { told = record { due = client.told.due; events = client.told.events; lost = 0 } }

abbrev pub IsCounted : ClientValue → ClientValue → Type 0
IsCounted old new = new ≡ counted old

-- While it is waited for, more may come of a client, its events go on, and some octets are written. It watches what it watched.
pub record IsWaitedFor (old new : ClientValue) : Type 0 where
  pub said : ComesOn old.said new.said
  pub watches : new.watches ≡ old.watches
  pub asked : ClientOutput
  pub events : GoesOn old.told asked
  pub count : ℕ
  pub told : new.told ≡ record { due = drop count asked.due; events = asked.events; lost = 0 }

-- The lines that each lost were counted, and some of them stay.
pub record AreLeft (old new : List ClientValue) : Type 0 where
  pub stays : List Bool
  pub left : new ≡ items_where_true stays (map counted old)

-- Each was waited for; some of them stay, and one more may have come in.
pub record AreWaitedFor (old new : List ClientValue) : Type 0 where
  pub each : List ClientValue
  pub waited : AllZip IsWaitedFor old each
  pub stays : List Bool
  pub left : (new ≡ items_where_true stays each)
      ⊎ (new ≡ items_where_true stays each ++ silent ∷ [])

-- ---- what is told

-- A line of an event waits after the others of a client that wants events, or is lost for want of memory. One that wants
-- none is not told.
abbrev pub HasTold : List ℕ → ClientOutput → ClientOutput → Type 0
HasTold line old new = MatchOption old.events (new ≡ old) (λ waiting. (new ≡ record {
  due = old.due;
  events = Some (after_line waiting line);
  lost = old.lost;
}) ⊎ (new ≡ record {
  due = old.due;
  events = old.events;
  lost = min (old.lost + 1) greatest_count;
}))

pub record IsTold (line : List ℕ) (old new : ClientValue) : Type 0 where
  pub said : new.said ≡ old.said
  pub watches : new.watches ≡ old.watches
  pub told : HasTold line old.told new.told

-- a client is told an event where that holds, and else is left as it was
abbrev pub IsToldIf : Bool → (event : List ℕ) → (old new : ClientValue) → Type 0
IsToldIf true event old new = IsTold event old new
IsToldIf false event old new = new ≡ old

-- AN EVENT OF A LINE is told each client that watches that line, and no other
abbrev pub IsToldOfLine : (line : ℕ) → (event : List ℕ) → (old new : ClientValue) → Type 0
IsToldOfLine line event old new = IsToldIf (is_line line old.watches) event old new

-- ---- events that are recorded

-- one after the other, each as the next text, some octets of it are written
abbrev pub WritesTimes : ℕ → ClientOutput → ClientOutput → Type 0
WritesTimes zero old new = new ≡ old
WritesTimes (suc times) old new = (before asked : ClientOutput)
    × WritesTimes times old before × GoesOn before asked × IsWritten asked new

abbrev pub WritesOn : ClientOutput → ClientOutput → Type 0
WritesOn old new = (times : ℕ) × WritesTimes times old new

abbrev pub counted_output : ClientOutput → ClientOutput
counted_output output = record { due = output.due; events = output.events; lost = 0 }

-- What is to be recorded is written as it is taken, and what was lost is counted.
abbrev pub JournalGoesOn : Option ClientOutput → Option ClientOutput → Type 0
JournalGoesOn None new = new ≡ None
JournalGoesOn (Some old) new =
    (written : ClientOutput) × WritesOn old written × (new ≡ Some (counted_output written))

-- A line of an event is recorded after the others, or is lost for want of memory.
abbrev pub JournalTold : List ℕ → Option ClientOutput → Option ClientOutput → Type 0
JournalTold line None new = new ≡ None
JournalTold line (Some old) new = (told : ClientOutput) × (new ≡ Some told) × HasTold line old told
